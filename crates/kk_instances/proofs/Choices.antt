-- The row of a match that is taken stays the same where constructors are by other numbers. Patterns and values of one type
-- are compared alone, and the constructors of one type keep their numbers apart.
use Rattle.std.proofs.Common.{◌≡◌, ℕ, ℤ, Bool, true, false, List, [], ◌∷◌, Option, Some, None, option_map, refl, sym, ap, ◌∙◌, subst}
use Rattle.std.specs.Prelude.{if◌then◌else◌, ◌==◌}
use Rattle.std.proofs.lemmas.Bool.{eqb-true, eq-eqb, eqb-false, ne_eqb}
use Rattle.std.proofs.lemmas.Option.{slice_get-map}
use Rattle.kk_syntax.specs.Covered.{Each, asked_by}
use Rattle.kk_syntax.specs.OfType.{IsPatternOf, ArePatternsOf, field_types, values_of}
use Rattle.kk_syntax.specs.Outlines.{outline_of, outlines_of}
use Rattle.kk_syntax.specs.Patterns.{Pattern, anything, variable, exactly, constructor, Patterns, no_part, part}
use Rattle.kk_syntax.specs.Programs.{ConstructorTree}
use Rattle.kk_syntax.specs.Trees.{Rows, no_row, row, row_parts}
use Rattle.kk_syntax.specs.Types.{TypeTree, int32, unit_type}
use Rattle.kk_source.specs.Matching.{is_integer, and_then, matched, matched_all, Chosen, chosen_or, first_match}
use Rattle.kk_source.specs.State.{Value, integer, unit, constant, place, Store, Environment}
use Rattle.kk_source.specs.ValueTypes.{Content, amount, nothing, built, Contents, no_content, content, IsMadeBy, HasContent, HaveContents, IsContentOf, AreContentsOf, IsOf}
use Rattle.kk_source.proofs.Values.{fields_of_made}
use Rattle.kk_mono.specs.Instances.{Renaming, renamed, renamed_pattern, renamed_patterns, renamed_rows}
use Rattle.kk_instances.proofs.Images.{image, images, cell_image, store_image, environment_image}

-- constructors of one type keep their numbers apart
abbrev pub AreApart : List ConstructorTree → (ℕ → ℕ) → Type 0
AreApart constructors new =
    (t : TypeTree) (c d : ℕ) (us ws : List TypeTree) → field_types constructors t c ≡ Some us
    → field_types constructors t d ≡ Some ws → new d ≡ new c → d ≡ c

same_or_not : (new : ℕ → ℕ) (d c : ℕ) → (new d ≡ new c → d ≡ c) → (new d == new c) ≡ (d == c)
same_or_not new d c apart = by_test (d == c) refl
  where
    by_test : (same : Bool) → (d == c) ≡ same → (new d == new c) ≡ same
    by_test true same = eq-eqb (new d) (new c) (ap new (eqb-true d c same))
    by_test false other = ne_eqb (new d) (new c) (λ same. eqb-false d c other (apart same))

module _ (constructors : List ConstructorTree) (new : Renaming) (apart : AreApart constructors new.constructors)
    (store : Store) where
  made_image : (v : Value) (c : ℕ) (vs : List Value) → IsMadeBy store v c vs
      → IsMadeBy (store_image new store) (image new v) (new.constructors c) (images new vs)
  made_image v c [] made = ap (image new) made
  made_image v c (w ∷ ws) made =
      (made.0, ap (image new) made.1, slice_get-map (cell_image new) store made.0 ∙ ap (option_map (cell_image new)) made.2)

  is_integer_image : (n : ℤ) (v : Value) → is_integer n (image new v) ≡ is_integer n v
  is_integer_image n (integer m) = refl
  is_integer_image n unit = refl
  is_integer_image n (constant c) = refl
  is_integer_image n (place at) = refl

  number_image : (n : ℤ) (v : Value) (env : Environment)
      → matched (store_image new store) (exactly n) (image new v) (environment_image new env)
      ≡ option_map (environment_image new) (matched store (exactly n) v env)
  number_image n v env =
      ap (λ (is : Bool). if is then Some (environment_image new env) else None) (is_integer_image n v) ∙ by_test (is_integer n v)
    where
      by_test : (is : Bool) → (if is then Some (environment_image new env) else None)
          ≡ option_map (environment_image new) (if is then Some env else None)
      by_test true = refl
      by_test false = refl

  -- a constructor's pattern, where its parts match alike if the value is of that constructor
  made_matched : (c d : ℕ) (ps : Patterns) (v : Value) (vs : List Value) (env : Environment) → IsMadeBy store v d vs
      → (new.constructors d ≡ new.constructors c → d ≡ c)
      → (d ≡ c → matched_all (store_image new store) (renamed_patterns new ps) (images new vs) (environment_image new env)
      ≡ option_map (environment_image new) (matched_all store ps vs env))
      → matched (store_image new store) (constructor (new.constructors c) (renamed_patterns new ps)) (image new v)
      (environment_image new env)
      ≡ option_map (environment_image new) (matched store (constructor c ps) v env)
  made_matched c d ps v vs env made only parts =
      ap rest_image
      (fields_of_made (store_image new store) (image new v) (new.constructors d) (images new vs) (new.constructors c)
      (made_image v d vs made)
      ∙ ap (λ (same : Bool). if same then Some (images new vs) else None) (same_or_not new.constructors d c only))
      ∙ (by_test (d == c) refl
      ∙ ap (λ (found : Option (List Value)). option_map (environment_image new)
      (and_then found (λ ws. matched_all store ps ws env)))
      (sym (fields_of_made store v d vs c made)))
    where
      rest_image : Option (List Value) → Option Environment
      rest_image found =
          and_then found (λ ws. matched_all (store_image new store) (renamed_patterns new ps) ws (environment_image new env))

      by_test : (same : Bool) → (d == c) ≡ same → rest_image (if same then Some (images new vs) else None)
          ≡ option_map (environment_image new) (and_then (if same then Some vs else None) (λ ws. matched_all store ps ws env))
      by_test true same = parts (eqb-true d c same)
      by_test false other = refl

  no_fields : (t u : TypeTree) (c : ℕ) (us : List TypeTree) → t ≡ u → field_types constructors u c ≡ None
      → field_types constructors t c ≡ Some us → ⊥
  no_fields t u c us same none fields =
      let both : None ≡ Some us = sym none ∙ (ap (λ s. field_types constructors s c) (sym same) ∙ fields) in cc

  mutual
    matched_image : (p : Pattern) (t : TypeTree) (what : Content) (v : Value) (env : Environment)
        → IsPatternOf (values_of constructors) t (outline_of p) → HasContent store v what → IsContentOf constructors t what
        → matched (store_image new store) (renamed_pattern new p) (image new v) (environment_image new env)
        ≡ option_map (environment_image new) (matched store p v env)
    matched_image anything t what v env of has typed = refl
    matched_image (variable x) t what v env of has typed = refl
    matched_image (exactly n) t what v env of has typed = number_image n v env
    matched_image (constructor c ps) t (amount n) v env of has typed = absurd (no_fields t int32 c of.0 typed refl of.1)
    matched_image (constructor c ps) t nothing v env of has typed = absurd (no_fields t unit_type c of.0 typed refl of.1)
    matched_image (constructor c ps) t (built d parts) v env of has typed =
        made_matched c d ps v has.0 env has.1 (apart t c d of.0 typed.0 of.1 typed.1)
        (λ same.
        let both : Some typed.0 ≡ Some of.0 = sym typed.1 ∙ (ap (field_types constructors t) same ∙ of.1) in
        let types : typed.0 ≡ of.0 = cc in
        all_matched_image ps of.0 parts has.0 env of.2 has.2 (subst (λ us. AreContentsOf constructors us parts) types typed.2))

    all_matched_image : (ps : Patterns) (ts : List TypeTree) (parts : Contents) (vs : List Value) (env : Environment)
        → ArePatternsOf (values_of constructors) ts (outlines_of ps) → HaveContents store vs parts
        → AreContentsOf constructors ts parts
        → matched_all (store_image new store) (renamed_patterns new ps) (images new vs) (environment_image new env)
        ≡ option_map (environment_image new) (matched_all store ps vs env)
    all_matched_image no_part ts parts [] env of has typed = refl
    all_matched_image no_part ts parts (v ∷ vs) env of has typed = refl
    all_matched_image (part p ps) ts parts [] env of has typed = refl
    all_matched_image (part p ps) [] parts (v ∷ vs) env of has typed = absurd of
    all_matched_image (part p ps) (t ∷ ts) no_content (v ∷ vs) env of has typed = absurd typed
    all_matched_image (part p ps) (t ∷ ts) (content first rest) (v ∷ vs) env of has typed =
        by_first (matched store p v env) (matched_image p t first v env of.0 has.0 typed.0)
        (λ bound. all_matched_image ps ts rest vs bound of.1 has.1 typed.1)
      where
        by_first : (o : Option Environment)
            → matched (store_image new store) (renamed_pattern new p) (image new v) (environment_image new env)
            ≡ option_map (environment_image new) o
            → ((bound : Environment)
            → matched_all (store_image new store) (renamed_patterns new ps) (images new vs) (environment_image new bound)
            ≡ option_map (environment_image new) (matched_all store ps vs bound))
            → and_then (matched (store_image new store) (renamed_pattern new p) (image new v) (environment_image new env))
            (λ bound. matched_all (store_image new store) (renamed_patterns new ps) (images new vs) bound)
            ≡ option_map (environment_image new) (and_then o (λ bound. matched_all store ps vs bound))
        by_first None here later =
            ap (λ found. and_then found
            (λ bound. matched_all (store_image new store) (renamed_patterns new ps) (images new vs) bound)) here
        by_first (Some bound) here later =
            ap (λ found. and_then found
            (λ bound. matched_all (store_image new store) (renamed_patterns new ps) (images new vs) bound)) here
            ∙ later bound

  -- ---- the rows of a match

  abbrev pub choice_image : Chosen → Chosen
  choice_image chosen =
      record { body = renamed new chosen.body; environment = environment_image new chosen.environment }

  pub chosen_image : (of : Rows) (t : TypeTree) (v : Value) (env : Environment)
      → Each (IsPatternOf (values_of constructors) t) (asked_by of) → IsOf constructors store t v
      → first_match (store_image new store) (renamed_rows new of) (image new v) (environment_image new env)
      ≡ option_map choice_image (first_match store of v env)
  chosen_image no_row t v env patterns of = refl
  chosen_image (row (row_parts p body) rest) t v env patterns of =
      by_match (matched store p v env) (matched_image p t of.what v env patterns.0 of.has of.typed)
      (chosen_image rest t v env patterns.1 of)
    where
      by_match : (o : Option Environment)
          → matched (store_image new store) (renamed_pattern new p) (image new v) (environment_image new env)
          ≡ option_map (environment_image new) o
          → first_match (store_image new store) (renamed_rows new rest) (image new v) (environment_image new env)
          ≡ option_map choice_image (first_match store rest v env)
          → chosen_or (renamed new body)
          (matched (store_image new store) (renamed_pattern new p) (image new v) (environment_image new env))
          (first_match (store_image new store) (renamed_rows new rest) (image new v) (environment_image new env))
          ≡ option_map choice_image (chosen_or body o (first_match store rest v env))
      by_match None here later =
          ap (λ found. chosen_or (renamed new body) found
          (first_match (store_image new store) (renamed_rows new rest) (image new v) (environment_image new env))) here
          ∙ later
      by_match (Some bound) here later =
          ap (λ found. chosen_or (renamed new body) found
          (first_match (store_image new store) (renamed_rows new rest) (image new v) (environment_image new env))) here
