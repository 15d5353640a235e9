-- A pattern that does not match a value of its type clashes with what the value is. So a match that is covered takes a row.
use Rattle.std.proofs.Common.{◌≡◌, ◌≢◌, ◌⊎◌, inl, inr, ℕ, ℤ, Bool, true, false, List, [], ◌∷◌, Option, Some, None, IsTrue, refl, sym, ap, ◌∙◌, subst}
use Rattle.std.specs.Prelude.{if◌then◌else◌, ◌==◌}
use Rattle.std.proofs.lemmas.Bool.{both_ways, eqb-true, eqb-false}
use Rattle.std.proofs.lemmas.Bool.Decides.{Decides-int_eq}
use Rattle.kk_syntax.specs.Covered.{Each, IsCovered, asked_by}
use Rattle.kk_syntax.specs.OfType.{IsPatternOf, ArePatternsOf, field_types, is_int32, values_of}
use Rattle.kk_syntax.specs.Outlines.{Outline, any, exactly as asks_exactly, made, Outlines, no_outline, outline, outline_of, outlines_of, Clash, ClashIn}
use Rattle.kk_syntax.specs.Patterns.{Pattern, anything, variable, exactly, constructor, Patterns, no_part, part}
use Rattle.kk_syntax.specs.Programs.{ConstructorTree}
use Rattle.kk_syntax.specs.Trees.{Tree, Rows, no_row, row, pattern_of_row, body_of_row}
use Rattle.kk_syntax.specs.Types.{TypeTree, unit_type}
use Rattle.kk_source.specs.State.{Value, integer, Store, Environment}
use Rattle.kk_source.specs.Matching.{is_integer, fields_under, and_then, matched, matched_all, Chosen, chosen_or, first_match}
use Rattle.kk_source.specs.ValueTypes.{Content, amount, nothing, built, Contents, no_content, content, IsMadeBy, HasContent, HaveContents, IsContentOf, AreContentsOf, IsOf}
use Rattle.kk_source.proofs.Values.{fields_of_made}

-- what a value is, as an outline. There is no pattern for `()` alone, so it is any value of its type.
abbrev mutual
  pub outline_in : Content → Outline
  outline_in (amount n) = asks_exactly n
  outline_in nothing = any
  outline_in (built c parts) = made c (outlines_in parts)

  pub outlines_in : Contents → Outlines
  outlines_in no_content = no_outline
  outlines_in (content first rest) = outline (outline_in first) (outlines_in rest)

-- ---- where nothing matches

none_if : {X : Type 0} (t : Bool) (x : X) → (if t then Some x else None) ≡ None → t ≡ false
none_if true x none = absurd (cc)
none_if false x none = refl

none_then : {A B : Type 0} (o : Option A) (next : A → Option B) → and_then o next ≡ None
    → (o ≡ None) ⊎ ((x : A) × (o ≡ Some x) × (next x ≡ None))
none_then None next none = inl refl
none_then (Some x) next none = inr (x, refl, none)

neither : (body : Tree) (bound : Option Environment) (later : Option Chosen) → chosen_or body bound later ≡ None
    → (bound ≡ None) × (later ≡ None)
neither body None later none = (refl, none)
neither body (Some env) later none = absurd (cc)

number_clash : (n m : ℤ) (v : Value) (env : Environment) → v ≡ integer m → (if is_integer n v then Some env else None) ≡ None
    → m ≢ n
number_clash n m v env is none same =
    both_ways (is_integer n v) (none_if (is_integer n v) env none) (ap (is_integer n) is ∙ (Decides-int_eq m n).1 same)

module _ (constructors : List ConstructorTree) where
  -- the outline of a value's content is of each type that the content is of
  mutual
    pub outline_typed : (t : TypeTree) (what : Content) → IsContentOf constructors t what
        → IsPatternOf (values_of constructors) t (outline_in what)
    outline_typed t (amount n) typed = ap is_int32 typed
    outline_typed t nothing typed = tt
    outline_typed t (built c parts) typed = (typed.0, typed.1, outlines_typed typed.0 parts typed.2)

    pub outlines_typed : (ts : List TypeTree) (parts : Contents) → AreContentsOf constructors ts parts
        → ArePatternsOf (values_of constructors) ts (outlines_in parts)
    outlines_typed [] no_content typed = tt
    outlines_typed [] (content first rest) typed = absurd typed
    outlines_typed (t ∷ ts) no_content typed = absurd typed
    outlines_typed (t ∷ ts) (content first rest) typed = (outline_typed t first typed.0, outlines_typed ts rest typed.1)

  no_number : (t : TypeTree) → t ≡ unit_type → IsTrue (is_int32 t) → ⊥
  no_number t is numbers = both_ways (is_int32 t) (ap is_int32 is) numbers

  no_fields : (t : TypeTree) (c : ℕ) (us : List TypeTree) → t ≡ unit_type → field_types constructors t c ≡ Some us → ⊥
  no_fields t c us is fields =
      let none : field_types constructors t c ≡ None = ap (λ u. field_types constructors u c) is in absurd (cc)

  same_types : (t : TypeTree) (c d : ℕ) (us ws : List TypeTree) → d ≡ c → field_types constructors t d ≡ Some ws
      → field_types constructors t c ≡ Some us → ws ≡ us
  same_types t c d us ws same one two = let both : Some ws ≡ Some us = sym one ∙ (ap (field_types constructors t) same ∙ two) in cc

module _ (constructors : List ConstructorTree) (store : Store) where
  -- another constructor, or fields that do not match
  made_clash : (c d : ℕ) (v : Value) (vs : List Value) (parts : Patterns) (ps : Outlines) (env : Environment)
      → IsMadeBy store v d vs → (d ≡ c → matched_all store parts vs env ≡ None → ClashIn ps (outlines_of parts))
      → and_then (fields_under store c v) (λ ws. matched_all store parts ws env) ≡ None → (d ≢ c) ⊎ ClashIn ps (outlines_of parts)
  made_clash c d v vs parts ps env by inside none =
      by_test (d == c) refl
      (ap (λ o. and_then o (λ ws. matched_all store parts ws env)) (sym (fields_of_made store v d vs c by)) ∙ none)
    where
      by_test : (same : Bool) → (d == c) ≡ same
          → and_then (if same then Some vs else None) (λ ws. matched_all store parts ws env) ≡ None
          → (d ≢ c) ⊎ ClashIn ps (outlines_of parts)
      by_test true same missed = inr (inside (eqb-true d c same) missed)
      by_test false other missed = inl (eqb-false d c other)

  mutual
    pub clashes : (p : Pattern) (t : TypeTree) (what : Content) (v : Value) (env : Environment)
        → IsPatternOf (values_of constructors) t (outline_of p) → HasContent store v what → IsContentOf constructors t what
        → matched store p v env ≡ None → Clash (outline_in what) (outline_of p)
    clashes anything t what v env of has typed none = absurd (cc)
    clashes (variable x) t what v env of has typed none = absurd (cc)
    clashes (exactly n) t (amount m) v env of has typed none = number_clash n m v env has none
    clashes (exactly n) t nothing v env of has typed none = absurd (no_number constructors t typed of)
    clashes (exactly n) t (built c parts) v env of has typed none = tt
    clashes (constructor c ps) t (amount m) v env of has typed none = tt
    clashes (constructor c ps) t nothing v env of has typed none = absurd (no_fields constructors t c of.0 typed of.1)
    clashes (constructor c ps) t (built d parts) v env of has typed none =
        made_clash c d v has.0 ps (outlines_in parts) env has.1
        (λ same missed.
        let types = same_types constructors t c d of.0 typed.0 same typed.1 of.1 in
        let typed_so = subst (λ us. AreContentsOf constructors us parts) types typed.2 in
        clashes_all ps of.0 parts has.0 env of.2 has.2 typed_so missed) none

    pub clashes_all : (ps : Patterns) (ts : List TypeTree) (parts : Contents) (vs : List Value) (env : Environment)
        → ArePatternsOf (values_of constructors) ts (outlines_of ps) → HaveContents store vs parts
        → AreContentsOf constructors ts parts → matched_all store ps vs env ≡ None → ClashIn (outlines_in parts) (outlines_of ps)
    clashes_all no_part [] no_content [] env of has typed none = absurd (cc)
    clashes_all no_part [] no_content (v ∷ vs) env of has typed none = absurd has
    clashes_all no_part [] (content first rest) vs env of has typed none = absurd typed
    clashes_all no_part (t ∷ ts) parts vs env of has typed none = absurd of
    clashes_all (part p ps) [] parts vs env of has typed none = absurd of
    clashes_all (part p ps) (t ∷ ts) no_content vs env of has typed none = absurd typed
    clashes_all (part p ps) (t ∷ ts) (content first rest) [] env of has typed none = absurd has
    clashes_all (part p ps) (t ∷ ts) (content first rest) (v ∷ vs) env of has typed none =
        elim (none_then (matched store p v env) (λ bound. matched_all store ps vs bound) none) [
          | inl missed ↦ inl (clashes p t first v env of.0 has.0 typed.0 missed)
          | inr later ↦ inr (clashes_all ps ts rest vs later.0 of.1 has.1 typed.1 later.2)
        ]

  pub none_chosen : (of : Rows) (t : TypeTree) (what : Content) (v : Value) (env : Environment)
      → Each (IsPatternOf (values_of constructors) t) (asked_by of) → HasContent store v what → IsContentOf constructors t what
      → first_match store of v env ≡ None → Each (Clash (outline_in what)) (asked_by of)
  none_chosen no_row t what v env patterns has typed none = tt
  none_chosen (row first rest) t what v env patterns has typed none =
      let p : Pattern = pattern_of_row first in
      let both = neither (body_of_row first) (matched store p v env) (first_match store rest v env) none in
      (clashes p t what v env patterns.0 has typed both.0, none_chosen rest t what v env patterns.1 has typed both.1)

  -- a match that is covered takes a row
  pub takes_one : (of : Rows) (t : TypeTree) (v : Value) (env : Environment)
      → Each (IsPatternOf (values_of constructors) t) (asked_by of) → IsCovered (values_of constructors) t (asked_by of)
      → IsOf constructors store t v → (chosen : Chosen) × (first_match store of v env ≡ Some chosen)
  takes_one of t v env patterns covered is = by_choice (first_match store of v env) refl
    where
      by_choice : (choice : Option Chosen) → first_match store of v env ≡ choice
          → (chosen : Chosen) × (first_match store of v env ≡ Some chosen)
      by_choice None none =
          let typed = outline_typed constructors t is.what is.typed in
          let clash = none_chosen of t is.what v env patterns is.has is.typed none in
          absurd (covered (outline_in is.what) (record { typed = typed; clashes = clash }))
      by_choice (Some chosen) found = (chosen, found)
