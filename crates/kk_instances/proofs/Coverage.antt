-- The matches of an instance are covered where those of its function are: what they miss, the function's matches miss, at the
-- instance's types and with the constructors of the program.
use Rattle.std.proofs.Common.{◌≡◌, ◌≢◌, ◌⊎◌, inl, inr, ℕ, Bool, true, false, List, [], ◌∷◌, length, Option, Some, None, refl, sym, ap, ◌∙◌, subst, arith}
use Rattle.std.specs.Prelude.{if◌then◌else◌, ◌==◌, slice_get}
use Rattle.std.specs.Option.{is_none}
use Rattle.std.proofs.lemmas.Bool.{eqb-true, eqb-false}
use Rattle.std.proofs.lemmas.Option.{get_or_from_slice_get, same_Some}
use Rattle.kk_syntax.specs.Covered.{Each, IsCovered, asked_by}
use Rattle.kk_syntax.specs.GroundTyping.{HasTruths}
use Rattle.kk_syntax.specs.Matches.{IsMatchCovered}
use Rattle.kk_syntax.specs.OfType.{IsPatternOf, ArePatternsOf, field_types, values_of}
use Rattle.kk_syntax.specs.Outlines.{Outline, any, exactly as asks_exactly, made as asks, Outlines, no_outline, outline, outline_of, outlines_of, Clash, ClashIn}
use Rattle.kk_syntax.specs.Patterns.{Pattern, anything, variable as pattern_variable, exactly, constructor, Patterns, no_part, part}
use Rattle.kk_syntax.specs.Programs.{ConstructorTree, ProgramTree, no_constructor, constructor_in}
use Rattle.kk_syntax.specs.Trees.{Rows, no_row, row, row_parts}
use Rattle.kk_syntax.specs.Types.{TypeTree, put}
use Rattle.kk_syntax.specs.Typing.{Choice, Scheme, Scope, constructor_scheme, IsPatternTyped, ArePatternsTyped, AreRowsTypedBy}
use Rattle.kk_syntax.proofs.PatternTypes.{is_declared}
use Rattle.kk_syntax.proofs.TypeSubstitution.{rows_put}
use Rattle.kk_mono.specs.Instances.{InstanceTree, Renaming, renamed_pattern, renamed_patterns, renamed_rows, origin_in, IsInstanceProgram}
use Rattle.kk_instances.proofs.Grounds.{apart, back}

-- nothing clashes with a wildcard
no_clash : (e : Outline) → Clash e any → ⊥
no_clash any clash = clash
no_clash (asks_exactly m) clash = clash
no_clash (asks g parts) clash = clash

module _ (program made : ProgramTree) (typings : List (List Choice)) (instances : List InstanceTree)
    (truths : HasTruths program.constructors) (is : IsInstanceProgram program typings instances made) where
  abbrev new : Renaming
  new = origin_in instances is.grounds

  -- whether a constructor is a declared one
  abbrev is_any : ℕ → Bool
  is_any c = is_none (constructor_in program c).arguments

  -- What an outline asks for, with the constructors of the program. Of the parts of a constructor that is not a declared one
  -- it asks nothing: no match does.
  abbrev mutual
    outline_image : Outline → Outline
    outline_image any = any
    outline_image (asks_exactly n) = asks_exactly n
    outline_image (asks g parts) = asks (new.constructors g) (outlines_image (is_any (new.constructors g)) parts)

    outlines_image : Bool → Outlines → Outlines
    outlines_image deep no_outline = no_outline
    outlines_image deep (outline first rest) = outline (if deep then outline_image first else any) (outlines_image deep rest)

  wide_typed : (us ws : List TypeTree) (parts : Outlines) → length ws ≡ length us
      → ArePatternsOf (values_of made.constructors) us parts
      → ArePatternsOf (values_of program.constructors) ws (outlines_image false parts)
  wide_typed [] [] no_outline long of = tt
  wide_typed [] [] (outline e es) long of = absurd of
  wide_typed [] (w ∷ ws) parts long of = absurd (omega (arith, long))
  wide_typed (u ∷ us) [] parts long of = absurd (omega (arith, long))
  wide_typed (u ∷ us) (w ∷ ws) no_outline long of = absurd of
  wide_typed (u ∷ us) (w ∷ ws) (outline e es) long of = (tt, wide_typed us ws es (omega (arith, long)) of.1)

  none_is : {X : Type 0} (o : Option X) → is_none o ≡ true → o ≡ None
  none_is None none = refl
  none_is (Some x) none = absurd (cc)

  declared_at : (c : ℕ) (declared : ConstructorTree) → slice_get program.constructors c ≡ Some declared
      → is_any c ≡ is_none declared.arguments
  declared_at c declared there =
      ap (λ (d : ConstructorTree). is_none d.arguments) (get_or_from_slice_get program.constructors c declared no_constructor there)

  parts_typed : (deep : Bool) (us ws : List TypeTree) (parts : Outlines) → (deep ≡ true → ws ≡ us) → length ws ≡ length us
      → ArePatternsOf (values_of made.constructors) us parts
      → ArePatternsOf (values_of program.constructors) us (outlines_image true parts)
      → ArePatternsOf (values_of program.constructors) ws (outlines_image deep parts)
  parts_typed true us ws parts same long of deep_of =
      subst (λ ts. ArePatternsOf (values_of program.constructors) ts (outlines_image true parts)) (sym (same refl)) deep_of
  parts_typed false us ws parts same long of deep_of = wide_typed us ws parts long of

  -- an outline is of its type in the program too
  mutual
    outline_typed : (t : TypeTree) (e : Outline) → IsPatternOf (values_of made.constructors) t e
        → IsPatternOf (values_of program.constructors) t (outline_image e)
    outline_typed t any of = tt
    outline_typed t (asks_exactly n) of = of
    outline_typed t (asks g parts) of =
        let known = back program made typings instances truths is t g of.0 of.1 in (
          known.types,
          known.fields,
          parts_typed (is_any (new.constructors g)) of.0 known.types parts
              (λ deep. known.same (none_is known.declared.arguments
              (sym (declared_at (new.constructors g) known.declared known.there) ∙ deep)))
              known.long of.2 (all_outlines_typed of.0 parts of.2),
        )

    all_outlines_typed : (us : List TypeTree) (parts : Outlines) → ArePatternsOf (values_of made.constructors) us parts
        → ArePatternsOf (values_of program.constructors) us (outlines_image true parts)
    all_outlines_typed [] no_outline of = tt
    all_outlines_typed [] (outline e es) of = absurd of
    all_outlines_typed (u ∷ us) no_outline of = absurd of
    all_outlines_typed (u ∷ us) (outline e es) of = (outline_typed u e of.0, all_outlines_typed us es of.1)

  -- a constructor with a scheme is a declared one
  is_any_declared : (c : ℕ) (of : Scheme) → constructor_scheme program c ≡ Some of → is_any c ≡ true
  is_any_declared c of scheme =
      let known = is_declared program (slice_get program.constructors c) of scheme in
      declared_at c known.made known.there ∙ ap (λ own. is_none own) known.any

  -- constructors that clash, or parts of one constructor that do
  made_clash : (g h : ℕ) (t : TypeTree) (us ws : List TypeTree) (parts qs rs : Outlines) → is_any (new.constructors h) ≡ true
      → field_types made.constructors t g ≡ Some us → field_types made.constructors t h ≡ Some ws
      → (us ≡ ws → ClashIn parts qs → ClashIn (outlines_image true parts) rs) → (g ≢ h) ⊎ ClashIn parts qs
      → (new.constructors g ≢ new.constructors h) ⊎ ClashIn (outlines_image (is_any (new.constructors g)) parts) rs
  made_clash g h t us ws parts qs rs any_one g_fields h_fields inside clash = by_test (g == h) refl clash
    where
      differ : g ≢ h → new.constructors g ≢ new.constructors h
      differ other same = other (apart program made typings instances truths is t h g ws us h_fields g_fields same)

      by_test : (same : Bool) → (g == h) ≡ same → (g ≢ h) ⊎ ClashIn parts qs
          → (new.constructors g ≢ new.constructors h) ⊎ ClashIn (outlines_image (is_any (new.constructors g)) parts) rs
      by_test false other clashes = inl (differ (eqb-false g h other))
      by_test true same (inl other) = inl (differ other)
      by_test true same (inr in_parts) =
          let one = eqb-true g h same in
          let types = same_Some us ws (sym g_fields ∙ (ap (field_types made.constructors t) one ∙ h_fields)) in
          inr
          (subst (λ deep. ClashIn (outlines_image deep parts) rs) (sym (ap (λ n. is_any (new.constructors n)) one ∙ any_one))
          (inside types in_parts))

  -- an outline that clashes with a pattern clashes with it in the program
  mutual
    clash_image : (p : Pattern) (u t : TypeTree) (scope : Scope) (choices : List Choice) (e : Outline)
        → IsPatternTyped program scope (renamed_pattern new p) u choices → IsPatternOf (values_of made.constructors) t e
        → IsPatternOf (values_of made.constructors) t (outline_of p) → Clash e (outline_of p)
        → Clash (outline_image e) (outline_of (renamed_pattern new p))
    clash_image anything u t scope choices e typed e_of of clash = absurd (no_clash e clash)
    clash_image (pattern_variable x) u t scope choices e typed e_of of clash = absurd (no_clash e clash)
    clash_image (exactly n) u t scope choices any typed e_of of clash = clash
    clash_image (exactly n) u t scope choices (asks_exactly m) typed e_of of clash = clash
    clash_image (exactly n) u t scope choices (asks g parts) typed e_of of clash = tt
    clash_image (constructor h ps) u t scope choices any typed e_of of clash = clash
    clash_image (constructor h ps) u t scope choices (asks_exactly m) typed e_of of clash = tt
    clash_image (constructor h ps) u t scope choices (asks g parts) uses e_of of clash =
        made_clash g h t e_of.0 of.0 parts (outlines_of ps) (outlines_of (renamed_patterns new ps))
        (is_any_declared (new.constructors h) uses.of uses.is) e_of.1 of.1
        (λ types in_parts.
        all_clash_image ps _ of.0 scope uses.rest parts uses.arguments
        (subst (λ us. ArePatternsOf (values_of made.constructors) us parts) types e_of.2) of.2 in_parts) clash

    all_clash_image : (ps : Patterns) (us ts : List TypeTree) (scope : Scope) (choices : List Choice) (es : Outlines)
        → ArePatternsTyped program scope (renamed_patterns new ps) us choices → ArePatternsOf (values_of made.constructors) ts es
        → ArePatternsOf (values_of made.constructors) ts (outlines_of ps) → ClashIn es (outlines_of ps)
        → ClashIn (outlines_image true es) (outlines_of (renamed_patterns new ps))
    all_clash_image ps us ts scope choices no_outline typed e_of of clash = absurd clash
    all_clash_image no_part us ts scope choices (outline e es) typed e_of of clash = absurd clash
    all_clash_image (part p ps) us [] scope choices (outline e es) typed e_of of clash = absurd of
    all_clash_image (part p ps) [] (t ∷ ts) scope choices (outline e es) typed e_of of clash = absurd typed
    all_clash_image (part p ps) (u ∷ us) (t ∷ ts) scope choices (outline e es) typed e_of of (inl here) =
        inl (clash_image p u t scope typed.0 e typed.3 e_of.0 of.0 here)
    all_clash_image (part p ps) (u ∷ us) (t ∷ ts) scope choices (outline e es) typed e_of of (inr there) =
        inr (all_clash_image ps us ts scope typed.1 es typed.4 e_of.1 of.1 there)

  clashes_image : (rows : Rows) (scope : Scope) (u t r : TypeTree) (choices : List Choice) (e : Outline)
      → AreRowsTypedBy program scope (renamed_rows new rows) u r choices → IsPatternOf (values_of made.constructors) t e
      → Each (IsPatternOf (values_of made.constructors) t) (asked_by rows) → Each (Clash e) (asked_by rows)
      → Each (Clash (outline_image e)) (asked_by (renamed_rows new rows))
  clashes_image no_row scope u t r choices e typed e_of of clashes = tt
  clashes_image (row (row_parts p body) rest) scope u t r choices e typed e_of of clashes =
      let parts = typed.3.inside in (
        clash_image p u t _ parts.0 e parts.3 e_of of.0 clashes.0,
        clashes_image rest scope u t r typed.1 e typed.4 e_of of.1 clashes.1,
      )

  -- the rows of a match
  pub rows_covered : (s : ℕ → TypeTree) (scope : Scope) (rows : Rows) (u r : TypeTree) (choices : List Choice)
      → AreRowsTypedBy program scope (renamed_rows new rows) u r choices
      → Each (IsPatternOf (values_of made.constructors) (put s u)) (asked_by rows)
      → IsMatchCovered program (asked_by (renamed_rows new rows))
      → IsCovered (values_of made.constructors) (put s u) (asked_by rows)
  rows_covered s scope rows u r choices typed of covered =
      λ e missed.
      covered (put s u) (rows_put program s scope (renamed_rows new rows) u r choices typed) (outline_image e) (record {
        typed = outline_typed (put s u) e missed.typed;
        clashes = clashes_image rows scope u (put s u) r choices e typed missed.typed of missed.clashes;
      })
