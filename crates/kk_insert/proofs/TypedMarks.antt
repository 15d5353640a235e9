-- The marks of the variables of typed code: each takes that of its type.
use Rattle.std.proofs.Common.{◌≡◌, ℕ, suc, ◌+◌, ◌≤◌, ◌<◌, ◌==◌, Bool, true, false, List, [], ◌∷◌, ◌++◌, length, map, Option, Some, None, arith, refl, sym, ap, ◌∙◌, subst}
use Rattle.std.specs.Prelude.{if◌then◌else◌, nat_le, slice_get}
use Rattle.kk_core.specs.Codes.{Code, give, tail_call, case, compute, use_of, unpack, inside, Arms, no_arm, arm}
use Rattle.kk_core.specs.CoreTyping.{Fact, Facts, fact_in, knowing, typing, typing_parameters, knowing_fields, HaveTypes, HasCodeType, AreArmsTyped}
use Rattle.kk_core.specs.Sizes.{Rise, Ordered, OrderedArms}
use Rattle.kk_counted.proofs.CountChanges.{same, itself}
use Rattle.kk_counted.specs.Marks.{HaveMarks}
use Rattle.kk_counted.specs.Spending.{numbers_from}
use Rattle.kk_insert.proofs.VariableBindings.{ordered_high, arms_high, rise_high}
use Rattle.kk_insert.proofs.CodeMarks.{CoreMark, ArmsMark}
use Rattle.kk_insert.proofs.TypeMarks.{cells, has_some, form_marked, field_marks_are, parameter_marks_are, result_mark_is}
use Rattle.kk_insert.specs.MarkTables.{marks_of_types, AreGround}
use Rattle.kk_syntax.specs.GroundTyping.{Table, HasTruths}
use Rattle.kk_syntax.specs.OfType.{IsPatternOf, ArePatternsOf, values_of, field_types}
use Rattle.kk_syntax.specs.Outlines.{outline_of, outlines_of}
use Rattle.kk_syntax.specs.Patterns.{Pattern, anything, Patterns, no_part, part}
use Rattle.kk_syntax.specs.Types.{TypeTree}

-- ---- marks by ranges of variables

abbrev pub split : ℕ → (ℕ → Bool) → (ℕ → Bool) → ℕ → Bool
split middle one two y = if nat_le middle y then two y else one y

abbrev with_mark : ℕ → Bool → (ℕ → Bool) → ℕ → Bool
with_mark x mark others y = if x == y then mark else others y

pub split_low : (middle : ℕ) (one two : ℕ → Bool) (y : ℕ) → y < middle → split middle one two y ≡ one y
split_low middle one two y less = grind arith

pub split_high : (middle : ℕ) (one two : ℕ → Bool) (y : ℕ) → middle ≤ y → split middle one two y ≡ two y
split_high middle one two y less = grind arith

mark_here : (x : ℕ) (mark : Bool) (others : ℕ → Bool) → with_mark x mark others x ≡ mark
mark_here x mark others = rw (itself x) refl

mark_other : (x : ℕ) (mark : Bool) (others : ℕ → Bool) (y : ℕ) → x < y → with_mark x mark others y ≡ others y
mark_other x mark others y less = grind arith

abbrev with_fields : List ℕ → List Bool → (ℕ → Bool) → ℕ → Bool
with_fields [] marks others = others
with_fields (x ∷ xs) [] others = others
with_fields (x ∷ xs) (mark ∷ marks) others = with_mark x mark (with_fields xs marks others)

-- the marks are alike in a range of variables
abbrev pub Alike : ℕ → ℕ → (ℕ → Bool) → (ℕ → Bool) → Type 0
Alike low high holds own = (y : ℕ) → low ≤ y → y < high → holds y ≡ own y

fields_marked : (low middle high : ℕ) (xs : List ℕ) (marks : List Bool) (holds others : ℕ → Bool) → length xs ≡ length marks
    → Rise low xs middle → middle ≤ high → Alike low high holds (with_fields xs marks others) → HaveMarks holds xs marks
fields_marked low middle high [] [] holds others many rise less alike = tt
fields_marked low middle high [] (mark ∷ marks) holds others many rise less alike = absurd (cc)
fields_marked low middle high (x ∷ xs) [] holds others many rise less alike = absurd (cc)
fields_marked low middle high (x ∷ xs) (mark ∷ marks) holds others many rise less alike = (
  alike x rise.0 (omega (arith, rise_high (x + 1) xs middle rise.1, less)) ∙ mark_here x mark (with_fields xs marks others),
  fields_marked (x + 1) middle high xs marks holds others (omega (arith, many)) rise.1 less
      (λ y least most. alike y (omega (arith, least, rise.0)) most ∙ mark_other x mark (with_fields xs marks others) y
      (omega (arith, least))),
)

fields_others : (low middle : ℕ) (xs : List ℕ) (marks : List Bool) (others : ℕ → Bool) (y : ℕ) → Rise low xs middle → middle ≤ y
    → with_fields xs marks others y ≡ others y
fields_others low middle [] marks others y rise least = refl
fields_others low middle (x ∷ xs) [] others y rise least = refl
fields_others low middle (x ∷ xs) (mark ∷ marks) others y rise least =
    mark_other x mark (with_fields xs marks others) y (omega (arith, least, rise_high (x + 1) xs middle rise.1))
    ∙ fields_others (x + 1) middle xs marks others y rise.1 least

-- ---- what is known of variables

module _ (table : Table) (holds : ℕ → Bool) where
  -- marks fit what is known: each is that of a type, whose values its pattern may match
  abbrev pub FactsFit : Facts → Type 0
  FactsFit facts =
      (x : ℕ) (fact : Fact) → fact_in facts x ≡ Some fact
      → (holds x ≡ cells table fact.type) × IsPatternOf (values_of table.constructors) fact.type (outline_of fact.pattern)

  knowing_fits : (facts : Facts) (x : ℕ) (t : TypeTree) (pattern : Pattern) → FactsFit facts → holds x ≡ cells table t
      → IsPatternOf (values_of table.constructors) t (outline_of pattern) → FactsFit (knowing x t pattern facts)
  knowing_fits facts x t pattern fit mark of_type y fact is = by_test (x == y) refl is
    where
      by_test : (t' : Bool) → (x == y) ≡ t' → (if t' then Some (record { type = t; pattern = pattern }) else fact_in facts y) ≡ Some
          fact
          → (holds y ≡ cells table fact.type) × IsPatternOf (values_of table.constructors) fact.type (outline_of fact.pattern)
      by_test false other is = fit y fact is
      by_test true here is =
          subst (λ (o : Option Fact). OnFact o) is (ap holds (sym (same x y here)) ∙ mark, of_type)
        where
          OnFact : Option Fact → Type 0
          OnFact None = Unit {0}
          OnFact (Some f) = (holds y ≡ cells table f.type) × IsPatternOf (values_of table.constructors) f.type
              (outline_of f.pattern)

  fields_fit : (facts : Facts) (xs : List ℕ) (ts : List TypeTree) (ps : Patterns) → FactsFit facts → HaveMarks holds xs
      (map (cells table) ts)
      → ArePatternsOf (values_of table.constructors) ts (outlines_of ps) → FactsFit (knowing_fields xs ts ps facts)
  fields_fit facts [] ts ps fit have of_types = fit
  fields_fit facts (x ∷ xs) [] ps fit have of_types = fit
  fields_fit facts (x ∷ xs) (t ∷ ts) no_part fit have of_types = fit
  fields_fit facts (x ∷ xs) (t ∷ ts) (part first rest) fit have of_types =
      fields_fit (knowing x t first facts) xs ts rest (knowing_fits facts x t first fit have.0 of_types.0) have.1 of_types.1

  pub parameters_fit : (next : ℕ) (ts : List TypeTree) (facts : Facts) → FactsFit facts
      → ((i : ℕ) (t : TypeTree) → slice_get ts i ≡ Some t → holds (next + i) ≡ cells table t) → FactsFit
      (typing_parameters next ts facts)
  parameters_fit next [] facts fit each = fit
  parameters_fit next (t ∷ ts) facts fit each =
      parameters_fit (next + 1) ts (typing next t facts)
      (knowing_fits facts next t anything fit (ap holds (let e : next ≡ next + 0 = omega arith in e) ∙ each 0 t refl) tt)
      (λ i u is. ap holds (let e : next + 1 + i ≡ next + suc i = omega arith in e) ∙ each (suc i) u is)

  pub parameters_have : (next : ℕ) (ts : List TypeTree)
      → ((i : ℕ) (t : TypeTree) → slice_get ts i ≡ Some t → holds (next + i) ≡ cells table t)
      → HaveMarks holds (numbers_from next (length ts)) (map (cells table) ts)
  parameters_have next [] each = tt
  parameters_have next (t ∷ ts) each = (
    ap holds (let e : next ≡ next + 0 = omega arith in e) ∙ each 0 t refl,
    parameters_have (suc next) ts (λ i u is. ap holds (let e : suc next + i ≡ next + suc i = omega arith in e) ∙ each (suc i) u is),
  )

  have_marks : (facts : Facts) (xs : List ℕ) (ts : List TypeTree) → FactsFit facts → HaveTypes facts xs ts
      → HaveMarks holds xs (map (cells table) ts)
  have_marks facts [] [] fit have = tt
  have_marks facts [] (t ∷ ts) fit have = absurd have
  have_marks facts (x ∷ xs) [] fit have = absurd have
  have_marks facts (x ∷ xs) (t ∷ ts) fit have = ((fit x _ have.0.1).0, have_marks facts xs ts fit have.1)

-- ---- code: marks of the variables that it binds

module _ (table : Table) (ground : AreGround table.constructors) (truths : HasTruths table.constructors) (result : Bool) where
  abbrev pub Choice : ℕ → ℕ → Facts → Bool → Code → Type 0
  Choice low high facts given code =
      (own : ℕ → Bool) × ((holds : ℕ → Bool) → FactsFit table holds facts → Alike low high holds own
      → CoreMark (marks_of_types table) holds result given code)

  abbrev pub ArmsChoice : ℕ → ℕ → Facts → ℕ → TypeTree → Bool → Arms → Type 0
  ArmsChoice low high facts x u given arms =
      (own : ℕ → Bool) × ((holds : ℕ → Bool) → FactsFit table holds facts → holds x ≡ cells table u → Alike low high holds own
      → ArmsMark (marks_of_types table) holds result given arms)

  mutual
    pub choose : (bound : List ℕ) (low high : ℕ) (tail : Bool) (facts : Facts) (t : TypeTree) (code : Code)
        → HasCodeType table tail facts code t
        → Ordered bound low code high → (tail ≡ true → result ≡ cells table t) → Choice low high facts (cells table t) code
    choose bound low high tail facts t (give x) typed o whole = (λ y. false, λ holds fit alike. (fit x _ typed.1).0)
    choose bound low high tail facts t (tail_call f arguments) typed o whole = (
      λ y. false,
      λ holds fit alike. (
        subst (HaveMarks holds arguments) (sym (parameter_marks_are table f typed.1 t typed.3))
            (have_marks table holds facts arguments typed.1 fit typed.2),
        result_mark_is table f typed.1 t typed.3 ∙ sym (whole typed.0),
      ),
    )
    choose bound low high tail facts t (case x decisions arms) typed o whole =
        let chosen = choose_arms bound low high tail facts x typed.0 t arms typed.2 o.1 whole in
        (chosen.0, λ holds fit alike. chosen.1 holds fit (fit x _ typed.1.1).0 alike)
    choose bound low high tail facts t (compute x form arguments rest) typed o whole =
        let after = choose (x ∷ bound) (x + 1) high tail (typing x typed.0 facts) t rest typed.4 o.2 whole in
        let last : x + 1 ≤ high = ordered_high (x ∷ bound) (x + 1) rest high o.2 in (
          with_mark x (cells table typed.0) after.0,
          λ holds fit alike.
              let mark : holds x ≡ cells table typed.0 = alike x o.1 (omega (arith, last)) ∙ mark_here x
              (cells table typed.0) after.0 in (
                form_marked table ground truths holds x form arguments typed.1 typed.0
                    (have_marks table holds facts arguments typed.1 fit typed.2) typed.3 mark,
                after.1 holds (knowing_fits table holds facts x typed.0 anything fit mark tt)
                    (λ y least most. alike y (omega (arith, least, o.1)) most ∙ mark_other x (cells table typed.0) after.0 y
                    (omega (arith, least))),
              ),
        )
    choose bound low high tail facts t (use_of x rest) typed o whole = choose bound low high tail facts t rest typed.2 o.1 whole
    choose bound low high tail facts t (unpack x c fields rest) typed o whole =
        let us = typed.1 in
        let after = choose (fields ++ bound) o.0 high tail
        (knowing_fields fields us (part typed.2 typed.3) facts) t rest typed.7 o.3 whole in
        let last : o.0 ≤ high = ordered_high (fields ++ bound) o.0 rest high o.3 in (
          with_fields fields (map (cells table) us) after.0,
          λ holds fit alike.
              let known = fit x _ typed.4 in
              let same_types : known.1.0 ≡ us = some_same known.1.0 us (sym known.1.1 ∙ typed.5) in
              let of_types : ArePatternsOf (values_of table.constructors) us (outlines_of (part typed.2 typed.3)) =
              subst (λ ts. ArePatternsOf (values_of table.constructors) ts (outlines_of (part typed.2 typed.3))) same_types
              known.1.2 in
              let have : HaveMarks holds fields (map (cells table) us) =
              fields_marked low o.0 high fields (map (cells table) us) holds after.0
              (typed.6 ∙ sym (length_cells us)) o.2 last alike in (
                known.0 ∙ some_fields typed.0 us c typed.2 typed.3 typed.5 of_types,
                (
                  subst (HaveMarks holds fields) (sym (field_marks_are table ground typed.0 us c typed.5)) have,
                  after.1 holds (fields_fit table holds facts fields us (part typed.2 typed.3) fit have of_types)
                      (λ y least most.
                      alike y (omega (arith, least, rise_high low fields o.0 o.2)) most
                      ∙ fields_others low o.0 fields (map (cells table) us) after.0 y o.2 least),
                ),
              ),
        )
      where
        some_same : (ts us : List TypeTree) → Some ts ≡ Some us → ts ≡ us
        some_same ts us is = ap (λ (o : Option (List TypeTree)). elim o as (λ _. List TypeTree) [ None ↦ [] | Some vs ↦ vs ]) is

        length_cells : (ts : List TypeTree) → length (map (cells table) ts) ≡ length ts
        length_cells [] = refl
        length_cells (u ∷ ts) = ap suc (length_cells ts)

        some_fields : (u : TypeTree) (us : List TypeTree) (c : ℕ) (first : Pattern) (others : Patterns)
            → field_types table.constructors u c ≡ Some us
            → ArePatternsOf (values_of table.constructors) us (outlines_of (part first others)) → cells table u ≡ true
        some_fields u [] c first others is of_types = absurd of_types
        some_fields u (v ∷ vs) c first others is of_types = has_some table u v vs c is
    choose bound low high tail facts t (inside x block rest) typed o whole =
        let one = choose bound low x false facts typed.0 block typed.1 o.0 (λ none. absurd (cc)) in
        let after = choose (x ∷ bound) (x + 1) high tail (typing x typed.0 facts) t rest typed.2 o.1 whole in
        let first : low ≤ x = ordered_high bound low block x o.0 in
        let last : x + 1 ≤ high = ordered_high (x ∷ bound) (x + 1) rest high o.1 in (
          split x one.0 (with_mark x (cells table typed.0) after.0),
          λ holds fit alike.
              let mark : holds x ≡ cells table typed.0 =
              alike x first (omega (arith, last)) ∙ (split_high x one.0 (with_mark x (cells table typed.0) after.0) x (omega arith)
              ∙ mark_here x (cells table typed.0) after.0) in (
                subst (λ m. CoreMark (marks_of_types table) holds result m block) (sym mark)
                    (one.1 holds fit
                    (λ y least most. alike y least (omega (arith, most, last)) ∙ split_low x one.0
                    (with_mark x (cells table typed.0) after.0) y most)),
                after.1 holds (knowing_fits table holds facts x typed.0 anything fit mark tt)
                    (λ y least most.
                    alike y (omega (arith, least, first)) most
                    ∙ (split_high x one.0 (with_mark x (cells table typed.0) after.0) y (omega (arith, least))
                    ∙ mark_other x (cells table typed.0) after.0 y (omega (arith, least)))),
              ),
        )

    choose_arms : (bound : List ℕ) (low high : ℕ) (tail : Bool) (facts : Facts) (x : ℕ) (u t : TypeTree) (arms : Arms)
        → AreArmsTyped table tail facts x u arms t → OrderedArms bound low arms high → (tail ≡ true → result ≡ cells table t)
        → ArmsChoice low high facts x u (cells table t) arms
    choose_arms bound low high tail facts x u t no_arm typed o whole = (λ y. false, λ holds fit mark alike. tt)
    choose_arms bound low high tail facts x u t (arm pattern body rest) typed o whole =
        let one = choose bound low o.0 tail (knowing x u pattern facts) t body typed.1 o.1 whole in
        let two = choose_arms bound o.0 high tail facts x u t rest typed.2 o.2 whole in
        let first : low ≤ o.0 = ordered_high bound low body o.0 o.1 in
        let second : o.0 ≤ high = arms_high bound o.0 rest high o.2 in (
          split o.0 one.0 two.0,
          λ holds fit mark alike. (
            one.1 holds (knowing_fits table holds facts x u pattern fit mark typed.0)
                (λ y least most. alike y least (omega (arith, most, second)) ∙ split_low o.0 one.0 two.0 y most),
            two.1 holds fit mark (λ y least most. alike y (omega (arith, least, first)) most ∙ split_high o.0 one.0 two.0 y least),
          ),
        )
