-- Inserted code is marked where its core code is: dups and drops are of variables that are bound.
use Rattle.std.proofs.Common.{◌≡◌, ◌⊎◌, inl, inr, ℕ, ◌||◌, Bool, true, false, not, List, [], ◌∷◌, ◌++◌, subst}
use Rattle.kk_syntax.specs.Shapes.{is_among, without}
use Rattle.kk_syntax.specs.PositionsOf.{PositionTable}
use Rattle.kk_syntax.specs.declared.program.Form.TheVariants.{Call}
use Rattle.kk_core.specs.Codes.{Code, give, tail_call, case, compute, use_of, unpack, inside, Arms, no_arm, arm}
use Rattle.kk_core.specs.Sizes.{AreBound}
use Rattle.kk_counted.specs.CountedCodes as Counted
use Rattle.kk_counted.specs.Marks.{CellMarks, parameter_marks, result_mark, field_marks, HaveMarks, IsFormMarked, Opens, HasMark, HaveMark}
use Rattle.kk_insert.specs.Insertion.{common, extra, dups, drops, dropping, opening, back, used, lends, owns, wants, own, insert, insert_arms}
use Rattle.kk_insert.proofs.Sets.{Part, among_first, among_next, one_only, in_front, in_back, in_either, filter_in, before_either, extra_in}
use Rattle.kk_insert.proofs.VariableBindings.{IsFine, AreFine}
use Rattle.kk_insert.proofs.OwnedVariables.{used_part, lends_part, owns_part, rest_part, own_part}

-- ---- core code, by the variables of its function that are marked

module _ (marks : CellMarks) (holds : ℕ → Bool) (result : Bool) where
  abbrev mutual
    pub CoreMark : Bool → Code → Type 0
    CoreMark given (give x) = holds x ≡ given
    CoreMark given (tail_call f arguments) = HaveMarks holds arguments (parameter_marks marks f) × (result_mark marks f ≡ result)
    CoreMark given (case x decisions arms) = ArmsMark given arms
    CoreMark given (compute x form arguments rest) = IsFormMarked marks holds form arguments (holds x) × CoreMark given rest
    CoreMark given (use_of x rest) = CoreMark given rest
    CoreMark given (unpack x c fields rest) = (holds x ≡ true) ×
        (HaveMarks holds fields (field_marks marks c) × CoreMark given rest)
    CoreMark given (inside x block rest) = CoreMark (holds x) block × CoreMark given rest

    pub ArmsMark : Bool → Arms → Type 0
    ArmsMark given no_arm = Unit {0}
    ArmsMark given (arm pattern body rest) = CoreMark given body × ArmsMark given rest

-- ---- its insertion

bound_all : (xs bound : List ℕ) → Part xs bound → AreBound bound xs
bound_all [] bound part = tt
bound_all (x ∷ xs) bound part = (part x (among_first x xs), bound_all xs bound (λ y is. part y (among_next x y xs is)))

one_part : (x : ℕ) (bound : List ℕ) → is_among bound x ≡ true → Part (x ∷ []) bound
one_part x bound is y one = subst (λ z. is_among bound z ≡ true) (one_only x y one) is

wants_part : (lent xs after bound : List ℕ) → Part xs bound → Part after bound → Part (wants lent xs after) bound
wants_part lent xs after bound part later y is = by_case (in_either (common lent xs) (extra (without lent xs) after) y is)
  where
    by_extra : (is_among (without lent xs) y ≡ true) ⊎ (is_among after y ≡ true) → is_among bound y ≡ true
    by_extra (inl here) = part y (filter_in (λ x. not (is_among lent x)) xs y here)
    by_extra (inr there) = later y there

    by_case : (is_among (common lent xs) y ≡ true) ⊎ (is_among (extra (without lent xs) after) y ≡ true) → is_among bound y ≡ true
    by_case (inl here) = part y (filter_in (is_among lent) xs y here)
    by_case (inr there) = by_extra (before_either (without lent xs) after y (extra_in (without lent xs) after y there))

module _ (marks : CellMarks) (holds : ℕ → Bool) (result : Bool) where
  abbrev Marked : List ℕ → Bool → Counted.Counted → Type 0
  Marked bound given code = HasMark marks holds result bound given code

  dups_marked : (xs bound : List ℕ) (given : Bool) (rest : Counted.Counted) → Part xs bound → Marked bound given rest
      → Marked bound given (dups xs rest)
  dups_marked [] bound given rest part mark = mark
  dups_marked (x ∷ xs) bound given rest part mark =
      (part x (among_first x xs), dups_marked xs bound given rest (λ y is. part y (among_next x y xs is)) mark)

  drops_marked : (xs bound : List ℕ) (given : Bool) (rest : Counted.Counted) → Part xs bound → Marked bound given rest
      → Marked bound given (drops xs rest)
  drops_marked [] bound given rest part mark = mark
  drops_marked (x ∷ xs) bound given rest part mark =
      (part x (among_first x xs), drops_marked xs bound given rest (λ y is. part y (among_next x y xs is)) mark)

  pub dropping_marked : (all now bound : List ℕ) (given : Bool) (rest : Counted.Counted) → Part all bound → Marked bound given rest
      → Marked bound given (dropping all now rest)
  dropping_marked all now bound given rest part mark =
      drops_marked (without now all) bound given rest (λ y is. part y (filter_in (λ x. not (is_among now x)) all y is)) mark

  opening_marked : (stays : Bool) (x c : ℕ) (fields in_use bound : List ℕ) (given : Bool) (rest : Counted.Counted)
      → Opens marks holds bound x c fields → Part in_use (fields ++ bound) → Marked (fields ++ bound) given rest
      → Marked bound given (opening stays x c fields in_use rest)
  opening_marked true x c fields in_use bound given rest opens part mark =
      (opens, dups_marked in_use (fields ++ bound) given rest part mark)
  opening_marked false x c fields in_use bound given rest opens part mark = (opens, mark)

  module _ (positions : PositionTable) (lent : List ℕ) where
    mutual
      pub insert_marked : (left bound : List ℕ) (given : Bool) (code : Code) → IsFine lent bound code → Part left bound
          → CoreMark marks holds result given code → Marked bound given (insert positions lent left code)
      insert_marked left bound given (give x) fine part mark =
          dups_marked (wants lent (x ∷ []) left) bound given (Counted.give x)
          (wants_part lent (x ∷ []) left bound (one_part x bound fine) part)
          (fine, mark)
      insert_marked left bound given (tail_call f arguments) fine part mark =
          dups_marked (wants lent (used positions (Call f) arguments) left) bound given (Counted.tail_call f arguments)
          (wants_part lent (used positions (Call f) arguments) left bound
          (λ y is. fine y (used_part positions (Call f) arguments y is)) part)
          (bound_all arguments bound fine, mark)
      insert_marked left bound given (case x decisions arms) fine part mark = (
        fine.0,
        arms_marked left (own positions lent left (case x decisions arms)) bound given arms fine.1 part
            (own_part positions lent left bound (case x decisions arms) fine part) mark,
      )
      insert_marked left bound given (compute x form arguments rest) fine part mark =
          let more : Part left (x ∷ bound) = λ y is. among_next x y bound (part y is) in
          let owned : Part (own positions lent left rest) (x ∷ bound) = own_part positions lent left
          (x ∷ bound) rest fine.1.1.1 more in
          let kept : Part (without (x ∷ []) (own positions lent left rest)) bound = rest_part positions lent x
          (own positions lent left rest) bound owned in
          let lends_bound : Part (owns lent (lends positions form arguments) (without (x ∷ []) (own positions lent left rest)))
          bound =
          owns_part positions lent (lends positions form arguments) (without (x ∷ []) (own positions lent left rest)) bound
          (λ y is. fine.0 y (lends_part positions form arguments y is)) kept in
          dups_marked
          (wants lent (used positions form arguments)
          (owns lent (lends positions form arguments) (without (x ∷ []) (own positions lent left rest))))
          bound given
          (Counted.compute x form arguments (back lent (lends positions form arguments) x (own positions lent left rest)
          (insert positions lent left rest)))
          (wants_part lent (used positions form arguments)
          (owns lent (lends positions form arguments) (without (x ∷ []) (own positions lent left rest)))
          bound (λ y is. fine.0 y (used_part positions form arguments y is)) lends_bound) (
            bound_all arguments bound fine.0,
            (
              mark.0,
              dropping_marked (owns lent (lends positions form arguments) (without (x ∷ []) (own positions lent left rest)))
                  (without (x ∷ []) (own positions lent left rest)) (x ∷ bound) given
                  (dropping (x ∷ []) (own positions lent left rest) (insert positions lent left rest))
                  (λ y is. among_next x y bound (lends_bound y is))
                  (dropping_marked (x ∷ []) (own positions lent left rest) (x ∷ bound) given (insert positions lent left rest)
                  (one_part x (x ∷ bound) (among_first x bound))
                  (insert_marked left (x ∷ bound) given rest fine.1.1.1 more mark.1)),
            ),
          )
      insert_marked left bound given (use_of x rest) fine part mark =
          dropping_marked (own positions lent left (use_of x rest)) (own positions lent left rest) bound given
          (insert positions lent left rest)
          (own_part positions lent left bound (use_of x rest) fine part) (insert_marked left bound given rest fine.1 part mark)
      insert_marked left bound given (unpack x c fields rest) fine part mark =
          opening_marked (is_among lent x || is_among (own positions lent left rest) x) x c fields
          (common (own positions lent left rest) fields) bound
          given (insert positions lent left rest) (fine.0, (mark.0, mark.1.0))
          (λ y is. in_front fields bound y (filter_in (is_among (own positions lent left rest)) fields y is))
          (insert_marked left (fields ++ bound) given rest fine.1.1.1.1 (λ y is. in_back fields bound y (part y is)) mark.1.1)
      insert_marked left bound given (inside x block rest) fine part mark =
          let more : Part left (x ∷ bound) = λ y is. among_next x y bound (part y is) in
          let owned : Part (own positions lent left rest) (x ∷ bound) = own_part positions lent left
          (x ∷ bound) rest fine.1.1.1 more in (
            insert_marked (without (x ∷ []) (own positions lent left rest)) bound (holds x) block fine.0
                (rest_part positions lent x (own positions lent left rest) bound owned) mark.0,
            dropping_marked (x ∷ []) (own positions lent left rest) (x ∷ bound) given (insert positions lent left rest)
                (one_part x (x ∷ bound) (among_first x bound)) (insert_marked left (x ∷ bound) given rest fine.1.1.1 more mark.1),
          )

      arms_marked : (left all bound : List ℕ) (given : Bool) (arms : Arms) → AreFine lent bound arms → Part left bound
          → Part all bound
          → ArmsMark marks holds result given arms → HaveMark marks holds result bound given
          (insert_arms positions lent left all arms)
      arms_marked left all bound given no_arm fine part owned mark = tt
      arms_marked left all bound given (arm pattern body rest) fine part owned mark = (
        dropping_marked all (own positions lent left body) bound given (insert positions lent left body) owned
            (insert_marked left bound given body fine.0 part mark.0),
        arms_marked left all bound given rest fine.1 part owned mark.1,
      )

  -- ---- more variables are bound

  fields_more : (fields bound more : List ℕ) → Part bound more → Part (fields ++ bound) (fields ++ more)
  fields_more fields bound more part y is = by_case (in_either fields bound y is)
    where
      by_case : (is_among fields y ≡ true) ⊎ (is_among bound y ≡ true) → is_among (fields ++ more) y ≡ true
      by_case (inl here) = in_front fields more y here
      by_case (inr there) = in_back fields more y (part y there)

  all_more : (xs bound more : List ℕ) → Part bound more → AreBound bound xs → AreBound more xs
  all_more [] bound more part all = tt
  all_more (x ∷ xs) bound more part all = (part x all.0, all_more xs bound more part all.1)

  mutual
    pub bound_more : (bound more : List ℕ) (given : Bool) (code : Counted.Counted) → Part bound more → Marked bound given code
        → Marked more given code
    bound_more bound more given (Counted.give x) part mark = (part x mark.0, mark.1)
    bound_more bound more given (Counted.tail_call f arguments) part mark = (all_more arguments bound more part mark.0, mark.1)
    bound_more bound more given (Counted.case x decisions arms) part mark =
        (part x mark.0, arms_more bound more given arms part mark.1)
    bound_more bound more given (Counted.compute x form arguments rest) part mark = (
      all_more arguments bound more part mark.0,
      (mark.1.0, bound_more (x ∷ bound) (x ∷ more) given rest (fields_more (x ∷ []) bound more part) mark.1.1),
    )
    bound_more bound more given (Counted.inside x block rest) part mark = (
      bound_more bound more (holds x) block part mark.0,
      bound_more (x ∷ bound) (x ∷ more) given rest (fields_more (x ∷ []) bound more part) mark.1,
    )
    bound_more bound more given (Counted.read x c fields rest) part mark = (
      (part x mark.0.0, mark.0.1),
      bound_more (fields ++ bound) (fields ++ more) given rest (fields_more fields bound more part) mark.1,
    )
    bound_more bound more given (Counted.open_cell x c fields used rest) part mark = (
      (part x mark.0.0, mark.0.1),
      bound_more (fields ++ bound) (fields ++ more) given rest (fields_more fields bound more part) mark.1,
    )
    bound_more bound more given (Counted.if_unique x c fields used rest) part mark = (
      (part x mark.0.0, mark.0.1),
      bound_more (fields ++ bound) (fields ++ more) given rest (fields_more fields bound more part) mark.1,
    )
    bound_more bound more given (Counted.dup x rest) part mark = (part x mark.0, bound_more bound more given rest part mark.1)
    bound_more bound more given (Counted.drop x rest) part mark = (part x mark.0, bound_more bound more given rest part mark.1)

    arms_more : (bound more : List ℕ) (given : Bool) (arms : Counted.CountedArms) → Part bound more
        → HaveMark marks holds result bound given arms → HaveMark marks holds result more given arms
    arms_more bound more given Counted.no_arm part mark = tt
    arms_more bound more given (Counted.arm body rest) part mark =
        (bound_more bound more given body part mark.0, arms_more bound more given rest part mark.1)
