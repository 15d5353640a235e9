-- How many variables of each class a code owns: fields of cells, parameters, and results of forms and blocks.
use Rattle.std.proofs.Common.{◌≡◌, inl, inr, ℕ, suc, ◌+◌, ◌*◌, ◌≤◌, ◌||◌, Bool, true, false, not, List, [], ◌∷◌, ◌++◌, length, arith, refl, sym, ap, subst}
use Rattle.std.specs.Prelude.{if◌then◌else◌, filter}
use Rattle.kk_syntax.specs.declared.program.Form.TheVariants.{Call}
use Rattle.kk_syntax.specs.Patterns.{Pattern}
use Rattle.kk_syntax.specs.PositionsOf.{PositionTable}
use Rattle.kk_syntax.specs.Shapes.{is_among, without}
use Rattle.kk_core.specs.Codes.{Code, give, tail_call, case, compute, use_of, unpack, inside, Arms, no_arm, arm, patterns_of}
use Rattle.kk_counted.proofs.ListLengths.{total_ones, filter_few}
use Rattle.kk_counted.specs.Spending.{total, AreApart}
use Rattle.kk_insert.specs.Insertion.{before, common, used, lends, owns, own, own_arms}
use Rattle.kk_insert.proofs.Lengths.{few_below}
use Rattle.kk_insert.proofs.OwnedVariables.{owns_after, owns_apart, own_part, own_apart, own_arms_apart, rest_part}
use Rattle.kk_insert.proofs.Sets.{no_both, false_if, Part, one_only, among_first, among_next, among_append, in_front, filter_passes, in_without, without_clear, in_back, before_front, before_back, before_either, apart_filter, apart_before, total_before, total_parts, total_minus}
use Rattle.kk_insert.proofs.VariableBindings.{AreBelow, IsFine, AreFine}

-- ---- sums

-- what weighs less in each of a list weighs less in all
total_less : (one other : ℕ → ℕ) (xs : List ℕ) → ((y : ℕ) → is_among xs y ≡ true → one y ≤ other y) → total one xs ≤ total other xs
total_less one other [] less = omega arith
total_less one other (x ∷ xs) less =
    let first = less x (among_first x xs) in
    let rest = total_less one other xs (λ y is. less y (among_next x y xs is)) in
    omega (arith, first, rest)

-- variables without repetition weigh no more than those that they are among
pub part_total : (weight : ℕ → ℕ) (xs ys : List ℕ) → AreApart xs → AreApart ys → Part xs ys → total weight xs ≤ total weight ys
part_total weight xs ys apart_xs apart_ys part = let all = total_minus weight ys xs apart_ys apart_xs part in omega (arith, all)

-- ---- classes

abbrev pub field_weight : List ℕ → ℕ → ℕ
field_weight fields y = if is_among fields y then 1 else 0

abbrev parameter_weight : List ℕ → List ℕ → ℕ → ℕ
parameter_weight parameters fields y = if is_among fields y then 0 else (if is_among parameters y then 1 else 0)

-- neither fields nor parameters
abbrev pub result_weight : List ℕ → List ℕ → ℕ → ℕ
result_weight parameters fields y = if is_among fields y then 0 else (if is_among parameters y then 0 else 1)

-- what is owned: fields, results, and no more parameters than the function has
pub all_few : (count : ℕ) (parameters fields xs : List ℕ) → AreBelow parameters count → AreApart xs
    → length xs ≤ count + total (field_weight fields) xs + total (result_weight parameters fields) xs
all_few count parameters fields xs below apart =
    let few = few_below count (filter (is_among parameters) xs) (apart_filter (is_among parameters) xs apart)
    (λ y is. below y (filter_passes (is_among parameters) xs y is)) in
    omega (arith, counted xs, few)
  where
    counted : (ys : List ℕ) → length ys
        ≤ length (filter (is_among parameters) ys) + total (field_weight fields) ys + total (result_weight parameters fields) ys
    counted [] = omega arith
    counted (y ∷ ys) = by_tests (is_among fields y) (is_among parameters y) (counted ys)
      where
        by_tests : (f p : Bool)
            → length ys ≤ length (filter (is_among parameters) ys) + total (field_weight fields) ys
            + total (result_weight parameters fields) ys
            → suc (length ys) ≤ length (if p then y ∷ filter (is_among parameters) ys else filter (is_among parameters) ys)
            + ((if f then 1 else 0) + total (field_weight fields) ys)
            + ((if f then 0 else (if p then 0 else 1)) + total (result_weight parameters fields) ys)
        by_tests true true later = omega (arith, later)
        by_tests true false later = omega (arith, later)
        by_tests false true later = omega (arith, later)
        by_tests false false later = omega (arith, later)

-- parameters alone are neither fields nor results
pub only_parameters : (parameters xs : List ℕ) → Part xs parameters
    → (total (result_weight parameters []) xs ≡ 0) × (total (field_weight []) xs ≡ 0)
only_parameters parameters [] part = (refl, refl)
only_parameters parameters (x ∷ xs) part =
    let later = only_parameters parameters xs (λ y is. part y (among_next x y xs is)) in
    let none : result_weight parameters [] x ≡ 0 = ap (λ (t : Bool). if t then 0 else 1) (part x (among_first x xs)) in
    (omega (arith, later.0, none), omega (arith, later.1))

-- ---- bound variables

module _ (parameters fields : List ℕ) where
  -- a variable that is no field counts at most as one result
  pub one_result : (x : ℕ) (now : List ℕ) → AreApart now
      → total (result_weight parameters fields) now ≤ total (result_weight parameters fields) (without (x ∷ []) now) + 1
  one_result x now apart =
      let parts = total_parts (result_weight parameters fields) (x ∷ []) now in
      let one = part_total (result_weight parameters fields) (common (x ∷ []) now) (x ∷ [])
      (apart_filter (is_among (x ∷ [])) now apart) (refl, tt) (λ y is. filter_passes (is_among (x ∷ [])) now y is) in
      omega (arith, parts, one, by_tests (is_among fields x) (is_among parameters x))
    where
      by_tests : (f p : Bool) → (if f then 0 else (if p then 0 else 1)) ≤ 1
      by_tests true p = omega arith
      by_tests false true = omega arith
      by_tests false false = omega arith

  -- the fields of an opening are no results
  pub opened_results : (xs now : List ℕ)
      → total (result_weight parameters (xs ++ fields)) now ≤ total (result_weight parameters fields) (without xs now)
  opened_results xs now =
      let parts = total_parts (result_weight parameters (xs ++ fields)) xs now in
      let none = total_less (result_weight parameters (xs ++ fields)) (λ y. 0) (common xs now)
      (λ y is. fields_weigh y (in_front xs fields y (filter_passes (is_among xs) now y is))) in
      let less = total_less (result_weight parameters (xs ++ fields)) (result_weight parameters fields) (without xs now)
      (λ y is. fewer y) in
      omega (arith, parts, none, less, nothing (common xs now))
    where
      nothing : (ys : List ℕ) → total (λ y. 0) ys ≡ 0
      nothing [] = refl
      nothing (y ∷ ys) = omega (arith, nothing ys)

      fields_weigh : (y : ℕ) → is_among (xs ++ fields) y ≡ true → result_weight parameters (xs ++ fields) y ≤ 0
      fields_weigh y is = rw is (omega arith)

      fewer : (y : ℕ) → result_weight parameters (xs ++ fields) y ≤ result_weight parameters fields y
      fewer y =
          by_tests (is_among xs y) (is_among fields y) (is_among parameters y) (is_among (xs ++ fields) y)
          (among_append xs fields y)
        where
          by_tests : (a b p c : Bool) → c ≡ (a || b)
              → (if c then 0 else (if p then 0 else 1)) ≤ (if b then 0 else (if p then 0 else 1))
          by_tests a true p true is = omega arith
          by_tests a false true true is = omega arith
          by_tests a false false true is = omega arith
          by_tests a false p false is = omega arith
          by_tests true true p false is = absurd (cc)
          by_tests false true p false is = absurd (cc)

module _ (fields : List ℕ) where
  -- a variable that is no field is not counted with them
  pub no_field : (x : ℕ) (now : List ℕ) → AreApart now → is_among fields x ≡ false
      → total (field_weight fields) now ≤ total (field_weight fields) (without (x ∷ []) now)
  no_field x now apart other =
      let parts = total_parts (field_weight fields) (x ∷ []) now in
      let one = part_total (field_weight fields) (common (x ∷ []) now) (x ∷ [])
      (apart_filter (is_among (x ∷ [])) now apart) (refl, tt) (λ y is. filter_passes (is_among (x ∷ [])) now y is) in
      let none : field_weight fields x ≡ 0 = ap (λ (t : Bool). if t then 1 else 0) other in
      omega (arith, parts, one, none)

  -- the fields of an opening are fields
  pub opened_fields : (xs now : List ℕ) → AreApart xs → AreApart now
      → total (field_weight (xs ++ fields)) now ≤ length xs + total (field_weight fields) (without xs now)
  opened_fields xs now apart_xs apart =
      let parts = total_parts (field_weight (xs ++ fields)) xs now in
      let common_few = part_total (field_weight (xs ++ fields)) (common xs now) xs
      (apart_filter (is_among xs) now apart) apart_xs (λ y is. filter_passes (is_among xs) now y is) in
      let most = total_less (field_weight (xs ++ fields)) (λ y. 1) xs (λ y is. at_most (is_among (xs ++ fields) y)) in
      let less = total_less (field_weight (xs ++ fields)) (field_weight fields) (without xs now)
      (λ y is. same_field y (without_clear xs now y is)) in
      omega (arith, parts, common_few, most, less, total_ones xs)
    where
      at_most : (t : Bool) → (if t then 1 else 0) ≤ 1
      at_most true = omega arith
      at_most false = omega arith

      same_field : (y : ℕ) → is_among xs y ≡ false → field_weight (xs ++ fields) y ≤ field_weight fields y
      same_field y other = by_tests (is_among xs y) (is_among fields y) (is_among (xs ++ fields) y) other (among_append xs fields y)
        where
          by_tests : (a b c : Bool) → a ≡ false → c ≡ (a || b) → (if c then 1 else 0) ≤ (if b then 1 else 0)
          by_tests a true true none is = omega arith
          by_tests a b false none is = omega arith
          by_tests true false true none is = absurd (cc)
          by_tests false false true none is = absurd (cc)

  -- a field that is used up for the last time is one of those that are owned before
  pub field_spent : (lent : List ℕ) (x : ℕ) (after : List ℕ) → is_among lent x ≡ false → is_among after x ≡ false
      → is_among fields x ≡ true
      → total (field_weight fields) (owns lent (x ∷ []) after) ≡ total (field_weight fields) after + 1
  field_spent lent x after unlent last field =
      rw unlent (rw last (rw field (omega arith)))

-- ---- what a code owns at its start, and what is left at its end

-- a new variable is none of those before it
apart_from : (x y : ℕ) (bound : List ℕ) → is_among bound x ≡ false → is_among bound y ≡ true → is_among (x ∷ []) y ≡ false
apart_from x y bound fresh there =
    false_if (is_among (x ∷ []) y)
    (λ is. no_both ⊥ (is_among bound x) (subst (λ z. is_among bound z ≡ true) (sym (one_only x y is)) there) fresh)

module _ (positions : PositionTable) (lent : List ℕ) where
  -- what is owned behind the binding of a variable, but for that variable, was bound before
  pub kept_part : (left bound : List ℕ) (x : ℕ) (rest : Code) → IsFine lent (x ∷ bound) rest → Part left bound
      → Part (without (x ∷ []) (own positions lent left rest)) bound
  kept_part left bound x rest fine part =
      rest_part positions lent x (own positions lent left rest) bound
      (own_part positions lent left (x ∷ bound) rest fine (λ y is. among_next x y bound (part y is)))

  mutual
    -- what a code leaves it owns from its start on
    pub left_part : (left bound : List ℕ) (code : Code) → IsFine lent bound code → Part left bound
        → Part left (own positions lent left code)
    left_part left bound (give x) fine part y is = owns_after positions lent (x ∷ []) left y is
    left_part left bound (tail_call f arguments) fine part y is =
        owns_after positions lent (used positions (Call f) arguments) left y is
    left_part left bound (case x decisions arms) fine part y is =
        owns_after positions lent (x ∷ []) (own_arms positions lent left arms) y (left_arms_part left bound arms fine.1 part y is)
    left_part left bound (compute x form arguments rest) fine part y is =
        let kept = without (x ∷ []) (own positions lent left rest) in
        owns_after positions lent (used positions form arguments) (owns lent (lends positions form arguments) kept) y
        (owns_after positions lent (lends positions form arguments) kept y
        (in_without (x ∷ []) (own positions lent left rest) y
        (left_part left (x ∷ bound) rest fine.1.1.1 (λ z there. among_next x z bound (part z there)) y is)
        (apart_from x y bound fine.1.0 (part y is))))
    left_part left bound (use_of x rest) fine part y is =
        owns_after positions lent (x ∷ []) (own positions lent left rest) y (left_part left bound rest fine.1 part y is)
    left_part left bound (unpack x c fields rest) fine part y is =
        owns_after positions lent (x ∷ []) (without fields (own positions lent left rest)) y
        (in_without fields (own positions lent left rest) y
        (left_part left (fields ++ bound) rest fine.1.1.1.1 (λ z there. in_back fields bound z (part z there)) y is)
        (false_if (is_among fields y) (λ there. no_both ⊥ (is_among bound y) (part y is) (fine.1.1.0 y there))))
    left_part left bound (inside x block rest) fine part y is =
        left_part (without (x ∷ []) (own positions lent left rest)) bound block fine.0
        (kept_part left bound x rest fine.1.1.1 part) y
        (in_without (x ∷ []) (own positions lent left rest) y
        (left_part left (x ∷ bound) rest fine.1.1.1 (λ z there. among_next x z bound (part z there)) y is)
        (apart_from x y bound fine.1.0 (part y is)))

    left_arms_part : (left bound : List ℕ) (arms : Arms) → AreFine lent bound arms → Part left bound
        → Part left (own_arms positions lent left arms)
    left_arms_part left bound no_arm fine part y is = is
    left_arms_part left bound (arm pattern body rest) fine part y is =
        before_back (own positions lent left body) (own_arms positions lent left rest) y
        (left_arms_part left bound rest fine.1 part y is)

  -- ---- the drops before arms

  -- how much the arms drop of what is owned before them, in all
  abbrev pub arms_drops : List ℕ → List ℕ → Arms → ℕ
  arms_drops left all no_arm = 0
  arms_drops left all (arm pattern body rest) = length (without (own positions lent left body) all) + arms_drops left all rest

  before_length : (xs ys : List ℕ) → length (before xs ys) ≤ length xs + length ys
  before_length xs ys =
      omega (arith, total_before (λ x. 1) xs ys, total_ones xs, total_ones ys, total_ones (before xs ys))

  arm_drops : (left bound all : List ℕ) (body : Code) → IsFine lent bound body → Part left bound → AreApart left → AreApart all
      → Part (own positions lent left body) all
      → length (without (own positions lent left body) all) + length (own positions lent left body) ≡ length all
  arm_drops left bound all body fine part apart each within =
      let now = own positions lent left body in
      let all_of = total_minus (λ x. 1) all now each (own_apart positions lent left body apart) within in
      omega (arith, all_of, total_ones all, total_ones now, total_ones (without now all))

  -- each variable that some arm owns is not dropped before that arm
  few_drops : (left bound all : List ℕ) (pattern : Pattern) (body : Code) (rest : Arms) → AreFine lent bound (arm pattern body rest)
      → Part left bound → AreApart left → AreApart all → Part (own_arms positions lent left (arm pattern body rest)) all
      → length (own_arms positions lent left (arm pattern body rest)) + arms_drops left all (arm pattern body rest)
      ≤ (length (patterns_of rest) + 1) * length all
  few_drops left bound all pattern body no_arm fine part apart each within =
      let now = own positions lent left body in
      let same = arm_drops left bound all body fine.0 part apart each
      (λ y is. within y (before_front now left y is)) in
      let less = part_total (λ x. 1) (before now left) now (apart_before now left apart) (own_apart positions lent left body apart)
      (λ y is. elim (before_either now left y is)
      [ inl here ↦ here | inr there ↦ left_part left bound body fine.0 part y there ]) in
      omega (arith, same, less, total_ones now, total_ones (before now left))
  few_drops left bound all pattern body (arm other next rest) fine part apart each within =
      let now = own positions lent left body in
      let same = arm_drops left bound all body fine.0 part apart each
      (λ y is. within y (before_front now (own_arms positions lent left (arm other next rest)) y is)) in
      let later = few_drops left bound all other next rest fine.1 part apart each
      (λ y is. within y (before_back now (own_arms positions lent left (arm other next rest)) y is)) in
      let both = before_length now (own_arms positions lent left (arm other next rest)) in
      omega (arith, same, later, both)

  -- All arms but one drop each variable at most, and that of the case one more.
  pub case_drops : (left bound : List ℕ) (x : ℕ) (pattern : Pattern) (body : Code) (rest : Arms)
      → AreFine lent bound (arm pattern body rest) → Part left bound → AreApart left
      → let all = owns lent (x ∷ []) (own_arms positions lent left (arm pattern body rest)) in
      arms_drops left all (arm pattern body rest) ≤ length (patterns_of rest) * length all + 1
  case_drops left bound x pattern body rest fine part apart =
      let arms = own_arms positions lent left (arm pattern body rest) in
      let all = owns lent (x ∷ []) arms in
      let apart_arms = own_arms_apart positions lent left (arm pattern body rest) apart in
      let few = few_drops left bound all pattern body rest fine part apart (owns_apart positions lent (x ∷ []) arms apart_arms)
      (owns_after positions lent (x ∷ []) arms) in
      let most = before_length (without lent (x ∷ [])) arms in
      let one = filter_few (λ y. not (is_among lent y)) (x ∷ []) in
      omega (arith, few, most, one)
