-- The variables of inserted code are numbered in order, as those of the core form are.
use Rattle.std.proofs.Common.{◌≡◌, ℕ, zero, suc, ◌+◌, ◌≤◌, ◌<◌, ◌||◌, ◌==◌, inl, inr, Bool, true, false, List, [], ◌∷◌, ◌++◌, arith}
use Rattle.kk_syntax.specs.Shapes.{is_among, without}
use Rattle.kk_syntax.specs.declared.program.Form.TheVariants.{Call}
use Rattle.kk_syntax.specs.PositionsOf.{PositionTable}
use Rattle.kk_core.specs.Codes.{Code, give, tail_call, case, compute, use_of, unpack, inside, Arms, no_arm, arm, FunctionCode}
use Rattle.kk_core.specs.Sizes.{Rise, Ordered, OrderedArms, below, IsOrdered}
use Rattle.kk_counted.specs.CountedCodes as Counted
use Rattle.kk_counted.specs.Lowerable.{AreBelow, AreFieldsNumbered, AreNumbered, AreArmsNumbered}
use Rattle.kk_counted.specs.Spending.{at_positions, numbers_from, is_owned}
use Rattle.kk_insert.specs.Insertion.{common, used, lends, owns, wants, back, opening, lent_of, own, insert, insert_arms, inserted_function}
use Rattle.kk_insert.proofs.VariableBindings.{rise_high, rise_in, rise_apart, ordered_high, arms_high}
use Rattle.kk_insert.proofs.Sets.{false_if, or_cases}
use Rattle.kk_insert.proofs.DupPrefixes.{through_dups, through_dropping, through_back}
use Rattle.kk_counted.proofs.CountChanges.{same}

-- ---- lists below a number

pub below_more : (low later : ℕ) (xs : List ℕ) → low ≤ later → AreBelow low xs → AreBelow later xs
below_more low later [] le all = tt
below_more low later (x ∷ xs) le all = (omega (arith, le, all.0), below_more low later xs le all.1)

among_below : (low : ℕ) (xs : List ℕ) (y : ℕ) → AreBelow low xs → is_among xs y ≡ true → y < low
among_below low [] y all is = absurd (cc)
among_below low (x ∷ xs) y all is =
    elim (or_cases (x == y) (is_among xs y) is)
    [ inl here ↦ omega (arith, all.0, same x y here) | inr there ↦ among_below low xs y all.1 there ]

below_append : (low : ℕ) (xs ys : List ℕ) → AreBelow low xs → AreBelow low ys → AreBelow low (xs ++ ys)
below_append low [] ys first second = second
below_append low (x ∷ xs) ys first second = (first.0, below_append low xs ys first.1 second)

rise_below : (low : ℕ) (xs : List ℕ) (high : ℕ) → Rise low xs high → AreBelow high xs
rise_below low [] high rise = tt
rise_below low (x ∷ xs) high rise =
    let more : x + 1 ≤ high = rise_high (x + 1) xs high rise.1 in (omega (arith, more), rise_below (x + 1) xs high rise.1)

numbers_below : (next count : ℕ) → AreBelow (next + count) (numbers_from next count)
numbers_below next zero = tt
numbers_below next (suc count) =
    (omega arith, below_more (suc next + count) (next + suc count) (numbers_from (suc next) count) (omega arith) (numbers_below (suc next) count))

downwards_below : (n : ℕ) → AreBelow n (below n)
downwards_below zero = tt
downwards_below (suc n) = (omega arith, below_more n (suc n) (below n) (omega arith) (downwards_below n))

-- ---- codes

module _ (positions : PositionTable) (lent : List ℕ) (base : ℕ) where
  abbrev Has : List ℕ → Counted.Counted → Type 0
  Has names code = AreNumbered base names code

  kept_dup : (names : List ℕ) (x : ℕ) (code : Counted.Counted) → Has names code → Has names (Counted.dup x code)
  kept_dup names x code has = has

  kept_drop : (names : List ℕ) (x : ℕ) (code : Counted.Counted) → Has names code → Has names (Counted.drop x code)
  kept_drop names x code has = has

  opened : (stays : Bool) (names : List ℕ) (x c : ℕ) (fields in_use : List ℕ) (code : Counted.Counted)
      → AreFieldsNumbered base x fields → Has (fields ++ names) code → Has names (opening stays x c fields in_use code)
  opened true names x c fields in_use code are has =
      (are, through_dups (Has (fields ++ names)) (kept_dup (fields ++ names)) (kept_drop (fields ++ names)) in_use code has)
  opened false names x c fields in_use code are has = (are, has)

  fields_numbered : (bound : List ℕ) (low x : ℕ) (fields : List ℕ) (middle : ℕ) → AreBelow low bound → is_among bound x ≡ true
      → Rise low fields middle → middle ≤ base → AreFieldsNumbered base x fields
  fields_numbered bound low x fields middle under is rise le = (
    below_more middle base fields le (rise_below low fields middle rise),
    (
      false_if (is_among fields x) (λ there. absurd (omega (arith, among_below low bound x under is, (rise_in low fields middle x rise there).0))),
      rise_apart low fields middle rise,
    ),
  )

  mutual
    numbered : (left bound names : List ℕ) (low : ℕ) (code : Code) (high : ℕ) → Ordered bound low code high → high ≤ base
        → AreBelow low bound → AreBelow low names → Has names (insert positions lent left code)
    numbered left bound names low (give x) high o le under named =
        through_dups (Has names) (kept_dup names) (kept_drop names) (wants lent (x ∷ []) left) (Counted.give x) tt
    numbered left bound names low (tail_call f arguments) high o le under named =
        through_dups (Has names) (kept_dup names) (kept_drop names) (wants lent (used positions (Call f) arguments) left)
        (Counted.tail_call f arguments) tt
    numbered left bound names low (case x decisions arms) high o le under named =
        arms_numbered left (own positions lent left (case x decisions arms)) bound names low arms high o.1 le under named
    numbered left bound names low (compute x form arguments rest) high o le under named =
        let now = own positions lent left rest in
        let given = lends positions form arguments in
        let high_is : x + 1 ≤ high = ordered_high (x ∷ bound) (x + 1) rest high o.2 in
        through_dups (Has names) (kept_dup names) (kept_drop names)
        (wants lent (used positions form arguments) (owns lent given (without (x ∷ []) now)))
        (Counted.compute x form arguments (back lent given x now (insert positions lent left rest))) (
          omega (arith, high_is, le),
          (
            below_more low x names o.1 named,
            through_back (Has (x ∷ names)) (kept_dup (x ∷ names)) (kept_drop (x ∷ names)) lent given x now (insert positions lent left rest)
                (numbered left (x ∷ bound) (x ∷ names) (x + 1) rest high o.2 le
                (omega arith, below_more low (x + 1) bound (omega (arith, o.1)) under)
                (omega arith, below_more low (x + 1) names (omega (arith, o.1)) named)),
          ),
        )
    numbered left bound names low (use_of x rest) high o le under named =
        through_dropping (Has names) (kept_dup names) (kept_drop names) (own positions lent left (use_of x rest)) (own positions lent left rest)
        (insert positions lent left rest) (numbered left bound names low rest high o.1 le under named)
    numbered left bound names low (unpack x c fields rest) high o le under named =
        let now = own positions lent left rest in
        let more : low ≤ o.0 = rise_high low fields o.0 o.2 in
        let middle : o.0 ≤ high = ordered_high (fields ++ bound) o.0 rest high o.3 in
        opened (is_among lent x || is_among now x) names x c fields (common now fields) (insert positions lent left rest)
        (fields_numbered bound low x fields o.0 under o.1 o.2 (omega (arith, middle, le)))
        (numbered left (fields ++ bound) (fields ++ names) o.0 rest high o.3 le
        (below_append o.0 fields bound (rise_below low fields o.0 o.2) (below_more low o.0 bound more under))
        (below_append o.0 fields names (rise_below low fields o.0 o.2) (below_more low o.0 names more named)))
    numbered left bound names low (inside x block rest) high o le under named =
        let now = own positions lent left rest in
        let more : low ≤ x = ordered_high bound low block x o.0 in
        let high_is : x + 1 ≤ high = ordered_high (x ∷ bound) (x + 1) rest high o.1 in (
          omega (arith, high_is, le),
          (
            numbered (without (x ∷ []) now) bound names low block x o.0 (omega (arith, high_is, le)) under named,
            through_dropping (Has (x ∷ names)) (kept_dup (x ∷ names)) (kept_drop (x ∷ names)) (x ∷ []) now (insert positions lent left rest)
                (numbered left (x ∷ bound) (x ∷ names) (x + 1) rest high o.1 le
                (omega arith, below_more low (x + 1) bound (omega (arith, more)) under)
                (omega arith, below_more low (x + 1) names (omega (arith, more)) named)),
          ),
        )

    arms_numbered : (left all bound names : List ℕ) (low : ℕ) (arms : Arms) (high : ℕ) → OrderedArms bound low arms high → high ≤ base
        → AreBelow low bound → AreBelow low names → AreArmsNumbered base names (insert_arms positions lent left all arms)
    arms_numbered left all bound names low no_arm high o le under named = tt
    arms_numbered left all bound names low (arm pattern body rest) high o le under named =
        let more : low ≤ o.0 = ordered_high bound low body o.0 o.1 in
        let middle : o.0 ≤ high = arms_high bound o.0 rest high o.2 in (
          through_dropping (Has names) (kept_dup names) (kept_drop names) all (own positions lent left body) (insert positions lent left body)
              (numbered left bound names low body o.0 o.1 (omega (arith, middle, le)) under named),
          arms_numbered left all bound names o.0 rest high o.2 le (below_more low o.0 bound more under) (below_more low o.0 names more named),
        )

pub function_numbered : (positions : PositionTable) (f base : ℕ) (function : FunctionCode) → IsOrdered function
    → function.variables ≤ base
    → AreNumbered base (numbers_from 0 function.parameters) (inserted_function positions f function).body
function_numbered positions f base function ordered le =
    let lent = lent_of positions f function in
    let names = numbers_from 0 function.parameters in
    through_dropping (AreNumbered base names) (λ x code has. has) (λ x code has. has)
    (at_positions (is_owned positions [] f) 0 names)
    (own positions lent [] function.body) (insert positions lent [] function.body)
    (numbered positions lent base [] (below function.parameters) names function.parameters function.body function.variables ordered le
    (downwards_below function.parameters)
    (below_more (0 + function.parameters) function.parameters names (omega arith) (numbers_below 0 function.parameters)))
