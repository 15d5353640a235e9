-- What a code owns is below the number of its function's variables.
use Rattle.std.proofs.Common.{◌≡◌, ◌⊎◌, inl, inr, ℕ, ◌+◌, ◌≤◌, ◌<◌, Bool, true, not, List, [], ◌∷◌, ◌++◌, arith}
use Rattle.std.specs.Prelude.{filter}
use Rattle.kk_syntax.specs.Shapes.{is_among, without}
use Rattle.kk_syntax.specs.declared.program.Form.TheVariants.{Call}
use Rattle.kk_syntax.specs.PositionsOf.{PositionTable}
use Rattle.kk_core.specs.Codes.{Code, give, tail_call, case, compute, use_of, unpack, inside, Arms, no_arm, arm}
use Rattle.kk_core.specs.Sizes.{AreBound, Rise, Ordered, OrderedArms}
use Rattle.kk_insert.specs.Insertion.{before, used, lends, owns, own, own_arms}
use Rattle.kk_insert.proofs.VariableBindings.{AreBelow, one_below, rise_high, rise_in, ordered_high, arms_high, bound_part}
use Rattle.kk_insert.proofs.OwnedVariables.{owns_either, used_part, lends_part}
use Rattle.kk_insert.proofs.Sets.{one_only, in_either, filter_in, before_either}

pub more_below : (low later : ℕ) (xs : List ℕ) → low ≤ later → AreBelow xs low → AreBelow xs later
more_below low later xs le below y is = let less = below y is in omega (arith, le, less)

pub filter_below : (n : ℕ) (test : ℕ → Bool) (xs : List ℕ) → AreBelow xs n → AreBelow (filter test xs) n
filter_below n test xs below y is = below y (filter_in test xs y is)

-- the variables that are bound behind an opening
pub fields_below : (bound : List ℕ) (low : ℕ) (fields : List ℕ) (high : ℕ) → AreBelow bound low → Rise low fields high
    → AreBelow (fields ++ bound) high
fields_below bound low fields high below rise y is = either (in_either fields bound y is)
  where
    either : (is_among fields y ≡ true) ⊎ (is_among bound y ≡ true) → y < high
    either (inl here) = (rise_in low fields high y rise here).1
    either (inr there) = let less = below y there in let more = rise_high low fields high rise in omega (arith, less, more)

module _ (positions : PositionTable) (lent : List ℕ) (most : ℕ) where
  one_of : (bound : List ℕ) (low x : ℕ) → AreBelow bound low → low ≤ most → is_among bound x ≡ true → AreBelow (x ∷ []) most
  one_of bound low x below le there y is =
      let less = below x there in let same = one_only x y is in omega (arith, less, same, le)

  some_of : (bound : List ℕ) (low : ℕ) (xs : List ℕ) → AreBelow bound low → low ≤ most → AreBound bound xs → AreBelow xs most
  some_of bound low xs below le all y is = let less = below y (bound_part bound xs all y is) in omega (arith, less, le)

  owns_below : (xs after : List ℕ) → AreBelow xs most → AreBelow after most → AreBelow (owns lent xs after) most
  owns_below xs after one two y is =
      elim (owns_either positions lent xs after y is) [ inl here ↦ one y here | inr there ↦ two y there ]

  before_below : (xs ys : List ℕ) → AreBelow xs most → AreBelow ys most → AreBelow (before xs ys) most
  before_below xs ys one two y is = elim (before_either xs ys y is) [ inl here ↦ one y here | inr there ↦ two y there ]

  mutual
    pub own_below : (left bound : List ℕ) (low : ℕ) (code : Code) (high : ℕ) → Ordered bound low code high → high ≤ most
        → AreBelow bound low → AreBelow left most → AreBelow (own positions lent left code) most
    own_below left bound low (give x) high o le below under =
        owns_below (x ∷ []) left (one_of bound low x below (omega (arith, o.1, le)) o.0) under
    own_below left bound low (tail_call f arguments) high o le below under =
        owns_below (used positions (Call f) arguments) left
        (λ y is. some_of bound low arguments below (omega (arith, o.1, le)) o.0 y
        (used_part positions (Call f) arguments y is)) under
    own_below left bound low (case x decisions arms) high o le below under =
        let more : low ≤ high = arms_high bound low arms high o.1 in
        owns_below (x ∷ []) (own_arms positions lent left arms) (one_of bound low x below (omega (arith, more, le)) o.0)
        (own_arms_below left bound low arms high o.1 le below under)
    own_below left bound low (compute x form arguments rest) high o le below under =
        let now = own positions lent left rest in
        let more : x + 1 ≤ high = ordered_high (x ∷ bound) (x + 1) rest high o.2 in
        let all : AreBelow arguments most = some_of bound low arguments below (omega (arith, o.1, more, le)) o.0 in
        owns_below (used positions form arguments) (owns lent (lends positions form arguments) (without (x ∷ []) now))
        (λ y is. all y (used_part positions form arguments y is))
        (owns_below (lends positions form arguments) (without (x ∷ []) now)
        (λ y is. all y (lends_part positions form arguments y is))
        (filter_below most (λ z. not (is_among (x ∷ []) z)) now
        (own_below left (x ∷ bound) (x + 1) rest high o.2 le (λ y is. one_below x low y bound below o.1 is) under)))
    own_below left bound low (use_of x rest) high o le below under =
        let more : low ≤ high = ordered_high bound low rest high o.1 in
        owns_below (x ∷ []) (own positions lent left rest) (one_of bound low x below (omega (arith, more, le)) o.0)
        (own_below left bound low rest high o.1 le below under)
    own_below left bound low (unpack x c fields rest) high o le below under =
        let now = own positions lent left rest in
        let more : low ≤ o.0 = rise_high low fields o.0 o.2 in
        let middle : o.0 ≤ high = ordered_high (fields ++ bound) o.0 rest high o.3 in
        owns_below (x ∷ []) (without fields now) (one_of bound low x below (omega (arith, more, middle, le)) o.1)
        (filter_below most (λ z. not (is_among fields z)) now
        (own_below left (fields ++ bound) o.0 rest high o.3 le (fields_below bound low fields o.0 below o.2) under))
    own_below left bound low (inside x block rest) high o le below under =
        let now = own positions lent left rest in
        let more : low ≤ x = ordered_high bound low block x o.0 in
        let middle : x + 1 ≤ high = ordered_high (x ∷ bound) (x + 1) rest high o.1 in
        own_below (without (x ∷ []) now) bound low block x o.0 (omega (arith, middle, le)) below
        (filter_below most (λ z. not (is_among (x ∷ []) z)) now
        (own_below left (x ∷ bound) (x + 1) rest high o.1 le (λ y is. one_below x low y bound below more is) under))

    own_arms_below : (left bound : List ℕ) (low : ℕ) (arms : Arms) (high : ℕ) → OrderedArms bound low arms high → high ≤ most
        → AreBelow bound low → AreBelow left most → AreBelow (own_arms positions lent left arms) most
    own_arms_below left bound low no_arm high o le below under = under
    own_arms_below left bound low (arm pattern body rest) high o le below under =
        let more : low ≤ o.0 = ordered_high bound low body o.0 o.1 in
        let middle : o.0 ≤ high = arms_high bound o.0 rest high o.2 in
        before_below (own positions lent left body) (own_arms positions lent left rest)
        (own_below left bound low body o.0 o.1 (omega (arith, middle, le)) below under)
        (own_arms_below left bound o.0 rest high o.2 le (more_below low o.0 bound more below) under)
