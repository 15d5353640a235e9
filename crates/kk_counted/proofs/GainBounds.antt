-- What code spends on a path is no more than what it owns and gains.
use Rattle.std.proofs.Common.{◌≡◌, ◌⊎◌, inl, inr, ℕ, suc, ◌+◌, ◌≤◌, ◌<◌, Bool, List, [], ◌∷◌, ◌++◌, length, Option, Some, None, arith, refl, ap}
use Rattle.std.proofs.lemmas.Bool.{cases_lt}
use Rattle.std.specs.Prelude.{filter}
use Rattle.kk_counted.proofs.Evenness.{total_append}
use Rattle.kk_counted.proofs.ListLengths.{total_ones, filter_few, numbers_length}
use Rattle.kk_counted.proofs.OwnedBounds.{many, few_at}
use Rattle.kk_counted.specs.CountBounds.{HasAnArm, SpendsAtMost, SpendAtMost, EachHasAnArm, AllHaveAnArm, gains, gains_in}
use Rattle.kk_counted.specs.CountedCodes.{Counted, give, tail_call, case, compute, inside, read, open_cell, if_unique, dup, drop, CountedArms, no_arm, arm, CountedFunction}
use Rattle.kk_counted.specs.Spending.{at_positions, numbers_from, left_by, is_owned, used_by, Spends, SpendsAll, SpendsParameters}
use Rattle.kk_syntax.specs.PositionsOf.{PositionTable}
use Rattle.kk_syntax.specs.Shapes.{is_among}

-- ---- more may be spent

mutual
  pub more_spent : (code : Counted) (n m : ℕ) → n ≤ m → SpendsAtMost code n → SpendsAtMost code m
  more_spent (give x) n m less small = omega (arith, less, small)
  more_spent (tail_call f arguments) n m less small = omega (arith, less, small)
  more_spent (case x decisions arms) n m less small = (small.0, more_spent_arms arms n m less small.1)
  more_spent (compute x form arguments rest) n m less small = (small.0, (omega (arith, less, small.1.0), small.1.1))
  more_spent (inside x block rest) n m less small = (small.0, (small.1.0, (omega (arith, less, small.1.1.0), small.1.1.1)))
  more_spent (read x c fields rest) n m less small = more_spent rest n m less small
  more_spent (open_cell x c fields used rest) n m less small = (small.0, (omega (arith, less, small.1.0), small.1.1))
  more_spent (if_unique x c fields used rest) n m less small = (small.0, (omega (arith, less, small.1.0), small.1.1))
  more_spent (dup x rest) n m less small = more_spent rest n m less small
  more_spent (drop x rest) n m less small = (small.0, (omega (arith, less, small.1.0), small.1.1))

  pub more_spent_arms : (arms : CountedArms) (n m : ℕ) → n ≤ m → SpendAtMost arms n → SpendAtMost arms m
  more_spent_arms no_arm n m less small = tt
  more_spent_arms (arm body rest) n m less small = (more_spent body n m less small.0, more_spent_arms rest n m less small.1)

-- some of a list and another list are as many as both at most
few_more : (test : ℕ → Bool) (xs ys : List ℕ) → many (filter test xs ++ ys) ≤ length xs + many ys
few_more test xs ys =
    let same = total_ones (filter test xs) in
    let few = filter_few test xs in
    omega (arith, same, few, total_append (λ x. 1) (filter test xs) ys)

-- the greater of two numbers
record Greater (a b : ℕ) : Type 0 where
  n : ℕ
  one : a ≤ n
  two : b ≤ n
  either : (n ≡ a) ⊎ (n ≡ b)

greater : (a b : ℕ) → Greater a b
greater a b = by_order (cases_lt a b)
  where
    by_order : (a < b) ⊎ (b ≤ a) → Greater a b
    by_order (inl less) = record { n = b; one = omega (arith, less); two = omega arith; either = inr refl }
    by_order (inr least) = record { n = a; one = omega arith; two = least; either = inl refl }

greater_within : (a b left bound : ℕ) (g : Greater a b) → a + left ≤ bound → b + left ≤ bound → g.n + left ≤ bound
greater_within a b left bound g one two = by_case g.either
  where
    by_case : (g.n ≡ a) ⊎ (g.n ≡ b) → g.n + left ≤ bound
    by_case (inl is) = omega (arith, is, one)
    by_case (inr is) = omega (arith, is, two)

module _ (positions : PositionTable) (functions : List CountedFunction) where
  mutual
    pub spends_gains : (lent readable : List ℕ) (left : Option (List ℕ)) (owned : List ℕ) (code : Counted)
        → Spends positions functions lent readable left owned code → EachHasAnArm code
        → (n : ℕ) × ((n + many (left_by left) ≤ many owned + gains code) × SpendsAtMost code n)
    spends_gains lent readable left owned (give x) s has = (1, (omega (arith, s (λ x. 1)), omega arith))
    spends_gains lent readable left owned (tail_call f arguments) s has =
        (length arguments, (omega (arith, ap (λ l. many (left_by l)) s.0), omega arith))
    spends_gains lent readable left owned (case x decisions arms) s has =
        let all = arms_gain lent left s.0 arms s.1.1.1 has.0 has.1 in
        (all.0, (omega (arith, all.1.0, s.1.0 (λ x. 1)), (has.0, all.1.1)))
    spends_gains lent readable left owned (compute x form arguments rest) s has =
        let after = spends_gains lent [] left (x ∷ s.0) rest s.1.1.1.1.1.1 has in (
          length arguments + after.0,
          (
            omega (arith, after.1.0, s.1.0 (λ x. 1), total_append (λ x. 1) (used_by positions functions form arguments) s.0),
            (after.0, (omega arith, after.1.1)),
          ),
        )
    spends_gains lent readable left owned (inside x block rest) s has =
        let one = spends_gains lent [] (Some s.1.0) s.0 block s.1.1.1.1.1.0 has.0 in
        let two = spends_gains lent [] left (x ∷ s.1.0) rest s.1.1.1.1.1.1 has.1 in (
          one.0 + two.0,
          (omega (arith, one.1.0, two.1.0, s.1.1.0 (λ x. 1)), (one.0, (two.0, (omega arith, (one.1.1, two.1.1))))),
        )
    spends_gains lent readable left owned (read x c fields rest) s has =
        let after = spends_gains lent fields left s.0 rest s.1.1.1.1 has in
        (after.0, (omega (arith, after.1.0, s.1.0 (λ x. 1)), after.1.1))
    spends_gains lent readable left owned (open_cell x c fields used rest) s has =
        let after = spends_gains lent [] left (filter (is_among used) fields ++ s.0) rest s.1.1.1.1.1 has in
        let more = few_more (is_among used) fields s.0 in
        (suc after.0, (omega (arith, after.1.0, s.1.0 (λ x. 1), more), (after.0, (omega arith, after.1.1))))
    spends_gains lent readable left owned (if_unique x c fields used rest) s has =
        let after = spends_gains lent [] left (filter (is_among used) fields ++ s.0) rest s.1.1.1.1.1 has in
        let more = few_more (is_among used) fields s.0 in
        (suc after.0, (omega (arith, after.1.0, s.1.0 (λ x. 1), more), (after.0, (omega arith, after.1.1))))
    spends_gains lent readable left owned (dup x rest) s has =
        let after = spends_gains lent readable left (x ∷ s.0) rest s.1.1.1 has in
        (after.0, (omega (arith, after.1.0, s.1.0 (λ x. 1)), after.1.1))
    spends_gains lent readable left owned (drop x rest) s has =
        let after = spends_gains lent [] left s.0 rest s.1.1 has in
        (suc after.0, (omega (arith, after.1.0, s.1.0 (λ x. 1)), (after.0, (omega arith, after.1.1))))

    arms_gain : (lent : List ℕ) (left : Option (List ℕ)) (owned : List ℕ) (arms : CountedArms)
        → SpendsAll positions functions lent left owned arms → HasAnArm arms → AllHaveAnArm arms
        → (n : ℕ) × ((n + many (left_by left) ≤ many owned + gains_in arms) × SpendAtMost arms n)
    arms_gain lent left owned no_arm s has each = absurd has
    arms_gain lent left owned (arm body rest) s has each =
        let one = spends_gains lent [] left owned body s.0 each.0 in
        let all = others_gain lent left owned rest one.0 (gains body) s.1 each.1 one.1.0 in
        (all.0, (omega (arith, all.1.1.0), (more_spent body one.0 all.0 all.1.0 one.1.1, all.1.1.1)))

    -- the other arms, behind one that spends so many
    others_gain : (lent : List ℕ) (left : Option (List ℕ)) (owned : List ℕ) (arms : CountedArms) (first gained : ℕ)
        → SpendsAll positions functions lent left owned arms → AllHaveAnArm arms → first + many (left_by left) ≤ many owned + gained
        → (n : ℕ) × ((first ≤ n) × ((n + many (left_by left) ≤ many owned + (gained + gains_in arms)) × SpendAtMost arms n))
    others_gain lent left owned no_arm first gained s each within = (first, (omega arith, (omega (arith, within), tt)))
    others_gain lent left owned (arm body rest) first gained s each within =
        let one = spends_gains lent [] left owned body s.0 each.0 in
        let g = greater first one.0 in
        let all = others_gain lent left owned rest g.n (gained + gains body) s.1 each.1
        (greater_within first one.0 (many (left_by left)) (many owned + (gained + gains body)) g (omega (arith, within))
        (omega (arith, one.1.0))) in (
          all.0,
          (
            omega (arith, g.one, all.1.0),
            (omega (arith, all.1.1.0), (more_spent body one.0 all.0 (omega (arith, g.two, all.1.0)) one.1.1, all.1.1.1)),
          ),
        )

  -- a function's code spends at most its parameters and what it gains
  pub function_spends : (f : ℕ) (function : CountedFunction) → SpendsParameters positions functions f function
      → EachHasAnArm function.body
      → SpendsAtMost function.body (function.parameters + gains function.body)
  function_spends f function s has =
      let all = spends_gains s.0 [] None (at_positions (is_owned positions functions f) 0 (numbers_from 0 function.parameters))
      function.body s.1.1 has in
      more_spent function.body all.0 (function.parameters + gains function.body)
      (omega (
        arith,
        all.1.0,
        few_at (is_owned positions functions f) 0
            (numbers_from 0 function.parameters),
        numbers_length 0 function.parameters,
      ))
      all.1.1
