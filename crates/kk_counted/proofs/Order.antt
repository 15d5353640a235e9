-- Code spends what it owns in any order.
use Rattle.std.proofs.Common.{ℕ, List, Option, ◌∙◌}
use Rattle.kk_syntax.specs.PositionsOf.{PositionTable}
use Rattle.kk_counted.specs.CountedCodes.{Counted, give, tail_call, case, compute, inside, read, open_cell, if_unique, dup, drop, CountedFunction}
use Rattle.kk_counted.specs.Spending.{AreEven, Spends}

module _ (positions : PositionTable) (functions : List CountedFunction) where
  pub spends_even : (lent readable : List ℕ) (left : Option (List ℕ)) (owned other : List ℕ) → AreEven other owned → (code : Counted) → Spends positions functions lent readable left owned code → Spends positions functions lent readable left other code
  spends_even lent readable left owned other even (give x) s = λ weight. even weight ∙ s weight
  spends_even lent readable left owned other even (tail_call f arguments) s = (s.0, (s.1.0, (s.1.1.0, λ weight. even weight ∙ s.1.1.1 weight)))
  spends_even lent readable left owned other even (case x decisions arms) s = (s.0, (λ weight. even weight ∙ s.1.0 weight, s.1.1))
  spends_even lent readable left owned other even (compute x form arguments rest) s = (s.0, (λ weight. even weight ∙ s.1.0 weight, s.1.1))
  spends_even lent readable left owned other even (inside x block rest) s = (s.0, (s.1.0, (λ weight. even weight ∙ s.1.1.0 weight, s.1.1.1)))
  spends_even lent readable left owned other even (read x c fields rest) s = (s.0, (λ weight. even weight ∙ s.1.0 weight, s.1.1))
  spends_even lent readable left owned other even (open_cell x c fields used rest) s = (s.0, (λ weight. even weight ∙ s.1.0 weight, s.1.1))
  spends_even lent readable left owned other even (if_unique x c fields used rest) s = (s.0, (λ weight. even weight ∙ s.1.0 weight, s.1.1))
  spends_even lent readable left owned other even (dup x rest) s = (s.0, (λ weight. even weight ∙ s.1.0 weight, s.1.1))
  spends_even lent readable left owned other even (drop x rest) s = (s.0, (λ weight. even weight ∙ s.1.0 weight, s.1.1))
