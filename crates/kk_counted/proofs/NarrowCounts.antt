-- In each state of a run each count is narrow.
use Rattle.std.proofs.Common.{◌≡◌, ℕ, ◌+◌, ◌*◌, ◌^◌, ◌≤◌, ◌<◌, Bool, List, length, arith}
use Rattle.std.proofs.Math.Nat.{mul-le-mul_left, mul-le-mul_right}
use Rattle.kk_base.specs.Limits.{greatest_of}
use Rattle.kk_base.specs.declared.limit.LimitKind.TheVariants.{Fields}
use Rattle.kk_base.specs.Sizes.{greatest_cells, greatest_depth}
use Rattle.kk_syntax.specs.PositionsOf.{PositionTable}
use Rattle.kk_source.specs.State.{Environment}
use Rattle.kk_counted.proofs.CountSteps.{always_bounded}
use Rattle.kk_counted.proofs.MarkPreservation.{always_fit}
use Rattle.kk_counted.proofs.OwnedBounds.{count_few}
use Rattle.kk_counted.proofs.SoundRuns.{keeps_sound}
use Rattle.kk_counted.specs.CountBounds.{AllSpendAtMost}
use Rattle.kk_counted.specs.CountedCodes.{Counted}
use Rattle.kk_counted.specs.CountedStates.{CountedSetting, CountedJoin, CountedState, running}
use Rattle.kk_counted.specs.Heaps.{count_at}
use Rattle.kk_counted.specs.Keeping.{FitsAlways, counted_after}
use Rattle.kk_counted.specs.Marks.{CellMarks, field_marks, AreMarked}
use Rattle.kk_counted.specs.Spending.{IsSpent}
use Rattle.kk_counted.specs.CountLimits.{greatest_spent}

pub counts_few : (positions : PositionTable) (marks : CellMarks) (holds : ℕ → ℕ → Bool) (setting : CountedSetting)
    (weight : CountedState → ℕ) (input : List ℕ) (most fields : ℕ) → IsSpent positions setting.program
    → FitsAlways weight setting input → AreMarked marks holds setting.program → AllSpendAtMost setting.program most
    → ((c : ℕ) → length (field_marks marks c) ≤ fields) → 1 ≤ setting.depth
    → (n : ℕ) (code : Counted) (environment : Environment) (joins : List CountedJoin)
    → (counted_after weight setting input n).control ≡ running code environment joins
    → (at : ℕ) → count_at (counted_after weight setting input n).heap at ≤ setting.depth * most + fields * setting.cells
counts_few positions marks holds setting weight input most fields spent fits marked spends few deep n code environment joins here at
    =
    count_few positions setting marks most fields few (counted_after weight setting input n) code environment joins
    (keeps_sound positions setting weight input spent fits n)
    (always_bounded setting most spends deep spent.main.0 spent.main.1.0 weight input n)
    (always_fit marks holds setting marked weight input n).0 here at

-- within the limits such a bound and one more have 32 bits
pub narrow_bound : (depth cells most count : ℕ) → count ≤ depth * most + greatest_of Fields * cells → most ≤ greatest_spent
    → depth ≤ greatest_depth → cells ≤ greatest_cells → count + 1 < 2 ^ 32
narrow_bound depth cells most count few small shallow little =
    omega (arith, few, mul-le-mul_right most shallow, mul-le-mul_left greatest_depth small, little)
