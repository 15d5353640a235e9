-- Code that is judged and marked is fit in each state of a run, where its values are of the types that the code takes.
use Rattle.std.proofs.Common.{ℕ, ◌<◌, ◌≤◌, Bool, List, ◌++◌, length, All, arith, mul-le-mul_right, mul-le-mul_left}
use Rattle.kk_base.specs.Sizes.{greatest_cells, greatest_depth}
use Rattle.kk_base.specs.Limits.{greatest_of}
use Rattle.kk_base.specs.declared.limit.LimitKind.TheVariants.{Fields}
use Rattle.kk_syntax.specs.PositionsOf.{PositionTable}
use Rattle.kk_source.specs.State.{Value}
use Rattle.kk_counted.specs.CountBounds.{AllSpendAtMost}
use Rattle.kk_counted.specs.CountedCodes.{CountedFunction}
use Rattle.kk_counted.specs.CountedStates.{CountedSetting, CountedControl, running, stopped, stuck, CountedState}
use Rattle.kk_counted.specs.Heaps.{Heap}
use Rattle.kk_counted.specs.Int32.{AllHaveInt32}
use Rattle.kk_counted.specs.Keeping.{IsKeptAt, counted_after, FitsAlways, HasShapeAlways, values_of}
use Rattle.kk_counted.specs.Kinds.{HasKindsAlways}
use Rattle.kk_counted.specs.Marks.{CellMarks, field_marks, AreMarked}
use Rattle.kk_counted.specs.References.{IsSound}
use Rattle.kk_counted.specs.Spending.{IsSpent}
use Rattle.kk_counted.proofs.NarrowCounts.{counts_few}
use Rattle.kk_counted.proofs.Numbers.{stay_int32}
use Rattle.kk_counted.proofs.Progress.{never_stuck}
use Rattle.kk_counted.proofs.SoundRuns.{keeps_sound}
use Rattle.kk_counted.specs.CountLimits.{greatest_spent}
use Rattle.rv_cells.specs.Layout.{Layout}
use Rattle.rv_cells.specs.Fitting.{AreTagged, count_of_fields, FitsControl, IsFit}
use Rattle.rv_cells.proofs.KindsFit.{control_fits}

sound_of : (positions : PositionTable) (functions : List CountedFunction) (heap : Heap) (below : List Value)
    (control : CountedControl)
    → IsKeptAt positions functions heap below control → (owned : List Value) × IsSound owned heap
sound_of positions functions heap below (running code environment joins) kept =
    (values_of environment kept.owned ++ below, kept.sound)
sound_of positions functions heap below (stopped by) kept = kept
sound_of positions functions heap below stuck kept = kept

-- a program that spends its references and is marked by types, within the limits of cells, call frames and code
module _ (positions : PositionTable) (marks : CellMarks) (holds : ℕ → ℕ → Bool) (setting : CountedSetting) (layout : Layout)
    (weight : CountedState → ℕ) (input : List ℕ) (most : ℕ) (spent : IsSpent positions setting.program)
    (fits : FitsAlways weight setting input) (shaped : HasShapeAlways weight setting input)
    (marked : AreMarked marks holds setting.program) (spends : AllSpendAtMost setting.program most)
    (small : most ≤ greatest_spent) (few : (c : ℕ) → length (field_marks marks c) ≤ greatest_of Fields)
    (deep : 1 ≤ setting.depth) (shallow : setting.depth ≤ greatest_depth) (cells : setting.cells ≤ greatest_cells) where
  always_fits : ((n : ℕ) → FitsControl layout (counted_after weight setting input n).heap
      (counted_after weight setting input n).control)
      → (n : ℕ) → IsFit layout (counted_after weight setting input n)
  always_fits typed n =
      let kept = keeps_sound positions setting weight input spent fits n in
      let sound = sound_of positions setting.program.functions (counted_after weight setting input n).heap kept.0
      (counted_after weight setting input n).control kept.1.1 in
      record {
        going = never_stuck positions setting weight input spent fits shaped n;
        owned = sound.0;
        sound = sound.1;
        counts = λ code environment joins here name.
            omega (
              arith,
              counts_few positions marks holds setting weight input most (greatest_of Fields) spent fits marked spends few deep n
                  code environment joins
                  here
                  name,
              mul-le-mul_right most shallow,
              mul-le-mul_left greatest_depth small,
              cells,
            );
        fits = typed n;
      }

  -- so where its values are of the kinds that its types tell, and its numbers are of 32 bits
  pub typed_fits : HasKindsAlways (AreTagged layout) (count_of_fields layout) weight setting input
      → AllHaveInt32 setting.program.functions → All (λ byte. byte < 256) input
      → (n : ℕ) → IsFit layout (counted_after weight setting input n)
  typed_fits kinds numbers bytes n =
      always_fits
      (λ k.
      let now = stay_int32 setting numbers weight input bytes k in
      control_fits layout (counted_after weight setting input k).heap (counted_after weight setting input k).control (kinds k)
      now.control now.heap)
      n
