-- Fusion keeps what is kept by code that spends what it owns.
use Rattle.std.proofs.Common.{◌≡◌, ℕ, ◌≤◌, List, arith, refl, subst}
use Rattle.kk_base.specs.Agreements.{Agree}
use Rattle.kk_base.proofs.Agreements.{agree_through}
use Rattle.kk_syntax.specs.PositionsOf.{PositionTable}
use Rattle.kk_source.specs.State.{Setting, ended, heap_full, stack_full}
use Rattle.kk_source.specs.SourceAfter.{first_state}
use Rattle.kk_norm.specs.Meaning.{heavy_store_machine}
use Rattle.kk_core.specs.Costs.{most_step_cost, most_room}
use Rattle.kk_counted.specs.CountedCosts.{roomy_cost}
use Rattle.kk_counted.specs.CountedCodes.{CountedProgram}
use Rattle.kk_counted.specs.CountedStates.{CountedSetting, CountedControl, running, stopped, stuck, CountedState, counted_first_state}
use Rattle.kk_counted.specs.CountedMachine.{counted_machine}
use Rattle.kk_counted.specs.Heaps.{Heap, busy}
use Rattle.kk_counted.specs.Keeping.{FitsAlways, HasShapeAlways, counted_after}
use Rattle.kk_counted.specs.Spending.{IsSpent}
use Rattle.kk_insert.specs.Meaning.{EndsClean}
use Rattle.kk_fuse.specs.Fused.{fused_program, fused_setting}
use Rattle.kk_fuse.specs.FusedRuns.{HasFewSteps, IsFusedRun}
use Rattle.kk_middle.specs.Meaning.{unfused_steps, KeepsMeaning}
use Rattle.kk_middle.proofs.MachineAgreement.{told_above, told_below}
use Rattle.kk_middle.proofs.Special.{KeepsSound}

-- no cell is left where a run has ended by itself
abbrev pub LeavesNoCell : CountedSetting → List ℕ → (CountedState → ℕ) → ℕ → Type 0
LeavesNoCell setting input weight n =
    (counted_after weight setting input n).control ≡ stopped ended → busy (counted_after weight setting input n).heap ≡ 0

-- the laws on fusion
abbrev pub KeepsSpent : Type 0
KeepsSpent = (positions : PositionTable) (program : CountedProgram) → IsSpent positions program
    → IsSpent positions (fused_program program)

abbrev pub RunsTheSame : Type 0
RunsTheSame = (positions : PositionTable) (setting : CountedSetting) (most : ℕ) (input : List ℕ)
    → IsSpent positions setting.program
    → ((weight : CountedState → ℕ) → FitsAlways weight setting input)
    → ((weight : CountedState → ℕ) → HasShapeAlways weight setting input)
    → HasFewSteps most setting.program → IsFusedRun setting most input

abbrev pub KeepsClean : Type 0
KeepsClean = (positions : PositionTable) (setting : CountedSetting) (most : ℕ) (input : List ℕ)
    → IsSpent positions setting.program
    → ((weight : CountedState → ℕ) → FitsAlways weight setting input)
    → ((weight : CountedState → ℕ) → HasShapeAlways weight setting input)
    → HasFewSteps most setting.program
    → ((weight : CountedState → ℕ) (n : ℕ) → LeavesNoCell setting input weight n)
    → (weight : CountedState → ℕ) (n : ℕ) → LeavesNoCell (fused_setting setting) input weight n

-- both ways to say that no cell is left at the end
of_clean : (control : CountedControl) (heap : Heap) → EndsClean control heap → control ≡ stopped ended → busy heap ≡ 0
of_clean control heap clean stops = subst (λ (c : CountedControl). EndsClean c heap) stops clean

to_clean : (control : CountedControl) (heap : Heap) → (control ≡ stopped ended → busy heap ≡ 0) → EndsClean control heap
to_clean (running code environment joins) heap none = tt
to_clean (stopped ended) heap none = none refl
to_clean (stopped heap_full) heap none = tt
to_clean (stopped stack_full) heap none = tt
to_clean stuck heap none = tt

-- code whose meaning is kept, which has its shape and few forms in each body
module _ (keeps_spent : KeepsSpent) (runs_the_same : RunsTheSame) (keeps_clean : KeepsClean) (keeps_sound : KeepsSound)
    (setting : Setting) (positions : PositionTable) (counted : CountedSetting) (greatest most : ℕ) (up : ℕ → ℕ) (input : List ℕ)
    (keeps : KeepsMeaning setting positions counted greatest up input)
    (shape : (weights : CountedState → ℕ) → HasShapeAlways weights counted input) (few : HasFewSteps most counted.program) where
  -- what the laws say of its fusion
  run : IsFusedRun counted most input
  run = runs_the_same positions counted most input keeps.spent keeps.fits shape few

  spent : IsSpent positions (fused_program counted.program)
  spent = keeps_spent positions counted.program keeps.spent

  -- the agreement with the source, through the code that is not fused
  whole : (nodes room : ℕ) → greatest ≤ nodes → room ≤ most_room nodes
      → Agree (heavy_store_machine (most_step_cost nodes) setting) (counted_machine (roomy_cost room) (fused_setting counted)) 0
      (λ m. up (unfused_steps most m)) (first_state setting input) (counted_first_state (fused_setting counted) input)
  whole nodes room large within =
      agree_through (heavy_store_machine (most_step_cost nodes) setting) (counted_machine (roomy_cost room) counted)
      (counted_machine (roomy_cost room) (fused_setting counted)) 0 0 up (unfused_steps most) (first_state setting input)
      (counted_first_state counted input) (counted_first_state (fused_setting counted) input)
      (keeps.agrees nodes room large within) (run.agrees room)

  -- fused code keeps the meaning, within the steps that it leaves out
  pub fused_keeps : KeepsMeaning setting positions (fused_setting counted) greatest (λ m. up (unfused_steps most m)) input
  fused_keeps =
      record {
        agrees = whole;
        counted_are_live = told_above (heavy_store_machine (most_step_cost greatest) setting)
            (counted_machine (roomy_cost 0) (fused_setting counted)) 0 (λ m. up (unfused_steps most m)) (first_state setting input)
            (counted_first_state (fused_setting counted) input) (whole greatest 0 (omega arith) (omega arith));
        live_are_counted = told_below (heavy_store_machine (most_step_cost greatest) setting)
            (counted_machine (roomy_cost 0) (fused_setting counted)) 0 (λ m. up (unfused_steps most m)) (first_state setting input)
            (counted_first_state (fused_setting counted) input) (whole greatest 0 (omega arith) (omega arith));
        spent = spent;
        fits = run.fits;
        never_stuck = run.never_stuck;
        sound = λ weights. keeps_sound positions (fused_setting counted) weights input spent (run.fits weights);
        clean = λ weights n.
            to_clean (counted_after weights (fused_setting counted) input n).control
            (counted_after weights (fused_setting counted) input n).heap
            (keeps_clean positions counted most input keeps.spent keeps.fits shape few
            (λ weight m. of_clean (counted_after weight counted input m).control (counted_after weight counted input m).heap
            (keeps.clean weight m)) weights n);
      }
