-- Drop specialisation keeps what is kept by code that spends what it owns.
use Rattle.std.proofs.Common.{◌≡◌, ℕ, ◌≤◌, List, arith, sym, subst}
use Rattle.kk_base.specs.Agreements.{Agree}
use Rattle.kk_base.specs.Machines.{trace, ending_after}
use Rattle.kk_syntax.specs.PositionsOf.{PositionTable}
use Rattle.kk_source.specs.State.{Setting}
use Rattle.kk_source.specs.SourceAfter.{step, ending_of, store_machine, first_state}
use Rattle.kk_norm.specs.Meaning.{heavy_store_machine}
use Rattle.kk_core.specs.Costs.{most_step_cost, most_room}
use Rattle.kk_counted.specs.CountedCosts.{roomy_cost}
use Rattle.kk_counted.specs.CountedCodes.{CountedProgram}
use Rattle.kk_counted.specs.CountedStates.{CountedSetting, CountedConfiguration, CountedState, counted_first_state}
use Rattle.kk_counted.specs.CountedMachine.{counted_machine, NotStuck}
use Rattle.kk_counted.specs.Keeping.{FitsAt, FitsAlways, IsKept, counted_after}
use Rattle.kk_counted.specs.Spending.{IsSpent}
use Rattle.kk_insert.specs.Meaning.{EndsClean}
use Rattle.kk_dropspec.specs.SameRuns.{AreSameAfter}
use Rattle.kk_dropspec.specs.Specialised.{special_program, special_setting}
use Rattle.kk_middle.specs.Meaning.{KeepsMeaning}
use Rattle.kk_middle.proofs.MachineAgreement.{even_weights, agree_alike, told_above, told_below}
use Rattle.kk_middle.proofs.MarkedCode.{special_fits, special_goes, special_clean}

-- the laws on drop specialisation and on code that spends what it owns
abbrev pub KeepsSpent : Type 0
KeepsSpent = (positions : PositionTable) (program : CountedProgram) → IsSpent positions program
    → IsSpent positions (special_program program)

abbrev pub RunsTheSame : Type 0
RunsTheSame = (positions : PositionTable) (setting : CountedSetting) (weight other : CountedState → ℕ) (input : List ℕ)
    → IsSpent positions setting.program → FitsAlways weight setting input → (n : ℕ) → AreSameAfter n weight other setting input

abbrev pub KeepsSound : Type 0
KeepsSound = (positions : PositionTable) (setting : CountedSetting) (weight : CountedState → ℕ) (input : List ℕ)
    → IsSpent positions setting.program → FitsAlways weight setting input
    → (n : ℕ) → IsKept positions setting.program.functions (counted_after weight setting input n)

module _ (keeps_spent : KeepsSpent) (runs_the_same : RunsTheSame) (keeps_sound : KeepsSound)
    (positions : PositionTable) (counted : CountedSetting) (input : List ℕ) (spent : IsSpent positions counted.program)
    (fits : (weights : CountedState → ℕ) → FitsAlways weights counted input) where
  same : (weights : CountedState → ℕ) (n : ℕ) → AreSameAfter n weights weights counted input
  same weights n = runs_the_same positions counted weights weights input spent (fits weights) n

  pub fits_too : (weights : CountedState → ℕ) → FitsAlways weights (special_setting counted) input
  fits_too weights n =
      subst (λ (c : CountedConfiguration). FitsAt c.control) (sym (same weights n).states)
      (special_fits (counted_after weights counted input n).control (fits weights n))

  -- a setting on which the store machine tells and ends as on another, on which it agrees with the code that is specialised
  module _ (setting made : Setting) (greatest : ℕ) (up : ℕ → ℕ)
      (traces : (n : ℕ) → trace (store_machine made) n (first_state made input)
      ≡ trace (store_machine setting) n (first_state setting input))
      (endings : (n : ℕ) → ending_after (store_machine made) n (first_state made input)
      ≡ ending_after (store_machine setting) n (first_state setting input))
      (agree : (nodes room : ℕ) → greatest ≤ nodes → room ≤ most_room nodes
      → Agree (heavy_store_machine (most_step_cost nodes) made) (counted_machine (roomy_cost room) counted) 0 up
      (first_state made input) (counted_first_state counted input))
      (goes : (weights : CountedState → ℕ) (n : ℕ) → NotStuck (counted_after weights counted input n).control)
      (clean : (weights : CountedState → ℕ) (n : ℕ)
      → EndsClean (counted_after weights counted input n).control (counted_after weights counted input n).heap) where
    whole : (nodes room : ℕ) → greatest ≤ nodes → room ≤ most_room nodes
        → Agree (heavy_store_machine (most_step_cost nodes) setting) (counted_machine (roomy_cost room) (special_setting counted))
        0 up (first_state setting input) (counted_first_state (special_setting counted) input)
    whole nodes room large within =
        agree_alike (heavy_store_machine (most_step_cost nodes) made) (heavy_store_machine (most_step_cost nodes) setting)
        (counted_machine (roomy_cost room) counted) (counted_machine (roomy_cost room) (special_setting counted)) up (first_state made input)
        (first_state setting input) (counted_first_state counted input) (counted_first_state (special_setting counted) input)
        traces endings (λ n. sym (same (roomy_cost room) n).notes) (λ n. sym (same (roomy_cost room) n).ends)
        (λ n. even_weights (most_step_cost nodes) ending_of (step made) ending_of (step setting) n (first_state made input)
        (first_state setting input) endings)
        (λ n. (same (roomy_cost room) n).costs room) 0 (agree nodes room large within)

    pub special_keeps : KeepsMeaning setting positions (special_setting counted) greatest up input
    special_keeps =
        record {
          agrees = whole;
          counted_are_live = told_above (heavy_store_machine (most_step_cost greatest) setting)
              (counted_machine (roomy_cost 0) (special_setting counted)) 0 up (first_state setting input)
              (counted_first_state (special_setting counted) input) (whole greatest 0 (omega arith) (omega arith));
          live_are_counted = told_below (heavy_store_machine (most_step_cost greatest) setting)
              (counted_machine (roomy_cost 0) (special_setting counted)) 0 up (first_state setting input)
              (counted_first_state (special_setting counted) input) (whole greatest 0 (omega arith) (omega arith));
          spent = keeps_spent positions counted.program spent;
          fits = fits_too;
          never_stuck = λ weights n.
              subst (λ (c : CountedConfiguration). NotStuck c.control) (sym (same weights n).states)
              (special_goes (counted_after weights counted input n).control (goes weights n));
          sound = λ weights.
              keeps_sound positions (special_setting counted) weights input (keeps_spent positions counted.program spent)
              (fits_too weights);
          clean = λ weights n.
              subst (λ (c : CountedConfiguration). EndsClean c.control c.heap) (sym (same weights n).states)
              (special_clean (counted_after weights counted input n).control (counted_after weights counted input n).heap
              (clean weights n));
        }
