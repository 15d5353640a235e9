-- Runs of specialised code come to the same states.
use Rattle.std.proofs.Common.{◌≡◌, ℕ, zero, suc, ◌+◌, List, [], ◌∷◌, ◌++◌, map, refl, sym, ap, ◌∙◌}
use Rattle.std.specs.Prelude.{slice_index_or}
use Rattle.kk_base.specs.Machines.{state, trace, weight_unless, weight_of}
use Rattle.kk_syntax.specs.PositionsOf.{PositionTable}
use Rattle.kk_source.specs.Notes.{Note}
use Rattle.kk_source.specs.State.{Environment}
use Rattle.kk_source.specs.Actions.{Action, goes, puts, takes, builds, calls, performed}
use Rattle.kk_counted.specs.CountedCodes.{Counted, give, tail_call, case, compute, inside, read, open_cell, if_unique, dup, drop}
use Rattle.kk_counted.specs.CountedCodes.{CountedFunction}
use Rattle.kk_counted.specs.CountedCosts.{code_cost, room_at, roomy_control_cost, roomy_cost}
use Rattle.kk_counted.specs.Heaps.{Heap}
use Rattle.kk_counted.specs.CountedStates.{CountedSetting, CountedFrame, CountedControl, running, stopped, stuck}
use Rattle.kk_counted.specs.CountedStates.{CountedConfiguration, CountedState, no_function, counted_first_state, counted_end_at}
use Rattle.kk_counted.specs.CountedMachine.{counted_code_step, counted_machine}
use Rattle.kk_counted.specs.Spending.{IsSpent}
use Rattle.kk_counted.specs.Keeping.{IsKept, FitsAlways}
use Rattle.kk_counted.proofs.SoundRuns.{keeps_sound}
use Rattle.kk_dropspec.specs.Specialised.{special, special_function, special_setting, special_control, special_configuration}
use Rattle.kk_dropspec.specs.SameRuns.{AreSameAfter}
use Rattle.kk_dropspec.proofs.ChangedSteps.{changed_action}
use Rattle.kk_dropspec.proofs.Steps.{steps_same}

abbrev special_state : CountedState → CountedState
special_state s = record { machine = special_configuration s.machine; input = s.input }

-- what a step tells, and the state after it, with specialised code
abbrev special_pair : List Note × CountedState → List Note × CountedState
special_pair told = (told.0, special_state told.1)

performed_same : (action : Action CountedConfiguration) (input : List ℕ)
    → performed (changed_action special action) input ≡ special_pair (performed action input)
performed_same (goes to) input = refl
performed_same (puts piece to) input = refl
performed_same (takes to) [] = refl
performed_same (takes to) (byte ∷ input) = refl
performed_same (builds found to) input = refl
performed_same (calls found to) input = refl

end_same : (control : CountedControl) → counted_end_at (special_control control) ≡ counted_end_at control
end_same (running code environment joins) = refl
end_same (stopped by) = refl
end_same stuck = refl

-- the step at a code costs what that of its specialised form costs
code_costs : (code : Counted) (environment : Environment) (heap : Heap)
    → code_cost (special code) environment heap ≡ code_cost code environment heap
code_costs (give x) environment heap = refl
code_costs (tail_call f arguments) environment heap = refl
code_costs (case x decisions arms) environment heap = refl
code_costs (compute x form arguments rest) environment heap = refl
code_costs (inside x block rest) environment heap = refl
code_costs (read x c fields rest) environment heap = refl
code_costs (open_cell x c fields used rest) environment heap = refl
code_costs (if_unique x c fields used rest) environment heap = refl
code_costs (dup x rest) environment heap = refl
code_costs (drop x rest) environment heap = refl

room_same : (room : ℕ) (code : Counted) → room_at room (special code) ≡ room_at room code
room_same room (give x) = refl
room_same room (tail_call f arguments) = refl
room_same room (case x decisions arms) = refl
room_same room (compute x form arguments rest) = refl
room_same room (inside x block rest) = refl
room_same room (read x c fields rest) = refl
room_same room (open_cell x c fields used rest) = refl
room_same room (if_unique x c fields used rest) = refl
room_same room (dup x rest) = refl
room_same room (drop x rest) = refl

weighs_same : (room : ℕ) (control : CountedControl) (heap : Heap)
    → weight_unless (counted_end_at (special_control control)) (roomy_control_cost room (special_control control) heap)
    ≡ weight_unless (counted_end_at control) (roomy_control_cost room control heap)
weighs_same room (running code environment joins) heap =
    ap (λ (pays : ℕ). pays + code_cost (special code) environment heap) (room_same room code)
    ∙ ap (λ (cost : ℕ). room_at room code + cost) (code_costs code environment heap)
weighs_same room (stopped by) heap = refl
weighs_same room stuck heap = refl

function_at : (functions : List CountedFunction) (n : ℕ)
    → slice_index_or (map special_function functions) n no_function ≡ special_function (slice_index_or functions n no_function)
function_at [] n = refl
function_at (function ∷ functions) zero = refl
function_at (function ∷ functions) (suc n) = function_at functions n

first_same : (setting : CountedSetting) (input : List ℕ)
    → counted_first_state (special_setting setting) input ≡ special_state (counted_first_state setting input)
first_same setting input =
    ap (λ (function : CountedFunction). record {
      machine = record { control = running function.body [] []; frames = []; heap = [] };
      input = input;
    })
    (function_at setting.program.functions setting.program.main)

module _ (positions : PositionTable) (setting : CountedSetting) (weight other : CountedState → ℕ) where
  abbrev Kept : CountedConfiguration → Type 0
  Kept c = IsKept positions setting.program.functions c

  abbrev state_of : CountedControl → List CountedFrame → Heap → List ℕ → CountedState
  state_of control frames heap input =
      record { machine = record { control = control; frames = frames; heap = heap }; input = input }

  next_same : (control : CountedControl) (frames : List CountedFrame) (heap : Heap) (input : List ℕ)
      → Kept (state_of control frames heap input).machine
      → (counted_machine other (special_setting setting)).step (special_state (state_of control frames heap input))
      ≡ special_pair ((counted_machine weight setting).step (state_of control frames heap input))
  next_same (running code environment joins) frames heap input kept =
      let from = (state_of (running code environment joins) frames heap input).machine in
      ap (λ action. performed action input) (sym (steps_same positions setting code environment joins from kept.0 kept.1.1))
      ∙ performed_same (counted_code_step setting code environment joins from) input
  next_same (stopped by) frames heap input kept = refl
  next_same stuck frames heap input kept = refl

  run_same : (n : ℕ) (s : CountedState) → ((k : ℕ) → Kept (state (counted_machine weight setting) k s).machine)
      → (state (counted_machine other (special_setting setting)) n (special_state s) ≡ special_state
      (state (counted_machine weight setting) n s))
      × (trace (counted_machine other (special_setting setting)) n (special_state s) ≡ trace (counted_machine weight setting) n s)
  run_same zero s kept = (refl, refl)
  run_same (suc n) s kept =
      let next = next_same s.machine.control s.machine.frames s.machine.heap s.input (kept zero) in
      let rest = run_same n ((counted_machine weight setting).step s).1 (λ k. kept (suc k)) in (
        ap (λ (told : List Note × CountedState). state (counted_machine other (special_setting setting)) n told.1) next ∙ rest.0,
        ap (λ (told : List Note × CountedState). told.0 ++ trace (counted_machine other (special_setting setting)) n told.1) next
            ∙ ap (λ notes. ((counted_machine weight setting).step s).0 ++ notes) rest.1,
      )

  -- so many steps cost as much
  costs_same : (room n : ℕ) (s : CountedState) → ((k : ℕ) → Kept (state (counted_machine weight setting) k s).machine)
      → weight_of (counted_machine (roomy_cost room) (special_setting setting)) n (special_state s)
      ≡ weight_of (counted_machine (roomy_cost room) setting) n s
  costs_same room zero s kept = refl
  costs_same room (suc n) s kept =
      let later : List Note × CountedState → ℕ
      = λ told. weight_of (counted_machine (roomy_cost room) (special_setting setting)) n told.1 in
      let next = next_same s.machine.control s.machine.frames s.machine.heap s.input (kept zero) in
      ap (λ (told : List Note × CountedState).
      (counted_machine (roomy_cost room) (special_setting setting)).weight (special_state s) + later told) next
      ∙ (ap (λ (cost : ℕ). cost + later (special_pair ((counted_machine weight setting).step s)))
      (weighs_same room s.machine.control s.machine.heap)
      ∙ ap (λ (rest : ℕ). (counted_machine (roomy_cost room) setting).weight s + rest)
      (costs_same room n ((counted_machine weight setting).step s).1 (λ k. kept (suc k))))

pub runs_same : (positions : PositionTable) (setting : CountedSetting) (weight other : CountedState → ℕ) (input : List ℕ)
    → IsSpent positions setting.program
    → FitsAlways weight setting input → (n : ℕ) → AreSameAfter n weight other setting input
runs_same positions setting weight other input spent fits n =
    record {
      states = ap (λ (s : CountedState). s.machine) states;
      notes = ap (trace (counted_machine other (special_setting setting)) n) (first_same setting input) ∙ same.1;
      ends =
          ap (λ (s : CountedState). counted_end_at s.machine.control) states ∙ end_same
          (state (counted_machine weight setting) n (counted_first_state setting input)).machine.control;
      costs = λ room.
          ap (weight_of (counted_machine (roomy_cost room) (special_setting setting)) n) (first_same setting input)
          ∙ costs_same positions setting weight other room n (counted_first_state setting input)
          (keeps_sound positions setting weight input spent fits);
    }
  where
    same : (state (counted_machine other (special_setting setting)) n (special_state (counted_first_state setting input))
        ≡ special_state (state (counted_machine weight setting) n (counted_first_state setting input)))
        × (trace (counted_machine other (special_setting setting)) n (special_state (counted_first_state setting input)) ≡ trace
        (counted_machine weight setting) n (counted_first_state setting input))
    same =
        run_same positions setting weight other n (counted_first_state setting input)
        (keeps_sound positions setting weight input spent fits)

    states : state (counted_machine other (special_setting setting)) n (counted_first_state (special_setting setting) input)
        ≡ special_state (state (counted_machine weight setting) n (counted_first_state setting input))
    states = ap (state (counted_machine other (special_setting setting)) n) (first_same setting input) ∙ same.0
