-- The processor as a machine, and when an image does what such a machine does.
use Rattle.std.specs.Prelude.{◌≡◌, ◌↔◌, ℕ, List, Option, Some, None}
use Rattle.std.specs.List.{flat_map}
use Rattle.kk_base.specs.Trace.{Event, IsPrefix}
use Rattle.kk_base.specs.Machines.{Machine, telling, trace, ending_after}
use Rattle.rv_isa.specs.Processor.{Ending, going, exited, trapped, Progress}
use Rattle.rv_isa.specs.InstructionSet.{InstructionSet, step_over, go_on}

-- how a run has ended, if it has
abbrev pub ended : Ending → Option Ending
ended going = None
ended (exited number) = Some (exited number)
ended (trapped cause pc word) = Some (trapped cause pc word)

-- A run that has not ended executes the next instruction, whose events are those that it adds to the trace, and weighs 1. One that has ended
-- stays, and weighs nothing.
abbrev pub processor_machine : {I : Type 0} → InstructionSet I → Machine Progress Event Ending
processor_machine set =
    telling (λ progress. ended progress.ending) (λ progress. go_on progress (step_over set)) (λ progress. progress.processor.trace)

-- a run goes on, or has exited with the number of an ending; it has not trapped
abbrev pub ExitsWell : {W : Type 0} → (W → ℕ) → Ending → Type 0
ExitsWell exit_of going = Unit {0}
ExitsWell {W} exit_of (exited number) = (end : W) × (number ≡ exit_of end)
ExitsWell exit_of (trapped cause pc word) = ⊥

-- What an image has come to after so many instructions agrees with a machine from a state, of whose events `told` is seen on the outside, and
-- whose endings have the numbers of exits: the image never traps and exits with these numbers alone; each trace of one is a prefix of one of
-- the other; and one ends if and only if the other does, alike, and then with the same trace.
pub record ImageAgrees {S E W : Type 0} (machine : Machine S E W) (told : E → List Event) (exit_of : W → ℕ) (s : S) (image : ℕ → Progress) : Type 0 where
  pub ends_well : (m : ℕ) → ExitsWell exit_of (image m).ending
  pub image_is_behind : (m : ℕ) → (n : ℕ) × IsPrefix (image m).processor.trace (flat_map told (trace machine n s))
  pub machine_is_behind : (n : ℕ) → (m : ℕ) × IsPrefix (flat_map told (trace machine n s)) (image m).processor.trace
  pub end_alike : (end : W) → ((n : ℕ) × (ending_after machine n s ≡ Some end)) ↔ ((m : ℕ) × ((image m).ending ≡ exited (exit_of end)))
  pub same_trace : (end : W) (n m : ℕ) → ending_after machine n s ≡ Some end → (image m).ending ≡ exited (exit_of end) → flat_map told (trace machine n s) ≡ (image m).processor.trace

-- what the machine does in n steps, the image does within so many instructions
pub record ImageKeepsUp {S E W : Type 0} (machine : Machine S E W) (told : E → List Event) (exit_of : W → ℕ) (within : ℕ → ℕ) (s : S) (image : ℕ → Progress) : Type 0 where
  pub goes_on : (n : ℕ) → IsPrefix (flat_map told (trace machine n s)) (image (within n)).processor.trace
  pub ends : (n : ℕ) (end : W) → ending_after machine n s ≡ Some end → (image (within n)).ending ≡ exited (exit_of end)
