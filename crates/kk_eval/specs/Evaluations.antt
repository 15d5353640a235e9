-- The run of a program over the devices by its definition: what the store machine does, on each input that the run can have taken.
use Rattle.std.specs.Prelude.{◌≡◌, ◌≤◌, ◌<◌, ℕ, ◌+◌, List, [], ◌∷◌, ◌++◌, take, length, Bool, true, false, Option, None, Some, option_map}
use Rattle.kk_base.specs.Faults.{Rises}
use Rattle.kk_base.specs.Machines.{trace}
use Rattle.kk_base.specs.Sink.{SinkState}
use Rattle.kk_base.specs.Source.{SourceState}
use Rattle.kk_base.specs.Trace.{Event, output, output_of, input_of, TakesBytes, TakesFrom}
use Rattle.kk_source.specs.SourceAfter.{source_after}
use Rattle.kk_source.specs.State.{Setting, End, ended, heap_full, stack_full}
use Rattle.rv_sim.specs.Devices.{GivesContent, asked}
use Rattle.kk_answer.specs.declared.answer.RunEnd.{RunEnd}
use Rattle.kk_answer.specs.declared.answer.RunEnd.TheVariants as OfRun

-- how the program has ended where its run ends so
abbrev pub end_for : RunEnd → Option End
end_for OfRun.Ended = Some ended
end_for OfRun.HeapFull = Some heap_full
end_for OfRun.StackFull = Some stack_full
end_for _ = None

abbrev pub is_input_end : RunEnd → Bool
is_input_end OfRun.InputFault = true
is_input_end _ = false

abbrev pub is_output_end : RunEnd → Bool
is_output_end OfRun.OutputFault = true
is_output_end _ = false

-- on each input that the events can have taken, the program has done them after so many steps, and has ended so, if it has
abbrev pub HasCome : Setting → ℕ → List Event → Option End → Type 0
HasCome setting count events ending =
    (input rest : List ℕ) → TakesFrom events input rest → source_after setting input count ≡ record { trace = events; ending = ending }

-- the step after so many takes a byte
abbrev pub TakesNext : Setting → ℕ → List Event → Type 0
TakesNext setting count events =
    (input rest : List ℕ) → TakesFrom events input rest → (source_after setting input (count + 1)).trace ≡ events ++ asked rest ∷ []

-- the step after so many prints a piece, and `cut` are first bytes of it
pub record PrintsNext (setting : Setting) (count : ℕ) (events : List Event) (cut : List ℕ) : Type 0 where
  pub piece : List ℕ
  pub some : 0 < length piece
  pub taken : ℕ
  pub within : taken ≤ length piece
  pub first : cut ≡ take taken piece
  pub next : (input rest : List ℕ) → TakesFrom events input rest → (source_after setting input (count + 1)).trace ≡ events ++ output piece ∷ []

-- Unless a device fails, the program is looked at after all the steps, where it may have ended before, and all pieces are whole. Where a
-- device has failed, the run stopped before the step that called it.
abbrev pub StopsAt : RunEnd → Setting → ℕ → ℕ → List Event → List ℕ → Type 0
StopsAt OfRun.InputFault setting steps count events cut = (count < steps) × (cut ≡ []) × TakesNext setting count events
StopsAt OfRun.OutputFault setting steps count events cut = (count < steps) × PrintsNext setting count events cut
StopsAt _ setting steps count events cut = (count ≡ steps) × (cut ≡ [])

-- the bytes that events take are those that left a source, and there is some input that they can have taken
pub record TakesInput (events : List Event) (input input' : SourceState) : Type 0 where
  pub given : GivesContent events input.left input'.left
  pub bytes : TakesBytes events
  pub some_input : TakesFrom events (input_of events) []

-- The program was run for at most so many steps, and did these events on the devices. There is some input of bytes that they can have taken.
pub record RunsSource (setting : Setting) (steps : ℕ) (end : RunEnd) (input input' : SourceState) (out out' : SinkState) : Type 0 where
  pub events : List Event
  pub cut : List ℕ
  pub count : ℕ
  pub taken : TakesInput events input input'
  pub held : out'.held ≡ option_map (λ before. before ++ (output_of events ++ cut)) out.held
  pub input_faults : Rises (is_input_end end) input.faults input'.faults
  pub output_faults : Rises (is_output_end end) out.faults out'.faults
  pub done : HasCome setting count events (end_for end)
  pub stops : StopsAt end setting steps count events cut

-- Memory was refused before the end and within so many steps. What was done until then is the first that the program does.
pub record RunsOutOfMemory (setting : Setting) (steps : ℕ) (input input' : SourceState) (out out' : SinkState) : Type 0 where
  pub events : List Event
  pub count : ℕ
  pub taken : TakesInput events input input'
  pub held : out'.held ≡ option_map (λ before. before ++ output_of events) out.held
  pub input_faults : input'.faults ≡ input.faults
  pub output_faults : out'.faults ≡ out.faults
  pub done : HasCome setting count events None
  pub early : count < steps
