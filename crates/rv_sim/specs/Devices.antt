-- What a run does: to the machine, as its definition says, and on the devices, whose contents are lists where they tell them.
use Rattle.std.specs.Prelude.{◌≡◌, ◌≢◌, ◌≤◌, ◌<◌, ℕ, ◌+◌, ◌-◌, List, [], ◌∷◌, ◌++◌, take, length, Bool, true, false, Option, Some, None, option_map}
use Rattle.kk_base.specs.Source.{SourceState}
use Rattle.kk_base.specs.Sink.{SinkState}
use Rattle.kk_base.specs.Trace.{Event, output, input, input_end, output_of, TakesBytes, TakesFrom, EndsOnce}
use Rattle.rv_isa.specs.Processor.{Ending, going, exited, trapped}
use Rattle.rv_isa.specs.InstructionSet.{go_on}
use Rattle.rv_isa.specs.Execution.{step, run}
use Rattle.rv_sim.specs.Simulation.{Simulation, processor_of, progress_of}
use Rattle.rv_sim.specs.declared.halt.Halt.{Halt}
use Rattle.rv_sim.specs.declared.halt.Halt.TheVariants.{Exit, StepsSpent, Trap, InputFault, OutputFault}

abbrev pub is_input_fault : Halt → Bool
is_input_fault InputFault = true
is_input_fault _ = false

abbrev pub is_output_fault : Halt → Bool
is_output_fault OutputFault = true
is_output_fault _ = false

abbrev pub is_fault : Halt → Bool
is_fault InputFault = true
is_fault OutputFault = true
is_fault _ = false

-- the answer of a run that stops here, no device having failed
abbrev pub halt_of : Ending → Halt
halt_of going = StepsSpent
halt_of (exited number) = Exit number
halt_of (trapped cause pc word) = Trap cause pc word

-- how the machine has ended where a run answers so
abbrev pub ending_at : Halt → Ending
ending_at (Exit number) = exited number
ending_at (Trap cause pc word) = trapped cause pc word
ending_at _ = going

-- how many instructions were executed, out of a budget of `steps`: all of it where it is spent, and fewer where a device has failed
abbrev pub ExecutesWithin : Halt → ℕ → ℕ → ℕ → Type 0
ExecutesWithin StepsSpent steps before now = now ≡ before + steps
ExecutesWithin InputFault steps before now = now < before + steps
ExecutesWithin OutputFault steps before now = now < before + steps
ExecutesWithin _ steps before now = now ≤ before + steps

-- how long the definition's run is that comes to the same: as the budget, since an ended machine stays; or, where a device has failed, as many
-- instructions as were executed
abbrev pub length_of : Halt → ℕ → ℕ → ℕ
length_of InputFault steps executed = executed
length_of OutputFault steps executed = executed
length_of _ steps executed = steps

-- the definition's run of `count` instructions leads from one to the other, and has done `events`, on each input that they can have taken
abbrev pub ComesTo : ℕ → List Event → Simulation → Simulation → Type 0
ComesTo count events old new =
    (left rest : List ℕ) (trace : List Event) → TakesFrom events left rest → go_on (progress_of old left trace) (run count) ≡ progress_of new rest (trace ++ events)

-- a source has given what the events took, where it tells what is left of it
abbrev pub GivesContent : List Event → Option (List ℕ) → Option (List ℕ) → Type 0
GivesContent events None None = Unit {0}
GivesContent events (Some before) (Some after) = TakesFrom events before after
GivesContent events _ _ = ⊥

-- a source has given the events, behind whose end no byte comes; what they took are bytes
pub record GivesEvents (events : List Event) (before after : SourceState) : Type 0 where
  pub content : GivesContent events before.left after.left
  pub once : EndsOnce events before.ended after.ended
  pub bytes : TakesBytes events

-- what is asked for is the next byte of what is left, or the end
abbrev pub asked : List ℕ → Event
asked [] = input_end
asked (byte ∷ rest) = input byte

-- the next instruction asks for a byte
abbrev pub NextAsks : Simulation → Type 0
NextAsks s = (left : List ℕ) (trace : List Event) → (step (processor_of s left trace)).processor.trace ≡ trace ++ asked left ∷ []

-- the next instruction puts a piece, and `cut` are first bytes of it
pub record NextPuts (cut : List ℕ) (s : Simulation) : Type 0 where
  pub piece : List ℕ
  pub some : 0 < length piece
  pub count : ℕ
  pub within : count ≤ length piece
  pub first : cut ≡ take count piece
  pub next : (left : List ℕ) (trace : List Event) → (step (processor_of s left trace)).processor.trace ≡ trace ++ output piece ∷ []

-- a device that has failed was called by the next instruction; only where a put failed is a piece cut
abbrev pub DeviceFails : Halt → List ℕ → Simulation → Type 0
DeviceFails InputFault cut s = (cut ≡ []) × NextAsks s
DeviceFails OutputFault cut s = NextPuts cut s
DeviceFails _ cut s = cut ≡ []

-- what a run of at most `steps` instructions has done, by its answer
pub record HasRun (answer : Halt) (steps : ℕ) (old new : Simulation) (source_before source_after : SourceState) (sink_before sink_after : SinkState) : Type 0 where
  -- on the outside: these events, and first bytes of one more piece
  pub events : List Event
  pub cut : List ℕ
  -- the devices have given and taken just that
  pub given : GivesEvents events source_before source_after
  pub held : sink_after.held ≡ option_map (λ before. before ++ (output_of events ++ cut)) sink_before.held
  -- the machine has come to what its definition comes to; one that had ended has done nothing
  pub comes : ComesTo (length_of answer steps (new.executed - old.executed)) events old new
  pub stays : old.ending ≢ going → events ≡ []
  -- the answer tells how the machine has ended, whether a device has failed, and how many instructions were executed
  pub ending : new.ending ≡ ending_at answer
  pub faulted : new.faulted ≡ is_fault answer
  pub later : old.executed ≤ new.executed
  pub executed : ExecutesWithin answer steps old.executed new.executed
  -- a device has failed at the next instruction
  pub fails : DeviceFails answer cut new
