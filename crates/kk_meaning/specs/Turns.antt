-- The turns that the machine answers, by the steps of its definition.
use Rattle.std.specs.Prelude.{◌≡◌, ℕ, List, [], ◌∷◌, Option, Some, None}
use Rattle.kk_base.specs.Trace.{Event, output, input as taken, input_end}
use Rattle.kk_source.specs.Notes.{seen}
use Rattle.kk_source.specs.State.{Setting, End, ended, heap_full, stack_full, Frame, arguments, Control, value, stopped, Configuration}
use Rattle.kk_source.specs.SourceAfter.{step}
use Rattle.kk_meaning.specs.declared.turn.Turn.{Turn}
use Rattle.kk_meaning.specs.declared.turn.Turn.TheVariants.{Went, Printed, WantsInput, Ended, HeapFull, StackFull}
use Rattle.kk_source.specs.Actions.{Action, goes, puts, takes, builds, calls}

-- the turn of a step of which the world sees nothing, by what the machine is at after it
abbrev pub quiet_turn : Control → Turn
quiet_turn (stopped ended) = Ended
quiet_turn (stopped heap_full) = HeapFull
quiet_turn (stopped stack_full) = StackFull
quiet_turn _ = Went

-- A step's turn, and the machine after it, by the machine before it. A step that takes a byte is not done: the machine
-- stays, and the turn asks for the byte.
abbrev pub turn_of : Configuration → Action Configuration → Turn × Configuration
turn_of before (goes to) = (quiet_turn to.control, to)
turn_of before (puts piece to) = (Printed piece, to)
turn_of before (takes to) = (WantsInput, before)
turn_of before (builds found to) = (quiet_turn to.control, to)
turn_of before (calls found to) = (quiet_turn to.control, to)

-- the step takes a byte of the input
abbrev pub TakesByte : Action Configuration → Type 0
TakesByte (goes to) = ⊥
TakesByte (puts piece to) = ⊥
TakesByte (takes to) = Unit {0}
TakesByte (builds found to) = ⊥
TakesByte (calls found to) = ⊥

-- the frames without that of a form which has its last argument
abbrev pub without_read : Control → List Frame → List Frame
without_read (value v) (arguments form values left environment ∷ older) = older
without_read _ frames = frames

-- From a machine a step leads to another, where it is given the next byte of the input or, by no byte, its end: whatever
-- comes behind that byte, the step takes it alone.
abbrev pub Reads : Setting → Option ℕ → Configuration → Configuration → Type 0
Reads setting (Some byte) from to = (rest : List ℕ) → step setting (record { machine = from; input = byte ∷ rest }) ≡ (seen (taken byte) ∷ [], record { machine = to; input = rest })
Reads setting None from to = step setting (record { machine = from; input = [] }) ≡ (seen input_end ∷ [], record { machine = to; input = [] })

-- the turn of a print
abbrev pub print_turn : List ℕ → Turn
print_turn [] = Went
print_turn (byte ∷ bytes) = Printed (byte ∷ bytes)

-- what a turn tells of the trace, and of the end; one that asks for a byte is no step, and tells nothing
abbrev pub events_of : Turn → List Event
events_of (Printed piece) = output piece ∷ []
events_of _ = []

abbrev pub end_of : Turn → Option End
end_of Ended = Some ended
end_of HeapFull = Some heap_full
end_of StackFull = Some stack_full
end_of _ = None
