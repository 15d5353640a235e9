-- What a run of a program has come to after a number of steps.
use Rattle.std.specs.Prelude.{ℕ, ◌+◌, List, Option, Some, None}
use Rattle.kk_base.specs.Trace.{Event}
use Rattle.kk_base.specs.Machines.{Machine, until, mapped, trace, ending_after}
use Rattle.kk_source.specs.Notes.{Note, events_of}
use Rattle.kk_source.specs.Actions.{WithInput, performed}
use Rattle.kk_source.specs.State.{Setting, End, ended, heap_full, stack_full, end_at, Configuration, start}
use Rattle.kk_source.specs.Step.{step_of}

-- the store machine, and what is left of its input
abbrev pub State : Type 0
State = WithInput Configuration

-- what a step tells, and the state after it
abbrev pub step : Setting → State → List Note × State
step setting s = performed (step_of setting s.machine) s.input

-- how a state has ended, if it has
abbrev pub ending_of : State → Option End
ending_of s = end_at s.machine.control

-- the store machine as a machine that tells all: it steps until it is at its end
abbrev pub store_machine : Setting → Machine State Note End
store_machine setting = until ending_of (step setting)

-- the store machine as the world sees it
abbrev pub source_machine : Setting → Machine State Event End
source_machine setting = mapped events_of (λ end. end) (store_machine setting)

-- the store machine at its start, with its whole input left
abbrev pub first_state : Setting → List ℕ → State
first_state setting input = record { machine = start setting; input = input }

-- the trace of a run, and how it has ended; none where it goes on
pub record After : Type 0 where
  pub trace : List Event
  pub ending : Option End

-- a run after n steps, or after fewer where it has ended; the step that finds the end is one of them
abbrev pub source_after : Setting → List ℕ → ℕ → After
source_after setting input n = record {
  trace = trace (source_machine setting) n (first_state setting input);
  ending = ending_after (source_machine setting) n (first_state setting input);
}

-- a run that has come to this, if to an end, has not found the heap or the stack full
abbrev pub HasRoom : Option End → Type 0
HasRoom (Some heap_full) = ⊥
HasRoom (Some stack_full) = ⊥
HasRoom (Some ended) = Unit {0}
HasRoom None = Unit {0}

-- a run without limits after n steps: with more cells and a greater depth than n steps can fill
abbrev pub unlimited_after : Setting → List ℕ → ℕ → After
unlimited_after setting input n = source_after (record setting { cells = n + 2; depth = n + 2 }) input n
