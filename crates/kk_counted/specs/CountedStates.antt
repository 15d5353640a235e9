-- The states of the counted machine. Values, environments and ends are those of the store machine; the heap has counts.
use Rattle.std.specs.Prelude.{ℕ, List, [], Option, Some, None, slice_index_or}
use Rattle.kk_source.specs.State.{Environment, End}
use Rattle.kk_source.specs.Actions.{WithInput}
use Rattle.kk_counted.specs.CountedCodes.{Counted, give, CountedFunction, CountedProgram}
use Rattle.kk_counted.specs.Heaps.{Heap}

-- what is run: a program in counted form, with so many cells in the heap and call frames in the stack
pub record CountedSetting : Type 0 where
  pub program : CountedProgram
  pub cells : ℕ
  pub depth : ℕ

-- what waits for the value of a block inside: the variable that takes it, and what comes then
pub record CountedJoin : Type 0 where
  pub variable : ℕ
  pub rest : Counted

-- a function that waits for a call: the variable that takes the call's value, what comes then, the blocks that it is in, the
-- innermost one first, and its environment
pub record CountedFrame : Type 0 where
  pub variable : ℕ
  pub rest : Counted
  pub joins : List CountedJoin
  pub environment : Environment

-- What the machine is at: a code of a function, its environment and the blocks that it is in, the innermost one first; its
-- end; or it is stuck, where it should have used a cell that is not counted, or one of another constructor.
pub data CountedControl : Type 0 where
  running : (code : Counted) → (environment : Environment) → (joins : List CountedJoin) → CountedControl
  stopped : (by : End) → CountedControl
  stuck : CountedControl

-- the machine without the outside: what it is at, the functions that wait, the newest one first, and the heap
pub record CountedConfiguration : Type 0 where
  pub control : CountedControl
  pub frames : List CountedFrame
  pub heap : Heap

-- the machine, and what is left of the input
abbrev pub CountedState : Type 0
CountedState = WithInput CountedConfiguration

-- what stands behind the last function, where no program looks
abbrev pub no_function : CountedFunction
no_function = record { parameters = 0; body = give 0 }

-- at its start it is at the body of `main`, no function waits, and there is no cell
abbrev pub counted_start : CountedSetting → CountedConfiguration
counted_start setting =
    record {
      control = running (slice_index_or setting.program.functions setting.program.main no_function).body [] [];
      frames = [];
      heap = [];
    }

-- the machine at its start, with its whole input left
abbrev pub counted_first_state : CountedSetting → List ℕ → CountedState
counted_first_state setting input = record { machine = counted_start setting; input = input }

-- its end, if it is there
abbrev pub counted_end_at : CountedControl → Option End
counted_end_at (stopped by) = Some by
counted_end_at _ = None
