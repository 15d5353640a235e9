-- The states of the core machine, which gives a program in core form its meaning. Values, cells, environments and ends
-- are those of the store machine.
use Rattle.std.specs.Prelude.{ℕ, List, [], Option, Some, None, slice_index_or}
use Rattle.kk_syntax.specs.PositionsOf.{PositionTable}
use Rattle.kk_source.specs.State.{Value, Store, Environment, End}
use Rattle.kk_source.specs.Actions.{WithInput}
use Rattle.kk_core.specs.Codes.{Code, give, FunctionCode, ProgramCode}

-- what is run: a program in core form, the positions that are lent, and so many cells in the heap and call frames in the
-- stack
pub record CoreSetting : Type 0 where
  pub code : ProgramCode
  pub positions : PositionTable
  pub cells : ℕ
  pub depth : ℕ

-- what waits for the value of a block inside: the variable that takes it, and what comes then
pub record Join : Type 0 where
  pub variable : ℕ
  pub rest : Code

-- A function that waits for a call: the variable that takes the call's value, what comes then, the blocks that it is in,
-- the innermost one first, its environment, and the values that the call was lent.
pub record CallFrame : Type 0 where
  pub variable : ℕ
  pub rest : Code
  pub joins : List Join
  pub environment : Environment
  pub lent : List Value

-- what the machine is at: a code of a function, its environment and the blocks that it is in, the innermost one first; or
-- its end
pub data CoreControl : Type 0 where
  running : (code : Code) → (environment : Environment) → (joins : List Join) → CoreControl
  stopped : (by : End) → CoreControl

-- the machine without the outside: what it is at, the functions that wait, the newest one first, and the store
pub record CoreConfiguration : Type 0 where
  pub control : CoreControl
  pub frames : List CallFrame
  pub store : Store

-- the machine, and what is left of the input
abbrev pub CoreState : Type 0
CoreState = WithInput CoreConfiguration

-- what stands behind the last function, where no program looks
abbrev pub no_code : FunctionCode
no_code = record { parameters = 0; variables = 0; body = give 0 }

-- At its start it is at the body of `main`, and no function waits.
abbrev pub core_start : CoreSetting → CoreConfiguration
core_start setting =
    record {
      control = running (slice_index_or setting.code.functions setting.code.main no_code).body [] [];
      frames = [];
      store = [];
    }

-- the machine at its start, with its whole input left
abbrev pub core_first_state : CoreSetting → List ℕ → CoreState
core_first_state setting input = record { machine = core_start setting; input = input }

-- its end, if it is there
abbrev pub core_end_at : CoreControl → Option End
core_end_at (stopped by) = Some by
core_end_at _ = None
