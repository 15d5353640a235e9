-- The states of the machine with tokens: those of the counted machine, and its tokens.
use Rattle.std.specs.Prelude.{ℕ, Bool, List, [], map, Option, Some, None, slice_index_or}
use Rattle.kk_source.specs.State.{Environment, End}
use Rattle.kk_source.specs.Actions.{WithInput}
use Rattle.kk_counted.specs.Heaps.{Heap}
use Rattle.kk_counted.specs.CountedStates.{CountedSetting, CountedJoin, CountedFrame, CountedControl, CountedConfiguration, CountedState}
use Rattle.kk_counted.specs.TokenedCodes.{Tokened, TokenedFunction, TokenedProgram}
use Rattle.kk_counted.specs.BareForms.{bare, bare_program}
use Rattle.kk_counted.specs.Tokens.{Tokens, no_tokens}

-- What is run: a program with tokens, with so many cells in the heap and call frames in the stack. Where it leaves fields, a
-- construction in a token's cell does not write those that it is to keep; else it writes all fields.
pub record TokenSetting : Type 0 where
  pub program : TokenedProgram
  pub cells : ℕ
  pub depth : ℕ
  pub leaves : Bool

pub record TokenJoin : Type 0 where
  pub variable : ℕ
  pub rest : Tokened

pub record TokenFrame : Type 0 where
  pub variable : ℕ
  pub rest : Tokened
  pub joins : List TokenJoin
  pub environment : Environment

pub data TokenControl : Type 0 where
  running : (code : Tokened) → (environment : Environment) → (joins : List TokenJoin) → TokenControl
  stopped : (by : End) → TokenControl
  stuck : TokenControl

pub record TokenConfiguration : Type 0 where
  pub control : TokenControl
  pub frames : List TokenFrame
  pub heap : Heap
  pub tokens : Tokens

abbrev pub TokenState : Type 0
TokenState = WithInput TokenConfiguration

-- what stands behind the last function, where no program looks
abbrev pub no_tokened : TokenedFunction
no_tokened = record { parameters = 0; body = Tokened.give 0 }

-- at its start it is at the body of `main`, no function waits, and there is no cell and no token
abbrev pub token_start : TokenSetting → TokenConfiguration
token_start setting =
    record {
      control = TokenControl.running (slice_index_or setting.program.functions setting.program.main no_tokened).body [] [];
      frames = [];
      heap = [];
      tokens = no_tokens;
    }

abbrev pub token_first_state : TokenSetting → List ℕ → TokenState
token_first_state setting input = record { machine = token_start setting; input = input }

abbrev pub token_end_at : TokenControl → Option End
token_end_at (TokenControl.stopped by) = Some by
token_end_at _ = None

-- ---- the same states without tokens

abbrev pub bare_join : TokenJoin → CountedJoin
bare_join join = record { variable = join.variable; rest = bare join.rest }

abbrev pub bare_frame : TokenFrame → CountedFrame
bare_frame frame =
    record { variable = frame.variable; rest = bare frame.rest; joins = map bare_join frame.joins; environment = frame.environment }

abbrev pub bare_control : TokenControl → CountedControl
bare_control (TokenControl.running code environment joins) = CountedControl.running (bare code) environment (map bare_join joins)
bare_control (TokenControl.stopped by) = CountedControl.stopped by
bare_control TokenControl.stuck = CountedControl.stuck

abbrev pub bare_configuration : TokenConfiguration → CountedConfiguration
bare_configuration c = record { control = bare_control c.control; frames = map bare_frame c.frames; heap = c.heap }

abbrev pub bare_state : TokenState → CountedState
bare_state s = record { machine = bare_configuration s.machine; input = s.input }

abbrev pub bare_setting : TokenSetting → CountedSetting
bare_setting setting =
    record { program = bare_program setting.program; cells = setting.cells; depth = setting.depth }
