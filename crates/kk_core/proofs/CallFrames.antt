-- The frame of a function that waits for a call.
use Rattle.std.proofs.Common.{ℕ, List}
use Rattle.kk_syntax.specs.PositionsOf.{is_lent}
use Rattle.kk_source.specs.State.{Value, Environment}
use Rattle.kk_source.specs.Step.{lent_places}
use Rattle.kk_core.specs.Codes.{Code}
use Rattle.kk_core.specs.CoreStates.{CoreSetting, Join, CallFrame}

-- where function f is called on values: its value is for variable x, the rest comes then, and the places at lent positions are lent
abbrev pub call_frame : CoreSetting → ℕ → Code → List Join → Environment → ℕ → List Value → CallFrame
call_frame setting x rest joins environment f values = record {
  variable = x;
  rest = rest;
  joins = joins;
  environment = environment;
  lent = lent_places (is_lent setting.positions f) 0 values;
}
