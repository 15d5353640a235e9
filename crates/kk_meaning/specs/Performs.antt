-- What the parts of a step do to the machine as it is kept.
use Rattle.std.specs.Prelude.{◌≡◌, Result, IfOk, OnErr}
use Rattle.kk_base.specs.declared.error.NoMemory.{NoMemory}
use Rattle.kk_source.specs.State.{Configuration}
use Rattle.kk_meaning.specs.declared.turn.Turn.{Turn}
use Rattle.kk_meaning.specs.declared.machine.Machine.{Machine}
use Rattle.kk_meaning.specs.Machines.{setting_of, configuration_of, Fits}
use Rattle.kk_meaning.specs.Turns.{turn_of}
use Rattle.kk_source.specs.Actions.{Action}

-- An action of the definition is done. The machine runs what it ran, and fits; the turn, and the machine after it, are
-- those of the action. Where memory is refused the machine is as it was.
pub record Performs (action : Action Configuration) (before after : Machine) (result : Result Turn NoMemory) : Type 0 where
  pub setting : setting_of after ≡ setting_of before
  pub fits : Fits after
  pub ok : IfOk result (λ turn. (turn, configuration_of after) ≡ turn_of (configuration_of before) action)
  pub err : OnErr result (configuration_of after ≡ configuration_of before)
