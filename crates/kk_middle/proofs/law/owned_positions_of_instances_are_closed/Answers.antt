use Rattle.kk_middle.proofs.LentInstances.{instances_told, instances_closed, instances_keep}
use Rattle.kk_middle.proofs.law.owned_positions_of_instances_are_closed.Goals as goal

pub returns : goal.returns
returns c =
    record {
      told = λ program made typings instances table is told. instances_told program made typings instances is table told;
      closed = λ program made typings instances table is told. instances_closed program made typings instances is table told;
      keeps = λ program made typings instances table is told. instances_keep program made typings instances is table told;
    }
