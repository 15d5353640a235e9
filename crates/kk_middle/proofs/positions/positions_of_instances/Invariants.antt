use Rattle.std.proofs.Common.{◌≡◌, [], map, take}
use Rattle.std.specs.Prelude.{slice_index_or}
use Rattle.kk_syntax.specs.declared.ground.Instance.{Instance}
use Rattle.kk_syntax.specs.PositionsOf.{positions_of}
use Rattle.kk_middle.proofs.positions.positions_of_instances.Given as goal

abbrev pub invariant-loop-instance : goal.invariant-loop-instance
invariant-loop-instance l =
    map (λ row. row.items) l.functions.items
    ≡ map (λ (instance : Instance). slice_index_or (positions_of l.positions) instance.function []) (take l.instance-index l.instance-items)
