-- The positions of instances, by the instances in memory.
use Rattle.std.proofs.Common.{◌≡◌, List, [], ◌∷◌, map, refl, ap}
use Rattle.std.specs.Prelude.{slice_index_or}
use Rattle.kk_syntax.specs.declared.ground.Instance.{Instance}
use Rattle.kk_syntax.specs.PositionsOf.{PositionTable}
use Rattle.kk_syntax.specs.Types.{TypeTree}
use Rattle.kk_mono.specs.Grounds.{instance_view}
use Rattle.kk_mono.specs.Instances.{InstanceTree}

pub positions_viewed : (types : List TypeTree) (table : PositionTable) (instances : List Instance)
    → map (λ (i : InstanceTree). slice_index_or table i.function []) (map (instance_view types) instances)
    ≡ map (λ (i : Instance). slice_index_or table i.function []) instances
positions_viewed types table [] = refl
positions_viewed types table (i ∷ instances) =
    ap (λ rows. slice_index_or table i.function [] ∷ rows) (positions_viewed types table instances)
