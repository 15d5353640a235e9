use Rattle.std.proofs.Common.{◌≡◌, map, take}
use Rattle.kk_syntax.specs.PositionsOf.{positions_of}
use Rattle.kk_core.specs.declared.form.CoreFunction.{CoreFunction}
use Rattle.kk_counted.specs.declared.shape.InstanceShape.{InstanceShape}
use Rattle.kk_counted.specs.InstancePositions.{positions_in}
use Rattle.kk_insert.specs.Shapes.{cells_told, cells_in}
use Rattle.kk_insert.proofs.shaping.instances.Given as goal

abbrev pub invariant-loop-at : goal.invariant-loop-at
invariant-loop-at l =
    (positions_in l.made.items ≡ take l.at (positions_of l.positions))
    × ((map cells_in l.made.items ≡ map cells_told (take l.at l.functions))
    × (map (λ (i : InstanceShape). i.result_has_cells) l.made.items ≡ map (λ (f : CoreFunction). f.result_has_cells) (take l.at l.functions)))
