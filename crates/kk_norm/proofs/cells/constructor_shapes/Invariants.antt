use Rattle.std.proofs.Common.{take}
use Rattle.kk_norm.specs.CellTables.{AreShapesOf}
use Rattle.kk_norm.proofs.cells.constructor_shapes.Given as goal

abbrev pub invariant-loop-constructor : goal.invariant-loop-constructor
invariant-loop-constructor l = AreShapesOf l.table (take l.constructor-index l.constructor-items) l.shapes.items
