use Rattle.std.proofs.Common.{take}
use Rattle.kk_norm.proofs.CellTables.{TableSoFar}
use Rattle.kk_norm.proofs.cells.cell_types.Given as goal

abbrev pub invariant-loop-constructor : goal.invariant-loop-constructor
invariant-loop-constructor l = TableSoFar l.given (take l.constructor-index l.constructor-items) l.table.items
