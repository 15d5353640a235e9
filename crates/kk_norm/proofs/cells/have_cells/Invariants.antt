use Rattle.std.proofs.Common.{◌≡◌, map, take}
use Rattle.kk_norm.specs.CellTables.{at_type}
use Rattle.kk_norm.proofs.cells.have_cells.Given as goal

abbrev pub invariant-loop-of_type : goal.invariant-loop-of_type
invariant-loop-of_type l = l.flags.items ≡ map (at_type l.table) (take l.of_type-index l.types)
