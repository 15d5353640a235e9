use Rattle.std.proofs.Common.{map, take}
use Rattle.kk_syntax.specs.GroundPrograms.{ground_types, instance_tree, ground_program}
use Rattle.kk_core.specs.Codes.{function_code}
use Rattle.kk_norm.specs.CellTables.{TellCells}
use Rattle.kk_norm.specs.Normalized.{AreCoresOf}
use Rattle.kk_norm.proofs.program.all_functions.Given as goal

abbrev pub invariant-loop-instance : goal.invariant-loop-instance
invariant-loop-instance l =
    TellCells l.table (take l.instance-index l.instance-items) l.cores.items
    × AreCoresOf (ground_program l.given).constructors (map (instance_tree (ground_types l.given.types.items)) (take l.instance-index l.instance-items)) (map function_code l.cores.items)
