use Rattle.std.proofs.Common.{◌≡◌, ◌++◌, map, drop, length}
use Rattle.kk_syntax.specs.PositionsOf.{positions_of}
use Rattle.kk_core.specs.Codes.{function_code}
use Rattle.kk_counted.specs.Programs.{function_of}
use Rattle.kk_insert.specs.Insertion.{inserted_functions}
use Rattle.kk_insert.proofs.program.inserted.Given as goal

abbrev pub invariant-loop-at : goal.invariant-loop-at
invariant-loop-at l =
    (map function_of l.made.functions.items
    ++ inserted_functions (positions_of l.positions) l.at (map function_code (drop l.at l.core.functions.items))
    ≡ inserted_functions (positions_of l.positions) 0 (map function_code l.core.functions.items))
    × ((length l.made.functions.items ≡ l.at)
    × ((l.made.shape ≡ l.initial.made.shape)
    × ((l.made.body_nodes ≡ l.initial.made.body_nodes) × (l.made.nodes ≡ l.initial.made.nodes))))
