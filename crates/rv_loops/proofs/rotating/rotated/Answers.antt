use Rattle.std.proofs.Common.{◌≤◌, List, map, sym, subst}
use Rattle.rv_isa.specs.declared.placed.Placed.{Placed}
use Rattle.rv_isa.specs.declared.placed.PlacedFunction.{PlacedFunction}
use Rattle.rv_isa.specs.Costs.{placed_functions_length}
use Rattle.rv_isa.specs.PlacedCode.{placed_lines_of, placed_functions}
use Rattle.rv_loops.specs.Rotation.{AreRotated}
use Rattle.rv_loops.proofs.CodeLength.{functions_short}
use Rattle.rv_loops.proofs.rotating.rotated.Goals as goal

pub returns-in_ok-functions-in-Program-clause-short : goal.returns-in_ok-functions-in-Program-clause-short
returns-in_ok-functions-in-Program-clause-short c =
    subst (λ (program : Placed). placed_functions_length (map placed_lines_of c.in_ok-functions-in-Program.functions.items) ≤ placed_functions_length (placed_functions program))
    (sym c.in-Program.is)
    (functions_short 0 _ (map placed_lines_of c.in_ok-functions-in-Program.functions.items)
    (subst (λ (functions : List PlacedFunction). AreRotated 0 (map placed_lines_of functions)
    (map placed_lines_of c.in_ok-functions-in-Program.functions.items)) c.deref.ensures.value c.in_ok-functions-in-Program.ensures))
