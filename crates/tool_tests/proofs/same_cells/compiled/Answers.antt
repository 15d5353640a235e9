use Rattle.kk_syntax.specs.Programs.{program_tree}
use Rattle.kk_build.proofs.LentNames.{keeps_lent}
use Rattle.tool_tests.proofs.same_cells.compiled.Goals as goal

pub compile-requires-clause-checked : goal.compile-requires-clause-checked
compile-requires-clause-checked c =
    c.accepted_programs_are_typed.ensures.checked _ (program_tree c.in-Ok.accepted.typed.program) _ c.in-Ok.ensures.program
    c.in-Ok.ensures.principal

pub compile-requires-clause-lent : goal.compile-requires-clause-lent
compile-requires-clause-lent c positions least =
    let resolved = c.accepted_programs_are_typed.ensures.resolved _ (program_tree c.in-Ok.accepted.typed.program) c.in-Ok.ensures.program
    in
    keeps_lent resolved.0.declarations (program_tree c.in-Ok.accepted.typed.program) resolved.1 positions
