use Rattle.kk_types.proofs.ProgramOutcome.{program_is_checked, has_principal}
use Rattle.kk_types.proofs.PrincipalTypings.{function_decided}
use Rattle.kk_types.proofs.program.each_program_is_checked.Goals as goal

pub returns-clause-checked : goal.returns-clause-checked
returns-clause-checked c program = program_is_checked (function_decided c.graphs_are_decided.ensures.joins c.graphs_are_decided.ensures.graphs) program

pub returns-clause-principal : goal.returns-clause-principal
returns-clause-principal c program typed = has_principal (function_decided c.graphs_are_decided.ensures.joins c.graphs_are_decided.ensures.graphs) program typed
