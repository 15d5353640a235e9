use Rattle.kk_syntax.specs.Programs.{program_tree}
use Rattle.kk_build.proofs.LentNames.{keeps_lent}
use Rattle.kk_build.proofs.build.Goals as goal

pub file_of-requires-clause-checked : goal.file_of-requires-clause-checked
file_of-requires-clause-checked c =
    let program = program_tree c.in_ok-accepted.accepted.typed.program in
    c.accepted_programs_are_typed.ensures.checked c.args.text.now program _ c.in_ok-accepted.ensures.program c.in_ok-accepted.ensures.principal

pub file_of-requires-clause-lent : goal.file_of-requires-clause-lent
file_of-requires-clause-lent c positions =
    let program = program_tree c.in_ok-accepted.accepted.typed.program in
    let resolved = c.accepted_programs_are_typed.ensures.resolved c.args.text.now program c.in_ok-accepted.ensures.program in
    keeps_lent resolved.0.declarations program resolved.1 positions

pub returns-in-Ok-clause-ok : goal.returns-in-Ok-clause-ok
returns-in-Ok-clause-ok c =
    let program = program_tree c.in_ok-accepted.accepted.typed.program in
    record {
      program = program;
      is_program = c.in_ok-accepted.ensures.program;
      typings = _;
      principal = c.in_ok-accepted.ensures.principal;
      checked = c.accepted_programs_are_typed.ensures.checked c.args.text.now program _ c.in_ok-accepted.ensures.program c.in_ok-accepted.ensures.principal;
      is_file = c.in-Ok.ensures;
    }
