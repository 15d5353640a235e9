use Rattle.kk_command.specs.Requests.{eval}
use Rattle.kk_syntax.specs.Programs.{program_tree}
use Rattle.kk_perform.proofs.Rows.{text_refused, program_evaluated, program_cut_short}
use Rattle.kk_perform.proofs.perform.evaluate_file.Goals as goal

pub returns-in-Err-read : goal.returns-in-Err-read
returns-in-Err-read g c = λ image.
    text_refused _ _ _ _ image c.in-Ok.text c.as_slice.result.now c.in-Err-read.refusal c.refusal_answer.result
    (eval c.args.file.now c.args.sizes.cells c.args.sizes.depth c.args.steps) c.as_slice.ensures c.refusal_answer.ensures
    c.in-Ok.ensures.text c.in-Ok.ensures.kept c.in-Err-read.ensures.err

pub returns-in-Ok-run_accepted : goal.returns-in-Ok-run_accepted
returns-in-Ok-run_accepted g c = λ image.
    program_evaluated _ _ c.in-Ok.ensures.kept c.args.file.now c.in-Ok.text c.as_slice.result.now image _ _ c.args.steps (program_tree c.in-Ok-read.accepted.typed.program)
    c.as_slice.ensures c.in-Ok.ensures.text c.in-Ok-read.ensures.program _ _ _ _ c.in-Ok-run_accepted.end c.in-Ok-run_accepted.ensures

pub returns : goal.returns
returns g c = λ image.
    program_cut_short _ _ c.in-Ok.ensures.kept c.args.file.now c.in-Ok.text c.as_slice.result.now image _ _ c.args.steps (program_tree c.in-Ok-read.accepted.typed.program)
    c.as_slice.ensures c.in-Ok.ensures.text c.in-Ok-read.ensures.program _ _ _ _ _ c.in-Err-run_accepted.ensures
