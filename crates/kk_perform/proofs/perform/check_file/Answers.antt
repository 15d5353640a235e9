use Rattle.kk_perform.proofs.Rows.{text_refused, text_accepted}
use Rattle.kk_command.specs.Requests.{check}
use Rattle.kk_syntax.specs.Programs.{program_tree}
use Rattle.kk_perform.proofs.perform.check_file.Goals as goal

pub returns-in-Ok-read : goal.returns-in-Ok-read
returns-in-Ok-read g c = λ input out image.
    text_accepted _ _ input out image c.args.file.now c.in-Ok.text c.as_slice.result.now (program_tree c.in-Ok-read.field-0.typed.program) c.as_slice.ensures c.in-Ok.ensures.text c.in-Ok.ensures.kept c.in-Ok-read.ensures.program

pub returns : goal.returns
returns g c = λ input out image.
    text_refused _ _ input out image c.in-Ok.text c.as_slice.result.now c.in-Err-read.refusal c.refusal_answer.result
    (check c.args.file.now) c.as_slice.ensures c.refusal_answer.ensures c.in-Ok.ensures.text c.in-Ok.ensures.kept
    c.in-Err-read.ensures.err
