use Rattle.kk_perform.proofs.Rows.{text_refused, text_of_file, image_built}
use Rattle.kk_perform.proofs.perform.build_image.Goals as goal

pub returns-clause-err : goal.returns-clause-err
returns-clause-err g c = λ input out request asked is.
    text_refused _ _ input out c.args.image.now c.in-Ok.text c.as_slice.result.now c.in-Err-build.refusal c.refusal_answer.result
    request c.as_slice.ensures c.refusal_answer.ensures
    (text_of_file _ request c.args.file.now c.in-Ok.text asked is c.in-Ok.ensures.text) c.in-Ok.ensures.kept
    c.in-Err-build.ensures.err

pub returns-in-Ok-build-clause-built : goal.returns-in-Ok-build-clause-built
returns-in-Ok-build-clause-built g c =
    image_built _ c.args.file.now c.in-Ok.text c.as_slice.result.now c.args.sizes.cells c.args.sizes.depth c.in-Ok-build.bytes c.as_slice.ensures c.in-Ok.ensures.text c.in-Ok-build.ensures.ok
