use Rattle.kk_perform.proofs.Rows.{image_refused, image_simulated, image_not_simulated}
use Rattle.kk_perform.proofs.perform.simulate_file.Goals as goal

pub returns-in-Err-read : goal.returns-in-Err-read
returns-in-Err-read g c =
    image_refused _ _ c.in-Ok.ensures.kept _ _ c.args.file.now c.args.steps c.in-Ok.ensures.image _ _ c.as_slice.result.now c.in-Err-read.error c.bad_image_answer.result c.as_slice.ensures c.bad_image_answer.ensures c.in-Err-read.ensures.err

pub returns-in-Ok-run_image : goal.returns-in-Ok-run_image
returns-in-Ok-run_image g c =
    image_simulated _ _ c.in-Ok.ensures.kept _ _ c.args.file.now c.args.steps c.in-Ok.ensures.image _ _ _ _ c.as_slice.result.now c.in-Ok-run_image.stopped.halt c.in-Ok-run_image.stopped.machine c.as_slice.ensures
    c.in-Ok-read.ensures.ok.sound (c.in-Ok-run_image.ensures.ran c.as_slice.result.now c.in-Ok-read.ensures.ok)

pub returns : goal.returns
returns g c =
    image_not_simulated _ _ c.in-Ok.ensures.kept _ _ c.args.file.now c.args.steps c.in-Ok.ensures.image _ _ _ _ c.in-Err-run_image.ensures.input_kept c.in-Err-run_image.ensures.out_kept
