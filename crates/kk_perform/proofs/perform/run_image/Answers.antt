use Rattle.kk_perform.proofs.ImageRuns.{has_stopped}
use Rattle.kk_perform.proofs.perform.run_image.Goals as goal

pub returns-clause-ran : goal.returns-clause-ran
returns-clause-ran g c = λ file is.
    let loaded = c.in_ok-machine.ensures in
    let ran = c.run-halt.ensures in
    has_stopped file _ _ is c.in_ok-machine.machine c.run-halt.new.self loaded.start c.args.steps _ _ _ _ loaded.fresh c.run-halt.result ran.ran ran.input_faults ran.output_faults
