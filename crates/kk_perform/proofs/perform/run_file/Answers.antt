use Rattle.std.proofs.Common.{◌≡◌, List, ℕ, None, subst, sym}
use Rattle.elf_image.specs.Loaded.{reason_of}
use Rattle.kk_perform.specs.Internal.{EndsWell}
use Rattle.kk_perform.proofs.Rows.{image_ran, image_idle}
use Rattle.kk_perform.proofs.SourceRuns.{ends_well, stops_well}
use Rattle.kk_perform.proofs.perform.run_file.Goals as goal

-- the image that was built can be loaded
pub run_built-requires : goal.run_built-requires
run_built-requires g c =
    let P : List ℕ → Type 0 = λ bytes. reason_of bytes ≡ None in
    subst P (sym c.as_slice.ensures) c.in-Ok.ensures.built.built.is_file.is_image.loads.sound

-- it agrees with its program, and so its run stops well
pub run_answer-requires : goal.run_answer-requires
run_answer-requires g c =
    let is = c.in-Ok.ensures.built.built in
    stops_well c.as_slice.result.now c.args.options.steps c.in-Ok-run_built.stopped.halt _ _ _ _
    (subst EndsWell (sym c.as_slice.ensures) (ends_well is.program _ c.args.options.sizes.cells c.args.options.sizes.depth is.is_file.setting is.is_file.is_run is.is_file.agrees)) c.in-Ok-run_built.ensures.ran.runs

pub returns-in-Ok-run_built : goal.returns-in-Ok-run_built
returns-in-Ok-run_built g c =
    image_ran _ _ c.in-Ok.ensures.kept _ _ c.args.file.now c.args.options.sizes.cells c.args.options.sizes.depth c.in-Ok.ensures.built _ _ _ _ c.args.options.steps c.args.options.stats
    c.as_slice.result.now c.in-Ok-run_built.stopped.halt c.in-Ok-run_built.stopped.machine c.run_answer.result c.as_slice.ensures c.in-Ok-run_built.ensures.ran c.run_answer.ensures

pub returns-in-Err-run_built : goal.returns-in-Err-run_built
returns-in-Err-run_built g c =
    image_idle _ _ c.in-Ok.ensures.kept _ _ c.args.file.now c.args.options.sizes.cells c.args.options.sizes.depth c.in-Ok.ensures.built _ _ _ _ c.args.options.steps c.args.options.stats
    c.in-Err-run_built.ensures.input_kept c.in-Err-run_built.ensures.out_kept
