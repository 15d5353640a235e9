use Rattle.std.proofs.Common.{◌≡◌, List, ℕ, Some, None, length, ap, subst, sym, ◌∙◌}
use Rattle.elf_image.specs.Loaded.{reason_of}
use Rattle.kk_command.specs.Requests.{bench}
use Rattle.kk_perform.specs.Internal.{EndsWell}
use Rattle.kk_perform.proofs.Benches.{generated_refused, generated_built, generated_ran, generated_idle}
use Rattle.kk_perform.proofs.Rows.{no_words}
use Rattle.kk_perform.proofs.SourceRuns.{ends_well, stops_well}
use Rattle.kk_perform.proofs.bench.bench_program.Goals as goal

-- memory was refused for the text
pub returns-in-Err : goal.returns-in-Err
returns-in-Err g c = λ files.
    let sizes = c.args.sizes in
    no_words files _ _ _ (Some (bench c.args.generation.seed c.args.generation.size sizes.cells sizes.depth c.args.steps))

-- the text is refused
pub returns-in-Err-build : goal.returns-in-Err-build
returns-in-Err-build g c = λ files.
    generated_refused files c.args.generation.seed c.args.generation.size c.args.sizes.cells c.args.sizes.depth c.args.steps
    _ _ _ c.in-Ok.text c.as_slice.result.now c.in-Err-build.refusal c.refusal_answer.result
    c.in-Ok.ensures c.as_slice.ensures c.refusal_answer.ensures c.in-Err-build.ensures.err

-- the image that was built can be loaded
pub run_built-requires : goal.run_built-requires
run_built-requires g c =
    let P : List ℕ → Type 0 = λ bytes. reason_of bytes ≡ None in
    subst P (sym c.as_slice-2.ensures) c.in-Ok-build.ensures.ok.is_file.is_image.loads.sound

-- it agrees with its program, and so its run stops well
pub bench_answer-requires : goal.bench_answer-requires
bench_answer-requires g c =
    let is = c.in-Ok-build.ensures.ok in
    let well = ends_well is.program _ c.args.sizes.cells c.args.sizes.depth is.is_file.setting is.is_file.is_run is.is_file.agrees in
    stops_well c.as_slice-2.result.now c.args.steps c.in-Ok-run_built.stopped.halt _ _ _ _
    (subst EndsWell (sym c.as_slice-2.ensures) well) c.in-Ok-run_built.ensures.ran.runs

-- the image was run
pub returns-in-Ok-run_built : goal.returns-in-Ok-run_built
returns-in-Ok-run_built g c = λ files.
    let made = generated_built c.args.generation.seed c.args.generation.size c.args.sizes.cells c.args.sizes.depth
    c.in-Ok.text c.as_slice.result.now c.in-Ok-build.bytes c.in-Ok.ensures c.as_slice.ensures c.in-Ok-build.ensures.ok in
    generated_ran files c.args.generation.seed c.args.generation.size c.args.sizes.cells c.args.sizes.depth c.args.steps
    _ c.in-Ok-build.bytes made _ _ _ _ _
    c.as_slice-2.result.now c.in-Ok-run_built.stopped.halt c.in-Ok-run_built.stopped.machine _ _ c.bench_answer.result
    c.as_slice-2.ensures (ap length (c.as_slice-in-Ok-run_built.ensures ∙ c.in-Ok.ensures))
    (ap length c.as_slice-in-Ok-run_built-2.ensures) c.in-Ok-run_built.ensures.ran c.bench_answer.ensures

-- memory was refused for loading it
pub returns : goal.returns
returns g c = λ files.
    let made = generated_built c.args.generation.seed c.args.generation.size c.args.sizes.cells c.args.sizes.depth
    c.in-Ok.text c.as_slice.result.now c.in-Ok-build.bytes c.in-Ok.ensures c.as_slice.ensures c.in-Ok-build.ensures.ok in
    generated_idle files c.args.generation.seed c.args.generation.size c.args.sizes.cells c.args.sizes.depth c.args.steps
    _ c.in-Ok-build.bytes made _ _ _ _ c.in-Err-run_built.ensures.input_kept c.in-Err-run_built.ensures.out_kept
