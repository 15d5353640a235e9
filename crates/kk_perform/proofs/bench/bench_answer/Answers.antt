use Rattle.std.proofs.Common.{◌∙◌, sym, refl}
use Rattle.kk_perform.specs.Internal.{without_line}
use Rattle.kk_perform.proofs.Benches.{answered_with_line}
use Rattle.kk_perform.proofs.bench.bench_answer.Goals as goal

-- the program ended by itself, and the line was put, whole or in part
pub returns-then-is_measured : goal.returns-then-is_measured
returns-then-is_measured g c =
    let asked = sym c.tells_statistics-is_measured.ensures ∙ c.if-is_measured.true in
    let stopped = c.args.stopped.now in
    answered_with_line stopped.halt stopped.machine c.args.sizes.cells c.args.sizes.depth c.args.steps c.args.source c.args.image
    _ _ c.run_end-end.result c.told_end.result c.put_summary-is_told.result c.executed-instructions.result c.free_cells-free.result
    c.run_end-end.ensures asked c.executed-instructions.ensures c.free_cells-free.ensures c.put_summary-is_told.ensures
    c.told_end.ensures

-- it was stopped before, and nothing was put
pub returns-else-is_measured : goal.returns-else-is_measured
returns-else-is_measured g c =
    let quiet = sym c.tells_statistics-is_measured.ensures ∙ c.if-is_measured.false in
    without_line c.run_end-end.result c.run_end-end.ensures quiet refl
