use Rattle.std.proofs.Common.{◌∙◌, sym}
use Rattle.kk_perform.specs.Internal.{without_statistics, with_statistics}
use Rattle.kk_perform.proofs.perform.run_answer.Goals as goal

pub returns-then-is_measured : goal.returns-then-is_measured
returns-then-is_measured c =
    with_statistics c.run_end-end.result c.executed.result c.free_cells.result c.run_end-end.ensures (sym c.tells_statistics-is_measured.ensures ∙ c.if-is_measured.true) c.executed.ensures c.free_cells.ensures

pub returns-else-is_measured : goal.returns-else-is_measured
returns-else-is_measured c =
    without_statistics c.run_end-end.result c.run_end-end.ensures (sym c.tells_statistics-is_measured.ensures ∙ c.if-is_measured.false)
