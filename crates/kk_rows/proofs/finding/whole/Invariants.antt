use Rattle.std.proofs.Common.{◌≡◌, map, take}
use Rattle.kk_rows.specs.Covered.{row_outlines}
use Rattle.kk_syntax.specs.Outlines.{no_outline, outline}
use Rattle.kk_slots.specs.Problems.{row_view}
use Rattle.kk_rows.proofs.finding.whole.Given as goal

abbrev pub invariant-loop-row : goal.invariant-loop-row
invariant-loop-row l = map (λ row. row_view row.items) l.left.items ≡ map (λ p. outline p no_outline) (row_outlines (take l.row-index l.rows))
