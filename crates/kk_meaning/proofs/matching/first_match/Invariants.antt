use Rattle.std.proofs.Common.{◌≡◌, map, drop}
use Rattle.kk_syntax.specs.Trees.{row_tree, rows_of}
use Rattle.kk_source.specs.State.{Environment}
use Rattle.kk_source.specs.Matching.{first_match}
use Rattle.kk_meaning.specs.View.{value_view, cell_view}
use Rattle.kk_meaning.proofs.matching.first_match.Given as goal

abbrev pub invariant-loop-row : goal.invariant-loop-row
invariant-loop-row l = (environment : Environment) → first_match (map cell_view l.store) (rows_of (map row_tree (drop l.row-index l.rows))) (value_view l.value) environment ≡ first_match (map cell_view l.store) (rows_of (map row_tree l.rows)) (value_view l.value) environment
