use Rattle.kk_syntax.proofs.PatternTypes.{rows_of_type}
use Rattle.kk_cover.proofs.TypedRows.{function_rows}
use Rattle.kk_cover.proofs.law.typed_matches_have_typed_rows.Goals as goal

pub returns : goal.returns
returns c = record { here = rows_of_type; everywhere = function_rows }
