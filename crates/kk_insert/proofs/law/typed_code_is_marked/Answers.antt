use Rattle.kk_insert.proofs.MarkedPrograms.{typed_is_marked, tables_tell, grounds_are}
use Rattle.kk_insert.proofs.law.typed_code_is_marked.Goals as goal

pub returns : goal.returns
returns c = record {
  marked = λ positions table code typed ground. typed_is_marked positions table ground typed.truths code typed;
  tables = tables_tell;
  ground = grounds_are;
}
