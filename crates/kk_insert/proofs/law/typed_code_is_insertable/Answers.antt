use Rattle.kk_insert.proofs.TypedPrograms.{typed_insertable}
use Rattle.kk_insert.proofs.law.typed_code_is_insertable.Goals as goal

pub returns : goal.returns
returns c = typed_insertable
