use Rattle.kk_insert.proofs.Lowerability.{typed_is_short}
use Rattle.kk_insert.proofs.law.inserted_code_is_short.Goals as goal

pub returns : goal.returns
returns c = typed_is_short
