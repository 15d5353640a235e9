use Rattle.kk_insert.proofs.Programs.{inserted_is_spent}
use Rattle.kk_insert.proofs.law.inserted_code_is_spent.Goals as goal

-- src/law.rt:9:1
pub returns : goal.returns
returns c = inserted_is_spent
