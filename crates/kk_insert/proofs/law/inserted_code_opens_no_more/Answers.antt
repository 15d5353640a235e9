use Rattle.kk_insert.proofs.Openings.{inserted_opens}
use Rattle.kk_insert.proofs.law.inserted_code_opens_no_more.Goals as goal

pub returns : goal.returns
returns c = inserted_opens
