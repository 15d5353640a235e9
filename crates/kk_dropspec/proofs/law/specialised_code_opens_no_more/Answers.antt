use Rattle.kk_dropspec.proofs.Openings.{special_opens}
use Rattle.kk_dropspec.proofs.law.specialised_code_opens_no_more.Goals as goal

pub returns : goal.returns
returns c = special_opens
