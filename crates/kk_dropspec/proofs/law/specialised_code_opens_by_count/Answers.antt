use Rattle.kk_dropspec.proofs.Openings.{all_by_count}
use Rattle.kk_dropspec.proofs.law.specialised_code_opens_by_count.Goals as goal

pub returns : goal.returns
returns c = all_by_count
