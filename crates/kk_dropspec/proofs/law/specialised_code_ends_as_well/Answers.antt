use Rattle.kk_dropspec.proofs.SpecialWords.{special_ends}
use Rattle.kk_dropspec.proofs.law.specialised_code_ends_as_well.Goals as goal

pub returns : goal.returns
returns c = special_ends
