use Rattle.kk_dropspec.specs.Specialised.{special}
use Rattle.kk_dropspec.proofs.ChangedFunctions.{is_spent}
use Rattle.kk_dropspec.proofs.Spending.{spends_parameters}
use Rattle.kk_dropspec.proofs.law.specialised_code_is_spent.Goals as goal

pub returns : goal.returns
returns c = is_spent special spends_parameters
