use Rattle.kk_norm.proofs.Unpackings.{core_opens}
use Rattle.kk_norm.proofs.law.core_forms_open_few_cells.Goals as goal

pub returns : goal.returns
returns c = core_opens
