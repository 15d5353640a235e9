use Rattle.kk_insert.proofs.BlockEnds.{inserted_ends_well}
use Rattle.kk_insert.proofs.law.inserted_code_ends_well.Goals as goal

pub returns : goal.returns
returns c = inserted_ends_well
