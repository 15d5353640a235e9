use Rattle.kk_insert.proofs.Lowerability.{typed_can_be_lowered, spends_little, variables_below}
use Rattle.kk_insert.proofs.law.inserted_code_can_be_lowered.Goals as goal

pub returns : goal.returns
returns c = record { lowerable = typed_can_be_lowered; little = spends_little; variables = variables_below }
