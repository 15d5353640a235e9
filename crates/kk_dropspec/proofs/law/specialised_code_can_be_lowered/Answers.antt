use Rattle.kk_dropspec.proofs.Lowerability.{special_marked, specials_are, special_spends, special_variables}
use Rattle.kk_dropspec.proofs.CodeLengths.{special_short}
use Rattle.kk_dropspec.proofs.law.specialised_code_can_be_lowered.Goals as goal

pub returns : goal.returns
returns c = record {
  marked = special_marked;
  lowerable = specials_are;
  little = special_spends;
  short = special_short;
  variables = special_variables;
}
