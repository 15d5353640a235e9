use Rattle.kk_cover.proofs.Outcomes.{each_typed_program_is_decided}
use Rattle.kk_cover.proofs.law.each_typed_program_is_decided.Goals as goal

pub returns : goal.returns
returns c = each_typed_program_is_decided
