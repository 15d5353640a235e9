use Rattle.kk_respec.proofs.Lowerability.{program_lowerable, program_slots}
use Rattle.kk_respec.proofs.Measures.{program_short}
use Rattle.kk_respec.proofs.law.respecialised_code_can_be_lowered.Goals as goal

pub returns : goal.returns
returns c = record { lowerable = program_lowerable; short = program_short; slots = program_slots }
