use Rattle.kk_respec.proofs.Forms.{program_bare, program_spends}
use Rattle.kk_respec.proofs.Measures.{program_has_room}
use Rattle.kk_respec.proofs.Pairs.{program_pairs}
use Rattle.kk_respec.proofs.law.respecialised_code_has_its_form.Goals as goal

pub returns : goal.returns
returns c = record { form = program_bare; spends = program_spends; paired = program_pairs; room = program_has_room }
