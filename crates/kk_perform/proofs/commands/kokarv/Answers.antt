use Rattle.kk_perform.proofs.FaultAbsence.{no_fault}
use Rattle.kk_perform.proofs.commands.kokarv.Goals as goal

pub returns-clause-complete : goal.returns-clause-complete
returns-clause-complete g c = λ faultless. no_fault _ _ _ _ _ _ _ c.answer_words-answer.ensures c.end_with.ensures faultless
