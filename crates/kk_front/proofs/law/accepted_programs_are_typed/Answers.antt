use Rattle.kk_front.proofs.AcceptedPrograms.{found}
use Rattle.kk_front.proofs.CheckedPrograms.{checked}
use Rattle.kk_front.proofs.law.accepted_programs_are_typed.Goals as goal

pub returns-clause-typed : goal.returns-clause-typed
returns-clause-typed c = λ text program h. (found text program h).types

pub returns-clause-covered : goal.returns-clause-covered
returns-clause-covered c = λ text program h. (found text program h).covered

pub returns-clause-checked : goal.returns-clause-checked
returns-clause-checked c = checked c.resolved_programs_have_main.ensures c.resolved_programs_have_truths_and_texts.ensures

pub returns-clause-declarations : goal.returns-clause-declarations
returns-clause-declarations c = λ text program h. (found text program h).declarations

pub returns-clause-small : goal.returns-clause-small
returns-clause-small c = λ text program h. (found text program h).counts

pub returns-clause-resolved : goal.returns-clause-resolved
returns-clause-resolved c = λ text program h. ((found text program h).tree, (found text program h).resolved)
