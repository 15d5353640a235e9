use Rattle.std.proofs.Common.{List, ℕ, refl, subst}
use Rattle.std.proofs.lemmas.Result.{err_from_is_err_and}
use Rattle.kk_meaning.specs.declared.turn.Turn.TheVariants.{Ended, HeapFull, StackFull}
use Rattle.kk_answer.specs.declared.answer.RunEnd.TheVariants as OfRun
use Rattle.kk_eval.specs.EvaluationStates.{HasPrinted}
use Rattle.kk_eval.proofs.EvaluationSteps.{turned_went, turned_end, turned_refused, turned_print, turned_wanted, retold}
use Rattle.kk_eval.proofs.evaluation.turn.Goals as goal

pub returns-in_err-step-clause-ran : goal.returns-in_err-step-clause-ran
returns-in_err-step-clause-ran g c =
    let p = err_from_is_err_and c.from_residual.result c.from_residual.ensures.1 in
    rw (p.1) (turned_refused _ _ _ _ _ _ c.requires.going)

pub returns-in-Went-clause-ran : goal.returns-in-Went-clause-ran
returns-in-Went-clause-ran g c = turned_went _ _ _ _ _ c.requires.going (retold _ _ _ _ c.in-Went.is c.in_ok-step.ensures.ok)

pub returns-in-Printed-clause-ran : goal.returns-in-Printed-clause-ran
returns-in-Printed-clause-ran g c =
    let P : List ℕ → Type 0 = λ piece. HasPrinted piece c.print.result (g.O.Sink.state c.args.out.now) (g.O.Sink.state c.print.new.out) in
    turned_print _ _ _ _ _ _ _ c.print.result c.requires.going (retold _ _ _ _ c.in-Printed.is c.in_ok-step.ensures.ok) (subst P c.as_slice.ensures c.print.ensures)

pub returns-in-WantsInput-clause-ran : goal.returns-in-WantsInput-clause-ran
returns-in-WantsInput-clause-ran g c =
    turned_wanted _ _ _ _ _ _ _ _ c.read.result c.requires.going c.in_ok-step.ensures.setting (retold _ _ _ _ c.in-WantsInput.is c.in_ok-step.ensures.ok)
    (c.in_ok-step.ensures.wanted c.in-WantsInput.is) c.read.ensures.read

pub returns-in-Ended-clause-ran : goal.returns-in-Ended-clause-ran
returns-in-Ended-clause-ran g c = turned_end _ _ _ _ _ Ended OfRun.Ended c.requires.going (retold _ _ _ _ c.in-Ended.is c.in_ok-step.ensures.ok) tt tt refl

pub returns-in-HeapFull-clause-ran : goal.returns-in-HeapFull-clause-ran
returns-in-HeapFull-clause-ran g c = turned_end _ _ _ _ _ HeapFull OfRun.HeapFull c.requires.going (retold _ _ _ _ c.in-HeapFull.is c.in_ok-step.ensures.ok) tt tt refl

pub returns-in-StackFull-clause-ran : goal.returns-in-StackFull-clause-ran
returns-in-StackFull-clause-ran g c = turned_end _ _ _ _ _ StackFull OfRun.StackFull c.requires.going (retold _ _ _ _ c.in-StackFull.is c.in_ok-step.ensures.ok) tt tt refl
