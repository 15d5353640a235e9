use Rattle.std.proofs.Common.{◌≡◌, ◌<◌, ◌^◌, sym, subst}
use Rattle.std.specs.Prelude.{All, Ok, Err}
use Rattle.std.proofs.lemmas.Result.{err_from_is_err_and}
use Rattle.kk_base.specs.Exactly.{IsOnly}
use Rattle.kk_syntax.specs.Programs.{ProgramTree, program_tree}
use Rattle.kk_syntax.specs.Shapes.{nodes_of}
use Rattle.kk_syntax.specs.TypedPrograms.{typings_of}
use Rattle.kk_syntax.specs.Typing.{TypesAs}
use Rattle.kk_mono.specs.Counts.{CountsAs, AnswersCounts}
use Rattle.kk_syntax.specs.Declarations.{DeclarationsAs}
use Rattle.kk_base.specs.declared.refusal.Refusal.{Refusal}
use Rattle.kk_front.specs.Judgement.{ChecksTypes, ChecksCover, ChecksProgram}
use Rattle.kk_front.specs.Outcome.{IsOutcome}
use Rattle.kk_front.proofs.CheckedPrograms.{checked_of}
use Rattle.kk_front.proofs.TextJudgements.{declarations_judged, types_judged, cover_judged, counts_judged, count_judged}
use Rattle.kk_front.proofs.accept.accept.Goals as goal

pub returns-in-Err-clause-err : goal.returns-in-Err-clause-err
returns-in-Err-clause-err c = λ e. declarations_judged (program_tree c.args.program) c.in-Err.limit c.in-Err.ensures

pub returns-in_err-typed-clause-err : goal.returns-in_err-typed-clause-err
returns-in_err-typed-clause-err c =
    let p = err_from_is_err_and c.from_residual.result c.from_residual.ensures.1 in
    rw (p.1, p.2) (λ e. types_judged (program_tree c.args.program) c.in_default.ensures _ (c.in_err-typed.ensures.err e))

pub covered-requires-clause-few : goal.covered-requires-clause-few
covered-requires-clause-few c = subst (λ (program : ProgramTree). All (λ function. nodes_of function.body < 2 ^ 31) program.functions) (sym c.in_ok-typed.ensures.program) c.requires.few

pub covered-requires-clause-typed : goal.covered-requires-clause-typed
covered-requires-clause-typed c = subst (λ (program : ProgramTree). TypesAs program (Ok tt)) (sym c.in_ok-typed.ensures.program) c.in_ok-typed.ensures.ok.holds

pub instances-requires-clause-declared : goal.instances-requires-clause-declared
instances-requires-clause-declared c = subst (λ (program : ProgramTree). DeclarationsAs program (Ok tt)) (sym c.in_ok-typed.ensures.program) c.in_default.ensures.holds

pub invariant_of-result : goal.invariant_of-result
invariant_of-result c =
    record {
      checked = ∣ checked_of c.resolved_programs_have_main.ensures c.resolved_programs_have_truths_and_texts.ensures (program_tree c.args.program)
          (program_tree c.in_ok-typed.typed.program) c.requires.resolved.0 c.requires.resolved.1 c.in_ok-typed.ensures.program
          c.in_ok-covered.ensures.ok.holds (typings_of c.in_ok-typed.typed) c.in_ok-typed.ensures.principal ∣₁;
    }

pub returns-in-Ok-clause-ok : goal.returns-in-Ok-clause-ok
returns-in-Ok-clause-ok c =
    counts_judged (program_tree c.args.program) c.in_default.ensures c.in_ok-typed.ensures.ok
    (subst (λ (program : ProgramTree). IsOutcome (ChecksCover program) (Ok tt)) c.in_ok-typed.ensures.program c.in_ok-covered.ensures.ok)
    (subst (λ (program : ProgramTree). IsOnly (CountsAs program) (Ok tt)) c.in_ok-typed.ensures.program c.in-Ok.ensures.counts)

pub returns-in-Ok-clause-covered : goal.returns-in-Ok-clause-covered
returns-in-Ok-clause-covered c = c.in_ok-covered.ensures.ok.holds

pub returns-in-Err-Over-clause-err : goal.returns-in-Err-Over-clause-err
returns-in-Err-Over-clause-err c =
    λ e. count_judged (program_tree c.args.program) c.requires.few c.in_default.ensures c.in_ok-typed.ensures.ok
    (subst (λ (program : ProgramTree). IsOutcome (ChecksCover program) (Ok tt)) c.in_ok-typed.ensures.program c.in_ok-covered.ensures.ok)
    c.in-Err-Over.limit
    (subst (λ (program : ProgramTree). AnswersCounts program (Err c.in-Err-Over.limit)) c.in_ok-typed.ensures.program (rw c.in-Err-Over.field-0-is at c.in-Err-Over.ensures))

-- a refusal for the matches of a program that is the same
cover_refused : (made program : ProgramTree) → made ≡ program → IsOnly (DeclarationsAs program) (Ok tt) → IsOnly (ChecksTypes program) (Ok tt) → (refusal : Refusal) → IsOutcome (ChecksCover made) (Err refusal) → IsOutcome (ChecksProgram program) (Err refusal)
cover_refused made program same declared typed refusal h =
    cover_judged program declared typed refusal (subst (λ (p : ProgramTree). IsOutcome (ChecksCover p) (Err refusal)) same h)

pub returns-in_err-covered-clause-err : goal.returns-in_err-covered-clause-err
returns-in_err-covered-clause-err c =
    let p = err_from_is_err_and c.from_residual-in_err-covered.result c.from_residual-in_err-covered.ensures.1 in
    rw (p.1, p.2) (λ e. cover_refused _ (program_tree c.args.program) c.in_ok-typed.ensures.program c.in_default.ensures c.in_ok-typed.ensures.ok _ (c.in_err-covered.ensures.err e))
