use Rattle.std.proofs.Common.{sym, subst}
use Rattle.std.specs.Prelude.{Err}
use Rattle.kk_base.specs.declared.refusal.Refusal.{Refusal}
use Rattle.kk_syntax.specs.Outlines.{pattern_outline}
use Rattle.kk_syntax.specs.Programs.{program_tree}
use Rattle.kk_syntax.proofs.DeclaredTrees.{trees_declared}
use Rattle.kk_front.specs.Judgement.{ChecksCover}
use Rattle.kk_front.specs.Outcome.{IsOutcome}
use Rattle.kk_front.proofs.TextJudgements.{only_covered, only_missed_at}
use Rattle.kk_front.proofs.accept.covered.Goals as goal

pub returns-in-Ok-clause-ok : goal.returns-in-Ok-clause-ok
returns-in-Ok-clause-ok c =
    let program = program_tree c.args.typed.now.program in
    only_covered program (c.each_typed_program_is_decided.ensures program (trees_declared c.args.typed.now.program.constructors.items) c.requires.typed) c.in-Ok.ensures

pub returns-in-Err-NotCovered-clause-err : goal.returns-in-Err-NotCovered-clause-err
returns-in-Err-NotCovered-clause-err c = λ e.
    let program = program_tree c.args.typed.now.program in
    let answer = rw c.in-Err-NotCovered.field-0-is at c.in-Err-NotCovered.ensures in
    let told =
    only_missed_at c.args.typed.now.program (c.each_typed_program_is_decided.ensures program (trees_declared c.args.typed.now.program.constructors.items) c.requires.typed) c.in-Err-NotCovered.function (pattern_outline c.in-Err-NotCovered.example) c.index-function.result.now c.index-function.result.now answer.0 c.index-function.ensures in
    subst (λ (refusal : Refusal). IsOutcome (ChecksCover program) (Err refusal)) (sym (c.not_covered.ensures e)) told
