use Rattle.std.proofs.Common.{◌<◌, Some, length, sym, subst}
use Rattle.kk_syntax.specs.Programs.{program_tree}
use Rattle.kk_syntax.specs.Outlines.{pattern_outline}
use Rattle.kk_syntax.specs.Trees.{expr_tree}
use Rattle.kk_syntax.specs.Matches.{matches}
use Rattle.kk_cover.specs.Matches.{IsFirstMiss, AnswersAll}
use Rattle.kk_cover.proofs.ExpressionMatches.{functions_more, function_at, function_few}
use Rattle.kk_cover.proofs.covering.cover.Goals as goal

pub loop-number-preserved : goal.loop-number-preserved
loop-number-preserved c =
    let lt : c.loop-number.number < length c.args.typed.now.program.functions.items = rw c.deref-function-items.ensures.value at c.loop-number-test.true in
    functions_more c.args.typed.now.program c.loop-number.number c.function-item.result lt (rw c.deref-function-items.ensures.value at c.function-item.is) c.loop-number.invariant
    (rw c.in-Ok-None.field-0-is at c.in-Ok-None.ensures)

pub returns-in-Ok : goal.returns-in-Ok
returns-in-Ok c =
    let program = program_tree c.args.typed.now.program in
    let lt : c.loop-number.number < length c.args.typed.now.program.functions.items = rw c.deref-function-items.ensures.value at c.loop-number-test.true in
    let answer : AnswersAll program (matches (expr_tree c.function-item.result.body)) (Some c.in-Ok-Some.example) = rw c.in-Ok-Some.field-0-is at c.in-Ok-Some.ensures in
    let found =
    function_at c.args.typed.now.program c.loop-number.number c.function-item.result c.in-Ok-Some.example lt (rw c.deref-function-items.ensures.value at c.function-item.is) c.loop-number.invariant answer.0 in
    (subst (λ k. IsFirstMiss program (record { function = k; example = pattern_outline c.in-Ok-Some.example })) (sym c.in-Ok.ensures.1) found, answer.1)

pub first-requires : goal.first-requires
first-requires c =
    let functions = c.args.typed.now.program.functions.items in
    let lt : c.loop-number.number < length functions = rw c.deref-function-items.ensures.value at c.loop-number-test.true in
    function_few functions c.loop-number.number c.function-item.result lt (rw c.deref-function-items.ensures.value at c.function-item.is) c.requires
