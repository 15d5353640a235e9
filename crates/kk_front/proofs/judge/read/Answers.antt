use Rattle.std.proofs.Common.{arith}
use Rattle.kk_syntax.specs.Surface.{written_tree}
use Rattle.kk_front.proofs.TextJudgements.{long_judged, unreadable_judged, misspelled_judged, unnamed_judged, accepted_judged, unchecked_judged, nodes_counted}
use Rattle.kk_front.proofs.judge.read.Goals as goal

pub returns-in-Err-clause-err : goal.returns-in-Err-clause-err
returns-in-Err-clause-err c = long_judged c.args.text.now c.in-Err.limit c.in-Err.ensures

pub returns-in-Err-tokens-clause-err : goal.returns-in-Err-tokens-clause-err
returns-in-Err-tokens-clause-err c = unreadable_judged c.args.text.now c.in_default.ensures c.in-Err-tokens.error c.in-Err-tokens.ensures.reading

pub returns-in-Err-parse-clause-err : goal.returns-in-Err-parse-clause-err
returns-in-Err-parse-clause-err c =
    misspelled_judged c.args.text.now c.in_default.ensures c.in-Ok.tokens c.in-Ok-laid_out.tokens c.in-Ok.ensures.reading c.in-Ok-laid_out.ensures.value
    (omega (arith, c.in-Ok.ensures.few, c.in-Ok-laid_out.ensures.few)) c.in-Err-parse.error c.in-Err-parse.ensures.parsed

pub returns-clause-err : goal.returns-clause-err
returns-clause-err c =
    unnamed_judged c.args.text.now c.in_default.ensures c.in-Ok.tokens c.in-Ok-laid_out.tokens c.in-Ok.ensures.reading c.in-Ok-laid_out.ensures.value
    (omega (arith, c.in-Ok.ensures.few, c.in-Ok-laid_out.ensures.few)) c.in-Ok-parse.tree c.in-Ok-parse.ensures.parsed c.in-Err-resolve.error c.in-Err-resolve.ensures.resolved

pub accept-requires-clause-few : goal.accept-requires-clause-few
accept-requires-clause-few c =
    nodes_counted c.args.text.now c.in_default.ensures c.in-Ok.tokens c.in-Ok-laid_out.tokens c.in-Ok.ensures.reading c.in-Ok-laid_out.ensures.value
    (omega (arith, c.in-Ok.ensures.few, c.in-Ok-laid_out.ensures.few)) c.in-Ok-parse.tree c.in-Ok-parse.ensures.parsed c.in-Ok-resolve.program c.in-Ok-resolve.ensures.resolved
    c.in-Ok-parse.ensures.few_nodes c.in-Ok-resolve.ensures.keeps_nodes

pub accept-requires-clause-resolved : goal.accept-requires-clause-resolved
accept-requires-clause-resolved c = (written_tree c.in-Ok-parse.tree, c.in-Ok-resolve.ensures.resolved.holds)

pub returns-in-Ok-resolve-clause-program : goal.returns-in-Ok-resolve-clause-program
returns-in-Ok-resolve-clause-program c =
    accepted_judged c.args.text.now c.in_default.ensures c.in-Ok.tokens c.in-Ok-laid_out.tokens c.in-Ok.ensures.reading c.in-Ok-laid_out.ensures.value
    (omega (arith, c.in-Ok.ensures.few, c.in-Ok-laid_out.ensures.few)) c.in-Ok-parse.tree c.in-Ok-parse.ensures.parsed c.in-Ok-resolve.program c.in-Ok-resolve.ensures.resolved
    c.accept.result c.accept.ensures.program c.accept.ensures.ok

pub returns-in-Ok-resolve-clause-err : goal.returns-in-Ok-resolve-clause-err
returns-in-Ok-resolve-clause-err c =
    unchecked_judged c.args.text.now c.in_default.ensures c.in-Ok.tokens c.in-Ok-laid_out.tokens c.in-Ok.ensures.reading c.in-Ok-laid_out.ensures.value
    (omega (arith, c.in-Ok.ensures.few, c.in-Ok-laid_out.ensures.few)) c.in-Ok-parse.tree c.in-Ok-parse.ensures.parsed c.in-Ok-resolve.program c.in-Ok-resolve.ensures.resolved
    c.accept.result c.accept.ensures.err
