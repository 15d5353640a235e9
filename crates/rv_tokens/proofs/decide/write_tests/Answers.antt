use Rattle.std.proofs.lemmas.Result.{on_ok_weaker}
use Rattle.rv_tokens.specs.Written.{layout_known, ways_known}
use Rattle.rv_tokens.proofs.WrittenLines.{test_written}
use Rattle.rv_tokens.proofs.decide.write_tests.Goals as goal

pub returns : goal.returns
returns c =
    on_ok_weaker c.write_decided.result
    (λ decided. test_written c.args.lowering.now.base (layout_known c.args.known.now) (ways_known c.args.ways.now).to c.args.behind c.args.variable c.args.at.now
    c.args.edges.now c.args.otherwise c.in_ok-tried.tried.plain.items c.in_ok-tried.tried.tagged.items c.in_ok-tried.tried.other
    c.in_ok-value.ensures.lines c.in_ok-value.ensures.value c.in_ok-temporary.ensures c.in_ok-tried.ensures decided)
    c.write_decided.ensures
