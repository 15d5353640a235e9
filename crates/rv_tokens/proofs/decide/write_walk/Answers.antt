use Rattle.std.proofs.Common.{sym}
use Rattle.rv_tokens.proofs.WrittenLines.{walk_more, walked_more}
use Rattle.rv_tokens.proofs.decide.write_walk.Goals as goal

pub loop-field-preserved : goal.loop-field-preserved
loop-field-preserved c = record {
  wrote = walk_more c.args.temporary c.args.value c.args.at.now c.loop-field-test.true c.in_ok-sum.ensures
      c.loop-field.invariant.there c.loop-field.invariant.wrote c.in_ok-line.ensures c.in_ok-write.ensures;
  there = sym (walked_more c.args.temporary c.args.value c.loop-field.field-index c.args.at.now c.loop-field-test.true);
}
