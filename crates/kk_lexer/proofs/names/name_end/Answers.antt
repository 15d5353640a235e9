use Rattle.std.proofs.Common.{arith, ◌<◌, length}
use Rattle.kk_lexer.proofs.NameLemmas.{name_more, name_found}
use Rattle.kk_lexer.proofs.names.name_end.Goals as goal

pub loop-last-preserved : goal.loop-last-preserved
loop-last-preserved c =
    let inside : c.loop-last.length < length c.args.text.now = omega (arith, c.loop-last-test.ensures.some) in
    record {
      in_range = omega arith;
      scans = name_more _ _ _ _ inside c.loop-last.invariant.scans c.loop-last-test.ensures.value;
    }

pub returns : goal.returns
returns c = rw c.primes.ensures.value (name_found _ _ _ _ c.loop-last.invariant.scans c.loop-last-test.ensures.value)
