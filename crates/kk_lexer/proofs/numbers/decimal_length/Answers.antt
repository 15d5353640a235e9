use Rattle.std.proofs.Common.{arith, ◌<◌, length}
use Rattle.kk_lexer.proofs.NumberLemmas.{decimal_start, decimal_more, decimal_found}
use Rattle.kk_lexer.proofs.numbers.decimal_length.Goals as goal

pub loop-length-init : goal.loop-length-init
loop-length-init c = record { in_range = omega (arith, c.requires.text); scans = decimal_start _ c.requires.text c.requires.digit }

pub loop-length-preserved : goal.loop-length-preserved
loop-length-preserved c =
    let inside : c.loop-length.length < length c.args.text.now = omega (arith, c.loop-length-test.ensures.some) in
    record {
      in_range = omega arith;
      scans = decimal_more _ _ inside c.loop-length.invariant.scans c.loop-length-test.ensures.value;
    }

pub returns : goal.returns
returns c = decimal_found _ _ c.loop-length.invariant.scans c.loop-length-test.ensures.value
