use Rattle.std.proofs.Common.{arith}
use Rattle.rv_isa.proofs.SameWords.{one_word}
use Rattle.rv_isa.proofs.encoding.encode.Goals as goal

pub returns : goal.returns
returns c = record {
  word = c.word_of.ensures.word;
  only = λ w below is other. one_word c.args.i c.word_of.result w (omega arith) below c.word_of.ensures.word is other;
  fence = c.word_of.ensures.fence;
}
