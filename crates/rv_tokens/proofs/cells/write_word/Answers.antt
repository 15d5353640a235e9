use Rattle.rv_tokens.proofs.WrittenLines.{word_written, no_word_written}
use Rattle.rv_tokens.proofs.cells.write_word.Goals as goal

pub returns-in_ok-write : goal.returns-in_ok-write
returns-in_ok-write c =
    word_written c.args.cell c.args.index c.args.word c.if-taken.true c.set.ensures c.in_ok-line.ensures c.in_ok-write.ensures

pub returns-else-taken : goal.returns-else-taken
returns-else-taken c = no_word_written c.args.lowering.now c.args.cell c.args.index c.args.word c.if-taken.false
