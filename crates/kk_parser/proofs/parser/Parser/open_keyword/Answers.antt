use Rattle.std.proofs.Common.{sym, ◌∙◌}
use Rattle.kk_parser.specs.Reading.{fails_opener}
use Rattle.kk_parser.proofs.Steps.{deepen_reads_keyword}
use Rattle.kk_parser.proofs.parser.Parser.open_keyword.Goals as goal

pub returns-then-not-is_at_keyword-clause-reads : goal.returns-then-not-is_at_keyword-clause-reads
returns-then-not-is_at_keyword-clause-reads c = fails_opener (sym c.is_at_keyword.ensures.value ∙ c.if-not-is_at_keyword.true)

pub returns-clause-reads : goal.returns-clause-reads
returns-clause-reads c =
    deepen_reads_keyword c.args.word c.args.self.now c.deepen.new.self c.deepen.result (sym c.is_at_keyword.ensures.value ∙ c.if-not-is_at_keyword.false) c.deepen.ensures.deepens
