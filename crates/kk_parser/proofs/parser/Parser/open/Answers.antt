use Rattle.std.proofs.Common.{sym, ◌∙◌}
use Rattle.kk_parser.specs.Reading.{fails_opener}
use Rattle.kk_parser.proofs.Steps.{deepen_reads}
use Rattle.kk_parser.proofs.parser.Parser.open.Goals as goal

pub returns-then-not-is_at-clause-reads : goal.returns-then-not-is_at-clause-reads
returns-then-not-is_at-clause-reads c = fails_opener (sym c.is_at.ensures.value ∙ c.if-not-is_at.true)

pub returns-clause-reads : goal.returns-clause-reads
returns-clause-reads c =
    deepen_reads c.args.symbol c.args.self.now c.deepen.new.self c.deepen.result (sym c.is_at.ensures.value ∙ c.if-not-is_at.false) c.deepen.ensures.deepens
