use Rattle.std.proofs.Common.{sym, ◌∙◌}
use Rattle.kk_parser.specs.Reading.{fails_token}
use Rattle.kk_parser.proofs.Steps.{symbol_read}
use Rattle.kk_parser.proofs.parser.Parser.expect.Goals as goal

pub returns-then-not-is_at-clause-reads : goal.returns-then-not-is_at-clause-reads
returns-then-not-is_at-clause-reads c = fails_token (sym c.is_at.ensures.value ∙ c.if-not-is_at.true)

pub returns-clause-reads : goal.returns-clause-reads
returns-clause-reads c =
    symbol_read c.args.symbol c.args.self.now c.advance.new.self (sym c.is_at.ensures.value ∙ c.if-not-is_at.false) c.advance.ensures.rest c.advance.ensures.depth
