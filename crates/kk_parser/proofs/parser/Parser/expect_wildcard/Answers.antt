use Rattle.std.proofs.Common.{sym, ◌∙◌}
use Rattle.kk_parser.specs.Reading.{fails_token}
use Rattle.kk_parser.proofs.Steps.{wildcard_read}
use Rattle.kk_parser.proofs.parser.Parser.expect_wildcard.Goals as goal

pub returns-then-not-is_at_wildcard-clause-reads : goal.returns-then-not-is_at_wildcard-clause-reads
returns-then-not-is_at_wildcard-clause-reads c = fails_token (sym c.is_at_wildcard.ensures.value ∙ c.if-not-is_at_wildcard.true)

pub returns-clause-reads : goal.returns-clause-reads
returns-clause-reads c =
    wildcard_read c.args.self.now c.advance.new.self (sym c.is_at_wildcard.ensures.value ∙ c.if-not-is_at_wildcard.false) c.advance.ensures.rest c.advance.ensures.depth
