use Rattle.std.proofs.Common.{sym, ◌∙◌}
use Rattle.kk_parser.specs.Reading.{fails_token}
use Rattle.kk_parser.proofs.Steps.{keyword_read}
use Rattle.kk_parser.proofs.parser.Parser.expect_keyword.Goals as goal

pub returns-then-not-is_at_keyword-clause-reads : goal.returns-then-not-is_at_keyword-clause-reads
returns-then-not-is_at_keyword-clause-reads c = fails_token (sym c.is_at_keyword.ensures.value ∙ c.if-not-is_at_keyword.true)

pub returns-clause-reads : goal.returns-clause-reads
returns-clause-reads c =
    keyword_read c.args.word c.args.self.now c.advance.new.self (sym c.is_at_keyword.ensures.value ∙ c.if-not-is_at_keyword.false) c.advance.ensures.rest c.advance.ensures.depth
