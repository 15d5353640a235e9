use Rattle.kk_syntax.specs.declared.token.Symbol.TheVariants.{Colon}
use Rattle.kk_syntax.specs.Surface.{written_parameter}
use Rattle.kk_parser.specs.Kinds.{symbol, name}
use Rattle.kk_parser.specs.Phrases.{rule, param, type, token}
use Rattle.kk_parser.specs.Reading.{fails_rule, fails_front, fails_behind, finds_rule, finds_both}
use Rattle.kk_parser.proofs.Steps.{gives_up_in}
use Rattle.kk_parser.proofs.parser.Parser.parameter.Goals as goal

pub returns-in_err-name-clause-reads : goal.returns-in_err-name-clause-reads
returns-in_err-name-clause-reads c =
    gives_up_in (rule param) (token name) written_parameter c.from_residual.result c.in_err-name.field-0.0 c.args.self.now c.args.self.now c.identifier.new.self (λ f r. fails_rule (fails_front r)) c.from_residual.ensures.1 c.in_err-name.ensures.reads

pub returns-in_err-expect-clause-reads : goal.returns-in_err-expect-clause-reads
returns-in_err-expect-clause-reads c =
    gives_up_in (rule param) (token (symbol Colon)) written_parameter c.from_residual-in_err-expect.result c.in_err-expect.field-0.0 c.args.self.now c.identifier.new.self c.expect.new.self
    (λ f r. fails_rule (fails_behind c.in_ok-name.ensures.reads (fails_front r))) c.from_residual-in_err-expect.ensures.1 c.in_err-expect.ensures.reads

pub returns-in_err-of_type-clause-reads : goal.returns-in_err-of_type-clause-reads
returns-in_err-of_type-clause-reads c =
    gives_up_in (rule param) (rule type) written_parameter c.from_residual-in_err-of_type.result c.in_err-of_type.field-0.0 c.args.self.now c.expect.new.self c.type_.new.self
    (λ f r. fails_rule (fails_behind c.in_ok-name.ensures.reads (fails_behind c.in_ok-expect.ensures.reads r))) c.from_residual-in_err-of_type.ensures.1 c.in_err-of_type.ensures.reads

pub returns-clause-reads : goal.returns-clause-reads
returns-clause-reads c = finds_rule (finds_both c.in_ok-name.ensures.reads (finds_both c.in_ok-expect.ensures.reads c.in_ok-of_type.ensures.reads))
