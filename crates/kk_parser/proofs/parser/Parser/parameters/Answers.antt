use Rattle.std.proofs.Common.{map}
use Rattle.kk_syntax.specs.declared.token.Symbol.TheVariants.{OpenParenthesis, CloseParenthesis}
use Rattle.kk_syntax.specs.Surface.{written_parameter}
use Rattle.kk_parser.specs.Grammar.{parameters, listed, listed_of}
use Rattle.kk_parser.specs.Kinds.{symbol}
use Rattle.kk_parser.specs.Phrases.{rule, param, opener, token}
use Rattle.kk_parser.specs.Reading.{fails_front, fails_behind, finds_both}
use Rattle.kk_parser.proofs.Steps.{gives_up_as_in}
use Rattle.kk_parser.proofs.parser.Parser.parameters.Goals as goal

pub returns-in_err-open-clause-reads : goal.returns-in_err-open-clause-reads
returns-in_err-open-clause-reads c =
    gives_up_as_in parameters (opener (symbol OpenParenthesis)) (λ v. listed_of v.1.0) (λ ps. map written_parameter ps.items) c.from_residual.result c.in_err-open.field-0.0 c.args.self.now c.args.self.now c.open.new.self (λ f r. fails_front r) c.from_residual.ensures.1 c.in_err-open.ensures.reads

pub returns-in_err-parameters-clause-reads : goal.returns-in_err-parameters-clause-reads
returns-in_err-parameters-clause-reads c =
    gives_up_as_in parameters (listed (rule param)) (λ v. listed_of v.1.0) (λ ps. map written_parameter ps.items) c.from_residual-in_err-parameters.result c.in_err-parameters.field-0.0 c.args.self.now c.open.new.self c.parameter_list.new.self
    (λ f r. fails_behind c.in_ok-open.ensures.reads (fails_front r)) c.from_residual-in_err-parameters.ensures.1 c.in_err-parameters.ensures.reads

pub returns-in_err-expect-clause-reads : goal.returns-in_err-expect-clause-reads
returns-in_err-expect-clause-reads c =
    gives_up_as_in parameters (token (symbol CloseParenthesis)) (λ v. listed_of v.1.0) (λ ps. map written_parameter ps.items) c.from_residual-in_err-expect.result c.in_err-expect.field-0.0 c.args.self.now c.parameter_list.new.self c.expect.new.self
    (λ f r. fails_behind c.in_ok-open.ensures.reads (fails_behind c.in_ok-parameters.ensures.reads.2 r)) c.from_residual-in_err-expect.ensures.1 c.in_err-expect.ensures.reads

pub returns-clause-reads : goal.returns-clause-reads
returns-clause-reads c =
    let list = c.in_ok-parameters.ensures.reads in
    ((tt, (list.0, tt)), list.1, finds_both c.in_ok-open.ensures.reads (finds_both list.2 c.in_ok-expect.ensures.reads))
