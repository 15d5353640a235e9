use Rattle.std.proofs.Common.{None, Some, sym, ◌∙◌, refl}
use Rattle.kk_syntax.specs.declared.token.Symbol.TheVariants.{OpenParenthesis, CloseParenthesis}
use Rattle.kk_parser.specs.Grammar.{no_arguments}
use Rattle.kk_parser.specs.Kinds.{symbol}
use Rattle.kk_parser.specs.Phrases.{token, opener, optional}
use Rattle.kk_parser.specs.Reading.{finds_absence, finds_presence, finds_both, fails_presence, fails_front, fails_behind}
use Rattle.kk_parser.proofs.Steps.{gives_up_for_in}
use Rattle.kk_parser.proofs.parser.Parser.no_arguments.Goals as goal

pub returns-then-not-is_at-clause-reads : goal.returns-then-not-is_at-clause-reads
returns-then-not-is_at-clause-reads c = (None, refl, finds_absence (sym c.is_at.ensures.value ∙ c.if-not-is_at.true))

pub returns-in_err-open-clause-reads : goal.returns-in_err-open-clause-reads
returns-in_err-open-clause-reads c =
    let h = sym c.is_at.ensures.value ∙ c.if-not-is_at.false in
    gives_up_for_in (optional no_arguments) (opener (symbol OpenParenthesis)) (λ _. tt) c.from_residual.result c.in_err-open.field-0.0 c.args.self.now c.args.self.now c.open.new.self (λ f r. fails_presence h (fails_front r)) c.from_residual.ensures.1 c.in_err-open.ensures.reads

pub returns-in_err-expect-clause-reads : goal.returns-in_err-expect-clause-reads
returns-in_err-expect-clause-reads c =
    let h = sym c.is_at.ensures.value ∙ c.if-not-is_at.false in
    gives_up_for_in (optional no_arguments) (token (symbol CloseParenthesis)) (λ _. tt) c.from_residual-in_err-expect.result c.in_err-expect.field-0.0 c.args.self.now c.open.new.self c.expect.new.self (λ f r. fails_presence h (fails_behind c.in_ok-open.ensures.reads r)) c.from_residual-in_err-expect.ensures.1 c.in_err-expect.ensures.reads

pub returns-clause-reads : goal.returns-clause-reads
returns-clause-reads c =
    let h = sym c.is_at.ensures.value ∙ c.if-not-is_at.false in
    (Some (tt, tt), refl, finds_presence h (finds_both c.in_ok-open.ensures.reads c.in_ok-expect.ensures.reads))
