use Rattle.std.proofs.Common.{None, Some, map, ap, sym, ◌∙◌}
use Rattle.kk_syntax.specs.declared.token.Symbol.TheVariants.{OpenParenthesis, CloseParenthesis}
use Rattle.kk_syntax.specs.Surface.{written_parameter}
use Rattle.kk_parser.specs.Grammar.{some_listed, fields, fields_of}
use Rattle.kk_parser.specs.Kinds.{symbol}
use Rattle.kk_parser.specs.Phrases.{token, opener, rule, param}
use Rattle.kk_parser.specs.Reading.{fails_presence, fails_front, fails_behind, finds_absence, finds_presence, finds_both}
use Rattle.kk_parser.proofs.Steps.{gives_up_as_in}
use Rattle.kk_parser.proofs.parser.Parser.fields.Goals as goal

pub returns-then-not-is_at-clause-reads : goal.returns-then-not-is_at-clause-reads
returns-then-not-is_at-clause-reads c =
    (None, sym (ap (map written_parameter) c.new.ensures.items), finds_absence (sym c.is_at.ensures.value ∙ c.if-not-is_at.true))

pub returns-in_err-open-clause-reads : goal.returns-in_err-open-clause-reads
returns-in_err-open-clause-reads c =
    let h = sym c.is_at.ensures.value ∙ c.if-not-is_at.false in
    gives_up_as_in fields (opener (symbol OpenParenthesis)) fields_of (λ ps. map written_parameter ps.items) c.from_residual.result
    c.in_err-open.field-0.0 c.args.self.now c.args.self.now c.open.new.self (λ f r. fails_presence h (fails_front r))
    c.from_residual.ensures.1 c.in_err-open.ensures.reads

pub returns-in_err-fields-clause-reads : goal.returns-in_err-fields-clause-reads
returns-in_err-fields-clause-reads c =
    let h = sym c.is_at.ensures.value ∙ c.if-not-is_at.false in
    gives_up_as_in fields (some_listed (rule param)) fields_of (λ ps. map written_parameter ps.items)
    c.from_residual-in_err-fields.result c.in_err-fields.field-0.0 c.args.self.now c.open.new.self c.some_parameters.new.self
    (λ f r. fails_presence h (fails_behind c.in_ok-open.ensures.reads (fails_front r))) c.from_residual-in_err-fields.ensures.1
    c.in_err-fields.ensures.reads

pub returns-in_err-expect-clause-reads : goal.returns-in_err-expect-clause-reads
returns-in_err-expect-clause-reads c =
    let h = sym c.is_at.ensures.value ∙ c.if-not-is_at.false in
    gives_up_as_in fields (token (symbol CloseParenthesis)) fields_of (λ ps. map written_parameter ps.items)
    c.from_residual-in_err-expect.result c.in_err-expect.field-0.0 c.args.self.now c.some_parameters.new.self c.expect.new.self
    (λ f r. fails_presence h (fails_behind c.in_ok-open.ensures.reads (fails_behind c.in_ok-fields.ensures.reads.2 r)))
    c.from_residual-in_err-expect.ensures.1 c.in_err-expect.ensures.reads

pub returns-clause-reads : goal.returns-clause-reads
returns-clause-reads c =
    let h = sym c.is_at.ensures.value ∙ c.if-not-is_at.false in
    let list = c.in_ok-fields.ensures.reads in (
      Some (tt, (list.0, tt)),
      list.1,
      finds_presence h (finds_both c.in_ok-open.ensures.reads
          (finds_both list.2 c.in_ok-expect.ensures.reads)),
    )
