use Rattle.std.proofs.Common.{None, Some, sym, ◌∙◌}
use Rattle.kk_syntax.specs.declared.token.Symbol.TheVariants.{Less, Greater}
use Rattle.kk_parser.specs.Grammar.{some_listed, type_parameters, type_parameters_of}
use Rattle.kk_parser.specs.Kinds.{symbol, type_variable_name}
use Rattle.kk_parser.specs.Phrases.{token, optional}
use Rattle.kk_parser.specs.Reading.{fails_presence, fails_front, fails_behind, finds_absence, finds_presence, finds_both}
use Rattle.kk_parser.proofs.Steps.{gives_up_as_in}
use Rattle.kk_parser.proofs.parser.Parser.type_parameters.Goals as goal

pub returns-then-not-is_at-clause-reads : goal.returns-then-not-is_at-clause-reads
returns-then-not-is_at-clause-reads c =
    (None, sym c.new.ensures.items, finds_absence (sym c.is_at.ensures.value ∙ c.if-not-is_at.true))

pub returns-in_err-expect-clause-reads : goal.returns-in_err-expect-clause-reads
returns-in_err-expect-clause-reads c =
    let h = sym c.is_at.ensures.value ∙ c.if-not-is_at.false in
    gives_up_as_in (optional type_parameters) (token (symbol Less)) type_parameters_of (λ names. names.items)
    c.from_residual.result c.in_err-expect.field-0.0 c.args.self.now c.args.self.now c.expect.new.self
    (λ f r. fails_presence h (fails_front r)) c.from_residual.ensures.1 c.in_err-expect.ensures.reads

pub returns-in_err-names-clause-reads : goal.returns-in_err-names-clause-reads
returns-in_err-names-clause-reads c =
    let h = sym c.is_at.ensures.value ∙ c.if-not-is_at.false in
    gives_up_as_in (optional type_parameters) (some_listed (token type_variable_name)) type_parameters_of (λ names. names.items)
    c.from_residual-in_err-names.result c.in_err-names.field-0.0 c.args.self.now c.expect.new.self c.type_variables.new.self
    (λ f r. fails_presence h (fails_behind c.in_ok-expect.ensures.reads (fails_front r))) c.from_residual-in_err-names.ensures.1
    c.in_err-names.ensures.reads

pub returns-in_err-expect-2-clause-reads : goal.returns-in_err-expect-2-clause-reads
returns-in_err-expect-2-clause-reads c =
    let h = sym c.is_at.ensures.value ∙ c.if-not-is_at.false in
    gives_up_as_in (optional type_parameters) (token (symbol Greater)) type_parameters_of (λ names. names.items)
    c.from_residual-in_err-expect-2.result c.in_err-expect-2.field-0.0 c.args.self.now c.type_variables.new.self
    c.expect-2.new.self (λ f r. fails_presence h (fails_behind c.in_ok-expect.ensures.reads
    (fails_behind c.in_ok-names.ensures.reads.2 r))) c.from_residual-in_err-expect-2.ensures.1 c.in_err-expect-2.ensures.reads

pub returns-clause-reads : goal.returns-clause-reads
returns-clause-reads c =
    let h = sym c.is_at.ensures.value ∙ c.if-not-is_at.false in
    let list = c.in_ok-names.ensures.reads in (
      Some (tt, (list.0, tt)),
      list.1,
      finds_presence h (finds_both c.in_ok-expect.ensures.reads
          (finds_both list.2 c.in_ok-expect-2.ensures.reads)),
    )
