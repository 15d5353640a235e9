use Rattle.std.proofs.Common.{sym, ◌∙◌, inl, inr, refl}
use Rattle.kk_parser.specs.Grammar.{binder, binder_of}
use Rattle.kk_parser.specs.Kinds.{name, wildcard}
use Rattle.kk_parser.specs.Phrases.{token}
use Rattle.kk_parser.specs.Reading.{fails_first, fails_second, finds_first, finds_second}
use Rattle.kk_parser.proofs.Steps.{gives_up_for_in}
use Rattle.kk_parser.proofs.parser.Parser.binder.Goals as goal

pub returns-in_err-name-clause-reads : goal.returns-in_err-name-clause-reads
returns-in_err-name-clause-reads c =
    let h = sym c.is_at_name.ensures.value ∙ c.if-is_at_name.true in
    gives_up_for_in binder (token name) binder_of c.from_residual.result c.in_err-name.field-0.0 c.args.self.now c.args.self.now c.identifier.new.self (λ f r. fails_first h r) c.from_residual.ensures.1 c.in_err-name.ensures.reads

pub returns-then-is_at_name-clause-reads : goal.returns-then-is_at_name-clause-reads
returns-then-is_at_name-clause-reads c =
    let h = sym c.is_at_name.ensures.value ∙ c.if-is_at_name.true in
    (inl c.in_ok-name.name, refl, finds_first h c.in_ok-name.ensures.reads)

pub returns-in_err-expect_wildcard-clause-reads : goal.returns-in_err-expect_wildcard-clause-reads
returns-in_err-expect_wildcard-clause-reads c =
    let h = sym c.is_at_name.ensures.value ∙ c.if-is_at_name.false in
    gives_up_for_in binder (token wildcard) binder_of c.from_residual-in_err-expect_wildcard.result c.in_err-expect_wildcard.field-0.0 c.args.self.now c.args.self.now c.expect_wildcard.new.self (λ f r. fails_second h r) c.from_residual-in_err-expect_wildcard.ensures.1 c.in_err-expect_wildcard.ensures.reads

pub returns-clause-reads : goal.returns-clause-reads
returns-clause-reads c =
    let h = sym c.is_at_name.ensures.value ∙ c.if-is_at_name.false in
    (inr tt, refl, finds_second h c.in_ok-expect_wildcard.ensures.reads)
