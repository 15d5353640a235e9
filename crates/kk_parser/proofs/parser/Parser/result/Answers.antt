use Rattle.std.proofs.Common.{refl, sym, ◌∙◌, ap, inl, inr}
use Rattle.kk_syntax.specs.declared.token.Symbol.TheVariants.{Colon}
use Rattle.kk_syntax.specs.Surface.{written_type}
use Rattle.kk_parser.specs.Grammar.{effects_of, type_of, result}
use Rattle.kk_parser.specs.Kinds.{symbol}
use Rattle.kk_parser.specs.Phrases.{rule, effect, type, result_type, token}
use Rattle.kk_parser.specs.Reading.{fails_front, fails_behind, fails_first, fails_second, finds_both, finds_first, finds_second}
use Rattle.kk_parser.specs.Views.{result_view}
use Rattle.kk_parser.proofs.Steps.{gives_up_as_in}
use Rattle.kk_parser.proofs.parser.Parser.result.Goals as goal

pub returns-in_err-expect-clause-reads : goal.returns-in_err-expect-clause-reads
returns-in_err-expect-clause-reads c =
    gives_up_as_in result (token (symbol Colon)) (λ v. (effects_of v.1, type_of v.1)) result_view c.from_residual.result c.in_err-expect.field-0.0 c.args.self.now c.args.self.now c.expect.new.self (λ f r. fails_front r) c.from_residual.ensures.1 c.in_err-expect.ensures.reads

pub returns-in_err-effects-clause-reads : goal.returns-in_err-effects-clause-reads
returns-in_err-effects-clause-reads c =
    let h = sym c.is_at_effect.ensures ∙ c.if-is_at_effect.true in
    gives_up_as_in result (rule effect) (λ v. (effects_of v.1, type_of v.1)) result_view c.from_residual-in_err-effects.result c.in_err-effects.field-0.0 c.args.self.now c.expect.new.self c.effect.new.self
    (λ f r. fails_behind c.in_ok-expect.ensures.reads (fails_first h (fails_front r))) c.from_residual-in_err-effects.ensures.1 c.in_err-effects.ensures.reads

pub returns-in_err-of_type-clause-reads : goal.returns-in_err-of_type-clause-reads
returns-in_err-of_type-clause-reads c =
    let h = sym c.is_at_effect.ensures ∙ c.if-is_at_effect.true in
    gives_up_as_in result (rule type) (λ v. (effects_of v.1, type_of v.1)) result_view c.from_residual-in_err-of_type.result c.in_err-of_type.field-0.0 c.args.self.now c.effect.new.self c.type_.new.self
    (λ f r. fails_behind c.in_ok-expect.ensures.reads (fails_first h (fails_behind c.in_ok-effects.ensures.reads r))) c.from_residual-in_err-of_type.ensures.1 c.in_err-of_type.ensures.reads

pub returns-then-is_at_effect-clause-reads : goal.returns-then-is_at_effect-clause-reads
returns-then-is_at_effect-clause-reads c =
    let h = sym c.is_at_effect.ensures ∙ c.if-is_at_effect.true in
    ((tt, inl (c.in_ok-effects.effects.items, written_type c.in_ok-of_type.of_type)), refl, finds_both c.in_ok-expect.ensures.reads (finds_first h (finds_both c.in_ok-effects.ensures.reads c.in_ok-of_type.ensures.reads)))

pub returns-in_err-of_type-2-clause-reads : goal.returns-in_err-of_type-2-clause-reads
returns-in_err-of_type-2-clause-reads c =
    let h = sym c.is_at_effect.ensures ∙ c.if-is_at_effect.false in
    gives_up_as_in result (rule result_type) (λ v. (effects_of v.1, type_of v.1)) result_view c.from_residual-in_err-of_type-2.result c.in_err-of_type-2.field-0.0 c.args.self.now c.expect.new.self c.result_type.new.self
    (λ f r. fails_behind c.in_ok-expect.ensures.reads (fails_second h r)) c.from_residual-in_err-of_type-2.ensures.1 c.in_err-of_type-2.ensures.reads

pub returns-clause-reads : goal.returns-clause-reads
returns-clause-reads c =
    let h = sym c.is_at_effect.ensures ∙ c.if-is_at_effect.false in
    let t = written_type c.in_ok-of_type-2.of_type in
    ((tt, inr t), ap (λ es. (es, t)) (sym c.new.ensures.items), finds_both c.in_ok-expect.ensures.reads (finds_second h c.in_ok-of_type-2.ensures.reads))
