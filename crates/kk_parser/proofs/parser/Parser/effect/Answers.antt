use Rattle.std.proofs.Common.{◌∷◌, [], ◌++◌, sym, ◌∙◌, ap, subst}
use Rattle.kk_syntax.specs.declared.token.Symbol.TheVariants.{Less, Greater}
use Rattle.kk_parser.specs.Grammar.{listed}
use Rattle.kk_parser.specs.Kinds.{symbol}
use Rattle.kk_parser.specs.Methods.{Read}
use Rattle.kk_parser.specs.Phrases.{rule, effect, eff, token}
use Rattle.kk_parser.specs.Reading.{fails_rule, fails_front, fails_behind, fails_first, fails_second, finds_rule, finds_both, finds_first, finds_second}
use Rattle.kk_parser.proofs.Steps.{gives_up_in}
use Rattle.kk_parser.proofs.parser.Parser.effect.Goals as goal

pub returns-in_err-effect-clause-reads : goal.returns-in_err-effect-clause-reads
returns-in_err-effect-clause-reads c =
    let h = sym c.next_effect.ensures.next ∙ sym c.is_some.ensures ∙ c.if-is_some.true in
    gives_up_in (rule effect) (rule eff) (λ es. es.items) c.from_residual.result c.in_err-effect.field-0.0 c.args.self.now c.args.self.now c.eff.new.self (λ f r. fails_rule (fails_first h r)) c.from_residual.ensures.1 c.in_err-effect.ensures.reads

pub returns-then-is_some-clause-reads : goal.returns-then-is_some-clause-reads
returns-then-is_some-clause-reads c =
    let h = sym c.next_effect.ensures.next ∙ sym c.is_some.ensures ∙ c.if-is_some.true in
    let is = c.in_ok-put.ensures ∙ ap (λ es. es ++ c.in_ok-effect.effect ∷ []) c.new-effects.ensures.items in
    subst (λ es. Read (rule effect) es c.args.self.now c.eff.new.self) (sym is) (finds_rule (finds_first h c.in_ok-effect.ensures.reads))

pub returns-in_err-expect-clause-reads : goal.returns-in_err-expect-clause-reads
returns-in_err-expect-clause-reads c =
    let h = sym c.next_effect.ensures.next ∙ sym c.is_some.ensures ∙ c.if-is_some.false in
    gives_up_in (rule effect) (token (symbol Less)) (λ es. es.items) c.from_residual-in_err-expect.result c.in_err-expect.field-0.0 c.args.self.now c.args.self.now c.expect.new.self (λ f r. fails_rule (fails_second h (fails_front r))) c.from_residual-in_err-expect.ensures.1 c.in_err-expect.ensures.reads

pub returns-in_err-effects-clause-reads : goal.returns-in_err-effects-clause-reads
returns-in_err-effects-clause-reads c =
    let h = sym c.next_effect.ensures.next ∙ sym c.is_some.ensures ∙ c.if-is_some.false in
    gives_up_in (rule effect) (listed (rule eff)) (λ es. es.items) c.from_residual-in_err-effects.result c.in_err-effects.field-0.0 c.args.self.now c.expect.new.self c.effects.new.self
    (λ f r. fails_rule (fails_second h (fails_behind c.in_ok-expect.ensures.reads (fails_front r)))) c.from_residual-in_err-effects.ensures.1 c.in_err-effects.ensures.reads

pub returns-in_err-expect-2-clause-reads : goal.returns-in_err-expect-2-clause-reads
returns-in_err-expect-2-clause-reads c =
    let h = sym c.next_effect.ensures.next ∙ sym c.is_some.ensures ∙ c.if-is_some.false in
    gives_up_in (rule effect) (token (symbol Greater)) (λ es. es.items) c.from_residual-in_err-expect-2.result c.in_err-expect-2.field-0.0 c.args.self.now c.effects.new.self c.expect-2.new.self
    (λ f r. fails_rule (fails_second h (fails_behind c.in_ok-expect.ensures.reads (fails_behind c.in_ok-effects.ensures.reads.2 r)))) c.from_residual-in_err-expect-2.ensures.1 c.in_err-expect-2.ensures.reads

pub returns-clause-reads : goal.returns-clause-reads
returns-clause-reads c =
    let h = sym c.next_effect.ensures.next ∙ sym c.is_some.ensures ∙ c.if-is_some.false in
    let effects = c.in_ok-effects.ensures.reads in
    subst (λ es. Read (rule effect) es c.args.self.now c.expect-2.new.self) effects.1 (finds_rule (finds_second h (finds_both c.in_ok-expect.ensures.reads (finds_both effects.2 c.in_ok-expect-2.ensures.reads))))
