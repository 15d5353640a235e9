use Rattle.std.proofs.Common.{◌∷◌, [], ◌++◌, sym, ◌∙◌, ap, subst, arith}
use Rattle.kk_syntax.specs.declared.token.Symbol.TheVariants.{Comma}
use Rattle.kk_parser.specs.Grammar.{listed, listed_of}
use Rattle.kk_parser.specs.Phrases.{rule, eff}
use Rattle.kk_parser.proofs.Lists.{Lists, lists_none, lists_one, lists_more, lists_end, lists_fails_first, lists_fails}
use Rattle.kk_parser.proofs.Steps.{gives_up_as_in, symbol_read}
use Rattle.kk_parser.proofs.parser.Parser.effects.Goals as goal

pub returns-then-not-is_some-clause-reads : goal.returns-then-not-is_some-clause-reads
returns-then-not-is_some-clause-reads c =
    let h = sym c.next_effect.ensures.next ∙ sym c.is_some.ensures ∙ c.if-not-is_some.true in
    let none = lists_none (rule eff) c.args.self.now h in
    (none.0, none.1 ∙ sym c.new-effects.ensures.items, none.2)

pub returns-in_err-first-clause-reads : goal.returns-in_err-first-clause-reads
returns-in_err-first-clause-reads c =
    let h = sym c.next_effect.ensures.next ∙ sym c.is_some.ensures ∙ c.if-not-is_some.false in
    gives_up_as_in (listed (rule eff)) (rule eff) listed_of (λ es. es.items) c.from_residual.result c.in_err-first.field-0.0 c.args.self.now c.args.self.now c.eff.new.self (λ f r. lists_fails_first (rule eff) c.args.self.now f h r) c.from_residual.ensures.1 c.in_err-first.ensures.reads

pub loop-self-init : goal.loop-self-init
loop-self-init c =
    let h = sym c.next_effect.ensures.next ∙ sym c.is_some.ensures ∙ c.if-not-is_some.false in
    let is = c.in_ok-put.ensures ∙ ap (λ es. es ++ c.in_ok-first.first ∷ []) c.new-effects.ensures.items in
    record {
      left = omega (arith, c.in_ok-first.ensures.left);
      read = subst (λ es. Lists (rule eff) es c.args.self.now c.eff.new.self) (sym is) (lists_one (rule eff) c.in_ok-first.first c.args.self.now c.eff.new.self h c.in_ok-first.ensures.reads);
    }

pub returns-in_err-next-clause-reads : goal.returns-in_err-next-clause-reads
returns-in_err-next-clause-reads c =
    let h = sym c.is_at.ensures.value ∙ c.loop-self-test.true in
    let comma = symbol_read Comma c.loop-self.self c.advance.new.self h c.advance.ensures.rest c.advance.ensures.depth in
    gives_up_as_in (listed (rule eff)) (rule eff) listed_of (λ es. es.items) c.from_residual-in_err-next.result c.in_err-next.field-0.0 c.args.self.now c.advance.new.self c.eff-in-loop-self.new.self
    (λ f r. lists_fails (rule eff) c.loop-self.effects.items c.args.self.now c.loop-self.self c.advance.new.self f c.loop-self.invariant.read h comma r)
    c.from_residual-in_err-next.ensures.1 c.in_err-next.ensures.reads

pub loop-self-preserved : goal.loop-self-preserved
loop-self-preserved c =
    let h = sym c.is_at.ensures.value ∙ c.loop-self-test.true in
    let comma = symbol_read Comma c.loop-self.self c.advance.new.self h c.advance.ensures.rest c.advance.ensures.depth in
    record {
      left = omega (arith, c.in_ok-next.ensures.left);
      read = subst (λ es. Lists (rule eff) es c.args.self.now c.eff-in-loop-self.new.self) (sym c.in_ok-put-2.ensures)
          (lists_more (rule eff) c.loop-self.effects.items c.in_ok-next.next c.args.self.now c.loop-self.self c.advance.new.self c.eff-in-loop-self.new.self c.loop-self.invariant.read h comma c.in_ok-next.ensures.reads);
    }

pub returns-clause-reads : goal.returns-clause-reads
returns-clause-reads c =
    lists_end (rule eff) c.loop-self.effects.items c.args.self.now c.loop-self.self c.loop-self.invariant.read (sym c.is_at.ensures.value ∙ c.loop-self-test.false)
