use Rattle.std.proofs.Common.{[], ◌∷◌, sym, ◌∙◌, refl}
use Rattle.kk_syntax.specs.declared.token.Symbol.TheVariants.{EqualEqual, NotEqual, Less, LessEqual, Greater, GreaterEqual}
use Rattle.kk_parser.specs.Grammar.{comparison, comparison_of}
use Rattle.kk_parser.proofs.Operators.{alone, sooner, later, operator_found, operator_failed, none_next}
use Rattle.kk_parser.proofs.parser.Parser.comparison.Goals as goal

pub returns-in_err-deepen-clause-reads : goal.returns-in_err-deepen-clause-reads
returns-in_err-deepen-clause-reads c = operator_failed comparison comparison_of EqualEqual _ _ c.args.self.now c.deepen.new.self (sooner alone) (sym c.is_at.ensures.value ∙ c.if-is_at.true) c.in_err-deepen.ensures.deepens c.from_residual.ensures.1

pub returns-then-is_at-clause-reads : goal.returns-then-is_at-clause-reads
returns-then-is_at-clause-reads c = operator_found comparison comparison_of EqualEqual _ c.args.self.now c.deepen.new.self (sooner alone) (sym c.is_at.ensures.value ∙ c.if-is_at.true) refl c.in_ok-deepen.ensures.deepens

pub returns-in_err-deepen-2-clause-reads : goal.returns-in_err-deepen-2-clause-reads
returns-in_err-deepen-2-clause-reads c = operator_failed comparison comparison_of NotEqual _ _ c.args.self.now c.deepen-then-is_at-2.new.self (later refl (sooner alone)) (sym c.is_at-2.ensures.value ∙ c.if-is_at-2.true) c.in_err-deepen-2.ensures.deepens c.from_residual-in_err-deepen-2.ensures.1

pub returns-then-is_at-2-clause-reads : goal.returns-then-is_at-2-clause-reads
returns-then-is_at-2-clause-reads c = operator_found comparison comparison_of NotEqual _ c.args.self.now c.deepen-then-is_at-2.new.self (later refl (sooner alone)) (sym c.is_at-2.ensures.value ∙ c.if-is_at-2.true) refl c.in_ok-deepen-2.ensures.deepens

pub returns-in_err-deepen-3-clause-reads : goal.returns-in_err-deepen-3-clause-reads
returns-in_err-deepen-3-clause-reads c = operator_failed comparison comparison_of Less _ _ c.args.self.now c.deepen-then-is_at-3.new.self (later refl (later refl (sooner alone))) (sym c.is_at-3.ensures.value ∙ c.if-is_at-3.true) c.in_err-deepen-3.ensures.deepens c.from_residual-in_err-deepen-3.ensures.1

pub returns-then-is_at-3-clause-reads : goal.returns-then-is_at-3-clause-reads
returns-then-is_at-3-clause-reads c = operator_found comparison comparison_of Less _ c.args.self.now c.deepen-then-is_at-3.new.self (later refl (later refl (sooner alone))) (sym c.is_at-3.ensures.value ∙ c.if-is_at-3.true) refl c.in_ok-deepen-3.ensures.deepens

pub returns-in_err-deepen-4-clause-reads : goal.returns-in_err-deepen-4-clause-reads
returns-in_err-deepen-4-clause-reads c = operator_failed comparison comparison_of LessEqual _ _ c.args.self.now c.deepen-then-is_at-4.new.self (later refl (later refl (later refl (sooner alone)))) (sym c.is_at-4.ensures.value ∙ c.if-is_at-4.true) c.in_err-deepen-4.ensures.deepens c.from_residual-in_err-deepen-4.ensures.1

pub returns-then-is_at-4-clause-reads : goal.returns-then-is_at-4-clause-reads
returns-then-is_at-4-clause-reads c = operator_found comparison comparison_of LessEqual _ c.args.self.now c.deepen-then-is_at-4.new.self (later refl (later refl (later refl (sooner alone)))) (sym c.is_at-4.ensures.value ∙ c.if-is_at-4.true) refl c.in_ok-deepen-4.ensures.deepens

pub returns-in_err-deepen-5-clause-reads : goal.returns-in_err-deepen-5-clause-reads
returns-in_err-deepen-5-clause-reads c = operator_failed comparison comparison_of Greater _ _ c.args.self.now c.deepen-then-is_at-5.new.self (later refl (later refl (later refl (later refl (sooner alone))))) (sym c.is_at-5.ensures.value ∙ c.if-is_at-5.true) c.in_err-deepen-5.ensures.deepens c.from_residual-in_err-deepen-5.ensures.1

pub returns-then-is_at-5-clause-reads : goal.returns-then-is_at-5-clause-reads
returns-then-is_at-5-clause-reads c = operator_found comparison comparison_of Greater _ c.args.self.now c.deepen-then-is_at-5.new.self (later refl (later refl (later refl (later refl (sooner alone))))) (sym c.is_at-5.ensures.value ∙ c.if-is_at-5.true) refl c.in_ok-deepen-5.ensures.deepens

pub returns-in_err-deepen-6-clause-reads : goal.returns-in_err-deepen-6-clause-reads
returns-in_err-deepen-6-clause-reads c = operator_failed comparison comparison_of GreaterEqual _ _ c.args.self.now c.deepen-then-is_at-6.new.self (later refl (later refl (later refl (later refl (later refl alone))))) (sym c.is_at-6.ensures.value ∙ c.if-is_at-6.true) c.in_err-deepen-6.ensures.deepens c.from_residual-in_err-deepen-6.ensures.1

pub returns-then-is_at-6-clause-reads : goal.returns-then-is_at-6-clause-reads
returns-then-is_at-6-clause-reads c = operator_found comparison comparison_of GreaterEqual _ c.args.self.now c.deepen-then-is_at-6.new.self (later refl (later refl (later refl (later refl (later refl alone))))) (sym c.is_at-6.ensures.value ∙ c.if-is_at-6.true) refl c.in_ok-deepen-6.ensures.deepens

pub returns-clause-reads : goal.returns-clause-reads
returns-clause-reads c =
    (none_next (EqualEqual ∷ NotEqual ∷ Less ∷ LessEqual ∷ Greater ∷ GreaterEqual ∷ []) c.args.self.now.rest.now (sym c.is_at.ensures.value ∙ c.if-is_at.false, (sym c.is_at-2.ensures.value ∙ c.if-is_at-2.false, (sym c.is_at-3.ensures.value ∙ c.if-is_at-3.false, (sym c.is_at-4.ensures.value ∙ c.if-is_at-4.false, (sym c.is_at-5.ensures.value ∙ c.if-is_at-5.false, (sym c.is_at-6.ensures.value ∙ c.if-is_at-6.false, tt)))))), refl, refl)
