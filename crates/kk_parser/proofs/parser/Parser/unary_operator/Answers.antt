use Rattle.std.proofs.Common.{[], ◌∷◌, sym, ◌∙◌, refl}
use Rattle.kk_syntax.specs.declared.token.Symbol.TheVariants.{Exclamation, Tilde}
use Rattle.kk_parser.specs.Grammar.{unary_operator, unary_operator_of}
use Rattle.kk_parser.proofs.Operators.{alone, sooner, later, operator_found, operator_failed, none_next}
use Rattle.kk_parser.proofs.parser.Parser.unary_operator.Goals as goal

pub returns-in_err-deepen-clause-reads : goal.returns-in_err-deepen-clause-reads
returns-in_err-deepen-clause-reads c = operator_failed unary_operator unary_operator_of Exclamation _ _ c.args.self.now c.deepen.new.self (sooner alone) (sym c.is_at.ensures.value ∙ c.if-is_at.true) c.in_err-deepen.ensures.deepens c.from_residual.ensures.1

pub returns-then-is_at-clause-reads : goal.returns-then-is_at-clause-reads
returns-then-is_at-clause-reads c = operator_found unary_operator unary_operator_of Exclamation _ c.args.self.now c.deepen.new.self (sooner alone) (sym c.is_at.ensures.value ∙ c.if-is_at.true) refl c.in_ok-deepen.ensures.deepens

pub returns-in_err-deepen-2-clause-reads : goal.returns-in_err-deepen-2-clause-reads
returns-in_err-deepen-2-clause-reads c = operator_failed unary_operator unary_operator_of Tilde _ _ c.args.self.now c.deepen-then-is_at-2.new.self (later refl alone) (sym c.is_at-2.ensures.value ∙ c.if-is_at-2.true) c.in_err-deepen-2.ensures.deepens c.from_residual-in_err-deepen-2.ensures.1

pub returns-then-is_at-2-clause-reads : goal.returns-then-is_at-2-clause-reads
returns-then-is_at-2-clause-reads c = operator_found unary_operator unary_operator_of Tilde _ c.args.self.now c.deepen-then-is_at-2.new.self (later refl alone) (sym c.is_at-2.ensures.value ∙ c.if-is_at-2.true) refl c.in_ok-deepen-2.ensures.deepens

pub returns-clause-reads : goal.returns-clause-reads
returns-clause-reads c =
    (none_next (Exclamation ∷ Tilde ∷ []) c.args.self.now.rest.now (sym c.is_at.ensures.value ∙ c.if-is_at.false, (sym c.is_at-2.ensures.value ∙ c.if-is_at-2.false, tt)), refl, refl)
