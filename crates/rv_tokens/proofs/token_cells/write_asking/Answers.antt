use Rattle.std.proofs.Common.{List, inl, inr, refl, subst, arith}
use Rattle.std.proofs.lemmas.Result.{on_ok_weaker}
use Rattle.rv_tokens.specs.TokenedWritten.{variables_known}
use Rattle.rv_tokens.specs.Written.{facts_of}
use Rattle.rv_lower.proofs.WrittenLines.{one_same}
use Rattle.rv_isa.specs.AsmCode.{Line}
use Rattle.rv_lower.specs.Written.{Wrote}
use Rattle.rv_tokens.proofs.TokenCodeGrowth.{asks_nothing, asks_alone, asks_held, none_there, fill_is}
use Rattle.rv_tokens.proofs.token_cells.write_asking.Goals as goal

pub returns-in_default : goal.returns-in_default
returns-in_default c =
    on_ok_weaker c.write_form.result
    (λ wrote. asks_nothing (facts_of c.args.known.now) (variables_known c.args.known.now) c.args.into c.args.form
    c.args.arguments.now c.args.others.now c.in_default.not-Construct wrote)
    c.write_form.ensures

pub returns-then-is_empty : goal.returns-then-is_empty
returns-then-is_empty c =
    on_ok_weaker c.write_form-then-is_empty.result
    (λ wrote. asks_alone (facts_of c.args.known.now) (variables_known c.args.known.now) c.args.into c.in-Construct.constructor
    c.args.form c.args.arguments.now c.args.others.now c.in-Construct.is
    (inl (none_there c.args.arguments.now (λ some. grind (arith, some, c.is_empty.ensures, c.if-is_empty.true)))) wrote)
    c.write_form-then-is_empty.ensures

pub returns-then-is_empty-2 : goal.returns-then-is_empty-2
returns-then-is_empty-2 c =
    on_ok_weaker c.write_form-then-is_empty-2.result
    (λ wrote. asks_alone (facts_of c.args.known.now) (variables_known c.args.known.now) c.args.into c.in-Construct.constructor
    c.args.form c.args.arguments.now c.args.others.now c.in-Construct.is
    (inr (none_there c.args.others.now (λ some. grind (arith, some, c.is_empty-2.ensures, c.if-is_empty-2.true)))) wrote)
    c.write_form-then-is_empty-2.ensures

pub returns : goal.returns
returns c =
    on_ok_weaker c.write_fill.result
    (λ wrote. asks_held (facts_of c.args.known.now) (variables_known c.args.known.now) c.args.into c.in-Construct.constructor
    c.args.form c.args.arguments.now c.args.others.now c.in-Construct.is
    (λ none. absurd (grind (arith, none, c.is_empty.ensures, c.if-is_empty.false)))
    (λ none. absurd (grind (arith, none, c.is_empty-2.ensures, c.if-is_empty-2.false)))
    (subst (λ (lines : List Line). Wrote lines c.args.lowering.now c.write.new.self) (one_same c.set.ensures)
    c.in_ok-write.ensures)
    (fill_is refl c.in_ok-header.ensures refl refl refl wrote))
    c.write_fill.ensures
