use Rattle.std.proofs.Common.{◌+◌, ◌∷◌, ◌∙◌, List, ℕ, drop, map, sym, ap, subst}
use Rattle.std.proofs.lemmas.List.{drop_more}
use Rattle.rv_isa.specs.declared.asm.Statement.{Statement}
use Rattle.rv_isa.specs.AsmCode.{line_of}
use Rattle.rv_isa.specs.ValueBounds.{AreValuesBelow, AreLinesBelow}
use Rattle.rv_regs.proofs.modest.lines_behind.Goals as goal

pub loop-statement-preserved : goal.loop-statement-preserved
loop-statement-preserved c = λ limit le below.
    let old = c.loop-statement.invariant limit le below in
    let item : Statement = c.statement-item.result in
    let rest : List Statement = drop (c.loop-statement.statement-index + 1) c.args.code.now in
    let parts : AreLinesBelow limit (map line_of (item ∷ rest))
    = subst (λ (left : List Statement). AreLinesBelow limit (map line_of left))
    (drop_more c.args.code.now c.loop-statement.statement-index item c.loop-statement-test.true
    ∙ ap (λ (one : Statement). one ∷ rest) (sym c.statement-item.is)) old.1 in
    let args = subst (λ (values : List ℕ). AreValuesBelow limit values) (sym c.deref.ensures.value) parts.0.0 in
    (c.written_behind-greatest.ensures limit (c.values_behind-greatest.ensures limit old.0 args) parts.0.1, parts.1)

pub returns : goal.returns
returns c = λ limit le below. (c.loop-statement.invariant limit le below).0
