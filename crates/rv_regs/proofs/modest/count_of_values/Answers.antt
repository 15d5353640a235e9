use Rattle.std.proofs.Common.{List, ℕ, map, sym, subst, arith}
use Rattle.rv_isa.specs.declared.asm.Statement.{Statement}
use Rattle.rv_isa.specs.AsmCode.{line_of}
use Rattle.rv_isa.specs.ValueBounds.{AreValuesBelow, AreLinesBelow}
use Rattle.rv_regs.proofs.modest.count_of_values.Goals as goal

pub returns : goal.returns
returns c = λ limit below.
    let params = subst (λ (values : List ℕ). AreValuesBelow limit values) (sym c.deref.ensures.value) below.0 in
    let code = subst (λ (code : List Statement). AreLinesBelow limit (map line_of code)) (sym c.deref-2.ensures.value) below.1 in
    c.lines_behind.ensures limit (c.values_behind.ensures limit (omega arith) params) code
