use Rattle.std.proofs.Common.{List, ℕ, map, sym, subst, arith}
use Rattle.rv_isa.specs.declared.asm.Statement.{Statement}
use Rattle.rv_isa.specs.AsmCode.{line_of}
use Rattle.rv_isa.specs.ValueBounds.{AreValuesBelow, AreLinesBelow}
use Rattle.rv_inline.proofs.counting.count_of_values.Goals as goal

pub returns-clause-below : goal.returns-clause-below
returns-clause-below c = (
  subst (λ (values : List ℕ). AreValuesBelow c.lines_behind.result values) c.deref.ensures.value
      (c.values_behind.ensures.below c.lines_behind.result c.lines_behind.ensures.above),
  subst (λ (code : List Statement). AreLinesBelow c.lines_behind.result (map line_of code)) c.deref-2.ensures.value
      (c.lines_behind.ensures.below c.lines_behind.result (omega arith)),
)

pub returns-clause-least : goal.returns-clause-least
returns-clause-least c = λ limit below.
    let params = subst (λ (values : List ℕ). AreValuesBelow limit values) (sym c.deref.ensures.value) below.0 in
    let code = subst (λ (code : List Statement). AreLinesBelow limit (map line_of code)) (sym c.deref-2.ensures.value) below.1 in
    c.lines_behind.ensures.least limit (c.values_behind.ensures.least limit (omega arith) params) code
