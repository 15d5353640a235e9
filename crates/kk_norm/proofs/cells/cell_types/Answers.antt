use Rattle.std.proofs.Common.{arith}
use Rattle.std.proofs.lemmas.Grind.{common_steps}
use Rattle.kk_norm.proofs.CellTables.{marks_within, table_more}
use Rattle.kk_norm.proofs.cells.cell_types.Goals.{then-not-is_empty, else-not-is_empty}
use Rattle.kk_norm.proofs.cells.cell_types.Goals as goal

pub index_mut-requires : goal.index_mut-requires
index_mut-requires c =
    marks_within c.args.given.now c.deref-constructor-items.result.now c.loop-constructor.constructor-index c.constructor-item.result
    _ c.deref-constructor-items.ensures.value c.constructor-item.is c.loop-constructor-test.true
    (omega (arith, c.loop-constructor.table.ok.0, c.loop-constructor.invariant.as_many))

pub loop-constructor-preserved : goal.loop-constructor-preserved
loop-constructor-preserved c =
    table_more c.args.given.now c.deref-constructor-items.result.now c.loop-constructor.constructor-index c.constructor-item.result
    c.loop-constructor.table.items c.if-not-is_empty.table.items c.deref-constructor-items.ensures.value c.constructor-item.is
    c.loop-constructor-test.true
    (elim c.if-not-is_empty.branch [ then-not-is_empty w ↦ grind (arith, common_steps) | else-not-is_empty w ↦ grind (arith, common_steps) ])
    c.loop-constructor.invariant
