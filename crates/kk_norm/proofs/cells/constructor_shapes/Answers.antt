use Rattle.std.proofs.Common.{refl, map, ap, ◌∙◌}
use Rattle.kk_norm.specs.CellTables.{at_type}
use Rattle.kk_norm.proofs.CellTables.{shapes_more}
use Rattle.kk_norm.proofs.cells.constructor_shapes.Goals as goal

pub loop-constructor-preserved : goal.loop-constructor-preserved
loop-constructor-preserved c =
    shapes_more c.args.table.now c.loop-constructor.shapes.items c.push.new.self.items _ c.deref-constructor-items.result.now
    c.loop-constructor.constructor-index c.constructor-item.result c.in_ok-push.ensures.items c.loop-constructor.invariant refl refl
    c.has_cells.ensures (c.in_ok-fields.ensures ∙ ap (map (at_type c.args.table.now)) c.deref.ensures.value) c.constructor-item.is c.loop-constructor-test.true
