use Rattle.std.proofs.Common.{◌<◌, length, arith, sym, ap, ◌∙◌}
use Rattle.kk_core.specs.declared.form.CoreFunction.{CoreFunction}
use Rattle.kk_counted.specs.declared.shape.InstanceShape.{InstanceShape}
use Rattle.kk_counted.specs.InstancePositions.{passed_to}
use Rattle.kk_insert.specs.Shapes.{cells_told, cells_in}
use Rattle.kk_insert.proofs.ProgramShape.{take_next, map_next, grown, told_by, as_long, as_many_at}
use Rattle.kk_insert.proofs.shaping.instances.Goals as goal

pub instance-requires : goal.instance-requires
instance-requires c =
    ap length c.deref.ensures.value
    ∙ as_many_at c.args.positions.now.functions.items c.args.functions.now c.loop-at.at c.index.result.now
    c.index-functions-at.result c.requires c.loop-at-test.true (sym c.index.ensures) (sym c.index-functions-at.is)

pub loop-at-preserved : goal.loop-at-preserved
loop-at-preserved c =
    let tables = c.args.positions.now.functions.items in
    let functions = c.args.functions.now in
    let function = c.index-functions-at.result in
    let made = c.loop-at.made.items in
    let less : c.loop-at.at < length tables = omega (arith, as_long tables functions c.requires, c.loop-at-test.true) in (
      grown passed_to made _ c.in_ok-one.one _ _ (told_by c.index.result.now) c.in_ok-push.ensures.items
          (c.in_ok-one.ensures.passed ∙ c.deref.ensures.value) c.loop-at.invariant.0
          (take_next told_by tables c.loop-at.at c.index.result.now less (sym c.index.ensures)),
      (
        grown cells_in made _ c.in_ok-one.one _ _ (cells_told function) c.in_ok-push.ensures.items c.in_ok-one.ensures.cells
            c.loop-at.invariant.1.0 (map_next cells_told functions c.loop-at.at function c.loop-at-test.true (sym c.index-functions-at.is)),
        grown (λ (i : InstanceShape). i.result_has_cells) made _ c.in_ok-one.one _ _ function.result_has_cells
            c.in_ok-push.ensures.items c.in_ok-one.ensures.value c.loop-at.invariant.1.1
            (map_next (λ (f : CoreFunction). f.result_has_cells) functions c.loop-at.at function c.loop-at-test.true (sym c.index-functions-at.is)),
      ),
    )
