use Rattle.std.proofs.Common.{◌+◌, [], ◌∷◌, map, length, length-append, arith, sym, ap, ◌∙◌}
use Rattle.kk_syntax.specs.PositionsOf.{positions_of}
use Rattle.kk_core.specs.Codes.{function_code}
use Rattle.kk_counted.specs.Programs.{function_of}
use Rattle.kk_counted.specs.InstancePositions.{positions_in}
use Rattle.kk_insert.specs.Insertion.{inserted_function}
use Rattle.kk_insert.proofs.Instances.{functions_next, functions_added, next_function}
use Rattle.kk_insert.proofs.program.inserted.Goals as goal

pub add-requires : goal.add-requires
add-requires c =
    let p = positions_of c.args.positions.now in
    next_function p (positions_in c.loop-at.made.shape.instances.items) c.args.core.now.functions.items c.loop-at.made.functions.items
    c.loop-at.at c.index.result.now c.in_ok-function.function c.requires.insertable.each c.requires.rows c.requires.told
    (omega (arith, c.loop-at-test.true, c.len-at-end.ensures)) (sym c.index.ensures)
    (ap (λ shape. positions_in shape.instances.items) (c.loop-at.invariant.1.1.0 ∙ c.new-made.ensures.shape) ∙ c.requires.passed)
    c.loop-at.invariant.1.0 (c.in_ok-function.ensures.number ∙ c.in-Ok.ensures.1)
    (c.in_ok-function.ensures.function ∙ ap (λ n. inserted_function p n (function_code c.index.result.now)) c.in-Ok.ensures.1)

pub loop-at-preserved : goal.loop-at-preserved
loop-at-preserved c =
    let p = positions_of c.args.positions.now in
    let made = c.loop-at.made.functions.items in (
      functions_next p c.args.core.now.functions.items c.loop-at.at c.index.result.now (map function_of made) _ _
          (omega (arith, c.loop-at-test.true, c.len-at-end.ensures)) (sym c.index.ensures)
          (functions_added p made _ c.loop-at.at c.index.result.now c.in_ok-function.function c.in_ok-add.ensures.ok
          (c.in_ok-function.ensures.function ∙ ap (λ n. inserted_function p n (function_code c.index.result.now)) c.in-Ok.ensures.1))
          c.loop-at.invariant.0,
      (
        ap length c.in_ok-add.ensures.ok ∙ length-append made (c.in_ok-function.function ∷ []) ∙ ap (λ n. n + 1) c.loop-at.invariant.1.0,
        (
          c.in_ok-add.ensures.shape ∙ c.loop-at.invariant.1.1.0,
          (c.in_ok-add.ensures.body_nodes ∙ c.loop-at.invariant.1.1.1.0, c.in_ok-add.ensures.nodes ∙ c.loop-at.invariant.1.1.1.1),
        ),
      ),
    )
