use Rattle.std.proofs.Common.{ap, sym, subst, ◌∙◌}
use Rattle.kk_counted.specs.CountedForms.{block_code}
use Rattle.kk_counted.specs.Int32.{HasInt32}
use Rattle.kk_counted.specs.InstancePositions.{positions_in}
use Rattle.kk_counted.specs.declared.form.Block.{Block}
use Rattle.kk_fuse.specs.Fused.{fuse}
use Rattle.kk_dropspec.proofs.ChangedFunctions.{next_is_function}
use Rattle.kk_dropspec.proofs.FunctionLoop.{one_made_more, all_changed}
use Rattle.kk_fuse.proofs.Lowerability.{has_arms}
use Rattle.kk_fuse.proofs.Spending.{spends_parameters}
use Rattle.kk_fuse.proofs.fuse.run.Goals as goal

pub add-requires : goal.add-requires
add-requires c =
    next_is_function fuse spends_parameters has_arms (positions_in c.args.counted.shape.instances.items) _
    c.args.counted.functions.items
    c.deref-function-items.result.now c.function-item.result c.new.result c.loop-function.function-index _ c.args.counted.spent
    (ap (λ shape. positions_in shape.instances.items) (c.loop-function.invariant.1.1.0 ∙ c.new-made.ensures.shape
    ∙ ap (λ parts. parts.0) c.parts-shape.ensures))
    (c.deref-function-items.ensures.value ∙ ap (λ parts. parts.1.items) c.parts-shape.ensures)
    c.loop-function-test.true c.function-item.is c.loop-function.invariant.1.0
    (ap (λ fun. fun.instance) c.new.ensures ∙ c.instance.ensures) (ap (λ fun. fun.parameters) c.new.ensures ∙ c.parameters.ensures)
    (ap (λ fun. block_code fun.body) c.new.ensures ∙ c.in_ok-body.ensures.same ∙ ap (λ body. fuse (block_code body)) c.body.ensures)

pub loop-function-preserved : goal.loop-function-preserved
loop-function-preserved c =
    one_made_more fuse c.deref-function-items.result.now c.loop-function.function-index c.new-made.result c.loop-function.made
    c.add.new.self c.new.result c.function-item.result c.loop-function-test.true c.function-item.is
    (ap (λ fun. fun.parameters) c.new.ensures ∙ c.parameters.ensures)
    (ap (λ fun. block_code fun.body) c.new.ensures ∙ c.in_ok-body.ensures.same
    ∙ ap (λ body. fuse (block_code body)) c.body.ensures)
    (subst (λ (body : Block). HasInt32 (block_code body)) (sym (ap (λ fun. fun.body) c.new.ensures)) c.in_ok-body.ensures.numbers)
    c.in_ok-add.ensures.ok c.in_ok-add.ensures.shape c.in_ok-add.ensures.body_nodes c.in_ok-add.ensures.nodes
    c.loop-function.invariant

pub returns : goal.returns
returns c =
    all_changed fuse c.deref-function-items.result.now c.loop-function.function-index c.args.counted c.new-made.result
    c.loop-function.made c.loop-function-test.false
    (c.deref-function-items.ensures.value ∙ ap (λ parts. parts.1.items) c.parts-shape.ensures)
    (c.new-made.ensures.shape ∙ ap (λ parts. parts.0) c.parts-shape.ensures)
    (c.new-made.ensures.body_nodes ∙ ap (λ parts. parts.2) c.parts-shape.ensures)
    (c.new-made.ensures.nodes ∙ ap (λ parts. parts.3) c.parts-shape.ensures) c.loop-function.invariant
