use Rattle.std.proofs.Common.{map, ap, ◌∙◌, arith}
use Rattle.kk_syntax.specs.Trees.{expr_tree, statement_tree}
use Rattle.kk_syntax.specs.Shapes.{nodes_of}
use Rattle.kk_syntax.proofs.Blocks.{nodes_of_block}
use Rattle.kk_syntax.proofs.Views.{block_tree}
use Rattle.kk_syntax.proofs.shape.+nodes.Goals as goal

pub nodes-returns-in-Block : goal.nodes-returns-in-Block
nodes-returns-in-Block t c =
    let whole =
    ap (λ e. nodes_of (expr_tree e)) c.in-Block.is
    ∙ (ap nodes_of (block_tree c.in-Block.statements c.in-Block.value)
    ∙ nodes_of_block (map statement_tree c.in-Block.statements.items) (expr_tree c.in-Block.value.value)) in
    let statements = rw c.deref-in-Block.ensures.value at c.nodes_of_each_statement.ensures in
    let value = rw c.deref-in-Block-2.ensures at c.nodes-in-Block.ensures in
    omega (arith, whole, statements, value)
