-- Frames as they are kept, seen as those of the machine's definition.
use Rattle.std.specs.Prelude.{List, map}
use Rattle.kk_syntax.specs.Trees.{Tree, trees_of, rows_of, block_of, expr_tree, row_tree, statement_tree}
use Rattle.kk_source.specs.State as source
use Rattle.kk_meaning.specs.declared.binding.Link.{Link}
use Rattle.kk_meaning.specs.declared.frame.Block.{Block}
use Rattle.kk_meaning.specs.declared.frame.Frame.{Frame}
use Rattle.kk_meaning.specs.declared.frame.Frame.TheVariants as OfFrame
use Rattle.kk_meaning.specs.View.{value_view, environment_of}

abbrev pub block_tree : Block → Tree
block_tree block = block_of (map statement_tree block.statements.now) (expr_tree block.value.now)

abbrev pub frame_view : List Link → Frame → source.Frame
frame_view links (OfFrame.Arguments form values left environment) =
    source.arguments form (map value_view values.items) (trees_of (map expr_tree left.now)) (environment_of links environment)
frame_view links (OfFrame.Branches positive negative environment) =
    source.branches (expr_tree positive.now) (expr_tree negative.now) (environment_of links environment)
frame_view links (OfFrame.Rows rows environment) =
    source.rows (rows_of (map row_tree rows.now)) (environment_of links environment)
frame_view links (OfFrame.Statement variable rest environment) =
    source.statement variable (block_tree rest) (environment_of links environment)
frame_view links (OfFrame.Call lent before) = source.call (map value_view lent.items)
