-- The nodes of a block are those of its statements and of its last expression.
use Rattle.std.proofs.Common.{◌≡◌, ◌+◌, List, [], ◌∷◌, arith}
use Rattle.kk_syntax.specs.Trees.{Tree, StatementTree, block_of}
use Rattle.kk_syntax.specs.Shapes.{nodes_of, nodes_of_statements}

pub nodes_of_block : (ss : List StatementTree) (last : Tree) → nodes_of (block_of ss last) ≡ nodes_of_statements ss + nodes_of last
nodes_of_block [] last = omega arith
nodes_of_block (s ∷ ss) last = omega (arith, nodes_of_block ss last)
