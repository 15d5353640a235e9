use Rattle.kk_parser.proofs.MemoryDepths.{binary_under, box_under}
use Rattle.kk_parser.proofs.Trees.{written-Binary, in_box}
use Rattle.kk_parser.proofs.made.binary.Goals as goal

pub returns-clause-made : goal.returns-clause-made
returns-clause-made c = in_box c.boxed.result _ _ c.boxed.ensures (written-Binary _ _ _)

pub returns-clause-depth : goal.returns-clause-depth
returns-clause-depth c = λ h k. box_under c.boxed.result _ c.boxed.ensures (binary_under _ _ _ h k)
