use Rattle.kk_parser.proofs.MemoryDepths.{construct_under, box_under}
use Rattle.kk_parser.proofs.Trees.{written-Construct, in_box}
use Rattle.kk_parser.proofs.made.construct.Goals as goal

pub returns-clause-made : goal.returns-clause-made
returns-clause-made c = in_box c.boxed.result _ _ c.boxed.ensures (written-Construct _ _)

pub returns-clause-depth : goal.returns-clause-depth
returns-clause-depth c = λ h. box_under c.boxed.result _ c.boxed.ensures (construct_under _ _ h)
