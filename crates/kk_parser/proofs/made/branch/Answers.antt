use Rattle.kk_parser.proofs.MemoryDepths.{branch_under, box_under}
use Rattle.kk_parser.proofs.Trees.{written-If, in_box}
use Rattle.kk_parser.proofs.made.branch.Goals as goal

pub returns-clause-made : goal.returns-clause-made
returns-clause-made c = in_box c.boxed.result _ _ c.boxed.ensures (written-If _ _ _)

pub returns-clause-depth : goal.returns-clause-depth
returns-clause-depth c = λ h k m. box_under c.boxed.result _ c.boxed.ensures (branch_under _ _ _ h k m)
