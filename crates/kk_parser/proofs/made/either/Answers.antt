use Rattle.kk_parser.proofs.MemoryDepths.{either_under, box_under}
use Rattle.kk_parser.proofs.Trees.{written-Or, in_box}
use Rattle.kk_parser.proofs.made.either.Goals as goal

pub returns-clause-made : goal.returns-clause-made
returns-clause-made c = in_box c.boxed.result _ _ c.boxed.ensures (written-Or _ _)

pub returns-clause-depth : goal.returns-clause-depth
returns-clause-depth c = λ h k. box_under c.boxed.result _ c.boxed.ensures (either_under _ _ h k)
