use Rattle.kk_parser.proofs.MemoryDepths.{call_under, box_under}
use Rattle.kk_parser.proofs.Trees.{written-Call, in_box}
use Rattle.kk_parser.proofs.made.call.Goals as goal

pub returns-clause-made : goal.returns-clause-made
returns-clause-made c = in_box c.boxed.result _ _ c.boxed.ensures (written-Call _ _)

pub returns-clause-depth : goal.returns-clause-depth
returns-clause-depth c = λ h. box_under c.boxed.result _ c.boxed.ensures (call_under _ _ h)
