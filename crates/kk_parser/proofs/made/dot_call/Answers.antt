use Rattle.kk_parser.proofs.MemoryDepths.{dot_call_under, box_under}
use Rattle.kk_parser.proofs.Trees.{written-DotCall, in_box}
use Rattle.kk_parser.proofs.made.dot_call.Goals as goal

pub returns-clause-made : goal.returns-clause-made
returns-clause-made c = in_box c.boxed.result _ _ c.boxed.ensures (written-DotCall _ _ _)

pub returns-clause-depth : goal.returns-clause-depth
returns-clause-depth c = λ h k. box_under c.boxed.result _ c.boxed.ensures (dot_call_under _ _ _ h k)
