use Rattle.kk_parser.proofs.MemoryDepths.{unit_under, box_under}
use Rattle.kk_parser.proofs.Trees.{written-Unit, in_box}
use Rattle.kk_parser.proofs.made.unit.Goals as goal

pub returns-clause-made : goal.returns-clause-made
returns-clause-made c = in_box c.boxed.result _ _ c.boxed.ensures written-Unit

pub returns-clause-depth : goal.returns-clause-depth
returns-clause-depth c = box_under c.boxed.result _ c.boxed.ensures (unit_under)
