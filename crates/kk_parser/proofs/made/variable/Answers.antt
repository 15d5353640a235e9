use Rattle.kk_parser.proofs.MemoryDepths.{variable_under, box_under}
use Rattle.kk_parser.proofs.Trees.{written-Variable, in_box}
use Rattle.kk_parser.proofs.made.variable.Goals as goal

pub returns-clause-made : goal.returns-clause-made
returns-clause-made c = in_box c.boxed.result _ _ c.boxed.ensures (written-Variable _)

pub returns-clause-depth : goal.returns-clause-depth
returns-clause-depth c = box_under c.boxed.result _ c.boxed.ensures (variable_under _)
