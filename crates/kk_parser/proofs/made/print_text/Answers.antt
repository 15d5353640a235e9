use Rattle.kk_parser.proofs.MemoryDepths.{print_text_under, box_under}
use Rattle.kk_parser.proofs.Trees.{written-PrintText, in_box}
use Rattle.kk_parser.proofs.made.print_text.Goals as goal

pub returns-clause-made : goal.returns-clause-made
returns-clause-made c = in_box c.boxed.result _ _ c.boxed.ensures (written-PrintText _ _)

pub returns-clause-depth : goal.returns-clause-depth
returns-clause-depth c = box_under c.boxed.result _ c.boxed.ensures (print_text_under _ _)
