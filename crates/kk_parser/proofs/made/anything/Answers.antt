use Rattle.kk_parser.proofs.Trees.{written-anything, pattern_in_box}
use Rattle.kk_parser.proofs.made.anything.Goals as goal

pub returns : goal.returns
returns c = pattern_in_box c.boxed.result _ _ c.boxed.ensures written-anything
