use Rattle.kk_parser.proofs.Trees.{written-pattern_variable, pattern_in_box}
use Rattle.kk_parser.proofs.made.pattern_variable.Goals as goal

pub returns : goal.returns
returns c = pattern_in_box c.boxed.result _ _ c.boxed.ensures (written-pattern_variable _)
