use Rattle.kk_parser.proofs.Trees.{written-constructor, pattern_in_box}
use Rattle.kk_parser.proofs.made.constructor_pattern.Goals as goal

pub returns : goal.returns
returns c = pattern_in_box c.boxed.result _ _ c.boxed.ensures (written-constructor _ _)
