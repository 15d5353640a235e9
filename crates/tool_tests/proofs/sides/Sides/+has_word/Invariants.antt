use Rattle.std.proofs.Common.{◌<◌}
use Rattle.tool_tests.proofs.sides.Sides.+has_word.Given as goal

abbrev pub decreases-has_word : goal.decreases-has_word
decreases-has_word l = l.levels

abbrev pub invariant-loop-position : goal.invariant-loop-position
invariant-loop-position l = 0 < l.levels
