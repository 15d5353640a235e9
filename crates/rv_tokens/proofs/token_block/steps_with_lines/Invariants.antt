use Rattle.std.proofs.Common.{◌≤◌, length, map, drop}
use Rattle.kk_counted.specs.TokenedForms.{tokened_move}
use Rattle.rv_cells.specs.ComparisonBranch.{AreNoLines}
use Rattle.rv_tokens.specs.Written.{holds_known}
use Rattle.rv_tokens.proofs.token_block.steps_with_lines.Given as goal

abbrev pub invariant-loop-count : goal.invariant-loop-count
invariant-loop-count l = record {
  within : l.count ≤ length l.steps;
  others : AreNoLines (holds_known l.known) (map tokened_move (drop l.count l.steps));
}

abbrev pub decreases-loop-count : goal.decreases-loop-count
decreases-loop-count l = l.count
