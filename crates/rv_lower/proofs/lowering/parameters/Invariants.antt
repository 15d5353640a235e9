use Rattle.std.proofs.Common.{◌≡◌}
use Rattle.rv_lower.specs.Lowered.{from_to}
use Rattle.rv_lower.proofs.lowering.parameters.Given as goal

abbrev pub invariant-loop-value : goal.invariant-loop-value
invariant-loop-value l = l.params.items ≡ from_to 0 l.value
