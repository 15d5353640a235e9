use Rattle.std.proofs.Common.{◌≡◌, drop}
use Rattle.rv_propose.specs.Alive.{with_values}
use Rattle.rv_propose.proofs.liveness.add_all.Given as goal

abbrev pub invariant-loop-value : goal.invariant-loop-value
invariant-loop-value l = with_values (drop l.value-index l.more) l.values.items ≡ with_values l.more l.initial.values.items
