use Rattle.std.proofs.Common.{◌≡◌, ◌+◌, ◌++◌, drop}
use Rattle.rv_regs.specs.Plain.{load_from}
use Rattle.rv_regs.proofs.slots.loaded_from.Given as goal

abbrev pub invariant-loop-index : goal.invariant-loop-index
invariant-loop-index l = l.loaded.items ++ load_from (l.first + l.index) (drop l.index l.values) ≡ load_from l.first l.values
