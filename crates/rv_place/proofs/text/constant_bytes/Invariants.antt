use Rattle.std.proofs.Common.{◌≡◌, ◌++◌, drop}
use Rattle.cell_runtime.specs.Operations.{all_bytes}
use Rattle.rv_place.proofs.text.constant_bytes.Given as goal

abbrev pub invariant-loop-text : goal.invariant-loop-text
invariant-loop-text l = l.bytes.items ++ all_bytes (drop l.text-index l.constants) ≡ all_bytes l.constants
