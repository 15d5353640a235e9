use Rattle.std.proofs.Common.{◌≡◌, ◌+◌, length, drop}
use Rattle.cell_runtime.specs.Operations.{all_bytes}
use Rattle.rv_place.proofs.sizes.bytes_of_constants.Given as goal

abbrev pub invariant-loop-text : goal.invariant-loop-text
invariant-loop-text l = l.bytes + length (all_bytes (drop l.text-index l.constants)) ≡ length (all_bytes l.constants)
