use Rattle.std.proofs.Common.{◌≡◌, ◌+◌, ◌++◌, length, drop}
use Rattle.cell_runtime.specs.Operations.{all_bytes}
use Rattle.rv_place.specs.Emitted.{addresses_from}
use Rattle.rv_place.proofs.text.constant_addresses.Given as goal

abbrev pub invariant-loop-text : goal.invariant-loop-text
invariant-loop-text l = record {
  same : l.addresses.items ++ addresses_from l.at (drop l.text-index l.constants) ≡ addresses_from l.first l.constants;
  low : l.at + length (all_bytes (drop l.text-index l.constants)) ≡ l.first + length (all_bytes l.constants);
}
