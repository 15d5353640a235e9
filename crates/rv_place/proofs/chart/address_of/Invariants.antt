use Rattle.std.proofs.Common.{◌≡◌, ℕ, ◌+◌, drop}
use Rattle.cell_runtime.specs.Lines.{words_of, labels_of}
use Rattle.rv_place.specs.Addresses.{IsBehind}
use Rattle.rv_place.proofs.chart.address_of.Given as goal

abbrev pub invariant-loop-line : goal.invariant-loop-line
invariant-loop-line l = record {
  words : l.before + words_of (drop l.line-index l.natives) ≡ words_of l.natives;
  behind : (count : ℕ) → IsBehind l.symbol count (labels_of 0 l.natives) → IsBehind l.symbol count (labels_of l.before (drop l.line-index l.natives));
}
