use Rattle.std.proofs.Common.{◌≡◌, ◌+◌, drop}
use Rattle.cell_runtime.specs.Lines.{words_of}
use Rattle.rv_place.proofs.sizes.words_of_natives.Given as goal

abbrev pub invariant-loop-line : goal.invariant-loop-line
invariant-loop-line l = l.words + words_of (drop l.line-index l.natives) ≡ words_of l.natives
