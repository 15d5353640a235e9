use Rattle.std.proofs.Common.{◌≡◌, drop}
use Rattle.std.specs.Prelude.{max}
use Rattle.kk_counted.specs.TokenLowerable.{slots_of}
use Rattle.rv_cells.proofs.slots.slots_behind.Given as goal

abbrev pub invariant-loop-slot : goal.invariant-loop-slot
invariant-loop-slot l = max l.most (slots_of (drop l.slot-index l.slots)) ≡ slots_of l.slots
