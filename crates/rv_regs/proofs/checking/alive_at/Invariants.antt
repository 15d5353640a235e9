use Rattle.std.proofs.Common.{◌≡◌, drop, map}
use Rattle.rv_isa.specs.Frames.{found}
use Rattle.rv_isa.specs.PlacedCode.{placed_line_of}
use Rattle.rv_isa.specs.PlacedMachine.{is_label_line}
use Rattle.rv_regs.proofs.checking.alive_at.Given as goal

abbrev pub invariant-loop-item : goal.invariant-loop-item
invariant-loop-item l =
    found (is_label_line l.label) (map placed_line_of (drop l.item-index l.code)) ≡ found (is_label_line l.label) (map placed_line_of l.code)
