use Rattle.std.proofs.Common.{◌≡◌, ◌++◌, map, drop}
use Rattle.kk_counted.specs.TokenedForms.{TokenedMove, tokened_move}
use Rattle.kk_emitter.proofs.steps.hold_all.Given as goal

abbrev pub invariant-loop-slot : goal.invariant-loop-slot
invariant-loop-slot l =
    map tokened_move l.steps.items ++ map TokenedMove.holds (drop l.slot-index l.slots) ≡ map tokened_move l.initial.steps.items ++ map TokenedMove.holds l.slots
