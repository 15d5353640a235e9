use Rattle.std.proofs.Common.{◌≡◌, ◌++◌, map, length}
use Rattle.kk_counted.specs.TokenedForms.{tokened_move}
use Rattle.kk_emitter.specs.TokenDrafts.{renames}
use Rattle.kk_emitter.proofs.joins.rename.Given as goal

abbrev pub invariant-loop-slot : goal.invariant-loop-slot
invariant-loop-slot l =
    map tokened_move l.steps.items ++ renames l.left l.slots ≡ map tokened_move l.initial.steps.items ++ renames l.fn.from l.fn.to

abbrev pub decreases-loop-slot : goal.decreases-loop-slot
decreases-loop-slot l = length l.slots
