use Rattle.std.proofs.Common.{◌≡◌, ◌++◌, map, drop}
use Rattle.kk_counted.specs.TokenedForms.{TokenedMove, tokened_move}
use Rattle.kk_emitter.proofs.steps.reading.Given as goal

abbrev pub invariant-loop-field : goal.invariant-loop-field
invariant-loop-field l =
    map tokened_move l.steps.items ++ map TokenedMove.dups (drop l.field-index l.used) ≡ map tokened_move l.initial.steps.items ++ map TokenedMove.dups l.used
