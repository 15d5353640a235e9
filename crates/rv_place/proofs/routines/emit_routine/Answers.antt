use Rattle.std.proofs.Common.{◌≡◌, OnOk, sym, subst}
use Rattle.rv_isa.specs.declared.routine.Routine.{Routine}
use Rattle.rv_place.specs.Instructions.{CallsRoutine, words_of_routine}
use Rattle.rv_place.specs.Emitted.{Grew, RoutineReaches}
use Rattle.rv_place.proofs.routines.emit_routine.Goals as goal

pub returns-in-Drop : goal.returns-in-Drop
returns-in-Drop c =
    subst
    (λ (of : Routine). OnOk c.emit_drop.result
    (Grew (words_of_routine c.args.jumps of) (λ code p. p ≡ c.args.at → RoutineReaches c.args.jumps of p c.args.target → CallsRoutine c.args.jumps code p of c.args.target)
    c.args.code.now.items c.emit_drop.new.code.items))
    (sym c.in-Drop.is) c.emit_drop.ensures
