use Rattle.std.proofs.Common.{◌≢◌, []}
use Rattle.kk_unify.specs.declared.walk.Mark.TheVariants.{New}
use Rattle.kk_unify.specs.GraphWalk.{mark_at, KeepsNumbers}
use Rattle.kk_unify.specs.WalkOf.{Stands, work_left}
use Rattle.kk_unify.proofs.walk.Rooted.visit.Given as goal

abbrev pub invariant-loop-frame : goal.invariant-loop-frame
invariant-loop-frame l = Stands l.self l.walk [] × KeepsNumbers l.fn.walk.marks.items l.walk.marks.items × (mark_at l.walk.marks.items l.root ≢ New)

abbrev pub decreases-loop-frame : goal.decreases-loop-frame
decreases-loop-frame l = work_left l.walk
