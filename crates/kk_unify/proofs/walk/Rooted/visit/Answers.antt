use Rattle.std.proofs.Common.{◌≢◌, [], sym, subst}
use Rattle.kk_unify.specs.declared.walk.Mark.TheVariants.{New}
use Rattle.kk_unify.specs.declared.walk.Walk.{Walk}
use Rattle.kk_unify.specs.GraphWalk.{mark_at, KeepsNumbers}
use Rattle.kk_unify.specs.WalkOf.{Stands}
use Rattle.kk_unify.proofs.WalkStart.{begins_known, begins_entered}
use Rattle.kk_unify.proofs.walk.Rooted.visit.Goals as goal
use Rattle.kk_unify.proofs.walk.Rooted.visit.Goals.{in-New+in_ok-enter, in_default}

pub loop-frame-init : goal.loop-frame-init
loop-frame-init c =
    let P : Walk → Type 0 = λ walk. Stands c.args.self.now walk [] × KeepsNumbers c.args.walk.now.marks.items walk.marks.items × (mark_at walk.marks.items c.args.root ≢ New) in
    elim c.match-index.branch [
      | in-New+in_ok-enter w ↦ subst P (sym w.walk-is) (begins_entered c.args.self.now c.args.walk.now c.args.root c.index.result.now c.requires.rooted c.requires.stands c.requires.none c.requires.root c.index.ensures w.enter.new.self w.in-New.is w.in_ok-enter.ensures)
      | in_default w ↦ subst P (sym w.walk-is) (begins_known c.args.self.now c.args.walk.now c.args.root c.index.result.now c.requires.rooted c.requires.stands c.requires.none c.requires.root c.index.ensures w.in_default.not-New)
    ]
