use Rattle.std.proofs.Common.{map, ap, ◌∙◌}
use Rattle.kk_syntax.specs.PositionsOf.{positions_of}
use Rattle.kk_core.specs.Codes.{arm_code}
use Rattle.kk_insert.specs.Parts.{part_in}
use Rattle.kk_insert.proofs.Cases.{case_own, case_insert}
use Rattle.kk_insert.proofs.blocks.Insertion.+block.Goals as goal

pub last-returns-in_ok-part-in-Case-clause-owned :
    goal.last-returns-in_ok-part-in-Case-clause-owned
last-returns-in_ok-part-in-Case-clause-owned t c =
    case_own (positions_of c.args.self.now.positions.now) c.args.self.now.lent.now c.args.left.now c.args.last.now
    c.in-Case.variable c.in-Case.decisions c.in-Case.arms _ _ c.in-Case.is
    (c.in_ok-parts-in-Case.ensures
    ∙ ap (λ arms. map (part_in (positions_of c.args.self.now.positions.now) c.args.self.now.lent.now c.args.left.now) (map arm_code arms)) c.deref-in-Case.ensures.value)
    c.in_ok-part-in-Case.ensures.owned

pub last-returns-in_ok-part-in-Case-clause-code :
    goal.last-returns-in_ok-part-in-Case-clause-code
last-returns-in_ok-part-in-Case-clause-code t c =
    case_insert (positions_of c.args.self.now.positions.now) c.args.self.now.lent.now c.args.left.now c.args.last.now
    c.in-Case.variable c.in-Case.decisions c.in-Case.arms _ _ _ c.in-Case.is
    (c.in_ok-parts-in-Case.ensures
    ∙ ap (λ arms. map (part_in (positions_of c.args.self.now.positions.now) c.args.self.now.lent.now c.args.left.now) (map arm_code arms)) c.deref-in-Case.ensures.value)
    c.in_ok-part-in-Case.ensures.owned c.in_ok-part-in-Case.ensures.code
