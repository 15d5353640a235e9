use Rattle.rv_place.proofs.Emissions.{on_so}
use Rattle.rv_place.proofs.JumpInstructions.{branch_near, branch_far}
use Rattle.rv_place.proofs.emit.emit_branch.Goals as goal

pub returns-in-Near : goal.returns-in-Near
returns-in-Near c =
    on_so c.emit_near_branch.result
    (branch_near c.args.at c.args.forms.jumps c.args.condition c.args.left c.args.right c.args.target c.in-Near.is)
    c.emit_near_branch.ensures

pub returns-in-Far : goal.returns-in-Far
returns-in-Far c =
    on_so c.emit_far_branch.result
    (branch_far c.args.at c.args.forms.jumps c.args.condition c.args.left c.args.right c.args.target c.in-Far.is)
    c.emit_far_branch.ensures
