use Rattle.kk_core.specs.Codes.{block_code}
use Rattle.kk_norm.proofs.WriterSteps.{truth_code}
use Rattle.kk_norm.proofs.truth.case_by_truth.Goals as goal

pub returns : goal.returns
returns c =
    truth_code c.args.on c.in_ok-decisions.decisions c.in_ok-arms.arms c.arm_of-first.result c.arm_of-second.result
    (block_code c.args.positive) (block_code c.args.negative) c.in_ok-decisions.ensures.nodes c.in_ok-arms.ensures.items
    c.arm_of-first.ensures c.arm_of-second.ensures
