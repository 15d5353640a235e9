use Rattle.kk_fuse.proofs.FormLimits.{few_steps}
use Rattle.kk_fuse.proofs.runs.short_code_has_few_steps.Goals as goal

pub returns : goal.returns
returns c = few_steps
