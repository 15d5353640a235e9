use Rattle.kk_fuse.proofs.FusedStates.{fused_run, fused_clean, fused_tests}
use Rattle.kk_fuse.proofs.runs.fused_code_runs_the_same.Goals as goal

pub returns : goal.returns
returns c = record { run = fused_run; clean = fused_clean; counts = fused_tests }
