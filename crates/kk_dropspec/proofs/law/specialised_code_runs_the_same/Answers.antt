use Rattle.kk_dropspec.proofs.Runs.{runs_same}
use Rattle.kk_dropspec.proofs.law.specialised_code_runs_the_same.Goals as goal

pub returns : goal.returns
returns c = runs_same
