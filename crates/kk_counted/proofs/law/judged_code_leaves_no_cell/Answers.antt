use Rattle.kk_counted.proofs.SoundRuns.{leaves_no_cell}
use Rattle.kk_counted.proofs.law.judged_code_leaves_no_cell.Goals as goal

pub returns : goal.returns
returns c = leaves_no_cell
