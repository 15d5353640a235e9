use Rattle.kk_counted.proofs.CellReuse.{takes_no_cell}
use Rattle.kk_counted.proofs.law.reuse_takes_no_cell.Goals as goal

pub returns : goal.returns
returns c = takes_no_cell
