use Rattle.rv_cells.proofs.FitStates.{typed_fits}
use Rattle.rv_cells.proofs.law.judged_programs_are_fit.Goals as goal

pub returns : goal.returns
returns c = typed_fits
