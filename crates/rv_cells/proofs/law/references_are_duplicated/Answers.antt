use Rattle.rv_cells.proofs.Counts.{dupped}
use Rattle.rv_cells.proofs.law.references_are_duplicated.Goals as goal

pub returns : goal.returns
returns c = λ pool layout address owners heap next cells v follows fits is small. dupped follows v next fits is small
