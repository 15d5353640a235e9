use Rattle.rv_cells.proofs.Counts.{put_aside, taken_back}
use Rattle.rv_cells.proofs.law.cells_in_hand_are_held.Goals as goal

pub returns : goal.returns
returns c = record {
  put_aside = λ pool layout address owners heap cells follows at words is. put_aside follows at words is;
  taken_back = λ pool layout address owners heap cells follows at words is. taken_back follows at words is;
}
