use Rattle.rv_cells.proofs.Words.{written}
use Rattle.rv_cells.proofs.law.words_in_hand_are_stored.Goals as goal

pub returns : goal.returns
returns c = λ pool layout address owners heap cells follows at index word words is. written follows at index word words is
