-- That the numbers of steps of code are numbers of 32 bits.
use Rattle.std.specs.Prelude.{List, [], ◌∷◌}
use Rattle.kk_counted.specs.CountedForms.{Move, computes, runs}
use Rattle.kk_counted.specs.Int32.{IsFormInt32, HasInt32}

abbrev pub IsMoveInt32 : Move → Type 0
IsMoveInt32 (computes x form arguments) = IsFormInt32 form
IsMoveInt32 (runs x block) = HasInt32 block
IsMoveInt32 _ = Unit {0}

abbrev pub AreMovesInt32 : List Move → Type 0
AreMovesInt32 [] = Unit {0}
AreMovesInt32 (move ∷ moves) = IsMoveInt32 move × AreMovesInt32 moves
