use Rattle.std.proofs.Common.{◌≡◌, take}
use Rattle.arrayvec.specs.ArrayVec.{array_vec_len}
use Rattle.kk_answer.proofs.line.Line.new.Given as goal

abbrev pub invariant-loop-piece : goal.invariant-loop-piece
invariant-loop-piece l = record { same : l.line.items ≡ take l.piece-index l.pieces; count : array_vec_len l.line ≡ l.piece-index }
