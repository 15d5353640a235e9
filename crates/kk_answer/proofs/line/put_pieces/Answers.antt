use Rattle.kk_answer.proofs.Lines.{failed_at}
use Rattle.kk_answer.proofs.line.put_pieces.Goals as goal

pub returns-then-not-put_piece : goal.returns-then-not-put_piece
returns-then-not-put_piece g c = failed_at _ c.args.pieces.now c.loop-piece.piece-index _ _ _ _ c.loop-piece-test.true c.loop-piece.invariant.put c.loop-piece.invariant.same c.if-not-put_piece.ensures
