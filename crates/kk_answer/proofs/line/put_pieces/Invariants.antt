use Rattle.std.proofs.Common.{◌≡◌, ◌++◌, take, option_map}
use Rattle.kk_answer.specs.Pieces.{joined}
use Rattle.kk_answer.proofs.line.put_pieces.Given as goal

-- the pieces so far were put, and no call failed
abbrev pub invariant-loop-piece : goal.invariant-loop-piece
invariant-loop-piece g l = record {
  put : (g.E.Sink.state l.err).held ≡ option_map (λ before. before ++ joined (take l.piece-index l.pieces)) (g.E.Sink.state l.initial.err).held;
  same : (g.E.Sink.state l.err).faults ≡ (g.E.Sink.state l.initial.err).faults;
}
