use Rattle.std.proofs.Common.{◌≡◌, ◌+◌, length}
use Rattle.kk_lexer.proofs.ReadingLemmas.{ReadsOn}
use Rattle.kk_lexer.proofs.list.tokens.Given as goal
use Rattle.kk_lexer.specs.Scanners.{IsBounded}

abbrev pub invariant-loop-rest : goal.invariant-loop-rest
invariant-loop-rest l = record {
  at : l.place.at + length l.rest ≡ length l.text;
  bounded : IsBounded l.place;
  so_far : ReadsOn l.text l.items.items l.place l.rest;
}

abbrev pub decreases-loop-rest : goal.decreases-loop-rest
decreases-loop-rest l = length l.rest
