use Rattle.std.proofs.Common.{◌≡◌, ◌+◌, ◌≤◌, ◌*◌, drop}
use Rattle.kk_syntax.specs.Places.{place_behind}
use Rattle.kk_lexer.proofs.list.behind.Given as goal

abbrev pub invariant-loop-byte : goal.invariant-loop-byte
invariant-loop-byte l = record {
  place : place_behind (record { at = l.at; line = l.line; column = l.column }) (drop l.byte-index l.bytes) ≡ place_behind l.fn.place l.bytes;
  at : l.at ≡ l.fn.place.at + l.byte-index;
  line : l.line ≤ l.at + 1;
  low : 1 ≤ l.column;
  high : l.column ≤ 8 * l.at + 1;
}
