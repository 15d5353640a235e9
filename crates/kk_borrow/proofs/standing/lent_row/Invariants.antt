use Rattle.std.proofs.Common.{◌≡◌, [], map, replicate}
use Rattle.kk_syntax.specs.declared.positions.Ownership.TheVariants as Of
use Rattle.kk_borrow.specs.Standings.{ownership_of, waiting_of}
use Rattle.kk_borrow.proofs.standing.lent_row.Given as goal

abbrev pub invariant-loop : goal.invariant-loop
invariant-loop l = record {
  ownerships : map ownership_of l.row.items ≡ replicate l.counter Of.Lent;
  waitings : map waiting_of l.row.items ≡ replicate l.counter [];
}
