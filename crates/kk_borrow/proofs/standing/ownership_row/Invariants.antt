use Rattle.std.proofs.Common.{◌≡◌, ◌++◌, map, drop}
use Rattle.kk_borrow.specs.Standings.{ownership_of}
use Rattle.kk_borrow.proofs.standing.ownership_row.Given as goal

abbrev pub invariant-loop-standing : goal.invariant-loop-standing
invariant-loop-standing l = l.parameters.items ++ map ownership_of (drop l.standing-index l.row) ≡ map ownership_of l.row
