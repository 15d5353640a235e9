use Rattle.std.proofs.Common.{◌≡◌, ◌++◌, map, drop}
use Rattle.kk_borrow.specs.Standings.{ownership_of}
use Rattle.kk_borrow.proofs.standing.Standings.positions.Given as goal

abbrev pub invariant-loop-row : goal.invariant-loop-row
invariant-loop-row l = map (λ parameters. parameters.items) l.functions.items ++ map (λ row. map ownership_of row.items) (drop l.row-index l.self.rows.items) ≡ map (λ row. map ownership_of row.items) l.self.rows.items
