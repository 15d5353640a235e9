use Rattle.std.proofs.Common.{◌≡◌, ◌++◌, map, drop}
use Rattle.kk_syntax.specs.Programs.{function_tree}
use Rattle.kk_syntax.specs.OwnedSearch.{each_lent}
use Rattle.kk_borrow.specs.Standings.{ownership_of, waiting_of, none_waiting}
use Rattle.kk_borrow.proofs.standing.Standings.new.Given as goal

abbrev pub invariant-loop-function : goal.invariant-loop-function
invariant-loop-function l = record {
  ownerships : map (λ row. map ownership_of row.items) l.rows.items ++ each_lent (map function_tree (drop l.function-index l.functions)) ≡ each_lent (map function_tree l.functions);
  waitings : map (λ row. map waiting_of row.items) l.rows.items ++ none_waiting (map function_tree (drop l.function-index l.functions)) ≡ none_waiting (map function_tree l.functions);
}
