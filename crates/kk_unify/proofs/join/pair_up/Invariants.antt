use Rattle.std.proofs.Common.{◌≡◌, ◌++◌, take, length}
use Rattle.std.specs.List.{zip}
use Rattle.kk_unify.proofs.join.pair_up.Given as goal

abbrev pub invariant-loop-one : goal.invariant-loop-one
invariant-loop-one l = l.pairs.items ≡ l.fn.pairs.items ++ take (length l.yielded) (zip l.first l.second)
