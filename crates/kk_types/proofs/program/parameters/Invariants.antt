use Rattle.std.proofs.Common.{◌≡◌, ℕ, map, take, []}
use Rattle.kk_syntax.specs.Typing.{with_parameters}
use Rattle.kk_unify.specs.Graphs.{Assignment}
use Rattle.kk_walk.specs.Walks.{scope_at, AreBelow, AreBoundBelow}
use Rattle.kk_types.proofs.program.parameters.Given as goal

abbrev pub invariant-loop-index : goal.invariant-loop-index
invariant-loop-index l = record {
  bound : (r : Assignment) → scope_at r l.scope.items ≡ with_parameters 0 (map r (take l.index l.nodes)) [];
  inside : (size : ℕ) → AreBelow size l.nodes → AreBoundBelow size l.scope.items;
}
