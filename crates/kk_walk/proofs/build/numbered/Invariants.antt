use Rattle.std.proofs.Common.{◌≡◌, ℕ, List, map, take, slice_index_or}
use Rattle.kk_syntax.specs.Types.{TypeTree, type_at}
use Rattle.kk_syntax.specs.TypedPrograms.{choice_of}
use Rattle.kk_walk.specs.Walks.{takings_of, choices_at, AreBelow, AreTakenBelow}
use Rattle.kk_walk.proofs.build.numbered.Given as goal

abbrev pub invariant-loop-one : goal.invariant-loop-one
invariant-loop-one l = record {
  types : (types : List TypeTree) → map (choice_of types) l.found.items ≡ choices_at (λ i. type_at types (slice_index_or l.numbers i 0)) (takings_of (take l.one-index l.taken));
  inside : (size : ℕ) → AreBelow size l.numbers → AreTakenBelow size (takings_of l.found.items);
}
