-- The tests of a case look at as much of the counted cells as the core machine looks at of its store.
use Rattle.std.proofs.Common.{◌≡◌, ℕ, zero, suc, ◌+◌, List, length, Option, Some, None, refl, ap, ◌∙◌}
use Rattle.std.specs.Prelude.{slice_get}
use Rattle.kk_source.specs.State.{Value}
use Rattle.kk_source.specs.Matching.{and_then}
use Rattle.kk_core.specs.declared.decisions.Answer.{Answer}
use Rattle.kk_core.specs.Decisions.{NodeTree, chooses, tests, found_at, next_by}
use Rattle.kk_core.specs.Looks.{looks_behind, looks_at, looks_from, looks_taken}
use Rattle.kk_counted.specs.Heaps.{Heap, forwards, cell_at}
use Rattle.kk_counted.specs.References.{Counts, IsCounted}
use Rattle.kk_counted.proofs.Looks.{found_same}

module _ (outside : ℕ → ℕ) (heap : Heap) (counts : Counts outside heap) (v : Value) (counted : IsCounted heap v) where
  looks_from_same : (nodes : List NodeTree) (steps k : ℕ)
      → looks_from (cell_at heap) v nodes steps k ≡ looks_from (slice_get (forwards heap)) v nodes steps k
  looks_from_same nodes zero k = refl
  looks_from_same nodes (suc steps) k = by_node (slice_get nodes k) (looks_from_same nodes steps)
    where
      by_next : (next : Option ℕ)
          → ((j : ℕ) → looks_from (cell_at heap) v nodes steps j ≡ looks_from (slice_get (forwards heap)) v nodes steps j)
          → looks_behind (looks_from (cell_at heap) v nodes steps) next
          ≡ looks_behind (looks_from (slice_get (forwards heap)) v nodes steps) next
      by_next None later = refl
      by_next (Some j) later = later j

      by_node : (node : Option NodeTree)
          → ((j : ℕ) → looks_from (cell_at heap) v nodes steps j ≡ looks_from (slice_get (forwards heap)) v nodes steps j)
          → looks_at (cell_at heap) v (looks_from (cell_at heap) v nodes steps) node
          ≡ looks_at (slice_get (forwards heap)) v (looks_from (slice_get (forwards heap)) v nodes steps) node
      by_node None later = refl
      by_node (Some (chooses row)) later = refl
      by_node (Some (tests at edges otherwise)) later =
          ap (λ (n : ℕ). suc (length at + length edges) + n)
          (by_next (and_then (found_at (cell_at heap) at v) (next_by edges otherwise)) later
          ∙ ap (λ (o : Option Answer). looks_behind (looks_from (slice_get (forwards heap)) v nodes steps)
          (and_then o (next_by edges otherwise))) (found_same outside heap counts at v counted))

  -- the tests look at as much
  pub looks_same : (decisions : List NodeTree)
      → looks_taken (cell_at heap) v decisions ≡ looks_taken (slice_get (forwards heap)) v decisions
  looks_same decisions = looks_from_same decisions (length decisions) 0
