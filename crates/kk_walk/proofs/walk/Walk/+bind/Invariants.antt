use Rattle.std.proofs.Common.{◌≡◌, ◌++◌, ℕ, List, map, drop}
use Rattle.kk_syntax.specs.Patterns.{pattern_tree, patterns_of}
use Rattle.kk_syntax.specs.Shapes.{bound, bound_all}
use Rattle.kk_walk.specs.Steps.{BindsEach}
use Rattle.kk_walk.proofs.walk.Walk.+bind.Given as goal

abbrev pub invariant-loop-part : goal.invariant-loop-part
invariant-loop-part l =
    (xs : List ℕ) × BindsEach l.fn.self l.self xs × (xs ++ bound_all (patterns_of (map pattern_tree (drop l.part-index l.part-items))) ≡ bound (pattern_tree l.pattern))
