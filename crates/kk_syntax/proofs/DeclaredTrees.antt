-- The constructors of a program in memory are declared ones.
use Rattle.std.proofs.Common.{◌≡◌, zero, suc, List, [], ◌∷◌, map, sym, ap}
use Rattle.kk_syntax.specs.declared.program.Constructor.{Constructor}
use Rattle.kk_syntax.specs.Programs.{ConstructorTree, constructor_tree, AreDeclared}

pub trees_declared : (constructors : List Constructor) → AreDeclared (map constructor_tree constructors)
trees_declared [] c constructor there = absurd (cc)
trees_declared (first ∷ constructors) zero constructor there =
    let same : constructor_tree first ≡ constructor = cc in
    sym (ap (λ (k : ConstructorTree). k.arguments) same)
trees_declared (first ∷ constructors) (suc c) constructor there = trees_declared constructors c constructor there
