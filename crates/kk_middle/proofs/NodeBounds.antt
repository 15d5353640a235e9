-- No body of an instance has more nodes than the limit, so its function opens no more cells on a path than it may have slots.
use Rattle.std.proofs.Common.{◌≤◌, ◌-◌, List, [], ◌∷◌, arith}
use Rattle.std.proofs.Math.Nat.{max-le}
use Rattle.kk_syntax.specs.declared.ground.Ground.{Ground}
use Rattle.kk_syntax.specs.GroundPrograms.{ground_program}
use Rattle.kk_syntax.specs.Programs.{FunctionTree}
use Rattle.kk_syntax.specs.Shapes.{greatest_of, greatest_nodes}
use Rattle.kk_core.specs.Sizes.{most_nodes}
use Rattle.kk_counted.specs.TokenLowerable.{most_slots}
use Rattle.kk_norm.specs.Normal.{AreWithin}
use Rattle.kk_norm.proofs.Within.{instances_are_within}

greatest_within : (functions : List FunctionTree) → AreWithin functions → greatest_of functions ≤ most_nodes
greatest_within [] within = omega arith
greatest_within (function ∷ functions) within = max-le within.0.nodes (greatest_within functions within.1)

pub few_opened : (given : Ground) → greatest_nodes (ground_program given) - 1 ≤ most_slots
few_opened given =
    let most = greatest_within (ground_program given).functions (instances_are_within given).functions in omega (arith, most)
