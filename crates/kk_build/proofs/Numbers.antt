-- How many instructions steps take in all, by the nodes of the greatest body.
use Rattle.std.proofs.Common.{ℕ, ◌+◌, ◌*◌, ◌≤◌, arith}
use Rattle.std.proofs.lemmas.Nat.{mul-le}
use Rattle.kk_core.specs.Costs.{most_step_cost, most_room}
use Rattle.rv_place.specs.Images.{outside_lines}
use Rattle.kk_build.specs.Agreement.{instructions_within}

-- A body has a node, so the steps' own bound, once more, has space for what is outside of them and for the room at the start.
pub counted_within : (nodes room n : ℕ) → 1 ≤ nodes → room ≤ most_room nodes
    → most_step_cost nodes * n + (room + outside_lines) ≤ instructions_within nodes n
counted_within nodes room n some little =
    let square : 1 * nodes ≤ nodes * nodes = mul-le 1 nodes nodes nodes some (omega arith) in
    grind (arith, square, little, some)
