-- Tables of what is alive at labels.
use Rattle.std.specs.Prelude.{◌==◌, ℕ, List, [], ◌∷◌, cond}
use Rattle.rv_propose.specs.declared.liveness.LabelPoint.{LabelPoint}

-- what the last point of a label says, or else `found`
abbrev pub last_at : ℕ → List ℕ → List LabelPoint → List ℕ
last_at l found [] = found
last_at l found (point ∷ points) = last_at l (cond (point.label == l) point.alive.items found) points
