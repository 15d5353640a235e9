-- What the last point of a label says.
use Rattle.std.proofs.Common.{◌≡◌, ◌==◌, ℕ, List, [], ◌∷◌, ◌++◌, cond, false, refl}
use Rattle.rv_isa.specs.declared.asm.Action.{Action}
use Rattle.rv_isa.specs.declared.asm.Action.TheVariants.{Label}
use Rattle.rv_isa.specs.AsmMachine.{is_label}
use Rattle.rv_propose.specs.declared.liveness.LabelPoint.{LabelPoint}
use Rattle.rv_propose.specs.Tables.{last_at}

pub last_at_put : (l : ℕ) (found : List ℕ) (points : List LabelPoint) (p : LabelPoint) → last_at l found (points ++ p ∷ []) ≡ cond (p.label == l) p.alive.items (last_at l found points)
last_at_put l found [] p = refl
last_at_put l found (q ∷ points) p = last_at_put l (cond (q.label == l) q.alive.items found) points p

pub no_label : (l : ℕ) (action : Action) → ((m : ℕ) → action ≡ Label m → ⊥) → is_label l action ≡ false
no_label l (Label m) none = absurd (none m refl)
no_label l action none = refl
