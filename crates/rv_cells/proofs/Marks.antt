-- How marks are set.
use Rattle.std.proofs.Common.{◌≡◌, ℕ, zero, suc, ◌<◌, ◌≤◌, Bool, false, List, [], ◌∷◌, ◌++◌, length, refl, ap, arith, slice_set}
use Rattle.rv_cells.specs.Marking.{marked}

pub marked_longer : (x : ℕ) (mark : Bool) (marks : List Bool) → length marks ≤ x
    → marked x mark (marks ++ false ∷ []) ≡ marked x mark marks
marked_longer zero mark [] less = refl
marked_longer zero mark (old ∷ marks) less = absurd (omega (arith, less))
marked_longer (suc x) mark [] less = refl
marked_longer (suc x) mark (old ∷ marks) less = ap (λ (ms : List Bool). old ∷ ms) (marked_longer x mark marks (omega (arith, less)))

pub marked_set : (x : ℕ) (mark : Bool) (marks : List Bool) → x < length marks → slice_set marks x mark ≡ marked x mark marks
marked_set zero mark [] less = absurd (omega (arith, less))
marked_set (suc x) mark [] less = absurd (omega (arith, less))
marked_set zero mark (old ∷ marks) less = refl
marked_set (suc x) mark (old ∷ marks) less = ap (λ (ms : List Bool). old ∷ ms) (marked_set x mark marks (omega (arith, less)))
