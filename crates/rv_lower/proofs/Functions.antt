-- The parameters of a function: numbers one after the other.
use Rattle.std.proofs.Common.{◌≡◌, ℕ, zero, suc, ◌+◌, ◌<◌, ◌≤◌, ◌==◌, ◌||◌, ◌⊎◌, inl, inr, true, false, List, [], ◌∷◌, ◌++◌, length, refl, ap, ◌∙◌, arith}
use Rattle.std.proofs.lemmas.Bool.{or_left, or_right, eq-eqb, ne_eqb, cases_eq}
use Rattle.rv_isa.specs.Frames.{is_among}
use Rattle.rv_isa.specs.WellFormed.{AreDistinct}
use Rattle.rv_lower.specs.Lowered.{from_to}
use Rattle.rv_lower.proofs.WellFormedness.{Each}

pub among_from_to : (at n v : ℕ) → at ≤ v → v < at + n → is_among v (from_to at n) ≡ true
among_from_to at zero v le less = absurd (omega (arith, le, less))
among_from_to at (suc n) v le less = split (cases_eq at v) (λ above under. among_from_to (at + 1) n v above under)
  where
    split : (at ≡ v) ⊎ (at ≡ v → ⊥) → (at + 1 ≤ v → v < at + 1 + n → is_among v (from_to (at + 1) n) ≡ true) → is_among v (from_to at (suc n)) ≡ true
    split (inl same) later = or_left (at == v) (is_among v (from_to (at + 1) n)) (eq-eqb at v same)
    split (inr other) later = or_right (at == v) (is_among v (from_to (at + 1) n)) (later (above other) (omega (arith, less)))
      where
        above : (at ≡ v → ⊥) → at + 1 ≤ v
        above other = grind (arith, le)

from_to_above : (at n v : ℕ) → v < at → is_among v (from_to at n) ≡ false
from_to_above at zero v less = refl
from_to_above at (suc n) v less =
    ap (λ b. b || is_among v (from_to (at + 1) n)) (ne_eqb at v (λ same. absurd (omega (arith, same, less)))) ∙ from_to_above (at + 1) n v (omega (arith, less))

pub from_to_distinct : (at n : ℕ) → AreDistinct (from_to at n)
from_to_distinct at zero = tt
from_to_distinct at (suc n) = (from_to_above (at + 1) n at (omega arith), from_to_distinct (at + 1) n)

pub from_to_length : (at n : ℕ) → length (from_to at n) ≡ n
from_to_length at zero = refl
from_to_length at (suc n) = ap suc (from_to_length (at + 1) n)

pub from_to_each : (P : ℕ → Type 0) (at n : ℕ) → ((v : ℕ) → v < at + n → P v) → Each P (from_to at n)
from_to_each P at zero each = tt
from_to_each P at (suc n) each = (each at (omega arith), from_to_each P (at + 1) n (λ v less. each v (omega (arith, less))))

from_to_more : (at n : ℕ) → from_to at n ++ (at + n) ∷ [] ≡ from_to at (n + 1)
from_to_more at n = last at n ∙ ap (from_to at) (plus n)
  where
    plus : (n : ℕ) → suc n ≡ n + 1
    plus n = omega arith

    last : (at n : ℕ) → from_to at n ++ (at + n) ∷ [] ≡ from_to at (suc n)
    last at zero = let e : at + 0 ≡ at = omega arith in ap (λ (x : ℕ). x ∷ []) e
    last at (suc n) =
        let e : at + suc n ≡ at + 1 + n = omega arith in
        ap (λ (x : ℕ). at ∷ (from_to (at + 1) n ++ x ∷ [])) e ∙ ap (λ (xs : List ℕ). at ∷ xs) (last (at + 1) n)

pub from_to_up : (n : ℕ) → from_to 0 n ++ n ∷ [] ≡ from_to 0 (n + 1)
from_to_up n = let e : n ≡ 0 + n = omega arith in ap (λ (x : ℕ). from_to 0 n ++ x ∷ []) e ∙ from_to_more 0 n
