-- How many members distinct cells have at most, and which cells lie from an address on.
use Rattle.std.proofs.Common.{◌≡◌, ◌≢◌, ◌≤◌, ◌<◌, ℕ, zero, suc, ◌+◌, ◌*◌, ◌%◌, inl, inr, List, [], ◌∷◌, ◌++◌, length, refl, sym, ap, arith}
use Rattle.std.proofs.lemmas.Bool.{cases_eq}
use Rattle.cell_heap.specs.Cells.{occurs}
use Rattle.rv_isa.specs.FreeCells.{cells_from}
use Rattle.rv_isa.specs.Numbers.{cell_size}
use Rattle.cell_heap.specs.Counts.{total}
use Rattle.cell_heap.proofs.Sums.{occurs-same, occurs-other, occurs-by, occurs-none, total-none}

-- what is among cells that lie from an address on
pub cells_from-member : (x at count : ℕ) → occurs x (cells_from at count) ≢ 0 → (at ≤ x) × (x < at + cell_size * count) × (x % cell_size ≡ at % cell_size)
cells_from-member x at zero some = absurd (some refl)
cells_from-member x at (suc count) some =
    elim (occurs-by x at (cells_from (at + cell_size) count) some) [
      | inl e ↦ (omega arith, omega arith, ap (λ n. n % cell_size) e)
      | inr later ↦ (let rest = cells_from-member x (at + cell_size) count later in let low = rest.0 in let high = rest.1 in let whole = rest.2 in (omega arith, omega arith, omega arith))
    ]

pub length-cells_from : (at count : ℕ) → length (cells_from at count) ≡ count
length-cells_from at zero = refl
length-cells_from at (suc count) = ap suc (length-cells_from (at + cell_size) count)

-- the cells from an address on, in two parts
pub cells_from-add : (at front back : ℕ)
    → cells_from at (front + back) ≡ cells_from at front ++ cells_from (at + cell_size * front) back
cells_from-add at zero back =
    let sum : 0 + back ≡ back = omega arith in let here : at + cell_size * 0 ≡ at = omega arith in rw (sum, here) refl
cells_from-add at (suc front) back =
    let sum : suc front + back ≡ suc (front + back) = omega arith in
    let there : at + cell_size * suc front ≡ at + cell_size + cell_size * front = omega arith in
    rw (sum, there) (ap (λ cells. at ∷ cells) (cells_from-add (at + cell_size) front back))

-- a member more is one more where it is among the places
total-more : (x : ℕ) (xs places : List ℕ) → total (λ p. occurs p (x ∷ xs)) places ≡ occurs x places + total (λ p. occurs p xs) places
total-more x xs [] = refl
total-more x xs (p ∷ places) =
    let rest = total-more x xs places in
    elim (cases_eq x p) [
      | inl e ↦
          (let here = occurs-same p x xs (sym e) in
          let there = occurs-same x p places e in
          omega arith)
      | inr differ ↦
          (let here = occurs-other p x xs (λ d. differ (sym d)) in
          let there = occurs-other x p places differ in
          omega arith)
    ]

-- members that each are among the places are as many as they are counted there
pub length-total : (xs places : List ℕ) → ((x : ℕ) → occurs x xs ≢ 0 → occurs x places ≡ 1) → total (λ p. occurs p xs) places ≡ length xs
length-total [] places each = total-none (λ p. 0) places (λ p. refl)
length-total (x ∷ xs) places each =
    let rest = length-total xs places (λ y some. each y (later y some)) in
    let first = each x (λ none. (occurs-none x x xs none).0 refl) in
    let more = total-more x xs places in
    omega arith
  where
    later : (y : ℕ) → occurs y xs ≢ 0 → occurs y (x ∷ xs) ≢ 0
    later y some = λ none. some (occurs-none y x xs none).1

-- a sum of summands of at most 1
pub total-at_most : (f : ℕ → ℕ) (places : List ℕ) → ((p : ℕ) → f p ≤ 1) → total f places ≤ length places
total-at_most f [] most = omega arith
total-at_most f (p ∷ places) most =
    let rest = total-at_most f places most in let first = most p in omega arith
