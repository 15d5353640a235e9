-- How often a number is in a list, and sums over the places of cells.
use Rattle.std.proofs.Common.{◌≡◌, ◌≢◌, ◌≤◌, ◌<◌, ℕ, zero, suc, ◌+◌, ◌*◌, ◌%◌, ◌⊎◌, inl, inr, List, [], ◌∷◌, ◌++◌, nat_eq, true, false, refl, sym, ap, ◌∙◌, arith}
use Rattle.std.proofs.lemmas.Bool.{cases_eq}
use Rattle.std.proofs.lemmas.Bool.Decides.{nat_tests}
use Rattle.cell_heap.specs.Cells.{occurs}
use Rattle.rv_isa.specs.FreeCells.{cells_from}
use Rattle.rv_isa.specs.Numbers.{cell_size}
use Rattle.cell_heap.specs.Counts.{total}

-- ---- members

pub occurs-same : (x y : ℕ) (ys : List ℕ) → x ≡ y → occurs x (y ∷ ys) ≡ suc (occurs x ys)
occurs-same x y ys e = let test : nat_eq x y ≡ true = grind (arith, nat_tests) in rw test (omega arith)

pub occurs-other : (x y : ℕ) (ys : List ℕ) → x ≢ y → occurs x (y ∷ ys) ≡ occurs x ys
occurs-other x y ys differ = let test : nat_eq x y ≡ false = grind (arith, nat_tests) in rw test (omega arith)

-- what is not in a list is not its first member, and not in its rest
pub occurs-none : (x y : ℕ) (ys : List ℕ) → occurs x (y ∷ ys) ≡ 0 → (x ≢ y) × (occurs x ys ≡ 0)
occurs-none x y ys none = (grind (arith, nat_tests), grind (arith, nat_tests))

pub occurs-first : (x : ℕ) (xs : List ℕ) → occurs x (x ∷ xs) ≢ 0
occurs-first x xs = let same = occurs-same x x xs refl in λ none. omega arith

pub occurs-later : (x y : ℕ) (ys : List ℕ) → occurs x ys ≢ 0 → occurs x (y ∷ ys) ≢ 0
occurs-later x y ys some = λ none. some (occurs-none x y ys none).1

pub occurs-append : (x : ℕ) (xs ys : List ℕ) → occurs x (xs ++ ys) ≡ occurs x xs + occurs x ys
occurs-append x [] ys = omega arith
occurs-append x (y ∷ xs) ys = let e = occurs-append x xs ys in omega arith

-- what holds of each member, and of the rest
pub occurs-by : (x y : ℕ) (ys : List ℕ) → occurs x (y ∷ ys) ≢ 0 → (x ≡ y) ⊎ (occurs x ys ≢ 0)
occurs-by x y ys some =
    elim (cases_eq x y) [ inl e ↦ inl e | inr differ ↦ inr (λ none. some (occurs-other x y ys differ ∙ none)) ]

-- ---- the cells of a pool

pub occurs-below : (x at count : ℕ) → x < at → occurs x (cells_from at count) ≡ 0
occurs-below x at zero below = refl
occurs-below x at (suc count) below =
    occurs-other x at (cells_from (at + cell_size) count) (λ e. omega arith) ∙ occurs-below x (at + cell_size) count (omega arith)

a_cell_more : (at x : ℕ) → at ≤ x → (x ≡ at → ⊥) → at % cell_size ≡ x % cell_size → at + cell_size ≤ x
a_cell_more at x low differ aligned = grind arith

-- each cell of a pool is one of its places, once
pub occurs-cells : (x at count : ℕ) → at ≤ x → x < at + cell_size * count → at % cell_size ≡ x % cell_size
    → occurs x (cells_from at count) ≡ 1
occurs-cells x at zero low high aligned = omega arith
occurs-cells x at (suc count) low high aligned =
    elim (cases_eq x at) [
      | inl e ↦
          occurs-same x at (cells_from (at + cell_size) count) e
          ∙ ap suc (occurs-below x (at + cell_size) count (omega arith))
      | inr differ ↦
          occurs-other x at (cells_from (at + cell_size) count) differ
          ∙ occurs-cells x (at + cell_size) count (a_cell_more at x low differ aligned) (omega arith) (omega arith)
    ]

-- ---- sums

pub total-same : (f g : ℕ → ℕ) (xs : List ℕ) → ((x : ℕ) → f x ≡ g x) → total f xs ≡ total g xs
total-same f g [] same = refl
total-same f g (x ∷ xs) same = let e = total-same f g xs same in let first = same x in omega arith

pub total-none : (f : ℕ → ℕ) (xs : List ℕ) → ((x : ℕ) → f x ≡ 0) → total f xs ≡ 0
total-none f [] none = refl
total-none f (x ∷ xs) none = let e = total-none f xs none in let first = none x in omega arith

pub total-elsewhere : (f g : ℕ → ℕ) (at : ℕ) (xs : List ℕ) → ((x : ℕ) → x ≢ at → f x ≡ g x) → occurs at xs ≡ 0 → total f xs ≡ total g xs
total-elsewhere f g at [] same none = refl
total-elsewhere f g at (x ∷ xs) same none =
    let apart = occurs-none at x xs none in
    let e = total-elsewhere f g at xs same apart.1 in
    let first = same x (λ d. apart.0 (sym d)) in
    omega arith

-- where one summand alone changes, and stands there once
pub total-change : (f g : ℕ → ℕ) (at : ℕ) (xs : List ℕ) → ((x : ℕ) → x ≢ at → f x ≡ g x) → occurs at xs ≡ 1 → total f xs + g at ≡ total g xs + f at
total-change f g at [] same once = cc
total-change f g at (x ∷ xs) same once =
    elim (cases_eq at x) [
      | inl e ↦
          (let here = occurs-same at x xs e in
          let rest = total-elsewhere f g at xs same (omega arith) in
          let old = ap f e in
          let new = ap g e in
          omega arith)
      | inr differ ↦
          (let here = occurs-other at x xs differ in
          let rest = total-change f g at xs same (omega arith) in
          let first = same x (λ d. differ (sym d)) in
          omega arith)
    ]
