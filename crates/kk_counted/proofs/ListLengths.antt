-- How long lists are: variables of which each weighs 1, what passes a test, what stands at some positions, and numbers in a row.
use Rattle.std.proofs.Common.{◌≡◌, ℕ, zero, suc, ◌+◌, ◌≤◌, Bool, true, false, not, List, [], ◌∷◌, length, arith, refl, ap}
use Rattle.std.proofs.lemmas.List.Filters.{length-filter_both}
use Rattle.std.specs.Prelude.{if◌then◌else◌, filter}
use Rattle.kk_counted.specs.Spending.{total, at_positions, numbers_from}

pub total_ones : (xs : List ℕ) → total (λ x. 1) xs ≡ length xs
total_ones [] = refl
total_ones (x ∷ xs) = omega (arith, total_ones xs)

-- those that pass a test, and the others
pub filter_length : {A : Type 0} (takes : A → Bool) (xs : List A)
    → length (filter takes xs) + length (filter (λ x. not (takes x)) xs) ≡ length xs
filter_length takes xs = length-filter_both takes (λ x. not (takes x)) (λ x. refl) xs

pub filter_few : {A : Type 0} (takes : A → Bool) (xs : List A) → length (filter takes xs) ≤ length xs
filter_few takes xs = let both = filter_length takes xs in omega (arith, both)

pub positions_few : {A : Type 0} (takes : ℕ → Bool) (next : ℕ) (xs : List A) → length (at_positions takes next xs) ≤ length xs
positions_few takes next [] = omega arith
positions_few takes next (x ∷ xs) = by_test (takes next) (positions_few takes (suc next) xs)
  where
    by_test : (t : Bool) → length (at_positions takes (suc next) xs) ≤ length xs
        → length (if t then x ∷ at_positions takes (suc next) xs else at_positions takes (suc next) xs) ≤ suc (length xs)
    by_test true later = omega (arith, later)
    by_test false later = omega (arith, later)

pub numbers_length : (next count : ℕ) → length (numbers_from next count) ≡ count
numbers_length next zero = refl
numbers_length next (suc count) = ap suc (numbers_length (suc next) count)
