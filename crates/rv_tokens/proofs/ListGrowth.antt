-- What stands where in a list that grows.
use Rattle.std.proofs.Common.{◌≡◌, ◌⊎◌, inl, inr, ℕ, zero, suc, List, [], ◌∷◌, ◌++◌, length, Some, refl, ap, arith}
use Rattle.std.specs.Prelude.{slice_get}

pub get_longer : {A : Type 0} (xs more : List A) (k : ℕ) (x : A) → slice_get xs k ≡ Some x → slice_get (xs ++ more) k ≡ Some x
get_longer [] more k x is = absurd (cc)
get_longer (first ∷ xs) more zero x is = is
get_longer (first ∷ xs) more (suc k) x is = get_longer xs more k x is

pub get_behind : {A : Type 0} (xs : List A) (x : A) (k : ℕ) → k ≡ length xs → slice_get (xs ++ x ∷ []) k ≡ Some x
get_behind [] x zero is = refl
get_behind [] x (suc k) is = absurd (omega (arith, is))
get_behind (first ∷ xs) x zero is = absurd (omega (arith, is))
get_behind (first ∷ xs) x (suc k) is = get_behind xs x k (omega (arith, is))

pub get_push : {A : Type 0} (xs : List A) (x y : A) (k : ℕ) → slice_get (xs ++ x ∷ []) k ≡ Some y
    → (slice_get xs k ≡ Some y) ⊎ ((k ≡ length xs) × (x ≡ y))
get_push [] x y zero is = inr (refl, grind (arith, is))
get_push [] x y (suc k) is = absurd (cc)
get_push (first ∷ xs) x y zero is = inl is
get_push (first ∷ xs) x y (suc k) is = by (get_push xs x y k is)
  where
    by : (slice_get xs k ≡ Some y) ⊎ ((k ≡ length xs) × (x ≡ y)) → (slice_get xs k ≡ Some y) ⊎ ((suc k ≡ suc (length xs)) × (x ≡ y))
    by (inl there) = inl there
    by (inr last) = inr (ap suc last.0, last.1)
