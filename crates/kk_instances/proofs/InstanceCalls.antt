-- The calls of an instance's body: each is of an instance.
use Rattle.std.proofs.Common.{◌≡◌, ℕ, zero, suc, List, [], ◌∷◌, Some, map, length, refl, arith}
use Rattle.std.specs.Prelude.{slice_get}
use Rattle.kk_syntax.specs.Covered.{Each}

-- there is something of this number
abbrev pub IsThere : {X : Type 0} → List X → ℕ → Type 0
IsThere {X = X} xs n = (x : X) × (slice_get xs n ≡ Some x)

-- what is in a list has a place in each that is as long
pub there_too : {A B : Type 0} (xs : List A) (ys : List B) (k : ℕ) (x : A) → length xs ≡ length ys → slice_get xs k ≡ Some x → IsThere ys k
there_too [] ys k x long is = absurd (cc)
there_too (x ∷ xs) [] k y long is = absurd (omega arith)
there_too (x ∷ xs) (y ∷ ys) zero z long is = (y, refl)
there_too (x ∷ xs) (y ∷ ys) (suc k) z long is = there_too xs ys k z (omega arith) is

-- numbers by which others are found are there
pub each_found : {X : Type 0} (xs : List X) (ns : List ℕ) (found : List X) → map (slice_get xs) ns ≡ map Some found → Each (IsThere xs) ns
each_found xs [] found is = tt
each_found xs (n ∷ ns) [] is = absurd (cc)
each_found xs (n ∷ ns) (x ∷ found) is = ((x, (cc)), each_found xs ns found (cc))
