-- The fields of a mask, one bit after the other.
use Rattle.std.proofs.Common.{◌≡◌, ◌<◌, ℕ, suc, ◌/◌, ◌%◌, ◌^◌, List, [], ◌∷◌, true, false, nat_eq, refl, arith}
use Rattle.std.proofs.Math.Nat.{pow-suc}
use Rattle.std.proofs.lemmas.Bool.Decides.{nat_tests}
use Rattle.cell_heap.specs.Cells.{chosen}

pub chosen-none : (xs : List ℕ) → chosen 0 xs ≡ []
chosen-none [] = refl
chosen-none (x ∷ xs) = chosen-none xs

pub chosen-set : (mask x : ℕ) (xs : List ℕ) → mask % 2 ≡ 1 → chosen mask (x ∷ xs) ≡ x ∷ chosen (mask / 2) xs
chosen-set mask x xs set = let test : nat_eq (mask % 2) 1 ≡ true = grind (arith, nat_tests) in rw test refl

pub chosen-clear : (mask x : ℕ) (xs : List ℕ) → mask % 2 ≡ 0 → chosen mask (x ∷ xs) ≡ chosen (mask / 2) xs
chosen-clear mask x xs clear = let test : nat_eq (mask % 2) 1 ≡ false = grind (arith, nat_tests) in rw test refl

-- the rest of a mask is of the rest of the fields
pub half-below : (mask n : ℕ) → mask < 2 ^ suc n → mask / 2 < 2 ^ n
half-below mask n below = let double = pow-suc 2 n in omega arith

-- the mask of no fields is empty
pub mask-none : (mask : ℕ) → mask < 2 ^ 0 → mask ≡ 0
mask-none mask below = omega arith
