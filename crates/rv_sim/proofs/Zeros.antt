-- A list of zeros has 0 at each place.
use Rattle.std.proofs.Common.{◌≡◌, ℕ, zero, suc, slice_index, replicate, refl}

pub index-zeros : (n x : ℕ) → slice_index (replicate n 0) x ≡ 0
index-zeros zero x = refl
index-zeros (suc n) zero = refl
index-zeros (suc n) (suc x) = index-zeros n x
