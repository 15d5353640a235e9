-- The upper half of the product of two signed words.
use Rattle.std.proofs.Common.{◌≡◌, ◌^◌, ◌<◌, ◌≤◌, ℤ, pos, negsuc, ◌*ℤ◌, unsigned_abs, FitsSigned, arith}
use Rattle.std.proofs.Math.Nat.{mul-le-mul}
use Rattle.std.specs.Int.{w32, w64, cast_signed, cast_unsigned, int_shr}
use Rattle.std.specs.Int.Signed.{mag, nat_abs-le}
use Rattle.std.proofs.lemmas.Int.{to_z-of_z, unsigned_abs-mul}
use Rattle.rv_isa.specs.Arithmetic.{word_of}

-- the word of a number in range is its bits
word_of-fits : (z : ℤ) → mag z < 2 ^ 31 → cast_unsigned w32 z ≡ word_of z
word_of-fits (pos n) h = omega arith
word_of-fits (negsuc n) h = omega arith

mag-shr_32 : (z : ℤ) → unsigned_abs z ≤ 2 ^ 62 → mag (int_shr z 32) < 2 ^ 31
mag-shr_32 (pos n) h = omega arith
mag-shr_32 (negsuc n) h = omega arith

mag-abs : (z : ℤ) → mag z ≤ unsigned_abs z
mag-abs (pos n) = omega arith
mag-abs (negsuc n) = omega arith

-- the code's way to the upper half, through casts that keep their values
pub upper_half : (p : ℤ) → unsigned_abs p ≤ 2 ^ 62 → cast_unsigned w32 (cast_signed w32 (cast_unsigned w32 (cast_signed w64 (cast_unsigned w64 (int_shr (cast_signed w64 (cast_unsigned w64 p)) 32))))) ≡ word_of (int_shr p 32)
upper_half p bound =
    let small = mag-shr_32 p bound in
    let fits : FitsSigned w64 p = record { sfits = omega (arith, mag-abs p) } in
    let half : FitsSigned w32 (int_shr p 32) = record { sfits = small } in
    let half_64 : FitsSigned w64 (int_shr p 32) = record { sfits = omega arith } in
    rw (to_z-of_z w64 p fits, to_z-of_z w64 (int_shr p 32) half_64, to_z-of_z w32 (int_shr p 32) half) (word_of-fits (int_shr p 32) small)

pub product_bound : (x y : ℤ) → mag x < 2 ^ 31 → mag y < 2 ^ 31 → unsigned_abs (x *ℤ y) ≤ 2 ^ 62
product_bound x y hx hy = omega (arith, unsigned_abs-mul x y, mul-le-mul (nat_abs-le x hx) (nat_abs-le y hy))
