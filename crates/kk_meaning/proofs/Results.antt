-- Results of operators, as the code computes them.
use Rattle.std.proofs.Common.{◌≡◌, ◌/◌, ◌^◌, ◌<◌, ◌≤◌, ℤ, pos, zero, suc, negsuc, neg_ℤ, sym, ap, ◌∙◌, arith, refl}
use Rattle.std.specs.Prelude.{FitsSigned, int_div, unsigned_abs}
use Rattle.std.specs.Int.{w32, cast_signed, cast_unsigned, int_wrap, int_wrapping_div, int_wrapping_neg}
use Rattle.std.proofs.lemmas.Int.{ints, to_z-of_z, wrapping_neg_is}
use Rattle.std.proofs.Math.Nat.{div-le_self}
use Rattle.kk_source.specs.Arithmetic.{negation_of, quotient_of}

-- the cast of a number that has at most 33 bits wraps it
casts_wrap : (z : ℤ) → unsigned_abs z < 2 ^ 32 → cast_signed w32 (cast_unsigned w32 z) ≡ int_wrap w32 z
unfolding int_wrap
casts_wrap (pos n) h = ap (cast_signed w32) (omega arith)
casts_wrap (negsuc n) h = ap (cast_signed w32) (omega arith)

abs-neg_ℤ : (z : ℤ) → unsigned_abs (neg_ℤ z) ≡ unsigned_abs z
abs-neg_ℤ (pos zero) = refl
abs-neg_ℤ (pos (suc n)) = refl
abs-neg_ℤ (negsuc n) = refl

-- a quotient is no larger in size than its dividend
abs-int_div : (x y : ℤ) → unsigned_abs (int_div x y) ≤ unsigned_abs x
abs-int_div (pos a) (pos b) = div-le_self a b
abs-int_div (pos a) (negsuc b) = omega (arith, abs-neg_ℤ (pos (a / suc b)), div-le_self a (suc b))
abs-int_div (negsuc a) (pos b) = omega (arith, abs-neg_ℤ (pos (suc a / b)), div-le_self (suc a) b)
abs-int_div (negsuc a) (negsuc b) = div-le_self (suc a) (suc b)

quotient_wraps : (x y : ℤ) → (cast_unsigned w32 y ≡ 0 → ⊥) → quotient_of x y ≡ int_wrap w32 (int_div x y)
quotient_wraps x (pos zero) h = absurd (h refl)
quotient_wraps x (pos (suc n)) h = refl
quotient_wraps x (negsuc n) h = refl

pub quotient_computed : (x y r : ℤ) → FitsSigned w32 x → FitsSigned w32 y → FitsSigned w32 r → (cast_unsigned w32 y ≡ 0 → ⊥) → r ≡ int_wrapping_div w32 (cast_signed w32 (cast_unsigned w32 x)) (cast_signed w32 (cast_unsigned w32 y)) → cast_signed w32 (cast_unsigned w32 r) ≡ quotient_of x y
quotient_computed x y r f g k h e =
    let small : unsigned_abs (int_div x y) < 2 ^ 32 = omega (arith, ints, abs-int_div x y) in
    to_z-of_z w32 r k ∙ (e ∙ (simp (to_z-of_z w32 x f, to_z-of_z w32 y g) (casts_wrap (int_div x y) small ∙ sym (quotient_wraps x y h))))

pub negation_computed : (x r : ℤ) → FitsSigned w32 x → FitsSigned w32 r → r ≡ int_wrapping_neg w32 (cast_signed w32 (cast_unsigned w32 x)) → cast_signed w32 (cast_unsigned w32 r) ≡ negation_of x
negation_computed x r f k e =
    to_z-of_z w32 r k ∙ (e ∙ (ap (int_wrapping_neg w32) (to_z-of_z w32 x f) ∙ wrapping_neg_is w32 x f))
