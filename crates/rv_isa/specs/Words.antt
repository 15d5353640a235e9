-- Arithmetic on words of any width: numbers below 2 to the number of bits, which stand for signed numbers in two's complement.
-- The RISC-V Instruction Set Manual, Volume I: Unprivileged ISA, 2.4 Integer Computational Instructions, and the chapter '"M" Standard Extension for Integer Multiplication and Division'; its XLEN is the width.
use Rattle.std.specs.Prelude.{ℕ, ◌+◌, ◌-◌, ◌*◌, ◌/◌, ◌%◌, ◌^◌, ℤ, pos, ◌*ℤ◌, Bool, ◌&&◌, if◌then◌else◌, nat_eq, nat_le, int_div, int_rem, unsigned_abs}
use Rattle.std.specs.Int.{Width, cast_signed, int_rem_euclid, int_shr}
use mir.Val.{bits}

-- how many words there are
abbrev pub modulus : Width → ℕ
modulus width = 2 ^ bits width

-- the number that a word stands for as a signed one: from minus half the modulus to half of it less 1
abbrev pub signed_in : Width → ℕ → ℤ
signed_in width a = cast_signed width a

-- the word of a number, modulo the modulus
abbrev pub word_in : Width → ℤ → ℕ
word_in width z = unsigned_abs (int_rem_euclid z (pos (modulus width)))

-- a number of so many bytes as a word; where it is signed, its highest bit is copied into the bits above (2.6 Load and Store Instructions)
abbrev pub widened_in : Width → ℕ → Bool → ℕ → ℕ
widened_in width count signed number =
    if signed && nat_le (2 ^ (8 * count - 1)) number then number + (modulus width - 2 ^ (8 * count)) else number

-- sums and differences ignore overflow
abbrev pub sum_in : Width → ℕ → ℕ → ℕ
sum_in width a b = (a + b) % modulus width

abbrev pub difference_in : Width → ℕ → ℕ → ℕ
difference_in width a b = (a + (modulus width - b)) % modulus width

-- 2.4.1 and 2.4.2: a shift takes as many of the lowest bits of its amount as count the places of a word
abbrev pub shift_left_in : Width → ℕ → ℕ → ℕ
shift_left_in width a b = a * 2 ^ (b % bits width) % modulus width

abbrev pub shift_right_logical_in : Width → ℕ → ℕ → ℕ
shift_right_logical_in width a b = a / 2 ^ (b % bits width)

-- the sign is copied into the upper bits
abbrev pub shift_right_arithmetic_in : Width → ℕ → ℕ → ℕ
shift_right_arithmetic_in width a b = word_in width (int_shr (signed_in width a) (b % bits width))

-- "Multiplication Operations": the lower half of the product, and the upper half of signed, signed by unsigned, and unsigned numbers
abbrev pub product_in : Width → ℕ → ℕ → ℕ
product_in width a b = a * b % modulus width

abbrev pub upper_signed_in : Width → ℕ → ℕ → ℕ
upper_signed_in width a b = word_in width (int_shr (signed_in width a *ℤ signed_in width b) (bits width))

abbrev pub upper_signed_unsigned_in : Width → ℕ → ℕ → ℕ
upper_signed_unsigned_in width a b = word_in width (int_shr (signed_in width a *ℤ pos b) (bits width))

abbrev pub upper_unsigned_in : Width → ℕ → ℕ → ℕ
upper_unsigned_in width a b = a * b / modulus width

-- "Division Operations": the quotient is rounded toward zero; division by zero gives a word of ones, and leaves the dividend; the least signed
-- number divided by -1 is itself, and leaves 0
abbrev pub quotient_signed_in : Width → ℕ → ℕ → ℕ
quotient_signed_in width a b = if nat_eq b 0 then modulus width - 1 else word_in width (int_div (signed_in width a) (signed_in width b))

abbrev pub quotient_unsigned_in : Width → ℕ → ℕ → ℕ
quotient_unsigned_in width a b = if nat_eq b 0 then modulus width - 1 else a / b

abbrev pub remainder_signed_in : Width → ℕ → ℕ → ℕ
remainder_signed_in width a b = if nat_eq b 0 then a else word_in width (int_rem (signed_in width a) (signed_in width b))

abbrev pub remainder_unsigned_in : Width → ℕ → ℕ → ℕ
remainder_unsigned_in width a b = if nat_eq b 0 then a else a % b
