-- Arithmetic on words of 32 bits: the operations of Words at the width of RV32IM.
use Rattle.std.specs.Prelude.{ℕ, ℤ, Bool, if◌then◌else◌}
use Rattle.std.specs.Int.{w32}
use Rattle.rv_isa.specs.Words.{signed_in, word_in, widened_in, sum_in, difference_in, shift_left_in, shift_right_logical_in, shift_right_arithmetic_in, product_in, upper_signed_in, upper_signed_unsigned_in, upper_unsigned_in, quotient_signed_in, quotient_unsigned_in, remainder_signed_in, remainder_unsigned_in}

-- the number that a word stands for as a signed one: -2^31 to 2^31 - 1; and the word of a number
abbrev pub signed : ℕ → ℤ
signed a = signed_in w32 a

abbrev pub word_of : ℤ → ℕ
word_of z = word_in w32 z

-- 1 where the test holds, and else 0
abbrev pub bit_of : Bool → ℕ
bit_of test = if test then 1 else 0

-- a number of one, two or four bytes as a word
abbrev pub widened : ℕ → Bool → ℕ → ℕ
widened count signed number = widened_in w32 count signed number

abbrev pub sum_word : ℕ → ℕ → ℕ
sum_word a b = sum_in w32 a b

abbrev pub difference_word : ℕ → ℕ → ℕ
difference_word a b = difference_in w32 a b

-- a shift takes the lower five bits of its amount
abbrev pub shift_left : ℕ → ℕ → ℕ
shift_left a b = shift_left_in w32 a b

abbrev pub shift_right_logical : ℕ → ℕ → ℕ
shift_right_logical a b = shift_right_logical_in w32 a b

abbrev pub shift_right_arithmetic : ℕ → ℕ → ℕ
shift_right_arithmetic a b = shift_right_arithmetic_in w32 a b

-- the lower 32 bits of the product, and the upper 32 bits of signed, signed by unsigned, and unsigned numbers
abbrev pub product_word : ℕ → ℕ → ℕ
product_word a b = product_in w32 a b

abbrev pub upper_signed : ℕ → ℕ → ℕ
upper_signed a b = upper_signed_in w32 a b

abbrev pub upper_signed_unsigned : ℕ → ℕ → ℕ
upper_signed_unsigned a b = upper_signed_unsigned_in w32 a b

abbrev pub upper_unsigned : ℕ → ℕ → ℕ
upper_unsigned a b = upper_unsigned_in w32 a b

-- division by zero gives -1, or 2^32 - 1, and leaves the dividend; -2^31 divided by -1 is -2^31, and leaves 0
abbrev pub quotient_signed : ℕ → ℕ → ℕ
quotient_signed a b = quotient_signed_in w32 a b

abbrev pub quotient_unsigned : ℕ → ℕ → ℕ
quotient_unsigned a b = quotient_unsigned_in w32 a b

abbrev pub remainder_signed : ℕ → ℕ → ℕ
remainder_signed a b = remainder_signed_in w32 a b

abbrev pub remainder_unsigned : ℕ → ℕ → ℕ
remainder_unsigned a b = remainder_unsigned_in w32 a b
