-- How numbers are spelled.
use Rattle.std.specs.Prelude.{◌≡◌, ℕ, ◌+◌, ◌*◌, ◌-◌, ◌^◌, List, [], ◌∷◌, Bool, true, false, ◌==◌, ◌&&◌, ◌||◌, if◌then◌else◌}
use Rattle.std.specs.Char.{digit_value, is_digit, is_ascii_digit, is_ascii_hexdigit}
use Rattle.std.specs.List.{list_all}
use Rattle.kk_lexer.specs.Fronts.{begins_with}

-- a byte of a decimal number behind its first digit, with the bytes after it in the number: a digit, or a `_` (95) that
-- stands directly before one
abbrev pub is_decimal_byte : ℕ → List ℕ → Bool
is_decimal_byte b after = is_ascii_digit b || (b == 95 && begins_with is_ascii_digit after)

-- what goes on behind a digit: digits, and single `_` between two digits
abbrev pub ends_decimal : List ℕ → Bool
ends_decimal [] = true
ends_decimal (b ∷ after) = is_decimal_byte b after && ends_decimal after

-- a digit, and what goes on behind it
abbrev pub is_decimal : List ℕ → Bool
is_decimal [] = false
is_decimal (b ∷ after) = is_ascii_digit b && ends_decimal after

-- at least one hexadecimal digit, of either case
abbrev pub is_hexadecimal : List ℕ → Bool
is_hexadecimal digits = begins_with is_ascii_hexdigit digits && list_all is_ascii_hexdigit digits

-- the value in a base of digits of value n with one more byte behind them; a `_` has none
abbrev pub value_with : ℕ → ℕ → ℕ → ℕ
value_with base n b = if is_digit b 16 then n * base + digit_value b else n

-- the value of bytes behind digits of value n
abbrev pub value_behind : ℕ → ℕ → List ℕ → ℕ
value_behind base n [] = n
value_behind base n (b ∷ after) = value_behind base (value_with base n b) after

-- a word spells a number: decimal digits, or `0x` (48, 120) and hexadecimal digits
pub data IsNumber : List ℕ → ℕ → Type 0 where
  decimal : (word : List ℕ) → is_decimal word ≡ true → IsNumber word (value_behind 10 0 word)
  hexadecimal : (digits : List ℕ) → is_hexadecimal digits ≡ true → IsNumber (48 ∷ 120 ∷ digits) (value_behind 16 0 digits)

-- the greatest number of 32 bits in two's complement, and the greatest size of one with a `-`
abbrev pub greatest_number : ℕ
greatest_number = 2 ^ 31 - 1

abbrev pub greatest_negative : ℕ
greatest_negative = 2 ^ 31
