-- The arithmetic of the language, on integers of 32 bits: those from -2^31 to 2^31 - 1.
use Rattle.std.specs.Prelude.{ℤ, pos, zero, ◌+ℤ◌, ◌-ℤ◌, ◌*ℤ◌, neg_ℤ, int_div, int_rem}
use Rattle.std.specs.Int.{w32, int_wrap}

-- what is left of a number in 32 bits: the one of them that differs from it by a multiple of 2^32
abbrev pub wrapped : ℤ → ℤ
wrapped z = int_wrap w32 z

-- `x + y`, `x - y`, `x * y` and `~x`
abbrev pub sum_of : ℤ → ℤ → ℤ
sum_of x y = wrapped (x +ℤ y)

abbrev pub difference_of : ℤ → ℤ → ℤ
difference_of x y = wrapped (x -ℤ y)

abbrev pub product_of : ℤ → ℤ → ℤ
product_of x y = wrapped (x *ℤ y)

abbrev pub negation_of : ℤ → ℤ
negation_of x = wrapped (neg_ℤ x)

-- `x / y`, rounded toward zero, and 0 where y is 0
abbrev pub quotient_of : ℤ → ℤ → ℤ
quotient_of x (pos zero) = pos 0
quotient_of x y = wrapped (int_div x y)

-- `x % y`, what that quotient leaves of x, and x where y is 0
abbrev pub remainder_of : ℤ → ℤ → ℤ
remainder_of x (pos zero) = x
remainder_of x y = int_rem x y
