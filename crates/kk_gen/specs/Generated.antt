-- The text of a generated program. Each line ends with a line feed.
use Rattle.std.specs.Prelude.{ℕ, zero, suc, ◌+◌, ◌*◌, ◌/◌, ◌%◌, ◌^◌, List, [], ◌∷◌, ◌++◌, codes, decimal}

abbrev pub line_feed : List ℕ
line_feed = 10 ∷ []

-- ---- the numbers

-- a linear congruential generator of 32 bits (Numerical Recipes, section 7.1)
abbrev pub next_number : ℕ → ℕ
next_number x = (1664525 * x + 1013904223) % 2 ^ 32

-- the number of a function, by its index from 1; at 0 it is the seed
abbrev pub number_at : ℕ → ℕ → ℕ
number_at seed zero = seed
number_at seed (suc index) = next_number (number_at seed index)

-- which of four kinds a function is, and the constant in it
abbrev pub kind_of : ℕ → ℕ
kind_of number = number / 65536 % 4

abbrev pub constant_of : ℕ → ℕ
constant_of number = number / 256 % 100

-- ---- the functions

-- the name of the function of an index
abbrev pub name_of : ℕ → List ℕ
name_of index = codes "f" ++ decimal index

-- 0: a constant is added to each element. 1: the list is reversed. 2: elements with one remainder are left out. 3: elements
-- are swapped two by two.
abbrev pub body_of : ℕ → ℕ → ℕ → List ℕ
body_of zero index constant =
    codes "match xs { Nil -> Nil; Cons(x, xx) -> Cons(x + " ++ (decimal constant ++ (codes ", " ++ (name_of index ++ codes "(xx)) }")))
body_of (suc zero) index constant = codes "rev(xs, Nil)"
body_of (suc (suc zero)) index constant =
    codes "match xs { Nil -> Nil; Cons(x, xx) -> if x % 7 == " ++ (decimal (constant % 7) ++ (codes " then " ++ (name_of index
    ++ (codes "(xx) else Cons(x, " ++ (name_of index ++ codes "(xx)) }")))))
body_of (suc (suc (suc kind))) index constant =
    codes "match xs { Cons(x, Cons(y, ys)) -> Cons(y, Cons(x, " ++ (name_of index ++ codes "(ys))); _ -> xs }")

-- the line of the function of an index, by its number
abbrev pub function_line : ℕ → ℕ → List ℕ
function_line index number =
    codes "fun " ++ (name_of index ++ (codes "(xs: list<int32>): list<int32> { "
    ++ (body_of (kind_of number) index (constant_of number) ++ (codes " }" ++ line_feed))))

-- the lines of the first functions, so many
abbrev pub function_lines : ℕ → ℕ → List ℕ
function_lines seed zero = []
function_lines seed (suc before) = function_lines seed before ++ function_line (suc before) (number_at seed (suc before))

-- ---- the whole

-- lists, and a list that is built, reversed and summed
abbrev pub lists : List ℕ
lists =
    codes "type list<a> { Nil; Cons(head: a, tail: list<a>) }" ++ (line_feed
    ++ (codes "fun build(n: int32): list<int32> { if n == 0 then Nil else Cons(n, build(n - 1)) }" ++ (line_feed
    ++ (codes "fun rev(xs: list<int32>, acc: list<int32>): list<int32> { match xs { Nil -> acc; Cons(x, xx) -> rev(xx, Cons(x, acc)) } }"
    ++ (line_feed ++ (codes "fun sum(xs: list<int32>, acc: int32): int32 { match xs { Nil -> acc; Cons(x, xx) -> sum(xx, acc + x) } }"
    ++ line_feed))))))

-- in `main`: each of the first functions takes the list that the one before gave
abbrev pub steps_of : ℕ → List ℕ
steps_of zero = []
steps_of (suc before) =
    steps_of before ++ (codes "val a" ++ (decimal (suc before) ++ (codes " = " ++ (name_of (suc before) ++ (codes "(a" ++ (decimal before ++ codes "); "))))))

abbrev pub main_line : ℕ → List ℕ
main_line size =
    codes "fun main() { val a0 = build(1000); " ++ (steps_of size ++ (codes "println(sum(a" ++ (decimal size ++ (codes ", 0)) }" ++ line_feed))))

-- the program of a seed and a size
abbrev pub generated : ℕ → ℕ → List ℕ
generated seed size = lists ++ (function_lines seed size ++ main_line size)
