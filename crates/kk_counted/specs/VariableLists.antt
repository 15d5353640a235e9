-- Lists of variables: without some of them, with all of them, and below a number.
use Rattle.std.specs.Prelude.{◌≡◌, ℕ, ◌<◌, ◌==◌, true, List, [], ◌∷◌, if◌then◌else◌}
use Rattle.kk_syntax.specs.Shapes.{is_among}

-- a list without the first place of a variable
abbrev pub minus : ℕ → List ℕ → List ℕ
minus x [] = []
minus x (y ∷ ys) = if y == x then ys else y ∷ minus x ys

-- a list without a place of each of some variables
abbrev pub minus_all : List ℕ → List ℕ → List ℕ
minus_all [] ys = ys
minus_all (x ∷ xs) ys = minus_all xs (minus x ys)

-- a list has each of some variables, as often as they are named
abbrev pub HasAll : List ℕ → List ℕ → Type 0
HasAll [] ys = Unit {0}
HasAll (x ∷ xs) ys = (is_among ys x ≡ true) × HasAll xs (minus x ys)

-- variables are below a number
abbrev pub AreLow : ℕ → List ℕ → Type 0
AreLow next xs = (x : ℕ) → is_among xs x ≡ true → x < next

-- variables are among others
abbrev pub AreIn : List ℕ → List ℕ → Type 0
AreIn xs others = (x : ℕ) → is_among xs x ≡ true → is_among others x ≡ true
