-- The fronts of a text, and the longest one in a set of words.
use Rattle.std.specs.Prelude.{ℕ, ◌≤◌, Bool, false, List, [], ◌∷◌, length, take}

-- the first byte of some bytes is of a class
abbrev pub begins_with : (ℕ → Bool) → List ℕ → Bool
begins_with is_in [] = false
begins_with is_in (b ∷ bytes) = is_in b

-- no front of the text is in a set of words
abbrev pub HasNoFront : (List ℕ → Type 0) → List ℕ → Type 0
HasNoFront P text = (m : ℕ) → m ≤ length text → P (take m text) → ⊥

-- the first n bytes of the text are in a set of words, and no longer front of it is
pub record IsLongest (P : List ℕ → Type 0) (text : List ℕ) (n : ℕ) : Type 0 where
  pub fits : n ≤ length text
  pub member : P (take n text)
  pub longest : (m : ℕ) → m ≤ length text → P (take m text) → m ≤ n
