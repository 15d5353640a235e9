-- How comments are spelled.
use Rattle.std.specs.Prelude.{◌≡◌, ℕ, suc, List, [], ◌∷◌, Bool, false, not, ◌==◌, ◌&&◌, ◌||◌}
use Rattle.std.specs.List.{list_all}

-- a line goes on: no byte ends it (10)
abbrev pub is_within_line : List ℕ → Bool
is_within_line bytes = list_all (λ b. not (b == 10)) bytes

-- bytes begin with `/*` or `*/` (47, 42)
abbrev pub begins_with_mark : List ℕ → Bool
begins_with_mark (b ∷ c ∷ bytes) = (b == 47 && c == 42) || (b == 42 && c == 47)
begins_with_mark _ = false

-- bytes that, read inside of so many open comments, close the last of them with their end: a `/*` opens one, a `*/` closes
-- one, and at every other byte nothing is looked at
pub data Closes : ℕ → List ℕ → Type 0 where
  closed : Closes 0 []
  opens : (n : ℕ) (bytes : List ℕ) → Closes (suc (suc n)) bytes → Closes (suc n) (47 ∷ 42 ∷ bytes)
  closes : (n : ℕ) (bytes : List ℕ) → Closes n bytes → Closes (suc n) (42 ∷ 47 ∷ bytes)
  other : (n b : ℕ) (bytes : List ℕ) → begins_with_mark (b ∷ bytes) ≡ false → Closes (suc n) bytes → Closes (suc n) (b ∷ bytes)
