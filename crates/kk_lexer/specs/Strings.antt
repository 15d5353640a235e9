-- How strings are spelled.
use Rattle.std.specs.Prelude.{◌≡◌, ℕ, List, [], ◌∷◌, Bool, true, Option, Some, None, not, ◌==◌, ◌||◌, if◌then◌else◌}

-- a byte that stands for itself in a string: any but `"` (34), `\` (92) and the line's end (10)
abbrev pub is_plain : ℕ → Bool
is_plain b = not (b == 34 || (b == 92 || b == 10))

-- the byte that an escape stands for, by the byte behind its `\`
abbrev pub escaped : ℕ → Option ℕ
escaped b =
    if b == 110 then Some 10
    else (if b == 114 then Some 13
    else (if b == 116 then Some 9
    else (if b == 92 then Some 92
    else (if b == 34 then Some 34
    else (if b == 39 then Some 39
    else None)))))

-- the inside of a string, and the bytes that it stands for
pub data IsInside : List ℕ → List ℕ → Type 0 where
  empty : IsInside [] []
  plain : (b : ℕ) (word bytes : List ℕ) → is_plain b ≡ true → IsInside word bytes → IsInside (b ∷ word) (b ∷ bytes)
  escape : (c b : ℕ) (word bytes : List ℕ) → escaped c ≡ Some b → IsInside word bytes → IsInside (92 ∷ c ∷ word) (b ∷ bytes)
