-- What stands inside of a string, as the code reads it.
use Rattle.std.specs.Prelude.{◌≡◌, ◌⊎◌, ℕ, List, [], ◌∷◌, Some, None, true}
use Rattle.kk_lexer.specs.declared.strings.Part.{Part}
use Rattle.kk_lexer.specs.declared.strings.Part.TheVariants.{Byte, Quote, BadEscape, End}
use Rattle.kk_lexer.specs.Strings.{is_plain, escaped}

-- the byte behind a `\` makes no escape, or there is none
abbrev pub MakesNoEscape : List ℕ → Type 0
MakesNoEscape [] = Unit {0}
MakesNoEscape (c ∷ rest) = escaped c ≡ None

abbrev pub IsFirstPart : List ℕ → Part → Type 0
IsFirstPart text (Byte b n) =
    ((n ≡ 1) × ((rest : List ℕ) × (text ≡ b ∷ rest) × (is_plain b ≡ true)))
    ⊎ ((n ≡ 2) × ((c : ℕ) × (rest : List ℕ) × (text ≡ 92 ∷ c ∷ rest) × (escaped c ≡ Some b)))
IsFirstPart text Quote = (rest : List ℕ) × (text ≡ 34 ∷ rest)
IsFirstPart text BadEscape = (rest : List ℕ) × (text ≡ 92 ∷ rest) × MakesNoEscape rest
IsFirstPart text End = (text ≡ []) ⊎ ((rest : List ℕ) × (text ≡ 10 ∷ rest))
