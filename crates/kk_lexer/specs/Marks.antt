-- What stands inside of a comment, as the code reads it.
use Rattle.std.specs.Prelude.{◌≡◌, ℕ, List, [], ◌∷◌, false}
use Rattle.kk_lexer.specs.declared.comments.Mark.{Mark}
use Rattle.kk_lexer.specs.declared.comments.Mark.TheVariants.{Open, Close, Other, End}
use Rattle.kk_lexer.specs.Comments.{begins_with_mark}

abbrev pub IsFirstMark : List ℕ → Mark → Type 0
IsFirstMark text Open = (rest : List ℕ) × (text ≡ 47 ∷ 42 ∷ rest)
IsFirstMark text Close = (rest : List ℕ) × (text ≡ 42 ∷ 47 ∷ rest)
IsFirstMark text Other = (b : ℕ) × (rest : List ℕ) × (text ≡ b ∷ rest) × (begins_with_mark text ≡ false)
IsFirstMark text End = text ≡ []
