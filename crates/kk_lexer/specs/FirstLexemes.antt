-- The first lexeme of a text, as the functions of this crate answer it.
use Rattle.std.specs.Prelude.{◌≡◌, ℕ, List, Bool, Option, Some, None, Result, Ok, Err}
use Rattle.kk_base.specs.declared.error.LexError.{LexError}
use Rattle.kk_base.specs.declared.error.LexError.TheVariants as OfLexError
use Rattle.kk_syntax.specs.declared.token.Keyword.{Keyword}
use Rattle.kk_syntax.specs.declared.token.Token.{Token}
use Rattle.kk_syntax.specs.declared.token.Token.TheVariants as OfToken
use Rattle.kk_lexer.specs.declared.lexeme.Lexeme.{Lexeme}
use Rattle.kk_lexer.specs.Lexemes.{Meaning, passed, kept, refused, BeginsWith}
use Rattle.kk_lexer.specs.Names.{keyword_spelling}

-- what becomes of a lexeme that can be read
abbrev pub meaning_of : Option Token → Meaning
meaning_of None = passed
meaning_of (Some token) = kept token

-- the text begins with the lexeme or the refusal that was answered, unless memory ran out
abbrev pub IsFirstLexeme : Bool → ℕ → List ℕ → Result Lexeme LexError → Type 0
IsFirstLexeme signed at text (Ok lexeme) = BeginsWith signed at text lexeme.length (meaning_of lexeme.token)
IsFirstLexeme signed at text (Err OfLexError.NoMemory) = Unit {0}
IsFirstLexeme signed at text (Err error) = (n : ℕ) × BeginsWith signed at text n (refused error)

-- a word that is spelled as a name is a keyword, or else a name
abbrev pub IsNameOrKeyword : List ℕ → Token → Type 0
IsNameOrKeyword word (OfToken.Name spelling) = (spelling ≡ word) × ((k : Keyword) → keyword_spelling k ≡ word → ⊥)
IsNameOrKeyword word (OfToken.Keyword k) = keyword_spelling k ≡ word
IsNameOrKeyword word _ = ⊥

-- an answer says that so many bytes have a meaning
abbrev pub AnswersMeaning : ℕ → Meaning → Result Lexeme LexError → Type 0
AnswersMeaning n meaning (Ok lexeme) = (lexeme.length ≡ n) × (meaning_of lexeme.token ≡ meaning)
AnswersMeaning n meaning (Err error) = refused error ≡ meaning
