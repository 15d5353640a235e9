-- The lexemes of a text: what is passed over, tokens, and what cannot be read.
use Rattle.std.specs.Prelude.{◌≡◌, ℕ, ◌+◌, ◌<◌, pos, neg_ℤ, List, [], ◌∷◌, ◌++◌, length, take, Bool, true, ◌==◌, ◌||◌, nat_lt, if◌then◌else◌, codes}
use Rattle.kk_base.specs.declared.error.LexError.{LexError}
use Rattle.kk_base.specs.declared.error.LexError.TheVariants.{BadByte, OpenComment, OpenString, NumberTooLarge, StringTooLong}
use Rattle.kk_base.specs.Limits.{greatest_string}
use Rattle.kk_syntax.specs.declared.token.Keyword.{Keyword}
use Rattle.kk_syntax.specs.declared.token.Symbol.{Symbol}
use Rattle.kk_syntax.specs.declared.token.Token.{Token}
use Rattle.kk_syntax.specs.declared.token.Token.TheVariants as OfToken
use Rattle.kk_lexer.specs.Comments.{is_within_line, Closes}
use Rattle.kk_lexer.specs.Fronts.{HasNoFront, IsLongest}
use Rattle.kk_lexer.specs.Names.{is_name, is_constructor_name, is_wildcard, keyword_spelling}
use Rattle.kk_lexer.specs.Numbers.{IsNumber, greatest_number, greatest_negative}
use Rattle.kk_lexer.specs.Strings.{IsInside}
use Rattle.kk_lexer.specs.Symbols.{symbol_spelling}

-- what becomes of a lexeme: it is passed over, it is a token, or it cannot be read
pub data Meaning : Type 0 where
  passed : Meaning
  kept : (token : Token) → Meaning
  refused : (error : LexError) → Meaning

-- a blank: byte 32, 9 (a tab) or 13; or byte 10, which ends a line
abbrev pub is_blank : ℕ → Bool
is_blank b = b == 32 || (b == 9 || (b == 13 || b == 10))

-- a number without a `-` has a greatest value
abbrev pub number_meaning : ℕ → ℕ → Meaning
number_meaning at n = if nat_lt greatest_number n then refused (NumberTooLarge at) else kept (OfToken.Number (pos n))

-- a number with a `-` has a greatest size
abbrev pub negative_meaning : ℕ → ℕ → Meaning
negative_meaning at n = if nat_lt greatest_negative n then refused (NumberTooLarge at) else kept (OfToken.Number (neg_ℤ (pos n)))

-- a string stands for a greatest number of bytes at most
abbrev pub string_meaning : ℕ → List ℕ → Meaning
string_meaning at bytes = if nat_lt greatest_string (length bytes) then refused (StringTooLong at) else kept (OfToken.String bytes)

-- A lexeme by its spelling. `at` is the place of its first byte, and `signed` says whether a `-` belongs to the number
-- directly behind it. The byte `-` is 45, `"` is 34 and `\` is 92. A comment or a string that is not closed and a string up to
-- a bad escape are lexemes too, so that the longest lexeme tells whether and where a text cannot be read.
pub data SpellsLexeme (signed : Bool) (at : ℕ) : List ℕ → Meaning → Type 0 where
  blank : (b : ℕ) → is_blank b ≡ true → SpellsLexeme signed at (b ∷ []) passed
  line_comment : (line : List ℕ) → is_within_line line ≡ true → SpellsLexeme signed at (codes "//" ++ line) passed
  comment : (inside : List ℕ) → Closes 1 inside → SpellsLexeme signed at (codes "/*" ++ inside) passed
  open_comment : SpellsLexeme signed at (codes "/*") (refused (OpenComment at))
  name : (word : List ℕ) → is_name word ≡ true → ((k : Keyword) → keyword_spelling k ≡ word → ⊥) → SpellsLexeme signed at word (kept (OfToken.Name word))
  keyword : (k : Keyword) → SpellsLexeme signed at (keyword_spelling k) (kept (OfToken.Keyword k))
  constructor_name : (word : List ℕ) → is_constructor_name word ≡ true → SpellsLexeme signed at word (kept (OfToken.Constructor word))
  wildcard : (word : List ℕ) → is_wildcard word ≡ true → SpellsLexeme signed at word (kept OfToken.Wildcard)
  number : (word : List ℕ) (n : ℕ) → IsNumber word n → SpellsLexeme signed at word (number_meaning at n)
  negative_number : (word : List ℕ) (n : ℕ) → signed ≡ true → IsNumber word n → SpellsLexeme signed at (45 ∷ word) (negative_meaning at n)
  string : (word bytes : List ℕ) → IsInside word bytes → SpellsLexeme signed at (34 ∷ word ++ 34 ∷ []) (string_meaning at bytes)
  open_string : (word bytes : List ℕ) → IsInside word bytes → SpellsLexeme signed at (34 ∷ word) (refused (OpenString at))
  bad_escape : (word bytes : List ℕ) → IsInside word bytes → SpellsLexeme signed at (34 ∷ word ++ 92 ∷ []) (refused (BadByte (at + 1 + length word)))
  symbol : (s : Symbol) → SpellsLexeme signed at (symbol_spelling s) (kept (OfToken.Symbol s))

-- a word is a lexeme
abbrev pub IsLexeme : Bool → ℕ → List ℕ → Type 0
IsLexeme signed at word = (meaning : Meaning) × SpellsLexeme signed at word meaning

-- What a text begins with, so many bytes: its longest front that is a lexeme; where none is, a byte that begins no token.
pub data BeginsWith (signed : Bool) (at : ℕ) (text : List ℕ) : ℕ → Meaning → Type 0 where
  lexeme : (n : ℕ) (meaning : Meaning) → IsLongest (IsLexeme signed at) text n → SpellsLexeme signed at (take n text) meaning → BeginsWith signed at text n meaning
  no_lexeme : 0 < length text → HasNoFront (IsLexeme signed at) text → BeginsWith signed at text 1 (refused (BadByte at))
