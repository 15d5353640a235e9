-- What a text is read as: its tokens, or why it has none.
use Rattle.std.specs.Prelude.{ℕ, ◌-◌, List, [], ◌∷◌, ◌++◌, length, take, drop, slice_get, Bool, true, false, not, ◌==◌, ◌||◌, Option, Some, None, Result, Ok, Err}
use Rattle.kk_base.specs.declared.error.LexError.{LexError}
use Rattle.kk_base.specs.declared.error.LexError.TheVariants as OfLexError
use Rattle.kk_base.specs.declared.span.Span.{Span}
use Rattle.kk_base.specs.Exactly.{IsOnly, ExactlyOne}
use Rattle.kk_syntax.specs.declared.token.LocatedToken.{LocatedToken}
use Rattle.kk_syntax.specs.declared.token.Symbol.TheVariants.{CloseParenthesis, CloseBrace}
use Rattle.kk_syntax.specs.declared.token.Token.{Token}
use Rattle.kk_syntax.specs.declared.token.Token.TheVariants as OfToken
use Rattle.kk_syntax.specs.Places.{start, place_behind}
use Rattle.kk_syntax.specs.TokenList.{TokenList}
use Rattle.kk_lexer.specs.Lexemes.{passed, kept, refused, BeginsWith}

-- the tokens that can end what stands before an operator, so that a `-` behind one of them is an operator
abbrev pub ends_operand : Token → Bool
ends_operand (OfToken.Name name) = true
ends_operand (OfToken.Constructor name) = true
ends_operand OfToken.Wildcard = true
ends_operand (OfToken.Number n) = true
ends_operand (OfToken.String bytes) = true
ends_operand (OfToken.Keyword k) = false
ends_operand (OfToken.Symbol CloseParenthesis) = true
ends_operand (OfToken.Symbol CloseBrace) = true
ends_operand (OfToken.Symbol s) = false

-- a `-` on a line belongs to a number directly behind it, by the token before it: that one ends no operand, or the `-` is the
-- first token of its line
abbrev pub is_sign_behind : Option LocatedToken → ℕ → Bool
is_sign_behind None line = true
is_sign_behind (Some previous) line = not (previous.span.line == line) || not (ends_operand previous.token)

-- the same, by all tokens before it
abbrev pub is_sign : List LocatedToken → ℕ → Bool
is_sign before line = is_sign_behind (slice_get before (length before - 1)) line

-- a token list, or a refusal
abbrev pub Outcome : Type 0
Outcome = Result TokenList LexError

-- a text that stands at a place, with these tokens before it, is read as an outcome: from place to place, what it begins with is
-- passed over, kept as a token, or refused
pub data ReadsText : List LocatedToken → Span → List ℕ → Outcome → Type 0 where
  ends : (before : List LocatedToken) (place : Span) → ReadsText before place [] (Ok (record { items = before; end = place }))
  passes : (before : List LocatedToken) (place : Span) (text : List ℕ) (n : ℕ) (outcome : Outcome) → BeginsWith (is_sign before place.line) place.at text n passed
      → ReadsText before (place_behind place (take n text)) (drop n text) outcome → ReadsText before place text outcome
  keeps : (before : List LocatedToken) (place : Span) (text : List ℕ) (n : ℕ) (token : Token) (outcome : Outcome) → BeginsWith (is_sign before place.line) place.at text n (kept token)
      → ReadsText (before ++ record { token = token; span = place } ∷ []) (place_behind place (take n text)) (drop n text) outcome → ReadsText before place text outcome
  refuses : (before : List LocatedToken) (place : Span) (text : List ℕ) (n : ℕ) (error : LexError) → BeginsWith (is_sign before place.line) place.at text n (refused error)
      → ReadsText before place text (Err error)

-- the outcome of a whole text
abbrev pub IsReadAs : List ℕ → Outcome → Type 0
IsReadAs text outcome = ReadsText [] start text outcome

-- the reading of a text: there is no other
abbrev pub IsReading : List ℕ → Outcome → Type 0
IsReading text outcome = IsOnly (IsReadAs text) outcome

-- each text has exactly one reading: its tokens, or a first lexeme that cannot be read, which is no want of memory
abbrev pub EachTextIsRead : Type 0
EachTextIsRead = (text : List ℕ) → ExactlyOne (IsReadAs text) × (IsReadAs text (Err OfLexError.NoMemory) → ⊥)

-- a fact of an outcome, unless memory ran out
abbrev pub UnlessNoMemory : Outcome → (Outcome → Type 0) → Type 0
UnlessNoMemory (Ok list) P = P (Ok list)
UnlessNoMemory (Err OfLexError.NoMemory) P = Unit {0}
UnlessNoMemory (Err error) P = P (Err error)
