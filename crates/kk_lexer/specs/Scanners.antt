-- What the private functions of this crate speak of, beside the definitions of how a text is read.
use Rattle.std.specs.Prelude.{◌≡◌, ℕ, ◌+◌, ◌*◌, ◌≤◌, List, [], ◌∷◌, Option, Some, None, Bool, true, false, not, ◌==◌, ◌||◌}
use Rattle.std.specs.Char.{is_ascii_alphanumeric}
use Rattle.kk_base.specs.declared.span.Span.{Span}
use Rattle.kk_syntax.specs.declared.token.LocatedToken.{LocatedToken}
use Rattle.kk_syntax.specs.declared.token.Symbol.{Symbol}
use Rattle.kk_syntax.specs.declared.token.Token.{Token}
use Rattle.kk_lexer.specs.Names.{is_name_character}
use Rattle.kk_lexer.specs.Numbers.{is_decimal_byte, is_hexadecimal, IsNumber}
use Rattle.kk_lexer.specs.Symbols.{symbol_spelling}

-- a name goes on, behind a byte, with the first of these bytes
abbrev pub name_goes_on : ℕ → List ℕ → Bool
name_goes_on before [] = false
name_goes_on before (b ∷ after) = is_name_character before b after

-- a decimal number goes on, behind a byte of it, with the first of these bytes
abbrev pub decimal_goes_on : List ℕ → Bool
decimal_goes_on [] = false
decimal_goes_on (b ∷ after) = is_decimal_byte b after

-- a word spells some number
abbrev pub IsSomeNumber : List ℕ → Type 0
IsSomeNumber word = (n : ℕ) × IsNumber word n

-- `0x` (48, 120) and hexadecimal digits
abbrev pub IsHexadecimalNumber : List ℕ → Type 0
IsHexadecimalNumber word = (digits : List ℕ) × (word ≡ 48 ∷ 120 ∷ digits) × (is_hexadecimal digits ≡ true)

-- a word is a symbol
abbrev pub IsSymbol : List ℕ → Type 0
IsSymbol word = (s : Symbol) × (symbol_spelling s ≡ word)

-- a byte begins nothing but symbols: it is no letter and no digit, nor `_` (95), `"` (34), `/` (47), `-` (45), a blank or a
-- line's end
abbrev pub begins_other : ℕ → Bool
begins_other b =
    not (is_ascii_alphanumeric b || (b == 95 || (b == 34 || (b == 47 || (b == 45 || (b == 32 || (b == 9 || (b == 13 || b == 10))))))))

-- a token at a place; of what is passed over there is none
abbrev pub located : Option Token → Span → List LocatedToken
located None place = []
located (Some token) place = record { token = token; span = place } ∷ []

-- what holds of each place of a text: a line and a column have their bytes before them
abbrev pub IsBounded : Span → Type 0
IsBounded p = (p.line ≤ p.at + 1) × (1 ≤ p.column) × (p.column ≤ 8 * p.at + 1)
