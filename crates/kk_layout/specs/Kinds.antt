-- The kinds of tokens that the rules of layout tell apart.
use Rattle.std.specs.Prelude.{Bool, true, false}
use Rattle.kk_syntax.specs.declared.token.Keyword.TheVariants.{Then, Elif, Else}
use Rattle.kk_syntax.specs.declared.token.Symbol.{Symbol}
use Rattle.kk_syntax.specs.declared.token.Symbol.TheVariants.{OpenParenthesis, CloseParenthesis, OpenBrace, CloseBrace, Comma, Colon, Dot, Equals, Arrow, Plus, Minus, Star, Slash, Percent, EqualEqual, NotEqual, Less, LessEqual, Greater, GreaterEqual, AndAnd, OrOr}
use Rattle.kk_syntax.specs.declared.token.Token.{Token}
use Rattle.kk_syntax.specs.declared.token.Token.TheVariants as OfToken

-- an operator that stands between two operands
abbrev pub is_binary_operator : Symbol → Bool
is_binary_operator Plus = true
is_binary_operator Minus = true
is_binary_operator Star = true
is_binary_operator Slash = true
is_binary_operator Percent = true
is_binary_operator EqualEqual = true
is_binary_operator NotEqual = true
is_binary_operator Less = true
is_binary_operator LessEqual = true
is_binary_operator Greater = true
is_binary_operator GreaterEqual = true
is_binary_operator AndAnd = true
is_binary_operator OrOr = true
is_binary_operator s = false

-- a starter of continuation: a line that begins with it goes on with the line before
abbrev pub is_starter : Token → Bool
is_starter (OfToken.Keyword Then) = true
is_starter (OfToken.Keyword Elif) = true
is_starter (OfToken.Keyword Else) = true
is_starter (OfToken.Symbol CloseParenthesis) = true
is_starter (OfToken.Symbol Comma) = true
is_starter (OfToken.Symbol OpenBrace) = true
is_starter (OfToken.Symbol CloseBrace) = true
is_starter (OfToken.Symbol Arrow) = true
is_starter (OfToken.Symbol Equals) = true
is_starter (OfToken.Symbol Colon) = true
is_starter (OfToken.Symbol Dot) = true
is_starter (OfToken.Symbol s) = is_binary_operator s
is_starter t = false

-- an ender of continuation: the line behind it goes on with its line; `>` is none, since a type may end with it
abbrev pub is_ender : Token → Bool
is_ender (OfToken.Symbol OpenParenthesis) = true
is_ender (OfToken.Symbol Comma) = true
is_ender (OfToken.Symbol OpenBrace) = true
is_ender (OfToken.Symbol Dot) = true
is_ender (OfToken.Symbol Greater) = false
is_ender (OfToken.Symbol s) = is_binary_operator s
is_ender t = false

-- `(`
abbrev pub opens_bracket : Token → Bool
opens_bracket (OfToken.Symbol OpenParenthesis) = true
opens_bracket t = false

-- `)`
abbrev pub closes_bracket : Token → Bool
closes_bracket (OfToken.Symbol CloseParenthesis) = true
closes_bracket t = false

-- `{`
abbrev pub opens_block : Token → Bool
opens_block (OfToken.Symbol OpenBrace) = true
opens_block t = false

-- `}`
abbrev pub closes_block : Token → Bool
closes_block (OfToken.Symbol CloseBrace) = true
closes_block t = false
