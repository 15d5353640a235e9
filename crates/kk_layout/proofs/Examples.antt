-- The rules of layout at worked examples. Each text stands above its tokens.
use Rattle.std.proofs.Common.{◌≡◌, ℕ, List, [], ◌∷◌, map, refl}
use Rattle.std.specs.Prelude.{codes}
use Rattle.kk_base.specs.declared.span.Span.{Span}
use Rattle.kk_syntax.specs.declared.token.Keyword.{Keyword}
use Rattle.kk_syntax.specs.declared.token.Keyword.TheVariants.{If, Then, Else}
use Rattle.kk_syntax.specs.declared.token.LocatedToken.{LocatedToken}
use Rattle.kk_syntax.specs.declared.token.Symbol.{Symbol}
use Rattle.kk_syntax.specs.declared.token.Symbol.TheVariants.{OpenParenthesis, CloseParenthesis, OpenBrace, CloseBrace, Semicolon, Equals, Plus}
use Rattle.kk_syntax.specs.declared.token.Token.{Token}
use Rattle.kk_syntax.specs.declared.token.Token.TheVariants as OfToken
use Rattle.kk_layout.specs.Layouts.{laid_out_items}

abbrev place : ℕ → ℕ → Span
place line column = record { at = 0; line = line; column = column }

abbrev located : Token → ℕ → ℕ → LocatedToken
located token line column = record { token = token; span = place line column }

abbrev a : Token
a = OfToken.Name (codes "a")

abbrev b : Token
b = OfToken.Name (codes "b")

abbrev c : Token
c = OfToken.Name (codes "c")

abbrev d : Token
d = OfToken.Name (codes "d")

abbrev word : Keyword → Token
word k = OfToken.Keyword k

abbrev sign : Symbol → Token
sign s = OfToken.Symbol s

-- the kinds of the laid-out tokens; the text ends in line 9
abbrev laid : List LocatedToken → List Token
laid tokens = map (λ t. t.token) (laid_out_items (place 9 1) tokens)

-- a +
--   b
operator_at_the_end : laid (located a 1 1 ∷ located (sign Plus) 1 3 ∷ located b 2 3 ∷ []) ≡ a ∷ sign Plus ∷ b ∷ []
operator_at_the_end = refl

-- a
--   + b
-- c
operator_at_the_beginning : laid (located a 1 1 ∷ located (sign Plus) 2 3 ∷ located b 2 5 ∷ located c 3 1 ∷ [])
    ≡ a ∷ sign Plus ∷ b ∷ sign Semicolon ∷ c ∷ []
operator_at_the_beginning = refl

-- a =
--   b
-- c
block_behind_equals : laid (located a 1 1 ∷ located (sign Equals) 1 3 ∷ located b 2 3 ∷ located c 3 1 ∷ [])
    ≡ a ∷ sign Equals ∷ sign OpenBrace ∷ b ∷ sign CloseBrace ∷ sign Semicolon ∷ c ∷ []
block_behind_equals = refl

-- if a
--   then b
--   else c
-- d
else_on_its_own_line : laid (located (word If) 1 1 ∷ located a 1 4 ∷ located (word Then) 2 3 ∷ located b 2 8
    ∷ located (word Else) 3 3 ∷ located c 3 8 ∷ located d 4 1 ∷ [])
    ≡ word If ∷ a ∷ word Then ∷ b ∷ word Else ∷ c ∷ sign Semicolon ∷ d ∷ []
else_on_its_own_line = refl

-- a
--   b
--     c
-- d
two_blocks_closed : laid (located a 1 1 ∷ located b 2 3 ∷ located c 3 5 ∷ located d 4 1 ∷ [])
    ≡ a ∷ sign OpenBrace ∷ b ∷ sign OpenBrace ∷ c ∷ sign CloseBrace ∷ sign CloseBrace ∷ sign Semicolon ∷ d ∷ []
two_blocks_closed = refl

-- a
--   b
--   c
items_of_a_block : laid (located a 1 1 ∷ located b 2 3 ∷ located c 3 3 ∷ [])
    ≡ a ∷ sign OpenBrace ∷ b ∷ sign Semicolon ∷ c ∷ sign CloseBrace ∷ []
items_of_a_block = refl

-- a(
--   b
-- c
-- )
-- d
brackets_over_lines : laid (located a 1 1 ∷ located (sign OpenParenthesis) 1 2 ∷ located b 2 3 ∷ located c 3 1
    ∷ located (sign CloseParenthesis) 4 1 ∷ located d 5 1 ∷ [])
    ≡ a ∷ sign OpenParenthesis ∷ b ∷ c ∷ sign CloseParenthesis ∷ sign Semicolon ∷ d ∷ []
brackets_over_lines = refl

-- a
--   b {
--     c
--   }
-- d
explicit_within_implicit : laid (located a 1 1 ∷ located b 2 3 ∷ located (sign OpenBrace) 2 5 ∷ located c 3 5
    ∷ located (sign CloseBrace) 4 3 ∷ located d 5 1 ∷ [])
    ≡ a ∷ sign OpenBrace ∷ b ∷ sign OpenBrace ∷ c ∷ sign CloseBrace ∷ sign CloseBrace ∷ sign Semicolon ∷ d ∷ []
explicit_within_implicit = refl

-- { a
--     b }
implicit_within_explicit : laid (located (sign OpenBrace) 1 1 ∷ located a 1 3 ∷ located b 2 5 ∷ located (sign CloseBrace) 2 7 ∷ [])
    ≡ sign OpenBrace ∷ a ∷ sign OpenBrace ∷ b ∷ sign CloseBrace ∷ sign CloseBrace ∷ []
implicit_within_explicit = refl

-- a
--   b
-- What is inserted stands at the token behind it, or at the text's end.
places_of_a_block : laid_out_items (place 3 1) (located a 1 1 ∷ located b 2 3 ∷ [])
    ≡ located a 1 1 ∷ located (sign OpenBrace) 2 3 ∷ located b 2 3 ∷ located (sign CloseBrace) 3 1 ∷ []
places_of_a_block = refl
