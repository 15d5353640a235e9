-- The rules that insert braces and semicolons. They read the kind, the line and the column of each token alone.
use Rattle.std.specs.Prelude.{ℕ, ◌+◌, ◌-◌, [], ◌∷◌, ◌++◌, length, count_by, Bool, true, false, not, ◌==◌, ◌&&◌, ◌||◌, nat_lt, if◌then◌else◌}
use Rattle.std.specs.List.{prefix_len}
use Rattle.kk_base.specs.declared.span.Span.{Span}
use Rattle.kk_syntax.specs.declared.token.LocatedToken.{LocatedToken}
use Rattle.kk_syntax.specs.declared.token.Symbol.TheVariants.{CloseBrace, Semicolon}
use Rattle.kk_syntax.specs.declared.token.Token.{Token}
use Rattle.kk_layout.specs.Blocks.{is_implicit, is_deeper, innermost_column}
use Rattle.kk_layout.specs.Kinds.{is_starter, is_ender, opens_bracket, closes_bracket, opens_block, closes_block}
use Rattle.kk_layout.specs.States.{State, with_blocks, without_innermost, inserted, closed, opened}
use Rattle.kk_layout.specs.declared.block.Block.TheVariants.{Explicit}

-- a token is the first of its line, by the token before it
abbrev pub begins_line : LocatedToken → LocatedToken → Bool
begins_line previous t = not (previous.span.line == t.span.line)

-- a line that begins with a token goes on with the line that ends with the token before it
abbrev pub continues : LocatedToken → LocatedToken → Bool
continues previous t = is_starter t.token || is_ender previous.token

-- what begins with a line that closed so many blocks: a block, if it closed none and is right of the innermost one; else the
-- next item of the innermost block
abbrev pub item : ℕ → Span → State → State
item closings place s =
    if closings == 0 && nat_lt (innermost_column s.base s.blocks) place.column then opened place s
    else inserted 1 Semicolon place s

-- A line closes the implicit blocks that it is left of, from the innermost on. Then an item begins, unless the line goes on
-- with the line before.
abbrev pub line_begun : Bool → Span → State → State
line_begun true place s = closed (prefix_len (is_deeper place.column) s.blocks) place s
line_begun false place s =
    item (prefix_len (is_deeper place.column) s.blocks) place (closed (prefix_len (is_deeper place.column) s.blocks) place s)

-- 1. The first token of a line begins it, outside of round brackets.
abbrev pub first_rule : LocatedToken → LocatedToken → State → State
first_rule previous t s =
    if begins_line previous t && s.brackets == 0 then line_begun (continues previous t) t.span s else s

-- If an explicit block is open, the implicit ones above the topmost explicit one are closed, and it is taken away.
abbrev pub explicit_closed : Span → State → State
explicit_closed place s =
    if nat_lt (prefix_len is_implicit s.blocks) (length s.blocks)
    then without_innermost (closed (prefix_len is_implicit s.blocks) place s)
    else s

-- 2. A `}` closes the topmost explicit block.
abbrev pub second_rule : LocatedToken → State → State
second_rule t s = if closes_block t.token then explicit_closed t.span s else s

-- 3. A `{` adds an explicit block, with the column of the token behind it.
abbrev pub third_rule : LocatedToken → ℕ → State → State
third_rule t column s = if opens_block t.token then with_blocks (Explicit column ∷ s.blocks) s else s

-- the number of open round brackets behind a token
abbrev pub brackets_behind : Token → ℕ → ℕ
brackets_behind token n = if opens_bracket token then n + 1 else (if closes_bracket token then n - 1 else n)

-- 4. The token is passed on.
abbrev pub fourth_rule : LocatedToken → State → State
fourth_rule t s = record s { laid = s.laid ++ t ∷ []; brackets = brackets_behind t.token s.brackets }

-- at the text's end a `}` is inserted for each implicit block
abbrev pub ended : Span → State → State
ended end s = inserted (count_by is_implicit s.blocks) CloseBrace end s
