-- How far the layout of a text has come, and what the rules do to it.
use Rattle.std.specs.Prelude.{ℕ, List, ◌∷◌, [], ◌++◌, replicate, drop}
use Rattle.kk_base.specs.declared.span.Span.{Span}
use Rattle.kk_syntax.specs.declared.token.LocatedToken.{LocatedToken}
use Rattle.kk_syntax.specs.declared.token.Symbol.{Symbol}
use Rattle.kk_syntax.specs.declared.token.Symbol.TheVariants.{OpenBrace, CloseBrace}
use Rattle.kk_syntax.specs.declared.token.Token.TheVariants as OfToken
use Rattle.kk_layout.specs.declared.block.Block.{Block}
use Rattle.kk_layout.specs.declared.block.Block.TheVariants.{Implicit}

pub record State : Type 0 where
  -- the tokens so far, those that were inserted among them
  pub laid : List LocatedToken
  -- the column of the base
  pub base : ℕ
  -- the blocks above the base, the innermost first
  pub blocks : List Block
  -- the number of open round brackets
  pub brackets : ℕ

-- at the first token of a text, which stands at this column
abbrev pub start : ℕ → State
start column = record { laid = []; base = column; blocks = []; brackets = 0 }

-- a symbol at a place
abbrev pub symbol_at : Symbol → Span → LocatedToken
symbol_at symbol place = record { token = OfToken.Symbol symbol; span = place }

abbrev pub with_blocks : List Block → State → State
with_blocks blocks s = record s { blocks = blocks }

abbrev pub without_innermost : State → State
without_innermost s = with_blocks (drop 1 s.blocks) s

-- a symbol is inserted so many times, at a place
abbrev pub inserted : ℕ → Symbol → Span → State → State
inserted n symbol place s = record s { laid = s.laid ++ replicate n (symbol_at symbol place) }

-- the n innermost blocks are taken away, and a `}` is inserted for each
abbrev pub closed : ℕ → Span → State → State
closed n place s = with_blocks (drop n s.blocks) (inserted n CloseBrace place s)

-- a `{` is inserted, and an implicit block added with the column of its place
abbrev pub opened : Span → State → State
opened place s = with_blocks (Implicit place.column ∷ s.blocks) (inserted 1 OpenBrace place s)
