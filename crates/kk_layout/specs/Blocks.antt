-- The blocks that are open at a place of a text, above the base.
use Rattle.std.specs.Prelude.{ℕ, List, [], ◌∷◌, Bool, true, false, nat_lt}
use Rattle.kk_layout.specs.declared.block.Block.{Block}
use Rattle.kk_layout.specs.declared.block.Block.TheVariants.{Implicit, Explicit}

abbrev pub column_of : Block → ℕ
column_of (Implicit column) = column
column_of (Explicit column) = column

abbrev pub is_implicit : Block → Bool
is_implicit (Implicit column) = true
is_implicit (Explicit column) = false

-- a block is implicit, and a line at this column is left of it
abbrev pub is_deeper : ℕ → Block → Bool
is_deeper column (Implicit own) = nat_lt column own
is_deeper column (Explicit own) = false

-- the column of the innermost block, which stands first; where there is none, that of the base
abbrev pub innermost_column : ℕ → List Block → ℕ
innermost_column base [] = base
innermost_column base (block ∷ blocks) = column_of block
