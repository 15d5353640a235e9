-- Which positions are lent.
use Rattle.std.specs.Prelude.{ℕ, Bool, true, false, List, [], map, slice_index_or}
use Rattle.kk_syntax.specs.declared.positions.Ownership.{Ownership}
use Rattle.kk_syntax.specs.declared.positions.Ownership.TheVariants.{Owned, Lent}
use Rattle.kk_syntax.specs.declared.positions.Positions.{Positions}

-- by a function's number and a parameter's, how it is passed
abbrev pub PositionTable : Type 0
PositionTable = List (List Ownership)

abbrev pub positions_of : Positions → PositionTable
positions_of positions = map (λ parameters. parameters.items) positions.functions.items

-- each position is owned
abbrev pub all_owned : PositionTable
all_owned = []

abbrev pub lends : Ownership → Bool
lends Owned = false
lends Lent = true

-- whether a position is lent; one that is not told of is owned
abbrev pub is_lent : PositionTable → ℕ → ℕ → Bool
is_lent positions function parameter = lends (slice_index_or (slice_index_or positions function []) parameter Owned)
