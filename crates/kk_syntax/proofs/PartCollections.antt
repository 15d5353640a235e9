-- What is gathered from lists of expressions, from rows and from a block is that of their parts, one behind the other.
use Rattle.std.proofs.Common.{◌≡◌, List, [], ◌∷◌, ◌++◌, refl, ap, sym, ◌∙◌, append_assoc}
use Rattle.std.specs.List.{flat_map}
use Rattle.kk_syntax.specs.Shapes.{Gathers, gathered, gathered_all, gathered_rows}
use Rattle.kk_syntax.specs.Trees.{Tree, trees_of, RowTree, row_parts, pattern_of_row, body_of_row, rows_of, StatementTree, block_of}

module _ {A : Type 0} (from : Gathers A) where
  pub gathered_each : (es : List Tree) → gathered_all from (trees_of es) ≡ flat_map (gathered from) es
  gathered_each [] = refl
  gathered_each (e ∷ es) = ap (λ (l : List A). gathered from e ++ l) (gathered_each es)

  pub gathered_each_row : (rs : List RowTree) → gathered_rows from (rows_of rs) ≡ flat_map (λ r. from.at_pattern (pattern_of_row r) ++ gathered from (body_of_row r)) rs
  gathered_each_row [] = refl
  gathered_each_row (row_parts pattern body ∷ rs) =
      ap (λ (l : List A). (from.at_pattern pattern ++ gathered from body) ++ l) (gathered_each_row rs)

  pub gathered_block : (ss : List StatementTree) (last : Tree) → gathered from (block_of ss last) ≡ flat_map (λ s. gathered from s.value) ss ++ gathered from last
  gathered_block [] last = refl
  gathered_block (s ∷ ss) last =
      ap (λ (l : List A). gathered from s.value ++ l) (gathered_block ss last)
      ∙ sym (append_assoc (gathered from s.value) (flat_map (λ s. gathered from s.value) ss) (gathered from last))
