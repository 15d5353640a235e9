-- Expressions whose calls and constructors are by other numbers: their free variables stay.
use Rattle.std.proofs.Common.{◌≡◌, refl}
use Rattle.kk_syntax.specs.Patterns.{Pattern, anything, variable as pattern_variable, exactly, constructor, Patterns, no_part, part}
use Rattle.kk_syntax.specs.Shapes.{bound, bound_all, free, free_all, free_rows}
use Rattle.kk_syntax.specs.Trees.{Tree, Trees, Rows}
use Rattle.kk_mono.specs.Instances.{Renaming, renames, renamed, renamed_all, renamed_rows, renamed_pattern, renamed_patterns}
use Rattle.kk_syntax.proofs.Walks.{free_replaced, all_free_replaced, row_free_replaced}

mutual
  pub same_bound : (new : Renaming) (p : Pattern) → bound (renamed_pattern new p) ≡ bound p
  same_bound new anything = refl
  same_bound new (pattern_variable x) = refl
  same_bound new (exactly n) = refl
  same_bound new (constructor c parts) = same_all_bound new parts

  same_all_bound : (new : Renaming) (ps : Patterns) → bound_all (renamed_patterns new ps) ≡ bound_all ps
  same_all_bound new no_part = refl
  same_all_bound new (part first rest) = rw (same_bound new first, same_all_bound new rest) refl

module _ (new : Renaming) where
  pub same_free : (e : Tree) → free (renamed new e) ≡ free e
  same_free e = free_replaced renames same_bound new e

  pub same_free_all : (es : Trees) → free_all (renamed_all new es) ≡ free_all es
  same_free_all es = all_free_replaced renames same_bound new es

  pub same_free_rows : (rows : Rows) → free_rows (renamed_rows new rows) ≡ free_rows rows
  same_free_rows rows = row_free_replaced renames same_bound new rows
