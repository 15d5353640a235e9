-- What bounds the expressions of a program.
use Rattle.std.proofs.Common.{ℕ, ◌≤◌, List, [], ◌∷◌, ◌++◌}
use Rattle.kk_syntax.specs.Covered.{Each}
use Rattle.kk_syntax.specs.Programs.{ConstructorTree}
use Rattle.kk_syntax.specs.Shapes.{Gathers, gathered, gathered_all, gathered_rows}
use Rattle.kk_syntax.specs.Trees.{Tree, Trees, tree, Rows}
use Rattle.kk_syntax.proofs.Elements.{each_parts}
use Rattle.kk_norm.specs.OpenedCells.{openings}

-- The constructors of a program; no body has more nodes than `most`, and no pattern opens more cells than `cells`.
pub record Bounds : Type 0 where
  pub constructors : List ConstructorTree
  pub most : ℕ
  pub cells : ℕ

-- how many cells each pattern of an expression opens
abbrev pub gathers_openings : Gathers ℕ
gathers_openings = record { at_form = λ form. []; at_rows = λ rows. []; at_pattern = λ pattern. openings pattern ∷ [] }

-- none of them opens more
abbrev pub AreFew : Bounds → List ℕ → Type 0
AreFew given = Each (λ n. n ≤ given.cells)

abbrev pub OpensAtMost : Bounds → Tree → Type 0
OpensAtMost given e = AreFew given (gathered gathers_openings e)

abbrev pub AllOpenAtMost : Bounds → Trees → Type 0
AllOpenAtMost given es = AreFew given (gathered_all gathers_openings es)

abbrev pub RowsOpenAtMost : Bounds → Rows → Type 0
RowsOpenAtMost given rows = AreFew given (gathered_rows gathers_openings rows)

-- what is so of the whole is so of its parts
pub of_parts : (given : Bounds) (e other : Tree) → AreFew given (gathered gathers_openings e ++ gathered gathers_openings other)
    → OpensAtMost given e × OpensAtMost given other
of_parts given e other = each_parts (λ n. n ≤ given.cells) (gathered gathers_openings e) (gathered gathers_openings other)

pub of_first : (given : Bounds) (e : Tree) (es : Trees) → AllOpenAtMost given (tree e es) → OpensAtMost given e
    × AllOpenAtMost given es
of_first given e es = each_parts (λ n. n ≤ given.cells) (gathered gathers_openings e) (gathered_all gathers_openings es)

pub of_match : (given : Bounds) (e : Tree) (rows : Rows) → AreFew given
    (gathered gathers_openings e ++ gathered_rows gathers_openings rows)
    → OpensAtMost given e × RowsOpenAtMost given rows
of_match given e rows = each_parts (λ n. n ≤ given.cells) (gathered gathers_openings e) (gathered_rows gathers_openings rows)
