-- How deep expressions are in memory, as a text spells them and as a program has them: a part is one deeper than what it
-- stands in, and each block counts, also one without statements. So deep goes a recursion over them.
use Rattle.std.specs.Prelude.{ℕ, ◌+◌, max, List, [], ◌∷◌, Some, None}
use Rattle.kk_syntax.specs.declared.tree.SurfaceExpr.{SurfaceExpr}
use Rattle.kk_syntax.specs.declared.tree.SurfaceExpr.TheOpen as OfSurface
use Rattle.kk_syntax.specs.declared.tree.SurfaceExpr.TheFolds.{fold-SurfaceExpr, fold-SurfaceRow, fold-SurfaceStatement}
use Rattle.kk_syntax.specs.declared.tree.SurfaceRow.{SurfaceRow}
use Rattle.kk_syntax.specs.declared.tree.SurfaceStatement.{SurfaceStatement}
use Rattle.kk_syntax.specs.declared.tree.Declaration.{Declaration}
use Rattle.kk_syntax.specs.declared.tree.Declaration.TheVariants as OfDeclaration
use Rattle.kk_syntax.specs.declared.program.Expr.{Expr}
use Rattle.kk_syntax.specs.declared.program.Expr.TheOpen as OfExpr
use Rattle.kk_syntax.specs.declared.program.Expr.TheFolds.{fold-Expr, fold-Row, fold-Statement}
use Rattle.kk_syntax.specs.declared.program.Row.{Row}
use Rattle.kk_syntax.specs.declared.program.Statement.{Statement}
use Rattle.kk_syntax.specs.Patterns as program
use Rattle.kk_syntax.specs.Patterns.{Pattern, Patterns, pattern_tree}
use Rattle.kk_syntax.specs.Surface.{WrittenPattern, anything, pattern_variable, exactly, constructor, WrittenPatterns, no_part, part, written_pattern}

-- the greatest of some depths
abbrev pub deepest : List ℕ → ℕ
deepest [] = 0
deepest (n ∷ ns) = max n (deepest ns)

-- ---- as a text spells it

abbrev mutual
  pub pattern_depth : WrittenPattern → ℕ
  pattern_depth anything = 1
  pattern_depth (pattern_variable name) = 1
  pattern_depth (exactly value) = 1
  pattern_depth (constructor name parts) = patterns_depth parts + 1

  pub patterns_depth : WrittenPatterns → ℕ
  patterns_depth no_part = 0
  patterns_depth (part first rest) = max (pattern_depth first) (patterns_depth rest)

-- the depth of an expression, a row and a statement, those of their parts given
abbrev pub surface_step : OfSurface.SurfaceExpr-F ℕ ℕ ℕ → ℕ
surface_step (OfSurface.Number value) = 1
surface_step OfSurface.Unit = 1
surface_step (OfSurface.Variable name) = 1
surface_step (OfSurface.Call name arguments) = deepest arguments.items + 1
surface_step (OfSurface.DotCall first name others) = max first.value (deepest others.items) + 1
surface_step (OfSurface.Construct name arguments) = deepest arguments.items + 1
surface_step (OfSurface.Unary operator operand) = operand.value + 1
surface_step (OfSurface.Binary operator left right) = max left.value right.value + 1
surface_step (OfSurface.And left right) = max left.value right.value + 1
surface_step (OfSurface.Or left right) = max left.value right.value + 1
surface_step (OfSurface.PrintText form text) = 1
surface_step (OfSurface.If condition positive None) = max condition.value positive.value + 1
surface_step (OfSurface.If condition positive (Some negative)) = max condition.value (max positive.value negative.value) + 1
surface_step (OfSurface.Match scrutinee rows) = max scrutinee.value (deepest rows.items) + 1
surface_step (OfSurface.Block statements value) = max (deepest statements.items) value.value + 1

abbrev pub surface_row_step : OfSurface.SurfaceRow-F ℕ ℕ ℕ → ℕ
surface_row_step r = max (pattern_depth (written_pattern r.pattern)) r.body

abbrev pub surface_statement_step : OfSurface.SurfaceStatement-F ℕ ℕ ℕ → ℕ
surface_statement_step s = s.value

abbrev pub surface_depth : SurfaceExpr → ℕ
surface_depth = fold-SurfaceExpr ℕ ℕ ℕ surface_step surface_row_step surface_statement_step

abbrev pub surface_row_depth : SurfaceRow → ℕ
surface_row_depth = fold-SurfaceRow ℕ ℕ ℕ surface_step surface_row_step surface_statement_step

abbrev pub surface_statement_depth : SurfaceStatement → ℕ
surface_statement_depth = fold-SurfaceStatement ℕ ℕ ℕ surface_step surface_row_step surface_statement_step

-- the depth of a declaration is that of its body
abbrev pub body_depth : Declaration → ℕ
body_depth (OfDeclaration.Type d) = 0
body_depth (OfDeclaration.Function d) = surface_depth d.body

-- ---- as a program has it

abbrev mutual
  pub depth_of_pattern : Pattern → ℕ
  depth_of_pattern program.anything = 1
  depth_of_pattern (program.variable of) = 1
  depth_of_pattern (program.exactly value) = 1
  depth_of_pattern (program.constructor by parts) = depth_of_patterns parts + 1

  pub depth_of_patterns : Patterns → ℕ
  depth_of_patterns program.no_part = 0
  depth_of_patterns (program.part first rest) = max (depth_of_pattern first) (depth_of_patterns rest)

-- the depth of an expression, a row and a statement, those of their parts given
abbrev pub depth_step : OfExpr.Expr-F ℕ ℕ ℕ → ℕ
depth_step (OfExpr.Variable of) = 1
depth_step (OfExpr.Apply form arguments) = deepest arguments.items + 1
depth_step (OfExpr.If condition positive negative) = max condition.value (max positive.value negative.value) + 1
depth_step (OfExpr.Match scrutinee rows) = max scrutinee.value (deepest rows.items) + 1
depth_step (OfExpr.Block statements value) = max (deepest statements.items) value.value + 1

abbrev pub row_depth_step : OfExpr.Row-F ℕ ℕ ℕ → ℕ
row_depth_step r = max (depth_of_pattern (pattern_tree r.pattern)) r.body

abbrev pub statement_depth_step : OfExpr.Statement-F ℕ ℕ ℕ → ℕ
statement_depth_step s = s.value

abbrev pub depth_of : Expr → ℕ
depth_of = fold-Expr ℕ ℕ ℕ depth_step row_depth_step statement_depth_step

abbrev pub depth_of_row : Row → ℕ
depth_of_row = fold-Row ℕ ℕ ℕ depth_step row_depth_step statement_depth_step

abbrev pub depth_of_statement : Statement → ℕ
depth_of_statement = fold-Statement ℕ ℕ ℕ depth_step row_depth_step statement_depth_step
