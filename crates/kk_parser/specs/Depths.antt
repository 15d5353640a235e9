-- How deep the trees of a program are, how deep they may be within some levels of nesting, and when an expression is no
-- deeper in memory.
use Rattle.std.specs.Prelude.{ℕ, ◌+◌, ◌*◌, ◌-◌, ◌/◌, ◌≤◌, max, List, All, IfSome}
use Rattle.kk_syntax.specs.declared.tree.SurfaceExpr.{SurfaceExpr}
use Rattle.kk_syntax.specs.declared.tree.SurfaceRow.{SurfaceRow}
use Rattle.kk_syntax.specs.declared.tree.SurfaceStatement.{SurfaceStatement}
use Rattle.kk_syntax.specs.declared.tree.Declaration.{Declaration}
use Rattle.kk_syntax.specs.declared.tree.Declaration.TheVariants as OfDeclaration
use Rattle.kk_syntax.specs.Depths.{surface_depth}
pub use Rattle.kk_syntax.specs.Depths.{pattern_depth, patterns_depth}
use Rattle.kk_syntax.specs.Surface.{written_expr, WrittenType, unit_type, type_variable, named, WrittenTypes, no_type, type, Written, number, unit, variable, call, dot_call, construct, unary, binary, both, either, print_text, branch, branch_alone, match, sequence, Writtens, no_written, written, WrittenRows, no_row, row, WrittenDeclaration, type_declaration, function_declaration}

abbrev mutual
  pub type_depth : WrittenType → ℕ
  type_depth unit_type = 1
  type_depth (type_variable name) = 1
  type_depth (named name arguments) = types_depth arguments + 1

  pub types_depth : WrittenTypes → ℕ
  types_depth no_type = 0
  types_depth (type first rest) = max (type_depth first) (types_depth rest)

-- how deep what stands behind a statement makes its block, from its own depth: more statements are of the same block
abbrev pub with_rest : Written → ℕ → ℕ
with_rest (sequence binder first rest) depth = depth
with_rest _ depth = depth + 1

-- the statements of a block, and the expression behind them, stand side by side, one deeper than the block
abbrev mutual
  pub written_depth : Written → ℕ
  written_depth (number value) = 1
  written_depth unit = 1
  written_depth (variable name) = 1
  written_depth (call name arguments) = writtens_depth arguments + 1
  written_depth (dot_call first name others) = max (written_depth first) (writtens_depth others) + 1
  written_depth (construct name arguments) = writtens_depth arguments + 1
  written_depth (unary operator operand) = written_depth operand + 1
  written_depth (binary operator left right) = max (written_depth left) (written_depth right) + 1
  written_depth (both left right) = max (written_depth left) (written_depth right) + 1
  written_depth (either left right) = max (written_depth left) (written_depth right) + 1
  written_depth (print_text form text) = 1
  written_depth (branch condition positive negative) = max (written_depth condition) (max (written_depth positive) (written_depth negative)) + 1
  written_depth (branch_alone condition positive) = max (written_depth condition) (written_depth positive) + 1
  written_depth (match scrutinee rows) = max (written_depth scrutinee) (rows_depth rows) + 1
  written_depth (sequence binder first rest) = max (written_depth first + 1) (with_rest rest (written_depth rest))

  pub writtens_depth : Writtens → ℕ
  writtens_depth no_written = 0
  writtens_depth (written first rest) = max (written_depth first) (writtens_depth rest)

  pub rows_depth : WrittenRows → ℕ
  rows_depth no_row = 0
  rows_depth (row pattern body rest) = max (pattern_depth pattern) (max (written_depth body) (rows_depth rest))

-- The trees of a declaration are as shallow as text with so many open levels makes them. Each argument list of a type
-- opens a level. So does each operator and each call of an expression; but the levels of an argument end with it, and its
-- call may be the first operand of a chain of operators, which open levels anew.
abbrev pub IsShallow : ℕ → WrittenDeclaration → Type 0
IsShallow levels (type_declaration name parameters constructors) = All (λ c. All (λ field. type_depth field.of_type ≤ levels) c.fields) constructors
IsShallow levels (function_declaration name parameters effects result body) = All (λ p. type_depth p.of_type ≤ levels) parameters × IfSome result (λ t. type_depth t ≤ levels) × (2 * written_depth body ≤ levels * (levels - 1) + 2)

-- ---- in memory

-- an expression is no deeper in memory than the expression that it stands for
abbrev pub IsNoDeeper : SurfaceExpr → Type 0
IsNoDeeper e = surface_depth e ≤ written_depth (written_expr e)

abbrev pub AreNoDeeper : List SurfaceExpr → Type 0
AreNoDeeper es = All IsNoDeeper es

abbrev pub RowsAreNoDeeper : List SurfaceRow → Type 0
RowsAreNoDeeper rows = All (λ r. IsNoDeeper r.body) rows

abbrev pub StatementsAreNoDeeper : List SurfaceStatement → Type 0
StatementsAreNoDeeper statements = All (λ s. IsNoDeeper s.value) statements

abbrev pub BodyIsNoDeeper : Declaration → Type 0
BodyIsNoDeeper (OfDeclaration.Type d) = Unit {0}
BodyIsNoDeeper (OfDeclaration.Function d) = IsNoDeeper d.body

-- the most levels of nesting that may be open at once, which is a limit of the language
abbrev pub most_levels : ℕ
most_levels = 200

-- how deep the body of a function is at most within these levels
abbrev pub deepest_body : ℕ
deepest_body = most_levels * (most_levels - 1) / 2 + 1
