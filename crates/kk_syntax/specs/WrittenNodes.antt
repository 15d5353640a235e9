-- The nodes of an expression as it is written: those of the expression that it means.
use Rattle.std.specs.Prelude.{ℕ, ◌+◌}
use Rattle.kk_syntax.specs.declared.tree.SurfaceBinder.{SurfaceBinder}
use Rattle.kk_syntax.specs.declared.tree.SurfaceBinder.TheVariants as OfBinder
use Rattle.kk_syntax.specs.Surface.{WrittenPattern, anything, pattern_variable, exactly, constructor, WrittenPatterns, no_part, part, Written, number, unit, variable, call, dot_call, construct, unary, binary, both, either, print_text, branch, branch_alone, match, sequence, Writtens, no_written, written, WrittenRows, no_row, row, WrittenDeclaration, type_declaration, function_declaration}

abbrev mutual
  pub pattern_nodes : WrittenPattern → ℕ
  pattern_nodes anything = 1
  pattern_nodes (pattern_variable name) = 1
  pattern_nodes (exactly value) = 1
  pattern_nodes (constructor name parts) = patterns_nodes parts + 1

  pub patterns_nodes : WrittenPatterns → ℕ
  patterns_nodes no_part = 0
  patterns_nodes (part first rest) = pattern_nodes first + patterns_nodes rest

abbrev pub binder_nodes : SurfaceBinder → ℕ
binder_nodes OfBinder.Nothing = 0
binder_nodes OfBinder.Wildcard = 1
binder_nodes (OfBinder.Variable name) = 1

-- `a && b` and `a || b` are an `if` with a constructor in one branch, and a missing `else` is a `()`
abbrev mutual
  pub written_nodes : Written → ℕ
  written_nodes (number value) = 1
  written_nodes unit = 1
  written_nodes (variable name) = 1
  written_nodes (call name arguments) = writtens_nodes arguments + 1
  written_nodes (dot_call first name others) = written_nodes first + writtens_nodes others + 1
  written_nodes (construct name arguments) = writtens_nodes arguments + 1
  written_nodes (unary operator operand) = written_nodes operand + 1
  written_nodes (binary operator left right) = written_nodes left + written_nodes right + 1
  written_nodes (both left right) = written_nodes left + written_nodes right + 2
  written_nodes (either left right) = written_nodes left + written_nodes right + 2
  written_nodes (print_text form text) = 1
  written_nodes (branch condition positive negative) = written_nodes condition + written_nodes positive + written_nodes negative + 1
  written_nodes (branch_alone condition positive) = written_nodes condition + written_nodes positive + 2
  written_nodes (match scrutinee rows) = written_nodes scrutinee + rows_nodes rows + 1
  written_nodes (sequence binder first rest) = binder_nodes binder + written_nodes first + written_nodes rest

  pub writtens_nodes : Writtens → ℕ
  writtens_nodes no_written = 0
  writtens_nodes (written first rest) = written_nodes first + writtens_nodes rest

  pub rows_nodes : WrittenRows → ℕ
  rows_nodes no_row = 0
  rows_nodes (row pattern body rest) = pattern_nodes pattern + written_nodes body + rows_nodes rest

-- the nodes of a declaration are those of its body
abbrev pub nodes_in : WrittenDeclaration → ℕ
nodes_in (type_declaration name parameters constructors) = 0
nodes_in (function_declaration name parameters effects result body) = written_nodes body
