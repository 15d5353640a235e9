-- What an expression means. Where a name has a fault, the meaning is of no account: `()`, `_` for a pattern, or the form of
-- that name with the arguments that it is given.
use Rattle.std.specs.Prelude.{ℕ, length, Option, Some, None}
use Rattle.kk_syntax.specs.declared.program.Form.{Form}
use Rattle.kk_syntax.specs.declared.program.Form.TheVariants.{Number, Unit as Nothing, PrintText, Unary, Binary, Construct}
use Rattle.kk_syntax.specs.Patterns as pattern
use Rattle.kk_syntax.specs.Patterns.{Pattern, Patterns}
use Rattle.kk_syntax.specs.Surface.{WrittenPattern, anything, pattern_variable, exactly, constructor, WrittenPatterns, no_part, part, Written, number, unit, variable, call, dot_call, construct, unary, binary, both, either, print_text, branch, branch_alone, match, sequence, Writtens, no_written, written, WrittenRows, no_row, row}
use Rattle.kk_syntax.specs.Trees as program
use Rattle.kk_names.specs.declared.table.Callee.{Callee}
use Rattle.kk_names.specs.Scopes.{Scope, number_in, with_binder, binder_of, in_row, Before, past_binder, past_pattern, past}
use Rattle.kk_names.specs.Tables.{Known, meaning_in}

-- a form without arguments
abbrev pub alone : Form → program.Tree
alone form = program.apply form program.no_tree

abbrev pub variable_or_unit : Option ℕ → program.Tree
variable_or_unit None = alone Nothing
variable_or_unit (Some by) = program.variable by

abbrev pub applied : Option Callee → program.Trees → program.Tree
applied None arguments = alone Nothing
applied (Some callee) arguments = program.apply callee.form arguments

-- the pattern of a constructor's form
abbrev pub pattern_of : Form → Patterns → Pattern
pattern_of (Construct by) parts = pattern.constructor by parts
pattern_of _ parts = pattern.anything

abbrev pub constructed : Option Callee → Patterns → Pattern
constructed None parts = pattern.anything
constructed (Some callee) parts = pattern_of callee.form parts

-- the meaning of a pattern: its variables go by the number of those before them
abbrev mutual
  pub pattern_meant : Known → Before → WrittenPattern → Pattern
  pattern_meant known before anything = pattern.anything
  pattern_meant known before (pattern_variable name) = pattern.variable before.variables
  pattern_meant known before (exactly value) = pattern.exactly value
  pattern_meant known before (constructor name parts) = constructed (meaning_in known.constructors name.name) (parts_meant known before parts)

  pub parts_meant : Known → Before → WrittenPatterns → Patterns
  parts_meant known before no_part = pattern.no_part
  parts_meant known before (part first rest) = pattern.part (pattern_meant known before first) (parts_meant known (past_pattern first before) rest)

-- The meaning of an expression, where those names are known, those variables are seen, and that stands before it. A
-- variable goes by the number of those before it, and so does a string literal.
abbrev mutual
  pub meant : Known → Scope → Before → Written → program.Tree
  meant known scope before (number value) = alone (Number value)
  meant known scope before unit = alone Nothing
  meant known scope before (variable name) = variable_or_unit (number_in scope name.name)
  meant known scope before (call name arguments) =
      applied (meaning_in known.functions name.name) (meant_all known scope before arguments)
  meant known scope before (dot_call first name others) =
      applied (meaning_in known.functions name.name) (program.tree (meant known scope before first) (meant_all known scope (past first before) others))
  meant known scope before (construct name arguments) =
      applied (meaning_in known.constructors name.name) (meant_all known scope before arguments)
  meant known scope before (unary operator operand) =
      program.apply (Unary operator) (program.tree (meant known scope before operand) program.no_tree)
  meant known scope before (binary operator left right) =
      program.apply (Binary operator) (program.tree (meant known scope before left) (program.tree (meant known scope (past left before) right) program.no_tree))
  meant known scope before (both left right) =
      program.branch (meant known scope before left) (meant known scope (past left before) right) (alone (Construct 0))
  meant known scope before (either left right) =
      program.branch (meant known scope before left) (alone (Construct 1)) (meant known scope (past left before) right)
  meant known scope before (print_text form text) = alone (PrintText form (length before.texts))
  meant known scope before (branch condition positive negative) =
      program.branch (meant known scope before condition) (meant known scope (past condition before) positive) (meant known scope (past positive (past condition before)) negative)
  meant known scope before (branch_alone condition positive) =
      program.branch (meant known scope before condition) (meant known scope (past condition before) positive) (alone Nothing)
  meant known scope before (sequence binder first rest) =
      program.sequence (binder_of binder before.variables) (meant known scope (past_binder binder before) first)
      (meant known (with_binder binder before.variables scope) (past first (past_binder binder before)) rest)
  meant known scope before (match scrutinee rows) =
      program.match (meant known scope before scrutinee) (meant_rows known scope (past scrutinee before) rows)

  pub meant_all : Known → Scope → Before → Writtens → program.Trees
  meant_all known scope before no_written = program.no_tree
  meant_all known scope before (written first rest) =
      program.tree (meant known scope before first) (meant_all known scope (past first before) rest)

  pub meant_rows : Known → Scope → Before → WrittenRows → program.Rows
  meant_rows known scope before no_row = program.no_row
  meant_rows known scope before (row pattern body rest) =
      program.row
      (program.row_parts (pattern_meant known before pattern) (meant known (in_row pattern before scope) (past_pattern pattern before) body))
      (meant_rows known scope (past body (past_pattern pattern before)) rest)
