-- What an expression means has no more nodes than the expression as it is written.
use Rattle.std.proofs.Common.{ℕ, ◌+◌, ◌≤◌, List, [], ◌∷◌, Option, Some, None, arith}
use Rattle.std.proofs.lemmas.List.Elements.{All-nil, All-cons, All-head, All-tail}
use Rattle.kk_syntax.specs.declared.tree.SurfaceBinder.{SurfaceBinder}
use Rattle.kk_syntax.specs.declared.tree.SurfaceBinder.TheVariants as OfSurface
use Rattle.kk_syntax.specs.Shapes.{nodes_of, nodes_of_all, nodes_of_rows, nodes_of_binder, nodes_of_pattern, nodes_of_patterns}
use Rattle.kk_syntax.specs.Surface.{WrittenPattern, anything, pattern_variable, exactly, constructor, WrittenPatterns, no_part, part, Written, number, unit, variable, call, dot_call, construct, unary, binary, both, either, print_text, branch, branch_alone, match, sequence, Writtens, no_written, written, WrittenRows, no_row, row, WrittenDeclaration, type_declaration, function_declaration}
use Rattle.kk_syntax.specs.declared.program.Form.{Form}
use Rattle.kk_syntax.specs.declared.program.Form.TheVariants as OfForm
use Rattle.kk_syntax.specs.Patterns.{Patterns}
use Rattle.kk_syntax.specs.Trees.{Trees}
use Rattle.kk_syntax.specs.WrittenNodes.{written_nodes, writtens_nodes, rows_nodes, binder_nodes, pattern_nodes, patterns_nodes, nodes_in}
use Rattle.kk_names.specs.declared.table.Callee.{Callee}
use Rattle.kk_names.specs.Expressions.{applied, variable_or_unit, pattern_of, constructed, pattern_meant, parts_meant, meant, meant_all, meant_rows}
use Rattle.kk_names.specs.Names.{before_body, with_texts, function_of, functions_of, KeepsNodes}
use Rattle.kk_names.specs.Scopes.{Scope, number_in, with_parameters, with_binder, binder_of, in_row, Before, past_binder, past_pattern, past}
use Rattle.kk_names.specs.Tables.{Known, meaning_in}

applied_few : (callee : Option Callee) (arguments : Trees) → nodes_of (applied callee arguments) ≤ nodes_of_all arguments + 1
applied_few None arguments = omega arith
applied_few (Some callee) arguments = omega arith

variable_few : (number : Option ℕ) → nodes_of (variable_or_unit number) ≤ 1
variable_few None = omega arith
variable_few (Some by) = omega arith

binder_few : (binder : SurfaceBinder) (next : ℕ) → nodes_of_binder (binder_of binder next) ≤ binder_nodes binder
binder_few OfSurface.Nothing next = omega arith
binder_few OfSurface.Wildcard next = omega arith
binder_few (OfSurface.Variable name) next = omega arith

form_few : (form : Form) (parts : Patterns) → nodes_of_pattern (pattern_of form parts) ≤ nodes_of_patterns parts + 1
form_few (OfForm.Construct by) parts = omega arith
form_few _ parts = omega arith

constructed_few : (callee : Option Callee) (parts : Patterns) → nodes_of_pattern (constructed callee parts) ≤ nodes_of_patterns parts + 1
constructed_few None parts = omega arith
constructed_few (Some callee) parts = form_few callee.form parts

mutual
  pattern_few : (known : Known) (before : Before) (p : WrittenPattern) → nodes_of_pattern (pattern_meant known before p) ≤ pattern_nodes p
  pattern_few known before anything = omega arith
  pattern_few known before (pattern_variable name) = omega arith
  pattern_few known before (exactly value) = omega arith
  pattern_few known before (constructor name parts) =
      omega (arith, constructed_few (meaning_in known.constructors name.name) (parts_meant known before parts), parts_few known before parts)

  parts_few : (known : Known) (before : Before) (ps : WrittenPatterns) → nodes_of_patterns (parts_meant known before ps) ≤ patterns_nodes ps
  parts_few known before no_part = omega arith
  parts_few known before (part first rest) = omega (arith, pattern_few known before first, parts_few known (past_pattern first before) rest)

mutual
  few : (known : Known) (scope : Scope) (before : Before) (w : Written) → nodes_of (meant known scope before w) ≤ written_nodes w
  few known scope before (variable name) = variable_few (number_in scope name.name)
  few known scope before (call name arguments) =
      omega (arith, applied_few (meaning_in known.functions name.name) (meant_all known scope before arguments), few_all known scope before arguments)
  few known scope before (dot_call first name others) =
      omega (arith, applied_few (meaning_in known.functions name.name) (meant_all known scope before (written first others)), few known scope before first, few_all known scope (past first before) others)
  few known scope before (construct name arguments) =
      omega (arith, applied_few (meaning_in known.constructors name.name) (meant_all known scope before arguments), few_all known scope before arguments)
  few known scope before (unary operator operand) = omega (arith, few known scope before operand)
  few known scope before (binary operator left right) = omega (arith, few known scope before left, few known scope (past left before) right)
  few known scope before (both left right) = omega (arith, few known scope before left, few known scope (past left before) right)
  few known scope before (either left right) = omega (arith, few known scope before left, few known scope (past left before) right)
  few known scope before (branch condition positive negative) =
      omega (arith, few known scope before condition, few known scope (past condition before) positive, few known scope (past positive (past condition before)) negative)
  few known scope before (branch_alone condition positive) = omega (arith, few known scope before condition, few known scope (past condition before) positive)
  few known scope before (sequence binder first rest) =
      omega (arith, few known scope (past_binder binder before) first, few known (with_binder binder before.variables scope) (past first (past_binder binder before)) rest, binder_few binder before.variables)
  few known scope before (match scrutinee rows) = omega (arith, few known scope before scrutinee, few_rows known scope (past scrutinee before) rows)
  few known scope before (number value) = omega arith
  few known scope before unit = omega arith
  few known scope before (print_text form text) = omega arith

  few_all : (known : Known) (scope : Scope) (before : Before) (ws : Writtens) → nodes_of_all (meant_all known scope before ws) ≤ writtens_nodes ws
  few_all known scope before no_written = omega arith
  few_all known scope before (written first rest) = omega (arith, few known scope before first, few_all known scope (past first before) rest)

  few_rows : (known : Known) (scope : Scope) (before : Before) (rows : WrittenRows) → nodes_of_rows (meant_rows known scope before rows) ≤ rows_nodes rows
  few_rows known scope before no_row = omega arith
  few_rows known scope before (row pattern body rest) =
      omega (
        arith,
        pattern_few known before pattern,
        few known (in_row pattern before scope) (past_pattern pattern before) body,
        few_rows known scope (past body (past_pattern pattern before)) rest,
      )

pub keeps_nodes : (known : Known) (texts : List (List ℕ)) (ds : List WrittenDeclaration) → KeepsNodes ds (functions_of known texts ds)
keeps_nodes known texts [] most h = All-nil (λ f. nodes_of f.body ≤ most)
keeps_nodes known texts (type_declaration name parameters cases ∷ ds) most h = keeps_nodes known texts ds most (All-tail (λ d. nodes_in d ≤ most) (type_declaration name parameters cases) ds h)
keeps_nodes known texts (function_declaration name parameters effects result body ∷ ds) most h =
    let after : List (List ℕ) = with_texts texts (function_declaration name parameters effects result body) in
    All-cons (λ f. nodes_of f.body ≤ most) (function_of known texts name parameters result body) (functions_of known after ds)
    (omega (arith, few known (with_parameters 0 parameters []) (before_body texts parameters) body, All-head (λ d. nodes_in d ≤ most) (function_declaration name parameters effects result body) ds h))
    (keeps_nodes known after ds most (All-tail (λ d. nodes_in d ≤ most) (function_declaration name parameters effects result body) ds h))
