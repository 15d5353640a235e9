-- The shape of a body: its free variables, its nodes, and its tail positions.
use Rattle.std.specs.Prelude.{ℕ, ◌+◌, max, Bool, not, ◌==◌, List, [], ◌∷◌, ◌++◌, Option, None, Some, filter}
use Rattle.std.specs.List.{list_any}
use Rattle.kk_syntax.specs.declared.program.Binder.{Binder}
use Rattle.kk_syntax.specs.declared.program.Binder.TheVariants as OfBinder
use Rattle.kk_syntax.specs.declared.program.Form.{Form}
use Rattle.kk_syntax.specs.Patterns.{Pattern, anything, variable as pattern_variable, exactly, constructor, Patterns, no_part, part}
use Rattle.kk_syntax.specs.Trees.{Tree, variable, apply, branch, match, sequence, Trees, no_tree, tree, Rows, no_row, row, RowTree, row_parts, StatementTree}
use Rattle.kk_syntax.specs.Programs.{FunctionTree, ProgramTree}

-- the variables of a pattern, from left to right
abbrev mutual
  pub bound : Pattern → List ℕ
  bound anything = []
  bound (pattern_variable of) = of ∷ []
  bound (exactly value) = []
  bound (constructor by parts) = bound_all parts

  pub bound_all : Patterns → List ℕ
  bound_all no_part = []
  bound_all (part first rest) = bound first ++ bound_all rest

-- the variable that a statement binds, if any
abbrev pub variable_of : Binder → Option ℕ
variable_of OfBinder.Nothing = None
variable_of OfBinder.Wildcard = None
variable_of (OfBinder.Variable of) = Some of

-- the same, as a list
abbrev pub bound_by : Binder → List ℕ
bound_by OfBinder.Nothing = []
bound_by OfBinder.Wildcard = []
bound_by (OfBinder.Variable of) = of ∷ []

-- whether a variable is among others
abbrev pub is_among : List ℕ → ℕ → Bool
is_among others x = list_any (λ y. y == x) others

-- variables without those that are bound
abbrev pub without : List ℕ → List ℕ → List ℕ
without binders variables = filter (λ x. not (is_among binders x)) variables

-- The free variables of an expression, as often as they occur: those that it does not bind itself. A statement binds its
-- variable in the rest of the block, and a pattern its variables in the body of its row.
abbrev mutual
  pub free : Tree → List ℕ
  free (variable of) = of ∷ []
  free (apply form arguments) = free_all arguments
  free (branch condition positive negative) = free condition ++ (free positive ++ free negative)
  free (match scrutinee rows) = free scrutinee ++ free_rows rows
  free (sequence binder first rest) = free first ++ without (bound_by binder) (free rest)

  pub free_all : Trees → List ℕ
  free_all no_tree = []
  free_all (tree first rest) = free first ++ free_all rest

  pub free_rows : Rows → List ℕ
  free_rows no_row = []
  free_rows (row (row_parts pattern body) rest) = without (bound pattern) (free body) ++ free_rows rest

-- the nodes of a pattern: 1, and those of its parts
abbrev mutual
  pub nodes_of_pattern : Pattern → ℕ
  nodes_of_pattern anything = 1
  nodes_of_pattern (pattern_variable of) = 1
  nodes_of_pattern (exactly value) = 1
  nodes_of_pattern (constructor by parts) = nodes_of_patterns parts + 1

  pub nodes_of_patterns : Patterns → ℕ
  nodes_of_patterns no_part = 0
  nodes_of_patterns (part first rest) = nodes_of_pattern first + nodes_of_patterns rest

-- a `val` is a node, and a statement that is an expression is none by itself
abbrev pub nodes_of_binder : Binder → ℕ
nodes_of_binder OfBinder.Nothing = 0
nodes_of_binder OfBinder.Wildcard = 1
nodes_of_binder (OfBinder.Variable of) = 1

-- The nodes of an expression: 1 for a variable; 1 plus its parts for a form with its arguments, an `if`, a match (its
-- scrutinee, its patterns and its bodies) and a `val`. So a form without arguments, as a number, is 1. A block counts its
-- parts alone.
abbrev mutual
  pub nodes_of : Tree → ℕ
  nodes_of (variable of) = 1
  nodes_of (apply form arguments) = nodes_of_all arguments + 1
  nodes_of (branch condition positive negative) = nodes_of condition + nodes_of positive + nodes_of negative + 1
  nodes_of (match scrutinee rows) = nodes_of scrutinee + nodes_of_rows rows + 1
  nodes_of (sequence binder first rest) = nodes_of_binder binder + nodes_of first + nodes_of rest

  pub nodes_of_all : Trees → ℕ
  nodes_of_all no_tree = 0
  nodes_of_all (tree first rest) = nodes_of first + nodes_of_all rest

  pub nodes_of_rows : Rows → ℕ
  nodes_of_rows no_row = 0
  nodes_of_rows (row (row_parts pattern body) rest) = nodes_of_pattern pattern + nodes_of body + nodes_of_rows rest

-- the nodes of statements
abbrev pub nodes_of_statements : List StatementTree → ℕ
nodes_of_statements [] = 0
nodes_of_statements (s ∷ ss) = nodes_of_binder s.binder + nodes_of s.value + nodes_of_statements ss

-- the largest count of a list of functions, and of a program's
abbrev pub greatest_of : List FunctionTree → ℕ
greatest_of [] = 0
greatest_of (f ∷ fs) = max (nodes_of f.body) (greatest_of fs)

abbrev pub greatest_nodes : ProgramTree → ℕ
greatest_nodes program = greatest_of program.functions

-- A row of a match on the way to a part of a body: the match's scrutinee, and the row's pattern.
pub record Opening : Type 0 where
  pub scrutinee : Tree
  pub pattern : Pattern

-- a part of a body in tail position, and the rows that it stands in, the outer first
pub record Tail : Type 0 where
  pub inside : List Opening
  pub part : Tree

-- The parts of a body that are in tail position and are no `if`, match or block themselves: the value of each is the
-- value of the body. In an `if` they are those of its branches, in a match those of its rows, and in a block those of its
-- last expression. Here what is found at them, and at the binders and the rows on the way, in the order of the text, by what
-- is known there. The scrutinee of a match tells something, with which each of its rows is entered.
pub record TailWalk (Known Told A : Type 0) : Type 0 where
  pub at : Known → Tree → List A
  pub at_binder : Known → Binder → List A
  pub at_row : Known → Told → Pattern → List A
  pub told : Known → Tree → Told
  pub enter : Known → Told → Pattern → Known

abbrev mutual
  pub tail_walked : {Known Told A : Type 0} → TailWalk Known Told A → Known → Tree → List A
  tail_walked walk known (variable of) = walk.at known (variable of)
  tail_walked walk known (apply form arguments) = walk.at known (apply form arguments)
  tail_walked walk known (branch condition positive negative) = tail_walked walk known positive ++ tail_walked walk known negative
  tail_walked walk known (match scrutinee rows) = tail_walked_rows walk known (walk.told known scrutinee) rows
  tail_walked walk known (sequence binder first rest) = walk.at_binder known binder ++ tail_walked walk known rest

  pub tail_walked_rows : {Known Told A : Type 0} → TailWalk Known Told A → Known → Told → Rows → List A
  tail_walked_rows walk known told no_row = []
  tail_walked_rows walk known told (row (row_parts pattern body) rest) =
      (walk.at_row known told pattern ++ tail_walked walk (walk.enter known told pattern) body)
      ++ tail_walked_rows walk known told rest

-- each of these parts, with the rows that it stands in, where the body stands in some rows itself
abbrev pub to_tails : TailWalk (List Opening) Tree Tail
to_tails = record {
  at = λ inside part. record { inside = inside; part = part } ∷ [];
  at_binder = λ inside binder. [];
  at_row = λ inside scrutinee pattern. [];
  told = λ inside scrutinee. scrutinee;
  enter = λ inside scrutinee pattern. inside ++ record { scrutinee = scrutinee; pattern = pattern } ∷ [];
}

abbrev pub tails_inside : List Opening → Tree → List Tail
tails_inside = tail_walked to_tails

abbrev pub tails_of_rows : List Opening → Tree → Rows → List Tail
tails_of_rows = tail_walked_rows to_tails

abbrev pub tails : Tree → List Tail
tails body = tails_inside [] body

-- What is gathered from an expression in the order of the text: at a form from the form, before its arguments; at a match
-- from its rows, before its parts; at a row from its pattern, before its body. Calls and matches are gathered so.
pub record Gathers (A : Type 0) : Type 0 where
  pub at_form : Form → List A
  pub at_rows : Rows → List A
  pub at_pattern : Pattern → List A

abbrev mutual
  pub gathered : {A : Type 0} → Gathers A → Tree → List A
  gathered from (variable of) = []
  gathered from (apply form arguments) = from.at_form form ++ gathered_all from arguments
  gathered from (branch condition positive negative) = gathered from condition ++ (gathered from positive ++ gathered from negative)
  gathered from (match scrutinee rows) = from.at_rows rows ++ (gathered from scrutinee ++ gathered_rows from rows)
  gathered from (sequence binder first rest) = gathered from first ++ gathered from rest

  pub gathered_all : {A : Type 0} → Gathers A → Trees → List A
  gathered_all from no_tree = []
  gathered_all from (tree first rest) = gathered from first ++ gathered_all from rest

  pub gathered_rows : {A : Type 0} → Gathers A → Rows → List A
  gathered_rows from no_row = []
  gathered_rows from (row (row_parts pattern body) rest) = (from.at_pattern pattern ++ gathered from body) ++ gathered_rows from rest

-- What stands in place of the forms and patterns of an expression, by what is known where they stand; and what is known
-- behind a form, a pattern, an expression and a row.
pub record Replaces (Known : Type 0) : Type 0 where
  pub form : Known → Form → Form
  pub pattern : Known → Pattern → Pattern
  pub behind_form : Known → Form → Known
  pub behind_pattern : Known → Pattern → Known
  pub behind : Known → Tree → Known
  pub behind_row : Known → RowTree → Known

-- an expression with other forms and patterns, in the order of the text
abbrev mutual
  pub replaced : {Known : Type 0} → Replaces Known → Known → Tree → Tree
  replaced with known (variable of) = variable of
  replaced with known (apply form arguments) = apply (with.form known form)
      (replaced_all with (with.behind_form known form) arguments)
  replaced with known (branch condition positive negative) =
      branch (replaced with known condition) (replaced with (with.behind known condition) positive)
      (replaced with (with.behind (with.behind known condition) positive) negative)
  replaced with known (match scrutinee rows) = match (replaced with known scrutinee)
      (replaced_rows with (with.behind known scrutinee) rows)
  replaced with known (sequence binder first rest) = sequence binder (replaced with known first)
      (replaced with (with.behind known first) rest)

  pub replaced_all : {Known : Type 0} → Replaces Known → Known → Trees → Trees
  replaced_all with known no_tree = no_tree
  replaced_all with known (tree first rest) = tree (replaced with known first) (replaced_all with (with.behind known first) rest)

  pub replaced_rows : {Known : Type 0} → Replaces Known → Known → Rows → Rows
  replaced_rows with known no_row = no_row
  replaced_rows with known (row (row_parts pattern body) rest) =
      row (row_parts (with.pattern known pattern) (replaced with (with.behind_pattern known pattern) body))
      (replaced_rows with (with.behind_row known (row_parts pattern body)) rest)
