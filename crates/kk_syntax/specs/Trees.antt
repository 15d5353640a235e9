-- The tree of an expression as mathematics: no pointers, no capacities. A type that holds a list of itself is declared
-- together with that list.
use Rattle.std.specs.Prelude.{ℕ, List, [], ◌∷◌}
use Rattle.kk_syntax.specs.declared.program.Form.{Form}
use Rattle.kk_syntax.specs.declared.program.Binder.{Binder}
use Rattle.kk_syntax.specs.declared.program.Row.{Row}
use Rattle.kk_syntax.specs.declared.program.Statement.{Statement}
use Rattle.kk_syntax.specs.declared.program.Expr.{Expr}
use Rattle.kk_syntax.specs.declared.program.Expr.TheOpen.{Expr-F, Row-F, Statement-F, Variable, Apply, If, Match, Block}
use Rattle.kk_syntax.specs.declared.program.Expr.TheFolds.{fold-Expr, fold-Row, fold-Statement}
use Rattle.kk_syntax.specs.Patterns.{Pattern, pattern_tree}

-- An expression: a variable by its number; a form and its arguments; an `if` with its two branches; a match with its rows;
-- and a block, as a statement and the rest of the block behind it. A block without statements is its last expression. A row of
-- a match is a value by itself, which has a pattern and a body.
mutual
  pub data Tree : Type 0 where
    variable : (of : ℕ) → Tree
    apply : (form : Form) → (arguments : Trees) → Tree
    branch : (condition : Tree) → (positive : Tree) → (negative : Tree) → Tree
    match : (scrutinee : Tree) → (rows : Rows) → Tree
    sequence : (binder : Binder) → (first : Tree) → (rest : Tree) → Tree

  pub data Trees : Type 0 where
    no_tree : Trees
    tree : (first : Tree) → (rest : Trees) → Trees

  pub data RowTree : Type 0 where
    row_parts : (pattern : Pattern) → (body : Tree) → RowTree

  pub data Rows : Type 0 where
    no_row : Rows
    row : (first : RowTree) → (rest : Rows) → Rows

-- the parts of a row, by their names
abbrev pub pattern_of_row : RowTree → Pattern
pattern_of_row (row_parts pattern body) = pattern

abbrev pub body_of_row : RowTree → Tree
body_of_row (row_parts pattern body) = body

-- a list of expressions as a list of its own type
abbrev pub trees_of : List Tree → Trees
trees_of [] = no_tree
trees_of (t ∷ ts) = tree t (trees_of ts)

-- a statement by itself
pub record StatementTree : Type 0 where
  pub binder : Binder
  pub value : Tree

-- a list of rows as a list of its own type
abbrev pub rows_of : List RowTree → Rows
rows_of [] = no_row
rows_of (r ∷ rs) = row r (rows_of rs)

-- statements, and what comes behind them
abbrev pub block_of : List StatementTree → Tree → Tree
block_of [] last = last
block_of (s ∷ ss) last = sequence s.binder s.value (block_of ss last)

-- an expression, a row and a statement of the program as such trees, their parts' trees given
abbrev pub expr_step : Expr-F Tree RowTree StatementTree → Tree
expr_step (Variable of) = variable of
expr_step (Apply form arguments) = apply form (trees_of arguments.items)
expr_step (If condition positive negative) = branch condition.value positive.value negative.value
expr_step (Match scrutinee rows) = match scrutinee.value (rows_of rows.items)
expr_step (Block statements value) = block_of statements.items value.value

abbrev pub row_step : Row-F Tree RowTree StatementTree → RowTree
row_step r = row_parts (pattern_tree r.pattern) r.body

abbrev pub statement_step : Statement-F Tree RowTree StatementTree → StatementTree
statement_step s = record { binder = s.binder; value = s.value }

-- an expression, a row and a statement of the program as such trees
abbrev pub expr_tree : Expr → Tree
expr_tree = fold-Expr Tree RowTree StatementTree expr_step row_step statement_step

abbrev pub row_tree : Row → RowTree
row_tree = fold-Row Tree RowTree StatementTree expr_step row_step statement_step

abbrev pub statement_tree : Statement → StatementTree
statement_tree = fold-Statement Tree RowTree StatementTree expr_step row_step statement_step
