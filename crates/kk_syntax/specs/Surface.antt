-- The tree of a text as mathematics: names and their places as they are written; no pointers, no capacities.
use Rattle.std.specs.Prelude.{ℕ, ℤ, List, [], ◌∷◌, map, Option, Some, None}
use Rattle.kk_syntax.specs.declared.operator.PrintForm.{PrintForm}
use Rattle.kk_syntax.specs.declared.operator.UnaryOperator.{UnaryOperator}
use Rattle.kk_syntax.specs.declared.operator.BinaryOperator.{BinaryOperator}
use Rattle.kk_syntax.specs.declared.tree.Identifier.{Identifier}
use Rattle.kk_syntax.specs.declared.tree.Effect.{Effect}
use Rattle.kk_syntax.specs.declared.tree.SurfaceBinder.{SurfaceBinder}
use Rattle.kk_syntax.specs.declared.tree.SurfacePattern.{SurfacePattern}
use Rattle.kk_syntax.specs.declared.tree.SurfacePattern.TheOpen as OfPattern
use Rattle.kk_syntax.specs.declared.tree.SurfacePattern.TheFolds.{fold-SurfacePattern}
use Rattle.kk_syntax.specs.declared.tree.SurfaceType.{SurfaceType}
use Rattle.kk_syntax.specs.declared.tree.SurfaceType.TheOpen as OfType
use Rattle.kk_syntax.specs.declared.tree.SurfaceType.TheFolds.{fold-SurfaceType}
use Rattle.kk_syntax.specs.declared.tree.SurfaceRow.{SurfaceRow}
use Rattle.kk_syntax.specs.declared.tree.SurfaceStatement.{SurfaceStatement}
use Rattle.kk_syntax.specs.declared.tree.SurfaceExpr.{SurfaceExpr}
use Rattle.kk_syntax.specs.declared.tree.SurfaceExpr.TheOpen as OfExpr
use Rattle.kk_syntax.specs.declared.tree.SurfaceExpr.TheFolds.{fold-SurfaceExpr, fold-SurfaceRow, fold-SurfaceStatement}
use Rattle.kk_syntax.specs.declared.tree.Parameter.{Parameter}
use Rattle.kk_syntax.specs.declared.tree.ConstructorDeclaration.{ConstructorDeclaration}
use Rattle.kk_syntax.specs.declared.tree.Declaration.{Declaration}
use Rattle.kk_syntax.specs.declared.tree.Declaration.TheVariants as OfDeclaration
use Rattle.kk_syntax.specs.declared.tree.Tree.{Tree}

-- a type as it is written: `()`; a type variable; a type by its name, and its arguments
mutual
  pub data WrittenType : Type 0 where
    unit_type : WrittenType
    type_variable : (name : Identifier) → WrittenType
    named : (name : Identifier) → (arguments : WrittenTypes) → WrittenType

  pub data WrittenTypes : Type 0 where
    no_type : WrittenTypes
    type : (first : WrittenType) → (rest : WrittenTypes) → WrittenTypes

abbrev pub types_of : List WrittenType → WrittenTypes
types_of [] = no_type
types_of (t ∷ ts) = type t (types_of ts)

abbrev pub type_step : OfType.SurfaceType-F WrittenType → WrittenType
type_step OfType.Unit = unit_type
type_step (OfType.Variable name) = type_variable name
type_step (OfType.Named name arguments) = named name (types_of arguments.items)

abbrev pub written_type : SurfaceType → WrittenType
written_type = fold-SurfaceType WrittenType type_step

-- a pattern as it is written: `_`; a variable; a number; a constructor and the patterns of its fields
mutual
  pub data WrittenPattern : Type 0 where
    anything : WrittenPattern
    pattern_variable : (name : Identifier) → WrittenPattern
    exactly : (number : ℤ) → WrittenPattern
    constructor : (name : Identifier) → (parts : WrittenPatterns) → WrittenPattern

  pub data WrittenPatterns : Type 0 where
    no_part : WrittenPatterns
    part : (first : WrittenPattern) → (rest : WrittenPatterns) → WrittenPatterns

abbrev pub patterns_of : List WrittenPattern → WrittenPatterns
patterns_of [] = no_part
patterns_of (p ∷ ps) = part p (patterns_of ps)

abbrev pub pattern_step : OfPattern.SurfacePattern-F WrittenPattern → WrittenPattern
pattern_step OfPattern.Wildcard = anything
pattern_step (OfPattern.Variable name) = pattern_variable name
pattern_step (OfPattern.Number number) = exactly number
pattern_step (OfPattern.Constructor name parts) = constructor name (patterns_of parts.items)

abbrev pub written_pattern : SurfacePattern → WrittenPattern
written_pattern = fold-SurfacePattern WrittenPattern pattern_step

-- An expression as it is written: a number; `()`; a variable; a call `f(e, ..)`; a dot call `e.f(e, ..)` or `e.f`; a
-- construction `C(e, ..)` or `C`; operators; `a && b` and `a || b`; a print of a string's bytes; an `if` with both
-- branches, or with one; a match with its rows; and a statement of a block with the rest of the block behind it. A block
-- without statements is its last expression.
mutual
  pub data Written : Type 0 where
    number : (value : ℤ) → Written
    unit : Written
    variable : (name : Identifier) → Written
    call : (name : Identifier) → (arguments : Writtens) → Written
    dot_call : (first : Written) → (name : Identifier) → (others : Writtens) → Written
    construct : (name : Identifier) → (arguments : Writtens) → Written
    unary : (operator : UnaryOperator) → (operand : Written) → Written
    binary : (operator : BinaryOperator) → (left : Written) → (right : Written) → Written
    both : (left : Written) → (right : Written) → Written
    either : (left : Written) → (right : Written) → Written
    print_text : (form : PrintForm) → (text : List ℕ) → Written
    branch : (condition : Written) → (positive : Written) → (negative : Written) → Written
    branch_alone : (condition : Written) → (positive : Written) → Written
    match : (scrutinee : Written) → (rows : WrittenRows) → Written
    sequence : (binder : SurfaceBinder) → (first : Written) → (rest : Written) → Written

  pub data Writtens : Type 0 where
    no_written : Writtens
    written : (first : Written) → (rest : Writtens) → Writtens

  pub data WrittenRows : Type 0 where
    no_row : WrittenRows
    row : (pattern : WrittenPattern) → (body : Written) → (rest : WrittenRows) → WrittenRows

-- a row of a match, and a statement, each by itself
pub record WrittenRow : Type 0 where
  pub pattern : WrittenPattern
  pub body : Written

pub record WrittenStatement : Type 0 where
  pub binder : SurfaceBinder
  pub value : Written

abbrev pub writtens_of : List Written → Writtens
writtens_of [] = no_written
writtens_of (e ∷ es) = written e (writtens_of es)

abbrev pub rows_of : List WrittenRow → WrittenRows
rows_of [] = no_row
rows_of (r ∷ rs) = row r.pattern r.body (rows_of rs)

-- statements, and what comes behind them
abbrev pub block_of : List WrittenStatement → Written → Written
block_of [] last = last
block_of (s ∷ ss) last = sequence s.binder s.value (block_of ss last)

abbrev pub expr_step : OfExpr.SurfaceExpr-F Written WrittenRow WrittenStatement → Written
expr_step (OfExpr.Number value) = number value
expr_step OfExpr.Unit = unit
expr_step (OfExpr.Variable name) = variable name
expr_step (OfExpr.Call name arguments) = call name (writtens_of arguments.items)
expr_step (OfExpr.DotCall first name others) = dot_call first.value name (writtens_of others.items)
expr_step (OfExpr.Construct name arguments) = construct name (writtens_of arguments.items)
expr_step (OfExpr.Unary operator operand) = unary operator operand.value
expr_step (OfExpr.Binary operator left right) = binary operator left.value right.value
expr_step (OfExpr.And left right) = both left.value right.value
expr_step (OfExpr.Or left right) = either left.value right.value
expr_step (OfExpr.PrintText form text) = print_text form text
expr_step (OfExpr.If condition positive None) = branch_alone condition.value positive.value
expr_step (OfExpr.If condition positive (Some negative)) = branch condition.value positive.value negative.value
expr_step (OfExpr.Match scrutinee rows) = match scrutinee.value (rows_of rows.items)
expr_step (OfExpr.Block statements value) = block_of statements.items value.value

abbrev pub row_step : OfExpr.SurfaceRow-F Written WrittenRow WrittenStatement → WrittenRow
row_step r = record { pattern = written_pattern r.pattern; body = r.body }

abbrev pub statement_step : OfExpr.SurfaceStatement-F Written WrittenRow WrittenStatement → WrittenStatement
statement_step s = record { binder = s.binder; value = s.value }

abbrev pub written_expr : SurfaceExpr → Written
written_expr = fold-SurfaceExpr Written WrittenRow WrittenStatement expr_step row_step statement_step

abbrev pub written_row : SurfaceRow → WrittenRow
written_row = fold-SurfaceRow Written WrittenRow WrittenStatement expr_step row_step statement_step

abbrev pub written_statement : SurfaceStatement → WrittenStatement
written_statement = fold-SurfaceStatement Written WrittenRow WrittenStatement expr_step row_step statement_step

-- a parameter of a function, or a field of a constructor
pub record WrittenParameter : Type 0 where
  pub name : Identifier
  pub of_type : WrittenType

-- a constructor with its fields
pub record WrittenConstructor : Type 0 where
  pub name : Identifier
  pub fields : List WrittenParameter

-- A declaration: of a type, with its type variables and its constructors; or of a function, with its parameters, its
-- effects, the type of its result where it is written, and its body.
pub data WrittenDeclaration : Type 0 where
  type_declaration : (name : Identifier) → (parameters : List Identifier) → (constructors : List WrittenConstructor) → WrittenDeclaration
  function_declaration : (name : Identifier) → (parameters : List WrittenParameter) → (effects : List Effect) → (result : Option WrittenType) → (body : Written) → WrittenDeclaration

-- a text's declarations in their order, and its length in bytes
pub record WrittenTree : Type 0 where
  pub declarations : List WrittenDeclaration
  pub length : ℕ

abbrev pub written_parameter : Parameter → WrittenParameter
written_parameter p = record { name = p.name; of_type = written_type p.of_type }

abbrev pub written_constructor : ConstructorDeclaration → WrittenConstructor
written_constructor c = record { name = c.name; fields = map written_parameter c.fields.items }

abbrev pub written_result : Option SurfaceType → Option WrittenType
written_result None = None
written_result (Some t) = Some (written_type t)

abbrev pub written_declaration : Declaration → WrittenDeclaration
written_declaration (OfDeclaration.Type d) =
    type_declaration d.name d.parameters.items (map written_constructor d.constructors.items)
written_declaration (OfDeclaration.Function d) =
    function_declaration d.name (map written_parameter d.parameters.items) d.effects.items (written_result d.result) (written_expr d.body)

abbrev pub written_tree : Tree → WrittenTree
written_tree t = record { declarations = map written_declaration t.declarations.items; length = t.length }
