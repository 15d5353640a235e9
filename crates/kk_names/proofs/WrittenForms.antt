-- What the expressions of a text are written as, and what those that the code makes are, by their forms.
use Rattle.std.proofs.Common.{◌≡◌, ℕ, ◌+◌, ◌<◌, List, [], ◌∷◌, length, map, drop, get_or, Box, Global, Option, Some, None, sym, ap, ◌∙◌}
use Rattle.kk_syntax.specs.declared.operator.BinaryOperator.{BinaryOperator}
use Rattle.kk_syntax.specs.declared.program.Expr.{Expr}
use Rattle.kk_syntax.specs.declared.program.Expr.TheVariants.{Apply}
use Rattle.kk_syntax.specs.declared.program.Form.{Form}
use Rattle.kk_syntax.specs.declared.tree.Identifier.{Identifier}
use Rattle.kk_syntax.specs.declared.tree.SurfaceBinder.TheVariants as OfSurface
use Rattle.kk_syntax.specs.declared.tree.SurfaceExpr.{SurfaceExpr, size-SurfaceExpr}
use Rattle.kk_syntax.specs.declared.tree.SurfaceExpr.TheVariants as surface
use Rattle.kk_syntax.specs.declared.tree.SurfaceExpr.TheFolds.{fold-roll-SurfaceExpr, fold_out-SurfaceRow, fold_out-SurfaceStatement}
use Rattle.kk_syntax.specs.declared.tree.SurfacePattern.{SurfacePattern}
use Rattle.kk_syntax.specs.declared.tree.SurfacePattern.TheVariants as OfPattern
use Rattle.kk_syntax.specs.declared.tree.SurfacePattern.TheFolds.{fold-roll-SurfacePattern}
use Rattle.kk_syntax.specs.declared.tree.SurfaceRow.{SurfaceRow}
use Rattle.kk_syntax.specs.declared.tree.SurfaceStatement.{SurfaceStatement}
use Rattle.kk_syntax.specs.declared.tree.SurfaceType.{SurfaceType}
use Rattle.kk_syntax.specs.declared.tree.SurfaceType.TheVariants as OfType
use Rattle.kk_syntax.specs.declared.tree.SurfaceType.TheFolds.{fold-roll-SurfaceType}
use Rattle.kk_syntax.specs.declared.tree.Parameter.{Parameter}
use Rattle.kk_syntax.specs.declared.tree.Declaration.{Declaration}
use Rattle.kk_syntax.specs.Surface as written
use Rattle.kk_syntax.specs.Surface.{Written, WrittenRow, WrittenStatement, written_expr, written_row, rows_of, written_statement, writtens_of, WrittenPattern, patterns_of, written_pattern, WrittenType, type_step, written_type, written_parameter, written_declaration}
use Rattle.kk_syntax.specs.Trees.{expr_tree}
use Rattle.kk_syntax.proofs.Views.{apply_is}
use Rattle.kk_names.specs.Expressions.{alone}
use Rattle.kk_base.proofs.Lists.{rest_at}

-- ---- what is given

pub call_written : (e : SurfaceExpr) (name : Identifier) (arguments : _) (es : List SurfaceExpr) → e ≡ surface.Call name arguments → es ≡ arguments.items
    → written_expr e ≡ written.call name (writtens_of (map written_expr es))
call_written e name arguments es is items =
    ap written_expr (is ∙ sym (surface.rolls-Call name arguments))
    ∙ (fold-roll-SurfaceExpr Written WrittenRow WrittenStatement written.expr_step written.row_step written.statement_step _ ∙ ap (λ all. written.call name (writtens_of (map written_expr all))) (sym items))

pub construct_written : (e : SurfaceExpr) (name : Identifier) (arguments : _) (es : List SurfaceExpr) → e ≡ surface.Construct name arguments → es ≡ arguments.items
    → written_expr e ≡ written.construct name (writtens_of (map written_expr es))
construct_written e name arguments es is items =
    ap written_expr (is ∙ sym (surface.rolls-Construct name arguments))
    ∙ (fold-roll-SurfaceExpr Written WrittenRow WrittenStatement written.expr_step written.row_step written.statement_step _ ∙ ap (λ all. written.construct name (writtens_of (map written_expr all))) (sym items))

pub binary_written : (e : SurfaceExpr) (operator : BinaryOperator) (left right : _) (l r : SurfaceExpr) → e ≡ surface.Binary operator left right → l ≡ left.value → r ≡ right.value
    → written_expr e ≡ written.binary operator (written_expr l) (written_expr r)
binary_written e operator left right l r is left_is right_is =
    ap written_expr (is ∙ sym (surface.rolls-Binary operator left right))
    ∙ (fold-roll-SurfaceExpr Written WrittenRow WrittenStatement written.expr_step written.row_step written.statement_step _
    ∙ (ap (λ x. written.binary operator (written_expr x) (written_expr right.value)) (sym left_is) ∙ ap (λ x. written.binary operator (written_expr l) (written_expr x)) (sym right_is)))

pub statement_written : (s : SurfaceStatement) → written_statement s ≡ record { binder = s.binder; value = written_expr s.value }
statement_written s = fold_out-SurfaceStatement Written WrittenRow WrittenStatement written.expr_step written.row_step written.statement_step s

-- the first of the expressions that are left
pub next_expr : (es : List SurfaceExpr) (i : ℕ) (e : SurfaceExpr) → e ≡ get_or es i e → i < length es
    → writtens_of (map written_expr (drop i es)) ≡ written.written (written_expr e) (writtens_of (map written_expr (drop (i + 1) es)))
next_expr es i e is less = ap (λ all. writtens_of (map written_expr all)) (rest_at es i e less is)

-- the first of the statements that are left
pub next_statement : (ss : List SurfaceStatement) (i : ℕ) (s : SurfaceStatement) → s ≡ get_or ss i s → i < length ss
    → map written_statement (drop i ss) ≡ written_statement s ∷ map written_statement (drop (i + 1) ss)
next_statement ss i s is less = ap (map written_statement) (rest_at ss i s less is)

pub variable_written : (s : SurfaceStatement) (name : Identifier) (v : SurfaceExpr) → s.binder ≡ OfSurface.Variable name → v ≡ s.value → written_statement s ≡ record { binder = OfSurface.Variable name; value = written_expr v }
variable_written s name v is value =
    statement_written s
    ∙ (ap (λ b. let w : WrittenStatement = record { binder = b; value = written_expr s.value } in w) is ∙ ap (λ x. let w : WrittenStatement = record { binder = OfSurface.Variable name; value = written_expr x } in w) (sym value))

pub pattern_written : (p : SurfacePattern) (name : Identifier) (parts : _) (ps : List SurfacePattern) → p ≡ OfPattern.Constructor name parts → ps ≡ parts.items
    → written_pattern p ≡ written.constructor name (patterns_of (map written_pattern ps))
pattern_written p name parts ps is items =
    ap written_pattern (is ∙ sym (OfPattern.rolls-Constructor name parts))
    ∙ (fold-roll-SurfacePattern WrittenPattern written.pattern_step _ ∙ ap (λ all. written.constructor name (patterns_of (map written_pattern all))) (sym items))

-- the first of the patterns that are left
pub next_pattern : (ps : List SurfacePattern) (i : ℕ) (p : SurfacePattern) → p ≡ get_or ps i p → i < length ps
    → patterns_of (map written_pattern (drop i ps)) ≡ written.part (written_pattern p) (patterns_of (map written_pattern (drop (i + 1) ps)))
next_pattern ps i p is less = ap (λ all. patterns_of (map written_pattern all)) (rest_at ps i p less is)

pub row_written : (r : SurfaceRow) → written_row r ≡ record { pattern = written_pattern r.pattern; body = written_expr r.body }
row_written r = fold_out-SurfaceRow Written WrittenRow WrittenStatement written.expr_step written.row_step written.statement_step r

-- the first of the rows that are left
pub next_row : (rs : List SurfaceRow) (i : ℕ) (r : SurfaceRow) → r ≡ get_or rs i r → i < length rs
    → rows_of (map written_row (drop i rs)) ≡ written.row (written_row r).pattern (written_row r).body (rows_of (map written_row (drop (i + 1) rs)))
next_row rs i r is less = ap (λ all. rows_of (map written_row all)) (rest_at rs i r less is)

-- ---- what is made

-- a form without arguments
pub alone_made : (e : Expr) (form : Form) (arguments : _) → e ≡ Apply form arguments → arguments.items ≡ [] → expr_tree e ≡ alone form
alone_made e form arguments is none = apply_is e form arguments [] is (sym none)

-- ---- types

pub named_written : (t : SurfaceType) (name : Identifier) (arguments : _) (ts : List SurfaceType) → t ≡ OfType.Named name arguments → ts ≡ arguments.items
    → written_type t ≡ written.named name (written.types_of (map written_type ts))
named_written t name arguments ts is items =
    ap written_type (is ∙ sym (OfType.rolls-Named name arguments))
    ∙ (fold-roll-SurfaceType WrittenType type_step _ ∙ ap (λ all. written.named name (written.types_of (map written_type all))) (sym items))

-- the first of the types that are left
pub next_type : (ts : List SurfaceType) (i : ℕ) (t : SurfaceType) → t ≡ get_or ts i t → i < length ts
    → written.types_of (map written_type (drop i ts)) ≡ written.type (written_type t) (written.types_of (map written_type (drop (i + 1) ts)))
next_type ts i t is less = ap (λ all. written.types_of (map written_type all)) (rest_at ts i t less is)

pub next_parameter : (ps : List Parameter) (i : ℕ) (p : Parameter) → p ≡ get_or ps i p → i < length ps → map written_parameter (drop i ps) ≡ written_parameter p ∷ map written_parameter (drop (i + 1) ps)
next_parameter ps i p is less = ap (map written_parameter) (rest_at ps i p less is)

pub next_declaration : (ds : List Declaration) (i : ℕ) (d : Declaration) → d ≡ get_or ds i d → i < length ds → map written_declaration (drop i ds) ≡ written_declaration d ∷ map written_declaration (drop (i + 1) ds)
next_declaration ds i d is less = ap (map written_declaration) (rest_at ds i d less is)

-- the size of a branch that may be left out
abbrev pub option_size : Option (Box SurfaceExpr Global) → ℕ
option_size None = 0
option_size (Some b) = size-SurfaceExpr b.value
