-- What an expression means is no deeper in memory than the expression as it is spelled.
use Rattle.std.proofs.Common.{◌≡◌, ℕ, ◌+◌, ◌<◌, ◌≤◌, max, List, [], ◌∷◌, ◌++◌, length, map, get_or, Option, Some, None, sym, ap, ◌∙◌, subst, arith}
use Rattle.std.specs.Prelude.{All}
use Rattle.std.proofs.lemmas.List.Elements.{All-nil, All-cons, All-get_or, All-append}
use Rattle.kk_syntax.specs.declared.program.Expr.{Expr}
use Rattle.kk_syntax.specs.declared.program.Expr.TheVariants as OfExpr
use Rattle.kk_syntax.specs.declared.program.Expr.TheFolds.{fold-roll-Expr, fold_out-Row, fold_out-Statement}
use Rattle.kk_syntax.specs.declared.program.Form.{Form}
use Rattle.kk_syntax.specs.declared.program.Form.TheVariants as OfForm
use Rattle.kk_syntax.specs.declared.program.Fun.{Fun}
use Rattle.kk_syntax.specs.declared.program.Row.{Row}
use Rattle.kk_syntax.specs.declared.program.Statement.{Statement}
use Rattle.kk_syntax.specs.declared.tree.Declaration.{Declaration}
use Rattle.kk_syntax.specs.declared.tree.Declaration.TheVariants as OfDeclaration
use Rattle.kk_syntax.specs.declared.tree.FunctionDeclaration.{FunctionDeclaration}
use Rattle.kk_syntax.specs.declared.tree.Identifier.{Identifier}
use Rattle.kk_syntax.specs.declared.tree.SurfaceExpr.{SurfaceExpr}
use Rattle.kk_syntax.specs.declared.tree.SurfaceExpr.TheVariants as surface
use Rattle.kk_syntax.specs.declared.tree.SurfaceExpr.TheOpen as Of
use Rattle.kk_syntax.specs.declared.tree.SurfaceExpr.TheFolds.{fold-roll-SurfaceExpr, fold_out-SurfaceExpr, fold_out-SurfaceRow, fold_out-SurfaceStatement}
use Rattle.kk_syntax.specs.declared.tree.SurfaceRow.{SurfaceRow}
use Rattle.kk_syntax.specs.declared.tree.SurfaceStatement.{SurfaceStatement}
use Rattle.kk_syntax.specs.Depths.{deepest, body_depth, pattern_depth, patterns_depth, surface_step, surface_row_step, surface_statement_step, surface_depth, surface_row_depth, surface_statement_depth, depth_of_pattern, depth_of_patterns, depth_step, row_depth_step, statement_depth_step, depth_of, depth_of_row, depth_of_statement}
use Rattle.kk_syntax.specs.Patterns.{Patterns, pattern_tree}
use Rattle.kk_syntax.specs.Surface.{WrittenPattern, anything, pattern_variable, exactly, constructor, WrittenPatterns, no_part, part, written_pattern}
use Rattle.kk_names.specs.declared.table.Callee.{Callee}
use Rattle.kk_names.specs.Expressions.{pattern_of, constructed, pattern_meant, parts_meant}
use Rattle.kk_names.specs.Names.{KeepsDepth}
use Rattle.kk_names.specs.Scopes.{Before, past_pattern}
use Rattle.kk_names.specs.Tables.{Known, meaning_in}

-- ---- the greatest of depths

deepest_more : {A : Type 0} (f : A → ℕ) (xs : List A) (x : A) → deepest (map f (xs ++ x ∷ [])) ≡ max (deepest (map f xs)) (f x)
deepest_more f [] x = omega arith
deepest_more f (y ∷ ys) x = omega (arith, deepest_more f ys x)

each_below : {A : Type 0} (f : A → ℕ) (most : ℕ) (xs : List A) → deepest (map f xs) ≤ most → All (λ x. f x ≤ most) xs
each_below f most [] h = All-nil (λ x. f x ≤ most)
each_below f most (x ∷ xs) h = All-cons (λ x. f x ≤ most) x xs (omega (arith, h)) (each_below f most xs (omega (arith, h)))

pub one_below : {A : Type 0} (f : A → ℕ) (xs : List A) (i : ℕ) (x : A) → x ≡ get_or xs i x → i < length xs → f x ≤ deepest (map f xs)
one_below f xs i x is less = subst (λ y. f y ≤ deepest (map f xs)) (sym is) (All-get_or (λ y. f y ≤ deepest (map f xs)) xs i x less (each_below f (deepest (map f xs)) xs (omega arith)))

-- what was made of some items is no deeper than all of them are, and so with one more
pub more_below : {A B : Type 0} (f : A → ℕ) (g : B → ℕ) (made after : List A) (x : A) (all : List B) (i : ℕ) (y : B) → after ≡ made ++ x ∷ [] → y ≡ get_or all i y → i < length all
    → deepest (map f made) ≤ deepest (map g all) → f x ≤ g y → deepest (map f after) ≤ deepest (map g all)
more_below f g made after x all i y items is less before one =
    subst (λ xs. deepest (map f xs) ≤ deepest (map g all)) (sym items) (omega (arith, deepest_more f made x, one_below g all i y is less, before, one))

-- ---- expressions as they are spelled, by their forms

step_some : (f : Of.SurfaceExpr-F ℕ ℕ ℕ) → 1 ≤ surface_step f
step_some (Of.Number value) = omega arith
step_some Of.Unit = omega arith
step_some (Of.Variable name) = omega arith
step_some (Of.Call name arguments) = omega arith
step_some (Of.DotCall first name others) = omega arith
step_some (Of.Construct name arguments) = omega arith
step_some (Of.Unary operator operand) = omega arith
step_some (Of.Binary operator left right) = omega arith
step_some (Of.And left right) = omega arith
step_some (Of.Or left right) = omega arith
step_some (Of.PrintText form text) = omega arith
step_some (Of.If condition positive None) = omega arith
step_some (Of.If condition positive (Some negative)) = omega arith
step_some (Of.Match scrutinee rows) = omega arith
step_some (Of.Block statements value) = omega arith

pub some_depth : (e : SurfaceExpr) → 1 ≤ surface_depth e
some_depth e = subst (λ n. 1 ≤ n) (sym (fold_out-SurfaceExpr ℕ ℕ ℕ surface_step surface_row_step surface_statement_step e)) (step_some _)

pub call_depth : (e : SurfaceExpr) (name : Identifier) (arguments : _) (es : List SurfaceExpr) → e ≡ surface.Call name arguments → es ≡ arguments.items
    → surface_depth e ≡ deepest (map surface_depth es) + 1
call_depth e name arguments es is items =
    ap surface_depth (is ∙ sym (surface.rolls-Call name arguments))
    ∙ (fold-roll-SurfaceExpr ℕ ℕ ℕ surface_step surface_row_step surface_statement_step _ ∙ ap (λ all. deepest (map surface_depth all) + 1) (sym items))

pub construct_depth : (e : SurfaceExpr) (name : Identifier) (arguments : _) (es : List SurfaceExpr) → e ≡ surface.Construct name arguments → es ≡ arguments.items
    → surface_depth e ≡ deepest (map surface_depth es) + 1
construct_depth e name arguments es is items =
    ap surface_depth (is ∙ sym (surface.rolls-Construct name arguments))
    ∙ (fold-roll-SurfaceExpr ℕ ℕ ℕ surface_step surface_row_step surface_statement_step _ ∙ ap (λ all. deepest (map surface_depth all) + 1) (sym items))

pub row_depth : (r : SurfaceRow) → surface_row_depth r ≡ max (pattern_depth (written_pattern r.pattern)) (surface_depth r.body)
row_depth r = fold_out-SurfaceRow ℕ ℕ ℕ surface_step surface_row_step surface_statement_step r

pub statement_depth : (s : SurfaceStatement) → surface_statement_depth s ≡ surface_depth s.value
statement_depth s = fold_out-SurfaceStatement ℕ ℕ ℕ surface_step surface_row_step surface_statement_step s

-- ---- expressions of a program, by their forms

pub apply_deep : (form : Form) (arguments : _) → depth_of (OfExpr.Apply form arguments) ≡ deepest (map depth_of arguments.items) + 1
apply_deep form arguments =
    ap depth_of (sym (OfExpr.rolls-Apply form arguments)) ∙ fold-roll-Expr ℕ ℕ ℕ depth_step row_depth_step statement_depth_step _

pub match_deep : (scrutinee : _) (rows : _) → depth_of (OfExpr.Match scrutinee rows) ≡ max (depth_of scrutinee.value) (deepest (map depth_of_row rows.items)) + 1
match_deep scrutinee rows =
    ap depth_of (sym (OfExpr.rolls-Match scrutinee rows)) ∙ fold-roll-Expr ℕ ℕ ℕ depth_step row_depth_step statement_depth_step _

pub block_deep : (ss : _) (e : _) → depth_of (OfExpr.Block ss e) ≡ max (deepest (map depth_of_statement ss.items)) (depth_of e.value) + 1
block_deep ss e =
    ap depth_of (sym (OfExpr.rolls-Block ss e)) ∙ fold-roll-Expr ℕ ℕ ℕ depth_step row_depth_step statement_depth_step _

pub row_deep : (r : Row) → depth_of_row r ≡ max (depth_of_pattern (pattern_tree r.pattern)) (depth_of r.body)
row_deep r = fold_out-Row ℕ ℕ ℕ depth_step row_depth_step statement_depth_step r

pub statement_deep : (s : Statement) → depth_of_statement s ≡ depth_of s.value
statement_deep s = fold_out-Statement ℕ ℕ ℕ depth_step row_depth_step statement_depth_step s

-- ---- patterns

form_below : (form : Form) (parts : Patterns) → depth_of_pattern (pattern_of form parts) ≤ depth_of_patterns parts + 1
form_below (OfForm.Construct by) parts = omega arith
form_below _ parts = omega arith

constructed_below : (callee : Option Callee) (parts : Patterns) → depth_of_pattern (constructed callee parts) ≤ depth_of_patterns parts + 1
constructed_below None parts = omega arith
constructed_below (Some callee) parts = form_below callee.form parts

mutual
  pub pattern_below : (known : Known) (before : Before) (p : WrittenPattern) → depth_of_pattern (pattern_meant known before p) ≤ pattern_depth p
  pattern_below known before anything = omega arith
  pattern_below known before (pattern_variable name) = omega arith
  pattern_below known before (exactly value) = omega arith
  pattern_below known before (constructor name parts) =
      omega (arith, constructed_below (meaning_in known.constructors name.name) (parts_meant known before parts), parts_below known before parts)

  parts_below : (known : Known) (before : Before) (ps : WrittenPatterns) → depth_of_patterns (parts_meant known before ps) ≤ patterns_depth ps
  parts_below known before no_part = omega arith
  parts_below known before (part first rest) = omega (arith, pattern_below known before first, parts_below known (past_pattern first before) rest)

-- ---- functions

-- one more function, no deeper than its declaration
pub function_keeps : (ds : List Declaration) (made after : List Fun) (f : Fun) (i : ℕ) (d : Declaration) (declared : FunctionDeclaration)
    → KeepsDepth ds made → after ≡ made ++ f ∷ [] → d ≡ get_or ds i d → i < length ds → d ≡ OfDeclaration.Function declared → depth_of f.body ≤ surface_depth declared.body → KeepsDepth ds after
function_keeps ds made after f i d declared before items is less function one most h =
    let below : body_depth d ≤ most = subst (λ x. body_depth x ≤ most) (sym is) (All-get_or (λ d. body_depth d ≤ most) ds i d less h) in
    let same : body_depth d ≡ surface_depth declared.body = ap body_depth function in
    let last : depth_of f.body ≤ most = omega (arith, one, same, below) in
    subst (λ fs. All (λ f. depth_of f.body ≤ most) fs) (sym items)
    (All-append (λ f. depth_of f.body ≤ most) made (f ∷ []) (before most h) (All-cons (λ f. depth_of f.body ≤ most) f [] last (All-nil (λ f. depth_of f.body ≤ most))))
