-- Expressions of the program as trees, by their forms. Each crate that walks over expressions in memory needs these.
use Rattle.std.proofs.Common.{◌≡◌, ℕ, List, map, ap, sym, ◌∙◌}
use Rattle.kk_syntax.specs.declared.program.Expr.{Expr}
use Rattle.kk_syntax.specs.declared.program.Expr.TheVariants.{Variable, Apply, If, Match, Block, rolls-Variable, rolls-Apply, rolls-If, rolls-Match, rolls-Block}
use Rattle.kk_syntax.specs.declared.program.Expr.TheFolds.{fold-roll-Expr, fold_out-Row, fold_out-Statement}
use Rattle.kk_syntax.specs.declared.program.Row.{Row}
use Rattle.kk_syntax.specs.declared.program.Statement.{Statement}
use Rattle.kk_syntax.specs.Patterns.{pattern_tree}
use Rattle.kk_syntax.specs.Trees.{Tree, variable, apply, branch, match, trees_of, rows_of, block_of, RowTree, row_parts, StatementTree, expr_step, row_step, statement_step, expr_tree, row_tree, statement_tree}

pub variable_tree : (of : ℕ) → expr_tree (Variable of) ≡ variable of
variable_tree of = ap expr_tree (sym (rolls-Variable of)) ∙ fold-roll-Expr Tree RowTree StatementTree expr_step row_step statement_step _

pub apply_tree : (form : _) (arguments : _) → expr_tree (Apply form arguments) ≡ apply form (trees_of (map expr_tree arguments.items))
apply_tree form arguments =
    ap expr_tree (sym (rolls-Apply form arguments)) ∙ fold-roll-Expr Tree RowTree StatementTree expr_step row_step statement_step _

pub branch_tree : (condition : _) (positive : _) (negative : _) → expr_tree (If condition positive negative) ≡ branch (expr_tree condition.value) (expr_tree positive.value) (expr_tree negative.value)
branch_tree condition positive negative =
    ap expr_tree (sym (rolls-If condition positive negative)) ∙ fold-roll-Expr Tree RowTree StatementTree expr_step row_step statement_step _

pub match_tree : (scrutinee : _) (rows : _) → expr_tree (Match scrutinee rows) ≡ match (expr_tree scrutinee.value) (rows_of (map row_tree rows.items))
match_tree scrutinee rows =
    ap expr_tree (sym (rolls-Match scrutinee rows)) ∙ fold-roll-Expr Tree RowTree StatementTree expr_step row_step statement_step _

pub block_tree : (ss : _) (e : _) → expr_tree (Block ss e) ≡ block_of (map statement_tree ss.items) (expr_tree e.value)
block_tree ss e =
    ap expr_tree (sym (rolls-Block ss e)) ∙ fold-roll-Expr Tree RowTree StatementTree expr_step row_step statement_step _

-- an expression whose form is known, with its parts read elsewhere
pub variable_is : (e : Expr) (of : ℕ) → e ≡ Variable of → expr_tree e ≡ variable of
variable_is e of is = ap expr_tree is ∙ variable_tree of

pub apply_is : (e : Expr) (form : _) (arguments : _) (items : List Expr) → e ≡ Apply form arguments → items ≡ arguments.items → expr_tree e ≡ apply form (trees_of (map expr_tree items))
apply_is e form arguments items is same =
    ap expr_tree is ∙ (apply_tree form arguments ∙ ap (λ es. apply form (trees_of (map expr_tree es))) (sym same))

pub branch_is : (e x y z : Expr) (condition : _) (positive : _) (negative : _) → e ≡ If condition positive negative → x ≡ condition.value → y ≡ positive.value → z ≡ negative.value → expr_tree e ≡ branch (expr_tree x) (expr_tree y) (expr_tree z)
branch_is e x y z condition positive negative is first second third =
    ap expr_tree is
    ∙ (branch_tree condition positive negative
    ∙ (ap (λ u. branch (expr_tree u) (expr_tree positive.value) (expr_tree negative.value)) (sym first)
    ∙ (ap (λ u. branch (expr_tree x) (expr_tree u) (expr_tree negative.value)) (sym second)
    ∙ ap (λ u. branch (expr_tree x) (expr_tree y) (expr_tree u)) (sym third))))

pub match_is : (e x : Expr) (rows : List Row) (scrutinee : _) (items : _) → e ≡ Match scrutinee items → x ≡ scrutinee.value → rows ≡ items.items → expr_tree e ≡ match (expr_tree x) (rows_of (map row_tree rows))
match_is e x rows scrutinee items is first second =
    ap expr_tree is
    ∙ (match_tree scrutinee items
    ∙ (ap (λ u. match (expr_tree u) (rows_of (map row_tree items.items))) (sym first)
    ∙ ap (λ rs. match (expr_tree x) (rows_of (map row_tree rs))) (sym second)))

pub block_is : (e x : Expr) (all : List Statement) (statements : _) (value : _) → e ≡ Block statements value → all ≡ statements.items → x ≡ value.value → expr_tree e ≡ block_of (map statement_tree all) (expr_tree x)
block_is e x all statements value is first second =
    ap expr_tree is
    ∙ (block_tree statements value
    ∙ (ap (λ ss. block_of (map statement_tree ss) (expr_tree value.value)) (sym first)
    ∙ ap (λ u. block_of (map statement_tree all) (expr_tree u)) (sym second)))

-- rows and statements by their parts
pub statement_tree_is : (s : Statement) → statement_tree s ≡ record { binder = s.binder; value = expr_tree s.value }
statement_tree_is s = fold_out-Statement Tree RowTree StatementTree expr_step row_step statement_step s

pub row_tree_is : (r : Row) → row_tree r ≡ row_parts (pattern_tree r.pattern) (expr_tree r.body)
row_tree_is r = fold_out-Row Tree RowTree StatementTree expr_step row_step statement_step r
