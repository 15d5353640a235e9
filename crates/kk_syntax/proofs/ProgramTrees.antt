-- The expressions, the rows, the parts of a pattern and the statements that are left in a loop, as trees.
use Rattle.std.proofs.Common.{◌≡◌, ℕ, ◌+◌, ◌<◌, List, ◌∷◌, length, map, drop, get_or, ap, ◌∙◌}
use Rattle.kk_base.proofs.Lists.{rest_at}
use Rattle.kk_syntax.specs.declared.program.Expr.{Expr}
use Rattle.kk_syntax.specs.declared.program.Pat.{Pat}
use Rattle.kk_syntax.specs.declared.program.Row.{Row}
use Rattle.kk_syntax.specs.declared.program.Statement.{Statement}
use Rattle.kk_syntax.specs.Patterns.{part, pattern_tree, patterns_of}
use Rattle.kk_syntax.specs.Trees.{expr_tree, row_tree, rows_of, row, row_parts, statement_tree, trees_of, tree}
use Rattle.kk_syntax.proofs.Views.{row_tree_is, statement_tree_is}

-- the first of the expressions that are left
pub next_expr : (es : List Expr) (i : ℕ) (e : Expr) → e ≡ get_or es i e → i < length es
    → trees_of (map expr_tree (drop i es)) ≡ tree (expr_tree e) (trees_of (map expr_tree (drop (i + 1) es)))
next_expr es i e is less = ap (λ all. trees_of (map expr_tree all)) (rest_at es i e less is)

-- the first of the rows that are left
pub next_row : (rs : List Row) (i : ℕ) (r : Row) → r ≡ get_or rs i r → i < length rs
    → rows_of (map row_tree (drop i rs)) ≡ row (row_parts (pattern_tree r.pattern) (expr_tree r.body))
    (rows_of (map row_tree (drop (i + 1) rs)))
next_row rs i r is less =
    ap (λ all. rows_of (map row_tree all)) (rest_at rs i r less is)
    ∙ ap (λ one. row one (rows_of (map row_tree (drop (i + 1) rs)))) (row_tree_is r)

-- the first of the parts of a pattern that are left
pub next_part : (ps : List Pat) (i : ℕ) (p : Pat) → p ≡ get_or ps i p → i < length ps
    → patterns_of (map pattern_tree (drop i ps)) ≡ part (pattern_tree p) (patterns_of (map pattern_tree (drop (i + 1) ps)))
next_part ps i p is less = ap (λ all. patterns_of (map pattern_tree all)) (rest_at ps i p less is)

-- the first of the statements that are left
pub next_statement : (ss : List Statement) (i : ℕ) (s : Statement) → s ≡ get_or ss i s → i < length ss
    → map statement_tree (drop i ss) ≡ record { binder = s.binder; value = expr_tree s.value } ∷ map statement_tree
    (drop (i + 1) ss)
next_statement ss i s is less =
    ap (map statement_tree) (rest_at ss i s less is) ∙ ap (λ one. one ∷ map statement_tree (drop (i + 1) ss)) (statement_tree_is s)
