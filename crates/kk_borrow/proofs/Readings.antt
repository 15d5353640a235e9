-- The rules of an expression, read one part after the other; and what one part more is for a loop over parts.
use Rattle.std.proofs.Common.{◌≡◌, ◌<◌, ◌+◌, ◌||◌, ◌&&◌, ℕ, Bool, List, ◌++◌, map, length, drop, get_or, sym, ap, ◌∙◌, append_assoc}
use Rattle.std.proofs.Math.Bool.{or_assoc}
use Rattle.kk_syntax.specs.declared.program.Expr.{Expr}
use Rattle.kk_syntax.specs.declared.program.Form.{Form}
use Rattle.kk_syntax.specs.declared.program.Row.{Row}
use Rattle.kk_syntax.specs.declared.program.Statement.{Statement}
use Rattle.kk_syntax.specs.OwnedPositions.{is_val, opens, builds, builds_any, builds_rows, reuses}
use Rattle.kk_syntax.specs.OwnedSearch.{builds_statements}
use Rattle.kk_syntax.specs.Patterns.{pattern_tree}
use Rattle.kk_syntax.specs.Trees.{Tree, branch, match, Rows, expr_tree, trees_of, row_tree, rows_of, statement_tree}
use Rattle.kk_syntax.proofs.ProgramTrees.{next_expr, next_row, next_statement}
use Rattle.kk_borrow.specs.declared.owned_place.Place.{Place}
use Rattle.kk_borrow.specs.declared.owned_place.Place.TheVariants.{Never, Always}
use Rattle.kk_borrow.specs.Rules.{RuleTree}
use Rattle.kk_borrow.specs.Demands.{place_in, place_if, placed, placed_all, placed_rows}
use Rattle.kk_borrow.specs.Statements.{placed_statements}

-- ---- an `if` and a match

-- the rules of two parts, added one after the other
both_rules : (old one two first second : List RuleTree) → one ≡ old ++ first → two ≡ one ++ second → two ≡ old ++ (first ++ second)
both_rules old one two first second is then =
    then ∙ (ap (λ (rules : List RuleTree). rules ++ second) is ∙ append_assoc old first second)

pub branch_rules : (f : ℕ) (place : Place) (t x y z : Tree) → t ≡ branch x y z → (old one two three : List RuleTree)
    → one ≡ old ++ placed f Never x → two ≡ one ++ placed f Always y → three ≡ two ++ placed f Always z
    → three ≡ old ++ placed f place t
branch_rules f place t x y z is old one two three first second third =
    both_rules old one three (placed f Never x) (placed f Always y ++ placed f Always z) first
    (both_rules one two three (placed f Always y) (placed f Always z) second third)
    ∙ ap (λ (e : Tree). old ++ placed f place e) (sym is)

pub match_rules : (f : ℕ) (place at : Place) (t x : Tree) (rows : Rows) → t ≡ match x rows → (opened : Bool) → opened ≡ reuses rows
    → at ≡ place_if opened → (old one two : List RuleTree) → one ≡ old ++ placed_rows f rows → two ≡ one ++ placed f at x
    → two ≡ old ++ placed f place t
match_rules f place at t x rows is opened opened_is at_is old one two first second =
    both_rules old one two (placed_rows f rows) (placed f at x) first second
    ∙ (ap (λ (p : Place). old ++ (placed_rows f rows ++ placed f p x)) (at_is ∙ ap place_if opened_is)
    ∙ ap (λ (e : Tree). old ++ placed f place e) (sym is))

-- ---- one part more

-- the rules of a part, and of those behind it
rules_more : (old new here rest all whole : List RuleTree) → new ≡ old ++ here → all ≡ here ++ rest → old ++ all ≡ whole
    → new ++ rest ≡ whole
rules_more old new here rest all whole read all_is so_far =
    ap (λ (rules : List RuleTree). rules ++ rest) read
    ∙ (append_assoc old here rest ∙ (ap (λ (rules : List RuleTree). old ++ rules) (sym all_is) ∙ so_far))

-- whether a part holds something, or those behind it do
any_more : (old here rest all whole : Bool) → all ≡ (here || rest) → (old || all) ≡ whole → ((old || here) || rest) ≡ whole
any_more old here rest all whole all_is so_far = or_assoc old here rest ∙ (ap (λ (b : Bool). old || b) (sym all_is) ∙ so_far)

module _ (es : List Expr) (i : ℕ) (e : Expr) (less : i < length es) (is : e ≡ get_or es i e) where
  pub argument_rules : (f : ℕ) (form : Form) (at : Place) → at ≡ place_in form i → (old new whole : List RuleTree)
      → new ≡ old ++ placed f at (expr_tree e)
      → old ++ placed_all f form i (trees_of (map expr_tree (drop i es))) ≡ whole
      → new ++ placed_all f form (i + 1) (trees_of (map expr_tree (drop (i + 1) es))) ≡ whole
  argument_rules f form at at_is old new whole read so_far =
      let rest = placed_all f form (i + 1) (trees_of (map expr_tree (drop (i + 1) es))) in
      rules_more old new (placed f at (expr_tree e)) rest (placed_all f form i (trees_of (map expr_tree (drop i es)))) whole read
      (ap (placed_all f form i) (next_expr es i e is less)
      ∙ ap (λ (p : Place). placed f p (expr_tree e) ++ rest) (sym at_is))
      so_far

  pub argument_builds : (old built whole : Bool) → built ≡ builds (expr_tree e)
      → (old || builds_any (trees_of (map expr_tree (drop i es)))) ≡ whole
      → ((old || built) || builds_any (trees_of (map expr_tree (drop (i + 1) es)))) ≡ whole
  argument_builds old built whole built_is so_far =
      let rest = builds_any (trees_of (map expr_tree (drop (i + 1) es))) in
      any_more old built rest (builds_any (trees_of (map expr_tree (drop i es)))) whole
      (ap builds_any (next_expr es i e is less)
      ∙ ap (λ (b : Bool). b || rest) (sym built_is))
      so_far

module _ (rs : List Row) (i : ℕ) (r : Row) (less : i < length rs) (is : r ≡ get_or rs i r) where
  pub row_rules : (f : ℕ) (old new whole : List RuleTree) → new ≡ old ++ placed f Always (expr_tree r.body)
      → old ++ placed_rows f (rows_of (map row_tree (drop i rs))) ≡ whole
      → new ++ placed_rows f (rows_of (map row_tree (drop (i + 1) rs))) ≡ whole
  row_rules f old new whole read so_far =
      rules_more old new (placed f Always (expr_tree r.body)) (placed_rows f (rows_of (map row_tree (drop (i + 1) rs))))
      (placed_rows f (rows_of (map row_tree (drop i rs)))) whole read (ap (placed_rows f) (next_row rs i r is less)) so_far

  pub row_builds : (old built whole : Bool) → built ≡ builds (expr_tree r.body)
      → (old || builds_rows (rows_of (map row_tree (drop i rs)))) ≡ whole
      → ((old || built) || builds_rows (rows_of (map row_tree (drop (i + 1) rs)))) ≡ whole
  row_builds old built whole built_is so_far =
      let rest = builds_rows (rows_of (map row_tree (drop (i + 1) rs))) in
      any_more old built rest (builds_rows (rows_of (map row_tree (drop i rs)))) whole
      (ap builds_rows (next_row rs i r is less) ∙ ap (λ (b : Bool). b || rest) (sym built_is)) so_far

  pub row_reuses : (old opened built whole : Bool) → opened ≡ opens (pattern_tree r.pattern) → built ≡ builds (expr_tree r.body)
      → (old || reuses (rows_of (map row_tree (drop i rs)))) ≡ whole
      → ((old || (opened && built)) || reuses (rows_of (map row_tree (drop (i + 1) rs)))) ≡ whole
  row_reuses old opened built whole opened_is built_is so_far =
      let rest = reuses (rows_of (map row_tree (drop (i + 1) rs))) in
      any_more old (opened && built) rest (reuses (rows_of (map row_tree (drop i rs)))) whole
      (ap reuses (next_row rs i r is less)
      ∙ (ap (λ (b : Bool). (b && builds (expr_tree r.body)) || rest) (sym opened_is)
      ∙ ap (λ (b : Bool). (opened && b) || rest) (sym built_is)))
      so_far

module _ (ss : List Statement) (i : ℕ) (s : Statement) (less : i < length ss) (is : s ≡ get_or ss i s) where
  pub statement_rules : (f : ℕ) (at : Place) (val : Bool) → at ≡ place_if val → val ≡ is_val s.binder
      → (old new whole : List RuleTree) → new ≡ old ++ placed f at (expr_tree s.value)
      → old ++ placed_statements f (map statement_tree (drop i ss)) ≡ whole
      → new ++ placed_statements f (map statement_tree (drop (i + 1) ss)) ≡ whole
  statement_rules f at val at_is val_is old new whole read so_far =
      let rest = placed_statements f (map statement_tree (drop (i + 1) ss)) in
      rules_more old new (placed f at (expr_tree s.value)) rest (placed_statements f (map statement_tree (drop i ss))) whole read
      (ap (placed_statements f) (next_statement ss i s is less)
      ∙ ap (λ (p : Place). placed f p (expr_tree s.value) ++ rest) (sym (at_is ∙ ap place_if val_is)))
      so_far

  pub statement_builds : (old built whole : Bool) → built ≡ builds (expr_tree s.value)
      → (old || builds_statements (map statement_tree (drop i ss))) ≡ whole
      → ((old || built) || builds_statements (map statement_tree (drop (i + 1) ss))) ≡ whole
  statement_builds old built whole built_is so_far =
      let rest = builds_statements (map statement_tree (drop (i + 1) ss)) in
      any_more old built rest (builds_statements (map statement_tree (drop i ss))) whole
      (ap builds_statements (next_statement ss i s is less) ∙ ap (λ (b : Bool). b || rest) (sym built_is)) so_far
