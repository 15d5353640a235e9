-- The expressions that are made are no deeper in memory than the expressions that they stand for.
use Rattle.std.proofs.Common.{◌≡◌, ℕ, ℤ, ◌+◌, ◌<◌, ◌≤◌, max, List, [], ◌∷◌, ◌++◌, length, map, Option, Some, None, Result, Ok, Err, IfOk, refl, sym, ap, ◌∙◌, subst, arith}
use Rattle.std.specs.Prelude.{All, IfSome}
use Rattle.std.specs.Global.{Box, Vec}
use Rattle.std.proofs.lemmas.List.{map-append}
use Rattle.std.proofs.lemmas.List.Elements.{All-nil, All-cons, All-head, All-tail, All-append}
use Rattle.kk_syntax.specs.declared.operator.PrintForm.{PrintForm}
use Rattle.kk_syntax.specs.declared.tree.Identifier.{Identifier}
use Rattle.kk_syntax.specs.declared.tree.SurfaceExpr.{SurfaceExpr}
use Rattle.kk_syntax.specs.declared.tree.SurfaceExpr.TheVariants.{Number, rolls-Number, Unit, rolls-Unit, Variable, rolls-Variable, PrintText, rolls-PrintText, Call, rolls-Call, DotCall, rolls-DotCall, Construct, rolls-Construct, Block, rolls-Block, If, rolls-If, Unary, rolls-Unary, Binary, rolls-Binary, And, rolls-And, Or, rolls-Or, Match, rolls-Match}
use Rattle.kk_syntax.specs.declared.tree.SurfaceExpr.TheOpen as Of
use Rattle.kk_syntax.specs.declared.tree.SurfaceExpr.TheViews.{roll-SurfaceExpr, out-SurfaceExpr, roll-out-SurfaceExpr}
use Rattle.kk_syntax.specs.declared.tree.SurfaceExpr.TheFolds.{fold-roll-SurfaceExpr, fold_out-SurfaceRow, fold_out-SurfaceStatement}
use Rattle.kk_syntax.specs.declared.tree.SurfaceRow.{SurfaceRow}
use Rattle.kk_syntax.specs.declared.tree.SurfaceStatement.{SurfaceStatement}
use Rattle.kk_syntax.specs.declared.tree.Declaration.{Declaration}
use Rattle.kk_syntax.specs.declared.tree.Declaration.TheVariants as OfDeclaration
use Rattle.kk_syntax.specs.Depths.{deepest, surface_step, surface_row_step, surface_statement_step, surface_depth, surface_row_depth, surface_statement_depth, body_depth}
use Rattle.kk_syntax.specs.Surface.{Written, WrittenRow, WrittenStatement, expr_step, row_step, statement_step, written_declaration, written_expr, written_row, written_statement, number, unit, variable, print_text, call, dot_call, construct, branch, branch_alone, writtens_of, block_of, unary, binary, both, either, match, rows_of}
use Rattle.kk_parser.specs.declared.fault.Fault.{Fault}
use Rattle.kk_parser.specs.Depths.{pattern_depth, with_rest, written_depth, writtens_depth, rows_depth, IsNoDeeper, AreNoDeeper, RowsAreNoDeeper, StatementsAreNoDeeper, BodyIsNoDeeper, deepest_body, IsShallow, most_levels}
use Rattle.kk_parser.specs.Methods.{Makes}
use Rattle.kk_parser.specs.Views.{boxed_expr}
use Rattle.kk_parser.proofs.Blocks.{block_of-append}
use Rattle.kk_parser.proofs.Depths.{with_rest_least}
use Rattle.kk_parser.proofs.Trees.{in_box, written-Number, written-Unit, written-Variable, written-PrintText, written-Call, written-DotCall, written-Construct, written-Block, written-If, written-If_alone, written-statement, written-Unary, written-Binary, written-And, written-Or, written-Match, written-row}

-- an expression is as deep as its form says, in memory and as it is written
by_form : (e : SurfaceExpr) (n : ℕ) (w : Written) → surface_depth e ≡ n → written_expr e ≡ w → n ≤ written_depth w → IsNoDeeper e
by_form e n w d s h = omega (arith, d, ap written_depth s, h)

-- what was made was put in a box
pub in_box_under : {A : Type 0} (P : A → Type 0) (r : Result (Box A) Fault) (x : A) → Makes (λ b. b.value) x r → P x → IfOk r (λ b. P b.value)
in_box_under P (Ok b) x h p = subst P (sym h) p
in_box_under P (Err y) x h p = tt

pub box_under : (r : Result (Box SurfaceExpr) Fault) (e : SurfaceExpr) → Makes (λ b. b.value) e r → IsNoDeeper e → IfOk r (λ b. IsNoDeeper b.value)
box_under r e h d = in_box_under IsNoDeeper r e h d

-- arguments that were given
pub given_under : (o : Option (Vec SurfaceExpr)) (given : Vec SurfaceExpr) → IfSome o (λ es. AreNoDeeper es.items) → o ≡ Some given → AreNoDeeper given.items
given_under o given h is = subst (λ (x : Option (Vec SurfaceExpr)). IfSome x (λ es. AreNoDeeper es.items)) is h

-- ---- lists

expressions_under : (es : List SurfaceExpr) → AreNoDeeper es → deepest (map surface_depth es) ≤ writtens_depth (writtens_of (map written_expr es))
expressions_under [] h = omega arith
expressions_under (e ∷ es) h = omega (arith, All-head IsNoDeeper e es h, expressions_under es (All-tail IsNoDeeper e es h))

row_under : (r : SurfaceRow) → IsNoDeeper r.body → surface_row_depth r ≤ max (pattern_depth (written_row r).pattern) (written_depth (written_row r).body)
row_under r h =
    let m = ap (λ x. max (pattern_depth x.pattern) (written_depth x.body)) (written-row r) in
    omega (arith, m, fold_out-SurfaceRow ℕ ℕ ℕ surface_step surface_row_step surface_statement_step r, h)

rows_under : (rs : List SurfaceRow) → RowsAreNoDeeper rs → deepest (map surface_row_depth rs) ≤ rows_depth (rows_of (map written_row rs))
rows_under [] h = omega arith
rows_under (r ∷ rs) h = omega (arith, row_under r (All-head (λ r. IsNoDeeper r.body) r rs h), rows_under rs (All-tail (λ r. IsNoDeeper r.body) r rs h))

statement_under : (s : SurfaceStatement) → IsNoDeeper s.value → surface_statement_depth s ≤ written_depth (written_statement s).value
statement_under s h =
    omega (arith, ap (λ x. written_depth x.value) (written-statement s), fold_out-SurfaceStatement ℕ ℕ ℕ surface_step surface_row_step surface_statement_step s, h)

-- statements, and something behind them that is n deep in memory
statements_under : (ss : List SurfaceStatement) (last : Written) (n : ℕ) → StatementsAreNoDeeper ss → n + 1 ≤ with_rest last (written_depth last)
    → max (deepest (map surface_statement_depth ss)) n + 1 ≤ with_rest (block_of (map written_statement ss) last) (written_depth (block_of (map written_statement ss) last))
statements_under [] last n h d = omega (arith, d)
statements_under (s ∷ ss) last n h d =
    omega (arith, statement_under s (All-head (λ s. IsNoDeeper s.value) s ss h), statements_under ss last n (All-tail (λ s. IsNoDeeper s.value) s ss h) d)

some_statements_under : (ss : List SurfaceStatement) (last : Written) (n : ℕ) → 0 < length ss → StatementsAreNoDeeper ss → n + 1 ≤ with_rest last (written_depth last)
    → max (deepest (map surface_statement_depth ss)) n + 1 ≤ written_depth (block_of (map written_statement ss) last)
some_statements_under [] last n some h d = absurd (omega (arith, some))
some_statements_under (s ∷ ss) last n some h d = statements_under (s ∷ ss) last n h d

-- one more behind others
pub one_more_under : {A : Type 0} (P : A → Type 0) (before after : List A) (x : A) → after ≡ before ++ x ∷ [] → All P before → P x → All P after
one_more_under P before after x is h p = subst (All P) (sym is) (All-append P before (x ∷ []) h (All-cons P x [] p (All-nil P)))

-- ---- forms

pub number_under : (value : ℤ) → IsNoDeeper (Number value)
number_under value =
    by_form (Number value) (1) (number value) (ap surface_depth (sym (rolls-Number value)) ∙ fold-roll-SurfaceExpr ℕ ℕ ℕ surface_step surface_row_step surface_statement_step _)
    (written-Number value) (omega arith)

pub unit_under : IsNoDeeper (Unit)
unit_under =
    by_form (Unit) (1) (unit) (ap surface_depth (sym rolls-Unit) ∙ fold-roll-SurfaceExpr ℕ ℕ ℕ surface_step surface_row_step surface_statement_step _)
    (written-Unit) (omega arith)

pub variable_under : (name : Identifier) → IsNoDeeper (Variable name)
variable_under name =
    by_form (Variable name) (1) (variable name) (ap surface_depth (sym (rolls-Variable name)) ∙ fold-roll-SurfaceExpr ℕ ℕ ℕ surface_step surface_row_step surface_statement_step _)
    (written-Variable name) (omega arith)

pub print_text_under : (form : PrintForm) (text : List ℕ) → IsNoDeeper (PrintText form text)
print_text_under form text =
    by_form (PrintText form text) (1) (print_text form text) (ap surface_depth (sym (rolls-PrintText form text)) ∙ fold-roll-SurfaceExpr ℕ ℕ ℕ surface_step surface_row_step surface_statement_step _)
    (written-PrintText form text) (omega arith)

pub call_under : (name : Identifier) (arguments : Vec SurfaceExpr) → AreNoDeeper arguments.items → IsNoDeeper (Call name arguments)
call_under name arguments h =
    by_form (Call name arguments) (deepest (map surface_depth arguments.items) + 1) (call name (writtens_of (map written_expr arguments.items))) (ap surface_depth (sym (rolls-Call name arguments)) ∙ fold-roll-SurfaceExpr ℕ ℕ ℕ surface_step surface_row_step surface_statement_step _)
    (written-Call name arguments) (omega (arith, expressions_under arguments.items h))

pub construct_under : (name : Identifier) (arguments : Vec SurfaceExpr) → AreNoDeeper arguments.items → IsNoDeeper (Construct name arguments)
construct_under name arguments h =
    by_form (Construct name arguments) (deepest (map surface_depth arguments.items) + 1) (construct name (writtens_of (map written_expr arguments.items))) (ap surface_depth (sym (rolls-Construct name arguments)) ∙ fold-roll-SurfaceExpr ℕ ℕ ℕ surface_step surface_row_step surface_statement_step _)
    (written-Construct name arguments) (omega (arith, expressions_under arguments.items h))

pub dot_call_under : (first : Box SurfaceExpr) (name : Identifier) (others : Vec SurfaceExpr) → IsNoDeeper first.value → AreNoDeeper others.items → IsNoDeeper (DotCall first name others)
dot_call_under first name others h k =
    by_form (DotCall first name others) (max (surface_depth first.value) (deepest (map surface_depth others.items)) + 1) (dot_call (written_expr first.value) name (writtens_of (map written_expr others.items))) (ap surface_depth (sym (rolls-DotCall first name others)) ∙ fold-roll-SurfaceExpr ℕ ℕ ℕ surface_step surface_row_step surface_statement_step _)
    (written-DotCall first name others) (omega (arith, h, expressions_under others.items k))

pub unary_under : (operator : _) (operand : Box SurfaceExpr) → IsNoDeeper operand.value → IsNoDeeper (Unary operator operand)
unary_under operator operand h =
    by_form (Unary operator operand) (surface_depth operand.value + 1) (unary operator (written_expr operand.value)) (ap surface_depth (sym (rolls-Unary operator operand)) ∙ fold-roll-SurfaceExpr ℕ ℕ ℕ surface_step surface_row_step surface_statement_step _)
    (written-Unary operator operand) (omega (arith, h))

pub binary_under : (operator : _) (left right : Box SurfaceExpr) → IsNoDeeper left.value → IsNoDeeper right.value → IsNoDeeper (Binary operator left right)
binary_under operator left right h k =
    by_form (Binary operator left right) (max (surface_depth left.value) (surface_depth right.value) + 1) (binary operator (written_expr left.value) (written_expr right.value)) (ap surface_depth (sym (rolls-Binary operator left right)) ∙ fold-roll-SurfaceExpr ℕ ℕ ℕ surface_step surface_row_step surface_statement_step _)
    (written-Binary operator left right) (omega (arith, h, k))

pub both_under : (left right : Box SurfaceExpr) → IsNoDeeper left.value → IsNoDeeper right.value → IsNoDeeper (And left right)
both_under left right h k =
    by_form (And left right) (max (surface_depth left.value) (surface_depth right.value) + 1) (both (written_expr left.value) (written_expr right.value)) (ap surface_depth (sym (rolls-And left right)) ∙ fold-roll-SurfaceExpr ℕ ℕ ℕ surface_step surface_row_step surface_statement_step _)
    (written-And left right) (omega (arith, h, k))

pub either_under : (left right : Box SurfaceExpr) → IsNoDeeper left.value → IsNoDeeper right.value → IsNoDeeper (Or left right)
either_under left right h k =
    by_form (Or left right) (max (surface_depth left.value) (surface_depth right.value) + 1) (either (written_expr left.value) (written_expr right.value)) (ap surface_depth (sym (rolls-Or left right)) ∙ fold-roll-SurfaceExpr ℕ ℕ ℕ surface_step surface_row_step surface_statement_step _)
    (written-Or left right) (omega (arith, h, k))

pub branch_under : (condition positive negative : Box SurfaceExpr) → IsNoDeeper condition.value → IsNoDeeper positive.value → IsNoDeeper negative.value → IsNoDeeper (If condition positive (Some negative))
branch_under condition positive negative h k m =
    by_form (If condition positive (Some negative)) (max (surface_depth condition.value) (max (surface_depth positive.value) (surface_depth negative.value)) + 1) (branch (written_expr condition.value) (written_expr positive.value) (written_expr negative.value)) (ap surface_depth (sym (rolls-If condition positive (Some negative))) ∙ fold-roll-SurfaceExpr ℕ ℕ ℕ surface_step surface_row_step surface_statement_step _)
    (written-If condition positive negative) (omega (arith, h, k, m))

pub branch_alone_under : (condition positive : Box SurfaceExpr) → IsNoDeeper condition.value → IsNoDeeper positive.value → IsNoDeeper (If condition positive None)
branch_alone_under condition positive h k =
    by_form (If condition positive None) (max (surface_depth condition.value) (surface_depth positive.value) + 1) (branch_alone (written_expr condition.value) (written_expr positive.value)) (ap surface_depth (sym (rolls-If condition positive None)) ∙ fold-roll-SurfaceExpr ℕ ℕ ℕ surface_step surface_row_step surface_statement_step _)
    (written-If_alone condition positive) (omega (arith, h, k))

pub match_under : (scrutinee : Box SurfaceExpr) (rows : Vec SurfaceRow) → IsNoDeeper scrutinee.value → RowsAreNoDeeper rows.items → IsNoDeeper (Match scrutinee rows)
match_under scrutinee rows h k =
    by_form (Match scrutinee rows) (max (surface_depth scrutinee.value) (deepest (map surface_row_depth rows.items)) + 1) (match (written_expr scrutinee.value) (rows_of (map written_row rows.items))) (ap surface_depth (sym (rolls-Match scrutinee rows)) ∙ fold-roll-SurfaceExpr ℕ ℕ ℕ surface_step surface_row_step surface_statement_step _)
    (written-Match scrutinee rows) (omega (arith, h, rows_under rows.items k))

-- ---- blocks

-- what is no block is one deeper behind statements
module _ (n : ℕ) where
  by_form_behind : (f : Of.SurfaceExpr-F SurfaceExpr SurfaceRow SurfaceStatement) (w : Written) → written_expr (roll-SurfaceExpr f) ≡ w → with_rest w n ≡ n + 1 → with_rest (written_expr (roll-SurfaceExpr f)) n ≡ n + 1
  by_form_behind f w is h = ap (λ x. with_rest x n) is ∙ h

  layer_behind : (f : Of.SurfaceExpr-F SurfaceExpr SurfaceRow SurfaceStatement) → ((more : Vec SurfaceStatement) (last : Box SurfaceExpr) → roll-SurfaceExpr f ≡ Block more last → ⊥) → with_rest (written_expr (roll-SurfaceExpr f)) n ≡ n + 1
  layer_behind (Of.Number value) not_block = by_form_behind (Of.Number value) _ (fold-roll-SurfaceExpr Written WrittenRow WrittenStatement expr_step row_step statement_step (Of.Number value)) refl
  layer_behind Of.Unit not_block = by_form_behind Of.Unit _ (fold-roll-SurfaceExpr Written WrittenRow WrittenStatement expr_step row_step statement_step Of.Unit) refl
  layer_behind (Of.Variable name) not_block = by_form_behind (Of.Variable name) _ (fold-roll-SurfaceExpr Written WrittenRow WrittenStatement expr_step row_step statement_step (Of.Variable name)) refl
  layer_behind (Of.Call name arguments) not_block = by_form_behind (Of.Call name arguments) _ (fold-roll-SurfaceExpr Written WrittenRow WrittenStatement expr_step row_step statement_step (Of.Call name arguments)) refl
  layer_behind (Of.DotCall first name others) not_block = by_form_behind (Of.DotCall first name others) _ (fold-roll-SurfaceExpr Written WrittenRow WrittenStatement expr_step row_step statement_step (Of.DotCall first name others)) refl
  layer_behind (Of.Construct name arguments) not_block = by_form_behind (Of.Construct name arguments) _ (fold-roll-SurfaceExpr Written WrittenRow WrittenStatement expr_step row_step statement_step (Of.Construct name arguments)) refl
  layer_behind (Of.Unary operator operand) not_block = by_form_behind (Of.Unary operator operand) _ (fold-roll-SurfaceExpr Written WrittenRow WrittenStatement expr_step row_step statement_step (Of.Unary operator operand)) refl
  layer_behind (Of.Binary operator left right) not_block = by_form_behind (Of.Binary operator left right) _ (fold-roll-SurfaceExpr Written WrittenRow WrittenStatement expr_step row_step statement_step (Of.Binary operator left right)) refl
  layer_behind (Of.And left right) not_block = by_form_behind (Of.And left right) _ (fold-roll-SurfaceExpr Written WrittenRow WrittenStatement expr_step row_step statement_step (Of.And left right)) refl
  layer_behind (Of.Or left right) not_block = by_form_behind (Of.Or left right) _ (fold-roll-SurfaceExpr Written WrittenRow WrittenStatement expr_step row_step statement_step (Of.Or left right)) refl
  layer_behind (Of.PrintText form text) not_block = by_form_behind (Of.PrintText form text) _ (fold-roll-SurfaceExpr Written WrittenRow WrittenStatement expr_step row_step statement_step (Of.PrintText form text)) refl
  layer_behind (Of.If condition positive None) not_block = by_form_behind (Of.If condition positive None) _ (fold-roll-SurfaceExpr Written WrittenRow WrittenStatement expr_step row_step statement_step (Of.If condition positive None)) refl
  layer_behind (Of.If condition positive (Some negative)) not_block = by_form_behind (Of.If condition positive (Some negative)) _ (fold-roll-SurfaceExpr Written WrittenRow WrittenStatement expr_step row_step statement_step (Of.If condition positive (Some negative))) refl
  layer_behind (Of.Match scrutinee rows) not_block = by_form_behind (Of.Match scrutinee rows) _ (fold-roll-SurfaceExpr Written WrittenRow WrittenStatement expr_step row_step statement_step (Of.Match scrutinee rows)) refl
  layer_behind (Of.Block statements value) not_block = absurd (not_block statements value (rolls-Block statements value))

behind_statements : (e : SurfaceExpr) → ((more : Vec SurfaceStatement) (last : Box SurfaceExpr) → e ≡ Block more last → ⊥) → (n : ℕ) → with_rest (written_expr e) n ≡ n + 1
behind_statements e not_block n =
    ap (λ x. with_rest (written_expr x) n) (sym (roll-out-SurfaceExpr e))
    ∙ layer_behind n (out-SurfaceExpr e) (λ more last is. not_block more last (sym (roll-out-SurfaceExpr e) ∙ is))

deepest_append : {A : Type 0} (f : A → ℕ) (xs ys : List A) → deepest (map f (xs ++ ys)) ≡ max (deepest (map f xs)) (deepest (map f ys))
deepest_append f [] ys = omega arith
deepest_append f (x ∷ xs) ys = omega (arith, deepest_append f xs ys)

block_depth : (statements : Vec SurfaceStatement) (value : Box SurfaceExpr) → surface_depth (Block statements value) ≡ max (deepest (map surface_statement_depth statements.items)) (surface_depth value.value) + 1
block_depth statements value = ap surface_depth (sym (rolls-Block statements value)) ∙ fold-roll-SurfaceExpr ℕ ℕ ℕ surface_step surface_row_step surface_statement_step _

-- a block of statements, and a value that is none
pub block_under : (statements : Vec SurfaceStatement) (value : Box SurfaceExpr) → 0 < length statements.items → ((more : Vec SurfaceStatement) (last : Box SurfaceExpr) → value.value ≡ Block more last → ⊥) → StatementsAreNoDeeper statements.items → IsNoDeeper value.value → IsNoDeeper (Block statements value)
block_under statements value some not_block h k =
    let last = written_expr value.value in
    by_form (Block statements value) (max (deepest (map surface_statement_depth statements.items)) (surface_depth value.value) + 1) (block_of (map written_statement statements.items) last) (block_depth statements value) (written-Block statements value)
    (some_statements_under statements.items last (surface_depth value.value) some h (omega (arith, k, behind_statements value.value not_block (written_depth last))))

-- statements before those of a block, which are of its block from then on
joined_block : (before : List SurfaceStatement) (all more : Vec SurfaceStatement) (last : Box SurfaceExpr) (inner : SurfaceExpr) → inner ≡ Block more last → all.items ≡ before ++ more.items → written_expr (Block all last) ≡ block_of (map written_statement before) (written_expr inner)
joined_block before all more last inner is items =
    written-Block all last
    ∙ (ap (λ ss. block_of (map written_statement ss) (written_expr last.value)) items
    ∙ (ap (λ ss. block_of ss (written_expr last.value)) (map-append written_statement before more.items)
    ∙ (block_of-append (map written_statement before) (map written_statement more.items) (written_expr last.value)
    ∙ ap (block_of (map written_statement before)) (sym (ap written_expr is ∙ written-Block more last)))))

pub joined_made : (r : Result (Box SurfaceExpr) Fault) (before : List SurfaceStatement) (all more : Vec SurfaceStatement) (last value : Box SurfaceExpr) (inner : SurfaceExpr) → Makes (λ b. b.value) (Block all last) r → inner ≡ value.value → inner ≡ Block more last → all.items ≡ before ++ more.items
    → Makes boxed_expr (block_of (map written_statement before) (boxed_expr value)) r
joined_made r before all more last value inner made i is items =
    in_box r (Block all last) _ made (joined_block before all more last inner is items ∙ ap (λ e. block_of (map written_statement before) (written_expr e)) i)

pub joined_under : (before : List SurfaceStatement) (all more : Vec SurfaceStatement) (last value : Box SurfaceExpr) (inner : SurfaceExpr) → 0 < length before → inner ≡ value.value → inner ≡ Block more last → all.items ≡ before ++ more.items
    → StatementsAreNoDeeper before → IsNoDeeper value.value → IsNoDeeper (Block all last)
joined_under before all more last value inner some i is items h k =
    let n = max (deepest (map surface_statement_depth more.items)) (surface_depth last.value) in
    let whole = written_expr inner in
    let d : surface_depth inner ≡ n + 1 = ap surface_depth is ∙ block_depth more last in
    let under : surface_depth inner ≤ written_depth whole = subst IsNoDeeper (sym i) k in
    by_form (Block all last) (max (deepest (map surface_statement_depth all.items)) (surface_depth last.value) + 1) (block_of (map written_statement before) whole) (block_depth all last) (joined_block before all more last inner is items)
    (omega (
      arith,
      ap (λ ss. deepest (map surface_statement_depth ss)) items,
      deepest_append surface_statement_depth before more.items,
      some_statements_under before whole n some h (omega (arith, d, under, with_rest_least whole (written_depth whole))),
    ))

-- ---- declarations

-- the body of a declaration that is shallow within the levels that may be open
body_under : (d : Declaration) → BodyIsNoDeeper d → IsShallow most_levels (written_declaration d) → body_depth d ≤ deepest_body
body_under (OfDeclaration.Type d) h k = omega arith
body_under (OfDeclaration.Function d) h k = omega (arith, h, k.2)

pub bodies_under : (ds : List Declaration) → All BodyIsNoDeeper ds → All (λ d. IsShallow most_levels d) (map written_declaration ds) → All (λ d. body_depth d ≤ deepest_body) ds
bodies_under [] h k = All-nil (λ d. body_depth d ≤ deepest_body)
bodies_under (d ∷ ds) h k =
    All-cons (λ d. body_depth d ≤ deepest_body) d ds (body_under d (All-head BodyIsNoDeeper d ds h) (All-head (λ d. IsShallow most_levels d) (written_declaration d) (map written_declaration ds) k))
    (bodies_under ds (All-tail BodyIsNoDeeper d ds h) (All-tail (λ d. IsShallow most_levels d) (written_declaration d) (map written_declaration ds) k))
