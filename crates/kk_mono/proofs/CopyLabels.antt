-- Copies of bodies in which each call names the instance that is called, and each construction and pattern the ground
-- constructor that is used: what they are by their parts in memory.
use Rattle.std.proofs.Common.{◌≡◌, ℕ, ◌+◌, ◌<◌, List, [], ◌∷◌, ◌++◌, length, map, get_or, take, drop, Vec, Box, Global, refl, sym, ap, ◌∙◌, append_assoc}
use Rattle.std.proofs.lemmas.List.{append-nil, length-append, drop-drop, take-map, map_push, map_more}
use Rattle.kk_syntax.specs.declared.program.Expr.{Expr}
use Rattle.kk_syntax.specs.declared.program.Expr.TheVariants.{Apply, Match, Block}
use Rattle.kk_syntax.specs.declared.program.Form.{Form}
use Rattle.kk_syntax.specs.declared.program.Pat.{Pat}
use Rattle.kk_syntax.specs.declared.program.Pat.TheVariants as OfPat
use Rattle.kk_syntax.specs.declared.program.Row.{Row}
use Rattle.kk_syntax.specs.declared.program.Statement.{Statement}
use Rattle.kk_syntax.specs.Patterns.{Pattern, constructor, part, patterns_of, pattern_tree}
use Rattle.kk_syntax.specs.Trees.{Tree, apply, match, sequence, tree, row, RowTree, row_parts, StatementTree, trees_of, rows_of, block_of, expr_tree, row_tree, statement_tree}
use Rattle.kk_syntax.proofs.PatternViews.{constructor_tree}
use Rattle.kk_syntax.proofs.Views.{apply_tree, match_tree, block_tree, apply_is, match_is, block_is, row_tree_is, statement_tree_is}
use Rattle.kk_mono.specs.Labels.{Names, both, no_names, names_of_form, names_of_pattern, names_of_patterns, names, names_of_all, names_of_rows, behind, labelled_form, only_constructor, labelled_pattern, labelled_patterns, labelled, labelled_all, labelled_rows, names_of_each, labelled_each, row_names, labelled_row, statement_names, labelled_statement}

-- ---- names, one behind the other

pub behind_both : (labels xs ys : Names) → behind (behind labels xs) ys ≡ behind labels (both xs ys)
behind_both labels xs ys = λ i. record {
  functions = dropped labels.functions xs.functions ys.functions i;
  constructors = dropped labels.constructors xs.constructors ys.constructors i;
}
  where
    dropped : (ls ns ms : List ℕ) → drop (length ms) (drop (length ns) ls) ≡ drop (length (ns ++ ms)) ls
    dropped ls ns ms = drop-drop (length ms) (length ns) ls ∙ ap (λ n. drop n ls) (sym (length-append ns ms))

pub both_assoc : (xs ys zs : Names) → both (both xs ys) zs ≡ both xs (both ys zs)
both_assoc xs ys zs = λ i. record {
  functions = append_assoc xs.functions ys.functions zs.functions i;
  constructors = append_assoc xs.constructors ys.constructors zs.constructors i;
}

pub both_none : (xs : Names) → both xs no_names ≡ xs
both_none xs = λ i. record { functions = append-nil xs.functions i; constructors = append-nil xs.constructors i }

-- ---- copies by their parts

module _ {X : Type 0} (named : X → Names) (change : Names → X → X) where
  names_push : (xs : List X) (x : X) → names_of_each named (xs ++ x ∷ []) ≡ both (names_of_each named xs) (named x)
  names_push [] x = both_none (named x)
  names_push (first ∷ xs) x =
      ap (both (named first)) (names_push xs x) ∙ sym (both_assoc (named first) (names_of_each named xs) (named x))

  each_push : (labels : Names) (xs : List X) (x : X)
      → labelled_each named change labels (xs ++ x ∷ []) ≡ labelled_each named change labels xs ++ change (behind labels (names_of_each named xs)) x ∷ []
  each_push labels [] x = refl
  each_push labels (first ∷ xs) x =
      ap (λ ys. change labels first ∷ ys) (each_push (behind labels (named first)) xs x)
      ∙ ap (λ ls. change labels first ∷ (labelled_each named change (behind labels (named first)) xs ++ change ls x ∷ []))
      (behind_both labels (named first) (names_of_each named xs))

  -- a copy more
  pub each_more : {M : Type 0} (v : M → X) (labels now after : Names) (items copies next : List M) (item copy : M) (i : ℕ)
      → i < length items → item ≡ get_or items i item
      → map v copies ≡ labelled_each named change labels (take i (map v items)) → now ≡ behind labels (names_of_each named (take i (map v items)))
      → next ≡ copies ++ copy ∷ [] → v copy ≡ change now (v item) → after ≡ behind now (named (v item))
      → (map v next ≡ labelled_each named change labels (take (i + 1) (map v items)))
      × (after ≡ behind labels (names_of_each named (take (i + 1) (map v items))))
  each_more v labels now after items copies next item copy i lt is so_far now_is next_is copy_is after_is =
      let more : take (i + 1) (map v items) ≡ take i (map v items) ++ v item ∷ [] =
      take-map v (i + 1) items
      ∙ (map_more v items i item lt
      ∙ (ap (λ ys. ys ++ v (get_or items i item) ∷ []) (sym (take-map v i items))
      ∙ ap (λ y. take i (map v items) ++ v y ∷ []) (sym is))) in (
        ap (map v) next_is
            ∙ (map_push v copies copy
            ∙ (ap (λ ys. ys ++ v copy ∷ []) so_far
            ∙ (ap (λ y. labelled_each named change labels (take i (map v items)) ++ y ∷ []) (copy_is ∙ ap (λ ls. change ls (v item)) now_is)
            ∙ (sym (each_push labels (take i (map v items)) (v item)) ∙ ap (labelled_each named change labels) (sym more))))),
        after_is
            ∙ (ap (λ ls. behind ls (named (v item))) now_is
            ∙ (behind_both labels (names_of_each named (take i (map v items))) (named (v item))
            ∙ ap (behind labels) (sym (names_push (take i (map v items)) (v item)) ∙ ap (names_of_each named) (sym more)))),
      )

-- lists of their own types
all_named : (ts : List Tree) → names_of_all (trees_of ts) ≡ names_of_each names ts
all_named [] = refl
all_named (t ∷ ts) = ap (both (names t)) (all_named ts)

rows_named : (rs : List RowTree) → names_of_rows (rows_of rs) ≡ names_of_each row_names rs
rows_named [] = refl
rows_named (row_parts pattern body ∷ rs) = ap (both (row_names (row_parts pattern body))) (rows_named rs)

block_named : (ss : List StatementTree) (last : Tree) → names (block_of ss last) ≡ both (names_of_each statement_names ss) (names last)
block_named [] last = refl
block_named (s ∷ ss) last =
    ap (both (statement_names s)) (block_named ss last)
    ∙ sym (both_assoc (statement_names s) (names_of_each statement_names ss) (names last))

patterns_named : (ps : List Pattern) → names_of_patterns (patterns_of ps) ≡ names_of_each names_of_pattern ps
patterns_named [] = refl
patterns_named (p ∷ ps) = ap (both (names_of_pattern p)) (patterns_named ps)

all_labelled : (labels : Names) (ts : List Tree) → labelled_all labels (trees_of ts) ≡ trees_of (labelled_each names labelled labels ts)
all_labelled labels [] = refl
all_labelled labels (t ∷ ts) = ap (λ us. tree (labelled labels t) us) (all_labelled (behind labels (names t)) ts)

rows_labelled : (labels : Names) (rs : List RowTree) → labelled_rows labels (rows_of rs) ≡ rows_of (labelled_each row_names labelled_row labels rs)
rows_labelled labels [] = refl
rows_labelled labels (row_parts pattern body ∷ rs) =
    let r : RowTree = row_parts pattern body in
    ap (row (labelled_row labels r)) (rows_labelled (behind labels (row_names r)) rs)

block_labelled : (labels : Names) (ss : List StatementTree) (last : Tree)
    → labelled labels (block_of ss last) ≡ block_of (labelled_each statement_names labelled_statement labels ss) (labelled (behind labels (names_of_each statement_names ss)) last)
block_labelled labels [] last = refl
block_labelled labels (s ∷ ss) last =
    ap (λ rest. sequence s.binder (labelled labels s.value) rest)
    (block_labelled (behind labels (names s.value)) ss last
    ∙ ap (λ ls. block_of (labelled_each statement_names labelled_statement (behind labels (names s.value)) ss) (labelled ls last))
    (behind_both labels (names s.value) (names_of_each statement_names ss)))

patterns_labelled : (labels : Names) (ps : List Pattern)
    → labelled_patterns labels (patterns_of ps) ≡ patterns_of (labelled_each names_of_pattern labelled_pattern labels ps)
patterns_labelled labels [] = refl
patterns_labelled labels (p ∷ ps) =
    ap (λ qs. part (labelled_pattern labels p) qs) (patterns_labelled (behind labels (names_of_pattern p)) ps)

-- patterns in memory
pub constructor_labelled : (labels : Names) (pattern : Pat) (by copied : ℕ) (parts copies : Vec Pat Global) (ps : List Pat) (then last : Names)
    → pattern ≡ OfPat.Constructor by parts → ps ≡ parts.items → copied ≡ get_or labels.constructors 0 by → then ≡ behind labels (only_constructor by)
    → map pattern_tree copies.items ≡ labelled_each names_of_pattern labelled_pattern then (map pattern_tree ps)
    → last ≡ behind then (names_of_each names_of_pattern (map pattern_tree ps))
    → (pattern_tree (OfPat.Constructor copied copies) ≡ labelled_pattern labels (pattern_tree pattern))
    × (last ≡ behind labels (names_of_pattern (pattern_tree pattern)))
constructor_labelled labels pattern by copied parts copies ps then last is ps_are copied_is then_is copies_are last_is =
    let whole : pattern_tree pattern ≡ constructor by (patterns_of (map pattern_tree ps)) =
    ap pattern_tree is ∙ (constructor_tree by parts ∙ ap (λ qs. constructor by (patterns_of (map pattern_tree qs))) (sym ps_are)) in (
      constructor_tree copied copies
          ∙ (ap (λ c. constructor c (patterns_of (map pattern_tree copies.items))) copied_is
          ∙ (ap (λ qs. constructor (get_or labels.constructors 0 by) (patterns_of qs)) copies_are
          ∙ (ap (constructor (get_or labels.constructors 0 by)) (sym (patterns_labelled then (map pattern_tree ps)))
          ∙ (ap (λ ls. constructor (get_or labels.constructors 0 by) (labelled_patterns ls (patterns_of (map pattern_tree ps)))) then_is
          ∙ ap (labelled_pattern labels) (sym whole))))),
      last_is
          ∙ (ap (λ ls. behind ls (names_of_each names_of_pattern (map pattern_tree ps))) then_is
          ∙ (behind_both labels (only_constructor by) (names_of_each names_of_pattern (map pattern_tree ps))
          ∙ ap (behind labels)
          (ap (both (only_constructor by)) (sym (patterns_named (map pattern_tree ps))) ∙ ap names_of_pattern (sym whole)))),
    )

-- expressions in memory
module _ (labels : Names) (expr : Expr) where
  pub apply_labelled : (form copied : Form) (arguments copies : Vec Expr Global) (es : List Expr) (then last : Names) → expr ≡ Apply form arguments
      → es ≡ arguments.items → copied ≡ labelled_form labels form → then ≡ behind labels (names_of_form form)
      → map expr_tree copies.items ≡ labelled_each names labelled then (map expr_tree es) → last ≡ behind then (names_of_each names (map expr_tree es))
      → (expr_tree (Apply copied copies) ≡ labelled labels (expr_tree expr)) × (last ≡ behind labels (names (expr_tree expr)))
  apply_labelled form copied arguments copies es then last is es_are form_is then_is copies_are last_is =
      let whole : expr_tree expr ≡ apply form (trees_of (map expr_tree es)) = apply_is expr form arguments es is es_are in (
        apply_tree copied copies
            ∙ (ap (λ f. apply f (trees_of (map expr_tree copies.items))) form_is
            ∙ (ap (λ ts. apply (labelled_form labels form) (trees_of ts)) copies_are
            ∙ (ap (apply (labelled_form labels form)) (sym (all_labelled then (map expr_tree es)))
            ∙ (ap (λ ls. apply (labelled_form labels form) (labelled_all ls (trees_of (map expr_tree es)))) then_is
            ∙ ap (labelled labels) (sym whole))))),
        last_is
            ∙ (ap (λ ls. behind ls (names_of_each names (map expr_tree es))) then_is
            ∙ (behind_both labels (names_of_form form) (names_of_each names (map expr_tree es))
            ∙ ap (behind labels) (ap (both (names_of_form form)) (sym (all_named (map expr_tree es))) ∙ ap names (sym whole)))),
      )

  -- of three parts, one behind the other
  pub three_labelled : (first second third : Expr) (then else last : Names)
      → names (expr_tree expr) ≡ both (names (expr_tree first)) (both (names (expr_tree second)) (names (expr_tree third)))
      → then ≡ behind labels (names (expr_tree first)) → else ≡ behind then (names (expr_tree second)) → last ≡ behind else (names (expr_tree third))
      → last ≡ behind labels (names (expr_tree expr))
  three_labelled first second third then else last whole then_is else_is last_is =
      last_is
      ∙ (ap (λ ls. behind ls (names (expr_tree third))) (else_is ∙ ap (λ ls. behind ls (names (expr_tree second))) then_is)
      ∙ (behind_both (behind labels (names (expr_tree first))) (names (expr_tree second)) (names (expr_tree third))
      ∙ (behind_both labels (names (expr_tree first)) (both (names (expr_tree second)) (names (expr_tree third)))
      ∙ ap (behind labels) (sym whole))))

  pub match_labelled : (e : Expr) (scrutinee copied : Box Expr Global) (rows copies : Vec Row Global) (rs : List Row) (then last : Names)
      → expr ≡ Match scrutinee rows → e ≡ scrutinee.value → rs ≡ rows.items → expr_tree copied.value ≡ labelled labels (expr_tree e)
      → then ≡ behind labels (names (expr_tree e)) → map row_tree copies.items ≡ labelled_each row_names labelled_row then (map row_tree rs)
      → last ≡ behind then (names_of_each row_names (map row_tree rs))
      → (expr_tree (Match copied copies) ≡ labelled labels (expr_tree expr)) × (last ≡ behind labels (names (expr_tree expr)))
  match_labelled e scrutinee copied rows copies rs then last is e_is rs_are copied_is then_is copies_are last_is =
      let whole : expr_tree expr ≡ match (expr_tree e) (rows_of (map row_tree rs)) = match_is expr e rs scrutinee rows is e_is rs_are in (
        match_tree copied copies
            ∙ (ap (λ t. match t (rows_of (map row_tree copies.items))) copied_is
            ∙ (ap (λ ts. match (labelled labels (expr_tree e)) (rows_of ts)) copies_are
            ∙ (ap (match (labelled labels (expr_tree e))) (sym (rows_labelled then (map row_tree rs)))
            ∙ (ap (λ ls. match (labelled labels (expr_tree e)) (labelled_rows ls (rows_of (map row_tree rs)))) then_is
            ∙ ap (labelled labels) (sym whole))))),
        last_is
            ∙ (ap (λ ls. behind ls (names_of_each row_names (map row_tree rs))) then_is
            ∙ (behind_both labels (names (expr_tree e)) (names_of_each row_names (map row_tree rs))
            ∙ ap (behind labels) (ap (both (names (expr_tree e))) (sym (rows_named (map row_tree rs))) ∙ ap names (sym whole)))),
      )

  pub block_copied : (e : Expr) (statements copies : Vec Statement Global) (value copied : Box Expr Global) (ss : List Statement) (then last : Names)
      → expr ≡ Block statements value → ss ≡ statements.items → e ≡ value.value
      → map statement_tree copies.items ≡ labelled_each statement_names labelled_statement labels (map statement_tree ss)
      → then ≡ behind labels (names_of_each statement_names (map statement_tree ss)) → expr_tree copied.value ≡ labelled then (expr_tree e)
      → last ≡ behind then (names (expr_tree e))
      → (expr_tree (Block copies copied) ≡ labelled labels (expr_tree expr)) × (last ≡ behind labels (names (expr_tree expr)))
  block_copied e statements copies value copied ss then last is ss_are e_is copies_are then_is copied_is last_is =
      let whole : expr_tree expr ≡ block_of (map statement_tree ss) (expr_tree e) = block_is expr e ss statements value is ss_are e_is in (
        block_tree copies copied
            ∙ (ap (λ ts. block_of ts (expr_tree copied.value)) copies_are
            ∙ (ap (block_of (labelled_each statement_names labelled_statement labels (map statement_tree ss)))
            (copied_is ∙ ap (λ ls. labelled ls (expr_tree e)) then_is)
            ∙ (sym (block_labelled labels (map statement_tree ss) (expr_tree e)) ∙ ap (labelled labels) (sym whole)))),
        last_is
            ∙ (ap (λ ls. behind ls (names (expr_tree e))) then_is
            ∙ (behind_both labels (names_of_each statement_names (map statement_tree ss)) (names (expr_tree e))
            ∙ ap (behind labels) (sym (block_named (map statement_tree ss) (expr_tree e)) ∙ ap names (sym whole)))),
      )

pub row_copied : (labels then after : Names) (r : Row) (p : Pat) (e : Expr) → pattern_tree p ≡ labelled_pattern labels (pattern_tree r.pattern)
    → then ≡ behind labels (names_of_pattern (pattern_tree r.pattern)) → expr_tree e ≡ labelled then (expr_tree r.body)
    → after ≡ behind then (names (expr_tree r.body))
    → (row_tree (record { pattern = p; body = e }) ≡ labelled_row labels (row_tree r)) × (after ≡ behind labels (row_names (row_tree r)))
row_copied labels then after r p e pattern_is then_is body_is after_is =
    let body_copied : expr_tree e ≡ labelled (behind labels (names_of_pattern (pattern_tree r.pattern))) (expr_tree r.body) =
    body_is ∙ ap (λ ls. labelled ls (expr_tree r.body)) then_is in (
      row_tree_is (record { pattern = p; body = e })
          ∙ ((λ i. row_parts (pattern_is i) (body_copied i)) ∙ ap (labelled_row labels) (sym (row_tree_is r))),
      after_is
          ∙ (ap (λ ls. behind ls (names (expr_tree r.body))) then_is
          ∙ (behind_both labels (names_of_pattern (pattern_tree r.pattern)) (names (expr_tree r.body))
          ∙ ap (λ x. behind labels (row_names x)) (sym (row_tree_is r)))),
    )

pub statement_copied : (labels after : Names) (s : Statement) (e : Expr) → expr_tree e ≡ labelled labels (expr_tree s.value)
    → after ≡ behind labels (names (expr_tree s.value))
    → (statement_tree (record { binder = s.binder; value = e }) ≡ labelled_statement labels (statement_tree s))
    × (after ≡ behind labels (statement_names (statement_tree s)))
statement_copied labels after s e value_is after_is = (
  statement_tree_is (record { binder = s.binder; value = e })
      ∙ ((λ i. record { binder = s.binder; value = value_is i }) ∙ ap (labelled_statement labels) (sym (statement_tree_is s))),
  after_is ∙ ap (λ x. behind labels (statement_names x)) (sym (statement_tree_is s)),
)
