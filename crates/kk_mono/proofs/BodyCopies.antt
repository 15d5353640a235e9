-- A copy of a body with labels is the body, where each label stands for the function or constructor of which it is one; and it
-- names the labels.
use Rattle.std.proofs.Common.{◌≡◌, ℕ, ◌+◌, List, [], ◌∷◌, ◌++◌, length, map, get_or, take, drop, refl, sym, ap, ◌∙◌, subst, append_assoc, arith}
use Rattle.std.proofs.lemmas.List.{length-map, take-append-drop, take-map, drop-map, take_at, drop_at}
use Rattle.kk_syntax.specs.declared.program.Form.{Form}
use Rattle.kk_syntax.specs.declared.program.Form.TheVariants.{Call, Construct}
use Rattle.kk_syntax.specs.Patterns.{Pattern, anything, variable as pattern_variable, exactly, constructor, Patterns, no_part, part}
use Rattle.kk_syntax.proofs.Walks.{nodes_replaced}
use Rattle.kk_syntax.specs.Shapes.{nodes_of_pattern, nodes_of_patterns, nodes_of}
use Rattle.kk_syntax.specs.Trees.{Tree, variable, apply, branch, match, sequence, Trees, no_tree, tree, Rows, no_row, row, row_parts, RowTree}
use Rattle.kk_mono.specs.Instances.{Renaming, renames, renamed_form, renamed_pattern, renamed_patterns, renamed, renamed_all, renamed_rows}
use Rattle.kk_mono.specs.Labels.{Names, both, no_names, names_of_form, names_of_pattern, names_of_patterns, names, names_of_all, names_of_rows, behind, labelled_form, only_constructor, labelled_pattern, labelled_patterns, labelled, labelled_all, labelled_rows, row_names, labelled_row}
use Rattle.kk_mono.proofs.CopyLabels.{both_assoc}

-- what labels stand for
abbrev pub origins : Renaming → Names → Names
origins origin labels = record {
  functions = map origin.functions labels.functions;
  constructors = map origin.constructors
      labels.constructors;
}

-- labels of one kind in two parts
record Parts (f : ℕ → ℕ) (labels first second : List ℕ) : Type 0 where
  one : List ℕ
  two : List ℕ
  whole : labels ≡ one ++ two
  of_one : map f one ≡ first
  of_two : map f two ≡ second

parts : (f : ℕ → ℕ) (labels first second : List ℕ) → map f labels ≡ first ++ second → Parts f labels first second
parts f labels first second are = record {
  one = take (length first) labels;
  two = drop (length first) labels;
  whole = sym (take-append-drop (length first) labels);
  of_one = sym (take-map f (length first) labels) ∙ (ap (take (length first)) are ∙ take_at first second (length first) refl);
  of_two = sym (drop-map f (length first) labels) ∙ (ap (drop (length first)) are ∙ drop_at first second (length first) refl);
}

-- the labels of one kind behind those of a first part
dropped : (f : ℕ → ℕ) (one two more first : List ℕ) → map f one ≡ first → drop (length first) ((one ++ two) ++ more) ≡ two ++ more
dropped f one two more first are =
    ap (λ ls. drop (length first) ls) (append_assoc one two more)
    ∙ drop_at one (two ++ more) (length first) (sym (length-map one f) ∙ ap length are)

module _ (origin : Renaming) where
  -- labels in two parts
  record Split (labels first second : Names) : Type 0 where
    one : Names
    two : Names
    whole : labels ≡ both one two
    of_one : origins origin one ≡ first
    of_two : origins origin two ≡ second

  split : (labels first second : Names) → origins origin labels ≡ both first second → Split labels first second
  split labels first second are =
      let functions = parts origin.functions labels.functions first.functions second.functions
      (ap (λ (ns : Names). ns.functions) are) in
      let constructors = parts origin.constructors labels.constructors first.constructors second.constructors
      (ap (λ (ns : Names). ns.constructors) are) in
      record {
        one = record { functions = functions.one; constructors = constructors.one };
        two = record { functions = functions.two; constructors = constructors.two };
        whole = λ i. record { functions = functions.whole i; constructors = constructors.whole i };
        of_one = λ i. record { functions = functions.of_one i; constructors = constructors.of_one i };
        of_two = λ i. record { functions = functions.of_two i; constructors = constructors.of_two i };
      }

  -- the labels behind those of a first part
  left_behind : (one two more first : Names) → origins origin one ≡ first → behind (both (both one two) more) first ≡ both two more
  left_behind one two more first are =
      let functions = dropped origin.functions one.functions two.functions more.functions first.functions
      (ap (λ (ns : Names). ns.functions) are) in
      let constructors = dropped origin.constructors one.constructors two.constructors more.constructors first.constructors
      (ap (λ (ns : Names). ns.constructors) are) in
      λ i. record { functions = functions i; constructors = constructors i }

  -- labels for two parts, one behind the other
  module _ {X Y : Type 0} (put_one : Names → X) (put_two : Names → Y) (IsOne : Names → X → Type 0) (IsTwo : Names → Y
      → Type 0) (first second : Names)
      (one_is : (labels more : Names) → origins origin labels ≡ first → IsOne labels (put_one (both labels more)))
      (two_is : (labels more : Names) → origins origin labels ≡ second → IsTwo labels (put_two (both labels more))) where
    both_are : (labels more : Names) → origins origin labels ≡ both first second
        → (one two : Names) × (labels ≡ both one two) × IsOne one (put_one (both labels more))
        × IsTwo two (put_two (behind (both labels more) first))
    both_are labels more are =
        let halves = split labels first second are in
        let front : both labels more ≡ both halves.one (both halves.two more) =
        ap (λ ls. both ls more) halves.whole ∙ both_assoc halves.one halves.two more in
        let back : behind (both labels more) first ≡ both halves.two more =
        ap (λ ls. behind (both ls more) first) halves.whole ∙ left_behind halves.one halves.two more first halves.of_one in (
          halves.one,
          halves.two,
          halves.whole,
          subst (λ ls. IsOne halves.one (put_one ls)) (sym front) (one_is halves.one (both halves.two more) halves.of_one),
          subst (λ ls. IsTwo halves.two (put_two ls)) (sym back) (two_is halves.two more halves.of_two),
        )

  -- the copy names these labels, and is the original where each label is what it stands for
  abbrev IsCopiedForm : Form → Names → Form → Type 0
  IsCopiedForm form labels copy = (renamed_form origin copy ≡ form) × (names_of_form copy ≡ labels)

  abbrev IsCopiedPattern : Pattern → Names → Pattern → Type 0
  IsCopiedPattern p labels copy = (renamed_pattern origin copy ≡ p) × (names_of_pattern copy ≡ labels)

  abbrev AreCopiedPatterns : Patterns → Names → Patterns → Type 0
  AreCopiedPatterns ps labels copies = (renamed_patterns origin copies ≡ ps) × (names_of_patterns copies ≡ labels)

  abbrev pub IsCopy : Tree → Names → Tree → Type 0
  IsCopy t labels copy = (renamed origin copy ≡ t) × (names copy ≡ labels)

  abbrev IsCopyOfAll : Trees → Names → Trees → Type 0
  IsCopyOfAll ts labels copies = (renamed_all origin copies ≡ ts) × (names_of_all copies ≡ labels)

  abbrev AreCopied : Rows → Names → Rows → Type 0
  AreCopied rs labels copies = (renamed_rows origin copies ≡ rs) × (names_of_rows copies ≡ labels)

  none_of : (f : ℕ → ℕ) (labels : List ℕ) → map f labels ≡ [] → [] ≡ labels
  none_of f [] are = refl
  none_of f (n ∷ labels) are = cc

  none_left : (labels : Names) → origins origin labels ≡ no_names → no_names ≡ labels
  none_left labels are =
      let functions = none_of origin.functions labels.functions (ap (λ (ns : Names). ns.functions) are) in
      let constructors = none_of origin.constructors labels.constructors (ap (λ (ns : Names). ns.constructors) are) in
      λ i. record { functions = functions i; constructors = constructors i }

  -- one label of a kind
  one_of : (f : ℕ → ℕ) (labels more : List ℕ) (n : ℕ) → map f labels ≡ n ∷ []
      → (f (get_or (labels ++ more) 0 n) ≡ n) × (get_or (labels ++ more) 0 n ∷ [] ≡ labels)
  one_of f [] more n are = cc
  one_of f (label ∷ []) more n are = (cc, refl)
  one_of f (label ∷ (next ∷ labels)) more n are = cc

  form_copied : (form : Form) (labels more : Names) → origins origin labels ≡ names_of_form form
      → IsCopiedForm form labels (labelled_form (both labels more) form)
  form_copied (Call f) labels more are =
      let one = one_of origin.functions labels.functions more.functions f (ap (λ (ns : Names). ns.functions) are) in
      let none = none_of origin.constructors labels.constructors (ap (λ (ns : Names). ns.constructors) are) in
      (ap Call one.0, λ i. record { functions = one.1 i; constructors = none i })
  form_copied (Construct c) labels more are =
      let none = none_of origin.functions labels.functions (ap (λ (ns : Names). ns.functions) are) in
      let one = one_of origin.constructors labels.constructors more.constructors c (ap (λ (ns : Names). ns.constructors) are) in
      (ap Construct one.0, λ i. record { functions = none i; constructors = one.1 i })
  form_copied _ labels more are = (refl, none_left labels are)

  -- the name of a pattern's constructor
  abbrev IsCopiedName : ℕ → Names → ℕ → Type 0
  IsCopiedName by labels copy = (origin.constructors copy ≡ by) × (only_constructor copy ≡ labels)

  name_copied : (by : ℕ) (labels more : Names) → origins origin labels ≡ only_constructor by
      → IsCopiedName by labels (get_or (both labels more).constructors 0 by)
  name_copied by labels more are =
      let none = none_of origin.functions labels.functions (ap (λ (ns : Names). ns.functions) are) in
      let one = one_of origin.constructors labels.constructors more.constructors by (ap (λ (ns : Names). ns.constructors) are) in
      (one.0, λ i. record { functions = none i; constructors = one.1 i })

  mutual
    pattern_copied : (p : Pattern) (labels more : Names) → origins origin labels ≡ names_of_pattern p
        → IsCopiedPattern p labels (labelled_pattern (both labels more) p)
    pattern_copied anything labels more are = (refl, none_left labels are)
    pattern_copied (pattern_variable of) labels more are = (refl, none_left labels are)
    pattern_copied (exactly value) labels more are = (refl, none_left labels are)
    pattern_copied (constructor by ps) labels more are =
        let halves = both_are (λ ls. get_or ls.constructors 0 by) (λ ls. labelled_patterns ls ps) (IsCopiedName by)
        (AreCopiedPatterns ps)
        (only_constructor by) (names_of_patterns ps) (name_copied by) (patterns_copied ps) labels more are in
        ((λ i. constructor (halves.3.0 i) (halves.4.0 i)), (λ i. both (halves.3.1 i) (halves.4.1 i)) ∙ sym halves.2)

    patterns_copied : (ps : Patterns) (labels more : Names) → origins origin labels ≡ names_of_patterns ps
        → AreCopiedPatterns ps labels (labelled_patterns (both labels more) ps)
    patterns_copied no_part labels more are = (refl, none_left labels are)
    patterns_copied (part first rest) labels more are =
        let halves = both_are (λ ls. labelled_pattern ls first) (λ ls. labelled_patterns ls rest) (IsCopiedPattern first)
        (AreCopiedPatterns rest)
        (names_of_pattern first) (names_of_patterns rest) (pattern_copied first) (patterns_copied rest) labels more are in
        ((λ i. part (halves.3.0 i) (halves.4.0 i)), (λ i. both (halves.3.1 i) (halves.4.1 i)) ∙ sym halves.2)

  -- the two branches of an `if`, and a row
  record Branches : Type 0 where
    positive : Tree
    negative : Tree

  abbrev branch_rest : Names → Tree → Tree → Branches
  branch_rest labels positive negative = record {
    positive = labelled labels positive;
    negative = labelled
        (behind labels (names positive)) negative;
  }

  abbrev IsCopiedRest : Tree → Tree → Names → Branches → Type 0
  IsCopiedRest positive negative labels copies =
      (renamed origin copies.positive ≡ positive) × (renamed origin copies.negative ≡ negative)
      × (both (names copies.positive) (names copies.negative) ≡ labels)

  abbrev renamed_row : RowTree → RowTree
  renamed_row (row_parts pattern body) = row_parts (renamed_pattern origin pattern) (renamed origin body)

  abbrev IsCopiedRow : RowTree → Names → RowTree → Type 0
  IsCopiedRow r labels copy = (renamed_row copy ≡ r) × (row_names copy ≡ labels)

  -- copies of one tree, whatever labels are behind
  abbrev Copies : Tree → Type 0
  Copies t = (labels more : Names) → origins origin labels ≡ names t → IsCopy t labels (labelled (both labels more) t)

  rest_copied : (positive negative : Tree) → Copies positive → Copies negative → (labels more : Names)
      → origins origin labels ≡ both (names positive) (names negative)
      → IsCopiedRest positive negative labels (branch_rest (both labels more) positive negative)
  rest_copied positive negative one_copied other_copied labels more are =
      let halves = both_are (λ ls. labelled ls positive) (λ ls. labelled ls negative) (IsCopy positive) (IsCopy negative)
      (names positive) (names negative) one_copied other_copied labels more are in
      (halves.3.0, halves.4.0, (λ i. both (halves.3.1 i) (halves.4.1 i)) ∙ sym halves.2)

  row_copied : (p : Pattern) (body : Tree) → Copies body → (labels more : Names)
      → origins origin labels ≡ both (names_of_pattern p) (names body)
      → IsCopiedRow (row_parts p body) labels (labelled_row (both labels more) (row_parts p body))
  row_copied p body body_copied labels more are =
      let halves = both_are (λ ls. labelled_pattern ls p) (λ ls. labelled ls body) (IsCopiedPattern p) (IsCopy body)
      (names_of_pattern p) (names body) (pattern_copied p) body_copied labels more are in
      ((λ i. row_parts (halves.3.0 i) (halves.4.0 i)), (λ i. both (halves.3.1 i) (halves.4.1 i)) ∙ sym halves.2)

  mutual
    pub copied : (t : Tree) (labels more : Names) → origins origin labels ≡ names t
        → IsCopy t labels (labelled (both labels more) t)
    copied (variable of) labels more are = (refl, none_left labels are)
    copied (apply form es) labels more are =
        let halves = both_are (λ ls. labelled_form ls form) (λ ls. labelled_all ls es) (IsCopiedForm form) (IsCopyOfAll es)
        (names_of_form form) (names_of_all es) (form_copied form) (all_copied es) labels more are in
        ((λ i. apply (halves.3.0 i) (halves.4.0 i)), (λ i. both (halves.3.1 i) (halves.4.1 i)) ∙ sym halves.2)
    copied (branch e positive negative) labels more are =
        let halves = both_are (λ ls. labelled ls e) (λ ls. branch_rest ls positive negative) (IsCopy e)
        (IsCopiedRest positive negative)
        (names e) (both (names positive) (names negative)) (copied e)
        (rest_copied positive negative (copied positive) (copied negative)) labels more are in
        ((λ i. branch (halves.3.0 i) (halves.4.0 i) (halves.4.1 i)), (λ i. both (halves.3.1 i) (halves.4.2 i)) ∙ sym halves.2)
    copied (match e rows) labels more are =
        let halves = both_are (λ ls. labelled ls e) (λ ls. labelled_rows ls rows) (IsCopy e) (AreCopied rows)
        (names e) (names_of_rows rows) (copied e) (rows_copied rows) labels more are in
        ((λ i. match (halves.3.0 i) (halves.4.0 i)), (λ i. both (halves.3.1 i) (halves.4.1 i)) ∙ sym halves.2)
    copied (sequence binder first rest) labels more are =
        let halves = both_are (λ ls. labelled ls first) (λ ls. labelled ls rest) (IsCopy first) (IsCopy rest)
        (names first) (names rest) (copied first) (copied rest) labels more are in
        ((λ i. sequence binder (halves.3.0 i) (halves.4.0 i)), (λ i. both (halves.3.1 i) (halves.4.1 i)) ∙ sym halves.2)

    all_copied : (ts : Trees) (labels more : Names) → origins origin labels ≡ names_of_all ts
        → IsCopyOfAll ts labels (labelled_all (both labels more) ts)
    all_copied no_tree labels more are = (refl, none_left labels are)
    all_copied (tree first rest) labels more are =
        let halves = both_are (λ ls. labelled ls first) (λ ls. labelled_all ls rest) (IsCopy first) (IsCopyOfAll rest)
        (names first) (names_of_all rest) (copied first) (all_copied rest) labels more are in
        ((λ i. tree (halves.3.0 i) (halves.4.0 i)), (λ i. both (halves.3.1 i) (halves.4.1 i)) ∙ sym halves.2)

    rows_copied : (rs : Rows) (labels more : Names) → origins origin labels ≡ names_of_rows rs
        → AreCopied rs labels (labelled_rows (both labels more) rs)
    rows_copied no_row labels more are = (refl, none_left labels are)
    rows_copied (row (row_parts pattern body) rest) labels more are =
        let first : RowTree = row_parts pattern body in
        let halves = both_are (λ ls. labelled_row ls first) (λ ls. labelled_rows ls rest) (IsCopiedRow first) (AreCopied rest)
        (row_names first) (names_of_rows rest) (row_copied pattern body (copied body)) (rows_copied rest) labels more are in
        ((λ i. row (halves.3.0 i) (halves.4.0 i)), (λ i. both (halves.3.1 i) (halves.4.1 i)) ∙ sym halves.2)

-- copies have the nodes of what they copy
mutual
  pattern_nodes : (new : Renaming) (p : Pattern) → nodes_of_pattern (renamed_pattern new p) ≡ nodes_of_pattern p
  pattern_nodes new anything = refl
  pattern_nodes new (pattern_variable of) = refl
  pattern_nodes new (exactly value) = refl
  pattern_nodes new (constructor by ps) = ap (λ n. n + 1) (patterns_nodes new ps)

  patterns_nodes : (new : Renaming) (ps : Patterns) → nodes_of_patterns (renamed_patterns new ps) ≡ nodes_of_patterns ps
  patterns_nodes new no_part = refl
  patterns_nodes new (part first rest) = omega (arith, pattern_nodes new first, patterns_nodes new rest)

pub nodes_renamed : (new : Renaming) (t : Tree) → nodes_of (renamed new t) ≡ nodes_of t
nodes_renamed new t = nodes_replaced renames pattern_nodes new t
