-- The tests of decisions are short: they are few, each with a short position and with no more edges than rows; and there are few
-- nodes besides.
use Rattle.std.proofs.Common.{◌≡◌, ◌⊎◌, ℕ, suc, ◌+◌, ◌*◌, ◌-◌, ◌≤◌, nat_eq, Bool, true, false, Option, None, Some, option_map, List, [], ◌∷◌, ◌++◌, length, inl, inr, refl, sym, ap, ◌∙◌, subst, arith, append_assoc, append-nil, length-append}
use Rattle.std.specs.Prelude.{count_by, cond, sum_by, if◌then◌else◌}
use lib.Pointwise.{pointwise, bytes_decides}
use Rattle.std.proofs.Math.Nat.{mul-le-mul_right}
use Rattle.std.proofs.lemmas.List.{length-map}
use Rattle.std.proofs.lemmas.List.Sums.{sum_by-cons}
use Rattle.kk_syntax.specs.Patterns.{Pattern, anything, variable, exactly, constructor, Patterns, no_part, part}
use Rattle.kk_syntax.specs.Shapes.{nodes_of_pattern}
use Rattle.kk_core.specs.declared.decisions.Answer.{Answer}
use Rattle.kk_core.specs.declared.decisions.Answer.TheVariants.{Number, Constructor}
use Rattle.kk_core.specs.declared.decisions.Edge.{Edge}
use Rattle.kk_core.specs.CaseLengths.{choice_length, length_of_test, node_length, tests_length}
use Rattle.kk_core.specs.Decisions.{NodeTree, chooses, tests, targets}
use Rattle.kk_match.specs.Parts.{Part, has_several, parts_of, parts_of_all}
use Rattle.kk_match.specs.Graphs.{StateTree, agrees, left_after, kept_line, after, IsReached, at_start, by_answer, by_another, weight, parts_at, weight_at, lines_from}
use Rattle.kk_match.specs.Built.{Names, IsRight, InRow, no_state, one_more}
use Rattle.kk_match.specs.Decided.{is_test, most_tests, most_tests_length, IsFormed}
use Rattle.kk_match.specs.GraphGrowth.{IsGraphOf}
use Rattle.kk_match.specs.InTurn.{with_parts, with_rows}
use Rattle.kk_match.specs.Turned.{turn_edge, turn_node, turned}
use Rattle.kk_match.proofs.Edges.{lines_small}
use Rattle.kk_match.proofs.GraphStates.{tests_right, rows_test, few_nodes}
use Rattle.kk_match.proofs.Growth.{reached_at}
use Rattle.kk_match.proofs.RowOrder.{PartsShort, AreShort}
use Rattle.kk_match.proofs.Looks.{reached_short, lines_short, test_short}
use Rattle.kk_match.proofs.Places.{get_left, get_last}
use Rattle.kk_match.proofs.Targets.{all_targets}

-- ---- a pattern has at most one part at a position

parts_at_both : (at : List ℕ) (ps qs : List Part) → parts_at at (ps ++ qs) ≡ parts_at at ps + parts_at at qs
parts_at_both at [] qs = omega arith
parts_at_both at (p ∷ ps) qs = let rest = parts_at_both at ps qs in omega (arith, rest)

-- no part stands at a position; or one does, and something is so
abbrev AtMostOne : List ℕ → Type 0 → List Part → Type 0
AtMostOne at So parts = (parts_at at parts ≡ 0) ⊎ ((parts_at at parts ≡ 1) × So)

one_part : (at way : List ℕ) (asked : Answer) → AtMostOne at (way ≡ at) (record { at = way; asked = asked } ∷ [])
one_part at way asked = by (pointwise nat_eq way at) refl
  where
    by : (same : Bool) → pointwise nat_eq way at ≡ same
        → ((if same then 1 else 0) + 0 ≡ 0) ⊎ (((if same then 1 else 0) + 0 ≡ 1) × (way ≡ at))
    by true same = inr (refl, (bytes_decides way at).0 same)
    by false same = inl refl

-- a position is that of a part behind a way, or behind one of the fields from a number on
abbrev IsBehind : List ℕ → List ℕ → Type 0
IsBehind way at = (rest : List ℕ) × (way ++ rest ≡ at)

abbrev IsBehindFrom : ℕ → List ℕ → List ℕ → Type 0
IsBehindFrom field way at = (f : ℕ) × (rest : List ℕ) × (field ≤ f) × (way ++ f ∷ rest ≡ at)

same_field : (way : List ℕ) (f g : ℕ) (xs ys : List ℕ) → way ++ f ∷ xs ≡ way ++ g ∷ ys → f ≡ g
same_field [] f g xs ys same = cc
same_field (w ∷ way) f g xs ys same = let rest : way ++ f ∷ xs ≡ way ++ g ∷ ys = cc in same_field way f g xs ys rest

not_itself : (way : List ℕ) (f : ℕ) (xs : List ℕ) → way ++ f ∷ xs ≡ way → ⊥
not_itself way f xs same = let long = ap length same in let both = length-append way (f ∷ xs) in omega (arith, long, both)

mutual
  parts_once : (types way at : List ℕ) (p : Pattern) → AtMostOne at (IsBehind way at) (parts_of types way p)
  parts_once types way at anything = inl refl
  parts_once types way at (variable x) = inl refl
  parts_once types way at (exactly n) = elim (one_part at way (Number n)) [
    | inl none ↦ inl none
    | inr one ↦ inr (one.0, ([], append-nil way ∙ one.1))
  ]
  parts_once types way at (constructor c ps) = by (has_several types c) (all_parts_once types way at 0 ps)
    where
      both : (own : List Part)
          → parts_at at (own ++ parts_of_all types way 0 ps) ≡ parts_at at own + parts_at at (parts_of_all types way 0 ps)
      both own = parts_at_both at own (parts_of_all types way 0 ps)

      own : List Part
      own = record { at = way; asked = Constructor c } ∷ []

      by : (several : Bool) → AtMostOne at (IsBehindFrom 0 way at) (parts_of_all types way 0 ps)
          → AtMostOne at (IsBehind way at)
          ((if several then record { at = way; asked = Constructor c } ∷ [] else []) ++ parts_of_all types way 0 ps)
      by true behind = elim (one_part at way (Constructor c)) [
        | inl none ↦ elim behind [
          | inl nothing ↦ inl (let all = both own in omega (arith, all, none, nothing))
          | inr one ↦ inr ((let all = both own in let o = one.0 in omega (arith, all, none, o)), (one.1.0 ∷ one.1.1, one.1.3))
        ]
        | inr here ↦ elim behind [
          | inl nothing ↦ inr (
            (let all = both own in let h = here.0 in omega (arith, all, h, nothing)),
            ([], append-nil way ∙ here.1),
          )
          | inr one ↦ absurd (not_itself way one.1.0 one.1.1 (one.1.3 ∙ sym here.1))
        ]
      ]
      by false behind = elim behind [
        | inl none ↦ inl none
        | inr one ↦ inr (one.0, (one.1.0 ∷ one.1.1, one.1.3))
      ]

  all_parts_once : (types way at : List ℕ) (field : ℕ) (ps : Patterns)
      → AtMostOne at (IsBehindFrom field way at) (parts_of_all types way field ps)
  all_parts_once types way at field no_part = inl refl
  all_parts_once types way at field (part first rest) =
      let both = parts_at_both at (parts_of types (way ++ field ∷ []) first) (parts_of_all types way (field + 1) rest) in
      elim (parts_once types (way ++ field ∷ []) at first) [
        | inl none ↦ elim (all_parts_once types way at (field + 1) rest) [
          | inl nothing ↦ inl (omega (arith, both, none, nothing))
          | inr one ↦ inr (
            (let o = one.0 in omega (arith, both, none, o)),
            (one.1.0, one.1.1, (let low = one.1.2 in omega (arith, low)), one.1.3),
          )
        ]
        | inr here ↦ elim (all_parts_once types way at (field + 1) rest) [
          | inl nothing ↦ inr (
            (let h = here.0 in omega (arith, both, h, nothing)),
            (field, here.1.0, omega arith, sym (append_assoc way (field ∷ []) here.1.0) ∙ here.1.1),
          )
          | inr one ↦ absurd (
              let same = same_field way field one.1.0 here.1.0 one.1.1
              (sym (append_assoc way (field ∷ []) here.1.0) ∙ (here.1.1 ∙ sym one.1.3)) in
              let low = one.1.2 in omega (arith, same, low)
              )
        ]
      ]

-- ---- and so has each row of a state

abbrev AreOnce : StateTree → Type 0
AreOnce [] = Unit {0}
AreOnce (line ∷ lines) = ((at : List ℕ) → parts_at at line.left ≤ 1) × AreOnce lines

lines_once : (types : List ℕ) (k : ℕ) (ps : List Pattern) → AreOnce (lines_from types k ps)
lines_once types k [] = tt
lines_once types k (p ∷ ps) = (
  λ at. elim (parts_once types [] at p) [
    | inl none ↦ omega (arith, none)
    | inr one ↦ let o = one.0 in omega (arith, o)
  ],
  lines_once types (k + 1) ps,
)

-- parts that are left at a position were there
abbrev LeftFewer : List Part → Option (List Part) → Type 0
LeftFewer qs None = Unit {0}
LeftFewer qs (Some left) = (way : List ℕ) → parts_at way left ≤ parts_at way qs

left_fewer : (at : List ℕ) (outcome : Option Answer) (qs : List Part) → LeftFewer qs (left_after at outcome qs)
left_fewer at outcome [] = λ way. omega arith
left_fewer at outcome (q ∷ qs) =
    by (pointwise nat_eq q.at at) (agrees outcome q.asked) (left_after at outcome qs) (left_fewer at outcome qs)
  where
    more : (left : Option (List Part)) → LeftFewer qs left → LeftFewer (q ∷ qs) left
    more None rest = tt
    more (Some left) rest = λ way. omega (arith, rest way)

    put : (left : Option (List Part)) → LeftFewer qs left → LeftFewer (q ∷ qs) (option_map (λ rest. q ∷ rest) left)
    put None rest = tt
    put (Some left) rest = λ way. omega (arith, rest way)

    by : (here agreed : Bool) (left : Option (List Part)) → LeftFewer qs left
        → LeftFewer (q ∷ qs) (if here then (if agreed then left else None) else option_map (λ rest. q ∷ rest) left)
    by true true left rest = more left rest
    by true false left rest = tt
    by false agreed left rest = put left rest

kept_once : (row : ℕ) (qs : List Part) (left : Option (List Part)) (rest : StateTree) → ((at : List ℕ) → parts_at at qs ≤ 1)
    → LeftFewer qs left
    → AreOnce rest → AreOnce (kept_line row left rest)
kept_once row qs None rest once fewer behind = behind
kept_once row qs (Some left) rest once fewer behind = ((λ at. omega (arith, once at, fewer at)), behind)

after_once : (at : List ℕ) (outcome : Option Answer) (state : StateTree) → AreOnce state → AreOnce (after at outcome state)
after_once at outcome [] once = tt
after_once at outcome (line ∷ lines) once =
    kept_once line.row line.left (left_after at outcome line.left) (after at outcome lines) once.0 (left_fewer at outcome line.left)
    (after_once at outcome lines once.1)

kept_rows : (row : ℕ) (left : Option (List Part)) (rest : StateTree) → length (kept_line row left rest) ≤ length rest + 1
kept_rows row None rest = omega arith
kept_rows row (Some left) rest = omega arith

after_rows : (at : List ℕ) (outcome : Option Answer) (state : StateTree) → length (after at outcome state) ≤ length state
after_rows at outcome [] = omega arith
after_rows at outcome (line ∷ lines) =
    let kept = kept_rows line.row (left_after at outcome line.left) (after at outcome lines) in
    let rest = after_rows at outcome lines in
    omega (arith, kept, rest)

-- the parts at a position are no more than the rows
once_few : (at : List ℕ) (state : StateTree) → AreOnce state → weight_at at state ≤ length state
once_few at [] once = omega arith
once_few at (line ∷ lines) once = let here = once.0 at in let rest = once_few at lines once.1 in omega (arith, here, rest)

-- a state of so many rows at most, with short positions, each at most once in a row
record IsNarrow (most rows : ℕ) (state : StateTree) : Type 0 where
  pub short : AreShort most state
  pub once : AreOnce state
  pub few : length state ≤ rows

reached_narrow : (types : List ℕ) (most rows : ℕ) (start state : StateTree) → IsNarrow most rows start → IsReached types start state
    → IsNarrow most rows state
reached_narrow types most rows start state narrow reached = record {
  short = reached_short types most start state narrow.short reached;
  once = (once_in state reached).0;
  few = (once_in state reached).1;
}
  where
    once_in : (state : StateTree) → IsReached types start state → AreOnce state × (length state ≤ rows)
    once_in _ at_start = (narrow.once, narrow.few)
    once_in _ (by_answer {state} {q} found reached is kind) =
        let before = once_in state reached in
        let few = before.1 in
        (after_once q.at (Some found) state before.0, omega (arith, few, after_rows q.at (Some found) state))
    once_in _ (by_another {state} {at} n reached is) =
        let before = once_in state reached in
        let few = before.1 in
        (after_once at None state before.0, omega (arith, few, after_rows at None state))

-- ---- nodes with short positions and few edges

abbrev IsSmall : ℕ → ℕ → NodeTree → Type 0
IsSmall most rows (chooses row) = Unit {0}
IsSmall most rows (tests at edges otherwise) = (length at ≤ most) × (length edges ≤ rows)

abbrev AreSmall : ℕ → ℕ → List NodeTree → Type 0
AreSmall most rows [] = Unit {0}
AreSmall most rows (node ∷ nodes) = IsSmall most rows node × AreSmall most rows nodes

small_push : (most rows : ℕ) (nodes : List NodeTree) (node : NodeTree) → AreSmall most rows nodes → IsSmall most rows node
    → AreSmall most rows (nodes ++ node ∷ [])
small_push most rows [] node small last = (last, tt)
small_push most rows (one ∷ nodes) node small last = (small.0, small_push most rows nodes node small.1 last)

-- the node of a narrow state is small
node_small : (types : List ℕ) (most rows : ℕ) (states : List StateTree) (state : StateTree) (node : NodeTree)
    → IsNarrow most rows state
    → IsRight types states state node → IsSmall most rows node
node_small types most rows states state (chooses row) narrow right = tt
node_small types most rows states state (tests at edges otherwise) narrow right = (
  (let low = test_short most state (record { at = at; asked = right.asked }) right.is_test narrow.short in omega (arith, low)),
  (let few = right.few in let lines = narrow.few in omega (arith, few, lines, once_few at state narrow.once)),
)

nodes_small : (types : List ℕ) (most rows : ℕ) (states : List StateTree) (nodes : List NodeTree)
    → InRow (IsRight types) states nodes
    → ((k : ℕ) (state : StateTree) → Names states k state → IsNarrow most rows state) → AreSmall most rows nodes
nodes_small types most rows _ _ no_state narrow = tt
nodes_small types most rows _ _ (one_more {states} {nodes} state node row right) narrow =
    small_push most rows nodes node
    (nodes_small types most rows states nodes row (λ k s named. narrow k s (get_left states (state ∷ []) k s named)))
    (node_small types most rows states state node (narrow (length states) state (get_last states state)) right)

-- ---- how long they are

-- the tests alone, and two for each node
small_length : (most rows : ℕ) (nodes : List NodeTree) → AreSmall most rows nodes
    → tests_length nodes ≤ count_by is_test nodes * length_of_test most rows + choice_length * length nodes
small_length most rows [] small = omega arith
small_length most rows (chooses row ∷ nodes) small =
    let rest = small_length most rows nodes small.1 in
    let all = sum_by-cons (λ n. cond (is_test n) 1 0) (chooses row) nodes in
    let same : count_by is_test (chooses row ∷ nodes) ≡ count_by is_test nodes = omega (arith, all) in
    subst
    (λ (n : ℕ). choice_length + tests_length nodes ≤ n * length_of_test most rows + choice_length * suc (length nodes)) (sym same)
    (omega (arith, rest))
small_length most rows (tests at edges otherwise ∷ nodes) small =
    let rest = small_length most rows nodes small.1 in
    let all = sum_by-cons (λ n. cond (is_test n) 1 0) (tests at edges otherwise) nodes in
    let same : count_by is_test (tests at edges otherwise ∷ nodes) ≡ suc (count_by is_test nodes) = omega (arith, all) in
    let low = small.0.0 in
    let few = small.0.1 in
    subst
    (λ (n : ℕ). node_length (tests at edges otherwise) + tests_length nodes
    ≤ n * length_of_test most rows + choice_length * suc (length nodes)) (sym same)
    (omega (arith, rest, low, few))

-- a test leads to no more nodes than it has edges, and one
targets_few : (most rows : ℕ) (nodes : List NodeTree) → AreSmall most rows nodes
    → length (all_targets nodes) ≤ count_by is_test nodes * (rows + 1)
targets_few most rows [] small = omega arith
targets_few most rows (chooses row ∷ nodes) small =
    let rest = targets_few most rows nodes small.1 in
    let all = sum_by-cons (λ n. cond (is_test n) 1 0) (chooses row) nodes in
    let same : count_by is_test (chooses row ∷ nodes) ≡ count_by is_test nodes = omega (arith, all) in
    subst (λ (n : ℕ). length (all_targets nodes) ≤ n * (rows + 1)) (sym same) rest
targets_few most rows (tests at edges otherwise ∷ nodes) small =
    let rest = targets_few most rows nodes small.1 in
    let all = sum_by-cons (λ n. cond (is_test n) 1 0) (tests at edges otherwise) nodes in
    let same : count_by is_test (tests at edges otherwise ∷ nodes) ≡ suc (count_by is_test nodes) = omega (arith, all) in
    let both = length-append (targets (tests at edges otherwise)) (all_targets nodes) in
    let few = small.0.1 in
    subst (λ (n : ℕ). length (targets (tests at edges otherwise) ++ all_targets nodes) ≤ n * (rows + 1)) (sym same)
    (omega (arith, rest, both, few, own otherwise))
  where
    own : (otherwise : Option ℕ) → length (targets (tests at edges otherwise)) ≤ length edges + 1
    own None = let same = length-map edges (λ (e : Edge). e.next) in omega (arith, same)
    own (Some j) = let same = length-map edges (λ (e : Edge). e.next) in omega (arith, same)

pub length_both : (ones others : List NodeTree) → tests_length (ones ++ others) ≡ tests_length ones + tests_length others
length_both [] others = omega arith
length_both (one ∷ ones) others = let rest = length_both ones others in omega (arith, rest)

-- and so they are once they are turned
pub turned_length : (last : ℕ) (nodes : List NodeTree) → tests_length (turned last nodes) ≡ tests_length nodes
turned_length last [] = refl
turned_length last (node ∷ nodes) =
    let rest = turned_length last nodes in
    let both = length_both (turned last nodes) (turn_node last node ∷ []) in
    omega (arith, rest, both, own node)
  where
    own : (node : NodeTree) → node_length (turn_node last node) ≡ node_length node
    own (chooses row) = refl
    own (tests at edges otherwise) = let same = length-map edges (turn_edge last) in omega (arith, same)

-- ---- decisions

lines_as_many : (types : List ℕ) (k : ℕ) (ps : List Pattern) → length (lines_from types k ps) ≡ length ps
lines_as_many types k [] = refl
lines_as_many types k (p ∷ ps) = ap suc (lines_as_many types (k + 1) ps)

-- of the graph of states
graph_short : (types : List ℕ) (ps : List Pattern) (nodes : List NodeTree)
    → IsGraphOf types (most_tests ps) (lines_from types 0 ps) nodes
    → tests_length nodes ≤ most_tests_length ps
graph_short types ps nodes graph =
    let most : ℕ = sum_by nodes_of_pattern ps in
    let start : StateTree = lines_from types 0 ps in
    let begins : IsNarrow most (length ps) start = record {
      short = lines_short types most 0 ps (omega arith);
      once = lines_once types 0 ps;
      few = (let same = lines_as_many types 0 ps in omega (arith, same));
    } in
    let small : AreSmall most (length ps) nodes = nodes_small types most (length ps) graph.states nodes graph.right
    (λ k state named. reached_narrow types most (length ps) start state begins
    (reached_at types start graph.states k state graph.reached named)) in
    let within = graph.within in
    let same = tests_right types graph.states nodes graph.right in
    let count : count_by is_test nodes ≤ most_tests ps = omega (arith, same, within) in
    omega (
      arith,
      small_length most (length ps) nodes small,
      few_nodes types (most_tests ps) start nodes graph,
      targets_few most (length ps) nodes small,
      mul-le-mul_right (length_of_test most (length ps)) count,
      mul-le-mul_right (length ps + 1) count,
    )

-- of rows in turn
parts_small : (most rows other : ℕ) (qs : List Part) (nodes : List NodeTree) → 1 ≤ rows → PartsShort most qs
    → AreSmall most rows nodes
    → AreSmall most rows (with_parts other qs nodes)
parts_small most rows other [] nodes some short small = small
parts_small most rows other (q ∷ qs) nodes some short small =
    let before : List NodeTree = with_parts other qs nodes in
    let low = short.0 in
    small_push most rows before (tests q.at (record { found = q.asked; next = length before - 1 } ∷ []) (Some other))
    (parts_small most rows other qs nodes some short.1 small) (omega (arith, low), some)

rows_small : (most rows : ℕ) (lines : StateTree) → 1 ≤ rows → AreShort most lines → AreSmall most rows (with_rows lines [])
rows_small most rows [] some short = tt
rows_small most rows (line ∷ lines) some short =
    let before : List NodeTree = with_rows lines [] in
    parts_small most rows (length before - 1) line.left (before ++ chooses line.row ∷ []) some short.0
    (small_push most rows before (chooses line.row) (rows_small most rows lines some short.1) tt)

parts_length : (other : ℕ) (qs : List Part) (nodes : List NodeTree) → length (with_parts other qs nodes) ≡ length qs + length nodes
parts_length other [] nodes = omega arith
parts_length other (q ∷ qs) nodes =
    let before : List NodeTree = with_parts other qs nodes in
    let rest = parts_length other qs nodes in
    let both = length-append before (tests q.at (record { found = q.asked; next = length before - 1 } ∷ []) (Some other) ∷ []) in
    omega (arith, rest, both)

rows_length : (lines : StateTree) → length (with_rows lines []) ≡ weight lines + length lines
rows_length [] = refl
rows_length (line ∷ lines) =
    let before : List NodeTree = with_rows lines [] in
    let rest = rows_length lines in
    let both = length-append before (chooses line.row ∷ []) in
    let parts = parts_length (length before - 1) line.left (before ++ chooses line.row ∷ []) in
    omega (arith, rest, both, parts)

pub node_each : (p : Pattern) → 1 ≤ nodes_of_pattern p
node_each anything = omega arith
node_each (variable x) = omega arith
node_each (exactly n) = omega arith
node_each (constructor c ps) = omega arith

-- a pattern has a node at least
pub rows_few : (ps : List Pattern) → length ps ≤ sum_by nodes_of_pattern ps
rows_few [] = omega arith
rows_few (p ∷ ps) =
    let all = sum_by-cons nodes_of_pattern p ps in
    omega (arith, all, rows_few ps, node_each p)

turn_short : (types : List ℕ) (p : Pattern) (ps : List Pattern)
    → tests_length (with_rows (lines_from types 0 (p ∷ ps)) []) ≤ most_tests_length (p ∷ ps)
turn_short types p ps =
    let most : ℕ = sum_by nodes_of_pattern (p ∷ ps) in
    let rows : ℕ = length (p ∷ ps) in
    let start : StateTree = lines_from types 0 (p ∷ ps) in
    let small : AreSmall most rows (with_rows start [])
    = rows_small most rows start (omega arith) (lines_short types most 0 (p ∷ ps) (omega arith)) in
    let tests_are = rows_test start in
    let light = lines_small types 0 (p ∷ ps) in
    let count : count_by is_test (with_rows start []) ≤ most_tests (p ∷ ps) = omega (arith, tests_are, light) in
    let long = rows_length start in
    let wide : length start ≡ rows = lines_as_many types 0 (p ∷ ps) in
    let few : rows ≤ most = rows_few (p ∷ ps) in
    let nodes : length (with_rows start []) ≤ most_tests (p ∷ ps) * (rows + 1) + 1 = omega (arith, long, wide, few, light) in
    omega (arith, small_length most rows (with_rows start []) small, mul-le-mul_right (length_of_test most rows) count, nodes)

pub formed_short : (types : List ℕ) (ps : List Pattern) (nodes : List NodeTree) (count : ℕ) (by_rows : Bool)
    → IsFormed types ps nodes count by_rows
    → tests_length nodes ≤ most_tests_length ps
formed_short types ps nodes count false formed =
    let others = formed.3.0 in
    let short = graph_short types ps others formed.3.1 in
    let same = ap tests_length formed.3.2 in
    omega (arith, short, same, turned_length (length others - 1) others)
formed_short types [] nodes count true formed = let same = ap tests_length formed.2 in omega (arith, same)
formed_short types (p ∷ ps) nodes count true formed =
    let others = with_rows (lines_from types 0 (p ∷ ps)) [] in
    let same = ap tests_length formed.2 in
    omega (arith, turn_short types p ps, same, turned_length (length others - 1) others)
