-- A graph of states has all of them, and its start is the last one.
use Rattle.std.proofs.Common.{◌≡◌, ◌⊎◌, ℕ, suc, ◌<◌, ◌≤◌, Bool, true, false, Option, None, Some, List, [], ◌∷◌, length, inl, inr, refl, sym, ap, ◌∙◌, subst, arith, ◌-◌, zero-add, ◌++◌, ◌+◌}
use Rattle.std.specs.Prelude.{count_by, cond, slice_get}
use Rattle.std.proofs.lemmas.Bool.{cases_lt}
use Rattle.std.proofs.lemmas.List.Sums.{sum_by-cons, sum_by-append}
use Rattle.std.proofs.lemmas.Option.{none-some, same_Some, slice_get_within}
use Rattle.kk_syntax.specs.Shapes.{is_among}
use Rattle.kk_core.specs.declared.decisions.Answer.{Answer}
use Rattle.kk_core.specs.declared.decisions.Answer.TheVariants.{Number}
use Rattle.kk_core.specs.Decisions.{NodeTree, chooses, tests, targets}
use Rattle.kk_match.specs.Parts.{Part}
use Rattle.kk_match.specs.Graphs.{StateTree, after, test_of, IsReached, at_start, by_answer, by_another, weight, testing, HasTests}
use Rattle.kk_match.specs.Outcomes.{IsOutcome}
use Rattle.kk_match.specs.Built.{Names, IsRight, no_state, one_more, AreRight}
use Rattle.kk_match.specs.GraphGrowth.{IsGraphOf}
use Rattle.kk_match.specs.Decided.{is_test}
use Rattle.kk_match.specs.InTurn.{with_parts, with_rows}
use Rattle.kk_match.specs.Turned.{turn_node, turned}
use Rattle.kk_match.proofs.StateAfterAnswer.{AreBelow, after_below}
use Rattle.kk_match.proofs.Growth.{reached_at, one_if, tests_as, testing_push}
use Rattle.kk_match.proofs.Places.{get_left, get_there, same_place, contained, place_of}
use Rattle.kk_match.proofs.NodeRuns.{IsAt, at_place, as_long}
use Rattle.kk_match.proofs.Targets.{next_among, other_among, all_targets, among_all, no_more}

-- ---- all states

-- a state has a number, at most some other one, and a test leads to it where it is not that one
record HasPlace (states : List StateTree) (nodes : List NodeTree) (most : ℕ) (state : StateTree) : Type 0 where
  pub place : ℕ
  pub within : place ≤ most
  pub named : Names states place state
  pub led : (place ≡ most) ⊎ (is_among (all_targets nodes) place ≡ true)

-- a state's test leads to the states that are left
tested : (types : List ℕ) (states : List StateTree) (nodes : List NodeTree) (state : StateTree) (q : Part) (k : ℕ) → test_of state ≡ Some q → IsAt (IsRight types) states nodes k state
    → (outcome : Option Answer) → IsOutcome types q.asked outcome
    → (j : ℕ) × (j < k) × (is_among (all_targets nodes) j ≡ true) × Names states j (after q.at outcome state)
tested types states nodes state q k is at outcome right = of at.node at.is at.right
  where
    of : (node : NodeTree) → slice_get nodes k ≡ Some node → IsRight types at.before state node
        → (j : ℕ) × (j < k) × (is_among (all_targets nodes) j ≡ true) × Names states j (after q.at outcome state)
    of (chooses row) here chosen = absurd (none-some q (sym chosen.0 ∙ is))
    of (tests way edges otherwise) here branches =
        kept (there outcome (subst (λ (p : Part). IsOutcome types p.asked outcome) (sym same) right))
      where
        same : record { at = way; asked = branches.asked } ≡ q
        same = same_Some (record { at = way; asked = branches.asked }) q (sym branches.is_test ∙ is)

        there : (outcome : Option Answer) → IsOutcome types branches.asked outcome
            → (j : ℕ) × (is_among (targets (tests way edges otherwise)) j ≡ true) × Names at.before j (after way outcome state)
        there None right =
            let another = branches.another right in
            (another.0, other_among way edges otherwise another.0 another.1, another.2)
        there (Some found) right =
            let whole = branches.whole found right in
            (whole.0, next_among way edges otherwise found whole.0 whole.1, whole.2)

        kept : ((j : ℕ) × (is_among (targets (tests way edges otherwise)) j ≡ true) × Names at.before j (after way outcome state))
            → (j : ℕ) × (j < k) × (is_among (all_targets nodes) j ≡ true) × Names states j (after q.at outcome state)
        kept place =
            let within = slice_get_within at.before place.0 (after way outcome state) place.2 in
            let long = at.long in
            let low : place.0 < k = omega (arith, within, long) in (
              place.0,
              low,
              among_all nodes k place.0 (tests way edges otherwise) here place.1,
              subst (λ (p : Part). Names states place.0 (after p.at outcome state)) same
                  (subst (λ ss. Names ss place.0 (after way outcome state)) (sym at.all)
                  (get_left at.before at.more place.0 (after way outcome state) place.2)),
            )

all_there : (types : List ℕ) (states : List StateTree) (nodes : List NodeTree) (start : StateTree) (number : ℕ) → AreRight types states nodes → Names states number start
    → (state : StateTree) → IsReached types start state → HasPlace states nodes number state
all_there types states nodes start number right starts _ at_start =
    record { place = number; within = omega arith; named = starts; led = inl refl }
all_there types states nodes start number right starts _ (by_answer {state} {q} found reached is kind) =
    let here = all_there types states nodes start number right starts state reached in
    let next = tested types states nodes state q here.place is
    (at_place (IsRight types) states nodes right here.place state here.named) (Some found) kind in
    let within = here.within in
    let less = next.1 in
    record { place = next.0; within = omega (arith, within, less); named = next.3; led = inr next.2 }
all_there types states nodes start number right starts _ (by_another {state} {at} n reached is) =
    let here = all_there types states nodes start number right starts state reached in
    let next = tested types states nodes state (record { at = at; asked = Number n }) here.place is
    (at_place (IsRight types) states nodes right here.place state here.named) None tt in
    let within = here.within in
    let less = next.1 in
    record { place = next.0; within = omega (arith, within, less); named = next.3; led = inr next.2 }

-- the start is the last state
pub starts_last : (types : List ℕ) (most : ℕ) (start : StateTree) (nodes : List NodeTree) (graph : IsGraphOf types most start nodes) → suc graph.number ≡ length graph.states
starts_last types most start nodes graph = elim (cases_lt (suc graph.number) (length graph.states)) [
  | inl less ↦ absurd (no_more (get_there graph.states (suc graph.number) less))
  | inr no_less ↦ let within = slice_get_within graph.states graph.number start graph.starts in omega (arith, no_less, within)
]
  where
    no_more : ((state : StateTree) × Names graph.states (suc graph.number) state) → ⊥
    no_more there =
        let place = all_there types graph.states nodes start graph.number graph.right graph.starts there.0 (reached_at types start graph.states (suc graph.number) there.0 graph.reached there.1) in
        let same = same_place graph.states place.place (suc graph.number) there.0 graph.apart place.named there.1 in
        let within = place.within in
        omega (arith, same, within)

-- there are no more nodes than tests lead to, and the start
pub few_nodes : (types : List ℕ) (most : ℕ) (start : StateTree) (nodes : List NodeTree) → IsGraphOf types most start nodes
    → length nodes ≤ suc (length (all_targets nodes))
few_nodes types most start nodes graph =
    let long = as_long (IsRight types) graph.states nodes graph.right in
    let last = starts_last types most start nodes graph in
    omega (arith, no_more graph.number (all_targets nodes) led, long, last)
  where
    led : (k : ℕ) → k < graph.number → is_among (all_targets nodes) k ≡ true
    led k less = of (get_there graph.states k (let last = starts_last types most start nodes graph in omega (arith, less, last)))
      where
        of : ((state : StateTree) × Names graph.states k state) → is_among (all_targets nodes) k ≡ true
        of there =
            let place = all_there types graph.states nodes start graph.number graph.right graph.starts there.0
            (reached_at types start graph.states k there.0 graph.reached there.1) in
            let same = same_place graph.states place.place k there.0 graph.apart place.named there.1 in
            elim place.led [
              | inl start ↦ absurd (omega (arith, start, same, less))
              | inr by_test ↦ subst (λ (n : ℕ). is_among (all_targets nodes) n ≡ true) same by_test
            ]

-- ---- how many test

ones : (b : Bool) → cond b 1 0 ≡ one_if b
ones true = refl
ones false = refl

pub tests_right : (types : List ℕ) (states : List StateTree) (nodes : List NodeTree) → AreRight types states nodes → count_by is_test nodes ≡ testing states
tests_right types _ _ no_state = refl
tests_right types _ _ (one_more {states} {nodes} state node row right) =
    sum_by-append (λ n. cond (is_test n) 1 0) nodes (node ∷ [])
    ∙ (let rest = tests_right types states nodes row in
    let one = sum_by-cons (λ n. cond (is_test n) 1 0) node [] in
    let more = testing_push states state (is_test node) (tests_as types states state node right) in
    let same = ones (is_test node) in
    omega (arith, rest, one, more, same))

pub tests_turned : (last : ℕ) (nodes : List NodeTree) → count_by is_test (turned last nodes) ≡ count_by is_test nodes
tests_turned last [] = refl
tests_turned last (node ∷ nodes) =
    sum_by-append (λ n. cond (is_test n) 1 0) (turned last nodes) (turn_node last node ∷ [])
    ∙ (let rest = tests_turned last nodes in
    let one = sum_by-cons (λ n. cond (is_test n) 1 0) (turn_node last node) [] in
    let all = sum_by-cons (λ n. cond (is_test n) 1 0) node nodes in
    let same : ◌≡◌ {A = ℕ} (cond (is_test (turn_node last node)) 1 0) (cond (is_test node) 1 0) = ap (λ b. cond b 1 0) (of node) in
    omega (arith, rest, one, all, same))
  where
    of : (node : NodeTree) → is_test (turn_node last node) ≡ is_test node
    of (chooses row) = refl
    of (tests way edges otherwise) = refl

-- rows in turn have a test for each part
parts_test : (other : ℕ) (qs : List Part) (nodes : List NodeTree) → count_by is_test (with_parts other qs nodes) ≡ length qs + count_by is_test nodes
parts_test other [] nodes = sym (zero-add (count_by is_test nodes))
parts_test other (q ∷ qs) nodes =
    let test = tests q.at (record { found = q.asked; next = length (with_parts other qs nodes) - 1 } ∷ []) (Some other) in
    let rest = parts_test other qs nodes in
    let both = sum_by-append (λ n. cond (is_test n) 1 0) (with_parts other qs nodes) (test ∷ []) in
    let one = sum_by-cons (λ n. cond (is_test n) 1 0) test [] in
    omega (arith, rest, both, one)

pub rows_test : (lines : StateTree) → count_by is_test (with_rows lines []) ≡ weight lines
rows_test [] = refl
rows_test (line ∷ lines) =
    let nodes = with_rows lines [] in
    let rest = rows_test lines in
    let parts = parts_test (length nodes - 1) line.left (nodes ++ chooses line.row ∷ []) in
    let both = sum_by-append (λ n. cond (is_test n) 1 0) nodes (chooses line.row ∷ []) in
    let one = sum_by-cons (λ n. cond (is_test n) 1 0) (chooses line.row) [] in
    omega (arith, rest, parts, both, one)

pub has_tests : (types : List ℕ) (most : ℕ) (start : StateTree) (nodes : List NodeTree) (graph : IsGraphOf types most start nodes) → HasTests types start (testing graph.states)
has_tests types most start nodes graph = record {
  states = graph.states;
  apart = graph.apart;
  reached = λ state contains. let place = place_of graph.states state contains in reached_at types start graph.states place.0 state graph.reached place.1;
  all = λ state reached. let place = all_there types graph.states nodes start graph.number graph.right graph.starts state reached in contained graph.states place.place state place.named;
  tests = refl;
}

-- ---- the rows of the states

pub reached_below : (types : List ℕ) (rows : ℕ) (start state : StateTree) → AreBelow rows start → IsReached types start state → AreBelow rows state
reached_below types rows start _ below at_start = below
reached_below types rows start _ below (by_answer {state} {q} found reached is kind) = after_below rows q.at (Some found) state (reached_below types rows start state below reached)
reached_below types rows start _ below (by_another {state} {at} n reached is) = after_below rows at None state (reached_below types rows start state below reached)
