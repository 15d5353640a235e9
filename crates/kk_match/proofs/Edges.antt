-- Turned nodes lead no value through more edges than parts are left in the state of the first one.
use Rattle.std.proofs.Common.{◌≡◌, ℕ, zero, suc, ◌+◌, ◌-◌, ◌≤◌, Bool, true, false, Option, None, Some, option_map, List, [], ◌∷◌, ◌++◌, length, map, refl, sym, subst, arith, length-append}
use Rattle.std.specs.Prelude.{slice_get, sum_by, if◌then◌else◌}
use Rattle.std.proofs.lemmas.List.{length-map}
use Rattle.std.proofs.lemmas.List.Sums.{sum_by-cons}
use Rattle.kk_syntax.specs.Patterns.{Pattern, anything, variable, exactly, constructor, Patterns, no_part, part}
use Rattle.kk_syntax.specs.Shapes.{is_among, nodes_of_pattern, nodes_of_patterns}
use Rattle.kk_source.specs.Matching.{and_then}
use Rattle.kk_source.specs.State.{Value, Cell}
use Rattle.kk_core.specs.declared.decisions.Answer.{Answer}
use Rattle.kk_core.specs.declared.decisions.Answer.TheVariants.{Constructor}
use Rattle.kk_core.specs.Decisions.{NodeTree, chooses, tests, targets, found_at, next_by}
use Rattle.kk_core.specs.Edges.{edges_behind, edges_at, edges_from, HasFewEdges}
use Rattle.kk_match.specs.Parts.{has_several, parts_of, parts_of_all}
use Rattle.kk_match.specs.Graphs.{StateTree, IsReached, at_start, by_answer, by_another, weight, lines_from}
use Rattle.kk_match.specs.Built.{Names, InRow}
use Rattle.kk_match.specs.Decided.{most_tests, IsFormed}
use Rattle.kk_match.specs.Turned.{turn_edge, turn_node, turned}
use Rattle.kk_match.proofs.StateAfterAnswer.{not_heavier}
use Rattle.kk_match.proofs.RowOrder.{AllLight}
use Rattle.kk_match.proofs.NodeRuns.{IsSound, Stands, turns_to, next_turned, turned_at}
use Rattle.kk_match.proofs.Targets.{next_among}

-- ---- turned nodes

module _ (types : List ℕ) (states : List StateTree) (nodes : List NodeTree) (last : ℕ) (sound : InRow (IsSound types) states nodes)
    (count : suc last ≡ length nodes) (cells : ℕ → Option Cell) (v : Value) where
  -- from the node of a state on there are no more edges than parts are left
  edges_left : (steps k : ℕ) (state : StateTree) → Stands states k state → edges_from cells v (turned last nodes) steps k ≤ weight state
  edges_left zero k state stands = omega arith
  edges_left (suc steps) k state stands =
      let here = turns_to (IsSound types) states nodes last k state sound count stands in
      subst (λ (o : Option NodeTree). edges_at cells v (edges_from cells v (turned last nodes) steps) o ≤ weight state)
      (sym here.is)
      (by here.before here.node here.right (λ j later names. edges_left steps (last - j) later (here.later j later names)))
    where
      by : (before : List StateTree) (node : NodeTree) → IsSound types before state node
          → ((j : ℕ) (later : StateTree) → Names before j later → edges_from cells v (turned last nodes) steps (last - j) ≤ weight later)
          → edges_at cells v (edges_from cells v (turned last nodes) steps) (Some (turn_node last node)) ≤ weight state
      by before (chooses row) right rest = omega arith
      by before (tests at edges otherwise) right rest = at_answer (found_at cells at v)
        where
          none : length (map (turn_edge last) edges) + 0 ≤ weight state
          none = let same = length-map edges (turn_edge last) in let few = right.few in omega (arith, same, few)

          on : (o : Option ℕ) → ((j : ℕ) → o ≡ Some j → is_among (targets (tests at edges otherwise)) j ≡ true)
              → length (map (turn_edge last) edges) + edges_behind (edges_from cells v (turned last nodes) steps) (option_map (λ j. last - j) o) ≤ weight state
          on None among = none
          on (Some j) among =
              let leads = right.leads j (among j refl) in
              let behind = rest j leads.0 leads.1 in
              let same = length-map edges (turn_edge last) in
              let lighter = leads.2 in
              omega (arith, behind, same, lighter)

          at_answer : (o : Option Answer)
              → length (map (turn_edge last) edges)
              + edges_behind (edges_from cells v (turned last nodes) steps) (and_then o (next_by (map (turn_edge last) edges) (option_map (λ j. last - j) otherwise)))
              ≤ weight state
          at_answer None = none
          at_answer (Some found) =
              subst
              (λ (next : Option ℕ). length (map (turn_edge last) edges) + edges_behind (edges_from cells v (turned last nodes) steps) next ≤ weight state)
              (sym (next_turned last edges otherwise found))
              (on (next_by edges otherwise found) (λ j is. next_among at edges otherwise found j is))

  few_from : (most : ℕ) → AllLight most states → (steps k : ℕ) → edges_from cells v (turned last nodes) steps k ≤ most
  few_from most light zero k = omega arith
  few_from most light (suc steps) k = by (slice_get (turned last nodes) k) refl
    where
      by : (o : Option NodeTree) → slice_get (turned last nodes) k ≡ o
          → edges_at cells v (edges_from cells v (turned last nodes) steps) (slice_get (turned last nodes) k) ≤ most
      by None is = subst (λ (o : Option NodeTree). edges_at cells v (edges_from cells v (turned last nodes) steps) o ≤ most) (sym is) (omega arith)
      by (Some node) is =
          let at = turned_at (IsSound types) states nodes last k node sound count is in
          let left = edges_left (suc steps) k at.state at.stands in
          let here = light at.stands.place at.state at.stands.named in
          omega (arith, left, here)

pub has_few : (types : List ℕ) (states : List StateTree) (nodes : List NodeTree) (last most : ℕ) → InRow (IsSound types) states nodes
    → suc last ≡ length nodes → AllLight most states → HasFewEdges (turned last nodes) most
has_few types states nodes last most sound count light =
    λ cells v steps k. few_from types states nodes last sound count cells v most light steps k

-- ---- the parts that are left

pub reached_light : (types : List ℕ) (start state : StateTree) → IsReached types start state → weight state ≤ weight start
reached_light types start _ at_start = omega arith
reached_light types start _ (by_answer {state} {q} found reached is kind) =
    let before = reached_light types start state reached in
    let light = not_heavier q.at (Some found) state in
    omega (arith, before, light)
reached_light types start _ (by_another {state} {at} n reached is) =
    let before = reached_light types start state reached in
    let light = not_heavier at None state in
    omega (arith, before, light)

-- a pattern has no more parts than nodes
mutual
  parts_small : (types at : List ℕ) (p : Pattern) → length (parts_of types at p) ≤ nodes_of_pattern p
  parts_small types at anything = omega arith
  parts_small types at (variable x) = omega arith
  parts_small types at (exactly n) = omega arith
  parts_small types at (constructor c ps) = by (has_several types c) (all_parts_small types at 0 ps)
    where
      by : (several : Bool) → length (parts_of_all types at 0 ps) ≤ nodes_of_patterns ps
          → length ((if several then record { at = at; asked = Constructor c } ∷ [] else []) ++ parts_of_all types at 0 ps) ≤ nodes_of_patterns ps + 1
      by true few = omega (arith, few)
      by false few = omega (arith, few)

  all_parts_small : (types at : List ℕ) (field : ℕ) (ps : Patterns) → length (parts_of_all types at field ps) ≤ nodes_of_patterns ps
  all_parts_small types at field no_part = omega arith
  all_parts_small types at field (part first rest) =
      let both = length-append (parts_of types (at ++ field ∷ []) first) (parts_of_all types at (field + 1) rest) in
      let one = parts_small types (at ++ field ∷ []) first in
      let others = all_parts_small types at (field + 1) rest in
      omega (arith, both, one, others)

pub lines_small : (types : List ℕ) (k : ℕ) (ps : List Pattern) → weight (lines_from types k ps) ≤ sum_by nodes_of_pattern ps
lines_small types k [] = omega arith
lines_small types k (p ∷ ps) =
    let one = parts_small types [] p in
    let others = lines_small types (k + 1) ps in
    let all = sum_by-cons nodes_of_pattern p ps in
    omega (arith, one, others, all)

-- ---- the tests

pub formed_few : (types : List ℕ) (ps : List Pattern) (nodes : List NodeTree) (count : ℕ) (by_rows : Bool)
    → IsFormed types ps nodes count by_rows → count ≤ most_tests ps
formed_few types ps nodes count false formed = formed.1
formed_few types ps nodes count true formed =
    let same = formed.1 in
    let few = lines_small types 0 ps in
    omega (arith, same, few)
