-- Turned nodes look at little on the way to a row: at a position and its edges for each part that is left, and positions are short.
use Rattle.std.proofs.Common.{◌≡◌, ℕ, zero, suc, ◌+◌, ◌*◌, ◌-◌, ◌<◌, ◌≤◌, nat_eq, Bool, true, false, Option, None, Some, option_map, List, [], ◌∷◌, ◌++◌, length, map, refl, sym, subst, arith, length-append}
use Rattle.std.specs.Prelude.{slice_get, sum_by, if◌then◌else◌}
use lib.Pointwise.{pointwise}
use Rattle.std.proofs.Math.Nat.{mul-le-mul_right}
use Rattle.std.proofs.lemmas.List.{length-map}
use Rattle.std.proofs.lemmas.List.Sums.{sum_by-cons}
use Rattle.kk_syntax.specs.Patterns.{Pattern, anything, variable, exactly, constructor, Patterns, no_part, part}
use Rattle.kk_syntax.specs.Shapes.{is_among, nodes_of_pattern, nodes_of_patterns}
use Rattle.kk_source.specs.Matching.{and_then}
use Rattle.kk_source.specs.State.{Value, Cell}
use Rattle.kk_core.specs.declared.decisions.Answer.{Answer}
use Rattle.kk_core.specs.declared.decisions.Answer.TheVariants.{Constructor}
use Rattle.kk_core.specs.Decisions.{NodeTree, chooses, tests, targets, found_at, next_by}
use Rattle.kk_core.specs.Looks.{looks_behind, looks_at, looks_from, HasFewLooks}
use Rattle.kk_match.specs.Parts.{Part, has_several, parts_of, parts_of_all}
use Rattle.kk_match.specs.Graphs.{StateTree, agrees, left_after, kept_line, after, first_of, test_of, IsReached, at_start, by_answer, by_another, weight, lines_from}
use Rattle.kk_match.specs.Built.{Names, InRow}
use Rattle.kk_match.specs.Turned.{turn_edge, turn_node, turned}
use Rattle.kk_match.proofs.StateAfterAnswer.{lighter}
use Rattle.kk_match.proofs.RowOrder.{AllLight, PartsShort, AreShort, AllShort}
use Rattle.kk_match.proofs.NodeRuns.{IsSound, Stands, turns_to, next_turned, turned_at}
use Rattle.kk_match.proofs.Targets.{next_among}

-- ---- positions stay short

abbrev LeftShort : ℕ → Option (List Part) → Type 0
LeftShort most None = Unit {0}
LeftShort most (Some left) = PartsShort most left

left_short : (most : ℕ) (at : List ℕ) (outcome : Option Answer) (qs : List Part) → PartsShort most qs
    → LeftShort most (left_after at outcome qs)
left_short most at outcome [] short = tt
left_short most at outcome (q ∷ qs) short =
    by (pointwise nat_eq q.at at) (agrees outcome q.asked) (left_after at outcome qs) (left_short most at outcome qs short.1)
  where
    put : (left : Option (List Part)) → LeftShort most left → LeftShort most (option_map (λ rest. q ∷ rest) left)
    put None rest = tt
    put (Some left) rest = (short.0, rest)

    by : (here agreed : Bool) (left : Option (List Part)) → LeftShort most left
        → LeftShort most (if here then (if agreed then left else None) else option_map (λ rest. q ∷ rest) left)
    by true true left rest = rest
    by true false left rest = tt
    by false agreed left rest = put left rest

kept_short : (most row : ℕ) (left : Option (List Part)) (rest : StateTree) → LeftShort most left → AreShort most rest
    → AreShort most (kept_line row left rest)
kept_short most row None rest here behind = behind
kept_short most row (Some left) rest here behind = (here, behind)

after_short : (most : ℕ) (at : List ℕ) (outcome : Option Answer) (state : StateTree) → AreShort most state
    → AreShort most (after at outcome state)
after_short most at outcome [] short = tt
after_short most at outcome (line ∷ lines) short =
    kept_short most line.row (left_after at outcome line.left) (after at outcome lines)
    (left_short most at outcome line.left short.0) (after_short most at outcome lines short.1)

-- in each state that is reached
pub reached_short : (types : List ℕ) (most : ℕ) (start state : StateTree) → AreShort most start → IsReached types start state
    → AreShort most state
reached_short types most start _ short at_start = short
reached_short types most start _ short (by_answer {state} {q} found reached is kind) =
    after_short most q.at (Some found) state (reached_short types most start state short reached)
reached_short types most start _ short (by_another {state} {at} n reached is) =
    after_short most at None state (reached_short types most start state short reached)

-- the position of a test is short
pub test_short : (most : ℕ) (state : StateTree) (q : Part) → test_of state ≡ Some q → AreShort most state → length q.at < most
test_short most [] q is short = cc
test_short most (line ∷ lines) q is short = of line.left is short.0
  where
    of : (left : List Part) → first_of left ≡ Some q → PartsShort most left → length q.at < most
    of [] is short = cc
    of (p ∷ ps) is short = let same : p ≡ q = cc in subst (λ (r : Part). length r.at < most) same short.0

-- ---- positions of patterns are short

both_short : (most : ℕ) (ps qs : List Part) → PartsShort most ps → PartsShort most qs → PartsShort most (ps ++ qs)
both_short most [] qs first second = second
both_short most (p ∷ ps) qs first second = (first.0, both_short most ps qs first.1 second)

-- a position goes down into a pattern by its nodes
mutual
  parts_short : (types at : List ℕ) (most : ℕ) (p : Pattern) → length at + nodes_of_pattern p ≤ most
      → PartsShort most (parts_of types at p)
  parts_short types at most anything le = tt
  parts_short types at most (variable x) le = tt
  parts_short types at most (exactly n) le = (omega (arith, le), tt)
  parts_short types at most (constructor c ps) le =
      both_short most (if has_several types c then record { at = at; asked = Constructor c } ∷ [] else [])
      (parts_of_all types at 0 ps) (own (has_several types c)) (all_parts_short types at most 0 ps (omega (arith, le)))
    where
      own : (several : Bool) → PartsShort most (if several then record { at = at; asked = Constructor c } ∷ [] else [])
      own true = (omega (arith, le), tt)
      own false = tt

  all_parts_short : (types at : List ℕ) (most field : ℕ) (ps : Patterns) → length at + 1 + nodes_of_patterns ps ≤ most
      → PartsShort most (parts_of_all types at field ps)
  all_parts_short types at most field no_part le = tt
  all_parts_short types at most field (part first rest) le =
      let long = length-append at (field ∷ []) in
      both_short most (parts_of types (at ++ field ∷ []) first) (parts_of_all types at (field + 1) rest)
      (parts_short types (at ++ field ∷ []) most first (omega (arith, le, long)))
      (all_parts_short types at most (field + 1) rest (omega (arith, le)))

-- the positions of all rows are shorter than their patterns have nodes
pub lines_short : (types : List ℕ) (most k : ℕ) (ps : List Pattern) → sum_by nodes_of_pattern ps ≤ most
    → AreShort most (lines_from types k ps)
lines_short types most k [] le = tt
lines_short types most k (p ∷ ps) le =
    let all = sum_by-cons nodes_of_pattern p ps in
    (parts_short types [] most p (omega (arith, le, all)), lines_short types most (k + 1) ps (omega (arith, le, all)))

-- ---- turned nodes

-- A test that leaves fewer parts pays for its node, its position and its edges, and for what is behind it.
pays : (most at edges later here looks : ℕ) → at < most → edges + later ≤ here → later < here → looks ≤ later * (most + 1)
    → suc (at + edges) + looks ≤ here * (most + 1)
pays most at edges later here looks short few less behind =
    let gone : ℕ = here - suc later in
    let whole : later + suc gone ≡ here = omega (arith, less) in
    subst (λ (n : ℕ). suc (at + edges) + looks ≤ n * (most + 1)) whole
    (omega (arith, short, few, whole, behind))

module _ (types : List ℕ) (states : List StateTree) (nodes : List NodeTree) (last most : ℕ)
    (sound : InRow (IsSound types) states nodes) (count : suc last ≡ length nodes) (short : AllShort most states) (cells : ℕ → Option Cell) (v : Value) where
  -- from the node of a state on no more is looked at than for so many parts
  looks_left : (steps k : ℕ) (state : StateTree) → Stands states k state
      → looks_from cells v (turned last nodes) steps k ≤ weight state * (most + 1)
  looks_left zero k state stands = omega arith
  looks_left (suc steps) k state stands =
      let here = turns_to (IsSound types) states nodes last k state sound count stands in
      subst (λ (o : Option NodeTree). looks_at cells v (looks_from cells v (turned last nodes) steps) o ≤ weight state * (most + 1))
      (sym here.is)
      (by here.before here.node here.right (λ j later names. looks_left steps (last - j) later (here.later j later names)))
    where
      by : (before : List StateTree) (node : NodeTree) → IsSound types before state node
          → ((j : ℕ) (later : StateTree) → Names before j later
          → looks_from cells v (turned last nodes) steps (last - j) ≤ weight later * (most + 1))
          → looks_at cells v (looks_from cells v (turned last nodes) steps) (Some (turn_node last node)) ≤ weight state * (most + 1)
      by before (chooses row) right rest = omega arith
      by before (tests at edges otherwise) right rest = at_answer (found_at cells at v)
        where
          test : Part
          test = record { at = at; asked = right.asked }

          low_at : length at < most
          low_at = test_short most state test right.is_test (short stands.place state stands.named)

          same : length (map (turn_edge last) edges) ≡ length edges
          same = length-map edges (turn_edge last)

          none : suc (length at + length (map (turn_edge last) edges)) + 0 ≤ weight state * (most + 1)
          none =
              let some = lighter state test None right.is_test in
              pays most (length at) (length (map (turn_edge last) edges)) 0 (weight state) 0 low_at
              (let few = right.few in omega (arith, same, few)) (omega (arith, some)) (omega arith)

          on : (o : Option ℕ) → ((j : ℕ) → o ≡ Some j → is_among (targets (tests at edges otherwise)) j ≡ true)
              → suc (length at + length (map (turn_edge last) edges))
              + looks_behind (looks_from cells v (turned last nodes) steps) (option_map (λ j. last - j) o)
              ≤ weight state * (most + 1)
          on None among = none
          on (Some j) among =
              let leads = right.leads j (among j refl) in
              pays most (length at) (length (map (turn_edge last) edges)) (weight leads.0) (weight state)
              (looks_from cells v (turned last nodes) steps (last - j)) low_at
              (let few = leads.2 in omega (arith, same, few)) leads.3 (rest j leads.0 leads.1)

          at_answer : (o : Option Answer)
              → suc (length at + length (map (turn_edge last) edges))
              + looks_behind (looks_from cells v (turned last nodes) steps)
              (and_then o (next_by (map (turn_edge last) edges) (option_map (λ j. last - j) otherwise)))
              ≤ weight state * (most + 1)
          at_answer None = none
          at_answer (Some found) =
              subst
              (λ (next : Option ℕ). suc (length at + length (map (turn_edge last) edges))
              + looks_behind (looks_from cells v (turned last nodes) steps) next ≤ weight state * (most + 1))
              (sym (next_turned last edges otherwise found))
              (on (next_by edges otherwise found) (λ j is. next_among at edges otherwise found j is))

  -- and so from whichever node on
  looks_few : (parts : ℕ) → AllLight parts states → (steps k : ℕ)
      → looks_from cells v (turned last nodes) steps k ≤ parts * (most + 1)
  looks_few parts light zero k = omega arith
  looks_few parts light (suc steps) k = by (slice_get (turned last nodes) k) refl
    where
      by : (o : Option NodeTree) → slice_get (turned last nodes) k ≡ o
          → looks_at cells v (looks_from cells v (turned last nodes) steps) (slice_get (turned last nodes) k) ≤ parts * (most + 1)
      by None is =
          subst (λ (o : Option NodeTree). looks_at cells v (looks_from cells v (turned last nodes) steps) o ≤ parts * (most + 1))
          (sym is) (omega arith)
      by (Some node) is =
          let at = turned_at (IsSound types) states nodes last k node sound count is in
          let left = looks_left (suc steps) k at.state at.stands in
          let here = light at.stands.place at.state at.stands.named in
          let more = mul-le-mul_right (most + 1) here in
          omega (arith, left, more)

-- where states have so few parts left, and such short positions
pub has_few_looks : (types : List ℕ) (states : List StateTree) (nodes : List NodeTree) (last parts most : ℕ)
    → InRow (IsSound types) states nodes → suc last ≡ length nodes → AllLight parts states → AllShort most states → HasFewLooks (turned last nodes) (parts * (most + 1))
has_few_looks types states nodes last parts most sound count light short =
    λ cells v steps k. looks_few types states nodes last most sound count short cells v parts light steps k
