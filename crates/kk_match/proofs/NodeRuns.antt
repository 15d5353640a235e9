-- Nodes in a row choose the first row that fits, once they are turned.
use Rattle.std.proofs.Common.{◌≡◌, ℕ, zero, suc, ◌+◌, ◌-◌, ◌<◌, ◌≤◌, Bool, true, false, ◌||◌, Option, None, Some, option_map, List, [], ◌∷◌, ◌++◌, length, map, inl, inr, refl, sym, ap, ◌∙◌, subst, arith, append_assoc, length-append}
use Rattle.std.specs.Prelude.{slice_get, if◌then◌else◌, ◌==◌}
use Rattle.std.proofs.lemmas.Bool.{both_ways, eqb-true, eq-eqb}
use Rattle.std.proofs.lemmas.Option.{none-some, same_Some, slice_get_within}
use Rattle.kk_syntax.specs.Shapes.{is_among}
use Rattle.kk_source.specs.Matching.{and_then}
use Rattle.kk_source.specs.State.{Value, Store}
use Rattle.kk_core.specs.declared.decisions.Answer.{Answer}
use Rattle.kk_core.specs.declared.decisions.Answer.TheVariants.{Number, Constructor}
use Rattle.kk_core.specs.declared.decisions.Edge.{Edge}
use Rattle.kk_core.specs.Decisions.{NodeTree, chooses, tests, targets, row_chosen, found_at, is_answer, next_by, row_at, chosen_from, AreOrderly}
use Rattle.kk_match.specs.Parts.{Part, both_same, IsKind}
use Rattle.kk_match.specs.Graphs.{StateTree, after, first_of, test_of, row_of, weight}
use Rattle.kk_match.specs.Built.{Names, AreOfKind, IsRight, InRow, no_state, one_more, AreRight}
use Rattle.kk_match.specs.Turned.{turn_edge, turn_node, turned}
use Rattle.kk_match.proofs.StateAfterAnswer.{AreBelow, lighter, lighter_by}
use Rattle.kk_match.proofs.EdgeAnswers.{either}
use Rattle.kk_match.proofs.RowFit.{fits, first_fit, IsFound, AreReady, test_ready, after_fits, after_ready}
use Rattle.kk_match.proofs.Places.{get_left, get_last, get_push, get_there, get_same}

-- ---- states and nodes in a row

-- a state's node, and the states before it
pub record IsAt (R : List StateTree → StateTree → NodeTree → Type 0) (states : List StateTree) (nodes : List NodeTree) (k : ℕ) (state : StateTree) : Type 0 where
  pub node : NodeTree
  pub is : slice_get nodes k ≡ Some node
  pub before : List StateTree
  pub long : length before ≡ k
  pub more : List StateTree
  pub all : states ≡ before ++ more
  pub right : R before state node

module _ (R : List StateTree → StateTree → NodeTree → Type 0) where
  pub as_long : (states : List StateTree) (nodes : List NodeTree) → InRow R states nodes → length states ≡ length nodes
  as_long _ _ no_state = refl
  as_long _ _ (one_more {states} {nodes} state node row right) =
      let rest = as_long states nodes row in
      length-append states (state ∷ []) ∙ (ap (λ n. n + 1) rest ∙ sym (length-append nodes (node ∷ [])))

  pub at_place : (states : List StateTree) (nodes : List NodeTree) → InRow R states nodes → (k : ℕ) (state : StateTree) → Names states k state → IsAt R states nodes k state
  at_place _ _ no_state k state named = cc
  at_place _ _ (one_more {states} {nodes} last node row right) k state named = elim (get_push states last state k named) [
    | inl before ↦
        let rest = at_place states nodes row k state before in record {
          node = rest.node;
          is = get_left nodes (node ∷ []) k rest.node rest.is;
          before = rest.before;
          long = rest.long;
          more = rest.more ++ last ∷ [];
          all = ap (λ ss. ss ++ last ∷ []) rest.all ∙ append_assoc rest.before rest.more (last ∷ []);
          right = rest.right;
        }
    | inr here ↦ record {
      node = node;
      is = subst (λ n. slice_get (nodes ++ node ∷ []) n ≡ Some node) (sym (here.0 ∙ as_long states nodes row)) (get_last nodes node);
      before = states;
      long = sym here.0;
      more = last ∷ [];
      all = refl;
      right = subst (λ s. R states s node) here.1 right;
    }
  ]

in_row_map : (R S : List StateTree → StateTree → NodeTree → Type 0) → ((states : List StateTree) (state : StateTree) (node : NodeTree) → R states state node → S states state node)
    → (states : List StateTree) (nodes : List NodeTree) → InRow R states nodes → InRow S states nodes
in_row_map R S each _ _ no_state = no_state
in_row_map R S each _ _ (one_more {states} {nodes} state node row right) = one_more state node (in_row_map R S each states nodes row) (each states state node right)

-- ---- sound nodes

-- an answer at a position moves from a state to another one, where the same row fits first
abbrev pub Moves : List ℕ → List ℕ → Answer → StateTree → StateTree → Type 0
Moves types at found state later =
    (store : Store) (v : Value) → found_at (slice_get store) at v ≡ Some found → AreReady types store v state
    → AreReady types store v later × ((row : ℕ) → first_fit store v state ≡ Some row → first_fit store v later ≡ Some row)

pub record Turns (types : List ℕ) (states : List StateTree) (state : StateTree) (at : List ℕ) (edges : List Edge) (otherwise : Option ℕ) : Type 0 where
  pub asked : Answer
  pub is_test : test_of state ≡ Some (record { at = at; asked = asked })
  pub of_kind : (found : Answer) → IsKind types asked found → AreOfKind types found edges
  pub few : length edges ≤ weight state
  pub leads : (j : ℕ) → is_among (targets (tests at edges otherwise)) j ≡ true
      → (later : StateTree) × Names states j later × (length edges + weight later ≤ weight state) × (weight later < weight state)
  pub moves : (found : Answer) → IsKind types asked found
      → (j : ℕ) × (next_by edges otherwise found ≡ Some j) × (later : StateTree) × Names states j later × Moves types at found state later

-- the node of a state chooses its first row, or moves on
abbrev pub IsSound : List ℕ → List StateTree → StateTree → NodeTree → Type 0
IsSound types states state (chooses row) = (test_of state ≡ None) × (row ≡ row_of state)
IsSound types states state (tests at edges otherwise) = Turns types states state at edges otherwise

pub after_moves : (types : List ℕ) (at : List ℕ) (found : Answer) (state : StateTree) → Moves types at found state (after at (Some found) state)
after_moves types at found state = λ store v is ready. (after_ready types store v at found state is ready, λ row fit. after_fits store v at found state is ∙ fit)

-- answers of one kind may stand where each of them does
same_both : (a b c : Option ℕ) → both_same a b ≡ true → both_same a c ≡ true → both_same b c ≡ true
same_both None b c one other = absurd (both_ways false refl one)
same_both (Some x) None c one other = absurd (both_ways false refl one)
same_both (Some x) (Some y) None one other = absurd (both_ways false refl other)
same_both (Some x) (Some y) (Some z) one other = eq-eqb y z (sym (eqb-true x y one) ∙ eqb-true x z other)

pub kind_between : (types : List ℕ) (asked one other : Answer) → IsKind types asked one → IsKind types asked other → IsKind types one other
kind_between types (Number n) (Number m) (Number l) first second = refl
kind_between types (Number n) (Number m) (Constructor d) first second = absurd (both_ways false refl second)
kind_between types (Number n) (Constructor c) other first second = absurd (both_ways false refl first)
kind_between types (Constructor b) (Number n) other first second = absurd (both_ways false refl first)
kind_between types (Constructor b) (Constructor c) (Number n) first second = absurd (both_ways false refl second)
kind_between types (Constructor b) (Constructor c) (Constructor d) first second = same_both (slice_get types b) (slice_get types c) (slice_get types d) first second

-- what an answer may stand for may stand for itself
pub kind_itself : (types : List ℕ) (asked found : Answer) → IsKind types asked found → IsKind types asked asked
kind_itself types (Number n) found kind = refl
kind_itself types (Constructor c) (Number n) kind = absurd (both_ways false refl kind)
kind_itself types (Constructor c) (Constructor d) kind = same_itself (slice_get types c) (slice_get types d) kind
  where
    same_itself : (a b : Option ℕ) → both_same a b ≡ true → both_same a a ≡ true
    same_itself None b same = same
    same_itself (Some x) b same = eq-eqb x x refl

kind_of_edges : (types : List ℕ) (asked found : Answer) (edges : List Edge) → IsKind types asked found → AreOfKind types asked edges → AreOfKind types found edges
kind_of_edges types asked found [] kind are = tt
kind_of_edges types asked found (edge ∷ edges) kind are = (kind_between types asked found edge.found kind are.0, kind_of_edges types asked found edges kind are.1)

right_sound : (types : List ℕ) (states : List StateTree) (state : StateTree) (node : NodeTree) → IsRight types states state node → IsSound types states state node
right_sound types states state (chooses row) right = right
right_sound types states state (tests at edges otherwise) right = record {
  asked = right.asked;
  is_test = right.is_test;
  of_kind = λ found kind. kind_of_edges types right.asked found edges kind right.of_kind;
  few = (let few = right.few in let lighter_so = lighter_by at None state in omega (arith, few, lighter_so));
  leads = λ j among.
      let leads = right.leads j among in
      let few = right.few in
      let lighter_so = lighter_by at leads.0 state in (
        after at leads.0 state,
        leads.2,
        omega (arith, few, lighter_so),
        lighter state (record { at = at; asked = right.asked }) leads.0 right.is_test,
      );
  moves = λ found kind. let whole = right.whole found kind in (whole.0, whole.1, after at (Some found) state, whole.2, after_moves types at found state);
}

pub are_sound : (types : List ℕ) (states : List StateTree) (nodes : List NodeTree) → AreRight types states nodes → InRow (IsSound types) states nodes
are_sound types states nodes right = in_row_map (IsRight types) (IsSound types) (right_sound types) states nodes right

-- ---- turned nodes

pub length_turned : (last : ℕ) (nodes : List NodeTree) → length (turned last nodes) ≡ length nodes
length_turned last [] = refl
length_turned last (node ∷ nodes) = let rest = length_turned last nodes in let both = length-append (turned last nodes) (turn_node last node ∷ []) in omega (arith, rest, both)

pub get_turned : (last : ℕ) (nodes : List NodeTree) (i k : ℕ) (node : NodeTree) → i + suc k ≡ length nodes → slice_get nodes i ≡ Some node → slice_get (turned last nodes) k ≡ Some (turn_node last node)
get_turned last [] i k node sum is = cc
get_turned last (first ∷ nodes) zero k node sum is =
    let place : length (turned last nodes) ≡ k = (let long = length_turned last nodes in omega (arith, sum, long)) in
    subst (λ n. slice_get (turned last nodes ++ turn_node last first ∷ []) n ≡ Some (turn_node last node)) place
    (get_last (turned last nodes) (turn_node last first) ∙ ap (λ n. Some (turn_node last n)) (same_Some first node is))
get_turned last (first ∷ nodes) (suc i) k node sum is =
    get_left (turned last nodes) (turn_node last first ∷ []) k (turn_node last node) (get_turned last nodes i k node (omega (arith, sum)) is)

pub next_turned : (last : ℕ) (edges : List Edge) (otherwise : Option ℕ) (found : Answer)
    → next_by (map (turn_edge last) edges) (option_map (λ j. last - j) otherwise) found ≡ option_map (λ j. last - j) (next_by edges otherwise found)
next_turned last [] otherwise found = refl
next_turned last (edge ∷ edges) otherwise found = by (is_answer edge.found found) (next_turned last edges otherwise found)
  where
    by : (here : Bool) → next_by (map (turn_edge last) edges) (option_map (λ j. last - j) otherwise) found ≡ option_map (λ j. last - j) (next_by edges otherwise found)
        → (if here then Some (last - edge.next) else next_by (map (turn_edge last) edges) (option_map (λ j. last - j) otherwise) found)
        ≡ option_map (λ j. last - j) (if here then Some edge.next else next_by edges otherwise found)
    by true rest = refl
    by false rest = rest

-- a target of a turned node is a target turned
pub record WasTarget (last : ℕ) (node : NodeTree) (j : ℕ) : Type 0 where
  pub target : ℕ
  pub among : is_among (targets node) target ≡ true
  pub turned : j ≡ last - target

edge_target : (last : ℕ) (edges : List Edge) (j : ℕ) → is_among (map (λ (e : Edge). e.next) (map (turn_edge last) edges)) j ≡ true
    → (i : ℕ) × (is_among (map (λ (e : Edge). e.next) edges) i ≡ true) × (j ≡ last - i)
edge_target last [] j among = absurd (both_ways false refl among)
edge_target last (edge ∷ edges) j among = elim (either ((last - edge.next) == j) (is_among (map (λ (e : Edge). e.next) (map (turn_edge last) edges)) j) among) [
  | inl here ↦ (edge.next, ap (λ b. b || is_among (map (λ (e : Edge). e.next) edges) edge.next) (eq-eqb edge.next edge.next refl), sym (eqb-true (last - edge.next) j here))
  | inr behind ↦
      let rest = edge_target last edges j behind in
      (rest.0, later (edge.next == rest.0) (is_among (map (λ (e : Edge). e.next) edges) rest.0) rest.1, rest.2)
]
  where
    later : (a b : Bool) → b ≡ true → (a || b) ≡ true
    later true b is = refl
    later false b is = is

pub was_target : (last : ℕ) (node : NodeTree) (j : ℕ) → is_among (targets (turn_node last node)) j ≡ true → WasTarget last node j
was_target last (chooses row) j among = absurd (both_ways false refl among)
was_target last (tests at edges None) j among = let edge = edge_target last edges j among in record { target = edge.0; among = edge.1; turned = edge.2 }
was_target last (tests at edges (Some other)) j among = elim (either ((last - other) == j) (is_among (map (λ (e : Edge). e.next) (map (turn_edge last) edges)) j) among) [
  | inl here ↦ record {
    target = other;
    among = ap (λ b. b || is_among (map (λ (e : Edge). e.next) edges) other) (eq-eqb other other refl);
    turned = sym (eqb-true (last - other) j here);
  }
  | inr behind ↦
      let edge = edge_target last edges j behind in
      record { target = edge.0; among = later (other == edge.0) (is_among (map (λ (e : Edge). e.next) edges) edge.0) edge.1; turned = edge.2 }
]
  where
    later : (a b : Bool) → b ≡ true → (a || b) ≡ true
    later true b is = refl
    later false b is = is

-- ---- the row that is chosen

-- a turned node is that of a state
pub record Stands (states : List StateTree) (k : ℕ) (state : StateTree) : Type 0 where
  pub place : ℕ
  pub sum : place + suc k ≡ length states
  pub named : Names states place state

-- the turned node of a state; the states that its node names have theirs further on
pub record TurnsTo (R : List StateTree → StateTree → NodeTree → Type 0) (states : List StateTree) (nodes : List NodeTree) (last k : ℕ) (state : StateTree) : Type 0 where
  pub node : NodeTree
  pub before : List StateTree
  pub right : R before state node
  pub is : slice_get (turned last nodes) k ≡ Some (turn_node last node)
  pub later : (j : ℕ) (other : StateTree) → Names before j other → Stands states (last - j) other
  pub further : (j : ℕ) (other : StateTree) → Names before j other → k + 1 ≤ last - j

pub turns_to : (R : List StateTree → StateTree → NodeTree → Type 0) (states : List StateTree) (nodes : List NodeTree) (last k : ℕ) (state : StateTree) → InRow R states nodes → suc last ≡ length nodes
    → Stands states k state → TurnsTo R states nodes last k state
turns_to R states nodes last k state row count stands =
    let long = as_long R states nodes row in
    let sum = stands.sum in
    let here = at_place R states nodes row stands.place state stands.named in
    let before = here.long in record {
      node = here.node;
      before = here.before;
      right = here.right;
      is = get_turned last nodes stands.place k here.node (sum ∙ long) here.is;
      later = λ j other names. (let within = slice_get_within here.before j other names in record {
        place = j;
        sum = omega (arith, long, sum, within, before, count);
        named = subst (λ ss. Names ss j other) (sym here.all) (get_left here.before here.more j other names);
      });
      further = λ j other names. (let within = slice_get_within here.before j other names in omega (arith, long, sum, within, before, count));
    }

pub first_chosen : (types : List ℕ) (states : List StateTree) (nodes : List NodeTree) (last : ℕ) (store : Store) (v : Value) → InRow (IsSound types) states nodes → suc last ≡ length nodes
    → (steps k : ℕ) (state : StateTree) (row : ℕ) → Stands states k state → length nodes ≤ steps + k → AreReady types store v state → first_fit store v state ≡ Some row
    → chosen_from (slice_get store) v (turned last nodes) steps k ≡ Some row
first_chosen types states nodes last store v sound count zero k state row stands enough ready fit =
    let long = as_long (IsSound types) states nodes sound in
    let sum = stands.sum in
    absurd (omega (arith, long, sum, enough))
first_chosen types states nodes last store v sound count (suc steps) k state row stands enough ready fit =
    let here = turns_to (IsSound types) states nodes last k state sound count stands in
    ap (row_at (slice_get store) v (chosen_from (slice_get store) v (turned last nodes) steps)) here.is
    ∙ by here.before here.node here.right
    (λ j later names. let further = here.further j later names in
    first_chosen types states nodes last store v sound count steps (last - j) later row (here.later j later names) (omega (arith, enough, further)))
  where
    chosen_here : (state : StateTree) → test_of state ≡ None → first_fit store v state ≡ Some row → row_of state ≡ row
    chosen_here [] none fit = absurd (none-some row fit)
    chosen_here (line ∷ lines) none fit = left line.left none fit
      where
        left : (parts : List Part) → first_of parts ≡ None → (if fits store v parts then Some line.row else first_fit store v lines) ≡ Some row → line.row ≡ row
        left [] none fit = same_Some line.row row fit
        left (p ∷ ps) none fit = cc

    by : (before : List StateTree) (node : NodeTree) → IsSound types before state node
        → ((j : ℕ) (later : StateTree) → Names before j later → AreReady types store v later → first_fit store v later ≡ Some row
        → chosen_from (slice_get store) v (turned last nodes) steps (last - j) ≡ Some row)
        → row_at (slice_get store) v (chosen_from (slice_get store) v (turned last nodes) steps) (Some (turn_node last node)) ≡ Some row
    by before (chooses number) right rest = ap Some (right.1 ∙ chosen_here state right.0 fit)
    by before (tests at edges otherwise) right rest =
        let asks : IsFound types store v (record { at = at; asked = right.asked }) = test_ready types store v state (record { at = at; asked = right.asked }) ready right.is_test in
        let moves = right.moves asks.found asks.kind in
        let later = moves.4 store v asks.there ready in
        ap (λ (o : Option Answer). and_then o (λ found. and_then (next_by (map (turn_edge last) edges) (option_map (λ j. last - j) otherwise) found) (chosen_from (slice_get store) v (turned last nodes) steps))) asks.there
        ∙ (ap (λ (o : Option ℕ). and_then o (chosen_from (slice_get store) v (turned last nodes) steps)) (next_turned last edges otherwise asks.found ∙ ap (option_map (λ j. last - j)) moves.1)
        ∙ rest moves.0 moves.2 moves.3 later.0 (later.1 row fit))

-- ---- turned nodes name later ones

-- a turned node, and the state that it is of
pub record TurnedAt (R : List StateTree → StateTree → NodeTree → Type 0) (states : List StateTree) (nodes : List NodeTree) (last k : ℕ) (node : NodeTree) : Type 0 where
  pub state : StateTree
  pub stands : Stands states k state
  pub at : IsAt R states nodes stands.place state
  pub is : node ≡ turn_node last at.node

pub turned_at : (R : List StateTree → StateTree → NodeTree → Type 0) (states : List StateTree) (nodes : List NodeTree) (last k : ℕ) (node : NodeTree) → InRow R states nodes → suc last ≡ length nodes
    → slice_get (turned last nodes) k ≡ Some node → TurnedAt R states nodes last k node
turned_at R states nodes last k node row count is =
    let long = as_long R states nodes row in
    let turns = length_turned last nodes in
    let within = slice_get_within (turned last nodes) k node is in
    let sum : (last - k) + suc k ≡ length states = omega (arith, long, turns, within, count) in
    let there = get_there states (last - k) (omega (arith, sum)) in
    let at = at_place R states nodes row (last - k) there.0 there.1 in record {
      state = there.0;
      stands = record { place = last - k; sum = sum; named = there.1 };
      at = at;
      is = get_same (turned last nodes) k node (turn_node last at.node) is (get_turned last nodes (last - k) k at.node (sum ∙ long) at.is);
    }

row_below : (rows : ℕ) (state : StateTree) → AreBelow rows state → row_of state < rows
row_below rows [] below = below
row_below rows (line ∷ lines) below = below.0

-- a target of a turned node stands later
pub stands_later : (states : List StateTree) (last place k i j : ℕ) → suc last ≡ length states → place + suc k ≡ length states → i < place → j ≡ last - i → (k < j) × (j < suc last) × (i + suc j ≡ length states)
stands_later states last place k i j count sum low is = (omega (arith, count, sum, low, is), omega (arith, count, sum, low, is), omega (arith, count, sum, low, is))

pub are_orderly : (types : List ℕ) (rows : ℕ) (states : List StateTree) (nodes : List NodeTree) (last : ℕ) → InRow (IsSound types) states nodes → suc last ≡ length nodes
    → ((k : ℕ) (state : StateTree) → Names states k state → AreBelow rows state) → AreOrderly (turned last nodes) rows
are_orderly types rows states nodes last sound count below = record {
  first = (let turns = length_turned last nodes in omega (arith, turns, count));
  later = λ k j node is among. later_by k j node (turned_at (IsSound types) states nodes last k node sound count is) among;
  below = λ k row node is among. below_by k row node (turned_at (IsSound types) states nodes last k node sound count is) among;
}
  where
    long : length states ≡ length nodes
    long = as_long (IsSound types) states nodes sound

    below_by : (k row : ℕ) (node : NodeTree) → TurnedAt (IsSound types) states nodes last k node → is_among (row_chosen node) row ≡ true → row < rows
    below_by k row node at among = of at.at.node at.at.right (subst (λ n. is_among (row_chosen n) row ≡ true) at.is among)
      where
        of : (node : NodeTree) → IsSound types at.at.before at.state node → is_among (row_chosen (turn_node last node)) row ≡ true → row < rows
        of (chooses number) right among =
            let only : number ≡ row = eqb-true number row (one (number == row) among) in
            subst (λ n. n < rows) (sym right.1 ∙ only) (row_below rows at.state (below at.stands.place at.state at.stands.named))
          where
            one : (b : Bool) → (b || false) ≡ true → b ≡ true
            one true e = refl
            one false e = e
        of (tests way edges otherwise) right among = absurd (both_ways false refl among)

    later_by : (k j : ℕ) (node : NodeTree) → TurnedAt (IsSound types) states nodes last k node → is_among (targets node) j ≡ true → (k < j) × (j < length (turned last nodes))
    later_by k j node at among = of at.at.node at.at.right (was_target last at.at.node j (subst (λ n. is_among (targets n) j ≡ true) at.is among))
      where
        of : (node : NodeTree) → IsSound types at.at.before at.state node → WasTarget last node j → (k < j) × (j < length (turned last nodes))
        of (chooses number) right target = absurd (both_ways false refl target.among)
        of (tests way edges otherwise) right target =
            let leads = right.leads target.target target.among in
            let within = slice_get_within at.at.before target.target leads.0 leads.1 in
            let before = at.at.long in
            let low : target.target < at.stands.place = omega (arith, within, before) in
            let ends = stands_later states last at.stands.place k target.target j (count ∙ sym long) at.stands.sum low target.turned in
            let turns = length_turned last nodes in
            (ends.0, omega (arith, ends.1, turns, count))
