-- On a way through a graph of states no position is tested twice: behind its test no state has a part there.
use Rattle.std.proofs.Common.{◌≡◌, ◌≢◌, ℕ, suc, ◌<◌, Bool, true, false, nat_eq, Option, None, Some, option_map, List, [], ◌∷◌, length, refl, sym, ap, ◌∙◌, subst, arith}
use Rattle.std.specs.Prelude.{if◌then◌else◌}
use lib.Pointwise.{pointwise, bytes_decides}
use Rattle.std.proofs.lemmas.Bool.{both_ways}
use Rattle.std.proofs.lemmas.Option.{slice_get_within, none-some, same_Some}
use Rattle.kk_syntax.specs.Covered.{Each}
use Rattle.kk_syntax.specs.Shapes.{is_among}
use Rattle.kk_core.specs.declared.decisions.Answer.{Answer}
use Rattle.kk_core.specs.declared.decisions.Edge.{Edge}
use Rattle.kk_core.specs.Decisions.{NodeTree, chooses, tests, targets}
use Rattle.kk_match.specs.Parts.{Part}
use Rattle.kk_match.specs.Graphs.{LineTree, StateTree, agrees, left_after, kept_line, after, first_of, test_of}
use Rattle.kk_match.specs.Built.{Names, IsRight, AreRight}
use Rattle.kk_match.specs.Decided.{TestsAt, Leads, by_edge, and_on, TestOnce}
use Rattle.kk_match.specs.Turned.{turn_node, turned}
use Rattle.kk_match.proofs.Places.{get_left, get_same}
use Rattle.kk_match.proofs.NodeRuns.{Stands, TurnedAt, turned_at, was_target, WasTarget, stands_later, as_long}

-- no part stands at a position
abbrev NoneAt : List ℕ → List Part → Type 0
NoneAt at qs = Each (λ (q : Part). q.at ≢ at) qs

abbrev NoneIn : List ℕ → StateTree → Type 0
NoneIn at state = Each (λ (line : LineTree). NoneAt at line.left) state

abbrev NoneKept : List ℕ → Option (List Part) → Type 0
NoneKept at None = Unit {0}
NoneKept at (Some left) = NoneAt at left

none_put : (at : List ℕ) (q : Part) (left : Option (List Part)) → q.at ≢ at → NoneKept at left → NoneKept at (option_map (λ rest. q ∷ rest) left)
none_put at q None other kept = tt
none_put at q (Some left) other kept = (other, kept)

none_line : (at : List ℕ) (row : ℕ) (left : Option (List Part)) (rest : StateTree) → NoneKept at left → NoneIn at rest → NoneIn at (kept_line row left rest)
none_line at row None rest kept none = none
none_line at row (Some left) rest kept none = (kept, none)

-- what is left once a position's answer is known has no part there
left_none : (at : List ℕ) (outcome : Option Answer) (qs : List Part) → NoneKept at (left_after at outcome qs)
left_none at outcome [] = tt
left_none at outcome (q ∷ qs) = by (pointwise nat_eq q.at at) refl (left_none at outcome qs)
  where
    agreed : (b : Bool) → NoneKept at (left_after at outcome qs) → NoneKept at (if b then left_after at outcome qs else None)
    agreed true rest = rest
    agreed false rest = tt

    by : (here : Bool) → pointwise nat_eq q.at at ≡ here → NoneKept at (left_after at outcome qs)
        → NoneKept at (if here then (if agrees outcome q.asked then left_after at outcome qs else None) else option_map (λ rest. q ∷ rest) (left_after at outcome qs))
    by true here rest = agreed (agrees outcome q.asked) rest
    by false here rest = none_put at q (left_after at outcome qs) (λ same. both_ways (pointwise nat_eq q.at at) here ((bytes_decides q.at at).1 same)) rest

after_none : (at : List ℕ) (outcome : Option Answer) (state : StateTree) → NoneIn at (after at outcome state)
after_none at outcome [] = tt
after_none at outcome (line ∷ lines) = none_line at line.row (left_after at outcome line.left) (after at outcome lines) (left_none at outcome line.left) (after_none at outcome lines)

-- what has no part there keeps none
left_keeps : (at way : List ℕ) (outcome : Option Answer) (qs : List Part) → NoneAt at qs → NoneKept at (left_after way outcome qs)
left_keeps at way outcome [] none = tt
left_keeps at way outcome (q ∷ qs) none = by (pointwise nat_eq q.at way) (left_keeps at way outcome qs none.1)
  where
    agreed : (b : Bool) → NoneKept at (left_after way outcome qs) → NoneKept at (if b then left_after way outcome qs else None)
    agreed true rest = rest
    agreed false rest = tt

    by : (here : Bool) → NoneKept at (left_after way outcome qs)
        → NoneKept at (if here then (if agrees outcome q.asked then left_after way outcome qs else None) else option_map (λ rest. q ∷ rest) (left_after way outcome qs))
    by true rest = agreed (agrees outcome q.asked) rest
    by false rest = none_put at q (left_after way outcome qs) none.0 rest

after_keeps : (at way : List ℕ) (outcome : Option Answer) (state : StateTree) → NoneIn at state → NoneIn at (after way outcome state)
after_keeps at way outcome [] none = tt
after_keeps at way outcome (line ∷ lines) none =
    none_line at line.row (left_after way outcome line.left) (after way outcome lines) (left_keeps at way outcome line.left none.0) (after_keeps at way outcome lines none.1)

not_tested : (at : List ℕ) (asked : Answer) (state : StateTree) → NoneIn at state → test_of state ≡ Some (record { at = at; asked = asked }) → ⊥
not_tested at asked [] none is = none-some _ is
not_tested at asked (line ∷ lines) none is = by line.left none.0 is
  where
    by : (left : List Part) → NoneAt at left → first_of left ≡ Some (record { at = at; asked = asked }) → ⊥
    by [] none is = none-some _ is
    by (p ∷ ps) none is = let same = same_Some p (record { at = at; asked = asked }) is in none.0 (ap (λ (q : Part). q.at) same)

-- ---- ways

module _ (types : List ℕ) (states : List StateTree) (nodes : List NodeTree) (last : ℕ) (right : AreRight types states nodes) (count : suc last ≡ length nodes) where
  -- a turned node that a way comes to, where no part is left at a position
  record ComesTo (at : List ℕ) (j : ℕ) : Type 0 where
    pub state : StateTree
    pub stands : Stands states j state
    pub none : NoneIn at state

  -- an edge leads to what an outcome leaves
  record Moved (state : StateTree) (way : List ℕ) (j : ℕ) : Type 0 where
    pub asked : Answer
    pub is_test : test_of state ≡ Some (record { at = way; asked = asked })
    pub outcome : Option Answer
    pub stands : Stands states j (after way outcome state)

  moved : (k j : ℕ) (node : NodeTree) (at : TurnedAt (IsRight types) states nodes last k node) → is_among (targets node) j ≡ true → (way : List ℕ) × Moved at.state way j
  moved k j node at among = of at.at.node at.at.right (was_target last at.at.node j (subst (λ n. is_among (targets n) j ≡ true) at.is among))
    where
      of : (node : NodeTree) → IsRight types at.at.before at.state node → WasTarget last node j → (way : List ℕ) × Moved at.state way j
      of (chooses row) right target = absurd (both_ways false refl target.among)
      of (tests way edges otherwise) branches target =
          let leads = branches.leads target.target target.among in
          let within = slice_get_within at.at.before target.target (after way leads.0 at.state) leads.2 in
          let before = at.at.long in
          let low : target.target < at.stands.place = omega (arith, within, before) in
          let ends = stands_later states last at.stands.place k target.target j (count ∙ sym (as_long (IsRight types) states nodes right)) at.stands.sum low target.turned in (
            way,
            record {
              asked = branches.asked;
              is_test = branches.is_test;
              outcome = leads.0;
              stands = record {
                place = target.target;
                sum = ends.2;
                named = subst (λ ss. Names ss target.target (after way leads.0 at.state)) (sym at.at.all) (get_left at.at.before at.at.more target.target (after way leads.0 at.state) leads.2);
              };
            },
          )

  same_state : (k : ℕ) (one other : StateTree) → Stands states k one → Stands states k other → one ≡ other
  same_state k one other here there =
      let sum = here.sum in
      let also = there.sum in
      let place : here.place ≡ there.place = omega (arith, sum, also) in
      get_same states there.place one other (subst (λ n. Names states n one) place here.named) there.named

  keeps : (k j : ℕ) (at : List ℕ) → Leads (turned last nodes) k j → ComesTo at k → ComesTo at j
  keeps k j at (by_edge node is among) comes =
      let turn = turned_at (IsRight types) states nodes last k node right count is in
      let move = moved k j node turn among in record {
        state = after move.0 move.1.outcome turn.state;
        stands = move.1.stands;
        none = after_keeps at move.0 move.1.outcome turn.state (subst (NoneIn at) (same_state k comes.state turn.state comes.stands turn.stands) comes.none);
      }
  keeps k j at (and_on {i = i} first second) comes = keeps i j at second (keeps k i at first comes)

  -- the position that a node tests
  tested : (k : ℕ) (at : List ℕ) (edges : List Edge) (otherwise : Option ℕ) (turn : TurnedAt (IsRight types) states nodes last k (tests at edges otherwise))
      → (asked : Answer) × (test_of turn.state ≡ Some (record { at = at; asked = asked }))
  tested k at edges otherwise turn = of turn.at.node turn.at.right turn.is
    where
      of : (node : NodeTree) → IsRight types turn.at.before turn.state node → tests at edges otherwise ≡ turn_node last node → (asked : Answer) × (test_of turn.state ≡ Some (record { at = at; asked = asked }))
      of (chooses row) right is = cc
      of (tests way edges' otherwise') branches is =
          let same : at ≡ way = cc in
          (branches.asked, branches.is_test ∙ ap (λ a. Some (record { at = a; asked = branches.asked })) (sym same))

  leaves : (k j : ℕ) (at : List ℕ) → Leads (turned last nodes) k j → TestsAt (turned last nodes) k at → ComesTo at j
  leaves k j at (by_edge node is among) test =
      let turn = turned_at (IsRight types) states nodes last k (tests at test.0 test.1) right count test.2 in
      let same : node ≡ tests at test.0 test.1 = get_same (turned last nodes) k node (tests at test.0 test.1) is test.2 in
      let move = moved k j (tests at test.0 test.1) turn (subst (λ n. is_among (targets n) j ≡ true) same among) in
      let here = tested k at test.0 test.1 turn in
      let part = same_Some (record { at = at; asked = here.0 }) (record { at = move.0; asked = move.1.asked }) (sym here.1 ∙ move.1.is_test) in record {
        state = after move.0 move.1.outcome turn.state;
        stands = move.1.stands;
        none = subst (λ way. NoneIn at (after way move.1.outcome turn.state)) (ap (λ (q : Part). q.at) part) (after_none at move.1.outcome turn.state);
      }
  leaves k j at (and_on {i = i} first second) test = keeps i j at second (leaves k i at first test)

  pub test_once : TestOnce (turned last nodes)
  test_once k j at leads here there =
      let comes = leaves k j at leads here in
      let turn = turned_at (IsRight types) states nodes last j (tests at there.0 there.1) right count there.2 in
      let test = tested j at there.0 there.1 turn in
      not_tested at test.0 turn.state (subst (NoneIn at) (same_state j comes.state turn.state comes.stands turn.stands) comes.none) test.1
