-- Each test of turned nodes finds an answer of the type of its edges, where numbers tell the types of constructors.
use Rattle.std.proofs.Common.{◌≡◌, ℕ, zero, suc, ◌-◌, Bool, true, false, Option, None, Some, option_map, List, [], ◌∷◌, length, map, refl, sym, ap, ◌∙◌, subst, arith}
use Rattle.std.specs.Prelude.{slice_get}
use Rattle.std.proofs.lemmas.Bool.{both_ways, eqb-true}
use Rattle.std.proofs.lemmas.Option.{same_Some}
use Rattle.kk_syntax.specs.Patterns.{Pattern}
use Rattle.kk_syntax.specs.Programs.{ConstructorTree}
use Rattle.kk_syntax.specs.Types.{TypeTree}
use Rattle.kk_source.specs.Matching.{and_then}
use Rattle.kk_source.specs.State.{Value, Store}
use Rattle.kk_source.specs.ValueTypes.{IsOf}
use Rattle.kk_core.specs.declared.decisions.Answer.{Answer}
use Rattle.kk_core.specs.declared.decisions.Answer.TheVariants.{Number, Constructor}
use Rattle.kk_core.specs.declared.decisions.Edge.{Edge}
use Rattle.kk_core.specs.Decisions.{NodeTree, chooses, tests, answer_of, found_at}
use Rattle.kk_core.specs.Kinds.{AreAlike, AllAlike, TestsNode, TestsFrom, MakeOneType, field_count, AsksTyped}
use Rattle.kk_match.specs.Parts.{both_same, IsKind, AreOfOne, AreTypeNumbers, TellTypes}
use Rattle.kk_match.specs.Graphs.{StateTree, lines_from}
use Rattle.kk_match.specs.Built.{Names, AreOfKind, InRow}
use Rattle.kk_match.specs.Decided.{most_tests, rows_in_turn, IsFormed}
use Rattle.kk_match.specs.InTurn.{with_rows}
use Rattle.kk_match.specs.Turned.{turn_edge, turn_node, turned}
use Rattle.kk_match.proofs.NodeDecisions.{graph_some, graph_stands, in_turn, in_turn_stands}
use Rattle.kk_match.proofs.RowFit.{IsFound, AreReady, test_ready}
use Rattle.kk_match.proofs.RowOrder.{states_of_rows}
use Rattle.kk_match.proofs.Matching.{rows_hold}
use Rattle.kk_match.proofs.NodeRuns.{IsSound, are_sound, Stands, turns_to, next_turned}
use Rattle.kk_match.proofs.PositionValues.{typed_at, shows_its}

-- ---- answers of one kind

-- constructors of one kind are of one number
of_one : (types : List ℕ) (c d : ℕ) → IsKind types (Constructor d) (Constructor c) → AreOfOne types c d
of_one types c d kind = by (slice_get types d) (slice_get types c) refl refl kind
  where
    by : (second first : Option ℕ) → slice_get types d ≡ second → slice_get types c ≡ first → both_same second first ≡ true → AreOfOne types c d
    by None first d_is c_is same = absurd (both_ways false refl same)
    by (Some of) None d_is c_is same = absurd (both_ways false refl same)
    by (Some of) (Some other) d_is c_is same = record { of = other; first = c_is; second = d_is ∙ ap Some (eqb-true of other same) }

-- edges whose answers are of the kind of an answer are alike with it
alike_edges : (constructors : List ConstructorTree) (types : List ℕ) → TellTypes constructors types → (last : ℕ) (found : Answer) (edges : List Edge)
    → AreOfKind types found edges → AllAlike (MakeOneType constructors) (field_count constructors) found (map (turn_edge last) edges)
alike_edges constructors types tell last found [] are = tt
alike_edges constructors types tell last found (edge ∷ edges) are = (by edge.found found are.0, alike_edges constructors types tell last found edges are.1)
  where
    by : (asked found : Answer) → IsKind types found asked → AreAlike (MakeOneType constructors) (field_count constructors) asked found
    by (Number n) (Number m) kind = tt
    by (Number n) (Constructor d) kind = absurd (both_ways false refl kind)
    by (Constructor c) (Number m) kind = absurd (both_ways false refl kind)
    by (Constructor c) (Constructor d) kind = tell c d (of_one types c d kind)

-- ---- sound nodes

module _ (constructors : List ConstructorTree) (types : List ℕ) (tell : TellTypes constructors types) (states : List StateTree) (nodes : List NodeTree) (last : ℕ) (sound : InRow (IsSound types) states nodes) (count : suc last ≡ length nodes) (store : Store) (t : TypeTree) (v : Value) (of : IsOf constructors store t v) where
  abbrev Asks : ℕ → ℕ → Type 0
  Asks = TestsFrom (MakeOneType constructors) (field_count constructors) (slice_get store) v (turned last nodes)

  sound_alike : (steps k : ℕ) (state : StateTree) → Stands states k state → AreReady types store v state → Asks steps k
  sound_alike zero k state stands ready = tt
  sound_alike (suc steps) k state stands ready =
      let here = turns_to (IsSound types) states nodes last k state sound count stands in
      subst (TestsNode (MakeOneType constructors) (field_count constructors) (slice_get store) v (Asks steps))
      (sym here.is)
      (by here.before here.node here.right (λ j later names. sound_alike steps (last - j) later (here.later j later names)))
    where
      by : (before : List StateTree) (node : NodeTree) → IsSound types before state node
          → ((j : ℕ) (later : StateTree) → Names before j later → AreReady types store v later → Asks steps (last - j))
          → TestsNode (MakeOneType constructors) (field_count constructors) (slice_get store) v (Asks steps) (Some (turn_node last node))
      by before (chooses row) right rest = tt
      by before (tests at edges otherwise) right rest = λ w there found answers.
          let asks : IsFound types store v (record { at = at; asked = right.asked }) = test_ready types store v state (record { at = at; asked = right.asked }) ready right.is_test in
          let found_there : found_at (slice_get store) at v ≡ Some found = ap (λ (o : Option Value). and_then o (answer_of (slice_get store))) there ∙ answers in
          let same : asks.found ≡ found = same_Some asks.found found (sym asks.there ∙ found_there) in
          let kind : IsKind types right.asked found = subst (IsKind types right.asked) same asks.kind in
          let typed = typed_at constructors store at t v w of there in
          let moves = right.moves found kind in
          let later = moves.4 store v found_there ready in (
            shows_its constructors store typed.0 w found typed.1 answers,
            (
              alike_edges constructors types tell last found edges (right.of_kind found kind),
              λ k next.
                  subst (Asks steps)
                  (same_Some (last - moves.0) k (sym (next_turned last edges otherwise found ∙ ap (option_map (λ j. last - j)) moves.1) ∙ next))
                  (rest moves.0 moves.2 moves.3 later.0),
            ),
          )

pub sound_asks : (constructors : List ConstructorTree) (types : List ℕ) (ps : List Pattern) (states : List StateTree) (nodes : List NodeTree) (last : ℕ) → AreTypeNumbers constructors types
    → TellTypes constructors types → InRow (IsSound types) states nodes → suc last ≡ length nodes → Stands states 0 (lines_from types 0 ps)
    → AsksTyped constructors ps (turned last nodes)
sound_asks constructors types ps states nodes last same tell sound count stands = λ t store v typed of.
    sound_alike constructors types tell states nodes last sound count store t v of (length (turned last nodes)) 0 (lines_from types 0 ps) stands
    (rows_hold constructors types same store t v 0 ps of typed).0

-- ---- formed decisions

-- rows in turn ask what types tell
pub turns_ask : (constructors : List ConstructorTree) (types : List ℕ) (ps : List Pattern) (nodes : List NodeTree) → AreTypeNumbers constructors types
    → TellTypes constructors types → nodes ≡ rows_in_turn types ps → AsksTyped constructors ps nodes
turns_ask constructors types [] nodes same tell is = subst (AsksTyped constructors []) (sym is) (λ t store v typed of. tt)
turns_ask constructors types (p ∷ ps) nodes same tell is =
    let lines = lines_from types 0 (p ∷ ps) in
    let done = in_turn types p ps in
    subst (AsksTyped constructors (p ∷ ps)) (sym is)
    (sound_asks constructors types (p ∷ ps) (states_of_rows lines) (with_rows lines []) (length (with_rows lines []) - 1) same tell done.sound
    (let some = done.some in omega (arith, some)) (in_turn_stands types p ps))

-- the decisions of rows ask what types tell
pub formed_asks : (constructors : List ConstructorTree) (types : List ℕ) (ps : List Pattern) (nodes : List NodeTree) (many : ℕ) (by_rows : Bool) → AreTypeNumbers constructors types
    → TellTypes constructors types → IsFormed types ps nodes many by_rows → AsksTyped constructors ps nodes
formed_asks constructors types ps nodes many false same tell formed =
    let graph = formed.3.1 in
    let others = formed.3.0 in
    let count = graph_some types (most_tests ps) (lines_from types 0 ps) others graph in
    subst (AsksTyped constructors ps) (sym formed.3.2)
    (sound_asks constructors types ps graph.states others (length others - 1) same tell (are_sound types graph.states others graph.right) count
    (graph_stands types (most_tests ps) ps others graph))
formed_asks constructors types ps nodes many true same tell formed = turns_ask constructors types ps nodes same tell formed.2
