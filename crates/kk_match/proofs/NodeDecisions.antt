-- What turned nodes decide: those of a graph, and those of rows that are tried one after the other.
use Rattle.std.proofs.Common.{◌≡◌, ℕ, suc, ◌+◌, ◌-◌, ◌<◌, ◌≤◌, Bool, false, Result, Ok, Err, List, [], ◌∷◌, ◌++◌, length, map, refl, sym, ap, ◌∙◌, subst, arith, append_assoc}
use Rattle.std.specs.Prelude.{count_by, sum_by, IfOk, Option, Some}
use Rattle.std.proofs.lemmas.List.{length-map}
use Rattle.kk_core.specs.declared.decisions.Node.{Node}
use Rattle.kk_syntax.specs.Patterns.{Pattern}
use Rattle.kk_syntax.specs.Programs.{ConstructorTree}
use Rattle.kk_syntax.specs.Shapes.{nodes_of_pattern}
use Rattle.kk_core.specs.Cases.{IsLean}
use Rattle.kk_core.specs.RowChoice.{Decides}
use Rattle.kk_core.specs.Decisions.{NodeTree, node_tree, AreOrderly}
use Rattle.kk_match.specs.Parts.{Part, parts_of, AreTypeNumbers}
use Rattle.kk_match.specs.Graphs.{StateTree, IsReached, lines_of, lines_from, HasTests, HasMoreTests, testing}
use Rattle.kk_match.specs.Built.{Names, InRow, no_state}
use Rattle.kk_match.specs.Decided.{is_test, most_tests, IsFormed}
use Rattle.kk_match.specs.GraphGrowth.{IsBuilt, IsOver, IsGraph, IsGraphOf}
use Rattle.kk_match.specs.InTurn.{with_rows}
use Rattle.kk_match.specs.Turned.{turn_node, turned}
use Rattle.kk_match.proofs.StateAfterAnswer.{AreBelow}
use Rattle.kk_match.proofs.Edges.{has_few, reached_light, lines_small}
use Rattle.kk_match.proofs.GraphStates.{starts_last, has_tests, tests_right, tests_turned, reached_below}
use Rattle.kk_match.proofs.Growth.{reached_at}
use Rattle.kk_match.proofs.RowOrder.{RowsDone, rows_done, states_of_rows, rows_below, AllLight, rows_light, rows_short}
use Rattle.kk_match.proofs.Looks.{reached_short, lines_short, has_few_looks}
use Rattle.kk_match.proofs.Matching.{rows_hold}
use Rattle.kk_match.proofs.Places.{place_of}
use Rattle.kk_match.proofs.NodeRuns.{IsSound, as_long, are_sound, Stands, length_turned, first_chosen, are_orderly}
use Rattle.kk_match.proofs.Ways.{test_once}

-- ---- what calls give

pub also : {T E : Type 0} (result : Result T E) {P Q : T → Type 0} → IfOk result P → ((x : T) → P x → Q x) → IfOk result Q
also (Ok x) one then = then x one
also (Err e) one then = one

pub also_all : {T E : Type 0} (result : Result T E) {P Q R S : T → Type 0} → IfOk result P → IfOk result Q → IfOk result R → ((x : T) → P x → Q x → R x → S x) → IfOk result S
also_all (Ok x) one other third then = then x one other third
also_all (Err e) one other third then = one

pub lines_same : {A : Type 0} (types : List ℕ) (view : A → Pattern) (k : ℕ) (xs : List A) → lines_of k (map (λ x. parts_of types [] (view x)) xs) ≡ lines_from types k (map view xs)
lines_same types view k [] = refl
lines_same types view k (x ∷ xs) = ap (λ (lines : StateTree). record { row = k; left = parts_of types [] (view x) } ∷ lines) (lines_same types view (k + 1) xs)

-- the state in which rows have asked nothing yet
pub state_of_rows : {A Q : Type 0} (types : List ℕ) (rows : List A) (given asked : List Q) (view : A → Pattern) (parts : Q → List Part) (state : StateTree)
    → state ≡ lines_of 0 (map parts given) → given ≡ asked → map parts asked ≡ map (λ x. parts_of types [] (view x)) rows → state ≡ lines_from types 0 (map view rows)
state_of_rows types rows given asked view parts state one two three =
    one ∙ (ap (λ qs. lines_of 0 (map parts qs)) two ∙ (ap (lines_of 0) three ∙ lines_same types view 0 rows))

-- ---- rows

lines_below : (types : List ℕ) (rows k : ℕ) (ps : List Pattern) → 0 < rows → k + length ps ≤ rows → AreBelow rows (lines_from types k ps)
lines_below types rows k [] some within = some
lines_below types rows k (p ∷ ps) some within = (omega (arith, within), lines_below types rows (k + 1) ps some (omega (arith, within)))

-- ---- what is decided

sound_decides : (constructors : List ConstructorTree) (types : List ℕ) (ps : List Pattern) (states : List StateTree) (nodes : List NodeTree) (last : ℕ) → AreTypeNumbers constructors types
    → InRow (IsSound types) states nodes → suc last ≡ length nodes → Stands states 0 (lines_from types 0 ps) → Decides constructors ps (turned last nodes)
sound_decides constructors types ps states nodes last same sound count stands = λ t store v row typed of matches.
    let ready = rows_hold constructors types same store t v 0 ps of typed in
    let turns = length_turned last nodes in
    first_chosen types states nodes last store v sound count (length (turned last nodes)) 0 (lines_from types 0 ps) row stands (omega (arith, turns)) ready.0 (ready.1 ∙ matches)

-- the rows' state is the first of a turned graph
pub graph_stands : (types : List ℕ) (most : ℕ) (ps : List Pattern) (nodes : List NodeTree) (graph : IsGraphOf types most (lines_from types 0 ps) nodes)
    → Stands graph.states 0 (lines_from types 0 ps)
graph_stands types most ps nodes graph = record {
  place = graph.number;
  sum = (let is = starts_last types most (lines_from types 0 ps) nodes graph in omega (arith, is));
  named = graph.starts;
}

module _ (types : List ℕ) (most : ℕ) (ps : List Pattern) (nodes : List NodeTree) (last : ℕ) (graph : IsGraphOf types most (lines_from types 0 ps) nodes) (count : suc last ≡ length nodes) where
  pub graph_orderly : 0 < length ps → AreOrderly (turned last nodes) (length ps)
  graph_orderly some =
      are_orderly types (length ps) graph.states nodes last (are_sound types graph.states nodes graph.right) count
      (λ k state named. reached_below types (length ps) (lines_from types 0 ps) state (lines_below types (length ps) 0 ps some (omega arith)) (reached_at types (lines_from types 0 ps) graph.states k state graph.reached named))

  pub graph_decides : (constructors : List ConstructorTree) → AreTypeNumbers constructors types → Decides constructors ps (turned last nodes)
  graph_decides constructors same =
      sound_decides constructors types ps graph.states nodes last same (are_sound types graph.states nodes graph.right) count
      (graph_stands types most ps nodes graph)

  pub graph_lean : IsLean (turned last nodes) ps
  graph_lean =
      let most : ℕ = sum_by nodes_of_pattern ps in
      let sound : InRow (IsSound types) graph.states nodes = are_sound types graph.states nodes graph.right in
      let reached : (k : ℕ) (state : StateTree) → Names graph.states k state → IsReached types (lines_from types 0 ps) state
      = λ k state named. reached_at types (lines_from types 0 ps) graph.states k state graph.reached named in
      let light : AllLight most graph.states
      = λ k state named. omega (
        arith,
        reached_light types (lines_from types 0 ps) state (reached k state named),
        lines_small types 0 ps,
      ) in
      record {
        edges = has_few types graph.states nodes last most sound count light;
        looks = has_few_looks types graph.states nodes last most most sound count light
            (λ k state named. reached_short types most (lines_from types 0 ps) state (lines_short types most 0 ps (omega arith))
            (reached k state named));
      }

  tests_are : count_by is_test (turned last nodes) ≡ testing graph.states
  tests_are = tests_turned last nodes ∙ tests_right types graph.states nodes graph.right

  pub graph_formed : most ≡ most_tests ps → IsFormed types ps (turned last nodes) (count_by is_test (turned last nodes)) false
  graph_formed same = (
    subst (HasTests types (lines_from types 0 ps)) (sym tests_are) (has_tests types most (lines_from types 0 ps) nodes graph),
    (let within = graph.within in omega (arith, tests_are, within, same)),
    test_once types graph.states nodes last graph.right count,
    (nodes, subst (λ (m : ℕ). IsGraphOf types m (lines_from types 0 ps) nodes) same graph, ap (λ (n : ℕ). turned n nodes) (omega (arith, count))),
  )

pub graph_some : (types : List ℕ) (most : ℕ) (start : StateTree) (nodes : List NodeTree) → IsGraphOf types most start nodes → suc (length nodes - 1) ≡ length nodes
graph_some types most start nodes graph =
    let is = starts_last types most start nodes graph in
    let long = as_long _ graph.states nodes graph.right in
    omega (arith, is, long)

-- the nodes that are found of rows are a graph, and some
pub graph_known : (types : List ℕ) (most : ℕ) (start : StateTree) (found : Option (List Node)) (nodes : List Node)
    → found ≡ Some nodes → IsGraph types most start found
    → IsGraphOf types most start (map node_tree nodes) × (suc (length nodes - 1) ≡ length (map node_tree nodes))
graph_known types most start found nodes is graph =
    let whole = subst (IsGraph types most start) is graph in
    let long = length-map nodes node_tree in
    let some = graph_some types most start (map node_tree nodes) whole in
    (whole, omega (arith, long, some))

module _ (types : List ℕ) (p : Pattern) (ps : List Pattern) where
  pub in_turn : RowsDone types (lines_from types 0 (p ∷ ps)) (states_of_rows (lines_from types 0 (p ∷ ps))) (with_rows (lines_from types 0 (p ∷ ps)) [])
  in_turn = rows_done types (record { row = 0; left = parts_of types [] p }) (lines_from types 1 ps)

  pub in_turn_stands : Stands (states_of_rows (lines_from types 0 (p ∷ ps))) 0 (lines_from types 0 (p ∷ ps))
  in_turn_stands =
      let long = as_long (IsSound types) (states_of_rows (lines_from types 0 (p ∷ ps))) (with_rows (lines_from types 0 (p ∷ ps)) []) in_turn.sound in
      let some = in_turn.some in
      record { place = length (with_rows (lines_from types 0 (p ∷ ps)) []) - 1; sum = omega (arith, long, some); named = in_turn.ends }

  pub in_turn_some : 0 < length (with_rows (lines_from types 0 (p ∷ ps)) [])
  in_turn_some = in_turn.some

  module _ (last : ℕ) (count : suc last ≡ length (with_rows (lines_from types 0 (p ∷ ps)) [])) where
    pub in_turn_orderly : AreOrderly (turned last (with_rows (lines_from types 0 (p ∷ ps)) [])) (length (p ∷ ps))
    in_turn_orderly =
        are_orderly types (length (p ∷ ps)) (states_of_rows (lines_from types 0 (p ∷ ps))) (with_rows (lines_from types 0 (p ∷ ps)) []) last in_turn.sound count
        (rows_below (length (p ∷ ps)) (lines_from types 0 (p ∷ ps)) (lines_below types (length (p ∷ ps)) 0 (p ∷ ps) (omega arith) (omega arith)))

    pub in_turn_decides : (constructors : List ConstructorTree) → AreTypeNumbers constructors types → Decides constructors (p ∷ ps) (turned last (with_rows (lines_from types 0 (p ∷ ps)) []))
    in_turn_decides constructors same =
        sound_decides constructors types (p ∷ ps) (states_of_rows (lines_from types 0 (p ∷ ps))) (with_rows (lines_from types 0 (p ∷ ps)) []) last same in_turn.sound count
        in_turn_stands

    pub in_turn_lean : IsLean (turned last (with_rows (lines_from types 0 (p ∷ ps)) [])) (p ∷ ps)
    in_turn_lean =
        let most : ℕ = sum_by nodes_of_pattern (p ∷ ps) in
        let start : StateTree = lines_from types 0 (p ∷ ps) in
        let light : AllLight most (states_of_rows start) = rows_light most start (lines_small types 0 (p ∷ ps)) in
        record {
          edges = has_few types (states_of_rows start) (with_rows start []) last most in_turn.sound count light;
          looks = has_few_looks types (states_of_rows start) (with_rows start []) last most most in_turn.sound count light
              (rows_short most start (lines_short types most 0 (p ∷ ps) (omega arith)));
        }

-- the same of any rows, if there are some
module _ (types : List ℕ) (nodes : List NodeTree) where
  pub turn_some : (ps : List Pattern) → 0 < length ps → nodes ≡ with_rows (lines_from types 0 ps) [] → suc (length nodes - 1) ≡ length nodes
  turn_some [] some is = absurd (omega (arith, some))
  turn_some (p ∷ ps) some is = let more = in_turn_some types p ps in let same = ap length is in omega (arith, more, same)

  module _ (last : ℕ) (count : suc last ≡ length nodes) where
    pub turn_orderly : (ps : List Pattern) → 0 < length ps → nodes ≡ with_rows (lines_from types 0 ps) [] → AreOrderly (turned last nodes) (length ps)
    turn_orderly [] some is = absurd (omega (arith, some))
    turn_orderly (p ∷ ps) some is = subst (λ ns. AreOrderly (turned last ns) (length (p ∷ ps))) (sym is) (in_turn_orderly types p ps last (count ∙ ap length is))

    pub turn_decides : (ps : List Pattern) → 0 < length ps → nodes ≡ with_rows (lines_from types 0 ps) [] → (constructors : List ConstructorTree) → AreTypeNumbers constructors types
        → Decides constructors ps (turned last nodes)
    turn_decides [] some is constructors same = absurd (omega (arith, some))
    turn_decides (p ∷ ps) some is constructors same =
        subst (λ ns. Decides constructors (p ∷ ps) (turned last ns)) (sym is) (in_turn_decides types p ps last (count ∙ ap length is) constructors same)

    pub turn_lean : (ps : List Pattern) → 0 < length ps → nodes ≡ with_rows (lines_from types 0 ps) [] → IsLean (turned last nodes) ps
    turn_lean [] some is = absurd (omega (arith, some))
    turn_lean (p ∷ ps) some is =
        subst (λ ns. IsLean (turned last ns) (p ∷ ps)) (sym is) (in_turn_lean types p ps last (count ∙ ap length is))

pub formed_as : (types : List ℕ) (ps : List Pattern) (nodes found : List NodeTree) (tests : ℕ) (by_rows form : Bool) → IsFormed types ps nodes (count_by is_test nodes) form → found ≡ nodes
    → tests ≡ count_by is_test found → by_rows ≡ form → IsFormed types ps found tests by_rows
formed_as types ps nodes found tests by_rows form formed same count by =
    subst (λ b. IsFormed types ps found tests b) (sym by)
    (subst (λ n. IsFormed types ps found n form) (sym count) (subst (λ ns. IsFormed types ps ns (count_by is_test ns) form) (sym same) formed))

-- ---- the loops

turned_push : (last : ℕ) (nodes : List NodeTree) (node : NodeTree) → turned last (nodes ++ node ∷ []) ≡ turn_node last node ∷ turned last nodes
turned_push last [] node = refl
turned_push last (one ∷ nodes) node = ap (λ (ns : List NodeTree). ns ++ turn_node last one ∷ []) (turned_push last nodes node)

pub turned_step : (last : ℕ) (found left all : List NodeTree) (node : NodeTree) → found ++ turned last (left ++ node ∷ []) ≡ all → (found ++ turn_node last node ∷ []) ++ turned last left ≡ all
turned_step last found left all node is =
    append_assoc found (turn_node last node ∷ []) (turned last left) ∙ (ap (λ (ns : List NodeTree). found ++ ns) (sym (turned_push last left node)) ∙ is)

-- ---- a graph of no state

pub no_states : (types : List ℕ) (most : ℕ) → IsBuilt types most (record { states = []; nodes = []; tests = 0 })
no_states types most = record { right = no_state; apart = λ i j d lt within. absurd (omega (arith, within)); counted = refl; within = omega arith }

pub over_more : (types : List ℕ) (most : ℕ) (start : StateTree) → IsOver types most (record { states = []; nodes = []; tests = 0 }) start → HasMoreTests types start most
over_more types most start over = record {
  states = over.more;
  apart = over.apart;
  reached = λ state contains. let place = place_of over.more state contains in reached_at types start over.more place.0 state over.reached place.1;
  tests = over.tests;
}
