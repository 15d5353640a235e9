-- How a graph grows by the states that a state leads to.
use Rattle.std.specs.Prelude.{◌≡◌, ◌≢◌, ◌≤◌, ℕ, suc, true, false, Bool, List, [], ◌∷◌, ◌++◌, map, AllPairs, Option, None, Some}
use Rattle.kk_core.specs.declared.decisions.Answer.{Answer}
use Rattle.kk_core.specs.declared.decisions.Edge.{Edge}
use Rattle.kk_core.specs.declared.decisions.Node.{Node}
use Rattle.kk_core.specs.Decisions.{NodeTree, node_tree}
use Rattle.kk_match.specs.Parts.{Part}
use Rattle.kk_match.specs.Graphs.{StateTree, after, IsReached, HasMoreTests, testing}
use Rattle.kk_match.specs.Outcomes.{unlisted}
use Rattle.kk_match.specs.Built.{Names, IsRight, AreRight}

-- a graph: node k is that of state k; and how many nodes test
pub record GraphTree : Type 0 where
  pub states : List StateTree
  pub nodes : List NodeTree
  pub tests : ℕ

-- each of some states is reached from a state
abbrev pub AreReached : List ℕ → StateTree → List StateTree → Type 0
AreReached types start [] = Unit {0}
AreReached types start (state ∷ states) = IsReached types start state × AreReached types start states

-- no state is there twice
abbrev pub AreApart : List StateTree → Type 0
AreApart states = AllPairs (λ one other. one ≢ other) states

-- the nodes are right, no state is there twice, and at most so many test
pub record IsBuilt (types : List ℕ) (most : ℕ) (graph : GraphTree) : Type 0 where
  pub right : AreRight types graph.states graph.nodes
  pub apart : AreApart graph.states
  pub counted : graph.tests ≡ testing graph.states
  pub within : graph.tests ≤ most

-- a graph is built, and has more states than before, which are reached from a state
pub record Grows (types : List ℕ) (most : ℕ) (before : GraphTree) (from : StateTree) (later : GraphTree) : Type 0 where
  pub built : IsBuilt types most later
  pub more : List StateTree
  pub grown : later.states ≡ before.states ++ more
  pub reached : AreReached types from more

-- with states that are reached from a state there is one more that tests than may
pub record IsOver (types : List ℕ) (most : ℕ) (before : GraphTree) (from : StateTree) : Type 0 where
  pub more : List StateTree
  pub apart : AreApart (before.states ++ more)
  pub reached : AreReached types from more
  pub tests : testing (before.states ++ more) ≡ suc most

-- a state has its number, or too many test
abbrev pub IsNumbered : List ℕ → ℕ → GraphTree → StateTree → StateTree → GraphTree → Option ℕ → Type 0
IsNumbered types most before from state later None = IsOver types most before from
IsNumbered types most before from state later (Some number) = Grows types most before from later × Names later.states number state

-- a state has its node, or too many test
abbrev pub IsMade : List ℕ → ℕ → GraphTree → StateTree → GraphTree → Option Node → Type 0
IsMade types most before state later None = IsOver types most before state
IsMade types most before state later (Some node) =
    Grows types most before state later × IsRight types later.states state (node_tree node)

-- each edge leads to what its answer leaves
abbrev pub EdgesLead : List StateTree → List ℕ → StateTree → List Edge → Type 0
EdgesLead states at state [] = Unit {0}
EdgesLead states at state (edge ∷ edges) =
    Names states edge.next (after at (Some edge.found) state) × EdgesLead states at state edges

-- the node behind all edges, if there is one
abbrev pub OtherLeads : List StateTree → List ℕ → StateTree → Option (Option Answer) → Option ℕ → Type 0
OtherLeads states at state None None = Unit {0}
OtherLeads states at state None (Some j) = ⊥
OtherLeads states at state (Some outcome) None = ⊥
OtherLeads states at state (Some outcome) (Some j) = Names states j (after at outcome state)

-- a test has its edges, one for each answer, or too many test
abbrev pub HasEdges : List ℕ → ℕ → GraphTree → StateTree → Part → List Answer → GraphTree → Option (List Edge) → Type 0
HasEdges types most before state test answers later None = IsOver types most before state
HasEdges types most before state test answers later (Some edges) =
    Grows types most before state later × EdgesLead later.states test.at state edges × (map (λ (e : Edge). e.found) edges ≡ answers)

-- a test has what leads on by none of the answers, or too many test
abbrev pub HasOther : List ℕ → ℕ → GraphTree → StateTree → Part → List Answer → GraphTree → Option (Option ℕ) → Type 0
HasOther types most before state test answers later None = IsOver types most before state
HasOther types most before state test answers later (Some otherwise) =
    Grows types most before state later × OtherLeads later.states test.at state (unlisted types test.asked answers) otherwise

-- A state is put behind others, if it is new.
abbrev pub IsPut : List StateTree → StateTree → List StateTree → ℕ → Bool → Type 0
IsPut before state later number false = (later ≡ before) × Names later number state
IsPut before state later number true = (later ≡ before ++ state ∷ []) × Names later number state × AreApart later

-- the graph of all states that a state leads to: it has a number itself, and at most so many test
pub record IsGraphOf (types : List ℕ) (most : ℕ) (start : StateTree) (nodes : List NodeTree) : Type 0 where
  pub states : List StateTree
  pub right : AreRight types states nodes
  pub apart : AreApart states
  pub reached : AreReached types start states
  pub number : ℕ
  pub starts : Names states number start
  pub within : testing states ≤ most

-- the nodes of that graph, or more states test
abbrev pub IsGraph : List ℕ → ℕ → StateTree → Option (List Node) → Type 0
IsGraph types most start None = HasMoreTests types start most
IsGraph types most start (Some nodes) = IsGraphOf types most start (map node_tree nodes)
