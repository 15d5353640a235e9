-- Questions, states and graphs of the program as mathematics.
use Rattle.std.specs.Prelude.{ℕ, List, map}
use Rattle.kk_syntax.specs.Patterns.{Pattern, pattern_tree}
use Rattle.kk_core.specs.declared.decisions.Decisions.{Decisions}
use Rattle.kk_core.specs.Decisions.{NodeTree, node_tree}
use Rattle.kk_match.specs.declared.deciding.Rows.{Rows}
use Rattle.kk_match.specs.declared.graph.Given.{Given}
use Rattle.kk_match.specs.declared.graph.Graph.{Graph}
use Rattle.kk_match.specs.declared.question.Question.{Question}
use Rattle.kk_match.specs.declared.state.Line.{Line}
use Rattle.kk_match.specs.declared.state.State.{State}
use Rattle.kk_match.specs.Parts.{Part, types_of}
use Rattle.kk_match.specs.Graphs.{LineTree, StateTree}
use Rattle.kk_match.specs.GraphGrowth.{GraphTree}

abbrev pub part_of : Question → Part
part_of question = record { at = question.at.items; asked = question.asked }

abbrev pub line_tree : Line → LineTree
line_tree line = record { row = line.row; left = map (λ q. part_of q.now) line.left.items }

abbrev pub state_tree : State → StateTree
state_tree state = map line_tree state.lines.items

abbrev pub graph_tree : Graph → GraphTree
graph_tree graph = record {
  states = map state_tree graph.states.keys;
  nodes = map node_tree graph.nodes.items;
  tests = graph.tests;
}

-- the types of the constructors that are given
abbrev pub types_given : Given → List ℕ
types_given given = types_of given.constructors.now

-- ---- the rows of a match, and what decides them

abbrev pub types_in : Rows → List ℕ
types_in rows = types_of rows.constructors.now

abbrev pub patterns_in : Rows → List Pattern
patterns_in rows = map (λ p. pattern_tree p.now) rows.patterns.items

abbrev pub nodes_in : Decisions → List NodeTree
nodes_in decisions = map node_tree decisions.nodes.items
