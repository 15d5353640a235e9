-- Which tests decisions make.
use Rattle.std.specs.Prelude.{◌≡◌, ◌<◌, ◌≤◌, ◌+◌, ◌*◌, ◌-◌, ℕ, Bool, true, false, List, [], length, Option, Some, sum_by, slice_get}
use Rattle.kk_syntax.specs.Patterns.{Pattern}
use Rattle.kk_syntax.specs.Programs.{ConstructorTree}
use Rattle.kk_syntax.specs.Shapes.{is_among, nodes_of_pattern}
use Rattle.kk_core.specs.declared.decisions.Edge.{Edge}
use Rattle.kk_core.specs.CaseLengths.{choice_length, length_of_test, tests_length, most_brief}
use Rattle.kk_core.specs.Cases.{IsLean}
use Rattle.kk_core.specs.Decisions.{NodeTree, chooses, tests, targets}
use Rattle.kk_core.specs.Kinds.{AsksTyped}
use Rattle.kk_core.specs.RowChoice.{Decides}
use Rattle.kk_match.specs.Graphs.{weight, lines_from, HasTests, HasMoreTests}
use Rattle.kk_match.specs.GraphGrowth.{IsGraphOf}
use Rattle.kk_match.specs.InTurn.{with_rows}
use Rattle.kk_match.specs.Parts.{AreTypeNumbers, TellTypes}
use Rattle.kk_match.specs.Turned.{turned}

-- What tests of rows do, whichever they are: of each value of a type of the patterns they choose the first row that matches, each
-- answer that a test finds is of the type of its edges, and on a way few edges and nodes are looked at.
pub record DecidesRows (types : List ℕ) (patterns : List Pattern) (nodes : List NodeTree) : Type 0 where
  pub decides : (constructors : List ConstructorTree) → AreTypeNumbers constructors types → Decides constructors patterns nodes
  pub asks : (constructors : List ConstructorTree) → AreTypeNumbers constructors types → TellTypes constructors types
      → AsksTyped constructors patterns nodes
  pub lean : IsLean nodes patterns

-- a node tests a position
abbrev pub TestsAt : List NodeTree → ℕ → List ℕ → Type 0
TestsAt nodes k at = (edges : List Edge) × (otherwise : Option ℕ) × (slice_get nodes k ≡ Some (tests at edges otherwise))

-- a path leads from a node to another
pub data Leads (nodes : List NodeTree) : ℕ → ℕ → Type 0 where
  by_edge : {k j : ℕ} → (node : NodeTree) → slice_get nodes k ≡ Some node → is_among (targets node) j ≡ true → Leads nodes k j
  and_on : {k i j : ℕ} → Leads nodes k i → Leads nodes i j → Leads nodes k j

-- no position is tested twice on a path
abbrev pub TestOnce : List NodeTree → Type 0
TestOnce nodes = (k j : ℕ) (at : List ℕ) → Leads nodes k j → TestsAt nodes k at → TestsAt nodes j at → ⊥

abbrev pub is_test : NodeTree → Bool
is_test (chooses row) = false
is_test (tests at edges otherwise) = true

-- the most states that may test: eight for each node of the patterns
abbrev pub most_tests : List Pattern → ℕ
most_tests patterns = 8 * sum_by nodes_of_pattern patterns

-- How long so many tests are at most, once they are in an image: the position of a test has no more fields on its way than the
-- patterns have nodes, a test has no more edges than there are patterns, and each node but the first is one that a test leads to.
abbrev pub most_tests_length : List Pattern → ℕ
most_tests_length patterns =
    most_tests patterns * length_of_test (sum_by nodes_of_pattern patterns) (length patterns)
    + choice_length * (most_tests patterns * (length patterns + 1) + 1)

-- Nodes are the graph of the states: one for each state that tests lead to, with the test and the edges of that state, and
-- the start is the first.
abbrev pub IsStateGraph : List ℕ → List Pattern → List NodeTree → Type 0
IsStateGraph types patterns nodes =
    (others : List NodeTree) × IsGraphOf types (most_tests patterns) (lines_from types 0 patterns) others
    × (nodes ≡ turned (length others - 1) others)

-- nodes try the rows one after the other
abbrev pub rows_in_turn : List ℕ → List Pattern → List NodeTree
rows_in_turn types patterns =
    let others = with_rows (lines_from types 0 patterns) [] in
    turned (length others - 1) others

-- The nodes are the graph of the states. It has so many tests, and none of a position twice on a path. Or it would have more
-- tests than may be; then the rows are tried one after the other, with a test for each of their parts.
abbrev pub IsFormed : List ℕ → List Pattern → List NodeTree → ℕ → Bool → Type 0
IsFormed types patterns nodes count false =
    HasTests types (lines_from types 0 patterns) count × (count ≤ most_tests patterns) × TestOnce nodes × IsStateGraph types patterns nodes
IsFormed types patterns nodes count true =
    HasMoreTests types (lines_from types 0 patterns) (most_tests patterns) × (count ≡ weight (lines_from types 0 patterns))
    × (nodes ≡ rows_in_turn types patterns)

-- ---- brief tests

-- the most that brief tests of patterns are long, once they are in an image
abbrev pub brief_length : List Pattern → ℕ
brief_length patterns = most_brief (sum_by nodes_of_pattern patterns)

-- the graph of the states has too many tests, or they are not brief
pub data IsTooLong (types : List ℕ) (patterns : List Pattern) : Type 0 where
  many_tests : HasMoreTests types (lines_from types 0 patterns) (most_tests patterns) → IsTooLong types patterns
  long_tests : (graph : List NodeTree) → IsStateGraph types patterns graph → brief_length patterns < tests_length graph → IsTooLong types patterns

-- The nodes are the graph of the states; or that is too long, and the rows are tried one after the other, with a test for each of
-- their parts.
abbrev pub IsBrieflyFormed : List ℕ → List Pattern → List NodeTree → ℕ → Bool → Type 0
IsBrieflyFormed types patterns nodes count false = IsFormed types patterns nodes count false
IsBrieflyFormed types patterns nodes count true =
    IsTooLong types patterns × (count ≡ weight (lines_from types 0 patterns)) × (nodes ≡ rows_in_turn types patterns)
