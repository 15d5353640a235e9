-- How long the tests of cases are, at most, once they are in an image.
use Rattle.std.specs.Prelude.{ℕ, ◌+◌, ◌*◌, List, [], ◌∷◌, length}
use Rattle.kk_core.specs.Codes.{Code, give, tail_call, case, compute, use_of, unpack, inside, Arms, no_arm, arm, FunctionCode}
use Rattle.kk_core.specs.Decisions.{NodeTree, chooses, tests}
use Rattle.kk_core.specs.Sizes.{most_nodes, most_program_nodes}

-- the most instructions of a node that chooses a row
abbrev pub choice_length : ℕ
choice_length = 2

-- the most of a test, but for the fields on the way to its position and for its edges
abbrev pub plain_test_length : ℕ
plain_test_length = 22

-- of each field on the way
abbrev pub way_length : ℕ
way_length = 4

-- of each edge
abbrev pub edge_length : ℕ
edge_length = 12

-- of a test
abbrev pub length_of_test : ℕ → ℕ → ℕ
length_of_test fields edges = plain_test_length + way_length * fields + edge_length * edges

abbrev pub node_length : NodeTree → ℕ
node_length (chooses row) = choice_length
node_length (tests at edges otherwise) = length_of_test (length at) (length edges)

abbrev pub tests_length : List NodeTree → ℕ
tests_length [] = 0
tests_length (node ∷ nodes) = node_length node + tests_length nodes

-- Brief tests are no longer than this for each node of the patterns, and more for each two of these nodes.
abbrev pub brief_node_length : ℕ
brief_node_length = 56

abbrev pub brief_pair_length : ℕ
brief_pair_length = 2

-- the most that brief tests of so many nodes of patterns are long
abbrev pub most_brief : ℕ → ℕ
most_brief nodes = brief_node_length * nodes + brief_pair_length * nodes * nodes

-- of all cases in a code
abbrev mutual
  pub cases_length : Code → ℕ
  cases_length (give x) = 0
  cases_length (tail_call f arguments) = 0
  cases_length (case x decisions arms) = tests_length decisions + arms_cases_length arms
  cases_length (compute x form arguments rest) = cases_length rest
  cases_length (use_of x rest) = cases_length rest
  cases_length (unpack x c fields rest) = cases_length rest
  cases_length (inside x block rest) = cases_length block + cases_length rest

  pub arms_cases_length : Arms → ℕ
  arms_cases_length no_arm = 0
  arms_cases_length (arm pattern body rest) = cases_length body + arms_cases_length rest

abbrev pub all_cases_length : List FunctionCode → ℕ
all_cases_length [] = 0
all_cases_length (function ∷ functions) = cases_length function.body + all_cases_length functions

-- The most that the limits make of it. A match has at most eight tests for each node of its patterns, each with no more fields on its
-- way than these nodes and no more edges than the match has rows.
abbrev pub most_cases_length : ℕ
most_cases_length = 80 * most_nodes * most_program_nodes
