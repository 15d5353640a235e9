-- How two nodes become one type: the later one becomes the same as the earlier one, and their arguments are to become one type pair by pair.
use Rattle.std.specs.Prelude.{◌≡◌, ◌<◌, ◌≤◌, ◌==◌, ◌&&◌, ◌+◌, ℕ, Bool, true, false, List, [], length, slice_index_or, slice_set, All, sum_by}
use Rattle.std.specs.List.{zip}
use Rattle.kk_unify.specs.Graphs.{NodeTree, any_node, same_node, int32_node, unit_node, variable_node, named_node, Assignment, Obeys, IsFormed}

abbrev pub Pair : Type 0
Pair = ℕ × ℕ

-- the node of that number; of any type where there is none
abbrev pub node_at : List NodeTree → ℕ → NodeTree
node_at graph i = slice_index_or graph i any_node

-- a graph is formed, whatever its variables are
abbrev pub IsLinked : List NodeTree → Type 0
IsLinked graph = (variables : ℕ) × IsFormed variables graph

abbrev pub KeepsFormed : List NodeTree → List NodeTree → Type 0
KeepsFormed old new = (variables : ℕ) → IsFormed variables old → IsFormed variables new

-- a node that is not the same as another
abbrev pub IsHead : NodeTree → Type 0
IsHead any_node = Unit {0}
IsHead (same_node to) = ⊥
IsHead int32_node = Unit {0}
IsHead unit_node = Unit {0}
IsHead (variable_node of) = Unit {0}
IsHead (named_node by arguments) = Unit {0}

-- how many nodes a node has as arguments, and how many all nodes have
abbrev pub parts : NodeTree → ℕ
parts any_node = 0
parts (same_node to) = 0
parts int32_node = 0
parts unit_node = 0
parts (variable_node of) = 0
parts (named_node by arguments) = length arguments

abbrev pub weight : List NodeTree → ℕ
weight graph = sum_by parts graph

-- an assignment gives the nodes of each pair one type
abbrev pub PairsHold : Assignment → List Pair → Type 0
PairsHold r pairs = All (λ p. r p.0 ≡ r p.1) pairs

-- the pairs are of nodes that there are
abbrev pub AreWithin : ℕ → List Pair → Type 0
AreWithin size pairs = All (λ p. (p.0 < size) × (p.1 < size)) pairs

-- two nodes can be of one type, as far as the nodes themselves tell
abbrev pub heads_agree : NodeTree → NodeTree → Bool
heads_agree any_node upper = true
heads_agree (same_node to) upper = false
heads_agree int32_node any_node = true
heads_agree int32_node int32_node = true
heads_agree int32_node upper = false
heads_agree unit_node any_node = true
heads_agree unit_node unit_node = true
heads_agree unit_node upper = false
heads_agree (variable_node of) any_node = true
heads_agree (variable_node of) (variable_node other) = of == other
heads_agree (variable_node of) upper = false
heads_agree (named_node by arguments) any_node = true
heads_agree (named_node by arguments) (named_node other others) = (by == other) && (length arguments == length others)
heads_agree (named_node by arguments) upper = false

-- what is known of both
abbrev pub merged : NodeTree → NodeTree → NodeTree
merged any_node upper = upper
merged (same_node to) upper = same_node to
merged int32_node upper = int32_node
merged unit_node upper = unit_node
merged (variable_node of) upper = variable_node of
merged (named_node by arguments) upper = named_node by arguments

-- the arguments of both, pair by pair
abbrev pub met_by : List ℕ → NodeTree → List Pair
met_by arguments any_node = []
met_by arguments (same_node to) = []
met_by arguments int32_node = []
met_by arguments unit_node = []
met_by arguments (variable_node of) = []
met_by arguments (named_node by others) = zip arguments others

abbrev pub met : NodeTree → NodeTree → List Pair
met any_node upper = []
met (same_node to) upper = []
met int32_node upper = []
met unit_node upper = []
met (variable_node of) upper = []
met (named_node by arguments) upper = met_by arguments upper

-- `new` is `old` in other words: the same assignments obey it
pub record Alike (old new : List NodeTree) : Type 0 where
  pub as_long : length new ≡ length old
  pub as_heavy : weight new ≡ weight old
  pub heads : (i : ℕ) → IsHead (node_at old i) → node_at new i ≡ node_at old i
  pub formed : KeepsFormed old new
  pub onward : (r : Assignment) → Obeys old r → Obeys new r
  pub back : (r : Assignment) → Obeys new r → Obeys old r

-- `new` is `old` in other words, and a node is the same as the one that is reached from it
pub record Leads (old new : List NodeTree) (start reached : ℕ) : Type 0 where
  pub alike : Alike old new
  pub below : reached ≤ start
  pub same : (r : Assignment) → Obeys old r → r start ≡ r reached

-- and that one is not the same as another
pub record Finds (old new : List NodeTree) (start found : ℕ) : Type 0 where
  pub leads : Leads old new start found
  pub head : IsHead (node_at new found)

-- `new` with the pairs that are left is `old` with its pairs, and with one more pair
pub record Steps (old : List NodeTree) (pairs : List Pair) (a b : ℕ) (new : List NodeTree) (left : List Pair) : Type 0 where
  pub as_long : length new ≡ length old
  pub lighter : weight new + length left ≤ weight old + length pairs
  pub within : AreWithin (length old) pairs → AreWithin (length new) left
  pub onward : (r : Assignment) → Obeys old r → r a ≡ r b → PairsHold r pairs → Obeys new r × PairsHold r left
  pub back : (r : Assignment) → Obeys new r → PairsHold r left → Obeys old r × (r a ≡ r b) × PairsHold r pairs

-- two nodes with heads become one type: the one of the greater number becomes the same as the other
abbrev pub linked : List NodeTree → ℕ → ℕ → List NodeTree
linked graph low high = slice_set (slice_set graph high (same_node low)) low (merged (node_at graph low) (node_at graph high))
