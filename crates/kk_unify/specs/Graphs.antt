-- Graphs of types: numbered nodes, each a type that is not known yet, another node, or a type of which the parts are nodes.
-- A graph means the assignments of types to its nodes that obey each node.
use Rattle.std.specs.Prelude.{◌≡◌, ◌<◌, ◌-◌, ◌⊎◌, ℕ, suc, List, length, map, All, Some, if◌then◌else◌, nat_lt, slice_get}
use Rattle.kk_syntax.specs.Types.{TypeTree, int32, unit_type, type_variable, named, types_of, put}

-- a node: of any type; the same as another; `int32`; `()`; a type variable that stands for itself; a declared type with arguments
pub data NodeTree : Type 0 where
  any_node : NodeTree
  same_node : (to : ℕ) → NodeTree
  int32_node : NodeTree
  unit_node : NodeTree
  variable_node : (of : ℕ) → NodeTree
  named_node : (by : ℕ) → (arguments : List ℕ) → NodeTree

-- an assignment gives each node a type
abbrev pub Assignment : Type 0
Assignment = ℕ → TypeTree

-- an assignment obeys the node of this number
abbrev pub Holds : Assignment → ℕ → NodeTree → Type 0
Holds r i any_node = Unit {0}
Holds r i (same_node to) = r i ≡ r to
Holds r i int32_node = r i ≡ int32
Holds r i unit_node = r i ≡ unit_type
Holds r i (variable_node of) = r i ≡ type_variable of
Holds r i (named_node by arguments) = r i ≡ named by (types_of (map r arguments))

-- an assignment obeys each node of a graph
abbrev pub Obeys : List NodeTree → Assignment → Type 0
Obeys graph r = (i : ℕ) (node : NodeTree) → slice_get graph i ≡ Some node → Holds r i node

-- what a node names is there: a node that is the same as another names an earlier one, and variables are below a bound
abbrev pub IsNodeFormed : ℕ → ℕ → ℕ → NodeTree → Type 0
IsNodeFormed variables size i any_node = Unit {0}
IsNodeFormed variables size i (same_node to) = to < i
IsNodeFormed variables size i int32_node = Unit {0}
IsNodeFormed variables size i unit_node = Unit {0}
IsNodeFormed variables size i (variable_node of) = of < variables
IsNodeFormed variables size i (named_node by arguments) = All (λ argument. argument < size) arguments

-- the same of each node of a graph
abbrev pub IsFormed : ℕ → List NodeTree → Type 0
IsFormed variables graph = (i : ℕ) (node : NodeTree) → slice_get graph i ≡ Some node → IsNodeFormed variables (length graph) i node

-- `new` is `old` with one more node, of this number: an assignment obeys it if it obeys `old` and means this
pub record Adds (old new : List NodeTree) (number : ℕ) (Means : Assignment → Type 0) : Type 0 where
  pub number_is : number ≡ length old
  pub longer : length new ≡ suc (length old)
  pub onward : (r : Assignment) → Obeys old r → Means r → Obeys new r
  pub back : (r : Assignment) → Obeys new r → Obeys old r × Means r

-- `new` is `old` in which two nodes are of one type
pub record Joins (old new : List NodeTree) (a b : ℕ) : Type 0 where
  pub as_long : length new ≡ length old
  pub onward : (r : Assignment) → Obeys old r → r a ≡ r b → Obeys new r
  pub back : (r : Assignment) → Obeys new r → Obeys old r × (r a ≡ r b)

-- no assignment that obeys the graph gives two nodes one type
abbrev pub Clashes : List NodeTree → ℕ → ℕ → Type 0
Clashes graph a b = (r : Assignment) → Obeys graph r → r a ≡ r b → ⊥

-- types in place of variables: the first so many stand for themselves, and the others for the types of nodes
abbrev pub filled : ℕ → Assignment → ℕ → TypeTree
filled variables r x = if nat_lt x variables then type_variable x else r (x - variables)

-- An assignment that obeys a graph, and of which each other one is an instance.
pub record IsPrincipalOf (variables : ℕ) (graph : List NodeTree) (types : Assignment) : Type 0 where
  pub obeys : Obeys graph types
  pub each : (r : Assignment) → Obeys graph r → (i : ℕ) → i < length graph → r i ≡ put (filled variables r) (types i)

-- no assignment obeys the graph
abbrev pub NoneObeys : List NodeTree → Type 0
NoneObeys graph = (r : Assignment) → Obeys graph r → ⊥

-- whether two nodes can be of one type is decided, and so is whether an assignment obeys a graph
abbrev pub EachJoinIsDecided : Type 0
EachJoinIsDecided = (variables : ℕ) (graph : List NodeTree) (a b : ℕ) → IsFormed variables graph → a < length graph → b < length graph → ((new : List NodeTree) × IsFormed variables new × Joins graph new a b) ⊎ Clashes graph a b

abbrev pub EachGraphIsDecided : Type 0
EachGraphIsDecided = (variables : ℕ) (graph : List NodeTree) → IsFormed variables graph → ((types : Assignment) × IsPrincipalOf variables graph types) ⊎ NoneObeys graph
