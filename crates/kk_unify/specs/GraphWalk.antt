-- How a graph is walked for its types: a node is numbered behind its arguments; a node that is its own argument is met on the way.
use Rattle.std.specs.Prelude.{◌≡◌, ◌≢◌, ◌<◌, ◌≤◌, ◌+◌, ℕ, List, [], length, map, All, Some, slice_get, slice_index_or}
use Rattle.kk_syntax.specs.declared.typed.TypeNode.{TypeNode}
use Rattle.kk_syntax.specs.Types.{TypeTree, int32, unit_type, type_variable, named, TypeTrees, no_type, type, types_of, put, type_at}
use Rattle.kk_syntax.specs.TypedPrograms.{node_types}
use Rattle.kk_unify.specs.declared.walk.Mark.{Mark}
use Rattle.kk_unify.specs.declared.walk.Mark.TheVariants.{New, Entered, Numbered}
use Rattle.kk_unify.specs.declared.walk.Frame.{Frame}
use Rattle.kk_unify.specs.Graphs.{NodeTree, any_node, same_node, int32_node, unit_node, variable_node, named_node, Assignment, Holds, Obeys, IsFormed, filled}
use Rattle.kk_unify.specs.Unification.{node_at, IsHead}
use Rattle.kk_unify.specs.Solutions.{NamesEarlier}

-- the node that gives the type of a node
abbrev pub root_at : List ℕ → ℕ → ℕ
root_at roots i = slice_index_or roots i 0

-- a node that is the same as another has the root of that one, and each other node is its own
abbrev pub HasRoot : List ℕ → ℕ → NodeTree → Type 0
HasRoot roots i any_node = root_at roots i ≡ i
HasRoot roots i (same_node to) = root_at roots i ≡ root_at roots to
HasRoot roots i int32_node = root_at roots i ≡ i
HasRoot roots i unit_node = root_at roots i ≡ i
HasRoot roots i (variable_node of) = root_at roots i ≡ i
HasRoot roots i (named_node by arguments) = root_at roots i ≡ i

pub record AreRoots (graph : List NodeTree) (roots : List ℕ) : Type 0 where
  pub as_long : length roots ≡ length graph
  pub each : (i : ℕ) → i < length graph → HasRoot roots i (node_at graph i)

-- a graph is formed, and each of its nodes has its root
pub record IsRooted (variables : ℕ) (graph : List NodeTree) (roots : List ℕ) : Type 0 where
  pub formed : IsFormed variables graph
  pub rooted : AreRoots graph roots

-- how large a type is
abbrev mutual
  pub size : TypeTree → ℕ
  size int32 = 1
  size unit_type = 1
  size (type_variable of) = 1
  size (named by arguments) = 1 + sizes arguments

  pub sizes : TypeTrees → ℕ
  sizes no_type = 0
  sizes (type first rest) = size first + sizes rest

abbrev pub arguments_of : NodeTree → List ℕ
arguments_of any_node = []
arguments_of (same_node to) = []
arguments_of int32_node = []
arguments_of unit_node = []
arguments_of (variable_node of) = []
arguments_of (named_node by arguments) = arguments

abbrev pub mark_at : List Mark → ℕ → Mark
mark_at marks i = slice_index_or marks i New

-- there is a type of the number
abbrev pub IsDone : ℕ → Mark → Type 0
IsDone count New = ⊥
IsDone count Entered = ⊥
IsDone count (Numbered number) = number < count

abbrev pub number_of : Mark → ℕ
number_of New = 0
number_of Entered = 0
number_of (Numbered number) = number

-- what is left to do at a node
abbrev pub work_of : Mark → ℕ
work_of New = 2
work_of Entered = 1
work_of (Numbered number) = 0

-- the type of each node of which the root has a number
abbrev pub types_so_far : List ℕ → List Mark → List TypeTree → Assignment
types_so_far roots marks types i = type_at types (number_of (mark_at marks (root_at roots i)))

-- the type of a node by those of its arguments; of one of any type, a variable of its own
abbrev pub made_type : ℕ → ℕ → List TypeTree → NodeTree → TypeTree
made_type variables i ts any_node = type_variable (variables + i)
made_type variables i ts (same_node to) = unit_type
made_type variables i ts int32_node = int32
made_type variables i ts unit_node = unit_type
made_type variables i ts (variable_node of) = type_variable of
made_type variables i ts (named_node by arguments) = named by (types_of ts)

-- A node has its principal type: the one of that number.
pub record IsNumbered (variables : ℕ) (graph : List NodeTree) (roots : List ℕ) (marks : List Mark) (types : List TypeTree) (i number : ℕ) : Type 0 where
  pub root : root_at roots i ≡ i
  pub head : IsHead (node_at graph i)
  pub within : number < length types
  pub arguments : All (λ argument. IsDone (length types) (mark_at marks (root_at roots argument))) (arguments_of (node_at graph i))
  pub holds : Holds (types_so_far roots marks types) i (node_at graph i)
  pub principal : (r : Assignment) → Obeys graph r → r i ≡ put (filled variables r) (type_at types number)

-- The nodes on the way are marked, and each is an argument of the one before it, so it is smaller.
pub record Walks (variables : ℕ) (graph : List NodeTree) (roots : List ℕ) (marks : List Mark) (trail : List ℕ) (types : List TypeTree) : Type 0 where
  pub as_long : length marks ≡ length graph
  pub roots_only : (p : ℕ) → p < length trail → (slice_index_or trail p 0 < length graph) × (root_at roots (slice_index_or trail p 0) ≡ slice_index_or trail p 0)
  pub entered : (p : ℕ) → p < length trail → mark_at marks (slice_index_or trail p 0) ≡ Entered
  pub apart : (p q : ℕ) → p < q → q < length trail → slice_index_or trail p 0 ≢ slice_index_or trail q 0
  pub held : (i : ℕ) → mark_at marks i ≡ Entered → (p : ℕ) × (p < length trail) × (slice_index_or trail p 0 ≡ i)
  pub falls : (r : Assignment) → Obeys graph r → (p q : ℕ) → p < q → q < length trail → size (r (slice_index_or trail q 0)) < size (r (slice_index_or trail p 0))
  pub numbered : (i number : ℕ) → mark_at marks i ≡ Numbered number → IsNumbered variables graph roots marks types i number

-- The numbers of the first arguments of a node on the way.
pub record IsReady (graph : List NodeTree) (roots : List ℕ) (marks : List Mark) (frame : Frame) : Type 0 where
  pub count : length frame.numbers.items ≤ length (arguments_of (node_at graph frame.node))
  pub each : (k : ℕ) → k < length frame.numbers.items → mark_at marks (root_at roots (slice_index_or (arguments_of (node_at graph frame.node)) k 0)) ≡ Numbered (slice_index_or frame.numbers.items k 0)

abbrev pub node_on : Frame → ℕ
node_on frame = frame.node

abbrev pub EachNamesEarlier : List TypeNode → Type 0
EachNamesEarlier made = (number : ℕ) (node : TypeNode) → slice_get made number ≡ Some node → NamesEarlier number node

pub record IsOn (variables : ℕ) (graph : List NodeTree) (roots : List ℕ) (marks : List Mark) (frames : List Frame) (made : List TypeNode) : Type 0 where
  pub walks : Walks variables graph roots marks (map node_on frames) (node_types made)
  pub ready : All (IsReady graph roots marks) frames
  pub earlier : EachNamesEarlier made

-- what has a number keeps it
abbrev pub KeepsNumbers : List Mark → List Mark → Type 0
KeepsNumbers old new = (i number : ℕ) → mark_at old i ≡ Numbered number → mark_at new i ≡ Numbered number
