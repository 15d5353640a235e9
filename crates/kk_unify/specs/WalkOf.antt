-- Walks in memory.
use Rattle.std.specs.Prelude.{◌≡◌, ◌<◌, ◌≢◌, ◌++◌, ℕ, List, [], ◌∷◌, length, map, sum_by, slice_set, slice_index_or}
use Rattle.kk_syntax.specs.declared.typed.TypeNode.{TypeNode}
use Rattle.kk_syntax.specs.Types.{type_at}
use Rattle.kk_syntax.specs.TypedPrograms.{node_types, type_of_node}
use Rattle.kk_unify.specs.declared.walk.Mark.{Mark}
use Rattle.kk_unify.specs.declared.walk.Mark.TheVariants.{Entered, Numbered}
use Rattle.kk_unify.specs.declared.walk.Frame.{Frame}
use Rattle.kk_unify.specs.declared.walk.Walk.{Walk}
use Rattle.kk_unify.specs.declared.walk.Rooted.{Rooted}
use Rattle.kk_unify.specs.Graphs.{NodeTree}
use Rattle.kk_unify.specs.NodesOf.{node_trees}
use Rattle.kk_unify.specs.Unification.{node_at}
use Rattle.kk_unify.specs.Solutions.{NamesEarlier}
use Rattle.kk_unify.specs.GraphWalk.{root_at, IsRooted, arguments_of, mark_at, work_of, made_type, IsReady, IsOn}

abbrev pub graph_in : Rooted → List NodeTree
graph_in rooted = node_trees rooted.nodes.now

abbrev pub IsRootedIn : Rooted → Type 0
IsRootedIn rooted = IsRooted rooted.variables (graph_in rooted) rooted.roots.items

-- a walk stands where it does, with more nodes on its way
abbrev pub Stands : Rooted → Walk → List Frame → Type 0
Stands rooted walk newest = IsOn rooted.variables (graph_in rooted) rooted.roots.items walk.marks.items (walk.frames.items ++ newest) walk.made.items

-- what is left to do
abbrev pub work_left : Walk → ℕ
work_left walk = sum_by work_of walk.marks.items

abbrev pub arguments_in : Rooted → ℕ → List ℕ
arguments_in rooted i = arguments_of (node_at (graph_in rooted) i)

-- the root of an argument of a node
abbrev pub next_root : Rooted → ℕ → ℕ → ℕ
next_root rooted i k = root_at rooted.roots.items (slice_index_or (arguments_in rooted i) k 0)

abbrev pub IsReadyIn : Rooted → List Mark → Frame → Type 0
IsReadyIn rooted marks frame = IsReady (graph_in rooted) rooted.roots.items marks frame

-- All arguments of a node on the way have numbers.
pub record IsComplete (rooted : Rooted) (marks : List Mark) (frame : Frame) : Type 0 where
  pub ready : IsReadyIn rooted marks frame
  pub all : length frame.numbers.items ≡ length (arguments_in rooted frame.node)

-- The root of an argument has no number yet.
pub record IsWanted (rooted : Rooted) (marks : List Mark) (frame : Frame) (next : ℕ) : Type 0 where
  pub ready : IsReadyIn rooted marks frame
  pub place : (k : ℕ) × (k < length (arguments_in rooted frame.node)) × (next_root rooted frame.node k ≡ next)
  pub unnumbered : (number : ℕ) → mark_at marks next ≢ Numbered number

-- A node is entered: it is marked, and the newest on the way.
pub record IsEntered (old new : Walk) (node : ℕ) : Type 0 where
  pub marks : new.marks.items ≡ slice_set old.marks.items node Entered
  pub made : new.made.items ≡ old.made.items
  pub frame : Frame
  pub frames : new.frames.items ≡ old.frames.items ++ (frame ∷ [])
  pub node_is : frame.node ≡ node
  pub numbers : frame.numbers.items ≡ []

-- A node is left: its type is made, and it has the number of that.
pub record IsLeft (rooted : Rooted) (old new : Walk) (frame : Frame) : Type 0 where
  pub marks : new.marks.items ≡ slice_set old.marks.items frame.node (Numbered (length old.made.items))
  pub frames : new.frames.items ≡ old.frames.items
  pub made : TypeNode
  pub nodes : new.made.items ≡ old.made.items ++ (made ∷ [])
  pub made_is : type_of_node (node_types old.made.items) made ≡ made_type rooted.variables frame.node (map (type_at (node_types old.made.items)) frame.numbers.items) (node_at (graph_in rooted) frame.node)
  pub earlier : NamesEarlier (length old.made.items) made
