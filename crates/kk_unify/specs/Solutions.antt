-- What the solution of a graph is.
use Rattle.std.specs.Prelude.{◌≡◌, ◌<◌, ℕ, List, length, All, Some, slice_get, slice_index_or}
use Rattle.kk_syntax.specs.declared.typed.TypeNode.{TypeNode}
use Rattle.kk_syntax.specs.declared.typed.TypeNode.TheVariants.{Int32, Unit as Nothing, Variable, Named}
use Rattle.kk_syntax.specs.Types.{type_at}
use Rattle.kk_syntax.specs.TypedPrograms.{node_types}
use Rattle.kk_unify.specs.declared.solve.Solution.{Solution}
use Rattle.kk_unify.specs.Graphs.{NodeTree, Assignment, IsPrincipalOf}

-- the type of each node of the graph
abbrev pub types_in : Solution → Assignment
types_in solution i = type_at (node_types solution.nodes.items) (slice_index_or solution.numbers.items i 0)

-- the arguments of a node are nodes before it
abbrev pub NamesEarlier : ℕ → TypeNode → Type 0
NamesEarlier number Int32 = Unit {0}
NamesEarlier number Nothing = Unit {0}
NamesEarlier number (Variable of) = Unit {0}
NamesEarlier number (Named by arguments) = All (λ argument. argument < number) arguments.items

-- The types of a solution are principal for the graph; each node of the graph has a number, and it is that of a node of the solution.
pub record Solves (variables : ℕ) (graph : List NodeTree) (solution : Solution) : Type 0 where
  pub as_long : length solution.numbers.items ≡ length graph
  pub within : All (λ number. number < length solution.nodes.items) solution.numbers.items
  pub earlier : (number : ℕ) (node : TypeNode) → slice_get solution.nodes.items number ≡ Some node → NamesEarlier number node
  pub principal : IsPrincipalOf variables graph (types_in solution)
