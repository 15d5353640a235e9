-- What the steps of a walk leave behind.
use Rattle.std.specs.Prelude.{◌≡◌, ◌<◌, ◌≤◌, ℕ, Bool, true, false, Option, Some, None, List, [], ◌∷◌, ◌++◌, length, map, take, Result, Ok, Err}
use Rattle.kk_base.specs.declared.error.NoMemory.{NoMemory}
use Rattle.kk_syntax.specs.Types.{TypeTree}
use Rattle.kk_syntax.specs.Typing.{Choice, Scheme, with_bound}
use Rattle.kk_syntax.specs.Programs.{ProgramTree}
use Rattle.kk_syntax.specs.Trees.{Tree, StatementTree, block_of}
use Rattle.kk_unify.specs.Graphs.{NodeTree, Assignment}
use Rattle.kk_unify.specs.GraphOf.{graph_of, variables_of}
use Rattle.kk_walk.specs.declared.instance.Instance.{Instance}
use Rattle.kk_walk.specs.declared.walk.Walk.{Walk}
use Rattle.kk_walk.specs.Claims.{expression_at}
use Rattle.kk_walk.specs.Walks.{Taking, holding_at, takings_of, AreBoundBelow, scope_at, Claim, Leads, Done, Refused, Builds, Opens, IsInstance}

abbrev pub nodes_of : Walk → List NodeTree
nodes_of walk = graph_of walk.graph

abbrev pub size_of : Walk → ℕ
size_of walk = length (nodes_of walk)

-- these nodes were taken meanwhile
abbrev pub Takes : Walk → Walk → List Taking → Type 0
Takes old new taken = takings_of new.taken.items ≡ takings_of old.taken.items ++ taken

-- a walk that went on, in the same scope
pub record Goes (old new : Walk) (Whole Left : Claim) : Type 0 where
  pub taken : List Taking
  pub takes : Takes old new taken
  pub same_scope : new.scope.items ≡ old.scope.items
  pub same_variables : variables_of new.graph ≡ variables_of old.graph
  pub leads : Leads (nodes_of old) (nodes_of new) taken Whole Left

-- what a walk answers: whether the claim can be met
abbrev pub Walked : Walk → Walk → Claim → Result Bool NoMemory → Type 0
Walked old new Whole (Ok true) = Goes old new Whole Done
Walked old new Whole (Ok false) = Refused (nodes_of old) Whole
Walked old new Whole (Err _) = Unit {0}

-- One new node is of this type.
pub record Made (old new : Walk) (node : ℕ) (type : Assignment → TypeTree) : Type 0 where
  pub builds : Builds (nodes_of old) (nodes_of new) node type
  pub same_taken : new.taken.items ≡ old.taken.items
  pub same_scope : new.scope.items ≡ old.scope.items
  pub same_variables : variables_of new.graph ≡ variables_of old.graph

-- A walk over the first statements of a block, into the scope that they leave: what is to be shown of the block, whatever is
-- behind the statements, is shown of what is left of it there.
pub record GoesInto (program : ProgramTree) (old new : Walk) (all left : List StatementTree) : Type 0 where
  pub taken : List Taking
  pub takes : Takes old new taken
  pub outer : take (length old.scope.items) new.scope.items ≡ old.scope.items
  pub bound_inside : AreBoundBelow (size_of new) new.scope.items
  pub same_variables : variables_of new.graph ≡ variables_of old.graph
  pub longer : size_of old ≤ size_of new
  pub leads : (last : Tree) (want : ℕ) → want < size_of old → Leads (nodes_of old) (nodes_of new) taken (expression_at program old.scope.items (block_of all last) want) (expression_at program new.scope.items (block_of left last) want)

-- what a walk over statements answers
abbrev pub WalkedInto : ProgramTree → Walk → Walk → List StatementTree → Result Bool NoMemory → Type 0
WalkedInto program old new statements (Ok true) = GoesInto program old new statements []
WalkedInto program old new statements (Ok false) = (last : Tree) (want : ℕ) → want < size_of old → Refused (nodes_of old) (expression_at program old.scope.items (block_of statements last) want)
WalkedInto program old new statements (Err _) = Unit {0}

-- One new node, of any type, is taken.
pub record Opened (old new : Walk) (node : ℕ) : Type 0 where
  pub opens : Opens (nodes_of old) (nodes_of new) (node ∷ []) 1
  pub takes : Takes old new (holding_at node ∷ [])
  pub same_scope : new.scope.items ≡ old.scope.items
  pub same_variables : variables_of new.graph ≡ variables_of old.graph

-- A scheme is instantiated, in the same scope.
pub record Instantiates (scheme : Option Scheme) (chosen : List TypeTree → List Choice) (old new : Walk) (instance : Instance) : Type 0 where
  pub taken : List Taking
  pub takes : Takes old new taken
  pub nodes : IsInstance scheme chosen (nodes_of old) (nodes_of new) taken instance.parameters.items instance.result
  pub same_scope : new.scope.items ≡ old.scope.items
  pub same_variables : variables_of new.graph ≡ variables_of old.graph

-- there is no scheme, or it is instantiated
abbrev pub AnswersInstance : Option Scheme → (List TypeTree → List Choice) → Walk → Walk → Result (Option Instance) NoMemory → Type 0
AnswersInstance scheme chosen old new (Ok None) = scheme ≡ None
AnswersInstance scheme chosen old new (Ok (Some instance)) = Instantiates scheme chosen old new instance
AnswersInstance scheme chosen old new (Err _) = Unit {0}

-- Variables of a pattern are bound, each to a new node that is taken.
pub record BindsEach (old new : Walk) (variables : List ℕ) : Type 0 where
  pub at : List ℕ
  pub opens : Opens (nodes_of old) (nodes_of new) at (length variables)
  pub takes : Takes old new (map holding_at at)
  pub scope : (r : Assignment) → scope_at r new.scope.items ≡ with_bound variables (map r at) (scope_at r old.scope.items)
  pub bound_inside : AreBoundBelow (size_of old) old.scope.items → AreBoundBelow (size_of new) new.scope.items
  pub outer : take (length old.scope.items) new.scope.items ≡ old.scope.items
  pub same_variables : variables_of new.graph ≡ variables_of old.graph
