-- What a walk is to show of the parts of a body, in a scope of nodes and at nodes for their types.
use Rattle.std.specs.Prelude.{◌≡◌, ℕ, Some, List, [], ◌∷◌, map}
use Rattle.kk_syntax.specs.declared.program.Binder.{Binder}
use Rattle.kk_syntax.specs.declared.program.Binder.TheVariants as OfBinder
use Rattle.kk_syntax.specs.Patterns.{Pattern, Patterns}
use Rattle.kk_syntax.specs.Programs.{ProgramTree}
use Rattle.kk_syntax.specs.Trees.{Tree, Trees, Rows}
use Rattle.kk_syntax.specs.Types.{TypeTree}
use Rattle.kk_syntax.specs.Typing.{type_in, InTurn, IsPatternTyped, ArePatternsTyped, IsTypedBy, AreTypedBy, AreRowsTypedBy}
use Rattle.kk_walk.specs.declared.walk.Bound.{Bound}
use Rattle.kk_unify.specs.Graphs.{Assignment}
use Rattle.kk_walk.specs.Walks.{Claim, scope_at}

abbrev pub expression_at : ProgramTree → List Bound → Tree → ℕ → Claim
expression_at program bounds e want r choices = IsTypedBy program (scope_at r bounds) e (r want) choices

abbrev pub expressions_at : ProgramTree → List Bound → Trees → List ℕ → Claim
expressions_at program bounds es wants r choices = AreTypedBy program (scope_at r bounds) es (map r wants) choices

abbrev pub rows_at : ProgramTree → List Bound → Rows → ℕ → ℕ → Claim
rows_at program bounds rows scrutinee want r choices = AreRowsTypedBy program (scope_at r bounds) rows (r scrutinee) (r want) choices

abbrev pub pattern_at : ProgramTree → List Bound → Pattern → ℕ → Claim
pattern_at program bounds pattern want r choices = IsPatternTyped program (scope_at r bounds) pattern (r want) choices

abbrev pub patterns_at : ProgramTree → List Bound → Patterns → List ℕ → Claim
patterns_at program bounds patterns wants r choices = ArePatternsTyped program (scope_at r bounds) patterns (map r wants) choices

-- a node has this type, and nothing is chosen
abbrev pub typed_as : ℕ → (Assignment → TypeTree) → Claim
typed_as node type r choices = (r node ≡ type r) × (choices ≡ [])

-- a variable is bound, and of the type of a node, and nothing is chosen
abbrev pub bound_as : List Bound → ℕ → ℕ → Claim
bound_as bounds x want r choices = (type_in (scope_at r bounds) x ≡ Some (r want)) × (choices ≡ [])

-- one claim is met, and then another one, by the choices behind
abbrev pub both : Claim → Claim → Claim
both First Rest r = InTurn (First r) (Rest r)

-- what a statement binds to a node
abbrev pub bounds_by : Binder → ℕ → List Bound
bounds_by OfBinder.Nothing node = []
bounds_by OfBinder.Wildcard node = []
bounds_by (OfBinder.Variable x) node = record { variable = x; node = node } ∷ []
