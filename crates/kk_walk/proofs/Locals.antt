-- Claims that are of the nodes that are there alone.
use Rattle.std.proofs.Common.{◌<◌, ℕ, List, map, subst}
use Rattle.kk_syntax.specs.Programs.{ProgramTree}
use Rattle.kk_syntax.specs.Trees.{Tree, Trees, Rows}
use Rattle.kk_syntax.specs.Types.{TypeTree}
use Rattle.kk_syntax.specs.Typing.{Choice, Scope, IsTypedBy, AreTypedBy, AreRowsTypedBy}
use Rattle.kk_unify.specs.Graphs.{Assignment}
use Rattle.kk_walk.specs.declared.walk.Bound.{Bound}
use Rattle.kk_walk.specs.Claims.{both, expression_at, expressions_at, rows_at}
use Rattle.kk_walk.specs.Walks.{AreBelow, AreBoundBelow, scope_at, Claim, IsOf}
use Rattle.kk_walk.proofs.ClaimComposition.{types_agree, scope_agrees}

module _ (size : ℕ) where
  -- of a scope of nodes that are there
  pub scoped_of : (bounds : List Bound) (F : Scope → List Choice → Type 0) → AreBoundBelow size bounds → IsOf size (λ r. F (scope_at r bounds))
  scoped_of bounds F inside = record { follows = λ r q choices agree whole. subst (λ scope. F scope choices) (scope_agrees size r q agree bounds inside) whole }

  -- of the type of a node that is there, of those of nodes
  pub node_of : (node : ℕ) (V : Assignment → TypeTree → List Choice → Type 0) → node < size → ((t : TypeTree) → IsOf size (λ r. V r t)) → IsOf size (λ r. V r (r node))
  node_of node V lt of = record { follows = λ r q choices agree whole. subst (λ t. V q t choices) (agree node lt) ((of (r node)).follows r q choices agree whole) }

  pub nodes_of_claim : (nodes : List ℕ) (V : Assignment → List TypeTree → List Choice → Type 0) → AreBelow size nodes → ((ts : List TypeTree) → IsOf size (λ r. V r ts)) → IsOf size (λ r. V r (map r nodes))
  nodes_of_claim nodes V inside of = record { follows = λ r q choices agree whole. subst (λ ts. V q ts choices) (types_agree size r q agree nodes inside) ((of (map r nodes)).follows r q choices agree whole) }

  pub both_of : (First Rest : Claim) → IsOf size First → IsOf size Rest → IsOf size (both First Rest)
  both_of First Rest first rest = record { follows = λ r q choices agree whole. (whole.0, whole.1, whole.2, first.follows r q whole.0 agree whole.3, rest.follows r q whole.1 agree whole.4) }

  module _ (program : ProgramTree) (bounds : List Bound) (inside : AreBoundBelow size bounds) where
    pub expression_of : (e : Tree) (want : ℕ) → want < size → IsOf size (expression_at program bounds e want)
    expression_of e want lt = node_of want (λ r t choices. IsTypedBy program (scope_at r bounds) e t choices) lt (λ t. scoped_of bounds (λ scope choices. IsTypedBy program scope e t choices) inside)

    pub expressions_of : (es : Trees) (wants : List ℕ) → AreBelow size wants → IsOf size (expressions_at program bounds es wants)
    expressions_of es wants lt = nodes_of_claim wants (λ r ts choices. AreTypedBy program (scope_at r bounds) es ts choices) lt (λ ts. scoped_of bounds (λ scope choices. AreTypedBy program scope es ts choices) inside)

    pub rows_of_claim : (rows : Rows) (scrutinee want : ℕ) → scrutinee < size → want < size → IsOf size (rows_at program bounds rows scrutinee want)
    rows_of_claim rows scrutinee want first lt =
        node_of want (λ r t choices. AreRowsTypedBy program (scope_at r bounds) rows (r scrutinee) t choices) lt
        (λ t. node_of scrutinee (λ r u choices. AreRowsTypedBy program (scope_at r bounds) rows u t choices) first (λ u. scoped_of bounds (λ scope choices. AreRowsTypedBy program scope rows u t choices) inside))
