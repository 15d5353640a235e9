-- The shortest walks: of one node, and of a variable.
use Rattle.std.proofs.Common.{◌≡◌, ◌<◌, ℕ, Bool, List, [], ◌∷◌, ◌++◌, map, Some, None, refl, ap, sym, ◌∙◌, subst}
use Rattle.std.specs.Prelude.{Result, Ok, Err, IfOk, MatchBool, ◌==◌, reverse}
use Rattle.std.specs.List.{find}
use Rattle.std.proofs.Common.{Vec, Global}
use Rattle.std.proofs.lemmas.List.{map-append}
use Rattle.kk_base.specs.declared.error.NoMemory.{NoMemory}
use Rattle.kk_syntax.specs.declared.typed.Taken.{Taken}
use Rattle.kk_syntax.specs.declared.typed.Taken.TheVariants.{Value}
use Rattle.kk_syntax.specs.declared.typed.TypeNode.{TypeNode}
use Rattle.kk_syntax.specs.Types.{TypeTree, named, types_of}
use Rattle.kk_syntax.specs.Typing.{bool}
use Rattle.kk_unify.specs.declared.graph.Graph.{Graph}
use Rattle.kk_unify.specs.Graphs.{NodeTree, Assignment, Adds, Joins, Clashes}
use Rattle.kk_unify.specs.GraphOf.{graph_of, variables_of, type_by, IsAddable}
use Rattle.kk_walk.specs.declared.walk.Bound.{Bound}
use Rattle.kk_walk.specs.declared.walk.Walk.{Walk}
use Rattle.kk_walk.specs.Claims.{typed_as, bound_as}
use Rattle.kk_walk.specs.Steps.{nodes_of, size_of, Walked, Made, Opened}
use Rattle.kk_walk.specs.Walks.{taking_of, takings_of, Agree, Refused, IsOf}
use Rattle.kk_walk.proofs.NewNodes.{adds_builds, adds_opens, type_by_agrees}
use Rattle.kk_walk.proofs.WalkComposition.{goes_made, goes_reworded, joined_walked, walked_behind}
use Rattle.kk_walk.proofs.Scopes.{newest_is}

pub typed_as_of : (size node : ℕ) (type : Assignment → TypeTree) → node < size → ((r q : Assignment) → Agree size r q → type r ≡ type q) → IsOf size (typed_as node type)
typed_as_of size node type lt follows = record {
  follows = λ r q choices agree whole. (sym (agree node lt) ∙ (whole.0 ∙ follows r q agree), whole.1);
}

module _ (walk : Walk) (g : Graph) (same : variables_of g ≡ variables_of walk.graph) where
  -- a node was made
  pub was_made : (made : ℕ) (type : Assignment → TypeTree) → ((r q : Assignment) → Agree (size_of walk) r q → type r ≡ type q) → Adds (nodes_of walk) (graph_of g) made (λ r. r made ≡ type r) → Made walk (record walk { graph = g }) made type
  was_made made type follows adds = record {
    builds = adds_builds (variables_of walk.graph) (nodes_of walk) (graph_of g) walk.graph.formed made type follows adds;
    same_taken = refl;
    same_scope = refl;
    same_variables = same;
  }

  -- a node was made that is `bool`
  pub truth_made : (items : List ℕ) (result : Result ℕ NoMemory) → items ≡ [] → IfOk result (λ made. Adds (nodes_of walk) (graph_of g) made (λ r. r made ≡ named 0 (types_of (map r items)))) → IfOk result (λ made. Made walk (record walk { graph = g }) made (λ r. bool))
  truth_made items (Ok made) none h = was_made made (λ r. bool) (λ r q agree. refl) (subst (λ is. Adds (nodes_of walk) (graph_of g) made (λ r. r made ≡ named 0 (types_of (map r is)))) none h)
  truth_made items (Err error) none h = tt

  -- a node was taken
  pub was_opened : (node : ℕ) (taken : Vec Taken Global) → taken.items ≡ walk.taken.items ++ (Value node ∷ []) → Adds (nodes_of walk) (graph_of g) node (λ r. Unit {0}) → Opened walk (record walk { graph = g; taken = taken }) node
  was_opened node taken grown adds = record {
    opens = adds_opens (variables_of walk.graph) (nodes_of walk) (graph_of g) walk.graph.formed node adds;
    takes = ap takings_of grown ∙ map-append taking_of walk.taken.items (Value node ∷ []);
    same_scope = refl;
    same_variables = same;
  }

  -- a node is of a type, or cannot be
  pub is_walked : (h : Graph) (node made : ℕ) (ty : TypeNode) (result : Result Bool NoMemory) → node < size_of walk → IsAddable (variables_of walk.graph) (size_of walk) ty → Adds (nodes_of walk) (graph_of g) made (λ r. r made ≡ type_by r ty) → variables_of h ≡ variables_of g → IfOk result (λ joined. MatchBool joined (Joins (graph_of g) (graph_of h) node made) (Clashes (graph_of g) node made)) → Walked walk (record walk { graph = h }) (typed_as node (λ r. type_by r ty)) result
  is_walked h node made ty result lt addable adds kept joined =
      let follows : (r q : Assignment) → Agree (size_of walk) r q → type_by r ty ≡ type_by q ty = λ r q agree. type_by_agrees (variables_of walk.graph) (size_of walk) r q ty addable agree in
      let inner : Walk = record walk { graph = g } in
      walked_behind walk inner (record walk { graph = h }) (typed_as node (λ r. type_by r ty)) (typed_as node (λ r. r made)) result
      (goes_made walk inner made (λ r. type_by r ty) (λ r t choices. (r node ≡ t) × (choices ≡ [])) (was_made made (λ r. type_by r ty) follows adds) (typed_as_of (size_of walk) node (λ r. type_by r ty) lt follows))
      (joined_walked inner h node made result kept joined)

-- a variable that is bound
pub variable_walked : (a b : Walk) (x want : ℕ) (bound : Bound) (result : Result Bool NoMemory) → find (λ c. c.variable == x) (reverse a.scope.items) ≡ Some bound → Walked a b (typed_as bound.node (λ r. r want)) result → Walked a b (bound_as a.scope.items x want) result
variable_walked a b x want bound result is walked =
    walked_behind a a b (bound_as a.scope.items x want) (typed_as bound.node (λ r. r want)) result
    (goes_reworded a (bound_as a.scope.items x want) (typed_as bound.node (λ r. r want))
    (λ r choices obeys whole. let found = newest_is a.scope.items x (Some bound) is r in let there = whole.0 in (cc, whole.1))
    (λ r choices obeys left. (newest_is a.scope.items x (Some bound) is r ∙ ap Some left.0, left.1)))
    walked

-- a variable that is not bound
pub unbound_refused : (graph : List NodeTree) (bounds : List Bound) (x want : ℕ) → find (λ c. c.variable == x) (reverse bounds) ≡ None → Refused graph (bound_as bounds x want)
unbound_refused graph bounds x want is = record { none = λ r choices obeys whole. let found = newest_is bounds x None is r in let there = whole.0 in cc }
