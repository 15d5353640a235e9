-- A walk through all nodes of a graph gives its solution.
use Rattle.std.proofs.Common.{◌≡◌, ◌<◌, ◌≤◌, ℕ, zero, suc, List, [], length, get_or, replicate, refl, sym, ◌∙◌, ap, subst, arith}
use Rattle.std.proofs.lemmas.List.{append-nil}
use Rattle.std.proofs.lemmas.List.Elements.{All-from_get_or}
use Rattle.kk_syntax.specs.declared.typed.TypeNode.{TypeNode}
use Rattle.kk_syntax.specs.Types.{TypeTree, put, type_at}
use Rattle.kk_syntax.specs.TypedPrograms.{node_types}
use Rattle.kk_unify.specs.declared.walk.Mark.{Mark}
use Rattle.kk_unify.specs.declared.walk.Mark.TheVariants.{New, Entered, Numbered}
use Rattle.kk_unify.specs.declared.walk.Frame.{Frame}
use Rattle.kk_unify.specs.declared.walk.Walk.{Walk}
use Rattle.kk_unify.specs.declared.walk.Rooted.{Rooted}
use Rattle.kk_unify.specs.declared.solve.Solution.{Solution}
use Rattle.kk_unify.specs.Graphs.{NodeTree, any_node, same_node, int32_node, unit_node, variable_node, named_node, Assignment, Holds, IsFormed, filled, IsPrincipalOf}
use Rattle.kk_unify.specs.Unification.{node_at}
use Rattle.kk_unify.specs.Solutions.{types_in, Solves}
use Rattle.kk_unify.specs.GraphWalk.{root_at, HasRoot, IsRooted, mark_at, number_of, types_so_far, IsNumbered, Walks, IsOn}
use Rattle.kk_unify.specs.WalkOf.{graph_in, IsRootedIn, Stands}
use Rattle.kk_unify.proofs.GraphAssignments.{obeys_from, obeying_is_local}
use Rattle.kk_unify.proofs.NodeRoots.{root_is, root_of_root}
use Rattle.kk_unify.proofs.NodeLists.{as_long}
use Rattle.kk_unify.proofs.WalkSteps.{made_long}

-- the numbers of the roots of the first nodes
pub record NumbersSoFar (rooted : Rooted) (walk : Walk) (numbers : List ℕ) (count : ℕ) : Type 0 where
  pub long : length numbers ≡ count
  pub each : (k : ℕ) → k < count → mark_at walk.marks.items (root_at rooted.roots.items k) ≡ Numbered (get_or numbers k 0)

-- the walk that has not begun
new_mark : (count i : ℕ) → mark_at (replicate count New) i ≡ New
new_mark zero i = refl
new_mark (suc count) zero = refl
new_mark (suc count) (suc i) = new_mark count i

length_new : (count : ℕ) → length (replicate count New) ≡ count
length_new zero = refl
length_new (suc count) = ap suc (length_new count)

pub begins_walk : (variables : ℕ) (graph : List NodeTree) (roots : List ℕ) → Walks variables graph roots (replicate (length graph) New) [] []
begins_walk variables graph roots = record {
  as_long = length_new (length graph);
  roots_only = λ p h. absurd (omega (arith, h));
  entered = λ p h. absurd (omega (arith, h));
  apart = λ p q order h. absurd (omega (arith, h));
  held = λ i is. (let both : New ≡ Entered = sym (new_mark (length graph) i) ∙ is in cc);
  falls = λ r obeys p q order h. absurd (omega (arith, h));
  numbered = λ i number is. (let both : New ≡ Numbered number = sym (new_mark (length graph) i) ∙ is in cc);
}

-- the types that are made are principal once each root has a number
module _ (variables : ℕ) (graph : List NodeTree) (roots : List ℕ) (rooted : IsRooted variables graph roots) (marks : List Mark) (types : List TypeTree) (numbered : (i number : ℕ) → mark_at marks i ≡ Numbered number → IsNumbered variables graph roots marks types i number) (each : (i : ℕ) → i < length graph → (number : ℕ) × (mark_at marks (root_at roots i) ≡ Numbered number)) where
  own : (i : ℕ) → i < length graph → root_at roots i ≡ i → Holds (types_so_far roots marks types) i (node_at graph i)
  own i lt root =
      let P : ℕ → Type 0 = λ n. Holds (types_so_far roots marks types) n (node_at graph n) in
      subst P root (numbered (root_at roots i) (each i lt).0 (each i lt).1).holds

  obeyed : (i : ℕ) → i < length graph → (node : NodeTree) → node_at graph i ≡ node → HasRoot roots i (node_at graph i) → Holds (types_so_far roots marks types) i (node_at graph i)
  obeyed i lt any_node is has = own i lt (let P : NodeTree → Type 0 = HasRoot roots i in subst P is has)
  obeyed i lt (same_node to) is has =
      let P : NodeTree → Type 0 = HasRoot roots i in
      let R : NodeTree → Type 0 = Holds (types_so_far roots marks types) i in
      let same : root_at roots i ≡ root_at roots to = subst P is has in
      subst R (sym is) (ap (λ n. type_at types (number_of (mark_at marks n))) same)
  obeyed i lt int32_node is has = own i lt (let P : NodeTree → Type 0 = HasRoot roots i in subst P is has)
  obeyed i lt unit_node is has = own i lt (let P : NodeTree → Type 0 = HasRoot roots i in subst P is has)
  obeyed i lt (variable_node of) is has = own i lt (let P : NodeTree → Type 0 = HasRoot roots i in subst P is has)
  obeyed i lt (named_node by arguments) is has = own i lt (let P : NodeTree → Type 0 = HasRoot roots i in subst P is has)

  pub made_principal : IsPrincipalOf variables graph (types_so_far roots marks types)
  made_principal = record {
    obeys = obeys_from graph (types_so_far roots marks types) (λ i lt. obeyed i lt (node_at graph i) refl (rooted.rooted.each i lt));
    each = λ r obeys i lt.
        let number = (each i lt).0 in
        let is = (each i lt).1 in
        (root_is variables graph roots rooted.formed rooted.rooted i lt).same r obeys ∙ (numbered (root_at roots i) number is).principal r obeys ∙ ap (put (filled variables r)) (ap (λ (m : Mark). type_at types (number_of m)) (sym is));
  }

-- so are those that agree with them
principal_agrees : (variables : ℕ) (graph : List NodeTree) (a b : Assignment) → IsFormed variables graph → ((i : ℕ) → i < length graph → a i ≡ b i) → IsPrincipalOf variables graph a → IsPrincipalOf variables graph b
principal_agrees variables graph a b formed agree principal = record {
  obeys = obeying_is_local variables graph a b formed agree principal.obeys;
  each = λ r obeys i lt. principal.each r obeys i lt ∙ ap (put (filled variables r)) (agree i lt);
}

-- the solution
pub solved : (variables : ℕ) (graph : List NodeTree) (roots : List ℕ) → IsRooted variables graph roots → (marks : List Mark) (solution : Solution) → IsOn variables graph roots marks [] solution.nodes.items → length solution.numbers.items ≡ length graph → ((k : ℕ) → k < length graph → mark_at marks (root_at roots k) ≡ Numbered (get_or solution.numbers.items k 0)) → Solves variables graph solution
solved variables graph roots rooted marks solution stands long each = record {
  as_long = long;
  within = All-from_get_or (λ number. number < length solution.nodes.items) solution.numbers.items 0 (λ i h.
      let lt : i < length graph = omega (arith, h, long) in
      let within = (stands.walks.numbered (root_at roots i) (get_or solution.numbers.items i 0) (each i lt)).within in
      omega (arith, within, made_long solution.nodes.items));
  earlier = stands.earlier;
  principal = principal_agrees variables graph (types_so_far roots marks (node_types solution.nodes.items)) (types_in solution) rooted.formed
      (λ i lt. ap (λ (m : Mark). type_at (node_types solution.nodes.items) (number_of m)) (each i lt))
      (made_principal variables graph roots rooted marks (node_types solution.nodes.items) stands.walks.numbered (λ i lt. (get_or solution.numbers.items i 0, each i lt)));
}

-- the root of a node is a node, and its own root
pub root_place : (rooted : Rooted) (roots : List ℕ) (k : ℕ) → IsRootedIn rooted → roots ≡ rooted.roots.items → k < length roots → (get_or roots k 0 < length rooted.nodes.now) × (root_at rooted.roots.items (get_or roots k 0) ≡ get_or roots k 0)
root_place rooted roots k is_rooted are lt =
    let P : List ℕ → Type 0 = λ xs. (get_or xs k 0 < length rooted.nodes.now) × (root_at rooted.roots.items (get_or xs k 0) ≡ get_or xs k 0) in
    let within : k < length (graph_in rooted) = omega (arith, lt, ap length are, is_rooted.rooted.as_long) in
    let below = (root_is rooted.variables (graph_in rooted) rooted.roots.items is_rooted.formed is_rooted.rooted k within).below in
    subst P (sym are) (omega (arith, below, within, as_long rooted.nodes.now), root_of_root rooted.variables (graph_in rooted) rooted.roots.items is_rooted.formed is_rooted.rooted k within)

-- all nodes have numbers
pub all_solved : (rooted : Rooted) (roots : List ℕ) (walk : Walk) (solution : Solution) (count : ℕ) → IsRootedIn rooted → roots ≡ rooted.roots.items → length roots ≤ count → count ≤ length roots → Stands rooted walk [] → walk.frames.items ≡ [] → solution.nodes.items ≡ walk.made.items → NumbersSoFar rooted walk solution.numbers.items count → Solves rooted.variables (graph_in rooted) solution
all_solved rooted roots walk solution count is_rooted are least most stands none made_is so_far =
    let long : length (graph_in rooted) ≡ count = omega (arith, least, most, ap length are, is_rooted.rooted.as_long) in
    let P : List Frame → Type 0 = λ frames. IsOn rooted.variables (graph_in rooted) rooted.roots.items walk.marks.items frames walk.made.items in
    let Q : List TypeNode → Type 0 = IsOn rooted.variables (graph_in rooted) rooted.roots.items walk.marks.items [] in
    solved rooted.variables (graph_in rooted) rooted.roots.items is_rooted walk.marks.items solution (subst Q (sym made_is) (subst P (append-nil walk.frames.items ∙ none) stands)) (so_far.long ∙ sym long) (λ k h. so_far.each k (omega (arith, h, long)))
