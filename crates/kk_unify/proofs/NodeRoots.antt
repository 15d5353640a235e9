-- The roots of the nodes of a graph.
use Rattle.std.proofs.Common.{◌≡◌, ◌<◌, ◌≤◌, ◌+◌, ◌++◌, ℕ, zero, suc, List, [], ◌∷◌, length, get_or, inl, inr, refl, sym, ◌∙◌, ap, subst, arith}
use Rattle.std.proofs.lemmas.List.{get_or_append_left, get_or_default, get_or_push, length_push}
use Rattle.std.proofs.lemmas.Bool.{cases_lt}
use Rattle.kk_unify.specs.Graphs.{NodeTree, any_node, same_node, int32_node, unit_node, variable_node, named_node, Assignment, Holds, Obeys, IsNodeFormed, IsFormed}
use Rattle.kk_unify.specs.Unification.{node_at, IsHead}
use Rattle.kk_unify.specs.GraphWalk.{root_at, HasRoot, AreRoots}
use Rattle.kk_unify.specs.declared.node.Node.{Node}
use Rattle.kk_unify.specs.declared.node.Node.TheVariants as OfNode
use Rattle.kk_unify.specs.NodesOf.{node_tree, node_trees}
use Rattle.kk_unify.proofs.NodeLists.{as_long, read}
use Rattle.kk_unify.proofs.Unification.{same_earlier}
use Rattle.kk_unify.proofs.GraphAssignments.{obeyed_at, formed_at}

-- what the root of a node is
pub record IsRootOf (graph : List NodeTree) (i root : ℕ) : Type 0 where
  pub below : root ≤ i
  pub head : IsHead (node_at graph root)
  pub same : (r : Assignment) → Obeys graph r → r i ≡ r root

-- a node that is not the same as another is its own root
own_root : (roots : List ℕ) (i : ℕ) (node : NodeTree) → IsHead node → HasRoot roots i node → root_at roots i ≡ i
own_root roots i any_node head has = has
own_root roots i (same_node to) head has = absurd head
own_root roots i int32_node head has = has
own_root roots i unit_node head has = has
own_root roots i (variable_node of) head has = has
own_root roots i (named_node by arguments) head has = has

itself : (graph : List NodeTree) (i root : ℕ) → root ≡ i → IsHead (node_at graph i) → IsRootOf graph i root
itself graph i root is head =
    let P : ℕ → Type 0 = IsRootOf graph i in
    let own : IsRootOf graph i i = record { below = omega arith; head = head; same = λ r obeys. refl } in
    subst P (sym is) own

module _ (variables : ℕ) (graph : List NodeTree) (roots : List ℕ) (formed : IsFormed variables graph) (are : AreRoots graph roots) where
  plain : (i : ℕ) (node : NodeTree) → node_at graph i ≡ node → IsHead node → HasRoot roots i (node_at graph i) → IsRootOf graph i (root_at roots i)
  plain i node is head has =
      let P : NodeTree → Type 0 = IsHead in
      let here : IsHead (node_at graph i) = subst P (sym is) head in
      itself graph i (root_at roots i) (own_root roots i (node_at graph i) here has) here

  by_node : (i : ℕ) → ((to : ℕ) → to < i → IsRootOf graph to (root_at roots to)) → (node : NodeTree) → node_at graph i ≡ node → IsNodeFormed variables (length graph) i (node_at graph i) → HasRoot roots i (node_at graph i) → IsRootOf graph i (root_at roots i)
  by_node i before any_node is here has = plain i any_node is tt has
  by_node i before (same_node to) is here has =
      let P : NodeTree → Type 0 = IsNodeFormed variables (length graph) i in
      let earlier : to < i = subst P is here in
      let Q : NodeTree → Type 0 = HasRoot roots i in
      let root : root_at roots i ≡ root_at roots to = subst Q is has in
      let further = before to earlier in
      let R : ℕ → Type 0 = IsRootOf graph i in
      let reached : IsRootOf graph i (root_at roots to) = record {
        below = omega (arith, further.below, earlier);
        head = further.head;
        same = λ r obeys. (let S : NodeTree → Type 0 = Holds r i in subst S is (obeyed_at graph r obeys i)) ∙ further.same r obeys;
      } in
      subst R (sym root) reached
  by_node i before int32_node is here has = plain i int32_node is tt has
  by_node i before unit_node is here has = plain i unit_node is tt has
  by_node i before (variable_node of) is here has = plain i (variable_node of) is tt has
  by_node i before (named_node by arguments) is here has = plain i (named_node by arguments) is tt has

  roots_below : (n i : ℕ) → i < n → i < length graph → IsRootOf graph i (root_at roots i)
  roots_below zero i lt within = absurd (omega (arith, lt))
  roots_below (suc n) i lt within =
      by_node i (λ to earlier. roots_below n to (omega (arith, earlier, lt)) (omega (arith, earlier, within))) (node_at graph i) refl (formed_at variables graph formed i within) (are.each i within)

  pub root_is : (i : ℕ) → i < length graph → IsRootOf graph i (root_at roots i)
  root_is i within = roots_below (suc i) i (omega arith) within

  pub head_is_root : (i : ℕ) → i < length graph → IsHead (node_at graph i) → root_at roots i ≡ i
  head_is_root i within head = own_root roots i (node_at graph i) head (are.each i within)

  pub root_of_root : (i : ℕ) → i < length graph → root_at roots (root_at roots i) ≡ root_at roots i
  root_of_root i within =
      let is = root_is i within in
      let below = is.below in
      head_is_root (root_at roots i) (omega (arith, below, within)) is.head

-- the roots so far, for the nodes before one
abbrev pub RootsSoFar : List NodeTree → List ℕ → Type 0
RootsSoFar graph roots = (i : ℕ) → i < length roots → HasRoot roots i (node_at graph i)

-- a root more changes none of those before
kept : (variables size : ℕ) (roots : List ℕ) (root i : ℕ) (node : NodeTree) → IsNodeFormed variables size i node → i < length roots → HasRoot roots i node → HasRoot (roots ++ (root ∷ [])) i node
kept variables size roots root i any_node formed lt has = get_or_append_left roots (root ∷ []) 0 i lt ∙ has
kept variables size roots root i (same_node to) formed lt has =
    get_or_append_left roots (root ∷ []) 0 i lt ∙ has ∙ sym (get_or_append_left roots (root ∷ []) 0 to (omega (arith, formed, lt)))
kept variables size roots root i int32_node formed lt has = get_or_append_left roots (root ∷ []) 0 i lt ∙ has
kept variables size roots root i unit_node formed lt has = get_or_append_left roots (root ∷ []) 0 i lt ∙ has
kept variables size roots root i (variable_node of) formed lt has = get_or_append_left roots (root ∷ []) 0 i lt ∙ has
kept variables size roots root i (named_node by arguments) formed lt has = get_or_append_left roots (root ∷ []) 0 i lt ∙ has

pub roots_more : (variables : ℕ) (graph : List NodeTree) (roots : List ℕ) (root : ℕ) → IsFormed variables graph → length roots < length graph → RootsSoFar graph roots → HasRoot (roots ++ (root ∷ [])) (length roots) (node_at graph (length roots)) → RootsSoFar graph (roots ++ (root ∷ []))
roots_more variables graph roots root formed lt so_far here = λ i within.
    elim (cases_lt i (length roots)) [
      | inl before ↦ kept variables (length graph) roots root i (node_at graph i) (formed_at variables graph formed i (omega (arith, before, lt))) before (so_far i before)
      | inr past ↦
          let last : length roots ≡ i = omega (arith, past, within, length_push roots root) in
          let P : ℕ → Type 0 = λ n. HasRoot (roots ++ (root ∷ [])) n (node_at graph n) in
          subst P last here
    ]

-- the root of the next node
pub root_same : (graph : List NodeTree) (roots : List ℕ) (to root : ℕ) → node_at graph (length roots) ≡ same_node to → to < length roots → root ≡ root_at roots to → HasRoot (roots ++ (root ∷ [])) (length roots) (node_at graph (length roots))
root_same graph roots to root is lt root_is =
    let P : NodeTree → Type 0 = HasRoot (roots ++ (root ∷ [])) (length roots) in
    subst P (sym is) (get_or_push roots root 0 (length roots) refl ∙ root_is ∙ sym (get_or_append_left roots (root ∷ []) 0 to lt))

pub root_own : (graph : List NodeTree) (roots : List ℕ) (root : ℕ) (node : NodeTree) → node_at graph (length roots) ≡ node → IsHead node → root ≡ length roots → HasRoot (roots ++ (root ∷ [])) (length roots) (node_at graph (length roots))
root_own graph roots root node is head root_is =
    let P : NodeTree → Type 0 = HasRoot (roots ++ (root ∷ [])) (length roots) in
    subst P (sym is) (cases node head)
  where
    own : root_at (roots ++ (root ∷ [])) (length roots) ≡ length roots
    own = get_or_push roots root 0 (length roots) refl ∙ root_is

    cases : (node : NodeTree) → IsHead node → HasRoot (roots ++ (root ∷ [])) (length roots) node
    cases any_node head = own
    cases (same_node to) head = absurd head
    cases int32_node head = own
    cases unit_node head = own
    cases (variable_node of) head = own
    cases (named_node by arguments) head = own

-- the same over nodes in memory
module _ (variables : ℕ) (nodes : List Node) (roots : List ℕ) (number : ℕ) (node : Node) (formed : IsFormed variables (node_trees nodes)) (lt : number < length nodes) (at : node ≡ get_or nodes number node) (so_far : (length roots ≡ number) × RootsSoFar (node_trees nodes) roots) where
  there : (known : Node) → node ≡ known → node_at (node_trees nodes) (length roots) ≡ node_tree known
  there known is = ap (λ n. node_at (node_trees nodes) n) so_far.0 ∙ read nodes number known node lt (sym at ∙ is)

  pub same_within : (to : ℕ) → node ≡ OfNode.Same to → to < length roots
  same_within to is =
      same_earlier variables (node_trees nodes) (length roots) to formed (omega (arith, so_far.0, lt, as_long nodes)) (there (OfNode.Same to) is)

  more : (root : ℕ) → HasRoot (roots ++ (root ∷ [])) (length roots) (node_at (node_trees nodes) (length roots)) → (length (roots ++ (root ∷ [])) ≡ number + 1) × RootsSoFar (node_trees nodes) (roots ++ (root ∷ []))
  more root here = (omega (arith, length_push roots root, so_far.0), roots_more variables (node_trees nodes) roots root formed (omega (arith, so_far.0, lt, as_long nodes)) so_far.1 here)

  pub more_same : (to root found : ℕ) → node ≡ OfNode.Same to → root ≡ found → found ≡ get_or roots to found → (length (roots ++ (root ∷ [])) ≡ number + 1) × RootsSoFar (node_trees nodes) (roots ++ (root ∷ []))
  more_same to root found is root_is found_is =
      let within = same_within to is in
      more root (root_same (node_trees nodes) roots to root (there (OfNode.Same to) is) within (root_is ∙ found_is ∙ get_or_default roots to found 0 within))

  pub more_own : (root : ℕ) → ((to : ℕ) → node ≡ OfNode.Same to → ⊥) → root ≡ number → (length (roots ++ (root ∷ [])) ≡ number + 1) × RootsSoFar (node_trees nodes) (roots ++ (root ∷ []))
  more_own root not_same root_is =
      more root (root_own (node_trees nodes) roots root (node_tree node) (there node refl) (head node refl) (root_is ∙ sym so_far.0))
    where
      head : (known : Node) → node ≡ known → IsHead (node_tree known)
      head OfNode.Any is = tt
      head (OfNode.Same to) is = not_same to is
      head OfNode.Int32 is = tt
      head OfNode.Unit is = tt
      head (OfNode.Variable of) is = tt
      head (OfNode.Named by arguments) is = tt
