-- The numbers of edges and of nodes that are copied one after the other are of 32 bits.
use Rattle.std.proofs.Common.{◌≡◌, ℕ, ◌+◌, ◌<◌, List, [], ◌∷◌, ◌++◌, map, length, drop, get_or, append_assoc, sym, ◌∙◌, ap, subst}
use Rattle.std.proofs.lemmas.List.{map-append}
use Rattle.kk_core.specs.Decisions.{node_tree}
use Rattle.kk_core.specs.declared.decisions.Edge.{Edge}
use Rattle.kk_core.specs.declared.decisions.Node.{Node}
use Rattle.kk_counted.proofs.PlaceLists.{next_one}
use Rattle.kk_counted.specs.Int32.{IsAnswerInt32, AreEdgesInt32, IsNodeInt32, AreNodesInt32}

edges_more : (edges : List Edge) (edge : Edge) → AreEdgesInt32 edges → IsAnswerInt32 edge.found
    → AreEdgesInt32 (edges ++ edge ∷ [])
edges_more [] edge all is = (is, tt)
edges_more (one ∷ edges) edge all is = (all.0, edges_more edges edge all.1 is)

pub edges_pushed : (before after : List Edge) (edge : Edge) → after ≡ before ++ edge ∷ [] → AreEdgesInt32 before
    → IsAnswerInt32 edge.found → AreEdgesInt32 after
edges_pushed before after edge is all small = subst AreEdgesInt32 (sym is) (edges_more before edge all small)

nodes_more : (nodes : List Node) (node : Node) → AreNodesInt32 (map node_tree nodes) → IsNodeInt32 (node_tree node)
    → AreNodesInt32 (map node_tree (nodes ++ node ∷ []))
nodes_more [] node all is = (is, tt)
nodes_more (one ∷ nodes) node all is = (all.0, nodes_more nodes node all.1 is)

pub nodes_pushed : (before after : List Node) (node : Node) → after ≡ before ++ node ∷ []
    → AreNodesInt32 (map node_tree before) → IsNodeInt32 (node_tree node) → AreNodesInt32 (map node_tree after)
nodes_pushed before after node is all small =
    subst (λ (nodes : List Node). AreNodesInt32 (map node_tree nodes)) (sym is) (nodes_more before node all small)

-- ---- copies of the items that were read

pub items_more : {A : Type 0} (before after xs : List A) (i : ℕ) (d : A) → i < length xs → after ≡ before ++ get_or xs i d ∷ []
    → before ++ drop i xs ≡ xs → after ++ drop (i + 1) xs ≡ xs
items_more before after xs i d less grown so_far =
    ap (λ zs. zs ++ drop (i + 1) xs) grown ∙ append_assoc before (get_or xs i d ∷ []) (drop (i + 1) xs)
    ∙ ap (λ zs. before ++ zs) (sym (next_one xs i d less)) ∙ so_far

pub copies_so_far : {A B : Type 0} (f : A → B) (before after xs ys : List A) (i : ℕ) (item copy : A) → ys ≡ xs → i < length ys
    → item ≡ get_or ys i item → after ≡ before ++ copy ∷ [] → f copy ≡ f item → map f before ++ map f (drop i xs) ≡ map f xs
    → map f after ++ map f (drop (i + 1) xs) ≡ map f xs
copies_so_far f before after xs ys i item copy same less is grown kept so_far =
    ap (λ zs. map f zs ++ map f (drop (i + 1) xs)) grown
    ∙ ap (λ zs. zs ++ map f (drop (i + 1) xs)) (map-append f before (copy ∷ []))
    ∙ append_assoc (map f before) (f copy ∷ []) (map f (drop (i + 1) xs))
    ∙ ap (λ y. map f before ++ (y ∷ map f (drop (i + 1) xs))) (kept ∙ ap f (is ∙ ap (λ zs. get_or zs i item) same))
    ∙ ap (λ zs. map f before ++ map f zs) (sym (next_one xs i item (subst (λ zs. i < length zs) same less)))
    ∙ so_far
