use Rattle.std.proofs.Common.{◌≡◌, ℕ, sym, subst}
use Rattle.kk_unify.specs.Graphs.{NodeTree, Assignment, Holds}
use Rattle.kk_unify.specs.NodesOf.{node_tree}
use Rattle.kk_unify.specs.GraphOf.{graph_of, type_by}
use Rattle.kk_unify.proofs.NodeAddition.{added_holds, added_says, added_node_means}
use Rattle.kk_unify.proofs.graph.Graph.add.Goals as goal

pub returns-clause-added : goal.returns-clause-added
returns-clause-added c =
    let says : (r : Assignment) (i : ℕ) → r i ≡ type_by r c.args.node → Holds r i (node_tree c.node_of.result) =
    λ r i is. (let P : NodeTree → Type 0 = Holds r i in subst P (sym c.node_of.ensures) (added_holds c.args.node r i is)) in
    let told : (r : Assignment) (i : ℕ) → Holds r i (node_tree c.node_of.result) → r i ≡ type_by r c.args.node =
    λ r i holds. (let P : NodeTree → Type 0 = Holds r i in added_says c.args.node r i (subst P c.node_of.ensures holds)) in
    added_node_means (graph_of c.args.self.now) (graph_of c.put.new.self) (node_tree c.node_of.result) (λ i r. r i ≡ type_by r c.args.node) says told c.put.result c.put.ensures.added
