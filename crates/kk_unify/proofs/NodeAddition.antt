-- A node is added to a graph in memory.
use Rattle.std.proofs.Common.{◌≡◌, ◌++◌, ℕ, List, [], ◌∷◌, length, Result, Ok, Err, IfOk, Bool, true, false, if◌then◌else◌, sym, ◌∙◌, ap, subst}
use Rattle.std.proofs.lemmas.List.{map_push}
use Rattle.kk_base.specs.declared.error.NoMemory.{NoMemory}
use Rattle.kk_syntax.specs.declared.typed.TypeNode.{TypeNode}
use Rattle.kk_syntax.specs.declared.typed.TypeNode.TheVariants as Of
use Rattle.kk_unify.specs.declared.node.Node.{Node}
use Rattle.kk_unify.specs.Graphs.{NodeTree, Assignment, Holds, IsNodeFormed, IsFormed, Adds}
use Rattle.kk_unify.specs.NodesOf.{node_tree, node_trees, added_node}
use Rattle.kk_unify.specs.GraphOf.{type_by}
use Rattle.kk_unify.proofs.GraphAssignments.{formed_more, added}

pub added_holds : (node : TypeNode) (r : Assignment) (i : ℕ) → r i ≡ type_by r node → Holds r i (added_node node)
added_holds Of.Int32 r i is = is
added_holds Of.Unit r i is = is
added_holds (Of.Variable of) r i is = is
added_holds (Of.Named by arguments) r i is = is

pub added_says : (node : TypeNode) (r : Assignment) (i : ℕ) → Holds r i (added_node node) → r i ≡ type_by r node
added_says Of.Int32 r i is = is
added_says Of.Unit r i is = is
added_says (Of.Variable of) r i is = is
added_says (Of.Named by arguments) r i is = is

-- a node is pushed, if there is memory
pub formed_pushed : (variables : ℕ) (nodes new : List Node) (node : Node) (pushed : Bool) → new ≡ (if pushed then nodes ++ (node ∷ []) else nodes) → IsFormed variables (node_trees nodes) → IsNodeFormed variables (length (node_trees nodes)) (length (node_trees nodes)) (node_tree node) → IsFormed variables (node_trees new)
formed_pushed variables nodes new node true is formed here =
    let P : List NodeTree → Type 0 = IsFormed variables in
    subst P (sym (ap node_trees is ∙ map_push node_tree nodes node)) (formed_more variables (node_trees nodes) (node_tree node) formed here)
formed_pushed variables nodes new node false is formed here =
    let P : List NodeTree → Type 0 = IsFormed variables in
    subst P (sym (ap node_trees is)) formed

pub added_node_means : (old new : List NodeTree) (node : NodeTree) (Means : ℕ → Assignment → Type 0) → ((r : Assignment) (i : ℕ) → Means i r → Holds r i node) → ((r : Assignment) (i : ℕ) → Holds r i node → Means i r) → (result : Result ℕ NoMemory)
    → IfOk result (λ number. (number ≡ length old) × (new ≡ old ++ (node ∷ []))) → IfOk result (λ number. Adds old new number (Means number))
added_node_means old new node Means says told (Ok number) is =
    let P : ℕ → Type 0 = λ n. Adds old new n (Means n) in
    let Q : List NodeTree → Type 0 = λ graph. Adds old graph (length old) (Means (length old)) in
    subst P (sym is.0) (subst Q (sym is.1) (added old node (Means (length old)) (λ r. says r (length old)) (λ r. told r (length old))))
added_node_means old new node Means says told (Err none) is = tt
