-- The steps of the search for the node that gives a type, over nodes in memory.
use Rattle.std.proofs.Common.{◌≡◌, ◌<◌, ℕ, List, length, get_or, set, sym, subst, arith}
use Rattle.kk_unify.specs.declared.node.Node.{Node}
use Rattle.kk_unify.specs.declared.node.Node.TheVariants.{Same}
use Rattle.kk_unify.specs.Graphs.{NodeTree, same_node, IsFormed}
use Rattle.kk_unify.specs.NodesOf.{node_trees}
use Rattle.kk_unify.specs.Unification.{node_at, Leads}
use Rattle.kk_unify.proofs.NodeLists.{as_long, read, written}
use Rattle.kk_unify.proofs.Unification.{same_earlier, leads_on, leads_halved}

module _ (variables : ℕ) (old : List NodeTree) (nodes : List Node) (start i to : ℕ) (d : Node) (formed : IsFormed variables old) (leads : Leads old (node_trees nodes) start i) (lt : i < length nodes) (is : get_or nodes i d ≡ Same to) where
  there : node_at (node_trees nodes) i ≡ same_node to
  there = read nodes i (Same to) d lt is

  within : i < length (node_trees nodes)
  within = omega (arith, as_long nodes, lt)

  pub next_earlier : to < i
  next_earlier = same_earlier variables (node_trees nodes) i to (leads.alike.formed variables formed) within there

  pub next_leads : Leads old (node_trees nodes) start to
  next_leads = leads_on variables old (node_trees nodes) start i to formed leads within there

  pub next_halved : (next : ℕ) (e : Node) → get_or nodes to e ≡ Same next → Leads old (node_trees (set nodes i (Same next))) start to
  next_halved next e further =
      let P : List NodeTree → Type 0 = λ now. Leads old now start to in
      let earlier = next_earlier in
      subst P (sym (written nodes i (Same next))) (leads_halved variables old (node_trees nodes) start i to next formed leads within there (read nodes to (Same next) e (omega (arith, earlier, lt)) further))
