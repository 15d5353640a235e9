-- Two nodes become one type, over nodes in memory.
use Rattle.std.proofs.Common.{◌≡◌, ◌<◌, ◌++◌, ◌⊎◌, ℕ, List, length, get_or, set, Bool, true, false, Result, Ok, Err, IfOk, MatchBool, inl, inr, sym, ◌∙◌, ap, subst, arith}
use Rattle.std.proofs.lemmas.List.{get_or-set_other}
use Rattle.kk_base.specs.declared.error.NoMemory.{NoMemory}
use Rattle.kk_unify.specs.declared.node.Node.{Node}
use Rattle.kk_unify.specs.declared.node.Node.TheVariants.{Same}
use Rattle.kk_unify.specs.Graphs.{NodeTree, same_node, IsFormed, IsNodeFormed, Clashes}
use Rattle.kk_unify.specs.NodesOf.{node_tree, node_trees}
use Rattle.kk_unify.specs.Unification.{Pair, node_at, IsHead, heads_agree, merged, met, linked, Steps}
use Rattle.kk_unify.proofs.NodeLists.{as_long, read, written}
use Rattle.kk_unify.proofs.GraphAssignments.{formed_at}
use Rattle.kk_unify.proofs.Unification.{linked_steps, linked_formed, linked_clash, merged_formed}

module _ (nodes : List Node) (low high : ℕ) (dest upper new d e : Node) (order : low < high) (lt : high < length nodes) (heads : IsHead (node_at (node_trees nodes) low) × IsHead (node_at (node_trees nodes) high)) (upper_is : upper ≡ get_or nodes high d) (dest_is : dest ≡ Same low) where
  within : high < length (node_trees nodes)
  within = omega (arith, as_long nodes, lt)

  upper_there : node_at (node_trees nodes) high ≡ node_tree upper
  upper_there = read nodes high upper d lt (sym upper_is)

  lower_there : node_at (node_trees nodes) low ≡ node_tree (get_or (set nodes high dest) low e)
  lower_there = read nodes low (get_or (set nodes high dest) low e) e (omega (arith, order, lt)) (sym (get_or-set_other nodes high low dest e (λ same. omega (arith, same, order))))

  both_written : node_trees (set (set nodes high dest) low new) ≡ set (set (node_trees nodes) high (same_node low)) low (node_tree new)
  both_written =
      written (set nodes high dest) low new ∙ ap (λ graph. set graph low (node_tree new)) (written nodes high dest ∙ ap (λ node. set (node_trees nodes) high (node_tree node)) dest_is)

  known : node_tree new ≡ merged (node_tree (get_or (set nodes high dest) low e)) (node_tree upper) → node_trees (set (set nodes high dest) low new) ≡ linked (node_trees nodes) low high
  known is =
      let there = lower_there in
      let above = upper_there in
      both_written ∙ ap (λ node. set (set (node_trees nodes) high (same_node low)) low node) (is ∙ ap (λ node. merged node (node_tree upper)) (sym there) ∙ ap (λ node. merged (node_at (node_trees nodes) low) node) (sym above))

  pub link_formed : (variables : ℕ) → IsFormed variables (node_trees nodes) → (node_tree new ≡ node_tree (get_or (set nodes high dest) low e)) ⊎ (node_tree new ≡ merged (node_tree (get_or (set nodes high dest) low e)) (node_tree upper)) → IsFormed variables (node_trees (set (set nodes high dest) low new))
  link_formed variables formed is =
      let P : List NodeTree → Type 0 = IsFormed variables in
      let Q : NodeTree → Type 0 = IsNodeFormed variables (length (node_trees nodes)) low in
      let below = formed_at variables (node_trees nodes) formed low (omega (arith, order, within)) in
      let above = formed_at variables (node_trees nodes) formed high within in
      subst P (sym both_written) (linked_formed variables (node_trees nodes) low high (node_tree new) formed order within (elim is [
        | inl same ↦ subst Q (lower_there ∙ sym same) below
        | inr both ↦ subst Q (ap (λ node. merged node (node_at (node_trees nodes) high)) lower_there ∙ ap (λ node. merged (node_tree (get_or (set nodes high dest) low e)) node) upper_there ∙ sym both) (merged_formed variables (length (node_trees nodes)) low high (node_at (node_trees nodes) low) (node_at (node_trees nodes) high) heads.1 below above)
      ]))

  agreed : (agree : Bool) → agree ≡ heads_agree (node_tree (get_or (set nodes high dest) low e)) (node_tree upper) → heads_agree (node_at (node_trees nodes) low) (node_at (node_trees nodes) high) ≡ agree
  agreed agree is = ap (λ node. heads_agree node (node_at (node_trees nodes) high)) lower_there ∙ ap (λ node. heads_agree (node_tree (get_or (set nodes high dest) low e)) node) upper_there ∙ sym is

  pub link_joined : (variables : ℕ) → IsFormed variables (node_trees nodes) → (pairs left : List Pair) (result : Result Bool NoMemory)
      → IfOk result (λ agree. agree ≡ heads_agree (node_tree (get_or (set nodes high dest) low e)) (node_tree upper))
      → IfOk result (λ agree. MatchBool agree ((node_tree new ≡ merged (node_tree (get_or (set nodes high dest) low e)) (node_tree upper)) × (left ≡ pairs ++ met (node_tree (get_or (set nodes high dest) low e)) (node_tree upper))) (Unit {0}))
      → IfOk result (λ joined. MatchBool joined (Steps (node_trees nodes) pairs low high (node_trees (set (set nodes high dest) low new)) left) (Clashes (node_trees nodes) low high))
  link_joined variables formed pairs left (Ok true) agree both =
      let met_is : left ≡ pairs ++ met (node_at (node_trees nodes) low) (node_at (node_trees nodes) high) =
      both.1 ∙ ap (λ node. pairs ++ met node (node_tree upper)) (sym lower_there) ∙ ap (λ node. pairs ++ met (node_at (node_trees nodes) low) node) (sym upper_there) in
      let P : List NodeTree → Type 0 = λ graph. Steps (node_trees nodes) pairs low high graph left in
      let Q : List Pair → Type 0 = λ ps. Steps (node_trees nodes) pairs low high (linked (node_trees nodes) low high) ps in
      subst P (sym (known both.0)) (subst Q (sym met_is) (linked_steps variables (node_trees nodes) pairs low high formed order within (agreed true agree)))
  link_joined variables formed pairs left (Ok false) agree both =
      linked_clash (node_trees nodes) low high heads.0 heads.1 (agreed false agree)
  link_joined variables formed pairs left (Err none) agree both = tt
