use Rattle.std.proofs.Common.{◌≡◌, [], ◌∷◌, ◌++◌, map, ap, ◌∙◌, subst}
use Rattle.std.proofs.lemmas.List.{map-append}
use Rattle.kk_core.specs.Decisions.{node_tree}
use Rattle.kk_match.specs.Turned.{turned}
use Rattle.kk_match.proofs.NodeDecisions.{turned_step}
use Rattle.kk_match.proofs.turned.turned.Goals as goal

pub loop-node-preserved : goal.loop-node-preserved
loop-node-preserved c =
    let last = c.in_ok-last.last in
    let all = turned last (map node_tree c.args.nodes.items) in
    let before = map node_tree c.loop-node.found.items in
    let rest = map node_tree c.pop.new.self.items in
    let left = ap (map node_tree) c.in-Some.ensures.items ∙ map-append node_tree c.pop.new.self.items (c.in-Some.node ∷ []) in
    let found = ap (map node_tree) c.in_ok-push.ensures.items ∙ (map-append node_tree c.loop-node.found.items (c.in_ok-node.node ∷ []) ∙ ap (λ n. before ++ n ∷ []) c.in_ok-node.ensures) in
    ap (λ ns. ns ++ turned last rest) found ∙ turned_step last before rest all (node_tree c.in-Some.node) (subst (λ ns. before ++ turned last ns ≡ all) left c.loop-node.invariant)
