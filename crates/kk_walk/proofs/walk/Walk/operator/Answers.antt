use Rattle.std.proofs.Common.{[], Some, map, refl, sym, ◌∙◌}
use Rattle.std.proofs.lemmas.List.{append-nil}
use Rattle.std.proofs.lemmas.List.Elements.{All-nil}
use Rattle.kk_syntax.specs.Types.{type_tree}
use Rattle.kk_walk.specs.Steps.{nodes_of}
use Rattle.kk_walk.specs.Walks.{IsTakenBelow, takings_of}
use Rattle.kk_walk.proofs.NewNodes.{opens_none}
use Rattle.kk_walk.proofs.Instances.{instantiated}
use Rattle.kk_walk.proofs.walk.Walk.operator.Goals as goal

pub returns : goal.returns
returns c =
    let old = c.args.self.now in
    instantiated old old.graph c.build_each.new.graph c.build.new.graph old.taken [] 0 c.args.parameters.now (record { parameters = c.in_ok-parameters.parameters; result = c.in_ok-result.result }) (type_tree c.args.gives.now)
    (opens_none (nodes_of old)) c.in_ok-parameters.ensures.builds c.in_ok-result.ensures.builds (c.in_ok-result.ensures.variables ∙ c.in_ok-parameters.ensures.variables)
    (Some (record { variables = 0; parameters = map type_tree c.args.parameters.now; result = type_tree c.args.gives.now })) (λ ts. []) [] refl (sym (append-nil (takings_of old.taken.items))) (λ size h. All-nil (IsTakenBelow size)) (λ r. refl)
