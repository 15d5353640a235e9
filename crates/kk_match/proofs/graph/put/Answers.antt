use Rattle.std.proofs.Common.{sym, subst, map}
use Rattle.kk_match.specs.GraphGrowth.{IsPut}
use Rattle.kk_match.specs.Views.{state_tree}
use Rattle.kk_match.proofs.StateEquality.{state_put}
use Rattle.kk_match.proofs.graph.put.Goals as goal

pub returns : goal.returns
returns c =
    subst (λ n. IsPut (map state_tree c.args.states.now.keys) (state_tree c.args.state) (map state_tree c.insert_full.new.self.keys) n c.in_ok-index.is_new) (sym c.in_ok-number.ensures)
    (state_put c.args.states.now.keys c.insert_full.new.self.keys c.args.state c.in_ok-index.index c.in_ok-index.is_new c.requires c.in_ok-index.ensures.added c.in_ok-index.ensures.keys c.in_ok-index.ensures.stored)
