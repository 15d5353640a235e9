use Rattle.kk_source.specs.Live.{value_of}
use Rattle.kk_meaning.specs.View.{value_view, environment_of}
use Rattle.kk_meaning.proofs.Lists.{one_made}
use Rattle.kk_meaning.proofs.held.hold_variables.Goals as goal

pub loop-variable-preserved : goal.loop-variable-preserved
loop-variable-preserved c =
    one_made value_view (value_of (environment_of c.args.bindings.now.links.items c.args.environment)) c.loop-variable.values.items
    c.push.new.self.items c.args.variables.now c.loop-variable.variable-index c.value_of.result 0 _ c.loop-variable-test.true
    c.in_ok-push.ensures.items c.value_of.ensures c.loop-variable.invariant
