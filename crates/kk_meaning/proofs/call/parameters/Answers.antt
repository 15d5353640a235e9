use Rattle.kk_meaning.proofs.Patterns.{parameter_more}
use Rattle.kk_meaning.proofs.call.parameters.Goals as goal

pub loop-variable-preserved : goal.loop-variable-preserved
loop-variable-preserved c = λ environment.
    parameter_more c.args.arguments.now c.loop-variable.bound.items c.push.new.self.items c.loop-variable.variable _ environment _ c.loop-variable-test.true c.in_ok-push.ensures.items (c.loop-variable.invariant environment)
