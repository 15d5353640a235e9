use Rattle.kk_reuse.proofs.WrittenSteps.{let_written}
use Rattle.kk_reuse.proofs.pairing.put_form.Goals as goal

pub returns : goal.returns
returns c =
    let_written c.args.steps.now.items c.push.new.self.items c.args.variable c.args.form c.in_ok-arguments.arguments
    c.new-others.result
    c.args.arguments.now c.in_ok-push.ensures.items c.in_ok-arguments.ensures.items c.new-others.ensures.items
