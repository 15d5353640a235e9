use Rattle.std.proofs.Common.{◌-◌, ap, arith}
use Rattle.kk_reuse.specs.PairedForms.{is_call}
use Rattle.kk_reuse.proofs.WrittenSteps.{call_written, fill_written, form_written, on_ok}
use Rattle.kk_reuse.proofs.pairing.paired_form.Goals as goal

pub returns-in_ok-push-in-Construct-len1-up : goal.returns-in_ok-push-in-Construct-len1-up
returns-in_ok-push-in-Construct-len1-up c =
    form_written c.args.steps.now.items c.push.new.self.items c.args.held.already c.args.held.stays c.args.tokens c.args.variable
    c.args.form c.args.arguments.now (ap is_call c.in-Construct-len1-up.is-0)
    (fill_written c.args.steps.now.items c.push.new.self.items c.args.tokens (c.args.tokens - 1) c.args.variable
    c.in-Construct-len1-up.constructor c.args.form c.in_ok-fill-in-Construct-len1-up.fill c.args.arguments.now
    c.new-kept.result.items c.in_ok-others-in-Construct-len1-up.others.items c.in_ok-push-in-Construct-len1-up.ensures.items
    (omega (arith, c.if-tokens-gt0.true)) c.in-Construct-len1-up.is-0 c.in-Construct-len1-up.len_at_least c.new-kept.ensures.items
    c.in_ok-others-in-Construct-len1-up.ensures c.in_ok-fill-in-Construct-len1-up.ensures)

pub returns-in_ok-put_form-in-Call-default : goal.returns-in_ok-put_form-in-Call-default
returns-in_ok-put_form-in-Call-default c =
    on_ok c.unhold_behind.result c.unhold_behind.ensures
    (call_written c.args.steps.now.items c.hold_before.new.steps.items c.put_form.new.steps.items c.unhold_behind.new.steps.items
    c.args.held.already c.args.held.stays c.args.tokens c.args.variable c.in-Call-default.field-0-0 c.args.form c.args.arguments.now c.in-Call-default.is-0
    c.in_ok-hold_before-in-Call-default.ensures c.in_ok-put_form-in-Call-default.ensures)
