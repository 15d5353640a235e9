use Rattle.std.proofs.Common.{◌-◌, arith, sym, ap, ◌∙◌}
use Rattle.kk_source.specs.Live.{value_of}
use Rattle.kk_meaning.specs.View.{bound_view, environment_of}
use Rattle.kk_meaning.proofs.Environments.{at_newest, value_of_other, found}
use Rattle.kk_meaning.proofs.binding.Bindings.value_of.Goals as goal

pub loop-left-preserved : goal.loop-left-preserved
loop-left-preserved c =
    let links = c.args.self.now.links.items in
    let left = c.loop-left.left in
    let link = c.in-Some.link.now in
    let x = c.args.variable in
    let there = found links c.deref.result.now (left - 1) link c.deref.ensures.value c.in-Some.ensures.lookup.3.0 c.in-Some.ensures.lookup.1 in
    let newest = at_newest links left link (omega arith) there in
    ap (λ e. value_of (environment_of links e) x) c.saturating_sub-left.ensures
    ∙ (sym (value_of_other (bound_view link.bound) (environment_of links (left - 1 - link.skips)) x c.if-link-variable.false)
    ∙ (ap (λ e. value_of e x) (sym newest) ∙ c.loop-left.invariant))
