use Rattle.std.proofs.Common.{◌≡◌, ◌-◌, take, map, length, vec_len, ◌≤◌, refl, arith, ap, ◌∙◌}
use Rattle.kk_meaning.specs.View.{bound_view, pushed}
use Rattle.kk_meaning.proofs.Environments.{agree_on_front, environment_agree, pushed_one, take_again, take_longer}
use Rattle.kk_meaning.proofs.binding.Bindings.bind.Goals as goal

pub loop-added-init : goal.loop-added-init
loop-added-init c =
    let old = c.args.self.now.links.items in
    let now = c.truncate.new.self.items in
    let front : now ≡ take c.args.kept old = c.truncate.ensures.items ∙ ap (take c.args.kept) c.reserve.ensures.items in
    let kept = take_again old now c.args.kept front in
    record {
      newest = omega arith;
      longer = omega arith;
      kept = kept;
      room = omega (arith, c.in_ok-reserve.ensures.ok);
      pushed = ap (pushed (map bound_view c.args.bound.now)) (environment_agree now old c.args.kept c.args.environment (agree_on_front now old c.args.kept kept) c.requires.within);
    }

pub loop-added-preserved : goal.loop-added-preserved
loop-added-preserved c =
    let links = c.loop-added.self.links in
    let inv = c.loop-added.invariant in
    let all = links.ok.0 in
    let longer : c.args.kept ≤ length links.items = omega arith in
    let newest : c.loop-added.newest ≤ length links.items = omega arith in
    record {
      newest = omega arith;
      longer = omega (arith, c.in_ok-push.ensures.len);
      kept = take_longer links.items c.push.new.self.items _ c.args.kept longer c.in_ok-push.ensures.items ∙ inv.kept;
      room = omega (arith, c.in_ok-push.ensures.len, c.push.ensures.capacity);
      pushed =
          pushed_one links.items c.push.new.self.items c.args.bound.now c.loop-added.added-index (vec_len links) c.len-newest.result c.loop-added.newest _ _ _
          (omega arith) newest all (omega (arith, c.in_ok-push.ensures.len)) c.in_ok-push.ensures.items refl (ap (λ n. n - c.loop-added.newest) c.len.ensures) inv.pushed;
    }
