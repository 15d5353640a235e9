use Rattle.std.proofs.Common.{◌+◌, ◌-◌, arith}
use Rattle.kk_counted.specs.TokenedForms.{put_steps}
use Rattle.kk_counted.proofs.TokenedViews.{move_step}
use Rattle.kk_reuse.specs.Pairing.{moves_up}
use Rattle.kk_reuse.proofs.Steps.{moves_next, one_slot_done}
use Rattle.kk_reuse.proofs.slots.move_up.Goals as goal

pub down-preserved : goal.down-preserved
down-preserved c = (
  one_slot_done (moves_up c.args.by) (λ rest. put_steps c.args.steps.now.items (moves_up c.args.by c.args.tokens rest))
      c.down.steps.items c.push.new.self.items _ _ c.down.from (c.down.from - 1) c.in_ok-push.ensures.items
      (move_step (c.down.from - 1 + c.args.by) (c.down.from - 1)) (moves_next c.args.by c.down.from (c.down.from - 1) (omega arith))
      c.down.invariant.0,
  omega (arith, c.down.invariant.1),
)
