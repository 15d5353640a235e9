use Rattle.std.proofs.Common.{sym, ap, ◌∙◌, ◌-◌, arith}
use Rattle.kk_base.specs.Memory.{byte_loaded}
use Rattle.rv_sim.proofs.Chains.{chain-more, chain-end}
use Rattle.rv_sim.proofs.machine.Machine.free_chain.Goals as goal

pub loop-count-preserved : goal.loop-count-preserved
loop-count-preserved c =
    let parts = c.args.self.now.parts in
    let found = rw (ap (λ s. s.parts) c.self.view_is) at (sym c.in-Some.is ∙ c.word.ensures) in
    let more = chain-more parts (byte_loaded parts) c.args.cells c.loop-count.count c.loop-count.at c.in-Some.next c.loop-count-test.true c.if-at-ne0.true found in
    record { within = omega arith; rest = omega (arith, c.loop-count.invariant.rest, more) }

pub returns-in_default : goal.returns-in_default
returns-in_default c =
    let parts = c.args.self.now.parts in
    let found = rw (ap (λ s. s.parts) c.self.view_is) at (sym c.in_default.is ∙ c.word.ensures) in
    let done = chain-end parts (byte_loaded parts) (c.args.cells - c.loop-count.count) c.loop-count.at c.if-at-ne0.true found in
    omega (arith, c.loop-count.invariant.rest, done)
