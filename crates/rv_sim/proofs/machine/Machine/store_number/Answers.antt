use Rattle.std.proofs.Common.{sym, ap, ◌∙◌, rules}
use Rattle.rv_isa.proofs.Acts.{acts-store_misaligned}
use Rattle.rv_sim.specs.contracts.machine.Machine.{the_view}
use Rattle.rv_sim.specs.Simulation.{processor_of}
use Rattle.rv_sim.proofs.InstructionSteps.{stores, stores_nothing}
use Rattle.rv_sim.proofs.machine.Machine.store_number.Goals as goal

pub returns-then-at-from-ne0 : goal.returns-then-at-from-ne0
returns-then-at-from-ne0 c = λ rd. (
  λ left trace.
      c.trap.ensures.0 left trace
      ∙ sym (acts-store_misaligned rd c.args.next c.args.word (processor_of c.args.self.now left trace) c.args.at c.args.width c.args.value (search rules)),
  c.trap.ensures.1,
)

pub returns-then-store : goal.returns-then-store
returns-then-store c = λ rd. (
  λ left trace.
      rw (← c.self.view_is)
      (stores (the_view c.self.inside) left trace rd c.args.next c.args.word c.finish.new.self c.store.new.self c.args.at c.args.width c.args.value (search rules) c.finish.ensures
      (search rules) c.store.ensures.areas (search rules) (search rules)),
  rw (← c.self.view_is) (ap (λ s. s.faulted) c.finish.ensures),
)

pub returns-else-store : goal.returns-else-store
returns-else-store c = λ rd. (
  λ left trace.
      rw (← c.self.view_is)
      (stores_nothing (the_view c.self.inside) left trace rd c.args.next c.args.word c.trap-else-store.new.self c.store.new.self c.args.at c.args.width c.args.value
      (c.trap-else-store.ensures.0 left trace) (search rules) (search rules) (search rules)),
  rw (← c.self.view_is) c.trap-else-store.ensures.1,
)
