use Rattle.std.proofs.Common.{sym, ◌∙◌, rules}
use Rattle.rv_isa.proofs.Acts.{acts-load_misaligned}
use Rattle.rv_sim.specs.contracts.machine.Machine.{the_view}
use Rattle.rv_sim.specs.Simulation.{processor_of}
use Rattle.rv_sim.proofs.InstructionSteps.{loads, loads_nothing}
use Rattle.rv_sim.proofs.machine.Machine.load_number.Goals as goal

pub returns-then-at-from-ne0 : goal.returns-then-at-from-ne0
returns-then-at-from-ne0 c = (
  λ left trace.
      c.trap.ensures.0 left trace
      ∙ sym (acts-load_misaligned c.args.rd.number c.args.next c.args.word (processor_of c.args.self.now left trace) c.args.at c.args.width c.args.signed (search rules)),
  c.trap.ensures.1,
)

pub returns-in-Some : goal.returns-in-Some
returns-in-Some c = (
  λ left trace.
      rw (← c.self.view_is)
      (loads (the_view c.self.inside) left trace c.args.rd.number c.args.next c.args.word c.set.new.self c.args.at c.args.width c.in-Some.number c.args.signed
      (rw (c.widened.ensures, c.load.ensures.stays) at (c.set.ensures.0 left trace)) (sym c.in-Some.is ∙ c.load.ensures.number) (search rules)),
  rw (← c.self.view_is) c.set.ensures.1,
)

pub returns-in-None : goal.returns-in-None
returns-in-None c = (
  λ left trace.
      rw (← c.self.view_is)
      (loads_nothing (the_view c.self.inside) left trace c.args.rd.number c.args.next c.args.word c.trap-in-None.new.self c.args.at c.args.width c.args.signed
      (rw c.load.ensures.stays at (c.trap-in-None.ensures.0 left trace)) (sym c.in-None.is ∙ c.load.ensures.number) (search rules)),
  rw (← c.self.view_is) c.trap-in-None.ensures.1,
)
