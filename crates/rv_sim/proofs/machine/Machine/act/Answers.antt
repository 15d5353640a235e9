use Rattle.std.proofs.Common.{refl, sym, ap, ◌∙◌}
use Rattle.rv_isa.proofs.Acts.{acts-nothing, acts-set, acts-call, acts-break}
use Rattle.rv_sim.specs.Simulation.{processor_of}
use Rattle.rv_sim.proofs.InstructionSteps.{finishes}
use Rattle.rv_sim.proofs.machine.Machine.act.Goals as goal

pub returns-in-Call : goal.returns-in-Call
returns-in-Call c =
    (refl, λ left trace. rw c.in-Call.is (acts-call c.args.rd.number c.args.effect.next c.args.word (processor_of c.args.self.now left trace)))

pub returns-in-Nothing : goal.returns-in-Nothing
returns-in-Nothing c = (
  λ left trace.
      rw c.in-Nothing.is
      (finishes c.args.self.now left trace c.args.rd.number c.args.effect.next c.args.word c.finish.new.self c.requires.going c.finish.ensures
      ∙ sym (acts-nothing c.args.rd.number c.args.effect.next c.args.word (processor_of c.args.self.now left trace))),
  ap (λ s. s.faulted) c.finish.ensures,
)

pub returns-in-Set : goal.returns-in-Set
returns-in-Set c = (
  λ left trace.
      rw c.in-Set.is
      (c.set.ensures.0 left trace ∙ sym (acts-set c.args.rd.number c.args.effect.next c.args.word (processor_of c.args.self.now left trace) c.in-Set.value)),
  c.set.ensures.1,
)

pub returns-in-Break : goal.returns-in-Break
returns-in-Break c = (
  λ left trace.
      rw c.in-Break.is
      (c.trap.ensures.0 left trace ∙ sym (acts-break c.args.rd.number c.args.effect.next c.args.word (processor_of c.args.self.now left trace))),
  c.trap.ensures.1,
)

pub returns-in-Store : goal.returns-in-Store
returns-in-Store c = rw c.in-Store.is (c.store_number.ensures c.args.rd.number)
