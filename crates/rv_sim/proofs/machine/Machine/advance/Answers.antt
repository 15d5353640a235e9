use Rattle.std.proofs.Common.{sym, ap, ◌∙◌}
use Rattle.rv_isa.specs.Execution.{executes, decodes, step}
use Rattle.rv_isa.proofs.Steps.{decodes-none, decodes-some}
use Rattle.rv_sim.specs.contracts.machine.Machine.{the_view}
use Rattle.rv_sim.specs.Simulation.{processor_of}
use Rattle.rv_sim.proofs.InstructionSteps.{does-same, fetches, fetches_nothing}
use Rattle.rv_sim.proofs.machine.Machine.advance.Goals as goal

pub returns-in_default : goal.returns-in_default
returns-in_default c = (
  λ left trace.
      rw (← c.self.view_is)
      (rw c.fetch.ensures.stays at (c.trap.ensures.0 left trace)
      ∙ sym (fetches_nothing (the_view c.self.inside) left trace (sym c.in_default.is ∙ c.fetch.ensures.word))),
  rw (← c.self.view_is) c.trap.ensures.1,
)

pub returns-in-Some-decode : goal.returns-in-Some-decode
returns-in-Some-decode c =
    let done = rw c.fetch.ensures.stays at c.execute.ensures in
    rw (← c.self.view_is)
    (does-same (λ s. executes s c.in-Some.word c.in-Some-decode.instr) step c.execute.result (the_view c.self.inside) c.execute.new.self
    (λ left trace.
    let s = processor_of (the_view c.self.inside) left trace in
    sym (fetches (the_view c.self.inside) left trace c.in-Some.word (sym c.in-Some.is ∙ c.fetch.ensures.word)
    ∙ ap (decodes s c.in-Some.word) (sym c.decode.ensures.reads ∙ c.in-Some-decode.is)
    ∙ decodes-some s c.in-Some.word c.in-Some-decode.instr))
    done)

pub returns-in-None : goal.returns-in-None
returns-in-None c = (
  λ left trace.
      rw (← c.self.view_is)
      (rw c.fetch.ensures.stays at (c.trap-in-None.ensures.0 left trace)
      ∙ sym (fetches (the_view c.self.inside) left trace c.in-Some.word (sym c.in-Some.is ∙ c.fetch.ensures.word)
      ∙ ap (decodes (processor_of (the_view c.self.inside) left trace) c.in-Some.word) (sym c.decode.ensures.reads ∙ c.in-None.is)
      ∙ decodes-none (processor_of (the_view c.self.inside) left trace) c.in-Some.word)),
  rw (← c.self.view_is) c.trap-in-None.ensures.1,
)
