use Rattle.std.proofs.Common.{◌≡◌, sym, ◌∙◌, rules}
use Rattle.rv_isa.specs.Execution.{effect_at, executes, acts}
use Rattle.rv_isa.proofs.Steps.{executes-misaligned, executes-aligned}
use Rattle.rv_sim.specs.contracts.machine.Machine.{the_view}
use Rattle.rv_sim.specs.Simulation.{processor_of}
use Rattle.rv_sim.proofs.InstructionSteps.{does-same}
use Rattle.rv_sim.proofs.machine.Machine.execute.Goals as goal

pub returns-then-effect-ne0 : goal.returns-then-effect-ne0
returns-then-effect-ne0 c = (
  λ left trace.
      let s = processor_of (the_view c.self.inside) left trace in
      let e : effect_at s c.args.instr ≡ c.effect-effect.result = search rules in
      c.trap.ensures.0 left trace
      ∙ rw (← c.self.view_is) (sym (executes-misaligned s c.args.word c.args.instr c.effect-effect.result e (search rules))),
  c.trap.ensures.1,
)

pub returns : goal.returns
returns c =
    does-same (acts c.effect-effect.result.act c.operands-operands.result.rd.number c.effect-effect.result.next c.args.word) (λ s. executes s c.args.word c.args.instr) c.act.result
    c.args.self.now c.act.new.self
    (λ left trace.
    let s = processor_of (the_view c.self.inside) left trace in
    let e : effect_at s c.args.instr ≡ c.effect-effect.result = search rules in
    rw (← c.self.view_is, c.operands-operands.ensures.rd) (sym (executes-aligned s c.args.word c.args.instr c.effect-effect.result e (search rules))))
    c.act.ensures
