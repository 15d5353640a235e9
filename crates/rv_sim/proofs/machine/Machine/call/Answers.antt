use Rattle.std.proofs.Common.{◌≡◌, ◌%◌, sym, ◌∙◌, arith, rules}
use Rattle.std.proofs.lemmas.Bool.{false≢true}
use Rattle.rv_isa.specs.Numbers.{exit_call, unknown_call}
use Rattle.rv_isa.specs.Processor.{exited, traps, value}
use Rattle.rv_isa.specs.Environment.{stepped}
use Rattle.rv_sim.specs.Turns.{NextDoes}
use Rattle.rv_sim.specs.Registers.{registers_of}
use Rattle.rv_sim.specs.contracts.machine.Machine.{the_view}
use Rattle.rv_sim.proofs.Turns.{HasRun-quiet}
use Rattle.rv_sim.proofs.EnvironmentCalls.{next-reads, next-writes, next-exits, next-traps}
use Rattle.rv_sim.proofs.machine.Machine.call.Goals as goal
use Rattle.rv_sim.proofs.machine.Machine.call.Goals.{in_default-via-in-63+then-file-eq-STANDARD_INPUT+else-can, in_default-via-in-63+else-file-eq-STANDARD_INPUT, in_default-via-in-64+then-file-eq-STANDARD_OUTPUT+else-can-2, in_default-via-in-64+else-file-eq-STANDARD_OUTPUT, in_default-via-in_default-1}

pub read-requires-clause-reads : goal.read-requires-clause-reads
read-requires-clause-reads g c =
    rw (← c.self.view_is)
    (next-reads (the_view c.self.inside) c.args.next c.args.word (rw (← c.self.view_is) at c.requires.calls) (search rules) (search rules) (search rules))

pub write-requires-clause-writes : goal.write-requires-clause-writes
write-requires-clause-writes g c =
    rw (← c.self.view_is)
    (next-writes (the_view c.self.inside) c.args.next c.args.word (rw (← c.self.view_is) at c.requires.calls) (search rules) (search rules) (search rules))

pub returns-in-63-clause-ran : goal.returns-in-63-clause-ran
returns-in-63-clause-ran g c = rw c.then_some.ensures (c.read.ensures.ran (g.O.Sink.state c.args.out.now))

pub returns-in-64-clause-ran : goal.returns-in-64-clause-ran
returns-in-64-clause-ran g c = rw c.then_some-in-64.ensures (c.write.ensures.ran (g.I.Source.state c.args.input.now))

pub returns-in-93-clause-ran : goal.returns-in-93-clause-ran
returns-in-93-clause-ran g c =
    let number : value (registers_of c.args.self.now.registers) 17 ≡ exit_call = search rules in
    HasRun-quiet c.args.self.now c.exit.new.self c.requires.going (λ s. record { processor = stepped c.args.next s; ending = exited (value s.registers 10 % 256) }) _ _ c.requires.whole
    (next-exits c.args.self.now c.args.next c.args.word c.requires.calls number) c.exit.ensures

pub returns-in_default-clause-ran : goal.returns-in_default-clause-ran
returns-in_default-clause-ran g c =
    let calling = rw (← c.self.view_is) at c.requires.calls in
    let next : NextDoes (traps unknown_call c.args.word) (the_view c.self.inside) =
    elim c.in_default.branch [
      | in_default-via-in-63+then-file-eq-STANDARD_INPUT+else-can w ↦
          next-traps (the_view c.self.inside) c.args.next c.args.word calling
          (λ number file allowed. false≢true (sym w.if-can.false ∙ (rw (c.get-at.ensures, c.get-count.ensures) at w.can.ensures) ∙ allowed)) (λ number file allowed. omega arith) (omega arith)
      | in_default-via-in-63+else-file-eq-STANDARD_INPUT w ↦
          next-traps (the_view c.self.inside) c.args.next c.args.word calling (λ number file allowed. omega arith) (λ number file allowed. omega arith) (omega arith)
      | in_default-via-in-64+then-file-eq-STANDARD_OUTPUT+else-can-2 w ↦
          next-traps (the_view c.self.inside) c.args.next c.args.word calling (λ number file allowed. omega arith)
          (λ number file allowed. false≢true (sym w.if-can-2.false ∙ (rw (c.get-at.ensures, c.get-count.ensures) at w.can-then-file-eq-STANDARD_OUTPUT.ensures) ∙ allowed)) (omega arith)
      | in_default-via-in-64+else-file-eq-STANDARD_OUTPUT w ↦
          next-traps (the_view c.self.inside) c.args.next c.args.word calling (λ number file allowed. omega arith) (λ number file allowed. omega arith) (omega arith)
      | in_default-via-in_default-1 w ↦
          next-traps (the_view c.self.inside) c.args.next c.args.word calling (λ number file allowed. omega arith) (λ number file allowed. omega arith) (omega arith)
    ] in
    HasRun-quiet c.args.self.now c.trap.new.self c.requires.going (traps unknown_call c.args.word) _ _ c.requires.whole (rw (← c.self.view_is) next) c.trap.ensures
