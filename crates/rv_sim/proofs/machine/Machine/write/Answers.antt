use Rattle.std.proofs.Common.{◌≡◌, ap, ◌∙◌, arith, rules}
use Rattle.kk_base.specs.Memory.{byte_loaded}
use Rattle.rv_isa.specs.Bytes.{bytes_at}
use Rattle.rv_isa.specs.Processor.{value}
use Rattle.rv_sim.specs.Registers.{registers_of}
use Rattle.rv_sim.specs.contracts.machine.Machine.{the_view}
use Rattle.rv_sim.proofs.EnvironmentCalls.{write-none, write-all, write-failed}
use Rattle.rv_sim.proofs.machine.Machine.write.Goals as goal
use Rattle.rv_sim.proofs.machine.Machine.write.Goals.{then-count-gt0+in_default, else-count-gt0}

pub returns-in-Failed-clause-ran : goal.returns-in-Failed-clause-ran
returns-in-Failed-clause-ran g c = λ left.
    rw (← c.self.view_is)
    (write-failed (the_view c.self.inside) (the_view c.self.inside) c.args.next c.get-count.result c.get-count.ensures (rw (← c.self.view_is) at c.requires.going)
    (rw (← c.self.view_is) at c.requires.whole) (rw (← c.self.view_is) at c.requires.writes) c.bytes.result.now c.in-Failed.field-0 left _ _ (omega arith)
    (rw c.get-at.ensures at c.bytes.ensures) c.in-Failed.ensures.cut c.in-Failed.ensures.content)

pub returns-clause-ran : goal.returns-clause-ran
returns-clause-ran g c = λ left.
    let counted : c.get-count.result ≡ value (registers_of c.args.self.now.registers) 12 = search rules in
    elim c.if-count-gt0.branch [
      | then-count-gt0+in_default w ↦
          let spells : w.bytes.result.now ≡ bytes_at (byte_loaded c.args.self.now.parts) (value (registers_of c.args.self.now.registers) 11) c.get-count.result
          = rw (← c.self.view_is) (rw c.get-at.ensures at w.bytes.ensures) in
          write-all c.args.self.now c.set.new.self c.args.next c.get-count.result counted c.requires.going c.requires.whole c.requires.writes c.set.ensures w.bytes.result.now left _ _
          (omega arith) spells (ap (λ o. (g.O.Sink.state o).held) w.out-is ∙ w.in_default.ensures.content)
      | else-count-gt0 w ↦
          rw w.out-is
          (write-none c.args.self.now c.set.new.self c.args.next c.get-count.result counted c.requires.going c.requires.whole c.requires.writes c.set.ensures left (g.O.Sink.state c.args.out.now)
          (omega arith))
    ]
