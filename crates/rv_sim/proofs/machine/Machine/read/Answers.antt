use Rattle.std.proofs.Common.{◌≡◌, ◌≢◌, arith, rules}
use Rattle.rv_sim.specs.contracts.machine.Machine.{the_view}
use Rattle.rv_isa.specs.Processor.{value}
use Rattle.rv_sim.specs.Registers.{registers_of}
use Rattle.rv_sim.proofs.InstructionSteps.{can_store-one}
use Rattle.rv_sim.proofs.EnvironmentCalls.{read-none, read-byte, read-end, read-failed}
use Rattle.rv_sim.proofs.machine.Machine.read.Goals as goal

pub store_byte-requires : goal.store_byte-requires
store_byte-requires g c =
    can_store-one c.self.inside.memory c.get-at.result c.get.result (omega arith) (search rules)

pub returns-then-get-eq0-clause-ran : goal.returns-then-get-eq0-clause-ran
returns-then-get-eq0-clause-ran g c = λ held.
    let none : value (registers_of c.args.self.now.registers) 12 ≡ 0 = search rules in
    read-none c.args.self.now c.set.new.self c.args.next c.requires.going c.requires.whole c.requires.reads _ held none c.set.ensures

pub returns-in-Byte-clause-ran : goal.returns-in-Byte-clause-ran
returns-in-Byte-clause-ran g c = λ held.
    let some : value (registers_of c.self.inside.registers) 12 ≢ 0 = search rules in
    rw (← c.self.view_is)
    (read-byte (the_view c.self.inside) c.set-in-Byte.new.self c.args.next (rw (← c.self.view_is) at c.requires.going) (rw (← c.self.view_is) at c.requires.whole)
    (rw (← c.self.view_is) at c.requires.reads) some c.in-Byte.byte c.store_byte.new.self (rw c.get-at.ensures at c.store_byte.ensures.stored) c.store_byte.ensures.areas
    c.set-in-Byte.ensures _ _ held c.in-Byte.ensures.content c.in-Byte.ensures.keeps c.in-Byte.ensures.bytes)

pub returns-in-End-clause-ran : goal.returns-in-End-clause-ran
returns-in-End-clause-ran g c = λ held.
    let some : value (registers_of c.args.self.now.registers) 12 ≢ 0 = search rules in
    read-end c.args.self.now c.set-in-End.new.self c.args.next c.requires.going c.requires.whole c.requires.reads some c.set-in-End.ensures _ _ held c.in-End.ensures.content c.in-End.ensures.end c.in-End.ensures.keeps

pub returns-in-Failed-clause-ran : goal.returns-in-Failed-clause-ran
returns-in-Failed-clause-ran g c = λ held.
    let some : value (registers_of c.self.inside.registers) 12 ≢ 0 = search rules in
    rw (← c.self.view_is)
    (read-failed (the_view c.self.inside) (the_view c.self.inside) c.args.next (rw (← c.self.view_is) at c.requires.going) (rw (← c.self.view_is) at c.requires.whole)
    (rw (← c.self.view_is) at c.requires.reads) some _ _ held c.in-Failed.ensures.content c.in-Failed.ensures.keeps)
