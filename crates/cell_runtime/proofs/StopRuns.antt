-- The routine that ends the run, executed.
use Rattle.std.proofs.Common.{◌≡◌, ◌≢◌, ℕ, ◌+◌, ◌%◌, ◌<◌, List, [], ◌∷◌, refl, sym, subst, arith}
use Rattle.std.proofs.lemmas.Bool.Decides.{nat_tests}
use Rattle.rv_isa.specs.declared.immediate.Immediate.{Immediate}
use Rattle.rv_isa.specs.declared.instr.Instr.{Instr}
use Rattle.rv_isa.specs.declared.instr.Instr.TheVariants.{Addi, Ecall}
use Rattle.rv_isa.specs.Arithmetic.{sum_word}
use Rattle.rv_isa.specs.Processor.{Processor, value, put}
use Rattle.rv_isa.specs.Environment.{stepped}
use Rattle.rv_isa.specs.Standing.{Code, Has, Stands}
use Rattle.rv_isa.proofs.Standing.{LeadsIn-stands, next-is, LeadsIn-then, LeadsIn-inside, inside-one}
use Rattle.rv_isa.proofs.Instructions.{leads-addi}
use Rattle.cell_runtime.specs.declared.process.Ending.{Ending}
use Rattle.cell_runtime.specs.declared.process.Ending.TheVariants.{Ended, HeapFull, StackFull}
use Rattle.rv_isa.specs.declared.placed.Symbol.TheVariants.{Stop}
use Rattle.cell_runtime.specs.Registers.{KeptBy}
use Rattle.cell_runtime.specs.Calls.{Exits}
use Rattle.cell_runtime.specs.Lines.{Makes}
use Rattle.cell_runtime.specs.Stops.{number_of, IsStop}
use Rattle.rv_isa.proofs.Registers.{x0, x10, x17}
use Rattle.cell_runtime.proofs.Operands.{imm_93}
use Rattle.cell_runtime.proofs.Spelling.{plain, plain_makes}
use Rattle.cell_runtime.proofs.RoutineCalls.{ends-exit}

abbrev pub stop_code : Immediate → List Instr
stop_code number = Addi x10 x0 number ∷ Addi x17 x0 imm_93 ∷ Ecall ∷ []

abbrev asking : ℕ → Processor → Processor
asking number s = record s {
  registers = put 17 93 (put 10 number s.registers);
  pc = s.pc + 4 + 4;
  executed = s.executed + 1 + 1;
}

number-below : (ending : Ending) → number_of ending < 256
number-below Ended = omega arith
number-below HeapFull = omega arith
number-below StackFull = omega arith

module _ (code : Code) (imm : Immediate) (number : ℕ) (number_is : imm.word ≡ number) (below : number < 256) where
  kept : (s : Processor) (x : ℕ) → KeptBy Stop x → value (asking number s).registers x ≡ value s.registers x
  kept s x out = let a : x ≢ 10 = out.0 in let b : x ≢ 17 = out.1.0 in grind (arith, nat_tests)

  pub stop_exits : (s : Processor) → Stands code s → Has code s.pc (stop_code imm) → Exits code number 3 s
  stop_exits s stands has =
      let set : sum_word 0 imm.word ≡ number = omega arith in
      let first = leads-addi stands {v = number} has.0 set (next-is stands s.pc _ has.1.0) in
      let ready = LeadsIn-then first (leads-addi (LeadsIn-stands first stands) {v = 93} has.1.0 refl (next-is stands (s.pc + 4) _ has.1.1.0)) in
      let told : number % 256 ≡ number = omega arith in
      record {
        last = stepped (sum_word (s.pc + 4 + 4) 4) (asking number s);
        ends = ends-exit (asking number s) stands ready has.1.1.0 refl told;
        inside = LeadsIn-inside ready (inside-one code (asking number s) has.1.1.0);
        executed = omega arith;
        trace = refl;
        memory = refl;
        parts = refl;
        registers = kept s;
      }

pub stop_makes : (ending : Ending) (imm : Immediate) → imm.word ≡ number_of ending → Makes (plain (stop_code imm)) 3 0 (λ memory. IsStop ending)
stop_makes ending imm number_is = plain_makes (stop_code imm) (λ memory code at has s here.
    stop_exits code imm (number_of ending) number_is (number-below ending) s here.stands (subst (λ a. Has code a (stop_code imm)) (sym here.pc_is) has))
