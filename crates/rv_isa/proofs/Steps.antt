-- The next instruction of a machine, one case after the other.
use Rattle.std.proofs.Common.{◌≡◌, ◌≢◌, ℕ, ◌%◌, true, false, nat_eq, Some, None, refl, arith}
use Rattle.std.proofs.lemmas.Bool.Decides.{nat_tests}
use Rattle.rv_isa.specs.Numbers.{illegal_instruction, fetch_fault, misaligned_target}
use Rattle.rv_isa.specs.declared.act.Effect.{Effect}
use Rattle.rv_isa.specs.declared.instr.Instr.{Instr}
use Rattle.rv_isa.specs.Read.{read}
use Rattle.rv_isa.specs.Operands.{rd_of}
use Rattle.rv_isa.specs.Bytes.{number_at}
use Rattle.rv_isa.specs.Processor.{Processor, traps, can_fetch}
use Rattle.rv_isa.specs.InstructionSet.{decodes_over, executes_over, step_over}
use Rattle.rv_isa.specs.Execution.{acts, effect_at, executes, decodes, step}

module _ (s : Processor) where
  pub step-unfetched : can_fetch s.parts s.pc 4 ≡ false → step s ≡ traps fetch_fault 0 s
  unfolding step_over
  step-unfetched denied = rw denied refl

  pub step-fetched : (word : ℕ) → can_fetch s.parts s.pc 4 ≡ true → number_at s.memory s.pc 4 ≡ word → step s ≡ decodes s word (read word)
  unfolding step_over
  step-fetched word allowed holds = rw (allowed, holds) refl

  pub decodes-none : (word : ℕ) → decodes s word None ≡ traps illegal_instruction word s
  unfolding decodes_over
  decodes-none word = refl

  pub decodes-some : (word : ℕ) (i : Instr) → decodes s word (Some i) ≡ executes s word i
  unfolding decodes_over
  decodes-some word i = refl

  pub executes-misaligned : (word : ℕ) (i : Instr) (e : Effect) → effect_at s i ≡ e → e.next % 4 ≢ 0 → executes s word i ≡ traps misaligned_target word s
  unfolding executes_over
  executes-misaligned word i e is misaligned =
      let test : nat_eq (e.next % 4) 0 ≡ false = grind (arith, nat_tests) in rw (is, test) refl

  pub executes-aligned : (word : ℕ) (i : Instr) (e : Effect) → effect_at s i ≡ e → e.next % 4 ≡ 0 → executes s word i ≡ acts e.act (rd_of i) e.next word s
  unfolding executes_over
  executes-aligned word i e is aligned =
      let test : nat_eq (e.next % 4) 0 ≡ true = grind (arith, nat_tests) in rw (is, test) refl
