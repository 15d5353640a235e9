-- Runs of a few instructions, put together from what each of them leads to.
use Rattle.std.proofs.Common.{◌≡◌, ◌≢◌, ◌<◌, ℕ, zero, suc, ◌+◌, ◌-◌, ◌*◌, ◌%◌, ◌^◌, List, [], ◌∷◌, Some, refl, sym, ap, ◌∙◌, lit<, arith}
use Rattle.rv_isa.specs.Numbers.{exit_call}
use Rattle.rv_isa.specs.declared.immediate.Immediate.{Immediate}
use Rattle.rv_isa.specs.Arithmetic.{sum_word}
use Rattle.rv_isa.specs.declared.instr.Instr.{Instr}
use Rattle.rv_isa.specs.declared.instr.Instr.TheVariants.{Bne, Addi, Add, Ecall}
use Rattle.rv_isa.specs.Processor.{Processor, going, exited, value, put}
use Rattle.rv_isa.specs.Execution.{run}
use Rattle.rv_isa.proofs.Registers.{x0, x5, x6, x7}
use Rattle.rv_isa.proofs.Examples.{minus_one, back_four}
use Rattle.rv_isa.proofs.Runs.{Leads-none, Leads-ended}
use Rattle.rv_isa.specs.Standing.{Code, Has, Stands, LeadsIn}
use Rattle.rv_isa.proofs.Standing.{LeadsIn-then, LeadsIn-stands, next-is}
use Rattle.rv_isa.proofs.Instructions.{leads-addi, leads-add, leads-bne_taken, leads-bne_not_taken, step-exit}

abbrev two : Immediate
two = record { word = 2; in_range = (lit< tt, lit< tt) }

abbrev three : Immediate
three = record { word = 3; in_range = (lit< tt, lit< tt) }

-- addi x5, x0, 2; addi x6, x0, 3; add x7, x5, x6; and one more, which is not executed
abbrev sum_of_two : Instr → List Instr
sum_of_two after = Addi x5 x0 two ∷ Addi x6 x0 three ∷ Add x7 x5 x6 ∷ after ∷ []

abbrev sum_of_two_after : Processor → Processor
sum_of_two_after s = record s {
  registers = put 7 5 (put 6 3 (put 5 2 s.registers));
  pc = s.pc + 4 + 4 + 4;
  executed = s.executed + 1 + 1 + 1;
}

module _ {code : Code} {s : Processor} (stands : Stands code s) (after : Instr) (has : Has code s.pc (sum_of_two after)) where
  sum_of_two-leads : LeadsIn code 3 s (sum_of_two_after s)
  sum_of_two-leads =
      let first = leads-addi stands {v = 2} has.0 refl (next-is stands s.pc (Addi x6 x0 three) has.1.0) in
      let stands_first = LeadsIn-stands first stands in
      let second = leads-addi stands_first {v = 3} has.1.0 refl (next-is stands (s.pc + 4) (Add x7 x5 x6) has.1.1.0) in
      let stands_second = LeadsIn-stands second stands_first in
      let third = leads-add stands_second {v = 5} has.1.1.0 refl (next-is stands (s.pc + 4 + 4) after has.1.1.1.0) in
      LeadsIn-then first (LeadsIn-then second third)

  sum_of_two-stands : Stands code (sum_of_two_after s)
  sum_of_two-stands = LeadsIn-stands sum_of_two-leads stands

-- addi x5, x5, -1; bne x5, x0, -4; and one more, which is not executed
abbrev count_down : Instr → List Instr
count_down after = Addi x5 x5 minus_one ∷ Bne x5 x0 back_four ∷ after ∷ []

-- the machine stands at the first of them, with x5 not 0
record Down (code : Code) (at n : ℕ) (s : Processor) : Type 0 where
  stands : Stands code s
  pc_is : s.pc ≡ at
  holds : value s.registers 5 ≡ suc n
  fits : suc n < 2 ^ 32

-- a turn has left n in x5
abbrev turned : ℕ → ℕ → Processor → Processor
turned n next s = record s { registers = put 5 n s.registers; pc = next; executed = s.executed + 1 + 1 }

module _ {code : Code} (at : ℕ) (after : Instr) (has : Has code at (count_down after)) where
  count_down-lowers : (n : ℕ) (s : Processor) → Down code at n s → LeadsIn code 1 s (record s { registers = put 5 n s.registers; pc = at + 4; executed = s.executed + 1 })
  count_down-lowers n s down =
      let holds = down.holds in
      let fits = down.fits in
      let lower : sum_word (value s.registers 5) (2 ^ 32 - 1) ≡ n = rw holds (omega arith) in
      leads-addi down.stands (ap code down.pc_is ∙ has.0) lower (ap (λ a. sum_word a 4) down.pc_is ∙ next-is down.stands at _ has.1.0)

  -- a turn goes back to its first instruction, or past its last
  count_down-turns : (n : ℕ) (s : Processor) → Down code at (suc n) s → LeadsIn code 2 s (turned (suc n) at s)
  count_down-turns n s down =
      let first = count_down-lowers (suc n) s down in
      let stands = LeadsIn-stands first down.stands in
      let below = down.stands.below (at + 4) _ has.1.0 in
      LeadsIn-then first (leads-bne_taken stands has.1.0 (omega arith) (omega arith) (down.stands.aligned at _ has.0))

  count_down-ends : (s : Processor) → Down code at 0 s → LeadsIn code 2 s (turned 0 (at + 4 + 4) s)
  count_down-ends s down =
      let first = count_down-lowers 0 s down in
      let stands = LeadsIn-stands first down.stands in
      LeadsIn-then first (leads-bne_not_taken stands has.1.0 refl (next-is down.stands (at + 4) _ has.1.1.0))

  -- so x5 comes to 0, and memory stays
  count_down-leads : (n : ℕ) (s : Processor) → Down code at n s → (t : Processor) × LeadsIn code (2 * suc n) s t × (t.pc ≡ at + 8) × (value t.registers 5 ≡ 0) × (t.memory ≡ s.memory)
  count_down-leads zero s down = (turned 0 (at + 4 + 4) s, count_down-ends s down, omega arith, refl, refl)
  count_down-leads (suc n) s down =
      let turn = count_down-turns n s down in
      let fits = down.fits in
      let rest = count_down-leads n (turned (suc n) at s) record {
        stands = LeadsIn-stands turn down.stands;
        pc_is = refl;
        holds = refl;
        fits = omega arith;
      } in
      let sum : 2 + 2 * suc n ≡ 2 * suc (suc n) = omega arith in
      (rest.0, rw (sym sum) (LeadsIn-then turn rest.1), rest.2, rest.3, rest.4)

-- ecall, with the number of exit in x17 and 258 in x10: the run has ended with 2, after any count from one on
exit-ends : {code : Code} {s : Processor} → Stands code s → code s.pc ≡ Some Ecall → value s.registers 17 ≡ exit_call → value s.registers 10 ≡ 258
    → (more : ℕ) → (run (suc more) s).ending ≡ exited 2
exit-ends {code} {s} stands here number status more =
    let exit = step-exit stands here number (ap (λ x. x % 256) status) refl in
    let none : 0 + suc more ≡ suc more = omega arith in
    ap (λ after. after.ending) (ap (λ n. run n s) (sym none) ∙ Leads-ended (Leads-none s) exit exited-ended more)
  where
    exited-ended : exited 2 ≢ going
    exited-ended e = cc
