-- What the instructions of standing code lead to. Each value has a name, told by an equation, so that a long row of instructions stays small.
use Rattle.std.proofs.Common.{◌≡◌, ◌≢◌, ◌≤◌, ◌<◌, ℕ, ◌-◌, ◌%◌, List, [], ◌∷◌, ◌++◌, Some, Bool, true, false, nat_eq, nat_lt, int_lt, refl, sym, ap, ◌∙◌, subst, arith}
use Rattle.std.proofs.lemmas.Bool.Decides.{nat_tests}
use Rattle.kk_base.specs.Trace.{output, input, input_end}
use Rattle.rv_isa.specs.Numbers.{read_call, write_call, exit_call, standard_input, standard_output}
use Rattle.rv_isa.specs.declared.register.Register.{Register}
use Rattle.rv_isa.specs.declared.immediate.Immediate.{Immediate}
use Rattle.rv_isa.specs.declared.immediate.BranchOffset.{BranchOffset}
use Rattle.rv_isa.specs.declared.immediate.JumpOffset.{JumpOffset}
use Rattle.rv_isa.specs.declared.immediate.UpperImmediate.{UpperImmediate}
use Rattle.rv_isa.specs.declared.act.Act.TheVariants.{Nothing, Load, Store, Call}
use Rattle.rv_isa.specs.declared.instr.Instr.{Instr}
use Rattle.rv_isa.specs.declared.instr.Instr.TheVariants.{Lui, Jal, Jalr, Beq, Bne, Blt, Bge, Bltu, Bgeu, Lw, Lbu, Sb, Sw, Addi, Add, Sub, Ecall, Mul, Div, Divu, Rem, Remu}
use Rattle.rv_isa.specs.Arithmetic.{signed, sum_word, difference_word, product_word, quotient_signed, quotient_unsigned, remainder_signed, remainder_unsigned, widened}
use Rattle.rv_isa.specs.Operands.{rd_of}
use Rattle.rv_isa.specs.Meaning.{goes_on, sets, jumps}
use Rattle.rv_isa.specs.Bytes.{bytes_at, with_bytes, number_at, with_number}
use Rattle.rv_isa.specs.Processor.{Processor, exited, goes, value, put, can_load, can_store}
use Rattle.rv_isa.specs.Environment.{stepped, calls}
use Rattle.rv_isa.specs.Execution.{effect_at, step}
use Rattle.rv_isa.proofs.Acts.{acts-nothing, acts-set, acts-load, acts-store, acts-call}
use Rattle.rv_isa.proofs.Calls.{reads-some, writes-none, writes-some, calls-read, calls-write, calls-exit}
use Rattle.rv_isa.proofs.Memory.{number_at-one}
use Rattle.rv_isa.specs.Standing.{Code, Stands, LeadsIn}
use Rattle.rv_isa.proofs.Standing.{next-aligned, step-at, LeadsIn-step}

-- a register that was set holds the value, and another register what it held
pub value-put_same : (number v : ℕ) (registers : ℕ → ℕ) → number ≢ 0 → value (put number v registers) number ≡ v
value-put_same number v registers some = grind (arith, nat_tests)

pub value-put_other : (number v : ℕ) (registers : ℕ → ℕ) (other : ℕ) → other ≢ number → value (put number v registers) other ≡ value registers other
value-put_other number v registers other differ = grind (arith, nat_tests)

-- a word that is loaded is its number
widened-word : (n : ℕ) → widened 4 true n ≡ n
widened-word n = grind (arith, nat_tests)

even-target : (target next : ℕ) → target ≡ next → next % 4 ≡ 0 → target - target % 2 ≡ next
even-target target next is aligned = omega arith

module _ {code : Code} {s : Processor} (stands : Stands code s) where
  -- ---- an instruction by its effect

  -- it sets its destination, and the next one in memory follows
  pub leads-sets : (i : Instr) (w : ℕ) {v next : ℕ} → code s.pc ≡ Some i → effect_at s i ≡ sets s.pc w → w ≡ v → sum_word s.pc 4 ≡ next
      → LeadsIn code 1 s (record (stepped next s) { registers = put (rd_of i) v s.registers })
  leads-sets i w {v} {next} here is value_is next_is =
      LeadsIn-step here (step-at stands i (sets s.pc w) here is (next-aligned stands s.pc i here)
      ∙ rw (value_is, next_is) (acts-set (rd_of i) next (number_at s.memory s.pc 4) s v))

  -- it does nothing but go on at an address
  pub leads-to : (i : Instr) (target : ℕ) {next : ℕ} → code s.pc ≡ Some i → effect_at s i ≡ record { next = target; act = Nothing } → target ≡ next → next % 4 ≡ 0
      → LeadsIn code 1 s (stepped next s)
  leads-to i target {next} here is next_is aligned =
      LeadsIn-step here (step-at stands i (record { next = target; act = Nothing }) here is (rw next_is aligned)
      ∙ rw next_is (acts-nothing (rd_of i) next (number_at s.memory s.pc 4) s))

  -- it does nothing but go on
  pub leads-on : (i : Instr) {next : ℕ} → code s.pc ≡ Some i → effect_at s i ≡ goes_on s.pc Nothing → sum_word s.pc 4 ≡ next → LeadsIn code 1 s (stepped next s)
  leads-on i here is next_is =
      leads-to i (sum_word s.pc 4) here is next_is (subst (λ a. a % 4 ≡ 0) next_is (next-aligned stands s.pc i here))

  -- it jumps, and its destination becomes the address after it
  pub leads-jumps : (i : Instr) (target : ℕ) {next back : ℕ} → code s.pc ≡ Some i → effect_at s i ≡ jumps s.pc target → target ≡ next → next % 4 ≡ 0 → sum_word s.pc 4 ≡ back
      → LeadsIn code 1 s (record (stepped next s) { registers = put (rd_of i) back s.registers })
  leads-jumps i target {next} {back} here is next_is aligned back_is =
      LeadsIn-step here (step-at stands i (jumps s.pc target) here is (rw next_is aligned)
      ∙ rw (back_is, next_is) (acts-set (rd_of i) next (number_at s.memory s.pc 4) s back))

  -- it loads what may be loaded
  pub leads-loads : (i : Instr) (from width : ℕ) (signed : Bool) {at next : ℕ} → code s.pc ≡ Some i → effect_at s i ≡ goes_on s.pc (Load from width signed) → from ≡ at
      → at % width ≡ 0 → can_load s.parts at width ≡ true → sum_word s.pc 4 ≡ next
      → LeadsIn code 1 s (record (stepped next s) { registers = put (rd_of i) (widened width signed (number_at s.memory at width)) s.registers })
  leads-loads i from width signed {at} {next} here is at_is aligned allowed next_is =
      LeadsIn-step here (step-at stands i (goes_on s.pc (Load from width signed)) here is (next-aligned stands s.pc i here)
      ∙ rw (at_is, next_is) (acts-load (rd_of i) next (number_at s.memory s.pc 4) s at width signed aligned allowed))

  -- it stores where it may be stored
  pub leads-stores : (i : Instr) (to width w : ℕ) {at v next : ℕ} → code s.pc ≡ Some i → effect_at s i ≡ goes_on s.pc (Store to width w) → to ≡ at → w ≡ v
      → at % width ≡ 0 → can_store s.parts at width ≡ true → sum_word s.pc 4 ≡ next
      → LeadsIn code 1 s (record (stepped next s) { memory = with_number at width v s.memory })
  leads-stores i to width w {at} {v} {next} here is at_is value_is aligned allowed next_is =
      LeadsIn-step here (step-at stands i (goes_on s.pc (Store to width w)) here is (next-aligned stands s.pc i here)
      ∙ rw (at_is, value_is, next_is) (acts-store (rd_of i) next (number_at s.memory s.pc 4) s at width v aligned allowed))

  -- ---- values of registers and immediates

  pub leads-addi : {rd rs1 : Register} {imm : Immediate} {v next : ℕ} → code s.pc ≡ Some (Addi rd rs1 imm)
      → sum_word (value s.registers rs1.number) imm.word ≡ v → sum_word s.pc 4 ≡ next
      → LeadsIn code 1 s (record (stepped next s) { registers = put rd.number v s.registers })
  leads-addi {rd} {rs1} {imm} here = leads-sets (Addi rd rs1 imm) _ here refl

  pub leads-lui : {rd : Register} {imm : UpperImmediate} {v next : ℕ} → code s.pc ≡ Some (Lui rd imm) → imm.word ≡ v → sum_word s.pc 4 ≡ next
      → LeadsIn code 1 s (record (stepped next s) { registers = put rd.number v s.registers })
  leads-lui {rd} {imm} here = leads-sets (Lui rd imm) _ here refl

  pub leads-add : {rd rs1 rs2 : Register} {v next : ℕ} → code s.pc ≡ Some (Add rd rs1 rs2)
      → sum_word (value s.registers rs1.number) (value s.registers rs2.number) ≡ v → sum_word s.pc 4 ≡ next
      → LeadsIn code 1 s (record (stepped next s) { registers = put rd.number v s.registers })
  leads-add {rd} {rs1} {rs2} here = leads-sets (Add rd rs1 rs2) _ here refl

  pub leads-sub : {rd rs1 rs2 : Register} {v next : ℕ} → code s.pc ≡ Some (Sub rd rs1 rs2)
      → difference_word (value s.registers rs1.number) (value s.registers rs2.number) ≡ v → sum_word s.pc 4 ≡ next
      → LeadsIn code 1 s (record (stepped next s) { registers = put rd.number v s.registers })
  leads-sub {rd} {rs1} {rs2} here = leads-sets (Sub rd rs1 rs2) _ here refl

  pub leads-mul : {rd rs1 rs2 : Register} {v next : ℕ} → code s.pc ≡ Some (Mul rd rs1 rs2)
      → product_word (value s.registers rs1.number) (value s.registers rs2.number) ≡ v → sum_word s.pc 4 ≡ next
      → LeadsIn code 1 s (record (stepped next s) { registers = put rd.number v s.registers })
  leads-mul {rd} {rs1} {rs2} here = leads-sets (Mul rd rs1 rs2) _ here refl

  pub leads-div : {rd rs1 rs2 : Register} {v next : ℕ} → code s.pc ≡ Some (Div rd rs1 rs2)
      → quotient_signed (value s.registers rs1.number) (value s.registers rs2.number) ≡ v → sum_word s.pc 4 ≡ next
      → LeadsIn code 1 s (record (stepped next s) { registers = put rd.number v s.registers })
  leads-div {rd} {rs1} {rs2} here = leads-sets (Div rd rs1 rs2) _ here refl

  pub leads-divu : {rd rs1 rs2 : Register} {v next : ℕ} → code s.pc ≡ Some (Divu rd rs1 rs2)
      → quotient_unsigned (value s.registers rs1.number) (value s.registers rs2.number) ≡ v → sum_word s.pc 4 ≡ next
      → LeadsIn code 1 s (record (stepped next s) { registers = put rd.number v s.registers })
  leads-divu {rd} {rs1} {rs2} here = leads-sets (Divu rd rs1 rs2) _ here refl

  pub leads-rem : {rd rs1 rs2 : Register} {v next : ℕ} → code s.pc ≡ Some (Rem rd rs1 rs2)
      → remainder_signed (value s.registers rs1.number) (value s.registers rs2.number) ≡ v → sum_word s.pc 4 ≡ next
      → LeadsIn code 1 s (record (stepped next s) { registers = put rd.number v s.registers })
  leads-rem {rd} {rs1} {rs2} here = leads-sets (Rem rd rs1 rs2) _ here refl

  pub leads-remu : {rd rs1 rs2 : Register} {v next : ℕ} → code s.pc ≡ Some (Remu rd rs1 rs2)
      → remainder_unsigned (value s.registers rs1.number) (value s.registers rs2.number) ≡ v → sum_word s.pc 4 ≡ next
      → LeadsIn code 1 s (record (stepped next s) { registers = put rd.number v s.registers })
  leads-remu {rd} {rs1} {rs2} here = leads-sets (Remu rd rs1 rs2) _ here refl

  -- ---- loads and stores

  pub leads-lw : {rd rs1 : Register} {imm : Immediate} {at v next : ℕ} → code s.pc ≡ Some (Lw rd rs1 imm)
      → sum_word (value s.registers rs1.number) imm.word ≡ at → at % 4 ≡ 0 → can_load s.parts at 4 ≡ true → number_at s.memory at 4 ≡ v → sum_word s.pc 4 ≡ next
      → LeadsIn code 1 s (record (stepped next s) { registers = put rd.number v s.registers })
  leads-lw {rd} {rs1} {imm} {at} {v} {next} here at_is aligned allowed value_is next_is =
      let is = leads-loads (Lw rd rs1 imm) _ 4 true here refl at_is aligned allowed next_is in
      let widened_is : widened 4 true (number_at s.memory at 4) ≡ v = widened-word (number_at s.memory at 4) ∙ value_is in
      subst (λ n. LeadsIn code 1 s (record (stepped next s) { registers = put rd.number n s.registers })) widened_is is

  pub leads-lbu : {rd rs1 : Register} {imm : Immediate} {at v next : ℕ} → code s.pc ≡ Some (Lbu rd rs1 imm)
      → sum_word (value s.registers rs1.number) imm.word ≡ at → can_load s.parts at 1 ≡ true → s.memory at ≡ v → sum_word s.pc 4 ≡ next
      → LeadsIn code 1 s (record (stepped next s) { registers = put rd.number v s.registers })
  leads-lbu {rd} {rs1} {imm} {at} {v} {next} here at_is allowed value_is next_is =
      let is = leads-loads (Lbu rd rs1 imm) _ 1 false here refl at_is (omega arith) allowed next_is in
      let byte_is : number_at s.memory at 1 ≡ v = number_at-one s.memory at ∙ value_is in
      subst (λ n. LeadsIn code 1 s (record (stepped next s) { registers = put rd.number n s.registers })) byte_is is

  pub leads-sw : {rs1 rs2 : Register} {imm : Immediate} {at v next : ℕ} → code s.pc ≡ Some (Sw rs1 rs2 imm)
      → sum_word (value s.registers rs1.number) imm.word ≡ at → value s.registers rs2.number ≡ v → at % 4 ≡ 0 → can_store s.parts at 4 ≡ true → sum_word s.pc 4 ≡ next
      → LeadsIn code 1 s (record (stepped next s) { memory = with_number at 4 v s.memory })
  leads-sw {rs1} {rs2} {imm} here at_is value_is aligned allowed next_is =
      leads-stores (Sw rs1 rs2 imm) _ 4 _ here refl at_is value_is aligned allowed next_is

  pub leads-sb : {rs1 rs2 : Register} {imm : Immediate} {at v next : ℕ} → code s.pc ≡ Some (Sb rs1 rs2 imm)
      → sum_word (value s.registers rs1.number) imm.word ≡ at → value s.registers rs2.number ≡ v → can_store s.parts at 1 ≡ true → sum_word s.pc 4 ≡ next
      → LeadsIn code 1 s (record (stepped next s) { memory = with_number at 1 v s.memory })
  leads-sb {rs1} {rs2} {imm} here at_is value_is allowed next_is =
      leads-stores (Sb rs1 rs2 imm) _ 1 _ here refl at_is value_is (omega arith) allowed next_is

  -- ---- branches and jumps

  pub leads-beq_taken : {rs1 rs2 : Register} {offset : BranchOffset} {next : ℕ} → code s.pc ≡ Some (Beq rs1 rs2 offset)
      → value s.registers rs1.number ≡ value s.registers rs2.number → sum_word s.pc offset.word ≡ next → next % 4 ≡ 0 → LeadsIn code 1 s (stepped next s)
  leads-beq_taken {rs1} {rs2} {offset} here holds next_is aligned =
      let test : nat_eq (value s.registers rs1.number) (value s.registers rs2.number) ≡ true = grind (arith, nat_tests) in leads-to (Beq rs1 rs2 offset) (sum_word s.pc offset.word) here (rw test refl) next_is aligned

  pub leads-beq_not_taken : {rs1 rs2 : Register} {offset : BranchOffset} {next : ℕ} → code s.pc ≡ Some (Beq rs1 rs2 offset)
      → value s.registers rs1.number ≢ value s.registers rs2.number → sum_word s.pc 4 ≡ next → LeadsIn code 1 s (stepped next s)
  leads-beq_not_taken {rs1} {rs2} {offset} here holds next_is =
      let test : nat_eq (value s.registers rs1.number) (value s.registers rs2.number) ≡ false = grind (arith, nat_tests) in leads-on (Beq rs1 rs2 offset) here (rw test refl) next_is

  pub leads-bne_taken : {rs1 rs2 : Register} {offset : BranchOffset} {next : ℕ} → code s.pc ≡ Some (Bne rs1 rs2 offset)
      → value s.registers rs1.number ≢ value s.registers rs2.number → sum_word s.pc offset.word ≡ next → next % 4 ≡ 0 → LeadsIn code 1 s (stepped next s)
  leads-bne_taken {rs1} {rs2} {offset} here holds next_is aligned =
      let test : nat_eq (value s.registers rs1.number) (value s.registers rs2.number) ≡ false = grind (arith, nat_tests) in leads-to (Bne rs1 rs2 offset) (sum_word s.pc offset.word) here (rw test refl) next_is aligned

  pub leads-bne_not_taken : {rs1 rs2 : Register} {offset : BranchOffset} {next : ℕ} → code s.pc ≡ Some (Bne rs1 rs2 offset)
      → value s.registers rs1.number ≡ value s.registers rs2.number → sum_word s.pc 4 ≡ next → LeadsIn code 1 s (stepped next s)
  leads-bne_not_taken {rs1} {rs2} {offset} here holds next_is =
      let test : nat_eq (value s.registers rs1.number) (value s.registers rs2.number) ≡ true = grind (arith, nat_tests) in leads-on (Bne rs1 rs2 offset) here (rw test refl) next_is

  pub leads-blt_taken : {rs1 rs2 : Register} {offset : BranchOffset} {next : ℕ} → code s.pc ≡ Some (Blt rs1 rs2 offset)
      → int_lt (signed (value s.registers rs1.number)) (signed (value s.registers rs2.number)) ≡ true → sum_word s.pc offset.word ≡ next → next % 4 ≡ 0 → LeadsIn code 1 s (stepped next s)
  leads-blt_taken {rs1} {rs2} {offset} here holds next_is aligned =
      leads-to (Blt rs1 rs2 offset) (sum_word s.pc offset.word) here (rw holds refl) next_is aligned

  pub leads-blt_not_taken : {rs1 rs2 : Register} {offset : BranchOffset} {next : ℕ} → code s.pc ≡ Some (Blt rs1 rs2 offset)
      → int_lt (signed (value s.registers rs1.number)) (signed (value s.registers rs2.number)) ≡ false → sum_word s.pc 4 ≡ next → LeadsIn code 1 s (stepped next s)
  leads-blt_not_taken {rs1} {rs2} {offset} here holds next_is =
      leads-on (Blt rs1 rs2 offset) here (rw holds refl) next_is

  pub leads-bge_taken : {rs1 rs2 : Register} {offset : BranchOffset} {next : ℕ} → code s.pc ≡ Some (Bge rs1 rs2 offset)
      → int_lt (signed (value s.registers rs1.number)) (signed (value s.registers rs2.number)) ≡ false → sum_word s.pc offset.word ≡ next → next % 4 ≡ 0 → LeadsIn code 1 s (stepped next s)
  leads-bge_taken {rs1} {rs2} {offset} here holds next_is aligned =
      leads-to (Bge rs1 rs2 offset) (sum_word s.pc offset.word) here (rw holds refl) next_is aligned

  pub leads-bge_not_taken : {rs1 rs2 : Register} {offset : BranchOffset} {next : ℕ} → code s.pc ≡ Some (Bge rs1 rs2 offset)
      → int_lt (signed (value s.registers rs1.number)) (signed (value s.registers rs2.number)) ≡ true → sum_word s.pc 4 ≡ next → LeadsIn code 1 s (stepped next s)
  leads-bge_not_taken {rs1} {rs2} {offset} here holds next_is =
      leads-on (Bge rs1 rs2 offset) here (rw holds refl) next_is

  pub leads-bltu_taken : {rs1 rs2 : Register} {offset : BranchOffset} {next : ℕ} → code s.pc ≡ Some (Bltu rs1 rs2 offset)
      → value s.registers rs1.number < value s.registers rs2.number → sum_word s.pc offset.word ≡ next → next % 4 ≡ 0 → LeadsIn code 1 s (stepped next s)
  leads-bltu_taken {rs1} {rs2} {offset} here holds next_is aligned =
      let test : nat_lt (value s.registers rs1.number) (value s.registers rs2.number) ≡ true = grind (arith, nat_tests) in leads-to (Bltu rs1 rs2 offset) (sum_word s.pc offset.word) here (rw test refl) next_is aligned

  pub leads-bltu_not_taken : {rs1 rs2 : Register} {offset : BranchOffset} {next : ℕ} → code s.pc ≡ Some (Bltu rs1 rs2 offset)
      → value s.registers rs2.number ≤ value s.registers rs1.number → sum_word s.pc 4 ≡ next → LeadsIn code 1 s (stepped next s)
  leads-bltu_not_taken {rs1} {rs2} {offset} here holds next_is =
      let test : nat_lt (value s.registers rs1.number) (value s.registers rs2.number) ≡ false = grind (arith, nat_tests) in leads-on (Bltu rs1 rs2 offset) here (rw test refl) next_is

  pub leads-bgeu_taken : {rs1 rs2 : Register} {offset : BranchOffset} {next : ℕ} → code s.pc ≡ Some (Bgeu rs1 rs2 offset)
      → value s.registers rs2.number ≤ value s.registers rs1.number → sum_word s.pc offset.word ≡ next → next % 4 ≡ 0 → LeadsIn code 1 s (stepped next s)
  leads-bgeu_taken {rs1} {rs2} {offset} here holds next_is aligned =
      let test : nat_lt (value s.registers rs1.number) (value s.registers rs2.number) ≡ false = grind (arith, nat_tests) in leads-to (Bgeu rs1 rs2 offset) (sum_word s.pc offset.word) here (rw test refl) next_is aligned

  pub leads-bgeu_not_taken : {rs1 rs2 : Register} {offset : BranchOffset} {next : ℕ} → code s.pc ≡ Some (Bgeu rs1 rs2 offset)
      → value s.registers rs1.number < value s.registers rs2.number → sum_word s.pc 4 ≡ next → LeadsIn code 1 s (stepped next s)
  leads-bgeu_not_taken {rs1} {rs2} {offset} here holds next_is =
      let test : nat_lt (value s.registers rs1.number) (value s.registers rs2.number) ≡ true = grind (arith, nat_tests) in leads-on (Bgeu rs1 rs2 offset) here (rw test refl) next_is

  pub leads-jal : {rd : Register} {offset : JumpOffset} {next back : ℕ} → code s.pc ≡ Some (Jal rd offset)
      → sum_word s.pc offset.word ≡ next → next % 4 ≡ 0 → sum_word s.pc 4 ≡ back
      → LeadsIn code 1 s (record (stepped next s) { registers = put rd.number back s.registers })
  leads-jal {rd} {offset} here = leads-jumps (Jal rd offset) _ here refl

  -- the bit that the jump clears is 0 at a multiple of 4
  pub leads-jalr : {rd rs1 : Register} {imm : Immediate} {next back : ℕ} → code s.pc ≡ Some (Jalr rd rs1 imm)
      → sum_word (value s.registers rs1.number) imm.word ≡ next → next % 4 ≡ 0 → sum_word s.pc 4 ≡ back
      → LeadsIn code 1 s (record (stepped next s) { registers = put rd.number back s.registers })
  leads-jalr {rd} {rs1} {imm} {next} here next_is aligned back_is =
      leads-jumps (Jalr rd rs1 imm) _ here refl (even-target _ next next_is aligned) aligned back_is

  -- ---- calls of the environment

  -- the call of an ECALL, by what it comes to
  calls-at : {next : ℕ} → code s.pc ≡ Some Ecall → sum_word s.pc 4 ≡ next → step s ≡ calls next (number_at s.memory s.pc 4) s
  calls-at {next} here next_is =
      step-at stands Ecall (goes_on s.pc Call) here refl (next-aligned stands s.pc Ecall here)
      ∙ rw next_is (acts-call 0 next (number_at s.memory s.pc 4) s)

  -- a write of some bytes puts them in one piece
  pub leads-write : {at count next : ℕ} {piece : List ℕ} → code s.pc ≡ Some Ecall
      → value s.registers 17 ≡ write_call → value s.registers 10 ≡ standard_output → value s.registers 11 ≡ at → value s.registers 12 ≡ count
      → count ≢ 0 → can_load s.parts at count ≡ true → bytes_at s.memory at count ≡ piece → sum_word s.pc 4 ≡ next
      → LeadsIn code 1 s (record (stepped next s) { registers = put 10 count s.registers; trace = s.trace ++ output piece ∷ [] })
  leads-write {at} {count} {next} {piece} here number file at_is count_is some allowed piece_is next_is =
      LeadsIn-step here (calls-at here next_is
      ∙ calls-write next (number_at s.memory s.pc 4) s number file (rw (at_is, count_is) allowed)
      ∙ ap goes (writes-some next s (λ none. some (sym count_is ∙ none)) ∙ rw (at_is, count_is, piece_is) refl))

  -- a write of no bytes puts nothing
  pub leads-write_none : {next : ℕ} → code s.pc ≡ Some Ecall
      → value s.registers 17 ≡ write_call → value s.registers 10 ≡ standard_output → value s.registers 12 ≡ 0 → can_load s.parts (value s.registers 11) 0 ≡ true → sum_word s.pc 4 ≡ next
      → LeadsIn code 1 s (record (stepped next s) { registers = put 10 0 s.registers })
  leads-write_none {next} here number file none allowed next_is =
      LeadsIn-step here (calls-at here next_is
      ∙ calls-write next (number_at s.memory s.pc 4) s number file (rw none allowed)
      ∙ ap goes (writes-none next s none ∙ rw none refl))

  -- a read takes the next byte of the input
  pub leads-read_byte : {at byte next : ℕ} {rest : List ℕ} → code s.pc ≡ Some Ecall
      → value s.registers 17 ≡ read_call → value s.registers 10 ≡ standard_input → value s.registers 11 ≡ at → value s.registers 12 ≢ 0
      → can_store s.parts at (value s.registers 12) ≡ true → s.left ≡ byte ∷ rest → sum_word s.pc 4 ≡ next
      → LeadsIn code 1 s (record (stepped next s) {
        registers = put 10 1 s.registers;
        memory = with_bytes at (byte ∷ []) s.memory;
        left = rest;
        trace = s.trace ++ input byte ∷ [];
      })
  leads-read_byte {at} {byte} {next} {rest} here number file at_is some allowed left_is next_is =
      LeadsIn-step here (calls-at here next_is
      ∙ calls-read next (number_at s.memory s.pc 4) s number file (rw at_is allowed)
      ∙ ap goes (reads-some next s some ∙ rw (left_is, at_is) refl))

  -- at the end of the input it tells that
  pub leads-read_end : {next : ℕ} → code s.pc ≡ Some Ecall
      → value s.registers 17 ≡ read_call → value s.registers 10 ≡ standard_input → value s.registers 12 ≢ 0
      → can_store s.parts (value s.registers 11) (value s.registers 12) ≡ true → s.left ≡ [] → sum_word s.pc 4 ≡ next
      → LeadsIn code 1 s (record (stepped next s) { registers = put 10 0 s.registers; trace = s.trace ++ input_end ∷ [] })
  leads-read_end {next} here number file some allowed left_is next_is =
      LeadsIn-step here (calls-at here next_is
      ∙ calls-read next (number_at s.memory s.pc 4) s number file allowed
      ∙ ap goes (reads-some next s some ∙ rw left_is refl))

  -- an exit ends the run, with the lowest 8 bits of x10
  pub step-exit : {number next : ℕ} → code s.pc ≡ Some Ecall → value s.registers 17 ≡ exit_call → value s.registers 10 % 256 ≡ number → sum_word s.pc 4 ≡ next
      → step s ≡ record { processor = stepped next s; ending = exited number }
  step-exit {number} {next} here call number_is next_is =
      calls-at here next_is ∙ calls-exit next (number_at s.memory s.pc 4) s call ∙ rw number_is refl
