-- The routine that reads a byte, executed.
use Rattle.std.proofs.Common.{◌≡◌, ◌≢◌, ℕ, ◌+◌, ◌-◌, ◌^◌, ◌<◌, ◌≤◌, ◌⊎◌, inl, inr, List, [], ◌∷◌, ◌++◌, refl, sym, ◌∙◌, subst, arith}
use Rattle.std.proofs.lemmas.Bool.Decides.{nat_tests}
use Rattle.kk_base.specs.Trace.{input, input_end}
use Rattle.rv_isa.specs.declared.immediate.Immediate.{Immediate}
use Rattle.rv_isa.specs.declared.immediate.UpperImmediate.{UpperImmediate}
use Rattle.rv_isa.specs.declared.instr.Instr.{Instr}
use Rattle.rv_isa.specs.declared.instr.Instr.TheVariants.{Lui, Addi, Ecall, Bne, Lbu, Jalr}
use Rattle.rv_isa.specs.Arithmetic.{sum_word}
use Rattle.rv_isa.specs.Bytes.{with_bytes}
use Rattle.rv_isa.specs.Processor.{Processor, value, put}
use Rattle.rv_isa.specs.Environment.{stepped}
use Rattle.rv_isa.proofs.Memory.{with_byte-same, with_byte-apart}
use Rattle.rv_isa.specs.Standing.{Code, Has, Stands, LeadsIn}
use Rattle.rv_isa.proofs.Standing.{next-is}
use Rattle.rv_isa.proofs.Instructions.{leads-lui, leads-addi, leads-bne_taken, leads-bne_not_taken, leads-lbu, leads-read_byte, leads-read_end, value-put_other}
use Rattle.rv_isa.specs.declared.routine.Routine.TheVariants.{ReadByte}
use Rattle.rv_isa.specs.declared.placed.Symbol.TheVariants.{Routine}
use Rattle.rv_isa.specs.declared.placed.Native.TheVariants.{Address}
use Rattle.rv_isa.specs.declared.placed.Section.TheVariants.{Data}
use Rattle.cell_runtime.specs.Registers.{KeptBy}
use Rattle.cell_runtime.specs.Lines.{Makes}
use Rattle.cell_runtime.specs.Prints.{IsReadByte, BeforeReadByte, TakesNext, AfterReadByte}
use Rattle.rv_isa.proofs.Registers.{x0, x1, x10, x11, x12, x17}
use Rattle.cell_runtime.proofs.Operands.{imm_0, imm_1, imm_63, imm_minus_1, forward_8}
use Rattle.cell_runtime.proofs.Spelling.{plain, address_makes}
use Rattle.cell_runtime.proofs.RoutineCalls.{leads-back, then_one, returns_by}

abbrev pub read_byte_code : List Instr
read_byte_code =
    Addi x12 x0 imm_1 ∷ Addi x10 x0 imm_0 ∷ Addi x17 x0 imm_63 ∷ Ecall ∷ Addi x10 x10 imm_minus_1 ∷ Bne x10 x0 forward_8
    ∷ Lbu x10 x11 imm_0 ∷ Jalr x0 x1 imm_0 ∷ []

-- the registers at the call of the environment
abbrev asked : ℕ → ℕ → (ℕ → ℕ) → ℕ → ℕ
asked upper buffer registers = put 17 63 (put 10 0 (put 12 1 (put 11 buffer (put 11 upper registers))))

module _ (code : Code) (buffer : ℕ) (u : UpperImmediate) (l : Immediate) (sum : sum_word u.word l.word ≡ buffer) (s : Processor) (stands : Stands code s) (has : Has code s.pc (Lui x11 u ∷ Addi x11 x11 l ∷ read_byte_code)) where
  asking : LeadsIn code 5 s (record s { registers = asked u.word buffer s.registers; pc = s.pc + 4 + 4 + 4 + 4 + 4; executed = s.executed + 1 + 1 + 1 + 1 + 1 })
  asking =
      let a = leads-lui stands {v = u.word} has.0 refl (next-is stands s.pc _ has.1.0) in
      let b = then_one stands a (λ here. leads-addi here {v = buffer} has.1.0 sum (next-is stands (s.pc + 4) _ has.1.1.0)) in
      let c = then_one stands b (λ here. leads-addi here {v = 1} has.1.1.0 refl (next-is stands (s.pc + 4 + 4) _ has.1.1.1.0)) in
      let d = then_one stands c (λ here. leads-addi here {v = 0} has.1.1.1.0 refl (next-is stands (s.pc + 4 + 4 + 4) _ has.1.1.1.1.0)) in
      then_one stands d (λ here. leads-addi here {v = 63} has.1.1.1.1.0 refl (next-is stands (s.pc + 4 + 4 + 4 + 4) _ has.1.1.1.1.1.0))

  behind : Has code (s.pc + 4 + 4 + 4 + 4 + 4 + 4) (Addi x10 x10 imm_minus_1 ∷ Bne x10 x0 forward_8 ∷ Lbu x10 x11 imm_0 ∷ Jalr x0 x1 imm_0 ∷ [])
  behind = has.1.1.1.1.1.1

  not_there : (x : ℕ) → (x < buffer) ⊎ (buffer + 1 ≤ x) → x ≢ buffer
  not_there x (inl low) = omega arith
  not_there x (inr high) = omega arith

  kept : (x : ℕ) → KeptBy (Routine ReadByte) x → value (asked u.word buffer s.registers) x ≡ value s.registers x
  kept x out =
      let a : x ≢ 10 = out.1.0 in
      let b : x ≢ 11 = out.1.1.0 in
      let c : x ≢ 12 = out.1.1.1.0 in
      let d : x ≢ 17 = out.1.1.1.1.1.0 in
      grind (arith, nat_tests)

  kept_twice : (v w x : ℕ) → KeptBy (Routine ReadByte) x → value (put 10 v (put 10 w (asked u.word buffer s.registers))) x ≡ value s.registers x
  kept_twice v w x out = value-put_other 10 v (put 10 w (asked u.word buffer s.registers)) x out.1.0 ∙ value-put_other 10 w (asked u.word buffer s.registers) x out.1.0 ∙ kept x out

  kept_thrice : (v w y x : ℕ) → KeptBy (Routine ReadByte) x → value (put 10 v (put 10 w (put 10 y (asked u.word buffer s.registers)))) x ≡ value s.registers x
  kept_thrice v w y x out = value-put_other 10 v (put 10 w (put 10 y (asked u.word buffer s.registers))) x out.1.0 ∙ kept_twice w y x out

  -- from behind the call, where x10 has its word, to the jump back
  module _ (before : BeforeReadByte buffer s) where
    at_end : s.left ≡ [] → (t : Processor) × AfterReadByte code buffer s t
    at_end none =
        let asked_end = then_one stands asking (λ here. leads-read_end here {next = s.pc + 4 + 4 + 4 + 4 + 4 + 4} has.1.1.1.1.1.0 refl refl (λ e. cc) before.stored none (next-is stands (s.pc + 4 + 4 + 4 + 4 + 4) _ has.1.1.1.1.1.1.0)) in
        let less = then_one stands asked_end (λ here. leads-addi here {v = 2 ^ 32 - 1} behind.0 refl (next-is stands (s.pc + 4 + 4 + 4 + 4 + 4 + 4) _ behind.1.0)) in
        let below = stands.below (s.pc + 4 + 4 + 4 + 4 + 4 + 4 + 4 + 4 + 4) _ behind.1.1.1.0 in
        let aligned = stands.aligned (s.pc + 4 + 4 + 4 + 4 + 4 + 4 + 4 + 4 + 4) _ behind.1.1.1.0 in
        let over = then_one stands less (λ here. leads-bne_taken here {next = s.pc + 4 + 4 + 4 + 4 + 4 + 4 + 4 + 4 + 4} behind.1.0 (λ e. cc) (omega arith) aligned) in
        let t = record s {
          registers = put 10 (2 ^ 32 - 1) (put 10 0 (asked u.word buffer s.registers));
          pc = s.pc + 4 + 4 + 4 + 4 + 4 + 4 + 4 + 4 + 4;
          executed = s.executed + 1 + 1 + 1 + 1 + 1 + 1 + 1 + 1;
          trace = s.trace ++ input_end ∷ [];
        } in (
          stepped (value s.registers 1) t,
          record {
            takes = subst (λ left. TakesNext code left s (stepped (value s.registers 1) t)) (sym none) (
              returns_by (leads-back t stands over behind.1.1.1.0 refl before.way_back.aligned before.way_back.in_range) refl (λ x out. kept_twice (2 ^ 32 - 1) 0 x out) refl,
              refl,
              refl,
              none,
            );
            memory = λ x outside. refl;
          },
        )

    takes_byte : (byte : ℕ) (rest : List ℕ) → s.left ≡ byte ∷ rest → (t : Processor) × AfterReadByte code buffer s t
    takes_byte byte rest some =
        let allowed = before.loaded in
        let below = before.in_range in
        let asked_byte = then_one stands asking (λ here. leads-read_byte here {next = s.pc + 4 + 4 + 4 + 4 + 4 + 4} has.1.1.1.1.1.0 refl refl refl (λ e. cc) before.stored some (next-is stands (s.pc + 4 + 4 + 4 + 4 + 4) _ has.1.1.1.1.1.1.0)) in
        let less = then_one stands asked_byte (λ here. leads-addi here {v = 0} behind.0 refl (next-is stands (s.pc + 4 + 4 + 4 + 4 + 4 + 4) _ behind.1.0)) in
        let on = then_one stands less (λ here. leads-bne_not_taken here {next = s.pc + 4 + 4 + 4 + 4 + 4 + 4 + 4 + 4} behind.1.0 refl (next-is stands (s.pc + 4 + 4 + 4 + 4 + 4 + 4 + 4) _ behind.1.1.0)) in
        let there : sum_word buffer 0 ≡ buffer = omega arith in
        let loaded = then_one stands on (λ here. leads-lbu here {at = buffer} {v = byte} behind.1.1.0 there allowed (with_byte-same buffer byte s.memory) (next-is stands (s.pc + 4 + 4 + 4 + 4 + 4 + 4 + 4 + 4) _ behind.1.1.1.0)) in
        let t = record s {
          registers = put 10 byte (put 10 0 (put 10 1 (asked u.word buffer s.registers)));
          pc = s.pc + 4 + 4 + 4 + 4 + 4 + 4 + 4 + 4 + 4;
          executed = s.executed + 1 + 1 + 1 + 1 + 1 + 1 + 1 + 1 + 1;
          memory = with_bytes buffer (byte ∷ []) s.memory;
          left = rest;
          trace = s.trace ++ input byte ∷ [];
        } in (
          stepped (value s.registers 1) t,
          record {
            takes = subst (λ left. TakesNext code left s (stepped (value s.registers 1) t)) (sym some) (
              returns_by (leads-back t stands loaded behind.1.1.1.0 refl before.way_back.aligned before.way_back.in_range) refl (λ x out. kept_thrice byte 0 1 x out) refl,
              refl,
              refl,
              refl,
            );
            memory = λ x outside. with_byte-apart buffer byte s.memory x (not_there x outside);
          },
        )

    by_left : (left : List ℕ) → s.left ≡ left → (t : Processor) × AfterReadByte code buffer s t
    by_left [] none = at_end none
    by_left (byte ∷ rest) some = takes_byte byte rest some

does : (memory : ℕ) (code : Code) (at : ℕ) (u : UpperImmediate) (l : Immediate) → sum_word u.word l.word ≡ memory + 0 → Has code at (Lui x11 u ∷ Addi x11 x11 l ∷ read_byte_code) → IsReadByte memory code at
does memory code at u l sum has s here before =
    let start : memory + 0 ≡ memory = omega arith in
    by_left code memory u l (sum ∙ start) s here.stands (subst (λ a. Has code a (Lui x11 u ∷ Addi x11 x11 l ∷ read_byte_code)) (sym here.pc_is) has) before s.left refl

pub read_byte_makes : Makes (Address x11 Data 0 ∷ plain read_byte_code) 10 0 IsReadByte
read_byte_makes = address_makes x11 0 read_byte_code does
