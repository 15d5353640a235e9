-- The routine that prints bytes, executed.
use Rattle.std.proofs.Common.{◌≡◌, ◌≢◌, ℕ, zero, suc, ◌+◌, List, [], ◌∷◌, ◌++◌, refl, sym, ap, ◌∙◌, subst, append-nil, true, arith}
use Rattle.std.proofs.lemmas.Bool.Decides.{nat_tests}
use Rattle.kk_base.specs.Trace.{output}
use Rattle.rv_isa.specs.declared.instr.Instr.{Instr}
use Rattle.rv_isa.specs.declared.instr.Instr.TheVariants.{Jalr, Addi, Ecall}
use Rattle.rv_isa.specs.Arithmetic.{sum_word}
use Rattle.rv_isa.specs.Bytes.{bytes_at}
use Rattle.rv_isa.specs.Processor.{Processor, value, put, can_load}
use Rattle.rv_isa.specs.Environment.{stepped}
use Rattle.rv_isa.proofs.Memory.{bytes_at-none, bytes_at-more}
use Rattle.rv_isa.specs.Standing.{Code, Has, Stands, LeadsIn}
use Rattle.rv_isa.proofs.Standing.{LeadsIn-stands, next-is, LeadsIn-then}
use Rattle.rv_isa.proofs.Instructions.{leads-addi, leads-write, leads-write_none}
use Rattle.rv_isa.specs.declared.routine.Routine.TheVariants.{PrintText}
use Rattle.rv_isa.specs.declared.placed.Symbol.TheVariants.{Routine}
use Rattle.cell_runtime.specs.Registers.{KeptBy}
use Rattle.cell_runtime.specs.Lines.{Makes}
use Rattle.cell_runtime.specs.Prints.{IsPrintText, BeforePrintText, AfterPrintText, put_of}
use Rattle.rv_isa.proofs.Registers.{x0, x1, x10, x11, x12, x17}
use Rattle.cell_runtime.proofs.Operands.{imm_0, imm_1, imm_64}
use Rattle.cell_runtime.proofs.Spelling.{plain, plain_makes}
use Rattle.cell_runtime.proofs.RoutineCalls.{leads-back, then_one, returns_by}

abbrev pub print_text_code : List Instr
print_text_code =
    Addi x12 x11 imm_0 ∷ Addi x11 x10 imm_0 ∷ Addi x10 x0 imm_1 ∷ Addi x17 x0 imm_64 ∷ Ecall ∷ Jalr x0 x1 imm_0 ∷ []

-- the registers at the call of the environment
abbrev asked : (ℕ → ℕ) → ℕ → ℕ
asked registers = put 17 64 (put 10 1 (put 11 (value registers 10) (put 12 (value registers 11) registers)))

abbrev asking : Processor → Processor
asking s = record s {
  registers = asked s.registers;
  pc = s.pc + 4 + 4 + 4 + 4;
  executed = s.executed + 1 + 1 + 1 + 1;
}

-- behind it, where so many bytes were put
abbrev told : ℕ → Processor → Processor
told count s = record s {
  registers = put 10 count (asked s.registers);
  pc = s.pc + 4 + 4 + 4 + 4 + 4;
  executed = s.executed + 1 + 1 + 1 + 1 + 1;
}

module _ (code : Code) (s : Processor) (stands : Stands code s) (has : Has code s.pc print_text_code) (before : BeforePrintText s) where
  to_call : LeadsIn code 4 s (asking s)
  to_call =
      let address = before.address in
      let count = before.count in
      let first_is : sum_word (value s.registers 11) 0 ≡ value s.registers 11 = omega arith in
      let second_is : sum_word (value s.registers 10) 0 ≡ value s.registers 10 = omega arith in
      let a = leads-addi stands {v = value s.registers 11} has.0 first_is (next-is stands s.pc _ has.1.0) in
      let b = then_one stands a (λ on. leads-addi on {v = value s.registers 10} has.1.0 second_is (next-is stands (s.pc + 4) _ has.1.1.0)) in
      let c = then_one stands b (λ on. leads-addi on {v = 1} has.1.1.0 refl (next-is stands (s.pc + 4 + 4) _ has.1.1.1.0)) in
      then_one stands c (λ on. leads-addi on {v = 64} has.1.1.1.0 refl (next-is stands (s.pc + 4 + 4 + 4) _ has.1.1.1.1.0))

  called : Stands code (asking s)
  called = LeadsIn-stands to_call stands

  kept : (count x : ℕ) → KeptBy (Routine PrintText) x → value (told count s).registers x ≡ value s.registers x
  kept count x out =
      let a : x ≢ 10 = out.1.0 in
      let b : x ≢ 11 = out.1.1.0 in
      let c : x ≢ 12 = out.1.1.1.0 in
      let d : x ≢ 17 = out.1.1.1.1.1.0 in
      grind (arith, nat_tests)

  back_from : (t : Processor) → LeadsIn code 5 s t → t.pc ≡ s.pc + 4 + 4 + 4 + 4 + 4 → value t.registers 1 ≡ value s.registers 1 → LeadsIn code 6 s (stepped (value s.registers 1) t)
  back_from t leads at way =
      leads-back t stands leads (ap code at ∙ has.1.1.1.1.1.0) way before.way_back.aligned before.way_back.in_range

  -- by the number of bytes
  by_count : (count : ℕ) → value s.registers 11 ≡ count → (t : Processor) × AfterPrintText code s t
  by_count zero none =
      let allowed : can_load s.parts (value s.registers 10) 0 ≡ true = subst (λ n. can_load s.parts (value s.registers 10) n ≡ true) none before.loaded in
      let put = LeadsIn-then to_call (leads-write_none called {next = s.pc + 4 + 4 + 4 + 4 + 4} has.1.1.1.1.0 refl refl none allowed (next-is stands (s.pc + 4 + 4 + 4 + 4) _ has.1.1.1.1.1.0)) in
      let nothing : bytes_at s.memory (value s.registers 10) (value s.registers 11) ≡ [] = ap (bytes_at s.memory (value s.registers 10)) none ∙ bytes_at-none s.memory (value s.registers 10) in (
        stepped (value s.registers 1) (told 0 s),
        record {
          returns = returns_by (back_from (told 0 s) put refl refl) refl (kept 0) refl;
          trace = sym (append-nil s.trace) ∙ ap (λ piece. s.trace ++ put_of piece) (sym nothing);
          left = refl;
          memory = refl;
        },
      )
  by_count (suc n) count_is =
      let at = value s.registers 10 in
      let allowed : can_load s.parts at (suc n) ≡ true = subst (λ c. can_load s.parts at c ≡ true) count_is before.loaded in
      let piece_is : bytes_at s.memory at (value s.registers 11) ≡ s.memory at ∷ bytes_at s.memory (suc at) n = ap (bytes_at s.memory at) count_is ∙ bytes_at-more s.memory at n in
      let some : suc n ≢ 0 = λ e. cc in
      let put = LeadsIn-then to_call (leads-write called {next = s.pc + 4 + 4 + 4 + 4 + 4} has.1.1.1.1.0 refl refl refl count_is some allowed (bytes_at-more s.memory at n) (next-is stands (s.pc + 4 + 4 + 4 + 4) _ has.1.1.1.1.1.0)) in
      let t = record (told (suc n) s) { trace = s.trace ++ output (s.memory at ∷ bytes_at s.memory (suc at) n) ∷ [] } in (
        stepped (value s.registers 1) t,
        record {
          returns = returns_by (back_from t put refl refl) refl (kept (suc n)) refl;
          trace = ap (λ piece. s.trace ++ put_of piece) (sym piece_is);
          left = refl;
          memory = refl;
        },
      )

does : (code : Code) (at : ℕ) → Has code at print_text_code → IsPrintText code at
does code at has s here before =
    by_count code s here.stands (subst (λ a. Has code a print_text_code) (sym here.pc_is) has) before (value s.registers 11) refl

pub print_text_makes : Makes (plain print_text_code) 6 0 (λ memory. IsPrintText)
print_text_makes = plain_makes print_text_code (λ memory. does)
