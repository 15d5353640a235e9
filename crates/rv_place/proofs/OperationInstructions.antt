-- Operations as instructions.
use Rattle.std.proofs.Common.{◌≡◌, ℕ, List, [], ◌∷◌, Option, Some, refl, sym, ap, ◌∙◌, subst}
use Rattle.std.specs.List.{slice_get}
use Rattle.rv_isa.specs.declared.register.Register.{Register}
use Rattle.rv_isa.specs.declared.immediate.Immediate.{Immediate}
use Rattle.rv_isa.specs.declared.immediate.ShiftAmount.{ShiftAmount}
use Rattle.rv_isa.specs.declared.immediate.UpperImmediate.{UpperImmediate}
use Rattle.rv_isa.specs.declared.instr.Instr.{Instr}
use Rattle.rv_isa.specs.declared.instr.Instr.TheVariants.{Addi, Lui, Lw, Sw}
use Rattle.rv_isa.specs.declared.asm.Operation.{Operation}
use Rattle.rv_isa.specs.declared.asm.RegisterOperation.{RegisterOperation}
use Rattle.rv_isa.specs.declared.asm.ImmediateOperation.{ImmediateOperation}
use Rattle.rv_isa.specs.declared.asm.ShiftOperation.{ShiftOperation}
use Rattle.rv_isa.specs.declared.placed.Operand.{Operand}
use Rattle.rv_isa.specs.Standing.{Code}
use Rattle.cell_runtime.specs.Operations.{Constants, address_in}
use Rattle.rv_place.specs.Instructions.{Zero, LoadsWord, form_of, SetsBy, words_of_form, SetsWord, words_of_constant, RaisesCount, FreesToken, Computes, register_instruction, immediate_instruction, shift_instruction, words_of_operation}
use Rattle.rv_place.specs.declared.chart.Chart.{Chart}
use Rattle.rv_place.specs.declared.reach.WordForm.{WordForm}
use Rattle.rv_place.specs.declared.reach.WordForm.TheVariants.{Short, Upper}
use Rattle.cell_runtime.proofs.ItemEquality.{same_addi}
use Rattle.rv_place.specs.Emitted.{Grew, register_or_zero, OperationBy}
use Rattle.rv_place.proofs.Emissions.{grew_so}
use Rattle.rv_place.proofs.Operands.{register_in, operand_register, register_of_into}

-- what stands for an operation whose arguments are these registers, or any others
module _ (constants : Constants) (code : Code) (at : ℕ) where
  computes_two : (of : RegisterOperation) (registers : List Register) (rd : Register) → code at ≡ Some (register_instruction of rd (register_in registers 0) (register_in registers 1))
      → Computes constants code at (Operation.Register of) registers rd
  computes_two of [] rd here = tt
  computes_two of (a ∷ []) rd here = tt
  computes_two of (a ∷ b ∷ []) rd here = here
  computes_two of (a ∷ b ∷ more ∷ rest) rd here = tt

  computes_immediate : (of : ImmediateOperation) (imm : Immediate) (registers : List Register) (rd : Register) → code at ≡ Some (immediate_instruction of rd (register_in registers 0) imm)
      → Computes constants code at (Operation.Immediate of imm) registers rd
  computes_immediate of imm [] rd here = tt
  computes_immediate of imm (a ∷ []) rd here = here
  computes_immediate of imm (a ∷ more ∷ rest) rd here = tt

  computes_shift : (of : ShiftOperation) (amount : ShiftAmount) (registers : List Register) (rd : Register) → code at ≡ Some (shift_instruction of rd (register_in registers 0) amount)
      → Computes constants code at (Operation.Shift of amount) registers rd
  computes_shift of amount [] rd here = tt
  computes_shift of amount (a ∷ []) rd here = here
  computes_shift of amount (a ∷ more ∷ rest) rd here = tt

  computes_copy : (imm : Immediate) (registers : List Register) (rd : Register) → Zero imm → code at ≡ Some (Addi rd (register_in registers 0) imm)
      → Computes constants code at Operation.Mv registers rd
  computes_copy imm [] rd zero here = tt
  computes_copy imm (a ∷ []) rd zero here = (imm, zero, here)
  computes_copy imm (a ∷ more ∷ rest) rd zero here = tt

  computes_word : (word : ℕ) (registers : List Register) (rd : Register) → SetsWord code at rd word → Computes constants code at (Operation.Li word) registers rd
  computes_word word [] rd here = here
  computes_word word (more ∷ rest) rd here = tt

  computes_address : (index : ℕ) (registers : List Register) (rd : Register)
      → ((address : ℕ) → address_in constants.first constants.texts index ≡ Some address → LoadsWord code at rd address) → Computes constants code at (Operation.La index) registers rd
  computes_address index [] rd here = here
  computes_address index (more ∷ rest) rd here = tt

  computes_load : (offset : Immediate) (registers : List Register) (rd : Register) → code at ≡ Some (Lw rd (register_in registers 0) offset) → Computes constants code at (Operation.Lw offset) registers rd
  computes_load offset [] rd here = tt
  computes_load offset (a ∷ []) rd here = here
  computes_load offset (a ∷ more ∷ rest) rd here = tt

  computes_store : (offset : Immediate) (registers : List Register) (rd : Register) → code at ≡ Some (Sw (register_in registers 0) (register_in registers 1) offset) → Computes constants code at (Operation.Sw offset) registers rd
  computes_store offset [] rd here = tt
  computes_store offset (a ∷ []) rd here = tt
  computes_store offset (a ∷ b ∷ []) rd here = here
  computes_store offset (a ∷ b ∷ more ∷ rest) rd here = tt

  computes_dup : (registers : List Register) (rd : Register) → RaisesCount code at (register_in registers 0) → Computes constants code at Operation.Dup registers rd
  computes_dup [] rd here = tt
  computes_dup (a ∷ []) rd here = here
  computes_dup (a ∷ more ∷ rest) rd here = tt

  computes_free : (registers : List Register) (rd : Register) → FreesToken code at (register_in registers 0) → Computes constants code at Operation.Free registers rd
  computes_free [] rd here = tt
  computes_free (a ∷ []) rd here = here
  computes_free (a ∷ more ∷ rest) rd here = tt

-- a constant that one instruction makes
module _ {word : ℕ} {rd : Register} {old new : List Instr} where
  pub set_short : {zero : Register} → Short ≡ form_of word → zero.number ≡ 0 → (imm : Immediate) → imm.word ≡ word → Grew 1 (λ code at. code at ≡ Some (Addi rd zero imm)) old new
      → Grew (words_of_constant word) (λ code at. SetsWord code at rd word) old new
  set_short form zero_is imm imm_is grew =
      subst (λ (f : WordForm). Grew (words_of_form f) (λ code at. SetsBy f code at rd word) old new) form
      (grew_so refl (λ code at here. (imm, imm_is, here ∙ ap Some (same_addi refl zero_is refl))) grew)

  pub set_upper : Upper ≡ form_of word → (upper : UpperImmediate) → upper.word ≡ word → Grew 1 (λ code at. code at ≡ Some (Lui rd upper)) old new
      → Grew (words_of_constant word) (λ code at. SetsWord code at rd word) old new
  set_upper form upper upper_is grew =
      subst (λ (f : WordForm). Grew (words_of_form f) (λ code at. SetsBy f code at rd word) old new) form
      (grew_so refl (λ code at here. (upper, upper_is, here)) grew)

module _ (chart : Chart) (args : List Operand) (into : Option Operand) {old new : List Instr} {operation : Operation} where
  -- an operation that is one instruction, on the registers of its result and of its arguments
  on_row : (of : Operation) (make : Register → Register → Register → Instr) {rd a b : Register} {i : Instr} → words_of_operation of ≡ 1
      → ((constants : Constants) (code : Code) (at : ℕ) (registers : List Register) (goal : Register)
      → code at ≡ Some (make goal (register_in registers 0) (register_in registers 1)) → Computes constants code at of registers goal)
      → operation ≡ of → rd ≡ register_or_zero into → a ≡ register_or_zero (slice_get args 0) → b ≡ register_or_zero (slice_get args 1)
      → i ≡ make rd a b → Grew 1 (λ code at. code at ≡ Some i) old new
      → Grew (words_of_operation operation) (OperationBy chart operation args into) old new
  on_row of make {rd} {a} {b} size computes is rd_is a_is b_is i_is emitted =
      subst (λ o. Grew (words_of_operation o) (OperationBy chart o args into) old new) (sym is)
      (grew_so (sym size)
      (λ code at here map charts registers goal are goes.
      let to : rd ≡ goal = rd_is ∙ register_of_into into goal goes in
      let first : a ≡ register_in registers 0 = a_is ∙ operand_register args registers 0 are in
      let second : b ≡ register_in registers 1 = b_is ∙ operand_register args registers 1 are in
      let made : make rd a b ≡ make goal (register_in registers 0) (register_in registers 1) =
      ap (λ r. make r a b) to ∙ ap (λ r. make goal r b) first ∙ ap (make goal (register_in registers 0)) second in
      computes map.constants code at registers goal (here ∙ ap Some (i_is ∙ made)))
      emitted)

  pub on_two : {of : RegisterOperation} {rd a b : Register} {i : Instr} → operation ≡ Operation.Register of
      → rd ≡ register_or_zero into → a ≡ register_or_zero (slice_get args 0) → b ≡ register_or_zero (slice_get args 1) → i ≡ register_instruction of rd a b
      → Grew 1 (λ code at. code at ≡ Some i) old new → Grew (words_of_operation operation) (OperationBy chart operation args into) old new
  on_two {of} is rd_is a_is b_is i_is emitted =
      on_row (Operation.Register of) (register_instruction of) refl
      (λ constants code at registers goal here. computes_two constants code at of registers goal here) is rd_is a_is b_is i_is emitted

  pub on_immediate : {of : ImmediateOperation} {imm : Immediate} {rd a : Register} {i : Instr} → operation ≡ Operation.Immediate of imm
      → rd ≡ register_or_zero into → a ≡ register_or_zero (slice_get args 0) → i ≡ immediate_instruction of rd a imm
      → Grew 1 (λ code at. code at ≡ Some i) old new → Grew (words_of_operation operation) (OperationBy chart operation args into) old new
  on_immediate {of} {imm} is rd_is a_is i_is emitted =
      on_row (Operation.Immediate of imm) (λ rd a b. immediate_instruction of rd a imm) refl
      (λ constants code at registers goal here. computes_immediate constants code at of imm registers goal here) is rd_is a_is refl i_is emitted

  pub on_shift : {of : ShiftOperation} {amount : ShiftAmount} {rd a : Register} {i : Instr} → operation ≡ Operation.Shift of amount
      → rd ≡ register_or_zero into → a ≡ register_or_zero (slice_get args 0) → i ≡ shift_instruction of rd a amount
      → Grew 1 (λ code at. code at ≡ Some i) old new → Grew (words_of_operation operation) (OperationBy chart operation args into) old new
  on_shift {of} {amount} is rd_is a_is i_is emitted =
      on_row (Operation.Shift of amount) (λ rd a b. shift_instruction of rd a amount) refl
      (λ constants code at registers goal here. computes_shift constants code at of amount registers goal here) is rd_is a_is refl i_is emitted

  pub on_copy : {imm : Immediate} {rd a : Register} → operation ≡ Operation.Mv
      → rd ≡ register_or_zero into → a ≡ register_or_zero (slice_get args 0) → Zero imm
      → Grew 1 (λ code at. code at ≡ Some (Addi rd a imm)) old new → Grew (words_of_operation operation) (OperationBy chart operation args into) old new
  on_copy {imm} is rd_is a_is zero emitted =
      on_row Operation.Mv (λ rd a b. Addi rd a imm) refl
      (λ constants code at registers goal here. computes_copy constants code at imm registers goal zero here) is rd_is a_is refl refl emitted

  pub on_word : {word : ℕ} {rd : Register} → operation ≡ Operation.Li word → rd ≡ register_or_zero into
      → Grew (words_of_constant word) (λ code at. SetsWord code at rd word) old new → Grew (words_of_operation operation) (OperationBy chart operation args into) old new
  on_word {word} {rd} is rd_is emitted =
      subst (λ o. Grew (words_of_operation o) (OperationBy chart o args into) old new) (sym is)
      (grew_so refl
      (λ code at here map charts registers goal are goes.
      computes_word map.constants code at word registers goal (subst (λ r. SetsWord code at r word) (rd_is ∙ register_of_into into goal goes) here))
      emitted)

  pub on_address : {index word : ℕ} {rd : Register} → operation ≡ Operation.La index → rd ≡ register_or_zero into
      → ((address : ℕ) → slice_get chart.constants.items index ≡ Some address → word ≡ address)
      → Grew 2 (λ code at. LoadsWord code at rd word) old new → Grew (words_of_operation operation) (OperationBy chart operation args into) old new
  on_address {index} {word} {rd} is rd_is word_is emitted =
      subst (λ o. Grew (words_of_operation o) (OperationBy chart o args into) old new) (sym is)
      (grew_so refl
      (λ code at here map charts registers goal are goes.
      computes_address map.constants code at index registers goal (λ address there.
      subst (LoadsWord code at goal) (word_is address (charts.constants index address there))
      (subst (λ r. LoadsWord code at r word) (rd_is ∙ register_of_into into goal goes) here)))
      emitted)

  pub on_load : {offset : Immediate} {rd a : Register} → operation ≡ Operation.Lw offset
      → rd ≡ register_or_zero into → a ≡ register_or_zero (slice_get args 0)
      → Grew 1 (λ code at. code at ≡ Some (Lw rd a offset)) old new → Grew (words_of_operation operation) (OperationBy chart operation args into) old new
  on_load {offset} is rd_is a_is emitted =
      on_row (Operation.Lw offset) (λ rd a b. Lw rd a offset) refl
      (λ constants code at registers goal here. computes_load constants code at offset registers goal here) is rd_is a_is refl refl emitted

  pub on_store : {offset : Immediate} {a b : Register} → operation ≡ Operation.Sw offset
      → a ≡ register_or_zero (slice_get args 0) → b ≡ register_or_zero (slice_get args 1)
      → Grew 1 (λ code at. code at ≡ Some (Sw a b offset)) old new → Grew (words_of_operation operation) (OperationBy chart operation args into) old new
  on_store {offset} is a_is b_is emitted =
      on_row (Operation.Sw offset) (λ rd a b. Sw a b offset) refl
      (λ constants code at registers goal here. computes_store constants code at offset registers goal here) is refl a_is b_is refl emitted

  pub on_dup : {a : Register} → operation ≡ Operation.Dup → a ≡ register_or_zero (slice_get args 0)
      → Grew 5 (λ code at. RaisesCount code at a) old new → Grew (words_of_operation operation) (OperationBy chart operation args into) old new
  on_dup {a} is a_is emitted =
      subst (λ o. Grew (words_of_operation o) (OperationBy chart o args into) old new) (sym is)
      (grew_so refl
      (λ code at here map charts registers goal are goes.
      computes_dup map.constants code at registers goal (subst (λ r. RaisesCount code at r) (a_is ∙ operand_register args registers 0 are) here))
      emitted)

  pub on_free : {a : Register} → operation ≡ Operation.Free → a ≡ register_or_zero (slice_get args 0)
      → Grew 3 (λ code at. FreesToken code at a) old new → Grew (words_of_operation operation) (OperationBy chart operation args into) old new
  on_free {a} is a_is emitted =
      subst (λ o. Grew (words_of_operation o) (OperationBy chart o args into) old new) (sym is)
      (grew_so refl
      (λ code at here map charts registers goal are goes.
      computes_free map.constants code at registers goal (subst (λ r. FreesToken code at r) (a_is ∙ operand_register args registers 0 are) here))
      emitted)
