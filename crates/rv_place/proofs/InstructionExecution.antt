-- Instructions of placed code, executed: what they change is told by facts, so that no state of the machine stands in what follows.
use Rattle.std.proofs.Common.{◌≡◌, ◌≢◌, ◌<◌, All, ℕ, ◌+◌, ◌%◌, ◌^◌, List, [], ◌∷◌, ◌++◌, Some, Bool, true, false, not, refl, sym, ap, ◌∙◌, subst, arith}
use Rattle.rv_isa.specs.Numbers.{cell_size}
use Rattle.rv_isa.specs.declared.act.Effect.{Effect}
use Rattle.rv_isa.specs.declared.immediate.JumpOffset.{JumpOffset}
use Rattle.rv_isa.specs.declared.register.Register.{Register}
use Rattle.rv_isa.specs.declared.immediate.Immediate.{Immediate}
use Rattle.rv_isa.specs.declared.immediate.UpperImmediate.{UpperImmediate}
use Rattle.rv_isa.specs.declared.immediate.ShiftAmount.{ShiftAmount}
use Rattle.rv_isa.specs.declared.immediate.BranchOffset.{BranchOffset}
use Rattle.rv_isa.specs.declared.act.Act.TheVariants as Act
use Rattle.rv_isa.specs.declared.instr.Instr.{Instr}
use Rattle.rv_isa.specs.declared.asm.Condition.{Condition}
use Rattle.rv_isa.specs.declared.asm.Condition.TheVariants.{Equal, NotEqual, Less, GreaterEqual, LessUnsigned, GreaterEqualUnsigned}
use Rattle.rv_isa.specs.declared.asm.RegisterOperation.{RegisterOperation}
use Rattle.rv_isa.specs.declared.asm.RegisterOperation.TheVariants.{Add, Sub, Sll, Slt, Sltu, Xor, Srl, Sra, Or, And, Mul, Mulh, Mulhsu, Mulhu, Div, Divu, Rem, Remu}
use Rattle.rv_isa.specs.declared.asm.ImmediateOperation.{ImmediateOperation}
use Rattle.rv_isa.specs.declared.asm.ImmediateOperation.TheVariants.{Addi, Slti, Sltiu, Xori, Ori, Andi}
use Rattle.rv_isa.specs.declared.asm.ShiftOperation.{ShiftOperation}
use Rattle.rv_isa.specs.declared.asm.ShiftOperation.TheVariants.{Slli, Srli, Srai}
use Rattle.rv_isa.specs.Arithmetic.{sum_word}
use Rattle.rv_isa.specs.Operands.{rd_of, rs1_of, rs2_of}
use Rattle.rv_isa.specs.Meaning.{sets, branches, effect_of}
use Rattle.rv_isa.specs.Bytes.{Apart, number_at, with_number}
use Rattle.rv_isa.specs.FreeCells.{free_list}
use Rattle.rv_isa.specs.FreeTouches.{Avoids, AvoidsFreeCells}
use Rattle.rv_isa.specs.Processor.{Processor, value, put, can_load, can_store}
use Rattle.rv_isa.specs.Environment.{stepped}
use Rattle.rv_isa.specs.Execution.{rv32im, effect_at, Leads, Along}
use Rattle.rv_isa.specs.Standing.{Code, Stands}
use Rattle.rv_isa.specs.Opposites.{opposite}
use Rattle.rv_isa.proofs.WordEffects.{EffectFits, effect_of_fits}
use Rattle.rv_isa.proofs.Runs.{run-zero, Leads-none, Leads-then, Leads-each}
use Rattle.rv_isa.proofs.Standing.{Stands-leads}
use Rattle.rv_isa.proofs.Instructions.{value-put_same, value-put_other, leads-sets, leads-to, leads-lw, leads-sw, leads-jal, leads-jalr}
use Rattle.cell_runtime.specs.Registers.{IsOutside}
use Rattle.cell_runtime.specs.Operations.{register_word, immediate_word, shift_word, compares}
use Rattle.rv_place.specs.Instructions.{register_instruction, immediate_instruction, shift_instruction, branch_instruction}

-- ---- the table

-- an instruction that sets a register to a word of its sources
pub record IsPlain (i : Instr) (rd a b : ℕ) (word : ℕ → ℕ → ℕ) : Type 0 where
  pub rd_is : rd_of i ≡ rd
  pub rs1_is : rs1_of i ≡ a
  pub rs2_is : rs2_of i ≡ b
  pub effect : (pc x y : ℕ) → effect_of i pc x y ≡ sets pc (word x y)

pub addi_row : (rd a : Register) (imm : Immediate) → IsPlain (Instr.Addi rd a imm) rd.number a.number 0 (λ x y. sum_word x imm.word)
addi_row rd a imm = record { rd_is = refl; rs1_is = refl; rs2_is = refl; effect = λ pc x y. refl }

pub lui_row : (rd : Register) (imm : UpperImmediate) → IsPlain (Instr.Lui rd imm) rd.number 0 0 (λ x y. imm.word)
lui_row rd imm = record { rd_is = refl; rs1_is = refl; rs2_is = refl; effect = λ pc x y. refl }

pub register_row : (operation : RegisterOperation) (rd a b : Register) → IsPlain (register_instruction operation rd a b) rd.number a.number b.number (register_word operation)
register_row Add rd a b = record { rd_is = refl; rs1_is = refl; rs2_is = refl; effect = λ pc x y. refl }
register_row Sub rd a b = record { rd_is = refl; rs1_is = refl; rs2_is = refl; effect = λ pc x y. refl }
register_row Sll rd a b = record { rd_is = refl; rs1_is = refl; rs2_is = refl; effect = λ pc x y. refl }
register_row Slt rd a b = record { rd_is = refl; rs1_is = refl; rs2_is = refl; effect = λ pc x y. refl }
register_row Sltu rd a b = record { rd_is = refl; rs1_is = refl; rs2_is = refl; effect = λ pc x y. refl }
register_row Xor rd a b = record { rd_is = refl; rs1_is = refl; rs2_is = refl; effect = λ pc x y. refl }
register_row Srl rd a b = record { rd_is = refl; rs1_is = refl; rs2_is = refl; effect = λ pc x y. refl }
register_row Sra rd a b = record { rd_is = refl; rs1_is = refl; rs2_is = refl; effect = λ pc x y. refl }
register_row Or rd a b = record { rd_is = refl; rs1_is = refl; rs2_is = refl; effect = λ pc x y. refl }
register_row And rd a b = record { rd_is = refl; rs1_is = refl; rs2_is = refl; effect = λ pc x y. refl }
register_row Mul rd a b = record { rd_is = refl; rs1_is = refl; rs2_is = refl; effect = λ pc x y. refl }
register_row Mulh rd a b = record { rd_is = refl; rs1_is = refl; rs2_is = refl; effect = λ pc x y. refl }
register_row Mulhsu rd a b = record { rd_is = refl; rs1_is = refl; rs2_is = refl; effect = λ pc x y. refl }
register_row Mulhu rd a b = record { rd_is = refl; rs1_is = refl; rs2_is = refl; effect = λ pc x y. refl }
register_row Div rd a b = record { rd_is = refl; rs1_is = refl; rs2_is = refl; effect = λ pc x y. refl }
register_row Divu rd a b = record { rd_is = refl; rs1_is = refl; rs2_is = refl; effect = λ pc x y. refl }
register_row Rem rd a b = record { rd_is = refl; rs1_is = refl; rs2_is = refl; effect = λ pc x y. refl }
register_row Remu rd a b = record { rd_is = refl; rs1_is = refl; rs2_is = refl; effect = λ pc x y. refl }

pub immediate_row : (operation : ImmediateOperation) (rd a : Register) (imm : Immediate) → IsPlain (immediate_instruction operation rd a imm) rd.number a.number 0 (λ x y. immediate_word operation x imm.word)
immediate_row Addi rd a imm = record { rd_is = refl; rs1_is = refl; rs2_is = refl; effect = λ pc x y. refl }
immediate_row Slti rd a imm = record { rd_is = refl; rs1_is = refl; rs2_is = refl; effect = λ pc x y. refl }
immediate_row Sltiu rd a imm = record { rd_is = refl; rs1_is = refl; rs2_is = refl; effect = λ pc x y. refl }
immediate_row Xori rd a imm = record { rd_is = refl; rs1_is = refl; rs2_is = refl; effect = λ pc x y. refl }
immediate_row Ori rd a imm = record { rd_is = refl; rs1_is = refl; rs2_is = refl; effect = λ pc x y. refl }
immediate_row Andi rd a imm = record { rd_is = refl; rs1_is = refl; rs2_is = refl; effect = λ pc x y. refl }

pub shift_row : (operation : ShiftOperation) (rd a : Register) (amount : ShiftAmount) → IsPlain (shift_instruction operation rd a amount) rd.number a.number 0 (λ x y. shift_word operation x amount.places)
shift_row Slli rd a amount = record { rd_is = refl; rs1_is = refl; rs2_is = refl; effect = λ pc x y. refl }
shift_row Srli rd a amount = record { rd_is = refl; rs1_is = refl; rs2_is = refl; effect = λ pc x y. refl }
shift_row Srai rd a amount = record { rd_is = refl; rs1_is = refl; rs2_is = refl; effect = λ pc x y. refl }

-- the word is one of 32 bits
pub plain_fits : {i : Instr} {rd a b : ℕ} {word : ℕ → ℕ → ℕ} → IsPlain i rd a b word → (x y : ℕ) → x < 2 ^ 32 → y < 2 ^ 32 → word x y < 2 ^ 32
plain_fits {i} plain x y x_fits y_fits = (subst EffectFits (plain.effect 0 x y) (effect_of_fits i 0 x y x_fits y_fits)).act

-- a branch goes to its target where its condition holds
pub branch_effect : (condition : Condition) (a b : Register) (offset : BranchOffset) (s : Processor)
    → effect_at s (branch_instruction condition a b offset) ≡ branches s.pc (compares condition (value s.registers a.number) (value s.registers b.number)) offset
branch_effect Equal a b offset s = refl
branch_effect NotEqual a b offset s = refl
branch_effect Less a b offset s = refl
branch_effect GreaterEqual a b offset s = refl
branch_effect LessUnsigned a b offset s = refl
branch_effect GreaterEqualUnsigned a b offset s = refl

twice : (test : Bool) → not (not test) ≡ test
twice true = refl
twice false = refl

-- the opposite condition holds where a condition does not
pub opposite_compares : (condition : Condition) (x y : ℕ) → compares (opposite condition) x y ≡ not (compares condition x y)
opposite_compares Equal x y = refl
opposite_compares NotEqual x y = sym (twice _)
opposite_compares Less x y = refl
opposite_compares GreaterEqual x y = sym (twice _)
opposite_compares LessUnsigned x y = refl
opposite_compares GreaterEqualUnsigned x y = sym (twice _)

-- ---- what instructions have done

-- So many instructions lead from one state to another, which is at `next` and has this memory. They change none but these registers, and each
-- of them loads and stores no byte of a free cell.
pub record Done (cells : ℕ) (code : Code) (steps : ℕ) (changed : List ℕ) (memory : ℕ → ℕ) (next : ℕ) (s t : Processor) : Type 0 where
  pub leads : Leads steps s t
  pub stands : Stands code t
  pub pc_is : t.pc ≡ next
  pub memory_is : t.memory ≡ memory
  pub parts_are : t.parts ≡ s.parts
  pub left_is : t.left ≡ s.left
  pub trace_is : t.trace ≡ s.trace
  pub kept : (x : ℕ) → IsOutside x changed → value t.registers x ≡ value s.registers x
  pub avoids : Along (AvoidsFreeCells cells) steps s

-- and a register then holds a word, unless it is the zero register
pub record Gets (cells : ℕ) (code : Code) (steps : ℕ) (changed : List ℕ) (rd word : ℕ) (next : ℕ) (s : Processor) : Type 0 where
  pub after : Processor
  pub done : Done cells code steps changed s.memory next s after
  pub value_is : rd ≢ 0 → value after.registers rd ≡ word

-- or nothing else is said of the registers
pub record Goes (cells : ℕ) (code : Code) (steps : ℕ) (changed : List ℕ) (memory : ℕ → ℕ) (next : ℕ) (s : Processor) : Type 0 where
  pub after : Processor
  pub done : Done cells code steps changed memory next s after

-- a word is apart from each free cell
abbrev pub MissesFree : ℕ → Processor → ℕ → Type 0
MissesFree cells s at = All (λ cell. Apart at 4 cell cell_size) (free_list cells s)

pub outside_front : (x : ℕ) (front back : List ℕ) → IsOutside x (front ++ back) → IsOutside x front
outside_front x [] back out = tt
outside_front x (y ∷ front) back out = (out.0, outside_front x front back out.1)

pub outside_back : (x : ℕ) (front back : List ℕ) → IsOutside x (front ++ back) → IsOutside x back
outside_back x [] back out = out
outside_back x (y ∷ front) back out = outside_back x front back out.1

pub done_then : {cells : ℕ} {code : Code} {n k : ℕ} {front back : List ℕ} {m m' : ℕ → ℕ} {next next' : ℕ} {s t u : Processor}
    → Done cells code n front m next s t → Done cells code k back m' next' t u → Done cells code (n + k) (front ++ back) m' next' s u
done_then {cells} {code} {n} {k} {front} {back} first second = record {
  leads = Leads-then first.leads second.leads;
  stands = second.stands;
  pc_is = second.pc_is;
  memory_is = second.memory_is;
  parts_are = second.parts_are ∙ first.parts_are;
  left_is = second.left_is ∙ first.left_is;
  trace_is = second.trace_is ∙ first.trace_is;
  kept = λ x out. second.kept x (outside_back x front back out) ∙ first.kept x (outside_front x front back out);
  avoids = Leads-each (λ progress. AvoidsFreeCells cells progress.processor) first.leads first.avoids second.avoids;
}

-- no instruction
pub done_none : {cells : ℕ} {code : Code} {changed : List ℕ} {at : ℕ} {s : Processor} → Stands code s → s.pc ≡ at → Done cells code 0 changed s.memory at s s
done_none {s = s} stands pc_is = record {
  leads = Leads-none s;
  stands = stands;
  pc_is = pc_is;
  memory_is = refl;
  parts_are = refl;
  left_is = refl;
  trace_is = refl;
  kept = λ x out. refl;
  avoids = λ k less. absurd (omega arith);
}

-- the same of another name of the memory and of the address, and of registers among which those are
pub done_as : {cells : ℕ} {code : Code} {n : ℕ} {changed changed' : List ℕ} {m m' : ℕ → ℕ} {next next' : ℕ} {s t : Processor}
    → Done cells code n changed m next s t → m ≡ m' → next ≡ next' → ((x : ℕ) → IsOutside x changed' → IsOutside x changed) → Done cells code n changed' m' next' s t
done_as done memory address among = record {
  leads = done.leads;
  stands = done.stands;
  pc_is = done.pc_is ∙ address;
  memory_is = done.memory_is ∙ memory;
  parts_are = done.parts_are;
  left_is = done.left_is;
  trace_is = done.trace_is;
  kept = λ x out. done.kept x (among x out);
  avoids = done.avoids;
}

-- a word that is apart from the free cells is so where neither memory nor the registers of the free cells have changed
pub misses_done : {cells : ℕ} {code : Code} {n : ℕ} {changed : List ℕ} {next : ℕ} {s t : Processor} (at : ℕ) → Done cells code n changed s.memory next s t
    → IsOutside 8 changed → IsOutside 18 changed → IsOutside 19 changed → MissesFree cells s at → MissesFree cells t at
misses_done {cells} {s = s} {t = t} at done chain border end misses =
    let same : free_list cells t ≡ free_list cells s = rw (done.memory_is, done.parts_are, done.kept 8 chain, done.kept 18 border, done.kept 19 end) refl in
    subst (All (λ cell. Apart at 4 cell cell_size)) (sym same) misses

-- a part that was done in a state with the memory of another
pub done_on : {cells : ℕ} {code : Code} {n k : ℕ} {front back : List ℕ} {m : ℕ → ℕ} {next next' : ℕ} {s t u : Processor}
    → Done cells code n front m next s t → Done cells code k back t.memory next' t u → Done cells code (n + k) (front ++ back) m next' s u
done_on first second = done_as (done_then first second) first.memory_is refl (λ x out. out)

pub next_of : (at : ℕ) → at + 4 < 2 ^ 32 → sum_word at 4 ≡ at + 4
next_of at below = omega arith

pub target_of : (at distance : ℕ) → at + distance < 2 ^ 32 → sum_word at distance ≡ at + distance
target_of at distance below = omega arith

-- ---- one instruction

module _ (cells : ℕ) {code : Code} (below : (at : ℕ) (i : Instr) → code at ≡ Some i → at + 4 < 2 ^ 32) {s : Processor} (stands : Stands code s) {at : ℕ} (pc_is : s.pc ≡ at) where
  here_is : {i : Instr} → code at ≡ Some i → code s.pc ≡ Some i
  here_is here = ap code pc_is ∙ here

  pub next_is : {i : Instr} → code at ≡ Some i → sum_word s.pc 4 ≡ at + 4
  next_is {i} here = ap (λ pc. sum_word pc 4) pc_is ∙ next_of at (below at i here)

  -- what the instruction loads and stores, by its effect
  avoids_by : (i : Instr) (effect : Effect) → code at ≡ Some i → effect_at s i ≡ effect → Avoids (free_list cells s) effect.act → AvoidsFreeCells cells s
  avoids_by i effect here is apart j reads =
      let both : Some i ≡ Some j = sym (stands.holds s.pc i (here_is here)) ∙ reads in
      let same : i ≡ j = cc in
      subst (λ (k : Instr). Avoids (free_list cells s) (effect_at s k).act) same (subst (λ (e : Effect). Avoids (free_list cells s) e.act) (sym is) apart)

  -- an instruction that leads to these registers, this memory and this address
  one_done : {changed : List ℕ} (registers memory : ℕ → ℕ) (next : ℕ) → AvoidsFreeCells cells s → Leads 1 s (record (stepped next s) { registers = registers; memory = memory })
      → ((x : ℕ) → IsOutside x changed → value registers x ≡ value s.registers x) → Done cells code 1 changed memory next s (record (stepped next s) { registers = registers; memory = memory })
  one_done registers memory next avoids leads kept = record {
    leads = leads;
    stands = Stands-leads leads stands;
    pc_is = refl;
    memory_is = refl;
    parts_are = refl;
    left_is = refl;
    trace_is = refl;
    kept = kept;
    avoids = λ k less. let first : k ≡ 0 = omega arith in rw (first, run-zero rv32im s) avoids;
  }

  one_gets : (rd word next : ℕ) → AvoidsFreeCells cells s → Leads 1 s (record (stepped next s) { registers = put rd word s.registers }) → Gets cells code 1 (rd ∷ []) rd word next s
  one_gets rd word next avoids leads = record {
    after = record (stepped next s) { registers = put rd word s.registers };
    done = one_done (put rd word s.registers) s.memory next avoids leads (λ x out. value-put_other rd word s.registers x out.0);
    value_is = λ some. value-put_same rd word s.registers some;
  }

  one_goes : (memory : ℕ → ℕ) (next : ℕ) → AvoidsFreeCells cells s → Leads 1 s (record (stepped next s) { memory = memory }) → Goes cells code 1 [] memory next s
  one_goes memory next avoids leads = record { after = record (stepped next s) { memory = memory }; done = one_done s.registers memory next avoids leads (λ x out. refl) }

  pub plain_gets : {i : Instr} {rd a b : ℕ} {word : ℕ → ℕ → ℕ} → IsPlain i rd a b word → code at ≡ Some i
      → Gets cells code 1 (rd ∷ []) rd (word (value s.registers a) (value s.registers b)) (at + 4) s
  plain_gets {i} {rd} {a} {b} {word} plain here =
      let v = word (value s.registers a) (value s.registers b) in
      let effect : effect_at s i ≡ sets s.pc v = rw (plain.rs1_is, plain.rs2_is) (plain.effect s.pc (value s.registers a) (value s.registers b)) in
      one_gets rd v (at + 4) (avoids_by i (sets s.pc v) here effect tt)
      (subst (λ r. Leads 1 s (record (stepped (at + 4) s) { registers = put r v s.registers })) plain.rd_is (leads-sets stands i v {v = v} {next = at + 4} (here_is here) effect refl (next_is here)).leads)

  -- AUIPC adds to its own address
  pub auipc_gets : {rd : Register} {imm : UpperImmediate} {word : ℕ} → code at ≡ Some (Instr.Auipc rd imm) → sum_word at imm.word ≡ word
      → Gets cells code 1 (rd.number ∷ []) rd.number word (at + 4) s
  auipc_gets {rd} {imm} {word} here word_is =
      let word_at : sum_word s.pc imm.word ≡ word = ap (λ pc. sum_word pc imm.word) pc_is ∙ word_is in
      one_gets rd.number word (at + 4) (avoids_by (Instr.Auipc rd imm) (effect_at s (Instr.Auipc rd imm)) here refl tt)
      (leads-sets stands (Instr.Auipc rd imm) (sum_word s.pc imm.word) {v = word} {next = at + 4} (here_is here) refl word_at (next_is here)).leads

  pub load_gets : {rd base : Register} {offset : Immediate} {address word : ℕ} → code at ≡ Some (Instr.Lw rd base offset)
      → sum_word (value s.registers base.number) offset.word ≡ address → address % 4 ≡ 0 → can_load s.parts address 4 ≡ true → number_at s.memory address 4 ≡ word → MissesFree cells s address
      → Gets cells code 1 (rd.number ∷ []) rd.number word (at + 4) s
  load_gets {rd} {base} {offset} {address} {word} here address_is aligned allowed word_is misses =
      one_gets rd.number word (at + 4)
      (avoids_by (Instr.Lw rd base offset) (effect_at s (Instr.Lw rd base offset)) here refl (subst (MissesFree cells s) (sym address_is) misses))
      (leads-lw stands {rd = rd} {rs1 = base} {imm = offset} {at = address} {v = word} {next = at + 4} (here_is here) address_is aligned allowed word_is (next_is here)).leads

  pub store_goes : {base from : Register} {offset : Immediate} {address word : ℕ} → code at ≡ Some (Instr.Sw base from offset)
      → sum_word (value s.registers base.number) offset.word ≡ address → value s.registers from.number ≡ word → address % 4 ≡ 0 → can_store s.parts address 4 ≡ true → MissesFree cells s address
      → Goes cells code 1 [] (with_number address 4 word s.memory) (at + 4) s
  store_goes {base} {from} {offset} {address} {word} here address_is word_is aligned allowed misses =
      one_goes (with_number address 4 word s.memory) (at + 4)
      (avoids_by (Instr.Sw base from offset) (effect_at s (Instr.Sw base from offset)) here refl (subst (MissesFree cells s) (sym address_is) misses))
      (leads-sw stands {rs1 = base} {rs2 = from} {imm = offset} {at = address} {v = word} {next = at + 4} (here_is here) address_is word_is aligned allowed (next_is here)).leads

  pub jump_gets : {back by : Register} {offset : Immediate} {target : ℕ} → code at ≡ Some (Instr.Jalr back by offset)
      → sum_word (value s.registers by.number) offset.word ≡ target → target % 4 ≡ 0
      → Gets cells code 1 (back.number ∷ []) back.number (at + 4) target s
  jump_gets {back} {by} {offset} {target} here target_is aligned =
      one_gets back.number (at + 4) target (avoids_by (Instr.Jalr back by offset) (effect_at s (Instr.Jalr back by offset)) here refl tt)
      (leads-jalr stands {rd = back} {rs1 = by} {imm = offset} {next = target} {back = at + 4} (here_is here) target_is aligned (next_is here)).leads

  pub near_gets : {back : Register} {offset : JumpOffset} {target : ℕ} → code at ≡ Some (Instr.Jal back offset) → sum_word at offset.word ≡ target → target % 4 ≡ 0
      → Gets cells code 1 (back.number ∷ []) back.number (at + 4) target s
  near_gets {back} {offset} {target} here target_is aligned =
      let target_at : sum_word s.pc offset.word ≡ target = ap (λ pc. sum_word pc offset.word) pc_is ∙ target_is in
      one_gets back.number (at + 4) target (avoids_by (Instr.Jal back offset) (effect_at s (Instr.Jal back offset)) here refl tt)
      (leads-jal stands {rd = back} {offset = offset} {next = target} {back = at + 4} (here_is here) target_at aligned (next_is here)).leads

  -- an instruction that does nothing but go on at an address
  pub branch_goes : (i : Instr) (target : ℕ) {next : ℕ} → code at ≡ Some i → effect_at s i ≡ record { next = target; act = Act.Nothing } → target ≡ next → next % 4 ≡ 0 → Goes cells code 1 [] s.memory next s
  branch_goes i target {next} here effect target_is aligned =
      one_goes s.memory next (avoids_by i (record { next = target; act = Act.Nothing }) here effect tt) (leads-to stands i target {next = next} (here_is here) effect target_is aligned).leads
