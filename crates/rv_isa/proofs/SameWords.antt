-- An instruction but FENCE has one word.
use Rattle.std.proofs.Common.{◌≡◌, ◌≢◌, ℕ, ◌^◌, ◌<◌, refl, sym, ◌∙◌, arith}
use Rattle.rv_isa.specs.declared.register.Register.{Register}
use Rattle.rv_isa.specs.declared.immediate.Immediate.{Immediate}
use Rattle.rv_isa.specs.declared.immediate.BranchOffset.{BranchOffset}
use Rattle.rv_isa.specs.declared.immediate.JumpOffset.{JumpOffset}
use Rattle.rv_isa.specs.declared.immediate.UpperImmediate.{UpperImmediate}
use Rattle.rv_isa.specs.declared.immediate.ShiftAmount.{ShiftAmount}
use Rattle.rv_isa.specs.declared.instr.Instr.{Instr}
use Rattle.rv_isa.specs.declared.instr.Instr.TheVariants.{Lui, Auipc, Jal, Jalr, Beq, Bne, Blt, Bge, Bltu, Bgeu, Lb, Lh, Lw, Lbu, Lhu, Sb, Sh, Sw, Addi, Slti, Sltiu, Xori, Ori, Andi, Slli, Srli, Srai, Add, Sub, Sll, Slt, Sltu, Xor, Srl, Sra, Or, And, Fence, Ecall, Ebreak, Mul, Mulh, Mulhsu, Mulhu, Div, Divu, Rem, Remu}
use Rattle.rv_isa.specs.Field.{field}
use Rattle.rv_isa.specs.Format.{IsR, IsI, IsShift, IsS, IsB, IsU, IsJ}
use Rattle.rv_isa.specs.Table.{IsWord}

-- words with the same fields
by_five : (a b : ℕ) → a < 2 ^ 32 → b < 2 ^ 32 → field a 31 20 ≡ field b 31 20 → field a 19 15 ≡ field b 19 15 → field a 14 12 ≡ field b 14 12 → field a 11 7 ≡ field b 11 7 → field a 6 0 ≡ field b 6 0 → a ≡ b
by_five a b below_a below_b upper rs1 funct3 lower opcode = omega arith

by_three : (a b : ℕ) → a < 2 ^ 32 → b < 2 ^ 32 → field a 31 12 ≡ field b 31 12 → field a 11 7 ≡ field b 11 7 → field a 6 0 ≡ field b 6 0 → a ≡ b
by_three a b below_a below_b upper rd opcode = omega arith

-- the same upper parts
upper_two : (a b : ℕ) → field a 31 25 ≡ field b 31 25 → field a 24 20 ≡ field b 24 20 → field a 31 20 ≡ field b 31 20
upper_two a b funct7 rs2 = omega arith

upper_three : (a b : ℕ) → field a 31 31 ≡ field b 31 31 → field a 30 25 ≡ field b 30 25 → field a 24 20 ≡ field b 24 20 → field a 31 20 ≡ field b 31 20
upper_three a b sign upper rs2 = omega arith

upper_four : (a b : ℕ) → field a 31 31 ≡ field b 31 31 → field a 30 21 ≡ field b 30 21 → field a 20 20 ≡ field b 20 20 → field a 19 12 ≡ field b 19 12 → field a 31 12 ≡ field b 31 12
upper_four a b sign lower bit upper = omega arith

lower_two : (a b : ℕ) → field a 11 8 ≡ field b 11 8 → field a 7 7 ≡ field b 7 7 → field a 11 7 ≡ field b 11 7
lower_two a b lower bit = omega arith

-- words of one format with the same parts
same_r : (opcode funct3 funct7 : ℕ) (rd rs1 rs2 : Register) (a b : ℕ) → a < 2 ^ 32 → b < 2 ^ 32 → IsR opcode funct3 funct7 rd rs1 rs2 a → IsR opcode funct3 funct7 rd rs1 rs2 b → a ≡ b
same_r opcode funct3 funct7 rd rs1 rs2 a b below_a below_b is so =
    by_five a b below_a below_b (upper_two a b (is.funct7_is ∙ sym so.funct7_is) (is.rs2_is ∙ sym so.rs2_is)) (is.rs1_is ∙ sym so.rs1_is) (is.funct3_is ∙ sym so.funct3_is) (is.rd_is ∙ sym so.rd_is) (is.opcode_is ∙ sym so.opcode_is)

same_i : (opcode funct3 : ℕ) (rd rs1 : Register) (imm : Immediate) (a b : ℕ) → a < 2 ^ 32 → b < 2 ^ 32 → IsI opcode funct3 rd rs1 imm a → IsI opcode funct3 rd rs1 imm b → a ≡ b
same_i opcode funct3 rd rs1 imm a b below_a below_b is so =
    by_five a b below_a below_b (is.imm_is ∙ sym so.imm_is) (is.rs1_is ∙ sym so.rs1_is) (is.funct3_is ∙ sym so.funct3_is) (is.rd_is ∙ sym so.rd_is) (is.opcode_is ∙ sym so.opcode_is)

same_shift : (opcode funct3 funct7 : ℕ) (rd rs1 : Register) (shamt : ShiftAmount) (a b : ℕ) → a < 2 ^ 32 → b < 2 ^ 32 → IsShift opcode funct3 funct7 rd rs1 shamt a → IsShift opcode funct3 funct7 rd rs1 shamt b → a ≡ b
same_shift opcode funct3 funct7 rd rs1 shamt a b below_a below_b is so =
    by_five a b below_a below_b (upper_two a b (is.funct7_is ∙ sym so.funct7_is) (is.shamt_is ∙ sym so.shamt_is)) (is.rs1_is ∙ sym so.rs1_is) (is.funct3_is ∙ sym so.funct3_is) (is.rd_is ∙ sym so.rd_is) (is.opcode_is ∙ sym so.opcode_is)

same_s : (opcode funct3 : ℕ) (rs1 rs2 : Register) (imm : Immediate) (a b : ℕ) → a < 2 ^ 32 → b < 2 ^ 32 → IsS opcode funct3 rs1 rs2 imm a → IsS opcode funct3 rs1 rs2 imm b → a ≡ b
same_s opcode funct3 rs1 rs2 imm a b below_a below_b is so =
    by_five a b below_a below_b (upper_two a b (is.upper_is ∙ sym so.upper_is) (is.rs2_is ∙ sym so.rs2_is)) (is.rs1_is ∙ sym so.rs1_is) (is.funct3_is ∙ sym so.funct3_is) (is.lower_is ∙ sym so.lower_is) (is.opcode_is ∙ sym so.opcode_is)

same_b : (opcode funct3 : ℕ) (rs1 rs2 : Register) (offset : BranchOffset) (a b : ℕ) → a < 2 ^ 32 → b < 2 ^ 32 → IsB opcode funct3 rs1 rs2 offset a → IsB opcode funct3 rs1 rs2 offset b → a ≡ b
same_b opcode funct3 rs1 rs2 offset a b below_a below_b is so =
    by_five a b below_a below_b (upper_three a b (is.sign_is ∙ sym so.sign_is) (is.upper_is ∙ sym so.upper_is) (is.rs2_is ∙ sym so.rs2_is)) (is.rs1_is ∙ sym so.rs1_is) (is.funct3_is ∙ sym so.funct3_is)
    (lower_two a b (is.lower_is ∙ sym so.lower_is) (is.bit_11_is ∙ sym so.bit_11_is)) (is.opcode_is ∙ sym so.opcode_is)

same_u : (opcode : ℕ) (rd : Register) (imm : UpperImmediate) (a b : ℕ) → a < 2 ^ 32 → b < 2 ^ 32 → IsU opcode rd imm a → IsU opcode rd imm b → a ≡ b
same_u opcode rd imm a b below_a below_b is so =
    by_three a b below_a below_b (is.imm_is ∙ sym so.imm_is) (is.rd_is ∙ sym so.rd_is) (is.opcode_is ∙ sym so.opcode_is)

same_j : (opcode : ℕ) (rd : Register) (offset : JumpOffset) (a b : ℕ) → a < 2 ^ 32 → b < 2 ^ 32 → IsJ opcode rd offset a → IsJ opcode rd offset b → a ≡ b
same_j opcode rd offset a b below_a below_b is so =
    by_three a b below_a below_b (upper_four a b (is.sign_is ∙ sym so.sign_is) (is.lower_is ∙ sym so.lower_is) (is.bit_11_is ∙ sym so.bit_11_is) (is.upper_is ∙ sym so.upper_is)) (is.rd_is ∙ sym so.rd_is) (is.opcode_is ∙ sym so.opcode_is)

pub one_word : (i : Instr) (a b : ℕ) → a < 2 ^ 32 → b < 2 ^ 32 → IsWord i a → IsWord i b → i ≢ Fence → a ≡ b
one_word (Lui rd imm) a b below_a below_b is so _ = same_u 0x37 rd imm a b below_a below_b is so
one_word (Auipc rd imm) a b below_a below_b is so _ = same_u 0x17 rd imm a b below_a below_b is so
one_word (Jal rd offset) a b below_a below_b is so _ = same_j 0x6f rd offset a b below_a below_b is so
one_word (Jalr rd rs1 imm) a b below_a below_b is so _ = same_i 0x67 0 rd rs1 imm a b below_a below_b is so
one_word (Beq rs1 rs2 offset) a b below_a below_b is so _ = same_b 0x63 0 rs1 rs2 offset a b below_a below_b is so
one_word (Bne rs1 rs2 offset) a b below_a below_b is so _ = same_b 0x63 1 rs1 rs2 offset a b below_a below_b is so
one_word (Blt rs1 rs2 offset) a b below_a below_b is so _ = same_b 0x63 4 rs1 rs2 offset a b below_a below_b is so
one_word (Bge rs1 rs2 offset) a b below_a below_b is so _ = same_b 0x63 5 rs1 rs2 offset a b below_a below_b is so
one_word (Bltu rs1 rs2 offset) a b below_a below_b is so _ = same_b 0x63 6 rs1 rs2 offset a b below_a below_b is so
one_word (Bgeu rs1 rs2 offset) a b below_a below_b is so _ = same_b 0x63 7 rs1 rs2 offset a b below_a below_b is so
one_word (Lb rd rs1 imm) a b below_a below_b is so _ = same_i 0x03 0 rd rs1 imm a b below_a below_b is so
one_word (Lh rd rs1 imm) a b below_a below_b is so _ = same_i 0x03 1 rd rs1 imm a b below_a below_b is so
one_word (Lw rd rs1 imm) a b below_a below_b is so _ = same_i 0x03 2 rd rs1 imm a b below_a below_b is so
one_word (Lbu rd rs1 imm) a b below_a below_b is so _ = same_i 0x03 4 rd rs1 imm a b below_a below_b is so
one_word (Lhu rd rs1 imm) a b below_a below_b is so _ = same_i 0x03 5 rd rs1 imm a b below_a below_b is so
one_word (Sb rs1 rs2 imm) a b below_a below_b is so _ = same_s 0x23 0 rs1 rs2 imm a b below_a below_b is so
one_word (Sh rs1 rs2 imm) a b below_a below_b is so _ = same_s 0x23 1 rs1 rs2 imm a b below_a below_b is so
one_word (Sw rs1 rs2 imm) a b below_a below_b is so _ = same_s 0x23 2 rs1 rs2 imm a b below_a below_b is so
one_word (Addi rd rs1 imm) a b below_a below_b is so _ = same_i 0x13 0 rd rs1 imm a b below_a below_b is so
one_word (Slti rd rs1 imm) a b below_a below_b is so _ = same_i 0x13 2 rd rs1 imm a b below_a below_b is so
one_word (Sltiu rd rs1 imm) a b below_a below_b is so _ = same_i 0x13 3 rd rs1 imm a b below_a below_b is so
one_word (Xori rd rs1 imm) a b below_a below_b is so _ = same_i 0x13 4 rd rs1 imm a b below_a below_b is so
one_word (Ori rd rs1 imm) a b below_a below_b is so _ = same_i 0x13 6 rd rs1 imm a b below_a below_b is so
one_word (Andi rd rs1 imm) a b below_a below_b is so _ = same_i 0x13 7 rd rs1 imm a b below_a below_b is so
one_word (Slli rd rs1 shamt) a b below_a below_b is so _ = same_shift 0x13 1 0x00 rd rs1 shamt a b below_a below_b is so
one_word (Srli rd rs1 shamt) a b below_a below_b is so _ = same_shift 0x13 5 0x00 rd rs1 shamt a b below_a below_b is so
one_word (Srai rd rs1 shamt) a b below_a below_b is so _ = same_shift 0x13 5 0x20 rd rs1 shamt a b below_a below_b is so
one_word (Add rd rs1 rs2) a b below_a below_b is so _ = same_r 0x33 0 0x00 rd rs1 rs2 a b below_a below_b is so
one_word (Sub rd rs1 rs2) a b below_a below_b is so _ = same_r 0x33 0 0x20 rd rs1 rs2 a b below_a below_b is so
one_word (Sll rd rs1 rs2) a b below_a below_b is so _ = same_r 0x33 1 0x00 rd rs1 rs2 a b below_a below_b is so
one_word (Slt rd rs1 rs2) a b below_a below_b is so _ = same_r 0x33 2 0x00 rd rs1 rs2 a b below_a below_b is so
one_word (Sltu rd rs1 rs2) a b below_a below_b is so _ = same_r 0x33 3 0x00 rd rs1 rs2 a b below_a below_b is so
one_word (Xor rd rs1 rs2) a b below_a below_b is so _ = same_r 0x33 4 0x00 rd rs1 rs2 a b below_a below_b is so
one_word (Srl rd rs1 rs2) a b below_a below_b is so _ = same_r 0x33 5 0x00 rd rs1 rs2 a b below_a below_b is so
one_word (Sra rd rs1 rs2) a b below_a below_b is so _ = same_r 0x33 5 0x20 rd rs1 rs2 a b below_a below_b is so
one_word (Or rd rs1 rs2) a b below_a below_b is so _ = same_r 0x33 6 0x00 rd rs1 rs2 a b below_a below_b is so
one_word (And rd rs1 rs2) a b below_a below_b is so _ = same_r 0x33 7 0x00 rd rs1 rs2 a b below_a below_b is so
one_word Fence a b below_a below_b is so other = absurd (other refl)
one_word Ecall a b below_a below_b is so _ = is ∙ sym so
one_word Ebreak a b below_a below_b is so _ = is ∙ sym so
one_word (Mul rd rs1 rs2) a b below_a below_b is so _ = same_r 0x33 0 0x01 rd rs1 rs2 a b below_a below_b is so
one_word (Mulh rd rs1 rs2) a b below_a below_b is so _ = same_r 0x33 1 0x01 rd rs1 rs2 a b below_a below_b is so
one_word (Mulhsu rd rs1 rs2) a b below_a below_b is so _ = same_r 0x33 2 0x01 rd rs1 rs2 a b below_a below_b is so
one_word (Mulhu rd rs1 rs2) a b below_a below_b is so _ = same_r 0x33 3 0x01 rd rs1 rs2 a b below_a below_b is so
one_word (Div rd rs1 rs2) a b below_a below_b is so _ = same_r 0x33 4 0x01 rd rs1 rs2 a b below_a below_b is so
one_word (Divu rd rs1 rs2) a b below_a below_b is so _ = same_r 0x33 5 0x01 rd rs1 rs2 a b below_a below_b is so
one_word (Rem rd rs1 rs2) a b below_a below_b is so _ = same_r 0x33 6 0x01 rd rs1 rs2 a b below_a below_b is so
one_word (Remu rd rs1 rs2) a b below_a below_b is so _ = same_r 0x33 7 0x01 rd rs1 rs2 a b below_a below_b is so
