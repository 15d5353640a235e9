-- The formats of instructions, each by its fields from bit 31 down to bit 0. An immediate gives some of its own bits to each of its fields.
-- The RISC-V Instruction Set Manual, Volume I: Unprivileged ISA, 2.2 Base Instruction Formats and 2.3 Immediate Encoding Variants.
use Rattle.std.specs.Prelude.{◌≡◌, ℕ}
use Rattle.rv_isa.specs.declared.register.Register.{Register}
use Rattle.rv_isa.specs.declared.immediate.Immediate.{Immediate}
use Rattle.rv_isa.specs.declared.immediate.BranchOffset.{BranchOffset}
use Rattle.rv_isa.specs.declared.immediate.JumpOffset.{JumpOffset}
use Rattle.rv_isa.specs.declared.immediate.UpperImmediate.{UpperImmediate}
use Rattle.rv_isa.specs.declared.immediate.ShiftAmount.{ShiftAmount}
use Rattle.rv_isa.specs.Field.{field}

-- R-type: two registers to one
pub record IsR (opcode funct3 funct7 : ℕ) (rd rs1 rs2 : Register) (word : ℕ) : Type 0 where
  pub funct7_is : field word 31 25 ≡ funct7
  pub rs2_is : field word 24 20 ≡ rs2.number
  pub rs1_is : field word 19 15 ≡ rs1.number
  pub funct3_is : field word 14 12 ≡ funct3
  pub rd_is : field word 11 7 ≡ rd.number
  pub opcode_is : field word 6 0 ≡ opcode

-- I-type: a register and an immediate to a register
pub record IsI (opcode funct3 : ℕ) (rd rs1 : Register) (imm : Immediate) (word : ℕ) : Type 0 where
  pub imm_is : field word 31 20 ≡ field imm.word 11 0
  pub rs1_is : field word 19 15 ≡ rs1.number
  pub funct3_is : field word 14 12 ≡ funct3
  pub rd_is : field word 11 7 ≡ rd.number
  pub opcode_is : field word 6 0 ≡ opcode

-- the I-type of a shift by an immediate (2.4.1 Integer Register-Immediate Instructions)
pub record IsShift (opcode funct3 funct7 : ℕ) (rd rs1 : Register) (shamt : ShiftAmount) (word : ℕ) : Type 0 where
  pub funct7_is : field word 31 25 ≡ funct7
  pub shamt_is : field word 24 20 ≡ shamt.places
  pub rs1_is : field word 19 15 ≡ rs1.number
  pub funct3_is : field word 14 12 ≡ funct3
  pub rd_is : field word 11 7 ≡ rd.number
  pub opcode_is : field word 6 0 ≡ opcode

-- S-type: a store
pub record IsS (opcode funct3 : ℕ) (rs1 rs2 : Register) (imm : Immediate) (word : ℕ) : Type 0 where
  pub upper_is : field word 31 25 ≡ field imm.word 11 5
  pub rs2_is : field word 24 20 ≡ rs2.number
  pub rs1_is : field word 19 15 ≡ rs1.number
  pub funct3_is : field word 14 12 ≡ funct3
  pub lower_is : field word 11 7 ≡ field imm.word 4 0
  pub opcode_is : field word 6 0 ≡ opcode

-- B-type: a conditional branch
pub record IsB (opcode funct3 : ℕ) (rs1 rs2 : Register) (offset : BranchOffset) (word : ℕ) : Type 0 where
  pub sign_is : field word 31 31 ≡ field offset.word 12 12
  pub upper_is : field word 30 25 ≡ field offset.word 10 5
  pub rs2_is : field word 24 20 ≡ rs2.number
  pub rs1_is : field word 19 15 ≡ rs1.number
  pub funct3_is : field word 14 12 ≡ funct3
  pub lower_is : field word 11 8 ≡ field offset.word 4 1
  pub bit_11_is : field word 7 7 ≡ field offset.word 11 11
  pub opcode_is : field word 6 0 ≡ opcode

-- U-type: an upper immediate
pub record IsU (opcode : ℕ) (rd : Register) (imm : UpperImmediate) (word : ℕ) : Type 0 where
  pub imm_is : field word 31 12 ≡ field imm.word 31 12
  pub rd_is : field word 11 7 ≡ rd.number
  pub opcode_is : field word 6 0 ≡ opcode

-- J-type: a jump
pub record IsJ (opcode : ℕ) (rd : Register) (offset : JumpOffset) (word : ℕ) : Type 0 where
  pub sign_is : field word 31 31 ≡ field offset.word 20 20
  pub lower_is : field word 30 21 ≡ field offset.word 10 1
  pub bit_11_is : field word 20 20 ≡ field offset.word 11 11
  pub upper_is : field word 19 12 ≡ field offset.word 19 12
  pub rd_is : field word 11 7 ≡ rd.number
  pub opcode_is : field word 6 0 ≡ opcode

-- a memory ordering instruction of this funct3, whatever its other fields (2.7 Memory Ordering Instructions)
pub record IsOrdering (opcode funct3 : ℕ) (word : ℕ) : Type 0 where
  pub funct3_is : field word 14 12 ≡ funct3
  pub opcode_is : field word 6 0 ≡ opcode
