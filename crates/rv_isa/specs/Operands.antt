-- The registers that an instruction names, by number. A field that its format lacks stands for x0, which reads as 0 and keeps no value.
use Rattle.std.specs.Prelude.{ℕ}
use Rattle.rv_isa.specs.declared.instr.Instr.{Instr}
use Rattle.rv_isa.specs.declared.instr.Instr.TheVariants.{Lui, Auipc, Jal, Jalr, Beq, Bne, Blt, Bge, Bltu, Bgeu, Lb, Lh, Lw, Lbu, Lhu, Sb, Sh, Sw, Addi, Slti, Sltiu, Xori, Ori, Andi, Slli, Srli, Srai, Add, Sub, Sll, Slt, Sltu, Xor, Srl, Sra, Or, And, Mul, Mulh, Mulhsu, Mulhu, Div, Divu, Rem, Remu}

-- the destination
abbrev pub rd_of : Instr → ℕ
rd_of (Lui rd imm) = rd.number
rd_of (Auipc rd imm) = rd.number
rd_of (Jal rd offset) = rd.number
rd_of (Jalr rd rs1 imm) = rd.number
rd_of (Lb rd rs1 imm) = rd.number
rd_of (Lh rd rs1 imm) = rd.number
rd_of (Lw rd rs1 imm) = rd.number
rd_of (Lbu rd rs1 imm) = rd.number
rd_of (Lhu rd rs1 imm) = rd.number
rd_of (Addi rd rs1 imm) = rd.number
rd_of (Slti rd rs1 imm) = rd.number
rd_of (Sltiu rd rs1 imm) = rd.number
rd_of (Xori rd rs1 imm) = rd.number
rd_of (Ori rd rs1 imm) = rd.number
rd_of (Andi rd rs1 imm) = rd.number
rd_of (Slli rd rs1 shamt) = rd.number
rd_of (Srli rd rs1 shamt) = rd.number
rd_of (Srai rd rs1 shamt) = rd.number
rd_of (Add rd rs1 rs2) = rd.number
rd_of (Sub rd rs1 rs2) = rd.number
rd_of (Sll rd rs1 rs2) = rd.number
rd_of (Slt rd rs1 rs2) = rd.number
rd_of (Sltu rd rs1 rs2) = rd.number
rd_of (Xor rd rs1 rs2) = rd.number
rd_of (Srl rd rs1 rs2) = rd.number
rd_of (Sra rd rs1 rs2) = rd.number
rd_of (Or rd rs1 rs2) = rd.number
rd_of (And rd rs1 rs2) = rd.number
rd_of (Mul rd rs1 rs2) = rd.number
rd_of (Mulh rd rs1 rs2) = rd.number
rd_of (Mulhsu rd rs1 rs2) = rd.number
rd_of (Mulhu rd rs1 rs2) = rd.number
rd_of (Div rd rs1 rs2) = rd.number
rd_of (Divu rd rs1 rs2) = rd.number
rd_of (Rem rd rs1 rs2) = rd.number
rd_of (Remu rd rs1 rs2) = rd.number
rd_of _ = 0

-- the first source
abbrev pub rs1_of : Instr → ℕ
rs1_of (Jalr rd rs1 imm) = rs1.number
rs1_of (Beq rs1 rs2 offset) = rs1.number
rs1_of (Bne rs1 rs2 offset) = rs1.number
rs1_of (Blt rs1 rs2 offset) = rs1.number
rs1_of (Bge rs1 rs2 offset) = rs1.number
rs1_of (Bltu rs1 rs2 offset) = rs1.number
rs1_of (Bgeu rs1 rs2 offset) = rs1.number
rs1_of (Lb rd rs1 imm) = rs1.number
rs1_of (Lh rd rs1 imm) = rs1.number
rs1_of (Lw rd rs1 imm) = rs1.number
rs1_of (Lbu rd rs1 imm) = rs1.number
rs1_of (Lhu rd rs1 imm) = rs1.number
rs1_of (Sb rs1 rs2 imm) = rs1.number
rs1_of (Sh rs1 rs2 imm) = rs1.number
rs1_of (Sw rs1 rs2 imm) = rs1.number
rs1_of (Addi rd rs1 imm) = rs1.number
rs1_of (Slti rd rs1 imm) = rs1.number
rs1_of (Sltiu rd rs1 imm) = rs1.number
rs1_of (Xori rd rs1 imm) = rs1.number
rs1_of (Ori rd rs1 imm) = rs1.number
rs1_of (Andi rd rs1 imm) = rs1.number
rs1_of (Slli rd rs1 shamt) = rs1.number
rs1_of (Srli rd rs1 shamt) = rs1.number
rs1_of (Srai rd rs1 shamt) = rs1.number
rs1_of (Add rd rs1 rs2) = rs1.number
rs1_of (Sub rd rs1 rs2) = rs1.number
rs1_of (Sll rd rs1 rs2) = rs1.number
rs1_of (Slt rd rs1 rs2) = rs1.number
rs1_of (Sltu rd rs1 rs2) = rs1.number
rs1_of (Xor rd rs1 rs2) = rs1.number
rs1_of (Srl rd rs1 rs2) = rs1.number
rs1_of (Sra rd rs1 rs2) = rs1.number
rs1_of (Or rd rs1 rs2) = rs1.number
rs1_of (And rd rs1 rs2) = rs1.number
rs1_of (Mul rd rs1 rs2) = rs1.number
rs1_of (Mulh rd rs1 rs2) = rs1.number
rs1_of (Mulhsu rd rs1 rs2) = rs1.number
rs1_of (Mulhu rd rs1 rs2) = rs1.number
rs1_of (Div rd rs1 rs2) = rs1.number
rs1_of (Divu rd rs1 rs2) = rs1.number
rs1_of (Rem rd rs1 rs2) = rs1.number
rs1_of (Remu rd rs1 rs2) = rs1.number
rs1_of _ = 0

-- the second source
abbrev pub rs2_of : Instr → ℕ
rs2_of (Beq rs1 rs2 offset) = rs2.number
rs2_of (Bne rs1 rs2 offset) = rs2.number
rs2_of (Blt rs1 rs2 offset) = rs2.number
rs2_of (Bge rs1 rs2 offset) = rs2.number
rs2_of (Bltu rs1 rs2 offset) = rs2.number
rs2_of (Bgeu rs1 rs2 offset) = rs2.number
rs2_of (Sb rs1 rs2 imm) = rs2.number
rs2_of (Sh rs1 rs2 imm) = rs2.number
rs2_of (Sw rs1 rs2 imm) = rs2.number
rs2_of (Add rd rs1 rs2) = rs2.number
rs2_of (Sub rd rs1 rs2) = rs2.number
rs2_of (Sll rd rs1 rs2) = rs2.number
rs2_of (Slt rd rs1 rs2) = rs2.number
rs2_of (Sltu rd rs1 rs2) = rs2.number
rs2_of (Xor rd rs1 rs2) = rs2.number
rs2_of (Srl rd rs1 rs2) = rs2.number
rs2_of (Sra rd rs1 rs2) = rs2.number
rs2_of (Or rd rs1 rs2) = rs2.number
rs2_of (And rd rs1 rs2) = rs2.number
rs2_of (Mul rd rs1 rs2) = rs2.number
rs2_of (Mulh rd rs1 rs2) = rs2.number
rs2_of (Mulhsu rd rs1 rs2) = rs2.number
rs2_of (Mulhu rd rs1 rs2) = rs2.number
rs2_of (Div rd rs1 rs2) = rs2.number
rs2_of (Divu rd rs1 rs2) = rs2.number
rs2_of (Rem rd rs1 rs2) = rs2.number
rs2_of (Remu rd rs1 rs2) = rs2.number
rs2_of _ = 0
