-- The words of the instructions, one row for each: its format, its opcode and its function codes.
-- The RISC-V Instruction Set Manual, Volume I: Unprivileged ISA, "RV32/64G Instruction Set Listings", tables "RV32I Base Instruction Set" and "RV32M Standard Extension".
use Rattle.std.specs.Prelude.{◌≡◌, ℕ}
use Rattle.rv_isa.specs.declared.instr.Instr.{Instr}
use Rattle.rv_isa.specs.declared.instr.Instr.TheVariants.{Lui, Auipc, Jal, Jalr, Beq, Bne, Blt, Bge, Bltu, Bgeu, Lb, Lh, Lw, Lbu, Lhu, Sb, Sh, Sw, Addi, Slti, Sltiu, Xori, Ori, Andi, Slli, Srli, Srai, Add, Sub, Sll, Slt, Sltu, Xor, Srl, Sra, Or, And, Fence, Ecall, Ebreak, Mul, Mulh, Mulhsu, Mulhu, Div, Divu, Rem, Remu}
use Rattle.rv_isa.specs.Format.{IsR, IsI, IsShift, IsS, IsB, IsU, IsJ, IsOrdering}

-- the word is one of the instruction's
abbrev pub IsWord : Instr → ℕ → Type 0
IsWord (Lui rd imm) word = IsU 0x37 rd imm word
IsWord (Auipc rd imm) word = IsU 0x17 rd imm word
IsWord (Jal rd offset) word = IsJ 0x6f rd offset word
IsWord (Jalr rd rs1 imm) word = IsI 0x67 0 rd rs1 imm word
IsWord (Beq rs1 rs2 offset) word = IsB 0x63 0 rs1 rs2 offset word
IsWord (Bne rs1 rs2 offset) word = IsB 0x63 1 rs1 rs2 offset word
IsWord (Blt rs1 rs2 offset) word = IsB 0x63 4 rs1 rs2 offset word
IsWord (Bge rs1 rs2 offset) word = IsB 0x63 5 rs1 rs2 offset word
IsWord (Bltu rs1 rs2 offset) word = IsB 0x63 6 rs1 rs2 offset word
IsWord (Bgeu rs1 rs2 offset) word = IsB 0x63 7 rs1 rs2 offset word
IsWord (Lb rd rs1 imm) word = IsI 0x03 0 rd rs1 imm word
IsWord (Lh rd rs1 imm) word = IsI 0x03 1 rd rs1 imm word
IsWord (Lw rd rs1 imm) word = IsI 0x03 2 rd rs1 imm word
IsWord (Lbu rd rs1 imm) word = IsI 0x03 4 rd rs1 imm word
IsWord (Lhu rd rs1 imm) word = IsI 0x03 5 rd rs1 imm word
IsWord (Sb rs1 rs2 imm) word = IsS 0x23 0 rs1 rs2 imm word
IsWord (Sh rs1 rs2 imm) word = IsS 0x23 1 rs1 rs2 imm word
IsWord (Sw rs1 rs2 imm) word = IsS 0x23 2 rs1 rs2 imm word
IsWord (Addi rd rs1 imm) word = IsI 0x13 0 rd rs1 imm word
IsWord (Slti rd rs1 imm) word = IsI 0x13 2 rd rs1 imm word
IsWord (Sltiu rd rs1 imm) word = IsI 0x13 3 rd rs1 imm word
IsWord (Xori rd rs1 imm) word = IsI 0x13 4 rd rs1 imm word
IsWord (Ori rd rs1 imm) word = IsI 0x13 6 rd rs1 imm word
IsWord (Andi rd rs1 imm) word = IsI 0x13 7 rd rs1 imm word
IsWord (Slli rd rs1 shamt) word = IsShift 0x13 1 0x00 rd rs1 shamt word
IsWord (Srli rd rs1 shamt) word = IsShift 0x13 5 0x00 rd rs1 shamt word
IsWord (Srai rd rs1 shamt) word = IsShift 0x13 5 0x20 rd rs1 shamt word
IsWord (Add rd rs1 rs2) word = IsR 0x33 0 0x00 rd rs1 rs2 word
IsWord (Sub rd rs1 rs2) word = IsR 0x33 0 0x20 rd rs1 rs2 word
IsWord (Sll rd rs1 rs2) word = IsR 0x33 1 0x00 rd rs1 rs2 word
IsWord (Slt rd rs1 rs2) word = IsR 0x33 2 0x00 rd rs1 rs2 word
IsWord (Sltu rd rs1 rs2) word = IsR 0x33 3 0x00 rd rs1 rs2 word
IsWord (Xor rd rs1 rs2) word = IsR 0x33 4 0x00 rd rs1 rs2 word
IsWord (Srl rd rs1 rs2) word = IsR 0x33 5 0x00 rd rs1 rs2 word
IsWord (Sra rd rs1 rs2) word = IsR 0x33 5 0x20 rd rs1 rs2 word
IsWord (Or rd rs1 rs2) word = IsR 0x33 6 0x00 rd rs1 rs2 word
IsWord (And rd rs1 rs2) word = IsR 0x33 7 0x00 rd rs1 rs2 word
IsWord Fence word = IsOrdering 0x0f 0 word
IsWord Ecall word = word ≡ 0x00000073
IsWord Ebreak word = word ≡ 0x00100073
IsWord (Mul rd rs1 rs2) word = IsR 0x33 0 0x01 rd rs1 rs2 word
IsWord (Mulh rd rs1 rs2) word = IsR 0x33 1 0x01 rd rs1 rs2 word
IsWord (Mulhsu rd rs1 rs2) word = IsR 0x33 2 0x01 rd rs1 rs2 word
IsWord (Mulhu rd rs1 rs2) word = IsR 0x33 3 0x01 rd rs1 rs2 word
IsWord (Div rd rs1 rs2) word = IsR 0x33 4 0x01 rd rs1 rs2 word
IsWord (Divu rd rs1 rs2) word = IsR 0x33 5 0x01 rd rs1 rs2 word
IsWord (Rem rd rs1 rs2) word = IsR 0x33 6 0x01 rd rs1 rs2 word
IsWord (Remu rd rs1 rs2) word = IsR 0x33 7 0x01 rd rs1 rs2 word
