-- The instruction of a word, read by its fields: the function of the table.
use Rattle.std.specs.Prelude.{ℕ, ◌+◌, ◌*◌, ◌/◌, ◌%◌, ◌^◌, Option, Some, None, ◌&&◌, ◌||◌, if◌then◌else◌, nat_eq}
use Rattle.std.proofs.Common.{lit<}
use Rattle.std.proofs.Math.Nat.{mod-lt}
use Rattle.rv_isa.specs.declared.register.Register.{Register}
use Rattle.rv_isa.specs.declared.immediate.Immediate.{Immediate}
use Rattle.rv_isa.specs.declared.immediate.BranchOffset.{BranchOffset}
use Rattle.rv_isa.specs.declared.immediate.JumpOffset.{JumpOffset}
use Rattle.rv_isa.specs.declared.immediate.UpperImmediate.{UpperImmediate}
use Rattle.rv_isa.specs.declared.immediate.ShiftAmount.{ShiftAmount}
use Rattle.rv_isa.specs.declared.instr.Instr.{Instr}
use Rattle.rv_isa.specs.declared.instr.Instr.TheVariants.{Lui, Auipc, Jal, Jalr, Beq, Bne, Blt, Bge, Bltu, Bgeu, Lb, Lh, Lw, Lbu, Lhu, Sb, Sh, Sw, Addi, Slti, Sltiu, Xori, Ori, Andi, Slli, Srli, Srai, Add, Sub, Sll, Slt, Sltu, Xor, Srl, Sra, Or, And, Fence, Ecall, Ebreak, Mul, Mulh, Mulhsu, Mulhu, Div, Divu, Rem, Remu}
use Rattle.rv_isa.specs.Field.{field}
use Rattle.rv_isa.specs.Extension.{extended, immediate_in_range, branch_offset_in_range, jump_offset_in_range, upper_immediate_in_range}

-- the fields of a word, in the types that hold them
abbrev pub register_at : ℕ → ℕ → Register
register_at word low = record { number = word / 2 ^ low % 2 ^ 5; in_range = mod-lt _ (lit< tt) }

abbrev pub rd_at : ℕ → Register
rd_at word = register_at word 7

abbrev pub rs1_at : ℕ → Register
rs1_at word = register_at word 15

abbrev pub rs2_at : ℕ → Register
rs2_at word = register_at word 20

abbrev pub shamt_at : ℕ → ShiftAmount
shamt_at word = record { places = field word 24 20; in_range = mod-lt _ (lit< tt) }

abbrev pub i_immediate : ℕ → Immediate
i_immediate word = let x = field word 31 20 in record { word = extended (2 ^ 11) x; in_range = immediate_in_range x }

abbrev pub s_immediate : ℕ → Immediate
s_immediate word =
    let x = field word 31 25 * 2 ^ 5 + field word 11 7
    in record { word = extended (2 ^ 11) x; in_range = immediate_in_range x }

abbrev pub b_immediate : ℕ → BranchOffset
b_immediate word =
    let half = field word 31 31 * 2 ^ 11 + field word 7 7 * 2 ^ 10 + field word 30 25 * 2 ^ 4 + field word 11 8
    in record { word = extended (2 ^ 12) (half * 2); in_range = branch_offset_in_range half }

abbrev pub u_immediate : ℕ → UpperImmediate
u_immediate word = record { word = field word 31 12 * 2 ^ 12; in_range = upper_immediate_in_range (word / 2 ^ 12) }

abbrev pub j_immediate : ℕ → JumpOffset
j_immediate word =
    let half = field word 31 31 * 2 ^ 19 + field word 19 12 * 2 ^ 11 + field word 20 20 * 2 ^ 10 + field word 30 21
    in record { word = extended (2 ^ 20) (half * 2); in_range = jump_offset_in_range half }

-- the instructions of an opcode, by their function codes
unfoldable pub branch_of : ℕ → Register → Register → BranchOffset → Option Instr
branch_of funct3 rs1 rs2 offset =
    if nat_eq funct3 0 then Some (Beq rs1 rs2 offset)
    else if nat_eq funct3 1 then Some (Bne rs1 rs2 offset)
    else if nat_eq funct3 4 then Some (Blt rs1 rs2 offset)
    else if nat_eq funct3 5 then Some (Bge rs1 rs2 offset)
    else if nat_eq funct3 6 then Some (Bltu rs1 rs2 offset)
    else if nat_eq funct3 7 then Some (Bgeu rs1 rs2 offset)
    else None

unfoldable pub load_of : ℕ → Register → Register → Immediate → Option Instr
load_of funct3 rd rs1 imm =
    if nat_eq funct3 0 then Some (Lb rd rs1 imm)
    else if nat_eq funct3 1 then Some (Lh rd rs1 imm)
    else if nat_eq funct3 2 then Some (Lw rd rs1 imm)
    else if nat_eq funct3 4 then Some (Lbu rd rs1 imm)
    else if nat_eq funct3 5 then Some (Lhu rd rs1 imm)
    else None

unfoldable pub store_of : ℕ → Register → Register → Immediate → Option Instr
store_of funct3 rs1 rs2 imm =
    if nat_eq funct3 0 then Some (Sb rs1 rs2 imm)
    else if nat_eq funct3 1 then Some (Sh rs1 rs2 imm)
    else if nat_eq funct3 2 then Some (Sw rs1 rs2 imm)
    else None

unfoldable pub immediate_operation_of : ℕ → Register → Register → Immediate → Option Instr
immediate_operation_of funct3 rd rs1 imm =
    if nat_eq funct3 0 then Some (Addi rd rs1 imm)
    else if nat_eq funct3 2 then Some (Slti rd rs1 imm)
    else if nat_eq funct3 3 then Some (Sltiu rd rs1 imm)
    else if nat_eq funct3 4 then Some (Xori rd rs1 imm)
    else if nat_eq funct3 6 then Some (Ori rd rs1 imm)
    else if nat_eq funct3 7 then Some (Andi rd rs1 imm)
    else None

unfoldable pub shift_of : ℕ → ℕ → Register → Register → ShiftAmount → Option Instr
shift_of funct7 funct3 rd rs1 shamt =
    if nat_eq funct7 0x00 && nat_eq funct3 1 then Some (Slli rd rs1 shamt)
    else if nat_eq funct7 0x00 && nat_eq funct3 5 then Some (Srli rd rs1 shamt)
    else if nat_eq funct7 0x20 && nat_eq funct3 5 then Some (Srai rd rs1 shamt)
    else None

unfoldable pub base_operation_of : ℕ → Register → Register → Register → Option Instr
base_operation_of funct3 rd rs1 rs2 =
    if nat_eq funct3 0 then Some (Add rd rs1 rs2)
    else if nat_eq funct3 1 then Some (Sll rd rs1 rs2)
    else if nat_eq funct3 2 then Some (Slt rd rs1 rs2)
    else if nat_eq funct3 3 then Some (Sltu rd rs1 rs2)
    else if nat_eq funct3 4 then Some (Xor rd rs1 rs2)
    else if nat_eq funct3 5 then Some (Srl rd rs1 rs2)
    else if nat_eq funct3 6 then Some (Or rd rs1 rs2)
    else if nat_eq funct3 7 then Some (And rd rs1 rs2)
    else None

unfoldable pub multiplication_of : ℕ → Register → Register → Register → Option Instr
multiplication_of funct3 rd rs1 rs2 =
    if nat_eq funct3 0 then Some (Mul rd rs1 rs2)
    else if nat_eq funct3 1 then Some (Mulh rd rs1 rs2)
    else if nat_eq funct3 2 then Some (Mulhsu rd rs1 rs2)
    else if nat_eq funct3 3 then Some (Mulhu rd rs1 rs2)
    else if nat_eq funct3 4 then Some (Div rd rs1 rs2)
    else if nat_eq funct3 5 then Some (Divu rd rs1 rs2)
    else if nat_eq funct3 6 then Some (Rem rd rs1 rs2)
    else if nat_eq funct3 7 then Some (Remu rd rs1 rs2)
    else None

unfoldable pub operation_of : ℕ → ℕ → Register → Register → Register → Option Instr
operation_of funct7 funct3 rd rs1 rs2 =
    if nat_eq funct7 0x00 then base_operation_of funct3 rd rs1 rs2
    else if nat_eq funct7 0x01 then multiplication_of funct3 rd rs1 rs2
    else if nat_eq funct7 0x20 && nat_eq funct3 0 then Some (Sub rd rs1 rs2)
    else if nat_eq funct7 0x20 && nat_eq funct3 5 then Some (Sra rd rs1 rs2)
    else None

-- the instruction that has the word, or none
unfoldable pub read : ℕ → Option Instr
read word =
    let opcode = field word 6 0 in
    let funct3 = field word 14 12 in
    let funct7 = field word 31 25 in
    if nat_eq opcode 0x37 then Some (Lui (rd_at word) (u_immediate word))
    else if nat_eq opcode 0x17 then Some (Auipc (rd_at word) (u_immediate word))
    else if nat_eq opcode 0x6f then Some (Jal (rd_at word) (j_immediate word))
    else if nat_eq opcode 0x67 then (if nat_eq funct3 0 then Some (Jalr (rd_at word) (rs1_at word) (i_immediate word)) else None)
    else if nat_eq opcode 0x63 then branch_of funct3 (rs1_at word) (rs2_at word) (b_immediate word)
    else if nat_eq opcode 0x03 then load_of funct3 (rd_at word) (rs1_at word) (i_immediate word)
    else if nat_eq opcode 0x23 then store_of funct3 (rs1_at word) (rs2_at word) (s_immediate word)
    else if nat_eq opcode 0x13 then
    (if nat_eq funct3 1 || nat_eq funct3 5 then shift_of funct7 funct3 (rd_at word) (rs1_at word) (shamt_at word)
    else immediate_operation_of funct3 (rd_at word) (rs1_at word) (i_immediate word))
    else if nat_eq opcode 0x33 then operation_of funct7 funct3 (rd_at word) (rs1_at word) (rs2_at word)
    else if nat_eq opcode 0x0f then (if nat_eq funct3 0 then Some Fence else None)
    else if nat_eq opcode 0x73 then
    (if nat_eq word 0x00000073 then Some Ecall
    else if nat_eq word 0x00100073 then Some Ebreak
    else None)
    else None
