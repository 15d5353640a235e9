-- What each instruction does, over the values of its registers: one row for each. Words are numbers below 2^32.
-- The RISC-V Instruction Set Manual, Volume I: Unprivileged ISA, 2.4 Integer Computational Instructions, 2.5 Control Transfer Instructions, 2.6 Load and Store Instructions, 2.7 Memory Ordering Instructions, 2.8 Environment Call and Breakpoints, and the chapter '"M" Standard Extension for Integer Multiplication and Division'.
use Rattle.std.specs.Prelude.{◌≡◌, ◌⊎◌, ℕ, ◌-◌, ◌%◌, Bool, true, false, not, nat_eq, nat_lt, int_lt, bit_and, bit_or, bit_xor}
use Rattle.rv_isa.specs.declared.immediate.Immediate.{Immediate}
use Rattle.rv_isa.specs.declared.immediate.BranchOffset.{BranchOffset}
use Rattle.rv_isa.specs.declared.act.Act.{Act}
use Rattle.rv_isa.specs.declared.act.Act.TheVariants.{Nothing, Call, Break}
use Rattle.rv_isa.specs.declared.act.Effect.{Effect}
use Rattle.rv_isa.specs.declared.instr.Instr.{Instr}
use Rattle.rv_isa.specs.declared.instr.Instr.TheVariants.{Lui, Auipc, Jal, Jalr, Beq, Bne, Blt, Bge, Bltu, Bgeu, Lb, Lh, Lw, Lbu, Lhu, Sb, Sh, Sw, Addi, Slti, Sltiu, Xori, Ori, Andi, Slli, Srli, Srai, Add, Sub, Sll, Slt, Sltu, Xor, Srl, Sra, Or, And, Fence, Ecall, Ebreak, Mul, Mulh, Mulhsu, Mulhu, Div, Divu, Rem, Remu}
use Rattle.std.specs.Int.{w32}
use Rattle.rv_isa.specs.Effects.{goes_on_in, sets_in, jumps_in, branches_in, loads_in, stores_in}
use Rattle.rv_isa.specs.Arithmetic.{signed, bit_of, sum_word, difference_word, shift_left, shift_right_logical, shift_right_arithmetic, product_word, upper_signed, upper_signed_unsigned, upper_unsigned, quotient_signed, quotient_unsigned, remainder_signed, remainder_unsigned}

-- the forms of Effects, at the width of 32 bits
abbrev pub goes_on : ℕ → Act → Effect
goes_on pc act = goes_on_in w32 pc act

abbrev pub sets : ℕ → ℕ → Effect
sets pc value = sets_in w32 pc value

abbrev pub jumps : ℕ → ℕ → Effect
jumps pc target = jumps_in w32 pc target

abbrev pub branches : ℕ → Bool → BranchOffset → Effect
branches pc test offset = branches_in w32 pc test offset.word

abbrev pub loads : ℕ → ℕ → Immediate → ℕ → Bool → Effect
loads pc a imm width signed = loads_in w32 pc a imm.word width signed

abbrev pub stores : ℕ → ℕ → ℕ → Immediate → ℕ → Effect
stores pc a b imm width = stores_in w32 pc a b imm.word width

-- the numbers of bytes that loads and stores move
abbrev pub IsWidth : ℕ → Type 0
IsWidth count = (count ≡ 1) ⊎ ((count ≡ 2) ⊎ (count ≡ 4))

-- where the instruction stands at pc, rs1 holds a and rs2 holds b
abbrev pub effect_of : Instr → ℕ → ℕ → ℕ → Effect
effect_of (Lui rd imm) pc a b = sets pc imm.word
effect_of (Auipc rd imm) pc a b = sets pc (sum_word pc imm.word)
effect_of (Jal rd offset) pc a b = jumps pc (sum_word pc offset.word)
effect_of (Jalr rd rs1 imm) pc a b = let target = sum_word a imm.word in jumps pc (target - target % 2)
effect_of (Beq rs1 rs2 offset) pc a b = branches pc (nat_eq a b) offset
effect_of (Bne rs1 rs2 offset) pc a b = branches pc (not (nat_eq a b)) offset
effect_of (Blt rs1 rs2 offset) pc a b = branches pc (int_lt (signed a) (signed b)) offset
effect_of (Bge rs1 rs2 offset) pc a b = branches pc (not (int_lt (signed a) (signed b))) offset
effect_of (Bltu rs1 rs2 offset) pc a b = branches pc (nat_lt a b) offset
effect_of (Bgeu rs1 rs2 offset) pc a b = branches pc (not (nat_lt a b)) offset
effect_of (Lb rd rs1 imm) pc a b = loads pc a imm 1 true
effect_of (Lh rd rs1 imm) pc a b = loads pc a imm 2 true
effect_of (Lw rd rs1 imm) pc a b = loads pc a imm 4 true
effect_of (Lbu rd rs1 imm) pc a b = loads pc a imm 1 false
effect_of (Lhu rd rs1 imm) pc a b = loads pc a imm 2 false
effect_of (Sb rs1 rs2 imm) pc a b = stores pc a b imm 1
effect_of (Sh rs1 rs2 imm) pc a b = stores pc a b imm 2
effect_of (Sw rs1 rs2 imm) pc a b = stores pc a b imm 4
effect_of (Addi rd rs1 imm) pc a b = sets pc (sum_word a imm.word)
effect_of (Slti rd rs1 imm) pc a b = sets pc (bit_of (int_lt (signed a) (signed imm.word)))
effect_of (Sltiu rd rs1 imm) pc a b = sets pc (bit_of (nat_lt a imm.word))
effect_of (Xori rd rs1 imm) pc a b = sets pc (bit_xor a imm.word)
effect_of (Ori rd rs1 imm) pc a b = sets pc (bit_or a imm.word)
effect_of (Andi rd rs1 imm) pc a b = sets pc (bit_and a imm.word)
effect_of (Slli rd rs1 shamt) pc a b = sets pc (shift_left a shamt.places)
effect_of (Srli rd rs1 shamt) pc a b = sets pc (shift_right_logical a shamt.places)
effect_of (Srai rd rs1 shamt) pc a b = sets pc (shift_right_arithmetic a shamt.places)
effect_of (Add rd rs1 rs2) pc a b = sets pc (sum_word a b)
effect_of (Sub rd rs1 rs2) pc a b = sets pc (difference_word a b)
effect_of (Sll rd rs1 rs2) pc a b = sets pc (shift_left a b)
effect_of (Slt rd rs1 rs2) pc a b = sets pc (bit_of (int_lt (signed a) (signed b)))
effect_of (Sltu rd rs1 rs2) pc a b = sets pc (bit_of (nat_lt a b))
effect_of (Xor rd rs1 rs2) pc a b = sets pc (bit_xor a b)
effect_of (Srl rd rs1 rs2) pc a b = sets pc (shift_right_logical a b)
effect_of (Sra rd rs1 rs2) pc a b = sets pc (shift_right_arithmetic a b)
effect_of (Or rd rs1 rs2) pc a b = sets pc (bit_or a b)
effect_of (And rd rs1 rs2) pc a b = sets pc (bit_and a b)
effect_of Fence pc a b = goes_on pc Nothing
effect_of Ecall pc a b = goes_on pc Call
effect_of Ebreak pc a b = goes_on pc Break
effect_of (Mul rd rs1 rs2) pc a b = sets pc (product_word a b)
effect_of (Mulh rd rs1 rs2) pc a b = sets pc (upper_signed a b)
effect_of (Mulhsu rd rs1 rs2) pc a b = sets pc (upper_signed_unsigned a b)
effect_of (Mulhu rd rs1 rs2) pc a b = sets pc (upper_unsigned a b)
effect_of (Div rd rs1 rs2) pc a b = sets pc (quotient_signed a b)
effect_of (Divu rd rs1 rs2) pc a b = sets pc (quotient_unsigned a b)
effect_of (Rem rd rs1 rs2) pc a b = sets pc (remainder_signed a b)
effect_of (Remu rd rs1 rs2) pc a b = sets pc (remainder_unsigned a b)
