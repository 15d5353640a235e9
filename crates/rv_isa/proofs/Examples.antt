-- The definitions on worked words and at the edges of the arithmetic, by computation.
use Rattle.std.proofs.Common.{◌≡◌, ℕ, ◌-◌, ◌^◌, [], ◌∷◌, refl, lit<, Some, true, false, nat_eq, if◌then◌else◌}
use Rattle.std.specs.Int.{w64}
use Rattle.rv_isa.specs.declared.immediate.Immediate.{Immediate}
use Rattle.rv_isa.specs.declared.immediate.BranchOffset.{BranchOffset}
use Rattle.rv_isa.specs.declared.immediate.JumpOffset.{JumpOffset}
use Rattle.rv_isa.specs.declared.immediate.UpperImmediate.{UpperImmediate}
use Rattle.rv_isa.specs.declared.act.Act.TheVariants.{Nothing, Set, Load}
use Rattle.rv_isa.specs.declared.instr.Instr.TheVariants.{Lui, Jal, Jalr, Beq, Blt, Lbu, Sw, Addi, Add, Fence, Mul, Div}
use Rattle.rv_isa.specs.Arithmetic.{shift_left, shift_right_logical, shift_right_arithmetic, upper_signed, upper_signed_unsigned, upper_unsigned, quotient_signed, quotient_unsigned, remainder_signed, remainder_unsigned}
use Rattle.rv_isa.specs.Words.{widened_in, sum_in, shift_left_in, quotient_signed_in}
use Rattle.rv_isa.specs.Meaning.{effect_of}
use Rattle.rv_isa.specs.Bytes.{bytes_at, number_at}
use Rattle.rv_isa.specs.Processor.{Processor}
use Rattle.rv_isa.specs.FreeCells.{free_list}
use Rattle.rv_isa.specs.Read.{read}
use Rattle.rv_isa.specs.Table.{IsWord}
use Rattle.rv_isa.proofs.Registers.{x0, x1, x2, x3, x5, x6, x7, x10, x11, x12}

abbrev five : Immediate
five = record { word = 5; in_range = (lit< tt, lit< tt) }

abbrev eight : Immediate
eight = record { word = 8; in_range = (lit< tt, lit< tt) }

abbrev pub minus_one : Immediate
minus_one = record { word = 2 ^ 32 - 1; in_range = (lit< tt, lit< tt) }

abbrev pub back_four : BranchOffset
back_four = record { word = 2 ^ 32 - 4; in_range = (lit< tt, lit< tt, refl) }

abbrev ahead_eight : JumpOffset
ahead_eight = record { word = 8; in_range = (lit< tt, lit< tt, refl) }

abbrev upper : UpperImmediate
upper = record { word = 0x12345000; in_range = (lit< tt, refl) }

-- ---- words

-- addi x1, x0, 5
addi_word : IsWord (Addi x1 x0 five) 0x00500093
addi_word = record { imm_is = refl; rs1_is = refl; funct3_is = refl; rd_is = refl; opcode_is = refl }

-- add x3, x1, x2
add_word : IsWord (Add x3 x1 x2) 0x002081b3
add_word =
    record { funct7_is = refl; rs2_is = refl; rs1_is = refl; funct3_is = refl; rd_is = refl; opcode_is = refl }

-- sw x5, 8(x2)
sw_word : IsWord (Sw x2 x5 eight) 0x00512423
sw_word =
    record { upper_is = refl; rs2_is = refl; rs1_is = refl; funct3_is = refl; lower_is = refl; opcode_is = refl }

-- beq x1, x2, -4
beq_word : IsWord (Beq x1 x2 back_four) 0xfe208ee3
beq_word =
    record {
      sign_is = refl;
      upper_is = refl;
      rs2_is = refl;
      rs1_is = refl;
      funct3_is = refl;
      lower_is = refl;
      bit_11_is = refl;
      opcode_is = refl;
    }

-- jal x1, 8
jal_word : IsWord (Jal x1 ahead_eight) 0x008000ef
jal_word =
    record { sign_is = refl; lower_is = refl; bit_11_is = refl; upper_is = refl; rd_is = refl; opcode_is = refl }

-- lui x5, 0x12345
lui_word : IsWord (Lui x5 upper) 0x123452b7
lui_word = record { imm_is = refl; rd_is = refl; opcode_is = refl }

-- mul x10, x11, x12
mul_word : IsWord (Mul x10 x11 x12) 0x02c58533
mul_word =
    record { funct7_is = refl; rs2_is = refl; rs1_is = refl; funct3_is = refl; rd_is = refl; opcode_is = refl }

-- div x5, x6, x7
div_word : IsWord (Div x5 x6 x7) 0x027342b3
div_word =
    record { funct7_is = refl; rs2_is = refl; rs1_is = refl; funct3_is = refl; rd_is = refl; opcode_is = refl }

-- fence rw, w with a destination: the fields beside the opcode and funct3 say nothing
fence_word : IsWord Fence 0x0310028f
fence_word = record { funct3_is = refl; opcode_is = refl }

fence_read : read 0x0310028f ≡ Some Fence
unfolding read
fence_read = refl

-- ---- arithmetic

-- -2^31 divided by -1 is -2^31 and leaves 0; 7 divided by -2 is -3 and leaves 1; -7 divided by 2 is -3 and leaves -1
quotients : (quotient_signed (2 ^ 31) (2 ^ 32 - 1) ≡ 2 ^ 31) × (quotient_signed 7 (2 ^ 32 - 2) ≡ 2 ^ 32 - 3) × (quotient_signed (2 ^ 32 - 7) 2 ≡ 2 ^ 32 - 3) × (quotient_signed 7 0 ≡ 2 ^ 32 - 1) × (quotient_unsigned (2 ^ 32 - 7) 2 ≡ 2147483644) × (quotient_unsigned 7 0 ≡ 2 ^ 32 - 1)
quotients = (refl, refl, refl, refl, refl, refl)

remainders : (remainder_signed (2 ^ 31) (2 ^ 32 - 1) ≡ 0) × (remainder_signed 7 (2 ^ 32 - 2) ≡ 1) × (remainder_signed (2 ^ 32 - 7) 2 ≡ 2 ^ 32 - 1) × (remainder_signed 7 0 ≡ 7) × (remainder_unsigned (2 ^ 32 - 7) 2 ≡ 1) × (remainder_unsigned 7 0 ≡ 7)
remainders = (refl, refl, refl, refl, refl, refl)

-- -1 by -1 is 1; -1 by 2^32 - 1 is 1 - 2^32; 2^32 - 1 by 2^32 - 1 is 2^64 - 2^33 + 1
upper_halves : (upper_signed (2 ^ 32 - 1) (2 ^ 32 - 1) ≡ 0) × (upper_signed_unsigned (2 ^ 32 - 1) (2 ^ 32 - 1) ≡ 2 ^ 32 - 1) × (upper_unsigned (2 ^ 32 - 1) (2 ^ 32 - 1) ≡ 2 ^ 32 - 2) × (upper_signed (2 ^ 31) (2 ^ 31) ≡ 2 ^ 30)
upper_halves = (refl, refl, refl, refl)

-- by 33 places is by one
shifts : (shift_left (2 ^ 31) 33 ≡ 0) × (shift_left 3 33 ≡ 6) × (shift_right_logical (2 ^ 31) 33 ≡ 2 ^ 30) × (shift_right_arithmetic (2 ^ 31) 33 ≡ 3221225472) × (shift_right_arithmetic (2 ^ 32 - 1) 31 ≡ 2 ^ 32 - 1)
shifts = (refl, refl, refl, refl, refl)

-- ---- effects

branch_taken : effect_of (Beq x1 x2 back_four) 0x10004 9 9 ≡ record { next = 0x10000; act = Nothing }
branch_taken = refl

-- -1 is below 0
branch_signed : effect_of (Blt x1 x2 back_four) 0x10004 (2 ^ 32 - 1) 0 ≡ record { next = 0x10000; act = Nothing }
branch_signed = refl

-- bit 0 of the target is cleared
jump_even : effect_of (Jalr x1 x2 minus_one) 0x10000 0x20000 0 ≡ record { next = 0x1fffe; act = Set 0x10004 }
jump_even = refl

-- addresses wrap
load_wraps : effect_of (Lbu x1 x2 minus_one) 0x10000 0 0 ≡ record { next = 0x10004; act = Load (2 ^ 32 - 1) 1 false }
load_wraps = refl

-- ---- words of 64 bits

-- sums wrap; by 65 places is by one; the sign goes into the upper half; and the least number divided by -1 is itself
wide_words : (sum_in w64 (2 ^ 64 - 1) 1 ≡ 0) × (shift_left_in w64 3 65 ≡ 6) × (widened_in w64 4 true (2 ^ 31) ≡ 2 ^ 64 - 2 ^ 31) × (quotient_signed_in w64 (2 ^ 63) (2 ^ 64 - 1) ≡ 2 ^ 63)
wide_words = (refl, refl, refl, refl)

-- ---- free cells: one on the chain from 0x11000, and those between two addresses

abbrev with_cells : ℕ → ℕ → Processor
with_cells low high = record {
  registers = λ x. if nat_eq x 8 then 0x11000 else if nat_eq x 18 then low else if nat_eq x 19 then high else 0;
  pc = 0;
  memory = λ x. 0;
  parts = record { start = 0x11000; size = 32; readable = true; writable = true; executable = false; bytes = [] } ∷ [];
  left = [];
  executed = 0;
  trace = [];
}

chain_then_border : free_list 10 (with_cells 0x20000 0x20040) ≡ 0x11000 ∷ 0x20000 ∷ 0x20020 ∷ []
unfolding bytes_at number_at
chain_then_border = refl

at_most_two : free_list 2 (with_cells 0x20000 0x20040) ≡ 0x11000 ∷ 0x20000 ∷ []
unfolding bytes_at number_at
at_most_two = refl

none_above_the_end : free_list 10 (with_cells 0x20040 0x20000) ≡ 0x11000 ∷ []
unfolding bytes_at number_at
none_above_the_end = refl

none_between_cells : free_list 10 (with_cells 0x20010 0x20040) ≡ 0x11000 ∷ []
unfolding bytes_at number_at
none_between_cells = refl
