-- The lines of the routines that have branches, with their labels.
use Rattle.std.specs.Prelude.{List, [], ◌∷◌}
use Rattle.rv_isa.specs.declared.instr.Instr.TheVariants.{Jalr, Lw, Lbu, Sb, Sw, Addi, Andi, Srli, Add, Sub, Remu, Divu, Ecall}
use Rattle.rv_isa.specs.declared.asm.Condition.TheVariants.{Equal, NotEqual, GreaterEqual}
use Rattle.rv_isa.specs.declared.placed.Native.{Native}
use Rattle.rv_isa.specs.declared.placed.Native.TheVariants.{Instruction, Address, Label, Branch}
use Rattle.rv_isa.specs.declared.placed.Section.TheVariants.{Data}
use Rattle.rv_isa.specs.declared.placed.Symbol.TheVariants.{Local}
use Rattle.rv_isa.proofs.Registers.{x0, x1, x5, x6, x7, x8, x9, x10, x11, x12, x13, x17, x18, x19}
use Rattle.cell_runtime.proofs.Operands.{imm_0, imm_1, imm_4, imm_10, imm_45, imm_48, imm_63, imm_cell_size, imm_heap_full, imm_minus_1}
use Rattle.cell_runtime.proofs.DropRows.{imm_8, by_1, by_8}
use Rattle.cell_runtime.proofs.IntRuns.{put_code}
use Rattle.cell_runtime.proofs.Spelling.{plain}
use Rattle.cell_runtime.proofs.StopRuns.{stop_code}

abbrev pub take_lines : List Native
take_lines =
    Branch Equal x8 x0 (Local 0)
    ∷ Instruction (Addi x5 x8 imm_0)
    ∷ Instruction (Lw x8 x8 imm_0)
    ∷ Instruction (Jalr x0 x1 imm_0)
    ∷ Label (Local 0)
    ∷ Branch Equal x18 x19 (Local 1)
    ∷ Instruction (Addi x5 x18 imm_0)
    ∷ Instruction (Addi x18 x18 imm_cell_size)
    ∷ Instruction (Jalr x0 x1 imm_0)
    ∷ Label (Local 1)
    ∷ Branch Equal x9 x0 (Local 2)
    ∷ Instruction (Addi x5 x9 imm_0)
    ∷ Instruction (Lw x9 x5 imm_4)
    ∷ Instruction (Sw x9 x0 imm_0)
    ∷ Instruction (Lw x9 x5 imm_0)
    ∷ Instruction (Jalr x0 x1 imm_0)
    ∷ Label (Local 2)
    ∷ plain (stop_code imm_heap_full)

abbrev pub drop_lines : List Native
drop_lines =
    Instruction (Addi x13 x10 imm_0)
    ∷ Branch Equal x0 x0 (Local 4)
    ∷ Label (Local 0)
    ∷ Instruction (Andi x5 x10 imm_1)
    ∷ Branch NotEqual x5 x0 (Local 1)
    ∷ Instruction (Lw x5 x10 imm_0)
    ∷ Instruction (Addi x5 x5 imm_minus_1)
    ∷ Branch Equal x5 x0 (Local 2)
    ∷ Instruction (Sw x10 x5 imm_0)
    ∷ Label (Local 1)
    ∷ Branch Equal x12 x0 (Local 3)
    ∷ Instruction (Andi x5 x12 imm_1)
    ∷ Instruction (Lw x10 x11 imm_0)
    ∷ Instruction (Addi x11 x11 imm_4)
    ∷ Instruction (Srli x12 x12 by_1)
    ∷ Branch NotEqual x5 x0 (Local 0)
    ∷ Branch Equal x0 x0 (Local 1)
    ∷ Label (Local 2)
    ∷ Instruction (Sw x10 x13 imm_0)
    ∷ Instruction (Addi x13 x10 imm_0)
    ∷ Branch Equal x0 x0 (Local 1)
    ∷ Label (Local 3)
    ∷ Branch NotEqual x13 x0 (Local 4)
    ∷ Instruction (Jalr x0 x1 imm_0)
    ∷ Label (Local 4)
    ∷ Instruction (Lw x5 x13 imm_0)
    ∷ Instruction (Sw x13 x8 imm_0)
    ∷ Instruction (Addi x8 x13 imm_0)
    ∷ Instruction (Lw x12 x13 imm_4)
    ∷ Instruction (Srli x12 x12 by_8)
    ∷ Instruction (Addi x11 x13 imm_8)
    ∷ Instruction (Addi x13 x5 imm_0)
    ∷ Branch Equal x0 x0 (Local 1)
    ∷ []

abbrev pub print_int_lines : List Native
print_int_lines =
    Address x5 Data 11
    ∷ Instruction (Add x12 x5 x11)
    ∷ Instruction (Addi x6 x0 imm_10)
    ∷ Instruction (Sb x5 x6 imm_0)
    ∷ Instruction (Addi x7 x10 imm_0)
    ∷ Branch GreaterEqual x10 x0 (Local 0)
    ∷ Instruction (Sub x7 x0 x10)
    ∷ Label (Local 0)
    ∷ Instruction (Remu x11 x7 x6)
    ∷ Instruction (Divu x7 x7 x6)
    ∷ Instruction (Addi x11 x11 imm_48)
    ∷ Instruction (Addi x5 x5 imm_minus_1)
    ∷ Instruction (Sb x5 x11 imm_0)
    ∷ Branch NotEqual x7 x0 (Local 0)
    ∷ Branch GreaterEqual x10 x0 (Local 1)
    ∷ Instruction (Addi x11 x0 imm_45)
    ∷ Instruction (Addi x5 x5 imm_minus_1)
    ∷ Instruction (Sb x5 x11 imm_0)
    ∷ Label (Local 1)
    ∷ plain put_code

abbrev pub read_byte_lines : List Native
read_byte_lines =
    Address x11 Data 0
    ∷ Instruction (Addi x12 x0 imm_1)
    ∷ Instruction (Addi x10 x0 imm_0)
    ∷ Instruction (Addi x17 x0 imm_63)
    ∷ Instruction Ecall
    ∷ Instruction (Addi x10 x10 imm_minus_1)
    ∷ Branch NotEqual x10 x0 (Local 0)
    ∷ Instruction (Lbu x10 x11 imm_0)
    ∷ Label (Local 0)
    ∷ Instruction (Jalr x0 x1 imm_0)
    ∷ []
