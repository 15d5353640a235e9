-- Lines whose branches name the labels that they lead to, and the lines that they become.
use Rattle.std.specs.Prelude.{ℕ, ◌+◌, ◌-◌, ◌*◌, ◌^◌, List, [], ◌∷◌, Option, Some, None, Bool, false, if◌then◌else◌, nat_eq}
use Rattle.rv_isa.specs.declared.register.Register.{Register}
use Rattle.rv_isa.specs.declared.immediate.BranchOffset.{BranchOffset}
use Rattle.rv_isa.specs.declared.instr.Instr.{Instr}
use Rattle.rv_isa.specs.declared.instr.Instr.TheVariants.{Beq, Bne, Blt, Bge, Bltu, Bgeu}
use Rattle.rv_isa.specs.declared.asm.Condition.{Condition}
use Rattle.rv_isa.specs.declared.asm.Condition.TheVariants.{Equal, NotEqual, Less, GreaterEqual, LessUnsigned, GreaterEqualUnsigned}
use Rattle.rv_isa.specs.Extension.{extended, branch_offset_in_range}
use Rattle.rv_isa.specs.declared.placed.Native.{Native}
use Rattle.rv_isa.specs.declared.placed.Native.TheVariants.{Instruction, Address, Label, Branch}
use Rattle.rv_isa.specs.declared.placed.Symbol.TheVariants.{Local}

-- the instruction of a branch
abbrev pub branch_of : Condition → Register → Register → BranchOffset → Instr
branch_of Equal a b offset = Beq a b offset
branch_of NotEqual a b offset = Bne a b offset
branch_of Less a b offset = Blt a b offset
branch_of GreaterEqual a b offset = Bge a b offset
branch_of LessUnsigned a b offset = Bltu a b offset
branch_of GreaterEqualUnsigned a b offset = Bgeu a b offset

-- the distance from one instruction to another, by how many stand before each
abbrev pub distance : ℕ → ℕ → BranchOffset
distance from to =
    let half = 2 * to + 2 ^ 12 - 2 * from
    in record { word = extended (2 ^ 12) (half * 2); in_range = branch_offset_in_range half }

-- how many instructions a line becomes
abbrev pub size_of_line : Native → ℕ
size_of_line (Instruction i) = 1
size_of_line (Branch condition left right target) = 1
size_of_line (Address rd section offset) = 2
size_of_line _ = 0

abbrev pub is_label : ℕ → Native → Bool
is_label label (Label (Local other)) = nat_eq other label
is_label label _ = false

-- how many instructions stand before a label
abbrev pub place_of : ℕ → List Native → ℕ
place_of label [] = 0
place_of label (line ∷ lines) = if is_label label line then 0 else size_of_line line + place_of label lines

-- What a line becomes that stands behind so many instructions among all lines: a branch to a label of theirs is the instruction with the
-- distance to that label, a label is no line, and any other line stays
abbrev pub row_of : List Native → ℕ → Native → Option Native
row_of all at (Label symbol) = None
row_of all at (Branch condition left right (Local label)) = Some (Instruction (branch_of condition left right (distance at (place_of label all))))
row_of all at line = Some line

abbrev pub with_row : Option Native → List Native → List Native
with_row None rows = rows
with_row (Some row) rows = row ∷ rows

abbrev pub linked_from : List Native → ℕ → List Native → List Native
linked_from all at [] = []
linked_from all at (line ∷ lines) = with_row (row_of all at line) (linked_from all (at + size_of_line line) lines)

-- all lines
abbrev pub linked : List Native → List Native
linked lines = linked_from lines 0 lines

-- the most lines of a routine
abbrev pub most_lines : ℕ
most_lines = 500
