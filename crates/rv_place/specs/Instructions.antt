-- The instructions of the assembler's operations, jumps and calls, as they stand in code at an address.
use Rattle.std.specs.Prelude.{◌≡◌, ℕ, ◌+◌, ◌-◌, ◌*◌, ◌%◌, ◌^◌, List, [], ◌∷◌, Some, Bool, true, false, cond, nat_lt, nat_eq}
use Rattle.rv_isa.specs.declared.register.Register.{Register}
use Rattle.rv_place.specs.Registers.{zero_register, ra, sp, s0, s1, a0}
use Rattle.rv_isa.specs.declared.immediate.Immediate.{Immediate}
use Rattle.rv_isa.specs.declared.immediate.BranchOffset.{BranchOffset}
use Rattle.rv_isa.specs.declared.immediate.JumpOffset.{JumpOffset}
use Rattle.rv_isa.specs.declared.immediate.UpperImmediate.{UpperImmediate}
use Rattle.rv_isa.specs.declared.instr.Instr.{Instr}
use Rattle.rv_isa.specs.declared.asm.Condition.{Condition}
use Rattle.rv_isa.specs.declared.asm.Condition.TheVariants.{Equal, NotEqual, Less, GreaterEqual, LessUnsigned, GreaterEqualUnsigned}
use Rattle.rv_isa.specs.declared.asm.Operation.{Operation}
use Rattle.rv_isa.specs.declared.asm.RegisterOperation.{RegisterOperation}
use Rattle.rv_isa.specs.declared.asm.RegisterOperation.TheVariants.{Add, Sub, Sll, Slt, Sltu, Xor, Srl, Sra, Or, And, Mul, Mulh}
use Rattle.rv_isa.specs.declared.asm.RegisterOperation.TheVariants.{Mulhsu, Mulhu, Div, Divu, Rem, Remu}
use Rattle.rv_isa.specs.declared.asm.ImmediateOperation.{ImmediateOperation}
use Rattle.rv_isa.specs.declared.asm.ImmediateOperation.TheVariants.{Addi, Slti, Sltiu, Xori, Ori, Andi}
use Rattle.rv_isa.specs.declared.asm.ShiftOperation.{ShiftOperation}
use Rattle.rv_isa.specs.declared.asm.ShiftOperation.TheVariants.{Slli, Srli, Srai}
use Rattle.rv_isa.specs.declared.immediate.ShiftAmount.{ShiftAmount}
use Rattle.rv_isa.specs.declared.routine.Routine.{Routine}
use Rattle.rv_isa.specs.declared.routine.Routine.TheVariants.{Take, Drop, PrintInt, PrintText, ReadByte}
use Rattle.rv_isa.specs.Arithmetic.{sum_word}
use Rattle.rv_isa.specs.Opposites.{opposite}
use Rattle.rv_isa.specs.Standing.{Code, Has}
use Rattle.cell_runtime.specs.Operations.{Constants, address_in}
use Rattle.rv_place.specs.declared.reach.WordForm.{WordForm}
use Rattle.rv_place.specs.declared.reach.WordForm.TheVariants.{Short, Upper, Both}
use Rattle.rv_place.specs.declared.reach.Reach.{Reach}
use Rattle.rv_place.specs.declared.reach.Reach.TheVariants.{Near, Far, Wide}

abbrev pub register_instruction : RegisterOperation → Register → Register → Register → Instr
register_instruction Add rd a b = Instr.Add rd a b
register_instruction Sub rd a b = Instr.Sub rd a b
register_instruction Sll rd a b = Instr.Sll rd a b
register_instruction Slt rd a b = Instr.Slt rd a b
register_instruction Sltu rd a b = Instr.Sltu rd a b
register_instruction Xor rd a b = Instr.Xor rd a b
register_instruction Srl rd a b = Instr.Srl rd a b
register_instruction Sra rd a b = Instr.Sra rd a b
register_instruction Or rd a b = Instr.Or rd a b
register_instruction And rd a b = Instr.And rd a b
register_instruction Mul rd a b = Instr.Mul rd a b
register_instruction Mulh rd a b = Instr.Mulh rd a b
register_instruction Mulhsu rd a b = Instr.Mulhsu rd a b
register_instruction Mulhu rd a b = Instr.Mulhu rd a b
register_instruction Div rd a b = Instr.Div rd a b
register_instruction Divu rd a b = Instr.Divu rd a b
register_instruction Rem rd a b = Instr.Rem rd a b
register_instruction Remu rd a b = Instr.Remu rd a b

abbrev pub immediate_instruction : ImmediateOperation → Register → Register → Immediate → Instr
immediate_instruction Addi rd a imm = Instr.Addi rd a imm
immediate_instruction Slti rd a imm = Instr.Slti rd a imm
immediate_instruction Sltiu rd a imm = Instr.Sltiu rd a imm
immediate_instruction Xori rd a imm = Instr.Xori rd a imm
immediate_instruction Ori rd a imm = Instr.Ori rd a imm
immediate_instruction Andi rd a imm = Instr.Andi rd a imm

abbrev pub shift_instruction : ShiftOperation → Register → Register → ShiftAmount → Instr
shift_instruction Slli rd a amount = Instr.Slli rd a amount
shift_instruction Srli rd a amount = Instr.Srli rd a amount
shift_instruction Srai rd a amount = Instr.Srai rd a amount

-- the branch that is taken exactly where the condition holds
abbrev pub branch_instruction : Condition → Register → Register → BranchOffset → Instr
branch_instruction Equal a b offset = Instr.Beq a b offset
branch_instruction NotEqual a b offset = Instr.Bne a b offset
branch_instruction Less a b offset = Instr.Blt a b offset
branch_instruction GreaterEqual a b offset = Instr.Bge a b offset
branch_instruction LessUnsigned a b offset = Instr.Bltu a b offset
branch_instruction GreaterEqualUnsigned a b offset = Instr.Bgeu a b offset

-- an offset of 0
abbrev pub Zero : Immediate → Type 0
Zero imm = imm.word ≡ 0

-- a word in a register, by LUI and ADDI whatever it is
abbrev pub LoadsWord : Code → ℕ → Register → ℕ → Type 0
LoadsWord code at rd word =
    (upper : UpperImmediate) × (lower : Immediate) × (sum_word upper.word lower.word ≡ word)
    × Has code at (Instr.Lui rd upper ∷ Instr.Addi rd rd lower ∷ [])

-- The form of a constant, the shortest that makes it: one that an immediate holds is added to zero, and one whose lower 12 bits
-- are zero is set
-- by LUI alone.
abbrev pub form_of : ℕ → WordForm
form_of word = cond (nat_lt (sum_word word 2048) 4096) Short (cond (nat_eq (word % 4096) 0) Upper Both)

abbrev pub SetsBy : WordForm → Code → ℕ → Register → ℕ → Type 0
SetsBy Short code at rd word = (imm : Immediate) × (imm.word ≡ word) × (code at ≡ Some (Instr.Addi rd zero_register imm))
SetsBy Upper code at rd word = (upper : UpperImmediate) × (upper.word ≡ word) × (code at ≡ Some (Instr.Lui rd upper))
SetsBy Both code at rd word = LoadsWord code at rd word

-- how many instructions a form is
abbrev pub words_of_form : WordForm → ℕ
words_of_form Short = 1
words_of_form Upper = 1
words_of_form Both = 2

-- a constant in a register
abbrev pub SetsWord : Code → ℕ → Register → ℕ → Type 0
SetsWord code at rd word = SetsBy (form_of word) code at rd word

abbrev pub words_of_constant : ℕ → ℕ
words_of_constant word = words_of_form (form_of word)

-- how many instructions a jump is, or a call
abbrev pub words_of_jump : Reach → ℕ
words_of_jump Near = 1
words_of_jump Far = 2
words_of_jump Wide = 2

-- a jump to any address by the distance, JALR behind AUIPC of ra
abbrev pub JumpsFar : Code → ℕ → Register → ℕ → Type 0
JumpsFar code at back target =
    (upper : UpperImmediate) × (lower : Immediate) × (sum_word (sum_word at upper.word) lower.word ≡ target)
    × Has code at (Instr.Auipc ra upper ∷ Instr.Jalr back ra lower ∷ [])

-- A jump to an address; the way back goes to a register, which may be zero. A near one is JAL, by the distance too.
abbrev pub JumpsBy : Reach → Code → ℕ → Register → ℕ → Type 0
JumpsBy Near code at back target = (offset : JumpOffset) × (sum_word at offset.word ≡ target) × (code at ≡ Some (Instr.Jal back offset))
JumpsBy Far code at back target = JumpsFar code at back target
JumpsBy Wide code at back target = JumpsFar code at back target

abbrev pub JumpsTo : Reach → Code → ℕ → ℕ → Type 0
JumpsTo reach code at target = JumpsBy reach code at zero_register target

abbrev pub CallsTo : Reach → Code → ℕ → ℕ → Type 0
CallsTo reach code at target = JumpsBy reach code at ra target

-- how many instructions a branch is, by how far jumps lead and how far branches do
abbrev pub words_of_branch : Reach → Reach → ℕ
words_of_branch jumps Near = 1
words_of_branch jumps Far = 1 + words_of_jump jumps
words_of_branch jumps Wide = 1 + words_of_jump jumps

-- a branch to any address: that of the opposite condition leads over a jump
abbrev pub BranchesFar : Reach → Code → ℕ → Condition → Register → Register → ℕ → Type 0
BranchesFar jumps code at condition a b target =
    (over : BranchOffset) × (over.word ≡ 4 + 4 * words_of_jump jumps) × (code at ≡ Some (branch_instruction (opposite condition) a b over))
    × JumpsTo jumps code (at + 4) target

-- a branch on two registers to an address; a near one is one instruction, by the distance
abbrev pub BranchesOn : Reach → Reach → Code → ℕ → Condition → Register → Register → ℕ → Type 0
BranchesOn jumps Near code at condition a b target =
    (offset : BranchOffset) × (sum_word at offset.word ≡ target) × (code at ≡ Some (branch_instruction condition a b offset))
BranchesOn jumps Far code at condition a b target = BranchesFar jumps code at condition a b target
BranchesOn jumps Wide code at condition a b target = BranchesFar jumps code at condition a b target

-- The count of the cell to which a register refers is raised by a number: it is loaded to ra, and stored again.
abbrev pub RaisesBy : Immediate → Register → Code → ℕ → Type 0
RaisesBy number a code at = (zero : Immediate) × Zero zero × Has code at (Instr.Lw ra a zero ∷ Instr.Addi ra ra number ∷ Instr.Sw a ra zero ∷ [])

-- It is raised by 1, but where the reference is odd, which names no cell: then a branch leads over this.
abbrev pub RaisesCount : Code → ℕ → Register → Type 0
RaisesCount code at a =
    (one : Immediate) × (over : BranchOffset) × (one.word ≡ 1) × (over.word ≡ 16)
    × Has code at (Instr.Andi ra a one ∷ Instr.Bne ra zero_register over ∷ []) × RaisesBy one a code (at + 4 + 4)

-- how many instructions lower a count, and how many of them, the first ones, load it
abbrev pub words_to_lower : ℕ
words_to_lower = 6

abbrev pub words_to_load : ℕ
words_to_load = 3

-- The count of the cell to which a0 refers comes to ra. A branch leads on where the reference is odd, which names no cell.
abbrev pub LoadsCount : BranchOffset → Code → ℕ → Type 0
LoadsCount over code at =
    (one : Immediate) × (zero : Immediate) × (one.word ≡ 1) × Zero zero
    × Has code at (Instr.Andi ra a0 one ∷ Instr.Bne ra zero_register over ∷ Instr.Lw ra a0 zero ∷ [])

-- The count in ra is lowered, and stored again. A branch leads on where it is not 0 then.
abbrev pub LowersCount : BranchOffset → Code → ℕ → Type 0
LowersCount over code at =
    (less : Immediate) × (zero : Immediate) × (less.word ≡ 2 ^ 32 - 1) × Zero zero
    × Has code at (Instr.Addi ra ra less ∷ Instr.Sw a0 ra zero ∷ Instr.Bne ra zero_register over ∷ [])

-- The reference in a0 is given up: the count of its cell is lowered. Where it was the last one, the routine comes, which frees the
-- cell; the branches lead behind the call, where the reference is odd and where others are left.
pub record DropsReference (jumps : Reach) (code : Code) (at target : ℕ) : Type 0 where
  pub over : BranchOffset
  pub over_is : over.word ≡ 20 + 4 * words_of_jump jumps
  pub loads : LoadsCount over code at
  pub over_call : BranchOffset
  pub over_call_is : over_call.word ≡ 4 + 4 * words_of_jump jumps
  pub lowers : LowersCount over_call code (at + 4 * words_to_load)
  pub calls : CallsTo jumps code (at + 4 * words_to_lower) target

-- a call of a routine
abbrev pub CallsRoutine : Reach → Code → ℕ → Routine → ℕ → Type 0
CallsRoutine jumps code at Drop target = DropsReference jumps code at target
CallsRoutine jumps code at Take target = CallsTo jumps code at target
CallsRoutine jumps code at PrintInt target = CallsTo jumps code at target
CallsRoutine jumps code at PrintText target = CallsTo jumps code at target
CallsRoutine jumps code at ReadByte target = CallsTo jumps code at target

-- how many instructions it is
abbrev pub words_of_routine : Reach → Routine → ℕ
words_of_routine jumps Drop = words_to_lower + words_of_jump jumps
words_of_routine jumps _ = words_of_jump jumps

-- The token in a register is put before the free cells: its first word is the first of them, and s0 is its address. A branch
-- leads over this where
-- it is null.
abbrev pub FreesToken : Code → ℕ → Register → Type 0
FreesToken code at a =
    (over : BranchOffset) × (zero : Immediate) × (over.word ≡ 12) × Zero zero
    × Has code at (Instr.Beq a zero_register over ∷ Instr.Sw a s0 zero ∷ Instr.Addi s0 a zero ∷ [])

-- The second word of the token in a register is the address of its slot. Where that is the stack pointer, it is stored as it is;
-- else s1 is set to it first.
abbrev pub NamesSlot : Bool → Register → Code → ℕ → Immediate → Type 0
NamesSlot true token code at slot = (second : Immediate) × (second.word ≡ 4) × (code at ≡ Some (Instr.Sw token sp second))
NamesSlot false token code at slot =
    (second : Immediate) × (second.word ≡ 4) × Has code at (Instr.Addi s1 sp slot ∷ Instr.Sw token s1 second ∷ [])

-- how many instructions that is
abbrev pub words_to_name : Bool → ℕ
words_to_name true = 1
words_to_name false = 2

-- The token in a register becomes the newest held one: its first word is the one that was held before it, its second the address
-- of its slot, and s1 is its own address.
abbrev pub LinksToken : Bool → Register → Code → ℕ → Immediate → Type 0
LinksToken at_pointer token code at slot =
    (zero : Immediate) × Zero zero × (code at ≡ Some (Instr.Sw token s1 zero)) × NamesSlot at_pointer token code (at + 4) slot
    × (code (at + 4 + 4 * words_to_name at_pointer) ≡ Some (Instr.Addi s1 token zero))

-- The token in a register, which its slot has too, is held. A branch leads over this where it is null.
abbrev pub HoldsToken : Bool → Register → Code → ℕ → Immediate → Type 0
HoldsToken at_pointer token code at slot =
    (over : BranchOffset) × (over.word ≡ 12 + 4 * words_to_name at_pointer) × (code at ≡ Some (Instr.Beq token zero_register over))
    × LinksToken at_pointer token code (at + 4) slot

-- how many instructions that is
abbrev pub words_to_hold : Bool → ℕ
words_to_hold at_pointer = 2 + words_to_name at_pointer + 1

-- The newest held token is taken back from its slot: it is loaded to a register, and its first word, the address of the one that
-- was held before it, goes to s1. A branch leads over this where the slot has none.
abbrev pub UnholdsToken : Register → Code → ℕ → Immediate → Type 0
UnholdsToken token code at slot =
    (over : BranchOffset) × (zero : Immediate) × (over.word ≡ 8) × Zero zero
    × Has code at (Instr.Lw token sp slot ∷ Instr.Beq token zero_register over ∷ Instr.Lw s1 token zero ∷ [])

-- an operation whose arguments are in registers, and whose result goes to one. One with another number of arguments is none.
abbrev pub Computes : Constants → Code → ℕ → Operation → List Register → Register → Type 0
Computes constants code at (Operation.Register operation) (a ∷ b ∷ []) rd = code at ≡ Some (register_instruction operation rd a b)
Computes constants code at (Operation.Immediate operation imm) (a ∷ []) rd = code at ≡ Some (immediate_instruction operation rd a imm)
Computes constants code at (Operation.Shift operation amount) (a ∷ []) rd = code at ≡ Some (shift_instruction operation rd a amount)
Computes constants code at (Operation.Li word) [] rd = SetsWord code at rd word
Computes constants code at Operation.Mv (a ∷ []) rd = (imm : Immediate) × Zero imm × (code at ≡ Some (Instr.Addi rd a imm))
Computes constants code at (Operation.La index) [] rd =
    (address : ℕ) → address_in constants.first constants.texts index ≡ Some address → LoadsWord code at rd address
Computes constants code at (Operation.Lw offset) (a ∷ []) rd = code at ≡ Some (Instr.Lw rd a offset)
Computes constants code at (Operation.Sw offset) (a ∷ b ∷ []) rd = code at ≡ Some (Instr.Sw a b offset)
Computes constants code at Operation.Dup (a ∷ []) rd = RaisesCount code at a
Computes constants code at Operation.Free (a ∷ []) rd = FreesToken code at a
Computes constants code at operation args rd = Unit {0}

-- how many instructions an operation is
abbrev pub words_of_operation : Operation → ℕ
words_of_operation (Operation.Li word) = words_of_constant word
words_of_operation (Operation.La index) = 2
words_of_operation Operation.Dup = 5
words_of_operation Operation.Free = 3
words_of_operation _ = 1
