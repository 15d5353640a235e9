-- Placed code as it stands in memory: the instructions of each line, from an address on.
use Rattle.std.specs.Prelude.{◌≡◌, ℕ, ◌+◌, ◌-◌, ◌*◌, ◌^◌, ◌≤◌, Bool, true, false, List, [], ◌∷◌, Option, Some, None, slice_get}
use Rattle.rv_isa.specs.declared.register.Register.{Register}
use Rattle.rv_place.specs.Registers.{zero_register, ra, sp, t0, s3}
use Rattle.rv_isa.specs.declared.immediate.Immediate.{Immediate}
use Rattle.rv_isa.specs.declared.immediate.BranchOffset.{BranchOffset}
use Rattle.rv_isa.specs.declared.instr.Instr.TheVariants.{Addi, Bne, Jalr, Lw, Sw}
use Rattle.rv_isa.specs.declared.asm.Condition.{Condition}
use Rattle.rv_isa.specs.declared.asm.Condition.TheVariants.{Equal}
use Rattle.rv_isa.specs.declared.asm.Action.{Action}
use Rattle.rv_isa.specs.declared.asm.Action.TheVariants.{Compute, Label, Jump, Branch, Call, TailCall, Return, Routine, Hold}
use Rattle.rv_isa.specs.declared.asm.Action.TheVariants.{Unhold, Room}
use Rattle.rv_isa.specs.declared.placed.Place.{Place}
use Rattle.rv_isa.specs.declared.placed.Place.TheVariants.{Register as register, Slot as slot}
use Rattle.rv_isa.specs.declared.placed.Operand.{Operand}
use Rattle.rv_isa.specs.declared.placed.Symbol.{Symbol}
use Rattle.rv_isa.specs.declared.placed.Symbol.TheVariants as symbol
use Rattle.rv_isa.specs.declared.placed.Way.{Way}
use Rattle.rv_isa.specs.declared.placed.Way.TheVariants.{Copy, Load, Store}
use Rattle.rv_isa.specs.PlacedCode.{PlacedLine, does, moves, PlacedLines}
use Rattle.rv_isa.specs.PlacedMachine.{first_slot}
use Rattle.rv_isa.specs.Arithmetic.{sum_word}
use Rattle.rv_isa.specs.Sizes.{reach_down}
use Rattle.rv_isa.specs.Standing.{Code, Has}
use Rattle.cell_runtime.specs.Operations.{Constants}
use Rattle.rv_place.specs.Instructions.{Zero, words_of_jump, JumpsTo, CallsTo, CallsRoutine, BranchesOn, HoldsToken, UnholdsToken, Computes}
use Rattle.rv_place.specs.Addresses.{is_silent, is_at_pointer, words_of_line, words_of_shift, words_to_frame, label_address, forms_of}
use Rattle.rv_place.specs.Addresses.{entry_words, skipped_words, takes_frame, frame_bias, slot_offset, way_offset, IsBehind}
use Rattle.rv_place.specs.declared.reach.Forms.{Forms}
use Rattle.rv_place.specs.declared.reach.Reach.{Reach}
use Rattle.rv_place.specs.declared.reach.Reach.TheVariants.{Near, Far, Wide}

-- Where what code names stands.
-- jumps: how far jumps lead, and whether frames are wide; frame: the bytes of a frame
-- bottom: the address of the lowest frame that the stack has room for
-- entries: the addresses of the functions; takes: whether each takes a frame
-- runtime: the address of the runtime, and its labels with the instructions before them
-- constants: the constant bytes
pub record Map : Type 0 where
  pub jumps : Reach
  pub frame : ℕ
  pub bottom : ℕ
  pub entries : List ℕ
  pub takes : List Bool
  pub runtime : ℕ
  pub labels : List (Symbol × ℕ)
  pub constants : Constants

-- the registers of operands, where all are in registers
abbrev pub registers_of : List Operand → Option (List Register)
registers_of [] = Some []
registers_of (operand ∷ operands) = with_register operand.place (registers_of operands)
  where
    with_register : Place → Option (List Register) → Option (List Register)
    with_register (slot k) registers = None
    with_register (register r) None = None
    with_register (register r) (Some registers) = Some (r ∷ registers)

-- the register that a value goes to; one that is lost goes to the zero register
abbrev pub register_into : Option Operand → Option Register
register_into None = Some zero_register
register_into (Some operand) = register_at operand.place
  where
    register_at : Place → Option Register
    register_at (register r) = Some r
    register_at (slot k) = None

-- the register of a token that is held: that of the second argument
abbrev pub token_from : List Operand → Option Register
token_from args = register_into (slice_get args 1)

-- the register that a token is taken back to: ra where it is not given
abbrev pub token_into : Option Operand → Option Register
token_into None = Some ra
token_into (Some operand) = register_into (Some operand)

-- what a symbol of the runtime stands for, if it is there: an address
abbrev pub IsSymbolAt : Map → Symbol → ℕ → Type 0
IsSymbolAt map symbol address = (before : ℕ) × IsBehind symbol before map.labels × (address ≡ map.runtime + 4 * before)

-- ---- the lines

-- a branch to an address; one argument is compared with zero
abbrev pub BranchesTo : Forms → Code → ℕ → Condition → List Register → ℕ → Type 0
BranchesTo forms code at condition (a ∷ []) target = BranchesOn forms.jumps forms.branches code at condition a zero_register target
BranchesTo forms code at condition (a ∷ b ∷ []) target = BranchesOn forms.jumps forms.branches code at condition a b target
BranchesTo forms code at condition registers target = Unit {0}

-- the offset, from the stack pointer, of what stands so far above the first word of its frame
abbrev pub IsFromPointer : Reach → ℕ → Immediate → Type 0
IsFromPointer jumps above offset = sum_word (frame_bias jumps) offset.word ≡ above

-- a slot of the frame: the offset of a load or a store from the stack pointer
abbrev pub IsOffsetOf : Map → ℕ → Immediate → Type 0
IsOffsetOf map k offset = IsFromPointer map.jumps (slot_offset k) offset × (slot_offset k + 4 ≤ way_offset map.frame)

abbrev pub MovesBy : Map → Code → ℕ → Way → Type 0
MovesBy map code at (Copy from to) = (imm : Immediate) × Zero imm × (code at ≡ Some (Addi to from imm))
MovesBy map code at (Load from to) = (offset : Immediate) × IsOffsetOf map from offset × (code at ≡ Some (Lw to sp offset))
MovesBy map code at (Store from to) = (offset : Immediate) × IsOffsetOf map to offset × (code at ≡ Some (Sw sp from offset))

-- a word is added to the stack pointer, in two parts where frames are wide
abbrev pub ShiftsStack : Reach → ℕ → Code → ℕ → Type 0
ShiftsStack Near size code at = (whole : Immediate) × (whole.word ≡ size) × (code at ≡ Some (Addi sp sp whole))
ShiftsStack Far size code at = (whole : Immediate) × (whole.word ≡ size) × (code at ≡ Some (Addi sp sp whole))
ShiftsStack Wide size code at =
    (first : Immediate) × (second : Immediate) × (sum_word first.word second.word ≡ size)
    × Has code at (Addi sp sp first ∷ Addi sp sp second ∷ [])

-- a return takes the way back from the last word of the frame, gives the frame back and goes there
pub record ReturnsFrom (map : Map) (code : Code) (at : ℕ) : Type 0 where
  pub back : Immediate
  pub back_is : IsFromPointer map.jumps (way_offset map.frame) back
  pub loads : code at ≡ Some (Lw ra sp back)
  pub gives : ShiftsStack map.jumps map.frame code (at + 4)
  pub zero : Immediate
  pub zero_is : Zero zero
  pub goes : code (at + 4 + 4 * words_of_shift map.jumps) ≡ Some (Jalr zero_register ra zero)

-- one of a function that takes no frame goes there alone
abbrev pub GoesBack : Code → ℕ → Type 0
GoesBack code at = (zero : Immediate) × Zero zero × (code at ≡ Some (Jalr zero_register ra zero))

-- a return, by whether the function takes a frame
abbrev pub ReturnsBy : Bool → Map → Code → ℕ → Type 0
ReturnsBy true map code at = ReturnsFrom map code at
ReturnsBy false map code at = GoesBack code at

-- what stands for an action on the token of a slot, by the slot's offset
abbrev pub OnToken : (Code → ℕ → Immediate → Type 0) → Map → Code → ℕ → List Operand → Type 0
OnToken Stands map code at args =
    (k : ℕ) → first_slot args ≡ Some k → (offset : Immediate) × IsOffsetOf map k offset × Stands code at offset

-- The register that has the address of the newest frame's first word: the stack pointer, but where frames are wide one that is set
-- to it.
abbrev pub frame_register : Reach → Register → Register
frame_register Near free = sp
frame_register Far free = sp
frame_register Wide free = free

abbrev pub FindsFrame : Reach → Register → Code → ℕ → Type 0
FindsFrame Near free code at = Unit {0}
FindsFrame Far free code at = Unit {0}
FindsFrame Wide free code at = (down : Immediate) × (down.word ≡ 2 ^ 32 - reach_down) × (code at ≡ Some (Addi free sp down))

-- A test whether a frame is left. Where the newest one is the lowest, which begins at the end of the cells, none is, and the runtime's
-- stop for a full stack comes. The register is one that nothing stands in.
pub record TestsRoom (free : Register) (map : Map) (code : Code) (at : ℕ) : Type 0 where
  pub finds : FindsFrame map.jumps free code at
  pub full : (target : ℕ) → IsSymbolAt map symbol.StackFull target
      → BranchesOn map.jumps Far code (at + 4 * words_to_frame map.jumps) Equal (frame_register map.jumps free) s3 target

-- What stands at an address for an action of a function of these forms whose lines, `whole`, stand at `start`. Of what is none,
-- as a jump to a label that is
-- not there, nothing is said.
abbrev pub ActsAt : Map → Forms → Code → ℕ → List PlacedLine → ℕ → Action → List Operand → Option Operand → Type 0
ActsAt map forms code start whole at (Compute operation) args into =
    (registers : List Register) (rd : Register) → registers_of args ≡ Some registers → register_into into ≡ Some rd
    → Computes map.constants code at operation registers rd
ActsAt map forms code start whole at (Label l) args into = Unit {0}
ActsAt map forms code start whole at (Jump l) args into = (target : ℕ) → label_address forms l start whole ≡ Some target → JumpsTo forms.jumps code at target
ActsAt map forms code start whole at (Branch condition l) args into =
    (registers : List Register) (target : ℕ) → registers_of args ≡ Some registers → label_address forms l start whole ≡ Some target
    → BranchesTo forms code at condition registers target
ActsAt map forms code start whole at (Call f) args into = (entry : ℕ) → slice_get map.entries f ≡ Some entry → CallsTo forms.jumps code at entry
ActsAt map forms code start whole at (TailCall f) args into =
    (entry : ℕ) (takes : Bool) → slice_get map.entries f ≡ Some entry → slice_get map.takes f ≡ Some takes
    → JumpsTo forms.jumps code at (entry + 4 * skipped_words map.jumps forms.frame takes)
ActsAt map forms code start whole at Return args into = ReturnsBy forms.frame map code at
ActsAt map forms code start whole at (Routine routine) args into = (target : ℕ) → IsSymbolAt map (symbol.Routine routine) target → CallsRoutine forms.jumps code at routine target
ActsAt map forms code start whole at Hold args into =
    (token : Register) → token_from args ≡ Some token → OnToken (HoldsToken (is_at_pointer forms.jumps args) token) map code at args
ActsAt map forms code start whole at Unhold args into =
    (token : Register) → token_into into ≡ Some token → OnToken (UnholdsToken token) map code at args
ActsAt map forms code start whole at Room args into = TestsRoom ra map code at

-- of what is no instruction nothing is said
abbrev pub LineAt : Map → Forms → Code → ℕ → List PlacedLine → ℕ → PlacedLine → Type 0
LineAt map forms code start whole at (does alive action args into) =
    is_silent action args into ≡ false → ActsAt map forms code start whole at action args into
LineAt map forms code start whole at (moves alive value way) = MovesBy map code at way

-- lines from an address on
abbrev pub LinesAt : Map → Forms → Code → ℕ → List PlacedLine → ℕ → List PlacedLine → Type 0
LinesAt map forms code start whole at [] = Unit {0}
LinesAt map forms code start whole at (line ∷ lines) =
    LineAt map forms code start whole at line × LinesAt map forms code start whole (at + 4 * words_of_line forms line) lines

-- ---- the functions

-- The entry of a function that takes a frame: where one is left it is taken, and the way back saved in its last word.
pub record EntersAt (map : Map) (code : Code) (at : ℕ) : Type 0 where
  pub tests : TestsRoom t0 map code at
  pub takes : ShiftsStack map.jumps (2 ^ 32 - map.frame) code (at + 4 * words_to_frame map.jumps + 4 + 4 * words_of_jump map.jumps)
  pub back : Immediate
  pub back_is : IsFromPointer map.jumps (way_offset map.frame) back
  pub saves : code (at + 4 * words_to_frame map.jumps + 4 + 4 * words_of_jump map.jumps + 4 * words_of_shift map.jumps) ≡ Some (Sw sp ra back)

-- The entry of a function that takes no frame: where no frame is left the stop comes; else the entry ends. A function that takes
-- a frame jumps behind
-- this test for a tail call: the way back is taken from the frame, and the frame given back.
pub record PassesAt (map : Map) (code : Code) (at : ℕ) : Type 0 where
  pub over : BranchOffset
  pub over_is : over.word ≡ 4 * entry_words map.jumps
  pub tests : code at ≡ Some (Bne sp s3 over)
  pub full : (target : ℕ) → IsSymbolAt map symbol.StackFull target → JumpsTo map.jumps code (at + 4) target
  pub back : Immediate
  pub back_is : IsFromPointer map.jumps (way_offset map.frame) back
  pub loads : code (at + 4 + 4 * words_of_jump map.jumps) ≡ Some (Lw ra sp back)
  pub gives : ShiftsStack map.jumps map.frame code (at + 4 + 4 * words_of_jump map.jumps + 4)

-- an entry, by whether the function takes a frame
abbrev pub BeginsAt : Bool → Map → Code → ℕ → Type 0
BeginsAt true map code at = EntersAt map code at
BeginsAt false map code at = PassesAt map code at

pub record FunctionAt (map : Map) (code : Code) (at : ℕ) (function : PlacedLines) : Type 0 where
  pub entry : BeginsAt (takes_frame map.jumps function.code) map code at
  pub lines : LinesAt map (forms_of map.jumps function.code) code (at + 4 * entry_words map.jumps) function.code (at + 4 * entry_words map.jumps) function.code

-- functions at their entries
abbrev pub FunctionsAt : Map → Code → List ℕ → List PlacedLines → Type 0
FunctionsAt map code entries [] = Unit {0}
FunctionsAt map code [] (function ∷ functions) = ⊥
FunctionsAt map code (entry ∷ entries) (function ∷ functions) = FunctionAt map code entry function × FunctionsAt map code entries functions
