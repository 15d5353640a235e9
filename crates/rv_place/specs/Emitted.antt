-- Emitted instructions: what they are wherever they stand, and what a chart says of where things stand.
use Rattle.std.specs.Prelude.{◌≡◌, ℕ, ◌+◌, ◌-◌, ◌*◌, ◌%◌, ◌^◌, ◌<◌, ◌≤◌, Bool, List, [], ◌∷◌, ◌++◌, length, Option, Some, None}
use Rattle.std.specs.Prelude.{slice_get}
use Rattle.std.specs.Ordering.{nat_cmp}
use Rattle.std.specs.BTreeMap.{get}
use Rattle.rv_isa.specs.declared.instr.Instr.{Instr}
use Rattle.rv_isa.specs.declared.instr.Instr.TheVariants.{Lw, Sw}
use Rattle.rv_isa.specs.declared.immediate.Immediate.{Immediate}
use Rattle.rv_isa.specs.declared.register.Register.{Register}
use Rattle.rv_isa.specs.declared.asm.Operation.{Operation}
use Rattle.rv_isa.specs.declared.asm.Action.{Action}
use Rattle.rv_isa.specs.declared.placed.Native.{Native}
use Rattle.rv_isa.specs.declared.placed.Operand.{Operand}
use Rattle.rv_isa.specs.declared.placed.Place.{Place}
use Rattle.rv_isa.specs.declared.placed.Place.TheVariants.{Register as register, Slot as slot}
use Rattle.rv_isa.specs.declared.placed.Way.{Way}
use Rattle.rv_isa.specs.declared.placed.Symbol.{Symbol}
use Rattle.rv_isa.specs.declared.placed.Symbol.TheVariants as symbol
use Rattle.rv_isa.specs.declared.routine.Routine.{Routine}
use Rattle.rv_isa.specs.declared.routine.Routine.TheVariants.{Take, Drop, PrintInt, PrintText, ReadByte}
use Rattle.rv_isa.specs.PlacedCode.{PlacedLine, PlacedLines}
use Rattle.rv_isa.specs.Standing.{Code, Has}
use Rattle.cell_runtime.specs.Lines.{Spells}
use Rattle.cell_runtime.specs.Lines as OfRuntime
use Rattle.cell_runtime.specs.Operations.{address_in}
use Rattle.rv_place.specs.Addresses.{words_of_action, words_of_shift, words_of_line, words_of_lines, words_of_function}
use Rattle.rv_place.specs.Addresses.{words_of_functions, branch_words, jump_words, test_words, entry_words, entries_from, slot_offset, way_offset}
use Rattle.rv_place.specs.Addresses.{IsBehind, label_address}
use Rattle.rv_place.specs.Lines.{Map, IsFromPointer, ShiftsStack, ActsAt, LineAt, LinesAt, FunctionAt, FunctionsAt, BeginsAt}
use Rattle.rv_place.specs.Lines.{MovesBy, ReturnsBy, TestsRoom, registers_of, register_into}
use Rattle.rv_place.specs.Registers.{zero_register, ra, sp}
use Rattle.rv_isa.specs.PlacedMachine.{first_slot}
use Rattle.rv_place.specs.Instructions.{words_to_lower, Computes}
use Rattle.rv_place.specs.declared.chart.Chart.{Chart}
use Rattle.rv_place.specs.declared.labels.Labels.{Labels}
use Rattle.rv_place.specs.declared.reach.Reach.{Reach}
use Rattle.rv_place.specs.declared.reach.Reach.TheVariants.{Near, Far, Wide}
use Rattle.rv_place.specs.declared.reach.Forms.{Forms}
use Rattle.rv_place.specs.declared.chart.Symbols.{Symbols}

-- so many instructions, which are code of a kind wherever they stand: by the code and the address of the first one
pub record Spelled (words : ℕ) (Kind : Code → ℕ → Type 0) (is : List Instr) : Type 0 where
  pub size : length is ≡ words
  pub stands : (code : Code) (at : ℕ) → Has code at is → Kind code at

-- instructions of a kind were added at the end
pub record Grew (words : ℕ) (Kind : Code → ℕ → Type 0) (old new : List Instr) : Type 0 where
  pub added : List Instr
  pub whole : new ≡ old ++ added
  pub spelled : Spelled words Kind added

-- the instructions of a line of a runtime were added at the end
pub record NativeGrew (memory : ℕ) (line : Native) (old new : List Instr) : Type 0 where
  pub added : List Instr
  pub whole : new ≡ old ++ added
  pub size : length added ≡ OfRuntime.words_of_line line
  pub spells : (lines : List Native) (rest : List Instr) → Spells memory lines rest → Spells memory (line ∷ lines) (added ++ rest)

-- ---- near and far

-- the addresses of two instructions, less than so many bytes apart
pub record AreNear (distance at target : ℕ) : Type 0 where
  pub at_word : at % 4 ≡ 0
  pub target_word : target % 4 ≡ 0
  pub forth : target < at + distance
  pub back : at < target + distance
  pub at_below : at < 2 ^ 32
  pub target_below : target < 2 ^ 32

-- a jump that leads so far leads from one address to another
abbrev pub JumpReaches : Reach → ℕ → ℕ → Type 0
JumpReaches Near at target = AreNear (4 * jump_words) at target
JumpReaches Far at target = Unit {0}
JumpReaches Wide at target = Unit {0}

-- and so does the jump of a call of a routine, behind what stands before it
abbrev pub RoutineReaches : Reach → Routine → ℕ → ℕ → Type 0
RoutineReaches jumps Drop at target = JumpReaches jumps (at + 4 * words_to_lower) target
RoutineReaches jumps Take at target = JumpReaches jumps at target
RoutineReaches jumps PrintInt at target = JumpReaches jumps at target
RoutineReaches jumps PrintText at target = JumpReaches jumps at target
RoutineReaches jumps ReadByte at target = JumpReaches jumps at target

-- and so does a branch, where jumps lead so far
abbrev pub BranchReaches : Reach → Reach → ℕ → ℕ → Type 0
BranchReaches jumps Near at target = AreNear (4 * branch_words) at target
BranchReaches jumps Far at target = JumpReaches jumps (at + 4) target
BranchReaches jumps Wide at target = JumpReaches jumps (at + 4) target

-- so many instructions at an address are within the text
pub record IsInText (map : Map) (at words : ℕ) : Type 0 where
  pub word : at % 4 ≡ 0
  pub low : map.runtime ≤ at
  pub high : at + 4 * words ≤ map.constants.first

-- so many instructions at an address are within the lines, `whole`, of a function that has these forms and stands at `start`
pub record IsInFunction (map : Map) (forms : Forms) (start : ℕ) (whole : List PlacedLine) (at words : ℕ) : Type 0 where
  pub jumps : forms.jumps ≡ map.jumps
  pub text : IsInText map start (words_of_lines forms whole)
  pub short : forms.branches ≡ Near → words_of_lines forms whole < branch_words
  pub word : at % 4 ≡ 0
  pub low : start ≤ at
  pub high : at + 4 * words ≤ start + 4 * words_of_lines forms whole

-- ---- charts

-- the addresses of constants that stand one behind the other
abbrev pub addresses_from : ℕ → List (List ℕ) → List ℕ
addresses_from at [] = []
addresses_from at (text ∷ texts) = at ∷ addresses_from (at + length text) texts

-- the address of a symbol, if the runtime has its label
abbrev pub IsAddressOf : ℕ → List (Symbol × ℕ) → Symbol → ℕ → Type 0
IsAddressOf runtime labels symbol address = (before : ℕ) → IsBehind symbol before labels → address ≡ runtime + 4 * before

-- the addresses of the symbols of a runtime, whose text begins at an address
pub record AreSymbols (runtime : ℕ) (labels : List (Symbol × ℕ)) (symbols : Symbols) : Type 0 where
  pub stack_full : IsAddressOf runtime labels symbol.StackFull symbols.stack_full
  pub take : IsAddressOf runtime labels (symbol.Routine Take) symbols.take
  pub give_up : IsAddressOf runtime labels (symbol.Routine Drop) symbols.give_up
  pub print_int : IsAddressOf runtime labels (symbol.Routine PrintInt) symbols.print_int
  pub print_text : IsAddressOf runtime labels (symbol.Routine PrintText) symbols.print_text
  pub read_byte : IsAddressOf runtime labels (symbol.Routine ReadByte) symbols.read_byte

-- a chart has the numbers of a map, whose text is short where jumps are near
pub record Charts (chart : Chart) (map : Map) : Type 0 where
  pub jumps : chart.jumps ≡ map.jumps
  pub frame : chart.frame ≡ map.frame
  pub entries : chart.entries.items ≡ map.entries
  pub takes : chart.takes.items ≡ map.takes
  pub entries_in : (f entry : ℕ) → slice_get map.entries f ≡ Some entry → IsInText map entry (entry_words map.jumps)
  pub symbols_in : (name : Symbol) (before : ℕ) → IsBehind name before map.labels → map.runtime + 4 * before ≤ map.constants.first
  pub first_word : map.runtime % 4 ≡ 0
  pub short : map.jumps ≡ Near → map.constants.first < map.runtime + 4 * jump_words
  pub below : map.constants.first < 2 ^ 32
  pub symbols : AreSymbols map.runtime map.labels chart.symbols
  pub constants : (index address : ℕ) → address_in map.constants.first map.constants.texts index ≡ Some address
      → slice_get chart.constants.items index ≡ Some address

-- the register of an operand; the zero register where the operand is in a slot, or there is none
abbrev pub register_or_zero : Option Operand → Register
register_or_zero None = zero_register
register_or_zero (Some operand) = register_at operand.place
  where
    register_at : Place → Register
    register_at (register r) = r
    register_at (slot k) = zero_register

-- the first of two, if there is one
abbrev pub or_next : Option ℕ → Option ℕ → Option ℕ
or_next (Some n) next = Some n
or_next None next = next

-- labels are those of lines that stand at an address
abbrev pub HasLabels : Labels → ℕ → List PlacedLine → Type 0
HasLabels labels start whole = (l : ℕ) → get nat_cmp labels.addresses l ≡ label_address labels.forms l start whole

-- what was emitted for an action on the token of a slot, by the slot's offset
abbrev pub TokenBy : (Code → ℕ → Immediate → Type 0) → Reach → List Operand → Code → ℕ → Type 0
TokenBy Stands jumps args code at =
    (k : ℕ) → first_slot args ≡ Some k → (offset : Immediate) × IsFromPointer jumps (slot_offset k) offset × Stands code at offset

-- code of each kind that was emitted for an address, `from`, by every map that the chart is of; lines are those of a function
-- that has these labels
abbrev pub ActionBy : Chart → Labels → ℕ → Action → List Operand → Option Operand → Code → ℕ → Type 0
ActionBy chart labels from action args into code at =
    at ≡ from → (map : Map) → Charts chart map → (start : ℕ) (whole : List PlacedLine) → HasLabels labels start whole
    → IsInFunction map labels.forms start whole at (words_of_action labels.forms action args)
    → ActsAt map labels.forms code start whole at action args into

abbrev pub OperationBy : Chart → Operation → List Operand → Option Operand → Code → ℕ → Type 0
OperationBy chart operation args into code at =
    (map : Map) → Charts chart map → (registers : List Register) (rd : Register) → registers_of args ≡ Some registers → register_into into ≡ Some rd
    → Computes map.constants code at operation registers rd

abbrev pub LineBy : Chart → Labels → ℕ → PlacedLine → Code → ℕ → Type 0
LineBy chart labels from line code at =
    at ≡ from → (map : Map) → Charts chart map → (start : ℕ) (whole : List PlacedLine) → HasLabels labels start whole
    → IsInFunction map labels.forms start whole at (words_of_line labels.forms line)
    → LineAt map labels.forms code start whole at line

abbrev pub LinesBy : Chart → Labels → ℕ → List PlacedLine → Code → ℕ → Type 0
LinesBy chart labels from lines code at =
    at ≡ from → (map : Map) → Charts chart map → (start : ℕ) (whole : List PlacedLine) → HasLabels labels start whole
    → IsInFunction map labels.forms start whole at (words_of_lines labels.forms lines)
    → LinesAt map labels.forms code start whole at lines

abbrev pub ReturnBy : Chart → Bool → Code → ℕ → Type 0
ReturnBy chart frame code at = (map : Map) → Charts chart map → ReturnsBy frame map code at

abbrev pub MoveBy : Chart → Way → Code → ℕ → Type 0
MoveBy chart way code at = (map : Map) → Charts chart map → MovesBy map code at way

-- a frame of so many bytes is taken, and the way back saved
abbrev pub TakesFrame : Reach → ℕ → Code → ℕ → Type 0
TakesFrame jumps size code at =
    ShiftsStack jumps (2 ^ 32 - size) code at
    × ((back : Immediate) × IsFromPointer jumps (way_offset size) back × (code (at + 4 * words_of_shift jumps) ≡ Some (Sw sp ra back)))

-- the way back is taken from a frame of so many bytes, and the frame given back
abbrev pub LeavesFrame : Reach → ℕ → Code → ℕ → Type 0
LeavesFrame jumps size code at =
    ((back : Immediate) × IsFromPointer jumps (way_offset size) back × (code at ≡ Some (Lw ra sp back)))
    × ShiftsStack jumps size code (at + 4)

-- a test whether a frame is left, that was emitted for an address
abbrev pub TestBy : Chart → ℕ → Register → Code → ℕ → Type 0
TestBy chart from free code at = at ≡ from → (map : Map) → Charts chart map → IsInText map at (test_words map.jumps) → TestsRoom free map code at

-- an entry, by whether the function takes a frame
abbrev pub EntryBy : Chart → ℕ → Bool → Code → ℕ → Type 0
EntryBy chart from frame code at = at ≡ from → (map : Map) → Charts chart map → IsInText map at (entry_words map.jumps) → BeginsAt frame map code at

-- a function, and functions, that were emitted for an address
abbrev pub FunctionBy : Chart → ℕ → PlacedLines → Code → ℕ → Type 0
FunctionBy chart entry function code at =
    at ≡ entry → (map : Map) → Charts chart map → IsInText map entry (words_of_function map.jumps function) → FunctionAt map code entry function

abbrev pub FunctionsBy : Chart → ℕ → List PlacedLines → Code → ℕ → Type 0
FunctionsBy chart entry functions code at =
    at ≡ entry → (map : Map) → Charts chart map → IsInText map entry (words_of_functions map.jumps functions)
    → FunctionsAt map code (entries_from map.jumps entry functions) functions
