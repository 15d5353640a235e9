-- The lines of the runtime's text, and the instructions that they stand for.
use Rattle.std.specs.Prelude.{◌≡◌, ℕ, ◌+◌, ◌≤◌, List, [], ◌∷◌}
use Rattle.rv_isa.specs.declared.register.Register.{Register}
use Rattle.rv_isa.specs.declared.immediate.Immediate.{Immediate}
use Rattle.rv_isa.specs.declared.immediate.UpperImmediate.{UpperImmediate}
use Rattle.rv_isa.specs.declared.instr.Instr.{Instr}
use Rattle.rv_isa.specs.declared.instr.Instr.TheVariants.{Lui, Jalr, Addi}
use Rattle.rv_isa.specs.Arithmetic.{sum_word}
use Rattle.rv_isa.specs.Standing.{Code, Has}
use Rattle.rv_isa.specs.declared.placed.Native.{Native}
use Rattle.rv_isa.specs.declared.placed.Symbol.{Symbol}
use Rattle.rv_isa.specs.declared.placed.Native.TheVariants.{Instruction, Address, Label}
use Rattle.rv_isa.specs.declared.placed.Section.TheVariants.{Data}

-- The instructions that lines of the text stand for where the memory that it may write begins at an address: an instruction for itself, an
-- address in that memory for two that make it, and a label for none. The runtime has no other lines.
abbrev pub Spells : ℕ → List Native → List Instr → Type 0
Spells memory [] is = is ≡ []
Spells memory (Instruction i ∷ lines) is = (rest : List Instr) × (is ≡ i ∷ rest) × Spells memory lines rest
Spells memory (Address rd Data offset ∷ lines) is =
    (upper : UpperImmediate) × (lower : Immediate) × (rest : List Instr) × (sum_word upper.word lower.word ≡ memory + offset)
    × (is ≡ Lui rd upper ∷ Addi rd rd lower ∷ rest) × Spells memory lines rest
Spells memory (Label symbol ∷ lines) is = Spells memory lines is
Spells memory (_ ∷ lines) is = ⊥

-- how many instructions a line stands for
abbrev pub words_of_line : Native → ℕ
words_of_line (Instruction i) = 1
words_of_line (Address rd section offset) = 2
words_of_line _ = 0

abbrev pub words_of : List Native → ℕ
words_of [] = 0
words_of (line ∷ lines) = words_of_line line + words_of lines

-- the labels, each with the number of instructions before it
abbrev pub labels_of : ℕ → List Native → List (Symbol × ℕ)
labels_of before [] = []
labels_of before (Label symbol ∷ lines) = (symbol, before) ∷ labels_of before lines
labels_of before (line ∷ lines) = labels_of (before + words_of_line line) lines

-- the lines of a runtime: instructions, labels, and addresses in the memory that it may write, at most so far from its begin
abbrev pub AreWithin : ℕ → List Native → Type 0
AreWithin most [] = Unit {0}
AreWithin most (Instruction i ∷ lines) = AreWithin most lines
AreWithin most (Label symbol ∷ lines) = AreWithin most lines
AreWithin most (Address rd Data offset ∷ lines) = (offset ≤ most) × AreWithin most lines
AreWithin most (_ ∷ lines) = ⊥

-- These lines are so many instructions, have no label, and have addresses at most so far from the memory's begin. Wherever the instructions stand, the code there is of this kind: by the memory, the
-- code and the address of its first instruction
pub record Makes (lines : List Native) (words reach : ℕ) (IsOfKind : ℕ → Code → ℕ → Type 0) : Type 0 where
  pub size : words_of lines ≡ words
  pub labels : (before : ℕ) → labels_of before lines ≡ []
  pub within : AreWithin reach lines
  pub code : (memory : ℕ) (is : List Instr) (code : Code) (at : ℕ) → Spells memory lines is → Has code at is → IsOfKind memory code at

-- a register becomes a number: ADDI from x0
pub record IsSet (rd : Register) (number : ℕ) (line : Native) : Type 0 where
  pub zero_register : Register
  pub zero_is : zero_register.number ≡ 0
  pub immediate : Immediate
  pub immediate_is : immediate.word ≡ number
  pub line_is : line ≡ Instruction (Addi rd zero_register immediate)

-- a jump to the address in x1: JALR of x0
pub record IsWayBack (line : Native) : Type 0 where
  pub zero_register : Register
  pub zero_is : zero_register.number ≡ 0
  pub way : Register
  pub way_is : way.number ≡ 1
  pub immediate : Immediate
  pub immediate_is : immediate.word ≡ 0
  pub line_is : line ≡ Instruction (Jalr zero_register way immediate)
