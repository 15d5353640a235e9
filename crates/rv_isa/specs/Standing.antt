-- Code that stands in a machine's memory: what a run that executes it rests on.
use Rattle.std.specs.Prelude.{◌≡◌, ℕ, ◌+◌, ◌-◌, ◌/◌, ◌%◌, ◌^◌, ◌<◌, List, [], ◌∷◌}
use Rattle.std.specs.Prelude.{Option, Some, None, IsSome, true, ◌&&◌, if◌then◌else◌, nat_eq, nat_le}
use Rattle.std.specs.List.{slice_get}
use Rattle.rv_isa.specs.declared.instr.Instr.{Instr}
use Rattle.rv_isa.specs.Read.{read}
use Rattle.rv_isa.specs.Bytes.{Apart, number_at}
use Rattle.rv_isa.specs.Processor.{Processor, can_fetch, can_store}
use Rattle.rv_isa.specs.Execution.{Along, Leads}

-- the instruction at each address, where there is one
abbrev pub Code : Type 0
Code = ℕ → Option Instr

-- these instructions are the code's from an address on, one after the other
abbrev pub Has : Code → ℕ → List Instr → Type 0
Has code at [] = Unit {0}
Has code at (i ∷ is) = (code at ≡ Some i) × Has code (at + 4) is

-- the code of one list of instructions, from an address on, and nothing else
abbrev pub code_of : ℕ → List Instr → Code
code_of start is at =
    if nat_le start at && nat_eq ((at - start) % 4) 0 then slice_get is ((at - start) / 4) else None

-- the code stands in the machine: at addresses of words, each instruction as the machine reads it, where it may be fetched, and where no store
-- of at least one byte reaches it. So it stands after every step too
pub record Stands (code : Code) (s : Processor) : Type 0 where
  pub aligned : (at : ℕ) (i : Instr) → code at ≡ Some i → at % 4 ≡ 0
  pub below : (at : ℕ) (i : Instr) → code at ≡ Some i → at < 2 ^ 32
  pub fetched : (at : ℕ) (i : Instr) → code at ≡ Some i → can_fetch s.parts at 4 ≡ true
  pub holds : (at : ℕ) (i : Instr) → code at ≡ Some i → read (number_at s.memory at 4) ≡ Some i
  pub kept : (at : ℕ) (i : Instr) → code at ≡ Some i → (x count : ℕ) → can_store s.parts x count ≡ true → 0 < count → Apart x count at 4

-- the program counter is at an instruction of the code
abbrev pub Inside : Code → Processor → Type 0
Inside code s = IsSome (code s.pc)

-- so many instructions, each of them one of the code, lead from one state to another
pub record LeadsIn (code : Code) (count : ℕ) (from to : Processor) : Type 0 where
  pub leads : Leads count from to
  pub inside : Along (Inside code) count from
