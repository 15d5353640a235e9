-- What a call of a routine comes to: a way back, or the end of the run.
use Rattle.std.specs.Prelude.{◌≡◌, ℕ, ◌+◌, ◌%◌, ◌^◌, ◌<◌, ◌≤◌, ◌⊎◌}
use Rattle.rv_isa.specs.Processor.{Processor, exited, value}
use Rattle.rv_isa.specs.Execution.{run, Leads, Along}
use Rattle.rv_isa.specs.Standing.{Code, Stands, Inside}
use Rattle.rv_isa.specs.declared.placed.Symbol.{Symbol}
use Rattle.rv_isa.specs.declared.placed.Symbol.TheVariants.{Stop}
use Rattle.cell_runtime.specs.Registers.{KeptBy}

-- the code stands in the machine, which is at an address of it
pub record IsAt (code : Code) (at : ℕ) (s : Processor) : Type 0 where
  pub stands : Stands code s
  pub pc_is : s.pc ≡ at

-- x1 holds the address of an instruction
pub record HasWayBack (s : Processor) : Type 0 where
  pub aligned : value s.registers 1 % 4 ≡ 0
  pub in_range : value s.registers 1 < 2 ^ 32

-- from one machine the routine at a symbol comes to another by so many instructions, each of them one of the code: it is back, and
-- keeps the registers that the table says and the parts of memory
pub record Returns (code : Code) (symbol : Symbol) (count : ℕ) (s t : Processor) : Type 0 where
  pub leads : Leads count s t
  pub inside : Along (Inside code) count s
  pub back : t.pc ≡ value s.registers 1
  pub registers : (x : ℕ) → KeptBy symbol x → value t.registers x ≡ value s.registers x
  pub parts : t.parts ≡ s.parts

-- memory is as before but at these addresses, `count` of them
abbrev pub KeepsOutside : ℕ → ℕ → Processor → Processor → Type 0
KeepsOutside at count s t = (x : ℕ) → (x < at) ⊎ (at + count ≤ x) → t.memory x ≡ s.memory x

-- By so many instructions, each of them one of the code, the run exits with a number, and stays there. The exit tells no event and
-- changes neither memory nor any register but those that the table says.
pub record Exits (code : Code) (number count : ℕ) (s : Processor) : Type 0 where
  pub last : Processor
  pub ends : (more : ℕ) → run (count + more) s ≡ record { processor = last; ending = exited number }
  pub inside : Along (Inside code) count s
  pub executed : last.executed ≡ s.executed + count
  pub trace : last.trace ≡ s.trace
  pub memory : last.memory ≡ s.memory
  pub parts : last.parts ≡ s.parts
  pub registers : (x : ℕ) → KeptBy Stop x → value last.registers x ≡ value s.registers x
