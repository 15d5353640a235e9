-- A processor with its memory and what it has done on the outside, and what a run of it comes to.
-- The RISC-V Instruction Set Manual, Volume I: Unprivileged ISA, 1.2 RISC-V Software Execution Environments and Harts, 1.4 Memory and 2.1 Programmers' Model for Base Integer ISA.
use Rattle.std.specs.Prelude.{ℕ, List, [], map, Bool, ◌&&◌, if◌then◌else◌, nat_eq}
use Rattle.std.specs.List.{list_any}
use Rattle.kk_base.specs.Memory.{Part, covers, byte_loaded}
use Rattle.kk_base.specs.Trace.{Event}

-- the registers x0 to x31 and the address of the next instruction; the memory by bytes, and the parts of the addresses with what may be done
-- in them; what is left of the input; how many instructions were executed; and what was done on the outside
pub record Processor : Type 0 where
  pub registers : ℕ → ℕ
  pub pc : ℕ
  pub memory : ℕ → ℕ
  pub parts : List Part
  pub left : List ℕ
  pub executed : ℕ
  pub trace : List Event

-- 2.1: x0 reads as zero, and a write to it is lost
abbrev pub value : (ℕ → ℕ) → ℕ → ℕ
value registers number = if nat_eq number 0 then 0 else registers number

abbrev pub put : ℕ → ℕ → (ℕ → ℕ) → ℕ → ℕ
put number word registers x =
    if nat_eq number 0 then registers x else if nat_eq x number then word else registers x

-- the addresses from `at`, `count` of them, lie in one part in which this may be done; an empty range lies in any part
abbrev pub can_fetch : List Part → ℕ → ℕ → Bool
can_fetch parts at count = list_any (λ part. part.executable && covers part at count) parts

abbrev pub can_load : List Part → ℕ → ℕ → Bool
can_load parts at count = list_any (λ part. part.readable && covers part at count) parts

abbrev pub can_store : List Part → ℕ → ℕ → Bool
can_store parts at count = list_any (λ part. part.writable && covers part at count) parts

-- they lie in one part, whatever may be done there
abbrev pub lies_in_part : List Part → ℕ → ℕ → Bool
lies_in_part parts at count = list_any (λ part. covers part at count) parts

-- a part without its bytes, which a processor holds in its memory
abbrev pub bare : Part → Part
bare part = record part { bytes = [] }

-- the processor at its start: it stands at the entry, its registers are 0, and its memory is as loaded
abbrev pub start : List Part → ℕ → List ℕ → Processor
start parts entry input = record {
  registers = λ x. 0;
  pc = entry;
  memory = byte_loaded parts;
  parts = map bare parts;
  left = input;
  executed = 0;
  trace = [];
}

-- it goes on; it has exited with a number; or it has trapped, for a cause, with pc at the instruction that trapped, and that instruction's
-- word, which is 0 where none could be fetched
pub data Ending : Type 0 where
  going : Ending
  exited : (number : ℕ) → Ending
  trapped : (cause pc word : ℕ) → Ending

-- what a run has come to
pub record Progress : Type 0 where
  pub processor : Processor
  pub ending : Ending

abbrev pub goes : Processor → Progress
goes processor = record { processor = processor; ending = going }

abbrev pub traps : ℕ → ℕ → Processor → Progress
traps cause word processor = record { processor = processor; ending = trapped cause processor.pc word }

-- how many instructions one step has executed, by what it has come to: an exit is executed, and a trap is not
abbrev pub counted : Ending → ℕ
counted going = 1
counted (exited number) = 1
counted (trapped cause pc word) = 0
