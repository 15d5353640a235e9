-- The execution of the instructions of an instruction set, one after the other. RV32IM is the instance that Execution names.
-- The RISC-V Instruction Set Manual, Volume I: Unprivileged ISA, 1.5 Base Instruction-Length Encoding, 1.6 Exceptions, Traps, and Interrupts, 2.2 Base Instruction Formats (misaligned targets) and 2.6 Load and Store Instructions. The numbers of the causes are this project's own.
use Rattle.std.specs.Prelude.{◌≡◌, ℕ, zero, suc, ◌+◌, ◌%◌, List, Option, Some, None, not, if◌then◌else◌, nat_eq}
use Rattle.std.specs.Int.{Width}
use Rattle.kk_base.specs.Memory.{Part}
use Rattle.rv_isa.specs.declared.act.Act.{Act}
use Rattle.rv_isa.specs.declared.act.Act.TheVariants.{Nothing, Set, Load, Store, Call, Break}
use Rattle.rv_isa.specs.declared.act.Effect.{Effect}
use Rattle.rv_isa.specs.Numbers.{illegal_instruction, fetch_fault, misaligned_target, access_fault, misaligned_access}
use Rattle.rv_isa.specs.Words.{widened_in}
use Rattle.rv_isa.specs.Bytes.{number_at, with_number}
use Rattle.rv_isa.specs.Processor.{Processor, Ending, going, exited, trapped, Progress, goes, traps, value, put, can_fetch, can_load, can_store, start}
use Rattle.rv_isa.specs.Environment.{stepped, calls}

-- the width of the registers; the instruction of a word of 32 bits, where it is one's; the registers that an instruction names, by number; and
-- what it does where it stands at pc and its first and second source hold these words: the next pc, and one act
pub record InstructionSet (I : Type 0) : Type 0 where
  pub width : Width
  pub read : ℕ → Option I
  pub rd : I → ℕ
  pub rs1 : I → ℕ
  pub rs2 : I → ℕ
  pub effect : I → ℕ → ℕ → ℕ → Effect

-- what an instruction does, by its act. A load or store at an address that is no multiple of its width traps, before one that does not lie in a
-- part that allows it; so does EBREAK
unfoldable pub acts_over : Width → Act → ℕ → ℕ → ℕ → Processor → Progress
acts_over width Nothing rd next word s = goes (stepped next s)
acts_over width (Set v) rd next word s = goes (record (stepped next s) { registers = put rd v s.registers })
acts_over width (Load at count signed) rd next word s =
    if not (nat_eq (at % count) 0) then traps misaligned_access word s
    else if not (can_load s.parts at count) then traps access_fault word s
    else goes (record (stepped next s) { registers = put rd (widened_in width count signed (number_at s.memory at count)) s.registers })
acts_over width (Store at count v) rd next word s =
    if not (nat_eq (at % count) 0) then traps misaligned_access word s
    else if not (can_store s.parts at count) then traps access_fault word s
    else goes (record (stepped next s) { memory = with_number at count v s.memory })
acts_over width Call rd next word s = calls next word s
acts_over width Break rd next word s = traps illegal_instruction word s

-- the effect of an instruction on the values of its registers
abbrev pub effect_over : {I : Type 0} → InstructionSet I → Processor → I → Effect
effect_over set s i = set.effect i s.pc (value s.registers (set.rs1 i)) (value s.registers (set.rs2 i))

-- a transfer to an address that is no multiple of 4 traps itself, with pc at the transfer
unfoldable pub executes_over : {I : Type 0} → InstructionSet I → Processor → ℕ → I → Progress
executes_over set s word i =
    if nat_eq ((effect_over set s i).next % 4) 0 then acts_over set.width (effect_over set s i).act (set.rd i) (effect_over set s i).next word s
    else traps misaligned_target word s

-- a word that is no instruction's traps
unfoldable pub decodes_over : {I : Type 0} → InstructionSet I → Processor → ℕ → Option I → Progress
decodes_over set s word None = traps illegal_instruction word s
decodes_over set s word (Some i) = executes_over set s word i

-- the next instruction. One that does not lie in a part in which words may be fetched traps
unfoldable pub step_over : {I : Type 0} → InstructionSet I → Processor → Progress
step_over set s =
    if can_fetch s.parts s.pc 4 then decodes_over set s (number_at s.memory s.pc 4) (set.read (number_at s.memory s.pc 4))
    else traps fetch_fault 0 s

-- a run that has not ended goes on; one that has ended stays
abbrev pub resumes : Ending → Processor → (Processor → Progress) → Progress
resumes going s rest = rest s
resumes (exited number) s rest = record { processor = s; ending = exited number }
resumes (trapped cause pc word) s rest = record { processor = s; ending = trapped cause pc word }

abbrev pub go_on : Progress → (Processor → Progress) → Progress
go_on progress rest = resumes progress.ending progress.processor rest

-- `count` instructions, or those up to the end
unfoldable pub run_over : {I : Type 0} → InstructionSet I → ℕ → Processor → Progress
run_over set zero s = goes s
run_over set (suc count) s = go_on (step_over set s) (run_over set count)

-- what an image of these parts and this entry has come to on an input, after `count` executed instructions
abbrev pub image_after_over : {I : Type 0} → InstructionSet I → List Part → ℕ → List ℕ → ℕ → Progress
image_after_over set parts entry input count = run_over set count (start parts entry input)

-- `count` instructions lead from one state to another
pub record LeadsOver {I : Type 0} (set : InstructionSet I) (count : ℕ) (from to : Processor) : Type 0 where
  pub by : (more : ℕ) → run_over set (count + more) from ≡ run_over set more to
