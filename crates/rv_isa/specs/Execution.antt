-- The execution of RV32IM: the instruction set, and what InstructionSet says over it.
use Rattle.std.specs.Prelude.{ℕ, ◌<◌, List, Option}
use Rattle.std.specs.Int.{w32}
use Rattle.kk_base.specs.Memory.{Part}
use Rattle.rv_isa.specs.declared.act.Act.{Act}
use Rattle.rv_isa.specs.declared.act.Effect.{Effect}
use Rattle.rv_isa.specs.declared.instr.Instr.{Instr}
use Rattle.rv_isa.specs.Read.{read}
use Rattle.rv_isa.specs.Operands.{rd_of, rs1_of, rs2_of}
use Rattle.rv_isa.specs.Meaning.{effect_of}
use Rattle.rv_isa.specs.Processor.{Processor, Progress}
use Rattle.rv_isa.specs.InstructionSet.{InstructionSet, acts_over, effect_over, executes_over, decodes_over, step_over, run_over, image_after_over, LeadsOver}

-- registers of 32 bits, and the instructions of the table
abbrev pub rv32im : InstructionSet Instr
rv32im = record { width = w32; read = read; rd = rd_of; rs1 = rs1_of; rs2 = rs2_of; effect = effect_of }

abbrev pub acts : Act → ℕ → ℕ → ℕ → Processor → Progress
acts act rd next word s = acts_over w32 act rd next word s

abbrev pub effect_at : Processor → Instr → Effect
effect_at s i = effect_over rv32im s i

abbrev pub executes : Processor → ℕ → Instr → Progress
executes s word i = executes_over rv32im s word i

abbrev pub decodes : Processor → ℕ → Option Instr → Progress
decodes s word i = decodes_over rv32im s word i

-- the next instruction
abbrev pub step : Processor → Progress
step s = step_over rv32im s

-- so many instructions, or those up to the end
abbrev pub run : ℕ → Processor → Progress
run count s = run_over rv32im count s

-- what an image of these parts and this entry has come to on an input, after so many executed instructions
abbrev pub image_after : List Part → ℕ → List ℕ → ℕ → Progress
image_after parts entry input count = image_after_over rv32im parts entry input count

-- so many instructions lead from one state to another
abbrev pub Leads : ℕ → Processor → Processor → Type 0
Leads count from to = LeadsOver rv32im count from to

-- something is so of each of the first states of a run, so many of them
abbrev pub Along : (Processor → Type 0) → ℕ → Processor → Type 0
Along P count s = (k : ℕ) → k < count → P (run k s).processor
