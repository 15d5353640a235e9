-- The image of assembler code: the loaded image does what the machine of assembler code does. Only private functions speak of it.
use Rattle.std.specs.Prelude.{◌≡◌, ◌≢◌, ℕ, ◌+◌, ◌*◌, ◌%◌, ◌^◌, ◌<◌, ◌≤◌, true, List, [], All, Some, length, slice_get}
use Rattle.kk_base.specs.Agreements.{Agree}
use Rattle.kk_base.specs.Machines.{state, trace}
use Rattle.cell_heap.specs.Pool.{Pool}
use Rattle.cell_heap.specs.ProgramMemory.{HoldsCells}
use Rattle.cell_heap.specs.View.{Link}
use Rattle.cell_runtime.specs.Sizes.{runtime_words}
use Rattle.elf_image.specs.Parts.{memory_of}
use Rattle.elf_image.specs.Program.{IsProgramImage}
use Rattle.elf_image.specs.declared.part.Part.{Part}
use Rattle.rv_isa.specs.AsmCode.{Lines}
use Rattle.rv_isa.specs.AsmMachine.{AsmState, asm_machine, asm_start}
use Rattle.rv_isa.specs.Execution.{rv32im, run}
use Rattle.rv_isa.specs.FreeTouches.{TouchesNoFreeCell}
use Rattle.rv_isa.specs.LinePlaces.{AsmIsAt, AsmHasOwnLine}
use Rattle.rv_isa.specs.Numbers.{cell_size}
use Rattle.rv_isa.specs.Primitives.{go, ended, stuck}
use Rattle.rv_isa.specs.Processor.{Processor, Ending, can_fetch, start, goes}
use Rattle.rv_isa.specs.ProcessorMachine.{processor_machine}
use Rattle.rv_isa.specs.WellFormed.{AreWellFormed}
use Rattle.rv_place.specs.HeldSlots.{AreHeld}
use Rattle.rv_place.specs.Images.{EndsWithCells, outside_lines}
use Rattle.rv_place.specs.ProcessorStates.{HasCells}
use Rattle.rv_place.specs.Texts.{most_functions}
use Rattle.cell_runtime.specs.Operations.{Constants, all_bytes}
use Rattle.cell_runtime.specs.World.{World, first_world, primitives}
use Rattle.kk_back.specs.Memory.{FillMemory, frames_end}
use Rattle.kk_back.specs.Sizes.{FitsText}

-- Assembler code that can be placed: it is well formed and small, its functions are few, and the first one takes no arguments.
pub record IsPlaceable (functions : List Lines) (texts : List (List ℕ)) : Type 0 where
  pub formed : AreWellFormed functions
  pub fits : FitsText functions texts
  pub few : length functions ≤ most_functions
  pub main : Lines
  pub main_is : slice_get functions 0 ≡ Some main
  pub main_params : main.params ≡ []

-- Memory has the cells of a state, and on its chain the held tokens of the frames: each in a word of its frame. Frames have so many
-- bytes, and stand one below the other from the end of the stack on.
abbrev pub HasHeldFrames : Pool → ℕ → ℕ → AsmState World → Processor → Type 0
HasHeldFrames pool frame stack high s =
    (links : List Link) × (HoldsCells pool high.shared.cells links s × AreHeld frame stack high.frames links)

-- The lines of assembler code in its image. Each own line has an address of its own, a multiple of 4 behind the runtime's words,
-- which stand at the entry, and a word can be fetched there as an instruction. On each input on which that code never is at a loss,
-- the image follows the code's machine: for each state that goes on there is a number of instructions behind which the run goes on,
-- memory has the cells of the world and the held tokens of the frames, and the same events are told. Where the machine is at such a
-- line, there is such a number behind which memory has the cells, and the program counter is at the line's address. The cells and
-- the frames fill the memory.
pub record HasLineAddresses (functions : List Lines) (main : Lines) (constants : Constants) (pool : Pool) (depth entry : ℕ)
    (parts : List Part) : Type 0 where
  pub address : ℕ → ℕ → ℕ
  pub frame : ℕ
  pub fill : FillMemory pool depth frame parts
  pub apart : (f k g j : ℕ) → AsmHasOwnLine functions f k → AsmHasOwnLine functions g j → address f k ≡ address g j
      → (f ≡ g) × (k ≡ j)
  pub outside : (f k : ℕ) → AsmHasOwnLine functions f k → entry + 4 * runtime_words ≤ address f k
  pub inside : (f k : ℕ) → AsmHasOwnLine functions f k
      → (address f k % 4 ≡ 0) × (can_fetch (memory_of parts) (address f k) 4 ≡ true)
  pub comes : (input : List ℕ) → All (λ byte. byte < 256) input
      → ((n : ℕ) → state (asm_machine (primitives constants pool) depth functions) n (asm_start main (first_world pool input))
      ≢ stuck)
      → (n f k : ℕ) (world : World) → AsmHasOwnLine functions f k
      → AsmIsAt functions f k world (state (asm_machine (primitives constants pool) depth functions) n
      (asm_start main (first_world pool input)))
      → (count : ℕ) × ((s : Processor) × ((run count (start (memory_of parts) entry input) ≡ goes s) × ((s.pc ≡ address f k)
      × ((trace (processor_machine rv32im) count (goes (start (memory_of parts) entry input))
      ≡ trace (asm_machine (primitives constants pool) depth functions) n (asm_start main (first_world pool input)))
      × HasCells pool world.cells s))))
  pub follows : (input : List ℕ) → All (λ byte. byte < 256) input
      → ((n : ℕ) → state (asm_machine (primitives constants pool) depth functions) n (asm_start main (first_world pool input))
      ≢ stuck)
      → (n : ℕ) (high : AsmState World)
      → state (asm_machine (primitives constants pool) depth functions) n (asm_start main (first_world pool input)) ≡ go high
      → (count : ℕ) × ((s : Processor) × ((run count (start (memory_of parts) entry input) ≡ goes s)
      × ((trace (processor_machine rv32im) count (goes (start (memory_of parts) entry input))
      ≡ trace (asm_machine (primitives constants pool) depth functions) n (asm_start main (first_world pool input)))
      × HasHeldFrames pool frame (frames_end pool depth frame) high s)))

-- An image of assembler code, for so many cells and such a depth, by where its cells and its constants stand. On each input on
-- which that code never is at a loss, the processor's machine agrees with the code's; where the code ends, so does the processor,
-- whose memory has the cells of the world then; outside of the runtime's words, which stand at the entry, no free cell is touched;
-- and the code's lines have their addresses.
pub record IsAsmImage (functions : List Lines) (texts : List (List ℕ)) (main : Lines) (cells depth entry : ℕ) (parts : List Part)
    : Type 0 where
  pub program : IsProgramImage entry parts
  pub pool : Pool
  pub cells_are : pool.cells ≡ cells
  pub aligned : pool.first % cell_size ≡ 0
  pub behind : 0 < pool.first
  pub first : ℕ
  pub constants_fit : first + length (all_bytes texts) < 2 ^ 32
  pub does : (input : List ℕ) → All (λ byte. byte < 256) input
      → ((n : ℕ) → state (asm_machine (primitives (record { first = first; texts = texts }) pool) depth functions) n
      (asm_start main (first_world pool input)) ≢ stuck)
      → (up : ℕ → ℕ) × Agree (asm_machine (primitives (record { first = first; texts = texts }) pool) depth functions)
      (processor_machine rv32im) outside_lines up (asm_start main (first_world pool input))
      (goes (start (memory_of parts) entry input))
  pub ends : (input : List ℕ) → All (λ byte. byte < 256) input
      → ((n : ℕ) → state (asm_machine (primitives (record { first = first; texts = texts }) pool) depth functions) n
      (asm_start main (first_world pool input)) ≢ stuck)
      → (steps : ℕ) (how : Ending) (world : World)
      → state (asm_machine (primitives (record { first = first; texts = texts }) pool) depth functions) steps
      (asm_start main (first_world pool input)) ≡ ended how world
      → (count : ℕ) × EndsWithCells pool how world (run count (start (memory_of parts) entry input))
  pub touches_no_free : (input : List ℕ) → All (λ byte. byte < 256) input
      → ((n : ℕ) → state (asm_machine (primitives (record { first = first; texts = texts }) pool) depth functions) n
      (asm_start main (first_world pool input)) ≢ stuck)
      → (count : ℕ) → TouchesNoFreeCell entry runtime_words cells (run count (start (memory_of parts) entry input))
  pub lines : HasLineAddresses functions main (record { first = first; texts = texts }) pool depth entry parts

-- an image of assembler code, by its first function
abbrev pub IsImageOfAsm : List Lines → List (List ℕ) → ℕ → ℕ → ℕ → List Part → Type 0
IsImageOfAsm functions texts cells depth entry parts =
    (main : Lines) → slice_get functions 0 ≡ Some main → IsAsmImage functions texts main cells depth entry parts
