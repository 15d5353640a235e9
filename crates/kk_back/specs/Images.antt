-- The image of a program in counted form with tokens: the loaded image does what the program without its tokens does.
use Rattle.std.specs.Prelude.{◌≡◌, ℕ, ◌+◌, ◌*◌, ◌%◌, ◌<◌, ◌≤◌, true, List, All, Some, length, slice_get}
use Rattle.kk_base.specs.Agreements.{Agree}
use Rattle.kk_base.specs.Machines.{trace}
use Rattle.kk_syntax.specs.Shapes.{is_among}
use Rattle.kk_source.specs.Ends.{exit_of}
use Rattle.kk_source.specs.State.{Environment, ended as well}
use Rattle.kk_counted.specs.BareForms.{bare_program}
use Rattle.kk_counted.specs.CodePlaces.{is_act, IsActAt}
use Rattle.kk_counted.specs.CountedCodes.{Counted, CountedProgram}
use Rattle.kk_counted.specs.CountedCosts.{roomy_cost}
use Rattle.kk_counted.specs.CountedStates.{CountedSetting, CountedState, CountedJoin, running, stopped, counted_first_state}
use Rattle.kk_counted.specs.Heaps.{Heap, busy}
use Rattle.kk_counted.specs.Keeping.{counted_after}
use Rattle.kk_counted.specs.Lowerable.{AreLowerable}
use Rattle.kk_counted.specs.TokenCosts.{HasRoom}
use Rattle.kk_counted.specs.TokenLengths.{AreTokensShort}
use Rattle.kk_counted.specs.TokenLowerable.{AreTokensLowerable}
use Rattle.kk_counted.specs.TokenSpending.{AreTokensSpent}
use Rattle.kk_counted.specs.TokenedCodes.{TokenedFunction, TokenedProgram}
use Rattle.kk_counted.specs.declared.shape.Shape.{Shape}
use Rattle.cell_heap.specs.Blocks.{Cells}
use Rattle.cell_heap.specs.Pool.{Pool}
use Rattle.cell_runtime.specs.Sizes.{runtime_words}
use Rattle.elf_image.specs.Parts.{memory_of}
use Rattle.elf_image.specs.declared.part.Part.{Part}
use Rattle.rv_cells.specs.Fitting.{IsFit}
use Rattle.rv_cells.specs.CountedCells.{Owner, Follows}
use Rattle.rv_cells.specs.Layout.{Layout, IsNarrow}
use Rattle.rv_cells.specs.Tables.{table_of, layout_in}
use Rattle.rv_cells.specs.TokenedMeaning.{roomy_outside}
use Rattle.rv_isa.specs.Execution.{rv32im, run}
use Rattle.rv_isa.specs.FreeTouches.{TouchesNoFreeCell}
use Rattle.rv_isa.specs.Processor.{Processor, Ending, exited, Progress, can_fetch, start, goes}
use Rattle.rv_isa.specs.ProcessorMachine.{ended, processor_machine}
use Rattle.rv_place.specs.Images.{outside_lines}
use Rattle.rv_place.specs.ProcessorStates.{HasCells}
use Rattle.rv_place.specs.Texts.{most_functions}
use Rattle.kk_back.specs.FreeCells.{AreAllFree}
use Rattle.kk_back.specs.Memory.{FillMemory}

-- a program in counted form on so many cells and with such a depth
abbrev pub counted_setting : CountedProgram → ℕ → ℕ → CountedSetting
counted_setting code cells depth = record { program = code; cells = cells; depth = depth }

-- What is asked of a program with tokens and its shape. Its functions are few and short, can be lowered with their tokens, spend
-- each token once on each path, and the first one is `main`. Constructors 0 and 1 are `False` and `True`. With so many cells and
-- such a depth each state of each run of its bare form is fit: it is not stuck, its heap is sound, and values are of the types that
-- the code takes.
pub record IsRunnable (shape : Shape) (code : TokenedProgram) (cells depth : ℕ) : Type 0 where
  pub lowerable : AreLowerable (table_of shape) (bare_program code).functions
  pub tokens : AreTokensLowerable code.functions
  pub spends : AreTokensSpent code
  pub few : length code.functions ≤ most_functions
  pub short : AreTokensShort code.functions
  pub narrow : IsNarrow (layout_in shape)
  pub falsity : (layout_in shape).tag 0 ≡ 0
  pub truth_is : (layout_in shape).tag 1 ≡ 1
  pub main_first : code.main ≡ 0
  pub main : TokenedFunction
  pub main_is : slice_get code.functions code.main ≡ Some main
  pub main_alone : main.parameters ≡ 0
  pub fit : (weights : CountedState → ℕ) (input : List ℕ) → All (λ byte. byte < 256) input → (n : ℕ)
      → IsFit (layout_in shape) (counted_after weights (counted_setting (bare_program code) cells depth) input n)

-- a run has ended so, and all cells are free
abbrev pub LeavesAll : ℕ → Ending → Progress → Type 0
LeavesAll cells how last = (ended last.ending ≡ Some how) × AreAllFree cells last.processor

-- The processor's memory has the cells of a counted heap: it holds cells which are those of the heap, by some address of each name.
abbrev pub HasHeap : Pool → Layout → Heap → Processor → Type 0
HasHeap pool layout heap s =
    (cells : Cells) × (HasCells pool cells s
    × ((address : ℕ → ℕ) × ((owners : ℕ → Owner) × Follows pool layout address owners heap cells)))

-- The addresses of the forms of a program with tokens in its image, by its bare form. Each call, print and construction with fields
-- has one instruction address of its own or more: more where its code stands more than once, behind tests of tokens. Each is a
-- multiple of 4 behind the runtime's words, which stand at the entry, and a word can be fetched there as an instruction. No two
-- forms share an address. Whatever room for tokens its costs have, and on each input of bytes, the image follows the counted
-- machine: where that is at a form, there is a number of instructions behind which the run goes on, memory has the cells of the
-- counted heap, and the same events are told. Where the form is a call, a print or a construction with fields, there is such a
-- number behind which the program counter is at an address of a place with this form's code (where two places of the program have
-- the same code, it is one of them). The cells fill the memory of the image, together with frames of some size.
pub record HasOwnAddresses (layout : Layout) (code : TokenedProgram) (cells depth entry : ℕ) (parts : List Part) : Type 0 where
  pub pool : Pool
  pub cells_are : pool.cells ≡ cells
  pub frame : ℕ
  pub fill : FillMemory pool depth frame parts
  pub addresses : ℕ → List ℕ → List ℕ
  pub some : (f : ℕ) (way : List ℕ) (act : Counted) → IsActAt (bare_program code) f way act
      → (at : ℕ) × (is_among (addresses f way) at ≡ true)
  pub apart : (f g : ℕ) (way other : List ℕ) (at : ℕ) → is_among (addresses f way) at ≡ true
      → is_among (addresses g other) at ≡ true → (f ≡ g) × (way ≡ other)
  pub outside : (f : ℕ) (way : List ℕ) (at : ℕ) → is_among (addresses f way) at ≡ true → entry + 4 * runtime_words ≤ at
  pub inside : (f : ℕ) (way : List ℕ) (at : ℕ) → is_among (addresses f way) at ≡ true
      → (at % 4 ≡ 0) × (can_fetch (memory_of parts) at 4 ≡ true)
  pub comes : (room : ℕ) (input : List ℕ) → All (λ byte. byte < 256) input
      → (n : ℕ) (act : Counted) (environment : Environment) (joins : List CountedJoin)
      → (counted_after (roomy_cost room) (counted_setting (bare_program code) cells depth) input n).control
      ≡ running act environment joins
      → is_act act ≡ true
      → (f : ℕ) × ((way : List ℕ) × (IsActAt (bare_program code) f way act × ((at : ℕ) × ((is_among (addresses f way) at ≡ true)
      × ((count : ℕ) × ((s : Processor) × ((run count (start (memory_of parts) entry input) ≡ goes s) × ((s.pc ≡ at)
      × ((trace (processor_machine rv32im) count (goes (start (memory_of parts) entry input))
      ≡ trace (roomy_outside room (counted_setting (bare_program code) cells depth)) n
      (counted_first_state (counted_setting (bare_program code) cells depth) input))
      × HasHeap pool layout
      (counted_after (roomy_cost room) (counted_setting (bare_program code) cells depth) input n).heap s)))))))))
  pub follows : (room : ℕ) (input : List ℕ) → All (λ byte. byte < 256) input
      → (n : ℕ) (form : Counted) (environment : Environment) (joins : List CountedJoin)
      → (counted_after (roomy_cost room) (counted_setting (bare_program code) cells depth) input n).control
      ≡ running form environment joins
      → (count : ℕ) × ((s : Processor) × ((run count (start (memory_of parts) entry input) ≡ goes s)
      × ((trace (processor_machine rv32im) count (goes (start (memory_of parts) entry input))
      ≡ trace (roomy_outside room (counted_setting (bare_program code) cells depth)) n
      (counted_first_state (counted_setting (bare_program code) cells depth) input))
      × HasHeap pool layout
      (counted_after (roomy_cost room) (counted_setting (bare_program code) cells depth) input n).heap s)))

-- An image of a program in counted form, with so many cells and such a depth, and with so much room for tokens. On each input of
-- bytes the processor's machine agrees with the counted one: the image tells the same events and exits with the number of the end.
-- It executes no more instructions than the steps of the counted machine cost with that room, and the room once and `outside_lines`
-- more. Where the program ends by itself and no cell is counted then, all cells are free at its exit. Outside of the runtime's
-- words, which stand at the entry, it touches no free cell.
pub record IsImageOf (code : CountedProgram) (room cells depth entry : ℕ) (parts : List Part) : Type 0 where
  pub does : (input : List ℕ) → All (λ byte. byte < 256) input
      → (up : ℕ → ℕ) × Agree (roomy_outside room (counted_setting code cells depth)) (processor_machine rv32im)
      (room + outside_lines) up
      (counted_first_state (counted_setting code cells depth) input) (goes (start (memory_of parts) entry input))
  pub leaves_cells : (input : List ℕ) → All (λ byte. byte < 256) input → (n : ℕ)
      → (counted_after (roomy_cost room) (counted_setting code cells depth) input n).control ≡ stopped well
      → busy (counted_after (roomy_cost room) (counted_setting code cells depth) input n).heap ≡ 0
      → (count : ℕ) × LeavesAll cells (exited (exit_of well)) (run count (start (memory_of parts) entry input))
  pub touches_no_free : (input : List ℕ) → All (λ byte. byte < 256) input → (count : ℕ)
      → TouchesNoFreeCell entry runtime_words cells (run count (start (memory_of parts) entry input))

-- an image of a program with tokens: one of its bare form, with each room that is enough for its tokens
abbrev pub IsImageOfTokened : TokenedProgram → ℕ → ℕ → ℕ → List Part → Type 0
IsImageOfTokened code cells depth entry parts =
    (room : ℕ) → HasRoom room code → IsImageOf (bare_program code) room cells depth entry parts
