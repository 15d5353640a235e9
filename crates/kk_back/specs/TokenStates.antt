-- That the image of a program with tokens comes to the states of the machine with tokens: to their cells, to their tokens and to
-- the chain of those that are held.
use Rattle.std.specs.Prelude.{◌≡◌, ℕ, ◌<◌, true, List, [], ◌∷◌, All}
use Rattle.kk_base.specs.Machines.{trace}
use Rattle.kk_source.specs.State.{Environment}
use Rattle.kk_counted.specs.TokenCosts.{token_cost}
use Rattle.kk_counted.specs.TokenKeeping.{token_after}
use Rattle.kk_counted.specs.TokenStates.{TokenSetting, TokenJoin, TokenControl, TokenConfiguration, token_first_state}
use Rattle.kk_counted.specs.TokenedCodes.{Tokened, TokenedProgram}
use Rattle.cell_heap.specs.Blocks.{Cells}
use Rattle.cell_heap.specs.Pool.{Pool}
use Rattle.cell_heap.specs.ProgramMemory.{HoldsCells}
use Rattle.cell_heap.specs.View.{Link}
use Rattle.elf_image.specs.Parts.{memory_of}
use Rattle.elf_image.specs.declared.part.Part.{Part}
use Rattle.rv_cells.specs.Layout.{Layout}
use Rattle.rv_cells.specs.TokenMemory.{HeldCell, HasTokenCells, tokened_outside}
use Rattle.rv_isa.specs.Execution.{rv32im, run}
use Rattle.rv_isa.specs.Processor.{Processor, start, goes}
use Rattle.rv_isa.specs.ProcessorMachine.{processor_machine}
use Rattle.rv_place.specs.HeldSlots.{IsInFrame}
use Rattle.kk_back.specs.Memory.{FillMemory, frames_end}

-- a program with tokens on so many cells and with such a depth: its constructions leave the fields that they keep
abbrev pub token_setting : TokenedProgram → ℕ → ℕ → TokenSetting
token_setting code cells depth = record { program = code; cells = cells; depth = depth; leaves = true }

-- The links of memory are held tokens, one by one: each has the cell of the token, and its slot is a word of the frame that holds
-- the token. Frames have so many bytes, and stand one below the other from the end of the stack on.
abbrev pub AreLinked : ℕ → ℕ → List HeldCell → List Link → Type 0
AreLinked frame stack [] [] = Unit {0}
AreLinked frame stack (held ∷ helds) (link ∷ links) =
    (link.cell ≡ held.cell) × (IsInFrame frame stack held.frame link.slot × AreLinked frame stack helds links)
AreLinked frame stack _ _ = ⊥

-- Memory has a state of the machine with tokens. It has cells, and on the chain of held tokens it has links; the cells are those of
-- the heap and of the tokens, and the links are the tokens on the chain of the state, in its order.
pub record HasTokenState (pool : Pool) (layout : Layout) (frame stack : ℕ) (c : TokenConfiguration) (s : Processor) : Type 0 where
  pub cells : Cells
  pub links : List Link
  pub memory : HoldsCells pool cells links s
  pub held : List HeldCell
  pub linked : AreLinked frame stack held links
  pub has : HasTokenCells pool layout c cells held

-- The image comes to each state of the machine with tokens. Its cells and its frames fill its memory: the frames stand from the end of
-- the cells on, and that of number k, counted from 0, ends k frames below the end of them all. On each input of bytes: where that
-- machine is at a form, there is a number of instructions behind which the run goes on, the same events are told, and memory has the
-- state.
pub record ComesToTokenStates (layout : Layout) (code : TokenedProgram) (cells depth entry : ℕ) (parts : List Part) : Type 0 where
  pub pool : Pool
  pub cells_are : pool.cells ≡ cells
  pub frame : ℕ
  pub fill : FillMemory pool depth frame parts
  pub comes : (input : List ℕ) → All (λ byte. byte < 256) input
      → (n : ℕ) (form : Tokened) (environment : Environment) (joins : List TokenJoin)
      → (token_after token_cost (token_setting code cells depth) input n).control
      ≡ TokenControl.running form environment joins
      → (count : ℕ) × ((s : Processor) × ((run count (start (memory_of parts) entry input) ≡ goes s)
      × ((trace (processor_machine rv32im) count (goes (start (memory_of parts) entry input))
      ≡ trace (tokened_outside (token_setting code cells depth)) n (token_first_state (token_setting code cells depth) input))
      × HasTokenState pool layout frame (frames_end pool depth frame)
      (token_after token_cost (token_setting code cells depth) input n) s)))
