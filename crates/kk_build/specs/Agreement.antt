-- When the file of an image does what its program means.
use Rattle.std.specs.Prelude.{◌≡◌, ℕ, ◌+◌, ◌*◌, ◌<◌, List, None, Some, All}
use Rattle.kk_base.specs.Machines.{ending_after}
use Rattle.kk_source.specs.Notes.{events_of}
use Rattle.kk_source.specs.Ends.{exit_of}
use Rattle.kk_source.specs.State.{Setting, ended}
use Rattle.kk_source.specs.SourceAfter.{store_machine, first_state}
use Rattle.kk_core.specs.Costs.{most_step_cost}
use Rattle.rv_isa.specs.ProcessorMachine.{ImageAgrees, ImageKeepsUp}
use Rattle.elf_image.specs.Loaded.{reason_of}
use Rattle.rv_isa.specs.Processor.{exited}
use Rattle.kk_back.specs.FreeCells.{AreAllFree}
use Rattle.kk_build.specs.ImageAfter.{file_after}
use Rattle.rv_isa.specs.FreeTouches.{TouchesNoFreeCell}
use Rattle.cell_runtime.specs.Sizes.{runtime_words}
use Rattle.elf_image.specs.Fields.{entry_of}

-- The image in a file agrees with a program on an input: it never traps, and exits with these numbers alone; each trace of one is a
-- prefix of one of the other; and the program ends if and only if the image exits, alike, and then their whole traces are equal.
abbrev pub AgreesOn : List ℕ → Setting → List ℕ → Type 0
AgreesOn file setting input =
    ImageAgrees (store_machine setting) events_of exit_of (first_state setting input) (file_after file input)

-- the file can be loaded, and its image agrees with the program on every input of bytes
pub record Agrees (file : List ℕ) (setting : Setting) : Type 0 where
  pub loads : reason_of file ≡ None
  pub agrees : (input : List ℕ) → All (λ byte. byte < 256) input → AgreesOn file setting input

-- Within how many instructions the image does what the program does in n steps, by a number of nodes that no body passes: so many
-- for each step, and once more as many for the code before and behind that of `main`.
abbrev pub instructions_within : ℕ → ℕ → ℕ
instructions_within nodes n = most_step_cost nodes * (n + 1)

-- the image in a file does so on every input of bytes
abbrev pub IsBounded : ℕ → List ℕ → Setting → Type 0
IsBounded nodes file setting =
    (input : List ℕ) → All (λ byte. byte < 256) input
    → ImageKeepsUp (store_machine setting) events_of exit_of (instructions_within nodes) (first_state setting input)
    (file_after file input)

-- Where the program ends by itself on an input of bytes, the image in a file exits with 0, and each of its cells is free then, once.
abbrev pub LeavesNoCell : List ℕ → Setting → Type 0
LeavesNoCell file setting =
    (input : List ℕ) → All (λ byte. byte < 256) input
    → (n : ℕ) → ending_after (store_machine setting) n (first_state setting input) ≡ Some ended
    → (count : ℕ) × ((file_after file input count).ending ≡ exited (exit_of ended))
    × AreAllFree setting.cells (file_after file input count).processor

-- On every input of bytes, at each moment before the end at which the program counter is outside of the runtime's words, which are
-- the first ones from the entry on, the instruction that is executed next loads and stores no byte of a cell in the list of free
-- cells, of which so many are listed at most, and it is no call of the environment.
abbrev pub TouchesNoFree : ℕ → List ℕ → Type 0
TouchesNoFree cells file =
    (input : List ℕ) → All (λ byte. byte < 256) input
    → (count : ℕ) → TouchesNoFreeCell (entry_of file) runtime_words cells (file_after file input count)
