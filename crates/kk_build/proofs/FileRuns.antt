-- What holds of the runs of a loaded image holds of the file that loads it.
use Rattle.std.proofs.Common.{◌≡◌, ℕ, ◌<◌, List, All, Some, subst}
use Rattle.kk_base.specs.Machines.{Machine, ending_after, mapped}
use Rattle.kk_base.specs.Trace.{Event}
use Rattle.kk_source.specs.Ends.{exit_of}
use Rattle.kk_source.specs.Notes.{Note, events_of}
use Rattle.kk_source.specs.SourceAfter.{store_machine, first_state}
use Rattle.kk_source.specs.State.{Setting, End, ended}
use Rattle.elf_image.specs.Fields.{entry_of}
use Rattle.elf_image.specs.Loaded.{IsLoaded, parts_of}
use Rattle.elf_image.specs.Parts.{memory_of}
use Rattle.elf_image.specs.declared.part.Part.{Part}
use Rattle.cell_runtime.specs.Sizes.{runtime_words}
use Rattle.rv_isa.specs.Execution.{rv32im}
use Rattle.rv_isa.specs.FreeTouches.{TouchesNoFreeCell}
use Rattle.rv_isa.specs.InstructionSet.{run_over}
use Rattle.rv_isa.specs.Processor.{Ending, Progress, exited, start}
use Rattle.rv_isa.specs.ProcessorMachine.{ImageAgrees, ImageKeepsUp}
use Rattle.kk_back.specs.FreeCells.{AreAllFree}
use Rattle.kk_build.specs.Agreement.{Agrees, instructions_within, IsBounded, LeavesNoCell, TouchesNoFree}

-- a machine of a program as the world sees it: the events, and the number of the exit
abbrev pub outside : {S : Type 0} → Machine S Note End → Machine S Event Ending
outside machine = mapped events_of (λ end. exited (exit_of end)) machine

-- the run of an image on an input, after so many instructions
abbrev pub run_of : List Part → ℕ → List ℕ → ℕ → Progress
run_of parts entry input m = run_over rv32im m (start (memory_of parts) entry input)

-- what is said of the run of an image on an input, by a setting of the program
abbrev pub RunAgrees : Setting → List Part → ℕ → List ℕ → Type 0
RunAgrees setting parts entry input =
    ImageAgrees (store_machine setting) events_of exit_of (first_state setting input) (run_of parts entry input)

abbrev pub RunKeepsUp : ℕ → Setting → List Part → ℕ → List ℕ → Type 0
RunKeepsUp nodes setting parts entry input =
    ImageKeepsUp (store_machine setting) events_of exit_of (instructions_within nodes) (first_state setting input)
    (run_of parts entry input)

abbrev pub RunLeavesNone : Setting → List Part → ℕ → List ℕ → Type 0
RunLeavesNone setting parts entry input =
    (n : ℕ) → ending_after (store_machine setting) n (first_state setting input) ≡ Some ended
    → (count : ℕ) × ((run_of parts entry input count).ending ≡ exited (exit_of ended))
    × AreAllFree setting.cells (run_of parts entry input count).processor

abbrev pub RunTouchesNone : ℕ → List Part → ℕ → List ℕ → Type 0
RunTouchesNone cells parts entry input = (count : ℕ) → TouchesNoFreeCell entry runtime_words cells (run_of parts entry input count)

module _ {file : List ℕ} {entry : ℕ} {parts : List Part} (loaded : IsLoaded file entry parts) (setting : Setting) where
  -- what holds of the image's entry and parts holds of the file's
  of_file : (Holds : List Part → ℕ → Type 0) → Holds parts entry → Holds (parts_of file) (entry_of file)
  of_file Holds holds =
      subst (λ (p : List Part). Holds p (entry_of file)) loaded.parts_are
      (subst (λ (e : ℕ). Holds parts e) loaded.entry_is holds)

  pub agrees_as_loaded : ((input : List ℕ) → All (λ byte. byte < 256) input → RunAgrees setting parts entry input)
      → Agrees file setting
  agrees_as_loaded agrees =
      record {
        loads = loaded.sound;
        agrees = λ input bytes. of_file (λ p e. RunAgrees setting p e input) (agrees input bytes);
      }

  pub keeps_as_loaded : (nodes : ℕ)
      → ((input : List ℕ) → All (λ byte. byte < 256) input → RunKeepsUp nodes setting parts entry input)
      → IsBounded nodes file setting
  keeps_as_loaded nodes keeps input bytes =
      of_file (λ p e. RunKeepsUp nodes setting p e input) (keeps input bytes)

  pub leaves_as_loaded : ((input : List ℕ) → All (λ byte. byte < 256) input → RunLeavesNone setting parts entry input)
      → LeavesNoCell file setting
  leaves_as_loaded leaves input bytes = of_file (λ p e. RunLeavesNone setting p e input) (leaves input bytes)

  pub touches_as_loaded : (cells : ℕ)
      → ((input : List ℕ) → All (λ byte. byte < 256) input → RunTouchesNone cells parts entry input) → TouchesNoFree cells file
  touches_as_loaded cells touches input bytes = of_file (λ p e. RunTouchesNone cells p e input) (touches input bytes)
