-- The file of an image agrees with the program, leaves no cell, and is bounded.
use Rattle.std.proofs.Common.{◌≡◌, ℕ, ◌+◌, ◌≤◌, ◌<◌, List, All, refl, subst, ◌∙◌, arith}
use Rattle.kk_base.specs.Agreements.{Agree}
use Rattle.kk_base.specs.Machines.{Machine, state}
use Rattle.kk_base.proofs.Agreements.{agree_through, agree_mapped}
use Rattle.kk_syntax.specs.PositionsOf.{PositionTable}
use Rattle.kk_syntax.specs.Programs.{ProgramTree}
use Rattle.kk_source.specs.Ends.{exit_of}
use Rattle.kk_source.specs.Notes.{Note, events_of}
use Rattle.kk_source.specs.Settings.{setting_of}
use Rattle.kk_source.specs.SourceAfter.{step, ending_of, first_state, State}
use Rattle.kk_source.specs.State.{Setting, End, ended}
use Rattle.kk_core.specs.Costs.{most_step_cost as most, most_room}
use Rattle.kk_norm.specs.Meaning.{heavy_store_machine}
use Rattle.kk_counted.specs.CountedCodes.{CountedProgram}
use Rattle.kk_counted.specs.CountedCosts.{roomy_cost}
use Rattle.kk_counted.specs.CountedMachine.{counted_machine}
use Rattle.kk_counted.specs.CountedStates.{CountedControl, CountedSetting, CountedState, CountedConfiguration, stopped}
use Rattle.kk_counted.specs.CountedStates.{counted_first_state}
use Rattle.kk_counted.specs.Heaps.{busy}
use Rattle.kk_insert.specs.Meaning.{EndsClean}
use Rattle.kk_middle.specs.Meaning.{KeepsMeaning}
use Rattle.elf_image.specs.Loaded.{IsLoaded}
use Rattle.elf_image.specs.Parts.{memory_of}
use Rattle.elf_image.specs.declared.part.Part.{Part}
use Rattle.rv_cells.specs.TokenedMeaning.{roomy_outside}
use Rattle.rv_isa.specs.Execution.{rv32im}
use Rattle.rv_isa.specs.InstructionSet.{run_over}
use Rattle.rv_isa.specs.Processor.{Processor, exited, start, goes}
use Rattle.rv_isa.specs.ProcessorMachine.{processor_machine}
use Rattle.rv_place.specs.Images.{outside_lines}
use Rattle.kk_back.specs.Images.{counted_setting, IsImageOf}
use Rattle.kk_build.specs.Agreement.{Agrees, instructions_within, IsBounded, LeavesNoCell}
use Rattle.kk_build.proofs.Endings.{exited_is, counted_stopped, differ}
use Rattle.kk_build.proofs.FileRuns.{outside, RunAgrees, RunKeepsUp, RunLeavesNone, agrees_as_loaded, keeps_as_loaded, leaves_as_loaded}
use Rattle.kk_build.proofs.Numbers.{counted_within}
use Rattle.kk_build.proofs.StepWeights.{same_endings, agrees_weighed, keeps_up_weighed}

-- where a run has ended by itself no cell is counted
no_cell : (c : CountedConfiguration) → c.control ≡ stopped ended → EndsClean c.control c.heap → busy c.heap ≡ 0
no_cell c stops clean = subst (λ (control : CountedControl). EndsClean control c.heap) stops clean

-- where a greater body has room for as much
room_within : (greatest nodes room : ℕ) → greatest ≤ nodes → room ≤ most_room greatest → room ≤ most_room nodes
room_within greatest nodes room few little = omega (arith, few, little)

module _ (program : ProgramTree) (table positions : PositionTable) (code : CountedProgram) (greatest room : ℕ) (up : ℕ → ℕ)
    (little : room ≤ most_room greatest)
    (cells depth entry : ℕ) (parts : List Part) (image : IsImageOf code room cells depth entry parts)
    (keeps : (input : List ℕ)
    → KeepsMeaning (setting_of program table cells depth) positions (counted_setting code cells depth) greatest up input) where
  abbrev setting : Setting
  setting = setting_of program table cells depth

  abbrev counted : CountedSetting
  counted = counted_setting code cells depth

  -- the counted machine, by the costs of its steps with room for tokens
  abbrev weighed : Machine CountedState Note End
  weighed = counted_machine (roomy_cost room) counted

  module _ (nodes : ℕ) (few : greatest ≤ nodes) (input : List ℕ) (bytes : All (λ byte. byte < 256) input) where
    abbrev loaded : Processor
    loaded = start (memory_of parts) entry input

    abbrev source : State
    source = first_state setting input

    abbrev first : CountedState
    first = counted_first_state counted input

    abbrev up_whole : ℕ → ℕ
    up_whole m = up ((image.does input bytes).0 m)

    -- the counted machine, by the notes of both
    agree : Agree (heavy_store_machine (most nodes) setting) weighed 0 up source first
    agree = (keeps input).agrees nodes room few (room_within greatest nodes room few little)

    -- the processor's machine, as the world sees both
    whole : Agree (outside (heavy_store_machine (most nodes) setting)) (processor_machine rv32im) (room + outside_lines) up_whole
        source (goes loaded)
    whole =
        let high = agree_mapped events_of (λ end. exited (exit_of end)) (heavy_store_machine (most nodes) setting) weighed 0 up
        source first agree in
        let low = image.does input bytes in
        let same : 0 + (room + outside_lines) ≡ room + outside_lines = omega arith in
        subst (λ (credit : ℕ). Agree (outside (heavy_store_machine (most nodes) setting)) (processor_machine rv32im) credit up_whole
        source (goes loaded)) same
        (agree_through (outside (heavy_store_machine (most nodes) setting)) (roomy_outside room counted) (processor_machine rv32im)
        0 (room + outside_lines) up low.0 source first (goes loaded) high low.1)

    image_does : RunAgrees setting parts entry input
    image_does =
        agrees_weighed rv32im (most nodes) ending_of (step setting) events_of exit_of (room + outside_lines) up_whole source
        loaded whole refl differ

    image_is_bounded : 1 ≤ nodes → RunKeepsUp nodes setting parts entry input
    image_is_bounded some =
        keeps_up_weighed rv32im (most nodes) ending_of (step setting) events_of exit_of (room + outside_lines) up_whole source
        loaded whole refl (instructions_within nodes)
        (λ n. counted_within nodes room n some (room_within greatest nodes room few little))

    image_leaves : RunLeavesNone setting parts entry input
    image_leaves n is =
        let does = agree.downwards n in
        let last = state weighed does.steps first in
        let same = same_endings (λ (s : State). most nodes) ending_of (step setting) n source in
        let stops = counted_stopped last.machine.control ended (does.ending_is ∙ same ∙ is) in
        let clean = (keeps input).clean (roomy_cost room) does.steps in
        let leaves = image.leaves_cells input bytes does.steps stops (no_cell last.machine stops clean) in
        (leaves.0, exited_is (run_over rv32im leaves.0 loaded).ending (exit_of ended) leaves.1.0, leaves.1.1)

  -- the file that loads the image
  module _ {file : List ℕ} (loads : IsLoaded file entry parts) where
    pub file_agrees : Agrees file setting
    file_agrees = agrees_as_loaded loads setting (image_does greatest (omega arith))

    pub file_leaves : LeavesNoCell file setting
    file_leaves = leaves_as_loaded loads setting (image_leaves greatest (omega arith))

    pub file_is_bounded : (nodes : ℕ) → greatest ≤ nodes → 1 ≤ nodes → IsBounded nodes file setting
    file_is_bounded nodes few some =
        keeps_as_loaded loads setting nodes (λ input bytes. image_is_bounded nodes few input bytes some)
