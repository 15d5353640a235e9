-- The image of a program with tokens does what its bare form does: its assembler code does, and the image does what that does.
use Rattle.std.proofs.Common.{◌≡◌, ◌≢◌, ◌+◌, ◌*◌, ◌<◌, ◌≤◌, ℕ, List, [], All, Some, length, slice_get, refl, sym, ap, subst, ◌∙◌, arith}
use Rattle.kk_base.specs.Agreements.{Agree}
use Rattle.kk_base.specs.Machines.{state}
use Rattle.kk_base.proofs.Agreements.{agree_through}
use Rattle.kk_source.specs.State.{ended as well}
use Rattle.kk_counted.specs.BareForms.{bare_program}
use Rattle.kk_counted.specs.CountedCodes.{CountedProgram}
use Rattle.kk_counted.specs.CountedCosts.{roomy_cost}
use Rattle.kk_counted.specs.CountedStates.{CountedSetting, stopped, counted_first_state}
use Rattle.kk_counted.specs.Heaps.{busy}
use Rattle.kk_counted.specs.Keeping.{counted_after}
use Rattle.kk_counted.specs.TokenCosts.{HasRoom}
use Rattle.kk_counted.specs.TokenedCodes.{TokenedProgram}
use Rattle.kk_counted.specs.declared.shape.Shape.{Shape}
use Rattle.elf_image.specs.Parts.{memory_of}
use Rattle.elf_image.specs.Program.{IsProgramImage, text_of}
use Rattle.elf_image.specs.declared.part.Part.{Part}
use Rattle.rv_inline.specs.Growth.{most_growth}
use Rattle.rv_inline.specs.InLine.{most_fresh}
use Rattle.rv_isa.specs.AsmCode.{Lines}
use Rattle.rv_isa.specs.AsmMachine.{asm_machine, asm_start}
use Rattle.rv_isa.specs.Costs.{functions_length}
use Rattle.rv_isa.specs.Execution.{rv32im, run}
use Rattle.rv_isa.specs.Primitives.{stuck}
use Rattle.rv_isa.specs.Processor.{start, goes}
use Rattle.rv_isa.specs.ProcessorMachine.{processor_machine}
use Rattle.rv_lower.specs.Lowered.{from_to}
use Rattle.rv_cells.specs.Fitting.{IsFit}
use Rattle.rv_cells.specs.FormLines.{HaveOwnLines, ComesToItsLines, FollowsEachState}
use Rattle.rv_cells.specs.Laws.{RunTheSame, ComeToTheirLines, AreWellLowered, AreShortLowered, TakeFewWords, HaveFewValues, most_values_of}
use Rattle.rv_cells.specs.Meaning.{setting_on}
use Rattle.rv_cells.specs.Tables.{table_of, layout_in}
use Rattle.rv_cells.specs.TokenedLowered.{IsTokenedForm}
use Rattle.rv_cells.specs.TokenMemory.{FollowTheirTokens}
use Rattle.rv_cells.specs.TokenedMeaning.{roomy_outside, IsTokenedLowered, TokenedRunsTheSame}
use Rattle.rv_place.specs.Images.{outside_lines}
use Rattle.rv_place.specs.Texts.{most_text_length}
use Rattle.cell_runtime.specs.Operations.{Constants}
use Rattle.cell_runtime.specs.World.{first_world, primitives}
use Rattle.kk_back.specs.Assembled.{IsPlaceable, IsAsmImage, IsImageOfAsm}
use Rattle.kk_back.specs.Images.{counted_setting, IsRunnable, IsImageOf, HasOwnAddresses}
use Rattle.kk_back.specs.TokenStates.{ComesToTokenStates}
use Rattle.kk_back.specs.FreeCells.{AreAllFree}
use Rattle.kk_back.specs.Memory.{HasAsmMemory, HasMemory}
use Rattle.kk_back.specs.Sizes.{FitsText, most_asm_bytes, most_text_bytes}
use Rattle.kk_back.proofs.ImageLayers.{same_some}
use Rattle.kk_back.proofs.FreeCells.{all_are_free}
use Rattle.kk_back.proofs.OwnAddresses.{own_addresses}
use Rattle.kk_back.proofs.TokenRooms.{greatest_room, has_enough}
use Rattle.kk_back.proofs.TokenStates.{comes_to_states}

no_params : (names : List ℕ) (n : ℕ) → names ≡ from_to 0 n → n ≡ 0 → names ≡ []
no_params names n are none = are ∙ ap (from_to 0) none

module _ (shape : Shape) (code : TokenedProgram) (functions : List Lines) (texts : List (List ℕ)) (cells depth : ℕ)
    (runnable : IsRunnable shape code cells depth)
    (form : IsTokenedForm shape code.texts code.functions functions texts) (are_well_lowered : AreWellLowered) where
  -- its assembler code is well formed, and its first function is that of `main`
  lowered : IsTokenedLowered (layout_in shape) (table_of shape) code texts functions
  lowered =
      are_well_lowered shape code texts functions runnable.lowerable runnable.tokens runnable.spends form runnable.narrow
      runnable.falsity runnable.truth_is runnable.main runnable.main_is runnable.main_alone

  main_there : slice_get functions 0 ≡ Some lowered.main_lines
  main_there = sym (ap (slice_get functions) runnable.main_first) ∙ lowered.lines_are

  -- it is short, and so fits a text, with room for calls in line
  pub has_room : AreShortLowered → functions_length functions + most_growth ≤ most_text_length
  has_room are_short_lowered =
      let short =
      are_short_lowered shape code texts functions runnable.lowerable runnable.tokens runnable.spends form runnable.narrow in
      let code_length = short.0 in
      let most_length = runnable.short.length in
      omega (arith, code_length, most_length)

  fits : AreShortLowered → FitsText functions texts
  fits are_short_lowered =
      let short =
      are_short_lowered shape code texts functions runnable.lowerable runnable.tokens runnable.spends form runnable.narrow in
      let room = has_room are_short_lowered in
      let bytes = short.1 in
      let most_computes = runnable.short.computes in
      record { instructions = omega (arith, room); bytes = omega (arith, bytes, most_computes) }

  -- so it can be placed
  pub placeable_of : AreShortLowered → IsPlaceable functions texts
  placeable_of are_short_lowered =
      let there = lowered.each code.main lowered.main lowered.main_is in
      let same : there.0 ≡ lowered.main_lines = same_some there.0 lowered.main_lines (sym there.1 ∙ lowered.lines_are) in
      let params : there.0.params ≡ [] = no_params there.0.params lowered.main.parameters there.2.lowered.params lowered.main_alone in
      let many = form.as_many in
      let few = runnable.few in
      record {
        formed = lowered.formed;
        fits = fits are_short_lowered;
        few = omega (arith, many, few);
        main = lowered.main_lines;
        main_is = main_there;
        main_params = sym (ap (λ (lines : Lines). lines.params) same) ∙ params;
      }

  module _ (entry : ℕ) (parts : List Part) (of_asm : IsImageOfAsm functions texts cells depth entry parts) where
    image : IsAsmImage functions texts lowered.main_lines cells depth entry parts
    image = of_asm lowered.main_lines main_there

    -- a text, and memory
    pub is_program : IsProgramImage entry parts
    is_program = image.program

    -- and the memory has this room
    pub has_memory : HasAsmMemory functions most_fresh cells depth parts → HaveFewValues → HasMemory code cells depth parts
    has_memory memory have_few_values = record {
      placed = memory.placed;
      is = memory.is;
      few = λ variables slots few_variables few_slots.
          memory.few (most_values_of variables slots)
          (have_few_values shape code texts functions runnable.lowerable runnable.spends form variables slots few_variables
          few_slots);
    }

    -- and the text is small
    pub text_small : length (text_of parts) ≤ most_asm_bytes functions texts + 4 * most_growth → TakeFewWords
        → length (text_of parts) ≤ most_text_bytes code
    text_small text take_few_words =
        let few =
        take_few_words shape code texts functions runnable.lowerable runnable.tokens runnable.spends form runnable.narrow in
        let words = few.0 in
        let bytes = few.1 in
        let many = form.as_many in
        omega (arith, text, words, bytes, many)

    abbrev constants : Constants
    constants = record { first = image.first; texts = texts }

    -- the program without its tokens
    abbrev bare_code : CountedProgram
    bare_code = bare_program code

    abbrev setting : CountedSetting
    setting = counted_setting bare_code cells depth

    same_setting : setting_on bare_code image.pool depth ≡ setting
    same_setting = ap (λ n. counted_setting bare_code n depth) image.cells_are

    module _ (run_the_same : RunTheSame) where
      module _ (room : ℕ) (enough : HasRoom room code) where
        -- each state of the program without its tokens is fit
        are_fit : (input : List ℕ) → All (λ byte. byte < 256) input → (n : ℕ)
            → IsFit (layout_in shape) (counted_after (roomy_cost room) (setting_on bare_code image.pool depth) input n)
        are_fit input bytes n =
            subst (λ (s : CountedSetting). IsFit (layout_in shape) (counted_after (roomy_cost room) s input n))
            (sym same_setting) (runnable.fit (roomy_cost room) input bytes n)

        runs : (input : List ℕ) → All (λ byte. byte < 256) input
            → TokenedRunsTheSame code room texts functions lowered.main_lines image.pool depth image.first input
        runs input bytes =
            run_the_same (layout_in shape) (table_of shape) code texts functions lowered room enough image.pool depth image.first
            input image.aligned image.behind bytes (are_fit input bytes)

        never : (input : List ℕ) → All (λ byte. byte < 256) input → (n : ℕ)
            → state (asm_machine (primitives constants image.pool) depth functions) n
            (asm_start lowered.main_lines (first_world image.pool input))
            ≢ stuck
        never input bytes n = (runs input bytes).never_stuck n

        -- the image does what the program does without its tokens
        pub image_is : IsImageOf bare_code room cells depth entry parts
        image_is = record {
          does = λ input bytes.
              let upper = (runs input bytes).agrees in
              let low = image.does input bytes (never input bytes) in (
                (λ m. upper.0 (low.0 m)),
                subst (λ (s : CountedSetting). Agree (roomy_outside room s) (processor_machine rv32im) (room + outside_lines)
                    (λ m. upper.0 (low.0 m)) (counted_first_state s input) (goes (start (memory_of parts) entry input))) same_setting
                    (agree_through (roomy_outside room (setting_on bare_code image.pool depth))
                    (asm_machine (primitives constants image.pool) depth functions) (processor_machine rv32im) room
                    outside_lines upper.0 low.0
                    (counted_first_state (setting_on bare_code image.pool depth) input)
                    (asm_start lowered.main_lines (first_world image.pool input))
                    (goes (start (memory_of parts) entry input)) upper.1 low.1),
              );
          leaves_cells = λ input bytes n stops empty.
              let ends = (runs input bytes).ends n well
              (subst (λ (s : CountedSetting). (counted_after (roomy_cost room) s input n).control ≡ stopped well) (sym same_setting)
              stops) in
              let last = image.ends input bytes (never input bytes) ends.0 _ ends.1 ends.2 in
              let all = ends.3 refl (subst (λ (s : CountedSetting). busy (counted_after (roomy_cost room) s input n).heap ≡ 0)
              (sym same_setting) empty) in (
                last.0,
                (
                  last.1.ending,
                  subst (λ n. AreAllFree n (run last.0 (start (memory_of parts) entry input)).processor) image.cells_are
                      (all_are_free image.pool ends.1.cells (run last.0 (start (memory_of parts) entry input)).processor all
                      last.1.memory),
                ),
              );
          touches_no_free = λ input bytes. image.touches_no_free input bytes (never input bytes);
        }

      -- a room that is enough for the tokens
      abbrev most : ℕ
      most = greatest_room code.functions

      -- it comes to each state of the machine with tokens
      pub token_states_are : FollowTheirTokens → ComesToTokenStates (layout_in shape) code cells depth entry parts
      token_states_are follow_their_tokens =
          comes_to_states functions texts lowered.main_lines cells depth entry parts image (layout_in shape) code
          (λ input bytes.
          follow_their_tokens (layout_in shape) (table_of shape) code texts functions lowered most (has_enough code) image.pool depth
          image.first input image.aligned image.behind bytes (are_fit most (has_enough code) input bytes))
          (never most (has_enough code))

      module _ (come_to_their_lines : ComeToTheirLines) where
        -- each form has lines of its own
        own : HaveOwnLines bare_code functions
        own =
            (come_to_their_lines (layout_in shape) (table_of shape) code texts functions lowered runnable.lowerable
            runnable.main_first).0

        -- the costs of steps, and so the room in them, change nothing that is done
        comes : (room : ℕ) (input : List ℕ) → All (λ byte. byte < 256) input
            → ComesToItsLines (layout_in shape) bare_code room texts functions lowered.main_lines image.pool depth image.first input
            own
            × FollowsEachState (layout_in shape) bare_code room texts functions lowered.main_lines image.pool depth image.first input
        unfolding own
        comes room input bytes =
            (come_to_their_lines (layout_in shape) (table_of shape) code texts functions lowered runnable.lowerable
            runnable.main_first).1 most (has_enough code) image.pool depth image.first input image.aligned image.behind bytes
            (are_fit most (has_enough code) input bytes)

        -- the forms of the program have addresses of their own in the image, which follows the counted machine
        pub own_is : HasOwnAddresses (layout_in shape) code cells depth entry parts
        own_is =
            own_addresses functions texts lowered.main_lines cells depth entry parts image (layout_in shape) code own comes
            (never most (has_enough code))
