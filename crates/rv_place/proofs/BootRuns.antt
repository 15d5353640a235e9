-- The loaded image agrees with the machine of the placed form, where the processor simulates that machine.
use Rattle.std.proofs.Common.{◌≡◌, ◌≤◌, ◌<◌, ℕ, suc, ◌+◌, ◌-◌, ◌*◌, List, [], ◌∷◌, length, All, Some, refl, ap, sym, subst, ◌∙◌, arith}
use Rattle.std.specs.List.{slice_get}
use Rattle.kk_base.specs.Simulations.{Simulates}
use Rattle.kk_base.specs.Agreements.{Agree}
use Rattle.kk_base.specs.Machines.{state}
use Rattle.kk_base.proofs.Simulations.{simulates_agree, simulates_many, simulates_passing}
use Rattle.elf_image.specs.Program.{text_start, memory_start}
use Rattle.rv_isa.specs.declared.placed.Placed.{Placed}
use Rattle.rv_isa.specs.declared.placed.DataSection.{DataSection}
use Rattle.rv_isa.specs.PlacedCode.{PlacedLines, placed_functions, placed_natives, placed_memory}
use Rattle.rv_isa.specs.PlacedMachine.{placed_machine, placed_start}
use Rattle.rv_isa.specs.Primitives.{ended}
use Rattle.rv_isa.specs.Processor.{Processor, Ending, Progress, goes}
use Rattle.rv_isa.specs.Execution.{rv32im, run}
use Rattle.rv_isa.specs.ProcessorMachine.{processor_machine}
use Rattle.rv_isa.proofs.Runs.{Leads-each}
use Rattle.rv_isa.proofs.Standing.{Stands-leads}
use Rattle.rv_isa.specs.Bytes.{bytes_at}
use Rattle.cell_runtime.specs.Lines.{words_of}
use Rattle.cell_runtime.specs.Layouts.{layout_of}
use Rattle.cell_runtime.specs.Starts.{AfterStart, IsStart}
use Rattle.cell_runtime.specs.Texts.{pool_of}
use Rattle.cell_heap.specs.Blocks.{unused_cells, view_of}
use Rattle.cell_heap.proofs.FreeCells.{free_list-lists}
use Rattle.rv_isa.proofs.ProcessorMachines.{state-run}
use Rattle.cell_heap.specs.ProgramMemory.{HoldsCells}
use Rattle.cell_runtime.proofs.Blocks.{start_holds}
use Rattle.cell_runtime.specs.World.{World, first_world, primitives}
use Rattle.rv_place.specs.declared.words.Words.{Words}
use Rattle.rv_isa.specs.FrameSizes.{frame_size}
use Rattle.rv_place.specs.Addresses.{jump_words, takes_frame, words_of_functions, frame_bias, entries_from}
use Rattle.rv_place.specs.declared.reach.Reach.{Reach}
use Rattle.rv_place.specs.declared.reach.Reach.TheVariants.{Near}
use Rattle.rv_place.proofs.PointerShifts.{bias_below}
use Rattle.rv_place.specs.Lines.{FunctionAt}
use Rattle.rv_place.specs.Texts.{text_bytes, memory_of, pool_in, constants_of, map_of, jumps_of}
use Rattle.rv_place.specs.Images.{first_processor, parts_of, code_in, main_entry, outside_lines, IsPlacedImage, EndsWithCells}
use Rattle.rv_place.specs.Grounds.{stack_end, constant_bytes, Ground, Rests}
use Rattle.rv_place.specs.ProcessorStates.{NeverStuck, Related, Passing}
use Rattle.rv_place.proofs.PassedInstructions.{walks_then, stands_part, start_walks}
use Rattle.rv_place.proofs.CodeLines.{function_found}
use Rattle.rv_place.proofs.BootAgreements.{agree_after_instructions}
use Rattle.rv_place.proofs.BootSizes.{text_size}
use Rattle.rv_place.proofs.BootGround.{stop_address, HasRoom, own_code, own-part, own-inside, has-room, runtime-stands, has-ground}
use Rattle.rv_place.proofs.BootFirst.{usable, first-stands, first-rests}
use Rattle.rv_place.proofs.BootEntry.{first_frame, Begins, IsBefore, entry-begins, begin_steps, few_steps}

-- the first function stands first
first_entry : (jumps : Reach) (at : ℕ) (functions : List PlacedLines) (entry : ℕ) → slice_get (entries_from jumps at functions) 0 ≡ Some entry → entry ≡ at
first_entry jumps at [] entry is = cc
first_entry jumps at (function ∷ functions) entry is = cc

module _ {cells depth : ℕ} {runtime program : Placed} {words : Words} {text : List ℕ} {main : PlacedLines} (image : IsPlacedImage cells depth runtime program words text main) where
  bytes_are : length text ≡ text_bytes runtime program
  bytes_are = text_size image.words_are image.text_is

  room : HasRoom cells depth (frame_size (placed_functions program)) (length text) (memory_start (length text)) (placed_memory runtime).stack_bottom (placed_memory runtime).size
  room =
      subst (λ n. HasRoom cells depth (frame_size (placed_functions program)) n (memory_start n) (placed_memory runtime).stack_bottom (placed_memory runtime).size) (sym bytes_are)
      (has-room image.sizes.few_cells image.sizes.small_depth image.runtime_is image.placeable)

  pub image-ground : Ground (map_of runtime program) (pool_in cells runtime program) (placed_functions program) depth (memory_start (length text)) stop_address (code_in words) (parts_of text runtime)
  image-ground =
      has-ground image.runtime_is image.words_are (length text) (memory_start (length text)) (placed_memory runtime).size bytes_are (ap memory_start bytes_are) image.sizes.some_depth image.placeable room

  -- main stands behind the runtime
  main-at : (slice_get (map_of runtime program).entries 0 ≡ Some main_entry) × FunctionAt (map_of runtime program) (code_in words) main_entry main
  main-at =
      let found = function_found (map_of runtime program) (code_in words) (map_of runtime program).entries (placed_functions program) image.words_are.functions 0 main image.first in
      let entry_is : found.0 ≡ main_entry =
      first_entry (jumps_of runtime program) (text_start + 4 * words_of (placed_natives runtime)) (placed_functions program) found.0 found.1 ∙ ap (λ n. text_start + 4 * n) image.runtime_is.words in
      subst (λ entry. (slice_get (map_of runtime program).entries 0 ≡ Some entry) × FunctionAt (map_of runtime program) (code_in words) entry main) entry_is (found.1, found.2)

  -- the stack pointer begins at the end of the memory
  stack_ends : memory_start (length text) + (layout_of cells depth (frame_size (placed_functions program))).stack_end
      ≡ stack_end (map_of runtime program) depth + frame_bias (jumps_of runtime program)
  stack_ends =
      let size_is : (placed_memory runtime).size ≡ (layout_of cells depth (frame_size (placed_functions program))).stack_end = ap (λ (section : DataSection). section.size) image.runtime_is.memory in
      let same : memory_start (length text) ≡ memory_of runtime program = ap memory_start bytes_are in
      let bias = bias_below (frame_size (placed_functions program)) jump_words (words_of (placed_natives runtime) + words_of_functions Near (placed_functions program)) in
      omega (arith, room.size_is, room.some_cells)

  module _ (input : List ℕ) (input_bytes : All (λ byte. byte < 256) input) where
    -- the start comes to main's entry
    started : (t : Processor) × AfterStart (own_code image.runtime_is image.words_are) (pool_of cells (memory_start (length text))) (memory_start (length text) + (layout_of cells depth (frame_size (placed_functions program))).stack_end) main_entry text_start (first_processor text (placed_memory runtime).size input) t
    started =
        let end : ℕ = (layout_of cells depth (frame_size (placed_functions program))).stack_end in
        let starts : IsStart (pool_of cells (memory_start (length text))) (memory_start (length text) + end) main_entry (own_code image.runtime_is image.words_are) text_start =
        subst (λ n. IsStart (pool_of cells (memory_start n)) (memory_start n + end) main_entry (own_code image.runtime_is image.words_are) text_start) (sym bytes_are) (runtime-stands image.runtime_is image.words_are).start in
        starts (first_processor text (placed_memory runtime).size input) (record { stands = stands_part (own-part image.runtime_is image.words_are) (first-stands image.placeable image.words_are image.text_is (placed_memory runtime).size input); pc_is = refl })
        (usable cells depth (frame_size (placed_functions program)) (length text) (memory_start (length text)) (placed_memory runtime).stack_bottom (placed_memory runtime).size room) (omega arith)

    started-rests : Rests (map_of runtime program) (code_in words) (parts_of text runtime) started.0
    started-rests =
        let constants = (map_of runtime program).constants in
        let rests = first-rests image.placeable image.words_are image.text_is (placed_memory runtime).size input in
        record {
          stands = Stands-leads started.1.leads rests.stands;
          parts_are = started.1.parts;
          constants = ap (λ memory. bytes_at memory constants.first (constant_bytes (map_of runtime program))) started.1.memory ∙ rests.constants;
        }

    before-main : IsBefore (map_of runtime program) (pool_in cells runtime program) depth stop_address main_entry (code_in words) (parts_of text runtime) input started.0
    before-main = record {
      rests = started-rests;
      pc_is = started.1.goes_to;
      way_is = started.1.way_back;
      base_is = started.1.stack ∙ stack_ends;
      one = started.1.one;
      header = started.1.header;
      trace_is = started.1.trace;
      left_is = started.1.left;
      cells = subst (λ pool. HoldsCells pool (unused_cells pool) [] started.0) (ap (λ n. pool_of cells n) (ap memory_start bytes_are)) (start_holds started.1.cells);
    }

    -- how many silent instructions lead to the begin of main's lines: those of the start, and of main's entry
    abbrev pub first_steps : ℕ
    first_steps = 11 + begin_steps (jumps_of runtime program) (takes_frame (jumps_of runtime program) main.code)

    few_first : first_steps ≤ 16
    few_first = omega (arith, few_steps (jumps_of runtime program) (takes_frame (jumps_of runtime program) main.code))

    pub image-begins : Begins (map_of runtime program) (pool_in cells runtime program) (placed_functions program) depth stop_address (code_in words) (parts_of text runtime) main input first_steps (first_processor text (placed_memory runtime).size input)
    image-begins =
        let frame : ℕ = frame_size (placed_functions program) in
        let base : ℕ = stack_end (map_of runtime program) depth - frame in
        let base_is : base + frame ≡ stack_end (map_of runtime program) depth = omega (arith, first_frame depth frame image.sizes.some_depth) in
        let behind = entry-begins image-ground image.plain image.first main-at.0 main-at.1 input_bytes before-main base base_is in
        record { after = behind.after; walks = walks_then (start_walks (map_of runtime program) (pool_in cells runtime program) (own_code image.runtime_is image.words_are) (own-inside image.runtime_is image.words_are) started.1) behind.walks; told = behind.told ∙ started.1.trace; running = behind.running }

    -- and where the processor simulates the machine, they agree
    module _ (pace : ℕ) (simulates : Simulates (placed_machine (primitives (constants_of runtime program) (pool_in cells runtime program)) depth (placed_functions program)) (processor_machine rv32im) (Related (map_of runtime program) (pool_in cells runtime program) (placed_functions program) depth stop_address (code_in words) (parts_of text runtime)) (Passing (map_of runtime program) (pool_in cells runtime program)) pace)
        (never : NeverStuck (map_of runtime program) (pool_in cells runtime program) (placed_functions program) depth (placed_start main (first_world (pool_in cells runtime program) input))) where
      begins-agree : Agree (placed_machine (primitives (constants_of runtime program) (pool_in cells runtime program)) depth (placed_functions program)) (processor_machine rv32im) 3 (λ m. m * pace + length main.code + 1) (placed_start main (first_world (pool_in cells runtime program) input)) (goes image-begins.after)
      begins-agree =
          simulates_agree _ _ _ _ pace simulates 3 (length main.code) (placed_start main (first_world (pool_in cells runtime program) input)) (goes image-begins.after)
          (never, (image-begins.after, refl, omega arith, omega arith, image-begins.running))

      pub image-agrees : Agree (placed_machine (primitives (constants_of runtime program) (pool_in cells runtime program)) depth (placed_functions program)) (processor_machine rv32im) outside_lines (λ m. m * pace + length main.code + 1) (placed_start main (first_world (pool_in cells runtime program) input)) (goes (first_processor text (placed_memory runtime).size input))
      image-agrees =
          agree_after_instructions _ 3 16 first_steps (λ m. m * pace + length main.code + 1) (placed_start main (first_world (pool_in cells runtime program) input)) (first_processor text (placed_memory runtime).size input) image-begins.after few_first image-begins.walks.leads image-begins.told begins-agree

      -- no state of its run touches a free cell outside of the runtime's words
      pub image-passes : (count : ℕ) → Passing (map_of runtime program) (pool_in cells runtime program) (run count (first_processor text (placed_memory runtime).size input))
      image-passes count =
          let later : (k : ℕ) → k < suc count → Passing (map_of runtime program) (pool_in cells runtime program) (run k image-begins.after)
          = λ k less. subst (Passing (map_of runtime program) (pool_in cells runtime program)) (state-run rv32im k image-begins.after)
          (simulates_passing _ _ _ _ pace simulates 3 (length main.code) (placed_start main (first_world (pool_in cells runtime program) input)) (goes image-begins.after)
          (never, (image-begins.after, refl, omega arith, omega arith, image-begins.running)) k) in
          Leads-each (Passing (map_of runtime program) (pool_in cells runtime program)) image-begins.walks.leads image-begins.walks.passes later count (omega arith)

      -- where the machine ends, so does the image, and its memory has the cells of the world
      pub image-ends : (steps : ℕ) (how : Ending) (world : World)
          → state (placed_machine (primitives (constants_of runtime program) (pool_in cells runtime program)) depth (placed_functions program)) steps (placed_start main (first_world (pool_in cells runtime program) input)) ≡ ended how world
          → (count : ℕ) × EndsWithCells (pool_in cells runtime program) how world (run count (first_processor text (placed_memory runtime).size input))
      image-ends steps how world is =
          let reaches = simulates_many _ _ _ _ pace simulates steps 3 (length main.code) (placed_start main (first_world (pool_in cells runtime program) input)) (goes image-begins.after)
          (never, (image-begins.after, refl, omega arith, omega arith, image-begins.running)) in
          let last : Progress = state (processor_machine rv32im) reaches.steps (goes image-begins.after) in
          let related : Related (map_of runtime program) (pool_in cells runtime program) (placed_functions program) depth stop_address (code_in words) (parts_of text runtime) reaches.credit_after reaches.idle_after (ended how world) last
          = subst (λ turn. Related (map_of runtime program) (pool_in cells runtime program) (placed_functions program) depth stop_address (code_in words) (parts_of text runtime) reaches.credit_after reaches.idle_after turn last) is reaches.related in
          let there : run (first_steps + reaches.steps) (first_processor text (placed_memory runtime).size input) ≡ last = image-begins.walks.leads.by reaches.steps ∙ sym (state-run rv32im reaches.steps image-begins.after) in (
            first_steps + reaches.steps,
            subst (EndsWithCells (pool_in cells runtime program) how world) (sym there) (record {
              ending = related.1.0;
              trace = related.1.1;
              memory = related.1.2;
              free = free_list-lists (pool_in cells runtime program) (view_of world.cells related.1.2.0) last.processor related.1.2.1.memory;
            }),
          )
