-- The image of assembler code does what that code does, layer by layer: the placed code, that code with its loops rotated, and the
-- processor.
use Rattle.std.proofs.Common.{◌≡◌, ◌+◌, ◌*◌, ◌%◌, ◌^◌, ◌<◌, ◌≤◌, ◌≢◌, ◌⊎◌, inl, inr, ℕ, true, List, All, Some, length, slice_get, refl, sym, ap, subst, ◌∙◌, arith}
use Rattle.kk_base.specs.Agreements.{Agree}
use Rattle.kk_base.specs.Machines.{Machine, state, trace}
use Rattle.kk_base.specs.Sizes.{AreSizes}
use Rattle.kk_base.specs.Trace.{Event}
use Rattle.kk_base.proofs.Agreements.{agree_through}
use Rattle.kk_base.proofs.Simulations.{simulates_many}
use Rattle.rv_isa.specs.declared.asm.Asm.{Asm}
use Rattle.rv_isa.specs.declared.placed.DataSection.{DataSection}
use Rattle.rv_isa.specs.declared.placed.Placed.{Placed}
use Rattle.rv_isa.specs.AsmCode.{Lines, asm_functions, asm_constants}
use Rattle.rv_isa.specs.AsmMachine.{AsmState, AsmTurn, asm_machine, asm_start}
use Rattle.rv_isa.specs.PlacedCode.{PlacedLines, placed_functions, placed_constants, placed_memory}
use Rattle.rv_isa.specs.PlacedMachine.{PlacedState, PlacedTurn, placed_machine, placed_start}
use Rattle.rv_isa.specs.FreeTouches.{TouchesNoFreeCell}
use Rattle.rv_isa.specs.LinePlaces.{AsmIsAt, PlacedIsAt, AsmHasLine, PlacedHasLine, AsmHasOwnLine, PlacedHasOwnLine}
use Rattle.rv_isa.specs.Primitives.{go, ended, stuck}
use Rattle.rv_isa.specs.Processor.{Processor, Ending, can_fetch, start, goes}
use Rattle.rv_isa.specs.Execution.{rv32im, run}
use Rattle.rv_isa.specs.ProcessorMachine.{processor_machine}
use Rattle.rv_isa.specs.Costs.{functions_length, placed_functions_length}
use Rattle.rv_isa.specs.Sizes.{wide_frame}
use Rattle.rv_isa.specs.ValueBounds.{HaveValuesBelow}
use Rattle.rv_isa.specs.WellFormed.{AreWellFormed, most_values}
use Rattle.rv_isa.proofs.OwnActions.{own_is_some}
use Rattle.rv_isa.proofs.ValueBounds.{all_values_below}
use Rattle.elf_image.specs.Parts.{memory_of}
use Rattle.elf_image.specs.Program.{IsProgramImage, program_parts, text_of, memory_size_of, text_start, memory_start}
use Rattle.elf_image.specs.declared.part.Part.{Part}
use Rattle.rv_isa.specs.Numbers.{cell_size}
use Rattle.cell_heap.specs.Pool.{Pool}
use Rattle.cell_heap.specs.ProgramMemory.{HoldsCells}
use Rattle.cell_runtime.specs.Sizes.{runtime_words}
use Rattle.cell_runtime.specs.Layouts.{below_pointer, bytes_before_cells}
use Rattle.cell_runtime.proofs.AddressReach.{below_most}
use Rattle.cell_runtime.specs.Texts.{IsText}
use Rattle.cell_runtime.specs.Operations.{Constants, all_bytes}
use Rattle.cell_runtime.specs.World.{World, first_world, primitives}
use Rattle.rv_regs.specs.Valid.{IsValid}
use Rattle.rv_regs.specs.Shape.{HaveSlotsBelow, IsPlainlyPlaced}
use Rattle.rv_regs.specs.Relation.{NeverStuck as RegsNeverStuck, StandsFor as RegsStandsFor}
use Rattle.rv_regs.specs.StatementLines.{line_of}
use Rattle.rv_regs.proofs.StatementLines.{own_lines_there, lines_apart}
use Rattle.rv_regs.proofs.StatementArrivals.{comes_to_lines, follows_each_state}
use Rattle.rv_regs.proofs.Steps.{callee_both}
use Rattle.rv_regs.proofs.MeaningPreservation.{agrees_exactly, never_stuck, reaches_each}
use Rattle.rv_loops.specs.RotatedLines.{rotated_line_of}
use Rattle.rv_loops.specs.Relation.{Spot, IsAtSame, IsInTurn, StandsFor as LoopsStandsFor, Related as LoopsRelated}
use Rattle.rv_loops.specs.Relation.{IsNotStuck as RotatedNotStuck}
use Rattle.rv_loops.specs.Rotation.{AreRotated}
use Rattle.rv_loops.proofs.LineArrivals.{has_there, lines_apart as rotated_apart, comes as rotated_comes}
use Rattle.rv_loops.proofs.Places.{callee_both as rotated_callee}
use Rattle.rv_loops.proofs.SharedStates.{follows as rotated_follows}
use Rattle.rv_loops.proofs.Simulation.{simulates as rotated_simulates}
use Rattle.rv_loops.proofs.StartStates.{starts as rotated_starts, agrees as rotated_agrees, never_stuck as rotated_never}
use Rattle.rv_isa.specs.FrameSizes.{frame_size}
use Rattle.rv_place.specs.Bytes.{IsTextOf}
use Rattle.rv_place.specs.Grounds.{stack_end}
use Rattle.rv_place.specs.HeldSlots.{AreHeld, HasHeldTokens}
use Rattle.rv_place.specs.Images.{IsPlacedImage, EndsWithCells, first_processor, outside_lines}
use Rattle.rv_place.specs.LineAddresses.{line_address}
use Rattle.rv_place.specs.ProcessorStates.{HasCells, NeverStuck}
use Rattle.rv_place.specs.Texts.{ArePlaceable, ArePlacedWords, map_of, pool_in, constants_of, text_bytes, most_bytes}
use Rattle.rv_place.specs.Texts.{most_text_length, most_functions, most_text_words, most_constant_bytes}
use Rattle.rv_place.proofs.BootFits.{FitsImage, fits-image}
use Rattle.rv_place.proofs.BootMemory.{text-fetched}
use Rattle.rv_place.proofs.BootRuns.{image-ground}
use Rattle.rv_place.proofs.BootSizes.{bytes_most, text_size}
use Rattle.rv_place.specs.declared.words.Words.{Words}
use Rattle.kk_back.specs.Assembled.{IsPlaceable, HasHeldFrames, IsAsmImage}
use Rattle.kk_back.specs.Memory.{HasAsmMemory, FillMemory, frames_end}
use Rattle.kk_back.specs.Sizes.{most_asm_bytes}
use Rattle.kk_back.proofs.RotatedCode.{slots_below, all_plain, as_many_rotated, opposes, computes_alone}
use Rattle.kk_back.proofs.FrameSizes.{frame_most, as_many}
use Rattle.kk_back.proofs.HeldFrames.{held_before_rotation, held_before_places}
use Rattle.kk_back.proofs.PlainCode.{placed_is_plain}

-- ---- a runtime and a program that can be placed

-- a program with places whose loops are rotated
pub record IsLooped (placed looped : Placed) : Type 0 where
  pub rotated : AreRotated 0 (placed_functions placed) (placed_functions looped)
  pub short : placed_functions_length (placed_functions looped) ≤ placed_functions_length (placed_functions placed)
  pub constants : placed_constants looped ≡ placed_constants placed

pub looped_by : {placed looped : Placed} → AreRotated 0 (placed_functions placed) (placed_functions looped)
    → placed_functions_length (placed_functions looped) ≤ placed_functions_length (placed_functions placed)
    → placed_constants looped ≡ placed_constants placed → IsLooped placed looped
looped_by rotated short constants = record { rotated = rotated; short = short; constants = constants }

-- the constants are those of the assembler code
constants_kept : (asm : Asm) (placed looped : Placed) → IsValid asm placed → IsLooped placed looped
    → placed_constants looped ≡ asm_constants asm
constants_kept asm placed looped valid loops = loops.constants ∙ valid.constants

-- there are no more slots than values
pub few_slots : (asm : Asm) (placed looped : Placed) → IsPlainlyPlaced (asm_functions asm) placed → IsLooped placed looped
    → (most : ℕ) → HaveValuesBelow most (asm_functions asm) → HaveSlotsBelow most (placed_functions looped)
few_slots asm placed looped plain loops most below =
    slots_below most 0 (placed_functions placed) (placed_functions looped) loops.rotated (plain.slots most below)

-- the frames are small
pub frames_small : (asm : Asm) (placed looped : Placed) → AreWellFormed (asm_functions asm)
    → IsPlainlyPlaced (asm_functions asm) placed → IsLooped placed looped → frame_size (placed_functions looped) ≤ wide_frame
frames_small asm placed looped formed plain loops =
    let frame = frame_most most_values (placed_functions looped)
    (few_slots asm placed looped plain loops most_values (all_values_below (asm_functions asm) formed)) in
    omega (arith, frame)

-- what the layers before the placing promise can be placed behind the runtime
pub placeable : (cells depth : ℕ) (asm : Asm) (placed looped runtime : Placed) → IsPlaceable (asm_functions asm) (asm_constants asm)
    → IsValid asm placed → IsPlainlyPlaced (asm_functions asm) placed → IsLooped placed looped
    → IsText cells depth (frame_size (placed_functions looped)) runtime
    → AreSizes cells depth → ArePlaceable runtime looped
placeable cells depth asm placed looped runtime made valid plain loops runtime_is sizes =
    let functions : List Lines = asm_functions asm in
    let placed_are : List PlacedLines = placed_functions placed in
    let looped_are : List PlacedLines = placed_functions looped in
    let same : length placed_are ≡ length functions = as_many functions placed_are valid.functions in
    let rotated : length looped_are ≡ length placed_are = as_many_rotated 0 placed_are looped_are loops.rotated in
    let frame : frame_size looped_are ≤ wide_frame = frames_small asm placed looped made.formed plain loops in
    let few : length functions ≤ most_functions = made.few in
    let fits : functions_length functions ≤ most_text_length = made.fits.instructions in
    let shorter : placed_functions_length placed_are ≤ functions_length functions = plain.short in
    let no_longer : placed_functions_length looped_are ≤ placed_functions_length placed_are = loops.short in
    let bytes : length (all_bytes (placed_constants looped)) ≡ length (all_bytes (asm_constants asm))
    = ap (λ (texts : List (List ℕ)). length (all_bytes texts)) (constants_kept asm placed looped valid loops) in
    let most : length (all_bytes (asm_constants asm)) ≤ most_constant_bytes = made.fits.bytes in
    let bottom_is : (placed_memory runtime).stack_bottom ≡ bytes_before_cells + cell_size * cells + below_pointer (frame_size looped_are)
    = ap (λ (memory : DataSection). memory.stack_bottom) runtime_is.memory in
    record {
      lines = runtime_is.within;
      runtime_size = omega (arith, runtime_is.words);
      bottom = omega (arith, bottom_is, sizes.few_cells, below_most (frame_size looped_are));
      frames = frame;
      few_functions = omega (arith, same, rotated, few);
      short = omega (arith, fits, shorter, no_longer);
      few_bytes = omega (arith, bytes, most);
    }

-- ---- the layers

pub same_some : {A : Type 0} (a b : A) → Some a ≡ Some b → a ≡ b
same_some a b same = cc

-- what a layer below the placing is promised of an image
abbrev pub PlacedTextAgrees : Type 0
PlacedTextAgrees =
    (cells depth : ℕ) (runtime program : Placed) (words : Words) (text input : List ℕ) (main : PlacedLines)
    → IsPlacedImage cells depth runtime program words text main → All (λ byte. byte < 256) input
    → NeverStuck (map_of runtime program) (pool_in cells runtime program) (placed_functions program) depth (placed_start main (first_world (pool_in cells runtime program) input))
    → (up : ℕ → ℕ) × Agree (placed_machine (primitives (constants_of runtime program) (pool_in cells runtime program)) depth (placed_functions program)) (processor_machine rv32im) outside_lines up (placed_start main (first_world (pool_in cells runtime program) input)) (goes (first_processor text (placed_memory runtime).size input))

-- and of how it ends
abbrev pub PlacedTextEnds : Type 0
PlacedTextEnds =
    (cells depth : ℕ) (runtime program : Placed) (words : Words) (text input : List ℕ) (main : PlacedLines)
    → IsPlacedImage cells depth runtime program words text main → All (λ byte. byte < 256) input
    → NeverStuck (map_of runtime program) (pool_in cells runtime program) (placed_functions program) depth (placed_start main (first_world (pool_in cells runtime program) input))
    → (steps : ℕ) (how : Ending) (world : World)
    → state (placed_machine (primitives (constants_of runtime program) (pool_in cells runtime program)) depth (placed_functions program)) steps (placed_start main (first_world (pool_in cells runtime program) input)) ≡ ended how world
    → (count : ℕ) × EndsWithCells (pool_in cells runtime program) how world (run count (first_processor text (placed_memory runtime).size input))

-- and of how many bytes it has
abbrev pub PlacedTextIsSmall : Type 0
PlacedTextIsSmall =
    (runtime program : Placed) (words : Words) (text : List ℕ) → ArePlacedWords runtime program words → IsTextOf words text
    → length text ≤ most_bytes runtime program

-- and of the free cells
abbrev pub PlacedTextTouchesNone : Type 0
PlacedTextTouchesNone =
    (cells depth : ℕ) (runtime program : Placed) (words : Words) (text input : List ℕ) (main : PlacedLines)
    → IsPlacedImage cells depth runtime program words text main → All (λ byte. byte < 256) input
    → NeverStuck (map_of runtime program) (pool_in cells runtime program) (placed_functions program) depth (placed_start main (first_world (pool_in cells runtime program) input))
    → (count : ℕ) → TouchesNoFreeCell text_start runtime_words cells (run count (first_processor text (placed_memory runtime).size input))

-- the machine of a program behind a runtime, and its start on an input
abbrev machine_of : ℕ → ℕ → Placed → Placed → Machine (PlacedTurn World Ending) Event Ending
machine_of cells depth runtime program =
    placed_machine (primitives (constants_of runtime program) (pool_in cells runtime program)) depth (placed_functions program)

abbrev start_of : ℕ → Placed → Placed → PlacedLines → List ℕ → PlacedTurn World Ending
start_of cells runtime program main input = placed_start main (first_world (pool_in cells runtime program) input)

abbrev address_of : Placed → Placed → ℕ → ℕ → ℕ
address_of runtime program f j = line_address (map_of runtime program) (placed_functions program) f j

-- and of the lines of its program
pub record PlacedTextComes : Type 0 where
  pub comes : (cells depth : ℕ) (runtime program : Placed) (words : Words) (text input : List ℕ) (main : PlacedLines)
      → IsPlacedImage cells depth runtime program words text main → All (λ byte. byte < 256) input
      → NeverStuck (map_of runtime program) (pool_in cells runtime program) (placed_functions program) depth
      (start_of cells runtime program main input)
      → (n f j : ℕ) (shared : World) → PlacedHasLine (placed_functions program) f j
      → PlacedIsAt (placed_functions program) f j shared
      (state (machine_of cells depth runtime program) n (start_of cells runtime program main input))
      → (count : ℕ) × ((s : Processor) × ((run count (first_processor text (placed_memory runtime).size input) ≡ goes s)
      × ((s.pc ≡ address_of runtime program f j)
      × ((trace (processor_machine rv32im) count (goes (first_processor text (placed_memory runtime).size input))
      ≡ trace (machine_of cells depth runtime program) n (start_of cells runtime program main input))
      × HasCells (pool_in cells runtime program) shared.cells s))))
  pub follows : (cells depth : ℕ) (runtime program : Placed) (words : Words) (text input : List ℕ) (main : PlacedLines)
      → IsPlacedImage cells depth runtime program words text main → All (λ byte. byte < 256) input
      → NeverStuck (map_of runtime program) (pool_in cells runtime program) (placed_functions program) depth
      (start_of cells runtime program main input)
      → (n : ℕ) (t : PlacedState World)
      → state (machine_of cells depth runtime program) n (start_of cells runtime program main input) ≡ go t
      → (count : ℕ) × ((s : Processor) × ((run count (first_processor text (placed_memory runtime).size input) ≡ goes s)
      × ((trace (processor_machine rv32im) count (goes (first_processor text (placed_memory runtime).size input))
      ≡ trace (machine_of cells depth runtime program) n (start_of cells runtime program main input))
      × HasHeldTokens (map_of runtime program) (pool_in cells runtime program) depth t s)))
  pub apart : (cells depth : ℕ) (runtime program : Placed) (words : Words) (text : List ℕ) (main : PlacedLines)
      → IsPlacedImage cells depth runtime program words text main
      → (f j g i : ℕ) → PlacedHasLine (placed_functions program) f j → PlacedHasLine (placed_functions program) g i
      → address_of runtime program f j ≡ address_of runtime program g i → (f ≡ g) × (j ≡ i)
  pub outside : (cells depth : ℕ) (runtime program : Placed) (words : Words) (text : List ℕ) (main : PlacedLines)
      → IsPlacedImage cells depth runtime program words text main
      → (f j : ℕ) → PlacedHasLine (placed_functions program) f j → text_start + 4 * runtime_words ≤ address_of runtime program f j
  pub inside : (cells depth : ℕ) (runtime program : Placed) (words : Words) (text : List ℕ) (main : PlacedLines)
      → IsPlacedImage cells depth runtime program words text main
      → (f j : ℕ) → PlacedHasLine (placed_functions program) f j
      → (address_of runtime program f j % 4 ≡ 0)
      × (address_of runtime program f j + 4 ≤ text_start + 4 * length words.instructions.items)

-- Assembler code, its runtime and the text that is made of both.
pub record Makes (cells depth : ℕ) (asm : Asm) (placed looped runtime : Placed) (words : Words) (text : List ℕ) : Type 0 where
  pub sizes : AreSizes cells depth
  pub made : IsPlaceable (asm_functions asm) (asm_constants asm)
  pub valid : IsValid asm placed
  pub plain : IsPlainlyPlaced (asm_functions asm) placed
  pub loops : IsLooped placed looped
  pub runtime_is : IsText cells depth (frame_size (placed_functions looped)) runtime
  pub words_are : ArePlacedWords runtime looped words
  pub text_is : IsTextOf words text

pub makes_of : {cells depth frame : ℕ} {asm : Asm} {placed looped runtime : Placed} {words : Words} {text : List ℕ}
    → AreSizes cells depth → IsPlaceable (asm_functions asm) (asm_constants asm) → IsValid asm placed
    → IsPlainlyPlaced (asm_functions asm) placed → IsLooped placed looped
    → frame ≡ frame_size (placed_functions looped) → IsText cells depth frame runtime → ArePlacedWords runtime looped words
    → IsTextOf words text → Makes cells depth asm placed looped runtime words text
makes_of {cells} {depth} {frame} {asm} {placed} {looped} {runtime} {words} {text} sizes made valid plain loops frame_is runtime_is words_are text_is =
    record {
      sizes = sizes;
      made = made;
      valid = valid;
      plain = plain;
      loops = loops;
      runtime_is = subst (λ (frame : ℕ). IsText cells depth frame runtime) frame_is runtime_is;
      words_are = words_are;
      text_is = text_is;
    }

-- a turn that stands for an end is that end
ended_alike : (how : Ending) (world : World) (t : PlacedTurn World Ending) → RegsStandsFor (ended how world) t → t ≡ ended how world
ended_alike how world (go t) stands = absurd stands
ended_alike how world (ended other shared) stands = cc (stands.0, stands.1)
ended_alike how world stuck stands = absurd stands

looped_ended_alike : (q q' : List PlacedLines) (IsAt : Spot) (how : Ending) (world : World) (t : PlacedTurn World Ending)
    → LoopsStandsFor q q' IsAt (ended how world) t → t ≡ ended how world
looped_ended_alike q q' IsAt how world (go t) stands = absurd stands
looped_ended_alike q q' IsAt how world (ended other shared) stands = cc (stands.0, stands.1)
looped_ended_alike q q' IsAt how world stuck stands = absurd stands

-- an own line is a line
own_has_line : (functions : List Lines) (f k : ℕ) → AsmHasOwnLine functions f k → AsmHasLine functions f k
own_has_line functions f k has =
    let line = has.1.1.0 in
    (has.0, (has.1.0, (line, (has.1.1.1.0, own_is_some line.action (length line.args) has.1.1.1.1))))

-- a word of a text can be fetched from the memory of its image
fetched : (text : List ℕ) (size at : ℕ) → text_start ≤ at → at + 4 ≤ text_start + length text
    → can_fetch (memory_of (program_parts text size)) at 4 ≡ true
fetched text size at low high = text-fetched (length text) (memory_start (length text)) size at 4 low high

module _ {cells depth : ℕ} {asm : Asm} {placed looped runtime : Placed} {words : Words} {text : List ℕ} (makes : Makes cells depth asm placed looped runtime words text) where
  pub can_be_placed : ArePlaceable runtime looped
  can_be_placed =
      placeable cells depth asm placed looped runtime makes.made makes.valid makes.plain makes.loops makes.runtime_is makes.sizes

  pub fits : FitsImage runtime text
  fits = fits-image makes.sizes.few_cells makes.sizes.small_depth makes.runtime_is can_be_placed makes.words_are makes.text_is

  -- where the constants begin, and the constants as the assembler code has them
  abbrev first : ℕ
  first = (constants_of runtime looped).first

  -- where the cells stand
  abbrev pool : Pool
  pool = pool_in cells runtime looped

  abbrev constants : Constants
  constants = record { first = first; texts = asm_constants asm }

  abbrev main : Lines
  main = makes.made.main

  texts_kept : placed_constants looped ≡ asm_constants asm
  texts_kept = constants_kept asm placed looped makes.valid makes.loops

  same_constants : constants_of runtime looped ≡ constants
  same_constants = ap (λ (texts : List (List ℕ)). record { first = first; texts = texts }) texts_kept

  constants_fit : first + length (all_bytes (asm_constants asm)) < 2 ^ 32
  constants_fit =
      let most : text_bytes runtime looped ≤ 4 * most_text_words + most_constant_bytes = bytes_most can_be_placed in
      let bytes : length (all_bytes (placed_constants looped)) ≡ length (all_bytes (asm_constants asm))
      = ap (λ (texts : List (List ℕ)). length (all_bytes texts)) texts_kept in
      omega (arith, most, bytes)

  -- the placed image, by its first function
  image_by : (placed_main : PlacedLines) → slice_get (placed_functions looped) 0 ≡ Some placed_main
      → IsPlacedImage cells depth runtime looped words text placed_main
  image_by placed_main first_is = record {
    sizes = makes.sizes;
    runtime_is = makes.runtime_is;
    placeable = can_be_placed;
    plain = all_plain 0 (placed_functions placed) (placed_functions looped) makes.loops.rotated
        (placed_is_plain asm placed makes.valid makes.made.formed);
    words_are = makes.words_are;
    text_is = makes.text_is;
    first = first_is;
  }

  -- ---- the addresses of lines

  -- a line's index in the code with places and in that with its loops rotated, and the address of that
  abbrev placed_line : ℕ → ℕ → ℕ
  placed_line f k = line_of (placed_functions placed) f k

  abbrev line : ℕ → ℕ → ℕ
  line f k = rotated_line_of (placed_functions placed) (placed_functions looped) f (placed_line f k)

  abbrev address : ℕ → ℕ → ℕ
  address f k = address_of runtime looped f (line f k)

  is_placed : (f k : ℕ) → AsmHasOwnLine (asm_functions asm) f k → PlacedHasOwnLine (placed_functions placed) f (placed_line f k)
  is_placed = own_lines_there (asm_functions asm) (placed_functions placed) makes.valid.functions

  is_there : (f k : ℕ) → AsmHasOwnLine (asm_functions asm) f k → PlacedHasLine (placed_functions looped) f (line f k)
  is_there f k has =
      has_there (placed_functions placed) (placed_functions looped) makes.loops.rotated f (placed_line f k) (is_placed f k has)

  some_image : (placed_main : PlacedLines) × IsPlacedImage cells depth runtime looped words text placed_main
  some_image =
      let there = callee_both (asm_functions asm) (placed_functions placed) makes.valid.functions 0 main makes.made.main_is in
      let rotated = rotated_callee (placed_functions placed) (placed_functions looped) 0 there.0 makes.loops.rotated there.1 in
      (rotated.0, image_by rotated.0 rotated.1)

  -- ---- the memory

  -- the bytes of a frame
  abbrev frame : ℕ
  frame = frame_size (placed_functions looped)

  -- the frames end where those end that begin behind the cells
  stack_is : stack_end (map_of runtime looped) depth ≡ frames_end pool depth frame
  stack_is = ap (λ bottom. bottom + depth * frame) (sym (image-ground some_image.1).cells_below)

  -- the cells and the frames fill the memory behind the text
  pub fills : (parts : List Part) → parts ≡ program_parts text (placed_memory runtime).size → FillMemory pool depth frame parts
  fills parts parts_are =
      let size : length text ≡ text_bytes runtime looped = text_size makes.words_are makes.text_is in
      record {
        first = ap (λ n. memory_start n + bytes_before_cells)
            (sym size ∙ ap (λ (p : List Part). length (text_of p)) (sym parts_are));
        size = ap memory_size_of parts_are ∙ ap (λ (memory : DataSection). memory.size) makes.runtime_is.memory;
      }

  -- ---- lines

  pub lines_are_apart : PlacedTextComes → (f k g j : ℕ) → AsmHasOwnLine (asm_functions asm) f k
      → AsmHasOwnLine (asm_functions asm) g j → address f k ≡ address g j → (f ≡ g) × (k ≡ j)
  lines_are_apart text_comes f k g j has other same =
      let both : (f ≡ g) × (line f k ≡ line g j)
      = text_comes.apart cells depth runtime looped words text some_image.0 some_image.1 f (line f k) g (line g j)
      (is_there f k has) (is_there g j other) same in
      let in_one : AsmHasOwnLine (asm_functions asm) f j = subst (λ (h : ℕ). AsmHasOwnLine (asm_functions asm) h j) (sym both.0) other in
      let one_line : line f k ≡ line f j = both.1 ∙ ap (λ (h : ℕ). line h j) (sym both.0) in
      let one_place : placed_line f k ≡ placed_line f j
      = rotated_apart (placed_functions placed) (placed_functions looped) makes.loops.rotated f (placed_line f k) (placed_line f j)
      (is_placed f k has) (is_placed f j in_one) one_line in (
        both.0,
        lines_apart (asm_functions asm) (placed_functions placed) makes.valid.functions f k j
            (own_has_line (asm_functions asm) f k has) (own_has_line (asm_functions asm) f j in_one) one_place,
      )

  pub lines_are_outside : PlacedTextComes → (f k : ℕ) → AsmHasOwnLine (asm_functions asm) f k
      → text_start + 4 * runtime_words ≤ address f k
  lines_are_outside text_comes f k has =
      text_comes.outside cells depth runtime looped words text some_image.0 some_image.1 f (line f k) (is_there f k has)

  -- a word can be fetched at each, of memory that begins with the text
  pub lines_are_inside : PlacedTextComes → (f k : ℕ) → AsmHasOwnLine (asm_functions asm) f k
      → (address f k % 4 ≡ 0) × (can_fetch (memory_of (program_parts text (placed_memory runtime).size)) (address f k) 4 ≡ true)
  lines_are_inside text_comes f k has =
      let within = text_comes.inside cells depth runtime looped words text some_image.0 some_image.1 f (line f k) (is_there f k has) in
      let low : text_start + 4 * runtime_words ≤ address f k = lines_are_outside text_comes f k has in
      let high : address f k + 4 ≤ text_start + 4 * length words.instructions.items = within.1 in
      let size : length text ≡ 4 * length words.instructions.items + length words.constants.items = makes.text_is.size in
      (within.0, fetched text (placed_memory runtime).size (address f k) (omega (arith, low)) (omega (arith, high, size)))

  -- ---- runs

  module _ (input : List ℕ) (bytes : All (λ byte. byte < 256) input)
      (never : RegsNeverStuck (primitives constants pool) depth (asm_functions asm) (asm_start main (first_world pool input))) where
    -- the machine of the assembler code
    abbrev asm_runs : Machine (AsmTurn World Ending) Event Ending
    asm_runs = asm_machine (primitives constants pool) depth (asm_functions asm)

    abbrev asm_begins : AsmTurn World Ending
    asm_begins = asm_start main (first_world pool input)

    -- that of the code with places, and that of the code with its loops rotated
    abbrev placed_runs : Machine (PlacedTurn World Ending) Event Ending
    placed_runs = placed_machine (primitives constants pool) depth (placed_functions placed)

    abbrev looped_runs : Machine (PlacedTurn World Ending) Event Ending
    looped_runs = placed_machine (primitives constants pool) depth (placed_functions looped)

    abbrev begins : PlacedLines → PlacedTurn World Ending
    begins placed_main = placed_start placed_main (first_world pool input)

    -- the assembler code agrees with the placed code from its first function on, which never is at a loss
    placed_agrees : (placed_main : PlacedLines) × (slice_get (placed_functions placed) 0 ≡ Some placed_main)
        × Agree asm_runs placed_runs 0 (λ steps. steps * 1 + 0 + 1) asm_begins (begins placed_main)
    placed_agrees =
        agrees_exactly (primitives constants pool) depth (asm_functions asm) (placed_functions placed) makes.valid.functions 0 main
        (first_world pool input) makes.plain.few_moves makes.made.main_is makes.made.main_params never

    goes_on : (placed_main : PlacedLines) × (slice_get (placed_functions placed) 0 ≡ Some placed_main)
        × ((steps : ℕ) → state placed_runs steps (begins placed_main) ≢ stuck)
    goes_on =
        never_stuck (primitives constants pool) depth (asm_functions asm) (placed_functions placed) makes.valid.functions 0 main
        (first_world pool input) makes.made.main_is makes.made.main_params never

    -- from any first function of the placed code, which is that one
    placed_goes_on : (placed_main : PlacedLines) → slice_get (placed_functions placed) 0 ≡ Some placed_main
        → (steps : ℕ) → state placed_runs steps (begins placed_main) ≢ stuck
    placed_goes_on placed_main first_is =
        let same : goes_on.0 ≡ placed_main = same_some goes_on.0 placed_main (sym goes_on.1 ∙ first_is) in
        subst (λ (p : PlacedLines). (steps : ℕ) → state placed_runs steps (begins p) ≢ stuck) same goes_on.2

    -- and so does the rotated code
    looped_agrees : (placed_main : PlacedLines) → slice_get (placed_functions placed) 0 ≡ Some placed_main
        → (looped_main : PlacedLines) × (slice_get (placed_functions looped) 0 ≡ Some looped_main)
        × Agree placed_runs looped_runs 0 (λ steps. steps * 2 + 1 + 1) (begins placed_main) (begins looped_main)
    looped_agrees placed_main first_is =
        rotated_agrees (primitives constants pool) (opposes constants pool) depth (placed_functions placed) (placed_functions looped)
        makes.loops.rotated placed_main (first_world pool input) first_is (placed_goes_on placed_main first_is)

    looped_goes_on : (placed_main : PlacedLines) → slice_get (placed_functions placed) 0 ≡ Some placed_main
        → (looped_main : PlacedLines) × (slice_get (placed_functions looped) 0 ≡ Some looped_main)
        × ((steps : ℕ) → state looped_runs steps (begins looped_main) ≢ stuck)
    looped_goes_on placed_main first_is =
        rotated_never (primitives constants pool) (opposes constants pool) depth (placed_functions placed) (placed_functions looped)
        makes.loops.rotated placed_main (first_world pool input) first_is (placed_goes_on placed_main first_is)

    looped_never : (looped_main : PlacedLines) → slice_get (placed_functions looped) 0 ≡ Some looped_main
        → NeverStuck (map_of runtime looped) pool (placed_functions looped) depth (start_of cells runtime looped looped_main input)
    looped_never looped_main first_is =
        let there = looped_goes_on goes_on.0 goes_on.1 in
        let same : there.0 ≡ looped_main = same_some there.0 looped_main (sym there.1 ∙ first_is) in
        subst (λ (c : Constants). (steps : ℕ) → state (placed_machine (primitives c pool) depth (placed_functions looped)) steps
        (start_of cells runtime looped looped_main input) ≢ stuck) (sym same_constants)
        (subst (λ (p : PlacedLines). (steps : ℕ) → state looped_runs steps (begins p) ≢ stuck) same there.2)

    -- where it is at a line, there is a number of instructions behind which the run goes on at the line's address, and memory has
    -- the cells of the world
    pub comes : PlacedTextComes → (n f k : ℕ) (world : World) → AsmHasOwnLine (asm_functions asm) f k
        → AsmIsAt (asm_functions asm) f k world (state asm_runs n asm_begins)
        → (count : ℕ) × ((s : Processor) × ((run count (first_processor text (placed_memory runtime).size input) ≡ goes s)
        × ((s.pc ≡ address f k)
        × ((trace (processor_machine rv32im) count (goes (first_processor text (placed_memory runtime).size input)) ≡ trace asm_runs n asm_begins)
        × HasCells pool world.cells s))))
    comes text_comes n f k world has is =
        let high = comes_to_lines (primitives constants pool) depth (asm_functions asm) (placed_functions placed) main
        (first_world pool input) makes.valid.functions makes.made.main_is makes.made.main_params never in
        let there = high.1.1 n f k world (own_has_line (asm_functions asm) f k has) is in
        let middle = rotated_comes (primitives constants pool) (opposes constants pool) (computes_alone constants pool) depth
        (placed_functions placed) (placed_functions looped) makes.loops.rotated high.0 (first_world pool input) high.1.0
        (placed_goes_on high.0 high.1.0) in
        let further = middle.1.1 there.0 f (placed_line f k) world (is_placed f k has) there.1.1 in
        let loops_from : PlacedTurn World Ending = start_of cells runtime looped middle.0 input in
        let on_constants = subst (λ (c : Constants).
        (trace (placed_machine (primitives c pool) depth (placed_functions looped)) further.0 loops_from ≡ trace placed_runs there.0 (begins high.0))
        × PlacedIsAt (placed_functions looped) f (line f k) world
        (state (placed_machine (primitives c pool) depth (placed_functions looped)) further.0 loops_from)) (sym same_constants) further.1 in
        let low = text_comes.comes cells depth runtime looped words text input middle.0 (image_by middle.0 middle.1.0) bytes
        (looped_never middle.0 middle.1.0) further.0 f (line f k) world (is_there f k has) on_constants.1 in
        let last = low.1.1 in
        (low.0, (low.1.0, (last.0, (last.1.0, (last.1.1.0 ∙ on_constants.0 ∙ there.1.0, last.1.1.1)))))

    -- and for each state in which it goes on there is a number behind which the run goes on, and memory has the cells and the held
    -- tokens
    pub follows : PlacedTextComes → (n : ℕ) (high : AsmState World) → state asm_runs n asm_begins ≡ go high
        → (count : ℕ) × ((s : Processor) × ((run count (first_processor text (placed_memory runtime).size input) ≡ goes s)
        × ((trace (processor_machine rv32im) count (goes (first_processor text (placed_memory runtime).size input)) ≡ trace asm_runs n asm_begins)
        × HasHeldFrames pool frame (frames_end pool depth frame) high s)))
    follows text_comes n high is =
        let each = follows_each_state (primitives constants pool) depth (asm_functions asm) (placed_functions placed) main
        (first_world pool input) makes.valid.functions makes.made.main_is makes.made.main_params never in
        let there = each.1.1 n high is in
        let state_is = there.1.1.0 in
        let again = rotated_follows (primitives constants pool) (opposes constants pool) depth (placed_functions placed)
        (placed_functions looped) makes.loops.rotated each.0 (first_world pool input) each.1.0 (placed_goes_on each.0 each.1.0) in
        let further = again.1.1 there.0 there.1.0 state_is in
        let middle : PlacedState World = further.1.0 in
        let loops_from : PlacedTurn World Ending = start_of cells runtime looped again.0 input in
        let on_constants = subst (λ (c : Constants).
        (state (placed_machine (primitives c pool) depth (placed_functions looped)) further.0 loops_from ≡ go middle)
        × ((trace (placed_machine (primitives c pool) depth (placed_functions looped)) further.0 loops_from
        ≡ trace placed_runs there.0 (begins each.0))
        × (middle.shared ≡ there.1.0.shared))) (sym same_constants)
        (further.1.1.0, (further.1.1.1.0, further.1.1.1.1.0)) in
        let low = text_comes.follows cells depth runtime looped words text input again.0 (image_by again.0 again.1.0) bytes
        (looped_never again.0 again.1.0) further.0 middle on_constants.0 in
        let last = low.1.1 in
        let links = last.1.1.0 in
        let cells_held : HoldsCells pool high.shared.cells links low.1.0
        = subst (λ (w : World). HoldsCells pool w.cells links low.1.0) (on_constants.1.1 ∙ there.1.1.1.1.0) last.1.1.1.0 in
        let end = frames_end pool depth frame in
        let looped_held : AreHeld frame end middle.frames links
        = subst (λ (e : ℕ). AreHeld frame e middle.frames links) stack_is last.1.1.1.1 in
        let placed_held : AreHeld frame end there.1.0.frames links
        = held_before_rotation frame end (placed_functions placed) (placed_functions looped) there.1.0.frames middle.frames
        further.1.1.1.1.1 links looped_held in
        let held : AreHeld frame end high.frames links
        = held_before_places frame end there.1.0.registers high.frames there.1.0.frames there.1.1.1.1.1 links placed_held in
        (low.0, (low.1.0, (last.0, (last.1.0 ∙ on_constants.1.0 ∙ there.1.1.1.0, (links, (cells_held, held))))))

    -- the rotated code of the first function
    looped_first : (looped_main : PlacedLines) × (slice_get (placed_functions looped) 0 ≡ Some looped_main)
        × Agree placed_runs looped_runs 0 (λ steps. steps * 2 + 1 + 1) (begins placed_agrees.0) (begins looped_main)
    looped_first = looped_agrees placed_agrees.0 placed_agrees.1

    looped_image : IsPlacedImage cells depth runtime looped words text looped_first.0
    looped_image = image_by looped_first.0 looped_first.1

    pub does : PlacedTextAgrees
        → (up : ℕ → ℕ) × Agree asm_runs (processor_machine rv32im) outside_lines up asm_begins
        (goes (first_processor text (placed_memory runtime).size input))
    does text_agrees =
        let image = text_agrees cells depth runtime looped words text input looped_first.0 looped_image bytes
        (looped_never looped_first.0 looped_first.1) in
        let whole : PlacedTurn World Ending = begins looped_first.0 in
        let low = subst (λ (c : Constants). Agree (placed_machine (primitives c pool) depth (placed_functions looped)) (processor_machine rv32im) outside_lines image.0 whole (goes (first_processor text (placed_memory runtime).size input))) same_constants image.1 in
        let middle = agree_through placed_runs looped_runs (processor_machine rv32im) 0 outside_lines (λ steps. steps * 2 + 1 + 1)
        image.0 (begins placed_agrees.0) whole (goes (first_processor text (placed_memory runtime).size input)) looped_first.2 low in (
          (λ m. (image.0 m * 2 + 1 + 1) * 1 + 0 + 1),
          agree_through asm_runs placed_runs (processor_machine rv32im) 0 outside_lines (λ steps. steps * 1 + 0 + 1)
              (λ m. image.0 m * 2 + 1 + 1) asm_begins (begins placed_agrees.0)
              (goes (first_processor text (placed_memory runtime).size input)) placed_agrees.2 middle,
        )

    -- where the assembler code has ended, so has the placed code
    placed_ends : (n : ℕ) (how : Ending) (world : World) → state asm_runs n asm_begins ≡ ended how world
        → (steps : ℕ) × (state placed_runs steps (begins placed_agrees.0) ≡ ended how world)
    placed_ends n how world is =
        let reached = reaches_each (primitives constants pool) depth (asm_functions asm) (placed_functions placed) makes.valid.functions 0
        main (first_world pool input) makes.made.main_is makes.made.main_params never in
        let same : reached.0 ≡ placed_agrees.0 = same_some reached.0 placed_agrees.0 (sym reached.1 ∙ placed_agrees.1) in
        let there = reached.2 n in
        let last : PlacedLines → PlacedTurn World Ending = λ first. state placed_runs there.0 (begins first) in
        let stands = subst (λ (t : AsmTurn World Ending). RegsStandsFor t (last reached.0)) is there.1.1 in
        (there.0, subst (λ (first : PlacedLines). last first ≡ ended how world) same (ended_alike how world (last reached.0) stands))

    -- and the rotated code
    looped_ends : (n : ℕ) (how : Ending) (world : World) → state placed_runs n (begins placed_agrees.0) ≡ ended how world
        → (steps : ℕ) × (state looped_runs steps (begins looped_first.0) ≡ ended how world)
    looped_ends n how world is =
        let begun = rotated_starts (primitives constants pool) (opposes constants pool) depth (placed_functions placed)
        (placed_functions looped) makes.loops.rotated placed_agrees.0 (first_world pool input) placed_agrees.1
        (placed_goes_on placed_agrees.0 placed_agrees.1) in
        let same : begun.0 ≡ looped_first.0 = same_some begun.0 looped_first.0 (sym begun.1 ∙ looped_first.1) in
        let related_by : ℕ → ℕ → PlacedTurn World Ending → PlacedTurn World Ending → Type 0
        = LoopsRelated (primitives constants pool) depth (placed_functions placed) (placed_functions looped) in
        let reaches = simulates_many placed_runs looped_runs related_by RotatedNotStuck 2
        (rotated_simulates (primitives constants pool) (opposes constants pool) depth (placed_functions placed)
        (placed_functions looped) makes.loops.rotated) n 0 1 (begins placed_agrees.0) (begins begun.0) begun.2 in
        let last = state looped_runs reaches.steps (begins begun.0) in
        let related = subst (λ (t : PlacedTurn World Ending). related_by reaches.credit_after reaches.idle_after t last) is
        reaches.related in (
          reaches.steps,
          subst (λ (m : PlacedLines). state looped_runs reaches.steps (begins m) ≡ ended how world) same (by last related.1),
        )
      where
        by : {credit idle : ℕ} (t : PlacedTurn World Ending)
            → (((1 ≤ idle) × LoopsStandsFor (placed_functions placed) (placed_functions looped) IsAtSame (ended how world) t)
            ⊎ ((2 ≤ credit) × LoopsStandsFor (placed_functions placed) (placed_functions looped) IsInTurn (ended how world) t))
            → t ≡ ended how world
        by t (inl kept) = looped_ended_alike (placed_functions placed) (placed_functions looped) IsAtSame how world t kept.1
        by t (inr kept) = looped_ended_alike (placed_functions placed) (placed_functions looped) IsInTurn how world t kept.1

    pub ends : PlacedTextEnds → (n : ℕ) (how : Ending) (world : World) → state asm_runs n asm_begins ≡ ended how world
        → (count : ℕ) × EndsWithCells pool how world (run count (first_processor text (placed_memory runtime).size input))
    ends text_ends n how world is =
        let first = placed_ends n how world is in
        let there = looped_ends first.0 how world first.1 in
        let on_constants = subst (λ (c : Constants). state (placed_machine (primitives c pool) depth (placed_functions looped)) there.0 (begins looped_first.0) ≡ ended how world) (sym same_constants) there.1 in
        text_ends cells depth runtime looped words text input looped_first.0 looped_image bytes
        (looped_never looped_first.0 looped_first.1) there.0 how world on_constants

    pub touches : PlacedTextTouchesNone → (count : ℕ) → TouchesNoFreeCell text_start runtime_words cells (run count (first_processor text (placed_memory runtime).size input))
    touches text_touches =
        text_touches cells depth runtime looped words text input looped_first.0 looped_image bytes
        (looped_never looped_first.0 looped_first.1)

  -- the text is small: it has a function for each of the assembler code, whose lines are no more, and the same constants
  pub text_small : PlacedTextIsSmall → length text ≤ most_asm_bytes (asm_functions asm) (asm_constants asm)
  text_small is_small =
      let small : length text ≤ most_bytes runtime looped = is_small runtime looped words text makes.words_are makes.text_is in
      let own = makes.runtime_is.words in
      let same = as_many (asm_functions asm) (placed_functions placed) makes.valid.functions in
      let rotated = as_many_rotated 0 (placed_functions placed) (placed_functions looped) makes.loops.rotated in
      let shorter = makes.plain.short in
      let no_longer = makes.loops.short in
      let bytes : length (all_bytes (placed_constants looped)) ≡ length (all_bytes (asm_constants asm))
      = ap (λ (texts : List (List ℕ)). length (all_bytes texts)) texts_kept in
      omega (arith, small, own, same, rotated, shorter, no_longer, bytes)

-- the memory of an image of the text has this room
pub memory_of_image : {cells depth : ℕ} {asm : Asm} {placed looped runtime : Placed} {words : Words} {text : List ℕ}
    → Makes cells depth asm placed looped runtime words text → (parts : List Part)
    → parts ≡ program_parts text (placed_memory runtime).size → HasAsmMemory (asm_functions asm) 0 cells depth parts
memory_of_image {cells} {depth} {asm} {placed} {looped} {runtime} {words} {text} makes parts parts_are = record {
  placed = looped;
  is = record {
    runtime = runtime;
    runtime_is = makes.runtime_is;
    words = words;
    words_are = makes.words_are;
    text = text;
    text_is = makes.text_is;
    parts_are = parts_are;
    small = frames_small asm placed looped makes.made.formed makes.plain makes.loops;
    size = ap memory_size_of parts_are ∙ ap (λ (memory : DataSection). memory.size) makes.runtime_is.memory;
  };
  few = λ most below.
      let small = frame_most most (placed_functions looped) (few_slots asm placed looped makes.plain makes.loops most below) in
      omega (arith, small);
}

-- and its text is small
pub text_of_image : {cells depth : ℕ} {asm : Asm} {placed looped runtime : Placed} {words : Words} {text : List ℕ}
    → Makes cells depth asm placed looped runtime words text → PlacedTextIsSmall → (parts : List Part)
    → parts ≡ program_parts text (placed_memory runtime).size
    → length (text_of parts) ≤ most_asm_bytes (asm_functions asm) (asm_constants asm)
text_of_image {asm = asm} makes is_small parts parts_are =
    subst (λ (p : List Part). length (text_of p) ≤ most_asm_bytes (asm_functions asm) (asm_constants asm)) (sym parts_are)
    (text_small makes is_small)

memory_aligned : (text : ℕ) → (memory_start text + bytes_before_cells) % cell_size ≡ 0
memory_aligned text = omega arith

-- The image of the text, with the memory that the runtime asks for, is an image of the assembler code.
pub image_of : {cells depth : ℕ} {asm : Asm} {placed looped runtime : Placed} {words : Words} {text : List ℕ}
    (makes : Makes cells depth asm placed looped runtime words text) → PlacedTextAgrees → PlacedTextEnds → PlacedTextTouchesNone
    → PlacedTextComes → (entry : ℕ) (parts : List Part) → IsProgramImage entry parts → entry ≡ text_start
    → parts ≡ program_parts text (placed_memory runtime).size
    → IsAsmImage (asm_functions asm) (asm_constants asm) makes.made.main cells depth entry parts
image_of {cells} {depth} {asm} {placed} {looped} {runtime} {words} {text} makes text_agrees text_ends text_touches text_comes
    entry parts program entry_is parts_are =
    let there : start (memory_of parts) entry ≡ start (memory_of (program_parts text (placed_memory runtime).size)) text_start
    = ap (λ (p : List Part). start (memory_of p) entry) parts_are ∙ ap (λ e. start (memory_of (program_parts text (placed_memory runtime).size)) e) entry_is in
    record {
      program = program;
      pool = pool makes;
      cells_are = refl;
      aligned = memory_aligned (text_bytes runtime looped);
      behind = omega arith;
      first = first makes;
      constants_fit = constants_fit makes;
      does = λ input bytes never.
          let whole = does makes input bytes never text_agrees in (
            whole.0,
            subst (λ (s : _). Agree (asm_machine (primitives (constants makes) (pool makes)) depth (asm_functions asm)) (processor_machine rv32im) outside_lines whole.0 (asm_start makes.made.main (first_world (pool makes) input)) (goes (s input))) (sym there)
                whole.1,
          );
      ends = λ input bytes never steps how world is.
          let whole = ends makes input bytes never text_ends steps how world is in (
            whole.0,
            subst (λ (s : _). EndsWithCells (pool makes) how world (run whole.0 (s input))) (sym there) whole.1,
          );
      touches_no_free = λ input bytes never count.
          let on_text = subst (λ (s : _). TouchesNoFreeCell text_start runtime_words cells (run count (s input))) (sym there)
          (touches makes input bytes never text_touches count) in
          subst (λ (e : ℕ). TouchesNoFreeCell e runtime_words cells (run count (start (memory_of parts) entry input))) (sym entry_is) on_text;
      lines = record {
        address = address makes;
        frame = frame makes;
        fill = fills makes parts parts_are;
        apart = lines_are_apart makes text_comes;
        outside = λ f k has.
            subst (λ (e : ℕ). e + 4 * runtime_words ≤ address makes f k) (sym entry_is) (lines_are_outside makes text_comes f k has);
        inside = λ f k has.
            subst (λ (p : List Part). (address makes f k % 4 ≡ 0) × (can_fetch (memory_of p) (address makes f k) 4 ≡ true))
            (sym parts_are) (lines_are_inside makes text_comes f k has);
        comes = λ input bytes never n f k world has is.
            let whole = comes makes input bytes never text_comes n f k world has is in (
              whole.0,
              subst (λ (begun : _). (s : Processor) × ((run whole.0 (begun input) ≡ goes s) × ((s.pc ≡ address makes f k)
                  × ((trace (processor_machine rv32im) whole.0 (goes (begun input))
                  ≡ trace (asm_runs makes input bytes never) n (asm_begins makes input bytes never))
                  × HasCells (pool makes) world.cells s)))) (sym there) whole.1,
            );
        follows = λ input bytes never n high is.
            let whole = follows makes input bytes never text_comes n high is in (
              whole.0,
              subst (λ (begun : _). (s : Processor) × ((run whole.0 (begun input) ≡ goes s)
                  × ((trace (processor_machine rv32im) whole.0 (goes (begun input))
                  ≡ trace (asm_runs makes input bytes never) n (asm_begins makes input bytes never))
                  × HasHeldFrames (pool makes) (frame makes) (frames_end (pool makes) depth (frame makes)) high s)))
                  (sym there) whole.1,
            );
      };
    }

pub image_made : {cells depth frame : ℕ} {asm : Asm} {placed looped runtime : Placed} {words : Words} {text : List ℕ}
    → AreSizes cells depth
    → (made : IsPlaceable (asm_functions asm) (asm_constants asm)) → IsValid asm placed → IsPlainlyPlaced (asm_functions asm) placed
    → IsLooped placed looped
    → frame ≡ frame_size (placed_functions looped) → IsText cells depth frame runtime → ArePlacedWords runtime looped words
    → IsTextOf words text → PlacedTextAgrees → PlacedTextEnds → PlacedTextTouchesNone → PlacedTextComes
    → (entry : ℕ) (parts : List Part) → IsProgramImage entry parts → entry ≡ text_start
    → parts ≡ program_parts text (placed_memory runtime).size
    → IsAsmImage (asm_functions asm) (asm_constants asm) made.main cells depth entry parts
unfolding makes_of
image_made {asm = asm} sizes made valid plain loops frame_is runtime_is words_are text_is text_agrees text_ends text_touches
    text_comes entry parts program entry_is parts_are =
    image_of (makes_of {asm = asm} sizes made valid plain loops frame_is runtime_is words_are text_is) text_agrees text_ends
    text_touches text_comes entry parts program entry_is parts_are
