-- The image comes to each line of the program that the machine of the placed form comes to.
use Rattle.std.proofs.Common.{◌≡◌, ◌≤◌, ◌<◌, ℕ, ◌+◌, ◌*◌, ◌%◌, List, [], ◌++◌, length, All, Some, take, drop, slice_get}
use Rattle.std.proofs.Common.{refl, sym, ap, ◌∙◌, subst, arith}
use Rattle.kk_base.specs.Memory.{Part}
use Rattle.kk_base.specs.Trace.{Event}
use Rattle.kk_base.specs.Simulations.{Simulates}
use Rattle.kk_base.specs.Machines.{Machine, trace, state}
use Rattle.kk_base.proofs.Machines.{trace-add}
use Rattle.kk_base.proofs.Simulations.{simulates_many}
use Rattle.elf_image.specs.Program.{text_start}
use Rattle.rv_isa.specs.declared.placed.Placed.{Placed}
use Rattle.rv_isa.specs.PlacedCode.{PlacedLine, PlacedLines, placed_functions, placed_natives, placed_memory}
use Rattle.rv_isa.specs.Frames.{Frame}
use Rattle.rv_isa.specs.LinePlaces.{PlacedIsAt, PlacedHasLine}
use Rattle.rv_isa.specs.PlacedMachine.{PlacedState, PlacedTurn, placed_machine, placed_start}
use Rattle.rv_isa.specs.Primitives.{go, ended, stuck}
use Rattle.rv_isa.specs.Processor.{Processor, Ending, Progress, goes}
use Rattle.rv_isa.specs.Execution.{rv32im, run}
use Rattle.rv_isa.specs.ProcessorMachine.{processor_machine}
use Rattle.rv_isa.specs.Standing.{Code}
use Rattle.rv_isa.proofs.ProcessorMachines.{state-run}
use Rattle.rv_isa.proofs.Runs.{Leads-run}
use Rattle.cell_heap.specs.Pool.{Pool}
use Rattle.cell_runtime.specs.Lines.{words_of}
use Rattle.cell_runtime.specs.Sizes.{runtime_words}
use Rattle.cell_runtime.specs.World.{World, first_world, primitives}
use Rattle.rv_place.specs.declared.words.Words.{Words}
use Rattle.rv_place.specs.Addresses.{words_of_lines, forms_of, entry_words}
use Rattle.rv_place.specs.HeldSlots.{HasHeldTokens}
use Rattle.rv_place.specs.LineAddresses.{line_address}
use Rattle.rv_place.specs.Lines.{Map}
use Rattle.rv_place.specs.Texts.{pool_in, constants_of, map_of}
use Rattle.rv_place.specs.Images.{first_processor, parts_of, code_in, IsPlacedImage}
use Rattle.rv_place.specs.ProcessorStates.{most_lines, IsIn, StackAt, links_of, Running, HasCells, StandsFor, NeverStuck, Related}
use Rattle.rv_place.specs.ProcessorStates.{Passing}
use Rattle.rv_place.proofs.HeldSlots.{running_tokens}
use Rattle.rv_place.proofs.LineRanges.{words_split, address_of, line_alone, line_behind, line_within}
use Rattle.rv_place.proofs.BootAgreements.{silent_instructions}
use Rattle.rv_place.proofs.BootGround.{stop_address}
use Rattle.rv_place.proofs.BootRuns.{first_steps, image-begins}

-- ---- where the processor is in the code

-- a frame that is behind so many lines of a function goes on at the address of the next one
frame_address : {map : Map} {code : Code} {most at : ℕ} {frame : Frame PlacedLine} (functions : List PlacedLines) (f j : ℕ)
    (function : PlacedLines) → IsIn map code most at frame → slice_get functions f ≡ Some function → frame.function ≡ f
    → frame.whole ≡ function.code → frame.code ≡ drop j function.code → at ≡ line_address map functions f j
frame_address {map} {at = at} {frame = frame} functions f j function is_in function_is number_is whole_is code_is =
    let forms = forms_of map.jumps function.code in
    let entry_is : slice_get map.entries f ≡ Some is_in.entry
    = subst (λ n. slice_get map.entries n ≡ Some is_in.entry) number_is is_in.entry_is in
    let forms_are : is_in.forms ≡ forms = is_in.forms_are ∙ ap (forms_of map.jumps) whole_is in
    let left : words_of_lines is_in.forms frame.code ≡ words_of_lines forms (drop j function.code)
    = ap (λ g. words_of_lines g frame.code) forms_are ∙ ap (words_of_lines forms) code_is in
    let all : words_of_lines is_in.forms frame.whole ≡ words_of_lines forms function.code
    = ap (λ g. words_of_lines g frame.whole) forms_are ∙ ap (words_of_lines forms) whole_is in
    let split = words_split forms j function.code in
    let start = is_in.start_is in
    let place = is_in.place in
    let here : at ≡ is_in.entry + 4 * entry_words map.jumps + 4 * words_of_lines forms (take j function.code) = omega arith in
    here ∙ sym (address_of map functions f j is_in.entry function entry_is function_is)

module _ (map : Map) (pool : Pool) (functions : List PlacedLines) (depth stop : ℕ) (code : Code) (parts : List Part) where
  -- the memory of a processor that stands for a state has the cells of the world
  running_cells : (t : PlacedState World) (s : Processor) → Running map pool functions depth stop code parts t s
      → HasCells pool t.shared.cells s
  running_cells t s running = (links_of map running.base t.frames, running.cells)

  -- where the machine goes on, so does what stands for it, and memory has the cells and the held tokens
  turn_cells : (credit idle : ℕ) (t : PlacedState World) (progress : Progress)
      → StandsFor map pool functions depth stop code parts credit idle (go t) progress
      → (s : Processor) × ((progress ≡ goes s) × HasHeldTokens map pool depth t s)
  turn_cells credit idle t progress (s, progress_is, saved, left, running) =
      (s, (progress_is, running_tokens map pool functions depth stop code parts t s running))

  module _ (f j : ℕ) (shared : World) where
    -- the program counter of a processor that stands for a state at a line
    running_address : (t : PlacedState World) (s : Processor) → Running map pool functions depth stop code parts t s
        → PlacedIsAt {H = World} {W = Ending} functions f j shared (go t) → s.pc ≡ line_address map functions f j
    running_address t s running (function, (function_is, ((frame, (older, (frames_are, behind))), shared_is))) =
        let frames = subst (StackAt map code (most_lines functions) stop _ s.registers s.memory s.pc running.base) frames_are running.frames in
        frame_address functions f j function frames.0 function_is behind.function behind.whole behind.left

    -- where the machine is at a line, what stands for it goes on at the address of the line, and memory has the cells
    turn_address : (credit idle : ℕ) (turn : PlacedTurn World Ending) (progress : Progress)
        → StandsFor map pool functions depth stop code parts credit idle turn progress → PlacedIsAt functions f j shared turn
        → (s : Processor) × ((progress ≡ goes s) × ((s.pc ≡ line_address map functions f j) × HasCells pool shared.cells s))
    turn_address credit idle (go t) progress (s, progress_is, saved, left, running) at_line =
        let cells : HasCells pool shared.cells s
        = subst (λ (w : World). HasCells pool w.cells s) at_line.1.1.1 (running_cells t s running) in
        (s, (progress_is, (running_address t s running at_line, cells)))
    turn_address credit idle (ended how world) progress stands at_line = absurd at_line
    turn_address credit idle stuck progress stands at_line = absurd at_line

-- ---- the image

module _ {cells depth : ℕ} {runtime program : Placed} {words : Words} {text : List ℕ} {main : PlacedLines}
    (image : IsPlacedImage cells depth runtime program words text main) where
  abbrev map : Map
  map = map_of runtime program

  abbrev pool : Pool
  pool = pool_in cells runtime program

  abbrev functions : List PlacedLines
  functions = placed_functions program

  abbrev behind_runtime : ℕ
  behind_runtime = text_start + 4 * words_of (placed_natives runtime)

  pub image-apart : (f j g i : ℕ) → PlacedHasLine functions f j → PlacedHasLine functions g i
      → line_address map functions f j ≡ line_address map functions g i → (f ≡ g) × (j ≡ i)
  image-apart = line_alone map (code_in words) functions image.words_are.functions behind_runtime refl

  pub image-outside : (f j : ℕ) → PlacedHasLine functions f j → text_start + 4 * runtime_words ≤ line_address map functions f j
  image-outside f j has =
      subst (λ n. text_start + 4 * n ≤ line_address map functions f j) image.runtime_is.words
      (line_behind map (code_in words) functions image.words_are.functions behind_runtime refl f j has)

  pub image-inside : (f j : ℕ) → PlacedHasLine functions f j
      → (line_address map functions f j % 4 ≡ 0)
      × (line_address map functions f j + 4 ≤ text_start + 4 * length words.instructions.items)
  image-inside f j has =
      let within = line_within map (code_in words) functions image.words_are.functions behind_runtime refl f j has (omega arith) in
      let size = image.words_are.size in
      (within.0, omega (arith, within.1, size))

  abbrev machine : Machine (PlacedTurn World Ending) Event Ending
  machine = placed_machine (primitives (constants_of runtime program) pool) depth functions

  module _ (input : List ℕ) (input_bytes : All (λ byte. byte < 256) input) (pace : ℕ)
      (simulates : Simulates machine (processor_machine rv32im)
      (Related map pool functions depth stop_address (code_in words) (parts_of text runtime)) (Passing map pool) pace)
      (never : NeverStuck map pool functions depth (placed_start main (first_world pool input))) where
    abbrev start : PlacedTurn World Ending
    start = placed_start main (first_world pool input)

    abbrev first : Processor
    first = first_processor text (placed_memory runtime).size input

    -- what the image has come to stands for a state of the machine, and has told the same events
    record Meets (n : ℕ) : Type 0 where
      count : ℕ
      credit : ℕ
      idle : ℕ
      events : trace (processor_machine rv32im) count (goes first) ≡ trace machine n start
      stands : StandsFor map pool functions depth stop_address (code_in words) (parts_of text runtime) credit idle
          (state machine n start) (run count first)

    meets : (n : ℕ) → Meets n
    meets n =
        let before : ℕ = first_steps image input input_bytes in
        let begins = image-begins image input input_bytes in
        let reaches = simulates_many _ _ _ _ pace simulates n 3 (length main.code) start (goes begins.after)
        (never, (begins.after, refl, omega arith, omega arith, begins.running)) in
        let last : Progress = state (processor_machine rv32im) reaches.steps (goes begins.after) in
        let there : run (before + reaches.steps) first ≡ last
        = begins.walks.leads.by reaches.steps ∙ sym (state-run rv32im reaches.steps begins.after) in
        let begun : state (processor_machine rv32im) before (goes first) ≡ goes begins.after
        = state-run rv32im before first ∙ Leads-run begins.walks.leads in
        let silent : trace (processor_machine rv32im) before (goes first) ≡ []
        = silent_instructions begins.walks.leads begins.told in
        record {
          count = before + reaches.steps;
          credit = reaches.credit_after;
          idle = reaches.idle_after;
          events = trace-add (processor_machine rv32im) before reaches.steps (goes first)
              ∙ ap (λ events. events ++ trace (processor_machine rv32im) reaches.steps
              (state (processor_machine rv32im) before (goes first))) silent
              ∙ ap (trace (processor_machine rv32im) reaches.steps) begun ∙ reaches.events_are;
          stands = subst (StandsFor map pool functions depth stop_address (code_in words) (parts_of text runtime)
              reaches.credit_after reaches.idle_after (state machine n start)) (sym there) reaches.related.1;
        }

    -- Where the machine is at a line, the image comes to the address of the line and goes on there, with the same events. Memory
    -- has the cells.
    pub image-arrives : (n f j : ℕ) (shared : World) → PlacedIsAt functions f j shared (state machine n start)
        → (count : ℕ) × ((s : Processor) × ((run count first ≡ goes s) × ((s.pc ≡ line_address map functions f j)
        × ((trace (processor_machine rv32im) count (goes first) ≡ trace machine n start) × HasCells pool shared.cells s))))
    image-arrives n f j shared at_line =
        let there = meets n in
        let goes_on = turn_address map pool functions depth stop_address (code_in words) (parts_of text runtime) f j shared
        there.credit there.idle (state machine n start) (run there.count first) there.stands at_line in
        (there.count, (goes_on.0, (goes_on.1.0, (goes_on.1.1.0, (there.events, goes_on.1.1.1)))))

    -- where the machine goes on, the image comes to a moment at which it has told the same events, and memory has the cells and the
    -- held tokens
    pub image-follows : (n : ℕ) (t : PlacedState World) → state machine n start ≡ go t
        → (count : ℕ) × ((s : Processor) × ((run count first ≡ goes s)
        × ((trace (processor_machine rv32im) count (goes first) ≡ trace machine n start) × HasHeldTokens map pool depth t s)))
    image-follows n t state_is =
        let there = meets n in
        let goes_on = turn_cells map pool functions depth stop_address (code_in words) (parts_of text runtime)
        there.credit there.idle t (run there.count first) (subst (λ turn. StandsFor map pool functions depth stop_address (code_in words)
        (parts_of text runtime) there.credit there.idle turn (run there.count first)) state_is there.stands) in
        (there.count, (goes_on.0, (goes_on.1.0, (there.events, goes_on.1.1))))
