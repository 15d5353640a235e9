-- An image of code with calls in line is one of the code: the code agrees with the other, which comes to its lines and follows it.
use Rattle.std.proofs.Common.{◌≡◌, ◌+◌, ◌*◌, ◌<◌, ◌≤◌, ◌≢◌, ℕ, suc, List, [], ◌∷◌, All, Some, length, slice_get}
use Rattle.std.proofs.Common.{refl, sym, ap, subst, ◌∙◌, arith}
use Rattle.kk_base.specs.Agreements.{Agree}
use Rattle.kk_base.specs.Machines.{Machine, state, trace}
use Rattle.kk_base.specs.Trace.{Event}
use Rattle.kk_base.proofs.Agreements.{agree_through}
use Rattle.kk_base.proofs.Simulations.{simulates_many}
use Rattle.cell_heap.specs.Pool.{Pool}
use Rattle.cell_heap.specs.ProgramMemory.{HoldsCells}
use Rattle.cell_runtime.specs.Operations.{Constants, all_bytes}
use Rattle.cell_runtime.specs.World.{World, first_world, primitives}
use Rattle.elf_image.specs.Parts.{memory_of}
use Rattle.elf_image.specs.declared.part.Part.{Part}
use Rattle.rv_inline.specs.Growth.{most_growth}
use Rattle.rv_inline.specs.InLine.{most_fresh, HaveInLine, HasInLine}
use Rattle.rv_inline.specs.InLineLines.{line_in_line}
use Rattle.rv_inline.specs.Relation.{Copies, StandsFor, NeverStuck, Related, IsNotStuck}
use Rattle.rv_inline.proofs.Labels.{callee_both}
use Rattle.rv_inline.proofs.OwnLines.{has_there, lines_apart, comes as comes_in_line}
use Rattle.rv_inline.proofs.Simulation.{simulates}
use Rattle.rv_inline.proofs.Starts.{starts, agrees, never_stuck, follows as follows_in_line}
use Rattle.rv_inline.proofs.ValueCounts.{functions_below}
use Rattle.rv_inline.proofs.WellFormedness.{program_formed}
use Rattle.rv_isa.specs.AsmCode.{Lines}
use Rattle.rv_isa.specs.AsmMachine.{AsmState, AsmTurn, asm_machine, asm_start}
use Rattle.rv_isa.specs.Costs.{functions_length}
use Rattle.rv_isa.specs.Execution.{rv32im, run}
use Rattle.rv_isa.specs.LinePlaces.{AsmIsAt, AsmHasOwnLine}
use Rattle.rv_isa.specs.Primitives.{go, ended, stuck}
use Rattle.rv_isa.specs.Processor.{Processor, Ending, start, goes}
use Rattle.rv_isa.specs.ProcessorMachine.{processor_machine}
use Rattle.rv_place.specs.Images.{EndsWithCells, outside_lines}
use Rattle.rv_place.specs.ProcessorStates.{HasCells}
use Rattle.rv_place.specs.Texts.{most_text_length}
use Rattle.kk_back.specs.Assembled.{IsPlaceable, HasHeldFrames, HasLineAddresses, IsAsmImage, IsImageOfAsm}
use Rattle.kk_back.specs.Memory.{HasAsmMemory, frames_end}
use Rattle.kk_back.specs.Sizes.{most_asm_bytes}
use Rattle.kk_back.proofs.HeldFrames.{held_before_calls}

-- ---- what can be placed

-- there are as many functions
pub as_many_inlined : (q olds news : List Lines) → HaveInLine q olds news → length news ≡ length olds
as_many_inlined q [] [] all = refl
as_many_inlined q [] (new ∷ news) all = absurd all
as_many_inlined q (old ∷ olds) [] all = absurd all
as_many_inlined q (old ∷ olds) (new ∷ news) all = ap suc (as_many_inlined q olds news all.1)

-- code with calls in line can be placed, where there is room for them
pub inlined_placeable : (q q' : List Lines) (texts texts' : List (List ℕ)) → HasInLine q q'
    → functions_length q' ≤ functions_length q + most_growth → texts' ≡ texts → IsPlaceable q texts
    → functions_length q + most_growth ≤ most_text_length → IsPlaceable q' texts'
inlined_placeable q q' texts texts' all short same made room =
    let there = callee_both q q' 0 made.main all made.main_is in
    let many = as_many_inlined q q q' all in
    let few = made.few in
    let bytes : length (all_bytes texts') ≡ length (all_bytes texts)
    = ap (λ (t : List (List ℕ)). length (all_bytes t)) same in
    let most = made.fits.bytes in
    record {
      formed = program_formed q q' all made.formed;
      fits = record { instructions = omega (arith, short, room); bytes = omega (arith, bytes, most) };
      few = omega (arith, many, few);
      main = there.0;
      main_is = there.1.0;
      main_params = there.1.1.1.params ∙ made.main_params;
    }

-- ---- room

-- a frame has seven words more at most
pub inlined_memory : (q q' : List Lines) (cells depth : ℕ) (parts : List Part) → HasInLine q q'
    → HasAsmMemory q' 0 cells depth parts → HasAsmMemory q most_fresh cells depth parts
inlined_memory q q' cells depth parts all memory = record {
  placed = memory.placed;
  is = memory.is;
  few = λ most below.
      let small = memory.few (most + most_fresh) (functions_below q q q' most all below) in
      omega (arith, small);
}

-- and the text is longer by what the code is
pub inlined_text : (q q' : List Lines) (texts texts' : List (List ℕ)) (bytes : ℕ) → HasInLine q q'
    → functions_length q' ≤ functions_length q + most_growth → texts' ≡ texts → bytes ≤ most_asm_bytes q' texts'
    → bytes ≤ most_asm_bytes q texts + 4 * most_growth
inlined_text q q' texts texts' bytes all short same few =
    let many = as_many_inlined q q q' all in
    let constants : length (all_bytes texts') ≡ length (all_bytes texts)
    = ap (λ (t : List (List ℕ)). length (all_bytes t)) same in
    omega (arith, few, short, many, constants)

-- ---- what the machines leave open

copies : (constants : Constants) (pool : Pool) → Copies (primitives constants pool)
copies constants pool word world = refl

-- a turn that stands for an end is that end
ended_in_line : (q q' : List Lines) (how : Ending) (world : World) (t : AsmTurn World Ending)
    → StandsFor q q' (ended how world) t → t ≡ ended how world
ended_in_line q q' how world (go t) stands = absurd stands
ended_in_line q q' how world (ended other shared) stands = cc (stands.0, stands.1)
ended_in_line q q' how world stuck stands = absurd stands

-- ---- the image

module _ (q q' : List Lines) (texts : List (List ℕ)) (cells depth entry : ℕ) (parts : List Part) (all : HasInLine q q')
    (main main' : Lines) (main_is : slice_get q 0 ≡ Some main) (main_is' : slice_get q' 0 ≡ Some main')
    (low : IsAsmImage q' texts main' cells depth entry parts) where
  abbrev pool : Pool
  pool = low.pool

  abbrev constants : Constants
  constants = record { first = low.first; texts = texts }

  -- a line's index in the code with calls in line, and its address there
  abbrev line : ℕ → ℕ → ℕ
  line f k = line_in_line q q' f k

  abbrev address : ℕ → ℕ → ℕ
  address f k = low.lines.address f (line f k)

  is_there : (f k : ℕ) → AsmHasOwnLine q f k → AsmHasOwnLine q' f (line f k)
  is_there f k has = has_there q q' all f k has

  are_apart : (f k g j : ℕ) → AsmHasOwnLine q f k → AsmHasOwnLine q g j → address f k ≡ address g j → (f ≡ g) × (k ≡ j)
  are_apart f k g j has other same =
      let both : (f ≡ g) × (line f k ≡ line g j)
      = low.lines.apart f (line f k) g (line g j) (is_there f k has) (is_there g j other) same in
      let in_one : AsmHasOwnLine q f j = subst (λ (h : ℕ). AsmHasOwnLine q h j) (sym both.0) other in
      let one_line : line f k ≡ line f j = both.1 ∙ ap (λ (h : ℕ). line h j) (sym both.0) in
      (both.0, lines_apart q q' all f k j has in_one one_line)

  module _ (input : List ℕ) (bytes : All (λ byte. byte < 256) input)
      (never : NeverStuck (primitives constants pool) depth q (asm_start main (first_world pool input))) where
    abbrev runs : Machine (AsmTurn World Ending) Event Ending
    runs = asm_machine (primitives constants pool) depth q

    abbrev inlined_runs : Machine (AsmTurn World Ending) Event Ending
    inlined_runs = asm_machine (primitives constants pool) depth q'

    -- the start of both, by the first function
    abbrev begins : Lines → AsmTurn World Ending
    begins first = asm_start first (first_world pool input)

    is_main : (first : Lines) → slice_get q' 0 ≡ Some first → first ≡ main'
    is_main first first_is = let same : Some first ≡ Some main' = sym first_is ∙ main_is' in cc

    inlined_never : (n : ℕ) → state inlined_runs n (begins main') ≢ stuck
    inlined_never =
        let there = never_stuck (primitives constants pool) (copies constants pool) depth q q' all main (first_world pool input)
        main_is never in
        subst (λ (first : Lines). (n : ℕ) → state inlined_runs n (begins first) ≢ stuck) (is_main there.0 there.1) there.2

    does : (up : ℕ → ℕ) × Agree runs (processor_machine rv32im) outside_lines up (begins main)
        (goes (start (memory_of parts) entry input))
    does =
        let there = agrees (primitives constants pool) (copies constants pool) depth q q' all main (first_world pool input) main_is
        never in
        let high : Agree runs inlined_runs 0 (λ steps. steps * 1 + 0 + 1) (begins main) (begins main')
        = subst (λ (first : Lines). Agree runs inlined_runs 0 (λ steps. steps * 1 + 0 + 1) (begins main) (begins first))
        (is_main there.0 there.1) there.2 in
        let under = low.does input bytes inlined_never in (
          (λ m. under.0 m * 1 + 0 + 1),
          agree_through runs inlined_runs (processor_machine rv32im) 0 outside_lines (λ steps. steps * 1 + 0 + 1) under.0 (begins main)
              (begins main') (goes (start (memory_of parts) entry input)) high under.1,
        )

    -- where the code has ended, so has the other
    inlined_ends : (n : ℕ) (how : Ending) (world : World) → state runs n (begins main) ≡ ended how world
        → (steps : ℕ) × (state inlined_runs steps (begins main') ≡ ended how world)
    inlined_ends n how world is =
        let begun = starts (primitives constants pool) (copies constants pool) depth q q' all main (first_world pool input) main_is
        never in
        let related_by : ℕ → ℕ → AsmTurn World Ending → AsmTurn World Ending → Type 0
        = Related (primitives constants pool) depth q q' in
        let reaches = simulates_many runs inlined_runs related_by IsNotStuck 1
        (simulates (primitives constants pool) (copies constants pool) depth q q' all) n 0 0 (begins main) (begins begun.0) begun.3 in
        let last : AsmTurn World Ending = state inlined_runs reaches.steps (begins begun.0) in
        let related : related_by reaches.credit_after reaches.idle_after (ended how world) last
        = subst (λ (t : AsmTurn World Ending). related_by reaches.credit_after reaches.idle_after t last) is reaches.related in (
          reaches.steps,
          subst (λ (first : Lines). state inlined_runs reaches.steps (begins first) ≡ ended how world) (is_main begun.0 begun.1)
              (ended_in_line q q' how world last related.1),
        )

    ends : (n : ℕ) (how : Ending) (world : World) → state runs n (begins main) ≡ ended how world
        → (count : ℕ) × EndsWithCells pool how world (run count (start (memory_of parts) entry input))
    ends n how world is =
        let there = inlined_ends n how world is in low.ends input bytes inlined_never there.0 how world there.1

    -- where the code is at a line, the other comes to it, and so does the image
    comes : (n f k : ℕ) (world : World) → AsmHasOwnLine q f k → AsmIsAt q f k world (state runs n (begins main))
        → (count : ℕ) × ((s : Processor) × ((run count (start (memory_of parts) entry input) ≡ goes s) × ((s.pc ≡ address f k)
        × ((trace (processor_machine rv32im) count (goes (start (memory_of parts) entry input)) ≡ trace runs n (begins main))
        × HasCells pool world.cells s))))
    comes n f k world has is =
        let high = comes_in_line (primitives constants pool) (copies constants pool) depth q q' all main (first_world pool input)
        main_is never in
        let there = high.1.1 n f k world has is in
        let on_main = subst (λ (first : Lines). (trace inlined_runs there.0 (begins first) ≡ trace runs n (begins main))
        × AsmIsAt q' f (line f k) world (state inlined_runs there.0 (begins first))) (is_main high.0 high.1.0) there.1 in
        let (count, (s, (goes_on, (pc_is, (events, has_cells))))) =
        low.lines.comes input bytes inlined_never there.0 f (line f k) world (is_there f k has) on_main.1 in
        (count, (s, (goes_on, (pc_is, (events ∙ on_main.0, has_cells)))))

    -- and the image follows the other, which follows the code
    follows : (n : ℕ) (high : AsmState World) → state runs n (begins main) ≡ go high
        → (count : ℕ) × ((s : Processor) × ((run count (start (memory_of parts) entry input) ≡ goes s)
        × ((trace (processor_machine rv32im) count (goes (start (memory_of parts) entry input)) ≡ trace runs n (begins main))
        × HasHeldFrames pool low.lines.frame (frames_end pool depth low.lines.frame) high s)))
    follows n high is =
        let each = follows_in_line (primitives constants pool) (copies constants pool) depth q q' all main (first_world pool input)
        main_is never in
        let there = each.1.1 n high is in
        let middle : AsmState World = there.1.0 in
        let further = there.1.1 in
        let on_main = subst (λ (first : Lines). (state inlined_runs there.0 (begins first) ≡ go middle)
        × (trace inlined_runs there.0 (begins first) ≡ trace runs n (begins main))) (is_main each.0 each.1.0)
        (further.0, further.1.0) in
        let (count, (s, (goes_on, (events, (links, (cells_held, held)))))) =
        low.lines.follows input bytes inlined_never there.0 middle on_main.0 in
        let frame = low.lines.frame in (
          count,
          (
            s,
            (
              goes_on,
              (
                events ∙ on_main.1,
                (
                  links,
                  (
                    subst (λ (w : World). HoldsCells pool w.cells links s) further.1.1.0 cells_held,
                    held_before_calls frame (frames_end pool depth frame) q q' high.frames middle.frames further.1.1.1 links held,
                  ),
                ),
              ),
            ),
          ),
        )

  lines_are : HasLineAddresses q main constants pool depth entry parts
  lines_are = record {
    address = address;
    frame = low.lines.frame;
    fill = low.lines.fill;
    apart = are_apart;
    outside = λ f k has. low.lines.outside f (line f k) (is_there f k has);
    inside = λ f k has. low.lines.inside f (line f k) (is_there f k has);
    comes = comes;
    follows = follows;
  }

  -- an image of the code with calls in line is one of the code
  pub inlined_image : IsAsmImage q texts main cells depth entry parts
  inlined_image = record {
    program = low.program;
    pool = pool;
    cells_are = low.cells_are;
    aligned = low.aligned;
    behind = low.behind;
    first = low.first;
    constants_fit = low.constants_fit;
    does = does;
    ends = ends;
    touches_no_free = λ input bytes never. low.touches_no_free input bytes (inlined_never input bytes never);
    lines = lines_are;
  }

-- and so of the code by its first function
pub inlined_image_of : (q q' : List Lines) (texts texts' : List (List ℕ)) (cells depth entry : ℕ) (parts : List Part)
    → HasInLine q q' → texts' ≡ texts → IsImageOfAsm q' texts' cells depth entry parts
    → IsImageOfAsm q texts cells depth entry parts
inlined_image_of q q' texts texts' cells depth entry parts all same of_inlined main main_is =
    let there = callee_both q q' 0 main all main_is in
    inlined_image q q' texts cells depth entry parts all main there.0 main_is there.1.0
    (subst (λ (t : List (List ℕ)). IsAsmImage q' t there.0 cells depth entry parts) same (of_inlined there.0 there.1.0))
