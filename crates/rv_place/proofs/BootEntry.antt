-- From the start of the loaded image to the begin of main's lines.
use Rattle.std.proofs.Common.{◌≡◌, ◌≢◌, ◌≤◌, ◌<◌, inr, ℕ, zero, suc, ◌+◌, ◌*◌, ◌%◌, List, [], ◌∷◌, All, Some, Bool, true, false, cond, refl, ap, sym, subst, ◌∙◌, arith}
use Rattle.std.proofs.Math.Nat.{suc-mul, zero-mul}
use Rattle.std.specs.List.{slice_get}
use Rattle.kk_base.specs.Memory.{Part}
use Rattle.rv_isa.specs.PlacedCode.{PlacedLines}
use Rattle.rv_isa.specs.PlacedMachine.{PlacedState, placed_entered}
use Rattle.rv_isa.specs.Conventions.{one_register, header_register, list_header}
use Rattle.rv_isa.specs.Frames.{empty}
use Rattle.rv_isa.specs.Bytes.{bytes_at, with_number}
use Rattle.rv_isa.specs.Processor.{Processor, value, can_store}
use Rattle.rv_isa.specs.Standing.{Code}
use Rattle.rv_isa.proofs.Memory.{bytes_at-with_number_apart}
use Rattle.cell_heap.specs.Pool.{Pool}
use Rattle.cell_heap.specs.Blocks.{unused_cells}
use Rattle.cell_heap.specs.ProgramMemory.{HoldsCells}
use Rattle.cell_heap.proofs.Frames.{SameInside, SameInside-store}
use Rattle.cell_heap.proofs.Blocks.{outside-holds}
use Rattle.cell_runtime.specs.World.{World, first_world}
use Rattle.cell_runtime.specs.Operations.{all_bytes}
use Rattle.rv_place.specs.Addresses.{takes_frame, words_of_shift, words_to_frame, entry_words, frame_bias, way_offset}
use Rattle.rv_place.specs.Lines.{Map, EntersAt, PassesAt, BeginsAt, FunctionAt}
use Rattle.rv_place.specs.declared.reach.Reach.{Reach}
use Rattle.rv_place.specs.Grounds.{stack_end, constant_bytes, Ground, Rests}
use Rattle.rv_place.specs.ProcessorStates.{AllPlain, most_lines, IsIn, FramesAt, way_back, StackAt, Running}
use Rattle.rv_place.proofs.PassedInstructions.{Walks, walks_done}
use Rattle.rv_place.proofs.OccupiedWords.{behind_misses}
use Rattle.rv_place.proofs.InstructionExecution.{Goes}
use Rattle.rv_place.proofs.InstructionRows.{Shifts, bare_sp, entry_takes, bare_passes}
use Rattle.rv_place.proofs.FrameMemory.{frames_pushed, runs_as}
use Rattle.rv_place.proofs.HeldTokenLinks.{roots_done, cells_done}
use Rattle.rv_place.proofs.CodeLines.{bare_near, plain_found, few_found, entered_in, shift_most}
use Rattle.rv_place.proofs.PointerShifts.{to_frame_most}

frames_word : (depth frame : ℕ) → frame % 4 ≡ 0 → depth * frame % 4 ≡ 0
frames_word zero frame word = rw (zero-mul frame) refl
frames_word (suc depth) frame word = let rest = frames_word depth frame word in rw (suc-mul depth frame) (omega arith)

pub first_frame : (depth frame : ℕ) → 1 ≤ depth → frame ≤ depth * frame
first_frame zero frame some = absurd (omega arith)
first_frame (suc depth) frame some = rw (suc-mul depth frame) (omega arith)

-- how many instructions lead from an entry to the lines, where a frame is left
abbrev pub begin_steps : Reach → Bool → ℕ
begin_steps jumps true = words_to_frame jumps + 1 + words_of_shift jumps + 1
begin_steps jumps false = 1

pub few_steps : (jumps : Reach) (own : Bool) → begin_steps jumps own ≤ 5
few_steps jumps true = omega (arith, shift_most jumps, to_frame_most jumps)
few_steps jumps false = omega arith

-- the first state of a function without parameters, with what is left of the input
abbrev pub first_state : PlacedLines → Pool → List ℕ → PlacedState World
first_state main pool input = record { frames = placed_entered 0 main ∷ []; registers = empty; shared = first_world pool input }

-- so many silent instructions lead to a processor that stands for the first state
pub record Begins (map : Map) (pool : Pool) (functions : List PlacedLines) (depth stop : ℕ) (code : Code) (parts : List Part) (main : PlacedLines) (input : List ℕ) (steps : ℕ) (s : Processor) : Type 0 where
  pub after : Processor
  pub walks : Walks map pool steps s after
  pub told : after.trace ≡ s.trace
  pub running : Running map pool functions depth stop code parts (first_state main pool input) after

-- before main's entry: the stack is empty, and the way back is the stop
pub record IsBefore (map : Map) (pool : Pool) (depth stop entry : ℕ) (code : Code) (parts : List Part) (input : List ℕ) (s : Processor) : Type 0 where
  pub rests : Rests map code parts s
  pub pc_is : s.pc ≡ entry
  pub way_is : value s.registers 1 ≡ stop
  pub base_is : value s.registers 2 ≡ stack_end map depth + frame_bias map.jumps
  pub one : value s.registers one_register ≡ 1
  pub header : value s.registers header_register ≡ list_header
  pub trace_is : s.trace ≡ []
  pub left_is : s.left ≡ input
  pub cells : HoldsCells pool (unused_cells pool) [] s

module _ {map : Map} {pool : Pool} {functions : List PlacedLines} {depth buffer stop : ℕ} {code : Code} {parts : List Part} (ground : Ground map pool functions depth buffer stop code parts) (plain : AllPlain functions)
    {main : PlacedLines} {entry : ℕ} (first : slice_get functions 0 ≡ Some main) (entry_is : slice_get map.entries 0 ≡ Some entry) (main_at : FunctionAt map code entry main)
    {input : List ℕ} (input_bytes : All (λ byte. byte < 256) input) {s : Processor} (before : IsBefore map pool depth stop entry code parts input s) (base : ℕ) (base_is : base + map.frame ≡ stack_end map depth) where
  above : map.bottom ≤ base
  above = omega (arith, base_is, first_frame depth map.frame ground.some_depth)

  -- the last word of main's frame, which is one and may be stored
  abbrev last : ℕ
  last = base + way_offset map.frame

  last_word : last % 4 ≡ 0
  last_word = omega (arith, base_is, frames_word depth map.frame ground.frame_words, ground.frame_words, ground.bottom_word)

  allowed : can_store parts last 4 ≡ true
  allowed = ground.stores last (omega (arith, above)) (omega (arith, base_is, ground.some_frame)) last_word

  -- the stack has room for main's frame
  more : stack_end map depth ≢ map.bottom
  more = λ e. omega (arith, e, base_is, above, ground.some_frame)

  entered : IsIn map code (most_lines functions) (entry + 4 * entry_words map.jumps) (placed_entered 0 main)
  entered = entered_in (most_lines functions) 0 entry main before.rests.stands ground.below entry_is main_at (plain_found functions plain 0 main first) (few_found functions 0 main first)

  -- where main takes a frame
  module _ (own_is : takes_frame map.jumps main.code ≡ true) (enters : EntersAt map code entry) where
    takes : Shifts pool.cells code (words_to_frame map.jumps + 1 + words_of_shift map.jumps + 1) (5 ∷ 2 ∷ []) (with_number last 4 stop s.memory) (base + frame_bias map.jumps) (entry + 4 * entry_words map.jumps) s
    takes =
        let full = ground.stack_full in
        entry_takes pool.cells ground.below before.rests.stands map entry before.pc_is enters full.0 full.1 (stack_end map depth) before.base_is ground.in_range
        (before.cells.memory.end ∙ ground.cells_below) base stop (sym base_is) before.way_is more last_word (rw before.rests.parts_are allowed)
        (behind_misses before.cells last (omega (arith, above, ground.cells_below)))

    constants_stay : bytes_at takes.after.memory map.constants.first (constant_bytes map) ≡ all_bytes map.constants.texts
    constants_stay =
        ap (λ memory. bytes_at memory map.constants.first (constant_bytes map)) takes.done.memory_is
        ∙ bytes_at-with_number_apart last 4 stop s.memory map.constants.first (constant_bytes map) (ground.constants_kept last 4 allowed (omega arith))
        ∙ before.rests.constants

    frames_stand : FramesAt map code (most_lines functions) stop (stack_end map depth) (with_number last 4 stop s.memory) (entry + 4 * entry_words map.jumps) base (placed_entered 0 main ∷ [])
    frames_stand =
        frames_pushed map code (most_lines functions) stop (stack_end map depth) ground.some_frame s.memory base stop (entry + 4 * entry_words map.jumps) (placed_entered 0 main) [] ground.stop_below entered
        (λ k w e. cc) refl own_is (refl, base_is)

    taking_begins : Begins map pool functions depth stop code parts main input (words_to_frame map.jumps + 1 + words_of_shift map.jumps + 1) s
    taking_begins = record {
      after = takes.after;
      walks = walks_done takes.done;
      told = takes.done.trace_is;
      running = record {
        rests = record { stands = takes.done.stands; parts_are = takes.done.parts_are ∙ before.rests.parts_are; constants = constants_stay };
        trace = takes.done.trace_is ∙ before.trace_is;
        left = takes.done.left_is ∙ before.left_is;
        bytes = subst (All (λ byte. byte < 256)) (sym (takes.done.left_is ∙ before.left_is)) input_bytes;
        room = ground.some_depth;
        base = base;
        base_is = takes.base_is ∙ ap (λ t. cond t base (base + map.frame) + frame_bias map.jumps) (sym own_is);
        frames = runs_as map code (most_lines functions) stop (stack_end map depth) takes.after.registers takes.after.memory takes.after.pc base (placed_entered 0 main ∷ [])
            (rw (takes.done.memory_is, takes.done.pc_is) frames_stand);
        registers = λ x word e. cc;
        one = takes.done.kept one_register ((λ e. cc), ((λ e. cc), tt)) ∙ before.one;
        header = takes.done.kept header_register ((λ e. cc), ((λ e. cc), tt)) ∙ before.header;
        cells = outside-holds before.cells (roots_done takes.done refl) (subst (λ m. SameInside pool s.memory m) (sym takes.done.memory_is) (SameInside-store pool s.memory last stop (inr (omega (arith, above, ground.cells_below))))) (record { same = λ slot some. absurd (some refl) });
      };
    }

  -- where it takes none
  module _ (own_is : takes_frame map.jumps main.code ≡ false) (passes : PassesAt map code entry) where
    passed : Goes pool.cells code 1 [] s.memory (entry + 4 * entry_words map.jumps) s
    passed =
        bare_passes pool.cells ground.below before.rests.stands map entry before.pc_is passes (stack_end map depth)
        (before.base_is ∙ bare_sp map.jumps (stack_end map depth) (bare_near map.jumps main.code own_is)) (before.cells.memory.end ∙ ground.cells_below) entered.below more

    way_is : way_back (takes_frame map.jumps main.code) passed.after.registers s.memory last ≡ stop
    way_is = ap (λ t. way_back t passed.after.registers s.memory last) own_is ∙ (passed.done.kept 1 tt ∙ before.way_is)

    stack_stands : StackAt map code (most_lines functions) stop (stack_end map depth) passed.after.registers s.memory (entry + 4 * entry_words map.jumps) base (placed_entered 0 main ∷ [])
    stack_stands = (entered, (λ k w e. cc), tt, (way_is, base_is))

    bare_begins : Begins map pool functions depth stop code parts main input 1 s
    bare_begins = record {
      after = passed.after;
      walks = walks_done passed.done;
      told = passed.done.trace_is;
      running = record {
        rests = record {
          stands = passed.done.stands;
          parts_are = passed.done.parts_are ∙ before.rests.parts_are;
          constants = ap (λ memory. bytes_at memory map.constants.first (constant_bytes map)) passed.done.memory_is ∙ before.rests.constants;
        };
        trace = passed.done.trace_is ∙ before.trace_is;
        left = passed.done.left_is ∙ before.left_is;
        bytes = subst (All (λ byte. byte < 256)) (sym (passed.done.left_is ∙ before.left_is)) input_bytes;
        room = ground.some_depth;
        base = base;
        base_is = passed.done.kept 2 tt
            ∙ (before.base_is ∙ (ap (λ b. b + frame_bias map.jumps) (sym base_is) ∙ ap (λ t. cond t base (base + map.frame) + frame_bias map.jumps) (sym own_is)));
        frames = subst (λ m. StackAt map code (most_lines functions) stop (stack_end map depth) passed.after.registers m passed.after.pc base (placed_entered 0 main ∷ [])) (sym passed.done.memory_is)
            (subst (λ a. StackAt map code (most_lines functions) stop (stack_end map depth) passed.after.registers s.memory a base (placed_entered 0 main ∷ [])) (sym passed.done.pc_is) stack_stands);
        registers = λ x word e. cc;
        one = passed.done.kept one_register tt ∙ before.one;
        header = passed.done.kept header_register tt ∙ before.header;
        cells = cells_done before.cells (roots_done passed.done refl) passed.done.memory_is;
      };
    }

  begins_by : (own : Bool) → takes_frame map.jumps main.code ≡ own → BeginsAt own map code entry → Begins map pool functions depth stop code parts main input (begin_steps map.jumps own) s
  begins_by true = taking_begins
  begins_by false = bare_begins

  pub entry-begins : Begins map pool functions depth stop code parts main input (begin_steps map.jumps (takes_frame map.jumps main.code)) s
  entry-begins = begins_by (takes_frame map.jumps main.code) refl main_at.entry
