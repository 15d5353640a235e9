-- A reference that is given up, followed by the processor: its count is lowered in line, and where it was the last one the routine frees the cell.
use Rattle.std.proofs.Common.{◌≡◌, ◌≢◌, ◌≤◌, ◌<◌, ◌⊎◌, inl, inr, All, ℕ, suc, ◌+◌, ◌-◌, ◌*◌, ◌%◌, ◌^◌, List, [], ◌∷◌, Option, Some, None, true, false, not, nat_eq, bit_and, refl, sym, ap, ◌∙◌, subst, arith, lit<}
use Rattle.std.specs.List.{list_any}
use Rattle.std.proofs.lemmas.Bool.{cases_eq, cases_lt}
use Rattle.std.proofs.lemmas.Bool.Decides.{nat_tests}
use Rattle.kk_base.specs.Memory.{Part}
use Rattle.rv_isa.specs.declared.asm.Action.TheVariants.{Routine}
use Rattle.rv_isa.specs.declared.asm.Condition.TheVariants.{NotEqual}
use Rattle.rv_isa.specs.declared.asm.ImmediateOperation.TheVariants.{Andi}
use Rattle.rv_isa.specs.declared.placed.Operand.{Operand}
use Rattle.rv_isa.specs.declared.routine.Routine.TheVariants.{Drop}
use Rattle.rv_isa.specs.PlacedCode.{PlacedLine, PlacedLines}
use Rattle.rv_isa.specs.Arithmetic.{sum_word}
use Rattle.rv_isa.specs.Conventions.{one_register, header_register, gives_into}
use Rattle.rv_isa.specs.Routines.{spoilt_by, is_spoilt_by}
use Rattle.rv_isa.specs.Primitives.{stuck}
use Rattle.rv_isa.specs.Frames.{Frame}
use Rattle.rv_isa.specs.PlacedMachine.{PlacedTurn, kept_by, placed_goes, placed_served}
use Rattle.rv_isa.specs.Bytes.{number_at, with_number}
use Rattle.rv_isa.specs.Processor.{Processor, Ending, value, can_load, can_store}
use Rattle.rv_isa.specs.Standing.{Code}
use Rattle.rv_isa.proofs.Bytes.{bytes_at-same}
use Rattle.rv_isa.proofs.Memory.{number_at-same}
use Rattle.rv_isa.proofs.Standing.{Stands-leads}
use Rattle.cell_heap.specs.Cells.{Body, Heap, free, waiting, counted, changed}
use Rattle.cell_heap.specs.Pool.{Pool, end_of, places}
use Rattle.cell_heap.specs.View.{Link, View}
use Rattle.cell_heap.specs.Memory.{Memory, IsShown, IsChain, IsNoCount, Shows}
use Rattle.cell_heap.specs.Counts.{credit}
use Rattle.cell_heap.specs.Turns.{Turns, ended, passed, lower, Work}
use Rattle.cell_heap.specs.Blocks.{seen_cells, view_of, drop_cells, merged_cells}
use Rattle.cell_heap.proofs.Frames.{shown-cell, cell-inside}
use Rattle.cell_heap.proofs.WaitChains.{AreCells, AreCells-counted, AreCells-lower}
use Rattle.cell_heap.proofs.RoutineTurns.{turns_taken_first}
use Rattle.cell_heap.proofs.MemoryAfterDrop.{drop-holds}
use Rattle.cell_runtime.specs.Drops.{Dropped}
use Rattle.cell_runtime.specs.Registers.{IsOutside, own_of}
use Rattle.cell_runtime.specs.Operations.{compares}
use Rattle.cell_runtime.specs.World.{World, with_cells, gives_up, drop_count, served, lasts}
use Rattle.cell_runtime.proofs.DropRows.{bit_of_word}
use Rattle.cell_runtime.proofs.DropStates.{count-stored}
use Rattle.cell_runtime.proofs.DropOutcome.{memory-left, first-turn}
use Rattle.rv_place.specs.Registers.{zero_register, ra, a0}
use Rattle.rv_place.specs.Addresses.{takes_frame, frame_bias}
use Rattle.rv_place.specs.Instructions.{words_of_jump, words_to_lower, DropsReference}
use Rattle.rv_place.specs.declared.reach.Forms.{Forms}
use Rattle.rv_place.specs.declared.reach.Reach.TheVariants.{Near}
use Rattle.rv_place.specs.Lines.{Map}
use Rattle.rv_place.specs.Grounds.{Ground, stack_end, constant_bytes}
use Rattle.rv_place.specs.ProcessorStates.{most_lines, IsIn, FramesAt, links_of, Agrees, Running}
use Rattle.rv_place.proofs.CodeLines.{jump_most}
use Rattle.rv_place.proofs.InstructionRows.{jump_last, jump_to, branch_taken, branch_passed}
use Rattle.rv_place.proofs.InstructionExecution.{MissesFree, Done, Gets, immediate_row, addi_row, misses_done, done_then, done_on, done_as, plain_gets, load_gets, store_goes}
use Rattle.rv_place.proofs.OccupiedWords.{apart_misses}
use Rattle.rv_place.proofs.FrameMemory.{handed_apart, value_kept, frames_kept, waits_as, runs_as, newest_waits}
use Rattle.rv_place.proofs.HeldTokenLinks.{is_own, handed_own, roots_done, cells_done}
use Rattle.rv_place.proofs.PassedInstructions.{Walks, walks_done, walks_then, stands_part, returns_walk}
use Rattle.rv_place.proofs.LineOutcomes.{Comes, comes_go, framed_base, sp_low}
use Rattle.rv_place.proofs.RoutineSimulation.{known_kept, unspoilt_one, unspoilt_header, outside_spoilt, outside_both, outside_own_of, PassesHeld, gives_none}

-- the first word of a cell is apart from each other cell
first_apart : (x at : ℕ) → x % 32 ≡ 0 → at % 32 ≡ 0 → x ≢ at → (at + 4 ≤ x) ⊎ (x + 32 ≤ at)
first_apart x at x_whole at_whole differ = elim (cases_lt at x) [ inl below ↦ inl (omega arith) | inr above ↦ inr (grind arith) ]

-- a count is lowered
one_less : (n : ℕ) → suc n < 2 ^ 32 → sum_word (suc n) (2 ^ 32 - 1) ≡ n
one_less n below = omega arith

-- and is not 0
not_none : (n : ℕ) → compares NotEqual (suc n) 0 ≡ true
not_none n = let test : nat_eq (suc n) 0 ≡ false = grind (arith, nat_tests) in ap not test

module _ {map_of : Map} {pool : Pool} {functions : List PlacedLines} {depth buffer stop : ℕ} {code : Code} {parts : List Part} (ground : Ground map_of pool functions depth buffer stop code parts)
    (f : Frame PlacedLine) (fs : List (Frame PlacedLine)) (known : ℕ → Option ℕ) (world : World) (s : Processor)
    (running : Running map_of pool functions depth stop code parts (record { frames = f ∷ fs; registers = known; shared = world }) s) (rest : List PlacedLine) (old : ℕ) (forms : Forms)
    (framed : takes_frame map_of.jumps f.whole ≡ true) where
  abbrev behind : Frame PlacedLine
  behind = record f { code = rest }

  -- where the code goes on
  abbrev next_at : ℕ
  next_at = s.pc + 4 * (words_to_lower + words_of_jump forms.jumps)

  abbrev links_here : List Link
  links_here = links_of map_of running.base (f ∷ fs)

  abbrev heap : Heap
  heap = seen_cells world.cells

  abbrev view : View
  view = view_of world.cells links_here

  -- the reference is given up, with all that it was the last to hold
  record Gave (gave freed : ℕ) (left : List ℕ) (end : Heap) : Type 0 where
    after : Processor
    steps : ℕ
    walks : Walks map_of pool steps s after
    some : 1 ≤ steps
    few : steps ≤ 8 * gave + 52 * freed + 7
    pc_is : after.pc ≡ next_at
    parts_are : after.parts ≡ s.parts
    kept : (x : ℕ) → x ≢ 0 → x ≢ 1 → is_own x ≡ false → is_spoilt_by Drop x ≡ false → value after.registers x ≡ value s.registers x
    memory : Memory pool (record view { heap = end; frees = left }) after
    others : (x : ℕ) → IsNoCount heap x → after.memory x ≡ s.memory x
    trace_is : after.trace ≡ s.trace
    left_is : after.left ≡ s.left

  cells_here : AreCells pool s.parts s.memory heap (value s.registers 8) world.cells.frees 0 []
  cells_here =
      let memory = running.cells.memory in
      record { usable = memory.usable; shown = memory.shown; chain = memory.chain; wait_chain = refl }

  -- by instructions in line, which change no register that a value has
  in_line : {gave freed n : ℕ} {left : List ℕ} {end : Heap} {memory : ℕ → ℕ} {changed : List ℕ} {reference : ℕ} (u : Processor) → Done pool.cells code n changed memory next_at s u
      → list_any is_own changed ≡ false → ((x : ℕ) → x ≢ 0 → x ≢ 1 → IsOutside x changed) → 1 ≤ n → n ≤ 8 * gave + 52 * freed + 7 → Turns (reference ∷ []) [] world.cells.frees heap gave freed left end
      → ((x : ℕ) → IsNoCount heap x → memory x ≡ s.memory x) → AreCells pool s.parts memory end (value s.registers 8) left 0 [] → Gave gave freed left end
  in_line {n = n} {left = left} {end = end} {memory = memory} u done unowned apart some few turns others cells =
      let roots = roots_done done unowned in
      record {
        after = u;
        steps = n;
        walks = walks_done done;
        some = some;
        few = few;
        pc_is = done.pc_is;
        parts_are = done.parts_are;
        kept = λ x zero link own spoilt. done.kept x (apart x zero link);
        memory = memory-left running.cells.memory turns done.parts_are roots.held roots.border roots.end (λ x none. ap (λ (m : ℕ → ℕ). m x) done.memory_is ∙ others x none)
            (subst (λ m. IsShown pool m end) (sym done.memory_is) cells.shown)
            (subst (λ m. IsChain m end (value u.registers 8) left) (sym done.memory_is) (subst (λ a. IsChain memory end a left) (sym roots.chain) cells.chain));
        others = λ x none. ap (λ (m : ℕ → ℕ). m x) done.memory_is ∙ others x none;
        trace_is = done.trace_is;
        left_is = done.left_is;
      }

  module _ (drops : DropsReference forms.jumps code s.pc ground.give_up.0) (reference : ℕ) (reference_is : value s.registers 10 ≡ reference) where
    next_below : next_at < 2 ^ 32
    next_below = let last = jump_last pool.cells ground.below forms.jumps (s.pc + 24) ra ground.give_up.0 drops.calls in omega arith

    bit_gets : Gets pool.cells code 1 (1 ∷ []) 1 (bit_and (value s.registers 10) drops.loads.0.word) (s.pc + 4) s
    bit_gets = plain_gets pool.cells ground.below running.rests.stands refl (immediate_row Andi ra a0 drops.loads.0) drops.loads.4.0

    bit_is : (b : ℕ) → reference % 2 ≡ b → value bit_gets.after.registers 1 ≡ b
    bit_is b is =
        bit_gets.value_is (λ e. cc) ∙ ap (λ w. bit_and (value s.registers 10) w) drops.loads.2
        ∙ bit_of_word (value s.registers 10) b (ap (λ n. n % 2) reference_is ∙ is)

    over_target : sum_word (s.pc + 4) drops.over.word ≡ next_at
    over_target = let below = next_below in rw drops.over_is (omega arith)

    over_call_target : sum_word (s.pc + 12 + 4 + 4) drops.over_call.word ≡ next_at
    over_call_target = let below = next_below in rw drops.over_call_is (omega arith)

    -- ---- an odd reference names no cell

    odd_gave : reference % 2 ≡ 1 → Gave 1 0 world.cells.frees heap
    odd_gave odd =
        let bit = bit_is 1 odd in
        let word = running.frames.0.at_word in
        let taken = branch_taken pool.cells ground.below bit_gets.done.stands (s.pc + 4) bit_gets.done.pc_is NotEqual ra zero_register
        next_at Near Near (drops.over, over_target, drops.loads.4.1.0) (omega arith) (rw bit refl) in
        in_line taken.after (done_on bit_gets.done taken.done) refl (λ x zero link. (link, (link, (zero, tt)))) (omega arith) (omega arith) (passed odd ended) (λ x none. refl) cells_here

    -- ---- the count of a cell is lowered

    -- five instructions store it
    record Lowered (count : ℕ) : Type 0 where
      after : Processor
      done : Done pool.cells code 5 (1 ∷ 1 ∷ 1 ∷ []) (with_number reference 4 count s.memory) (s.pc + 12 + 4 + 4) s after
      count_is : value after.registers 1 ≡ count

    module _ (even : reference % 2 ≡ 0) (count : ℕ) (body : Body) (is : heap reference ≡ counted (suc count) body) where
      shows : Shows pool s.memory reference (counted (suc count) body)
      shows = AreCells-counted cells_here reference (suc count) body is

      misses : MissesFree pool.cells s reference
      misses =
          apart_misses running.cells reference
          (λ x is_free. elim (cases_eq x reference) [
            | inl same ↦ absurd (let both : counted (suc count) body ≡ free = sym is ∙ (ap heap (sym same) ∙ is_free) in cc)
            | inr differ ↦ first_apart x reference (shown-cell running.cells.memory.shown x free is_free (λ e. cc)).aligned shows.0.aligned differ
          ])

      lowered : Lowered count
      lowered =
          let bit = bit_is 0 even in
          let usable = running.cells.memory.usable in
          let inside = cell-inside pool reference usable.aligned shows.0 in
          let below : reference + 32 < 2 ^ 32 = omega (arith, inside, usable.below) in
          let aligned : reference % 4 ≡ 0 = omega (arith, shows.0.aligned) in
          let may_load : can_load s.parts reference 4 ≡ true = usable.loads reference shows.0.behind (omega arith) in
          let may_store : can_store s.parts reference 4 ≡ true = usable.stores reference shows.0.behind (omega arith) in
          let passed = branch_passed pool.cells ground.below bit_gets.done.stands (s.pc + 4) bit_gets.done.pc_is NotEqual ra zero_register
          next_at Near Near (drops.over, over_target, drops.loads.4.1.0) (rw bit refl) in
          let two = done_on bit_gets.done passed.done in
          let third = load_gets pool.cells ground.below two.stands {at = s.pc + 4 + 4} two.pc_is {rd = ra} {base = a0} {offset = drops.loads.1}
          {address = reference} {word = suc count} drops.loads.4.1.1.0
          (rw (two.kept 10 ((λ e. cc), tt) ∙ reference_is, drops.loads.3) (omega arith)) aligned (rw two.parts_are may_load)
          (ap (λ m. number_at m reference 4) two.memory_is ∙ shows.1)
          (misses_done reference two ((λ e. cc), tt) ((λ e. cc), tt) ((λ e. cc), tt) misses) in
          let three = done_on two third.done in
          let here : s.pc + 4 + 4 + 4 ≡ s.pc + 12 = omega arith in
          let fourth = plain_gets pool.cells ground.below three.stands {at = s.pc + 12} (three.pc_is ∙ here) (addi_row ra ra drops.lowers.0) drops.lowers.4.0 in
          let four = done_on three fourth.done in
          let lowered_is : value fourth.after.registers 1 ≡ count = fourth.value_is (λ e. cc)
          ∙ rw (third.value_is (λ e. cc), drops.lowers.2) (one_less count shows.2) in
          let fifth = store_goes pool.cells ground.below four.stands {at = s.pc + 12 + 4} four.pc_is {base = a0} {from = ra}
          {offset = drops.lowers.1} {address = reference} {word = count} drops.lowers.4.1.0
          (rw (four.kept 10 ((λ e. cc), ((λ e. cc), ((λ e. cc), tt))) ∙ reference_is, drops.lowers.3) (omega arith)) lowered_is aligned (rw four.parts_are may_store)
          (misses_done reference four ((λ e. cc), ((λ e. cc), ((λ e. cc), tt))) ((λ e. cc), ((λ e. cc), ((λ e. cc), tt)))
          ((λ e. cc), ((λ e. cc), ((λ e. cc), tt))) misses) in
          record {
            after = fifth.after;
            done = done_as {changed' = 1 ∷ 1 ∷ 1 ∷ []} (done_then four fifth.done) (ap (λ m. with_number reference 4 count m) four.memory_is) refl (λ x out. out);
            count_is = fifth.done.kept 1 tt ∙ lowered_is;
          }

    -- other references are left: the branch leads over the call
    lower_gave : (count : ℕ) (body : Body) → reference % 2 ≡ 0 → (is : heap reference ≡ counted (suc (suc count)) body)
        → Gave 1 0 world.cells.frees (changed reference (counted (suc count) body) heap)
    lower_gave count body even is =
        let five = lowered even (suc count) body is in
        let word = running.frames.0.at_word in
        let left = five.count_is in
        let taken = branch_taken pool.cells ground.below five.done.stands (s.pc + 12 + 4 + 4) five.done.pc_is NotEqual ra zero_register
        next_at Near Near (drops.over_call, over_call_target, drops.lowers.4.1.1.0) (omega arith) (rw left (not_none count)) in
        in_line taken.after (done_on five.done taken.done) refl (λ x zero link. (link, (link, (link, (link, (zero, tt)))))) (omega arith) (omega arith) (lower even is ended)
        (count-stored heap reference (suc (suc count)) (suc count) body s.memory is)
        (AreCells-lower cells_here reference count body is)

    -- ---- the last reference: the routine frees the cell

    target_word : ground.give_up.0 % 4 ≡ 0
    target_word = let word = ground.runtime_word in omega (arith, ground.give_up.1.2)

    last_gave : (body : Body) (gave freed : ℕ) (left : List ℕ) (end : Heap) → reference % 2 ≡ 0 → (is : heap reference ≡ counted 1 body)
        → Turns [] (reference ∷ []) world.cells.frees (changed reference (waiting body) heap) gave freed left end → Gave (suc gave) freed left end
    last_gave body gave freed left end even is turns =
        let five = lowered even 0 body is in
        let word = running.frames.0.at_word in
        let none = five.count_is in
        let passed = branch_passed pool.cells ground.below five.done.stands (s.pc + 12 + 4 + 4) five.done.pc_is NotEqual ra zero_register
        next_at Near Near (drops.over_call, over_call_target, drops.lowers.4.1.1.0) (rw none refl) in
        let six = done_on five.done passed.done in
        let here : s.pc + 12 + 4 + 4 + 4 ≡ s.pc + 24 = omega arith in
        let called = jump_to pool.cells ground.below six.stands forms.jumps (s.pc + 24) (six.pc_is ∙ here) ra ground.give_up.0 drops.calls target_word in
        let all = done_on six called.done in
        let c = called.after in
        let way : value c.registers 1 ≡ next_at = called.value_is (λ e. cc) ∙ omega arith in
        let kept : (x : ℕ) → x ≢ 1 → value c.registers x ≡ value s.registers x = λ x apart. all.kept x (apart, (apart, (apart, (apart, (apart, tt))))) in
        let same : Processor = record c { memory = s.memory } in
        let dropped : Dropped = record { gave = gave; freed = freed; frees = left; heap = end } in
        let done = ground.give_up.2 pool reference body view dropped c (record { stands = stands_part ground.own_part called.done.stands; pc_is = called.done.pc_is }) (record {
          way_back = record { aligned = rw way (omega arith); in_range = rw way next_below };
          cell_is = kept 10 (λ e. cc) ∙ reference_is;
          last = is;
          counting = s.memory;
          memory = (cells_done {u = same} running.cells (record {
            parts = all.parts_are;
            chain = kept 8 (λ e. cc);
            held = kept 9 (λ e. cc);
            border = kept 18 (λ e. cc);
            end = kept 19 (λ e. cc);
          }) refl).memory;
          lowered = all.memory_is;
          turns = turns;
        }) in
        let after = done.1 in
        record {
          after = done.0;
          steps = 5 + 1 + words_of_jump forms.jumps + after.count;
          walks = walks_then (walks_done all) (returns_walk ground after.returns);
          some = omega arith;
          few = omega (arith, after.bounded, jump_most forms.jumps);
          pc_is = after.returns.back ∙ way;
          parts_are = after.returns.parts ∙ all.parts_are;
          kept = λ x zero link own spoilt.
              after.returns.registers x (outside_both x (own_of Drop) (spoilt_by Drop) (outside_own_of Drop x own) (outside_spoilt x (spoilt_by Drop) spoilt))
              ∙ kept x link;
          memory = after.memory;
          others = λ x none. after.others x none ∙ (ap (λ (m : ℕ → ℕ). m x) all.memory_is ∙ count-stored heap reference 1 0 body s.memory is x none);
          trace_is = after.trace ∙ all.trace_is;
          left_is = after.left ∙ all.left_is;
        }

    -- ---- the run goes on behind

    gave_by : {gave freed : ℕ} {left : List ℕ} {end : Heap} → Turns (reference ∷ []) [] world.cells.frees heap gave freed left end → Gave gave freed left end
    gave_by turns = first-turn turns Gave odd_gave lower_gave last_gave

    -- no byte behind the cells, and none of a constant, is one of a count
    behind_counts : (x : ℕ) → end_of pool ≤ x → IsNoCount heap x
    behind_counts x high at count body is =
        let memory = running.cells.memory in
        let cell = shown-cell memory.shown at (counted count body) is (λ e. cc) in
        inr (omega (arith, cell-inside pool at memory.usable.aligned cell, high))

    constant_counts : (x : ℕ) → map_of.constants.first ≤ x → x < map_of.constants.first + constant_bytes map_of → IsNoCount heap x
    constant_counts x low high at count body is =
        let memory = running.cells.memory in
        let cell = shown-cell memory.shown at (counted count body) is (λ e. cc) in
        let inside = cell-inside pool at memory.usable.aligned cell in
        let allowed = subst (λ p. can_store p at 4 ≡ true) running.rests.parts_are (memory.usable.stores at cell.behind (omega arith)) in
        elim (ground.constants_kept at 4 allowed (lit< tt)) [ inl before ↦ inl (omega arith) | inr after ↦ inr (omega arith) ]

    module _ (is_behind : (next : ℕ) → next_at ≡ next → next < 2 ^ 32 → IsIn map_of code (most_lines functions) next behind) where
      -- the frames that wait, behind the call
      stand_behind : (t : Processor) → ((x : ℕ) → IsNoCount heap x → t.memory x ≡ s.memory x)
          → FramesAt map_of code (most_lines functions) stop (stack_end map_of depth) t.memory next_at running.base (behind ∷ fs)
      stand_behind t others =
          let stand = waits_as map_of code (most_lines functions) stop (stack_end map_of depth) s.registers s.memory s.pc running.base f fs framed running.frames in
          let low = sp_low ground f fs known world s running in
          let under = ground.cells_below in
          frames_kept map_of code (most_lines functions) stop (stack_end map_of depth) ground.some_frame s.memory t.memory next_at running.base (behind ∷ fs)
          (λ x above high. number_at-same t.memory s.memory x 4 (λ y from below. others y (behind_counts y (omega arith))))
          (is_behind next_at refl next_below, stand.1, stand.2, stand.3)

      kept_agree : (t : Processor) → ((x : ℕ) → x ≢ 0 → x ≢ 1 → is_own x ≡ false → is_spoilt_by Drop x ≡ false → value t.registers x ≡ value s.registers x) → Agrees (kept_by (Routine Drop) known) t.registers
      kept_agree t kept x w is =
          let both = known_kept (is_spoilt_by Drop x) (known x) w is in
          let holds = running.registers x w both.1 in
          (holds.0, value_kept x s.registers t.registers (λ some. kept x some (handed_apart x 1 refl holds.0) (handed_own x holds.0) both.0) ∙ holds.1, holds.2)

      drop_comes : (work : Work) → drop_cells pool reference world.cells ≡ Some work
          → Comes map_of pool functions depth stop code parts (2 + (8 * work.gave + 52 * work.freed + 5)) old (placed_goes behind fs (kept_by (Routine Drop) known) (with_cells world (merged_cells work world.cells))) s
      drop_comes work work_is =
          let turns = turns_taken_first (2 + credit 1 1 (places pool) heap) work (reference ∷ []) world.cells.frees heap work_is in
          let gave = gave_by turns in
          let t = gave.after in
          let frames = stand_behind t gave.others in
          let newest = newest_waits map_of code (most_lines functions) stop (stack_end map_of depth) t.memory next_at running.base (behind ∷ fs) frames in
          let at_pc = subst (λ a. FramesAt map_of code (most_lines functions) stop (stack_end map_of depth) t.memory a running.base (behind ∷ fs)) (sym gave.pc_is) frames in
          comes_go map_of pool functions depth stop code parts (2 + (8 * work.gave + 52 * work.freed + 5)) old
          (record { frames = behind ∷ fs; registers = kept_by (Routine Drop) known; shared = with_cells world (merged_cells work world.cells) }) s t gave.steps gave.walks (record {
            rests = record {
              stands = Stands-leads gave.walks.leads running.rests.stands;
              parts_are = gave.parts_are ∙ running.rests.parts_are;
              constants = bytes_at-same t.memory s.memory map_of.constants.first (constant_bytes map_of) (λ x low high. gave.others x (constant_counts x low high)) ∙ running.rests.constants;
            };
            trace = gave.trace_is ∙ running.trace;
            left = gave.left_is ∙ running.left;
            bytes = subst (λ bytes. All (λ byte. byte < 256) bytes) (sym gave.left_is) running.bytes;
            room = running.room;
            base = running.base;
            base_is = gave.kept 2 (λ e. cc) (λ e. cc) refl refl ∙ framed_base ground f fs known world s running framed ∙ ap (λ b. b + frame_bias map_of.jumps) (sym newest);
            frames = runs_as map_of code (most_lines functions) stop (stack_end map_of depth) t.registers t.memory t.pc running.base (behind ∷ fs) at_pc;
            registers = kept_agree t gave.kept;
            one = gave.kept one_register (λ e. cc) (λ e. cc) refl (unspoilt_one Drop) ∙ running.one;
            header = gave.kept header_register (λ e. cc) (λ e. cc) refl (unspoilt_header Drop) ∙ running.header;
            cells = drop-holds running.cells work turns gave.memory gave.others;
          }) gave.some (omega (arith, gave.few))

      module _ (into : Option Operand) (turn : PlacedTurn World Ending) (good : turn ≢ stuck) where
        drop_by : (work : Option Work) → drop_cells pool reference world.cells ≡ work → gives_into (Routine Drop) into ≡ true
            → placed_served into (behind ∷ fs) (kept_by (Routine Drop) known) (gives_up work world) ≡ turn → Comes map_of pool functions depth stop code parts (2 + drop_count work) old turn s
        drop_by None work_is gives is = absurd (good (sym is))
        drop_by (Some work) work_is gives is =
            subst (λ t. Comes map_of pool functions depth stop code parts (2 + (8 * work.gave + 52 * work.freed + 5)) old t s)
            (gives_none ground f fs known world s running rest old forms framed Drop refl into gives 0 (kept_by (Routine Drop) known) (with_cells world (merged_cells work world.cells)) turn is) (drop_comes work work_is)

  -- the action, by its words
  pub drop_words : (drops : DropsReference forms.jumps code s.pc ground.give_up.0) (is_behind : (next : ℕ) → next_at ≡ next → next < 2 ^ 32 → IsIn map_of code (most_lines functions) next behind)
      (into : Option Operand) (turn : PlacedTurn World Ending) (good : turn ≢ stuck) (words : List ℕ) (held : Option ℕ)
      → PassesHeld ground f fs known world s running rest old forms framed words → gives_into (Routine Drop) into ≡ true
      → placed_served into (behind ∷ fs) (kept_by (Routine Drop) known) (served map_of.constants pool Drop words held world) ≡ turn
      → Comes map_of pool functions depth stop code parts (2 + lasts pool Drop words held world) old turn s
  drop_words drops is_behind into turn good [] held passes gives is = absurd (good (sym is))
  drop_words drops is_behind into turn good (reference ∷ other ∷ words) held passes gives is = absurd (good (sym is))
  drop_words drops is_behind into turn good (reference ∷ []) held passes gives is =
      drop_by drops reference (passes 10 reference refl).0 is_behind into turn good (drop_cells pool reference world.cells) refl gives is
