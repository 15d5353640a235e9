-- Calls of the runtime's routines by the machine of the placed form, followed by the processor.
use Rattle.std.proofs.Common.{◌≡◌, ◌≢◌, ◌==◌, ◌≤◌, ◌<◌, ◌&&◌, ◌⊎◌, inl, inr, ℕ, zero, suc, ◌+◌, ◌-◌, ◌%◌, ◌^◌, List, [], ◌∷◌, ◌++◌, length, take, drop, Option, Some, None, option_map, Bool, true, false, All, cond, map, nat_lt, nat_le, slice_get, if◌then◌else◌, refl, sym, ap, ◌∙◌, subst, arith, lit<, ◌*◌}
use Rattle.std.specs.List.{list_any}
use Rattle.std.proofs.Math.Seq.{drop-append_seam, take-append_seam}
use Rattle.std.proofs.lemmas.Bool.{or_parts, eqb-true, eqb-false}
use Rattle.std.proofs.lemmas.Bool.Decides.{nat_tests}
use Rattle.std.proofs.lemmas.List.Elements.{All-head, All-tail}
use Rattle.kk_base.specs.Memory.{Part}
use Rattle.kk_base.specs.Trace.{output, input, input_end}
use Rattle.kk_base.specs.Exits.{heap_full_exit}
use Rattle.rv_isa.specs.declared.asm.Action.{Action}
use Rattle.rv_isa.specs.declared.asm.Action.TheVariants.{Routine}
use Rattle.rv_isa.specs.declared.routine.Routine.{Routine as Called}
use Rattle.rv_isa.specs.declared.placed.Symbol.{Symbol}
use Rattle.rv_isa.specs.declared.routine.Routine.TheVariants.{Take, Drop, PrintInt, PrintText, ReadByte}
use Rattle.rv_isa.specs.declared.placed.Symbol.TheVariants as symbol
use Rattle.rv_isa.specs.declared.placed.Place.{Place}
use Rattle.rv_isa.specs.declared.placed.Place.TheVariants.{Register as register, Slot as slot}
use Rattle.rv_isa.specs.declared.placed.Operand.{Operand}
use Rattle.rv_isa.specs.PlacedCode.{PlacedLine, PlacedLines}
use Rattle.rv_isa.specs.Arithmetic.{signed}
use Rattle.rv_isa.specs.Conventions.{one_register, header_register, is_in, is_in_any, argument, takes_at, take_from, gives_into}
use Rattle.rv_isa.specs.Routines.{spoilt_by, given_by, is_spoilt_by}
use Rattle.rv_isa.specs.Primitives.{answers, fails, go, stuck, or_stuck}
use Rattle.rv_isa.specs.Frames.{Frame, put, all_of, top, top_taken}
use Rattle.rv_isa.specs.PlacedMachine.{PlacedTurn, read_at, kept_by, passed, placed_goes, placed_gives, placed_writes, placed_answered, placed_served}
use Rattle.rv_isa.specs.Bytes.{bytes_at, number_at}
use Rattle.rv_isa.specs.Processor.{Processor, Ending, exited, value, can_store}
use Rattle.rv_isa.specs.Standing.{Code}
use Rattle.rv_isa.proofs.Bytes.{length-bytes_at, bytes_at-same}
use Rattle.rv_isa.proofs.Memory.{bytes_at-add, number_at-same}
use Rattle.rv_isa.proofs.Standing.{Stands-leads}
use Rattle.cell_heap.specs.Pool.{end_of, IsCell}
use Rattle.cell_heap.specs.View.{Link}
use Rattle.cell_heap.specs.Memory.{IsHeldChain}
use Rattle.cell_heap.specs.Blocks.{Cells, seen_cells, view_of, takes, request_by, request}
use Rattle.cell_heap.specs.ProgramMemory.{HoldsCells, SameRoots}
use Rattle.cell_heap.proofs.Blocks.{outside-holds}
use Rattle.cell_runtime.specs.Takes.{IsFull, EmptiesSlot}
use Rattle.cell_runtime.proofs.Blocks.{word_kept, TakenBlock, of_free, of_link, take_blocks}
use Rattle.cell_runtime.specs.Registers.{IsOutside, own_of, KeptBy}
use Rattle.cell_runtime.specs.Calls.{IsAt, HasWayBack, Returns, KeepsOutside, Exits}
use Rattle.cell_runtime.specs.Prints.{put_of, buffer_bytes, int_piece, int_count, TakesNext}
use Rattle.cell_runtime.specs.Operations.{Constants, all_bytes}
use Rattle.cell_runtime.specs.Operations as OfConstants
use Rattle.cell_heap.specs.Pool.{Pool}
use Rattle.cell_runtime.specs.World.{World, with_cells, told_more, takes_cell, print_bytes, read_next, served, lasts}
use Rattle.rv_place.specs.Registers.{ra}
use Rattle.rv_place.specs.Instructions.{words_of_jump, CallsTo}
use Rattle.rv_place.specs.Addresses.{takes_frame, frame_bias}
use Rattle.rv_place.specs.declared.reach.Forms.{Forms}
use Rattle.rv_place.specs.Lines.{Map, IsSymbolAt}
use Rattle.rv_place.specs.Grounds.{Ground, stack_end, constant_bytes}
use Rattle.rv_place.specs.ProcessorStates.{most_lines, IsIn, FramesAt, links_of, Agrees, Running}
use Rattle.rv_place.proofs.PassedInstructions.{Walks, walks_done, walks_then, stands_part, returns_walk, passes_to_exit}
use Rattle.rv_place.proofs.CodeLines.{jump_some, jump_most}
use Rattle.rv_place.proofs.InstructionRows.{Jumped, jump_to, jump_last}
use Rattle.rv_place.proofs.FrameMemory.{handed_apart, agrees_put, frames_kept, waits_as, runs_as, newest_waits}
use Rattle.rv_place.proofs.HeldTokenLinks.{is_own, outside_own, handed_own, roots_done, cells_done, cells_ended, slots_below, frames_taken, top_none}
use Rattle.rv_place.proofs.JumpSimulation.{exit_runs}
use Rattle.rv_place.proofs.ArgumentWords.{passed_known}
use Rattle.rv_place.proofs.LineOutcomes.{Comes, comes_go, comes_ended, framed_base, sp_low}

-- ---- registers that a routine keeps

pub outside_spoilt : (x : ℕ) (spoilt : List ℕ) → list_any (λ y. y == x) spoilt ≡ false → IsOutside x spoilt
outside_spoilt x [] none = tt
outside_spoilt x (y ∷ ys) none =
    let both = or_parts (y == x) (list_any (λ y. y == x) ys) none in
    ((λ e. eqb-false y x both.0 (sym e)), outside_spoilt x ys both.1)

pub outside_both : (x : ℕ) (front back : List ℕ) → IsOutside x front → IsOutside x back → IsOutside x (front ++ back)
outside_both x [] back out later = later
outside_both x (y ∷ front) back out later = (out.0, outside_both x front back out.1 later)

-- the registers of the runtime that a routine may change
pub outside_own_of : (routine : Called) (x : ℕ) → is_own x ≡ false → IsOutside x (own_of routine)
outside_own_of routine x none =
    let first = or_parts (x == 8) _ none in
    let second = or_parts (x == 9) _ first.1 in
    let third = or_parts (x == 18) _ second.1 in
    by routine (eqb-false x 8 first.0) (eqb-false x 9 second.0) (eqb-false x 18 third.0)
  where
    by : (routine : Called) → x ≢ 8 → x ≢ 9 → x ≢ 18 → IsOutside x (own_of routine)
    by Take a b c = (a, (b, (c, tt)))
    by Drop a b c = (a, tt)
    by PrintInt a b c = tt
    by PrintText a b c = tt
    by ReadByte a b c = tt

-- none changes those that hold a word always
pub unspoilt_one : (routine : Called) → is_spoilt_by routine one_register ≡ false
unspoilt_one Take = refl
unspoilt_one Drop = refl
unspoilt_one PrintInt = refl
unspoilt_one PrintText = refl
unspoilt_one ReadByte = refl

pub unspoilt_header : (routine : Called) → is_spoilt_by routine header_register ≡ false
unspoilt_header Take = refl
unspoilt_header Drop = refl
unspoilt_header PrintInt = refl
unspoilt_header PrintText = refl
unspoilt_header ReadByte = refl

pub known_kept : (test : Bool) (other : Option ℕ) (w : ℕ) → cond test None other ≡ Some w → (test ≡ false) × (other ≡ Some w)
known_kept true other w is = cc
known_kept false other w is = (refl, is)

-- a request that finds no cell
no_cell : (pool : Pool) (cells : Cells) → cells.frees ≡ [] → nat_lt cells.border (end_of pool) ≡ false → request pool None cells ≡ None
no_cell pool cells none test =
    ap (λ fs. request_by pool fs None cells) none
    ∙ ap (λ b. if b then Some (cells.border, takes cells.border [] (cells.border + 32) cells, false) else option_map (λ x. (x, takes x [] cells.border cells, true)) None) test

-- ---- constant bytes in memory

slice_take : (at d count rest : ℕ) (memory : ℕ → ℕ) → take count (drop d (bytes_at memory at (d + (count + rest)))) ≡ bytes_at memory (at + d) count
slice_take at d count rest memory =
    let front = bytes_at memory at d in
    let middle = bytes_at memory (at + d) count in
    let back = bytes_at memory (at + d + count) rest in
    let whole : bytes_at memory at (d + (count + rest)) ≡ front ++ (middle ++ back) = bytes_at-add memory at d (count + rest) ∙ ap (λ l. front ++ l) (bytes_at-add memory (at + d) count rest) in
    let dropped : drop d (front ++ (middle ++ back)) ≡ middle ++ back = ap (λ n. drop n (front ++ (middle ++ back))) (sym (length-bytes_at memory at d)) ∙ drop-append_seam front (middle ++ back) in
    let taken : take count (middle ++ back) ≡ middle = ap (λ n. take n (middle ++ back)) (sym (length-bytes_at memory (at + d) count)) ∙ take-append_seam middle back in
    ap (λ l. take count (drop d l)) whole ∙ (ap (take count) dropped ∙ taken)

slice_is : (first at count size : ℕ) (memory : ℕ → ℕ) (bytes : List ℕ) → bytes_at memory first size ≡ bytes → first ≤ at → at + count ≤ first + size → take count (drop (at - first) bytes) ≡ bytes_at memory at count
slice_is first at count size memory bytes is low high =
    let d = at - first in
    let rest = size - (d + count) in
    let size_is : size ≡ d + (count + rest) = omega arith in
    let at_is : first + d ≡ at = omega arith in
    ap (λ l. take count (drop d l)) (sym is ∙ ap (λ n. bytes_at memory first n) size_is) ∙ (slice_take first d count rest memory ∙ ap (λ a. bytes_at memory a count) at_is)

-- constants that are asked for are there
pub record Slice (constants : Constants) (at count : ℕ) (bytes : List ℕ) : Type 0 where
  pub low : constants.first ≤ at
  pub high : at + count ≤ constants.first + length (all_bytes constants.texts)
  pub bytes_are : take count (drop (at - constants.first) (all_bytes constants.texts)) ≡ bytes

slice_by : (constants : Constants) (at count : ℕ) (bytes : List ℕ) (low high : Bool) → nat_le constants.first at ≡ low → nat_le (at + count) (constants.first + length (all_bytes constants.texts)) ≡ high
    → (if low && high then Some (take count (drop (at - constants.first) (all_bytes constants.texts))) else None) ≡ Some bytes → Slice constants at count bytes
slice_by constants at count bytes true true low high is = record { low = grind (arith, nat_tests); high = grind (arith, nat_tests); bytes_are = cc }
slice_by constants at count bytes true false low high is = cc
slice_by constants at count bytes false high low high_is is = cc

slice_there : (constants : Constants) (at count : ℕ) (bytes : List ℕ) → OfConstants.bytes_at constants at count ≡ Some bytes → Slice constants at count bytes
slice_there constants at count bytes is = slice_by constants at count bytes (nat_le constants.first at) (nat_le (at + count) (constants.first + length (all_bytes constants.texts))) refl refl is

-- ---- the way there and back

module _ {map_of : Map} {pool : Pool} {functions : List PlacedLines} {depth buffer stop : ℕ} {code : Code} {parts : List Part} (ground : Ground map_of pool functions depth buffer stop code parts)
    (f : Frame PlacedLine) (fs : List (Frame PlacedLine)) (known : ℕ → Option ℕ) (world : World) (s : Processor)
    (running : Running map_of pool functions depth stop code parts (record { frames = f ∷ fs; registers = known; shared = world }) s) (rest : List PlacedLine) (old : ℕ) (forms : Forms)
    (framed : takes_frame map_of.jumps f.whole ≡ true) where
  abbrev behind : Frame PlacedLine
  behind = record f { code = rest }

  symbol_word : (name : Symbol) (target : ℕ) → IsSymbolAt map_of name target → target % 4 ≡ 0
  symbol_word name target (before, place, is) = let word = ground.runtime_word in omega arith

  way_below : (target : ℕ) → CallsTo forms.jumps code s.pc target → s.pc + 4 * words_of_jump forms.jumps < 2 ^ 32
  way_below target calls = jump_last pool.cells ground.below forms.jumps s.pc ra target calls

  -- the state in which a routine begins
  pub record Begins (target : ℕ) : Type 0 where
    pub called : Jumped pool.cells code forms.jumps 1 (s.pc + 4 * words_of_jump forms.jumps) target s
    pub is_at : IsAt ground.own target called.after
    pub way_back : HasWayBack called.after
    pub way_fits : s.pc + 4 * words_of_jump forms.jumps < 2 ^ 32
    pub same : (x : ℕ) → x ≢ 1 → value called.after.registers x ≡ value s.registers x

  begins : (name : Symbol) (target : ℕ) → IsSymbolAt map_of name target → CallsTo forms.jumps code s.pc target → Begins target
  begins name target there calls =
      let called = jump_to pool.cells ground.below running.rests.stands forms.jumps s.pc refl ra target calls (symbol_word name target there) in
      let way = called.value_is (λ e. cc) in
      let fits = way_below target calls in
      let word = running.frames.0.at_word in
      let behind_word : (s.pc + 4 * words_of_jump forms.jumps) % 4 ≡ 0 = omega arith in
      record {
        called = called;
        is_at = record { stands = stands_part ground.own_part called.done.stands; pc_is = called.done.pc_is };
        way_back = record { aligned = rw way behind_word; in_range = rw way fits };
        way_fits = fits;
        same = λ x apart. called.done.kept x (apart, (apart, tt));
      }

  -- the state in which a routine is back
  pub record Back (routine : Called) (count : ℕ) (t : Processor) : Type 0 where
    pub walks : Walks map_of pool (words_of_jump forms.jumps + count) s t
    pub pc_is : t.pc ≡ s.pc + 4 * words_of_jump forms.jumps
    pub parts_are : t.parts ≡ s.parts
    pub kept : (x : ℕ) → x ≢ 1 → is_own x ≡ false → is_spoilt_by routine x ≡ false → value t.registers x ≡ value s.registers x

  back : (routine : Called) → {target : ℕ} (start : Begins target) (count : ℕ) (t : Processor) → Returns ground.own (symbol.Routine routine) count start.called.after t → Back routine count t
  back routine start count t returns = record {
    walks = walks_then (walks_done start.called.done) (returns_walk ground returns);
    pc_is = returns.back ∙ start.called.value_is (λ e. cc);
    parts_are = returns.parts ∙ start.called.done.parts_are;
    kept = λ x apart own spoilt. returns.registers x (outside_both x (own_of routine) (spoilt_by routine) (outside_own_of routine x own) (outside_spoilt x (spoilt_by routine) spoilt)) ∙ start.same x apart;
  }

  -- one that changes no register of the runtime
  roots_back : (routine : Called) → own_of routine ≡ [] → list_any is_own (spoilt_by routine) ≡ false → {target : ℕ} (start : Begins target) (count : ℕ) (t : Processor) → Returns ground.own (symbol.Routine routine) count start.called.after t → SameRoots s t
  roots_back routine none free start count t returns = record {
    parts = returns.parts ∙ start.called.done.parts_are;
    chain = returns.registers 8 (outside 8 refl) ∙ start.same 8 (λ e. cc);
    held = returns.registers 9 (outside 9 refl) ∙ start.same 9 (λ e. cc);
    border = returns.registers 18 (outside 18 refl) ∙ start.same 18 (λ e. cc);
    end = returns.registers 19 (outside 19 refl) ∙ start.same 19 (λ e. cc);
  }
    where
      outside : (x : ℕ) → is_own x ≡ true → KeptBy (symbol.Routine routine) x
      outside x own = rw none (outside_own x own (spoilt_by routine) free)

  kept_agree : (routine : Called) {count : ℕ} (t : Processor) → Back routine count t → Agrees (kept_by (Routine routine) known) t.registers
  kept_agree routine t back x w is =
      let both = known_kept (is_spoilt_by routine x) (known x) w is in
      let holds = running.registers x w both.1 in
      (holds.0, back.kept x (handed_apart x 1 refl holds.0) (handed_own x holds.0) both.0 ∙ holds.1, holds.2)

  -- ---- the run goes on behind the call

  -- the frames as those that wait
  waits_here : FramesAt map_of code (most_lines functions) stop (stack_end map_of depth) s.memory s.pc running.base (f ∷ fs)
  waits_here = waits_as map_of code (most_lines functions) stop (stack_end map_of depth) s.registers s.memory s.pc running.base f fs framed running.frames

  -- the buffer lies below the cells
  cells_stay : (t : Processor) → SameRoots s t → KeepsOutside buffer buffer_bytes s t → HoldsCells pool world.cells (links_of map_of running.base (f ∷ fs)) t
  cells_stay t roots memory =
      let low = sp_low ground f fs known world s running in
      let under = ground.buffer_below in
      let cells = ground.cells_below in
      let size = pool_size in
      outside-holds running.cells roots (record { same = λ x from upto. word_kept buffer buffer_bytes s t x memory (inr (omega arith)) })
      (slots_below map_of running.base (f ∷ fs) s.memory t.memory (λ x above. word_kept buffer buffer_bytes s t x memory (inr (omega arith))))
    where
      pool_size : pool.first ≤ end_of pool
      pool_size = omega arith

  comes_back : (most : ℕ) {routine : Called} {count : ℕ} (world' : World) (t : Processor) (known' : ℕ → Option ℕ) → Back routine count t → is_spoilt_by routine 2 ≡ false → SameRoots s t → world'.cells ≡ world.cells → 2 + count ≤ most
      → IsIn map_of code (most_lines functions) (s.pc + 4 * words_of_jump forms.jumps) behind → KeepsOutside buffer buffer_bytes s t → t.trace ≡ world'.trace → t.left ≡ world'.left → All (λ byte. byte < 256) t.left → Agrees known' t.registers
      → Comes map_of pool functions depth stop code parts most old (placed_goes behind fs known' world') s
  comes_back most {routine} {count} world' t known' back keeps roots same_cells within is_behind memory trace left bytes agrees =
      let stand = waits_here in
      let sp = running.base in
      let low = sp_low ground f fs known world s running in
      let under = ground.buffer_below in
      let cells = ground.cells_below in
      let size : pool.first ≤ end_of pool = omega arith in
      let base_is = back.kept 2 (λ e. cc) refl keeps ∙ running.base_is in
      let waiting : FramesAt map_of code (most_lines functions) stop (stack_end map_of depth) s.memory (s.pc + 4 * words_of_jump forms.jumps) sp (behind ∷ fs) = (is_behind, stand.1, stand.2, stand.3) in
      let frames : FramesAt map_of code (most_lines functions) stop (stack_end map_of depth) t.memory (s.pc + 4 * words_of_jump forms.jumps) sp (behind ∷ fs) =
      frames_kept map_of code (most_lines functions) stop (stack_end map_of depth) ground.some_frame s.memory t.memory (s.pc + 4 * words_of_jump forms.jumps) sp (behind ∷ fs)
      (λ x above high. number_at-same t.memory s.memory x 4 (λ y from below. memory y (inr (omega arith)))) waiting in
      let at_pc = subst (λ a. FramesAt map_of code (most_lines functions) stop (stack_end map_of depth) t.memory a sp (behind ∷ fs)) (sym back.pc_is) frames in
      comes_go map_of pool functions depth stop code parts most old (record { frames = behind ∷ fs; registers = known'; shared = world' }) s t (words_of_jump forms.jumps + count) back.walks (record {
        rests = record {
          stands = Stands-leads back.walks.leads running.rests.stands;
          parts_are = back.parts_are ∙ running.rests.parts_are;
          constants = constants_same (ground.constants_kept buffer buffer_bytes ground.buffer_stores (lit< tt)) ∙ running.rests.constants;
        };
        trace = trace;
        left = left;
        bytes = bytes;
        room = running.room;
        base = sp;
        base_is = base_is;
        frames = runs_as map_of code (most_lines functions) stop (stack_end map_of depth) t.registers t.memory t.pc sp (behind ∷ fs) at_pc;
        registers = agrees;
        one = back.kept one_register (λ e. cc) refl (unspoilt_one routine) ∙ running.one;
        header = back.kept header_register (λ e. cc) refl (unspoilt_header routine) ∙ running.header;
        cells = subst (λ c. HoldsCells pool c (links_of map_of sp (behind ∷ fs)) t) (sym same_cells) (cells_stay t roots memory);
      }) (omega (arith, jump_some forms.jumps)) (omega (arith, jump_most forms.jumps, within))
    where
      constants_same : (map_of.constants.first + constant_bytes map_of ≤ buffer) ⊎ (buffer + buffer_bytes ≤ map_of.constants.first)
          → bytes_at t.memory map_of.constants.first (constant_bytes map_of) ≡ bytes_at s.memory map_of.constants.first (constant_bytes map_of)
      constants_same (inl before) = bytes_at-same t.memory s.memory map_of.constants.first (constant_bytes map_of) (λ x low high. memory x (inl (omega arith)))
      constants_same (inr after) = bytes_at-same t.memory s.memory map_of.constants.first (constant_bytes map_of) (λ x low high. memory x (inr (omega arith)))

  -- ---- arguments and results

  pub two_taken : (k : ℕ) (place : Place) → is_in_any (slice_get (10 ∷ 11 ∷ []) k) place ≡ true → is_in (argument k) place ≡ true
  two_taken zero place is = is
  two_taken (suc zero) place is = is
  two_taken (suc (suc k)) place is = cc

  pub one_taken : (k : ℕ) (place : Place) → is_in_any (slice_get (10 ∷ []) k) place ≡ true → is_in (argument k) place ≡ true
  one_taken zero place is = is
  one_taken (suc k) place is = cc

  none_taken : (k : ℕ) (place : Place) → is_in_any (slice_get [] k) place ≡ true → is_in (argument k) place ≡ true
  none_taken k place is = cc

  -- a word that is passed is held
  abbrev pub PassesHeld : List ℕ → Type 0
  PassesHeld words = (x w : ℕ) → passed 0 words x ≡ Some w → (value s.registers x ≡ w) × (w < 2 ^ 32)

  pub held_words : (action : Action) (args : List Operand) (words : List ℕ) → ((k : ℕ) (place : Place) → takes_at action k place ≡ true → is_in (argument k) place ≡ true) → take_from action 0 args ≡ true
      → all_of (map (λ (arg : Operand). read_at known f.cells arg.place) args) ≡ Some words → PassesHeld words
  held_words action args words takes taken words_are x w is =
      let holds = running.registers x w (passed_known known f.cells s.registers running.registers action 0 args words takes taken words_are x w is) in (holds.1, holds.2)

  -- a routine that gives no word
  pub gives_none : (routine : Called) → given_by routine ≡ None → (into : Option Operand) → gives_into (Routine routine) into ≡ true → (word : ℕ) (known' : ℕ → Option ℕ) (world' : World) → (t : PlacedTurn World Ending)
      → placed_gives into word behind fs known' world' ≡ t → placed_goes behind fs known' world' ≡ t
  gives_none routine none None gives word known' world' t is = is
  gives_none routine none (Some into) gives word known' world' t is =
      let never : is_in_any None into.place ≡ true = subst (λ given. is_in_any given into.place ≡ true) none gives in cc

  keeps_from : (count : ℕ) (c t : Processor) → count ≤ buffer_bytes → c.memory ≡ s.memory → KeepsOutside buffer count c t → KeepsOutside buffer buffer_bytes s t
  keeps_from count c t few same keeps x (inl before) = keeps x (inl before) ∙ ap (λ (m : ℕ → ℕ). m x) same
  keeps_from count c t few same keeps x (inr after) = keeps x (inr (omega arith)) ∙ ap (λ (m : ℕ → ℕ). m x) same

  module _ (is_behind : (next : ℕ) → s.pc + 4 * words_of_jump forms.jumps ≡ next → next < 2 ^ 32 → IsIn map_of code (most_lines functions) next behind) (into : Option Operand) (turn : PlacedTurn World Ending) (good : turn ≢ stuck) where
    -- ---- print-int

    print_int_comes : (word choice : ℕ) → value s.registers 10 ≡ word → word < 2 ^ 32 → value s.registers 11 ≡ choice → choice ≤ 1 → CallsTo forms.jumps code s.pc ground.print_int.0
        → Comes map_of pool functions depth stop code parts (2 + int_count (signed word)) old (placed_goes behind fs (kept_by (Routine PrintInt) known) (told_more (output (int_piece word choice) ∷ []) world)) s
    print_int_comes word choice word_is fits choice_is few calls =
        let start = begins (symbol.Routine PrintInt) ground.print_int.0 ground.print_int.1 calls in
        let c = start.called.after in
        let on_parts : c.parts ≡ parts = start.called.done.parts_are ∙ running.rests.parts_are in
        let first : value c.registers 10 ≡ word = start.same 10 (λ e. cc) ∙ word_is in
        let second : value c.registers 11 ≡ choice = start.same 11 (λ e. cc) ∙ choice_is in
        let under = ground.buffer_below in
        let range = ground.in_range in
        let printed = ground.print_int.2 c start.is_at (record {
          way_back = start.way_back;
          word = rw first fits;
          choice = rw second few;
          in_range = omega arith;
          stored = rw on_parts ground.buffer_stores;
          loaded = rw on_parts ground.buffer_loads;
        }) in
        let t = printed.0 in
        let done = printed.1 in
        let count_is : int_count (signed (value c.registers 10)) ≡ int_count (signed word) = ap (λ w. int_count (signed w)) first in
        let back_at = back PrintInt start (int_count (signed (value c.registers 10))) t done.returns in
        comes_back (2 + int_count (signed word)) (told_more (output (int_piece word choice) ∷ []) world) t (kept_by (Routine PrintInt) known) back_at refl (roots_back PrintInt refl refl start (int_count (signed (value c.registers 10))) t done.returns) refl (omega arith) (is_behind (s.pc + 4 * words_of_jump forms.jumps) refl start.way_fits)
        (keeps_from buffer_bytes c t (omega arith) start.called.done.memory_is done.memory)
        (done.trace ∙ (rw (first, second) (ap (λ l. l ++ output (int_piece word choice) ∷ []) (start.called.done.trace_is ∙ running.trace))))
        (done.left ∙ (start.called.done.left_is ∙ running.left)) (subst (λ bytes. All (λ byte. byte < 256) bytes) (sym (done.left ∙ start.called.done.left_is)) running.bytes) (kept_agree PrintInt t back_at)

    print_int_by : (word choice : ℕ) (small : Bool) → nat_le choice 1 ≡ small → (fitting : Bool) → nat_lt word (2 ^ 32) ≡ fitting → value s.registers 10 ≡ word → value s.registers 11 ≡ choice → CallsTo forms.jumps code s.pc ground.print_int.0 → gives_into (Routine PrintInt) into ≡ true
        → placed_served into (behind ∷ fs) (kept_by (Routine PrintInt) known) (if fitting && small then answers 0 (told_more (output (int_piece word choice) ∷ []) world) false else fails) ≡ turn
        → Comes map_of pool functions depth stop code parts (2 + int_count (signed word)) old turn s
    print_int_by word choice true small true fitting word_is choice_is calls gives is =
        let few : choice ≤ 1 = grind (arith, nat_tests) in
        let fits : word < 2 ^ 32 = grind (arith, nat_tests) in
        subst (λ t. Comes map_of pool functions depth stop code parts (2 + int_count (signed word)) old t s)
        (gives_none PrintInt refl into gives 0 (kept_by (Routine PrintInt) known) (told_more (output (int_piece word choice) ∷ []) world) turn is)
        (print_int_comes word choice word_is fits choice_is few calls)
    print_int_by word choice false small true fitting word_is choice_is calls gives is = absurd (good (sym is))
    print_int_by word choice small small_is false fitting word_is choice_is calls gives is = absurd (good (sym is))

    pub print_int_words : (words : List ℕ) (held : Option ℕ) → PassesHeld words → CallsTo forms.jumps code s.pc ground.print_int.0 → gives_into (Routine PrintInt) into ≡ true
        → placed_served into (behind ∷ fs) (kept_by (Routine PrintInt) known) (served map_of.constants pool PrintInt words held world) ≡ turn
        → Comes map_of pool functions depth stop code parts (2 + lasts pool PrintInt words held world) old turn s
    print_int_words [] held passes calls gives is = absurd (good (sym is))
    print_int_words (word ∷ []) held passes calls gives is = absurd (good (sym is))
    print_int_words (word ∷ choice ∷ []) held passes calls gives is =
        print_int_by word choice (nat_le choice 1) refl (nat_lt word (2 ^ 32)) refl (passes 10 word refl).0 (passes 11 choice refl).0 calls gives is
    print_int_words (word ∷ choice ∷ other ∷ words) held passes calls gives is = absurd (good (sym is))

    -- ---- print-text

    print_text_comes : (at count : ℕ) (bytes : List ℕ) → value s.registers 10 ≡ at → value s.registers 11 ≡ count → at < 2 ^ 32 → count < 2 ^ 32 → OfConstants.bytes_at map_of.constants at count ≡ Some bytes → CallsTo forms.jumps code s.pc ground.print_text.0
        → Comes map_of pool functions depth stop code parts 8 old (placed_goes behind fs (kept_by (Routine PrintText) known) (told_more (put_of bytes) world)) s
    print_text_comes at count bytes at_is count_is at_fits count_fits bytes_are calls =
        let start = begins (symbol.Routine PrintText) ground.print_text.0 ground.print_text.1 calls in
        let c = start.called.after in
        let on_parts : c.parts ≡ parts = start.called.done.parts_are ∙ running.rests.parts_are in
        let first : value c.registers 10 ≡ at = start.same 10 (λ e. cc) ∙ at_is in
        let second : value c.registers 11 ≡ count = start.same 11 (λ e. cc) ∙ count_is in
        let slice = slice_there map_of.constants at count bytes bytes_are in
        let printed = ground.print_text.2 c start.is_at (record {
          way_back = start.way_back;
          address = rw first at_fits;
          count = rw second count_fits;
          loaded = rw (first, second, on_parts) (ground.constants_load at count slice.low slice.high);
        }) in
        let t = printed.0 in
        let done = printed.1 in
        let memory_is : t.memory ≡ s.memory = done.memory ∙ start.called.done.memory_is in
        let put_is : bytes_at c.memory (value c.registers 10) (value c.registers 11) ≡ bytes =
        rw (first, second, start.called.done.memory_is) (sym (slice_is map_of.constants.first at count (constant_bytes map_of) s.memory (all_bytes map_of.constants.texts) running.rests.constants slice.low slice.high) ∙ slice.bytes_are) in
        let back_at = back PrintText start 6 t done.returns in
        comes_back 8 (told_more (put_of bytes) world) t (kept_by (Routine PrintText) known) back_at refl (roots_back PrintText refl refl start 6 t done.returns) refl (omega arith) (is_behind (s.pc + 4 * words_of_jump forms.jumps) refl start.way_fits)
        (λ x out. ap (λ (m : ℕ → ℕ). m x) memory_is)
        (done.trace ∙ (rw put_is (ap (λ l. l ++ put_of bytes) (start.called.done.trace_is ∙ running.trace))))
        (done.left ∙ (start.called.done.left_is ∙ running.left)) (subst (λ left. All (λ byte. byte < 256) left) (sym (done.left ∙ start.called.done.left_is)) running.bytes) (kept_agree PrintText t back_at)

    print_text_by : (at count : ℕ) (bytes : Option (List ℕ)) → OfConstants.bytes_at map_of.constants at count ≡ bytes → value s.registers 10 ≡ at → value s.registers 11 ≡ count → at < 2 ^ 32 → count < 2 ^ 32 → CallsTo forms.jumps code s.pc ground.print_text.0
        → gives_into (Routine PrintText) into ≡ true → placed_served into (behind ∷ fs) (kept_by (Routine PrintText) known) (print_bytes bytes world) ≡ turn → Comes map_of pool functions depth stop code parts 8 old turn s
    print_text_by at count None bytes_are at_is count_is at_fits count_fits calls gives is = absurd (good (sym is))
    print_text_by at count (Some bytes) bytes_are at_is count_is at_fits count_fits calls gives is =
        subst (λ t. Comes map_of pool functions depth stop code parts 8 old t s)
        (gives_none PrintText refl into gives 0 (kept_by (Routine PrintText) known) (told_more (put_of bytes) world) turn is)
        (print_text_comes at count bytes at_is count_is at_fits count_fits bytes_are calls)

    pub print_text_words : (words : List ℕ) (held : Option ℕ) → PassesHeld words → CallsTo forms.jumps code s.pc ground.print_text.0 → gives_into (Routine PrintText) into ≡ true
        → placed_served into (behind ∷ fs) (kept_by (Routine PrintText) known) (served map_of.constants pool PrintText words held world) ≡ turn → Comes map_of pool functions depth stop code parts 8 old turn s
    print_text_words [] held passes calls gives is = absurd (good (sym is))
    print_text_words (at ∷ []) held passes calls gives is = absurd (good (sym is))
    print_text_words (at ∷ count ∷ []) held passes calls gives is =
        let first = passes 10 at refl in
        let second = passes 11 count refl in
        print_text_by at count (OfConstants.bytes_at map_of.constants at count) refl first.0 second.0 first.1 second.1 calls gives is
    print_text_words (at ∷ count ∷ other ∷ words) held passes calls gives is = absurd (good (sym is))

    -- ---- read-byte

    -- its word goes to the first register of arguments, or is lost
    read_gives : {count : ℕ} (word : ℕ) (world' : World) (t : Processor) → Back ReadByte count t → SameRoots s t → world'.cells ≡ world.cells → count ≤ 10 → s.pc + 4 * words_of_jump forms.jumps < 2 ^ 32 → KeepsOutside buffer buffer_bytes s t → value t.registers 10 ≡ word → word < 2 ^ 32
        → t.trace ≡ world'.trace → t.left ≡ world'.left → All (λ byte. byte < 256) t.left → gives_into (Routine ReadByte) into ≡ true
        → placed_gives into word behind fs (kept_by (Routine ReadByte) known) world' ≡ turn → Comes map_of pool functions depth stop code parts 12 old turn s
    read_gives {count} word world' t back_at roots same_cells few way memory word_is fits trace left bytes gives is = by into gives is
      where
        kept : Agrees (kept_by (Routine ReadByte) known) t.registers
        kept = kept_agree ReadByte t back_at

        comes : (known' : ℕ → Option ℕ) → Agrees known' t.registers → Comes map_of pool functions depth stop code parts 12 old (placed_goes behind fs known' world') s
        comes known' agrees = comes_back 12 world' t known' back_at refl roots same_cells (omega arith) (is_behind (s.pc + 4 * words_of_jump forms.jumps) refl way) memory trace left bytes agrees

        at_place : (place : Place) → is_in 10 place ≡ true → placed_writes place (Some word) behind fs (kept_by (Routine ReadByte) known) world' ≡ turn → Comes map_of pool functions depth stop code parts 12 old turn s
        at_place (slot k) gives is = cc
        at_place (register r) gives is =
            let number : r.number ≡ 10 = eqb-true r.number 10 gives in
            let agrees : Agrees (put r.number (Some word) (kept_by (Routine ReadByte) known)) t.registers =
            agrees_put r.number (Some word) (kept_by (Routine ReadByte) known) t.registers t.registers kept (rw number refl)
            (λ w same. let e : word ≡ w = cc in (rw number (word_is ∙ e), subst (λ v. v < 2 ^ 32) e fits)) (λ x handed apart. refl) in
            subst (λ u. Comes map_of pool functions depth stop code parts 12 old u s) is (comes (put r.number (Some word) (kept_by (Routine ReadByte) known)) agrees)

        by : (o : Option Operand) → gives_into (Routine ReadByte) o ≡ true → placed_gives o word behind fs (kept_by (Routine ReadByte) known) world' ≡ turn → Comes map_of pool functions depth stop code parts 12 old turn s
        by None gives is = subst (λ u. Comes map_of pool functions depth stop code parts 12 old u s) is (comes (kept_by (Routine ReadByte) known) kept)
        by (Some o) gives is = at_place o.place gives is

    read_by : (input_left : List ℕ) (start : Begins ground.read_byte.0) (t : Processor) → TakesNext ground.own input_left start.called.after t → s.left ≡ input_left → KeepsOutside buffer buffer_bytes s t → gives_into (Routine ReadByte) into ≡ true
        → placed_served into (behind ∷ fs) (kept_by (Routine ReadByte) known) (read_next input_left world) ≡ turn → Comes map_of pool functions depth stop code parts 12 old turn s
    read_by [] start t takes left_is memory gives is =
        let back_at = back ReadByte start 9 t takes.0 in
        let none : t.left ≡ world.left = takes.3 ∙ (sym left_is ∙ running.left) in
        read_gives (2 ^ 32 - 1) (told_more (input_end ∷ []) world) t back_at (roots_back ReadByte refl refl start 9 t takes.0) refl (omega arith) start.way_fits memory takes.1 (lit< tt)
        (takes.2 ∙ ap (λ l. l ++ input_end ∷ []) (start.called.done.trace_is ∙ running.trace)) none (subst (λ bytes. All (λ byte. byte < 256) bytes) (sym (takes.3 ∙ sym left_is)) running.bytes) gives is
    read_by (byte ∷ later) start t takes left_is memory gives is =
        let back_at = back ReadByte start 10 t takes.0 in
        let bytes : All (λ byte. byte < 256) (byte ∷ later) = subst (λ bytes. All (λ byte. byte < 256) bytes) left_is running.bytes in
        let small : byte < 256 = All-head (λ byte. byte < 256) byte later bytes in
        read_gives byte (record (told_more (input byte ∷ []) world) { left = later }) t back_at (roots_back ReadByte refl refl start 10 t takes.0) refl (omega arith) start.way_fits memory takes.1 (omega arith)
        (takes.2 ∙ ap (λ l. l ++ input byte ∷ []) (start.called.done.trace_is ∙ running.trace)) takes.3 (subst (λ bytes. All (λ byte. byte < 256) bytes) (sym takes.3) (All-tail (λ byte. byte < 256) byte later bytes)) gives is

    read_byte_comes : CallsTo forms.jumps code s.pc ground.read_byte.0 → gives_into (Routine ReadByte) into ≡ true
        → placed_served into (behind ∷ fs) (kept_by (Routine ReadByte) known) (read_next world.left world) ≡ turn → Comes map_of pool functions depth stop code parts 12 old turn s
    read_byte_comes calls gives is =
        let start = begins (symbol.Routine ReadByte) ground.read_byte.0 ground.read_byte.1 calls in
        let c = start.called.after in
        let on_parts : c.parts ≡ parts = start.called.done.parts_are ∙ running.rests.parts_are in
        let under = ground.buffer_below in
        let range = ground.in_range in
        let taken = ground.read_byte.2 c start.is_at (record {
          way_back = start.way_back;
          in_range = omega arith;
          stored = rw on_parts ground.byte_stores;
          loaded = rw on_parts ground.byte_loads;
        }) in
        let left_is : c.left ≡ world.left = start.called.done.left_is ∙ running.left in
        read_by world.left start taken.0 (subst (λ left. TakesNext ground.own left c taken.0) left_is taken.1.takes) running.left (keeps_from 1 c taken.0 (omega arith) start.called.done.memory_is taken.1.memory) gives is

    pub read_byte_words : (words : List ℕ) (held : Option ℕ) → CallsTo forms.jumps code s.pc ground.read_byte.0 → gives_into (Routine ReadByte) into ≡ true
        → placed_served into (behind ∷ fs) (kept_by (Routine ReadByte) known) (served map_of.constants pool ReadByte words held world) ≡ turn → Comes map_of pool functions depth stop code parts 12 old turn s
    read_byte_words [] held calls gives is = read_byte_comes calls gives is
    read_byte_words (word ∷ words) held calls gives is = absurd (good (sym is))

    -- ---- cells

    -- the cell that a request gives comes to x5, or is lost
    given_word : (most word : ℕ) (g : Frame PlacedLine) (gs : List (Frame PlacedLine)) (known' : ℕ → Option ℕ) (world' : World) (t : Processor) → Agrees known' t.registers → value t.registers 5 ≡ word → word < 2 ^ 32
        → ((known'' : ℕ → Option ℕ) → Agrees known'' t.registers → Comes map_of pool functions depth stop code parts most old (placed_goes g gs known'' world') s)
        → (o : Option Operand) → gives_into (Routine Take) o ≡ true → placed_gives o word g gs known' world' ≡ turn → Comes map_of pool functions depth stop code parts most old turn s
    given_word most word g gs known' world' t agrees word_is fits comes None gives is = subst (λ u. Comes map_of pool functions depth stop code parts most old u s) is (comes known' agrees)
    given_word most word g gs known' world' t agrees word_is fits comes (Some o) gives is = at_place o.place gives is
      where
        at_place : (place : Place) → is_in 5 place ≡ true → placed_writes place (Some word) g gs known' world' ≡ turn → Comes map_of pool functions depth stop code parts most old turn s
        at_place (slot k) gives is = cc
        at_place (register r) gives is =
            let number : r.number ≡ 5 = eqb-true r.number 5 gives in
            let with_word : Agrees (put r.number (Some word) known') t.registers =
            agrees_put r.number (Some word) known' t.registers t.registers agrees (rw number refl)
            (λ w same. let e : word ≡ w = cc in (rw number (word_is ∙ e), subst (λ v. v < 2 ^ 32) e fits)) (λ x handed apart. refl) in
            subst (λ u. Comes map_of pool functions depth stop code parts most old u s) is (comes (put r.number (Some word) known') with_word)

    -- the run goes on with other cells, in frames of which one may have lost a token
    cells_come : (most : ℕ) {routine : Called} {count : ℕ} (next : Cells) (t : Processor) (frames : List (Frame PlacedLine)) (known' : ℕ → Option ℕ) → Back routine count t → is_spoilt_by routine 2 ≡ false → 2 + count ≤ most
        → FramesAt map_of code (most_lines functions) stop (stack_end map_of depth) t.memory (s.pc + 4 * words_of_jump forms.jumps) running.base frames → length frames ≡ length (f ∷ fs)
        → bytes_at t.memory map_of.constants.first (constant_bytes map_of) ≡ bytes_at s.memory map_of.constants.first (constant_bytes map_of)
        → t.trace ≡ s.trace → t.left ≡ s.left → Agrees known' t.registers → HoldsCells pool next (links_of map_of running.base frames) t
        → Comes map_of pool functions depth stop code parts most old (go (record { frames = frames; registers = known'; shared = with_cells world next })) s
    cells_come most {routine} {count} next t frames known' back keeps within stand size constants trace left agrees holds =
        let base_is = back.kept 2 (λ e. cc) refl keeps ∙ framed_base ground f fs known world s running framed in
        let newest = newest_waits map_of code (most_lines functions) stop (stack_end map_of depth) t.memory (s.pc + 4 * words_of_jump forms.jumps) running.base frames stand in
        let room = running.room in
        let at_pc = subst (λ a. FramesAt map_of code (most_lines functions) stop (stack_end map_of depth) t.memory a running.base frames) (sym back.pc_is) stand in
        comes_go map_of pool functions depth stop code parts most old (record { frames = frames; registers = known'; shared = with_cells world next }) s t (words_of_jump forms.jumps + count) back.walks (record {
          rests = record {
            stands = Stands-leads back.walks.leads running.rests.stands;
            parts_are = back.parts_are ∙ running.rests.parts_are;
            constants = constants ∙ running.rests.constants;
          };
          trace = trace ∙ running.trace;
          left = left ∙ running.left;
          bytes = subst (λ bytes. All (λ byte. byte < 256) bytes) (sym left) running.bytes;
          room = omega (arith, size, room);
          base = running.base;
          base_is = base_is ∙ ap (λ b. b + frame_bias map_of.jumps) (sym newest);
          frames = runs_as map_of code (most_lines functions) stop (stack_end map_of depth) t.registers t.memory t.pc running.base frames at_pc;
          registers = agrees;
          one = back.kept one_register (λ e. cc) refl (unspoilt_one routine) ∙ running.one;
          header = back.kept header_register (λ e. cc) refl (unspoilt_header routine) ∙ running.header;
          cells = holds;
        }) (omega (arith, jump_some forms.jumps)) (omega (arith, jump_most forms.jumps, within))

    abbrev links_here : List Link
    links_here = links_of map_of running.base (f ∷ fs)

    -- the cells where a routine begins
    cells_begin : {target : ℕ} (start : Begins target) → HoldsCells pool world.cells links_here start.called.after
    cells_begin start = cells_done running.cells (roots_done start.called.done refl) start.called.done.memory_is

    waits_behind : s.pc + 4 * words_of_jump forms.jumps < 2 ^ 32 → FramesAt map_of code (most_lines functions) stop (stack_end map_of depth) s.memory (s.pc + 4 * words_of_jump forms.jumps) running.base (behind ∷ fs)
    waits_behind fits = let stand = waits_here in (is_behind (s.pc + 4 * words_of_jump forms.jumps) refl fits, stand.1, stand.2, stand.3)

    -- ---- take

    -- a free cell was given
    take_free : (cell count : ℕ) (next : Cells) (start : Begins ground.take.0) (t : Processor) → Back Take count t → count ≤ 8 → cell < 2 ^ 32 → value t.registers 5 ≡ cell → t.memory ≡ s.memory → t.trace ≡ s.trace → t.left ≡ s.left
        → ((newest : Option ℕ) → request pool newest world.cells ≡ Some (cell, next, false)) → HoldsCells pool next links_here t → gives_into (Routine Take) into ≡ true
        → placed_served into (behind ∷ fs) (kept_by (Routine Take) known) (takes_cell (request pool (top (f ∷ fs)) world.cells) world) ≡ turn → Comes map_of pool functions depth stop code parts 10 old turn s
    take_free cell count next start t back_at few fits word_is same trace left request_is holds gives is =
        let served_is : placed_gives into cell behind fs (kept_by (Routine Take) known) (with_cells world next) ≡ turn =
        ap (λ r. placed_served into (behind ∷ fs) (kept_by (Routine Take) known) (takes_cell r world)) (sym (request_is (top (f ∷ fs)))) ∙ is in
        let stand = subst (λ m. FramesAt map_of code (most_lines functions) stop (stack_end map_of depth) m (s.pc + 4 * words_of_jump forms.jumps) running.base (behind ∷ fs)) (sym same) (waits_behind start.way_fits) in
        given_word 10 cell behind fs (kept_by (Routine Take) known) (with_cells world next) t (kept_agree Take t back_at) word_is fits
        (λ known' agrees. cells_come 10 next t (behind ∷ fs) known' back_at refl (omega arith) stand refl (ap (λ m. bytes_at m map_of.constants.first (constant_bytes map_of)) same) trace left agrees holds) into gives served_is

    -- the newest held token was taken
    take_held : (link : Link) (left_links : List Link) (count : ℕ) (next : Cells) (start : Begins ground.take.0) (t : Processor) → Back Take count t → count ≤ 8 → link.cell < 2 ^ 32 → link.cell ≢ 0 → value t.registers 5 ≡ link.cell
        → number_at t.memory link.slot 4 ≡ 0 → KeepsOutside link.slot 4 s t → t.trace ≡ s.trace → t.left ≡ s.left → links_here ≡ link ∷ left_links → request pool (Some link.cell) world.cells ≡ Some (link.cell, next, true)
        → HoldsCells pool next left_links t → gives_into (Routine Take) into ≡ true
        → placed_served into (behind ∷ fs) (kept_by (Routine Take) known) (takes_cell (request pool (top (f ∷ fs)) world.cells) world) ≡ turn → Comes map_of pool functions depth stop code parts 10 old turn s
    take_held link left_links count next start t back_at few fits some word_is emptied keeps trace left newest request_is holds gives is =
        let chain = subst (IsHeldChain pool s.parts s.memory (seen_cells world.cells) (value s.registers 9)) newest running.cells.memory.held in
        let taken = frames_taken map_of code (most_lines functions) stop (stack_end map_of depth) ground.some_frame s t link left_links some chain.3 emptied keeps (s.pc + 4 * words_of_jump forms.jumps) running.base (behind ∷ fs) newest (waits_behind start.way_fits) in
        let asked : request pool (top (f ∷ fs)) world.cells ≡ Some (link.cell, next, true) = ap (λ newest. request pool newest world.cells) taken.top_is ∙ request_is in
        let served_is : or_stuck (top_taken (behind ∷ fs)) (λ left. placed_answered into link.cell left (kept_by (Routine Take) known) (with_cells world next)) ≡ turn =
        ap (λ r. placed_served into (behind ∷ fs) (kept_by (Routine Take) known) (takes_cell r world)) (sym asked) ∙ is in
        let resumed : placed_answered into link.cell taken.after (kept_by (Routine Take) known) (with_cells world next) ≡ turn =
        ap (λ (o : Option (List (Frame PlacedLine))). or_stuck o (λ left. placed_answered into link.cell left (kept_by (Routine Take) known) (with_cells world next))) (sym taken.taken_is) ∙ served_is in
        resume taken.after taken.size taken.stand (subst (λ links. HoldsCells pool next links t) (sym taken.links_are) holds)
        (constants_word (subst (λ p. can_store p link.slot 4 ≡ true) running.rests.parts_are chain.1.is_slot.stores)) resumed
      where
        constants_word : can_store parts link.slot 4 ≡ true → bytes_at t.memory map_of.constants.first (constant_bytes map_of) ≡ bytes_at s.memory map_of.constants.first (constant_bytes map_of)
        constants_word allowed = elim (ground.constants_kept link.slot 4 allowed (lit< tt)) [
          | inl before ↦ bytes_at-same t.memory s.memory map_of.constants.first (constant_bytes map_of) (λ x low high. keeps x (inl (omega arith)))
          | inr after ↦ bytes_at-same t.memory s.memory map_of.constants.first (constant_bytes map_of) (λ x low high. keeps x (inr (omega arith)))
        ]

        resume : (after : List (Frame PlacedLine)) → length after ≡ length (behind ∷ fs) → FramesAt map_of code (most_lines functions) stop (stack_end map_of depth) t.memory (s.pc + 4 * words_of_jump forms.jumps) running.base after
            → HoldsCells pool next (links_of map_of running.base after) t
            → bytes_at t.memory map_of.constants.first (constant_bytes map_of) ≡ bytes_at s.memory map_of.constants.first (constant_bytes map_of)
            → placed_answered into link.cell after (kept_by (Routine Take) known) (with_cells world next) ≡ turn → Comes map_of pool functions depth stop code parts 10 old turn s
        resume [] size stand holds constants is = absurd (omega (arith, size))
        resume (g ∷ gs) size stand holds constants is =
            given_word 10 link.cell g gs (kept_by (Routine Take) known) (with_cells world next) t (kept_agree Take t back_at) word_is fits
            (λ known' agrees. cells_come 10 next t (g ∷ gs) known' back_at refl (omega arith) stand size constants trace left agrees holds) into gives is

    -- there is no cell
    take_full : (start : Begins ground.take.0) → IsFull pool (view_of world.cells links_here) → Exits ground.own heap_full_exit 6 start.called.after
        → placed_served into (behind ∷ fs) (kept_by (Routine Take) known) (takes_cell (request pool (top (f ∷ fs)) world.cells) world) ≡ turn → Comes map_of pool functions depth stop code parts 10 old turn s
    take_full start full exits is =
        let done = start.called.done in
        let none = top_none map_of running.base (f ∷ fs) full.held in
        let test : nat_lt world.cells.border (end_of pool) ≡ false = (let border = full.border in grind (arith, nat_tests)) in
        let asked : request pool (top (f ∷ fs)) world.cells ≡ None = ap (λ newest. request pool newest world.cells) none ∙ no_cell pool world.cells full.chain test in
        subst (λ t. Comes map_of pool functions depth stop code parts 10 old t s) (ap (λ r. placed_served into (behind ∷ fs) (kept_by (Routine Take) known) (takes_cell r world)) (sym asked) ∙ is)
        (comes_ended map_of pool functions depth stop code parts 10 old (exited heap_full_exit) world s (words_of_jump forms.jumps + 6) (record { processor = exits.last; ending = exited heap_full_exit }) (exit_runs s start.called.after done.leads exits)
        (passes_to_exit ground done exits)
        (refl, exits.trace ∙ (done.trace_is ∙ running.trace), (links_here, cells_ended (cells_begin start) exits)) (omega arith) (omega (arith, jump_most forms.jumps)))

    take_case : (start : Begins ground.take.0) (t : Processor) (cell count : ℕ) (slot_lost : Option ℕ) → Back Take count t → count ≤ 8 → IsCell pool cell → value t.registers 5 ≡ cell → EmptiesSlot slot_lost start.called.after t
        → t.trace ≡ s.trace → t.left ≡ s.left → TakenBlock pool world.cells links_here t cell slot_lost → gives_into (Routine Take) into ≡ true
        → placed_served into (behind ∷ fs) (kept_by (Routine Take) known) (takes_cell (request pool (top (f ∷ fs)) world.cells) world) ≡ turn → Comes map_of pool functions depth stop code parts 10 old turn s
    take_case start t cell count None back_at few is_cell word_is memory trace left (of_free next request_is holds) gives is =
        let usable = running.cells.memory.usable in
        take_free cell count next start t back_at few (omega (arith, is_cell.before, usable.below)) word_is (memory ∙ start.called.done.memory_is) trace left request_is holds gives is
    take_case start t cell count (Some lost) back_at few is_cell word_is memory trace left (of_link link left_links next newest request_is holds) gives is =
        let usable = running.cells.memory.usable in
        take_held link left_links count next start t back_at few (omega (arith, is_cell.before, usable.below)) (λ e. omega (arith, e, is_cell.behind, usable.some)) word_is memory.0
        (λ x apart. memory.1 x apart ∙ ap (λ (m : ℕ → ℕ). m x) start.called.done.memory_is) trace left newest request_is holds gives is

    take_comes : CallsTo forms.jumps code s.pc ground.take.0 → gives_into (Routine Take) into ≡ true
        → placed_served into (behind ∷ fs) (kept_by (Routine Take) known) (takes_cell (request pool (top (f ∷ fs)) world.cells) world) ≡ turn → Comes map_of pool functions depth stop code parts 10 old turn s
    take_comes calls gives is =
        let start = begins (symbol.Routine Take) ground.take.0 ground.take.1 calls in
        let holds = cells_begin start in
        elim (ground.take.2 (view_of world.cells links_here) start.called.after start.is_at start.way_back holds.memory) [
          | inl there ↦
              let given = take_blocks holds there.1 in
              take_case start there.0 there.1.cell there.1.count there.1.slot (back Take start there.1.count there.0 there.1.returns) given.0 given.1 there.1.gives there.1.memory
              (there.1.trace ∙ start.called.done.trace_is) (there.1.left ∙ start.called.done.left_is) given.2 gives is
          | inr full ↦ take_full start full.0 full.1 is
        ]

    pub take_words : (words : List ℕ) → CallsTo forms.jumps code s.pc ground.take.0 → gives_into (Routine Take) into ≡ true
        → placed_served into (behind ∷ fs) (kept_by (Routine Take) known) (served map_of.constants pool Take words (top (f ∷ fs)) world) ≡ turn → Comes map_of pool functions depth stop code parts 10 old turn s
    take_words [] calls gives is = take_comes calls gives is
    take_words (word ∷ words) calls gives is = absurd (good (sym is))
