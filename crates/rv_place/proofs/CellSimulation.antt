-- Operations on the program's own blocks, followed by the processor: loads and stores, counts that are raised, and tokens that are
-- freed.
use Rattle.std.proofs.Common.{◌≡◌, ◌≢◌, ◌==◌, ◌≤◌, ◌<◌, ◌⊎◌, inl, inr, ℕ, ◌+◌, ◌*◌, ◌%◌, ◌^◌, List, [], ◌∷◌, Option, Some}
use Rattle.std.proofs.Common.{None, Bool, true, false, cond, if◌then◌else◌, nat_eq, bit_and, map, option_map, refl, sym, ap, ◌∙◌}
use Rattle.std.proofs.Common.{subst, arith}
use Rattle.std.specs.List.{list_any}
use Rattle.std.proofs.lemmas.Bool.{and_parts, eqb-true, eqb-false, false≢true}
use Rattle.std.proofs.lemmas.Bool.Decides.{nat_tests}
use Rattle.kk_base.specs.Memory.{Part}
use Rattle.rv_isa.specs.declared.register.Register.{Register}
use Rattle.rv_isa.specs.declared.immediate.Immediate.{Immediate}
use Rattle.rv_isa.specs.declared.instr.Instr.TheVariants as Instr
use Rattle.rv_isa.specs.declared.asm.Action.TheVariants.{Compute}
use Rattle.rv_isa.specs.declared.asm.Condition.TheVariants.{Equal, NotEqual}
use Rattle.rv_isa.specs.declared.asm.ImmediateOperation.TheVariants.{Andi}
use Rattle.rv_isa.specs.declared.asm.Operation.{Operation}
use Rattle.rv_isa.specs.declared.asm.Operation.TheVariants as OfOperation
use Rattle.rv_isa.specs.declared.placed.Place.{Place}
use Rattle.rv_isa.specs.declared.placed.Operand.{Operand}
use Rattle.rv_isa.specs.PlacedCode.{PlacedLine, PlacedLines}
use Rattle.rv_isa.specs.Arithmetic.{sum_word}
use Rattle.rv_isa.specs.Conventions.{is_handed_out, one_register, header_register, computes_at, conforms, gives_into, take_from}
use Rattle.rv_isa.specs.Costs.{operation_instructions}
use Rattle.rv_isa.specs.Primitives.{stuck, or_stuck, by_token}
use Rattle.rv_isa.specs.Frames.{Frame, all_of}
use Rattle.rv_isa.specs.PlacedMachine.{PlacedTurn, read_at, placed_goes, unless_lost, placed_gives, placed_acts}
use Rattle.rv_isa.specs.Bytes.{number_at, with_number}
use Rattle.rv_isa.specs.Processor.{Processor, Ending, value, can_load, can_store}
use Rattle.rv_isa.specs.Standing.{Code}
use Rattle.rv_isa.proofs.Memory.{word-apart}
use Rattle.cell_heap.specs.Pool.{Pool, end_of}
use Rattle.cell_heap.specs.Blocks.{Block, no_block, unused, own, kept, Cells, load, store, raised, dup, release, freed_as}
use Rattle.cell_heap.specs.Blocks.{with_block}
use Rattle.cell_heap.specs.ProgramMemory.{HoldsCells}
use Rattle.cell_heap.proofs.Blocks.{mapped, own-inside, own-no_free, own-usable, loaded-block, stored-block, load-shows, store-shows}
use Rattle.cell_heap.proofs.Blocks.{store-holds, release-holds}
use Rattle.cell_runtime.specs.Registers.{IsOutside}
use Rattle.cell_runtime.proofs.DropRows.{bit_of_word}
use Rattle.cell_runtime.specs.Operations.{Constants, computed}
use Rattle.cell_runtime.specs.World.{World, with_cells, changes, computed_in, primitives}
use Rattle.rv_place.specs.Registers.{zero_register, ra, s0}
use Rattle.rv_place.specs.Instructions.{words_of_operation, RaisesCount, FreesToken, Computes}
use Rattle.rv_place.specs.Lines.{Map, register_into, ActsAt}
use Rattle.rv_place.specs.declared.reach.Forms.{Forms}
use Rattle.rv_place.specs.Grounds.{Ground, stack_end}
use Rattle.rv_place.specs.Addresses.{operation_links, takes_frame}
use Rattle.rv_place.specs.ProcessorStates.{most_lines, IsIn, StackAt, links_of, Running}
use Rattle.rv_place.specs.declared.reach.Reach.TheVariants.{Near}
use Rattle.rv_place.proofs.InstructionRows.{branch_taken, branch_passed}
use Rattle.rv_place.proofs.InstructionExecution.{MissesFree, Done, Gets, immediate_row, addi_row, misses_done, done_then, done_on, done_as}
use Rattle.rv_place.proofs.InstructionExecution.{plain_gets, load_gets, store_goes}
use Rattle.rv_place.proofs.OccupiedWords.{apart_misses}
use Rattle.rv_place.proofs.FrameMemory.{handed_apart, stack_kept}
use Rattle.rv_place.proofs.HeldTokenLinks.{is_fixed, roots_done}
use Rattle.rv_place.proofs.TargetRegisters.{GivesTarget}
use Rattle.rv_place.proofs.ArgumentWords.{words_in, AllFit, AllHanded, InRegisters, in_registers, Computed}
use Rattle.rv_place.proofs.PassedInstructions.{walks_done}
use Rattle.rv_place.proofs.LineOutcomes.{NoneHanded, outside_handed, or_stuck_some, Comes, comes_go, runs_on, agrees_done, sp_low}
use Rattle.rv_place.proofs.LineOutcomes.{constants_kept, stays}
use Rattle.rv_place.proofs.MoveSimulation.{gives_word, follow_words}

-- the operations on blocks
data IsOnCells : Operation → Type 0 where
  loads : (offset : Immediate) → IsOnCells (OfOperation.Lw offset)
  stores : (offset : Immediate) → IsOnCells (OfOperation.Sw offset)
  dups : IsOnCells OfOperation.Dup
  frees : IsOnCells OfOperation.Free

word_or_cells : (constants : Constants) (world : World) (operation : Operation)
    → ((ws : List ℕ) → computed_in constants operation ws world ≡ option_map (λ word. (word, world))
    (computed constants operation ws)) ⊎ IsOnCells operation
word_or_cells constants world (OfOperation.Register operation) = inl (λ ws. refl)
word_or_cells constants world (OfOperation.Immediate operation imm) = inl (λ ws. refl)
word_or_cells constants world (OfOperation.Shift operation amount) = inl (λ ws. refl)
word_or_cells constants world (OfOperation.Li word) = inl (λ ws. refl)
word_or_cells constants world OfOperation.Mv = inl (λ ws. refl)
word_or_cells constants world (OfOperation.La index) = inl (λ ws. refl)
word_or_cells constants world (OfOperation.Lw offset) = inr (loads offset)
word_or_cells constants world (OfOperation.Sw offset) = inr (stores offset)
word_or_cells constants world OfOperation.Dup = inr dups
word_or_cells constants world OfOperation.Free = inr frees

freed_own : (block next : Block) → freed_as block ≡ Some next → (words : ℕ → Option ℕ) × (block ≡ own words) × (next ≡ unused)
freed_own (own words) next is = (words, refl, cc)
freed_own no_block next is = cc
freed_own unused next is = cc
freed_own (kept words) next is = cc

sp_outside : IsOutside 2 (1 ∷ 1 ∷ 1 ∷ [])
sp_outside = ((λ e. cc), ((λ e. cc), ((λ e. cc), tt)))

-- an operation that gives no word
not_given : (operation : Operation) → ((place : Place) → computes_at operation place ≡ false) → (into : Option Operand)
    → gives_into (Compute operation) into ≡ true → into ≡ None
not_given operation never None gives = refl
not_given operation never (Some into) gives = absurd (false≢true (sym (never into.place) ∙ gives))

module _ {map_of : Map} {pool : Pool} {functions : List PlacedLines} {depth buffer stop : ℕ} {code : Code} {parts : List Part}
    (ground : Ground map_of pool functions depth buffer stop code parts)
    (f : Frame PlacedLine) (fs : List (Frame PlacedLine)) (known : ℕ → Option ℕ) (world : World) (s : Processor)
    (running : Running map_of pool functions depth stop code parts
    (record { frames = f ∷ fs; registers = known; shared = world }) s) (rest : List PlacedLine) (old : ℕ) where
  abbrev behind : Frame PlacedLine
  behind = record f { code = rest }

  -- ---- a store in a block leaves all else as it is

  module _ (operation : Operation) (is_in : (next : ℕ) → s.pc + 4 * words_of_operation operation ≡ next → next < 2 ^ 32
      → IsIn map_of code (most_lines functions) next behind) where
    -- instructions that have changed a word of a block, and no register that a value has
    changed_comes : {n : ℕ} {changed : List ℕ} (most at v : ℕ) (next : Cells) (u : Processor)
        → Done pool.cells code n changed (with_number at 4 v s.memory) (s.pc + 4 * words_of_operation operation) s u → IsOutside 2 changed
        → NoneHanded changed → (takes_frame map_of.jumps f.whole ≡ false → value u.registers 1 ≡ value s.registers 1)
        → at + 4 ≤ end_of pool → can_store parts at 4 ≡ true → s.pc + 4 * words_of_operation operation < 2 ^ 32
        → HoldsCells pool next (links_of map_of running.base (f ∷ fs)) u
        → 1 ≤ n → n ≤ most → Comes map_of pool functions depth stop code parts most old
        (placed_goes behind fs known (with_cells world next)) s
    changed_comes {n} {changed} most at v next u done outside none link inside allowed fits holds some within =
        let stand = running.frames in
        let sp = running.base in
        let low = sp_low ground f fs known world s running in
        let under = ground.cells_below in
        let here : StackAt map_of code (most_lines functions) stop (stack_end map_of depth) s.registers s.memory
        (s.pc + 4 * words_of_operation operation) sp (behind ∷ fs)
        = (is_in (s.pc + 4 * words_of_operation operation) refl fits, stand.1, stand.2, stand.3) in
        comes_go map_of pool functions depth stop code parts most old
        (record { frames = behind ∷ fs; registers = known; shared = with_cells world next }) s u n (walks_done done)
        (runs_on map_of pool functions depth stop code parts
        (record { frames = f ∷ fs; registers = known; shared = world }) next s u (behind ∷ fs) known sp running done
        (outside_handed changed none one_register refl (λ e. cc)) (outside_handed changed none header_register refl (λ e. cc))
        (constants_kept ground f fs known world s running at v allowed) running.room (done.kept 2 outside ∙ running.base_is)
        (stack_kept map_of code (most_lines functions) stop (stack_end map_of depth) ground.some_frame s.registers u.registers s.memory
        (with_number at 4 v s.memory) (s.pc + 4 * words_of_operation operation) sp behind fs link
        (λ x above high. word-apart at v s.memory x (inr (omega arith))) here)
        (agrees_done s u known done none running.registers) holds) some within

    -- instructions that have changed nothing but registers that no value has
    same_comes : {n : ℕ} {changed : List ℕ} (most : ℕ) (u : Processor)
        → Done pool.cells code n changed s.memory (s.pc + 4 * words_of_operation operation) s u → IsOutside 2 changed → NoneHanded changed
        → list_any is_fixed changed ≡ false → (takes_frame map_of.jumps f.whole ≡ false → value u.registers 1 ≡ value s.registers 1)
        → s.pc + 4 * words_of_operation operation < 2 ^ 32 → 1 ≤ n → n ≤ most
        → Comes map_of pool functions depth stop code parts most old (placed_goes behind fs known world) s
    same_comes {n} most u done outside none apart link fits some within =
        stays ground f fs known world s running most old u rest known done outside apart link
        (is_in (s.pc + 4 * words_of_operation operation) refl fits)
        (agrees_done s u known done none running.registers) some within

  -- the address of a word of a block
  word_address : (at offset : ℕ) → at + 32 ≤ end_of pool → end_of pool < 2 ^ 32 → offset + 4 ≤ 32 → sum_word at offset ≡ at + offset
  word_address at offset inside below low = omega arith

  -- ---- a load

  load_computed : (offset : Immediate) (rd a : Register) (w : ℕ) → code s.pc ≡ Some (Instr.Lw rd a offset)
      → load (value s.registers a.number) offset.word world.cells ≡ Some w
      → Computed pool.cells ground.below running.rests.stands map_of.constants s.pc refl rd (OfOperation.Lw offset) w
  load_computed offset rd a w here is =
      let at = value s.registers a.number in
      let block = loaded-block world.cells at offset.word w is in
      let inside = own-inside running.cells at block.0 block.1 in
      let shows = load-shows running.cells at offset.word w is in
      record {
        gets = load_gets pool.cells ground.below running.rests.stands refl {rd = rd} {base = a} {offset = offset} {address = at + offset.word}
            {word = w} here
            (word_address at offset.word inside.0 inside.1 block.2) shows.0.aligned shows.0.loads shows.1
            (apart_misses running.cells (at + offset.word) shows.0.no_free);
        fits = shows.2;
        next_fits = ground.below s.pc (Instr.Lw rd a offset) here;
      }

  -- ---- a store

  module _ (offset : Immediate) (is_in : (next : ℕ) → s.pc + 4 * 1 ≡ next → next < 2 ^ 32
      → IsIn map_of code (most_lines functions) next behind) where
    store_comes : (a b : Register) (next : Cells) → code s.pc ≡ Some (Instr.Sw a b offset)
        → store (value s.registers a.number) offset.word (value s.registers b.number) world.cells ≡ Some next
        → value s.registers b.number < 2 ^ 32 → Comes map_of pool functions depth stop code parts 1 old
        (placed_goes behind fs known (with_cells world next)) s
    store_comes a b next here is fits =
        let at = value s.registers a.number in
        let v = value s.registers b.number in
        let block = stored-block world.cells next at offset.word v is in
        let inside = own-inside running.cells at block.0 block.1 in
        let shows = store-shows running.cells at offset.word v next is in
        let address = at + offset.word in
        let goes = store_goes pool.cells ground.below running.rests.stands refl {base = a} {from = b} {offset = offset} {address = address}
        {word = v} here
        (word_address at offset.word inside.0 inside.1 block.2) refl shows.aligned shows.stores
        (apart_misses running.cells address shows.no_free) in
        changed_comes (OfOperation.Sw offset) is_in 1 address v next goes.after goes.done tt tt (λ bare. goes.done.kept 1 tt) (omega (arith, inside.0, block.2))
        (subst (λ p. can_store p address 4 ≡ true) running.rests.parts_are shows.stores)
        (ground.below s.pc (Instr.Sw a b offset) here)
        (store-holds running.cells (roots_done goes.done refl) at offset.word v next is fits goes.done.memory_is) (omega arith)
        (omega arith)

  -- ---- a count is raised

  module _ (is_in : (next : ℕ) → s.pc + 4 * 5 ≡ next → next < 2 ^ 32
      → IsIn map_of code (most_lines functions) next behind) (a : Register) (handed : is_handed_out a.number ≡ true)
      (raises : RaisesCount code s.pc a) (takes : takes_frame map_of.jumps f.whole ≡ true) where
    abbrev reference : ℕ
    reference = value s.registers a.number

    dup_last : s.pc + 4 * 5 < 2 ^ 32
    dup_last = let last = ground.below (s.pc + 4 + 4 + 4 + 4) _ raises.5.2.1.1.0 in omega arith

    over_target : sum_word (s.pc + 4) raises.1.word ≡ s.pc + 4 * 5
    over_target = let below = dup_last in rw raises.3 (omega arith)

    bit_gets : Gets pool.cells code 1 (1 ∷ []) 1 (bit_and (value s.registers a.number) raises.0.word) (s.pc + 4) s
    bit_gets = plain_gets pool.cells ground.below running.rests.stands refl (immediate_row Andi ra a raises.0) raises.4.0

    bit_is : (b : ℕ) → reference % 2 ≡ b → value bit_gets.after.registers 1 ≡ b
    bit_is b is = bit_gets.value_is (λ e. cc) ∙ ap (λ w. bit_and reference w) raises.2 ∙ bit_of_word reference b is

    -- an odd reference names no cell: the branch leads over all
    odd_comes : reference % 2 ≡ 1 → Comes map_of pool functions depth stop code parts 5 old (placed_goes behind fs known world) s
    odd_comes odd =
        let bit = bit_is 1 odd in
        let word = running.frames.0.at_word in
        let taken = branch_taken pool.cells ground.below bit_gets.done.stands (s.pc + 4) bit_gets.done.pc_is NotEqual ra zero_register
        (s.pc + 4 * 5) Near Near (raises.1, over_target, raises.4.1.0) (omega arith) (rw bit refl) in
        same_comes OfOperation.Dup is_in 5 taken.after (done_on bit_gets.done taken.done) ((λ e. cc), ((λ e. cc), ((λ e. cc), tt)))
        (refl, (refl, (refl, tt))) refl (λ bare. absurd (false≢true (sym bare ∙ takes))) dup_last (omega arith) (omega arith)

    -- the count of a cell is loaded, raised and stored
    even_comes : reference % 2 ≡ 0 → (count : ℕ) (next : Cells) → load reference 0 world.cells ≡ Some count
        → store reference 0 (sum_word count 1) world.cells ≡ Some next
        → Comes map_of pool functions depth stop code parts 5 old (placed_goes behind fs known (with_cells world next)) s
    even_comes even count next loads_it stores_it =
        let bit = bit_is 0 even in
        let v = sum_word count 1 in
        let apart : a.number ≢ 1 = handed_apart a.number 1 refl handed in
        let here : reference + 0 ≡ reference = omega arith in
        let loaded = load-shows running.cells reference 0 count loads_it in
        let stored = store-shows running.cells reference 0 v next stores_it in
        let block = loaded-block world.cells reference 0 count loads_it in
        let inside = own-inside running.cells reference block.0 block.1 in
        let aligned : reference % 4 ≡ 0 = subst (λ x. x % 4 ≡ 0) here loaded.0.aligned in
        let may_load : can_load s.parts reference 4 ≡ true = subst (λ x. can_load s.parts x 4 ≡ true) here loaded.0.loads in
        let may_store : can_store s.parts reference 4 ≡ true = subst (λ x. can_store s.parts x 4 ≡ true) here stored.stores in
        let count_is : number_at s.memory reference 4 ≡ count = ap (λ x. number_at s.memory x 4) (sym here) ∙ loaded.1 in
        let misses : MissesFree pool.cells s reference = subst (MissesFree pool.cells s) here
        (apart_misses running.cells (reference + 0) loaded.0.no_free) in
        let passed = branch_passed pool.cells ground.below bit_gets.done.stands (s.pc + 4) bit_gets.done.pc_is NotEqual ra zero_register
        (s.pc + 4 * 5) Near Near (raises.1, over_target, raises.4.1.0) (rw bit refl) in
        let two = done_on bit_gets.done passed.done in
        let base : (u : Processor) → value u.registers a.number ≡ reference
        → sum_word (value u.registers a.number) raises.5.0.word ≡ reference
        = λ u same. rw (same, raises.5.1) (let below = inside.1 in let high = inside.0 in omega arith) in
        let third = load_gets pool.cells ground.below two.stands {at = s.pc + 4 + 4} two.pc_is {rd = ra} {base = a} {offset = raises.5.0}
        {address = reference} {word = count} raises.5.2.0
        (base passed.after (two.kept a.number (apart, tt))) aligned (rw two.parts_are may_load)
        (ap (λ m. number_at m reference 4) two.memory_is ∙ count_is)
        (misses_done reference two ((λ e. cc), tt) ((λ e. cc), tt) ((λ e. cc), tt) misses) in
        let three = done_on two third.done in
        let fourth = plain_gets pool.cells ground.below three.stands {at = s.pc + 4 + 4 + 4} three.pc_is
        (addi_row ra ra raises.0) raises.5.2.1.0 in
        let four = done_on three fourth.done in
        let raised_is : value fourth.after.registers 1 ≡ v = fourth.value_is (λ e. cc)
        ∙ rw (third.value_is (λ e. cc), raises.2) refl in
        let fifth = store_goes pool.cells ground.below four.stands {at = s.pc + 4 + 4 + 4 + 4} four.pc_is {base = a} {from = ra}
        {offset = raises.5.0} {address = reference} {word = v} raises.5.2.1.1.0
        (base fourth.after (four.kept a.number (apart, (apart, (apart, tt))))) raised_is aligned (rw four.parts_are may_store)
        (misses_done reference four ((λ e. cc), ((λ e. cc), ((λ e. cc), tt))) ((λ e. cc), ((λ e. cc), ((λ e. cc), tt)))
        ((λ e. cc), ((λ e. cc), ((λ e. cc), tt))) misses) in
        let done = done_as {changed' = 1 ∷ 1 ∷ 1 ∷ []} {next' = s.pc + 4 * 5} (done_then four fifth.done)
        (ap (λ m. with_number reference 4 v m) four.memory_is) (omega arith) (λ x out. out) in
        changed_comes OfOperation.Dup is_in 5 reference v next fifth.after done sp_outside (refl, (refl, (refl, tt)))
        (λ bare. absurd (false≢true (sym bare ∙ takes)))
        (omega (arith, inside.0)) (subst (λ p. can_store p reference 4 ≡ true) running.rests.parts_are may_store) dup_last
        (store-holds running.cells (roots_done done refl) reference 0 v next stores_it (omega arith) (done.memory_is
        ∙ ap (λ x. with_number x 4 v s.memory) (sym here))) (omega arith) (omega arith)

    dup_by : (odd : Bool) → nat_eq (reference % 2) 1 ≡ odd → (next : Cells)
        → (if odd then Some world.cells else raised reference (load reference 0 world.cells) world.cells) ≡ Some next
        → Comes map_of pool functions depth stop code parts 5 old (placed_goes behind fs known (with_cells world next)) s
    dup_by true test next is =
        let same : world.cells ≡ next = cc in
        subst (λ c. Comes map_of pool functions depth stop code parts 5 old
        (placed_goes behind fs known (with_cells world c)) s) same (odd_comes (grind (arith, nat_tests)))
    dup_by false test next is = by (load reference 0 world.cells) refl is
      where
        by : (o : Option ℕ) → load reference 0 world.cells ≡ o → raised reference o world.cells ≡ Some next
            → Comes map_of pool functions depth stop code parts 5 old (placed_goes behind fs known (with_cells world next)) s
        by None loads_it stores_it = cc
        by (Some count) loads_it stores_it = even_comes
            (let other : reference % 2 ≢ 1 = grind (arith, nat_tests) in omega arith) count next loads_it stores_it

  -- ---- a token is freed

  module _ (is_in : (next : ℕ) → s.pc + 4 * 3 ≡ next → next < 2 ^ 32
      → IsIn map_of code (most_lines functions) next behind) (a : Register) (handed : is_handed_out a.number ≡ true)
      (frees_it : FreesToken code s.pc a) where
    abbrev token : ℕ
    token = value s.registers a.number

    free_last : s.pc + 4 * 3 < 2 ^ 32
    free_last = let last = ground.below (s.pc + 4 + 4) _ frees_it.4.1.1.0 in omega arith

    past_target : sum_word s.pc frees_it.0.word ≡ s.pc + 4 * 3
    past_target = let below = free_last in rw frees_it.2 (omega arith)

    null_comes : token ≡ 0 → Comes map_of pool functions depth stop code parts 3 old (placed_goes behind fs known world) s
    null_comes none =
        let word = running.frames.0.at_word in
        let taken = branch_taken pool.cells ground.below running.rests.stands s.pc refl Equal a zero_register (s.pc + 4 * 3) Near Near
        (frees_it.0, past_target, frees_it.4.0) (omega arith) (rw none refl) in
        same_comes OfOperation.Free is_in 3 taken.after taken.done ((λ e. cc), ((λ e. cc), tt)) (refl, (refl, tt)) refl (λ bare. taken.link refl) free_last
        (omega arith) (omega arith)

    freed_comes : token ≢ 0 → (words : ℕ → Option ℕ) → world.cells.blocks token ≡ own words
        → Comes map_of pool functions depth stop code parts 3 old
        (placed_goes behind fs known
        (with_cells world (with_block token unused (record world.cells { frees = token ∷ world.cells.frees })))) s
    freed_comes some words is =
        let v = value s.registers 8 in
        let test : nat_eq token 0 ≡ false = grind (arith, nat_tests) in
        let apart : a.number ≢ 8 = handed_apart a.number 8 refl handed in
        let here : token + 4 * 0 ≡ token = omega arith in
        let usable = own-usable running.cells token words is 0 (omega arith) in
        let inside = own-inside running.cells token words is in
        let aligned : token % 4 ≡ 0 = subst (λ x. x % 4 ≡ 0) here usable.0 in
        let may_store : can_store s.parts token 4 ≡ true = subst (λ x. can_store s.parts x 4 ≡ true) here usable.2 in
        let misses : MissesFree pool.cells s token = subst (MissesFree pool.cells s) here
        (apart_misses running.cells (token + 4 * 0) (λ x. own-no_free running.cells token words is 0 x (omega arith))) in
        let base : (u : Processor) → value u.registers a.number ≡ token
        → sum_word (value u.registers a.number) frees_it.1.word ≡ token
        = λ u same. rw (same, frees_it.3) (let below = inside.1 in let high = inside.0 in omega arith) in
        let passed = branch_passed pool.cells ground.below running.rests.stands s.pc refl Equal a zero_register (s.pc + 4 * 3) Near Near
        (frees_it.0, past_target, frees_it.4.0) test in
        let second = store_goes pool.cells ground.below passed.done.stands {at = s.pc + 4} passed.done.pc_is {base = a} {from = s0}
        {offset = frees_it.1} {address = token} {word = v} frees_it.4.1.0
        (base passed.after (passed.done.kept a.number tt)) (passed.done.kept 8 tt) aligned (rw passed.done.parts_are may_store)
        (misses_done token passed.done tt tt tt misses) in
        let two = done_as {changed' = []} (done_then passed.done second.done)
        (ap (λ m. with_number token 4 v m) passed.done.memory_is) refl (λ x out. out) in
        let third = plain_gets pool.cells ground.below two.stands {at = s.pc + 4 + 4} two.pc_is (addi_row s0 a frees_it.1) frees_it.4.1.1.0 in
        let done = done_as {changed' = 8 ∷ []} {next' = s.pc + 4 * 3} (done_on two third.done) refl (omega arith) (λ x out. out) in
        let first_is : value third.after.registers 8 ≡ token = third.value_is (λ e. cc)
        ∙ base second.after (two.kept a.number tt) in
        changed_comes OfOperation.Free is_in 3 token v
        (with_block token unused (record world.cells { frees = token ∷ world.cells.frees })) third.after done ((λ e. cc), tt)
        (refl, tt) (λ bare. done.kept 1 ((λ e. cc), tt)) (omega (arith, inside.0))
        (subst (λ p. can_store p token 4 ≡ true) running.rests.parts_are may_store) free_last
        (release-holds running.cells token words is done.parts_are done.memory_is first_is (done.kept 9 ((λ e. cc), tt))
        (done.kept 18 ((λ e. cc), tt)) (done.kept 19 ((λ e. cc), tt))) (omega arith) (omega arith)

    free_by : (null : Bool) → (token == 0) ≡ null → (next : Cells)
        → cond null (Some world.cells) (release token world.cells) ≡ Some next
        → Comes map_of pool functions depth stop code parts 3 old (placed_goes behind fs known (with_cells world next)) s
    free_by true test next is =
        let same : world.cells ≡ next = cc in
        subst (λ c. Comes map_of pool functions depth stop code parts 3 old
        (placed_goes behind fs known (with_cells world c)) s) same (null_comes (eqb-true token 0 test))
    free_by false test next is =
        let done = mapped (λ block. with_block token block (record world.cells { frees = token ∷ world.cells.frees }))
        (freed_as (world.cells.blocks token)) next is in
        let found = freed_own (world.cells.blocks token) done.0 done.1 in
        subst (λ c. Comes map_of pool functions depth stop code parts 3 old (placed_goes behind fs known (with_cells world c)) s)
        (ap (λ block. with_block token block (record world.cells { frees = token ∷ world.cells.frees })) (sym found.2)
        ∙ done.2) (freed_comes (eqb-false token 0 test) found.0 found.1)

  -- ---- all operations

  -- what is left where cells have changed
  settled : (into : Option Operand) (o : Option Cells) (turn : PlacedTurn World Ending) → into ≡ None
      → or_stuck (changes world o) (λ r. placed_gives into r.0 behind fs known r.1) ≡ turn → turn ≢ stuck
      → (next : Cells) × (o ≡ Some next) × (placed_goes behind fs known (with_cells world next) ≡ turn)
  settled into o turn none is good =
      let result = or_stuck_some (changes world o) (λ r. placed_gives into r.0 behind fs known r.1) turn is good in
      let next = mapped (λ (c : Cells). (0, with_cells world c)) o result.0 result.1 in
      let gives : placed_gives into 0 behind fs known (with_cells world next.0) ≡ turn = subst (λ (r : ℕ
      × World). placed_gives into r.0 behind fs known r.1 ≡ turn) (sym next.2) result.2 in
      (next.0, next.1, subst (λ i. placed_gives i 0 behind fs known (with_cells world next.0) ≡ turn) none gives)

  module _ (into : Option Operand) (turn : PlacedTurn World Ending) (good : turn ≢ stuck) where
    load_by : (offset : Immediate) →
        ((next : ℕ) → s.pc + 4 * 1 ≡ next → next < 2 ^ 32 → IsIn map_of code (most_lines functions) next behind)
        → (rs : List Register)
        → gives_into (Compute (OfOperation.Lw offset)) into ≡ true → GivesTarget into
        → ((rd : Register) → register_into into ≡ Some rd → Computes map_of.constants code s.pc (OfOperation.Lw offset) rs rd)
        → or_stuck (computed_in map_of.constants (OfOperation.Lw offset) (words_in s.registers rs) world)
        (λ r. placed_gives into r.0 behind fs known r.1) ≡ turn
        → Comes map_of pool functions depth stop code parts 1 old turn s
    load_by offset is_in [] gives handed here is = absurd (good (sym is))
    load_by offset is_in (a ∷ b ∷ rs) gives handed here is = absurd (good (sym is))
    load_by offset is_in (a ∷ []) gives handed here is =
        let loaded : Option ℕ = load (value s.registers a.number) offset.word world.cells in
        let result = or_stuck_some (option_map (λ (word : ℕ). (word, world)) loaded)
        (λ r. placed_gives into r.0 behind fs known r.1) turn is good in
        let word = mapped (λ (word : ℕ). (word, world)) loaded result.0 result.1 in
        let gives_it : placed_gives into word.0 behind fs known world ≡ turn = subst (λ (r : ℕ
        × World). placed_gives into r.0 behind fs known r.1 ≡ turn) (sym word.2) result.2 in
        subst (λ t. Comes map_of pool functions depth stop code parts 1 old t s) gives_it
        (gives_word ground f fs known world s running rest old (OfOperation.Lw offset) is_in into word.0 gives handed
        (λ rd into_is. load_computed offset rd a word.0 (here rd into_is) word.1))

    store_by : (offset : Immediate) →
        ((next : ℕ) → s.pc + 4 * 1 ≡ next → next < 2 ^ 32 → IsIn map_of code (most_lines functions) next behind)
        → (rs : List Register) → AllFit s.registers rs
        → into ≡ None → Computes map_of.constants code s.pc (OfOperation.Sw offset) rs zero_register
        → or_stuck (computed_in map_of.constants (OfOperation.Sw offset) (words_in s.registers rs) world)
        (λ r. placed_gives into r.0 behind fs known r.1) ≡ turn
        → Comes map_of pool functions depth stop code parts 1 old turn s
    store_by offset is_in [] fit none here is = absurd (good (sym is))
    store_by offset is_in (a ∷ []) fit none here is = absurd (good (sym is))
    store_by offset is_in (a ∷ b ∷ c ∷ rs) fit none here is = absurd (good (sym is))
    store_by offset is_in (a ∷ b ∷ []) fit none here is =
        let next = settled into (store (value s.registers a.number) offset.word (value s.registers b.number) world.cells) turn none
        is good in
        subst (λ t. Comes map_of pool functions depth stop code parts 1 old t s) next.2
        (store_comes offset is_in a b next.0 here next.1 fit.1.0)

    dup_all : takes_frame map_of.jumps f.whole ≡ true → ((next : ℕ) → s.pc + 4 * 5 ≡ next → next < 2 ^ 32 → IsIn map_of code (most_lines functions) next behind)
        → (rs : List Register) → AllHanded rs
        → into ≡ None → Computes map_of.constants code s.pc OfOperation.Dup rs zero_register
        → or_stuck (computed_in map_of.constants OfOperation.Dup (words_in s.registers rs) world)
        (λ r. placed_gives into r.0 behind fs known r.1) ≡ turn
        → Comes map_of pool functions depth stop code parts 5 old turn s
    dup_all takes is_in [] handed none here is = absurd (good (sym is))
    dup_all takes is_in (a ∷ b ∷ rs) handed none here is = absurd (good (sym is))
    dup_all takes is_in (a ∷ []) handed none here is =
        let next = settled into (dup (value s.registers a.number) world.cells) turn none is good in
        subst (λ t. Comes map_of pool functions depth stop code parts 5 old t s) next.2
        (dup_by is_in a handed.0 here takes (nat_eq (value s.registers a.number % 2) 1) refl next.0 next.1)

    free_all : ((next : ℕ) → s.pc + 4 * 3 ≡ next → next < 2 ^ 32 → IsIn map_of code (most_lines functions) next behind)
        → (rs : List Register) → AllHanded rs
        → into ≡ None → Computes map_of.constants code s.pc OfOperation.Free rs zero_register
        → or_stuck (computed_in map_of.constants OfOperation.Free (words_in s.registers rs) world)
        (λ r. placed_gives into r.0 behind fs known r.1) ≡ turn
        → Comes map_of pool functions depth stop code parts 3 old turn s
    free_all is_in [] handed none here is = absurd (good (sym is))
    free_all is_in (a ∷ b ∷ rs) handed none here is = absurd (good (sym is))
    free_all is_in (a ∷ []) handed none here is =
        let next = settled into (by_token release (value s.registers a.number) world.cells) turn none is good in
        subst (λ t. Comes map_of pool functions depth stop code parts 3 old t s) next.2
        (free_by is_in a handed.0 here (value s.registers a.number == 0) refl next.0 next.1)

    module _ (forms : Forms) (start : ℕ) (args : List Operand) (words : List ℕ) (handed : GivesTarget into) where
      on_cells : {operation : Operation} → IsOnCells operation → (operation_links operation ≡ true → takes_frame map_of.jumps f.whole ≡ true)
          → ((next : ℕ) → s.pc + 4 * words_of_operation operation ≡ next → next < 2 ^ 32
          → IsIn map_of code (most_lines functions) next behind)
          → ActsAt map_of forms code start f.whole s.pc (Compute operation) args into → gives_into (Compute operation) into ≡ true
          → (values : InRegisters args s.registers words)
          → or_stuck (computed_in map_of.constants operation (words_in s.registers values.rs) world)
          (λ r. placed_gives into r.0 behind fs known r.1) ≡ turn
          → Comes map_of pool functions depth stop code parts (operation_instructions operation) old turn s
      on_cells (loads offset) takes is_in here gives values is = load_by offset is_in values.rs gives handed
          (λ rd into_is. here values.rs rd values.rs_are into_is) is
      on_cells (stores offset) takes is_in here gives values is =
          let none = not_given (OfOperation.Sw offset) (λ place. refl) into gives in
          store_by offset is_in values.rs values.fit none (here values.rs zero_register values.rs_are (ap register_into none)) is
      on_cells dups takes is_in here gives values is =
          let none = not_given OfOperation.Dup (λ place. refl) into gives in
          dup_all (takes refl) is_in values.rs values.handed none (here values.rs zero_register values.rs_are (ap register_into none)) is
      on_cells frees takes is_in here gives values is =
          let none = not_given OfOperation.Free (λ place. refl) into gives in
          free_all is_in values.rs values.handed none (here values.rs zero_register values.rs_are (ap register_into none)) is

  pub follow_compute : (operation : Operation) → (operation_links operation ≡ true → takes_frame map_of.jumps f.whole ≡ true)
      → ((next : ℕ) → s.pc + 4 * words_of_operation operation ≡ next → next < 2 ^ 32
      → IsIn map_of code (most_lines functions) next behind)
      → (forms : Forms) (start : ℕ) (args : List Operand) (into : Option Operand) (words : List ℕ) (turn : PlacedTurn World Ending)
      → ActsAt map_of forms code start f.whole s.pc (Compute operation) args into
      → conforms (Compute operation) args into ≡ true → GivesTarget into → unless_lost (Compute operation) into ≡ into
      → all_of (map (λ (arg : Operand). read_at known f.cells arg.place) args) ≡ Some words
      → placed_acts (primitives map_of.constants pool) depth functions behind fs known world
      (Compute operation) args into words ≡ turn → turn ≢ stuck
      → Comes map_of pool functions depth stop code parts (operation_instructions operation) old turn s
  follow_compute operation takes is_in forms start args into words turn here conform handed somewhere words_are acts good =
      let is : or_stuck (computed_in map_of.constants operation words world) (λ r. placed_gives into r.0 behind fs known r.1) ≡ turn
      = subst (λ o. or_stuck (computed_in map_of.constants operation words world)
      (λ r. placed_gives o r.0 behind fs known r.1) ≡ turn) somewhere acts in
      elim (word_or_cells map_of.constants world operation) [
        | inl alone ↦ follow_words ground f fs known world s running rest old operation is_in forms start args into words turn here
            alone conform handed words_are is good
        | inr of ↦
            let fit = and_parts (take_from (Compute operation) 0 args) (gives_into (Compute operation) into) conform in
            let values = in_registers known f.cells s.registers running.registers (Compute operation) 0 args words
            (λ k place is_one. is_one) fit.0 words_are in
            on_cells into turn good forms start args words handed of takes is_in here fit.1 values
            (subst (λ ws. or_stuck (computed_in map_of.constants operation ws world)
            (λ r. placed_gives into r.0 behind fs known r.1) ≡ turn) values.words_are is)
      ]
