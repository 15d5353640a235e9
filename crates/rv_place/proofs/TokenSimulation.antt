-- Tokens that are held and taken back by the machine of the placed form, followed by the processor.
use Rattle.std.proofs.Common.{◌≡◌, ◌≢◌, ◌==◌, ◌≤◌, ◌<◌, ◌⊎◌, inl, inr, ℕ, zero, suc, ◌+◌, ◌*◌, ◌/◌, ◌^◌, List, [], ◌∷◌}
use Rattle.std.proofs.Common.{map, Option, Some, None, Bool, true, false, option_map, refl, sym, ap, ◌∙◌, subst}
use Rattle.std.proofs.Common.{arith, lit<, nat_eq}
use Rattle.std.specs.List.{list_any}
use Rattle.std.proofs.lemmas.Bool.Decides.{nat_tests}
use Rattle.std.proofs.lemmas.Bool.{cases_eq, and_parts, or_from, eqb-true, false≢true}
use Rattle.kk_base.specs.Memory.{Part}
use Rattle.rv_isa.specs.declared.immediate.Immediate.{Immediate}
use Rattle.rv_isa.specs.declared.register.Register.{Register}
use Rattle.rv_isa.specs.declared.asm.Action.TheVariants.{Hold, Unhold}
use Rattle.rv_isa.specs.declared.asm.Condition.TheVariants.{Equal}
use Rattle.rv_isa.specs.declared.placed.Place.{Place}
use Rattle.rv_isa.specs.declared.placed.Place.TheVariants.{Register as register, Slot as slot}
use Rattle.rv_isa.specs.declared.placed.Operand.{Operand}
use Rattle.rv_isa.specs.PlacedCode.{PlacedLine, PlacedLines}
use Rattle.rv_isa.specs.Arithmetic.{sum_word}
use Rattle.rv_isa.specs.Primitives.{stuck, or_stuck, by_token}
use Rattle.rv_isa.specs.Conventions.{is_handed_out, is_register, one_register, header_register, take_from, gives_into, conforms}
use Rattle.rv_isa.specs.Frames.{Frame, put, all_of, only_of, twice_of, holding, unholding, is_among}
use Rattle.rv_isa.specs.PlacedMachine.{PlacedTurn, read_at, only_slot, first_slot, placed_goes, placed_gives, placed_acts}
use Rattle.rv_isa.specs.Bytes.{number_at, bytes_at, with_number}
use Rattle.rv_isa.specs.Processor.{Processor, Ending, value, can_store}
use Rattle.rv_isa.specs.Standing.{Code}
use Rattle.rv_isa.proofs.Memory.{word-apart, bytes_at-with_number_apart}
use Rattle.cell_heap.specs.Cells.{token, changed, occurs}
use Rattle.cell_heap.specs.Pool.{Pool, end_of, IsUsable}
use Rattle.cell_heap.specs.View.{Link, View}
use Rattle.cell_heap.specs.Memory.{IsSlot, IsHeldChain, Memory}
use Rattle.cell_heap.specs.Blocks.{Block, own, kept, Cells, with_block, past_links, fields_of, held_as, unheld_as}
use Rattle.cell_heap.specs.Blocks.{seen, seen_cells, view_of}
use Rattle.cell_heap.specs.ProgramMemory.{IsOwnBlock, HoldsCells}
use Rattle.cell_heap.proofs.Frames.{changed-same, IsHeld-cell, cell-inside}
use Rattle.cell_heap.proofs.Blocks.{mapped, own-cell, own-inside}
use Rattle.cell_heap.proofs.OutsideChanges.{own_header}
use Rattle.cell_runtime.specs.Registers.{IsOutside}
use Rattle.cell_runtime.specs.Calls.{KeepsOutside}
use Rattle.cell_runtime.proofs.TokenHolds.{linked, linked-outside, memory_held, memory_with, newest_below}
use Rattle.cell_runtime.proofs.Blocks.{token_view, held_holds, unheld_holds}
use Rattle.cell_runtime.specs.World.{World, with_cells, on_cells, primitives}
use Rattle.rv_place.specs.Registers.{zero_register, ra, sp, s1}
use Rattle.rv_place.specs.Addresses.{takes_frame, frame_bias, pointer_slot, is_pointer_slot, is_at_pointer, slot_offset, way_offset}
use Rattle.rv_place.specs.Instructions.{NamesSlot, words_to_name, HoldsToken, words_to_hold, UnholdsToken}
use Rattle.rv_isa.specs.Sizes.{reach_down}
use Rattle.rv_place.specs.declared.reach.Reach.{Reach}
use Rattle.rv_place.specs.declared.reach.Reach.TheVariants.{Near, Far, Wide}
use Rattle.rv_place.specs.Lines.{Map, IsOffsetOf, token_from, token_into, OnToken}
use Rattle.rv_place.specs.Grounds.{Ground, stack_end, constant_bytes}
use Rattle.rv_place.specs.ProcessorStates.{most_lines, IsIn, StackAt, word_of, links_in, links_of, Agrees, Running}
use Rattle.rv_place.proofs.TokenWords.{only_first, slot_word_is, twice_is, holding_by, unholding_by, null_token, some_token, held_own, unheld_kept}
use Rattle.rv_place.proofs.TargetRegisters.{is_target, IsTarget, GivesTarget, target_handed, target_apart, target_fixed}
use Rattle.rv_place.proofs.InstructionExecution.{Done, Gets, addi_row, misses_done, done_then, done_on, done_as}
use Rattle.rv_place.proofs.InstructionExecution.{plain_gets, load_gets, store_goes}
use Rattle.rv_place.proofs.OccupiedWords.{token_misses}
use Rattle.rv_place.proofs.PassedInstructions.{walks_done}
use Rattle.rv_place.proofs.InstructionRows.{branch_taken, branch_passed}
use Rattle.rv_place.proofs.FrameMemory.{handed_apart, value_kept, agrees_put, agrees_kept, stack_kept}
use Rattle.rv_place.proofs.HeldTokenLinks.{is_fixed, slots_in, roots_done, slots_apart, is_in_again}
use Rattle.rv_place.proofs.LineOutcomes.{or_stuck_some, Comes, comes_go, runs_on, agrees_done, stays, sp_low, sp_word, sp_high}
use Rattle.rv_place.proofs.LineOutcomes.{framed_base, constants_kept}
use Rattle.rv_place.proofs.CodeLines.{name_most}
use Rattle.rv_place.proofs.MoveSimulation.{slot_word, slot_address, slot_loads, slot_stores, slot_misses}

-- the slot at the stack pointer
slot_at_pointer : (jumps : Reach) (k : ℕ) → (k == pointer_slot jumps) ≡ true → slot_offset k ≡ frame_bias jumps
slot_at_pointer Near k test = let e : k ≡ 0 = eqb-true k 0 test in omega arith
slot_at_pointer Far k test = let e : k ≡ 0 = eqb-true k 0 test in omega arith
slot_at_pointer Wide k test = let e : k ≡ reach_down / 4 = eqb-true k (reach_down / 4) test in omega arith

none_if : (n : ℕ) → (n ≢ 0 → ⊥) → n ≡ 0
none_if zero never = refl
none_if (suc n) never = absurd (never (λ e. omega (arith, e)))

some_held : s1.number ≢ 0
some_held e = cc

-- the register that a token that is held changes, s1, is none of these
out_2 : IsOutside 2 (9 ∷ [])
out_2 = ((λ e. cc), tt)

out_one : IsOutside one_register (9 ∷ [])
out_one = ((λ e. cc), tt)

out_header : IsOutside header_register (9 ∷ [])
out_header = ((λ e. cc), tt)

out_8 : IsOutside 8 (9 ∷ [])
out_8 = ((λ e. cc), tt)

out_18 : IsOutside 18 (9 ∷ [])
out_18 = ((λ e. cc), tt)

out_19 : IsOutside 19 (9 ∷ [])
out_19 = ((λ e. cc), tt)

module _ {map_of : Map} {pool : Pool} {functions : List PlacedLines} {depth buffer stop : ℕ} {code : Code} {parts : List Part}
    (ground : Ground map_of pool functions depth buffer stop code parts)
    (f : Frame PlacedLine) (fs : List (Frame PlacedLine)) (known : ℕ → Option ℕ) (world : World) (s : Processor)
    (running : Running map_of pool functions depth stop code parts
    (record { frames = f ∷ fs; registers = known; shared = world }) s) (rest : List PlacedLine) (old : ℕ)
    (framed : takes_frame map_of.jumps f.whole ≡ true) where
  abbrev behind : Frame PlacedLine
  behind = record f { code = rest }

  abbrev base : ℕ
  base = running.base

  -- its function takes a frame, so that ra may change
  spare_link : (u : Processor) → takes_frame map_of.jumps f.whole ≡ false → value u.registers 1 ≡ value s.registers 1
  spare_link u bare = absurd (false≢true (sym bare ∙ framed))

  abbrev links_here : List Link
  links_here = links_of map_of base (f ∷ fs)

  -- the code of an action of so many instructions, and the frame behind it
  abbrev GoesBehind : ℕ → Type 0
  GoesBehind words = (next : ℕ) → s.pc + 4 * words ≡ next → next < 2 ^ 32 → IsIn map_of code (most_lines functions) next behind

  -- ---- the slot

  slot_at : (k : ℕ) (offset : Immediate) → IsOffsetOf map_of k offset → sum_word (value s.registers 2) offset.word ≡ base + slot_offset k
  slot_at k offset offset_is = slot_address ground f fs known world s running rest framed k offset.word offset_is.0 offset_is.1

  -- ---- hold

  module _ (r : Register) (handed : is_handed_out r.number ≡ true) (k : ℕ) (offset : Immediate) (offset_is : IsOffsetOf map_of k offset)
      (at_pointer : Bool) (pointer_is : at_pointer ≡ true → value s.registers 2 ≡ base + slot_offset k)
      (holds : HoldsToken at_pointer r code s.pc offset) (is_behind : GoesBehind (words_to_hold at_pointer)) where
    abbrev slot_here : ℕ
    slot_here = base + slot_offset k

    hold_last : s.pc + 4 * words_to_hold at_pointer < 2 ^ 32
    hold_last = let last = ground.below (s.pc + 4 + 4 + 4 * words_to_name at_pointer) _ holds.3.4 in omega arith

    hold_over : sum_word s.pc holds.0.word ≡ s.pc + 4 * words_to_hold at_pointer
    hold_over = let last = hold_last in rw holds.1 (omega arith)

    not_newest : r.number ≢ 9
    not_newest = handed_apart r.number 9 refl handed

    -- where the register has 0, the branch leads over the rest
    hold_null : value s.registers r.number ≡ 0 → Comes map_of pool functions depth stop code parts 5 old (placed_goes behind fs known world) s
    hold_null none =
        let word = running.frames.0.at_word in
        let taken = branch_taken pool.cells ground.below running.rests.stands s.pc refl Equal r zero_register
        (s.pc + 4 * words_to_hold at_pointer) Near Near (holds.0, hold_over, holds.2) (omega arith) (rw none refl) in
        stays ground f fs known world s running 5 old taken.after rest known taken.done ((λ e. cc), ((λ e. cc), tt)) refl
        (spare_link taken.after) (is_behind (s.pc + 4 * words_to_hold at_pointer) refl hold_last)
        (agrees_done s taken.after known taken.done (refl, (refl, tt)) running.registers) (omega arith) (omega arith)

    is_slot : slot_offset k + 4 ≤ way_offset map_of.frame → IsSlot pool s.parts slot_here
    is_slot inside =
        let high = sp_high ground f fs known world s running in
        let low = sp_low ground f fs known world s running in
        let word = sp_word ground f fs known world s running in
        let range = ground.in_range in
        let under = ground.cells_below in
        record {
          aligned = omega arith;
          below = omega arith;
          apart = inr (omega arith);
          loads = slot_loads ground f fs known world s running rest k inside;
          stores = subst (λ p. can_store p slot_here 4 ≡ true) (sym running.rests.parts_are)
              (slot_stores ground f fs known world s running rest k inside);
        }

    module _ (word : ℕ) (token_has : value s.registers r.number ≡ word) (word_is : f.cells k ≡ Some word) (free : is_among k f.held ≡ false)
        (words : ℕ → Option ℕ) (is : world.cells.blocks word ≡ own words) where
      abbrev fields_here : List ℕ
      fields_here = fields_of words

      abbrev token_seen : View
      token_seen = record {
        heap = changed word (token fields_here) (seen_cells world.cells);
        frees = world.cells.frees;
        border = world.cells.border;
        held = links_here;
      }

      -- the block is seen as a token that no slot holds
      token_memory : Memory pool token_seen s
      token_memory = token_view running.cells word words is

      is_token : token_seen.heap word ≡ token fields_here
      is_token = changed-same word (token fields_here) (seen_cells world.cells)

      cells_apart : occurs word (map (λ link. link.cell) links_here) ≡ 0
      cells_apart = running.cells.apart word (subst IsOwnBlock (sym is) tt)

      slot_apart : occurs slot_here (map (λ link. link.slot) links_here) ≡ 0
      slot_apart =
          none_if (occurs slot_here (slots_in links_here))
          (λ some. overlap (slots_apart map_of base k f fs (running.frames.1 k word word_is).0 free slot_here some))
        where
          overlap : (slot_here + 4 ≤ slot_here) ⊎ (slot_here + 4 ≤ slot_here) → ⊥
          overlap (inl less) = omega arith
          overlap (inr less) = omega arith

      abbrev newest : ℕ
      newest = value s.registers 9

      newest_fits : newest < 2 ^ 32
      newest_fits = newest_below pool token_seen s token_memory

      -- the instructions up to the first store
      record Linked : Type 0 where
        after : Processor
        done : Done pool.cells code 2 [] (with_number word 4 newest s.memory) (s.pc + 4 + 4) s after

      -- those up to the second one
      record Named (own : Bool) : Type 0 where
        after : Processor
        done : Done pool.cells code (2 + words_to_name own) (9 ∷ []) (linked word newest slot_here s.memory)
            (s.pc + 4 + 4 + 4 * words_to_name own) s after

      -- all of them
      record Stored : Type 0 where
        after : Processor
        done : Done pool.cells code (words_to_hold at_pointer) (9 ∷ []) (linked word newest slot_here s.memory)
            (s.pc + 4 * words_to_hold at_pointer) s after
        is_newest : value after.registers 9 ≡ word

      stores_first : Linked
      stores_first =
          let inside = own-inside running.cells word words is in
          let cell = own-cell running.cells word words is in
          let from = cell.behind in
          let whole = cell.aligned in
          let some = token_memory.usable.some in
          let test : nat_eq word 0 ≡ false = let differ : word ≢ 0 = λ e. absurd (omega arith) in grind (arith, nat_tests) in
          let passed = branch_passed pool.cells ground.below running.rests.stands s.pc refl Equal r zero_register
          (s.pc + 4 * words_to_hold at_pointer) Near Near (holds.0, hold_over, holds.2) (rw token_has test) in
          let has : value passed.after.registers r.number ≡ word = passed.done.kept r.number tt ∙ token_has in
          let address : sum_word (value passed.after.registers r.number) holds.3.0.word ≡ word =
          rw (has, holds.3.1) (omega (arith, inside.0, inside.1)) in
          let stores = token_memory.usable.stores word from (omega (arith, inside.0)) in
          let misses = token_misses token_memory word word fields_here is_token (omega arith) (omega arith) in
          let stored = store_goes pool.cells ground.below passed.done.stands {at = s.pc + 4} passed.done.pc_is {base = r} {from = s1}
          {offset = holds.3.0} {address = word} {word = newest} holds.3.2 address (passed.done.kept 9 tt) (omega arith)
          (rw passed.done.parts_are stores) (misses_done word passed.done tt tt tt misses) in
          record {
            after = stored.after;
            done = done_as {changed' = []} (done_then passed.done stored.done)
                (ap (λ m. with_number word 4 newest m) passed.done.memory_is) refl (λ x out. out);
          }

      -- between the stores memory has the cells: it shows nothing of the first words of a token that no slot holds
      between : Memory pool token_seen stores_first.after
      between =
          own_header token_memory (roots_done stores_first.done refl) word word newest fields_here is_token cells_apart
          (omega arith) (omega arith) stores_first.done.memory_is

      -- the second one: of the stack pointer, where the slot is there, else of s1
      names_slot : (own : Bool) → (own ≡ true → value s.registers 2 ≡ slot_here) → NamesSlot own r code (s.pc + 4 + 4) offset
          → Named own
      names_slot true is_pointer (second, second_is, here) =
          let inside = own-inside running.cells word words is in
          let cell = own-cell running.cells word words is in
          let from = cell.behind in
          let whole = cell.aligned in
          let two = stores_first.done in
          let names : value stores_first.after.registers 2 ≡ slot_here = two.kept 2 tt ∙ is_pointer refl in
          let address : sum_word (value stores_first.after.registers r.number) second.word ≡ word + 4 =
          rw (two.kept r.number tt ∙ token_has, second_is) (omega (arith, inside.0, inside.1)) in
          let stores = between.usable.stores (word + 4) (omega arith) (omega (arith, inside.0)) in
          let misses = token_misses between word (word + 4) fields_here is_token (omega arith) (omega arith) in
          let stored = store_goes pool.cells ground.below two.stands {at = s.pc + 4 + 4} two.pc_is {base = r} {from = sp}
          {offset = second} {address = word + 4} {word = slot_here} here address names (omega arith) stores misses in
          record {
            after = stored.after;
            done = done_as {changed' = 9 ∷ []} {m' = linked word newest slot_here s.memory} (done_then two stored.done)
                (ap (λ m. with_number (word + 4) 4 slot_here m) two.memory_is) refl (λ x out. tt);
          }
      names_slot false is_pointer (second, second_is, here) =
          let inside = own-inside running.cells word words is in
          let cell = own-cell running.cells word words is in
          let from = cell.behind in
          let whole = cell.aligned in
          let two = stores_first.done in
          let sets = plain_gets pool.cells ground.below two.stands {at = s.pc + 4 + 4} two.pc_is (addi_row s1 sp offset) here.0 in
          let three = done_on two sets.done in
          let names : value sets.after.registers 9 ≡ slot_here =
          sets.value_is some_held ∙ ap (λ w. sum_word w offset.word) (two.kept 2 tt) ∙ slot_at k offset offset_is in
          let address : sum_word (value sets.after.registers r.number) second.word ≡ word + 4 =
          rw (three.kept r.number (not_newest, tt) ∙ token_has, second_is) (omega (arith, inside.0, inside.1)) in
          let stores = between.usable.stores (word + 4) (omega arith) (omega (arith, inside.0)) in
          let misses = token_misses between word (word + 4) fields_here is_token (omega arith) (omega arith) in
          let stored = store_goes pool.cells ground.below three.stands {at = s.pc + 4 + 4 + 4} three.pc_is {base = r} {from = s1}
          {offset = second} {address = word + 4} {word = slot_here} here.1.0 address names (omega arith)
          (rw sets.done.parts_are stores) (misses_done (word + 4) sets.done out_8 out_18 out_19 misses) in
          record {
            after = stored.after;
            done = done_as {changed' = 9 ∷ []} {m' = linked word newest slot_here s.memory}
                {next' = s.pc + 4 + 4 + 4 * words_to_name false} (done_then three stored.done)
                (ap (λ m. with_number (word + 4) 4 slot_here m) three.memory_is) (omega arith) (λ x out. out);
          }

      stores_both : Stored
      stores_both =
          let inside = own-inside running.cells word words is in
          let named = names_slot at_pointer pointer_is holds.3.3 in
          let puts = plain_gets pool.cells ground.below named.done.stands {at = s.pc + 4 + 4 + 4 * words_to_name at_pointer}
          named.done.pc_is (addi_row s1 r holds.3.0) holds.3.4 in
          let same : sum_word (value named.after.registers r.number) holds.3.0.word ≡ word =
          rw (named.done.kept r.number (not_newest, tt) ∙ token_has, holds.3.1) (omega (arith, inside.0, inside.1)) in
          record {
            after = puts.after;
            done = done_as {changed' = 9 ∷ []} {next' = s.pc + 4 * words_to_hold at_pointer} (done_on named.done puts.done) refl
                (omega arith) (λ x out. (out.0, (out.0, tt)));
            is_newest = puts.value_is some_held ∙ same;
          }

      hold_token : Comes map_of pool functions depth stop code parts 5 old
          (placed_goes (record behind { held = k ∷ f.held }) fs known
          (with_cells world (with_block word (kept words) world.cells))) s
      hold_token =
          let inside = own-inside running.cells word words is in
          let cell = own-cell running.cells word words is in
          let from = cell.behind in
          let usable = token_memory.usable in
          let low = sp_low ground f fs known world s running in
          let under = ground.cells_below in
          let stand = running.frames in
          let holds_slot = stand.1 k word word_is in
          let done = stores_both.done in
          let t = stores_both.after in
          let memory = memory_held pool token_seen s t token_memory word slot_here fields_here is_token (is_slot holds_slot.0)
          holds_slot.1 cells_apart slot_apart newest_fits done.memory_is done.parts_are (done.kept 8 out_8) stores_both.is_newest
          (done.kept 18 out_18) (done.kept 19 out_19) in
          let keeps : KeepsOutside word 8 s t = λ x apart.
          ap (λ (m : ℕ → ℕ). m x) done.memory_is ∙ linked-outside word newest slot_here s.memory x apart in
          let link : Link = record { cell = word; slot = slot_here } in
          let links_are : links_of map_of base (record behind { held = k ∷ f.held } ∷ fs) ≡ link ∷ links_here =
          ap (λ o. record { cell = word_of o; slot = slot_here } ∷ links_here) word_is in
          let here : StackAt map_of code (most_lines functions) stop (stack_end map_of depth) s.registers s.memory
          (s.pc + 4 * words_to_hold at_pointer) base
          (record behind { held = k ∷ f.held } ∷ fs)
          = (is_in_again (is_behind (s.pc + 4 * words_to_hold at_pointer) refl hold_last) f.cells (k ∷ f.held), stand.1, stand.2, stand.3) in
          comes_go map_of pool functions depth stop code parts 5 old
          (record {
            frames = record behind { held = k ∷ f.held } ∷ fs;
            registers = known;
            shared = with_cells world (with_block word (kept words) world.cells);
          }) s t (words_to_hold at_pointer) (walks_done done)
          (runs_on map_of pool functions depth stop code parts (record { frames = f ∷ fs; registers = known; shared = world })
          (with_block word (kept words) world.cells) s t (record behind { held = k ∷ f.held } ∷ fs) known base running done out_one out_header
          (links_clear inside.0 from usable) running.room (done.kept 2 out_2 ∙ running.base_is)
          (stack_kept map_of code (most_lines functions) stop (stack_end map_of depth) ground.some_frame s.registers t.registers s.memory
          (linked word newest slot_here s.memory) (s.pc + 4 * words_to_hold at_pointer) base (record behind { held = k ∷ f.held }) fs (spare_link t)
          (λ x above high. word-apart (word + 4) slot_here (with_number word 4 newest s.memory) x (inr (omega (arith, inside.0)))
          ∙ word-apart word newest s.memory x (inr (omega (arith, inside.0)))) here)
          (agrees_done s t known done (refl, tt) running.registers)
          (subst (λ links. HoldsCells pool (with_block word (kept words) world.cells) links t) (sym links_are)
          (held_holds running.cells word slot_here words is memory keeps))) (omega arith) (omega (arith, name_most at_pointer))
        where
          -- no byte of a constant is one of the cell
          links_clear : word + 32 ≤ end_of pool → pool.first ≤ word → IsUsable pool s.parts
              → bytes_at (linked word newest slot_here s.memory) map_of.constants.first (constant_bytes map_of)
              ≡ bytes_at s.memory map_of.constants.first (constant_bytes map_of)
          links_clear high from usable =
              let allowed : (at : ℕ) → can_store s.parts at 4 ≡ true → can_store parts at 4 ≡ true =
              λ at is_so. subst (λ p. can_store p at 4 ≡ true) running.rests.parts_are is_so in
              bytes_at-with_number_apart (word + 4) 4 slot_here (with_number word 4 newest s.memory) map_of.constants.first
              (constant_bytes map_of)
              (ground.constants_kept (word + 4) 4 (allowed (word + 4) (usable.stores (word + 4) (omega arith) (omega arith)))
              (lit< tt))
              ∙ constants_kept ground f fs known world s running word newest (allowed word (usable.stores word from (omega arith)))

  -- ---- unhold

  -- a register that a token may be taken back to, and the words of registers that are known behind that
  record Fetches (r : Register) (word : ℕ) (more : ℕ → Option ℕ) : Type 0 where
    apart : (n : ℕ) → is_target n ≡ false → n ≢ 1 → n ≢ r.number
    loose : is_fixed r.number ≡ false
    agrees : (u : Processor) → value u.registers r.number ≡ word
        → ((x : ℕ) → is_handed_out x ≡ true → x ≢ r.number → value u.registers x ≡ value s.registers x) → Agrees more u.registers

  fetches_way : (word : ℕ) → Fetches ra word known
  fetches_way word = record {
    apart = λ n none other. other;
    loose = refl;
    agrees = λ u has others. agrees_kept known s.registers u.registers running.registers (λ x handed. others x handed (handed_apart x 1 refl handed));
  }

  fetches_target : (r : Register) (word : ℕ) → is_target r.number ≡ true → word < 2 ^ 32 → Fetches r word (put r.number (Some word) known)
  fetches_target r word target fits = record {
    apart = λ n none other same. target_apart r.number n none target (sym same);
    loose = target_fixed r.number target;
    agrees = λ u has others. agrees_put r.number (Some word) known s.registers u.registers running.registers (target_handed r.number target)
        (λ w is. let same : word ≡ w = cc in (has ∙ same, subst (λ v. v < 2 ^ 32) same fits)) others;
  }

  -- where an action gives a token, if it does
  record Given (into : Option Operand) (word : ℕ) : Type 0 where
    rd : Register
    rd_is : token_into into ≡ Some rd
    more : ℕ → Option ℕ
    fetches : Fetches rd word more
    gives : (g : Frame PlacedLine) (next : World) → placed_goes {W = Ending} g fs more next ≡ placed_gives into word g fs known next

  given_at : (value_of : ℕ) (place : Place) (word : ℕ) → is_register place ≡ true → IsTarget place → word < 2 ^ 32
      → Given (Some (record { value = value_of; place = place })) word
  given_at value_of (slot j) word is target fits = cc is
  given_at value_of (register r) word is target fits = record {
    rd = r;
    rd_is = refl;
    more = put r.number (Some word) known;
    fetches = fetches_target r word target fits;
    gives = λ g next. refl;
  }

  given : (into : Option Operand) (word : ℕ) → gives_into Unhold into ≡ true → GivesTarget into → word < 2 ^ 32 → Given into word
  given None word is target fits = record { rd = ra; rd_is = refl; more = known; fetches = fetches_way word; gives = λ g next. refl }
  given (Some operand) word is target fits = given_at operand.value operand.place word is target fits

  module _ (r : Register) (k word : ℕ) (word_is : f.cells k ≡ Some word) (more : ℕ → Option ℕ) (fetches : Fetches r word more)
      (offset : Immediate) (offset_is : IsOffsetOf map_of k offset) (takes : UnholdsToken r code s.pc offset) (is_behind : GoesBehind 3) where
    unhold_last : s.pc + 4 * 3 < 2 ^ 32
    unhold_last = let last = ground.below (s.pc + 4 + 4) _ takes.4.1.1.0 in omega arith

    unhold_over : sum_word (s.pc + 4) takes.0.word ≡ s.pc + 4 * 3
    unhold_over = let last = unhold_last in rw takes.2 (omega arith)

    -- s1 and the register are none of the others
    outside : (n : ℕ) → is_target n ≡ false → n ≢ 1 → n ≢ 9 → IsOutside n (r.number ∷ 9 ∷ [])
    outside n none other differ = (fetches.apart n none other, (differ, tt))

    outside_2 : IsOutside 2 (r.number ∷ 9 ∷ [])
    outside_2 = outside 2 refl (λ e. cc) (λ e. cc)

    outside_one : IsOutside one_register (r.number ∷ 9 ∷ [])
    outside_one = outside one_register refl (λ e. cc) (λ e. cc)

    outside_header : IsOutside header_register (r.number ∷ 9 ∷ [])
    outside_header = outside header_register refl (λ e. cc) (λ e. cc)

    outside_8 : IsOutside 8 (r.number ∷ 9 ∷ [])
    outside_8 = outside 8 refl (λ e. cc) (λ e. cc)

    outside_18 : IsOutside 18 (r.number ∷ 9 ∷ [])
    outside_18 = outside 18 refl (λ e. cc) (λ e. cc)

    outside_19 : IsOutside 19 (r.number ∷ 9 ∷ [])
    outside_19 = outside 19 refl (λ e. cc) (λ e. cc)

    not_first : r.number ≢ 9
    not_first e = fetches.apart 9 refl (λ same. cc) (sym e)

    -- the token comes to the register
    looks : Gets pool.cells code 1 (r.number ∷ []) r.number word (s.pc + 4) s
    looks =
        let aligned = slot_word base k (sp_word ground f fs known world s running) in
        load_gets pool.cells ground.below running.rests.stands refl {rd = r} {base = sp} {offset = offset} {address = base + slot_offset k}
        {word = word} takes.4.0 (slot_at k offset offset_is) aligned (slot_loads ground f fs known world s running rest k offset_is.1)
        (running.frames.1 k word word_is).1 (slot_misses ground f fs known world s running rest k)

    looked : value looks.after.registers r.number ≡ word
    looked = looks.value_is (λ e. fetches.apart 0 refl (λ same. cc) (sym e))

    -- where that is 0, the branch leads over the rest
    unhold_null : word ≡ 0 → Comes map_of pool functions depth stop code parts 3 old (placed_goes behind fs more world) s
    unhold_null null =
        let aligned = running.frames.0.at_word in
        let none : value looks.after.registers r.number ≡ 0 = looked ∙ null in
        let taken = branch_taken pool.cells ground.below looks.done.stands (s.pc + 4) looks.done.pc_is Equal r zero_register
        (s.pc + 4 * 3) Near Near (takes.0, unhold_over, takes.4.1.0) (omega arith) (rw none refl) in
        let done = done_on looks.done taken.done in
        stays ground f fs known world s running 3 old taken.after rest more done
        (outside_2.0, ((λ e. cc), ((λ e. cc), tt)))
        (or_from (is_fixed r.number) (list_any is_fixed (1 ∷ 0 ∷ [])) fetches.loose refl) (spare_link taken.after)
        (is_behind (s.pc + 4 * 3) refl unhold_last)
        (fetches.agrees taken.after (value_kept r.number looks.after.registers taken.after.registers (λ some. kept_token some taken.after taken.link taken.done.kept) ∙ looked)
        (λ x handed differ. value_kept x s.registers taken.after.registers
        (λ some. done.kept x (differ, (handed_apart x 1 refl handed, (some, tt))))))
        (omega arith) (omega arith)
      where
        -- a near branch leaves each register
        kept_token : r.number ≢ 0 → (u : Processor) → (Near ≡ Near → value u.registers 1 ≡ value looks.after.registers 1)
            → ((x : ℕ) → IsOutside x (1 ∷ 0 ∷ []) → value u.registers x ≡ value looks.after.registers x)
            → value u.registers r.number ≡ value looks.after.registers r.number
        kept_token some u link others =
            elim (cases_eq r.number 1) [
              | inl same ↦ subst (λ x. value u.registers x ≡ value looks.after.registers x) (sym same) (link refl)
              | inr differ ↦ others r.number (differ, (some, tt))
            ]

    unhold_token : (held : List ℕ) → f.held ≡ k ∷ held → (words : ℕ → Option ℕ)
        → world.cells.blocks word ≡ kept words
        → Comes map_of pool functions depth stop code parts 3 old
        (placed_goes (record behind { held = held }) fs more
        (with_cells world (with_block word (own (past_links words)) world.cells))) s
    unhold_token held held_is words is =
        let link : Link = record { cell = word; slot = base + slot_offset k } in
        let left = links_in base f.cells held (links_of map_of (base + map_of.frame) fs) in
        let links_are : links_here ≡ link ∷ left =
        ap (λ h. links_in base f.cells h (links_of map_of (base + map_of.frame) fs)) held_is
        ∙ ap (λ o. record { cell = word_of o; slot = base + slot_offset k } ∷ left) word_is in
        let holds = subst (λ links. HoldsCells pool world.cells links s) links_are running.cells in
        let chain = holds.memory.held in
        let is_cell = IsHeld-cell holds.memory.shown chain.1 in
        let inside = cell-inside pool word holds.memory.usable.aligned is_cell in
        let from = is_cell.behind in
        let whole = is_cell.aligned in
        let some = holds.memory.usable.some in
        let below = holds.memory.usable.below in
        let test : nat_eq word 0 ≡ false = let differ : word ≢ 0 = λ e. absurd (omega arith) in grind (arith, nat_tests) in
        let passed = branch_passed pool.cells ground.below looks.done.stands (s.pc + 4) looks.done.pc_is Equal r zero_register
        (s.pc + 4 * 3) Near Near (takes.0, unhold_over, takes.4.1.0) (rw looked test) in
        let two = done_on looks.done passed.done in
        let has : value passed.after.registers r.number ≡ word = passed.done.kept r.number tt ∙ looked in
        let address : sum_word (value passed.after.registers r.number) takes.1.word ≡ word = rw (has, takes.3) (omega arith) in
        let loads = holds.memory.usable.loads word from (omega arith) in
        let misses = token_misses holds.memory word word (fields_of words) (ap seen is) (omega arith) (omega arith) in
        let third = load_gets pool.cells ground.below two.stands {at = s.pc + 4 + 4} two.pc_is {rd = s1} {base = r} {offset = takes.1}
        {address = word} {word = number_at passed.after.memory word 4} takes.4.1.1.0 address (omega arith) (rw two.parts_are loads) refl
        (misses_done word two (outside_8.0, tt) (outside_18.0, tt) (outside_19.0, tt) misses) in
        let done = done_as {changed' = r.number ∷ 9 ∷ []} {next' = s.pc + 4 * 3} (done_on two third.done) refl (omega arith)
        (λ x out. out) in
        let next_is : value third.after.registers 9 ≡ number_at s.memory word 4 =
        third.value_is some_held ∙ ap (λ m. number_at m word 4) two.memory_is in
        let seen_here = view_of world.cells (link ∷ left) in
        let memory = memory_with pool seen_here s third.after holds.memory done.memory_is done.parts_are
        (done.kept 8 outside_8) (done.kept 18 outside_18) (done.kept 19 outside_19) left
        (subst (λ at. IsHeldChain pool s.parts s.memory seen_here.heap at left) (sym next_is) chain.4) in
        let stand = running.frames in
        let kept_token : value third.after.registers r.number ≡ word =
        third.done.kept r.number (not_first, tt) ∙ has in
        comes_go map_of pool functions depth stop code parts 3 old
        (record {
          frames = record behind { held = held } ∷ fs;
          registers = more;
          shared = with_cells world (with_block word (own (past_links words)) world.cells);
        }) s third.after 3 (walks_done done)
        (runs_on map_of pool functions depth stop code parts (record { frames = f ∷ fs; registers = known; shared = world })
        (with_block word (own (past_links words)) world.cells) s third.after (record behind { held = held } ∷ fs) more base running
        done outside_one outside_header refl running.room (done.kept 2 outside_2 ∙ running.base_is)
        (stack_kept map_of code (most_lines functions) stop (stack_end map_of depth) ground.some_frame s.registers third.after.registers
        s.memory s.memory (s.pc + 4 * 3) base (record behind { held = held }) fs (spare_link third.after) (λ x low high. refl)
        (is_in_again (is_behind (s.pc + 4 * 3) refl unhold_last) f.cells held, stand.1, stand.2, stand.3))
        (fetches.agrees third.after kept_token (λ x handed differ. done.kept x (differ, (handed_apart x 9 refl handed, tt))))
        (unheld_holds holds words is memory done.memory_is)) (omega arith) (omega arith)

  -- ---- both

  -- what holding a token or taking one back does to the block of its cell
  abbrev on_block : (Block → Option Block) → ℕ → World → Option World
  on_block change = on_cells (λ word cells. option_map (λ b. with_block word b cells) (change (cells.blocks word)))

  -- what is left by a line that gives a token somewhere
  abbrev leaves : Option Operand → ℕ → List ℕ → World → PlacedTurn World Ending
  leaves to word held next = placed_gives to word (record behind { held = held }) fs known next

  -- the turn of a line that holds a token or takes one back, by its slot and its word, by what it does to the chain and to the world,
  -- and by where it gives the token
  abbrev token_turn : Option ℕ → Option ℕ → (ℕ → ℕ → List ℕ → Option (List ℕ)) → (ℕ → World → Option World) → Option Operand
      → PlacedTurn World Ending
  token_turn of_slot of_word keeping act to =
      or_stuck of_slot (λ k. or_stuck of_word (λ word. or_stuck (keeping k word f.held) (λ held.
      or_stuck (by_token act word world) (λ next. leaves to word held next))))

  module _ (args : List Operand) (into : Option Operand) (words : List ℕ) (turn : PlacedTurn World Ending) (good : turn ≢ stuck)
      (words_are : all_of (map (λ (arg : Operand). read_at known f.cells arg.place) args) ≡ Some words) where
    -- what is found on the way of a line that is not stuck
    record TokenLine (of_slot of_word : Option ℕ) (keeping : ℕ → ℕ → List ℕ → Option (List ℕ)) (act : ℕ → World → Option World)
        (to : Option Operand) : Type 0 where
      k : ℕ
      word : ℕ
      held : List ℕ
      next : World
      slot_is : of_slot ≡ Some k
      word_is : of_word ≡ Some word
      held_is : keeping k word f.held ≡ Some held
      next_is : by_token act word world ≡ Some next
      turn_is : leaves to word held next ≡ turn

    token_line : (of_slot of_word : Option ℕ) (keeping : ℕ → ℕ → List ℕ → Option (List ℕ)) (act : ℕ → World → Option World)
        (to : Option Operand) → token_turn of_slot of_word keeping act to ≡ turn → TokenLine of_slot of_word keeping act to
    token_line of_slot of_word keeping act to is =
        let on : ℕ → List ℕ → PlacedTurn World Ending = λ word held. or_stuck (by_token act word world) (λ next. leaves to word held next) in
        let at_slot = or_stuck_some of_slot (λ k. or_stuck of_word (λ word. or_stuck (keeping k word f.held) (on word))) turn is good in
        let at_word = or_stuck_some of_word (λ word. or_stuck (keeping at_slot.0 word f.held) (on word)) turn at_slot.2 good in
        let at_held = or_stuck_some (keeping at_slot.0 at_word.0 f.held) (on at_word.0) turn at_word.2 good in
        let at_next = or_stuck_some (by_token act at_word.0 world) (λ next. leaves to at_word.0 at_held.0 next) turn at_held.2 good in
        record {
          k = at_slot.0;
          word = at_word.0;
          held = at_held.0;
          next = at_next.0;
          slot_is = at_slot.1;
          word_is = at_word.1;
          held_is = at_held.1;
          next_is = at_next.1;
          turn_is = at_next.2;
        }

    module _ {of_slot of_word : Option ℕ} {keeping : ℕ → ℕ → List ℕ → Option (List ℕ)} {to : Option Operand} where
      -- the null token changes nothing
      null_turn : {act : ℕ → World → Option World} (line : TokenLine of_slot of_word keeping act to) → line.word ≡ 0
          → line.held ≡ f.held → placed_gives to line.word behind fs known world ≡ turn
      null_turn {act = act} line null same =
          ap (λ (w : World). placed_gives to line.word behind fs known w) (sym (null_token act line.word world line.next null line.next_is))
          ∙ ap (λ h. leaves to line.word h line.next) (sym same) ∙ line.turn_is

      -- another one changes the block of its cell
      some_turn : (change : Block → Option Block) (line : TokenLine of_slot of_word keeping (on_block change) to) → line.word ≢ 0
          → (block : Block) × (change (world.cells.blocks line.word) ≡ Some block)
          × (leaves to line.word line.held (with_cells world (with_block line.word block world.cells)) ≡ turn)
      some_turn change line some =
          let changing : Block → Cells = λ b. with_block line.word b world.cells in
          let blocks : Option Block = change (world.cells.blocks line.word) in
          let done = mapped (with_cells world) (option_map changing blocks) line.next
          (some_token (on_block change) line.word world line.next some line.next_is) in
          let block = mapped changing blocks done.0 done.1 in (
            block.0,
            block.1,
            ap (λ c. leaves to line.word line.held (with_cells world c)) block.2
                ∙ ap (λ (w : World). leaves to line.word line.held w) done.2 ∙ line.turn_is,
          )

    -- whether the stack pointer is the address of the slot
    abbrev at_pointer : Bool
    at_pointer = is_at_pointer running.frames.0.forms.jumps args

    abbrev HoldLine : Type 0
    HoldLine = TokenLine (first_slot args) (twice_of words) holding (on_block held_as) None

    pub follow_hold : running.frames.0.forms.jumps ≡ map_of.jumps
        → GoesBehind (words_to_hold at_pointer) → conforms Hold args into ≡ true
        → ((r : Register) → token_from args ≡ Some r → OnToken (HoldsToken at_pointer r) map_of code s.pc args)
        → placed_acts (primitives map_of.constants pool) depth functions behind fs known world Hold args into words ≡ turn
        → Comes map_of pool functions depth stop code parts 5 old turn s
    follow_hold jumps_are is_behind conform here is =
        let line : HoldLine = token_line (first_slot args) (twice_of words) holding (on_block held_as) None is in
        let taken = and_parts (take_from Hold 0 args) (gives_into Hold into) conform in
        let twice = twice_is known f.cells args words line.k line.word taken.0 line.slot_is words_are line.word_is in
        let in_register = running.registers twice.token.number line.word twice.in_register in
        let kept_free = holding_by line.k line.word f.held line.held line.held_is in
        let row = here twice.token twice.token_is line.k line.slot_is in
        by line twice.token in_register.0 in_register.1 twice.in_slot row.0 row.1 row.2 kept_free.0 kept_free.1
      where
        -- then it is
        pointer : (line : HoldLine) → at_pointer ≡ true → value s.registers 2 ≡ base + slot_offset line.k
        pointer line is_so =
            let test : (line.k == pointer_slot running.frames.0.forms.jumps) ≡ true =
            sym (ap (is_pointer_slot running.frames.0.forms.jumps) line.slot_is) ∙ is_so in
            framed_base ground f fs known world s running framed
            ∙ ap (λ (jumps : Reach). base + frame_bias jumps) (sym jumps_are)
            ∙ ap (λ n. base + n) (sym (slot_at_pointer running.frames.0.forms.jumps line.k test))

        by : (line : HoldLine) (r : Register) → is_handed_out r.number ≡ true → value s.registers r.number ≡ line.word
            → f.cells line.k ≡ Some line.word → (offset : Immediate) → IsOffsetOf map_of line.k offset
            → HoldsToken at_pointer r code s.pc offset
            → is_among line.k f.held ≡ false
            → ((line.word ≡ 0) × (line.held ≡ f.held)) ⊎ ((line.word ≢ 0) × (line.held ≡ line.k ∷ f.held))
            → Comes map_of pool functions depth stop code parts 5 old turn s
        by line r handed has in_slot offset offset_is holds free (inl null) =
            subst (λ t. Comes map_of pool functions depth stop code parts 5 old t s) (null_turn line null.0 null.1)
            (hold_null r handed line.k offset offset_is at_pointer (pointer line) holds is_behind (has ∙ null.0))
        by line r handed has in_slot offset offset_is holds free (inr some) =
            let done = some_turn held_as line some.0 in
            let found = held_own (world.cells.blocks line.word) done.0 done.1 in
            subst (λ t. Comes map_of pool functions depth stop code parts 5 old t s)
            (ap (λ b. leaves None line.word (line.k ∷ f.held) (with_cells world (with_block line.word b world.cells))) (sym found.2)
            ∙ ap (λ h. leaves None line.word h (with_cells world (with_block line.word done.0 world.cells))) (sym some.1) ∙ done.2)
            (hold_token r handed line.k offset offset_is at_pointer (pointer line) holds is_behind line.word has in_slot free found.0 found.1)

    abbrev UnholdLine : Type 0
    UnholdLine = TokenLine (only_slot args) (only_of words) unholding (on_block unheld_as) into

    pub follow_unhold : GoesBehind 3 → conforms Unhold args into ≡ true → GivesTarget into
        → ((r : Register) → token_into into ≡ Some r → OnToken (UnholdsToken r) map_of code s.pc args)
        → placed_acts (primitives map_of.constants pool) depth functions behind fs known world Unhold args into words ≡ turn
        → Comes map_of pool functions depth stop code parts 3 old turn s
    follow_unhold is_behind conform target here is =
        let line : UnholdLine = token_line (only_slot args) (only_of words) unholding (on_block unheld_as) into is in
        let taken = and_parts (take_from Unhold 0 args) (gives_into Unhold into) conform in
        let in_slot = slot_word_is known f.cells args words line.k line.word line.slot_is words_are line.word_is in
        let goes = given into line.word taken.1 target (running.frames.1 line.k line.word in_slot).2 in
        let row = here goes.rd goes.rd_is line.k (only_first args line.k line.slot_is) in
        by line in_slot goes row.0 row.1 row.2 (unholding_by line.k line.word f.held line.held line.held_is)
      where
        by : (line : UnholdLine) → f.cells line.k ≡ Some line.word → (goes : Given into line.word) (offset : Immediate)
            → IsOffsetOf map_of line.k offset → UnholdsToken goes.rd code s.pc offset
            → ((line.word ≡ 0) × (line.held ≡ f.held)) ⊎ ((line.word ≢ 0) × (f.held ≡ line.k ∷ line.held))
            → Comes map_of pool functions depth stop code parts 3 old turn s
        by line in_slot goes offset offset_is takes (inl null) =
            subst (λ t. Comes map_of pool functions depth stop code parts 3 old t s) (goes.gives behind world ∙ null_turn line null.0 null.1)
            (unhold_null goes.rd line.k line.word in_slot goes.more goes.fetches offset offset_is takes is_behind null.0)
        by line in_slot goes offset offset_is takes (inr some) =
            let done = some_turn unheld_as line some.0 in
            let found = unheld_kept (world.cells.blocks line.word) done.0 done.1 in
            let next : Block → World = λ b. with_cells world (with_block line.word b world.cells) in
            subst (λ t. Comes map_of pool functions depth stop code parts 3 old t s)
            (goes.gives (record behind { held = line.held }) (next (own (past_links found.0)))
            ∙ (ap (λ b. leaves into line.word line.held (next b)) (sym found.2) ∙ done.2))
            (unhold_token goes.rd line.k line.word in_slot goes.more goes.fetches offset offset_is takes is_behind line.held some.1 found.0 found.1)
