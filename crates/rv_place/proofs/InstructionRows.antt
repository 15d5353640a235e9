-- The rows of instructions that placed code is made of, executed: constants, jumps, branches, entries of functions and returns.
use Rattle.std.proofs.Common.{◌≡◌, ◌≢◌, ◌<◌, ℕ, ◌+◌, ◌-◌, ◌%◌, ◌^◌, List, [], ◌∷◌, Some, Bool, true, false, not, nat_eq, refl, sym, ap, ◌∙◌, subst, arith, ◌*◌}
use Rattle.std.proofs.lemmas.Bool.Decides.{nat_tests}
use Rattle.rv_isa.specs.declared.register.Register.{Register}
use Rattle.rv_isa.specs.declared.immediate.BranchOffset.{BranchOffset}
use Rattle.rv_isa.specs.declared.instr.Instr.{Instr}
use Rattle.rv_isa.specs.declared.instr.Instr.TheVariants.{Addi, Jalr}
use Rattle.rv_isa.specs.declared.immediate.Immediate.{Immediate}
use Rattle.rv_isa.specs.declared.asm.Condition.{Condition}
use Rattle.rv_isa.specs.declared.asm.Condition.TheVariants.{Equal, NotEqual}
use Rattle.rv_isa.specs.declared.placed.Symbol.TheVariants as symbol
use Rattle.rv_isa.specs.Arithmetic.{sum_word}
use Rattle.rv_isa.specs.Meaning.{branches}
use Rattle.rv_isa.specs.Execution.{effect_at}
use Rattle.rv_isa.specs.Bytes.{number_at, with_number}
use Rattle.rv_isa.specs.Processor.{Processor, value, can_load, can_store}
use Rattle.rv_isa.specs.Standing.{Code, Stands}
use Rattle.rv_isa.specs.Opposites.{opposite}
use Rattle.cell_runtime.specs.Operations.{compares}
use Rattle.cell_runtime.specs.Registers.{IsOutside}
use Rattle.rv_place.specs.Registers.{zero_register, ra, sp, t0, s3}
use Rattle.rv_place.specs.Addresses.{words_of_shift, words_to_frame, entry_words, frame_bias, way_offset}
use Rattle.rv_place.specs.Instructions.{branch_instruction, LoadsWord, words_of_jump, JumpsFar, JumpsBy, words_of_branch, BranchesFar, BranchesOn}
use Rattle.rv_place.specs.declared.reach.Reach.{Reach}
use Rattle.rv_place.specs.declared.reach.Reach.TheVariants.{Near, Far, Wide}
use Rattle.rv_place.specs.Lines.{Map, IsFromPointer, ShiftsStack, IsSymbolAt, GoesBack, ReturnsFrom, frame_register, FindsFrame, TestsRoom, EntersAt, PassesAt, BeginsAt}
use Rattle.rv_place.proofs.InstructionExecution.{addi_row, lui_row, branch_effect, MissesFree, Done, Gets, Goes, misses_done, done_none, done_then, done_as, done_on, target_of, next_is, plain_gets, auipc_gets, load_gets, store_goes, jump_gets, branch_goes, opposite_compares, near_gets}

-- instructions that leave a word in the stack pointer
pub record Shifts (cells : ℕ) (code : Code) (steps : ℕ) (changed : List ℕ) (memory : ℕ → ℕ) (base next : ℕ) (s : Processor) : Type 0 where
  pub after : Processor
  pub done : Done cells code steps changed memory next s after
  pub base_is : value after.registers 2 ≡ base

-- A jump has led to an address, with the way back in a register. A near one leaves ra as it is, where the way back does not go there.
pub record Jumped (cells : ℕ) (code : Code) (reach : Reach) (back way target : ℕ) (s : Processor) : Type 0 where
  pub after : Processor
  pub done : Done cells code (words_of_jump reach) (1 ∷ back ∷ []) s.memory target s after
  pub value_is : back ≢ 0 → value after.registers back ≡ way
  pub link : reach ≡ Near → back ≢ 1 → value after.registers 1 ≡ value s.registers 1

-- a branch has led to an address; where jumps are near it leaves ra as it is
pub record Branched (cells : ℕ) (code : Code) (jumps : Reach) (steps : ℕ) (next : ℕ) (s : Processor) : Type 0 where
  pub after : Processor
  pub done : Done cells code steps (1 ∷ 0 ∷ []) s.memory next s after
  pub link : jumps ≡ Near → value after.registers 1 ≡ value s.registers 1

-- a frame is given back, and the way back has come to ra
pub record Leaves (cells : ℕ) (code : Code) (steps : ℕ) (base way next : ℕ) (s : Processor) : Type 0 where
  pub after : Processor
  pub done : Done cells code steps (1 ∷ 2 ∷ []) s.memory next s after
  pub base_is : value after.registers 2 ≡ base
  pub way_is : value after.registers 1 ≡ way

-- a register that a test whether a frame is left may set
pub record IsFree (free : Register) : Type 0 where
  pub some : free.number ≢ 0
  pub no_end : IsOutside 19 (free.number ∷ [])

-- a frame is taken from the stack pointer
shifted : (base frame bias : ℕ) → base + frame + bias < 2 ^ 32 → sum_word (base + frame + bias) (2 ^ 32 - frame) ≡ base + bias
shifted base frame bias below = omega arith

-- two words that are added are their sum
added_twice : (n a b size : ℕ) → sum_word a b ≡ size → sum_word (sum_word n a) b ≡ sum_word n size
added_twice n a b size is = omega (arith, is)

-- the address of what stands so far above the first word of a frame, by its offset from the stack pointer
pub from_pointer : (base bias above offset : ℕ) → sum_word bias offset ≡ above → base + above < 2 ^ 32 → sum_word (base + bias) offset ≡ base + above
from_pointer base bias above offset is below = omega (arith, is)

-- where nothing is added
stays_at : (at : ℕ) → at ≡ at + 4 * 0
stays_at at = omega arith

stays_at' : (base : ℕ) → base + 0 ≡ base
stays_at' base = omega arith

same_address : (base : ℕ) → base < 2 ^ 32 → sum_word base 0 ≡ base
same_address base below = omega arith

-- where jumps are near, the stack pointer is at a frame
pub bare_sp : (jumps : Reach) (base : ℕ) → jumps ≡ Near → base + frame_bias jumps ≡ base
bare_sp jumps base near = ap (λ j. base + frame_bias j) near ∙ stays_at' base

module _ (cells : ℕ) {code : Code} (below : (at : ℕ) (i : Instr) → code at ≡ Some i → at + 4 < 2 ^ 32) where
  pub word_gets : {s : Processor} → Stands code s → (at : ℕ) → s.pc ≡ at → (rd : Register) (word : ℕ) → LoadsWord code at rd word → Gets cells code 2 (rd.number ∷ []) rd.number word (at + 8) s
  word_gets stands at pc_is rd word (upper, lower, sum, has) =
      let first = plain_gets cells below stands pc_is (lui_row rd upper) has.0 in
      let second = plain_gets cells below first.done.stands first.done.pc_is (addi_row rd rd lower) has.1.0 in
      record {
        after = second.after;
        done = done_as (done_on first.done second.done) refl (omega arith) (λ x out. (out.0, (out.0, tt)));
        value_is = λ some. second.value_is some ∙ (ap (λ v. sum_word v lower.word) (first.value_is some) ∙ sum);
      }

  far_to : {s : Processor} → Stands code s → (at : ℕ) → s.pc ≡ at → (back : Register) (target : ℕ) → JumpsFar code at back target → target % 4 ≡ 0
      → Gets cells code 2 (1 ∷ back.number ∷ []) back.number (at + 8) target s
  far_to stands at pc_is back target (upper, lower, sum, has) aligned =
      let first = auipc_gets cells below stands pc_is {rd = ra} {imm = upper} has.0 refl in
      let target_is : sum_word (value first.after.registers 1) lower.word ≡ target = ap (λ v. sum_word v lower.word) (first.value_is (λ e. cc)) ∙ sum in
      let second = jump_gets cells below first.done.stands first.done.pc_is {back = back} {by = ra} {offset = lower} has.1.0 target_is aligned in
      let behind : at + 4 + 4 ≡ at + 8 = omega arith in
      record { after = second.after; done = done_on first.done second.done; value_is = λ kept. second.value_is kept ∙ behind }

  pub jump_to : {s : Processor} → Stands code s → (reach : Reach) (at : ℕ) → s.pc ≡ at → (back : Register) (target : ℕ) → JumpsBy reach code at back target → target % 4 ≡ 0
      → Jumped cells code reach back.number (at + 4 * words_of_jump reach) target s
  jump_to stands Near at pc_is back target (offset, sum, here) aligned =
      let jump = near_gets cells below stands pc_is {back = back} {offset = offset} here sum aligned in
      record {
        after = jump.after;
        done = done_as {changed' = 1 ∷ back.number ∷ []} jump.done refl refl (λ x out. out.1);
        value_is = jump.value_is;
        link = λ near apart. jump.done.kept 1 ((λ e. apart (sym e)), tt);
      }
  jump_to stands Far at pc_is back target jump aligned =
      let far = far_to stands at pc_is back target jump aligned in
      record { after = far.after; done = far.done; value_is = far.value_is; link = λ near apart. cc near }
  jump_to stands Wide at pc_is back target jump aligned =
      let far = far_to stands at pc_is back target jump aligned in
      record { after = far.after; done = far.done; value_is = far.value_is; link = λ near apart. cc near }

  -- the address behind a jump, or a branch, is a word
  pub jump_last : (reach : Reach) (at : ℕ) (back : Register) (target : ℕ) → JumpsBy reach code at back target → at + 4 * words_of_jump reach < 2 ^ 32
  jump_last Near at back target (offset, sum, here) = below at (Instr.Jal back offset) here
  jump_last Far at back target (upper, lower, sum, has) = let last = below (at + 4) (Jalr back ra lower) has.1.0 in omega arith
  jump_last Wide at back target (upper, lower, sum, has) = let last = below (at + 4) (Jalr back ra lower) has.1.0 in omega arith

  pub branch_last : (jumps reach : Reach) (at : ℕ) (condition : Condition) (a b : Register) (target : ℕ) → BranchesOn jumps reach code at condition a b target → at + 4 * words_of_branch jumps reach < 2 ^ 32
  branch_last jumps Near at condition a b target (offset, sum, here) = below at (branch_instruction condition a b offset) here
  branch_last jumps Far at condition a b target (over, over_is, here, jump) = let last = jump_last jumps (at + 4) zero_register target jump in omega arith
  branch_last jumps Wide at condition a b target (over, over_is, here, jump) = let last = jump_last jumps (at + 4) zero_register target jump in omega arith

  -- a branch whose condition holds leads to the target, and another behind it
  module _ {s : Processor} (stands : Stands code s) (at : ℕ) (pc_is : s.pc ≡ at) (condition : Condition) (a b : Register) (target : ℕ) (jumps : Reach) where
    goes_by : (of : Condition) (offset : BranchOffset) (test : Bool) → compares of (value s.registers a.number) (value s.registers b.number) ≡ test
        → effect_at s (branch_instruction of a b offset) ≡ branches s.pc test offset
    goes_by of offset test is = branch_effect of a b offset s ∙ ap (λ t. branches s.pc t offset) is

    opposed : (test : Bool) → compares condition (value s.registers a.number) (value s.registers b.number) ≡ test → compares (opposite condition) (value s.registers a.number) (value s.registers b.number) ≡ not test
    opposed test is = opposite_compares condition (value s.registers a.number) (value s.registers b.number) ∙ ap not is

    -- over the jump behind a far branch
    far_taken : BranchesFar jumps code at condition a b target → target % 4 ≡ 0 → compares condition (value s.registers a.number) (value s.registers b.number) ≡ true
        → Branched cells code jumps (1 + words_of_jump jumps) target s
    far_taken (over, over_is, here, jump) aligned holds =
        let word = stands.aligned at (branch_instruction (opposite condition) a b over) here in
        let first = branch_goes cells below stands pc_is (branch_instruction (opposite condition) a b over) (sum_word s.pc 4) {next = at + 4} here (goes_by (opposite condition) over false (opposed true holds)) (next_is cells below stands pc_is here) (omega arith) in
        let second = jump_to first.done.stands jumps (at + 4) first.done.pc_is zero_register target jump aligned in
        record { after = second.after; done = done_on first.done second.done; link = λ near. second.link near (λ e. cc) ∙ first.done.kept 1 tt }

    far_passed : BranchesFar jumps code at condition a b target → compares condition (value s.registers a.number) (value s.registers b.number) ≡ false
        → Goes cells code 1 [] s.memory (at + 4 * (1 + words_of_jump jumps)) s
    far_passed (over, over_is, here, jump) fails =
        let word = stands.aligned at (branch_instruction (opposite condition) a b over) here in
        let last = jump_last jumps (at + 4) zero_register target jump in
        let next : ℕ = at + 4 * (1 + words_of_jump jumps) in
        let behind : at + (4 + 4 * words_of_jump jumps) ≡ next = omega arith in
        let over_at : sum_word s.pc over.word ≡ next = rw (pc_is, over_is) (target_of at (4 + 4 * words_of_jump jumps) (omega arith) ∙ behind) in
        branch_goes cells below stands pc_is (branch_instruction (opposite condition) a b over) (sum_word s.pc over.word) {next = next} here (goes_by (opposite condition) over true (opposed false fails)) over_at (omega arith)

    pub branch_taken : (reach : Reach) → BranchesOn jumps reach code at condition a b target → target % 4 ≡ 0 → compares condition (value s.registers a.number) (value s.registers b.number) ≡ true
        → Branched cells code jumps (words_of_branch jumps reach) target s
    branch_taken Near (offset, sum, here) aligned holds =
        let target_is : sum_word s.pc offset.word ≡ target = ap (λ pc. sum_word pc offset.word) pc_is ∙ sum in
        let goes = branch_goes cells below stands pc_is (branch_instruction condition a b offset) (sum_word s.pc offset.word) {next = target} here (goes_by condition offset true holds) target_is aligned in
        record { after = goes.after; done = done_as {changed' = 1 ∷ 0 ∷ []} goes.done refl refl (λ x out. tt); link = λ near. goes.done.kept 1 tt }
    branch_taken Far branch aligned holds = far_taken branch aligned holds
    branch_taken Wide branch aligned holds = far_taken branch aligned holds

    pub branch_passed : (reach : Reach) → BranchesOn jumps reach code at condition a b target → compares condition (value s.registers a.number) (value s.registers b.number) ≡ false
        → Goes cells code 1 [] s.memory (at + 4 * words_of_branch jumps reach) s
    branch_passed Near (offset, sum, here) fails =
        let word = stands.aligned at (branch_instruction condition a b offset) here in
        branch_goes cells below stands pc_is (branch_instruction condition a b offset) (sum_word s.pc 4) {next = at + 4} here (goes_by condition offset false fails) (next_is cells below stands pc_is here) (omega arith)
    branch_passed Far branch fails = far_passed branch fails
    branch_passed Wide branch fails = far_passed branch fails

  -- ---- the stack pointer

  one_shift : {s : Processor} → Stands code s → (size at : ℕ) → s.pc ≡ at → (whole : Immediate) → whole.word ≡ size → code at ≡ Some (Addi sp sp whole)
      → Shifts cells code 1 (2 ∷ []) s.memory (sum_word (value s.registers 2) size) (at + 4) s
  one_shift {s} stands size at pc_is whole size_is here =
      let gets = plain_gets cells below stands pc_is (addi_row sp sp whole) here in
      record { after = gets.after; done = gets.done; base_is = gets.value_is (λ e. cc) ∙ ap (λ w. sum_word (value s.registers 2) w) size_is }

  -- a word is added to it
  shifts_by : {s : Processor} → Stands code s → (reach : Reach) (size at : ℕ) → s.pc ≡ at → ShiftsStack reach size code at
      → Shifts cells code (words_of_shift reach) (2 ∷ []) s.memory (sum_word (value s.registers 2) size) (at + 4 * words_of_shift reach) s
  shifts_by stands Near size at pc_is (whole, size_is, here) = one_shift stands size at pc_is whole size_is here
  shifts_by stands Far size at pc_is (whole, size_is, here) = one_shift stands size at pc_is whole size_is here
  shifts_by {s} stands Wide size at pc_is (first, second, sum, has) =
      let a = plain_gets cells below stands pc_is (addi_row sp sp first) has.0 in
      let b = plain_gets cells below a.done.stands a.done.pc_is (addi_row sp sp second) has.1.0 in
      record {
        after = b.after;
        done = done_as {changed' = 2 ∷ []} (done_on a.done b.done) refl (omega arith) (λ x out. (out.0, (out.0, tt)));
        base_is = b.value_is (λ e. cc)
            ∙ (ap (λ v. sum_word v second.word) (a.value_is (λ e. cc)) ∙ added_twice (value s.registers 2) first.word second.word size sum);
      }

  -- a frame is taken, and the way back saved in its last word
  pub frame_takes : {s : Processor} → Stands code s → (map : Map) (at : ℕ) → s.pc ≡ at → ShiftsStack map.jumps (2 ^ 32 - map.frame) code at
      → (back : Immediate) → IsFromPointer map.jumps (way_offset map.frame) back → code (at + 4 * words_of_shift map.jumps) ≡ Some (Instr.Sw sp ra back)
      → (lower way : ℕ) → value s.registers 2 ≡ lower + map.frame + frame_bias map.jumps → lower + map.frame + frame_bias map.jumps < 2 ^ 32
      → value s.registers 1 ≡ way → (lower + way_offset map.frame) % 4 ≡ 0 → can_store s.parts (lower + way_offset map.frame) 4 ≡ true
      → MissesFree cells s (lower + way_offset map.frame)
      → Shifts cells code (words_of_shift map.jumps + 1) (2 ∷ []) (with_number (lower + way_offset map.frame) 4 way s.memory) (lower + frame_bias map.jumps) (at + 4 * words_of_shift map.jumps + 4) s
  frame_takes {s} stands map at pc_is takes back back_is saves lower way base_is fits way_is aligned allowed misses =
      let moved = shifts_by stands map.jumps (2 ^ 32 - map.frame) at pc_is takes in
      let lowered : value moved.after.registers 2 ≡ lower + frame_bias map.jumps =
      moved.base_is ∙ rw base_is (shifted lower map.frame (frame_bias map.jumps) fits) in
      let address : sum_word (value moved.after.registers 2) back.word ≡ lower + way_offset map.frame =
      rw lowered (from_pointer lower (frame_bias map.jumps) (way_offset map.frame) back.word back_is (omega (arith, fits))) in
      let saved : value moved.after.registers 1 ≡ way = moved.done.kept 1 ((λ e. cc), tt) ∙ way_is in
      let last = store_goes cells below moved.done.stands {at = at + 4 * words_of_shift map.jumps} moved.done.pc_is {base = sp} {from = ra} {offset = back}
      {address = lower + way_offset map.frame} {word = way} saves address saved aligned (rw moved.done.parts_are allowed)
      (misses_done (lower + way_offset map.frame) moved.done ((λ e. cc), tt) ((λ e. cc), tt) ((λ e. cc), tt) misses) in
      record {
        after = last.after;
        done = done_as {changed' = 2 ∷ []} (done_then moved.done last.done) (ap (λ m. with_number (lower + way_offset map.frame) 4 way m) moved.done.memory_is) refl (λ x out. out);
        base_is = last.done.kept 2 tt ∙ lowered;
      }

  -- the way back is loaded, and the frame given back
  pub frame_leaves : {s : Processor} → Stands code s → (map : Map) (at : ℕ) → s.pc ≡ at → (back : Immediate) → IsFromPointer map.jumps (way_offset map.frame) back
      → code at ≡ Some (Instr.Lw ra sp back) → ShiftsStack map.jumps map.frame code (at + 4) → (base way : ℕ) → value s.registers 2 ≡ base + frame_bias map.jumps
      → number_at s.memory (base + way_offset map.frame) 4 ≡ way → base + map.frame + frame_bias map.jumps < 2 ^ 32 → (base + way_offset map.frame) % 4 ≡ 0
      → can_load s.parts (base + way_offset map.frame) 4 ≡ true → MissesFree cells s (base + way_offset map.frame)
      → Leaves cells code (1 + words_of_shift map.jumps) (base + map.frame + frame_bias map.jumps) way (at + 4 + 4 * words_of_shift map.jumps) s
  frame_leaves {s} stands map at pc_is back back_is loads gives base way base_is way_is fits aligned allowed misses =
      let address : sum_word (value s.registers 2) back.word ≡ base + way_offset map.frame =
      rw base_is (from_pointer base (frame_bias map.jumps) (way_offset map.frame) back.word back_is (omega arith)) in
      let first = load_gets cells below stands pc_is {rd = ra} {base = sp} {offset = back} {address = base + way_offset map.frame} {word = way} loads address aligned allowed way_is misses in
      let old_base : value first.after.registers 2 ≡ base + frame_bias map.jumps = first.done.kept 2 ((λ e. cc), tt) ∙ base_is in
      let second = shifts_by first.done.stands map.jumps map.frame (at + 4) first.done.pc_is gives in
      let raised : sum_word (value first.after.registers 2) map.frame ≡ base + map.frame + frame_bias map.jumps = rw old_base (omega arith) in
      record {
        after = second.after;
        done = done_on first.done second.done;
        base_is = second.base_is ∙ raised;
        way_is = second.done.kept 1 ((λ e. cc), tt) ∙ first.value_is (λ e. cc);
      }

  -- ---- tests whether a frame is left

  -- the address of the newest frame has come to its register
  record Found (free : Register) (jumps : Reach) (at base : ℕ) (s : Processor) : Type 0 where
    after : Processor
    done : Done cells code (words_to_frame jumps) (free.number ∷ []) s.memory (at + 4 * words_to_frame jumps) s after
    frame_is : value after.registers (frame_register jumps free).number ≡ base

  found_at : {s : Processor} → Stands code s → (free : Register) → free.number ≢ 0 → (jumps : Reach) (at base : ℕ) → s.pc ≡ at → FindsFrame jumps free code at → base < 2 ^ 32
      → value s.registers 2 ≡ base + frame_bias jumps → Found free jumps at base s
  found_at {s} stands free some Near at base pc_is finds fits base_is = record { after = s; done = done_none stands (pc_is ∙ stays_at at); frame_is = base_is ∙ stays_at' base }
  found_at {s} stands free some Far at base pc_is finds fits base_is = record { after = s; done = done_none stands (pc_is ∙ stays_at at); frame_is = base_is ∙ stays_at' base }
  found_at {s} stands free some Wide at base pc_is (down, down_is, here) fits base_is =
      let gets = plain_gets cells below stands pc_is (addi_row free sp down) here in
      let frame : sum_word (value s.registers 2) down.word ≡ base = rw (base_is, down_is) (omega arith) in
      record { after = gets.after; done = gets.done; frame_is = gets.value_is some ∙ frame }

  module _ {s : Processor} (stands : Stands code s) (free : Register) (is_free : IsFree free) (map : Map) (at : ℕ) (pc_is : s.pc ≡ at) (tests : TestsRoom free map code at)
      (full : ℕ) (full_at : IsSymbolAt map symbol.StackFull full)
      (base : ℕ) (base_is : value s.registers 2 ≡ base + frame_bias map.jumps) (fits : base + frame_bias map.jumps < 2 ^ 32) (end_is : value s.registers 19 ≡ map.bottom) where
    found : Found free map.jumps at base s
    found = found_at stands free is_free.some map.jumps at base pc_is tests.finds (omega arith) base_is

    test_is : (test : Bool) → nat_eq base map.bottom ≡ test → compares Equal (value found.after.registers (frame_register map.jumps free).number) (value found.after.registers 19) ≡ test
    test_is test is = rw (found.frame_is, found.done.kept 19 is_free.no_end, end_is) is

    -- at the lowest frame the stack is full
    pub room_full : full % 4 ≡ 0 → base ≡ map.bottom → Goes cells code (words_to_frame map.jumps + words_of_branch map.jumps Far) (free.number ∷ 1 ∷ 0 ∷ []) s.memory full s
    room_full aligned last =
        let test : nat_eq base map.bottom ≡ true = grind (arith, nat_tests) in
        let second = branch_taken found.done.stands (at + 4 * words_to_frame map.jumps) found.done.pc_is Equal (frame_register map.jumps free) s3 full map.jumps Far (tests.full full full_at) aligned (test_is true test) in
        record { after = second.after; done = done_on found.done second.done }

    -- else the test leads over the jump
    pub room_left : base ≢ map.bottom → Goes cells code (words_to_frame map.jumps + 1) (free.number ∷ []) s.memory (at + 4 * words_to_frame map.jumps + 4 + 4 * words_of_jump map.jumps) s
    room_left more =
        let test : nat_eq base map.bottom ≡ false = grind (arith, nat_tests) in
        let second = branch_passed found.done.stands (at + 4 * words_to_frame map.jumps) found.done.pc_is Equal (frame_register map.jumps free) s3 full map.jumps Far (tests.full full full_at) (test_is false test) in
        record { after = second.after; done = done_as {changed' = free.number ∷ []} (done_on found.done second.done) refl (omega arith) (λ x out. out) }

  -- ---- entries

  module _ {s : Processor} (stands : Stands code s) (map : Map) (at : ℕ) (pc_is : s.pc ≡ at) (entry : EntersAt map code at) (full : ℕ) (full_at : IsSymbolAt map symbol.StackFull full)
      (base : ℕ) (base_is : value s.registers 2 ≡ base + frame_bias map.jumps) (fits : base + frame_bias map.jumps < 2 ^ 32) (end_is : value s.registers 19 ≡ map.bottom) where
    t0_free : IsFree t0
    t0_free = record { some = λ e. cc; no_end = ((λ e. cc), tt) }

    -- at the lowest frame the stack is full
    pub entry_full : full % 4 ≡ 0 → base ≡ map.bottom → Goes cells code (words_to_frame map.jumps + words_of_branch map.jumps Far) (5 ∷ 1 ∷ 0 ∷ []) s.memory full s
    entry_full aligned last = room_full stands t0 t0_free map at pc_is entry.tests full full_at base base_is fits end_is aligned last

    -- else a frame is taken
    pub entry_takes : (lower way : ℕ) → base ≡ lower + map.frame → value s.registers 1 ≡ way → base ≢ map.bottom → (lower + way_offset map.frame) % 4 ≡ 0 → can_store s.parts (lower + way_offset map.frame) 4 ≡ true
        → MissesFree cells s (lower + way_offset map.frame)
        → Shifts cells code (words_to_frame map.jumps + 1 + words_of_shift map.jumps + 1) (5 ∷ 2 ∷ []) (with_number (lower + way_offset map.frame) 4 way s.memory) (lower + frame_bias map.jumps) (at + 4 * entry_words map.jumps) s
    entry_takes lower way lower_is way_is more aligned allowed misses =
        let tested = room_left stands t0 t0_free map at pc_is entry.tests full full_at base base_is fits end_is more in
        let old_base : value tested.after.registers 2 ≡ lower + map.frame + frame_bias map.jumps =
        tested.done.kept 2 ((λ e. cc), tt) ∙ base_is ∙ ap (λ b. b + frame_bias map.jumps) lower_is in
        let moved = frame_takes tested.done.stands map (at + 4 * words_to_frame map.jumps + 4 + 4 * words_of_jump map.jumps) tested.done.pc_is
        entry.takes entry.back entry.back_is entry.saves lower way old_base (omega (arith, fits, lower_is)) (tested.done.kept 1 ((λ e. cc), tt) ∙ way_is) aligned
        (rw tested.done.parts_are allowed) (misses_done (lower + way_offset map.frame) tested.done ((λ e. cc), tt) ((λ e. cc), tt) ((λ e. cc), tt) misses) in
        let steps : words_to_frame map.jumps + 1 + (words_of_shift map.jumps + 1) ≡ words_to_frame map.jumps + 1 + words_of_shift map.jumps + 1 = omega arith in
        record {
          after = moved.after;
          done = subst (λ n. Done cells code n (5 ∷ 2 ∷ []) (with_number (lower + way_offset map.frame) 4 way s.memory) (at + 4 * entry_words map.jumps) s moved.after) steps
              (done_as {changed' = 5 ∷ 2 ∷ []} (done_then tested.done moved.done) (ap (λ m. with_number (lower + way_offset map.frame) 4 way m) tested.done.memory_is) (omega arith) (λ x out. out));
          base_is = moved.base_is;
        }

  -- ---- entries of functions that take no frame

  module _ {s : Processor} (stands : Stands code s) (map : Map) (at : ℕ) (pc_is : s.pc ≡ at) (passes : PassesAt map code at)
      (base : ℕ) (base_is : value s.registers 2 ≡ base) (end_is : value s.registers 19 ≡ map.bottom) where
    tests : (test : Bool) → nat_eq base map.bottom ≡ test
        → effect_at s (branch_instruction NotEqual sp s3 passes.over) ≡ branches s.pc (not test) passes.over
    tests test is =
        let compared : compares NotEqual (value s.registers 2) (value s.registers 19) ≡ not test = rw (base_is, end_is) (ap not is) in
        goes_by stands at pc_is NotEqual sp s3 0 map.jumps NotEqual passes.over (not test) compared

    -- at the lowest frame the stack is full
    pub bare_full : (full : ℕ) → IsSymbolAt map symbol.StackFull full → full % 4 ≡ 0 → base ≡ map.bottom
        → Goes cells code (1 + words_of_jump map.jumps) (1 ∷ 0 ∷ []) s.memory full s
    bare_full full full_at aligned last =
        let word = stands.aligned at _ passes.tests in
        let test : nat_eq base map.bottom ≡ true = grind (arith, nat_tests) in
        let first = branch_goes cells below stands pc_is (branch_instruction NotEqual sp s3 passes.over) (sum_word s.pc 4) {next = at + 4} passes.tests (tests true test) (next_is cells below stands pc_is passes.tests) (omega arith) in
        let second = jump_to first.done.stands map.jumps (at + 4) first.done.pc_is zero_register full (passes.full full full_at) aligned in
        record { after = second.after; done = done_on first.done second.done }

    -- else the entry ends
    pub bare_passes : at + 4 * entry_words map.jumps < 2 ^ 32 → base ≢ map.bottom → Goes cells code 1 [] s.memory (at + 4 * entry_words map.jumps) s
    bare_passes fits more =
        let word = stands.aligned at _ passes.tests in
        let test : nat_eq base map.bottom ≡ false = grind (arith, nat_tests) in
        let next : ℕ = at + 4 * entry_words map.jumps in
        let over_at : sum_word s.pc passes.over.word ≡ next = rw (pc_is, passes.over_is) (target_of at (4 * entry_words map.jumps) fits) in
        branch_goes cells below stands pc_is (branch_instruction NotEqual sp s3 passes.over) (sum_word s.pc passes.over.word) {next = next} passes.tests (tests false test) over_at (omega arith)

  -- at the lowest frame the stack is full, at either entry
  pub begins_full : {s : Processor} → Stands code s → (map : Map) (at : ℕ) → s.pc ≡ at → (takes : Bool) → (takes ≡ false → map.jumps ≡ Near) → BeginsAt takes map code at
      → (full : ℕ) → IsSymbolAt map symbol.StackFull full → (base : ℕ) → value s.registers 2 ≡ base + frame_bias map.jumps → base + frame_bias map.jumps < 2 ^ 32
      → value s.registers 19 ≡ map.bottom → full % 4 ≡ 0 → base ≡ map.bottom
      → Goes cells code (words_to_frame map.jumps + words_of_branch map.jumps Far) (5 ∷ 1 ∷ 0 ∷ []) s.memory full s
  begins_full stands map at pc_is true near enters full full_at base base_is fits end_is aligned last =
      entry_full stands map at pc_is enters full full_at base base_is fits end_is aligned last
  begins_full {s} stands map at pc_is false near passes full full_at base base_is fits end_is aligned last =
      let goes = bare_full stands map at pc_is passes base (base_is ∙ bare_sp map.jumps base (near refl)) end_is full full_at aligned last in
      let none : words_to_frame map.jumps ≡ 0 = ap words_to_frame (near refl) in
      let size : 1 + words_of_jump map.jumps ≡ words_to_frame map.jumps + words_of_branch map.jumps Far = omega arith in
      subst (λ n. Goes cells code n (5 ∷ 1 ∷ 0 ∷ []) s.memory full s) size
      (record { after = goes.after; done = done_as {changed' = 5 ∷ 1 ∷ 0 ∷ []} goes.done refl refl (λ x out. out.1) })

  -- ---- returns

  -- the way back is loaded, the frame given back, and the way gone
  pub return_goes : {s : Processor} → Stands code s → (map : Map) (at : ℕ) → s.pc ≡ at → ReturnsFrom map code at → (base way : ℕ) → value s.registers 2 ≡ base + frame_bias map.jumps → number_at s.memory (base + way_offset map.frame) 4 ≡ way
      → way % 4 ≡ 0 → way < 2 ^ 32 → base + map.frame + frame_bias map.jumps < 2 ^ 32 → (base + way_offset map.frame) % 4 ≡ 0
      → can_load s.parts (base + way_offset map.frame) 4 ≡ true → MissesFree cells s (base + way_offset map.frame)
      → Shifts cells code (1 + words_of_shift map.jumps + 1) (1 ∷ 2 ∷ 0 ∷ []) s.memory (base + map.frame + frame_bias map.jumps) way s
  return_goes {s} stands map at pc_is returns base way base_is way_is way_word way_fits fits aligned allowed misses =
      let leaves = frame_leaves stands map at pc_is returns.back returns.back_is returns.loads returns.gives base way base_is way_is fits aligned allowed misses in
      let target_is : sum_word (value leaves.after.registers 1) returns.zero.word ≡ way = rw (leaves.way_is, returns.zero_is) (same_address way way_fits) in
      let third = jump_gets cells below leaves.done.stands leaves.done.pc_is {back = zero_register} {by = ra} {offset = returns.zero} returns.goes target_is way_word in
      record { after = third.after; done = done_on leaves.done third.done; base_is = third.done.kept 2 ((λ e. cc), tt) ∙ leaves.base_is }

  -- the way is gone that is in ra
  pub goes_back : {s : Processor} → Stands code s → (at : ℕ) → s.pc ≡ at → GoesBack code at → (way : ℕ) → value s.registers 1 ≡ way → way % 4 ≡ 0 → way < 2 ^ 32
      → Goes cells code 1 (0 ∷ []) s.memory way s
  goes_back {s} stands at pc_is (zero, zero_is, here) way way_is way_word way_fits =
      let target_is : sum_word (value s.registers 1) zero.word ≡ way = rw (way_is, zero_is) (same_address way way_fits) in
      let gets = jump_gets cells below stands pc_is {back = zero_register} {by = ra} {offset = zero} here target_is way_word in
      record { after = gets.after; done = gets.done }
