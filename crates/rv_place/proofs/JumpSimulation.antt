-- Jumps, branches, calls and returns of the machine of the placed form, followed by the processor.
use Rattle.std.proofs.Common.{◌≡◌, ◌≢◌, ◌≤◌, ◌<◌, ◌⊎◌, inl, inr, ℕ, zero, suc, add-zero, ◌+◌, ◌-◌, ◌%◌, ◌^◌, List, [], ◌∷◌, length, Option, Some, None, Bool, true, false, cond, map, nat_le, slice_get, IsSome, refl, sym, ap, ◌∙◌, subst, arith, ◌*◌}
use Rattle.std.specs.List.{list_any}
use Rattle.std.proofs.lemmas.Bool.{and_parts, eqb-true, false≢true}
use Rattle.std.proofs.lemmas.Bool.Decides.{nat_tests}
use Rattle.kk_base.specs.Memory.{Part}
use Rattle.rv_isa.specs.declared.register.Register.{Register}
use Rattle.rv_isa.specs.declared.asm.Action.{Action}
use Rattle.rv_isa.specs.declared.asm.Action.TheVariants.{Jump, Branch, Call, TailCall, Return}
use Rattle.rv_isa.specs.declared.asm.Condition.{Condition}
use Rattle.rv_isa.specs.declared.asm.Condition.TheVariants.{Equal}
use Rattle.rv_isa.specs.declared.placed.Place.{Place}
use Rattle.rv_isa.specs.declared.placed.Place.TheVariants.{Register as register, Slot as slot}
use Rattle.rv_isa.specs.declared.placed.Operand.{Operand}
use Rattle.rv_isa.specs.PlacedCode.{PlacedLine, PlacedLines}
use Rattle.rv_isa.specs.Conventions.{is_in, one_register, header_register, argument, takes_at, conforms, gives_into, take_from}
use Rattle.rv_isa.specs.Primitives.{Turn, ended, stuck, or_stuck}
use Rattle.rv_isa.specs.Frames.{Frame, empty, put, all_of, result_of, received, found}
use Rattle.rv_isa.specs.AsmMachine.{unless_held}
use Rattle.rv_isa.specs.PlacedMachine.{PlacedState, PlacedTurn, is_label_line, read_at, passed, awaited, placed_entered, number_of, placed_goes, placed_jumps, placed_returns, placed_acts}
use Rattle.rv_isa.specs.Bytes.{number_at, with_number}
use Rattle.rv_isa.specs.Processor.{Processor, Ending, exited, value, can_load, can_store}
use Rattle.rv_isa.specs.Execution.{run, Leads}
use Rattle.rv_isa.specs.Standing.{Code, Stands}
use Rattle.rv_isa.specs.declared.placed.Symbol.TheVariants as symbol
use Rattle.rv_isa.proofs.Memory.{word-apart}
use Rattle.cell_heap.specs.ProgramMemory.{HoldsCells, SameRoots}
use Rattle.cell_heap.proofs.Frames.{SameInside, SameInside-store}
use Rattle.cell_heap.proofs.Blocks.{outside-holds}
use Rattle.cell_runtime.specs.Calls.{Exits}
use Rattle.cell_runtime.specs.Registers.{IsOutside}
use Rattle.cell_runtime.specs.Operations.{holds}
use Rattle.cell_heap.specs.Pool.{Pool}
use Rattle.cell_runtime.specs.World.{World, primitives}
use Rattle.rv_place.specs.Registers.{zero_register, ra, t0, s3}
use Rattle.rv_place.specs.Addresses.{words_of_shift, words_of_lines, words_to_frame, label_address, takes_frame, frames_taken, entry_words, test_words, skipped_words, frame_bias, way_offset}
use Rattle.rv_place.specs.Instructions.{words_of_jump, JumpsTo, CallsTo, words_of_branch, BranchesOn}
use Rattle.rv_place.specs.declared.reach.Forms.{Forms}
use Rattle.rv_place.specs.declared.reach.Reach.{Reach}
use Rattle.rv_place.specs.declared.reach.Reach.TheVariants.{Near, Far, Wide}
use Rattle.rv_place.specs.Lines.{Map, GoesBack, ReturnsFrom, ReturnsBy, BranchesTo, frame_register, FindsFrame, TestsRoom, EntersAt, PassesAt, BeginsAt, FunctionAt, ActsAt, IsSymbolAt}
use Rattle.rv_place.specs.Grounds.{Ground, stack_end}
use Rattle.rv_place.specs.ProcessorStates.{AllPlain, most_lines, IsIn, AwaitsFirst, FramesAt, way_back, links_in, links_of, Agrees}
use Rattle.rv_place.specs.ProcessorStates.{Running}
use Rattle.rv_place.proofs.InstructionExecution.{MissesFree, Done, Goes, misses_done, done_then, done_as, done_on}
use Rattle.rv_place.proofs.InstructionRows.{IsFree, Shifts, jump_to, jump_last, branch_last, bare_sp, room_full, room_left, frame_takes, frame_leaves, begins_full, entry_takes, bare_passes, return_goes, goes_back}
use Rattle.rv_place.proofs.OccupiedWords.{behind_misses}
use Rattle.rv_place.proofs.PointerShifts.{to_frame_most}
use Rattle.rv_place.proofs.FrameMemory.{known_put, agrees_put, frames_pushed, waits_as, runs_as, newest_waits}
use Rattle.rv_place.proofs.HeldTokenLinks.{is_own, roots_done, cells_done, cells_ended, slots_below}
use Rattle.rv_place.proofs.CodeLines.{bare_near, Labelled, label_found, label_there, jump_below, function_found, plain_found, few_found, entered_in, goes_to_label, jump_some, jump_most, shift_most, branch_some, branch_most, branch_below}
use Rattle.rv_place.proofs.ArgumentWords.{words_in, in_registers, passed_known, branches_taken, branches_passed}
use Rattle.rv_place.proofs.PassedInstructions.{walks_done, stands_part, passes_to_exit}
use Rattle.rv_place.proofs.LineOutcomes.{or_stuck_some, NoneHanded, outside_handed, Comes, comes_go, comes_ended, runs_on, agrees_done, framed_base, bare_base, sp_low, sp_word, sp_high, sp_room, sp_last, last_word, constants_kept, stays}

-- fewer registers are known
pub agrees_less : (known fewer : ℕ → Option ℕ) (registers : ℕ → ℕ) → ((x w : ℕ) → fewer x ≡ Some w → known x ≡ Some w) → Agrees known registers → Agrees fewer registers
agrees_less known fewer registers less agrees x w is = agrees x w (less x w is)

some_same : {A : Type 0} (a b : A) → Some a ≡ Some b → a ≡ b
some_same a b same = cc

pub agrees_same : (known : ℕ → Option ℕ) (registers after : ℕ → ℕ) → Agrees known registers → ((x w : ℕ) → known x ≡ Some w → value after x ≡ value registers x) → Agrees known after
agrees_same known registers after agrees same x w is = let old = agrees x w is in (old.0, same x w is ∙ old.1, old.2)

-- what is passed stands in the registers of arguments
passed_high : (n : ℕ) (words : List ℕ) (x w : ℕ) → passed n words x ≡ Some w → 10 ≤ x
passed_high n [] x w is = cc
passed_high n (word ∷ words) x w is = by (passed_high (suc n) words x w) (known_put (argument n) (Some word) (passed (suc n) words) x w is)
  where
    by : (passed (suc n) words x ≡ Some w → 10 ≤ x) → ((x ≡ argument n) × (Some word ≡ Some w)) ⊎ ((x ≢ argument n) × (passed (suc n) words x ≡ Some w)) → 10 ≤ x
    by later (inl here) = let e : x ≡ 10 + n = here.0 in omega arith
    by later (inr there) = later there.1

outside_entry : (x : ℕ) → 10 ≤ x → IsOutside x (1 ∷ 1 ∷ 5 ∷ 2 ∷ [])
outside_entry x high = ((λ e. omega arith), ((λ e. omega arith), ((λ e. omega arith), ((λ e. omega arith), tt))))

none_held : {S H W : Type 0} (held : List ℕ) (next turn : Turn S H W) → unless_held held next ≡ turn → turn ≢ stuck → (held ≡ []) × (next ≡ turn)
none_held [] next turn is good = (refl, is)
none_held (k ∷ ks) next turn is good = absurd (good (sym is))

-- whether the stack is full, by the number of its frames
is_full : (depth n : ℕ) → nat_le depth n ≡ true → depth ≤ n
is_full depth n test = grind (arith, nat_tests)

has_room : (depth n : ℕ) → nat_le depth n ≡ false → suc n ≤ depth
has_room depth n test = grind (arith, nat_tests)

-- a run that leads to an exit
pub exit_runs : {code : Code} {n number count : ℕ} (s u : Processor) → Leads n s u → (exits : Exits code number count u) → run (n + count) s ≡ record { processor = exits.last; ending = exited number }
exit_runs {code} {n} {number} {count} s u leads exits = leads.by count ∙ (ap (λ k. run k u) (sym (add-zero count)) ∙ exits.ends 0)

-- ---- jumps and branches

module _ {map_of : Map} {pool : Pool} {functions : List PlacedLines} {depth buffer stop : ℕ} {code : Code} {parts : List Part} (ground : Ground map_of pool functions depth buffer stop code parts)
    (f : Frame PlacedLine) (fs : List (Frame PlacedLine)) (known : ℕ → Option ℕ) (world : World) (s : Processor)
    (running : Running map_of pool functions depth stop code parts (record { frames = f ∷ fs; registers = known; shared = world }) s) (rest : List PlacedLine) (old : ℕ) where
  abbrev behind : Frame PlacedLine
  behind = record f { code = rest }

  abbrev stands_in : IsIn map_of code (most_lines functions) s.pc f
  stands_in = running.frames.0

  labelled : (l : ℕ) (lines : List PlacedLine) → found (is_label_line l) f.whole ≡ Some lines → Labelled map_of stands_in.forms code stands_in.start f.whole (most_lines functions) (stands_in.start + 4 * words_of_lines stands_in.forms f.whole) (label_address stands_in.forms l stands_in.start f.whole) lines
  labelled l lines found_is = label_found map_of stands_in.forms code stands_in.start f.whole (most_lines functions) (stands_in.start + 4 * words_of_lines stands_in.forms f.whole) l stands_in.start f.whole lines stands_in.start_word stands_in.whole stands_in.whole_plain stands_in.few_whole (λ needs. needs) refl found_is

  -- a function that takes no frame has near jumps
  near_here : takes_frame map_of.jumps f.whole ≡ false → stands_in.forms.jumps ≡ Near
  near_here bare = ap (λ (forms : Forms). forms.jumps) stands_in.forms_are ∙ bare_near map_of.jumps f.whole bare

  -- instructions that lead to a label
  to_label : (most : ℕ) {n : ℕ} (l : ℕ) (lines : List PlacedLine) (label : Labelled map_of stands_in.forms code stands_in.start f.whole (most_lines functions) (stands_in.start + 4 * words_of_lines stands_in.forms f.whole) (label_address stands_in.forms l stands_in.start f.whole) lines) → label.target < 2 ^ 32
      → (goes : Goes pool.cells code n (1 ∷ 0 ∷ []) s.memory label.target s) → (takes_frame map_of.jumps f.whole ≡ false → value goes.after.registers 1 ≡ value s.registers 1)
      → 1 ≤ n → n ≤ most → Comes map_of pool functions depth stop code parts most old (placed_goes (record f { code = lines }) fs known world) s
  to_label most l lines label fits goes link some within =
      stays ground f fs known world s running most old goes.after lines known goes.done ((λ e. cc), ((λ e. cc), tt)) refl link
      (goes_to_label stands_in l lines (record f { code = lines }) refl refl refl label fits) (agrees_done s goes.after known goes.done (refl, (refl, tt)) running.registers) some within

  pub follow_jump : (l : ℕ) (args : List Operand) (into : Option Operand) (words : List ℕ) (turn : PlacedTurn World Ending) → ActsAt map_of stands_in.forms code stands_in.start f.whole s.pc (Jump l) args into
      → placed_acts (primitives map_of.constants pool) depth functions behind fs known world (Jump l) args into words ≡ turn → turn ≢ stuck → Comes map_of pool functions depth stop code parts 2 old turn s
  follow_jump l args into words turn here is good =
      let result = or_stuck_some (found (is_label_line l) f.whole) (λ lines. placed_goes (record behind { code = lines }) fs known world) turn is good in
      let label = labelled l result.0 result.1 in
      let reach : Reach = stands_in.forms.jumps in
      let jumps : JumpsTo reach code s.pc label.target = here label.target label.target_is in
      let gets = jump_to pool.cells ground.below running.rests.stands reach s.pc refl zero_register label.target jumps label.word in
      subst (λ t. Comes map_of pool functions depth stop code parts 2 old t s) result.2
      (to_label 2 l result.0 label (jump_below reach code s.pc zero_register label.target jumps) (record { after = gets.after; done = gets.done }) (λ bare. gets.link (near_here bare) (λ e. cc)) (jump_some reach) (jump_most reach))

  -- the address behind a branch, and that of its label, are words
  branch_fits : (condition : Condition) (rs : List Register) (target : ℕ) (taken : Bool) → holds condition (words_in s.registers rs) ≡ Some taken → BranchesTo stands_in.forms code s.pc condition rs target
      → (target < 2 ^ 32) × (s.pc + 4 * words_of_branch stands_in.forms.jumps stands_in.forms.branches < 2 ^ 32)
  branch_fits condition [] target taken holds_is branch = cc
  branch_fits condition (a ∷ []) target taken holds_is branch = (
    branch_below stands_in.forms.jumps stands_in.forms.branches code s.pc condition a zero_register target branch,
    branch_last pool.cells ground.below stands_in.forms.jumps stands_in.forms.branches s.pc condition a zero_register target branch,
  )
  branch_fits condition (a ∷ b ∷ []) target taken holds_is branch = (
    branch_below stands_in.forms.jumps stands_in.forms.branches code s.pc condition a b target branch,
    branch_last pool.cells ground.below stands_in.forms.jumps stands_in.forms.branches s.pc condition a b target branch,
  )
  branch_fits condition (a ∷ b ∷ c ∷ rs) target taken holds_is branch = cc

  module _ (is_behind : (next : ℕ) → s.pc + 4 * words_of_branch stands_in.forms.jumps stands_in.forms.branches ≡ next → next < 2 ^ 32 → IsIn map_of code (most_lines functions) next behind) (condition : Condition) (l : ℕ) where
    branch_by : (taken : Bool) (rs : List Register) (turn : PlacedTurn World Ending) (lines : List PlacedLine) → found (is_label_line l) f.whole ≡ Some lines → holds condition (words_in s.registers rs) ≡ Some taken
        → (label : Labelled map_of stands_in.forms code stands_in.start f.whole (most_lines functions) (stands_in.start + 4 * words_of_lines stands_in.forms f.whole) (label_address stands_in.forms l stands_in.start f.whole) lines) → BranchesTo stands_in.forms code s.pc condition rs label.target
        → cond taken (placed_jumps l behind fs known world) (placed_goes behind fs known world) ≡ turn → turn ≢ stuck → Comes map_of pool functions depth stop code parts 3 old turn s
    branch_by true rs turn lines there holds_is label branch is good =
        let result = or_stuck_some (found (is_label_line l) f.whole) (λ lines. placed_goes (record behind { code = lines }) fs known world) turn is good in
        let same : lines ≡ result.0 = some_same lines result.0 (sym there ∙ result.1) in
        let fits = branch_fits condition rs label.target true holds_is branch in
        let goes = branches_taken pool.cells ground.below running.rests.stands s.pc refl stands_in.forms condition label.target rs label.word holds_is branch in
        subst (λ t. Comes map_of pool functions depth stop code parts 3 old t s) (ap (λ c. placed_goes (record behind { code = c }) fs known world) same ∙ result.2)
        (to_label 3 l lines label fits.0 (record { after = goes.after; done = goes.done }) (λ bare. goes.link (near_here bare)) (branch_some stands_in.forms.jumps stands_in.forms.branches) (branch_most stands_in.forms.jumps stands_in.forms.branches))
    branch_by false rs turn lines there holds_is label branch is good =
        let fits = branch_fits condition rs label.target false holds_is branch in
        let goes = branches_passed pool.cells ground.below running.rests.stands s.pc refl stands_in.forms condition label.target rs holds_is branch in
        subst (λ t. Comes map_of pool functions depth stop code parts 3 old t s) is
        (stays ground f fs known world s running 3 old goes.after rest known goes.done tt refl (λ bare. goes.done.kept 1 tt) (is_behind (s.pc + 4 * words_of_branch stands_in.forms.jumps stands_in.forms.branches) refl fits.1) (agrees_done s goes.after known goes.done tt running.registers) (omega arith) (omega arith))

    pub follow_branch : (args : List Operand) (into : Option Operand) (words : List ℕ) (turn : PlacedTurn World Ending)
        → ActsAt map_of stands_in.forms code stands_in.start f.whole s.pc (Branch condition l) args into → IsSome (found (is_label_line l) f.whole) → conforms (Branch condition l) args into ≡ true → all_of (map (λ (arg : Operand). read_at known f.cells arg.place) args) ≡ Some words
        → placed_acts (primitives map_of.constants pool) depth functions behind fs known world (Branch condition l) args into words ≡ turn → turn ≢ stuck → Comes map_of pool functions depth stop code parts 3 old turn s
    follow_branch args into words turn here there conform words_are is good =
        let fit = and_parts (take_from (Branch condition l) 0 args) (gives_into (Branch condition l) into) conform in
        let values = in_registers known f.cells s.registers running.registers (Branch condition l) 0 args words (λ k place is_one. is_one) fit.0 words_are in
        let result = or_stuck_some (holds condition words) (λ taken. cond taken (placed_jumps l behind fs known world) (placed_goes behind fs known world)) turn is good in
        let lines = label_there (found (is_label_line l) f.whole) there in
        let label = labelled l lines.0 lines.1 in
        branch_by result.0 values.rs turn lines.0 lines.1 (ap (holds condition) (sym values.words_are) ∙ result.1) label (here values.rs label.target values.rs_are label.target_is) result.2 good

-- ---- calls

-- an entry is at a word
entry_word : (map : Map) {code : Code} (at : ℕ) {target : ℕ} {s : Processor} (takes : Bool) → Stands code s → BeginsAt takes map code at → IsSymbolAt map symbol.StackFull target → at % 4 ≡ 0
entry_word map at false stands passes there = stands.aligned at _ passes.tests
entry_word map {code} at {target} true stands entry there = by map.jumps entry.tests.finds (entry.tests.full target there)
  where
    by : (jumps : Reach) → FindsFrame jumps t0 code at → BranchesOn map.jumps Far code (at + 4 * words_to_frame jumps) Equal (frame_register jumps t0) s3 target → at % 4 ≡ 0
    by Near finds (over, over_is, here, jump) = let word = stands.aligned (at + 4 * 0) _ here in omega arith
    by Far finds (over, over_is, here, jump) = let word = stands.aligned (at + 4 * 0) _ here in omega arith
    by Wide (down, down_is, here) branch = stands.aligned at _ here

-- where a frame goes on that waits is a word
way_fits : {map_of : Map} {pool : Pool} {functions : List PlacedLines} {depth buffer stop : ℕ} {code : Code} {parts : List Part} (ground : Ground map_of pool functions depth buffer stop code parts)
    (memory : ℕ → ℕ) (way base : ℕ) (fs : List (Frame PlacedLine)) → FramesAt map_of code (most_lines functions) stop (stack_end map_of depth) memory way base fs → (way % 4 ≡ 0) × (way < 2 ^ 32)
way_fits {stop = stop} ground memory way base [] stand = let e : way ≡ stop = stand.0 in (rw e ground.stop_word, rw e ground.stop_below)
way_fits ground memory way base (g ∷ gs) stand = (stand.0.at_word, stand.0.below)

-- whether a function takes a frame
takes_found : (jumps : Reach) (functions : List PlacedLines) (g : ℕ) (callee : PlacedLines) → slice_get functions g ≡ Some callee → slice_get (frames_taken jumps functions) g ≡ Some (takes_frame jumps callee.code)
takes_found jumps [] g callee is = cc
takes_found jumps (function ∷ functions) zero callee is = let same : function ≡ callee = cc in ap (λ (f : PlacedLines). Some (takes_frame jumps f.code)) same
takes_found jumps (function ∷ functions) (suc g) callee is = takes_found jumps functions g callee is

-- where ra is as it was, if the way back is in it
same_way : (own : Bool) (registers after memory : ℕ → ℕ) (last : ℕ) → (own ≡ false → value after 1 ≡ value registers 1) → way_back own after memory last ≡ way_back own registers memory last
same_way true registers after memory last link = refl
same_way false registers after memory last link = link refl

module _ {map_of : Map} {pool : Pool} {functions : List PlacedLines} {depth buffer stop : ℕ} {code : Code} {parts : List Part} (ground : Ground map_of pool functions depth buffer stop code parts) (plain : AllPlain functions)
    (f : Frame PlacedLine) (fs : List (Frame PlacedLine)) (known : ℕ → Option ℕ) (world : World) (s : Processor)
    (running : Running map_of pool functions depth stop code parts (record { frames = f ∷ fs; registers = known; shared = world }) s) (rest : List PlacedLine) (old : ℕ) (forms : Forms) where
  abbrev left_behind : Frame PlacedLine
  left_behind = record f { code = rest }

  -- a callee, and where it stands
  callee_in : (g : ℕ) (callee : PlacedLines) (entry : ℕ) → slice_get functions g ≡ Some callee → slice_get map_of.entries g ≡ Some entry → FunctionAt map_of code entry callee → IsIn map_of code (most_lines functions) (entry + 4 * entry_words map_of.jumps) (placed_entered g callee)
  callee_in g callee entry callee_is entry_is function =
      entered_in (most_lines functions) g entry callee running.rests.stands ground.below entry_is function (plain_found functions plain g callee callee_is) (few_found functions g callee callee_is)

  -- the registers that a callee knows
  passed_agree : (action : Action) (args : List Operand) (words : List ℕ) → ((k : ℕ) (place : Place) → takes_at action k place ≡ true → is_in (argument k) place ≡ true) → take_from action 0 args ≡ true
      → all_of (map (λ (arg : Operand). read_at known f.cells arg.place) args) ≡ Some words → Agrees (passed 0 words) s.registers
  passed_agree action args words takes taken words_are = agrees_less known (passed 0 words) s.registers (passed_known known f.cells s.registers running.registers action 0 args words takes taken words_are) running.registers

  -- ---- tail calls

  -- the last word of its frame
  abbrev last_here : ℕ
  last_here = running.base + way_offset map_of.frame

  -- where the frame goes on that waits
  way_there : (way_back (takes_frame map_of.jumps f.whole) s.registers s.memory last_here % 4 ≡ 0) × (way_back (takes_frame map_of.jumps f.whole) s.registers s.memory last_here < 2 ^ 32)
  way_there = way_fits ground s.memory (way_back (takes_frame map_of.jumps f.whole) s.registers s.memory last_here) (running.base + map_of.frame) fs running.frames.3

  -- the last word of the frame may be stored, and lies behind the cells
  last_is_word : last_here % 4 ≡ 0
  last_is_word = last_word running.base map_of.frame (sp_word ground f fs known world s running) ground.frame_words

  frame_stores : can_store parts last_here 4 ≡ true
  frame_stores =
      let low = sp_low ground f fs known world s running in
      let high = sp_high ground f fs known world s running in
      let some = ground.some_frame in
      ground.stores last_here (omega arith) (omega arith) last_is_word

  frame_loads : can_load parts last_here 4 ≡ true
  frame_loads =
      let low = sp_low ground f fs known world s running in
      let high = sp_high ground f fs known world s running in
      let some = ground.some_frame in
      ground.loads last_here (omega arith) (omega arith) last_is_word

  frame_misses : MissesFree pool.cells s last_here
  frame_misses =
      let low = sp_low ground f fs known world s running in
      let under = ground.cells_below in
      behind_misses running.cells last_here (omega arith)

  frame_fits : running.base + map_of.frame + frame_bias map_of.jumps < 2 ^ 32
  frame_fits = let high = sp_high ground f fs known world s running in let range = ground.in_range in omega arith

  module _ (g : ℕ) (callee : PlacedLines) (entry : ℕ) (words : List ℕ) (inside : IsIn map_of code (most_lines functions) (entry + 4 * entry_words map_of.jumps) (placed_entered g callee))
      (jumps_are : forms.jumps ≡ map_of.jumps) (agrees : Agrees (passed 0 words) s.registers) (free : f.held ≡ []) where
    -- the cells, where the frame held no token
    unheld_cells : HoldsCells pool world.cells (links_of map_of (running.base + map_of.frame) fs) s
    unheld_cells = subst (λ held. HoldsCells pool world.cells (links_in running.base f.cells held (links_of map_of (running.base + map_of.frame) fs)) s) free running.cells

    -- the callee begins, in a memory that is the same
    tail_begins : (own : Bool) {n : ℕ} {changed : List ℕ} (u : Processor) → takes_frame map_of.jumps callee.code ≡ own → Done pool.cells code n changed s.memory (entry + 4 * entry_words map_of.jumps) s u
        → NoneHanded changed → list_any is_own changed ≡ false → value u.registers 2 ≡ cond own running.base (running.base + map_of.frame) + frame_bias map_of.jumps
        → way_back own u.registers s.memory last_here ≡ way_back (takes_frame map_of.jumps f.whole) s.registers s.memory last_here
        → 1 ≤ n → n ≤ 3 → Comes map_of pool functions depth stop code parts 3 old (placed_goes (placed_entered g callee) fs (passed 0 words) world) s
    tail_begins own {n} {changed} u own_is done none kept base_is way_is some few =
        comes_go map_of pool functions depth stop code parts 3 old (record { frames = placed_entered g callee ∷ fs; registers = passed 0 words; shared = world }) s u n (walks_done done)
        (runs_on map_of pool functions depth stop code parts (record { frames = f ∷ fs; registers = known; shared = world }) world.cells s u (placed_entered g callee ∷ fs) (passed 0 words) running.base running done
        (outside_handed changed none one_register refl (λ e. cc)) (outside_handed changed none header_register refl (λ e. cc)) refl running.room
        (base_is ∙ ap (λ t. cond t running.base (running.base + map_of.frame) + frame_bias map_of.jumps) (sym own_is)) (
          inside,
          (λ k w unknown. cc),
          tt,
          subst (λ w. FramesAt map_of code (most_lines functions) stop (stack_end map_of depth) s.memory w (running.base + map_of.frame) fs)
              (sym way_is ∙ ap (λ t. way_back t u.registers s.memory last_here) (sym own_is)) running.frames.3,
        )
        (agrees_done s u (passed 0 words) done none agrees) (cells_done unheld_cells (roots_done done kept) done.memory_is)) some few

    -- the callee takes a frame, and the function takes none: behind the test of the entry it does
    tail_takes : takes_frame map_of.jumps f.whole ≡ false → takes_frame map_of.jumps callee.code ≡ true → EntersAt map_of code entry
        → JumpsTo forms.jumps code s.pc (entry + 4 * test_words map_of.jumps) → Comes map_of pool functions depth stop code parts 3 old (placed_goes (placed_entered g callee) fs (passed 0 words) world) s
    tail_takes bare takes enters jumps =
        let base = running.base in
        let near = bare_near map_of.jumps f.whole bare in
        let way = value s.registers 1 in
        let way_is : way_back (takes_frame map_of.jumps f.whole) s.registers s.memory last_here ≡ way = ap (λ t. way_back t s.registers s.memory last_here) bare in
        let fits : way < 2 ^ 32 = subst (λ w. w < 2 ^ 32) way_is way_there.1 in
        let first : ℕ = entry + 4 * words_to_frame map_of.jumps + 4 + 4 * words_of_jump map_of.jumps in
        let place : entry + 4 * test_words map_of.jumps ≡ first = omega arith in
        let word = inside.at_word in
        let gets = jump_to pool.cells ground.below running.rests.stands forms.jumps s.pc refl zero_register first (subst (JumpsTo forms.jumps code s.pc) place jumps) (omega arith) in
        let taken = frame_takes pool.cells ground.below gets.done.stands map_of first gets.done.pc_is enters.takes enters.back enters.back_is enters.saves base way
        (gets.done.kept 2 ((λ e. cc), ((λ e. cc), tt)) ∙ bare_base ground f fs known world s running bare) frame_fits (gets.link (jumps_are ∙ near) (λ e. cc))
        last_is_word (rw (gets.done.parts_are, running.rests.parts_are) frame_stores)
        (misses_done last_here gets.done ((λ e. cc), ((λ e. cc), tt)) ((λ e. cc), ((λ e. cc), tt)) ((λ e. cc), ((λ e. cc), tt)) frame_misses) in
        let last : first + 4 * words_of_shift map_of.jumps + 4 ≡ entry + 4 * entry_words map_of.jumps = omega arith in
        let done = done_as {changed' = 1 ∷ 0 ∷ 2 ∷ []} (done_then gets.done taken.done) (ap (λ m. with_number last_here 4 way m) gets.done.memory_is) last (λ x out. out) in
        let low = sp_low ground f fs known world s running in
        let under = ground.cells_below in
        let some = ground.some_frame in
        let one : words_of_jump forms.jumps ≡ 1 = ap words_of_jump (jumps_are ∙ near) in
        let shift : words_of_shift map_of.jumps ≡ 1 = ap words_of_shift near in
        comes_go map_of pool functions depth stop code parts 3 old (record { frames = placed_entered g callee ∷ fs; registers = passed 0 words; shared = world }) s taken.after (words_of_jump forms.jumps + (words_of_shift map_of.jumps + 1)) (walks_done done)
        (runs_on map_of pool functions depth stop code parts (record { frames = f ∷ fs; registers = known; shared = world }) world.cells s taken.after (placed_entered g callee ∷ fs) (passed 0 words) base running done
        ((λ e. cc), ((λ e. cc), ((λ e. cc), tt))) ((λ e. cc), ((λ e. cc), ((λ e. cc), tt))) (constants_kept ground f fs known world s running last_here way frame_stores) running.room
        (taken.base_is ∙ ap (λ t. cond t base (base + map_of.frame) + frame_bias map_of.jumps) (sym takes))
        (runs_as map_of code (most_lines functions) stop (stack_end map_of depth) taken.after.registers (with_number last_here 4 way s.memory) (entry + 4 * entry_words map_of.jumps) base (placed_entered g callee ∷ fs)
        (frames_pushed map_of code (most_lines functions) stop (stack_end map_of depth) ground.some_frame s.memory base way (entry + 4 * entry_words map_of.jumps) (placed_entered g callee) fs fits inside (λ k w none. cc) refl takes
        (subst (λ w. FramesAt map_of code (most_lines functions) stop (stack_end map_of depth) s.memory w (base + map_of.frame) fs) way_is running.frames.3)))
        (agrees_done s taken.after (passed 0 words) done (refl, (refl, (refl, tt))) agrees)
        (outside-holds unheld_cells (roots_done done refl) (subst (λ m. SameInside pool s.memory m) (sym done.memory_is) (SameInside-store pool s.memory last_here way (inr (omega arith))))
        (slots_below map_of (base + map_of.frame) fs s.memory taken.after.memory (λ x above. ap (λ m. number_at m x 4) done.memory_is ∙ word-apart last_here way s.memory x (inr (omega arith)))))) (omega arith) (omega arith)

    -- the callee takes no frame, and the function takes one: it is given back in the entry of the callee, behind the test
    tail_leaves : takes_frame map_of.jumps f.whole ≡ true → takes_frame map_of.jumps callee.code ≡ false → PassesAt map_of code entry
        → JumpsTo forms.jumps code s.pc (entry + 4 * test_words map_of.jumps) → Comes map_of pool functions depth stop code parts 3 old (placed_goes (placed_entered g callee) fs (passed 0 words) world) s
    tail_leaves takes bare passes jumps =
        let base = running.base in
        let near = bare_near map_of.jumps callee.code bare in
        let way = number_at s.memory last_here 4 in
        let none : words_to_frame map_of.jumps ≡ 0 = ap words_to_frame near in
        let one : words_of_jump forms.jumps ≡ 1 = ap words_of_jump (jumps_are ∙ near) in
        let shift : words_of_shift map_of.jumps ≡ 1 = ap words_of_shift near in
        let first : ℕ = entry + 4 + 4 * words_of_jump map_of.jumps in
        let place : entry + 4 * test_words map_of.jumps ≡ first = omega arith in
        let word = inside.at_word in
        let gets = jump_to pool.cells ground.below running.rests.stands forms.jumps s.pc refl zero_register first (subst (JumpsTo forms.jumps code s.pc) place jumps) (omega arith) in
        let leaves = frame_leaves pool.cells ground.below gets.done.stands map_of first gets.done.pc_is passes.back passes.back_is passes.loads passes.gives base way
        (gets.done.kept 2 ((λ e. cc), ((λ e. cc), tt)) ∙ framed_base ground f fs known world s running takes) (ap (λ m. number_at m last_here 4) gets.done.memory_is) frame_fits
        last_is_word (rw (gets.done.parts_are, running.rests.parts_are) frame_loads)
        (misses_done last_here gets.done ((λ e. cc), ((λ e. cc), tt)) ((λ e. cc), ((λ e. cc), tt)) ((λ e. cc), ((λ e. cc), tt)) frame_misses) in
        let last : first + 4 + 4 * words_of_shift map_of.jumps ≡ entry + 4 * entry_words map_of.jumps = omega arith in
        let done = done_as {changed' = 1 ∷ 0 ∷ 1 ∷ 2 ∷ []} (done_on gets.done leaves.done) refl last (λ x out. out) in
        tail_begins false leaves.after bare done (refl, (refl, (refl, (refl, tt)))) refl leaves.base_is
        (leaves.way_is ∙ sym (ap (λ t. way_back t s.registers s.memory last_here) takes)) (omega arith) (omega arith)

    -- neither or both take one
    tail_jumps : (own : Bool) → takes_frame map_of.jumps f.whole ≡ own → takes_frame map_of.jumps callee.code ≡ own
        → JumpsTo forms.jumps code s.pc (entry + 4 * entry_words map_of.jumps) → Comes map_of pool functions depth stop code parts 3 old (placed_goes (placed_entered g callee) fs (passed 0 words) world) s
    tail_jumps own own_is callee_is jumps =
        let gets = jump_to pool.cells ground.below running.rests.stands forms.jumps s.pc refl zero_register (entry + 4 * entry_words map_of.jumps) jumps inside.at_word in
        let way = same_way own s.registers gets.after.registers s.memory last_here (λ bare. gets.link (jumps_are ∙ bare_near map_of.jumps f.whole (own_is ∙ bare)) (λ e. cc)) in
        tail_begins own gets.after callee_is gets.done (refl, (refl, tt)) refl
        (gets.done.kept 2 ((λ e. cc), ((λ e. cc), tt)) ∙ (running.base_is ∙ ap (λ t. cond t running.base (running.base + map_of.frame) + frame_bias map_of.jumps) own_is))
        (way ∙ ap (λ t. way_back t s.registers s.memory last_here) (sym own_is)) (jump_some forms.jumps) (omega (arith, jump_most forms.jumps))

    tail_by : (own other : Bool) → takes_frame map_of.jumps f.whole ≡ own → takes_frame map_of.jumps callee.code ≡ other → BeginsAt other map_of code entry
        → JumpsTo forms.jumps code s.pc (entry + 4 * skipped_words map_of.jumps own other) → Comes map_of pool functions depth stop code parts 3 old (placed_goes (placed_entered g callee) fs (passed 0 words) world) s
    tail_by true true own_is other_is begins jumps = tail_jumps true own_is other_is jumps
    tail_by true false own_is other_is begins jumps = tail_leaves own_is other_is begins jumps
    tail_by false true own_is other_is begins jumps = tail_takes own_is other_is begins jumps
    tail_by false false own_is other_is begins jumps = tail_jumps false own_is other_is jumps

  pub follow_tail_call : (g : ℕ) (args : List Operand) (into : Option Operand) (words : List ℕ) (start : ℕ) (turn : PlacedTurn World Ending)
      → forms.jumps ≡ map_of.jumps → forms.frame ≡ takes_frame map_of.jumps f.whole
      → ActsAt map_of forms code start f.whole s.pc (TailCall g) args into → conforms (TailCall g) args into ≡ true → all_of (map (λ (arg : Operand). read_at known f.cells arg.place) args) ≡ Some words
      → placed_acts (primitives map_of.constants pool) depth functions left_behind fs known world (TailCall g) args into words ≡ turn → turn ≢ stuck → Comes map_of pool functions depth stop code parts 3 old turn s
  follow_tail_call g args into words start turn jumps_are frame_is here conform words_are is good =
      let fit = and_parts (take_from (TailCall g) 0 args) (gives_into (TailCall g) into) conform in
      let free = none_held f.held (or_stuck (slice_get functions g) (λ callee. placed_goes (placed_entered g callee) fs (passed 0 words) world)) turn is good in
      let result = or_stuck_some (slice_get functions g) (λ callee. placed_goes (placed_entered g callee) fs (passed 0 words) world) turn free.1 good in
      let callee = result.0 in
      let takes = takes_frame map_of.jumps callee.code in
      let function = function_found map_of code map_of.entries functions ground.functions_at g callee result.1 in
      let known_takes : slice_get map_of.takes g ≡ Some takes = subst (λ ts. slice_get ts g ≡ Some takes) (sym ground.takes) (takes_found map_of.jumps functions g callee result.1) in
      subst (λ t. Comes map_of pool functions depth stop code parts 3 old t s) result.2
      (tail_by g callee function.0 words (callee_in g callee function.0 result.1 function.1 function.2) jumps_are (passed_agree (TailCall g) args words (λ k place is_one. is_one) fit.0 words_are) free.0
      (takes_frame map_of.jumps f.whole) takes refl refl function.2.entry
      (subst (λ own. JumpsTo forms.jumps code s.pc (function.0 + 4 * skipped_words map_of.jumps own takes)) frame_is (here function.0 takes function.1 known_takes)))

  -- the end of the cells is where the lowest frame begins
  end_kept : (u : Processor) → value u.registers 19 ≡ value s.registers 19 → value u.registers 19 ≡ map_of.bottom
  end_kept u same = same ∙ running.cells.memory.end ∙ ground.cells_below

  -- ---- where no frame is left

  symbol_word : (target : ℕ) → IsSymbolAt map_of symbol.StackFull target → target % 4 ≡ 0
  symbol_word target (before, behind, is) = let word = ground.runtime_word in omega arith

  -- instructions that lead to the stop for a full stack
  stack_full_comes : (most : ℕ) {n : ℕ} {changed : List ℕ} → Goes pool.cells code n changed s.memory ground.stack_full.0 s → list_any is_own changed ≡ false → n ≤ most
      → Comes map_of pool functions depth stop code parts most old (ended (primitives map_of.constants pool).stack_full world) s
  stack_full_comes most {n} goes none few =
      let exits = ground.stack_full.2 goes.after (record { stands = stands_part ground.own_part goes.done.stands; pc_is = goes.done.pc_is }) in
      comes_ended map_of pool functions depth stop code parts most old (primitives map_of.constants pool).stack_full world s (n + 3) (record { processor = exits.last; ending = exited 102 }) (exit_runs s goes.after goes.done.leads exits)
      (passes_to_exit ground goes.done exits)
      (refl, exits.trace ∙ (goes.done.trace_is ∙ running.trace), (links_of map_of running.base (f ∷ fs), cells_ended (cells_done running.cells (roots_done goes.done none) goes.done.memory_is) exits))
      (omega arith) (omega (arith, few))

  -- a test whether one is left
  pub follow_room : takes_frame map_of.jumps f.whole ≡ true → forms.jumps ≡ map_of.jumps → TestsRoom ra map_of code s.pc
      → ((next : ℕ) → s.pc + 4 * test_words forms.jumps ≡ next → next < 2 ^ 32 → IsIn map_of code (most_lines functions) next left_behind)
      → Comes map_of pool functions depth stop code parts 4 old (cond (nat_le depth (length (f ∷ fs))) (ended (primitives map_of.constants pool).stack_full world) (placed_goes left_behind fs known world)) s
  follow_room framed jumps_are tests is_behind = by (nat_le depth (length (f ∷ fs))) refl
    where
      free : IsFree ra
      free = record { some = λ e. cc; no_end = ((λ e. cc), tt) }

      fits : running.base + frame_bias map_of.jumps < 2 ^ 32
      fits = let range = ground.in_range in let high = sp_high ground f fs known world s running in omega arith

      by : (full : Bool) → nat_le depth (length (f ∷ fs)) ≡ full
          → Comes map_of pool functions depth stop code parts 4 old (cond full (ended (primitives map_of.constants pool).stack_full world) (placed_goes left_behind fs known world)) s
      by true test =
          let full_at = ground.stack_full in
          stack_full_comes 4
          (room_full pool.cells ground.below running.rests.stands ra free map_of s.pc refl tests full_at.0 full_at.1 running.base (framed_base ground f fs known world s running framed) fits (end_kept s refl)
          (symbol_word full_at.0 full_at.1) (sp_last ground f fs known world s running (is_full depth (length (f ∷ fs)) test))) refl (omega (arith, jump_most map_of.jumps, to_frame_most map_of.jumps))
      by false test =
          let full_at = ground.stack_full in
          let some = ground.some_frame in
          let low = sp_room ground f fs known world s running (has_room depth (length (f ∷ fs)) test) in
          let behind : ℕ = s.pc + 4 * words_to_frame map_of.jumps + 4 + 4 * words_of_jump map_of.jumps in
          let goes = room_left pool.cells ground.below running.rests.stands ra free map_of s.pc refl tests full_at.0 full_at.1 running.base (framed_base ground f fs known world s running framed) fits (end_kept s refl)
          (λ e. omega (arith, e)) in
          let last = branch_last pool.cells ground.below map_of.jumps Far (s.pc + 4 * words_to_frame map_of.jumps) Equal (frame_register map_of.jumps ra) s3 full_at.0 (tests.full full_at.0 full_at.1) in
          let size : test_words forms.jumps ≡ test_words map_of.jumps = ap test_words jumps_are in
          stays ground f fs known world s running 4 old goes.after rest known goes.done ((λ e. cc), tt) refl (λ bare. absurd (false≢true (sym bare ∙ framed)))
          (is_behind behind (omega (arith, size)) (omega (arith, last))) (agrees_done s goes.after known goes.done (refl, tt) running.registers) (omega arith) (omega (arith, to_frame_most map_of.jumps))

  -- a call that finds none

  full_comes : takes_frame map_of.jumps f.whole ≡ true → (g : ℕ) (callee : PlacedLines) (entry : ℕ) → FunctionAt map_of code entry callee → CallsTo forms.jumps code s.pc entry → depth ≤ length (f ∷ fs)
      → Comes map_of pool functions depth stop code parts 7 old (ended (primitives map_of.constants pool).stack_full world) s
  full_comes framed g callee entry function calls full =
      let word = entry_word map_of entry (takes_frame map_of.jumps callee.code) running.rests.stands function.entry ground.stack_full.1 in
      let full_at = ground.stack_full in
      let called = jump_to pool.cells ground.below running.rests.stands forms.jumps s.pc refl ra entry calls word in
      let last = sp_last ground f fs known world s running full in
      let range = ground.in_range in
      let high = sp_high ground f fs known world s running in
      let goes = begins_full pool.cells ground.below called.done.stands map_of entry called.done.pc_is (takes_frame map_of.jumps callee.code) (bare_near map_of.jumps callee.code) function.entry full_at.0 full_at.1 running.base
      (called.done.kept 2 ((λ e. cc), ((λ e. cc), tt)) ∙ framed_base ground f fs known world s running framed) (omega arith) (end_kept called.after (called.done.kept 19 ((λ e. cc), ((λ e. cc), tt))))
      (symbol_word full_at.0 full_at.1) last in
      stack_full_comes 7 (record { after = goes.after; done = done_on called.done goes.done }) refl (omega (arith, jump_most forms.jumps, jump_most map_of.jumps, to_frame_most map_of.jumps))

  -- ---- a call that finds one

  awaits_first : (g : ℕ) (into : Option Operand) → gives_into (Call g) into ≡ true → AwaitsFirst (awaited into)
  awaits_first g None gives = tt
  awaits_first g (Some into) gives = by into.place gives
    where
      by : (place : Place) → is_in (argument 0) place ≡ true → AwaitsFirst (number_of place)
      by (register r) gives = eqb-true r.number 10 gives
      by (slot k) gives = tt

  -- the cells behind a store of the way back, below the frames
  pushed_cells : (base : ℕ) → running.base ≡ base + map_of.frame → (u : Processor) → SameRoots s u
      → u.memory ≡ with_number (base + way_offset map_of.frame) 4 (s.pc + 4 * words_of_jump forms.jumps) s.memory → map_of.bottom ≤ base
      → HoldsCells pool world.cells (links_of map_of (base + map_of.frame) (f ∷ fs)) u
  pushed_cells base base_is u roots stored low =
      let under = ground.cells_below in
      let way = s.pc + 4 * words_of_jump forms.jumps in
      let some = ground.some_frame in
      subst (λ b. HoldsCells pool world.cells (links_of map_of b (f ∷ fs)) u) base_is
      (outside-holds running.cells roots (subst (λ m. SameInside pool s.memory m) (sym stored) (SameInside-store pool s.memory (base + way_offset map_of.frame) way (inr (omega arith))))
      (slots_below map_of running.base (f ∷ fs) s.memory u.memory (λ x above. ap (λ m. number_at m x 4) stored ∙ word-apart (base + way_offset map_of.frame) way s.memory x (inr (omega arith)))))

  taking_comes : takes_frame map_of.jumps f.whole ≡ true → (g : ℕ) (callee : PlacedLines) (entry : ℕ) → takes_frame map_of.jumps callee.code ≡ true → EntersAt map_of code entry → (args : List Operand) (into : Option Operand) (words : List ℕ) → slice_get functions g ≡ Some callee → slice_get map_of.entries g ≡ Some entry → FunctionAt map_of code entry callee → CallsTo forms.jumps code s.pc entry
      → ((next : ℕ) → s.pc + 4 * words_of_jump forms.jumps ≡ next → next < 2 ^ 32 → IsIn map_of code (most_lines functions) next (record left_behind { into = awaited into }))
      → gives_into (Call g) into ≡ true → Agrees (passed 0 words) s.registers → suc (length (f ∷ fs)) ≤ depth
      → Comes map_of pool functions depth stop code parts 7 old (placed_goes (placed_entered g callee) (record left_behind { into = awaited into } ∷ fs) (passed 0 words) world) s
  taking_comes framed g callee entry taking enters args into words callee_is entry_is function calls is_behind gives agrees room =
      let stand = waits_as map_of code (most_lines functions) stop (stack_end map_of depth) s.registers s.memory s.pc running.base f fs framed running.frames in
      let word = entry_word map_of entry true running.rests.stands enters ground.stack_full.1 in
      let full_at = ground.stack_full in
      let called = jump_to pool.cells ground.below running.rests.stands forms.jumps s.pc refl ra entry calls word in
      let last = jump_last pool.cells ground.below forms.jumps s.pc ra entry calls in
      let base = running.base - map_of.frame in
      let sp = running.base in
      let low = sp_room ground f fs known world s running room in
      let high = sp_high ground f fs known world s running in
      let some = ground.some_frame in
      let range = ground.in_range in
      let base_is : sp ≡ base + map_of.frame = omega arith in
      let last_below : ℕ = base + way_offset map_of.frame in
      let last_words : last_below % 4 ≡ 0 = (let a = sp_word ground f fs known world s running in let b = ground.frame_words in omega arith) in
      let allowed : can_store parts last_below 4 ≡ true = ground.stores last_below (omega arith) (omega arith) last_words in
      let takes = entry_takes pool.cells ground.below called.done.stands map_of entry called.done.pc_is enters full_at.0 full_at.1 sp
      (called.done.kept 2 ((λ e. cc), ((λ e. cc), tt)) ∙ framed_base ground f fs known world s running framed) (omega arith) (end_kept called.after (called.done.kept 19 ((λ e. cc), ((λ e. cc), tt))))
      base (s.pc + 4 * words_of_jump forms.jumps) base_is (called.value_is (λ e. cc)) (λ e. omega (arith, e)) last_words
      (rw (called.done.parts_are, running.rests.parts_are) allowed)
      (misses_done last_below called.done ((λ e. cc), ((λ e. cc), tt)) ((λ e. cc), ((λ e. cc), tt)) ((λ e. cc), ((λ e. cc), tt)) (behind_misses running.cells last_below (let under = ground.cells_below in omega arith))) in
      let done = done_as {changed' = 1 ∷ 1 ∷ 5 ∷ 2 ∷ []} (done_then called.done takes.done) (ap (λ m. with_number last_below 4 (s.pc + 4 * words_of_jump forms.jumps) m) called.done.memory_is) refl (λ x out. out) in
      let after : PlacedState World = record { frames = placed_entered g callee ∷ record left_behind { into = awaited into } ∷ fs; registers = passed 0 words; shared = world } in
      let waiting : FramesAt map_of code (most_lines functions) stop (stack_end map_of depth) s.memory (s.pc + 4 * words_of_jump forms.jumps) (base + map_of.frame) (record left_behind { into = awaited into } ∷ fs) =
      subst (λ b. FramesAt map_of code (most_lines functions) stop (stack_end map_of depth) s.memory (s.pc + 4 * words_of_jump forms.jumps) b (record left_behind { into = awaited into } ∷ fs)) base_is
      (is_behind (s.pc + 4 * words_of_jump forms.jumps) refl (omega arith), stand.1, (awaits_first g into gives, framed), stand.3) in
      comes_go map_of pool functions depth stop code parts 7 old after s takes.after (words_of_jump forms.jumps + (words_to_frame map_of.jumps + 1 + words_of_shift map_of.jumps + 1)) (walks_done done)
      (runs_on map_of pool functions depth stop code parts (record { frames = f ∷ fs; registers = known; shared = world }) world.cells s takes.after after.frames (passed 0 words) base running done
      ((λ e. cc), ((λ e. cc), ((λ e. cc), ((λ e. cc), tt)))) ((λ e. cc), ((λ e. cc), ((λ e. cc), ((λ e. cc), tt))))
      (constants_kept ground f fs known world s running last_below (s.pc + 4 * words_of_jump forms.jumps) allowed) room
      (takes.base_is ∙ ap (λ t. cond t base (base + map_of.frame) + frame_bias map_of.jumps) (sym taking))
      (runs_as map_of code (most_lines functions) stop (stack_end map_of depth) takes.after.registers (with_number last_below 4 (s.pc + 4 * words_of_jump forms.jumps) s.memory) (entry + 4 * entry_words map_of.jumps) base after.frames
      (frames_pushed map_of code (most_lines functions) stop (stack_end map_of depth) ground.some_frame s.memory base (s.pc + 4 * words_of_jump forms.jumps) (entry + 4 * entry_words map_of.jumps) (placed_entered g callee) (record left_behind { into = awaited into } ∷ fs) (omega arith)
      (callee_in g callee entry callee_is entry_is function) (λ k w none. cc) refl taking waiting))
      (agrees_same (passed 0 words) s.registers takes.after.registers agrees (λ x w is. done.kept x (outside_entry x (passed_high 0 words x w is))))
      (pushed_cells base base_is takes.after (roots_done done refl) done.memory_is (omega arith))) (omega arith) (omega (arith, jump_most forms.jumps, shift_most map_of.jumps, to_frame_most map_of.jumps))

  -- a callee that takes no frame begins behind the test, with the way back in ra
  bare_comes : takes_frame map_of.jumps f.whole ≡ true → (g : ℕ) (callee : PlacedLines) (entry : ℕ) → takes_frame map_of.jumps callee.code ≡ false → PassesAt map_of code entry → (args : List Operand) (into : Option Operand) (words : List ℕ)
      → slice_get functions g ≡ Some callee → slice_get map_of.entries g ≡ Some entry → FunctionAt map_of code entry callee → CallsTo forms.jumps code s.pc entry
      → ((next : ℕ) → s.pc + 4 * words_of_jump forms.jumps ≡ next → next < 2 ^ 32 → IsIn map_of code (most_lines functions) next (record left_behind { into = awaited into }))
      → gives_into (Call g) into ≡ true → Agrees (passed 0 words) s.registers → suc (length (f ∷ fs)) ≤ depth
      → Comes map_of pool functions depth stop code parts 7 old (placed_goes (placed_entered g callee) (record left_behind { into = awaited into } ∷ fs) (passed 0 words) world) s
  bare_comes framed g callee entry bare passes args into words callee_is entry_is function calls is_behind gives agrees room =
      let stand = waits_as map_of code (most_lines functions) stop (stack_end map_of depth) s.registers s.memory s.pc running.base f fs framed running.frames in
      let word = entry_word map_of entry false running.rests.stands passes ground.stack_full.1 in
      let called = jump_to pool.cells ground.below running.rests.stands forms.jumps s.pc refl ra entry calls word in
      let last = jump_last pool.cells ground.below forms.jumps s.pc ra entry calls in
      let base = running.base - map_of.frame in
      let low = sp_room ground f fs known world s running room in
      let some = ground.some_frame in
      let base_is : running.base ≡ base + map_of.frame = omega arith in
      let near = bare_near map_of.jumps callee.code bare in
      let inside = callee_in g callee entry callee_is entry_is function in
      let old_base : value called.after.registers 2 ≡ running.base + frame_bias map_of.jumps = called.done.kept 2 ((λ e. cc), ((λ e. cc), tt)) ∙ framed_base ground f fs known world s running framed in
      let goes = bare_passes pool.cells ground.below called.done.stands map_of entry called.done.pc_is passes running.base (old_base ∙ bare_sp map_of.jumps running.base near)
      (end_kept called.after (called.done.kept 19 ((λ e. cc), ((λ e. cc), tt)))) inside.below (λ e. omega (arith, e)) in
      let done = done_on called.done goes.done in
      let way : ℕ = s.pc + 4 * words_of_jump forms.jumps in
      let link : value goes.after.registers 1 ≡ way = goes.done.kept 1 tt ∙ called.value_is (λ e. cc) in
      let after : PlacedState World = record { frames = placed_entered g callee ∷ record left_behind { into = awaited into } ∷ fs; registers = passed 0 words; shared = world } in
      let waiting : FramesAt map_of code (most_lines functions) stop (stack_end map_of depth) s.memory way (base + map_of.frame) (record left_behind { into = awaited into } ∷ fs) =
      subst (λ b. FramesAt map_of code (most_lines functions) stop (stack_end map_of depth) s.memory way b (record left_behind { into = awaited into } ∷ fs)) base_is
      (is_behind way refl last, stand.1, (awaits_first g into gives, framed), stand.3) in
      comes_go map_of pool functions depth stop code parts 7 old after s goes.after (words_of_jump forms.jumps + 1) (walks_done done)
      (runs_on map_of pool functions depth stop code parts (record { frames = f ∷ fs; registers = known; shared = world }) world.cells s goes.after after.frames (passed 0 words) base running done ((λ e. cc), ((λ e. cc), tt)) ((λ e. cc), ((λ e. cc), tt)) refl room
      (goes.done.kept 2 tt ∙ (old_base ∙ (ap (λ b. b + frame_bias map_of.jumps) base_is ∙ ap (λ t. cond t base (base + map_of.frame) + frame_bias map_of.jumps) (sym bare)))) (
        inside,
        (λ k w none. cc),
        tt,
        subst (λ w. FramesAt map_of code (most_lines functions) stop (stack_end map_of depth) s.memory w (base + map_of.frame) (record left_behind { into = awaited into } ∷ fs))
            (sym link ∙ ap (λ t. way_back t goes.after.registers s.memory (base + way_offset map_of.frame)) (sym bare)) waiting,
      )
      (agrees_done s goes.after (passed 0 words) done (refl, (refl, tt)) agrees)
      (subst (λ b. HoldsCells pool world.cells (links_of map_of b (f ∷ fs)) goes.after) base_is (cells_done running.cells (roots_done done refl) done.memory_is)))
      (omega arith) (omega (arith, jump_most forms.jumps))

  call_comes : (takes : Bool) → takes_frame map_of.jumps f.whole ≡ true → (g : ℕ) (callee : PlacedLines) (entry : ℕ) → takes_frame map_of.jumps callee.code ≡ takes → BeginsAt takes map_of code entry → (args : List Operand) (into : Option Operand) (words : List ℕ)
      → slice_get functions g ≡ Some callee → slice_get map_of.entries g ≡ Some entry → FunctionAt map_of code entry callee → CallsTo forms.jumps code s.pc entry
      → ((next : ℕ) → s.pc + 4 * words_of_jump forms.jumps ≡ next → next < 2 ^ 32 → IsIn map_of code (most_lines functions) next (record left_behind { into = awaited into }))
      → gives_into (Call g) into ≡ true → Agrees (passed 0 words) s.registers → suc (length (f ∷ fs)) ≤ depth
      → Comes map_of pool functions depth stop code parts 7 old (placed_goes (placed_entered g callee) (record left_behind { into = awaited into } ∷ fs) (passed 0 words) world) s
  call_comes true = taking_comes
  call_comes false = bare_comes

  -- what a call comes to, by whether the stack is full
  abbrev called : ℕ → Option Operand → List ℕ → Bool → PlacedLines → PlacedTurn World Ending
  called g into words full callee = cond full (ended (primitives map_of.constants pool).stack_full world) (placed_goes (placed_entered g callee) (record left_behind { into = awaited into } ∷ fs) (passed 0 words) world)

  call_by : (full : Bool) → takes_frame map_of.jumps f.whole ≡ true → (g : ℕ) (callee : PlacedLines) (args : List Operand) (into : Option Operand) (words : List ℕ) → nat_le depth (length (f ∷ fs)) ≡ full → slice_get functions g ≡ Some callee
      → ((entry : ℕ) → slice_get map_of.entries g ≡ Some entry → CallsTo forms.jumps code s.pc entry)
      → ((next : ℕ) → s.pc + 4 * words_of_jump forms.jumps ≡ next → next < 2 ^ 32 → IsIn map_of code (most_lines functions) next (record left_behind { into = awaited into }))
      → gives_into (Call g) into ≡ true → Agrees (passed 0 words) s.registers → Comes map_of pool functions depth stop code parts 7 old (called g into words full callee) s
  call_by true framed g callee args into words test callee_is here is_behind gives agrees =
      let function = function_found map_of code map_of.entries functions ground.functions_at g callee callee_is in
      full_comes framed g callee function.0 function.2 (here function.0 function.1) (is_full depth (length (f ∷ fs)) test)
  call_by false framed g callee args into words test callee_is here is_behind gives agrees =
      let function = function_found map_of code map_of.entries functions ground.functions_at g callee callee_is in
      call_comes (takes_frame map_of.jumps callee.code) framed g callee function.0 refl function.2.entry args into words callee_is function.1 function.2 (here function.0 function.1) is_behind gives agrees
      (has_room depth (length (f ∷ fs)) test)

  pub follow_call : takes_frame map_of.jumps f.whole ≡ true → (g : ℕ) (args : List Operand) (into : Option Operand) (words : List ℕ) (start : ℕ) (turn : PlacedTurn World Ending)
      → ((next : ℕ) → s.pc + 4 * words_of_jump forms.jumps ≡ next → next < 2 ^ 32 → IsIn map_of code (most_lines functions) next (record left_behind { into = awaited into }))
      → ActsAt map_of forms code start f.whole s.pc (Call g) args into → conforms (Call g) args into ≡ true → all_of (map (λ (arg : Operand). read_at known f.cells arg.place) args) ≡ Some words
      → placed_acts (primitives map_of.constants pool) depth functions left_behind fs known world (Call g) args into words ≡ turn → turn ≢ stuck → Comes map_of pool functions depth stop code parts 7 old turn s
  follow_call framed g args into words start turn is_behind here conform words_are is good =
      let fit = and_parts (take_from (Call g) 0 args) (gives_into (Call g) into) conform in
      let full = nat_le depth (length (f ∷ fs)) in
      let result = or_stuck_some (slice_get functions g) (called g into words full) turn is good in
      subst (λ t. Comes map_of pool functions depth stop code parts 7 old t s) result.2
      (call_by full framed g result.0 args into words refl result.1 here is_behind fit.1 (passed_agree (Call g) args words (λ k place is_one. is_one) fit.0 words_are))

-- ---- returns

module _ {map_of : Map} {pool : Pool} {functions : List PlacedLines} {depth buffer stop : ℕ} {code : Code} {parts : List Part} (ground : Ground map_of pool functions depth buffer stop code parts)
    (f : Frame PlacedLine) (known : ℕ → Option ℕ) (world : World) (s : Processor) (old : ℕ) where
  abbrev state_of : List (Frame PlacedLine) → PlacedState World
  state_of fs = record { frames = f ∷ fs; registers = known; shared = world }

  -- instructions that lead to where the newest frame goes on that waits, with the stack pointer at it
  record GoneBack (fs : List (Frame PlacedLine)) (running : Running map_of pool functions depth stop code parts (state_of fs) s) : Type 0 where
    steps : ℕ
    some : 1 ≤ steps
    few : steps ≤ 4
    shifts : Shifts pool.cells code steps (1 ∷ 2 ∷ 0 ∷ []) s.memory (running.base + map_of.frame + frame_bias map_of.jumps)
        (way_back (takes_frame map_of.jumps f.whole) s.registers s.memory (running.base + way_offset map_of.frame)) s

  -- where the function takes a frame
  framed_back : takes_frame map_of.jumps f.whole ≡ true → ReturnsFrom map_of code s.pc → (fs : List (Frame PlacedLine)) (running : Running map_of pool functions depth stop code parts (state_of fs) s)
      → Shifts pool.cells code (1 + words_of_shift map_of.jumps + 1) (1 ∷ 2 ∷ 0 ∷ []) s.memory (running.base + map_of.frame + frame_bias map_of.jumps) (number_at s.memory (running.base + way_offset map_of.frame) 4) s
  framed_back framed returns fs running =
      let sp = running.base in
      let stand = waits_as map_of code (most_lines functions) stop (stack_end map_of depth) s.registers s.memory s.pc sp f fs framed running.frames in
      let last : ℕ = sp + way_offset map_of.frame in
      let fits = way_fits ground s.memory (number_at s.memory last 4) (sp + map_of.frame) fs stand.3 in
      let low = sp_low ground f fs known world s running in
      let high = sp_high ground f fs known world s running in
      let some = ground.some_frame in
      let range = ground.in_range in
      let word = last_word sp map_of.frame (sp_word ground f fs known world s running) ground.frame_words in
      return_goes pool.cells ground.below running.rests.stands map_of s.pc refl returns sp (number_at s.memory last 4) (framed_base ground f fs known world s running framed) refl fits.0 fits.1 (omega arith) word (rw running.rests.parts_are (ground.loads last (omega arith) (omega arith) word))
      (behind_misses running.cells last (let under = ground.cells_below in omega arith))

  -- where it takes none
  bare_back : takes_frame map_of.jumps f.whole ≡ false → GoesBack code s.pc → (fs : List (Frame PlacedLine)) (running : Running map_of pool functions depth stop code parts (state_of fs) s)
      → Shifts pool.cells code 1 (1 ∷ 2 ∷ 0 ∷ []) s.memory (running.base + map_of.frame + frame_bias map_of.jumps) (value s.registers 1) s
  bare_back bare returns fs running =
      let sp = running.base in
      let last : ℕ = sp + way_offset map_of.frame in
      let way_is : way_back (takes_frame map_of.jumps f.whole) s.registers s.memory last ≡ value s.registers 1 = ap (λ t. way_back t s.registers s.memory last) bare in
      let fits = way_fits ground s.memory (value s.registers 1) (sp + map_of.frame) fs
      (subst (λ w. FramesAt map_of code (most_lines functions) stop (stack_end map_of depth) s.memory w (sp + map_of.frame) fs) way_is running.frames.3) in
      let goes = goes_back pool.cells ground.below running.rests.stands s.pc refl returns (value s.registers 1) refl fits.0 fits.1 in
      record {
        after = goes.after;
        done = done_as {changed' = 1 ∷ 2 ∷ 0 ∷ []} goes.done refl refl (λ x out. out.1.1);
        base_is = goes.done.kept 2 ((λ e. cc), tt) ∙ bare_base ground f fs known world s running bare;
      }

  back : (own : Bool) → takes_frame map_of.jumps f.whole ≡ own → ReturnsBy own map_of code s.pc → (fs : List (Frame PlacedLine)) (running : Running map_of pool functions depth stop code parts (state_of fs) s)
      → GoneBack fs running
  back true own_is returns fs running = record {
    steps = 1 + words_of_shift map_of.jumps + 1;
    some = omega arith;
    few = omega (arith, shift_most map_of.jumps);
    shifts = subst (λ w. Shifts pool.cells code (1 + words_of_shift map_of.jumps + 1) (1 ∷ 2 ∷ 0 ∷ []) s.memory (running.base + map_of.frame + frame_bias map_of.jumps) w s)
        (ap (λ t. way_back t s.registers s.memory (running.base + way_offset map_of.frame)) (sym own_is)) (framed_back own_is returns fs running);
  }
  back false own_is returns fs running = record {
    steps = 1;
    some = omega arith;
    few = omega arith;
    shifts = subst (λ w. Shifts pool.cells code 1 (1 ∷ 2 ∷ 0 ∷ []) s.memory (running.base + map_of.frame + frame_bias map_of.jumps) w s)
        (ap (λ t. way_back t s.registers s.memory (running.base + way_offset map_of.frame)) (sym own_is)) (bare_back own_is returns fs running);
  }

  return_last : ReturnsBy (takes_frame map_of.jumps f.whole) map_of code s.pc → Running map_of pool functions depth stop code parts (state_of []) s → Comes map_of pool functions depth stop code parts 4 old (ended (primitives map_of.constants pool).finished world) s
  return_last returns running =
      let gone = back (takes_frame map_of.jumps f.whole) refl returns [] running in
      let goes = gone.shifts in
      let at_stop : goes.after.pc ≡ stop = goes.done.pc_is ∙ running.frames.3.0 in
      let exits = ground.ends goes.after (record { stands = stands_part ground.own_part goes.done.stands; pc_is = at_stop }) in
      comes_ended map_of pool functions depth stop code parts 4 old (primitives map_of.constants pool).finished world s (gone.steps + 3) (record { processor = exits.last; ending = exited 0 }) (exit_runs s goes.after goes.done.leads exits)
      (passes_to_exit ground goes.done exits)
      (refl, exits.trace ∙ (goes.done.trace_is ∙ running.trace), (links_of map_of running.base (f ∷ []), cells_ended (cells_done running.cells (roots_done goes.done refl) goes.done.memory_is) exits)) (omega arith) (let few = gone.few in omega arith)

  return_to : ReturnsBy (takes_frame map_of.jumps f.whole) map_of code s.pc → f.held ≡ [] → (g : Frame PlacedLine) (gs : List (Frame PlacedLine)) (running : Running map_of pool functions depth stop code parts (state_of (g ∷ gs)) s) (known' : ℕ → Option ℕ)
      → ((u : Processor) → value u.registers 10 ≡ value s.registers 10 → Agrees known' u.registers) → Comes map_of pool functions depth stop code parts 4 old (placed_goes g gs known' world) s
  return_to returns free g gs running known' agrees =
      let gone = back (takes_frame map_of.jumps f.whole) refl returns (g ∷ gs) running in
      let goes = gone.shifts in
      let way : ℕ = way_back (takes_frame map_of.jumps f.whole) s.registers s.memory (running.base + way_offset map_of.frame) in
      let newest = newest_waits map_of code (most_lines functions) stop (stack_end map_of depth) s.memory way (running.base + map_of.frame) (g ∷ gs) running.frames.3 in
      let room : length (g ∷ gs) ≤ depth = (let all = running.room in omega arith) in
      comes_go map_of pool functions depth stop code parts 4 old (record { frames = g ∷ gs; registers = known'; shared = world }) s goes.after gone.steps (walks_done goes.done)
      (runs_on map_of pool functions depth stop code parts (state_of (g ∷ gs)) world.cells s goes.after (g ∷ gs) known' (running.base + map_of.frame) running goes.done ((λ e. cc), ((λ e. cc), ((λ e. cc), tt))) ((λ e. cc), ((λ e. cc), ((λ e. cc), tt)))
      refl room (goes.base_is ∙ ap (λ b. b + frame_bias map_of.jumps) (sym newest))
      (runs_as map_of code (most_lines functions) stop (stack_end map_of depth) goes.after.registers s.memory way (running.base + map_of.frame) (g ∷ gs) running.frames.3)
      (agrees goes.after (goes.done.kept 10 ((λ e. cc), ((λ e. cc), ((λ e. cc), tt)))))
      (subst (λ links. HoldsCells pool world.cells links goes.after) (ap (λ held. links_in running.base f.cells held (links_of map_of (running.base + map_of.frame) (g ∷ gs))) free) (cells_done running.cells (roots_done goes.done refl) goes.done.memory_is))) gone.some gone.few

  -- what a frame gets is in the first register of arguments
  got_result : (waits : Option ℕ) (result : Option ℕ) (known' : ℕ → Option ℕ) → AwaitsFirst waits → ((w : ℕ) → result ≡ Some w → known 10 ≡ Some w) → Agrees known s.registers → received waits result empty ≡ Some known'
      → (u : Processor) → value u.registers 10 ≡ value s.registers 10 → Agrees known' u.registers
  got_result None result known' awaits first agrees is u same = let none : empty ≡ known' = cc in subst (λ k. Agrees k u.registers) none (λ x w known_is. cc)
  got_result (Some at) None known' awaits first agrees is u same = cc
  got_result (Some at) (Some word) known' awaits first agrees is u same =
      let holds = agrees 10 word (first word refl) in
      let put_is : put at (Some word) empty ≡ known' = cc in
      subst (λ k. Agrees k u.registers) put_is (agrees_put at (Some word) empty u.registers u.registers (λ x w none. cc) (rw awaits refl)
      (λ w is. let e : word ≡ w = cc in (rw awaits (same ∙ (holds.1 ∙ e)), subst (λ v. v < 2 ^ 32) e holds.2)) (λ x handed apart. refl))

  returned : ReturnsBy (takes_frame map_of.jumps f.whole) map_of code s.pc → f.held ≡ [] → (fs : List (Frame PlacedLine)) (result : Option ℕ) (turn : PlacedTurn World Ending) → Running map_of pool functions depth stop code parts (state_of fs) s → ((w : ℕ) → result ≡ Some w → known 10 ≡ Some w)
      → placed_returns (primitives map_of.constants pool) fs world result ≡ turn → turn ≢ stuck → Comes map_of pool functions depth stop code parts 4 old turn s
  returned returns free [] result turn running first is good = subst (λ t. Comes map_of pool functions depth stop code parts 4 old t s) is (return_last returns running)
  returned returns free (g ∷ gs) result turn running first is good =
      let got = or_stuck_some (received g.into result empty) (λ registers. placed_goes g gs registers world) turn is good in
      subst (λ t. Comes map_of pool functions depth stop code parts 4 old t s) got.2
      (return_to returns free g gs running got.0 (got_result g.into result got.0 running.frames.3.2.0 first running.registers got.1))

  result_words : (words : List ℕ) (result : Option ℕ) (w : ℕ) → result_of words ≡ Some result → result ≡ Some w → passed 0 words 10 ≡ Some w
  result_words [] result w is some = cc
  result_words (word ∷ []) result w is some = let e : word ≡ w = cc in ap Some e
  result_words (word ∷ other ∷ more) result w is some = cc

  pub follow_return : ReturnsBy (takes_frame map_of.jumps f.whole) map_of code s.pc → (fs : List (Frame PlacedLine)) (rest : List PlacedLine) (args : List Operand) (into : Option Operand) (words : List ℕ) (turn : PlacedTurn World Ending) → Running map_of pool functions depth stop code parts (state_of fs) s
      → conforms Return args into ≡ true → all_of (map (λ (arg : Operand). read_at known f.cells arg.place) args) ≡ Some words
      → placed_acts (primitives map_of.constants pool) depth functions (record f { code = rest }) fs known world Return args into words ≡ turn → turn ≢ stuck → Comes map_of pool functions depth stop code parts 4 old turn s
  follow_return returns fs rest args into words turn running conform words_are is good =
      let fit = and_parts (take_from Return 0 args) (gives_into Return into) conform in
      let next = none_held f.held (or_stuck (result_of words) (λ result. placed_returns (primitives map_of.constants pool) fs world result)) turn is good in
      let result = or_stuck_some (result_of words) (λ result. placed_returns (primitives map_of.constants pool) fs world result) turn next.1 good in
      returned returns next.0 fs result.0 turn running
      (λ w some. passed_known known f.cells s.registers running.registers Return 0 args words (λ k place is_one. is_one) fit.0 words_are 10 w (result_words words result.0 w result.1 some)) result.2 good
