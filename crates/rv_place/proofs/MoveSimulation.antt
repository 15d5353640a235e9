-- Labels, moves and operations of the machine of the placed form, followed by the processor.
use Rattle.std.proofs.Common.{◌≡◌, ◌≢◌, ◌≤◌, ◌<◌, ◌&&◌, inl, inr, ℕ, ◌+◌, ◌*◌, ◌%◌, ◌^◌, List, [], ◌∷◌, length, Option, Some, None, Bool, true, false, cond, map, option_map, eqb-true, refl, sym, ap, ◌∙◌, subst, arith, lit<}
use Rattle.std.proofs.lemmas.Bool.{and_parts, or_from, or_cases}
use Rattle.kk_base.specs.Memory.{Part}
use Rattle.rv_isa.specs.declared.register.Register.{Register}
use Rattle.rv_isa.specs.declared.instr.Instr.TheVariants as Instr
use Rattle.rv_isa.specs.declared.asm.Action.{Action}
use Rattle.rv_isa.specs.declared.asm.Action.TheVariants.{Compute}
use Rattle.rv_isa.specs.declared.immediate.Immediate.{Immediate}
use Rattle.rv_isa.specs.declared.asm.Operation.{Operation}
use Rattle.rv_isa.specs.declared.asm.Operation.TheVariants as OfOperation
use Rattle.rv_isa.specs.declared.placed.Place.{Place}
use Rattle.rv_isa.specs.declared.placed.Place.TheVariants.{Register as register, Slot as slot}
use Rattle.rv_isa.specs.declared.placed.Operand.{Operand}
use Rattle.rv_isa.specs.declared.placed.Way.{Way}
use Rattle.rv_isa.specs.declared.placed.Way.TheVariants.{Copy, Load, Store}
use Rattle.rv_isa.specs.PlacedCode.{PlacedLine, PlacedLines, from_of, to_of}
use Rattle.rv_isa.specs.Arithmetic.{sum_word}
use Rattle.rv_isa.specs.Conventions.{is_handed_out, is_in, is_in_any, register_with, constants, home, is_lost, is_register, conforms, computes_at, gives_into, take_from}
use Rattle.rv_isa.specs.Costs.{operation_instructions}
use Rattle.rv_isa.specs.Primitives.{stuck, or_stuck}
use Rattle.rv_isa.specs.Frames.{Frame, put, all_of, is_among}
use Rattle.rv_isa.specs.LinePlaces.{is_copy}
use Rattle.rv_isa.specs.PlacedMachine.{PlacedState, PlacedTurn, is_held, read_at, placed_goes, placed_writes, unless_lost, placed_gives, placed_acts}
use Rattle.rv_isa.specs.Bytes.{number_at, with_number}
use Rattle.rv_isa.specs.Processor.{Processor, Ending, value, can_load, can_store}
use Rattle.rv_isa.specs.Standing.{Code}
use Rattle.rv_isa.proofs.Copies.{copy_is, home_is, constant_is, lost_is}
use Rattle.rv_isa.proofs.Memory.{word-apart}
use Rattle.cell_heap.specs.ProgramMemory.{HoldsCells, SameRoots}
use Rattle.cell_heap.proofs.Frames.{SameInside, SameInside-store}
use Rattle.cell_heap.proofs.Blocks.{outside-holds}
use Rattle.cell_runtime.specs.Operations.{Constants, computed}
use Rattle.cell_heap.specs.Blocks.{load}
use Rattle.cell_heap.specs.Pool.{Pool}
use Rattle.cell_heap.proofs.Blocks.{mapped}
use Rattle.cell_runtime.specs.World.{World, computed_in, primitives}
use Rattle.rv_place.specs.Registers.{zero_register, sp}
use Rattle.rv_place.specs.Addresses.{is_same_register, stands_there, gives_idly, is_silent, has_slot, takes_frame, frame_bias, slot_offset, way_offset}
use Rattle.rv_place.specs.Instructions.{form_of, words_of_form, words_of_operation}
use Rattle.rv_place.specs.declared.reach.WordForm.{WordForm}
use Rattle.rv_place.specs.declared.reach.WordForm.TheVariants.{Short, Upper, Both}
use Rattle.rv_place.specs.Lines.{Map, register_into, MovesBy, ActsAt}
use Rattle.rv_place.specs.declared.reach.Forms.{Forms}
use Rattle.rv_place.specs.Grounds.{Ground, stack_end}
use Rattle.rv_place.specs.ProcessorStates.{Agrees, most_lines, IsIn, links_of, Running}
use Rattle.rv_place.proofs.InstructionExecution.{MissesFree, Gets, addi_row, plain_gets, load_gets, store_goes}
use Rattle.rv_place.proofs.OccupiedWords.{behind_misses}
use Rattle.rv_place.proofs.InstructionRows.{from_pointer}
use Rattle.rv_place.proofs.FrameMemory.{value_kept, agrees_put, agrees_kept, frames_put, waits_as, runs_as}
use Rattle.rv_place.proofs.HeldTokenLinks.{is_fixed, roots_done, links_put, slots_apart}
use Rattle.rv_place.proofs.TargetRegisters.{is_target, IsTarget, GivesTarget, target_apart, target_fixed}
use Rattle.rv_place.proofs.ArgumentWords.{some_cons, words_in, in_registers, Computed, computes}
use Rattle.rv_place.proofs.PassedInstructions.{walks_done}
use Rattle.rv_place.proofs.LineOutcomes.{or_stuck_some, Comes, comes_go, comes_idle, runs_on, agrees_got, framed_base, sp_low, sp_word, sp_high, constants_kept, stays}

-- a place that is the register of a number, if there is one
home_place : (home : Option ℕ) (place : Place) → is_in_any home place ≡ true → (x : ℕ) × (home ≡ Some x) × (is_in x place ≡ true)
home_place None place there = cc there
home_place (Some x) place there = (x, refl, there)

-- a load leaves what is shared
loads_alone : (constants : Constants) (offset : Immediate) (words : List ℕ) (world : World) (r : ℕ × World)
    → computed_in constants (OfOperation.Lw offset) words world ≡ Some r → r.1 ≡ world
loads_alone constants offset [] world r is = cc is
loads_alone constants offset (a ∷ []) world r is =
    let word = mapped (λ (word : ℕ). (word, world)) (load a offset.word world.cells) r is in
    sym (ap (λ (p : ℕ × World). p.1) word.2)
loads_alone constants offset (a ∷ b ∷ words) world r is = cc is

-- a slot is a word of the stack
pub slot_word : (base k : ℕ) → base % 4 ≡ 0 → (base + slot_offset k) % 4 ≡ 0
slot_word base k word = omega arith

-- an operation gives into a register
computes_register : (operation : Operation) (place : Place) → computes_at operation place ≡ true → is_register place ≡ true
computes_register (OfOperation.Register operation) place is = is
computes_register (OfOperation.Immediate operation imm) place is = is
computes_register (OfOperation.Shift operation amount) place is = is
computes_register (OfOperation.Li word) place is = is
computes_register OfOperation.Mv place is = is
computes_register (OfOperation.La index) place is = is
computes_register (OfOperation.Lw imm) place is = is
computes_register (OfOperation.Sw imm) place is = cc
computes_register OfOperation.Dup place is = cc
computes_register OfOperation.Free place is = cc

form_weighs : (form : WordForm) → (1 ≤ words_of_form form) × (words_of_form form ≤ 2)
form_weighs Short = (omega arith, omega arith)
form_weighs Upper = (omega arith, omega arith)
form_weighs Both = (omega arith, omega arith)

-- an operation is as many instructions as it weighs
pub operation_weighs : (operation : Operation) → (1 ≤ words_of_operation operation) × (words_of_operation operation ≤ operation_instructions operation)
operation_weighs (OfOperation.Register operation) = (omega arith, omega arith)
operation_weighs (OfOperation.Immediate operation imm) = (omega arith, omega arith)
operation_weighs (OfOperation.Shift operation amount) = (omega arith, omega arith)
operation_weighs (OfOperation.Li word) = form_weighs (form_of word)
operation_weighs OfOperation.Mv = (omega arith, omega arith)
operation_weighs (OfOperation.La index) = (omega arith, omega arith)
operation_weighs (OfOperation.Lw imm) = (omega arith, omega arith)
operation_weighs (OfOperation.Sw imm) = (omega arith, omega arith)
operation_weighs OfOperation.Dup = (omega arith, omega arith)
operation_weighs OfOperation.Free = (omega arith, omega arith)

module _ {map_of : Map} {pool : Pool} {functions : List PlacedLines} {depth buffer stop : ℕ} {code : Code} {parts : List Part} (ground : Ground map_of pool functions depth buffer stop code parts)
    (f : Frame PlacedLine) (fs : List (Frame PlacedLine)) (known : ℕ → Option ℕ) (world : World) (s : Processor)
    (running : Running map_of pool functions depth stop code parts (record { frames = f ∷ fs; registers = known; shared = world }) s) (rest : List PlacedLine) where
  abbrev behind : Frame PlacedLine
  behind = record f { code = rest }

  -- a line that is no instruction: the code behind it is left, and other words may be known
  passes : (old : ℕ) (more : ℕ → Option ℕ) → Agrees more s.registers → IsIn map_of code (most_lines functions) s.pc behind → 1 + length rest ≤ old
      → Comes map_of pool functions depth stop code parts 0 old (placed_goes behind fs more world) s
  passes old more agrees is_in less =
      let stand = running.frames in
      comes_idle map_of pool functions depth stop code parts 0 old (record { frames = behind ∷ fs; registers = more; shared = world }) s (record {
        rests = running.rests;
        trace = running.trace;
        left = running.left;
        bytes = running.bytes;
        room = running.room;
        base = running.base;
        base_is = running.base_is;
        frames = (is_in, stand.1, stand.2, stand.3);
        registers = agrees;
        one = running.one;
        header = running.header;
        cells = running.cells;
      }) less

  -- ---- labels

  pub follow_label : (old : ℕ) → IsIn map_of code (most_lines functions) s.pc behind → 1 + length rest ≤ old → Comes map_of pool functions depth stop code parts 0 old (placed_goes behind fs known world) s
  follow_label old is_in less = passes old known running.registers is_in less

  -- ---- copies and constants that are no instruction

  -- a register has already the word that goes to it
  holds_already : (old word : ℕ) (q : Register) → is_handed_out q.number ≡ true → (value s.registers q.number ≡ word) × (word < 2 ^ 32)
      → IsIn map_of code (most_lines functions) s.pc behind → 1 + length rest ≤ old
      → Comes map_of pool functions depth stop code parts 0 old (placed_writes (register q) (Some word) behind fs known world) s
  holds_already old word q handed has is_in less =
      passes old (put q.number (Some word) known) (agrees_put q.number (Some word) known s.registers s.registers running.registers handed
      (λ w e. let equal : word ≡ w = cc in subst (λ v. (value s.registers q.number ≡ v) × (v < 2 ^ 32)) equal has)
      (λ x some apart. refl)) is_in less

  -- a copy of it, to the register where it is
  has_already : (old word : ℕ) (from to : Place) → is_same_register from to ≡ true → read_at known f.cells from ≡ Some word
      → IsIn map_of code (most_lines functions) s.pc behind → 1 + length rest ≤ old
      → Comes map_of pool functions depth stop code parts 0 old (placed_writes to (Some word) behind fs known world) s
  has_already old word (slot k) to same read is_in less = cc same
  has_already old word (register r) (slot k) same read is_in less = cc same
  has_already old word (register r) (register q) same read is_in less =
      let one : r.number ≡ q.number = eqb-true r.number q.number same in
      let holds = running.registers r.number word read in
      let handed : is_handed_out q.number ≡ true = subst (λ x. is_handed_out x ≡ true) one holds.0 in
      let has : (value s.registers q.number ≡ word) × (word < 2 ^ 32)
      = subst (λ x. (value s.registers x ≡ word) × (word < 2 ^ 32)) one (holds.1, holds.2) in
      holds_already old word q handed has is_in less

  stays_there : (old : ℕ) (args : List Operand) (into : Option Operand) (words : List ℕ) (turn : PlacedTurn World Ending)
      → stands_there args into ≡ true → IsIn map_of code (most_lines functions) s.pc behind → 1 + length rest ≤ old
      → all_of (map (λ (arg : Operand). read_at known f.cells arg.place) args) ≡ Some words
      → placed_acts (primitives map_of.constants pool) depth functions behind fs known world (Compute OfOperation.Mv) args into words ≡ turn
      → Comes map_of pool functions depth stop code parts 0 old turn s
  stays_there old [] into words turn stands is_in less words_are is = cc stands
  stays_there old (arg ∷ []) None words turn stands is_in less words_are is = cc stands
  stays_there old (arg ∷ []) (Some into) words turn stands is_in less words_are is =
      let split = some_cons (read_at known f.cells arg.place) [] words words_are in
      let rest_is = split.3 in
      let alone : [] ≡ split.1 = cc rest_is in
      let one : words ≡ split.0 ∷ [] = split.4 ∙ ap (λ ws. split.0 ∷ ws) (sym alone) in
      subst (λ t. Comes map_of pool functions depth stop code parts 0 old t s)
      (sym (ap (placed_acts (primitives map_of.constants pool) depth functions behind fs known world (Compute OfOperation.Mv) (arg ∷ []) (Some into)) one) ∙ is)
      (has_already old split.0 arg.place into.place stands split.2 is_in less)
  stays_there old (arg ∷ other ∷ args) into words turn stands is_in less words_are is = cc stands

  -- a register that holds a word always
  constant_held : (word x : ℕ) → register_with word constants ≡ Some x → (is_handed_out x ≡ true) × ((value s.registers x ≡ word) × (word < 2 ^ 32))
  constant_held =
      constant_is (λ word x. (is_handed_out x ≡ true) × ((value s.registers x ≡ word) × (word < 2 ^ 32)))
      (refl, (refl, lit< tt)) (refl, (running.one, lit< tt)) (refl, (running.header, lit< tt))

  constant_already : (old word x : ℕ) (place : Place) → register_with word constants ≡ Some x → is_in x place ≡ true
      → IsIn map_of code (most_lines functions) s.pc behind → 1 + length rest ≤ old
      → Comes map_of pool functions depth stop code parts 0 old (placed_writes place (Some word) behind fs known world) s
  constant_already old word x (slot k) held there is_in less = cc there
  constant_already old word x (register q) held there is_in less =
      let number : q.number ≡ x = eqb-true q.number x there in
      let has = constant_held word x held in
      holds_already old word q (rw number has.0) (rw number has.1) is_in less

  constant_is_there : (old word x : ℕ) (args : List Operand) (into : Operand) (words : List ℕ) (turn : PlacedTurn World Ending)
      → register_with word constants ≡ Some x → is_in x into.place ≡ true
      → IsIn map_of code (most_lines functions) s.pc behind → 1 + length rest ≤ old
      → placed_acts (primitives map_of.constants pool) depth functions behind fs known world (Compute (OfOperation.Li word)) args (Some into) words ≡ turn → turn ≢ stuck
      → Comes map_of pool functions depth stop code parts 0 old turn s
  constant_is_there old word x args into (other ∷ words) turn held there is_in less is good = absurd (good (sym is))
  constant_is_there old word x args into [] turn held there is_in less is good =
      subst (λ t. Comes map_of pool functions depth stop code parts 0 old t s) is (constant_already old word x into.place held there is_in less)

  is_at_home : (old : ℕ) (action : Action) (args : List Operand) (into : Operand) (words : List ℕ) (turn : PlacedTurn World Ending)
      → is_in_any (home action) into.place ≡ true → IsIn map_of code (most_lines functions) s.pc behind → 1 + length rest ≤ old
      → placed_acts (primitives map_of.constants pool) depth functions behind fs known world action args (Some into) words ≡ turn
      → turn ≢ stuck → Comes map_of pool functions depth stop code parts 0 old turn s
  is_at_home old action args into words turn goes is_in less is good =
      let there = home_place (home action) into.place goes in
      let gives = home_is action there.0 there.1 in
      constant_is_there old gives.0 there.0 args into words turn gives.2 there.2 is_in less
      (subst (λ a. placed_acts (primitives map_of.constants pool) depth functions behind fs known world a args (Some into) words ≡ turn) gives.1 is)
      good

  -- a load whose word is lost leaves all that is known, and what is shared
  load_is_lost : (old : ℕ) (action : Action) (args : List Operand) (into : Operand) (words : List ℕ)
      (turn : PlacedTurn World Ending) → is_lost action into.place ≡ true → IsIn map_of code (most_lines functions) s.pc behind → 1 + length rest ≤ old
      → placed_acts (primitives map_of.constants pool) depth functions behind fs known world action args (Some into) words ≡ turn
      → turn ≢ stuck → Comes map_of pool functions depth stop code parts 0 old turn s
  load_is_lost old action args into words turn lost is_in less is good =
      let of = lost_is action into.place lost in
      let loads = Compute (OfOperation.Lw of.0) in
      let gives : Option Operand → ℕ × World → PlacedTurn World Ending = λ o r. placed_gives o r.0 behind fs known r.1 in
      let nowhere : unless_lost loads (Some into) ≡ None
      = ap (λ (b : Bool). cond b None (Some into)) (subst (λ a. is_lost a into.place ≡ true) of.1 lost) in
      let result = or_stuck_some (computed_in map_of.constants (OfOperation.Lw of.0) words world)
      (gives (unless_lost loads (Some into))) turn
      (subst (λ a. placed_acts (primitives map_of.constants pool) depth functions behind fs known world a args (Some into) words
      ≡ turn) of.1 is)
      good in
      let left : placed_goes behind fs known result.0.1 ≡ turn = subst (λ o. gives o result.0 ≡ turn) nowhere result.2 in
      subst (λ t. Comes map_of pool functions depth stop code parts 0 old t s)
      (subst (λ w. placed_goes behind fs known w ≡ turn) (loads_alone map_of.constants of.0 words world result.0 result.1) left)
      (passes old known running.registers is_in less)

  pub follow_silent : (old : ℕ) (action : Action) (args : List Operand) (into : Option Operand) (words : List ℕ) (turn : PlacedTurn World Ending)
      → is_silent action args into ≡ true → IsIn map_of code (most_lines functions) s.pc behind → 1 + length rest ≤ old
      → all_of (map (λ (arg : Operand). read_at known f.cells arg.place) args) ≡ Some words
      → placed_acts (primitives map_of.constants pool) depth functions behind fs known world action args into words ≡ turn → turn ≢ stuck
      → Comes map_of pool functions depth stop code parts 0 old turn s
  follow_silent old action args into words turn silent is_in less words_are is good =
      elim (or_cases (is_copy action && stands_there args into) (gives_idly action into) silent) [
        | inl copies ↦
            let both = and_parts (is_copy action) (stands_there args into) copies in
            stays_there old args into words turn both.1 is_in less words_are
            (subst (λ a. placed_acts (primitives map_of.constants pool) depth functions behind fs known world a args into words ≡ turn)
            (copy_is action both.0) is)
        | inr idle ↦ gives_nothing into idle is
      ]
    where
      gives_nothing : (into : Option Operand) → gives_idly action into ≡ true
          → placed_acts (primitives map_of.constants pool) depth functions behind fs known world action args into words ≡ turn
          → Comes map_of pool functions depth stop code parts 0 old turn s
      gives_nothing None idle is = cc idle
      gives_nothing (Some into) idle is =
          elim (or_cases (is_in_any (home action) into.place) (is_lost action into.place) idle) [
            | inl goes ↦ is_at_home old action args into words turn goes is_in less is good
            | inr lost ↦ load_is_lost old action args into words turn lost is_in less is good
          ]

  -- ---- slots

  -- the slot that is loaded from, or stored to
  pub slot_address : takes_frame map_of.jumps f.whole ≡ true → (k : ℕ) (offset : ℕ) → sum_word (frame_bias map_of.jumps) offset ≡ slot_offset k → slot_offset k + 4 ≤ way_offset map_of.frame → sum_word (value s.registers 2) offset ≡ running.base + slot_offset k
  slot_address takes k offset is inside =
      let high = sp_high ground f fs known world s running in let range = ground.in_range in
      rw (framed_base ground f fs known world s running takes) (from_pointer running.base (frame_bias map_of.jumps) (slot_offset k) offset is (omega arith))

  pub slot_loads : (k : ℕ) → slot_offset k + 4 ≤ way_offset map_of.frame → can_load s.parts (running.base + slot_offset k) 4 ≡ true
  slot_loads k inside =
      let low = sp_low ground f fs known world s running in
      let high = sp_high ground f fs known world s running in
      let word = sp_word ground f fs known world s running in
      rw running.rests.parts_are (ground.loads (running.base + slot_offset k) (omega arith) (omega arith) (slot_word running.base k word))

  pub slot_stores : (k : ℕ) → slot_offset k + 4 ≤ way_offset map_of.frame → can_store parts (running.base + slot_offset k) 4 ≡ true
  slot_stores k inside =
      let low = sp_low ground f fs known world s running in
      let high = sp_high ground f fs known world s running in
      let word = sp_word ground f fs known world s running in
      ground.stores (running.base + slot_offset k) (omega arith) (omega arith) (slot_word running.base k word)

  -- it lies behind the cells
  pub slot_misses : (k : ℕ) → MissesFree pool.cells s (running.base + slot_offset k)
  slot_misses k =
      let low = sp_low ground f fs known world s running in
      let under = ground.cells_below in
      behind_misses running.cells (running.base + slot_offset k) (omega arith)

  -- ---- moves

  module _ (old : ℕ) (is_in : (cells : ℕ → Option ℕ) (next : ℕ) → s.pc + 4 ≡ next → next < 2 ^ 32 → IsIn map_of code (most_lines functions) next (record behind { cells = cells })) where
    copied : (from : ℕ) (imm : ℕ) → imm ≡ 0 → (v : ℕ) → known from ≡ Some v → (sum_word (value s.registers from) imm ≡ v) × (v < 2 ^ 32)
    copied from imm none v is =
        let holds = running.registers from v is in
        let fits = holds.2 in
        let same : sum_word v 0 ≡ v = omega arith in
        (rw (none, holds.1) same, fits)

    -- a word was stored in a slot that holds no held token
    slot_stored : (k : ℕ) (word : Option ℕ) (v : ℕ) → slot_offset k + 4 ≤ way_offset map_of.frame → is_among k f.held ≡ false → (u : Processor) → SameRoots s u → u.memory ≡ with_number (running.base + slot_offset k) 4 v s.memory
        → HoldsCells pool world.cells (links_of map_of running.base (record behind { cells = put k word f.cells } ∷ fs)) u
    slot_stored k word v inside unheld u roots stored =
        let base = running.base in
        let low = sp_low ground f fs known world s running in
        let under = ground.cells_below in
        let below = links_of map_of (base + map_of.frame) fs in
        subst (λ links. HoldsCells pool world.cells links u) (sym (links_put base k word f.cells f.held below unheld))
        (outside-holds running.cells roots (subst (λ m. SameInside pool s.memory m) (sym stored) (SameInside-store pool s.memory (base + slot_offset k) v (inr (omega arith))))
        (record { same = λ slot some. ap (λ m. number_at m slot 4) stored ∙ word-apart (base + slot_offset k) v s.memory slot (slots_apart map_of base k f fs inside unheld slot some) }))

    -- a register gets what a place holds
    got_stays : (rd : Register) (w : Option ℕ) (word : ℕ) → Gets pool.cells code 1 (rd.number ∷ []) rd.number word (s.pc + 4) s → s.pc + 4 < 2 ^ 32 → is_target rd.number ≡ true → ((v : ℕ) → w ≡ Some v → (word ≡ v) × (v < 2 ^ 32))
        → Comes map_of pool functions depth stop code parts 1 old (placed_goes behind fs (put rd.number w known) world) s
    got_stays rd w word gets fits target new =
        stays ground f fs known world s running 1 old gets.after rest (put rd.number w known) gets.done ((λ e. target_apart rd.number 2 refl target (sym e)), tt) (or_from (is_fixed rd.number) false (target_fixed rd.number target) refl)
        (λ bare. gets.done.kept 1 ((λ e. target_apart rd.number 1 refl target (sym e)), tt)) (is_in f.cells (s.pc + 4) refl fits)
        (agrees_got s known w gets target new running.registers) (omega arith) (omega arith)

    pub follow_move : (way : Way) → (has_slot way ≡ true → takes_frame map_of.jumps f.whole ≡ true) → MovesBy map_of code s.pc way → IsTarget (to_of way) → is_held f.held (to_of way) ≡ false
        → Comes map_of pool functions depth stop code parts 1 old (placed_writes (to_of way) (read_at known f.cells (from_of way)) behind fs known world) s
    follow_move (Copy from to) takes (imm, none, here) handed unheld =
        got_stays to (known from.number) (sum_word (value s.registers from.number) imm.word) (plain_gets pool.cells ground.below running.rests.stands refl (addi_row to from imm) here) (ground.below s.pc (Instr.Addi to from imm) here) handed
        (copied from.number imm.word none)
    follow_move (Load from to) takes (offset, offset_is, here) handed unheld =
        let address = slot_address (takes refl) from offset.word offset_is.0 offset_is.1 in
        let word = slot_word running.base from (sp_word ground f fs known world s running) in
        let gets = load_gets pool.cells ground.below running.rests.stands refl {rd = to} {base = sp} {offset = offset} {address = running.base + slot_offset from} {word = number_at s.memory (running.base + slot_offset from) 4}
        here address word (slot_loads from offset_is.1) refl (slot_misses from) in
        got_stays to (f.cells from) (number_at s.memory (running.base + slot_offset from) 4) gets (ground.below s.pc (Instr.Lw to sp offset) here) handed
        (λ v is. let holds = running.frames.1 from v is in (holds.1, holds.2))
    follow_move (Store from to) takes (offset, offset_is, here) handed unheld =
        let address = slot_address (takes refl) to offset.word offset_is.0 offset_is.1 in
        let word = slot_word running.base to (sp_word ground f fs known world s running) in
        let allowed = slot_stores to offset_is.1 in
        let base = running.base in
        let goes = store_goes pool.cells ground.below running.rests.stands refl {base = sp} {from = from} {offset = offset} {address = running.base + slot_offset to} {word = value s.registers from.number}
        here address refl word (rw running.rests.parts_are allowed) (slot_misses to) in
        let after : PlacedState World = record { frames = record behind { cells = put to (known from.number) f.cells } ∷ fs; registers = known; shared = world } in
        comes_go map_of pool functions depth stop code parts 1 old after s goes.after 1 (walks_done goes.done)
        (runs_on map_of pool functions depth stop code parts (record { frames = f ∷ fs; registers = known; shared = world }) world.cells s goes.after after.frames known base running goes.done tt tt
        (constants_kept ground f fs known world s running (base + slot_offset to) (value s.registers from.number) allowed) running.room (goes.done.kept 2 tt ∙ running.base_is)
        (runs_as map_of code (most_lines functions) stop (stack_end map_of depth) goes.after.registers (with_number (base + slot_offset to) 4 (value s.registers from.number) s.memory) (s.pc + 4) base after.frames
        (frames_put map_of code (most_lines functions) stop (stack_end map_of depth) ground.some_frame s.memory base to (value s.registers from.number) s.pc (s.pc + 4) (known from.number) f (record behind { cells = put to (known from.number) f.cells }) fs
        offset_is.1 (λ w is. let holds = running.registers from.number w is in (holds.1, holds.2)) refl refl refl
        (is_in (put to (known from.number) f.cells) (s.pc + 4) refl (ground.below s.pc (Instr.Sw sp from offset) here))
        (waits_as map_of code (most_lines functions) stop (stack_end map_of depth) s.registers s.memory s.pc base f fs (takes refl) running.frames)))
        (agrees_kept known s.registers goes.after.registers running.registers (λ x handed. goes.done.kept x tt))
        (slot_stored to (known from.number) (value s.registers from.number) offset_is.1 unheld goes.after (roots_done goes.done refl) goes.done.memory_is)) (omega arith) (omega arith)

  -- ---- operations

  module _ (old : ℕ) (operation : Operation) (is_in : (next : ℕ) → s.pc + 4 * words_of_operation operation ≡ next → next < 2 ^ 32 → IsIn map_of code (most_lines functions) next behind) where
    pub gives_word : (into : Option Operand) (word : ℕ) → gives_into (Compute operation) into ≡ true → GivesTarget into
        → ((rd : Register) → register_into into ≡ Some rd → Computed pool.cells ground.below running.rests.stands map_of.constants s.pc refl rd operation word)
        → Comes map_of pool functions depth stop code parts (operation_instructions operation) old (placed_gives into word behind fs known world) s
    gives_word None word gives handed computed =
        let result = computed zero_register refl in
        let size = operation_weighs operation in
        stays ground f fs known world s running (operation_instructions operation) old result.gets.after rest known result.gets.done ((λ e. cc), tt) refl (λ bare. result.gets.done.kept 1 ((λ e. cc), tt)) (is_in (s.pc + 4 * words_of_operation operation) refl result.next_fits)
        (agrees_kept known s.registers result.gets.after.registers running.registers (λ x handed. value_kept x s.registers result.gets.after.registers (λ apart. result.gets.done.kept x (apart, tt)))) size.0 size.1
    gives_word (Some into) word gives handed computed = at_place into.place refl
      where
        at_place : (place : Place) → into.place ≡ place → Comes map_of pool functions depth stop code parts (operation_instructions operation) old (placed_writes into.place (Some word) behind fs known world) s
        at_place (slot k) is = let one : is_register into.place ≡ true = computes_register operation into.place gives in let none : is_register into.place ≡ false = rw is refl in cc
        at_place (register r) is =
            let result = computed r (rw is refl) in
            let some : is_target r.number ≡ true = subst (λ place. IsTarget place) is handed in
            let size = operation_weighs operation in
            rw is (stays ground f fs known world s running (operation_instructions operation) old result.gets.after rest (put r.number (Some word) known) result.gets.done ((λ e. target_apart r.number 2 refl some (sym e)), tt) (or_from (is_fixed r.number) false (target_fixed r.number some) refl)
            (λ bare. result.gets.done.kept 1 ((λ e. target_apart r.number 1 refl some (sym e)), tt))
            (is_in (s.pc + 4 * words_of_operation operation) refl result.next_fits)
            (agrees_got s known (Some word) result.gets some (λ v same. let e : word ≡ v = cc in (e, subst (λ w. w < 2 ^ 32) e result.fits)) running.registers) size.0 size.1)

    -- an operation on words alone
    pub follow_words : (forms : Forms) (start : ℕ) (args : List Operand) (into : Option Operand) (words : List ℕ) (turn : PlacedTurn World Ending) → ActsAt map_of forms code start f.whole s.pc (Compute operation) args into
        → ((ws : List ℕ) → computed_in map_of.constants operation ws world ≡ option_map (λ word. (word, world)) (computed map_of.constants operation ws))
        → conforms (Compute operation) args into ≡ true → GivesTarget into → all_of (map (λ (arg : Operand). read_at known f.cells arg.place) args) ≡ Some words
        → or_stuck (computed_in map_of.constants operation words world) (λ r. placed_gives into r.0 behind fs known r.1) ≡ turn
        → turn ≢ stuck
        → Comes map_of pool functions depth stop code parts (operation_instructions operation) old turn s
    follow_words forms start args into words turn here alone conform handed words_are is good =
        let fit = and_parts (take_from (Compute operation) 0 args) (gives_into (Compute operation) into) conform in
        let values = in_registers known f.cells s.registers running.registers (Compute operation) 0 args words (λ k place is_one. is_one) fit.0 words_are in
        let result = or_stuck_some (computed_in map_of.constants operation words world) (λ r. placed_gives into r.0 behind fs known r.1) turn is good in
        let word = mapped (λ (word : ℕ). (word, world)) (computed map_of.constants operation words) result.0 (sym (alone words) ∙ result.1) in
        let gives : placed_gives into word.0 behind fs known world ≡ turn = subst (λ (r : ℕ × World). placed_gives into r.0 behind fs known r.1 ≡ turn) (sym word.2) result.2 in
        let word_is : computed map_of.constants operation (words_in s.registers values.rs) ≡ Some word.0 = ap (computed map_of.constants operation) (sym values.words_are) ∙ word.1 in
        subst (λ t. Comes map_of pool functions depth stop code parts (operation_instructions operation) old t s) gives
        (gives_word into word.0 fit.1 handed (λ rd into_is. computes pool.cells ground.below running.rests.stands map_of.constants s.pc refl rd operation values.rs word.0 values.fit word_is (here values.rs rd values.rs_are into_is)))
