-- Actions, lines and functions as instructions.
use Rattle.std.proofs.Common.{◌≡◌, ℕ, ◌+◌, ◌*◌, ◌^◌, ◌<◌, ◌≤◌, max, List, [], ◌∷◌, Option, Some, Bool, true, false, cond, refl, sym, ap, ◌∙◌, subst, arith}
use Rattle.std.specs.List.{slice_get}
use Rattle.std.specs.Ordering.{nat_cmp}
use Rattle.std.specs.BTreeMap.{get}
use Rattle.rv_isa.specs.declared.register.Register.{Register}
use Rattle.rv_isa.specs.declared.immediate.Immediate.{Immediate}
use Rattle.rv_isa.specs.declared.instr.Instr.{Instr}
use Rattle.rv_isa.specs.declared.asm.Condition.{Condition}
use Rattle.rv_isa.specs.declared.asm.Condition.TheVariants.{Equal}
use Rattle.rv_isa.specs.declared.asm.Operation.{Operation}
use Rattle.rv_isa.specs.declared.asm.Action.{Action}
use Rattle.rv_isa.specs.declared.asm.Action.TheVariants.{Compute, Jump, Branch, Call, TailCall, Return, Routine, Hold, Unhold, Room}
use Rattle.rv_isa.specs.declared.placed.Operand.{Operand}
use Rattle.rv_isa.specs.declared.placed.Listed.{Listed}
use Rattle.rv_isa.specs.declared.placed.Place.{Place}
use Rattle.rv_isa.specs.declared.placed.Place.TheVariants.{Register as register, Slot as slot}
use Rattle.rv_isa.specs.PlacedMachine.{first_slot, slot_of}
use Rattle.rv_isa.specs.declared.placed.Way.{Way}
use Rattle.rv_isa.specs.declared.placed.Symbol.{Symbol}
use Rattle.rv_isa.specs.declared.placed.Symbol.TheVariants as symbol
use Rattle.rv_isa.specs.declared.routine.Routine as routine
use Rattle.rv_isa.specs.PlacedCode.{PlacedLine, moves, PlacedLines}
use Rattle.rv_isa.specs.Standing.{Code}
use Rattle.rv_isa.proofs.RangeEquality.{same_register}
use Rattle.rv_place.specs.Registers.{s3}
use Rattle.rv_place.specs.Instructions.{words_of_jump, JumpsTo, CallsTo, CallsRoutine, words_of_routine, BranchesOn, HoldsToken, words_to_hold, UnholdsToken, words_of_operation}
use Rattle.rv_isa.specs.FrameSizes.{slots_of_place, slots_of_operands}
use Rattle.rv_place.specs.Addresses.{branch_words, is_at_pointer, slot_offset, way_offset, words_of_shift, words_of_action, words_of_line, words_of_lines, forms_of, takes_frame, words_to_frame, test_words, entry_words, skipped_words, entries_from, words_of_function, words_of_functions}
use Rattle.rv_place.specs.Lines.{Map, IsFromPointer, IsOffsetOf, token_into, OnToken, IsSymbolAt, frame_register, TestsRoom, BeginsAt, LinesAt, FunctionsAt, BranchesTo}
use Rattle.rv_place.specs.declared.reach.Forms.{Forms}
use Rattle.rv_place.specs.declared.reach.Reach.{Reach}
use Rattle.rv_place.specs.declared.reach.Reach.TheVariants.{Near, Far}
use Rattle.rv_place.specs.declared.chart.Chart.{Chart}
use Rattle.rv_place.specs.declared.labels.Labels.{Labels}
use Rattle.rv_place.specs.Emitted.{Grew, TokenBy, Charts, JumpReaches, RoutineReaches, BranchReaches, IsInText, IsInFunction, AreSymbols, IsAddressOf, register_or_zero, ReturnBy, HasLabels, OperationBy, ActionBy, LineBy, LinesBy, MoveBy, TestBy, EntryBy, FunctionBy, FunctionsBy}
use Rattle.rv_place.proofs.Emissions.{grew_so, grew_then}
use Rattle.rv_place.proofs.NearJumps.{short_function, jump_reaches, text_reaches, routine_reaches, label_reaches, branch_reaches, function_front, function_back, text_front, text_back}
use Rattle.rv_place.proofs.JumpInstructions.{BranchGrew}
use Rattle.rv_place.proofs.Operands.{register_in, operand_register, register_of_into}

-- a branch on the registers of its arguments, one or two
branches_to : (forms : Forms) (code : Code) (at : ℕ) (condition : Condition) (registers : List Register) (target : ℕ)
    → BranchesOn forms.jumps forms.branches code at condition (register_in registers 0) (register_in registers 1) target → BranchesTo forms code at condition registers target
branches_to forms code at condition [] target branches = tt
branches_to forms code at condition (a ∷ []) target branches = branches
branches_to forms code at condition (a ∷ b ∷ []) target branches = branches
branches_to forms code at condition (a ∷ b ∷ more ∷ rest) target branches = tt

-- a tail call leaves out no more than the entry
skipped_most : (jumps : Reach) (own callee : Bool) → skipped_words jumps own callee ≤ entry_words jumps
skipped_most jumps true true = omega arith
skipped_most jumps true false = omega arith
skipped_most jumps false true = omega arith
skipped_most jumps false false = omega arith

-- the slot of a token is within a frame
token_slot : (args : List Operand) (k : ℕ) → first_slot args ≡ Some k → k + 1 ≤ slots_of_operands args
token_slot [] k is = cc
token_slot (arg ∷ args) k is = by arg.place refl is
  where
    by : (place : Place) → arg.place ≡ place → slot_of place ≡ Some k → k + 1 ≤ max (slots_of_place arg.place) (slots_of_operands args)
    by (register r) at same = cc
    by (slot j) at same = let e : j ≡ k = cc in rw at (omega arith)

-- the slot of a token in a frame of the map
slot_from : {chart : Chart} {map : Map} → Charts chart map → (jumps : Reach) → jumps ≡ map.jumps → (args : List Operand) → 4 * slots_of_operands args + 4 ≤ chart.frame → (k : ℕ) → first_slot args ≡ Some k
    → (offset : Immediate) → IsFromPointer jumps (slot_offset k) offset → IsOffsetOf map k offset
slot_from {chart} {map} charts jumps same args inside k slot_is offset offset_is =
    let room : slot_offset k + 4 ≤ way_offset chart.frame = omega (arith, token_slot args k slot_is, inside) in
    (subst (λ (j : Reach). IsFromPointer j (slot_offset k) offset) same offset_is, subst (λ f. slot_offset k + 4 ≤ way_offset f) charts.frame room)

-- a test whether a frame is left, with a register of the same number
pub test_on : {free other : Register} {map : Map} {code : Code} {at : ℕ} → free.number ≡ other.number → TestsRoom free map code at → TestsRoom other map code at
test_on {free} {other} {map} {code} {at} same tests = subst (λ (r : Register). TestsRoom r map code at) (same_register free other same) tests

module _ (chart : Chart) (labels : Labels) (from : ℕ) (args : List Operand) (into : Option Operand) where
  abbrev jumps : Reach
  jumps = labels.forms.jumps

  -- an action was added
  abbrev Acted : List Instr → List Instr → Action → Type 0
  Acted old new a = Grew (words_of_action labels.forms a args) (ActionBy chart labels from a args into) old new

  -- a jump, and a call, to a word that is an address that it reaches
  jumps_to : (code : Code) (at word target : ℕ) → at ≡ from → (at ≡ from → JumpReaches jumps at word → JumpsTo jumps code at word) → word ≡ target → JumpReaches jumps at target → JumpsTo jumps code at target
  jumps_to code at word target is_at here same reaches = subst (JumpsTo jumps code at) same (here is_at (subst (JumpReaches jumps at) (sym same) reaches))

  calls_to : (code : Code) (at word target : ℕ) → at ≡ from → (at ≡ from → JumpReaches jumps at word → CallsTo jumps code at word) → word ≡ target → JumpReaches jumps at target → CallsTo jumps code at target
  calls_to code at word target is_at here same reaches = subst (CallsTo jumps code at) same (here is_at (subst (JumpReaches jumps at) (sym same) reaches))

  -- what was emitted for the token of a slot stands on every map
  on_token : (Stands : Code → ℕ → Immediate → Type 0) (code : Code) (at : ℕ) {map : Map} → Charts chart map → jumps ≡ map.jumps
      → 4 * slots_of_operands args + 4 ≤ chart.frame → TokenBy Stands jumps args code at → OnToken Stands map code at args
  on_token Stands code at charts same inside here k slot_is =
      let row = here k slot_is in (row.0, slot_from charts jumps same args inside k slot_is row.0 row.1, row.2)

  module _ {old new : List Instr} {action : Action} where
    pub on_operation : {operation : Operation} → action ≡ Compute operation → Grew (words_of_operation operation) (OperationBy chart operation args into) old new → Acted old new action
    on_operation is emitted = subst (Acted old new) (sym is) (grew_so refl (λ code at here is_at map charts start whole has inside. here map charts) emitted)

    pub on_jump : {l word : ℕ} → action ≡ Jump l → ((address : ℕ) → get nat_cmp labels.addresses l ≡ Some address → word ≡ address)
        → Grew (words_of_jump jumps) (λ code at. at ≡ from → JumpReaches jumps at word → JumpsTo jumps code at word) old new → Acted old new action
    on_jump {l} {word} is word_is emitted =
        subst (Acted old new) (sym is)
        (grew_so refl
        (λ code at here is_at map charts start whole has inside target there.
        jumps_to code at word target is_at here (word_is target (has l ∙ there)) (label_reaches charts inside l target there))
        emitted)

    pub on_branch : {condition : Condition} {l word : ℕ} {a b : Register} → action ≡ Branch condition l → ((address : ℕ) → get nat_cmp labels.addresses l ≡ Some address → word ≡ address)
        → a ≡ register_or_zero (slice_get args 0) → b ≡ register_or_zero (slice_get args 1)
        → BranchGrew from jumps labels.forms.branches condition a b word old new → Acted old new action
    on_branch {condition} {l} {word} {a} {b} is word_is a_is b_is emitted =
        subst (Acted old new) (sym is)
        (grew_so refl
        (λ code at here is_at map charts start whole has inside registers target are there.
        let branches : Register → Register → ℕ → Type 0 = λ x y to. BranchesOn jumps labels.forms.branches code at condition x y to in
        let same : word ≡ target = word_is target (has l ∙ there) in
        let reaches = subst (BranchReaches jumps labels.forms.branches at) (sym same) (branch_reaches charts inside l target there) in
        branches_to labels.forms code at condition registers target
        (subst (λ w. branches (register_in registers 0) (register_in registers 1) w) same
        (subst (λ r. branches (register_in registers 0) r word) (b_is ∙ operand_register args registers 1 are)
        (subst (λ r. branches r b word) (a_is ∙ operand_register args registers 0 are) (here is_at reaches)))))
        emitted)

    pub on_call : {f word : ℕ} → action ≡ Call f → ((entry : ℕ) → slice_get chart.entries.items f ≡ Some entry → word ≡ entry)
        → Grew (words_of_jump jumps) (λ code at. at ≡ from → JumpReaches jumps at word → CallsTo jumps code at word) old new → Acted old new action
    on_call {f} {word} is word_is emitted =
        subst (Acted old new) (sym is)
        (grew_so refl
        (λ code at here is_at map charts start whole has inside entry there.
        let place = charts.entries_in f entry there in
        calls_to code at word entry is_at here (word_is entry (subst (λ entries. slice_get entries f ≡ Some entry) (sym charts.entries) there))
        (text_reaches charts inside entry place.word place.low (omega (arith, place.high))))
        emitted)

    pub on_tail_call : {f word : ℕ} → action ≡ TailCall f
        → ((entry : ℕ) (takes : Bool) → slice_get chart.entries.items f ≡ Some entry → slice_get chart.takes.items f ≡ Some takes
        → entry + 4 * skipped_words chart.jumps labels.forms.frame takes < 2 ^ 32 → word ≡ entry + 4 * skipped_words chart.jumps labels.forms.frame takes)
        → Grew (words_of_jump jumps) (λ code at. at ≡ from → JumpReaches jumps at word → JumpsTo jumps code at word) old new → Acted old new action
    on_tail_call {f} {word} is word_is emitted =
        subst (Acted old new) (sym is)
        (grew_so refl
        (λ code at here is_at map charts start whole has inside entry takes there taking.
        let place = charts.entries_in f entry there in
        let frame = labels.forms.frame in
        let few = skipped_most map.jumps frame takes in
        let below : entry + 4 * skipped_words map.jumps frame takes < 2 ^ 32 = omega (arith, place.high, charts.below, few) in
        let same : word ≡ entry + 4 * skipped_words map.jumps frame takes =
        subst (λ (j : Reach). entry + 4 * skipped_words j frame takes < 2 ^ 32 → word ≡ entry + 4 * skipped_words j frame takes) charts.jumps
        (word_is entry takes (subst (λ entries. slice_get entries f ≡ Some entry) (sym charts.entries) there)
        (subst (λ ts. slice_get ts f ≡ Some takes) (sym charts.takes) taking)) below in
        jumps_to code at word (entry + 4 * skipped_words map.jumps frame takes) is_at here same
        (text_reaches charts inside (entry + 4 * skipped_words map.jumps frame takes) (omega (arith, place.word)) (omega (arith, place.low)) (omega (arith, place.high, few))))
        emitted)

    pub on_return : action ≡ Return → labels.forms.jumps ≡ chart.jumps → Grew (cond labels.forms.frame (2 + words_of_shift chart.jumps) 1) (ReturnBy chart labels.forms.frame) old new → Acted old new action
    on_return is same emitted =
        subst (Acted old new) (sym is)
        (grew_so (ap (λ (j : Reach). cond labels.forms.frame (2 + words_of_shift j) 1) (sym same)) (λ code at here is_at map charts start whole has inside. here map charts) emitted)

    pub on_routine : {of : routine.Routine} {word : ℕ} → action ≡ Routine of
        → ((runtime : ℕ) (labels : List (Symbol × ℕ)) → AreSymbols runtime labels chart.symbols → IsAddressOf runtime labels (symbol.Routine of) word)
        → Grew (words_of_routine jumps of) (λ code at. at ≡ from → RoutineReaches jumps of at word → CallsRoutine jumps code at of word) old new → Acted old new action
    on_routine {of} {word} is word_is emitted =
        subst (Acted old new) (sym is)
        (grew_so refl
        (λ code at here is_at map charts start whole has inside target there.
        let high = charts.symbols_in (symbol.Routine of) there.0 there.1 in
        let target_is : target ≡ map.runtime + 4 * there.0 = there.2 in
        let same : word ≡ target = word_is map.runtime map.labels charts.symbols there.0 there.1 ∙ sym target_is in
        subst (CallsRoutine jumps code at of) same
        (here is_at (subst (RoutineReaches jumps of at) (sym same)
        (routine_reaches charts inside of (omega arith) target (omega (arith, target_is, charts.first_word)) (omega (arith, target_is)) (omega (arith, target_is, high))))))
        emitted)

    pub on_hold : {token : Register} → action ≡ Hold → token ≡ register_or_zero (slice_get args 1) → 4 * slots_of_operands args + 4 ≤ chart.frame
        → Grew (words_to_hold (is_at_pointer jumps args)) (TokenBy (HoldsToken (is_at_pointer jumps args) token) jumps args) old new
        → Acted old new action
    on_hold {token} is token_is inside emitted =
        subst (Acted old new) (sym is)
        (grew_so refl
        (λ code at here is_at map charts start whole has within goal goes.
        subst (λ r. OnToken (HoldsToken (is_at_pointer jumps args) r) map code at args) (token_is ∙ register_of_into (slice_get args 1) goal goes)
        (on_token (HoldsToken (is_at_pointer jumps args) token) code at charts within.jumps inside here))
        emitted)

    pub on_unhold : {token : Register} → action ≡ Unhold → ((goal : Register) → token_into into ≡ Some goal → token ≡ goal) → 4 * slots_of_operands args + 4 ≤ chart.frame
        → Grew 3 (TokenBy (UnholdsToken token) jumps args) old new → Acted old new action
    on_unhold {token} is token_is inside emitted =
        subst (Acted old new) (sym is)
        (grew_so refl
        (λ code at here is_at map charts start whole has within goal goes.
        subst (λ r. OnToken (UnholdsToken r) map code at args) (token_is goal goes)
        (on_token (UnholdsToken token) code at charts within.jumps inside here))
        emitted)

    pub on_room : {free : Register} → action ≡ Room → labels.forms.jumps ≡ chart.jumps → free.number ≡ 1 → Grew (test_words chart.jumps) (TestBy chart from free) old new
        → Acted old new action
    on_room is same free_is emitted =
        subst (Acted old new) (sym is)
        (grew_so (ap test_words (sym same))
        (λ code at here is_at map charts start whole has inside.
        let within : IsInText map at (test_words labels.forms.jumps)
        = record { word = inside.word; low = omega (arith, inside.low, inside.text.low); high = omega (arith, inside.high, inside.text.high) } in
        test_on free_is (here is_at map charts (subst (λ (j : Reach). IsInText map at (test_words j)) inside.jumps within)))
        emitted)

-- the branch of a test whether a frame is left, to the stop for a full stack
pub test_branch : {chart : Chart} {map : Map} → Charts chart map → (code : Code) (at target from : ℕ) (free : Register) → at ≡ from → IsInText map at (test_words map.jumps)
    → {a b : Register} → a.number ≡ (frame_register chart.jumps free).number → b.number ≡ 19 → IsSymbolAt map symbol.StackFull target
    → (at + 4 * words_to_frame chart.jumps ≡ from + 4 * words_to_frame chart.jumps → JumpReaches chart.jumps (at + 4 * words_to_frame chart.jumps + 4) chart.symbols.stack_full
    → BranchesOn chart.jumps Far code (at + 4 * words_to_frame chart.jumps) Equal a b chart.symbols.stack_full)
    → BranchesOn map.jumps Far code (at + 4 * words_to_frame map.jumps) Equal (frame_register map.jumps free) s3 target
test_branch {chart} {map} charts code at target from free is inside {a} {b} a_is b_is (before, behind, target_is) here =
    let same : chart.symbols.stack_full ≡ target = charts.symbols.stack_full before behind ∙ sym target_is in
    let high = charts.symbols_in symbol.StackFull before behind in
    let test : ℕ = at + 4 * words_to_frame chart.jumps in
    let within : IsInText map at (test_words chart.jumps) = subst (λ (j : Reach). IsInText map at (test_words j)) (sym charts.jumps) inside in
    let reaches : JumpReaches chart.jumps (test + 4) target =
    jump_reaches charts chart.jumps charts.jumps (test + 4) target (omega (arith, within.word)) (omega (arith, target_is, charts.first_word)) (omega (arith, within.low)) (omega (arith, within.high))
    (omega (arith, target_is)) (omega (arith, target_is, high)) in
    let there = here (ap (λ p. p + 4 * words_to_frame chart.jumps) is) (subst (JumpReaches chart.jumps (test + 4)) (sym same) reaches) in
    subst (λ (j : Reach). BranchesOn j Far code (at + 4 * words_to_frame j) Equal (frame_register j free) s3 target) charts.jumps
    (subst (λ (w : ℕ). BranchesOn chart.jumps Far code test Equal (frame_register chart.jumps free) s3 w) same
    (subst (λ (r : Register). BranchesOn chart.jumps Far code test Equal r s3 chart.symbols.stack_full) (same_register a (frame_register chart.jumps free) a_is)
    (subst (λ (r : Register). BranchesOn chart.jumps Far code test Equal a r chart.symbols.stack_full) (same_register b s3 b_is) there)))

-- the jump of an entry that takes no frame, to the same stop
pub entry_jump : {chart : Chart} {map : Map} → Charts chart map → (code : Code) (at target from : ℕ) → at ≡ from → IsInText map at (entry_words map.jumps)
    → IsSymbolAt map symbol.StackFull target
    → (at + 4 ≡ from + 4 → JumpReaches chart.jumps (at + 4) chart.symbols.stack_full → JumpsTo chart.jumps code (at + 4) chart.symbols.stack_full)
    → JumpsTo map.jumps code (at + 4) target
entry_jump {chart} {map} charts code at target from is inside (before, behind, target_is) here =
    let same : chart.symbols.stack_full ≡ target = charts.symbols.stack_full before behind ∙ sym target_is in
    let high = charts.symbols_in symbol.StackFull before behind in
    let reaches : JumpReaches chart.jumps (at + 4) target =
    jump_reaches charts chart.jumps charts.jumps (at + 4) target (omega (arith, inside.word)) (omega (arith, target_is, charts.first_word)) (omega (arith, inside.low)) (omega (arith, inside.high))
    (omega (arith, target_is)) (omega (arith, target_is, high)) in
    subst (λ (j : Reach). JumpsTo j code (at + 4) target) charts.jumps
    (subst (λ (w : ℕ). JumpsTo chart.jumps code (at + 4) w) same (here (ap (λ p. p + 4) is) (subst (JumpReaches chart.jumps (at + 4)) (sym same) reaches)))

-- ---- lines and functions, one behind the other

module _ (chart : Chart) {old new : List Instr} where
  pub on_move : (labels : Labels) (from : ℕ) {line : PlacedLine} {alive : List Listed} {value : ℕ} {way : Way} → line ≡ moves alive value way
      → Grew 1 (MoveBy chart way) old new → Grew (words_of_line labels.forms line) (LineBy chart labels from line) old new
  on_move labels from is emitted =
      subst (λ l. Grew (words_of_line labels.forms l) (LineBy chart labels from l) old new) (sym is) (grew_so refl (λ code at here is_at map charts start whole has inside. here map charts) emitted)

-- the lines of a function behind its entry
lines_behind : (map : Map) (code : Code) (entry : ℕ) (lines : List PlacedLine) (forms : Forms) (jumps : Reach) → jumps ≡ map.jumps → forms ≡ forms_of jumps lines
    → LinesAt map forms code (entry + 4 * entry_words jumps) lines (entry + 4 * entry_words jumps) lines
    → LinesAt map (forms_of map.jumps lines) code (entry + 4 * entry_words map.jumps) lines (entry + 4 * entry_words map.jumps) lines
lines_behind map code entry lines forms jumps same forms_is stand =
    subst (λ (j : Reach). LinesAt map (forms_of j lines) code (entry + 4 * entry_words j) lines (entry + 4 * entry_words j) lines) same
    (subst (λ (f : Forms). LinesAt map f code (entry + 4 * entry_words jumps) lines (entry + 4 * entry_words jumps) lines) forms_is stand)

-- all lines of a function are in it
whole_function : {map : Map} (entry : ℕ) (lines : List PlacedLine) (forms : Forms) (jumps : Reach) → jumps ≡ map.jumps → forms ≡ forms_of jumps lines
    → IsInText map entry (entry_words jumps + words_of_lines forms lines)
    → IsInFunction map forms (entry + 4 * entry_words jumps) lines (entry + 4 * entry_words jumps) (words_of_lines forms lines)
whole_function entry lines forms jumps same forms_is inside =
    let behind = text_back (entry_words jumps) (words_of_lines forms lines) inside in record {
      jumps = ap (λ (f : Forms). f.jumps) forms_is ∙ same;
      text = behind;
      short = subst (λ (f : Forms). f.branches ≡ Near → words_of_lines f lines < branch_words) (sym forms_is) (short_function jumps lines);
      word = behind.word;
      low = omega arith;
      high = omega arith;
    }

module _ (chart : Chart) {old between new : List Instr} where
  pub line_then : (labels : Labels) (from words : ℕ) (line : PlacedLine) (rest : List PlacedLine) → words ≡ words_of_line labels.forms line
      → Grew (words_of_line labels.forms line) (LineBy chart labels from line) old between → Grew (words_of_lines labels.forms rest) (LinesBy chart labels (from + 4 * words) rest) between new
      → Grew (words_of_lines labels.forms (line ∷ rest)) (LinesBy chart labels from (line ∷ rest)) old new
  line_then labels from words line rest same first behind =
      grew_so refl
      (λ code at both is_at map charts start whole has inside. (
        both.0 is_at map charts start whole has (function_front (words_of_line labels.forms line) (words_of_lines labels.forms rest) inside),
        both.1 (ap (λ a. a + 4 * words_of_line labels.forms line) is_at) map charts start whole has (function_back (words_of_line labels.forms line) (words_of_lines labels.forms rest) inside),
      ))
      (grew_then first (subst (λ w. Grew (words_of_lines labels.forms rest) (LinesBy chart labels (from + 4 * w) rest) between new) same behind))

  pub entry_then : (labels : Labels) (entry : ℕ) (function : PlacedLines) (lines : List PlacedLine) → lines ≡ function.code → labels.forms ≡ forms_of chart.jumps function.code
      → HasLabels labels (entry + 4 * entry_words chart.jumps) function.code
      → (frame : Bool) → frame ≡ takes_frame chart.jumps function.code → Grew (entry_words chart.jumps) (EntryBy chart entry frame) old between → Grew (words_of_lines labels.forms lines) (LinesBy chart labels (entry + 4 * entry_words chart.jumps) lines) between new
      → Grew (words_of_function chart.jumps function) (FunctionBy chart entry function) old new
  entry_then labels entry function lines same forms_is has frame frame_is first behind =
      let size : words_of_lines labels.forms function.code ≡ words_of_lines (forms_of chart.jumps function.code) function.code = ap (λ (f : Forms). words_of_lines f function.code) forms_is in
      let start : ℕ = entry + 4 * entry_words chart.jumps in
      grew_so (ap (λ n. entry_words chart.jumps + n) size)
      (λ code at both is map charts inside.
      let sized : IsInText map entry (entry_words chart.jumps + words_of_lines labels.forms function.code) =
      subst (λ (n : ℕ). IsInText map entry (entry_words chart.jumps + n)) (sym size) (subst (λ (j : Reach). IsInText map entry (words_of_function j function)) (sym charts.jumps) inside) in
      let text : IsInText map entry (entry_words chart.jumps) = text_front (entry_words chart.jumps) (words_of_lines labels.forms function.code) sized in
      let there : LinesAt map labels.forms code start function.code (at + 4 * entry_words chart.jumps) function.code =
      both.1 (ap (λ a. a + 4 * entry_words chart.jumps) is) map charts start function.code has
      (subst (λ (a : ℕ). IsInFunction map labels.forms start function.code (a + 4 * entry_words chart.jumps) (words_of_lines labels.forms function.code)) (sym is)
      (whole_function entry function.code labels.forms chart.jumps charts.jumps forms_is sized)) in
      record {
        entry = subst (λ (j : Reach). BeginsAt (takes_frame j function.code) map code entry) charts.jumps (subst (λ b. BeginsAt b map code entry) frame_is
            (subst (BeginsAt frame map code) is (both.0 is map charts (subst (λ (j : Reach). IsInText map at (entry_words j)) charts.jumps (subst (λ (a : ℕ). IsInText map a (entry_words chart.jumps)) (sym is) text)))));
        lines = lines_behind map code entry function.code labels.forms chart.jumps charts.jumps forms_is
            (subst (λ (a : ℕ). LinesAt map labels.forms code start function.code (a + 4 * entry_words chart.jumps) function.code) is there);
      })
      (grew_then first (subst (λ ls. Grew (words_of_lines labels.forms ls) (LinesBy chart labels start ls) between new) same behind))

  pub function_then : (entry words : ℕ) (function : PlacedLines) (rest : List PlacedLines) → words ≡ words_of_function chart.jumps function
      → Grew (words_of_function chart.jumps function) (FunctionBy chart entry function) old between → Grew (words_of_functions chart.jumps rest) (FunctionsBy chart (entry + 4 * words) rest) between new
      → Grew (words_of_functions chart.jumps (function ∷ rest)) (FunctionsBy chart entry (function ∷ rest)) old new
  function_then entry words function rest same first behind =
      grew_so refl
      (λ code at both is map charts inside.
      let parted : IsInText map entry (words_of_function map.jumps function + words_of_functions map.jumps rest) = inside in
      let next : ℕ = entry + 4 * words_of_function map.jumps function in
      let here : at + 4 * words_of_function chart.jumps function ≡ entry + 4 * words_of_function chart.jumps function = ap (λ a. a + 4 * words_of_function chart.jumps function) is in
      let later : at + 4 * words_of_function chart.jumps function ≡ entry + 4 * words_of_function chart.jumps function → (m : Map) → Charts chart m
      → IsInText m (entry + 4 * words_of_function chart.jumps function) (words_of_functions m.jumps rest)
      → FunctionsAt m code (entries_from m.jumps (entry + 4 * words_of_function chart.jumps function) rest) rest = both.1 in (
        both.0 is map charts (text_front (words_of_function map.jumps function) (words_of_functions map.jumps rest) parted),
        subst (λ (j : Reach). IsInText map (entry + 4 * words_of_function j function) (words_of_functions map.jumps rest) → FunctionsAt map code (entries_from map.jumps (entry + 4 * words_of_function j function) rest) rest)
            charts.jumps (later here map charts) (text_back (words_of_function map.jumps function) (words_of_functions map.jumps rest) parted),
      ))
      (grew_then first (subst (λ w. Grew (words_of_functions chart.jumps rest) (FunctionsBy chart (entry + 4 * w) rest) between new) same behind))
