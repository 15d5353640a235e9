-- Each step of code that leaves only fields that are known keeps what is known true.
use Rattle.std.proofs.Common.{◌≡◌, ℕ, zero, suc, ◌+◌, ◌<◌, ◌==◌, ◌&&◌, Bool, true, false, List, [], ◌∷◌, map, length, Option, Some, None, arith, refl, sym, ap, ◌∙◌}
use Rattle.std.specs.Prelude.{if◌then◌else◌, nat_le, slice_get}
use Rattle.std.specs.Fmt.{signed_decimal}
use Rattle.kk_syntax.specs.declared.program.Form.{Form}
use Rattle.kk_syntax.specs.declared.program.Form.TheVariants.{Number, Unit as Nothing, ReadByte, PrintText, Unary, Binary, Print, Construct, Call}
use Rattle.kk_syntax.specs.Programs.{text_at}
use Rattle.kk_source.specs.State.{Value, integer, unit, constant, place, Cell, Environment, stack_full}
use Rattle.kk_source.specs.Live.{value_of}
use Rattle.kk_source.specs.Matching.{and_then}
use Rattle.kk_source.specs.Actions.{goes, print_step}
use Rattle.kk_source.specs.FormEffects.{integer_of, unary_result, binary_result, argument, piece_of, byte_value}
use Rattle.kk_core.specs.CoreMachine.{bind_fields}
use Rattle.kk_core.specs.Decisions.{chosen}
use Rattle.kk_counted.specs.Heaps.{Held, Heap, count_at, cell_at, fields_held, busy, dup_value, drop_value}
use Rattle.kk_counted.specs.CountedMachine.{Named, cell_named, used_values, other_values, opened_heap, unique_heap}
use Rattle.kk_counted.specs.References.{cells_of}
use Rattle.kk_counted.specs.TokenedCodes.{Tokened, TokenedArms, TokenedFunction}
use Rattle.kk_counted.specs.Tokens.{Link, Slot, spent, null, token, is_token, Tokens, marked, slots_with, blanked, released, gained, opened_tokens, by_slot, freed, moved, held, is_linked, is_of, unlinked, with_chain, hold_link, unheld, Room, has_room, no_room, no_token, first_token, taken, from_link, from_chain, from_tokens, request}
use Rattle.kk_counted.specs.TokenStates.{TokenSetting, TokenJoin, TokenFrame, TokenControl, TokenConfiguration}
use Rattle.kk_counted.specs.TokenMachine.{at_code, bound_to, token_at_end, token_at_stuck, to_heap, to_tokens, in_body, tokened_arm_at, token_case_step, token_give_step, token_tail_step, token_read_step, to_opened, token_open_step, make_step, filled, token_call_step, token_form_step, token_code_step}
use Rattle.kk_counted.specs.TokenRuns.{AllLead}
use Rattle.kk_counted.specs.TokenKeeping.{FillsAt}
use Rattle.kk_counted.specs.KeptFields.{KnownFields, forget_slot, forget_variable, forget_variables, known_opened, LeavesKnown, LeaveKnown}
use Rattle.kk_counted.proofs.CountChanges.{fields_below, counted_within}
use Rattle.kk_counted.proofs.Reachability.{cells_length}
use Rattle.kk_counted.proofs.HeapChanges.{Eased, EasedTo, eased_dup, eased_drop, eased_opening, eased_unique}
use Rattle.kk_counted.proofs.SlotMarks.{Which, this, other, which, slot_at, slot_there, slot_here, no_token as is_none}
use Rattle.kk_counted.proofs.SoundSteps.{NamedCell, OnNamed, named_cell}
use Rattle.kk_counted.proofs.FieldKnowledge.{AreTrue, carried, bound_true, fields_true, forgotten, opened_true, known_fills}

-- ---- states

-- behind the blocks nothing is known
abbrev pub AreJoinsKnown : List TokenJoin → Type 0
AreJoinsKnown [] = Unit {0}
AreJoinsKnown (join ∷ joins) = LeavesKnown [] join.rest × AreJoinsKnown joins

-- a function that waits for a call: what is known of its slots is true, and its rest leaves nothing else
pub record IsFrameKnown (slots : ℕ → Slot) (heap : Heap) (frame : TokenFrame) : Type 0 where
  pub known : List KnownFields
  pub are : AreTrue slots heap frame.environment known
  pub leaves : LeavesKnown (forget_variable frame.variable known) frame.rest
  pub waits : AreJoinsKnown frame.joins

abbrev pub AreFramesKnown : (ℕ → ℕ → Slot) → Heap → List TokenFrame → Type 0
AreFramesKnown slots heap [] = Unit {0}
AreFramesKnown slots heap (frame ∷ frames) =
    IsFrameKnown (slots (length frames)) heap frame × AreFramesKnown slots heap frames

-- the same of the function that runs
pub record IsKnown (code : Tokened) (environment : Environment) (joins : List TokenJoin) (frames : List TokenFrame) (heap : Heap)
    (tokens : Tokens) : Type 0 where
  pub known : List KnownFields
  pub are : AreTrue (tokens.slots (length frames)) heap environment known
  pub leaves : LeavesKnown known code
  pub waits : AreJoinsKnown joins
  pub below : AreFramesKnown tokens.slots heap frames

abbrev pub IsKnownAt : TokenConfiguration → TokenControl → Type 0
IsKnownAt c (TokenControl.running code environment joins) = IsKnown code environment joins c.frames c.heap c.tokens
IsKnownAt c _ = Unit {0}

abbrev pub IsKnownIn : TokenConfiguration → Type 0
IsKnownIn c = IsKnownAt c c.control

-- the cells of tokens are there
abbrev pub AreThere : Heap → Tokens → Type 0
AreThere heap tokens = (f y p : ℕ) → tokens.slots f y ≡ token p → p < length heap

-- ---- heaps

-- the cells that are there keep their fields
abbrev KeepFields : Heap → Heap → Type 0
KeepFields heap after = (p : ℕ) → p < length heap → fields_held after p ≡ fields_held heap p

abbrev fields_in_cells : List Cell → ℕ → List Value
fields_in_cells [] p = []
fields_in_cells (cell ∷ cells) p = if length cells == p then cell.fields else fields_in_cells cells p

by_cells : (heap : Heap) (p : ℕ) → fields_held heap p ≡ fields_in_cells (cells_of heap) p
by_cells [] p = refl
by_cells (held ∷ heap) p = by_test (length heap == p) refl (by_cells heap p)
  where
    by_test : (t : Bool) → (length heap == p) ≡ t → fields_held heap p ≡ fields_in_cells (cells_of heap) p
        → fields_held (held ∷ heap) p ≡ fields_in_cells (held.cell ∷ cells_of heap) p
    by_test true is rest = rw (sym (cells_length heap)) (rw is refl)
    by_test false is rest = rw (sym (cells_length heap)) (rw is rest)

eased_fields : (heap after : Heap) → Eased heap after → KeepFields heap after
eased_fields heap after eased p less =
    by_cells after p ∙ (ap (λ cells. fields_in_cells cells p) eased.cells ∙ sym (by_cells heap p))

grown_fields : (held : Held) (heap : Heap) → KeepFields heap (held ∷ heap)
grown_fields held heap p less = fields_below held heap p (apart less)
  where
    apart : p < length heap → (length heap == p) ≡ false
    apart less = grind arith

-- ---- slots

-- below a frame what has a token had it before
abbrev FewerBelow : ℕ → (ℕ → ℕ → Slot) → (ℕ → ℕ → Slot) → Type 0
FewerBelow n slots others = (g z p : ℕ) → g < n → others g z ≡ token p → slots g z ≡ token p

-- one slot changes
one_slot : (f y : ℕ) (slot : Slot) (slots : ℕ → ℕ → Slot) (z p : ℕ) → (z == y) ≡ false → slots_with f y slot slots f z ≡ token p
    → slots f z ≡ token p
one_slot f y slot slots z p apart is = sym (slot_there f y f z slot slots (rw apart (second (f == f)))) ∙ is
  where
    second : (t : Bool) → (t && false) ≡ false
    second true = refl
    second false = refl

one_below : (f y : ℕ) (slot : Slot) (slots : ℕ → ℕ → Slot) → FewerBelow f slots (slots_with f y slot slots)
one_below f y slot slots g z p less is = sym (slot_there f y g z slot slots (rw (apart g less) refl)) ∙ is
  where
    apart : (g : ℕ) → g < f → (g == f) ≡ false
    apart g less = grind arith

-- no slot gets a token
abbrev Fewer : (ℕ → ℕ → Slot) → (ℕ → ℕ → Slot) → Type 0
Fewer slots others = (g z p : ℕ) → others g z ≡ token p → slots g z ≡ token p

blank_fewer : (f y : ℕ) (slot : Slot) (slots : ℕ → ℕ → Slot) → is_token slot ≡ false → Fewer slots (slots_with f y slot slots)
blank_fewer f y slot slots empty g z p is = by (which f y g z)
  where
    by : Which f y g z → slots g z ≡ token p
    by (this first second) = absurd (is_none slot p empty (sym (slot_at f y g z slot slots first second) ∙ is))
    by (other apart) = sym (slot_there f y g z slot slots apart) ∙ is

-- what a request leaves
abbrev OnRoom : (Tokens → Type 0) → Room → Type 0
OnRoom P (has_room left) = P left
OnRoom P _ = Unit {0}

on_room : (P Q : Tokens → Type 0) (room : Room) → ((left : Tokens) → P left → Q left) → OnRoom P room → OnRoom Q room
on_room P Q (has_room left) each is = each left is
on_room P Q no_room each is = tt
on_room P Q no_token each is = tt

module _ (tokens : Tokens) where
  abbrev IsLess : Tokens → Type 0
  IsLess left = Fewer tokens.slots left.slots

  taken_less : (f y : ℕ) (slot : Slot) → IsLess (taken f y slot tokens)
  taken_less f y spent = λ g z p is. is
  taken_less f y null = λ g z p is. is
  taken_less f y (token p) = blank_fewer f y null tokens.slots refl

  link_less : (link : Link) (links : List Link) (slot : Slot) → OnRoom IsLess (from_link link links slot tokens)
  link_less link links spent = tt
  link_less link links null = tt
  link_less link links (token p) = blank_fewer link.frame link.slot null tokens.slots refl

  chain_less : (links : List Link) → OnRoom IsLess (from_chain links tokens)
  chain_less [] = tt
  chain_less (link ∷ links) = link_less link links (tokens.slots link.frame link.slot)

  own_less : (found : Option ℕ) (f : ℕ) → OnRoom IsLess (from_tokens found f tokens)
  own_less (Some y) f = taken_less f y (tokens.slots f y)
  own_less None f = chain_less tokens.chain

  request_less : (t : Bool) (found : Option ℕ) (f : ℕ)
      → OnRoom IsLess (if t then from_tokens found f tokens else has_room tokens)
  request_less true found f = own_less found f
  request_less false found f = λ g z p is. is

-- what is made of tokens, if anything
abbrev OnTokens : (Tokens → Type 0) → Option Tokens → Type 0
OnTokens P None = Unit {0}
OnTokens P (Some after) = P after

-- ---- frames

frames_carried : (slots others : ℕ → ℕ → Slot) (heap after : Heap) (frames : List TokenFrame)
    → ((g z p : ℕ) → g < length frames → others g z ≡ token p → (slots g z ≡ token p) × (fields_held after p ≡ fields_held heap p))
    → AreFramesKnown slots heap frames → AreFramesKnown others after frames
frames_carried slots others heap after [] each are = tt
frames_carried slots others heap after (frame ∷ frames) each are = (
  record {
    known = are.0.known;
    are =
        carried (slots (length frames)) (others (length frames)) heap after frame.environment are.0.known
        (λ z p is. each (length frames) z p (omega arith) is) are.0.are;
    leaves = are.0.leaves;
    waits = are.0.waits;
  },
  frames_carried slots others heap after frames (λ g z p less is. each g z p (omega (arith, less)) is) are.1,
)

module _ (heap after : Heap) (tokens : Tokens) (there : AreThere heap tokens) (keeps : KeepFields heap after) where
  -- the older frames, where no slot of theirs gets a token
  below_carried : (others : ℕ → ℕ → Slot) (frames : List TokenFrame) → FewerBelow (length frames) tokens.slots others
      → AreFramesKnown tokens.slots heap frames → AreFramesKnown others after frames
  below_carried others frames fewer are =
      frames_carried tokens.slots others heap after frames
      (λ g z p less is. (fewer g z p less is, keeps p (there g z p (fewer g z p less is)))) are

  fewer_carried : (others : ℕ → ℕ → Slot) (f : ℕ) (environment : Environment) (known : List KnownFields)
      → Fewer tokens.slots others
      → AreTrue (tokens.slots f) heap environment known → AreTrue (others f) after environment known
  fewer_carried others f environment known fewer are =
      carried (tokens.slots f) (others f) heap after environment known
      (λ z p is. (fewer f z p is, keeps p (there f z p (fewer f z p is)))) are

  slot_carried : (f y : ℕ) (slot : Slot) (environment : Environment) (known : List KnownFields)
      → AreTrue (tokens.slots f) heap environment known
      → AreTrue (slots_with f y slot tokens.slots f) after environment (forget_slot y known)
  slot_carried f y slot environment known are =
      forgotten (tokens.slots f) (slots_with f y slot tokens.slots f) heap after environment y known
      (λ z p apart is.
      (one_slot f y slot tokens.slots z p apart is, keeps p (there f z p (one_slot f y slot tokens.slots z p apart is)))) are

-- ---- steps

module _ (setting : TokenSetting)
    (program_leaves : (f : ℕ) (function : TokenedFunction) → slice_get setting.program.functions f ≡ Some function
    → LeavesKnown [] function.body) where
  -- a function's body is entered, where nothing is known
  body_known : (f : ℕ) (function : TokenedFunction) (values : List Value) (from : TokenConfiguration)
      → slice_get setting.program.functions f ≡ Some function
      → AreFramesKnown from.tokens.slots from.heap from.frames → IsKnownIn (in_body function values from)
  body_known f function values from is below =
      record { known = []; are = tt; leaves = program_leaves f function is; waits = tt; below = below }

  tail_known : (f : ℕ) (found : Option TokenedFunction) (values : List Value) (from : TokenConfiguration)
      → slice_get setting.program.functions f ≡ found
      → AreFramesKnown from.tokens.slots from.heap from.frames → AllLead IsKnownIn (token_tail_step found values from)
  tail_known f None values from is below = tt
  tail_known f (Some function) values from is below = body_known f function values from is below

  give_known : (v : Value) (joins : List TokenJoin) (frames : List TokenFrame) (environment : Environment)
      (from : TokenConfiguration) → AreJoinsKnown joins → AreFramesKnown from.tokens.slots from.heap from.frames
      → AreFramesKnown from.tokens.slots from.heap frames → AllLead IsKnownIn (token_give_step v joins frames environment from)
  give_known v (join ∷ joins) frames environment from waits below these =
      record { known = []; are = tt; leaves = waits.0; waits = waits.1; below = below }
  give_known v [] (frame ∷ older) environment from waits below these =
      record {
        known = forget_variable frame.variable these.0.known;
        are =
            bound_true (from.tokens.slots (length older)) from.heap frame.environment frame.variable v these.0.known these.0.are;
        leaves = these.0.leaves;
        waits = these.0.waits;
        below = these.1;
      }
  give_known v [] [] environment from waits below these = tt

  module _ (environment : Environment) (joins : List TokenJoin) (from : TokenConfiguration) (known : List KnownFields)
      (are : AreTrue (from.tokens.slots (length from.frames)) from.heap environment known) (waits : AreJoinsKnown joins)
      (below : AreFramesKnown from.tokens.slots from.heap from.frames) (there : AreThere from.heap from.tokens) where
    -- the rest of a code, at which nothing but the control has changed
    at_known : (code : Tokened) → LeavesKnown known code → IsKnownIn (at_code code environment joins from)
    at_known code leaves = record { known = known; are = are; leaves = leaves; waits = waits; below = below }

    bound_known : (x : ℕ) (v : Value) (rest : Tokened) → LeavesKnown (forget_variable x known) rest
        → IsKnownIn (bound_to x v rest environment joins from)
    bound_known x v rest leaves =
        record {
          known = forget_variable x known;
          are = bound_true (from.tokens.slots (length from.frames)) from.heap environment x v known are;
          leaves = leaves;
          waits = waits;
          below = below;
        }

    printed_known : (piece : List ℕ) (to : TokenConfiguration) → IsKnownIn to → AllLead IsKnownIn (print_step piece to)
    printed_known [] to is = is
    printed_known (byte ∷ bytes) to is = is

    row_known : (arms : TokenedArms) (row : ℕ) → LeaveKnown known arms
        → AllLead IsKnownIn (token_case_step (tokened_arm_at arms row) environment joins from)
    row_known TokenedArms.no_arm row leaves = tt
    row_known (TokenedArms.arm body rest) zero leaves = at_known body leaves.0
    row_known (TokenedArms.arm body rest) (suc row) leaves = row_known rest row leaves.1

    case_known : (row : Option ℕ) (arms : TokenedArms) → LeaveKnown known arms
        → AllLead IsKnownIn (token_case_step (and_then row (tokened_arm_at arms)) environment joins from)
    case_known None arms leaves = tt
    case_known (Some row) arms leaves = row_known arms row leaves

    read_known : (found : Option Named) (fields : List ℕ) (rest : Tokened) → LeavesKnown (forget_variables fields known) rest
        → AllLead IsKnownIn (token_read_step found fields rest environment joins from)
    read_known None fields rest leaves = tt
    read_known (Some named) fields rest leaves =
        record {
          known = forget_variables fields known;
          are = fields_true (from.tokens.slots (length from.frames)) from.heap environment fields named.fields known are;
          leaves = leaves;
          waits = waits;
          below = below;
        }

    heap_known : (result : Option Heap) (rest : Tokened) → EasedTo from.heap result → LeavesKnown known rest
        → AllLead IsKnownIn (goes (to_heap result from (at_code rest environment joins from)))
    heap_known None rest eased leaves = tt
    heap_known (Some heap) rest eased leaves =
        record {
          known = known;
          are =
              fewer_carried from.heap heap from.tokens there (eased_fields from.heap heap eased) from.tokens.slots
              (length from.frames) environment known (λ g z p is. is) are;
          leaves = leaves;
          waits = waits;
          below =
              below_carried from.heap heap from.tokens there (eased_fields from.heap heap eased) from.tokens.slots from.frames
              (λ g z p less is. is) below;
        }

    -- ---- tokens

    -- what is known of the running function and of the older ones is true of other tokens
    abbrev IsLeft : List KnownFields → Tokens → Type 0
    IsLeft others after =
        AreTrue (after.slots (length from.frames)) from.heap environment others
        × AreFramesKnown after.slots from.heap from.frames

    tokens_known : (result : Option Tokens) (others : List KnownFields) (rest : Tokened) → LeavesKnown others rest
        → OnTokens (IsLeft others) result
        → AllLead IsKnownIn (goes (to_tokens result from (at_code rest environment joins from)))
    tokens_known None others rest leaves is = tt
    tokens_known (Some after) others rest leaves is =
        record { known = others; are = is.0; leaves = leaves; waits = waits; below = is.1 }

    -- the slot y of the running function has changed
    changed : (y : ℕ) (slot : Slot)
        → AreTrue (slots_with (length from.frames) y slot from.tokens.slots (length from.frames)) from.heap environment
        (forget_slot y known) × AreFramesKnown (slots_with (length from.frames) y slot from.tokens.slots) from.heap from.frames
    changed y slot = (
      slot_carried from.heap from.heap from.tokens there (λ p less. refl) (length from.frames) y slot environment known are,
      below_carried from.heap from.heap from.tokens there (λ p less. refl)
          (slots_with (length from.frames) y slot from.tokens.slots) from.frames
          (one_below (length from.frames) y slot from.tokens.slots) below,
    )

    freed_known : (y : ℕ) (slot : Slot)
        → OnTokens (IsLeft (forget_slot y known))
        (by_slot None (Some (blanked (length from.frames) y spent from.tokens))
        (λ p. Some (released (length from.frames) y p spent from.tokens)) (length from.frames) y slot from.tokens.marks)
    freed_known y spent = tt
    freed_known y null = changed y spent
    freed_known y (token p) = by_test (is_of (length from.frames) y (from.tokens.marks p))
      where
        by_test : (t : Bool)
            → OnTokens (IsLeft (forget_slot y known))
            (if t then Some (released (length from.frames) y p spent from.tokens) else None)
        by_test true = changed y spent
        by_test false = tt

    -- the slots `of` and `to` have changed
    both_changed : (to of : ℕ) (slot : Slot)
        → AreTrue (slots_with (length from.frames) to slot (slots_with (length from.frames) of spent from.tokens.slots)
        (length from.frames)) from.heap environment (forget_slot to (forget_slot of known))
        × AreFramesKnown (slots_with (length from.frames) to slot (slots_with (length from.frames) of spent from.tokens.slots))
        from.heap from.frames
    both_changed to of slot = (
      forgotten (slots_with (length from.frames) of spent from.tokens.slots (length from.frames))
          (slots_with (length from.frames) to slot (slots_with (length from.frames) of spent from.tokens.slots)
          (length from.frames))
          from.heap from.heap environment to (forget_slot of known)
          (λ z p apart is.
          (one_slot (length from.frames) to slot (slots_with (length from.frames) of spent from.tokens.slots) z p apart is, refl))
          (changed of spent).0,
      frames_carried (slots_with (length from.frames) of spent from.tokens.slots)
          (slots_with (length from.frames) to slot (slots_with (length from.frames) of spent from.tokens.slots))
          from.heap from.heap from.frames
          (λ g z p less is.
          (one_below (length from.frames) to slot (slots_with (length from.frames) of spent from.tokens.slots) g z p less is, refl))
          (changed of spent).1,
    )

    moved_known : (to of : ℕ) (slot : Slot)
        → OnTokens (IsLeft (forget_slot to (forget_slot of known)))
        (by_slot None (Some (blanked (length from.frames) to null (blanked (length from.frames) of spent from.tokens)))
        (λ p. Some (gained (length from.frames) to p (released (length from.frames) of p spent from.tokens)))
        (length from.frames) of slot from.tokens.marks)
    moved_known to of spent = tt
    moved_known to of null = both_changed to of null
    moved_known to of (token p) = by_test (is_of (length from.frames) of (from.tokens.marks p))
      where
        by_test : (t : Bool)
            → OnTokens (IsLeft (forget_slot to (forget_slot of known)))
            (if t then Some (gained (length from.frames) to p (released (length from.frames) of p spent from.tokens)) else None)
        by_test true = both_changed to of (token p)
        by_test false = tt

    -- another chain changes no slot
    abbrev IsSame : Option Tokens → Type 0
    IsSame result = OnTokens (IsLeft known) result

    hold_same : (y : ℕ) → IsSame (hold_link (length from.frames) y from.tokens)
    hold_same y = by_test (is_linked (length from.frames) y from.tokens.chain)
      where
        by_test : (t : Bool)
            → IsSame (if t then None else Some (record from.tokens
            { chain = record { frame = length from.frames; slot = y } ∷ from.tokens.chain }))
        by_test true = tt
        by_test false = (are, below)

    chain_same : (links : Option (List Link)) → IsSame (with_chain from.tokens links)
    chain_same None = tt
    chain_same (Some links) = (are, below)

    slot_same : (y : ℕ) (slot : Slot) (result : Option Tokens) → IsSame result
        → IsSame (by_slot None (Some from.tokens) (λ p. result) (length from.frames) y slot from.tokens.marks)
    slot_same y spent result is = tt
    slot_same y null result is = (are, below)
    slot_same y (token p) result is = by_test (is_of (length from.frames) y (from.tokens.marks p))
      where
        by_test : (t : Bool) → IsSame (if t then result else None)
        by_test true = is
        by_test false = tt

    -- ---- openings

    -- behind an opening the slot has no token, or that of the cell that was opened
    slot_opened : (y : ℕ) (slot : Slot) (heap : Heap) (named : Named) (fields : List ℕ) (rest : Tokened)
        → KeepFields from.heap heap → length named.fields ≡ length fields
        → ((p : ℕ) → slot ≡ token p → fields_held heap p ≡ named.fields)
        → LeavesKnown (known_opened fields y known) rest
        → (tokens : Tokens) → tokens.slots ≡ slots_with (length from.frames) y slot from.tokens.slots
        → IsKnown rest (bind_fields fields named.fields environment) joins from.frames heap tokens
    slot_opened y slot heap named fields rest keeps many new leaves tokens is =
        record {
          known = known_opened fields y known;
          are =
              rw is (opened_true (from.tokens.slots (length from.frames))
              (slots_with (length from.frames) y slot from.tokens.slots (length from.frames)) from.heap heap environment fields
              named.fields y known
              (λ z p apart has. (
                one_slot (length from.frames) y slot from.tokens.slots z p apart has,
                keeps p (there (length from.frames) z p (one_slot (length from.frames) y slot from.tokens.slots z p apart has)),
              ))
              (λ p has. new p (sym (slot_here (length from.frames) y slot from.tokens.slots) ∙ has)) many are);
          leaves = leaves;
          waits = waits;
          below =
              rw is (below_carried from.heap heap from.tokens there keeps
              (slots_with (length from.frames) y slot from.tokens.slots) from.frames
              (one_below (length from.frames) y slot from.tokens.slots) below);
        }

    opened_known : (y : ℕ) (named : Named) (fields : List ℕ) (rest : Tokened) (result : Option Heap) (v : Value)
        → NamedCell from.heap v (length fields) named → EasedTo from.heap result
        → LeavesKnown (known_opened fields y known) rest
        → AllLead IsKnownIn (goes (to_opened result named.at y from
        (at_code rest (bind_fields fields named.fields environment) joins from)))
    opened_known y named fields rest None v cell eased leaves = tt
    opened_known y named fields rest (Some heap) v cell eased leaves = by_count (count_at heap named.at)
      where
        keeps : KeepFields from.heap heap
        keeps = eased_fields from.heap heap eased

        within : (n : ℕ) → count_at from.heap named.at ≡ n → named.at < length from.heap
        within zero is = absurd (omega (arith, is, cell.counted))
        within (suc n) is = counted_within from.heap named.at n is

        fields_are : fields_held heap named.at ≡ named.fields
        fields_are = keeps named.at (within (count_at from.heap named.at) refl) ∙ cell.fields

        same_cell : (p : ℕ) → token named.at ≡ token p → fields_held heap p ≡ named.fields
        same_cell p is = let equal : named.at ≡ p = cc in ap (fields_held heap) (sym equal) ∙ fields_are

        by_count : (n : ℕ)
            → IsKnown rest (bind_fields fields named.fields environment) joins from.frames heap
            (opened_tokens n (length from.frames) y named.at from.tokens)
        by_count zero =
            slot_opened y (token named.at) heap named fields rest keeps cell.many same_cell leaves
            (gained (length from.frames) y named.at from.tokens) refl
        by_count (suc n) =
            slot_opened y null heap named fields rest keeps cell.many (λ p is. absurd (cc)) leaves
            (blanked (length from.frames) y null from.tokens) refl

    open_known : (y : ℕ) (v : Value) (found : Option Named) (heap : Named → Option Heap) (fields : List ℕ) (rest : Tokened)
        → OnNamed (NamedCell from.heap v (length fields)) found → ((named : Named) → EasedTo from.heap (heap named))
        → LeavesKnown (known_opened fields y known) rest
        → AllLead IsKnownIn (token_open_step found heap fields y rest environment joins from)
    open_known y v None heap fields rest cell eased leaves = tt
    open_known y v (Some named) heap fields rest cell eased leaves =
        opened_known y named fields rest (heap named) v cell (eased named) leaves

    -- ---- calls and constructions

    call_known : (f : ℕ) (found : Option TokenedFunction) (values : List Value) (x : ℕ) (rest : Tokened)
        → slice_get setting.program.functions f ≡ found → LeavesKnown (forget_variable x known) rest
        → AllLead IsKnownIn (token_call_step setting found values
        (record { variable = x; rest = rest; joins = joins; environment = environment }) from)
    call_known f None values x rest is leaves = tt
    call_known f (Some function) values x rest is leaves = by_test (nat_le setting.depth (suc (length from.frames)))
      where
        waiting : TokenFrame
        waiting = record { variable = x; rest = rest; joins = joins; environment = environment }

        by_test : (t : Bool)
            → IsKnownIn (if t then token_at_end stack_full from else in_body function values
            (record from {
              frames = record { variable = x; rest = rest; joins = joins; environment = environment } ∷ from.frames;
            }))
        by_test true = tt
        by_test false =
            body_known f function values
            (record from {
              frames = record { variable = x; rest = rest; joins = joins; environment = environment } ∷ from.frames;
            }) is (record { known = known; are = are; leaves = leaves; waits = waits }, below)

    -- the machine behind a construction, by what is known then
    made_known : (room : Room) (x c : ℕ) (fields : List Value) (others : List KnownFields) (rest : Tokened)
        → LeavesKnown (forget_variable x others) rest
        → OnRoom (λ left.
        AreTrue (left.slots (length from.frames))
        (record { count = 1; cell = record { made_by = c; fields = fields } } ∷ from.heap) environment others
        × AreFramesKnown left.slots (record { count = 1; cell = record { made_by = c; fields = fields } } ∷ from.heap)
        from.frames) room
        → AllLead IsKnownIn (make_step room c fields (λ v. bound_to x v rest environment joins from) from)
    made_known no_room x c fields others rest leaves is = tt
    made_known no_token x c fields others rest leaves is = tt
    made_known (has_room left) x c fields others rest leaves is =
        record {
          known = forget_variable x others;
          are =
              bound_true (left.slots (length from.frames))
              (record { count = 1; cell = record { made_by = c; fields = fields } } ∷ from.heap) environment x
              (place (length from.heap)) others is.0;
          leaves = leaves;
          waits = waits;
          below = is.1;
        }

    -- a new cell, of tokens of which what is known is true
    requested : (tokens : Tokens) (room : Room) (others : List KnownFields) (held : Held) → AreThere from.heap tokens
        → AreTrue (tokens.slots (length from.frames)) from.heap environment others
        → AreFramesKnown tokens.slots from.heap from.frames → OnRoom (λ left. Fewer tokens.slots left.slots) room
        → OnRoom (λ left. AreTrue (left.slots (length from.frames)) (held ∷ from.heap) environment others
        × AreFramesKnown left.slots (held ∷ from.heap) from.frames) room
    requested tokens room others held here true_ones older less =
        on_room (λ left. Fewer tokens.slots left.slots)
        (λ left. AreTrue (left.slots (length from.frames)) (held ∷ from.heap) environment others
        × AreFramesKnown left.slots (held ∷ from.heap) from.frames) room
        (λ left fewer. (
          fewer_carried from.heap (held ∷ from.heap) tokens here (grown_fields held from.heap) left.slots (length from.frames)
              environment others fewer true_ones,
          below_carried from.heap (held ∷ from.heap) tokens here (grown_fields held from.heap) left.slots from.frames
              (λ g z p below. fewer g z p) older,
        )) less

    spent_there : (y : ℕ) → AreThere from.heap (blanked (length from.frames) y spent from.tokens)
    spent_there y g z p is = there g z p (blank_fewer (length from.frames) y spent from.tokens.slots refl g z p is)

    fill_known : (x y c : ℕ) (fields : List Value) (kept others : List ℕ) (rest : Tokened) (slot : Slot)
        → LeavesKnown (forget_variable x (forget_slot y known)) rest
        → AllLead IsKnownIn (by_slot (goes (token_at_stuck from))
        (make_step
        (request setting.cells others (length from.frames) from.heap (blanked (length from.frames) y spent from.tokens)) c fields
        (λ v. bound_to x v rest environment joins from) from)
        (λ p. make_step (has_room (released (length from.frames) y p spent from.tokens)) c
        (filled setting.leaves kept (fields_held from.heap p) fields) (λ v. bound_to x v rest environment joins from) from)
        (length from.frames) y slot from.tokens.marks)
    fill_known x y c fields kept others rest spent leaves = tt
    fill_known x y c fields kept others rest null leaves =
        made_known (request setting.cells others (length from.frames) from.heap (blanked (length from.frames) y spent from.tokens))
        x c fields (forget_slot y known) rest leaves
        (requested (blanked (length from.frames) y spent from.tokens)
        (request setting.cells others (length from.frames) from.heap (blanked (length from.frames) y spent from.tokens))
        (forget_slot y known) (record { count = 1; cell = record { made_by = c; fields = fields } }) (spent_there y)
        (changed y spent).0 (changed y spent).1
        (request_less (blanked (length from.frames) y spent from.tokens)
        (nat_le setting.cells (busy from.heap + marked from.tokens.marks (length from.heap)))
        (first_token (slots_with (length from.frames) y spent from.tokens.slots (length from.frames)) others) (length from.frames)))
    fill_known x y c fields kept others rest (token p) leaves = by_test (is_of (length from.frames) y (from.tokens.marks p))
      where
        values : List Value
        values = filled setting.leaves kept (fields_held from.heap p) fields

        by_test : (t : Bool)
            → AllLead IsKnownIn (if t then make_step (has_room (released (length from.frames) y p spent from.tokens)) c
            (filled setting.leaves kept (fields_held from.heap p) fields) (λ v. bound_to x v rest environment joins from) from
            else goes (token_at_stuck from))
        by_test true =
            made_known (has_room (released (length from.frames) y p spent from.tokens)) x c values (forget_slot y known) rest leaves
            (requested (blanked (length from.frames) y spent from.tokens)
            (has_room (released (length from.frames) y p spent from.tokens))
            (forget_slot y known) (record { count = 1; cell = record { made_by = c; fields = values } }) (spent_there y)
            (changed y spent).0 (changed y spent).1 (λ g z q is. is))
        by_test false = tt

    -- ---- one step

    form_known : (form : Form) (arguments others : List ℕ) (x : ℕ) (rest : Tokened) → LeavesKnown (forget_variable x known) rest
        → AllLead IsKnownIn (token_form_step setting form (map (value_of environment) arguments) x others rest environment joins
        from)
    form_known (Number n) arguments others x rest leaves = bound_known x (integer n) rest leaves
    form_known Nothing arguments others x rest leaves = bound_known x unit rest leaves
    form_known ReadByte arguments others x rest leaves = λ byte. bound_known x (byte_value byte) rest leaves
    form_known (PrintText form text) arguments others x rest leaves =
        printed_known (piece_of form (text_at setting.program.texts text)) (bound_to x unit rest environment joins from)
        (bound_known x unit rest leaves)
    form_known (Unary operator) arguments others x rest leaves =
        bound_known x (unary_result operator (argument 0 (map (value_of environment) arguments))) rest leaves
    form_known (Binary operator) arguments others x rest leaves =
        bound_known x
        (binary_result operator (argument 0 (map (value_of environment) arguments))
        (argument 1 (map (value_of environment) arguments))) rest leaves
    form_known (Print form) arguments others x rest leaves =
        printed_known (piece_of form (signed_decimal (integer_of (argument 0 (map (value_of environment) arguments)))))
        (bound_to x unit rest environment joins from) (bound_known x unit rest leaves)
    form_known (Construct c) [] others x rest leaves = bound_known x (constant c) rest leaves
    form_known (Construct c) (first ∷ arguments) others x rest leaves =
        made_known (request setting.cells others (length from.frames) from.heap from.tokens) x c
        (map (value_of environment) (first ∷ arguments)) known rest leaves
        (requested from.tokens (request setting.cells others (length from.frames) from.heap from.tokens) known
        (record { count = 1; cell = record { made_by = c; fields = map (value_of environment) (first ∷ arguments) } }) there
        are below
        (request_less from.tokens (nat_le setting.cells (busy from.heap + marked from.tokens.marks (length from.heap)))
        (first_token (from.tokens.slots (length from.frames)) others) (length from.frames)))
    form_known (Call f) arguments others x rest leaves =
        call_known f (slice_get setting.program.functions f) (map (value_of environment) arguments) x rest refl leaves

    code_known : (code : Tokened) → LeavesKnown known code
        → AllLead IsKnownIn (token_code_step setting code environment joins from)
    code_known (Tokened.give x) leaves = give_known (value_of environment x) joins from.frames environment from waits below below
    code_known (Tokened.tail_call f arguments) leaves =
        tail_known f (slice_get setting.program.functions f) (map (value_of environment) arguments) from refl below
    code_known (Tokened.case x decisions arms) leaves =
        case_known (chosen (cell_at from.heap) (value_of environment x) decisions) arms leaves
    code_known (Tokened.compute x form arguments others rest) leaves = form_known form arguments others x rest leaves
    code_known (Tokened.inside x block rest) leaves =
        record { known = known; are = are; leaves = leaves.0; waits = (leaves.1, waits); below = below }
    code_known (Tokened.read x c fields rest) leaves =
        read_known (cell_named c (length fields) from.heap (value_of environment x)) fields rest leaves
    code_known (Tokened.open_cell x c fields used y rest) leaves =
        open_known y (value_of environment x) (cell_named c (length fields) from.heap (value_of environment x))
        (λ named. opened_heap named.at (used_values used fields named.fields) from.heap) fields rest
        (named_cell c (length fields) from.heap (value_of environment x))
        (λ named. eased_opening named.at (used_values used fields named.fields) from.heap) leaves
    code_known (Tokened.if_unique x c fields used y rest) leaves =
        open_known y (value_of environment x) (cell_named c (length fields) from.heap (value_of environment x))
        (λ named. unique_heap (count_at from.heap named.at) named.at (used_values used fields named.fields)
        (other_values used fields named.fields) from.heap) fields rest
        (named_cell c (length fields) from.heap (value_of environment x))
        (λ named. eased_unique (count_at from.heap named.at) named.at (used_values used fields named.fields)
        (other_values used fields named.fields) from.heap refl) leaves
    code_known (Tokened.dup x rest) leaves =
        heap_known (dup_value (value_of environment x) from.heap) rest (eased_dup (value_of environment x) from.heap) leaves
    code_known (Tokened.drop x rest) leaves =
        heap_known (drop_value (value_of environment x) from.heap) rest (eased_drop (value_of environment x) from.heap) leaves
    code_known (Tokened.fill x y c first arguments kept others rest) leaves =
        fill_known x y c (map (value_of environment) (first ∷ arguments)) kept others rest
        (from.tokens.slots (length from.frames) y) leaves.1
    code_known (Tokened.free y rest) leaves =
        tokens_known (freed (length from.frames) y from.tokens) (forget_slot y known) rest leaves
        (freed_known y (from.tokens.slots (length from.frames) y))
    code_known (Tokened.null y rest) leaves =
        tokens_known (Some (blanked (length from.frames) y null from.tokens)) (forget_slot y known) rest leaves (changed y null)
    code_known (Tokened.move to of rest) leaves =
        tokens_known (moved (length from.frames) to of from.tokens) (forget_slot to (forget_slot of known)) rest leaves
        (moved_known to of (from.tokens.slots (length from.frames) of))
    code_known (Tokened.hold y rest) leaves =
        tokens_known (held (length from.frames) y from.tokens) known rest leaves
        (slot_same y (from.tokens.slots (length from.frames) y) (hold_link (length from.frames) y from.tokens) (hold_same y))
    code_known (Tokened.unhold y rest) leaves =
        tokens_known (unheld (length from.frames) y from.tokens) known rest leaves
        (slot_same y (from.tokens.slots (length from.frames) y)
        (with_chain from.tokens (unlinked (length from.frames) y from.tokens.chain))
        (chain_same (unlinked (length from.frames) y from.tokens.chain)))
    code_known (Tokened.if_token y there_code absent) leaves = by_test (is_token (from.tokens.slots (length from.frames) y))
      where
        by_test : (t : Bool) → IsKnownIn (at_code (if t then there_code else absent) environment joins from)
        by_test true = at_known there_code leaves.0
        by_test false = at_known absent leaves.1

  -- what is known stays true at a step
  pub step_known : (code : Tokened) (environment : Environment) (joins : List TokenJoin) (from : TokenConfiguration)
      → IsKnown code environment joins from.frames from.heap from.tokens → AreThere from.heap from.tokens
      → AllLead IsKnownIn (token_code_step setting code environment joins from)
  step_known code environment joins from is there =
      code_known environment joins from is.known is.are is.waits is.below there code is.leaves

-- a construction leaves only what it would write, where what is known is true
pub fills_known : (leaves : Bool) (c : TokenConfiguration) (control : TokenControl) → IsKnownAt c control → FillsAt leaves c control
fills_known leaves c (TokenControl.running (Tokened.fill x y k first arguments kept others rest) environment joins) is =
    λ p has. known_fills leaves (c.tokens.slots (length c.frames)) c.heap environment y p is.known kept (first ∷ arguments) is.are
    has is.leaves.0
fills_known leaves c _ is = tt
