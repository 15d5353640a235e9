-- The lines of an opening, whose slot may take the cell, do the step of the machine with tokens: they go by the count of the cell.
use Rattle.std.proofs.Common.{◌≡◌, ◌≢◌, ℕ, zero, suc, ◌+◌, ◌*◌, ◌<◌, ◌≤◌, ◌==◌, ◌⊎◌, inl, inr, Bool, true, false, List, [], ◌∷◌, ◌++◌, length, filter, map, Option, Some, None, refl, sym, ◌∙◌, ap, subst, arith, eqb-true, ne_eqb, append_assoc}
use Rattle.std.specs.Prelude.{◌&&◌, if◌then◌else◌}
use Rattle.std.proofs.lemmas.List.{length-map}
use Rattle.std.proofs.lemmas.Bool.{or_right, or_left}
use Rattle.kk_base.specs.Limits.{greatest_of}
use Rattle.kk_base.specs.declared.limit.LimitKind.TheVariants.{Fields}
use Rattle.kk_syntax.specs.Shapes.{is_among}
use Rattle.kk_source.specs.State.{Value, integer, unit, constant, place, Environment}
use Rattle.kk_source.specs.Live.{value_of}
use Rattle.kk_source.specs.Actions.{Action, goes, performed}
use Rattle.kk_core.specs.CoreMachine.{bind_fields}
use Rattle.kk_counted.specs.CountedCosts.{opening_cost}
use Rattle.kk_counted.specs.CountedMachine.{Named, cell_named, used_values, other_values, opened_heap, unique_heap, NotStuck}
use Rattle.kk_counted.specs.Heaps.{Heap, count_at, set_count, fields_held, more, dup_value, dup_all}
use Rattle.kk_counted.specs.CodePlaces.{code_at}
use Rattle.kk_counted.specs.Lowerable.{AreBelow, AreFieldsNumbered, AreNumbered, bound_list}
use Rattle.kk_counted.specs.Marks.{field_marks, HaveMarks, Opens as OpensMarked, HasMark}
use Rattle.kk_counted.specs.References.{refs, IsSound, cells_of}
use Rattle.kk_counted.specs.Spending.{AreApart}
use Rattle.kk_counted.specs.TokenKeeping.{Lists, IsJudged, ListsAfter, AreKeptBy}
use Rattle.kk_counted.specs.TokenMachine.{token_code_step, token_open_step, to_opened, at_code}
use Rattle.kk_counted.specs.TokenRuns.{is_quiet, AllLead}
use Rattle.kk_counted.specs.TokenStates.{TokenJoin, TokenFrame, TokenConfiguration, bare_join, bare_configuration}
use Rattle.kk_counted.specs.BareForms.{bare}
use Rattle.kk_counted.specs.TokenedCodes.{Tokened}
use Rattle.kk_counted.specs.Tokens.{Slot, spent, null, token, is_unspent, Mark, plain, token_of, Tokens, is_linked, slots_with, opened_tokens, blanked, gained, marked}
use Rattle.kk_counted.proofs.TokenChain.{EqualBelow, equal_one, frames_many, not_linked}
use Rattle.kk_counted.proofs.CountChanges.{counted_within, count_set, count_other}
use Rattle.kk_counted.proofs.HeapChanges.{EasedTo, eased_unique}
use Rattle.kk_counted.proofs.OwnedOpenings.{opens_by_count}
use Rattle.kk_counted.proofs.SlotMarks.{slot_here, slot_there}
use Rattle.kk_counted.proofs.Variables.{fields_part}
use Rattle.rv_isa.specs.declared.asm.Action.TheVariants.{Label, Branch}
use Rattle.rv_isa.specs.declared.asm.Condition.{Condition}
use Rattle.rv_isa.specs.declared.asm.Condition.TheVariants.{NotEqual}
use Rattle.rv_isa.specs.declared.asm.Operation.TheVariants as Op
use Rattle.rv_isa.specs.declared.asm.ImmediateOperation.TheVariants.{Addi}
use Rattle.rv_isa.specs.AsmCode.{Line}
use Rattle.rv_isa.specs.Frames.{Frame}
use Rattle.cell_heap.specs.Blocks.{Cells}
use Rattle.rv_lower.specs.Lines.{computes, sets, acts}
use Rattle.rv_cells.specs.CellLines.{alone_lines, shared_lines, first_way, goes_second, leaving_lines, TokenUniqueLines}
use Rattle.rv_cells.specs.Layout.{words_in, header_of, first_field}
use Rattle.rv_cells.specs.CountedCells.{AreFrom, Owner, cell_of, in_hand, is_aside}
use Rattle.rv_cells.specs.TokenedLines.{CodeLines, OpeningLines, HasSlots, IsOf, Keeps, MayFill}
use Rattle.rv_cells.proofs.NameContents.{some-is}
use Rattle.rv_cells.proofs.BoundVariables.{AreWithin, marks_are}
use Rattle.rv_cells.proofs.UsedCells.{named_cell}
use Rattle.rv_cells.proofs.Rows.{then_some, IsReading}
use Rattle.rv_cells.proofs.CountOpenings.{others_of}
use Rattle.rv_cells.proofs.FormPlaces.{Tree, tree, part, no_part, parts_of, IsPart, tree_in, entry_part, Next, stands_behind, entry_lines, lines_before_entry, behind_entry, entry_is_part, fill_there}
use Rattle.rv_cells.proofs.LineCosts.{most_moves, row_cost}
use Rattle.rv_cells.proofs.Openings.{bound_older, opened_spot}
use Rattle.rv_cells.proofs.Runs.{turn_of, Runs}
use Rattle.rv_cells.proofs.Spots.{Spot, Here, saved}
use Rattle.rv_cells.proofs.Values.{among_by}
use Rattle.rv_cells.proofs.TokenOpenings.{HasCell, IsNull, TokenIs, LeadsTo, comes_to, token_cost, for_second, second_lines, head_lines, whole_lines, opens_to_token}
use Rattle.rv_cells.proofs.TokenCells.{token_aside, cells_stay, cell_comes}
use Rattle.rv_cells.proofs.TokenFields.{recounted_words, eased_cells, cell_is, named_fields}
use Rattle.rv_cells.proofs.TokenFrames.{none_behind, all_wait_at}
use Rattle.rv_cells.proofs.TokenLineCosts.{forms}
use Rattle.rv_cells.proofs.TokenRelation.{SlotIs, IsTokenCell, token_words, HaveSlotValues, HaveTokenCells, StandsIn, AllStand, finds, held_values}
use Rattle.rv_cells.proofs.TokenRelation.{Lowering, target, setting, upper, lines_setting, known_of, Shape, AllWait, At, IsFitFrom, Follows_step, by_near}
use Rattle.rv_cells.proofs.TokenContents.{stand_set, opened_stands}
use Rattle.rv_cells.proofs.TokenContinuations.{lands_leads, token_at, machine_at, CodeSteps, seen_action, silent_goes, does_by, near_here, CodeBehind, GoesOn, stands_on, goes_on}
use Rattle.rv_cells.proofs.TokenContinuations.{kept_after}

-- a slot is given another token, of which a frame has the value, and the values of the other unspent slots are the same
pub slots_set : {address : ℕ → ℕ} {slots others : ℕ → Slot} {variables count : ℕ} {values after : ℕ → Option ℕ}
    → HaveSlotValues address slots variables count values → (y : ℕ) (slot : Slot) → y < count → others y ≡ slot
    → SlotIs address slot (after (variables + y)) → ((z : ℕ) → z ≢ y → others z ≡ slots z)
    → ((z : ℕ) → z ≢ y → z < count → after (variables + z) ≡ values (variables + z))
    → HaveSlotValues address others variables count after
slots_set {address} {slots} {others} {variables} {count} {values} {after} have y slot low is value same stay = record {
  below = λ z. (by z (z == y) refl).0;
  are = λ z. (by z (z == y) refl).1;
}
  where
    kept : (z : ℕ) (one : Slot) → SlotIs address one (values (variables + z)) → (is_unspent one ≡ true → z < count)
        → (z < count → after (variables + z) ≡ values (variables + z)) → SlotIs address one (after (variables + z))
    kept z spent was below stays = tt
    kept z null was below stays = stays (below refl) ∙ was
    kept z (token p) was below stays = stays (below refl) ∙ was

    by : (z : ℕ) (b : Bool) → (z == y) ≡ b → (is_unspent (others z) ≡ true → z < count)
        × SlotIs address (others z) (after (variables + z))
    by z true test =
        let e : y ≡ z = sym (eqb-true z y test) in
        subst (λ x. (is_unspent (others x) ≡ true → x < count) × SlotIs address (others x) (after (variables + x))) e
        (λ unspent. low, subst (λ sl. SlotIs address sl (after (variables + y))) (sym is) value)
    by z false test =
        let differ : z ≢ y = λ e. let itself : (z == y) ≡ true = grind arith in let both = sym itself ∙ test in cc in
        let still = same z differ in (
          λ unspent. have.below z (ap is_unspent (sym still) ∙ unspent),
          subst (λ sl. SlotIs address sl (after (variables + z))) (sym still)
              (kept z (slots z) (have.are z) (have.below z) (stay z differ)),
        )

-- ---- counts after openings

-- a counted cell stays so where references are more
dup_counted : (at : ℕ) (v : Value) (heap next : Heap) → 1 ≤ count_at heap at → dup_value v heap ≡ Some next → 1 ≤ count_at next at
dup_counted at (integer n) heap next some is = subst (λ h. 1 ≤ count_at h at) (some-is is) some
dup_counted at unit heap next some is = subst (λ h. 1 ≤ count_at h at) (some-is is) some
dup_counted at (constant c) heap next some is = subst (λ h. 1 ≤ count_at h at) (some-is is) some
dup_counted at (place q) heap next some is = by (count_at heap q) refl is
  where
    by : (count : ℕ) → count_at heap q ≡ count → more q count heap ≡ Some next → 1 ≤ count_at next at
    by zero counts given = cc
    by (suc k) counts given =
        subst (λ h. 1 ≤ count_at h at) (some-is given) (here (q == at) refl)
      where
        here : (b : Bool) → (q == at) ≡ b → 1 ≤ count_at (set_count q (suc (suc k)) heap) at
        here true test =
            let e : q ≡ at = eqb-true q at test in
            let now = ap (count_at (set_count q (suc (suc k)) heap)) (sym e) ∙ count_set q (suc (suc k)) k heap counts in
            omega (arith, now)
        here false test = let now = count_other q (suc (suc k)) at heap test in omega (arith, now, some)

dups_counted : (at : ℕ) (vs : List Value) (heap next : Heap) → 1 ≤ count_at heap at → dup_all vs heap ≡ Some next
    → 1 ≤ count_at next at
dups_counted at [] heap next some is = subst (λ h. 1 ≤ count_at h at) (some-is is) some
dups_counted at (v ∷ vs) heap next some is =
    let m = then_some (dup_value v heap) (dup_all vs) next is in
    dups_counted at vs m.0 next (dup_counted at v heap m.0 some m.1) m.2

-- a cell of several references is counted behind its opening
pub shared_counted : (n at : ℕ) (used others : List Value) (heap next : Heap) → count_at heap at ≡ suc (suc n)
    → unique_heap (suc (suc n)) at used others heap ≡ Some next → 1 ≤ count_at next at
shared_counted n at used others heap next counts is =
    let now = count_set at (suc n) (suc n) heap counts in
    dups_counted at used (set_count at (suc n) heap) next (omega (arith, now)) is

-- an opening that does not get stuck: its cell, and the heap behind it
pub record Opened (o : Option Named) (heap : Named → Option Heap) (fields : List ℕ) (y : ℕ) (rest : Tokened)
    (environment : Environment) (inner : List TokenJoin) (from : TokenConfiguration) : Type 0 where
  pub named : Named
  pub named_is : o ≡ Some named
  pub next : Heap
  pub next_is : heap named ≡ Some next
  pub step : token_open_step o heap fields y rest environment inner from
      ≡ goes (record (at_code rest (bind_fields fields named.fields environment) inner from) {
        heap = next;
        tokens = opened_tokens (count_at next named.at) (length from.frames) y named.at from.tokens;
      })

opening_there : (o : Option Named) (heap : Named → Option Heap) (fields : List ℕ) (y : ℕ) (rest : Tokened)
    (environment : Environment) (inner : List TokenJoin) (from : TokenConfiguration) (input : List ℕ)
    → NotStuck (bare_configuration
    (performed (token_open_step o heap fields y rest environment inner from) input).1.machine).control
    → Opened o heap fields y rest environment inner from
opening_there None heap fields y rest environment inner from input going = absurd going
opening_there (Some named) heap fields y rest environment inner from input going = by (heap named) refl
  where
    by : (o : Option Heap) → heap named ≡ o → Opened (Some named) heap fields y rest environment inner from
    by None is =
        absurd (subst (λ (o : Option Heap). NotStuck (bare_configuration (to_opened o named.at y from
        (at_code rest (bind_fields fields named.fields environment) inner from))).control) is going)
    by (Some next) is = record {
      named = named;
      named_is = refl;
      next = next;
      next_is = is;
      step = ap (λ (o : Option Heap). goes (to_opened o named.at y from
          (at_code rest (bind_fields fields named.fields environment) inner from))) is;
    }

-- ---- fields

among_front : (fields bound : List ℕ) (z : ℕ) → is_among (fields ++ bound) z ≡ true
    → (is_among fields z ≡ true) ⊎ (is_among bound z ≡ true)
among_front [] bound z is = inr is
among_front (x ∷ xs) bound z is =
    elim (among_by x (xs ++ bound) z is) [
      | inl e ↦ inl (or_left (x == z) (is_among xs z) (grind arith))
      | inr later ↦ elim (among_front xs bound z later) [
        | inl among ↦ inl (or_right (x == z) (is_among xs z) among)
        | inr among ↦ inr among
      ]
    ]

bound_field : (fields bound : List ℕ) (z : ℕ) → is_among fields z ≡ true → is_among (bound_list fields bound) z ≡ true
bound_field [] bound z is = cc
bound_field (x ∷ xs) bound z is =
    elim (among_by x xs z is) [
      | inl e ↦ bound_older xs (x ∷ bound) z (or_left (x == z) (is_among bound z) (grind arith))
      | inr later ↦ bound_field xs (x ∷ bound) z later
    ]

pub within_fields : (fields bound : List ℕ) → AreWithin (fields ++ bound) (bound_list fields bound)
within_fields fields bound = λ z is. elim (among_front fields bound z is) [
  | inl among ↦ bound_field fields bound z among
  | inr among ↦ bound_older fields bound z among
]

pub within_front : (fields bound : List ℕ) → AreWithin bound (fields ++ bound)
within_front [] bound = λ z is. is
within_front (x ∷ xs) bound = λ z is. or_right (x == z) (is_among (xs ++ bound) z) (within_front xs bound z is)

pub below_list : (most : ℕ) (fields bound : List ℕ) → AreBelow most fields → ((z : ℕ) → is_among bound z ≡ true → z < most)
    → (z : ℕ) → is_among (bound_list fields bound) z ≡ true → z < most
below_list most [] bound fields_below below z is = below z is
below_list most (x ∷ xs) bound fields_below below z is =
    below_list most xs (x ∷ bound) fields_below.1
    (λ w among. elim (among_by x bound w among) [
      | inl e ↦ (let low = fields_below.0 in omega (arith, e, low))
      | inr later ↦ below w later
    ]) z is

pub below_more : (most more : ℕ) (xs : List ℕ) → most ≤ more → AreBelow most xs → AreBelow more xs
below_more most more [] high below = tt
below_more most more (x ∷ xs) high below = ((let low = below.0 in omega (arith, low, high)), below_more most more xs high below.1)

pub row_times : (xs : List ℕ) (k : ℕ) → row_cost xs k ≡ k * length xs
row_times [] k = omega arith
row_times (x ∷ xs) k = let later = row_times xs k in let step : k * suc (length xs) ≡ k + k * length xs = grind arith in omega (arith, later, step)

filter_length : (takes : ℕ → Bool) (xs : List ℕ) → length (filter takes xs) ≤ length xs
filter_length takes [] = omega arith
filter_length takes (x ∷ xs) = by (takes x) (filter_length takes xs)
  where
    by : (b : Bool) → length (filter takes xs) ≤ length xs → length (if b then x ∷ filter takes xs else filter takes xs) ≤ suc
        (length xs)
    by true few = omega (arith, few)
    by false few = omega (arith, few)

pub another : (n y z : ℕ) → z ≢ y → ((n == n) && (z == y)) ≡ false
another n y z differ =
    let itself : (n == n) ≡ true = grind arith in
    let other : (z == y) ≡ false = ne_eqb z y differ in
    rw itself other

alone_value : (v y z : ℕ) → z ≢ y → is_among ((v + y) ∷ []) (v + z) ≡ false
alone_value v y z differ =
    let other : (v + y == v + z) ≡ false = ne_eqb (v + y) (v + z) (λ e. differ (omega (arith, e))) in
    rw other refl

same_bools : (b c : Bool) → (b ≡ true → c ≡ true) → (c ≡ true → b ≡ true) → b ≡ c
same_bools true c there back = sym (there refl)
same_bools false true there back = back refl
same_bools false false there back = refl

-- the lines of an opening in front of those by which it goes on at once
abbrev before_of : (program : Lowering) (x : ℕ) (fields used : List ℕ) (y : ℕ) (shape : Shape) (low : ℕ) (into : Option ℕ)
    (own : List Line)
    → TokenUniqueLines (shape.variables + shape.slots) shape.holds low (low + 1) (low + 2) x fields used (shape.variables + y) into
    own
    → List Line
before_of program x fields used y shape low into own is =
    lines_before_entry (shape.variables + shape.slots) shape.holds low (low + 1) (low + 2) x fields used (shape.variables + y) into
    own
    is

module _ (program : Lowering) (code : Tokened) (x c : ℕ) (fields used : List ℕ) (y : ℕ) (rest : Tokened) (inner : List TokenJoin)
    (frames : List TokenFrame) (tokens : Tokens) (input : List ℕ) (s : Spot) (fs : List (Frame Line)) (left : List Line)
    (at : At program code inner frames tokens input s fs left) where
  -- What is known of a code that opens a cell, whose slot may take it: its lines, the code behind it, and what the machine with
  -- tokens does.
  pub record IsOpening : Type 0 where
    pub forms_are : forms code ≡ suc (forms rest)
    pub quiet : is_quiet code ≡ false
    pub own : List Line
    pub more : List Line
    pub into : Option ℕ
    pub filled : MayFill into y rest
    pub uniques : TokenUniqueLines (at.shape.variables + at.shape.slots) at.shape.holds at.does.placed.low
        (at.does.placed.low + 1) (at.does.placed.low + 2) x fields used (at.shape.variables + y) into own
    pub behind : CodeBehind program code inner frames tokens input s fs left at rest own more (at.does.placed.low + 2)
        (fields ++ s.bound)
    pub entry_is : (made : ℕ) → into ≡ Some made
        → Next (tree_in (lines_setting program at.shape) at.shape.variables at.does.goal at.does.placed.low code at.does.placed.own
        at.does.placed.high at.does.placed.lines)
        (lines_before_entry (at.shape.variables + at.shape.slots) at.shape.holds at.does.placed.low (at.does.placed.low + 1)
        (at.does.placed.low + 2) x fields used (at.shape.variables + y) into own uniques)
        (tree rest (entry_lines (at.shape.variables + y) made (at.does.placed.low + 2)) no_part)
    pub bound : is_among s.bound x ≡ true
    pub apart : is_among fields x ≡ false
    pub kinds : HaveMarks at.shape.holds fields (field_marks program.marks c)
    pub below : AreBelow at.shape.variables fields
    pub fields_apart : AreApart fields
    pub slot : y < at.shape.slots
    pub is_of : IsOf at.shape.standing c
    pub none_held : at.lists.held ≡ []
    pub lists_after : (next : Lists) → ListsAfter code inner at.lists next
        → next ≡ record at.lists { unspent = y ∷ at.lists.unspent }
    pub weighs : (upper program).weight (token_at program code s.environment inner frames s.heap tokens input)
        ≡ opening_cost fields used + 0

  -- What the machine with tokens does there: the cell that is opened, and the heap behind it.
  pub record Opens : Type 0 where
    pub named : Named
    pub named_is : cell_named c (length fields) s.heap (value_of s.environment x) ≡ Some named
    pub next : Heap
    pub next_is : unique_heap (count_at s.heap named.at) named.at (used_values used fields named.fields)
        (other_values used fields named.fields) s.heap ≡ Some next
    pub step : token_code_step (setting program) code s.environment inner
        (machine_at program code s.environment inner frames s.heap tokens)
        ≡ goes (machine_at program rest (bind_fields fields named.fields s.environment) inner frames next
        (opened_tokens (count_at next named.at) (length frames) y named.at tokens))

  -- by an opening that does not get stuck, and whose heap is that of one by the count
  pub opens_there : (heap : Named → Option Heap)
      (there : Opened (cell_named c (length fields) s.heap (value_of s.environment x)) heap fields y rest s.environment inner
      (machine_at program code s.environment inner frames s.heap tokens))
      → token_code_step (setting program) code s.environment inner
      (machine_at program code s.environment inner frames s.heap tokens)
      ≡ token_open_step (cell_named c (length fields) s.heap (value_of s.environment x)) heap fields y rest s.environment inner
      (machine_at program code s.environment inner frames s.heap tokens)
      → unique_heap (count_at s.heap there.named.at) there.named.at (used_values used fields there.named.fields)
      (other_values used fields there.named.fields) s.heap ≡ Some there.next → Opens
  opens_there heap there step_is next_is = record {
    named = there.named;
    named_is = there.named_is;
    next = there.next;
    next_is = next_is;
    step = step_is ∙ there.step;
  }

  -- Both forms that open a cell have such lines, such a code behind them, and the same said of their variables and slots.
  pub opening_of : forms code ≡ suc (forms rest) → is_quiet code ≡ false
      → code_at (bare code) (0 ∷ []) ≡ Some (bare rest)
      → (lines : (own : List Line) × (more : List Line)
      × OpeningLines (lines_setting program at.shape) at.shape.variables at.does.placed.low x fields used y rest own
      × CodeLines (lines_setting program at.shape) at.shape.variables at.does.goal (at.does.placed.low + 2) rest more
      at.does.placed.high
      × (at.does.placed.own ≡ own ++ more))
      → parts_of (tree_in (lines_setting program at.shape) at.shape.variables at.does.goal at.does.placed.low code
      at.does.placed.own at.does.placed.high at.does.placed.lines)
      ≡ entry_part lines.2.0 (at.shape.variables + y) (at.does.placed.low + 2)
      (before_of program x fields used y at.shape at.does.placed.low lines.2.0 lines.0 lines.2.2) rest
      (part (0 ∷ []) lines.0 (tree_in (lines_setting program at.shape) at.shape.variables at.does.goal (at.does.placed.low + 2) rest
      lines.1 at.does.placed.high lines.3) no_part)
      → OpensMarked program.marks at.shape.holds s.bound x c fields
      × HasMark program.marks at.shape.holds at.shape.result (fields ++ s.bound) at.does.given (bare rest)
      → AreFieldsNumbered at.shape.variables x fields × AreNumbered at.shape.variables (fields ++ s.bound) (bare rest)
      → (y < at.shape.slots) × HasSlots at.shape.slots rest → IsOf at.shape.standing c × Keeps at.shape.standing rest
      → at.lists.held ≡ []
      → ((next : Lists) → ListsAfter code inner at.lists next → next ≡ record at.lists { unspent = y ∷ at.lists.unspent })
      → (upper program).weight (token_at program code s.environment inner frames s.heap tokens input) ≡ opening_cost fields used + 0
      → IsOpening
  opening_of forms_are quiet code_is lines parts_are marked numbered has keeps none_held lists_after weighs =
      let p = at.does.placed in
      let v = at.shape.variables in
      let before = before_of program x fields used y at.shape p.low lines.2.0 lines.0 lines.2.2 in
      let rest_tree = tree_in (lines_setting program at.shape) v at.does.goal (p.low + 2) rest lines.1 p.high lines.3 in
      let next_by = λ (own : List Line) (inner_tree : Tree).
      subst (IsPart (record { way = 0 ∷ []; before = own; inner = inner_tree })) (sym parts_are) in
      let list_below = below_list v fields s.bound numbered.0.0 at.has.below in
      record {
        forms_are = forms_are;
        quiet = quiet;
        own = lines.0;
        more = lines.1;
        into = lines.2.0;
        filled = lines.2.1;
        uniques = lines.2.2;
        behind = record {
          parts = lines.4;
          lines = lines.3;
          part_is = record {
            way = 0 ∷ [];
            is_part = next_by lines.0 rest_tree
                (behind_entry lines.2.0 (v + y) (p.low + 2) before rest (part (0 ∷ []) lines.0 rest_tree no_part)
                (record { way = 0 ∷ []; before = lines.0; inner = rest_tree }) (inl refl));
            code_is = code_is;
          };
          older = within_front fields s.bound;
          below = λ z is. list_below z (within_fields fields s.bound z is);
          marked = marked.1;
          numbered = numbered.1;
          has = has.1;
          keeps = keeps.1;
        };
        entry_is = λ made is. record {
          way = 0 ∷ [];
          is_part = next_by before (tree rest (entry_lines (v + y) made (p.low + 2)) no_part)
              (entry_is_part lines.2.0 (v + y) (p.low + 2) before rest (part (0 ∷ []) lines.0 rest_tree no_part) made is);
          code_is = code_is;
        };
        bound = marked.0.0;
        apart = numbered.0.1.0;
        kinds = marked.0.1.1;
        below = numbered.0.0;
        fields_apart = numbered.0.1.1;
        slot = has.0;
        is_of = keeps.0;
        none_held = none_held;
        lists_after = lists_after;
        weighs = weighs;
      }

module _ (program : Lowering) (code : Tokened) (x c : ℕ) (fields used : List ℕ) (y : ℕ) (rest : Tokened) (idle : ℕ)
    (inner : List TokenJoin) (frames : List TokenFrame) (tokens : Tokens) (input : List ℕ) (s : Spot) (fs : List (Frame Line))
    (left : List Line) (idle_is : idle ≡ forms code) (at : At program code inner frames tokens input s fs left)
    (fit : IsFitFrom program (token_at program code s.environment inner frames s.heap tokens input))
    (a : IsOpening program code x c fields used y rest inner frames tokens input s fs left at)
    (o : Opens program code x c fields used y rest inner frames tokens input s fs left at) where
  abbrev n : ℕ
  n = length at.lists.older

  abbrev v : ℕ
  v = at.shape.variables

  abbrev at_name : ℕ
  at_name = s.address o.named.at

  abbrev opened_to : Frame Line → (ℕ → Owner) → Cells → Spot
  opened_to frame owners cells = opened_spot (known_of program at.shape) s fields o.named.fields o.next frame owners cells

  abbrev Steps_on : Type 0
  Steps_on = Follows_step program idle (token_at program code s.environment inner frames s.heap tokens input)
      (turn_of left s.frame fs s.world)

  abbrev after_lines : List Line
  after_lines = a.more ++ at.does.placed.after

  -- the lines lead to others
  abbrev Leads_to : List Line → Frame Line → (ℕ → Owner) → Cells → Type 0
  Leads_to end frame owners cells =
      LeadsTo (known_of program at.shape) (token_cost (known_of program at.shape) fields used) (a.own ++ after_lines) end
      fs fs s (opened_to frame owners cells) ((v + y) ∷ [])

  long : length o.next ≡ length s.heap
  long = eased_length (unique_heap (count_at s.heap o.named.at) o.named.at (used_values used fields o.named.fields)
      (other_values used fields o.named.fields) s.heap) o.next o.next_is
      (eased_unique (count_at s.heap o.named.at) o.named.at (used_values used fields o.named.fields)
      (other_values used fields o.named.fields) s.heap refl)
    where
      eased_length : (o : Option Heap) (next : Heap) → o ≡ Some next → EasedTo s.heap o → length next ≡ length s.heap
      eased_length None next is eased = cc
      eased_length (Some one) next is eased = ap length (sym (some-is is)) ∙ eased.many

  recounted : cells_of o.next ≡ cells_of s.heap
  recounted = eased_cells (unique_heap (count_at s.heap o.named.at) o.named.at (used_values used fields o.named.fields)
      (other_values used fields o.named.fields) s.heap) s.heap o.next o.next_is
      (eased_unique (count_at s.heap o.named.at) o.named.at (used_values used fields o.named.fields)
      (other_values used fields o.named.fields) s.heap refl)

  -- the cells of tokens are set aside
  token_is_aside : (z q : ℕ) → tokens.slots n z ≡ token q → is_aside (s.owners (s.address q)) ≡ true
  token_is_aside z q is =
      token_aside (is_linked n z tokens.chain) (token_words program.layout s.address s.heap q) (s.owners (s.address q))
      (at.cells.are n z q (at.judged.are.pooled.marks n z q is))

  -- the step that gives the slot a token
  abbrev Steps_to : Tokens → Type 0
  Steps_to after =
      token_code_step (setting program) code s.environment inner
      (machine_at program code s.environment inner frames s.heap tokens)
      ≡ goes (machine_at program rest (bind_fields fields o.named.fields s.environment) inner frames o.next after)

  -- the slot has its token, and the code may go on behind the opening
  abbrev goes_behind : (end : List Line) (frame : Frame Line) (owners : ℕ → Owner) (cells : Cells) → Leads_to end frame owners cells
      → (after : Tokens) (slot : Slot) → Steps_to after → slots_with n y slot tokens.slots ≡ after.slots
      → SlotIs s.address slot (frame.cells (v + y))
      → HaveTokenCells program.pool program.layout s.address owners o.next after
      → AllStand program.layout at.shape.standing s.address owners (after.slots n)
      → GoesOn program code inner frames tokens input s fs left at rest a.own a.more (opened_to frame owners cells) fs after
      (fields ++ s.bound) (record at.lists { unspent = y ∷ at.lists.unspent })
  goes_behind end frame owners cells leads after slot step slots_is value token_cells stand =
      let p = at.does.placed in
      let kept = subst (AllLead (AreKeptBy program.pool.cells (ListsAfter code inner at.lists))) step
      (kept_after program code inner frames tokens input s fs left at (fit 0).keeps a.quiet) in
      record {
        low = p.low + 2;
        behind = a.behind;
        within = within_fields fields s.bound;
        judged = subst (λ (l : Lists). IsJudged program.pool.cells l.left l.unspent l.held l.older rest inner frames o.next after)
            (a.lists_after kept.0 kept.1.0) kept.1.1;
        cells = token_cells;
        stand = stand;
        slots_are = slots_set at.has.tokens y slot a.slot
            (ap (λ (sl : ℕ → ℕ → Slot). sl n y) (sym slots_is) ∙ slot_here n y slot tokens.slots) value
            (λ z differ. ap (λ (sl : ℕ → ℕ → Slot). sl n z) (sym slots_is) ∙ slot_there n y n z slot tokens.slots (another n y z differ))
            (λ z differ low. leads.spared (v + z) (omega (arith, low)) (alone_value v y z differ)
            (none_behind (bound_list fields s.bound) v z (below_list v fields s.bound a.below at.has.below)));
        held_is = leads.held ∙ at.has.held_is ∙ ap (held_values (tokens.slots n) v) a.none_held
            ∙ sym (ap (held_values (after.slots n) v) a.none_held);
        waits = subst (λ m. AllWait program s.address m after.slots at.lists.older frames fs at.shape.result) (sym long)
            (all_wait_at program s.address (length s.heap) tokens.slots after.slots at.lists.older frames fs at.shape.result
            (subst (EqualBelow n tokens.slots) slots_is (equal_one n n y slot tokens.slots (omega arith))) at.waits);
      }

  -- the lines weigh no more than the table of costs says
  opening_cheap : token_cost (known_of program at.shape) fields used
      ≤ (upper program).weight (token_at program code s.environment inner frames s.heap tokens input)
  opening_cheap =
      let weighs = a.weighs in
      let one = row_times fields (most_moves + 2) in
      let two = row_times (filter (is_among used) fields) (most_moves + 5) in
      let three = row_times (others_of used fields) (most_moves + 15) in
      omega (arith, one, two, three, weighs)

  finish : (frame : Frame Line) (owners : ℕ → Owner) (cells : Cells) → Leads_to after_lines frame owners cells → (after : Tokens)
      (slot : Slot) → Steps_to after → slots_with n y slot tokens.slots ≡ after.slots
      → SlotIs s.address slot (frame.cells (v + y))
      → HaveTokenCells program.pool program.layout s.address owners o.next after
      → AllStand program.layout at.shape.standing s.address owners (after.slots n) → Steps_on
  finish frame owners cells leads after slot step slots_is value token_cells stand =
      let few = at.does.placed.short in
      let forms_are = a.forms_are in
      goes_on program code inner frames tokens input s fs left at idle fit rest a.own a.more (opened_to frame owners cells) fs after
      (fields ++ s.bound) (record at.lists { unspent = y ∷ at.lists.unspent }) (token_cost (known_of program at.shape) fields used)
      goes (lands_leads leads)
      (goes_behind after_lines frame owners cells leads after slot step slots_is value token_cells stand)
      (silent_goes program) opening_cheap
      (ap (λ action. seen_action program action input) step) (omega (arith, idle_is, forms_are)) (omega (arith, few, forms_are))

  -- or it goes on in the midst of the lines of the construction that fills the token's cell
  abbrev entry : ℕ → List Line
  entry made = entry_lines (v + y) made (at.does.placed.low + 2)

  abbrev before_entry : List Line
  before_entry = lines_before_entry (at.shape.variables + at.shape.slots) at.shape.holds at.does.placed.low (at.does.placed.low + 1)
      (at.does.placed.low + 2) x fields used (v + y) a.into a.own a.uniques

  finish_filling : (made : ℕ) (behind : List Line) → a.into ≡ Some made
      → a.own ++ after_lines ≡ before_entry ++ (entry made ++ behind)
      → (frame : Frame Line) (owners : ℕ → Owner) (cells : Cells) → Leads_to (entry made ++ behind) frame owners cells
      → (after : Tokens) → Steps_to after → slots_with n y (token o.named.at) tokens.slots ≡ after.slots
      → SlotIs s.address (token o.named.at) (frame.cells (v + y))
      → HaveTokenCells program.pool program.layout s.address owners o.next after
      → AllStand program.layout at.shape.standing s.address owners (after.slots n) → Steps_on
  finish_filling made behind made_is lines_are frame owners cells leads after step slots_is value token_cells stand =
      let p = at.does.placed in
      let to = opened_to frame owners cells in
      let landed : Spot = record to { bound = fields ++ s.bound } in
      let few = p.short in
      let forms_are = a.forms_are in
      let cheap = opening_cheap in
      let within = leads.within in
      let start = token_at program code s.environment inner frames s.heap tokens input in
      let end = token_at program rest (bind_fields fields o.named.fields s.environment) inner frames o.next after input in
      let t0 = turn_of left s.frame fs s.world in
      let t1 = turn_of (entry made ++ behind) frame fs to.world in
      let left_is : left ≡ before_entry ++ (entry made ++ behind)
      = p.left_is ∙ ap (λ ls. ls ++ p.after) a.behind.parts ∙ append_assoc a.own a.more p.after ∙ lines_are in
      let own_is : left ≡ a.own ++ after_lines
      = p.left_is ∙ ap (λ ls. ls ++ p.after) a.behind.parts ∙ append_assoc a.own a.more p.after in
      let short : forms rest ≤ program.most = omega (arith, few, forms_are) in
      does_by program idle start end [] t0
      (ap (λ action. seen_action program action input) step
      ∙ silent_goes program (machine_at program rest (bind_fields fields o.named.fields s.environment) inner frames o.next after)
      input) fit
      (λ fits. by_near program leads.steps leads.cost ((upper program).weight start) (saved s.heap) idle end t0 t1
      (subst (λ ls. Runs (target program) leads.cost leads.steps (turn_of ls s.frame fs s.world) t1) (sym own_is) leads.runs)
      (omega (arith, cheap, within)) (omega (arith, idle_is, forms_are)) fits
      (inr (near_here program rest inner frames after input landed fs (entry made ++ behind) leads.here.follows
      (inr (inr (record {
        x = made;
        y = y;
        fill = fill_there made y rest (subst (λ into. MayFill into y rest) made_is a.filled);
        there = after_lines;
        at = stands_on program code inner frames tokens input s fs left at rest a.own a.more to fs after (fields ++ s.bound)
            (record at.lists { unspent = y ∷ at.lists.unspent }) leads.here leads.left leads.whole leads.function
            (goes_behind (entry made ++ behind) frame owners cells leads after (token o.named.at) step slots_is value token_cells
            stand) short;
        q = o.named.at;
        has = ap (λ (sl : ℕ → ℕ → Slot). sl n y) (sym slots_is) ∙ slot_here n y (token o.named.at) tokens.slots;
        after = behind;
        left_is = refl;
        before = p.before ++ before_entry;
        place = leads.whole ∙ p.place ∙ ap (λ ls. p.before ++ ls) left_is
            ∙ sym (append_assoc p.before before_entry (entry made ++ behind));
        stands = stands_behind p.stands (a.entry_is made made_is);
      }))))))

  -- a cell of one reference: it is the slot's token
  gains : (end : List Line) (frame : Frame Line) (owners : ℕ → Owner) (cells : Cells) → Leads_to end frame owners cells
      → ((after : Tokens) → Steps_to after → slots_with n y (token o.named.at) tokens.slots ≡ after.slots
      → SlotIs s.address (token o.named.at) (frame.cells (v + y))
      → HaveTokenCells program.pool program.layout s.address owners o.next after
      → AllStand program.layout at.shape.standing s.address owners (after.slots n) → Steps_on)
      → count_at s.heap o.named.at ≡ 1
      → HasCell s (opened_to frame owners cells) (v + y) at_name (words_in program.layout s.address o.named.fields)
      (header_of program.layout c) → Steps_on
  gains end frame owners cells leads finishes once has = by (count_at o.next o.named.at) refl
    where
      owns : s.owners at_name ≡ cell_of o.named.at
      owns = at.follows.named o.named.at (omega (arith, once))

      fields_are : fields_held s.heap o.named.at ≡ o.named.fields
      fields_are = named_fields c (length fields) s.heap (value_of s.environment x) o.named o.named_is

      token_same : {q r : ℕ} → token q ≡ token r → q ≡ r
      token_same e = cc e

      aside_apart : (z q : ℕ) → tokens.slots n z ≡ token q → s.address q ≢ at_name
      aside_apart z q is e =
          let both : true ≡ false = sym (token_is_aside z q is) ∙ ap (λ (place : ℕ). is_aside (s.owners place)) e
          ∙ ap is_aside owns in cc both

      plain_mark : (mark : Mark) → tokens.marks o.named.at ≡ mark → tokens.marks o.named.at ≡ plain
      plain_mark plain is = is
      plain_mark (token_of f z) is =
          (let none = at.judged.are.pooled.uncounted f z o.named.at is in absurd (omega (arith, none, once)))

      free_slot : is_linked n y tokens.chain ≡ false
      free_slot = ap (is_linked n y) at.judged.are.chain
          ∙ not_linked tokens.slots at.lists.held at.lists.older y (ap (λ (ys : List ℕ). is_among ys y) a.none_held)

      by : (count : ℕ) → count_at o.next o.named.at ≡ count → Steps_on
      by zero counts =
          let many = frames_many tokens.slots at.lists.older frames at.judged.waiting in
          finishes (gained n y o.named.at tokens)
          (o.step ∙ ap (λ k. goes (machine_at program rest (bind_fields fields o.named.fields s.environment) inner frames o.next
          (opened_tokens k (length frames) y o.named.at tokens))) counts
          ∙ ap (λ f. goes (machine_at program rest (bind_fields fields o.named.fields s.environment) inner frames o.next
          (gained f y o.named.at tokens))) many)
          refl has.value
          (cell_comes at.cells program.aligned n y o.named.at owners o.next (gained n y o.named.at tokens)
          (named_cell program.aligned at.follows o.named.at (omega (arith, once))).cell
          (counted_within s.heap o.named.at 0 once) (plain_mark (tokens.marks o.named.at) refl) refl refl long
          (λ q. recounted_words program.layout s.address s.heap o.next q recounted)
          (subst (λ b. IsTokenCell b (token_words program.layout s.address s.heap o.named.at) (owners at_name))
          (sym free_slot) (
            has.words,
            has.hand,
            subst (AreFrom has.words first_field) (ap (words_in program.layout s.address) (sym fields_are)) has.fields_are,
          ))
          (ap is_aside owns)
          (λ z linked ws differ is. subst (IsTokenCell linked ws)
          (sym (has.aside z differ (token_aside linked ws (s.owners z) is))) is)
          (λ z differ. same_bools (is_aside (owners z)) (is_aside (s.owners z))
          (λ is. sym (ap is_aside (has.was z differ is)) ∙ is) (λ is. ap is_aside (has.aside z differ is) ∙ is)))
          (stand_set program.layout at.shape.standing s.address s.owners owners (tokens.slots n)
          (slots_with n y (token o.named.at) tokens.slots n) y
          (λ q is. let same : o.named.at ≡ q = token_same (sym (slot_here n y (token o.named.at) tokens.slots) ∙ is) in
          subst (λ r. StandsIn program.layout at.shape.standing (owners (s.address r))) same
          (opened_stands program.layout at.shape.standing c (owners at_name) has.words a.is_of has.hand has.count_is has.header_is))
          (λ z differ. slot_there n y n z (token o.named.at) tokens.slots (another n y z differ))
          (λ z q differ is. has.aside (s.address q) (aside_apart z q is) (token_is_aside z q is)) at.stand)
      by (suc k) counts =
          let both : in_hand has.words ≡ cell_of o.named.at = sym has.hand
          ∙ leads.here.follows.named o.named.at (omega (arith, counts)) in cc

  -- a cell of several references: the slot is null
  blanks : (frame : Frame Line) (owners : ℕ → Owner) (cells : Cells) → Leads_to after_lines frame owners cells → 1 ≤ count_at o.next
      o.named.at
      → IsNull s (opened_to frame owners cells) (v + y) → Steps_on
  blanks frame owners cells leads some has = by (count_at o.next o.named.at) refl
    where
      by : (count : ℕ) → count_at o.next o.named.at ≡ count → Steps_on
      by zero counts = absurd (omega (arith, some, counts))
      by (suc k) counts =
          let many = frames_many tokens.slots at.lists.older frames at.judged.waiting in
          let stay = cells_stay at.cells s.address owners o.next (λ f z q is. refl)
          (λ f z q is. recounted_words program.layout s.address s.heap o.next q recounted)
          (λ z linked ws is. subst (IsTokenCell linked ws) (sym (has.aside z (token_aside linked ws (s.owners z) is))) is)
          (λ z. same_bools (is_aside (owners z)) (is_aside (s.owners z))
          (λ is. sym (ap is_aside (has.was z is)) ∙ is) (λ is. ap is_aside (has.aside z is) ∙ is))
          (ap (marked tokens.marks) long) in
          finish frame owners cells leads (blanked n y null tokens) null
          (o.step ∙ ap (λ j. goes (machine_at program rest (bind_fields fields o.named.fields s.environment) inner frames o.next
          (opened_tokens j (length frames) y o.named.at tokens))) counts
          ∙ ap (λ f. goes (machine_at program rest (bind_fields fields o.named.fields s.environment) inner frames o.next
          (blanked f y null tokens))) many)
          refl has.value (record { are = stay.are; apart = stay.apart; number = stay.number })
          (stand_set program.layout at.shape.standing s.address s.owners owners (tokens.slots n)
          (slots_with n y null tokens.slots n) y
          (λ q is. let both : null ≡ token q = sym (slot_here n y null tokens.slots) ∙ is in cc both)
          (λ z differ. slot_there n y n z null tokens.slots (another n y z differ))
          (λ z q differ is. has.aside (s.address q) (token_is_aside z q is)) at.stand)

  pub steps_opening : Steps_on
  steps_opening =
      let p = at.does.placed in
      let known = known_of program at.shape in
      let counts = (fit 0).bare.counts (bare code) s.environment (map bare_join inner) refl in
      let here : Here known s = record { follows = at.follows; values = at.has.values } in
      let reads : IsReading known s x c fields o.named = record {
        bound = a.bound;
        is = o.named_is;
        below = below_more v (at.shape.variables + at.shape.slots) fields (omega arith) a.below;
        apart = a.apart;
        kinds = marks_are at.shape.holds fields (field_marks program.marks c) a.kinds ∙ sym (program.fields_are c);
        older = (fit 0).bare.sound.older;
      } in
      let few_used = filter_length (is_among used) fields in
      let most = few_fields at.shape.holds c fields a.kinds in
      let after = a.more ++ p.after in
      let low = a.slot in
      let token_low : v + y < at.shape.variables + at.shape.slots = omega arith in
      let spare = none_behind (bound_list fields s.bound) v y (below_list v fields s.bound a.below at.has.below) in
      let first = head_lines known after fs s x c fields used p.low (p.low + 1) (p.low + 2) (v + y) a.into a.own o.named o.next here
      reads
      a.fields_apart token_low spare a.uniques in
      let second = for_second known after fs s x c fields used p.low (p.low + 1) (p.low + 2) (v + y) a.into a.own o.named o.next
      here reads
      a.fields_apart token_low spare a.uniques in
      let second_rest = second_lines known after fs s x c fields used p.low (p.low + 1) (p.low + 2) (v + y) a.into a.own o.named
      o.next here reads
      a.fields_apart token_low spare a.uniques in
      let behind = acts (Label (p.low + 1)) [] ∷ after in
      let whole : a.own ++ after_lines ≡ first ++ (second ++ behind)
      = whole_lines known after fs s x c fields used p.low (p.low + 1) (p.low + 2) (v + y) a.into a.own o.named o.next here reads
      a.fields_apart token_low spare a.uniques in
      let is : left ≡ first ++ (second ++ behind)
      = p.left_is ∙ ap (λ own. own ++ p.after) a.behind.parts ∙ append_assoc a.own a.more p.after ∙ whole in
      let second_at : s.frame.whole ≡ (p.before ++ first) ++ (second ++ behind)
      = p.place ∙ ap (λ ls. p.before ++ ls) is ∙ sym (append_assoc p.before first (second ++ behind)) in
      let behind_at : s.frame.whole ≡ ((p.before ++ first) ++ second) ++ behind
      = second_at ∙ sym (append_assoc (p.before ++ first) second behind) in
      let opened = opens_to_token known after fs s x c fields used p.low (p.low + 1) (p.low + 2) (v + y) a.into a.own o.named o.next
      here reads
      a.fields_apart token_low spare a.uniques o.next_is (λ name. let small = counts name in omega arith)
      (finds p.low s.frame.whole (p.before ++ first) (second_rest ++ behind) at.has.formed second_at)
      (finds (p.low + 1) s.frame.whole ((p.before ++ first) ++ second) after at.has.formed behind_at) in
      let base = at.shape.variables + at.shape.slots in
      let alone = alone_lines at.shape.holds x fields used (v + y) a.uniques.1 in
      let lowered = a.uniques.2 ∷ computes (Op.Immediate Addi a.uniques.3) (base ∷ []) base ∷ a.uniques.4 ∷ [] in
      let shared = shared_lines at.shape.holds fields used (v + y) a.uniques.1 lowered in
      let before = λ (condition : Condition) (ls : List Line). a.uniques.0 ∷ sets 1 (base + 1)
      ∷ acts (Branch condition p.low) (base ∷ (base + 1) ∷ []) ∷ ls in
      let entered : (made : ℕ) → a.into ≡ Some made → a.own ++ after_lines ≡ before_entry ++ (entry made ++ (second ++ behind))
      = λ made made_is. whole
      ∙ ap (λ into. before (goes_second into) ((first_way into alone shared
      ++ leaving_lines into (v + y) (p.low + 1) (p.low + 2)) ++ (second ++ behind))) made_is
      ∙ ap (before NotEqual) (append_assoc alone (entry made) (second ++ behind)) in
      by (second ++ behind) entered opened.0 opened.1 opened.2 (count_at s.heap o.named.at) a.into opened.3 refl refl o.next_is
      opened.4
    where
      few_fields : (holds : ℕ → Bool) (k : ℕ) (xs : List ℕ) → HaveMarks holds xs (field_marks program.marks k) → length xs ≤ greatest_of Fields
      few_fields holds k xs have =
          let same : length xs ≡ length (program.layout.fields k)
          = sym (length-map xs holds) ∙ ap length (marks_are holds xs (field_marks program.marks k) have
          ∙ sym (program.fields_are k)) in
          let few = program.narrow.few k in
          omega arith

      by : (others : List Line)
          → ((made : ℕ) → a.into ≡ Some made → a.own ++ after_lines ≡ before_entry ++ (entry made ++ others))
          → (frame : Frame Line) (owners : ℕ → Owner) (cells : Cells) (count : ℕ) (into : Option ℕ)
          → Leads_to (comes_to count into (v + y) (at.does.placed.low + 2) after_lines others) frame owners cells
          → count_at s.heap o.named.at ≡ count → a.into ≡ into
          → unique_heap count o.named.at (used_values used fields o.named.fields) (other_values used fields o.named.fields) s.heap
          ≡ Some o.next
          → TokenIs count s (opened_to frame owners cells) (v + y) at_name (words_in program.layout s.address o.named.fields)
          (header_of program.layout c) → Steps_on
      by others are frame owners cells zero into leads counts same given is = absurd is
      by others are frame owners cells (suc zero) None leads counts same given is =
          gains after_lines frame owners cells leads
          (λ after step slots value token_cells stand. finish frame owners cells leads after (token o.named.at) step slots value
          token_cells stand) counts is
      by others are frame owners cells (suc zero) (Some made) leads counts same given is =
          gains (entry made ++ others) frame owners cells leads
          (finish_filling made others same (are made same) frame owners cells leads) counts is
      by others are frame owners cells (suc (suc m)) into leads counts same given is =
          blanks frame owners cells leads
          (shared_counted m o.named.at (used_values used fields o.named.fields) (other_values used fields o.named.fields) s.heap
          o.next counts given) is

pub at_unique : (program : Lowering) (x c : ℕ) (fields used : List ℕ) (y : ℕ) (rest : Tokened)
    → CodeSteps program (Tokened.if_unique x c fields used y rest)
at_unique program x c fields used y rest idle inner frames tokens input s fs left idle_is at fit =
    let p = at.does.placed in
    let code = Tokened.if_unique x c fields used y rest in
    let from = machine_at program code s.environment inner frames s.heap tokens in
    let opens = λ (m : Named). unique_heap (count_at s.heap m.at) m.at (used_values used fields m.fields)
    (other_values used fields m.fields) s.heap in
    let there = opening_there (cell_named c (length fields) s.heap (value_of s.environment x)) opens fields y rest s.environment
    inner from input (fit 1).bare.going in
    steps_opening program code x c fields used y rest idle inner frames tokens input s fs left idle_is at fit
    (opening_of program code x c fields used y rest inner frames tokens input s fs left at refl refl refl p.lines refl p.marked
    p.numbered p.has p.keeps at.judged.spends.0 (λ next is. is) refl)
    (opens_there program code x c fields used y rest inner frames tokens input s fs left at opens there refl there.next_is)

-- An opening that does not go by the count gives up the reference to the cell when the fields in use have one more. The heap is
-- sound before and behind it: so its heap is that of an opening by the count.
pub at_open : (program : Lowering) (x c : ℕ) (fields used : List ℕ) (y : ℕ) (rest : Tokened)
    → CodeSteps program (Tokened.open_cell x c fields used y rest)
at_open program x c fields used y rest idle inner frames tokens input s fs left idle_is at fit =
    let p = at.does.placed in
    let code = Tokened.open_cell x c fields used y rest in
    let from = machine_at program code s.environment inner frames s.heap tokens in
    let opens = λ (m : Named). opened_heap m.at (used_values used fields m.fields) s.heap in
    let there = opening_there (cell_named c (length fields) s.heap (value_of s.environment x)) opens fields y rest s.environment
    inner from input (fit 1).bare.going in
    let cell = cell_is c (length fields) s.heap (value_of s.environment x) there.named there.named_is in
    let sound = subst (λ (action : Action TokenConfiguration). (owned : List Value)
    × IsSound owned (performed action input).1.machine.heap) there.step ((fit 1).bare.owned, (fit 1).bare.sound) in
    steps_opening program code x c fields used y rest idle inner frames tokens input s fs left idle_is at fit
    (opening_of program code x c fields used y rest inner frames tokens input s fs left at refl refl refl p.lines refl p.marked
    p.numbered p.has p.keeps at.judged.spends.0 (λ next is. is) refl)
    (opens_there program code x c fields used y rest inner frames tokens input s fs left at opens there refl
    (opens_by_count there.named.at (used_values used fields there.named.fields) (other_values used fields there.named.fields)
    (fit 0).bare.owned sound.0 s.heap there.next (fit 0).bare.sound sound.1 there.next_is
    (λ q. ap (λ vs. refs vs q) cell.fields ∙ fields_part used fields there.named.fields q cell.many)))
