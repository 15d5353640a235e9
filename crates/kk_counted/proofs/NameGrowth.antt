-- What a step does to the names in use: none is new but that of a new cell, for which there is room.
use Rattle.std.proofs.Common.{◌≡◌, ℕ, zero, suc, ◌≤◌, ◌==◌, Bool, true, false, List, [], ◌∷◌, map, length, Option, Some, None, arith, refl, sym, ap, ◌∙◌, subst}
use Rattle.std.specs.Prelude.{if◌then◌else◌, nat_le, slice_get}
use Rattle.kk_syntax.specs.declared.program.Form.{Form}
use Rattle.kk_syntax.specs.declared.program.Form.TheVariants.{Number, Unit as Nothing, ReadByte, PrintText, Unary, Binary, Print, Construct, Call}
use Rattle.kk_syntax.specs.Programs.{text_at}
use Rattle.kk_syntax.specs.Shapes.{is_among, without}
use Rattle.std.specs.Fmt.{signed_decimal}
use Rattle.kk_source.specs.State.{Value, unit, Environment, stack_full}
use Rattle.kk_source.specs.Live.{value_of}
use Rattle.kk_source.specs.Matching.{and_then}
use Rattle.kk_source.specs.Actions.{Action, goes, print_step}
use Rattle.kk_source.specs.FormEffects.{integer_of, argument, piece_of}
use Rattle.kk_core.specs.CoreMachine.{bind_fields}
use Rattle.kk_core.specs.Decisions.{chosen}
use Rattle.kk_counted.specs.Heaps.{Heap, count_at, cell_at, fields_held, dup_value, drop_value}
use Rattle.kk_counted.specs.CountedMachine.{Named, cell_named, used_values, other_values, opened_heap, unique_heap}
use Rattle.kk_counted.specs.TokenedCodes.{Tokened, TokenedFunction}
use Rattle.kk_counted.specs.Tokens.{Link, Slot, spent, null, token, Mark, plain, token_of, Tokens, marks_with, blanked, released, gained, opened_tokens, by_slot, freed, moved, held, is_linked, unlinked, with_chain, hold_link, unheld, Room, request, is_of}
use Rattle.kk_counted.specs.TokenStates.{TokenSetting, TokenJoin, TokenFrame, TokenControl, TokenConfiguration}
use Rattle.kk_counted.specs.TokenMachine.{at_code, bound_to, to_heap, to_tokens, in_body, tokened_arm_at, token_case_step, token_give_step, token_tail_step, token_read_step, to_opened, token_open_step, make_step, fill_step, filled, token_call_step, token_form_step, token_code_step}
use Rattle.kk_counted.specs.TokenSpending.{AreSame, AtForm}
use Rattle.kk_counted.specs.TokenKeeping.{IsJudged, Lists}
use Rattle.kk_counted.specs.TokenRuns.{AllLead}
use Rattle.kk_counted.specs.NumberedPool.{is_alive, Growth, stays, grows}
use Rattle.kk_counted.proofs.CountChanges.{same}
use Rattle.kk_counted.proofs.HeapChanges.{Eased, EasedTo, eased_dup, eased_drop, eased_opening, eased_unique}
use Rattle.kk_counted.proofs.SlotMarks.{released_room, by_null, by_cell}
use Rattle.kk_counted.proofs.FillSteps.{fill_null, fill_cell}
use Rattle.kk_counted.proofs.TokenChain.{frames_many}
use Rattle.kk_counted.proofs.CellRequests.{Asked, full, served, asked, fewer_marks}
use Rattle.kk_counted.proofs.TokenForms.{AreNow, Has, is_null, has_cell, unspent_has, spent_null_now}
use Rattle.kk_counted.proofs.TokenSteps.{now_of}
use Rattle.kk_counted.proofs.SoundSteps.{NamedCell, OnNamed, named_cell}
use Rattle.kk_counted.proofs.NameAssignment.{Alive, by_references, by_token as by_mark, alive_is, is_alive_by}

-- names in use after a change of counts and marks, each of which was so before
fewer_by : (heap after : Heap) (marks others : ℕ → Mark) → ((p : ℕ) → Alive after others p → Alive heap marks p) → (p : ℕ)
    → is_alive after others p ≡ true → is_alive heap marks p ≡ true
fewer_by heap after marks others each p alive = is_alive_by heap marks p (each p (alive_is after others p alive))

-- a cell that is counted after was counted before
counted_before : (heap after : Heap) (p : ℕ) → Eased heap after → 1 ≤ count_at after p → 1 ≤ count_at heap p
counted_before heap after p eased one = by_number (count_at heap p) refl
  where
    by_number : (count : ℕ) → count_at heap p ≡ count → 1 ≤ count_at heap p
    by_number zero is = absurd (omega (arith, eased.zeros p is, one))
    by_number (suc count) is = omega (arith, is)

eased_alive : (heap after : Heap) (marks : ℕ → Mark) → Eased heap after → (p : ℕ) → Alive after marks p → Alive heap marks p
eased_alive heap after marks eased p (by_references one) = by_references (counted_before heap after p eased one)
eased_alive heap after marks eased p (by_mark f y marked_is less) = by_mark f y marked_is (omega (arith, less, eased.many))

marks_alive : (heap : Heap) (marks others : ℕ → Mark) → ((p f y : ℕ) → others p ≡ token_of f y → marks p ≡ token_of f y) → (p : ℕ)
    → Alive heap others p → Alive heap marks p
marks_alive heap marks others fewer p (by_references one) = by_references one
marks_alive heap marks others fewer p (by_mark f y marked_is less) = by_mark f y (fewer p f y marked_is) less

module _ (setting : TokenSetting) (environment : Environment) (joins : List TokenJoin) (from : TokenConfiguration) where
  give_grows : (v : Value) (js : List TokenJoin) (frames : List TokenFrame)
      → AllLead (Growth setting.cells from) (token_give_step v js frames environment from)
  give_grows v (join ∷ js) frames = stays refl (λ p alive. alive)
  give_grows v [] (frame ∷ frames) = stays refl (λ p alive. alive)
  give_grows v [] [] = stays refl (λ p alive. alive)

  tail_grows : (found : Option TokenedFunction) (values : List Value)
      → AllLead (Growth setting.cells from) (token_tail_step found values from)
  tail_grows None values = stays refl (λ p alive. alive)
  tail_grows (Some function) values = stays refl (λ p alive. alive)

  case_grows : (found : Option Tokened) → AllLead (Growth setting.cells from) (token_case_step found environment joins from)
  case_grows None = stays refl (λ p alive. alive)
  case_grows (Some body) = stays refl (λ p alive. alive)

  read_grows : (found : Option Named) (fields : List ℕ) (rest : Tokened)
      → AllLead (Growth setting.cells from) (token_read_step found fields rest environment joins from)
  read_grows None fields rest = stays refl (λ p alive. alive)
  read_grows (Some named) fields rest = stays refl (λ p alive. alive)

  print_grows : (piece : List ℕ) (to : TokenConfiguration) → Growth setting.cells from to
      → AllLead (Growth setting.cells from) (print_step piece to)
  print_grows [] to grown = grown
  print_grows (byte ∷ bytes) to grown = grown

  call_grows : (found : Option TokenedFunction) (values : List Value) (waiting : TokenFrame)
      → AllLead (Growth setting.cells from) (token_call_step setting found values waiting from)
  call_grows None values waiting = stays refl (λ p alive. alive)
  call_grows (Some function) values waiting = by_test (nat_le setting.depth (suc (length from.frames)))
    where
      by_test : (t : Bool) → Growth setting.cells from
          (if t then record from { control = TokenControl.stopped stack_full } else in_body function values
          (record from { frames = waiting ∷ from.frames }))
      by_test true = stays refl (λ p alive. alive)
      by_test false = stays refl (λ p alive. alive)

  heap_grows : (result : Option Heap) (rest : Tokened) → EasedTo from.heap result
      → AllLead (Growth setting.cells from) (goes (to_heap result from (at_code rest environment joins from)))
  heap_grows None rest eased = stays refl (λ p alive. alive)
  heap_grows (Some heap) rest eased =
      stays eased.cells (fewer_by from.heap heap from.tokens.marks from.tokens.marks
      (eased_alive from.heap heap from.tokens.marks eased))

  open_grows : (count : ℕ) (v : Value) (found : Option Named) (heap : Named → Option Heap) (fields : List ℕ) (y : ℕ)
      (rest : Tokened) → OnNamed (NamedCell from.heap v count) found
      → ((named : Named) → EasedTo from.heap (heap named))
      → AllLead (Growth setting.cells from) (token_open_step found heap fields y rest environment joins from)
  open_grows count v None heap fields y rest cell eased = stays refl (λ p alive. alive)
  open_grows count v (Some named) heap fields y rest cell eased = opened (heap named) (eased named)
    where
      gained_before : (after : Heap) → Eased from.heap after → (p : ℕ)
          → Alive after (marks_with named.at (token_of (length from.frames) y) from.tokens.marks) p
          → Alive from.heap from.tokens.marks p
      gained_before after less p (by_references one) = by_references (counted_before from.heap after p less one)
      gained_before after less p (by_mark f z marked_is there) = by_test (p == named.at) refl
        where
          by_test : (t : Bool) → (p == named.at) ≡ t → Alive from.heap from.tokens.marks p
          by_test true test = by_references (omega (arith, cell.counted, ap (count_at from.heap) (same p named.at test)))
          by_test false test =
              by_mark f z (sym (ap (λ b. if b then token_of (length from.frames) y else from.tokens.marks p) test) ∙ marked_is)
              (omega (arith, there, less.many))

      opened_before : (number : ℕ) (after : Heap) → Eased from.heap after → (p : ℕ)
          → Alive after (opened_tokens number (length from.frames) y named.at from.tokens).marks p
          → Alive from.heap from.tokens.marks p
      opened_before zero after less p alive = gained_before after less p alive
      opened_before (suc number) after less p alive = eased_alive from.heap after from.tokens.marks less p alive

      opened : (result : Option Heap) → EasedTo from.heap result
          → Growth setting.cells from (to_opened result named.at y from
          (at_code rest (bind_fields fields named.fields environment) joins from))
      opened None less = stays refl (λ p alive. alive)
      opened (Some after) less =
          stays less.cells (fewer_by from.heap after from.tokens.marks
          (opened_tokens (count_at after named.at) (length from.frames) y named.at from.tokens).marks
          (opened_before (count_at after named.at) after less))

  made_grows : (x c : ℕ) (fields : List Value) (rest : Tokened) (before : Tokens) (older : List (List ℕ)) (result : Room)
      → ((p f y : ℕ) → before.marks p ≡ token_of f y → from.tokens.marks p ≡ token_of f y)
      → Asked setting.cells from.heap before ([] ∷ older) result
      → AllLead (Growth setting.cells from) (make_step result c fields (λ v. bound_to x v rest environment joins from) from)
  made_grows x c fields rest before older result fewer (full filled is) = rw is (stays refl (λ p alive. alive))
  made_grows x c fields rest before older result fewer (served after is good) =
      rw is
      (grows (record { count = 1; cell = record { made_by = c; fields = fields } }) refl
      (fewer_by from.heap from.heap from.tokens.marks after.marks
      (marks_alive from.heap from.tokens.marks after.marks (λ p f y marked_is. fewer p f y (good.fewer p f y marked_is))))
      good.room)

  tokens_grow : (result : Option Tokens) (after : Tokens) (rest : Tokened) → result ≡ Some after
      → ((p : ℕ) → Alive from.heap after.marks p → Alive from.heap from.tokens.marks p)
      → AllLead (Growth setting.cells from) (goes (to_tokens result from (at_code rest environment joins from)))
  tokens_grow result after rest is fewer = rw is (stays refl (fewer_by from.heap from.heap from.tokens.marks after.marks fewer))

  module _ (lists : Lists) (now : AreNow setting.cells lists.unspent lists.older from.frames from.heap from.tokens) where
    many : length from.frames ≡ length lists.older
    many = frames_many from.tokens.slots lists.older from.frames now.waiting

    has_slot : (y : ℕ) → is_among lists.unspent y ≡ true → Has (from.tokens.slots (length lists.older) y)
    has_slot y among = unspent_has (from.tokens.slots (length lists.older) y) (now.slots_are y ∙ among)

    released_before : (y p : ℕ) (slot : Slot) (q : ℕ) → Alive from.heap (released (length lists.older) y p slot from.tokens).marks q
        → Alive from.heap from.tokens.marks q
    released_before y p slot =
        marks_alive from.heap from.tokens.marks (marks_with p plain from.tokens.marks)
        (λ q f z is. fewer_marks p q f z from.tokens.marks is (q == p) refl)

    fill_grows : (x y c : ℕ) (fields : List Value) (kept others : List ℕ) (rest : Tokened) → is_among lists.unspent y ≡ true
        → AreSame others (without (y ∷ []) lists.unspent)
        → AllLead (Growth setting.cells from) (fill_step setting y c fields kept others
        (λ v. bound_to x v rest environment joins from) from)
    fill_grows x y c fields kept others rest among all = by_has (has_slot y among)
      where
        by_has : Has (from.tokens.slots (length lists.older) y)
            → AllLead (Growth setting.cells from) (fill_step setting y c fields kept others
            (λ v. bound_to x v rest environment joins from) from)
        by_has (is_null is) =
            let after = spent_null_now setting.cells lists.unspent lists.older from.frames from.heap from.tokens now y is in
            subst (λ (act : Action TokenConfiguration). AllLead (Growth setting.cells from) act)
            (sym (fill_null setting y c fields kept others (λ v. bound_to x v rest environment joins from) from (length lists.older) many is))
            (made_grows x c fields rest (blanked (length lists.older) y spent from.tokens) lists.older
            (request setting.cells others (length lists.older) from.heap (blanked (length lists.older) y spent from.tokens))
            (λ p f z marked_is. marked_is)
            (asked setting.cells (without (y ∷ []) lists.unspent) others lists.older from.frames from.heap
            (blanked (length lists.older) y spent from.tokens) after.are after.waiting after.slots_are all))
        by_has (has_cell p is) =
            subst (λ (act : Action TokenConfiguration). AllLead (Growth setting.cells from) act)
            (sym (fill_cell setting y c fields kept others (λ v. bound_to x v rest environment joins from) from (length lists.older) many p now.are.pooled is))
            (grows (record {
              count = 1;
              cell = record
                  { made_by = c; fields = filled setting.leaves kept (fields_held from.heap p) fields };
            }) refl
            (fewer_by from.heap from.heap from.tokens.marks (released (length lists.older) y p spent from.tokens).marks
            (released_before y p spent))
            (omega (
              arith,
              released_room setting.cells (length lists.older) y p spent from.heap from.tokens is now.are.pooled,
              now.are.pooled.room,
            )))

    free_grows : (y : ℕ) (rest : Tokened) → is_among lists.unspent y ≡ true
        → AllLead (Growth setting.cells from) (goes
        (to_tokens (freed (length from.frames) y from.tokens) from (at_code rest environment joins from)))
    free_grows y rest among = by_has (has_slot y among)
      where
        by_has : Has (from.tokens.slots (length lists.older) y)
            → AllLead (Growth setting.cells from) (goes
            (to_tokens (freed (length from.frames) y from.tokens) from (at_code rest environment joins from)))
        by_has (is_null is) =
            tokens_grow (freed (length from.frames) y from.tokens) (blanked (length lists.older) y spent from.tokens) rest
            (ap (λ d. freed d y from.tokens) many
            ∙ by_null setting.cells None (Some (blanked (length lists.older) y spent from.tokens))
            (λ p. Some (released (length lists.older) y p spent from.tokens)) (length lists.older) y from.tokens is)
            (λ p alive. alive)
        by_has (has_cell p is) =
            tokens_grow (freed (length from.frames) y from.tokens) (released (length lists.older) y p spent from.tokens) rest
            (ap (λ d. freed d y from.tokens) many
            ∙ by_cell setting.cells None (Some (blanked (length lists.older) y spent from.tokens))
            (λ p. Some (released (length lists.older) y p spent from.tokens)) (length lists.older) y p from.heap from.tokens
            now.are.pooled is)
            (released_before y p spent)

    move_grows : (to of : ℕ) (rest : Tokened) → is_among lists.unspent of ≡ true
        → AllLead (Growth setting.cells from) (goes
        (to_tokens (moved (length from.frames) to of from.tokens) from (at_code rest environment joins from)))
    move_grows to of rest among = by_has (has_slot of among)
      where
        nothing : Tokens
        nothing = blanked (length lists.older) of spent from.tokens

        from_cell : ℕ → Tokens
        from_cell p = released (length lists.older) of p spent from.tokens

        -- the cell that moves was a token before
        moved_before : (p : ℕ) → from.tokens.slots (length lists.older) of ≡ token p → (q : ℕ)
            → Alive from.heap (marks_with p (token_of (length lists.older) to) (marks_with p plain from.tokens.marks)) q
            → Alive from.heap from.tokens.marks q
        moved_before p is q (by_references one) = by_references one
        moved_before p is q (by_mark f z marked_is less) = by_test (q == p) refl
          where
            by_test : (t : Bool) → (q == p) ≡ t → Alive from.heap from.tokens.marks q
            by_test true test =
                by_mark (length lists.older) of (ap from.tokens.marks (same q p test) ∙ now.are.pooled.marks (length lists.older) of
                p is) less
            by_test false test =
                by_mark f z
                (fewer_marks p q f z from.tokens.marks
                (sym (ap (λ b. if b then token_of (length lists.older) to else marks_with p plain from.tokens.marks q) test)
                ∙ marked_is) (q == p) refl)
                less

        by_has : Has (from.tokens.slots (length lists.older) of)
            → AllLead (Growth setting.cells from) (goes
            (to_tokens (moved (length from.frames) to of from.tokens) from (at_code rest environment joins from)))
        by_has (is_null is) =
            tokens_grow (moved (length from.frames) to of from.tokens) (blanked (length lists.older) to null nothing) rest
            (ap (λ d. moved d to of from.tokens) many
            ∙ by_null setting.cells None (Some (blanked (length lists.older) to null nothing))
            (λ p. Some (gained (length lists.older) to p (from_cell p))) (length lists.older) of from.tokens is)
            (λ p alive. alive)
        by_has (has_cell p is) =
            tokens_grow (moved (length from.frames) to of from.tokens) (gained (length lists.older) to p (from_cell p)) rest
            (ap (λ d. moved d to of from.tokens) many
            ∙ by_cell setting.cells None (Some (blanked (length lists.older) to null nothing))
            (λ p. Some (gained (length lists.older) to p (from_cell p))) (length lists.older) of p from.heap from.tokens
            now.are.pooled is)
            (moved_before p is)

  -- a change of the chain alone
  chain_grows : (result : Option Tokens) (rest : Tokened)
      → ((after : Tokens) → result ≡ Some after → after.marks ≡ from.tokens.marks)
      → AllLead (Growth setting.cells from) (goes (to_tokens result from (at_code rest environment joins from)))
  chain_grows None rest equal = stays refl (λ p alive. alive)
  chain_grows (Some after) rest equal =
      stays refl (λ p alive. subst (λ marks. is_alive from.heap marks p ≡ true) (equal after refl) alive)

  -- what is made of the same tokens with another chain, if anything
  abbrev SameMarks : Option Tokens → Type 0
  SameMarks result = (after : Tokens) → result ≡ Some after → after.marks ≡ from.tokens.marks

  other_chain : (links : List Link) → SameMarks (Some (record from.tokens { chain = links }))
  other_chain links after is = let equal : record from.tokens { chain = links } ≡ after = cc in sym (ap (λ (t : Tokens). t.marks) equal)

  hold_marks : (d y : ℕ) → SameMarks (hold_link d y from.tokens)
  hold_marks d y = by_test (is_linked d y from.tokens.chain)
    where
      by_test : (t : Bool)
          → SameMarks (if t then None else Some (record from.tokens { chain = record { frame = d; slot = y } ∷ from.tokens.chain }))
      by_test true after is = absurd (cc)
      by_test false after is = other_chain (record { frame = d; slot = y } ∷ from.tokens.chain) after is

  chain_marks : (links : Option (List Link)) → SameMarks (with_chain from.tokens links)
  chain_marks None after is = absurd (cc)
  chain_marks (Some links) after is = other_chain links after is

  same_marks : (d y : ℕ) (slot : Slot) (result : Option Tokens) → SameMarks result
      → SameMarks (by_slot None (Some from.tokens) (λ p. result) d y slot from.tokens.marks)
  same_marks d y spent result each after is = absurd (cc)
  same_marks d y null result each after is = let equal : from.tokens ≡ after = cc in sym (ap (λ (t : Tokens). t.marks) equal)
  same_marks d y (token p) result each after is = by_test (is_of d y (from.tokens.marks p)) is
    where
      by_test : (t : Bool) → (if t then result else None) ≡ Some after → after.marks ≡ from.tokens.marks
      by_test true is = each after is
      by_test false is = absurd (cc)

  form_grows : (lists : Lists) (form : Form) (arguments others : List ℕ) (x : ℕ) (rest code : Tokened)
      → AtForm form arguments others lists.unspent lists.held
      → IsJudged setting.cells lists.left lists.unspent lists.held lists.older code joins from.frames from.heap from.tokens
      → AllLead (Growth setting.cells from) (token_form_step setting form (map (value_of environment) arguments) x others rest
      environment joins from)
  form_grows lists (Number n) arguments others x rest code at_form judged = stays refl (λ p alive. alive)
  form_grows lists Nothing arguments others x rest code at_form judged = stays refl (λ p alive. alive)
  form_grows lists ReadByte arguments others x rest code at_form judged = λ byte. stays refl (λ p alive. alive)
  form_grows lists (PrintText form text) arguments others x rest code at_form judged =
      print_grows (piece_of form (text_at setting.program.texts text)) (bound_to x unit rest environment joins from)
      (stays refl (λ p alive. alive))
  form_grows lists (Unary operator) arguments others x rest code at_form judged = stays refl (λ p alive. alive)
  form_grows lists (Binary operator) arguments others x rest code at_form judged = stays refl (λ p alive. alive)
  form_grows lists (Print form) arguments others x rest code at_form judged =
      print_grows (piece_of form (signed_decimal (integer_of (argument 0 (map (value_of environment) arguments)))))
      (bound_to x unit rest environment joins from) (stays refl (λ p alive. alive))
  form_grows lists (Construct c) [] others x rest code at_form judged = stays refl (λ p alive. alive)
  form_grows lists (Construct c) (first ∷ arguments) others x rest code at_form judged =
      let now = now_of setting.cells lists.left lists.unspent lists.held lists.older code joins from.frames from.heap from.tokens
      at_form.0 judged in
      made_grows x c (map (value_of environment) (first ∷ arguments)) rest from.tokens lists.older
      (request setting.cells others (length from.frames) from.heap from.tokens) (λ p f y is. is)
      (subst (λ d. Asked setting.cells from.heap from.tokens ([] ∷ lists.older)
      (request setting.cells others d from.heap from.tokens))
      (sym (frames_many from.tokens.slots lists.older from.frames now.waiting))
      (asked setting.cells lists.unspent others lists.older from.frames from.heap from.tokens now.are now.waiting now.slots_are
      at_form.1.1))
  form_grows lists (Call f) arguments others x rest code at_form judged =
      call_grows (slice_get setting.program.functions f) (map (value_of environment) arguments)
      (record { variable = x; rest = rest; joins = joins; environment = environment })

  pub step_grows : (lists : Lists) (code : Tokened)
      → IsJudged setting.cells lists.left lists.unspent lists.held lists.older code joins from.frames from.heap from.tokens
      → AllLead (Growth setting.cells from) (token_code_step setting code environment joins from)
  step_grows lists (Tokened.give x) judged = give_grows (value_of environment x) joins from.frames
  step_grows lists (Tokened.tail_call f arguments) judged =
      tail_grows (slice_get setting.program.functions f) (map (value_of environment) arguments)
  step_grows lists (Tokened.case x decisions arms) judged =
      case_grows (and_then (chosen (cell_at from.heap) (value_of environment x) decisions) (tokened_arm_at arms))
  step_grows lists (Tokened.inside x block rest) judged = stays refl (λ p alive. alive)
  step_grows lists (Tokened.read x c fields rest) judged =
      read_grows (cell_named c (length fields) from.heap (value_of environment x)) fields rest
  step_grows lists (Tokened.open_cell x c fields used y rest) judged =
      open_grows (length fields) (value_of environment x) (cell_named c (length fields) from.heap (value_of environment x))
      (λ named. opened_heap named.at (used_values used fields named.fields) from.heap) fields y rest
      (named_cell c (length fields) from.heap (value_of environment x))
      (λ named. eased_opening named.at (used_values used fields named.fields) from.heap)
  step_grows lists (Tokened.if_unique x c fields used y rest) judged =
      open_grows (length fields) (value_of environment x) (cell_named c (length fields) from.heap (value_of environment x))
      (λ named. unique_heap (count_at from.heap named.at) named.at (used_values used fields named.fields)
      (other_values used fields named.fields) from.heap) fields y rest
      (named_cell c (length fields) from.heap (value_of environment x))
      (λ named. eased_unique (count_at from.heap named.at) named.at (used_values used fields named.fields)
      (other_values used fields named.fields) from.heap refl)
  step_grows lists (Tokened.dup x rest) judged =
      heap_grows (dup_value (value_of environment x) from.heap) rest (eased_dup (value_of environment x) from.heap)
  step_grows lists (Tokened.drop x rest) judged =
      heap_grows (drop_value (value_of environment x) from.heap) rest (eased_drop (value_of environment x) from.heap)
  step_grows lists (Tokened.null y rest) judged = stays refl (λ p alive. alive)
  step_grows lists (Tokened.if_token y there absent) judged = stays refl (λ p alive. alive)
  step_grows lists (Tokened.fill x y c first arguments kept others rest) judged =
      fill_grows lists (now_of setting.cells lists.left lists.unspent lists.held lists.older
      (Tokened.fill x y c first arguments kept others rest) joins from.frames from.heap from.tokens judged.spends.0 judged)
      x y c (map (value_of environment) (first ∷ arguments)) kept others rest judged.spends.1.0 judged.spends.1.1.1.0
  step_grows lists (Tokened.free y rest) judged =
      free_grows lists (now_of setting.cells lists.left lists.unspent lists.held lists.older (Tokened.free y rest) joins from.frames
      from.heap from.tokens judged.spends.0 judged) y rest judged.spends.1.0
  step_grows lists (Tokened.move to of rest) judged =
      move_grows lists (now_of setting.cells lists.left lists.unspent lists.held lists.older (Tokened.move to of rest) joins
      from.frames from.heap from.tokens judged.spends.0 judged) to of rest judged.spends.1.0
  step_grows lists (Tokened.hold y rest) judged =
      chain_grows (held (length from.frames) y from.tokens) rest
      (same_marks (length from.frames) y (from.tokens.slots (length from.frames) y) (hold_link (length from.frames) y from.tokens)
      (hold_marks (length from.frames) y))
  step_grows lists (Tokened.unhold y rest) judged =
      chain_grows (unheld (length from.frames) y from.tokens) rest
      (same_marks (length from.frames) y (from.tokens.slots (length from.frames) y)
      (with_chain from.tokens (unlinked (length from.frames) y from.tokens.chain))
      (chain_marks (unlinked (length from.frames) y from.tokens.chain)))
  step_grows lists (Tokened.compute x form arguments others rest) judged =
      form_grows lists form arguments others x rest (Tokened.compute x form arguments others rest) judged.spends.0 judged
