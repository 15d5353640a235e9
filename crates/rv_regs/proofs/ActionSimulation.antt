-- The placed form's machine follows the assembler form's, one lemma an action.
use Rattle.std.proofs.Common.{◌≡◌, ◌≢◌, ◌==◌, ◌⊎◌, ℕ, suc, List, [], ◌∷◌, Option, Some, None, Bool, true, false, cond, All, slice_get, length, nat_le, refl, sym, ◌∙◌, ap, subst, inl, inr, map, option_map}
use Rattle.std.proofs.lemmas.Bool.{and_parts}
use Rattle.std.proofs.lemmas.List.Elements.{All-head}
use Rattle.rv_isa.specs.declared.asm.Action.{Action}
use Rattle.rv_isa.specs.declared.asm.Action.TheVariants.{Compute, Label, Jump, Branch, Call, TailCall, Return, Routine, Hold, Unhold, Room}
use Rattle.rv_isa.specs.declared.asm.Operation.{Operation}
use Rattle.rv_isa.specs.declared.asm.Condition.{Condition}
use Rattle.rv_isa.specs.declared.routine.Routine.{Routine as RoutineName}
use Rattle.rv_isa.specs.declared.register.Register.{Register}
use Rattle.rv_isa.specs.declared.placed.Place.{Place}
use Rattle.rv_isa.specs.declared.placed.Place.TheVariants.{Register as register, Slot as slot}
use Rattle.rv_isa.specs.declared.placed.Operand.{Operand}
use Rattle.rv_isa.specs.declared.placed.Listed.{Listed}
use Rattle.rv_isa.specs.AsmCode.{Line, Lines}
use Rattle.rv_isa.specs.PlacedCode.{PlacedLine, PlacedLines}
use Rattle.rv_isa.specs.Primitives.{Reply, answers, ends, fails, Primitives, ended, or_stuck, by_token}
use Rattle.rv_isa.specs.Conventions.{is_in, is_lost, is_slot, conforms, take_from, gives_into, gives_at}
use Rattle.rv_isa.specs.Frames.{Frame, empty, put, put_into, found, top, taken_if, only_of, twice_of, result_of, received, holding, unholding}
use Rattle.rv_isa.specs.AsmMachine.{AsmTurn, is_label, bound, asm_entered, asm_goes, asm_jumps, asm_returns, asm_gives, asm_served, asm_acts}
use Rattle.rv_isa.specs.PlacedMachine.{PlacedTurn, is_label_line, read_at, registers_with, slots_with, kept_by, passed, number_of, awaited, slot_of, placed_entered, placed_goes, unless_lost, placed_gives, placed_jumps, placed_returns, placed_answered, placed_served, placed_acts}
use Rattle.rv_regs.specs.Listings.{first_alive, alive_behind, alive_at_label, both_of, listed_as, spoils_by, marks}
use Rattle.rv_regs.specs.Conditions.{value_of, without_moves, OnCopy, AtBoth, IsAtPlace, IsKept, StaysListed, IsSafe, Fits, AllFit, IsPlacing, ArePlacings}
use Rattle.rv_regs.specs.Relation.{Holds, HeldAs, SameCode, Stands, WaitsFor, IsSlotOf, Waits, AllWait, StandsFor}
use Rattle.rv_regs.proofs.ValueListings.{listed_has, put_same, put_other, at_one, stands_slot}
use Rattle.rv_regs.proofs.PlaceChanges.{Changes, holds_next, change_nothing, change_one, change_lost, stayed, both_stay}
use Rattle.rv_regs.proofs.Chains.{token, IsNext, all_next, held_next, held_both, unheld_both}
use Rattle.rv_regs.proofs.Tokens.{apart_first, as_many_wait, top_same, Left, left_over}
use Rattle.rv_regs.proofs.Steps.{both_go, same_go, cond_go, held_go, read_listed, found_both, callee_both, enters}

-- A line that fits leads to frames that stand for each other, by what it changes.
lands : (alive : List Listed) (action : Action) (args : List Operand) (into : Option Operand) (nexts : List (List Listed)) (values registers slots registers' : ℕ → Option ℕ)
    (f : Frame Line) (g : Frame PlacedLine) → Fits alive args into (Some action) nexts → Holds alive values registers slots
    → SameCode f g → IsNext (first_alive g.code) nexts → Changes (Some action) into values registers slots f.cells registers' g.cells
    → HeldAs (first_alive g.code) f.held g.held → Stands (first_alive g.code) registers' f g
lands alive action args into nexts values registers slots registers' f g fits holds same is changes held =
    record {
      same = same;
      apart = apart_first g.whole g.code same.code_fits;
      holds = holds_next alive (Some action) args into values registers slots f.cells registers' g.cells (first_alive g.code)
          (all_next (All (IsKept alive (Some action) args into)) (first_alive g.code) nexts fits.kept is) holds changes;
      held = held;
    }

same_code : (f f' : Frame Line) (g g' : Frame PlacedLine) → SameCode f g → f'.function ≡ f.function → f'.code ≡ f.code → f'.whole ≡ f.whole
    → g'.function ≡ g.function → g'.code ≡ g.code → g'.whole ≡ g.whole → SameCode f' g'
same_code f f' g g' same fn fc fw gn gc gw =
    record {
      function = gn ∙ same.function ∙ sym fn;
      code = ap without_moves gc ∙ same.code ∙ sym fc;
      whole = ap without_moves gw ∙ same.whole ∙ sym fw;
      code_fits = subst (λ c. AllFit g'.whole c) (sym gc) (subst (λ w. AllFit w g.code) (sym gw) same.code_fits);
      whole_fits = subst (λ w. AllFit w w) (sym gw) same.whole_fits;
    }

nothing_given : (action : Action) (into : Option Operand) → ((place : Place) → gives_at action place ≡ false) → gives_into action into ≡ true → into ≡ None
nothing_given action None none gives = refl
nothing_given action (Some o) none gives = absurd (cc (none o.place))

-- a frame goes on where a label is found
jumps : {H : Type 0} (W : Type 0) (l : ℕ) (alive : List Listed) (action : Action) (args : List Operand) (into : Option Operand) (nexts : List (List Listed)) (registers registers' : ℕ → Option ℕ) (shared : H)
    (f : Frame Line) (fs : List (Frame Line)) (g : Frame PlacedLine) (gs : List (Frame PlacedLine)) → Fits alive args into (Some action) nexts → Stands alive registers f g → AllWait fs gs
    → Changes (Some action) into f.cells registers g.cells f.cells registers' g.cells
    → ((k : List PlacedLine) → found (is_label_line l) g.whole ≡ Some k → IsNext (first_alive k) nexts × HeldAs (first_alive k) f.held g.held)
    → StandsFor {W = W} (asm_jumps l f fs shared) (placed_jumps l g gs registers' shared)
jumps W l alive action args into nexts registers registers' shared f fs g gs fits stands waits changes at_label =
    both_go (found (λ (x : Line). is_label l x.action) f.whole) (found (is_label_line l) g.whole) (λ code. asm_goes (record f { code = code }) fs shared) (λ code. placed_goes (record g { code = code }) gs registers' shared)
    (λ k e.
    let there = found_both l g.whole g.whole stands.same.whole_fits k (ap (found (λ (x : Line). is_label l x.action)) stands.same.whole ∙ e) in
    let next = at_label there.0 there.1 in
    let same : SameCode (record f { code = k }) (record g { code = there.0 }) = record { function = stands.same.function; code = there.2.0; whole = stands.same.whole; code_fits = there.2.1; whole_fits = stands.same.whole_fits } in (
      there.0,
      there.1,
      ((lands alive action args into nexts f.cells registers g.cells registers' (record f { code = k }) (record g { code = there.0 }) fits stands.holds same next.0 changes next.1, waits), refl),
    ))

safe_slot : (place : Place) → IsSafe (λ r. true) place → (k : ℕ) × (place ≡ slot k)
safe_slot (register r) safe = absurd (cc safe)
safe_slot (slot k) safe = (k, refl)

safe_copy : (copy : Option Register) → OnCopy (IsSafe (λ r. true)) copy → copy ≡ None
safe_copy None safe = refl
safe_copy (Some r) safe = absurd (cc safe)

kept_in_slot : (alive : List Listed) (action : Option Action) (args : List Operand) (values registers slots : ℕ → Option ℕ) (v : ℕ) (l : Listed) → Holds alive values registers slots → l.value ≡ v
    → StaysListed alive (marks action args) l → AtBoth (IsSafe (λ r. true)) l → (l.copy ≡ None) × IsSlotOf values slots v l.place
kept_in_slot alive action args values registers slots v l holds same stays safe =
    let s = stayed alive action args l stays in
    let k = safe_slot l.place safe.0 in
    let stands = (both_stay (λ place. values l.value ≡ read_at registers slots place) alive l s (holds l.value s.m s.listed)).0 in
    (safe_copy l.copy safe.1, (k.0, k.1, ap values (sym same) ∙ stands ∙ ap (read_at registers slots) k.1))

-- what a call leaves alive waits in slots, but for its result
awaits_call : (alive : List Listed) (f : ℕ) (args : List Operand) (into : Option Operand) (values registers slots : ℕ → Option ℕ) (next : List Listed) → Holds alive values registers slots
    → ((o : Operand) → into ≡ Some o → is_in 10 o.place ≡ true) → All (IsKept alive (Some (Call f)) args into) next → WaitsFor next (option_map value_of into) (awaited into) values slots
awaits_call alive f args None values registers slots next holds given kept = λ v l listed.
    let has = listed_has (IsKept alive (Some (Call f)) args None) next v l kept listed in
    one v l has.1 has.0
  where
    one : (v : ℕ) (m : Listed) → m.value ≡ v → IsKept alive (Some (Call f)) args None m → (m.copy ≡ None) × IsSlotOf values slots v m.place
    one v m same (inl new) = absurd new
    one v m same (inr (inl copied)) = absurd copied
    one v m same (inr (inr stays)) = kept_in_slot alive (Some (Call f)) args values registers slots v m holds same stays.0 stays.1.1
awaits_call alive f args (Some o) values registers slots next holds given kept = by_place o.place refl (given o refl)
  where
    one : (x : ℕ) (v : ℕ) (m : Listed) → number_of o.place ≡ Some x → m.value ≡ v → IsKept alive (Some (Call f)) args (Some o) m
        → (m.copy ≡ None) × (((v ≡ o.value) × (number_of m.place ≡ Some x)) ⊎ ((v ≢ o.value) × IsSlotOf values slots v m.place))
    one x v m at same (inl new) = (new.1.1.1, inl (sym same ∙ sym new.0, ap number_of (sym new.1.0) ∙ at))
    one x v m at same (inr (inl copied)) = absurd copied
    one x v m at same (inr (inr stays)) =
        let k = kept_in_slot alive (Some (Call f)) args values registers slots v m holds same stays.0 stays.1.1 in
        (k.0, inr ((λ e. stays.1.0.0 (sym e ∙ sym same)), k.1))

    by_place : (place : Place) → o.place ≡ place → is_in 10 place ≡ true → WaitsFor next (Some o.value) (number_of place) values slots
    by_place (register r) at is = λ v l listed.
        let has = listed_has (IsKept alive (Some (Call f)) args (Some o)) next v l kept listed in
        one r.number v l (ap number_of at) has.1 has.0
    by_place (slot k) at is = cc is

no_write : (action : Action) (args : List Operand) (o : Operand) → gives_at action o.place ≡ false → conforms action args (Some o) ≡ true → ⊥
no_write action args o none ok = let given = (and_parts (take_from action 0 args) (gives_at action o.place) ok).1 in cc (none, given)

given_at : (action : Action) (args : List Operand) (into : Option Operand) (o : Operand) → conforms action args into ≡ true → into ≡ Some o → gives_at action o.place ≡ true
given_at action args into o ok is =
    (and_parts (take_from action 0 args) (gives_at action o.place) (subst (λ (i : Option Operand). conforms action args i ≡ true) is ok)).1

label_next : (k : List PlacedLine) (a : Option (List Listed)) (o : Option (List PlacedLine)) → o ≡ Some k → IsNext (first_alive k) (both_of a (option_map first_alive o))
label_next k None o e = subst (λ (x : Option (List PlacedLine)). IsNext (first_alive k) (both_of None (option_map first_alive x))) (sym e) (inl refl)
label_next k (Some a) o e = subst (λ (x : Option (List PlacedLine)). IsNext (first_alive k) (both_of (Some a) (option_map first_alive x))) (sym e) (inr (inl refl))

-- a value is given, after what is spoilt
gives : {H : Type 0} (W : Type 0) (alive : List Listed) (action : Action) (args : List Operand) (into : Option Operand) (nexts : List (List Listed)) (registers : ℕ → Option ℕ) (shared : H) (w : ℕ)
    (f : Frame Line) (fs : List (Frame Line)) (g : Frame PlacedLine) (gs : List (Frame PlacedLine)) → Fits alive args into (Some action) nexts → Stands alive registers f g → AllWait fs gs
    → IsNext (first_alive g.code) nexts → ((v k : ℕ) → marks (Some action) args (token v k) ≡ token v k)
    → StandsFor {W = W} (asm_goes (record f { cells = put_into (option_map value_of into) w f.cells }) fs shared) (placed_gives into w g gs (λ x. cond (spoils_by (Some action) x) None (registers x)) shared)
gives W alive action args None nexts registers shared w f fs g gs fits stands waits is marked = (
  (
    lands alive action args None nexts f.cells registers g.cells (λ x. cond (spoils_by (Some action) x) None (registers x)) f g fits stands.holds stands.same is
        (change_nothing (Some action) f.cells registers g.cells)
        (held_next alive (first_alive g.code) nexts (Some action) args is fits.held f.held g.held (λ v k among. marked v k) stands.held),
    waits,
  ),
  refl,
)
gives W alive action args (Some o) nexts registers shared w f fs g gs fits stands waits is marked =
    let left : ℕ → Option ℕ = λ x. cond (spoils_by (Some action) x) None (registers x) in
    let f' : Frame Line = record f { cells = put o.value (Some w) f.cells } in
    let g' : Frame PlacedLine = record g { cells = slots_with o.place (Some w) g.cells } in (
      (
        lands alive action args (Some o) nexts f.cells registers g.cells (registers_with o.place (Some w) left) f' g' fits stands.holds (same_code f f' g g' stands.same refl refl refl refl refl refl) is
            (change_one o (Some w) action f.cells registers g.cells)
            (held_next alive (first_alive g.code) nexts (Some action) args is fits.held f.held g.held (λ v k among. marked v k) stands.held),
        waits,
      ),
      refl,
    )

-- or it is lost
gives_kept : {H : Type 0} (W : Type 0) (alive : List Listed) (action : Action) (args : List Operand) (into : Option Operand)
    (nexts : List (List Listed)) (registers : ℕ → Option ℕ) (shared : H) (w : ℕ)
    (f : Frame Line) (fs : List (Frame Line)) (g : Frame PlacedLine) (gs : List (Frame PlacedLine))
    → Fits alive args into (Some action) nexts → Stands alive registers f g → AllWait fs gs
    → IsNext (first_alive g.code) nexts → ((v k : ℕ) → marks (Some action) args (token v k) ≡ token v k)
    → StandsFor {W = W} (asm_goes (record f { cells = put_into (option_map value_of into) w f.cells }) fs shared)
    (placed_gives (unless_lost action into) w g gs (λ x. cond (spoils_by (Some action) x) None (registers x)) shared)
gives_kept W alive action args None nexts registers shared w f fs g gs fits stands waits is marked =
    gives W alive action args None nexts registers shared w f fs g gs fits stands waits is marked
gives_kept W alive action args (Some o) nexts registers shared w f fs g gs fits stands waits is marked =
    by (is_lost action o.place) refl
  where
    by : (lost : Bool) → is_lost action o.place ≡ lost
        → StandsFor {W = W} (asm_goes (record f { cells = put o.value (Some w) f.cells }) fs shared)
        (placed_gives (cond lost None (Some o)) w g gs (λ x. cond (spoils_by (Some action) x) None (registers x)) shared)
    by false there = gives W alive action args (Some o) nexts registers shared w f fs g gs fits stands waits is marked
    by true lost =
        let left : ℕ → Option ℕ = λ x. cond (spoils_by (Some action) x) None (registers x) in
        let f' : Frame Line = record f { cells = put o.value (Some w) f.cells } in (
          (
            lands alive action args (Some o) nexts f.cells registers g.cells left f' g fits stands.holds
                (same_code f f' g g stands.same refl refl refl refl refl refl) is
                (change_lost o (Some w) action f.cells registers g.cells lost)
                (held_next alive (first_alive g.code) nexts (Some action) args is fits.held f.held g.held (λ v k among. marked v k)
                stands.held),
            waits,
          ),
          refl,
        )

only_go : {A H W : Type 0} (o : Option A) (next : A → AsmTurn H W) (t : PlacedTurn H W) → ((a : A) → o ≡ Some a → StandsFor (next a) t) → StandsFor (or_stuck o next) t
only_go None next t meets = tt
only_go (Some a) next t meets = meets a refl

-- a result comes to the frame that waits for it
received_both : (next : List Listed) (into into' : Option ℕ) (result : Option ℕ) (values slots : ℕ → Option ℕ) → WaitsFor next into into' values slots → (cells : ℕ → Option ℕ) → received into result values ≡ Some cells
    → (registers : ℕ → Option ℕ) × (received into' result empty ≡ Some registers) × Holds next cells registers slots
received_both next None None result values slots waits cells e =
    let same : values ≡ cells = cc in (
      empty,
      refl,
      subst (λ c. Holds next c empty slots) same (λ v l listed. let s = waits v l listed in
          at_one (λ place. values v ≡ read_at empty slots place) l s.0 (s.1.2 ∙ sym (ap (read_at empty slots) s.1.1))),
    )
received_both next None (Some x) result values slots waits cells e = absurd waits
received_both next (Some u) None result values slots waits cells e = absurd waits
received_both next (Some u) (Some x) None values slots waits cells e = cc
received_both next (Some u) (Some x) (Some w) values slots waits cells e =
    let same : put u (Some w) values ≡ cells = cc in (
      put x (Some w) empty,
      refl,
      subst (λ c. Holds next c (put x (Some w) empty) slots) same
          (λ v l listed. let s = waits v l listed in at_one (λ place. put u (Some w) values v ≡ read_at (put x (Some w) empty) slots place) l s.0 (one v l s.1)),
    )
  where
    at_register : (place : Place) → number_of place ≡ Some x → read_at (put x (Some w) empty) slots place ≡ Some w
    at_register (register r) at = let here : r.number ≡ x = cc in ap (put x (Some w) empty) here ∙ put_same x (Some w) empty
    at_register (slot k) at = cc

    one : (v : ℕ) (l : Listed) → ((v ≡ u) × (number_of l.place ≡ Some x)) ⊎ ((v ≢ u) × IsSlotOf values slots v l.place) → put u (Some w) values v ≡ read_at (put x (Some w) empty) slots l.place
    one v l (inl awaited_here) = ap (put u (Some w) values) awaited_here.0 ∙ put_same u (Some w) values ∙ sym (at_register l.place awaited_here.1)
    one v l (inr s) = put_other u (Some w) values v s.0 ∙ s.1.2 ∙ sym (ap (read_at (put x (Some w) empty) slots) s.1.1)

module _ {H E W : Type 0} (m : Primitives H E W) (depth : ℕ) (asm : List Lines) (placed : List PlacedLines) (all : ArePlacings asm placed)
    (alive : List Listed) (args : List Operand) (registers : ℕ → Option ℕ) (shared : H) (f : Frame Line) (fs : List (Frame Line)) (g : Frame PlacedLine) (gs : List (Frame PlacedLine)) (words : List ℕ)
    (stands : Stands alive registers f g) (waits : AllWait fs gs) where
  -- what follows of an action that fits
  abbrev Follows : Action → Option Operand → Type 0
  Follows action into =
      conforms action args into ≡ true → Fits alive args into (Some action) (both_of (alive_behind g.code action) (alive_at_label g.whole action))
      → StandsFor (asm_acts m depth asm f fs shared action (map value_of args) (option_map value_of into) words) (placed_acts m depth placed g gs registers shared action args into words)

  computes : (operation : Operation) (into : Option Operand) → Follows (Compute operation) into
  computes operation into ok fits =
      same_go (m.compute operation words shared) (λ r. asm_goes (record f { cells = put_into (option_map value_of into) r.0 f.cells }) fs r.1) (λ r. placed_gives (unless_lost (Compute operation) into) r.0 g gs registers r.1)
      (λ r e. gives_kept W alive (Compute operation) args into (first_alive g.code ∷ []) registers r.1 r.0 f fs g gs fits stands waits (inl refl) (λ v k. refl))

  is_label_ : (l : ℕ) (into : Option Operand) → Follows (Label l) into
  is_label_ l None ok fits = gives W alive (Label l) args None (first_alive g.code ∷ []) registers shared 0 f fs g gs fits stands waits (inl refl) (λ v k. refl)
  is_label_ l (Some o) ok fits = absurd (no_write (Label l) args o refl ok)

  jumps_to : (l : ℕ) (into : Option Operand) → Follows (Jump l) into
  jumps_to l None ok fits =
      let nexts : List (List Listed) = both_of None (option_map first_alive (found (is_label_line l) g.whole)) in
      jumps W l alive (Jump l) args None nexts registers registers shared f fs g gs fits stands waits (change_nothing (Some (Jump l)) f.cells registers g.cells)
      (λ k e. let is = label_next k None (found (is_label_line l) g.whole) e in
      (is, held_next alive (first_alive k) nexts (Some (Jump l)) args is fits.held f.held g.held (λ v j among. refl) stands.held))
  jumps_to l (Some o) ok fits = absurd (no_write (Jump l) args o refl ok)

  branches : (condition : Condition) (l : ℕ) (into : Option Operand) → Follows (Branch condition l) into
  branches condition l None ok fits =
      let nexts : List (List Listed) = both_of (Some (first_alive g.code)) (option_map first_alive (found (is_label_line l) g.whole)) in
      same_go (m.holds condition words) (λ taken. cond taken (asm_jumps l f fs shared) (asm_goes f fs shared)) (λ taken. cond taken (placed_jumps l g gs registers shared) (placed_goes g gs registers shared))
      (λ taken e. cond_go taken (asm_jumps l f fs shared) (asm_goes f fs shared) (placed_jumps l g gs registers shared) (placed_goes g gs registers shared)
      (jumps W l alive (Branch condition l) args None nexts registers registers shared f fs g gs fits stands waits (change_nothing (Some (Branch condition l)) f.cells registers g.cells)
      (λ k e. let is = label_next k (Some (first_alive g.code)) (found (is_label_line l) g.whole) e in
      (is, held_next alive (first_alive k) nexts (Some (Branch condition l)) args is fits.held f.held g.held (λ v j among. refl) stands.held)))
      (gives W alive (Branch condition l) args None nexts registers shared 0 f fs g gs fits stands waits (inl refl) (λ v k. refl)))
  branches condition l (Some o) ok fits = absurd (no_write (Branch condition l) args o refl ok)

  calls : (n : ℕ) (into : Option Operand) → Follows (Call n) into
  calls n into ok fits =
      both_go (slice_get asm n) (slice_get placed n)
      (λ callee. or_stuck (bound callee.params words) (λ cells. cond (nat_le depth (length (f ∷ fs))) (ended m.stack_full shared) (asm_goes (asm_entered n callee cells) (record f { into = option_map value_of into } ∷ fs) shared)))
      (λ callee. cond (nat_le depth (length (g ∷ gs))) (ended m.stack_full shared) (placed_goes (placed_entered n callee) (record g { into = awaited into } ∷ gs) (passed 0 words) shared))
      (λ callee e. let there = callee_both asm placed all n callee e in (there.0, there.1, entered callee there.0 there.2))
    where
      waiting : Waits (record f { into = option_map value_of into }) (record g { into = awaited into })
      waiting = record {
        same = same_code f (record f { into = option_map value_of into }) g (record g { into = awaited into }) stands.same refl refl refl refl refl refl;
        awaits = awaits_call alive n args into f.cells registers g.cells (first_alive g.code) stands.holds (λ o is. given_at (Call n) args into o ok is) fits.kept.0;
        held = held_next alive (first_alive g.code) (first_alive g.code ∷ []) (Some (Call n)) args (inl refl) fits.held f.held g.held (λ v j among. refl) stands.held;
      }

      entered : (callee : Lines) (callee' : PlacedLines) → IsPlacing callee callee'
          → StandsFor (or_stuck (bound callee.params words) (λ cells. cond (nat_le depth (length (f ∷ fs))) (ended m.stack_full shared) (asm_goes (asm_entered n callee cells) (record f { into = option_map value_of into } ∷ fs) shared)))
          (cond (nat_le depth (length (g ∷ gs))) (ended m.stack_full shared) (placed_goes (placed_entered n callee') (record g { into = awaited into } ∷ gs) (passed 0 words) shared))
      entered callee callee' placing =
          only_go (bound callee.params words) (λ cells. cond (nat_le depth (length (f ∷ fs))) (ended m.stack_full shared) (asm_goes (asm_entered n callee cells) (record f { into = option_map value_of into } ∷ fs) shared))
          (cond (nat_le depth (length (g ∷ gs))) (ended m.stack_full shared) (placed_goes (placed_entered n callee') (record g { into = awaited into } ∷ gs) (passed 0 words) shared))
          (λ cells e.
          subst (λ many. StandsFor (cond (nat_le depth (suc (length fs))) (ended m.stack_full shared) (asm_goes (asm_entered n callee cells) (record f { into = option_map value_of into } ∷ fs) shared))
          (cond (nat_le depth (suc many)) (ended m.stack_full shared) (placed_goes (placed_entered n callee') (record g { into = awaited into } ∷ gs) (passed 0 words) shared))) (as_many_wait fs gs waits)
          (cond_go (nat_le depth (suc (length fs))) (ended m.stack_full shared) (asm_goes (asm_entered n callee cells) (record f { into = option_map value_of into } ∷ fs) shared)
          (ended m.stack_full shared) (placed_goes (placed_entered n callee') (record g { into = awaited into } ∷ gs) (passed 0 words) shared)
          (refl, refl) ((enters n callee callee' words cells placing e, (waiting, waits)), refl)))

  -- the stack is full of as many frames
  has_room : (into : Option Operand) → Follows Room into
  has_room None ok fits =
      subst (λ many. StandsFor (cond (nat_le depth (suc (length fs))) (ended m.stack_full shared) (asm_goes f fs shared)) (cond (nat_le depth (suc many)) (ended m.stack_full shared) (placed_goes g gs registers shared))) (as_many_wait fs gs waits)
      (cond_go (nat_le depth (suc (length fs))) (ended m.stack_full shared) (asm_goes f fs shared) (ended m.stack_full shared) (placed_goes g gs registers shared) (refl, refl)
      (gives W alive Room args None (first_alive g.code ∷ []) registers shared 0 f fs g gs fits stands waits (inl refl) (λ v k. refl)))
  has_room (Some o) ok fits = absurd (no_write Room args o refl ok)

  tail_calls : (n : ℕ) (into : Option Operand) → Follows (TailCall n) into
  tail_calls n into ok fits =
      held_go alive f.held g.held (or_stuck (slice_get asm n) (λ callee. or_stuck (bound callee.params words) (λ cells. asm_goes (asm_entered n callee cells) fs shared)))
      (or_stuck (slice_get placed n) (λ callee. placed_goes (placed_entered n callee) gs (passed 0 words) shared)) stands.held
      (both_go (slice_get asm n) (slice_get placed n) (λ callee. or_stuck (bound callee.params words) (λ cells. asm_goes (asm_entered n callee cells) fs shared))
      (λ callee. placed_goes (placed_entered n callee) gs (passed 0 words) shared)
      (λ callee e. let there = callee_both asm placed all n callee e in (
        there.0,
        there.1,
        only_go (bound callee.params words) (λ cells. asm_goes (asm_entered n callee cells) fs shared) (placed_goes (placed_entered n there.0) gs (passed 0 words) shared)
            (λ cells e'. ((enters n callee there.0 words cells there.2 e', waits), refl)),
      )))

  goes_back : (result : Option ℕ) (ms : List (Frame Line)) (ns : List (Frame PlacedLine)) → AllWait ms ns → StandsFor (asm_returns m ms shared result) (placed_returns m ns shared result)
  goes_back result [] [] wait = (refl, refl)
  goes_back result [] (n ∷ ns) wait = absurd wait
  goes_back result (l ∷ ms) [] wait = absurd wait
  goes_back result (l ∷ ms) (n ∷ ns) wait =
      both_go (received l.into result l.cells) (received n.into result empty) (λ cells. asm_goes (record l { cells = cells }) ms shared) (λ registers'. placed_goes n ns registers' shared)
      (λ cells e.
      let got = received_both (first_alive n.code) l.into n.into result l.cells n.cells wait.0.awaits cells e in
      let there : Stands (first_alive n.code) got.0 (record l { cells = cells }) n = record {
        same = same_code l (record l { cells = cells }) n n wait.0.same refl refl refl refl refl refl;
        apart = apart_first n.whole n.code wait.0.same.code_fits;
        holds = got.2;
        held = wait.0.held;
      } in
      (got.0, got.1, ((there, wait.1), refl)))

  returns : (into : Option Operand) → Follows Return into
  returns into ok fits =
      held_go alive f.held g.held (or_stuck (result_of words) (λ result. asm_returns m fs shared result)) (or_stuck (result_of words) (λ result. placed_returns m gs shared result)) stands.held
      (same_go (result_of words) (λ result. asm_returns m fs shared result) (λ result. placed_returns m gs shared result) (λ result e. goes_back result fs gs waits))

  -- a routine's answer comes to the running frame, after what it took and spoilt
  answered : (routine : RoutineName) (into : Option Operand) → Fits alive args into (Some (Routine routine)) (first_alive g.code ∷ []) → (word : ℕ) (shared' : H) (left : List (Frame Line)) (taken : Option (List (Frame PlacedLine)))
      → Left alive registers g left taken
      → (left' : List (Frame PlacedLine)) × (taken ≡ Some left') × StandsFor {W = W} (asm_gives (option_map value_of into) word left shared') (placed_answered into word left' (kept_by (Routine routine) registers) shared')
  answered routine into fits word shared' left taken l =
      let next : IsNext (first_alive l.g'.code) (first_alive g.code ∷ []) = inl (sym (ap first_alive l.code_is)) in (
        l.g' ∷ l.gs',
        l.taken_is,
        subst (λ (ls : List (Frame Line)). StandsFor {W = W} (asm_gives (option_map value_of into) word ls shared') (placed_answered into word (l.g' ∷ l.gs') (kept_by (Routine routine) registers) shared')) (sym l.left_is)
            (gives W alive (Routine routine) args into (first_alive g.code ∷ []) registers shared' word l.f' l.fs' l.g' l.gs' fits l.stands l.waits next (λ v k. refl)),
      )

  served : (routine : RoutineName) (into : Option Operand) → Fits alive args into (Some (Routine routine)) (first_alive g.code ∷ []) → (reply : Reply H W)
      → StandsFor (asm_served (option_map value_of into) (f ∷ fs) reply) (placed_served into (g ∷ gs) (kept_by (Routine routine) registers) reply)
  served routine into fits (answers word shared' took) =
      both_go (taken_if took (f ∷ fs)) (taken_if took (g ∷ gs)) (λ left. asm_gives (option_map value_of into) word left shared') (λ left. placed_answered into word left (kept_by (Routine routine) registers) shared')
      (λ left e. answered routine into fits word shared' left (taken_if took (g ∷ gs)) (left_over alive registers took f fs g gs stands waits left e))
  served routine into fits (ends how shared') = (refl, refl)
  served routine into fits fails = tt

  routines : (routine : RoutineName) (into : Option Operand) → Follows (Routine routine) into
  routines routine into ok fits =
      subst (λ (held : Option ℕ). StandsFor (asm_served (option_map value_of into) (f ∷ fs) (m.serve routine words (top (f ∷ fs)) shared)) (placed_served into (g ∷ gs) (kept_by (Routine routine) registers) (m.serve routine words held shared)))
      (top_same alive registers f fs g gs stands waits) (served routine into fits (m.serve routine words (top (f ∷ fs)) shared))

slot_place : (place : Place) → is_slot place ≡ true → (k : ℕ) × (slot_of place ≡ Some k) × (place ≡ slot k)
slot_place (register r) is = cc
slot_place (slot k) is = (k, refl, refl)

-- the listing of an argument in a slot
record InSlot (alive : List Listed) (arg : Operand) : Type 0 where
  k : ℕ
  l : Listed
  slot_is : slot_of arg.place ≡ Some k
  listed : listed_as arg.value alive ≡ Some l
  place : l.place ≡ slot k

in_slot : (alive : List Listed) (arg : Operand) → IsAtPlace alive arg → is_slot arg.place ≡ true → InSlot alive arg
in_slot alive arg stand is =
    let s = slot_place arg.place is in
    let r = read_listed alive arg stand in
    record { k = s.0; l = r.0; slot_is = s.1; listed = r.1; place = stands_slot r.0 arg.place s.0 r.2 s.2 }

-- a frame whose chain changes goes on, with a word that is given
chained : {H : Type 0} (W : Type 0) (alive : List Listed) (action : Action) (args : List Operand) (into : Option Operand) (word : ℕ) (registers : ℕ → Option ℕ) (shared : H) (f : Frame Line) (fs : List (Frame Line)) (g : Frame PlacedLine) (gs : List (Frame PlacedLine))
    → Fits alive args into (Some action) (first_alive g.code ∷ []) → Stands alive registers f g → AllWait fs gs → (held held' : List ℕ) → HeldAs (first_alive g.code) held held'
    → StandsFor {W = W} (asm_goes (record f { cells = put_into (option_map value_of into) word f.cells; held = held }) fs shared)
    (placed_gives into word (record g { held = held' }) gs (λ x. cond (spoils_by (Some action) x) None (registers x)) shared)
chained W alive action args None word registers shared f fs g gs fits stands waits held held' chain = (
  (
    lands alive action args None (first_alive g.code ∷ []) f.cells registers g.cells (λ x. cond (spoils_by (Some action) x) None (registers x)) (record f { held = held }) (record g { held = held' }) fits stands.holds
        (same_code f (record f { held = held }) g (record g { held = held' }) stands.same refl refl refl refl refl refl) (inl refl)
        (change_nothing (Some action) f.cells registers g.cells) chain,
    waits,
  ),
  refl,
)
chained W alive action args (Some o) word registers shared f fs g gs fits stands waits held held' chain =
    let left : ℕ → Option ℕ = λ x. cond (spoils_by (Some action) x) None (registers x) in
    let f' : Frame Line = record f { cells = put o.value (Some word) f.cells; held = held } in
    let g' : Frame PlacedLine = record g { cells = slots_with o.place (Some word) g.cells; held = held' } in (
      (
        lands alive action args (Some o) (first_alive g.code ∷ []) f.cells registers g.cells (registers_with o.place (Some word) left) f' g' fits stands.holds
            (same_code f f' g g' stands.same refl refl refl refl refl refl) (inl refl)
            (change_one o (Some word) action f.cells registers g.cells) chain,
        waits,
      ),
      refl,
    )

-- a turn on a value, if it is the same as another
on_same : {H W : Type 0} (same : Bool) (v : ℕ) (next : ℕ → AsmTurn H W) (t : PlacedTurn H W) → StandsFor (next v) t → StandsFor (or_stuck (cond same (Some v) None) next) t
on_same true v next t meets = meets
on_same false v next t meets = tt

module _ {H E W : Type 0} (m : Primitives H E W) (depth : ℕ) (asm : List Lines) (placed : List PlacedLines)
    (alive : List Listed) (registers : ℕ → Option ℕ) (shared : H) (f : Frame Line) (fs : List (Frame Line)) (g : Frame PlacedLine) (gs : List (Frame PlacedLine)) (words : List ℕ)
    (stands : Stands alive registers f g) (waits : AllWait fs gs) where
  abbrev Chains : Action → List Operand → Option Operand → Type 0
  Chains action args into =
      conforms action args into ≡ true → Fits alive args into (Some action) (first_alive g.code ∷ [])
      → StandsFor (asm_acts m depth asm f fs shared action (map value_of args) (option_map value_of into) words) (placed_acts m depth placed g gs registers shared action args into words)

  holds_token : (args : List Operand) (into : Option Operand) → Chains Hold args into
  holds_token args (Some o) ok fits = absurd (no_write Hold args o refl ok)
  holds_token [] None ok fits = tt
  holds_token (arg ∷ []) None ok fits = tt
  holds_token (arg ∷ other ∷ third ∷ more) None ok fits = tt
  holds_token (arg ∷ other ∷ []) None ok fits =
      let args : List Operand = arg ∷ other ∷ [] in
      let taken = and_parts (take_from Hold 0 args) true ok in
      let s = in_slot alive arg (All-head (IsAtPlace alive) arg (other ∷ []) fits.stand) (and_parts (is_slot arg.place) (take_from Hold 1 (other ∷ [])) taken.0).0 in
      let asm_on : ℕ → List ℕ → AsmTurn H W = λ word held. or_stuck (by_token m.hold word shared) (λ next. asm_goes (record f { held = held }) fs next) in
      let placed_on : ℕ → List ℕ → PlacedTurn H W = λ word held. or_stuck (by_token m.hold word shared) (λ next. placed_goes (record g { held = held }) gs (kept_by Hold registers) next) in
      let asm_from : ℕ → AsmTurn H W = λ value. or_stuck (twice_of words) (λ word. or_stuck (holding value word f.held) (asm_on word)) in
      let placed_from : ℕ → PlacedTurn H W = λ k. or_stuck (twice_of words) (λ word. or_stuck (holding k word g.held) (placed_on word)) in
      subst (λ (o : Option ℕ). StandsFor {W = W} (or_stuck (cond (arg.value == other.value) (Some arg.value) None) asm_from) (or_stuck o placed_from)) (sym s.slot_is)
      (on_same (arg.value == other.value) arg.value asm_from (placed_from s.k)
      (same_go (twice_of words) (λ word. or_stuck (holding arg.value word f.held) (asm_on word)) (λ word. or_stuck (holding s.k word g.held) (placed_on word))
      (λ word e. both_go (holding arg.value word f.held) (holding s.k word g.held) (asm_on word) (placed_on word)
      (λ held e'.
      let there = held_both alive (first_alive g.code) (first_alive g.code ∷ []) arg (other ∷ []) s.k s.l (inl refl) stands.apart s.listed s.place f.held g.held held word fits.held stands.held e' in (
        there.0,
        there.1,
        same_go (by_token m.hold word shared) (λ next. asm_goes (record f { held = held }) fs next) (λ next. placed_goes (record g { held = there.0 }) gs (kept_by Hold registers) next)
            (λ next e. chained W alive Hold args None word registers next f fs g gs fits stands waits held there.0 there.2),
      )))))

  takes_back : (args : List Operand) (into : Option Operand) → Chains Unhold args into
  takes_back [] into ok fits = tt
  takes_back (arg ∷ other ∷ more) into ok fits = tt
  takes_back (arg ∷ []) into ok fits =
      let taken = and_parts (take_from Unhold 0 (arg ∷ [])) (gives_into Unhold into) ok in
      let s = in_slot alive arg (All-head (IsAtPlace alive) arg [] fits.stand) (and_parts (is_slot arg.place) true taken.0).0 in
      let asm_with : List ℕ → ℕ → H → AsmTurn H W = λ held word next. asm_goes (record f { cells = put_into (option_map value_of into) word f.cells; held = held }) fs next in
      let placed_with : List ℕ → ℕ → H → PlacedTurn H W = λ held word next. placed_gives into word (record g { held = held }) gs (kept_by Unhold registers) next in
      let asm_on : ℕ → List ℕ → AsmTurn H W = λ word held. or_stuck (by_token m.unhold word shared) (asm_with held word) in
      let placed_on : ℕ → List ℕ → PlacedTurn H W = λ word held. or_stuck (by_token m.unhold word shared) (placed_with held word) in
      subst (λ (o : Option ℕ). StandsFor {W = W} (or_stuck (only_of words) (λ word. or_stuck (unholding arg.value word f.held) (asm_on word)))
      (or_stuck o (λ k. or_stuck (only_of words) (λ word. or_stuck (unholding k word g.held) (placed_on word))))) (sym s.slot_is)
      (same_go (only_of words) (λ word. or_stuck (unholding arg.value word f.held) (asm_on word)) (λ word. or_stuck (unholding s.k word g.held) (placed_on word))
      (λ word e. both_go (unholding arg.value word f.held) (unholding s.k word g.held) (asm_on word) (placed_on word)
      (λ held e'.
      let there = unheld_both alive (first_alive g.code) (first_alive g.code ∷ []) arg s.k s.l (inl refl) stands.apart s.listed s.place fits.held f.held g.held held word stands.held e' in (
        there.0,
        there.1,
        same_go (by_token m.unhold word shared) (asm_with held word) (placed_with there.0 word)
            (λ next e. chained W alive Unhold (arg ∷ []) into word registers next f fs g gs fits stands waits held there.0 there.2),
      ))))

-- Of an action that fits, the two machines make turns that stand for each other.
pub follows : {H E W : Type 0} (m : Primitives H E W) (depth : ℕ) (asm : List Lines) (placed : List PlacedLines) → ArePlacings asm placed
    → (alive : List Listed) (args : List Operand) (registers : ℕ → Option ℕ) (shared : H) (f : Frame Line) (fs : List (Frame Line)) (g : Frame PlacedLine) (gs : List (Frame PlacedLine)) (words : List ℕ)
    → Stands alive registers f g → AllWait fs gs → (action : Action) (into : Option Operand) → conforms action args into ≡ true
    → Fits alive args into (Some action) (both_of (alive_behind g.code action) (alive_at_label g.whole action))
    → StandsFor (asm_acts m depth asm f fs shared action (map value_of args) (option_map value_of into) words) (placed_acts m depth placed g gs registers shared action args into words)
follows m depth asm placed all alive args registers shared f fs g gs words stands waits (Compute operation) into ok fits = computes m depth asm placed all alive args registers shared f fs g gs words stands waits operation into ok fits
follows m depth asm placed all alive args registers shared f fs g gs words stands waits (Label l) into ok fits = is_label_ m depth asm placed all alive args registers shared f fs g gs words stands waits l into ok fits
follows m depth asm placed all alive args registers shared f fs g gs words stands waits (Jump l) into ok fits = jumps_to m depth asm placed all alive args registers shared f fs g gs words stands waits l into ok fits
follows m depth asm placed all alive args registers shared f fs g gs words stands waits (Branch condition l) into ok fits = branches m depth asm placed all alive args registers shared f fs g gs words stands waits condition l into ok fits
follows m depth asm placed all alive args registers shared f fs g gs words stands waits (Call n) into ok fits = calls m depth asm placed all alive args registers shared f fs g gs words stands waits n into ok fits
follows m depth asm placed all alive args registers shared f fs g gs words stands waits (TailCall n) into ok fits = tail_calls m depth asm placed all alive args registers shared f fs g gs words stands waits n into ok fits
follows m depth asm placed all alive args registers shared f fs g gs words stands waits Return into ok fits = returns m depth asm placed all alive args registers shared f fs g gs words stands waits into ok fits
follows m depth asm placed all alive args registers shared f fs g gs words stands waits (Routine routine) into ok fits = routines m depth asm placed all alive args registers shared f fs g gs words stands waits routine into ok fits
follows m depth asm placed all alive args registers shared f fs g gs words stands waits Hold into ok fits = holds_token m depth asm placed alive registers shared f fs g gs words stands waits args into ok fits
follows m depth asm placed all alive args registers shared f fs g gs words stands waits Unhold into ok fits = takes_back m depth asm placed alive registers shared f fs g gs words stands waits args into ok fits
follows m depth asm placed all alive args registers shared f fs g gs words stands waits Room into ok fits = has_room m depth asm placed all alive args registers shared f fs g gs words stands waits into ok fits
