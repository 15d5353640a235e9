-- A line between its loads and its stores: its operands stand where its action takes and gives them, and it fits.
use Rattle.std.proofs.Common.{◌≡◌, ◌==◌, ◌&&◌, ◌⊎◌, ◌<◌, ◌≤◌, ◌+◌, ℕ, zero, suc, List, [], ◌∷◌, Option, Some, None, Bool, true, false, not, cond, All, refl, sym, ◌∙◌, ap, subst, inl, inr, arith, eq-eqb, map, option_map, length, is_some}
use Rattle.std.specs.List.{AllByRecursion}
use Rattle.std.proofs.lemmas.Bool.{eqb-true, eqb-false, cond-true, or_cases, or_left, or_right, and_from, and_parts, not-true, not_from_false, false≢true, cases_Bool, cond_both, le-leb}
use Rattle.std.proofs.lemmas.List.Elements.{All-nil, All-cons}
use Rattle.rv_isa.specs.declared.asm.Action.{Action}
use Rattle.rv_isa.specs.declared.asm.Action.TheVariants.{Compute, Label, Jump, Branch, Call, TailCall, Return, Routine, Hold, Unhold, Room}
use Rattle.rv_isa.specs.declared.asm.Operation.TheVariants.{Register, Immediate, Shift, Li, Mv, La, Lw, Sw, Dup, Free}
use Rattle.rv_isa.specs.declared.routine.Routine.TheVariants.{Take, Drop, PrintInt, PrintText, ReadByte}
use Rattle.rv_isa.specs.declared.placed.Place.{Place}
use Rattle.rv_isa.specs.declared.placed.Place.TheVariants.{Register as register, Slot as slot}
use Rattle.rv_isa.specs.declared.placed.Operand.{Operand}
use Rattle.rv_isa.specs.declared.placed.Listed.{Listed}
use Rattle.rv_isa.specs.AsmCode.{Line}
use Rattle.rv_isa.specs.AsmMachine.{is_label}
use Rattle.rv_isa.specs.PlacedCode.{PlacedLine, does}
use Rattle.rv_isa.specs.PlacedMachine.{is_label_line}
use Rattle.rv_isa.specs.Conventions.{is_handed_out, is_lost, is_idle, is_register, is_slot, takes_at, gives_at, take_from, gives_into, conforms}
use Rattle.rv_isa.specs.Frames.{is_among, found}
use Rattle.rv_isa.specs.WellFormed.{is_written, is_alive, is_alive_at, is_alive_behind, most_args, has_value, may_give, hands_over, goes_straight_on, AreDistinct, IsLineFormed}
use Rattle.rv_regs.specs.declared.slots.Loaded.{Loaded}
use Rattle.rv_propose.specs.Alive.{values_before, values_behind, alive_values, alive_values_at, held_values, PointLists, lists_before}
use Rattle.rv_regs.specs.Listings.{first_alive, listed_as, both_of, marks, with_copy}
use Rattle.rv_regs.specs.Conditions.{IsAtPlace, IsNeeded, IsListed, IsListedIn, IsWritten, written_by, IsNew, IsClearOf, IsKept, StaysHeld, WriteIsHandedOut, Fits, LineFits}
use Rattle.rv_regs.specs.Plain.{numbered, place_in, copy_in, listing_at, stored_later, copied_in, operand_at, first_register, result_register, load_from, register_args, loaded_for, operands_for, pending}
use Rattle.rv_regs.proofs.Lists.{all_made, among_with_values}
use Rattle.rv_regs.proofs.Aliveness.{alive_exact, alive_behind_exact, among_before, alive_distinct}
use Rattle.rv_regs.proofs.RegisterPlaces.{IsLoadable, AreLoads, AreAmong, place_same, place_other, no_slot, slot_number, copies_handed, stands_in, load_values, number_is, loads_are, place_loaded, once_loaded}
use Rattle.rv_regs.proofs.HeldTokens.{HoldsRight, ReadsNoneHeld, AreFree, listing_with, read_args, marked, none_behind, register_args_among, result_free, held_in_slot}
use Rattle.rv_regs.proofs.ListingFits.{is_listed, listed_there, stands_there, old_kept, act_fits}

-- ---- the registers of an action

handed_low : (k : ℕ) → 3 ≤ k → k ≤ 7 → is_handed_out k ≡ true
handed_low k low high = or_right _ _ (or_left _ _ (and_from _ _ (le-leb 3 k low) (le-leb k 7 high)))

pub handed_argument : (k : ℕ) → 10 ≤ k → k ≤ 17 → is_handed_out k ≡ true
handed_argument k low high = or_right _ _ (or_right _ _ (or_left _ _ (and_from _ _ (le-leb 10 k low) (le-leb k 17 high))))

-- no action takes more arguments than there are registers for
pub most_registers : (action : Action) → first_register action + most_args action ≤ 18
most_registers (Compute operation) = omega arith
most_registers (Label l) = omega arith
most_registers (Jump l) = omega arith
most_registers (Branch condition l) = omega arith
most_registers (Call f) = omega arith
most_registers (TailCall f) = omega arith
most_registers Return = omega arith
most_registers (Routine Take) = omega arith
most_registers (Routine Drop) = omega arith
most_registers (Routine PrintInt) = omega arith
most_registers (Routine PrintText) = omega arith
most_registers (Routine ReadByte) = omega arith
most_registers Hold = omega arith
most_registers Unhold = omega arith
most_registers Room = omega arith

-- nor lower registers
some_registers : (action : Action) → 4 ≤ first_register action
some_registers (Compute operation) = omega arith
some_registers (Label l) = omega arith
some_registers (Jump l) = omega arith
some_registers (Branch condition l) = omega arith
some_registers (Call f) = omega arith
some_registers (TailCall f) = omega arith
some_registers Return = omega arith
some_registers (Routine routine) = omega arith
some_registers Hold = omega arith
some_registers Unhold = omega arith
some_registers Room = omega arith

registers_handed : (action : Action) (k : ℕ) → first_register action ≤ k → k < first_register action + most_args action → is_handed_out k ≡ true
registers_handed (Compute operation) k low high = handed_low k (omega arith) (omega arith)
registers_handed (Branch condition l) k low high = handed_low k (omega arith) (omega arith)
registers_handed (Label l) k low high = handed_argument k (omega arith) (omega (arith, most_registers (Label l)))
registers_handed (Jump l) k low high = handed_argument k (omega arith) (omega (arith, most_registers (Jump l)))
registers_handed (Call f) k low high = handed_argument k (omega arith) (omega (arith, most_registers (Call f)))
registers_handed (TailCall f) k low high = handed_argument k (omega arith) (omega (arith, most_registers (TailCall f)))
registers_handed Return k low high = handed_argument k (omega arith) (omega (arith, most_registers Return))
registers_handed (Routine routine) k low high = handed_argument k low (omega (arith, most_registers (Routine routine), high))
registers_handed Hold k low high = handed_argument k (omega arith) (omega (arith, most_registers Hold))
registers_handed Unhold k low high = handed_argument k (omega arith) (omega (arith, most_registers Unhold))
registers_handed Room k low high = handed_argument k (omega arith) (omega (arith, most_registers Room))

-- what holds of each argument holds of each that is loaded
pub loaded_values : (P : ℕ → Type 0) (action : Action) (args : List ℕ) → ((v : ℕ) → is_among v args ≡ true → P v) → AllByRecursion (λ (l : Loaded). P l.value) (loaded_for action args)
loaded_values P action args h = load_values P (first_register action) (register_args action args) (λ v there. h v (register_args_among action args v there))

-- no more arguments are taken in registers than there are
pub few_register_args : (action : Action) (args : List ℕ) → length (register_args action args) ≤ length args
few_register_args Hold [] = omega arith
few_register_args Hold (v ∷ args) = omega arith
few_register_args Unhold args = omega arith
few_register_args action args = omega arith

pub action_loads : (action : Action) (args : List ℕ) → length args ≤ most_args action → AreLoads (loaded_for action args)
action_loads action args few =
    loads_are (first_register action) (register_args action args) (some_registers action) (omega (arith, most_registers action, few, few_register_args action args))
    (λ k low high. registers_handed action k low (omega (arith, high, few, few_register_args action args)))

-- ---- operands stand where their action takes and gives them

takes_number : (action : Action) (n : ℕ) → n < most_args action → hands_over action ≡ true → takes_at action n (register (numbered (first_register action + n))) ≡ true
takes_number (Compute operation) n few over = refl
takes_number (Branch condition l) n few over = absurd (false≢true over)
takes_number (Label l) n few over = absurd (omega (arith, few))
takes_number (Jump l) n few over = absurd (omega (arith, few))
takes_number (Call f) n few over = eq-eqb _ _ (number_is (10 + n) (omega (arith, few)))
takes_number (TailCall f) n few over = eq-eqb _ _ (number_is (10 + n) (omega (arith, few)))
takes_number Return n few over = eq-eqb _ _ (number_is (10 + n) (omega (arith, few)))
takes_number (Routine Take) n few over = absurd (omega (arith, few))
takes_number (Routine Drop) n few over = absurd (false≢true over)
takes_number (Routine PrintInt) zero few over = refl
takes_number (Routine PrintInt) (suc zero) few over = refl
takes_number (Routine PrintInt) (suc (suc n)) few over = absurd (omega (arith, few))
takes_number (Routine PrintText) zero few over = refl
takes_number (Routine PrintText) (suc zero) few over = refl
takes_number (Routine PrintText) (suc (suc n)) few over = absurd (omega (arith, few))
takes_number (Routine ReadByte) n few over = absurd (omega (arith, few))
takes_number Hold n few over = absurd (false≢true over)
takes_number Unhold n few over = absurd (false≢true over)
takes_number Room n few over = absurd (omega (arith, few))

takes_any : (action : Action) (fits : Place → Bool) (loaded : List Loaded) (n : ℕ) (vs : List ℕ) → ((k : ℕ) (place : Place) → fits place ≡ true → takes_at action k place ≡ true)
    → ((v : ℕ) → is_among v vs ≡ true → fits (place_in loaded v) ≡ true) → take_from action n (map (operand_at (place_in loaded)) vs) ≡ true
takes_any action fits loaded n [] takes stand = refl
takes_any action fits loaded n (v ∷ vs) takes stand =
    and_from _ _ (takes n (place_in loaded v) (stand v (or_left (v == v) (is_among v vs) (eq-eqb v v refl))))
    (takes_any action fits loaded (suc n) vs takes (λ u t. stand u (or_right (v == u) (is_among u vs) t)))

takes_row : (action : Action) (first : ℕ) (loaded : List Loaded) (n : ℕ) (vs : List ℕ) → AreDistinct vs
    → ((k : ℕ) → n ≤ k → k < n + length vs → takes_at action k (register (numbered (first + k))) ≡ true)
    → ((v : ℕ) → is_among v vs ≡ true → place_in loaded v ≡ place_in (load_from (first + n) vs) v) → take_from action n (map (operand_at (place_in loaded)) vs) ≡ true
takes_row action first loaded n [] distinct takes stand = refl
takes_row action first loaded n (v ∷ vs) distinct takes stand =
    let l : Loaded = record { value = v; register = numbered (first + n) } in
    let once : load_from (first + n) (v ∷ vs) ≡ l ∷ load_from (suc (first + n)) vs = once_loaded (first + n) v vs distinct.0 in
    let here : place_in loaded v ≡ register l.register =
    stand v (or_left (v == v) (is_among v vs) (eq-eqb v v refl)) ∙ ap (λ (ls : List Loaded). place_in ls v) once ∙ place_same l (load_from (suc (first + n)) vs) v refl in
    let next : suc (first + n) ≡ first + suc n = omega arith in
    and_from _ _ (ap (takes_at action n) here ∙ takes n (omega arith) (omega arith))
    (takes_row action first loaded (suc n) vs distinct.1 (λ k low high. takes k (omega arith) (omega arith))
    (λ u t.
    stand u (or_right (v == u) (is_among u vs) t) ∙ ap (λ (ls : List Loaded). place_in ls u) once
    ∙ place_other l (load_from (suc (first + n)) vs) u (λ same. false≢true (sym distinct.0 ∙ ap (λ w. is_among w vs) same ∙ t))
    ∙ ap (λ m. place_in (load_from m vs) u) next))

-- those that are handed over stand in a row of registers
takes_in_row : (action : Action) (args : List ℕ) → length args ≤ most_args action → hands_over action ≡ true → AreDistinct args
    → take_from action 0 (map (operand_at (place_in (load_from (first_register action) args))) args) ≡ true
takes_in_row action args few over distinct =
    takes_row action (first_register action) (load_from (first_register action) args) 0 args distinct (λ k low high. takes_number action k (omega (arith, high, few)) over)
    (λ v t. ap (λ n. place_in (load_from n args) v) (omega arith))

takes_args : (action : Action) (args : List ℕ) → length args ≤ most_args action → (hands_over action ≡ true → AreDistinct args)
    → take_from action 0 (operands_for action (loaded_for action args) args) ≡ true
takes_args (Compute operation) args few distinct = takes_any (Compute operation) is_register (load_from 5 args) 0 args (λ k place t. t) (λ v t. place_loaded 5 args v t)
takes_args (Branch condition l) args few distinct =
    takes_any (Branch condition l) is_register (load_from 5 args) 0 args (λ k place t. t) (λ v t. place_loaded 5 args v t)
takes_args Hold [] few distinct = refl
takes_args Hold (v ∷ []) few distinct = refl
takes_args Hold (v ∷ u ∷ []) few distinct = and_from _ _ (place_loaded 10 (u ∷ []) u (or_left (u == u) false (eq-eqb u u refl))) refl
takes_args Hold (v ∷ u ∷ w ∷ more) few distinct = absurd (omega (arith, few))
takes_args Unhold args few distinct = takes_any Unhold is_slot [] 0 args (λ k place t. t) (λ v t. refl)
takes_args (Routine Drop) [] few distinct = refl
takes_args (Routine Drop) (v ∷ []) few distinct =
    and_from _ _ (ap (takes_at (Routine Drop) 0) (place_same (record { value = v; register = numbered 10 }) [] v refl)) refl
takes_args (Routine Drop) (v ∷ u ∷ more) few distinct = absurd (omega (arith, few))
takes_args action args few distinct = takes_in_row action args few refl (distinct refl)

-- what holds of each argument in its slot and in its place holds of each operand
pub operands_made : (P : Operand → Type 0) (action : Action) (loaded : List Loaded) (args : List ℕ) → ((v : ℕ) → is_among v args ≡ true → P (operand_at (place_in []) v))
    → ((v : ℕ) → is_among v args ≡ true → P (operand_at (place_in loaded) v)) → All P (operands_for action loaded args)
operands_made P Hold loaded [] first each = All-nil P
operands_made P Hold loaded (v ∷ args) first each =
    All-cons P (operand_at (place_in []) v) (map (operand_at (place_in loaded)) args) (first v (or_left (v == v) (is_among v args) (eq-eqb v v refl)))
    (all_made P (operand_at (place_in loaded)) args (λ u there. each u (or_right (v == u) (is_among u args) there)))
operands_made P action loaded args first each = all_made P (operand_at (place_in loaded)) args each

-- where the result comes, as an operand
abbrev pub result_of : Action → Option ℕ → Option Operand
result_of action into = option_map (operand_at (λ v. register (numbered (result_register action)))) into

gives_number : (action : Action) → may_give action ≡ true → gives_at action (register (numbered (result_register action))) ≡ true
gives_number (Compute (Register operation)) may = refl
gives_number (Compute (Immediate operation immediate)) may = refl
gives_number (Compute (Shift operation amount)) may = refl
gives_number (Compute (Li word)) may = refl
gives_number (Compute Mv) may = refl
gives_number (Compute (La constant)) may = refl
gives_number (Compute (Lw offset)) may = refl
gives_number (Compute (Sw offset)) may = absurd (false≢true may)
gives_number (Compute Dup) may = absurd (false≢true may)
gives_number (Compute Free) may = absurd (false≢true may)
gives_number (Call f) may = refl
gives_number (Routine Take) may = refl
gives_number (Routine Drop) may = absurd (false≢true may)
gives_number (Routine PrintInt) may = absurd (false≢true may)
gives_number (Routine PrintText) may = absurd (false≢true may)
gives_number (Routine ReadByte) may = refl
gives_number (Label l) may = absurd (false≢true may)
gives_number (Jump l) may = absurd (false≢true may)
gives_number (Branch condition l) may = absurd (false≢true may)
gives_number (TailCall f) may = absurd (false≢true may)
gives_number Return may = absurd (false≢true may)
gives_number Hold may = absurd (false≢true may)
gives_number Unhold may = refl
gives_number Room may = absurd (false≢true may)

gives_result : (action : Action) (into : Option ℕ) → (has_value into ≡ true → may_give action ≡ true) → gives_into action (result_of action into) ≡ true
gives_result action None gives = refl
gives_result action (Some v) gives = gives_number action (gives refl)

result_loadable : (action : Action) → IsLoadable (numbered (result_register action))
result_loadable (Compute operation) = (refl, refl)
result_loadable (Routine Take) = (refl, refl)
result_loadable action = (refl, refl)

-- no result is lost
result_stays : (action : Action) → is_lost action (register (numbered (result_register action))) ≡ false
result_stays (Compute (Lw offset)) = refl
result_stays action = refl

result_handed : (action : Action) (into : Option ℕ) → WriteIsHandedOut (Some action) (result_of action into)
result_handed action None = tt
result_handed action (Some v) = let is = result_loadable action in (is.0, or_right (is_idle action (register (numbered (result_register action)))) _ is.1)

pub none_given : (action : Action) (into : Option ℕ) → may_give action ≡ false → (has_value into ≡ true → may_give action ≡ true) → into ≡ None
none_given action None none gives = refl
none_given action (Some v) none gives = absurd (false≢true (sym none ∙ gives refl))

written_is : (f : ℕ → Place) (into : Option ℕ) (v : ℕ) → IsWritten (option_map (operand_at f) into) v → is_written into v ≡ true
written_is f None v w = absurd w
written_is f (Some x) v w = eq-eqb x v w

-- what is alive at a label, where nothing is held
abbrev pub lists_at : ℕ → List Line → PointLists
lists_at l code = record { alive = alive_values_at l code; held = [] }

-- ---- what is stored behind a line

pub pending_loads : (action : Action) (into : Option ℕ) (behind : List ℕ) → AreLoads (pending action into behind)
pending_loads action None behind = tt
pending_loads action (Some v) behind =
    cond_both (is_among v behind) (record { value = v; register = numbered (result_register action) } ∷ []) [] AreLoads (λ t. (tt, (result_loadable action, tt))) (λ t. tt)

pub pending_among : (action : Action) (into : Option ℕ) (behind : List ℕ) → AreAmong behind (pending action into behind)
pending_among action None behind = tt
pending_among action (Some v) behind =
    cond_both (is_among v behind) (record { value = v; register = numbered (result_register action) } ∷ []) [] (AreAmong behind) (λ t. (t, tt)) (λ t. tt)

-- it is not held there
pub pending_free : (line : Line) (rest : List Line) → IsLineFormed line rest → HoldsRight line rest → AreFree (held_values rest) (pending line.action line.into (alive_values rest))
pending_free line rest formed right = go line.into refl
  where
    go : (o : Option ℕ) → line.into ≡ o → AreFree (held_values rest) (pending line.action o (alive_values rest))
    go None is = tt
    go (Some v) is =
        cond_both (is_among v (alive_values rest)) (record { value = v; register = numbered (result_register line.action) } ∷ []) [] (AreFree (held_values rest))
        (λ t. (
          result_free line.action line.args (held_values (line ∷ rest)) (held_values rest) line.into v formed.gives right.changes right.leaves (ap (λ o. is_written o v) is ∙ eq-eqb v v refl),
          tt,
        ))
        (λ t. tt)

-- a value that is not written is in its slot behind the line
pending_slot : (action : Action) (into : Option ℕ) (behind : List ℕ) (u : ℕ) → is_written into u ≡ false → place_in (pending action into behind) u ≡ slot u
pending_slot action None behind u unwritten = refl
pending_slot action (Some v) behind u unwritten =
    let l : Loaded = record { value = v; register = numbered (result_register action) } in
    cond_both (is_among v behind) (l ∷ []) [] (λ (ls : List Loaded). place_in ls u ≡ slot u) (λ t. place_other l [] u (eqb-false v u unwritten)) (λ t. refl)

-- ---- the line

module _ (action : Action) (args : List ℕ) (into : Option ℕ) (rest : List Line) (formed : IsLineFormed (record { action = action; args = args; into = into }) rest)
    (right : HoldsRight (record { action = action; args = args; into = into }) rest) where
  abbrev line_here : Line
  line_here = record { action = action; args = args; into = into }

  abbrev loaded_here : List Loaded
  loaded_here = loaded_for action args

  abbrev behind_here : List ℕ
  behind_here = values_behind action (alive_values rest) (λ l. alive_values_at l rest)

  abbrev before_here : List ℕ
  before_here = values_before args into behind_here

  abbrev point_here : PointLists
  point_here = lists_before (line_here ∷ rest)

  abbrev reads_here : List Operand
  reads_here = operands_for action loaded_here args

  abbrev pending_here : List Loaded
  pending_here = pending action into (alive_values rest)

  abbrev KeptIs : Listed → Type 0
  KeptIs l = IsKept (copied_in loaded_here point_here) (Some action) reads_here (result_of action into) l

  abbrev KeptBy : List Listed → Type 0
  KeptBy next = All KeptIs next

  -- a value in its slot is not in the register of the result
  clear_here : (held : Bool) (u : ℕ) → is_written into u ≡ false → IsClearOf (result_of action into) (listing_with u (slot u) None held)
  clear_here held u unwritten = go into unwritten
    where
      go : (o : Option ℕ) → is_written o u ≡ false → IsClearOf (result_of action o) (listing_with u (slot u) None held)
      go None none = tt
      go (Some v) none = (eqb-false v u none, ((λ e. no_slot (numbered (result_register action)) u (sym e)), tt))

  stays_before : (u : ℕ) → is_alive_behind u action rest ≡ true → is_written into u ≡ false → is_among u before_here ≡ true
  stays_before u alive unwritten =
      among_before args into behind_here u
      ∙ or_right (is_among u args) (not (is_written into u) && is_among u behind_here)
      (and_from (not (is_written into u)) (is_among u behind_here) (not_from_false (is_written into u) unwritten) (alive_behind_exact u action rest ∙ alive))

  reads_none : ReadsNoneHeld args point_here.held (held_values rest)
  reads_none v before behind = (right.leaves v before behind).0

  marks_here : (v : ℕ) → marks (Some action) reads_here (listing_at (place_in []) (copy_in loaded_here) point_here.held v) ≡ listing_at (place_in []) (copy_in loaded_here) (held_values rest) v
  marks_here v = marked action args point_here.held (held_values rest) (place_in []) (copy_in loaded_here) loaded_here right.changes reads_none v

  -- a value that is not written stays in its slot, and its copy is forgotten
  stays_here : (u : ℕ) → is_alive_behind u action rest ≡ true → is_written into u ≡ false → KeptIs (listing_at (place_in []) (copy_in []) (held_values rest) u)
  stays_here u alive unwritten =
      old_kept (place_in []) (copy_in loaded_here) point_here (Some action) reads_here (result_of action into) (held_values rest) u (slot u) None (marks_here u)
      (stays_before u alive unwritten) refl (inr refl) (clear_here (is_among u (held_values rest)) u unwritten) (tt, tt)

  -- what is alive at the next line
  at_next : (u : ℕ) → is_among u (alive_values rest) ≡ true → is_alive_behind u action rest ≡ true → KeptIs (listing_at (place_in pending_here) (copy_in []) (held_values rest) u)
  at_next u there alive = by_case (cases_Bool (is_written into u))
    where
      new : (o : Option ℕ) → is_written o u ≡ true → is_among u (held_values rest) ≡ false
          → IsNew (written_by (Some action) (result_of action o))
          (listing_at (place_in (pending action o (alive_values rest))) (copy_in []) (held_values rest) u)
      new None w free = absurd (false≢true w)
      new (Some v) w free =
          let same : v ≡ u = eqb-true v u w in
          let l : Loaded = record { value = v; register = numbered (result_register action) } in
          let is_given : pending action (Some v) (alive_values rest) ≡ l ∷ [] = cond-true (is_among v (alive_values rest)) (l ∷ []) [] (ap (λ x. is_among x (alive_values rest)) same ∙ there) in
          subst (λ (lost : Bool). IsNew (cond lost None (result_of action (Some v)))
          (listing_at (place_in (pending action (Some v) (alive_values rest))) (copy_in []) (held_values rest) u))
          (sym (result_stays action))
          (same, (sym (ap (λ (ls : List Loaded). place_in ls u) is_given ∙ place_same l [] u same), (free, refl)))

      by_case : (is_written into u ≡ true) ⊎ (is_written into u ≡ false) → KeptIs (listing_at (place_in pending_here) (copy_in []) (held_values rest) u)
      by_case (inl written) = inl (new into written (result_free action args point_here.held (held_values rest) into u formed.gives right.changes right.leaves written))
      by_case (inr unwritten) =
          subst (λ (place : Place). KeptIs (listing_with u place None (is_among u (held_values rest)))) (sym (pending_slot action into (alive_values rest) u unwritten)) (stays_here u alive unwritten)

  kept_at_next : (next : List Listed) → next ≡ stored_later pending_here (lists_before rest) → ((u : ℕ) → is_among u (alive_values rest) ≡ true → is_alive_behind u action rest ≡ true) → KeptBy next
  kept_at_next next is alive =
      subst KeptBy (sym is) (all_made KeptIs (listing_at (place_in pending_here) (copy_in []) (held_values rest)) (alive_values rest) (λ v there. at_next v there (alive v there)))

  -- what is alive at a label where the line may go on
  kept_at_label : (l : ℕ) (next : List Listed) → next ≡ stored_later [] (lists_at l rest) → ((u : ℕ) → is_among u (alive_values_at l rest) ≡ true → is_alive_behind u action rest ≡ true)
      → may_give action ≡ false → goes_straight_on action ≡ false → KeptBy next
  kept_at_label l next is alive none bent =
      subst KeptBy (sym is)
      (all_made KeptIs (listing_at (place_in []) (copy_in []) []) (alive_values_at l rest)
      (λ v there.
      let unwritten : is_written into v ≡ false = ap (λ o. is_written o v) (none_given action into none formed.gives) in
      subst (λ (held : List ℕ). KeptIs (listing_at (place_in []) (copy_in []) held v)) (none_behind action args point_here.held (held_values rest) right.changes bent)
      (stays_here v (alive v there) unwritten)))

  -- what is held behind the line is listed so at each next point
  abbrev ListHeld : List (List Listed) → Type 0
  ListHeld nexts = (v : ℕ) → is_among v (held_values rest) ≡ true → AllByRecursion (λ next. listed_as v next ≡ Some (listing_at (place_in []) (copy_in []) (held_values rest) v)) nexts

  held_at_next : (next : List Listed) → next ≡ stored_later pending_here (lists_before rest) → ListHeld (next ∷ [])
  held_at_next next is v held = (
    subst (λ (ls : List Listed). listed_as v ls ≡ Some (listing_at (place_in []) (copy_in []) (held_values rest) v)) (sym is)
        (listed_there (place_in pending_here) (copy_in []) (lists_before rest) v (alive_exact v rest ∙ right.alive v held)
        ∙ ap (λ (place : Place). Some (listing_with v place None (is_among v (held_values rest)))) (held_in_slot (held_values rest) pending_here v (pending_free line_here rest formed right) held)),
    tt,
  )

  none_is_held : (nexts : List (List Listed)) → goes_straight_on action ≡ false → ListHeld nexts
  none_is_held nexts bent v held =
      absurd (false≢true (sym (ap (is_among v) (none_behind action args point_here.held (held_values rest) right.changes bent)) ∙ held))

  stays_held : (nexts : List (List Listed)) → ListHeld nexts → (v : ℕ) → StaysHeld (marks (Some action) reads_here) nexts (listing_at (place_in []) (copy_in loaded_here) point_here.held v)
  stays_held nexts lists v held =
      let there : is_among v (held_values rest) ≡ true = sym (ap (λ (l : Listed). l.held) (marks_here v)) ∙ held in
      let is : with_copy None (marks (Some action) reads_here (listing_at (place_in []) (copy_in loaded_here) point_here.held v)) ≡ listing_at (place_in []) (copy_in []) (held_values rest) v =
      ap (with_copy None) (marks_here v) in
      (tt, subst (λ (l : Listed). AllByRecursion (λ next. listed_as v next ≡ Some l) nexts) (sym is) (lists v there))

  abbrev FitsHere : List (List Listed) → Type 0
  FitsHere nexts = (conforms action reads_here (result_of action into) ≡ true) × Fits (copied_in loaded_here point_here) reads_here (result_of action into) (Some action) nexts

  fits_by : (nexts : List (List Listed)) → ((v : ℕ) → is_among v behind_here ≡ true → IsListedIn nexts v) → AllByRecursion KeptBy nexts → ListHeld nexts → FitsHere nexts
  fits_by nexts listed kept lists = (
    and_from _ _ (takes_args action args formed.few formed.distinct) (gives_result action into formed.gives),
    act_fits (place_in []) (copy_in loaded_here) point_here reads_here (result_of action into) (Some action) nexts (alive_distinct (line_here ∷ rest))
        (λ u v e. slot_number u v e) (λ v. tt) (λ v. copies_handed loaded_here v (action_loads action args formed.few)) (result_handed action into)
        (λ v there. stays_held nexts lists v)
        (λ v there. needed v (or_cases (is_among v args) (not (is_written into v) && is_among v behind_here) (sym (among_before args into behind_here v) ∙ there)))
        (operands_made (IsAtPlace (copied_in loaded_here point_here)) action loaded_here args
        (λ v arg. stands_there (place_in []) (copy_in loaded_here) point_here v (slot v) (args_before v arg) (inl refl))
        (λ v arg. stands_there (place_in []) (copy_in loaded_here) point_here v (place_in loaded_here v) (args_before v arg) (stands_in loaded_here v)))
        kept,
  )
    where
      args_before : (v : ℕ) → is_among v args ≡ true → is_among v before_here ≡ true
      args_before v arg = among_before args into behind_here v ∙ or_left (is_among v args) (not (is_written into v) && is_among v behind_here) arg

      needed : (v : ℕ) → (is_among v args ≡ true) ⊎ ((not (is_written into v) && is_among v behind_here) ≡ true)
          → IsNeeded reads_here (result_of action into) nexts (listing_at (place_in []) (copy_in loaded_here) point_here.held v)
      needed v (inl arg) = inl (read_args action loaded_here args v ∙ arg)
      needed v (inr later) =
          let parts = and_parts (not (is_written into v)) (is_among v behind_here) later in
          inr (
            λ w. false≢true (sym (not-true (is_written into v) parts.0) ∙ written_is (λ x. register (numbered (result_register action))) into v w),
            listed v parts.1,
          )

-- a line fits between its loads and its stores
pub line_fits : (whole after : List PlacedLine) (action : Action) (args : List ℕ) (into : Option ℕ) (rest : List Line) (formed : IsLineFormed (record { action = action; args = args; into = into }) rest)
    (right : HoldsRight (record { action = action; args = args; into = into }) rest)
    → ((l : ℕ) → is_some (found (λ line. is_label l line.action) rest) ≡ true → option_map first_alive (found (is_label_line l) whole) ≡ Some (stored_later [] (lists_at l rest)))
    → first_alive after ≡ stored_later (pending action into (alive_values rest)) (lists_before rest)
    → LineFits whole after
    (does (copied_in (loaded_for action args) (lists_before (record { action = action; args = args; into = into } ∷ rest))) action
    (operands_for action (loaded_for action args) args) (result_of action into))
line_fits whole after (Jump l) args into rest formed right labels first =
    let here = labels l formed.labels in
    subst (λ (o : Option (List Listed)). FitsHere (Jump l) args into rest formed right (both_of None o)) (sym here)
    (fits_by (Jump l) args into rest formed right (stored_later [] (lists_at l rest) ∷ []) (λ v there. inl (is_listed (place_in []) (copy_in []) (lists_at l rest) v there))
    (kept_at_label (Jump l) args into rest formed right l (stored_later [] (lists_at l rest)) refl (λ u there. sym (alive_behind_exact u (Jump l) rest) ∙ there) refl refl, tt)
    (none_is_held (Jump l) args into rest formed right (stored_later [] (lists_at l rest) ∷ []) refl))
line_fits whole after (Branch condition l) args into rest formed right labels first =
    let here = labels l formed.labels in
    subst (λ (o : Option (List Listed)). FitsHere (Branch condition l) args into rest formed right (both_of (Some (first_alive after)) o)) (sym here)
    (fits_by (Branch condition l) args into rest formed right (first_alive after ∷ stored_later [] (lists_at l rest) ∷ [])
    (λ v there.
    listed_in_two v (or_cases (is_among v (alive_values rest)) (is_among v (alive_values_at l rest)) (sym (among_with_values (alive_values rest) (alive_values_at l rest) v) ∙ there))) (
      kept_at_next (Branch condition l) args into rest formed right (first_alive after) first (λ u there. or_left (is_alive u rest) (is_alive_at l u rest) (sym (alive_exact u rest) ∙ there)),
      (
        kept_at_label (Branch condition l) args into rest formed right l (stored_later [] (lists_at l rest)) refl
            (λ u there.
            sym (alive_behind_exact u (Branch condition l) rest) ∙ among_with_values (alive_values rest) (alive_values_at l rest) u
            ∙ or_right (is_among u (alive_values rest)) (is_among u (alive_values_at l rest)) there)
            refl refl,
        tt,
      ),
    ) (none_is_held (Branch condition l) args into rest formed right (first_alive after ∷ stored_later [] (lists_at l rest) ∷ []) refl))
  where
    listed_in_two : (v : ℕ) → (is_among v (alive_values rest) ≡ true) ⊎ (is_among v (alive_values_at l rest) ≡ true)
        → IsListedIn (first_alive after ∷ stored_later [] (lists_at l rest) ∷ []) v
    listed_in_two v (inl there) =
        inl (subst (λ (ls : List Listed). IsListed ls v) (sym first) (is_listed (place_in (pending_here (Branch condition l) args into rest formed right)) (copy_in []) (lists_before rest) v there))
    listed_in_two v (inr there) = inr (inl (is_listed (place_in []) (copy_in []) (lists_at l rest) v there))
line_fits whole after (TailCall f) args into rest formed right labels first =
    fits_by (TailCall f) args into rest formed right [] (λ v there. absurd (false≢true there)) tt (none_is_held (TailCall f) args into rest formed right [] refl)
line_fits whole after Return args into rest formed right labels first =
    fits_by Return args into rest formed right [] (λ v there. absurd (false≢true there)) tt (none_is_held Return args into rest formed right [] refl)
line_fits whole after action args into rest formed right labels first =
    fits_by action args into rest formed right (first_alive after ∷ [])
    (λ v there. inl (subst (λ (ls : List Listed). IsListed ls v) (sym first) (is_listed (place_in (pending_here action args into rest formed right)) (copy_in []) (lists_before rest) v there)))
    (kept_at_next action args into rest formed right (first_alive after) first (λ u there. sym (alive_exact u rest) ∙ there), tt) (held_at_next action args into rest formed right (first_alive after) first)

-- the arguments of a line are alive before it
pub args_alive : (line : Line) (rest : List Line) → AreAmong (alive_values (line ∷ rest)) (loaded_for line.action line.args)
args_alive line rest =
    loaded_values (λ u. is_among u (alive_values (line ∷ rest)) ≡ true) line.action line.args
    (λ u arg.
    among_before line.args line.into (values_behind line.action (alive_values rest) (λ m. alive_values_at m rest)) u
    ∙ or_left (is_among u line.args) (not (is_written line.into u) && is_among u (values_behind line.action (alive_values rest) (λ m. alive_values_at m rest))) arg)
