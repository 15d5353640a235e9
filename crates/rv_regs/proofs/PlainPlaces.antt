-- The plainest places are right: a well-formed function in them is one over values.
use Rattle.std.proofs.Common.{◌≡◌, ◌==◌, ◌⊎◌, ◌≤◌, ◌+◌, ℕ, suc, List, [], ◌∷◌, Option, Some, None, Bool, true, false, cond, All, refl, sym, ◌∙◌, ap, subst, inl, inr, arith, eq-eqb, map, option_map, length, is_some, IsSomeAnd}
use Rattle.std.specs.Bool.{IsTrue}
use Rattle.std.specs.List.{position_from}
use Rattle.std.proofs.lemmas.Bool.{eqb-true, eqb-false, cond-true, cond-false, or_cases, false≢true, cases_Bool}
use Rattle.kk_base.specs.Limits.{greatest_of}
use Rattle.kk_base.specs.declared.limit.LimitKind.TheVariants.{Parameters}
use Rattle.rv_isa.specs.declared.register.Register.{Register}
use Rattle.rv_isa.specs.declared.asm.Action.{Action}
use Rattle.rv_isa.specs.declared.asm.Action.TheVariants.{Label, Hold}
use Rattle.rv_isa.specs.declared.placed.Place.{Place}
use Rattle.rv_isa.specs.declared.placed.Listed.{Listed}
use Rattle.rv_isa.specs.declared.placed.Way.TheVariants.{Load}
use Rattle.rv_isa.specs.AsmCode.{Line, Lines}
use Rattle.rv_isa.specs.AsmMachine.{is_label}
use Rattle.rv_isa.specs.Conventions.{argument, is_in}
use Rattle.rv_isa.specs.Frames.{is_among, found}
use Rattle.rv_isa.specs.PlacedCode.{PlacedLine, moves}
use Rattle.rv_isa.specs.PlacedMachine.{is_label_line}
use Rattle.rv_isa.specs.WellFormed.{AreLabelsAhead, AreDistinct, IsLineFormed, AreLinesFormed, IsWellFormed}
use Rattle.rv_regs.specs.declared.slots.Loaded.{Loaded}
use Rattle.rv_propose.specs.Alive.{values_before, alive_values, alive_values_at, held_values, PointLists, lists_before}
use Rattle.rv_regs.specs.Listings.{first_alive}
use Rattle.rv_regs.specs.Conditions.{value_of, without_moves, IsPassed, AllFit, IsPlacing}
use Rattle.rv_regs.specs.Plain.{numbered, place_in, copy_in, listing_at, stored_later, copied_in, operand_at, load_from, loaded_for, operands_for, pending, alive_params, loads, stores, line_and_stores, placed_row, placed_code, placed_function}
use Rattle.rv_regs.proofs.Lists.{all_made, without_none}
use Rattle.rv_regs.proofs.Aliveness.{alive_exact, alive_distinct}
use Rattle.rv_regs.proofs.RegisterPlaces.{AreLoads, place_same, place_other, place_kept, params_among, loads_kept, loads_are, number_is, once_loaded}
use Rattle.rv_regs.proofs.HeldTokens.{HoldsRight, AllHoldRight, all_hold_right, held_exact, none_behind, AreFree, free_before}
use Rattle.rv_regs.proofs.ListingFits.{first_stores, first_loads, stores_fit, loads_fit, found_stores, found_loads}
use Rattle.rv_regs.proofs.OperandPlaces.{result_of, none_given, lists_at, action_loads, handed_argument, line_fits, pending_loads, pending_among, pending_free, args_alive}

-- ---- without its moves the code is what it was

without_stores : (point : PointLists) (ls : List Loaded) (next : List PlacedLine) → without_moves (stores point ls next) ≡ without_moves next
without_stores point [] next = refl
without_stores point (l ∷ ls) next = without_stores point ls next

without_loads : (point : PointLists) (ls : List Loaded) (after : List PlacedLine) → without_moves (loads point ls after) ≡ without_moves after
without_loads point [] after = refl
without_loads point (l ∷ ls) after = without_loads point ls (moves (copied_in ls point) l.value (Load l.value l.register) ∷ after)

values_of : (place_of : ℕ → Place) (args : List ℕ) → map value_of (map (operand_at place_of) args) ≡ args
values_of place_of [] = refl
values_of place_of (v ∷ vs) = ap (λ more. v ∷ more) (values_of place_of vs)

values_of_operands : (action : Action) (loaded : List Loaded) (args : List ℕ) → map value_of (operands_for action loaded args) ≡ args
values_of_operands Hold loaded [] = refl
values_of_operands Hold loaded (v ∷ vs) = ap (λ more. v ∷ more) (values_of (place_in loaded) vs)
values_of_operands action loaded args = values_of (place_in loaded) args

value_of_result : (action : Action) (into : Option ℕ) → option_map value_of (result_of action into) ≡ into
value_of_result action None = refl
value_of_result action (Some v) = refl

without_row : (action : Action) (args : List ℕ) (into : Option ℕ) (before behind : PointLists) (next : List PlacedLine)
    → without_moves (placed_row action args into before behind next) ≡ record { action = action; args = args; into = into } ∷ without_moves next
without_row action args into before behind next =
    let loaded : List Loaded = loaded_for action args in
    without_loads before loaded (line_and_stores action args into before behind next)
    ∙ ap (λ (more : List Line). record { action = action; args = map value_of (operands_for action loaded args); into = option_map value_of (result_of action into) } ∷ more)
    (without_stores behind (pending action into behind.alive) next)
    ∙ ap (λ vs. record { action = action; args = vs; into = option_map value_of (result_of action into) } ∷ without_moves next) (values_of_operands action loaded args)
    ∙ ap (λ o. record { action = action; args = args; into = o } ∷ without_moves next) (value_of_result action into)

code_is : (code : List Line) → without_moves (placed_code code) ≡ code
code_is [] = refl
code_is (line ∷ rest) =
    without_row line.action line.args line.into (lists_before (line ∷ rest)) (lists_before rest) (placed_code rest) ∙ ap (λ (more : List Line). line ∷ more) (code_is rest)

-- ---- what is alive at the begin of code, and at labels

pub first_code : (code : List Line) → first_alive (placed_code code) ≡ stored_later [] (lists_before code)
first_code [] = refl
first_code (line ∷ rest) =
    let loaded : List Loaded = loaded_for line.action line.args in
    first_loads (lists_before (line ∷ rest)) loaded (line_and_stores line.action line.args line.into (lists_before (line ∷ rest)) (lists_before rest) (placed_code rest)) refl

found_row : (l : ℕ) (action : Action) (args : List ℕ) (into : Option ℕ) (before behind : PointLists) (next : List PlacedLine)
    → found (is_label_line l) (placed_row action args into before behind next) ≡ cond (is_label l action) (Some (line_and_stores action args into before behind next)) (found (is_label_line l) next)
found_row l action args into before behind next =
    let loaded : List Loaded = loaded_for action args in
    found_loads l before loaded (line_and_stores action args into before behind next)
    ∙ ap (λ (o : Option (List PlacedLine)). cond (is_label l action) (Some (line_and_stores action args into before behind next)) o) (found_stores l behind (pending action into behind.alive) next)

no_args : (args : List ℕ) → length args ≤ 0 → args ≡ []
no_args [] few = refl
no_args (v ∷ vs) few = absurd (omega (arith, few))

label_row : (l : ℕ) (action : Action) (args : List ℕ) (into : Option ℕ) (rest : List Line) → IsLineFormed (record { action = action; args = args; into = into }) rest
    → HoldsRight (record { action = action; args = args; into = into }) rest → is_label l action ≡ true
    → copied_in (loaded_for action args) (lists_before (record { action = action; args = args; into = into } ∷ rest)) ≡ stored_later [] (lists_at l (record { action = action; args = args; into = into } ∷ rest))
label_row l (Label m) args into rest formed right is =
    ap (λ vs. copied_in (load_from (argument 0) vs) (record { alive = values_before vs into (alive_values rest); held = held_values rest })) (no_args args formed.few)
    ∙ ap (λ o. stored_later [] (record { alive = values_before [] o (alive_values rest); held = held_values rest })) (none_given (Label m) into refl formed.gives)
    ∙ ap (λ vs. stored_later [] (record { alive = vs; held = held_values rest })) (without_none (alive_values rest))
    ∙ ap (λ vs. stored_later [] (record { alive = alive_values rest; held = vs })) (none_behind (Label m) args (held_values rest) (held_values rest) right.changes refl)
    ∙ ap (λ vs. stored_later [] (record { alive = vs; held = [] })) (sym (cond-true (is_label l (Label m)) (alive_values rest) (alive_values_at l rest) is))
label_row l action args into rest formed right is = absurd (false≢true is)

-- at a label of the code its values are in their slots, and none is held
label_alive : (l : ℕ) (code : List Line) → AreLinesFormed code → AllHoldRight code → is_some (found (λ (line : Line). is_label l line.action) code) ≡ true
    → option_map first_alive (found (is_label_line l) (placed_code code)) ≡ Some (stored_later [] (lists_at l code))
label_alive l [] formed right there = absurd (false≢true there)
label_alive l (line ∷ rest) formed right there = go (label_alive l rest formed.1 right.1) (cases_Bool (is_label l line.action))
  where
    placed_line : List PlacedLine
    placed_line = line_and_stores line.action line.args line.into (lists_before (line ∷ rest)) (lists_before rest) (placed_code rest)

    at_line : (b : Bool) → is_label l line.action ≡ b
        → option_map first_alive (found (is_label_line l) (placed_code (line ∷ rest))) ≡ option_map first_alive (cond b (Some placed_line) (found (is_label_line l) (placed_code rest)))
    at_line b e =
        ap (λ (o : Option (List PlacedLine)). option_map first_alive o) (found_row l line.action line.args line.into (lists_before (line ∷ rest)) (lists_before rest) (placed_code rest))
        ∙ ap (λ (c : Bool). option_map first_alive (cond c (Some placed_line) (found (is_label_line l) (placed_code rest)))) e

    go : (is_some (found (λ (m : Line). is_label l m.action) rest) ≡ true → option_map first_alive (found (is_label_line l) (placed_code rest)) ≡ Some (stored_later [] (lists_at l rest)))
        → (is_label l line.action ≡ true) ⊎ (is_label l line.action ≡ false) → option_map first_alive (found (is_label_line l) (placed_code (line ∷ rest))) ≡ Some (stored_later [] (lists_at l (line ∷ rest)))
    go later (inl is) = at_line true is ∙ ap (λ (ls : List Listed). Some ls) (label_row l line.action line.args line.into rest formed.0 right.0 is)
    go later (inr other) =
        let in_rest : is_some (found (λ (m : Line). is_label l m.action) rest) ≡ true =
        ap (λ (o : Option (List Line)). is_some o) (sym (cond-false (is_label l line.action) (Some (line ∷ rest)) (found (λ (m : Line). is_label l m.action) rest) other)) ∙ there in
        at_line false other ∙ later in_rest
        ∙ ap (λ vs. Some (stored_later [] (record { alive = vs; held = [] }))) (sym (cond-false (is_label l line.action) (alive_values rest) (alive_values_at l rest) other))

some_is_not_none : {A : Type 0} (a : A) → Some a ≡ None → ⊥
some_is_not_none a e = cc

label_none : (l : ℕ) (code : List Line) → found (λ (line : Line). is_label l line.action) code ≡ None → found (is_label_line l) (placed_code code) ≡ None
label_none l [] none = refl
label_none l (line ∷ rest) none = go (label_none l rest) (cases_Bool (is_label l line.action))
  where
    go : (found (λ (m : Line). is_label l m.action) rest ≡ None → found (is_label_line l) (placed_code rest) ≡ None)
        → (is_label l line.action ≡ true) ⊎ (is_label l line.action ≡ false) → found (is_label_line l) (placed_code (line ∷ rest)) ≡ None
    go later (inl is) =
        absurd (some_is_not_none (line ∷ rest) (sym (cond-true (is_label l line.action) (Some (line ∷ rest)) (found (λ (m : Line). is_label l m.action) rest) is) ∙ none))
    go later (inr other) =
        found_row l line.action line.args line.into (lists_before (line ∷ rest)) (lists_before rest) (placed_code rest)
        ∙ cond-false (is_label l line.action) (Some (line_and_stores line.action line.args line.into (lists_before (line ∷ rest)) (lists_before rest) (placed_code rest))) (found (is_label_line l) (placed_code rest)) other
        ∙ later (sym (cond-false (is_label l line.action) (Some (line ∷ rest)) (found (λ (m : Line). is_label l m.action) rest) other) ∙ none)

-- ---- each line fits

labels_once : (action : Action) (l : ℕ) (rest : List Line) → AreLabelsAhead action rest → is_label l action ≡ true → found (λ (line : Line). is_label l line.action) rest ≡ None
labels_once (Label m) l rest ahead is = ap (λ k. found (λ (line : Line). is_label k line.action) rest) (sym (eqb-true m l is)) ∙ ahead
labels_once action l rest ahead is = absurd (false≢true is)

-- the labels of the code that is left are the whole code's
abbrev AreAhead : List PlacedLine → List Line → Type 0
AreAhead whole code = (l : ℕ) (alive : List Listed) → option_map first_alive (found (is_label_line l) (placed_code code)) ≡ Some alive → option_map first_alive (found (is_label_line l) whole) ≡ Some alive

ahead_next : (whole : List PlacedLine) (line : Line) (rest : List Line) → AreLabelsAhead line.action rest → AreAhead whole (line ∷ rest) → AreAhead whole rest
ahead_next whole line rest labels ahead l alive e = go (cases_Bool (is_label l line.action))
  where
    go : (is_label l line.action ≡ true) ⊎ (is_label l line.action ≡ false) → option_map first_alive (found (is_label_line l) whole) ≡ Some alive
    go (inl is) =
        absurd (some_is_not_none alive (sym e ∙ ap (λ (o : Option (List PlacedLine)). option_map first_alive o) (label_none l rest (labels_once line.action l rest labels is))))
    go (inr other) =
        ahead l alive
        (ap (λ (o : Option (List PlacedLine)). option_map first_alive o)
        (found_row l line.action line.args line.into (lists_before (line ∷ rest)) (lists_before rest) (placed_code rest)
        ∙ cond-false (is_label l line.action) (Some (line_and_stores line.action line.args line.into (lists_before (line ∷ rest)) (lists_before rest) (placed_code rest))) (found (is_label_line l) (placed_code rest)) other)
        ∙ e)

code_fits : (whole : List PlacedLine) (code : List Line) → AreLinesFormed code → AllHoldRight code → AreAhead whole code → AllFit whole (placed_code code)
code_fits whole [] formed right ahead = tt
code_fits whole (line ∷ rest) formed right ahead =
    let loaded : List Loaded = loaded_for line.action line.args in
    let stored : List Loaded = pending line.action line.into (alive_values rest) in
    let after : List PlacedLine = stores (lists_before rest) stored (placed_code rest) in
    let ahead' : AreAhead whole rest = ahead_next whole line rest formed.0.labels ahead in
    let behind_first : first_alive after ≡ stored_later stored (lists_before rest) = first_stores (lists_before rest) stored (placed_code rest) (first_code rest) in
    loads_fit whole (lists_before (line ∷ rest)) loaded (line_and_stores line.action line.args line.into (lists_before (line ∷ rest)) (lists_before rest) (placed_code rest))
    (alive_distinct (line ∷ rest)) (action_loads line.action line.args formed.0.few) (args_alive line rest)
    (free_before line.action line.args (held_values (line ∷ rest)) (held_values rest) right.0.changes (λ v before behind. (right.0.leaves v before behind).0))
    refl (
      line_fits whole after line.action line.args line.into rest formed.0 right.0
          (λ l there. ahead' l (stored_later [] (lists_at l rest)) (label_alive l rest formed.1 right.1 there)) behind_first,
      stores_fit whole (lists_before rest) stored (placed_code rest) (alive_distinct rest) (pending_loads line.action line.into (alive_values rest))
          (pending_among line.action line.into (alive_values rest)) (pending_free line rest formed.0 right.0) (first_code rest) (code_fits whole rest formed.1 right.1 ahead'),
    )

-- ---- the start

abbrev no_copy : Option Register
no_copy = None

abbrev IsPassedAt : Place → Option ℕ → Type 0
IsPassedAt place o = IsSomeAnd o (λ k. IsTrue (is_in (argument k) place) × ((false ≡ false) × (no_copy ≡ None)))

-- a parameter stands where callers put it
passed_in : (params : List ℕ) (v n : ℕ) (place : Place) → AreDistinct params → n + length params ≤ greatest_of Parameters → is_among v params ≡ true → place ≡ place_in (load_from (argument n) params) v
    → IsPassedAt place (position_from (λ (param : ℕ). param == v) n params)
passed_in [] v n place distinct few there is = absurd (false≢true there)
passed_in (x ∷ xs) v n place distinct few there is = go (passed_in xs v (n + 1) place distinct.1 (omega (arith, few))) (cases_Bool (x == v))
  where
    l : Loaded
    l = record { value = x; register = numbered (argument n) }

    here : place ≡ place_in (l ∷ load_from (suc (argument n)) xs) v
    here = is ∙ ap (λ (ls : List Loaded). place_in ls v) (once_loaded (argument n) x xs distinct.0)

    next : (suc (argument n)) ≡ argument (n + 1)
    next = omega arith

    among_rest : ((x == v) ≡ true) ⊎ (is_among v xs ≡ true) → (x == v) ≡ false → is_among v xs ≡ true
    among_rest (inl same) other = absurd (false≢true (sym other ∙ same))
    among_rest (inr later) other = later

    go : (is_among v xs ≡ true → place ≡ place_in (load_from (argument (n + 1)) xs) v → IsPassedAt place (position_from (λ (param : ℕ). param == v) (n + 1) xs))
        → ((x == v) ≡ true) ⊎ ((x == v) ≡ false) → IsPassedAt place (position_from (λ (param : ℕ). param == v) n (x ∷ xs))
    go later (inl same) =
        subst (IsPassedAt place) (sym (cond-true (x == v) (Some n) (position_from (λ (param : ℕ). param == v) (n + 1) xs) same))
        (ap (is_in (argument n)) (here ∙ place_same l (load_from (suc (argument n)) xs) v (eqb-true x v same)) ∙ eq-eqb _ _ (number_is (argument n) (omega (arith, few))), (refl, refl))
    go later (inr other) =
        subst (IsPassedAt place) (sym (cond-false (x == v) (Some n) (position_from (λ (param : ℕ). param == v) (n + 1) xs) other))
        (later (among_rest (or_cases (x == v) (is_among v xs) there) other)
        (here ∙ place_other l (load_from (suc (argument n)) xs) v (eqb-false x v other) ∙ ap (λ m. place_in (load_from m xs) v) next))

-- the parameters in the registers where callers put them
param_loads : (params alive : List ℕ) → length params ≤ greatest_of Parameters → AreLoads (alive_params params alive)
param_loads params alive few =
    loads_kept (λ (l : Loaded). is_among l.value alive) (load_from (argument 0) params)
    (loads_are (argument 0) params (omega arith) (omega (arith, few)) (λ k low high. handed_argument k low (omega (arith, high, few))))

starts_passed : (params : List ℕ) (point : PointLists) → AreDistinct params → length params ≤ greatest_of Parameters → ((v : ℕ) → is_among v point.alive ≡ true → is_among v params ≡ true) → point.held ≡ []
    → All (IsPassed params) (stored_later (alive_params params point.alive) point)
unfolding IsPassed
starts_passed params point distinct few all none =
    subst (λ (held : List ℕ). All (IsPassed params) (stored_later (alive_params params point.alive) (record { alive = point.alive; held = held }))) (sym none)
    (all_made (IsPassed params) (listing_at (place_in (alive_params params point.alive)) (copy_in []) []) point.alive
    (λ v there.
    passed_in params v 0 (place_in (alive_params params point.alive) v) distinct (omega (arith, few)) (all v there)
    (place_kept (λ u. is_among u point.alive) (load_from (argument 0) params) v there)))

-- nothing is held, so no parameter is
none_free : (held : List ℕ) (loaded : List Loaded) → held ≡ [] → AreFree held loaded
none_free held loaded none = subst (λ (vs : List ℕ). AreFree vs loaded) (sym none) (free loaded)
  where
    free : (ls : List Loaded) → AreFree [] ls
    free [] = tt
    free (l ∷ ls) = (refl, free ls)

pub is_placing : (f : Lines) → IsWellFormed f → IsPlacing f (placed_function f)
is_placing f formed =
    let point : PointLists = lists_before f.code in
    let params : List Loaded = alive_params f.params point.alive in
    let none : held_values f.code ≡ [] = held_exact [] f.code formed.tokens in
    record {
      params = refl;
      code = without_stores point params (placed_code f.code) ∙ code_is f.code;
      start = subst (All (IsPassed f.params)) (sym (first_stores point params (placed_code f.code) (first_code f.code)))
          (starts_passed f.params point formed.params formed.few_params (λ v there. formed.start v (sym (alive_exact v f.code) ∙ there)) none);
      fit = stores_fit (stores point params (placed_code f.code)) point params (placed_code f.code) (alive_distinct f.code) (param_loads f.params point.alive formed.few_params)
          (params_among f.params point.alive) (none_free (held_values f.code) params none) (first_code f.code)
          (code_fits (stores point params (placed_code f.code)) f.code formed.lines (all_hold_right [] f.code formed.tokens)
          (λ l ls e. ap (λ (o : Option (List PlacedLine)). option_map first_alive o) (found_stores l point params (placed_code f.code)) ∙ e));
    }
