-- The lines of a code with tokens that can be lowered are well formed, and have only its own labels: where the code spends its
-- tokens, and holds them around rows of calls alone.
use Rattle.std.proofs.Common.{◌≡◌, ℕ, suc, ◌+◌, ◌<◌, ◌≤◌, ◌==◌, ◌&&◌, ◌⊎◌, inl, inr, Bool, true, false, not, List, [], ◌∷◌, ◌++◌}
use Rattle.std.proofs.Common.{length, Some, refl, sym, ap, subst, ◌∙◌, arith}
use Rattle.std.proofs.Math.Path.{path_j}
use Rattle.std.specs.List.{AllByRecursion}
use Rattle.std.specs.Prelude.{slice_get, if◌then◌else◌}
use Rattle.std.proofs.lemmas.Bool.{or_cases, or_left, or_right, eq-eqb, eqb-true, false≢true, ne_eqb}
use Rattle.kk_syntax.specs.declared.program.Form.{Form}
use Rattle.kk_syntax.specs.declared.program.Form.TheVariants.{Number, Unit as Nothing, ReadByte, PrintText}
use Rattle.kk_syntax.specs.declared.program.Form.TheVariants.{Unary, Binary, Print, Construct, Call}
use Rattle.kk_syntax.specs.Shapes.{is_among, without}
use Rattle.kk_core.specs.Decisions.{NodeTree, chooses}
use Rattle.kk_core.specs.Sizes.{AreBound}
use Rattle.kk_counted.specs.Arms.{HasArms, HaveArms, arm_count}
use Rattle.kk_counted.specs.BareForms.{bare, bare_arms}
use Rattle.kk_counted.specs.CountBounds.{EachHasAnArm, AllHaveAnArm}
use Rattle.kk_counted.specs.Lowerable.{AreBelow, bound_list, AreNumbered, AreArmsNumbered, HasArity, HasArities, HaveArities}
use Rattle.kk_counted.specs.Marks.{CellMarks, IsFormMarked}
use Rattle.kk_counted.specs.Spending.{AreApart}
use Rattle.kk_counted.specs.TokenLowerable.{HoldsAtCalls, HoldAtCalls}
use Rattle.kk_counted.specs.TokenSpending.{AtForm, SpendsTokens, SpendAllTokens}
use Rattle.kk_counted.specs.TokenedCodes.{Tokened, TokenedArms}
use Rattle.kk_counted.proofs.TokenForms.{among_without}
use Rattle.rv_isa.specs.declared.asm.Action.TheVariants.{Compute, Branch, Routine as Calls}
use Rattle.rv_isa.specs.declared.routine.Routine.TheVariants.{Drop}
use Rattle.rv_isa.specs.declared.asm.Condition.TheVariants.{Equal, NotEqual}
use Rattle.rv_isa.specs.declared.asm.Operation.{Operation}
use Rattle.rv_isa.specs.declared.asm.Operation.TheVariants as Op
use Rattle.rv_isa.specs.AsmCode.{Line}
use Rattle.rv_isa.specs.WellFormed.{most_values, may_give}
use Rattle.rv_lower.specs.Lines.{Texts, computes, copies_to, sets, acts}
use Rattle.rv_lower.specs.Lowered.{Goal, joins, goal_lines, tail_lines}
use Rattle.rv_lower.proofs.WellFormedness.{Each, Readable, HasRoom, IsWithin, within_more, room_more, to_variable, most_temporaries}
use Rattle.rv_cells.specs.declared.standing.Standing.{Standing}
use Rattle.rv_lower.proofs.Operations.{Leads}
use Rattle.rv_lower.proofs.Codes.{Fits, fits_weaker, fits_give, fits_tail_call, fits_inside, fits_split}
use Rattle.rv_cells.specs.Layout.{Layout, header_of}
use Rattle.rv_cells.specs.CellLines.{drop_lines, back_line}
use Rattle.rv_cells.specs.CountedLines.{Setting, ComputeLines}
use Rattle.rv_cells.specs.declared.compare.Branching.{Branching}
use Rattle.rv_cells.specs.ComparisonBranch.{branch_of, IsTested, MayJoin}
use Rattle.rv_cells.specs.TokenedLines.{values_of_slots, HasSlots, HaveSlots, header_stands, count_stands, OwnLines, IsFillOf, MayFill}
use Rattle.rv_cells.specs.TokenedLines.{LinesBehind, CodeLines, ArmsLines}
use Rattle.rv_cells.proofs.AskedForms.{Asks, ask_either}
use Rattle.rv_cells.proofs.CellForms.{effect, kept_list, bound_later}
use Rattle.rv_cells.proofs.BoundVariables.{within_one}
use Rattle.rv_cells.proofs.Comparisons.{either_left, compared_by, reads_both, plain_part, plain_own}
use Rattle.rv_cells.proofs.FormPlaces.{fill_there}
use Rattle.rv_cells.proofs.FormedCases.{some_arm, ArmsFit, arms_none, arms_more, fits_case, fits_branch}
use Rattle.rv_cells.proofs.FormedForms.{fits_form}
use Rattle.rv_cells.proofs.FormedOrders.{behind, listed_within, front_within, room_front}
use Rattle.rv_cells.proofs.FormedSteps.{all_bound, fits_step, fits_dup, fits_read}
use Rattle.rv_cells.proofs.FormedUniques.{fits_token_unique}
use Rattle.rv_cells.proofs.UnnamedVariables.{HasUses, HaveUses, first_spared, arms_use_behind, arms_numbered_fewer}
use Rattle.rv_cells.proofs.TokenFormedFills.{fits_fill}
use Rattle.rv_cells.proofs.TokenFormedHeld.{FitsHeld, held_fits, fits_held, held_weaker, fits_hold, fits_unhold, fits_held_drop, fits_held_call}
use Rattle.rv_cells.proofs.TokenFormedSlots.{read_below, variable_there, slot_there, read_within, room_read, values_there}
use Rattle.rv_cells.proofs.TokenFormedSlots.{values_between, value_other, values_apart}

-- ---- lists

-- what is bound, or below a number, is so by more
bound_within : (bound more xs : List ℕ) → IsWithin bound more → AreBound bound xs → AreBound more xs
bound_within bound more [] within are = tt
bound_within bound more (x ∷ xs) within are = (within x are.0, bound_within bound more xs within are.1)

below_more : (variables slots : ℕ) (xs : List ℕ) → AreBelow variables xs → AreBelow (variables + slots) xs
below_more variables slots [] below = tt
below_more variables slots (x ∷ xs) below = let less = below.0 in (omega (arith, less), below_more variables slots xs below.1)

-- variables are below the values of slots
each_low : (variables : ℕ) (bound xs : List ℕ) → HasRoom variables bound → AreBound bound xs → Each (λ x. x < variables) xs
each_low variables bound [] has are = tt
each_low variables bound (x ∷ xs) has are = (has.low x are.0, each_low variables bound xs has are.1)

-- a slot that is left is one that was there
left_there : (y z : ℕ) (xs : List ℕ) → is_among (without (y ∷ []) xs) z ≡ true → is_among xs z ≡ true
left_there y z xs is = first (is_among xs z) (not (y == z)) (sym (among_without y z xs) ∙ is)
  where
    first : (a b : Bool) → (a && b) ≡ true → a ≡ true
    first true b both = refl
    first false b both = absurd (false≢true both)

-- a variable is none of the values of slots
values_differ : (variables x : ℕ) (others : List ℕ) → x < variables
    → AllByRecursion (λ (v : ℕ). (x == v) ≡ false) (values_of_slots variables others)
values_differ variables x [] less = tt
values_differ variables x (y ∷ others) less =
    (ne_eqb x (variables + y) (λ e. absurd (omega (arith, e, less))), values_differ variables x others less)

-- the lists behind equal heads are equal
abbrev behind_first : List ℕ → List ℕ
behind_first [] = []
behind_first (y ∷ ys) = ys

tails : (y : ℕ) (xs ys : List ℕ) → (y ∷ xs) ≡ (y ∷ ys) → xs ≡ ys
tails y xs ys same = ap behind_first same

-- ---- forms on values

-- what is held before a form on values is so behind it
held_behind : (held : List ℕ) (x : ℕ) (form : Form) (arguments others : List ℕ) (rest : Tokened)
    → HoldsAtCalls held (Tokened.compute x form arguments others rest) → HoldsAtCalls held rest
held_behind held x (Number value) arguments others rest is = subst (λ (h : List ℕ). HoldsAtCalls h rest) (sym is.0) is.1
held_behind held x Nothing arguments others rest is = subst (λ (h : List ℕ). HoldsAtCalls h rest) (sym is.0) is.1
held_behind held x ReadByte arguments others rest is = subst (λ (h : List ℕ). HoldsAtCalls h rest) (sym is.0) is.1
held_behind held x (PrintText how text) arguments others rest is = subst (λ (h : List ℕ). HoldsAtCalls h rest) (sym is.0) is.1
held_behind held x (Unary operator) arguments others rest is = subst (λ (h : List ℕ). HoldsAtCalls h rest) (sym is.0) is.1
held_behind held x (Binary operator) arguments others rest is = subst (λ (h : List ℕ). HoldsAtCalls h rest) (sym is.0) is.1
held_behind held x (Print how) arguments others rest is = subst (λ (h : List ℕ). HoldsAtCalls h rest) (sym is.0) is.1
held_behind held x (Construct c) arguments others rest is = subst (λ (h : List ℕ). HoldsAtCalls h rest) (sym is.0) is.1
held_behind held x (Call f) arguments others rest is = is

module _ (layout : Layout) (holds : ℕ → Bool) (texts : Texts) (standing : Standing) (marks : CellMarks) (result : Bool)
    (variables slots : ℕ) (room : (variables + slots) + most_temporaries ≤ most_values) where
  abbrev setting : Setting
  setting = record { layout = layout; holds = holds; base = variables + slots; texts = texts; standing = standing }

  -- the variables that are bound, and the values of the unspent slots
  abbrev reads : List ℕ → List ℕ → List ℕ
  reads unspent bound = read_below variables slots unspent bound

  abbrev FitsCode : List ℕ → List ℕ → Goal → ℕ → ℕ → List Line → Type 0
  FitsCode bound outer goal low high lines = Fits (variables + slots) bound outer goal low high lines

  abbrev HeldFits : List ℕ → List ℕ → List ℕ → Goal → ℕ → ℕ → List Line → Type 0
  HeldFits held bound outer goal low high lines =
      FitsHeld (variables + slots) (values_of_slots variables held) bound outer goal low high lines

  -- they are below the temporaries
  has_room : (unspent bound : List ℕ) → HasRoom variables bound → HasRoom (variables + slots) (reads unspent bound)
  has_room unspent bound has = room_read variables slots unspent bound room has.low

  -- code before which nothing is held
  none_held : (held bound outer : List ℕ) (goal : Goal) (low high : ℕ) (lines : List Line) → held ≡ []
      → FitsCode bound outer goal low high lines → HeldFits held bound outer goal low high lines
  none_held held bound outer goal low high lines none fits =
      subst (λ (h : List ℕ). HeldFits h bound outer goal low high lines) (sym none)
      (held_fits (variables + slots) bound outer goal low high lines fits)

  -- ---- what may be read behind a form

  -- a variable more
  bound_behind_value : (x : ℕ) (unspent bound : List ℕ) → IsWithin (reads unspent (x ∷ bound)) (x ∷ reads unspent bound)
  bound_behind_value x unspent bound =
      read_within variables slots unspent (x ∷ bound) (x ∷ reads unspent bound)
      (within_more bound (reads unspent bound) x (variable_there variables slots unspent bound))
      (λ y less is. or_right (x == variables + y) (is_among (reads unspent bound) (variables + y))
      (slot_there variables slots unspent bound y less is))

  -- fields more
  bound_behind_fields : (fields unspent bound : List ℕ)
      → IsWithin (reads unspent (fields ++ bound)) (bound_list fields (reads unspent bound))
  bound_behind_fields fields unspent bound =
      read_within variables slots unspent (fields ++ bound) (bound_list fields (reads unspent bound))
      (λ v is. listed_within fields (reads unspent bound) v
      (front_within fields bound (reads unspent bound) (variable_there variables slots unspent bound) v is))
      (λ y less is. kept_list (reads unspent bound) fields (variables + y) (slot_there variables slots unspent bound y less is))

  -- a slot more
  slot_more : (y : ℕ) (unspent bound more : List ℕ) → IsWithin bound more
      → ((z : ℕ) → z < slots → is_among unspent z ≡ true → is_among more (variables + z) ≡ true)
      → IsWithin (reads (y ∷ unspent) bound) ((variables + y) ∷ more)
  slot_more y unspent bound more within there =
      read_within variables slots (y ∷ unspent) bound ((variables + y) ∷ more)
      (λ v is. or_right (variables + y == v) (is_among more v) (within v is))
      (λ z less is. split z less (or_cases (y == z) (is_among unspent z) is))
    where
      split : (z : ℕ) → z < slots → ((y == z) ≡ true) ⊎ (is_among unspent z ≡ true)
          → is_among ((variables + y) ∷ more) (variables + z) ≡ true
      split z less (inl same) =
          let e = eqb-true y z same in
          or_left (variables + y == variables + z) (is_among more (variables + z)) (eq-eqb (variables + y) (variables + z)
          (omega (arith, e)))
      split z less (inr is) = or_right (variables + y == variables + z) (is_among more (variables + z)) (there z less is)

  slot_written : (y : ℕ) (unspent bound : List ℕ) → IsWithin (reads (y ∷ unspent) bound) ((variables + y) ∷ reads unspent bound)
  slot_written y unspent bound =
      slot_more y unspent bound (reads unspent bound) (variable_there variables slots unspent bound)
      (λ z less is. slot_there variables slots unspent bound z less is)

  -- a slot less
  slot_spent : (y : ℕ) (unspent bound : List ℕ) → IsWithin (reads (without (y ∷ []) unspent) bound) (reads unspent bound)
  slot_spent y unspent bound =
      read_within variables slots (without (y ∷ []) unspent) bound (reads unspent bound)
      (variable_there variables slots unspent bound)
      (λ z less is. slot_there variables slots unspent bound z less (left_there y z unspent is))

  -- ---- single lines

  -- a value is written
  writes : (bound : List ℕ) (operation : Operation) (args : List ℕ) (v : ℕ) → HasRoom (variables + slots) bound
      → may_give (Compute operation) ≡ true → length args ≤ 2 → Each (Readable (variables + slots) (variables + slots) bound) args
      → v < variables + slots
      → Leads (Readable (variables + slots) (variables + slots) bound)
      (Readable (variables + slots) (variables + slots) (v ∷ bound)) 1 (computes operation args v ∷ [])
  writes bound operation args v has gives few each less = record {
    no_label = λ l. (refl, tt);
    few = omega arith;
    good = λ rest good. to_variable (variables + slots) (variables + slots) bound operation args v rest has (omega arith) gives few
        each less good;
  }

  -- ---- forms on values

  module _ (held unspent bound outer : List ℕ) (has : HasRoom variables bound) (x : ℕ) (less : x < variables) (goal : Goal)
      (low high : ℕ) (more : List Line) where
    -- a form that is no call, and a form
    plain_fits : (form : Form) (arguments : List ℕ) (own : List Line) → held ≡ [] → AreBound bound arguments
        → HasArity form arguments → ComputeLines setting x form arguments own
        → HeldFits held (x ∷ reads unspent bound) outer goal low high more
        → HeldFits held (reads unspent bound) outer goal low high (own ++ more)
    plain_fits form arguments own none are arity is fits =
        none_held held (reads unspent bound) outer goal low high (own ++ more) none
        (fits_form setting (reads unspent bound) outer (has_room unspent bound has) x (omega (arith, less)) goal low high more
        (fits_held (variables + slots) (x ∷ reads unspent bound) outer goal low high more
        (subst (λ (h : List ℕ). HeldFits h (x ∷ reads unspent bound) outer goal low high more) none fits))
        form arguments own arity
        (bound_within bound (reads unspent bound) arguments (variable_there variables slots unspent bound) are) is)

    compute_fits : (form : Form) (arguments others : List ℕ) (rest : Tokened) (own : List Line)
        → HoldsAtCalls held (Tokened.compute x form arguments others rest) → AreBelow slots held → AreBound bound arguments
        → HasArity form arguments → ComputeLines setting x form arguments own
        → HeldFits held (x ∷ reads unspent bound) outer goal low high more
        → HeldFits held (reads unspent bound) outer goal low high (own ++ more)
    compute_fits (Number value) arguments others rest own at below are arity is fits =
        plain_fits (Number value) arguments own at.0 are arity is fits
    compute_fits Nothing arguments others rest own at below are arity is fits =
        plain_fits Nothing arguments own at.0 are arity is fits
    compute_fits ReadByte arguments others rest own at below are arity is fits =
        plain_fits ReadByte arguments own at.0 are arity is fits
    compute_fits (PrintText how text) arguments others rest own at below are arity is fits =
        plain_fits (PrintText how text) arguments own at.0 are arity is fits
    compute_fits (Unary operator) arguments others rest own at below are arity is fits =
        plain_fits (Unary operator) arguments own at.0 are arity is fits
    compute_fits (Binary operator) arguments others rest own at below are arity is fits =
        plain_fits (Binary operator) arguments own at.0 are arity is fits
    compute_fits (Print how) arguments others rest own at below are arity is fits =
        plain_fits (Print how) arguments own at.0 are arity is fits
    compute_fits (Construct c) arguments others rest own at below are arity is fits =
        plain_fits (Construct c) arguments own at.0 are arity is fits
    compute_fits (Call f) arguments others rest own at below are arity is fits =
        let among = bound_within bound (reads unspent bound) arguments (variable_there variables slots unspent bound) are in
        subst (λ (lines : List Line). HeldFits held (reads unspent bound) outer goal low high (lines ++ more)) (sym is)
        (fits_held_call (variables + slots) (values_of_slots variables held) (reads unspent bound) outer
        (has_room unspent bound has) goal low high more variables x f arguments (values_between variables slots held below) less
        (omega (arith, less)) arity (all_bound (reads unspent bound) arguments among)
        (each_low variables bound arguments has are) fits)

    -- a construction that asks for its cell while other tokens are held
    asked_fits : (form : Form) (arguments others : List ℕ) (own : List Line) (middle : ℕ)
        → Asks setting variables low x form arguments others own middle → AtForm form arguments others unspent held
        → AreBelow slots others → AreBound bound arguments
        → HeldFits held (x ∷ reads unspent bound) outer goal middle high more
        → HeldFits held (reads unspent bound) outer goal low high (own ++ more)
    asked_fits form arguments others own middle asks at few are fits =
        let at_made : AtForm (Construct asks.made_by) (asks.first ∷ asks.later) others unspent held
        = subst (λ (xs : List ℕ). AtForm (Construct asks.made_by) xs others unspent held) asks.arguments_are
        (subst (λ (f : Form). AtForm f arguments others unspent held) asks.form_is at) in
        let base = variables + slots in
        let under : x < variables + slots = omega (arith, less) in
        let inside = x ∷ reads unspent bound in
        let itself = or_left (x == x) (is_among (reads unspent bound) x) (eq-eqb x x refl) in
        let behind : FitsCode inside outer goal (low + 1) high more
        = subst (λ (from : ℕ). FitsCode inside outer goal from high more) (sym asks.middle_is)
        (fits_held base inside outer goal middle high more
        (subst (λ (h : List ℕ). HeldFits h inside outer goal middle high more) at_made.0 fits)) in
        none_held held (reads unspent bound) outer goal low high (own ++ more) at_made.0
        (subst (λ (lines : List Line). FitsCode (reads unspent bound) outer goal low high (lines ++ more)) (sym asks.own_is)
        (fits_step base (reads unspent bound) inside outer goal low high 1 (sets 0 x ∷ []) (asks.fill ++ more)
        (writes (reads unspent bound) (Op.Li 0) [] x (has_room unspent bound has) refl (omega arith) tt under)
        (fits_fill base inside outer (room_more base (reads unspent bound) x (has_room unspent bound has) under) x under x itself
        (values_of_slots variables others)
        (bound_later base (reads unspent bound) x (values_of_slots variables others)
        (values_there variables slots unspent bound others few (λ z there. sym (at_made.1.1 z) ∙ there)))
        (values_apart variables others at_made.1.0) (values_differ variables x others less) (header_of layout asks.made_by)
        arguments
        (bound_later base (reads unspent bound) x arguments
        (bound_within bound (reads unspent bound) arguments (variable_there variables slots unspent bound) are)) goal low high []
        false false asks.fill more asks.fills
        (fits_weaker base inside (x ∷ inside) outer goal (low + 1) high more
        (λ v there. or_right (x == v) (is_among inside v) there) behind))))

  -- the lines of a construction in the cell of a slot begin with the test of its token
  fill_begins : (x y : ℕ) (code : Tokened) → IsFillOf x y code → (bound : List ℕ) (goal : Goal) (low high : ℕ) (lines : List Line)
      → CodeLines setting variables goal low code lines high → AreNumbered variables bound (bare code)
      → (x < variables + slots) × ((others : List Line)
      × (lines ≡ copies_to (variables + y) x ∷ acts (Branch NotEqual low) (x ∷ []) ∷ others))
  fill_begins x y code fills bound goal low high lines are numbered =
      let there = fill_there x y code fills in
      path_j (λ (c : Tokened) (same : Tokened.fill x y there.c there.first there.arguments there.kept there.others there.rest ≡ c).
      CodeLines setting variables goal low c lines high → AreNumbered variables bound (bare c)
      → (x < variables + slots) × ((others : List Line)
      × (lines ≡ copies_to (variables + y) x ∷ acts (Branch NotEqual low) (x ∷ []) ∷ others)))
      (λ own is. (let less = is.0 in omega (arith, less), (_, own.4 ∙ ap (λ ls. ls ++ own.1) own.2.4))) there.is are numbered

  -- an opening, before the code behind it
  opening_fits : (x c : ℕ) (fields used : List ℕ) (y : ℕ) (rest : Tokened) (bound outer unspent left held : List ℕ) (goal : Goal)
      (low high : ℕ) (lines : List Line) → (is : CodeLines setting variables goal low
      (Tokened.open_cell x c fields used y rest) lines
      high) → HasRoom variables bound → held ≡ [] → is_among bound x ≡ true
      → AreNumbered variables bound (bare (Tokened.open_cell x c fields used y rest)) → y < slots
      → HeldFits [] (reads (y ∷ unspent) (fields ++ bound)) (reads left outer) goal (low + 2) high is.1
      → HeldFits held (reads unspent bound) (reads left outer) goal low high lines
  opening_fits x c fields used y rest bound outer unspent left held goal low high lines is has none there numbered few later =
      let own = is.0 in
      let more = is.1 in
      let opening = is.2 in
      none_held held (reads unspent bound) (reads left outer) goal low high lines none
      (subst (FitsCode (reads unspent bound) (reads left outer) goal low high) (sym is.4)
      (fits_token_unique (variables + slots) (reads unspent bound) (reads left outer) (has_room unspent bound has) holds x
      (variable_there variables slots unspent bound x there) fields used (below_more variables slots fields numbered.0.0)
      (variables + y) (omega (arith, few)) goal low high opening.0 own more opening.2
      (λ made into_is. fill_begins made y rest (subst (λ into. MayFill into y rest) into_is opening.1) (fields ++ bound) goal
      (low + 2)
      high more is.3 numbered.1)
      (fits_weaker (variables + slots) (reads (y ∷ unspent) (fields ++ bound))
      ((variables + y) ∷ bound_list fields (reads unspent bound)) (reads left outer) goal (low + 2) high more
      (slot_more y unspent (fields ++ bound) (bound_list fields (reads unspent bound))
      (λ v there. bound_behind_fields fields unspent bound v (variable_there variables slots unspent (fields ++ bound) v there))
      (λ z less there. kept_list (reads unspent bound) fields (variables + z)
      (slot_there variables slots unspent bound z less there)))
      (fits_held (variables + slots) (reads (y ∷ unspent) (fields ++ bound)) (reads left outer) goal (low + 2) high more later))))

  -- ---- codes

  mutual
    pub code_fits : (code : Tokened) (bound outer unspent left held : List ℕ) (given : Bool) (goal : Goal) (low high : ℕ)
        (lines : List Line) → HasRoom variables bound → IsWithin outer bound → HasUses marks holds result bound given (bare code)
        → AreNumbered variables bound (bare code) → HasArms (bare code) → EachHasAnArm (bare code) → HasArities (bare code)
        → HasSlots slots code → HoldsAtCalls held code → SpendsTokens left unspent held code
        → AreBelow slots held → AreApart held → CodeLines setting variables goal low code lines high
        → HeldFits held (reads unspent bound) (reads left outer) goal low high lines
    code_fits (Tokened.give x) bound outer unspent left held given goal low high lines has within marked numbered arms some arities
        few at spends below apart is =
        none_held held (reads unspent bound) (reads left outer) goal low high lines at
        (subst (FitsCode (reads unspent bound) (reads left outer) goal low high) (sym is.0)
        (subst (λ (high : ℕ). FitsCode (reads unspent bound) (reads left outer) goal low high (goal_lines goal x)) is.1
        (fits_give (variables + slots) (reads unspent bound) (has_room unspent bound has) (reads left outer) x goal low
        (variable_there variables slots unspent bound x marked.0)
        (read_within variables slots left outer (reads unspent bound)
        (λ v there. variable_there variables slots unspent bound v (within v there))
        (λ y less there. slot_there variables slots unspent bound y less (spends.1 y ∙ there))))))
    code_fits (Tokened.tail_call f arguments) bound outer unspent left held given goal low high lines has within marked numbered
        arms some arities few at spends below apart is =
        none_held held (reads unspent bound) (reads left outer) goal low high lines at
        (subst (FitsCode (reads unspent bound) (reads left outer) goal low high) (sym is.0)
        (subst (λ (high : ℕ). FitsCode (reads unspent bound) (reads left outer) goal low high
        (tail_lines (variables + slots) f arguments)) is.1
        (fits_tail_call (variables + slots) (reads unspent bound) (has_room unspent bound has) (reads left outer) f arguments goal
        low arities (all_bound (reads unspent bound) arguments
        (bound_within bound (reads unspent bound) arguments (variable_there variables slots unspent bound) marked.0)))))
    code_fits (Tokened.case x decisions arms) bound outer unspent left held given goal low high lines has within marked numbered
        orderly some arities few at spends below apart is =
        none_held held (reads unspent bound) (reads left outer) goal low high lines at.0
        (subst (FitsCode (reads unspent bound) (reads left outer) goal low high) (sym is.6)
        (fits_case (variables + slots) (reads unspent bound) (reads left outer) (has_room unspent bound has) layout x
        (variable_there variables slots unspent bound x marked.0) goal low (arm_count (bare_arms arms)) is.2 high decisions
        orderly.0 (some_arm (bare_arms arms) some.0) is.3 is.0 is.1 is.4
        (arms_fit arms bound outer unspent left given goal low (is.2 + length decisions) high is.1 has within marked.1 numbered
        orderly.1 some.1 arities few at.1 spends.1 (let nodes = is.3 in omega (arith, nodes)) is.5)))
    code_fits (Tokened.compute x form arguments others rest) bound outer unspent left held given goal low high lines has within
        marked numbered arms some arities few at spends below apart is =
        let comes = branch_of form arguments is.3 in
        elim (either_left (branch_of form arguments is.3)) [
          | inl none ↦ (
              let rest_is = plain_part setting variables comes none goal is.2 rest is.1 high is.5 in
              let later = held_weaker (variables + slots) (values_of_slots variables held) (reads unspent (x ∷ bound))
              (x ∷ reads unspent bound) (reads left outer) goal is.2 high is.1 (bound_behind_value x unspent bound)
              (code_fits rest (x ∷ bound) outer unspent left held given goal is.2 high is.1 (room_more variables bound x has numbered.0)
              (λ v there. or_right (x == v) (is_among bound v) (within v there)) marked.1.1 numbered.1.1 arms some arities.1 few.1
              (held_behind held x form arguments others rest at) spends.1 below apart rest_is.0) in
              subst (λ (lines : List Line). HeldFits held (reads unspent bound) (reads left outer) goal low high lines) (sym is.7)
              (elim (ask_either setting variables low x form arguments others is.0 is.2
              (plain_own setting variables comes none low x form arguments others is.0 is.2 is.4)) [
                | inl own ↦
                    compute_fits held unspent bound (reads left outer) has x numbered.0 goal low high is.1 form arguments others rest
                    is.0 at below marked.0 arities.0 own.0
                    (subst (λ (from : ℕ). HeldFits held (x ∷ reads unspent bound) (reads left outer) goal from high is.1)
                    (sym own.1) later)
                | inr asks ↦
                    asked_fits held unspent bound (reads left outer) has x numbered.0 goal low high is.1 form arguments others is.0 is.2
                    asks spends.0 few.0 marked.0 later
              ])
              )
          | inr some_branch ↦ (
              let branch = some_branch.0 in
              let compared = compared_by form arguments is.3 branch some_branch.1 in
              let both = subst (AreBound bound) compared.arguments_are marked.0 in
              let read = reads_both compared.operator compared.first compared.second branch bound both.0 both.1.0 compared.decides in
              let own = subst (λ o. OwnLines o setting variables low x form arguments others is.0 is.2) some_branch.1 is.4 in
              let lines_are = is.7 ∙ ap (λ own. own ++ is.1) own.0 in
              subst (λ (lines : List Line). HeldFits held (reads unspent bound) (reads left outer) goal low high lines) (sym lines_are)
              (subst (λ (from : ℕ). HeldFits held (reads unspent bound) (reads left outer) goal from high is.1) (sym own.1)
              (joined_fits rest branch x bound outer unspent left held given goal is.2 high is.1 has within marked.1.1 numbered.1.1 arms
              some arities.1 few.1 (held_behind held x form arguments others rest at) spends.1 read.0 read.1
              (subst (λ t. MayJoin holds t x rest) compared.joined_is is.6)
              (subst (λ (f : Form). IsFormMarked marks holds f arguments (holds x)) compared.form_is marked.1.0).1
              (subst (λ o. LinesBehind o setting variables goal is.2 rest is.1 high) some_branch.1 is.5)))
              )
        ]
    code_fits (Tokened.inside x block rest) bound outer unspent left held given goal low high lines has within marked numbered arms
        some arities few at spends below apart is =
        none_held held (reads unspent bound) (reads left outer) goal low high lines at.0
        (subst (FitsCode (reads unspent bound) (reads left outer) goal low high) (sym is.5)
        (fits_inside (variables + slots) (reads unspent bound) (reads spends.0 bound) (reads left outer) x
        (let less = numbered.0 in omega (arith, less)) goal low is.2 high is.0 is.1
        (fits_held (variables + slots) (reads unspent bound) (reads spends.0 bound) (joins x low) (low + 1) is.2 is.0
        (code_fits block bound bound unspent spends.0 [] (holds x) (joins x low) (low + 1) is.2 is.0 has (λ v there. there) marked.0
        numbered.1.0 arms.0 some.0 arities.0 few.0 at.1.0 spends.1.1.0 tt tt is.3))
        (fits_weaker (variables + slots) (reads spends.0 (x ∷ bound)) (x ∷ reads spends.0 bound) (reads left outer) goal is.2 high
        is.1 (bound_behind_value x spends.0 bound)
        (fits_held (variables + slots) (reads spends.0 (x ∷ bound)) (reads left outer) goal is.2 high is.1
        (code_fits rest (x ∷ bound) outer spends.0 left [] given goal is.2 high is.1 (room_more variables bound x has numbered.0)
        (λ v there. or_right (x == v) (is_among bound v) (within v there)) marked.1 numbered.1.1 arms.1 some.1 arities.1 few.1
        at.1.1 spends.1.1.1 tt tt is.4)))))
    code_fits (Tokened.read x c fields rest) bound outer unspent left held given goal low high lines has within marked numbered arms
        some arities few at spends below apart is =
        none_held held (reads unspent bound) (reads left outer) goal low high lines at.0
        (subst (FitsCode (reads unspent bound) (reads left outer) goal low high) (sym is.4)
        (fits_read (variables + slots) (reads unspent bound) (reads left outer) (has_room unspent bound has) goal low high is.1
        x fields
        is.0 (variable_there variables slots unspent bound x marked.0.0) (below_more variables slots fields numbered.0.0) is.2
        (fits_weaker (variables + slots) (reads unspent (fields ++ bound)) (bound_list fields (reads unspent bound))
        (reads left outer) goal low high is.1 (bound_behind_fields fields unspent bound)
        (fits_held (variables + slots) (reads unspent (fields ++ bound)) (reads left outer) goal low high is.1
        (code_fits rest (fields ++ bound) outer unspent left [] given goal low high is.1
        (room_front variables bound fields has numbered.0.0) (behind fields bound outer within) marked.1 numbered.1 arms some
        arities few at.1 spends.1 tt tt is.3)))))
    code_fits (Tokened.open_cell x c fields used y rest) bound outer unspent left held given goal low high lines has within marked
        numbered arms some arities few at spends below apart is =
        opening_fits x c fields used y rest bound outer unspent left held goal low high lines is has at.0 marked.0.0 numbered few.0
        (code_fits rest (fields ++ bound) outer (y ∷ unspent) left [] given goal (low + 2) high is.1
        (room_front variables bound fields has numbered.0.0) (behind fields bound outer within) marked.1 numbered.1 arms some
        arities few.1 at.1 spends.1.1 tt tt is.3)
    code_fits (Tokened.if_unique x c fields used y rest) bound outer unspent left held given goal low high lines has within marked
        numbered arms some arities few at spends below apart is =
        opening_fits x c fields used y rest bound outer unspent left held goal low high lines is has at.0 marked.0.0 numbered few.0
        (code_fits rest (fields ++ bound) outer (y ∷ unspent) left [] given goal (low + 2) high is.1
        (room_front variables bound fields has numbered.0.0) (behind fields bound outer within) marked.1 numbered.1 arms some
        arities few.1 at.1 spends.1.1 tt tt is.3)
    code_fits (Tokened.dup x rest) bound outer unspent left held given goal low high lines has within marked numbered arms some
        arities few at spends below apart is =
        none_held held (reads unspent bound) (reads left outer) goal low high lines at.0
        (subst (FitsCode (reads unspent bound) (reads left outer) goal low high) (sym is.2)
        (fits_dup (variables + slots) (reads unspent bound) (reads left outer) (has_room unspent bound has) goal low high is.0 holds
        x (variable_there variables slots unspent bound x marked.0)
        (fits_held (variables + slots) (reads unspent bound) (reads left outer) goal low high is.0
        (code_fits rest bound outer unspent left [] given goal low high is.0 has within marked.1 numbered arms some arities few
        at.1 spends.1 tt tt is.1))))
    code_fits (Tokened.drop x rest) bound outer unspent left held given goal low high lines has within marked numbered arms some
        arities few at spends below apart is =
        subst (HeldFits held (reads unspent bound) (reads left outer) goal low high) (sym is.2)
        (fits_held_drop (variables + slots) (values_of_slots variables held) (reads unspent bound) (reads left outer)
        (has_room unspent bound has) goal low high is.0 variables x holds (values_between variables slots held below)
        (λ some. (variable_there variables slots unspent bound x (marked.0 some), has.low x (marked.0 some)))
        (code_fits rest bound outer unspent left held given goal low high is.0 has within marked.1 numbered arms some arities few
        at spends below apart is.1))
    code_fits (Tokened.fill x y c first arguments kept others rest) bound outer unspent left held given goal low high lines has
        within marked numbered arms some arities few at spends below apart is =
        none_held held (reads unspent bound) (reads left outer) goal low high lines at.0
        (subst (FitsCode (reads unspent bound) (reads left outer) goal low high) (sym is.4)
        (fits_fill (variables + slots) (reads unspent bound) (reads left outer) (has_room unspent bound has) x
        (let less = numbered.0 in omega (arith, less)) (variables + y)
        (slot_there variables slots unspent bound y few.0 spends.1.0) (values_of_slots variables others)
        (values_there variables slots unspent bound others few.1.0
        (λ z there. left_there y z unspent (sym (spends.1.1.1.0 z) ∙ there)))
        (values_apart variables others spends.1.1.0) (values_differ variables x others numbered.0) (header_of layout c)
        (first ∷ arguments)
        (bound_within bound (reads unspent bound) (first ∷ arguments) (variable_there variables slots unspent bound) marked.0) goal
        low high kept (header_stands standing c) (count_stands standing) is.0 is.1 is.2
        (fits_weaker (variables + slots) (reads (without (y ∷ []) unspent) (x ∷ bound)) (x ∷ reads unspent bound) (reads left outer)
        goal (low + 1) high is.1
        (λ v there. bound_behind_value x unspent bound v (slot_spent y unspent (x ∷ bound) v there))
        (fits_held (variables + slots) (reads (without (y ∷ []) unspent) (x ∷ bound)) (reads left outer) goal (low + 1) high is.1
        (code_fits rest (x ∷ bound) outer (without (y ∷ []) unspent) left [] given goal (low + 1) high is.1
        (room_more variables bound x has numbered.0) (λ v there. or_right (x == v) (is_among bound v) (within v there)) marked.1.1
        numbered.1.1 arms some arities.1 few.1.1 at.1 spends.1.1.1.1 tt tt is.3)))))
    code_fits (Tokened.free y rest) bound outer unspent left held given goal low high lines has within marked numbered arms some
        arities few at spends below apart is =
        none_held held (reads unspent bound) (reads left outer) goal low high lines at.0
        (subst (FitsCode (reads unspent bound) (reads left outer) goal low high) (sym is.2)
        (fits_step (variables + slots) (reads unspent bound) (reads unspent bound) (reads left outer) goal low high 1
        (acts (Compute Op.Free) ((variables + y) ∷ []) ∷ []) is.0
        (effect (variables + slots) (reads unspent bound) (variables + slots) Op.Free ((variables + y) ∷ [])
        (has_room unspent bound has) (omega arith) (omega arith)
        (inl (slot_there variables slots unspent bound y few.0 spends.1.0), tt))
        (fits_weaker (variables + slots) (reads (without (y ∷ []) unspent) bound) (reads unspent bound) (reads left outer) goal low
        high is.0 (slot_spent y unspent bound)
        (fits_held (variables + slots) (reads (without (y ∷ []) unspent) bound) (reads left outer) goal low high is.0
        (code_fits rest bound outer (without (y ∷ []) unspent) left [] given goal low high is.0 has within marked numbered arms some
        arities few.1 at.1 spends.1.1 tt tt is.1)))))
    code_fits (Tokened.null y rest) bound outer unspent left held given goal low high lines has within marked numbered arms some
        arities few at spends below apart is =
        none_held held (reads unspent bound) (reads left outer) goal low high lines at.0
        (subst (FitsCode (reads unspent bound) (reads left outer) goal low high) (sym is.2)
        (fits_step (variables + slots) (reads unspent bound) ((variables + y) ∷ reads unspent bound) (reads left outer) goal low
        high 1 (sets 0 (variables + y) ∷ []) is.0
        (writes (reads unspent bound) (Op.Li 0) [] (variables + y) (has_room unspent bound has) refl (omega arith) tt
        (let less = few.0 in omega (arith, less)))
        (fits_weaker (variables + slots) (reads (y ∷ unspent) bound) ((variables + y) ∷ reads unspent bound) (reads left outer) goal
        low high is.0 (slot_written y unspent bound)
        (fits_held (variables + slots) (reads (y ∷ unspent) bound) (reads left outer) goal low high is.0
        (code_fits rest bound outer (y ∷ unspent) left [] given goal low high is.0 has within marked numbered arms some arities
        few.1 at.1 spends.1.1 tt tt is.1)))))
    code_fits (Tokened.move to of rest) bound outer unspent left held given goal low high lines has within marked numbered arms some
        arities few at spends below apart is =
        none_held held (reads unspent bound) (reads left outer) goal low high lines at.0
        (subst (FitsCode (reads unspent bound) (reads left outer) goal low high) (sym is.2)
        (fits_step (variables + slots) (reads unspent bound) ((variables + to) ∷ reads unspent bound) (reads left outer) goal low
        high 1 (copies_to (variables + of) (variables + to) ∷ []) is.0
        (writes (reads unspent bound) Op.Mv ((variables + of) ∷ []) (variables + to) (has_room unspent bound has) refl (omega arith)
        (inl (slot_there variables slots unspent bound of few.1.0 spends.1.0), tt) (let less = few.0 in omega (arith, less)))
        (fits_weaker (variables + slots) (reads (to ∷ without (of ∷ []) unspent) bound) ((variables + to) ∷ reads unspent bound)
        (reads left outer) goal low high is.0
        (slot_more to (without (of ∷ []) unspent) bound (reads unspent bound) (variable_there variables slots unspent bound)
        (λ z less there. slot_there variables slots unspent bound z less (left_there of z unspent there)))
        (fits_held (variables + slots) (reads (to ∷ without (of ∷ []) unspent) bound) (reads left outer) goal low high is.0
        (code_fits rest bound outer (to ∷ without (of ∷ []) unspent) left [] given goal low high is.0 has within marked numbered
        arms some arities few.1.1 at.1 spends.1.1.1 tt tt is.1)))))
    code_fits (Tokened.hold y rest) bound outer unspent left held given goal low high lines has within marked numbered arms some
        arities few at spends below apart is =
        subst (λ (lines : List Line). HeldFits held (reads unspent bound) (reads left outer) goal low high lines) (sym is.2)
        (fits_hold (variables + slots) (values_of_slots variables held) (reads unspent bound) (reads left outer)
        (has_room unspent bound has) goal low high is.0 (variables + y)
        (slot_there variables slots unspent bound y few.0 spends.0) (value_other variables y held at.0)
        (code_fits rest bound outer unspent left (y ∷ held) given goal low high is.0 has within marked numbered arms some arities
        few.1 at.1 spends.1.1 (few.0, below) (at.0, apart) is.1))
    code_fits (Tokened.unhold y rest) bound outer unspent left held given goal low high lines has within marked numbered arms some
        arities few at spends below apart is =
        let apart_older = subst AreApart at.1.0 apart in
        let below_older = subst (AreBelow slots) at.1.0 below in
        subst (λ (lines : List Line). HeldFits held (reads unspent bound) (reads left outer) goal low high lines) (sym is.2)
        (subst (λ (h : List ℕ). HeldFits h (reads unspent bound) (reads left outer) goal low high
        (back_line (variables + y) ∷ is.0)) (sym at.1.0)
        (fits_unhold (variables + slots) (values_of_slots variables at.0) (reads unspent bound) (reads left outer)
        (has_room unspent bound has) goal low high is.0 (variables + y)
        (slot_there variables slots unspent bound y few.0 spends.1.1.0) (value_other variables y at.0 apart_older.0)
        (code_fits rest bound outer unspent left at.0 given goal low high is.0 has within marked numbered arms some arities few.1
        at.1.1
        (subst (λ (h : List ℕ). SpendsTokens left unspent h rest) (tails y spends.0 at.0 (sym spends.1.0 ∙ at.1.0)) spends.1.1.1)
        below_older.1 apart_older.1 is.1)))
    code_fits (Tokened.if_token y there absent) bound outer unspent left held given goal low high lines has within marked numbered
        arms some arities few at spends below apart is =
        none_held held (reads unspent bound) (reads left outer) goal low high lines at.0
        (subst (FitsCode (reads unspent bound) (reads left outer) goal low high) (sym is.5)
        (fits_split (variables + slots) (reads unspent bound) (reads left outer) (has_room unspent bound has) Equal
        ((variables + y) ∷ []) (omega arith) (inl (slot_there variables slots unspent bound y few.0 spends.0), tt)
        goal low is.2 high is.0 is.1
        (fits_held (variables + slots) (reads unspent bound) (reads left outer) goal (low + 1) is.2 is.0
        (code_fits there bound outer unspent left [] given goal (low + 1) is.2 is.0 has within marked numbered arms some arities
        few.1.0 at.1.0 (subst (λ (h : List ℕ). SpendsTokens left unspent h there) at.0 spends.1.1.0) tt tt is.3))
        (fits_held (variables + slots) (reads unspent bound) (reads left outer) goal is.2 high is.1
        (code_fits absent bound outer unspent left [] given goal is.2 high is.1 has within
        (subst (HasUses marks holds result bound given) (sym spends.1.0) marked)
        (subst (AreNumbered variables bound) (sym spends.1.0) numbered) (subst HasArms (sym spends.1.0) arms)
        (subst EachHasAnArm (sym spends.1.0) some) (subst HasArities (sym spends.1.0) arities) few.1.1 at.1.1
        (subst (λ (h : List ℕ). SpendsTokens left unspent h absent) at.0 spends.1.1.1) tt tt is.4))))

    -- a case that does the work of a comparison in front of it
    joined_fits : (code : Tokened) (branch : Branching) (x : ℕ) (bound outer unspent left held : List ℕ) (given : Bool) (goal : Goal)
        (low high : ℕ) (lines : List Line) → HasRoom variables bound → IsWithin outer bound
        → HasUses marks holds result (x ∷ bound) given (bare code) → AreNumbered variables (x ∷ bound) (bare code)
        → HasArms (bare code) → EachHasAnArm (bare code) → HasArities (bare code) → HasSlots slots code → HoldsAtCalls held code
        → SpendsTokens left unspent held code → is_among bound branch.first ≡ true → is_among bound branch.second ≡ true
        → IsTested holds x code → holds x ≡ false → LinesBehind (Some branch) setting variables goal low code lines high
        → HeldFits held (reads unspent bound) (reads left outer) goal low high lines
    joined_fits (Tokened.case y decisions arms) branch x bound outer unspent left held given goal low high lines has within marked
        numbered orderly some arities few at spends first second tested plain is =
        let two = orderly.0.below 2 1 (chooses 1) (ap (λ (nodes : List NodeTree). slice_get nodes 2) tested.1) refl in
        let nodes = is.3 in
        none_held held (reads unspent bound) (reads left outer) goal low high lines at.0
        (subst (FitsCode (reads unspent bound) (reads left outer) goal low high)
        (sym (is.6 ∙ ap (λ (choice : List Line). choice ++ is.1) is.4))
        (fits_branch (variables + slots) (reads unspent bound) (reads left outer) (has_room unspent bound has) goal low
        (arm_count (bare_arms arms)) (is.2 + length decisions) high branch is.1 two (omega (arith, nodes))
        (variable_there variables slots unspent bound branch.first first)
        (variable_there variables slots unspent bound branch.second second)
        (arms_fit arms bound outer unspent left given goal low (is.2 + length decisions) high is.1 has within
        (arms_use_behind marks holds result x plain arms (x ∷ bound) bound given (first_spared x bound) tested.2 marked.1)
        (arms_numbered_fewer variables (bare_arms arms) (x ∷ bound) bound (within_one x bound) numbered) orderly.1 some.1 arities few
        at.1 spends.1 (omega (arith, nodes)) is.5)))
    joined_fits (Tokened.give y) branch x bound outer unspent left held given goal low high lines has within marked
        numbered orderly some arities few at spends first second tested plain is = absurd tested
    joined_fits (Tokened.tail_call f arguments) branch x bound outer unspent left held given goal low high lines has within marked
        numbered orderly some arities few at spends first second tested plain is = absurd tested
    joined_fits (Tokened.compute y form arguments others rest) branch x bound outer unspent left held given goal low high lines has within marked
        numbered orderly some arities few at spends first second tested plain is = absurd tested
    joined_fits (Tokened.inside y block rest) branch x bound outer unspent left held given goal low high lines has within marked
        numbered orderly some arities few at spends first second tested plain is = absurd tested
    joined_fits (Tokened.read y c fields rest) branch x bound outer unspent left held given goal low high lines has within marked
        numbered orderly some arities few at spends first second tested plain is = absurd tested
    joined_fits (Tokened.open_cell y c fields used z rest) branch x bound outer unspent left held given goal low high lines has within marked
        numbered orderly some arities few at spends first second tested plain is = absurd tested
    joined_fits (Tokened.if_unique y c fields used z rest) branch x bound outer unspent left held given goal low high lines has within marked
        numbered orderly some arities few at spends first second tested plain is = absurd tested
    joined_fits (Tokened.dup y rest) branch x bound outer unspent left held given goal low high lines has within marked
        numbered orderly some arities few at spends first second tested plain is = absurd tested
    joined_fits (Tokened.drop y rest) branch x bound outer unspent left held given goal low high lines has within marked
        numbered orderly some arities few at spends first second tested plain is =
        let none : drop_lines holds y ≡ []
        = ap (λ (b : Bool). if b then acts (Calls Drop) (y ∷ []) ∷ [] else [])
        tested.0 in
        subst (HeldFits held (reads unspent bound) (reads left outer) goal low high)
        (sym (is.2 ∙ ap (λ (own : List Line). own ++ is.0) none))
        (joined_fits rest branch x bound outer unspent left held given goal low high is.0 has within marked.1 numbered orderly some
        arities few at spends first second tested.1 plain is.1)
    joined_fits (Tokened.fill y z c first_argument arguments kept others rest) branch x bound outer unspent left held given goal low high lines has within marked
        numbered orderly some arities few at spends first second tested plain is = absurd tested
    joined_fits (Tokened.free y rest) branch x bound outer unspent left held given goal low high lines has within marked
        numbered orderly some arities few at spends first second tested plain is = absurd tested
    joined_fits (Tokened.null y rest) branch x bound outer unspent left held given goal low high lines has within marked
        numbered orderly some arities few at spends first second tested plain is = absurd tested
    joined_fits (Tokened.move to of rest) branch x bound outer unspent left held given goal low high lines has within marked
        numbered orderly some arities few at spends first second tested plain is = absurd tested
    joined_fits (Tokened.hold y rest) branch x bound outer unspent left held given goal low high lines has within marked
        numbered orderly some arities few at spends first second tested plain is = absurd tested
    joined_fits (Tokened.unhold y rest) branch x bound outer unspent left held given goal low high lines has within marked
        numbered orderly some arities few at spends first second tested plain is = absurd tested
    joined_fits (Tokened.if_token y there absent) branch x bound outer unspent left held given goal low high lines has within marked
        numbered orderly some arities few at spends first second tested plain is = absurd tested

    arms_fit : (arms : TokenedArms) (bound outer unspent left : List ℕ) (given : Bool) (goal : Goal) (label low high : ℕ)
        (lines : List Line) → HasRoom variables bound → IsWithin outer bound
        → HaveUses marks holds result bound given (bare_arms arms) → AreArmsNumbered variables bound (bare_arms arms)
        → HaveArms (bare_arms arms) → AllHaveAnArm (bare_arms arms) → HaveArities (bare_arms arms) → HaveSlots slots arms
        → HoldAtCalls arms → SpendAllTokens left unspent arms → label + arm_count (bare_arms arms) ≤ low
        → ArmsLines setting variables goal label low arms lines high
        → ArmsFit (variables + slots) (reads unspent bound) (reads left outer) goal label (arm_count (bare_arms arms)) low
        high lines
    arms_fit TokenedArms.no_arm bound outer unspent left given goal label low high lines has within marked numbered arms some
        arities few at spends under is =
        subst (ArmsFit (variables + slots) (reads unspent bound) (reads left outer) goal label 0 low high) (sym is.0)
        (subst (λ (high : ℕ). ArmsFit (variables + slots) (reads unspent bound) (reads left outer) goal label 0 low high []) is.1
        (arms_none (variables + slots) (reads unspent bound) (reads left outer) goal label low))
    arms_fit (TokenedArms.arm body rest) bound outer unspent left given goal label low high lines has within marked numbered arms
        some arities few at spends under is =
        let one = fits_held (variables + slots) (reads unspent bound) (reads left outer) goal low is.2 is.0
        (code_fits body bound outer unspent left [] given goal low is.2 is.0 has within marked.0 numbered.0 arms.0 some.0 arities.0
        few.0 at.0 spends.0 tt tt is.3) in
        let up = one.up in
        subst (ArmsFit (variables + slots) (reads unspent bound) (reads left outer) goal label (suc (arm_count (bare_arms rest)))
        low high) (sym is.5)
        (arms_more (variables + slots) (reads unspent bound) (reads left outer) goal label (arm_count (bare_arms rest)) low is.2
        high is.0 is.1 one
        (arms_fit rest bound outer unspent left given goal (label + 1) is.2 high is.1 has within marked.1 numbered.1 arms.1 some.1
        arities.1 few.1 at.1 spends.1 (omega (arith, under, up)) is.4) under)
