-- Runs of marked code keep each value fit for its mark.
use Rattle.std.proofs.Common.{◌≡◌, ℕ, zero, suc, ◌==◌, ◌&&◌, ◌||◌, Bool, true, false, List, [], ◌∷◌, ◌++◌, length, map, Option, Some, None, arith, refl, sym, ap, ◌∙◌, subst}
use Rattle.std.proofs.lemmas.Option.{get_or_from_slice_get}
use Rattle.std.specs.Prelude.{slice_get, nat_le, if◌then◌else◌}
use Rattle.std.specs.Fmt.{signed_decimal}
use Rattle.kk_base.specs.Machines.{step_unless, state}
use Rattle.kk_core.specs.CoreMachine.{bind_fields}
use Rattle.kk_core.specs.Sizes.{AreBound}
use Rattle.kk_counted.proofs.CountChanges.{same}
use Rattle.kk_counted.proofs.CountIndependence.{OnHeap, dup_keeps, drop_keeps, opened_keeps, unique_keeps}
use Rattle.kk_counted.proofs.Evenness.{in_both}
use Rattle.kk_counted.proofs.Variables.{among_first, among_later}
use Rattle.kk_counted.proofs.SoundRuns.{performed_kept}
use Rattle.kk_counted.proofs.SoundSteps.{LeadsTo, OnNamed, OnCode}
use Rattle.kk_counted.specs.CountedCodes.{Counted, give, tail_call, case, compute, inside, read, open_cell, if_unique, dup, drop, CountedArms, no_arm, arm, CountedFunction}
use Rattle.kk_counted.specs.CountedMachine.{at_counted, bound_then, at_end, at_stuck, with_heap, arm_at, case_step, give_step, in_code, tail_step, if_made_by, Named, cell_named, used_values, other_values, opened_heap, unique_heap, open_step, call_step, form_step, counted_code_step, counted_step_at, counted_step_of, counted_step, counted_ending_of, counted_machine}
use Rattle.kk_counted.specs.CountedStates.{CountedSetting, CountedJoin, CountedFrame, CountedControl, running, stopped, stuck, CountedConfiguration, CountedState, no_function, counted_start, counted_first_state}
use Rattle.kk_counted.specs.VariableLists.{AreIn}
use Rattle.kk_counted.specs.Heaps.{Held, Heap, held_at, count_at, if_counted, set_count, busy, dup_value, drop_value}
use Rattle.kk_counted.specs.Keeping.{counted_after}
use Rattle.kk_counted.specs.MarkKeeping.{FitsMark, FitMarks, CellsFit, variables_of, EnvironmentFits, JoinsFit, RunFits, FramesFit, ControlFits, StateFits, numbers_given, numbers_called, numbers_at, numbers_after, numbers_from_state, numbers_in}
use Rattle.kk_counted.specs.Marks.{CellMarks, parameter_marks, result_mark, field_marks, made_mark, HaveMarks, IsFormMarked, Opens, HasMark, HaveMark, IsMarked, AreMarked}
use Rattle.kk_counted.specs.Spending.{numbers_from}
use Rattle.kk_source.specs.Actions.{print_step}
use Rattle.kk_source.specs.FormEffects.{truth, unary_result, number_result, integer_of, argument, piece_of, byte_value}
use Rattle.kk_source.specs.Live.{value_of}
use Rattle.kk_source.specs.Matching.{and_then}
use Rattle.kk_source.specs.State.{Value, integer, unit, constant, place, Cell, Environment, End, heap_full, stack_full}
use Rattle.kk_source.specs.Step.{bind_parameters}
use Rattle.kk_syntax.specs.Programs.{text_at}
use Rattle.kk_syntax.specs.Shapes.{is_among}
use Rattle.kk_syntax.specs.declared.operator.BinaryOperator.{BinaryOperator}
use Rattle.kk_syntax.specs.declared.operator.BinaryOperator.TheVariants.{Add, Subtract, Multiply, Divide, Remainder, Equal, NotEqual, Less, LessEqual, Greater, GreaterEqual}
use Rattle.kk_syntax.specs.declared.operator.UnaryOperator.{UnaryOperator}
use Rattle.kk_syntax.specs.declared.operator.UnaryOperator.TheVariants.{Negate, Not}
use Rattle.kk_syntax.specs.declared.program.Form.{Form}
use Rattle.kk_syntax.specs.declared.program.Form.TheVariants.{Number, Unit as Nothing, ReadByte, PrintText, Unary, Binary, Print, Construct, Call}

-- ---- heaps

module _ (marks : CellMarks) where
  pub set_fits : (at count : ℕ) (heap : Heap) → CellsFit marks heap → CellsFit marks (set_count at count heap)
  set_fits at count [] fit = tt
  set_fits at count (held ∷ heap) fit = by_test (length heap == at) (set_fits at count heap fit.1)
    where
      by_test : (t : Bool) → CellsFit marks (set_count at count heap)
          → CellsFit marks (if t then record held { count = count } ∷ heap else held ∷ set_count at count heap)
      by_test true later = fit
      by_test false later = (fit.0, later)

  -- ---- the cell that a value names

  abbrev OnHeld : Option Held → Type 0
  OnHeld None = Unit {0}
  OnHeld (Some held) = FitMarks (field_marks marks held.cell.made_by) held.cell.fields

  held_fits : (heap : Heap) (at : ℕ) → CellsFit marks heap → OnHeld (held_at heap at)
  held_fits [] at fit = tt
  held_fits (one ∷ heap) at fit = by_test (length heap == at) (held_fits heap at fit.1)
    where
      by_test : (t : Bool) → OnHeld (held_at heap at) → OnHeld (if t then Some one else held_at heap at)
      by_test true later = fit.0
      by_test false later = later

  first_of : (a b : Bool) → (a && b) ≡ true → a ≡ true
  first_of true b is = refl
  first_of false b is = absurd (cc)

  pub named_fits : (c count : ℕ) (heap : Heap) (v : Value) → CellsFit marks heap
      → OnNamed (λ named. FitMarks (field_marks marks c) named.fields) (cell_named c count heap v)
  named_fits c count heap (integer n) fit = tt
  named_fits c count heap unit fit = tt
  named_fits c count heap (constant d) fit = tt
  named_fits c count heap (place at) fit = by_held (held_at heap at) (held_fits heap at fit)
    where
      by_test : (cell : Cell) → FitMarks (field_marks marks cell.made_by) cell.fields → (t : Bool) → (t ≡ true → cell.made_by ≡ c)
          → OnNamed (λ named. FitMarks (field_marks marks c) named.fields)
          (and_then (if t then Some cell.fields else None) (λ fields. Some (record { at = at; fields = fields })))
      by_test cell fits false made = tt
      by_test cell fits true made = subst (λ by. FitMarks (field_marks marks by) cell.fields) (made refl) fits

      by_counted : (count_now : ℕ) (cell : Cell) → FitMarks (field_marks marks cell.made_by) cell.fields
          → OnNamed (λ named. FitMarks (field_marks marks c) named.fields)
          (and_then (if_counted count_now cell) (λ cell. and_then (if_made_by c count cell)
          (λ fields. Some (record { at = at; fields = fields }))))
      by_counted zero cell fits = tt
      by_counted (suc k) cell fits =
          by_test cell fits ((cell.made_by == c) && (length cell.fields == count))
          (λ is. same cell.made_by c (first_of (cell.made_by == c) (length cell.fields == count) is))

      by_held : (found : Option Held) → OnHeld found
          → OnNamed (λ named. FitMarks (field_marks marks c) named.fields)
          (and_then (and_then found (λ held. if_counted held.count held.cell))
          (λ cell. and_then (if_made_by c count cell) (λ fields. Some (record { at = at; fields = fields }))))
      by_held None on = tt
      by_held (Some held) on = by_counted held.count held.cell on

-- ---- environments

none_in : (P : Type 0) (y : ℕ) → is_among [] y ≡ true → P
none_in P y is = absurd (cc)

among_more : (x : ℕ) (xs ys : List ℕ) → AreIn xs ys → AreIn (x ∷ xs) (x ∷ ys)
among_more x xs ys each y is = by_test (x == y) is (each y)
  where
    by_test : (t : Bool) → (t || is_among xs y) ≡ true → (is_among xs y ≡ true → is_among ys y ≡ true) → (t || is_among ys y) ≡ true
    by_test true is later = refl
    by_test false is later = later is

first_in : (x : ℕ) (xs ys : List ℕ) → is_among ys x ≡ true → AreIn xs ys → AreIn (x ∷ xs) ys
first_in x xs ys first each y is = by_test (x == y) refl is (each y)
  where
    by_test : (t : Bool) → (x == y) ≡ t → (t || is_among xs y) ≡ true → (is_among xs y ≡ true → is_among ys y ≡ true)
        → is_among ys y ≡ true
    by_test true here is later = ap (is_among ys) (sym (same x y here)) ∙ first
    by_test false here is later = later is

-- a bound variable's value fits its mark
pub value_fits : (holds : ℕ → Bool) (environment : Environment) (x : ℕ) → EnvironmentFits holds environment
    → is_among (variables_of environment) x ≡ true → FitsMark (holds x) (value_of environment x)
value_fits holds [] x fit is = absurd (cc)
value_fits holds (binding ∷ environment) x fit is = by_test (binding.variable == x) refl is (value_fits holds environment x fit.1)
  where
    by_test : (t : Bool) → (binding.variable == x) ≡ t → (t || is_among (variables_of environment) x) ≡ true
        → (is_among (variables_of environment) x ≡ true → FitsMark (holds x) (value_of environment x))
        → FitsMark (holds x) (if t then binding.value else value_of environment x)
    by_test true here is later = subst (λ y. FitsMark (holds y) binding.value) (same binding.variable x here) fit.0
    by_test false here is later = later is

-- a variable that is not marked has no place, bound or not
pub unmarked_fits : (holds : ℕ → Bool) (environment : Environment) (x : ℕ) → EnvironmentFits holds environment → holds x ≡ false
    → FitsMark false (value_of environment x)
unmarked_fits holds [] x fit unmarked = tt
unmarked_fits holds (binding ∷ environment) x fit unmarked =
    by_test (binding.variable == x) refl (unmarked_fits holds environment x fit.1 unmarked)
  where
    by_test : (t : Bool) → (binding.variable == x) ≡ t → FitsMark false (value_of environment x)
        → FitsMark false (if t then binding.value else value_of environment x)
    by_test true here later =
        subst (λ m. FitsMark m binding.value) unmarked
        (subst (λ y. FitsMark (holds y) binding.value) (same binding.variable x here) fit.0)
    by_test false here later = later

pub fields_grow : (xs : List ℕ) (vs : List Value) (environment : Environment) → AreIn (variables_of environment)
    (variables_of (bind_fields xs vs environment))
fields_grow [] vs environment y is = is
fields_grow (x ∷ xs) [] environment y is = is
fields_grow (x ∷ xs) (v ∷ vs) environment y is =
    fields_grow xs vs (record { variable = x; value = v } ∷ environment) y (among_later x y (variables_of environment) is)

module _ (holds : ℕ → Bool) where
  fields_new : (xs : List ℕ) (marks : List Bool) (vs : List Value) (environment : Environment) → HaveMarks holds xs marks
      → FitMarks marks vs
      → AreIn xs (variables_of (bind_fields xs vs environment))
  fields_new [] marks vs environment have fit y is = none_in _ y is
  fields_new (x ∷ xs) [] vs environment have fit y is = absurd have
  fields_new (x ∷ xs) (mark ∷ marks) [] environment have fit y is = absurd fit
  fields_new (x ∷ xs) (mark ∷ marks) (v ∷ vs) environment have fit y is =
      first_in x xs (variables_of (bind_fields xs vs (record { variable = x; value = v } ∷ environment)))
      (fields_grow xs vs (record { variable = x; value = v } ∷ environment) x (among_first x (variables_of environment)))
      (fields_new xs marks vs (record { variable = x; value = v } ∷ environment) have.1 fit.1) y is

  fields_fit : (xs : List ℕ) (marks : List Bool) (vs : List Value) (environment : Environment) → HaveMarks holds xs marks
      → FitMarks marks vs
      → EnvironmentFits holds environment → EnvironmentFits holds (bind_fields xs vs environment)
  fields_fit [] marks vs environment have fit each = each
  fields_fit (x ∷ xs) [] vs environment have fit each = absurd have
  fields_fit (x ∷ xs) (mark ∷ marks) [] environment have fit each = absurd fit
  fields_fit (x ∷ xs) (mark ∷ marks) (v ∷ vs) environment have fit each =
      fields_fit xs marks vs (record { variable = x; value = v } ∷ environment) have.1 fit.1
      (subst (λ m. FitsMark m v) (sym have.0) fit.0, each)

  parameters_as_fields : (next n : ℕ) (marks : List Bool) (vs : List Value) (environment : Environment)
      → HaveMarks holds (numbers_from next n) marks → FitMarks marks vs
      → bind_fields (numbers_from next n) vs environment ≡ bind_parameters next vs environment
  parameters_as_fields next zero [] [] environment have fit = refl
  parameters_as_fields next zero [] (v ∷ vs) environment have fit = absurd fit
  parameters_as_fields next zero (mark ∷ marks) vs environment have fit = absurd have
  parameters_as_fields next (suc n) [] vs environment have fit = absurd have
  parameters_as_fields next (suc n) (mark ∷ marks) [] environment have fit = absurd fit
  parameters_as_fields next (suc n) (mark ∷ marks) (v ∷ vs) environment have fit =
      parameters_as_fields (suc next) n marks vs (record { variable = next; value = v } ∷ environment) have.1 fit.1

  pub arguments_fit : (environment : Environment) (bound xs : List ℕ) (marks : List Bool) → EnvironmentFits holds environment
      → AreIn bound (variables_of environment) → AreBound bound xs → HaveMarks holds xs marks → FitMarks marks
      (map (value_of environment) xs)
  arguments_fit environment bound [] [] fit known are have = tt
  arguments_fit environment bound [] (mark ∷ marks) fit known are have = absurd have
  arguments_fit environment bound (x ∷ xs) [] fit known are have = absurd have
  arguments_fit environment bound (x ∷ xs) (mark ∷ marks) fit known are have = (
    subst (λ m. FitsMark m (value_of environment x)) have.0 (value_fits holds environment x fit (known x are.0)),
    arguments_fit environment bound xs marks fit known are.1 have.1,
  )

joins_longer : (marks : CellMarks) (holds : ℕ → Bool) (result given : Bool) (environment longer : Environment)
    (joins : List CountedJoin)
    → AreIn (variables_of environment) (variables_of longer) → JoinsFit marks holds result environment given joins
    → JoinsFit marks holds result longer given joins
joins_longer marks holds result given environment longer [] grow fit = fit
joins_longer marks holds result given environment longer (join ∷ joins) grow fit = (
  fit.0,
  (
    fit.1.0,
    (
      λ y is. grow y (fit.1.1.0 y is),
      (fit.1.1.1.0, (fit.1.1.1.1.0, joins_longer marks holds result fit.1.0 environment longer joins grow fit.1.1.1.1.1)),
    ),
  ),
)

-- ---- values of forms

constant_fits : (mark : Bool) (c : ℕ) → FitsMark mark (constant c)
constant_fits true c = tt
constant_fits false c = tt

truth_fits : (t : Bool) → FitsMark false (truth t)
truth_fits true = tt
truth_fits false = tt

unary_fits : (operator : UnaryOperator) (v : Value) → FitsMark false (unary_result operator v)
unary_fits Negate v = tt
unary_fits Not v = truth_fits _

number_fits : (operator : BinaryOperator) (m n : _) → FitsMark false (number_result operator m n)
number_fits Add m n = tt
number_fits Subtract m n = tt
number_fits Multiply m n = tt
number_fits Divide m n = tt
number_fits Remainder m n = tt
number_fits Equal m n = truth_fits _
number_fits NotEqual m n = truth_fits _
number_fits Less m n = truth_fits _
number_fits LessEqual m n = truth_fits _
number_fits Greater m n = truth_fits _
number_fits GreaterEqual m n = truth_fits _

byte_fits : (byte : Option ℕ) → FitsMark false (byte_value byte)
byte_fits None = tt
byte_fits (Some byte) = tt

-- ---- steps

module _ (marks : CellMarks) (holds : ℕ → ℕ → Bool) (setting : CountedSetting)
    (marked : AreMarked marks holds setting.program) where
  abbrev Fits : List ℕ → CountedConfiguration → Type 0
  Fits numbers c = StateFits marks holds numbers c

  -- a value comes to a variable of the function that runs
  arrives : (f : ℕ) (numbers : List ℕ) (from : CountedConfiguration) (x : ℕ) (v : Value) (rest : Counted)
      (environment : Environment)
      (joins : List CountedJoin) (bound : List ℕ) (next : Bool)
      → CellsFit marks from.heap → FramesFit marks holds (result_mark marks f) numbers from.frames
      → HasMark marks (holds f) (result_mark marks f) (x ∷ bound) next rest → FitsMark (holds f x) v
      → AreIn bound (variables_of environment) → EnvironmentFits (holds f) environment
      → JoinsFit marks (holds f) (result_mark marks f) environment next joins
      → Fits (f ∷ numbers) (bound_then x v rest environment joins from)
  arrives f numbers from x v rest environment joins bound next cells frames code fits known values waits = (
    cells,
    (
      record {
        bound = x ∷ bound;
        given = next;
        code_marked = code;
        bound_in = among_more x bound (variables_of environment) known;
        values_fit = (fits, values);
        joins_fit = joins_longer marks (holds f) (result_mark marks f) next environment
            (record { variable = x; value = v } ∷ environment) joins
            (λ y. among_later x y (variables_of environment)) waits;
      },
      frames,
    ),
  )

  -- a function's body is entered
  entered : (f : ℕ) (numbers : List ℕ) (function : CountedFunction) (values : List Value) (from : CountedConfiguration)
      → slice_get setting.program.functions f ≡ Some function → FitMarks (parameter_marks marks f) values → CellsFit marks from.heap
      → FramesFit marks holds (result_mark marks f) numbers from.frames → Fits (f ∷ numbers) (in_code function values from)
  entered f numbers function values from there fit cells frames = (
    cells,
    (
      record {
        bound = numbers_from 0 function.parameters;
        given = result_mark marks f;
        code_marked = is.body_marked;
        bound_in = subst (λ environment. AreIn (numbers_from 0 function.parameters) (variables_of environment)) as_fields
            (fields_new (holds f) (numbers_from 0 function.parameters)
            (parameter_marks marks f) values [] is.parameters_marked fit);
        values_fit = subst (EnvironmentFits (holds f)) as_fields
            (fields_fit (holds f) (numbers_from 0 function.parameters)
            (parameter_marks marks f) values [] is.parameters_marked fit tt);
        joins_fit = refl;
      },
      frames,
    ),
  )
    where
      is : IsMarked marks (holds f) f function
      is = marked.each f function there

      as_fields : bind_fields (numbers_from 0 function.parameters) values [] ≡ bind_parameters 0 values []
      as_fields = parameters_as_fields (holds f) 0 function.parameters (parameter_marks marks f) values [] is.parameters_marked fit

  -- a block, a call or the run has its value
  given_fits : (f : ℕ) (numbers : List ℕ) (v : Value) (given : Bool) (environment : Environment) (joins : List CountedJoin)
      (frames : List CountedFrame) (from : CountedConfiguration) → FitsMark given v → CellsFit marks from.heap
      → EnvironmentFits (holds f) environment → JoinsFit marks (holds f) (result_mark marks f) environment given joins
      → FramesFit marks holds (result_mark marks f) numbers from.frames → FramesFit marks holds (result_mark marks f) numbers frames
      → LeadsTo (Fits (numbers_given joins (f ∷ numbers))) (give_step v joins frames environment from)
  given_fits f numbers v given environment (join ∷ joins) frames from fits cells values waits all these =
      arrives f numbers from join.variable v join.rest environment joins waits.0 waits.1.0 cells all waits.1.1.1.1.0
      (subst (λ m. FitsMark m v) (sym waits.1.1.1.0) fits) waits.1.1.0 values waits.1.1.1.1.1
  given_fits f [] v given environment [] [] from fits cells values waits all these = (cells, tt)
  given_fits f (g ∷ numbers) v given environment [] [] from fits cells values waits all these = (cells, tt)
  given_fits f [] v given environment [] (frame ∷ older) from fits cells values waits all these = absurd these
  given_fits f (g ∷ numbers) v given environment [] (frame ∷ older) from fits cells values waits all these =
      let fit = these.0 in
      arrives g numbers (record from { frames = older }) frame.variable v frame.rest frame.environment frame.joins fit.bound
      fit.next cells these.1
      fit.rest_marked (subst (λ m. FitsMark m v) (waits ∙ sym fit.takes) fits) fit.bound_in fit.values_fit fit.joins_fit

  module _ (f : ℕ) (numbers : List ℕ) (from : CountedConfiguration) (environment : Environment) (joins : List CountedJoin)
      (cells : CellsFit marks from.heap) (frames : FramesFit marks holds (result_mark marks f) numbers from.frames)
      (values : EnvironmentFits (holds f) environment) where
    stuck_fits : (now : List ℕ) → Fits now (at_stuck from)
    stuck_fits now = (cells, tt)

    -- another code of the function follows
    follows : (code : Counted) (bound : List ℕ) (given : Bool) (next : List CountedJoin)
        → HasMark marks (holds f) (result_mark marks f) bound given code → AreIn bound (variables_of environment)
        → JoinsFit marks (holds f) (result_mark marks f) environment given next → Fits (f ∷ numbers)
        (at_counted code environment next from)
    follows code bound given next code_marked known waits = (
      cells,
      (
        record {
          bound = bound;
          given = given;
          code_marked = code_marked;
          bound_in = known;
          values_fit = values;
          joins_fit = waits;
        },
        frames,
      ),
    )

    with_heap_fits : (result : Option Heap) (to : CountedConfiguration) → OnHeap (CellsFit marks) result → Fits (f ∷ numbers) to
        → Fits (f ∷ numbers) (with_heap result from to)
    with_heap_fits None to on fit = stuck_fits (f ∷ numbers)
    with_heap_fits (Some heap) to on fit = (on, fit.1)

    arms_marked : (bound : List ℕ) (given : Bool) (arms : CountedArms) (row : ℕ) → HaveMark marks (holds f)
        (result_mark marks f) bound given arms
        → OnCode (HasMark marks (holds f) (result_mark marks f) bound given) (arm_at arms row)
    arms_marked bound given no_arm row all = tt
    arms_marked bound given (arm body rest) zero all = all.0
    arms_marked bound given (arm body rest) (suc row) all = arms_marked bound given rest row all.1

    row_marked : (bound : List ℕ) (given : Bool) (arms : CountedArms) (row : Option ℕ) → HaveMark marks (holds f)
        (result_mark marks f) bound given arms
        → OnCode (HasMark marks (holds f) (result_mark marks f) bound given) (and_then row (arm_at arms))
    row_marked bound given arms None all = tt
    row_marked bound given arms (Some row) all = arms_marked bound given arms row all

    case_fits : (found : Option Counted) (bound : List ℕ) (given : Bool) → OnCode
        (HasMark marks (holds f) (result_mark marks f) bound given) found
        → AreIn bound (variables_of environment) → JoinsFit marks (holds f) (result_mark marks f) environment given joins
        → LeadsTo (Fits (f ∷ numbers)) (case_step found environment joins from)
    case_fits None bound given on known waits = stuck_fits (f ∷ numbers)
    case_fits (Some body) bound given on known waits = follows body bound given joins on known waits

    tail_fits : (g : ℕ) (arguments : List Value) (found : Option CountedFunction) → slice_get setting.program.functions g ≡ found
        → FitMarks (parameter_marks marks g) arguments → result_mark marks g ≡ result_mark marks f
        → LeadsTo (Fits (g ∷ numbers)) (tail_step found arguments from)
    tail_fits g arguments None there fit result = stuck_fits (g ∷ numbers)
    tail_fits g arguments (Some function) there fit result =
        entered g numbers function arguments from there fit cells
        (subst (λ m. FramesFit marks holds m numbers from.frames) (sym result) frames)

    -- the fields of a cell are bound
    opening_fits : (c : ℕ) (x : ℕ) (fields bound : List ℕ) (given : Bool) (rest : Counted) (change : Named → Option Heap)
        (found : Option Named)
        → OnNamed (λ named. FitMarks (field_marks marks c) named.fields) found
        → ((named : Named) → OnHeap (CellsFit marks) (change named))
        → Opens marks (holds f) bound x c fields → HasMark marks (holds f) (result_mark marks f) (fields ++ bound) given rest
        → AreIn bound (variables_of environment) → JoinsFit marks (holds f) (result_mark marks f) environment given joins
        → LeadsTo (Fits (f ∷ numbers)) (open_step found change fields rest environment joins from)
    opening_fits c x fields bound given rest change None on keeps opens code known waits = stuck_fits (f ∷ numbers)
    opening_fits c x fields bound given rest change (Some named) on keeps opens code known waits =
        with_heap_fits (change named) (at_counted rest (bind_fields fields named.fields environment) joins from) (keeps named) (
          cells,
          (
            record {
              bound = fields ++ bound;
              given = given;
              code_marked = code;
              bound_in = in_both fields bound (variables_of (bind_fields fields named.fields environment))
                  (fields_new (holds f) fields (field_marks marks c) named.fields environment opens.1.1 on)
                  (λ y is. fields_grow fields named.fields environment y (known y is));
              values_fit = fields_fit (holds f) fields (field_marks marks c) named.fields environment opens.1.1 on values;
              joins_fit = joins_longer marks (holds f) (result_mark marks f) given environment
                  (bind_fields fields named.fields environment) joins
                  (fields_grow fields named.fields environment) waits;
            },
            frames,
          ),
        )

    -- ---- forms

    module _ (x : ℕ) (rest : Counted) (bound : List ℕ) (given : Bool)
        (code : HasMark marks (holds f) (result_mark marks f) (x ∷ bound) given rest)
        (known : AreIn bound (variables_of environment))
        (waits : JoinsFit marks (holds f) (result_mark marks f) environment given joins) where
      valued : (v : Value) → FitsMark (holds f x) v → Fits (f ∷ numbers) (bound_then x v rest environment joins from)
      valued v fits = arrives f numbers from x v rest environment joins bound given cells frames code fits known values waits

      unmarked : (v : Value) → holds f x ≡ false → FitsMark false v → Fits (f ∷ numbers)
          (bound_then x v rest environment joins from)
      unmarked v none fits = valued v (subst (λ m. FitsMark m v) (sym none) fits)

      printed : (piece : List ℕ) → holds f x ≡ false
          → LeadsTo (Fits (f ∷ numbers)) (print_step piece (bound_then x unit rest environment joins from))
      printed [] none = unmarked unit none tt
      printed (byte ∷ bytes) none = unmarked unit none tt

      full_or : (now : List ℕ) (full : Bool) (end : End) (to : CountedConfiguration) → Fits now to → Fits now
          (if full then at_end end from else to)
      full_or now true end to fit = (cells, tt)
      full_or now false end to fit = fit

      made : (c : ℕ) (arguments : List ℕ) → FitMarks (field_marks marks c) (map (value_of environment) arguments)
          → holds f x ≡ made_mark marks c arguments
          → LeadsTo (Fits (f ∷ numbers)) (form_step setting (Construct c)
          (map (value_of environment) arguments) x rest environment joins from)
      made c [] fit mark = valued (constant c) (constant_fits (holds f x) c)
      made c (argument ∷ more) fit mark =
          full_or (f ∷ numbers) (nat_le setting.cells (busy from.heap)) heap_full
          (record (bound_then x (place (length from.heap)) rest environment joins from) {
            heap = record { count = 1; cell = record { made_by = c; fields = map (value_of environment) (argument ∷ more) } } ∷
                from.heap;
          })
          ((fit, cells), (valued (place (length from.heap)) (subst (λ m. FitsMark m (place (length from.heap))) (sym mark) tt)).1)

      called_fits : (g : ℕ) (arguments : List Value) (found : Option CountedFunction)
          → slice_get setting.program.functions g ≡ found
          → FitMarks (parameter_marks marks g) arguments → holds f x ≡ result_mark marks g
          → LeadsTo (Fits (g ∷ (f ∷ numbers)))
          (call_step setting found arguments (record { variable = x; rest = rest; joins = joins; environment = environment }) from)
      called_fits g arguments None there fit mark = stuck_fits (g ∷ (f ∷ numbers))
      called_fits g arguments (Some function) there fit mark =
          full_or (g ∷ (f ∷ numbers)) (nat_le setting.depth (suc (length from.frames))) stack_full
          (in_code function arguments (record from
          { frames = record { variable = x; rest = rest; joins = joins; environment = environment } ∷ from.frames }))
          (entered g (f ∷ numbers) function arguments
          (record from { frames = record { variable = x; rest = rest; joins = joins; environment = environment } ∷ from.frames })
          there fit cells (
            record {
              bound = bound;
              next = given;
              takes = mark;
              rest_marked = code;
              bound_in = known;
              values_fit = values;
              joins_fit = waits;
            },
            frames,
          ))

      form_fits : (form : Form) (arguments : List ℕ) → AreBound bound arguments → IsFormMarked marks (holds f) form arguments
          (holds f x)
          → LeadsTo (Fits (numbers_called form (f ∷ numbers)))
          (form_step setting form (map (value_of environment) arguments) x rest environment joins from)
      form_fits (Number n) arguments are is = unmarked (integer n) is.1 tt
      form_fits Nothing arguments are is = unmarked unit is.1 tt
      form_fits ReadByte arguments are is = λ byte. unmarked (byte_value byte) is.1 (byte_fits byte)
      form_fits (PrintText form text) arguments are is = printed (piece_of form (text_at setting.program.texts text)) is.1
      form_fits (Unary operator) arguments are is = unmarked
          (unary_result operator (argument 0 (map (value_of environment) arguments))) is.1 (unary_fits operator _)
      form_fits (Binary operator) arguments are is = unmarked _ is.1 (number_fits operator _ _)
      form_fits (Print form) arguments are is =
          printed (piece_of form (signed_decimal (integer_of (argument 0 (map (value_of environment) arguments))))) is.1
      form_fits (Construct c) arguments are is =
          made c arguments (arguments_fit (holds f) environment bound arguments (field_marks marks c) values known are is.0) is.1
      form_fits (Call g) arguments are is =
          called_fits g (map (value_of environment) arguments) (slice_get setting.program.functions g) refl
          (arguments_fit (holds f) environment bound arguments (parameter_marks marks g) values known are is.0) is.1

  code_fits : (f : ℕ) (numbers : List ℕ) (from : CountedConfiguration) (environment : Environment) (joins : List CountedJoin)
      (code : Counted)
      → CellsFit marks from.heap → RunFits marks (holds f) (result_mark marks f) code environment joins
      → FramesFit marks holds (result_mark marks f) numbers from.frames
      → LeadsTo (Fits (numbers_at code joins (f ∷ numbers))) (counted_code_step setting code environment joins from)
  code_fits f numbers from environment joins (give x) cells r frames =
      given_fits f numbers (value_of environment x) r.given environment joins from.frames from
      (subst (λ m. FitsMark m (value_of environment x)) r.code_marked.1
      (value_fits (holds f) environment x r.values_fit (r.bound_in x r.code_marked.0)))
      cells r.values_fit r.joins_fit frames frames
  code_fits f numbers from environment joins (tail_call g arguments) cells r frames =
      tail_fits f numbers from environment joins cells frames r.values_fit g (map (value_of environment) arguments)
      (slice_get setting.program.functions g) refl
      (arguments_fit (holds f) environment r.bound arguments
      (parameter_marks marks g) r.values_fit r.bound_in r.code_marked.0 r.code_marked.1.0) r.code_marked.1.1
  code_fits f numbers from environment joins (case x decisions arms) cells r frames =
      case_fits f numbers from environment joins cells frames r.values_fit _ r.bound r.given
      (row_marked f numbers from environment joins cells frames r.values_fit r.bound r.given arms _ r.code_marked.1) r.bound_in
      r.joins_fit
  code_fits f numbers from environment joins (compute x form arguments rest) cells r frames =
      form_fits f numbers from environment joins cells frames r.values_fit x rest r.bound r.given r.code_marked.1.1 r.bound_in
      r.joins_fit form arguments
      r.code_marked.0 r.code_marked.1.0
  code_fits f numbers from environment joins (inside x block rest) cells r frames =
      follows f numbers from environment joins cells frames r.values_fit block r.bound (holds f x)
      (record { variable = x; rest = rest } ∷ joins) r.code_marked.0 r.bound_in
      (r.bound, (r.given, (r.bound_in, (refl, (r.code_marked.1, r.joins_fit)))))
  code_fits f numbers from environment joins (read x c fields rest) cells r frames =
      opening_fits f numbers from environment joins cells frames r.values_fit c x fields r.bound r.given rest
      (λ named. Some from.heap) _
      (named_fits marks c (length fields) from.heap (value_of environment x) cells)
      (λ named. cells) r.code_marked.0 r.code_marked.1 r.bound_in r.joins_fit
  code_fits f numbers from environment joins (open_cell x c fields used rest) cells r frames =
      opening_fits f numbers from environment joins cells frames r.values_fit c x fields r.bound r.given rest
      (λ named. opened_heap named.at (used_values used fields named.fields) from.heap) _
      (named_fits marks c (length fields) from.heap (value_of environment x) cells)
      (λ named. opened_keeps (CellsFit marks) (set_fits marks) named.at (used_values used fields named.fields) from.heap cells) r.code_marked.0 r.code_marked.1
      r.bound_in r.joins_fit
  code_fits f numbers from environment joins (if_unique x c fields used rest) cells r frames =
      opening_fits f numbers from environment joins cells frames r.values_fit c x fields r.bound r.given rest
      (λ named. unique_heap (count_at from.heap named.at) named.at (used_values used fields named.fields)
      (other_values used fields named.fields) from.heap) _
      (named_fits marks c (length fields) from.heap (value_of environment x) cells)
      (λ named. unique_keeps (CellsFit marks) (set_fits marks) (count_at from.heap named.at) named.at (used_values used fields named.fields)
      (other_values used fields named.fields) from.heap cells)
      r.code_marked.0 r.code_marked.1 r.bound_in r.joins_fit
  code_fits f numbers from environment joins (dup x rest) cells r frames =
      with_heap_fits f numbers from environment joins cells frames r.values_fit (dup_value (value_of environment x) from.heap)
      (at_counted rest environment joins from)
      (dup_keeps (CellsFit marks) (set_fits marks) (value_of environment x) from.heap cells)
      (follows f numbers from environment joins cells frames r.values_fit rest r.bound r.given joins r.code_marked.1 r.bound_in
      r.joins_fit)
  code_fits f numbers from environment joins (drop x rest) cells r frames =
      with_heap_fits f numbers from environment joins cells frames r.values_fit (drop_value (value_of environment x) from.heap)
      (at_counted rest environment joins from)
      (drop_keeps (CellsFit marks) (set_fits marks) (value_of environment x) from.heap cells)
      (follows f numbers from environment joins cells frames r.values_fit rest r.bound r.given joins r.code_marked.1 r.bound_in
      r.joins_fit)

  control_fits : (control : CountedControl) (numbers : List ℕ) (c : CountedConfiguration) → CellsFit marks c.heap
      → ControlFits marks holds control numbers c.frames → ControlFits marks holds c.control numbers c.frames
      → LeadsTo (Fits (numbers_after control numbers)) (counted_step_at setting control c)
  control_fits (running code environment joins) [] c cells fit same = absurd fit
  control_fits (running code environment joins) (f ∷ numbers) c cells fit same =
      code_fits f numbers c environment joins code cells fit.0 fit.1
  control_fits (stopped by) numbers c cells fit same = (cells, same)
  control_fits stuck numbers c cells fit same = (cells, same)

  -- a step keeps each value fit for its mark
  pub step_fits : (numbers : List ℕ) (c : CountedConfiguration) → Fits numbers c
      → LeadsTo (Fits (numbers_after c.control numbers)) (counted_step_of setting c)
  step_fits numbers c fit = control_fits c.control numbers c fit.0 fit.1 fit.1

  pub start_fits : Fits (setting.program.main ∷ []) (counted_start setting)
  start_fits =
      subst (λ (function : CountedFunction). Fits (setting.program.main ∷ [])
      (record { control = running function.body [] []; frames = []; heap = [] }))
      (sym (get_or_from_slice_get setting.program.functions setting.program.main marked.main_there.0 no_function
      marked.main_there.1.0))
      (entered setting.program.main [] marked.main_there.0 []
      (record { control = stuck; frames = []; heap = [] }) marked.main_there.1.0 none tt tt)
    where
      by_number : (n : ℕ) (ms : List Bool) → n ≡ 0 → HaveMarks (holds setting.program.main) (numbers_from 0 n) ms → FitMarks ms []
      by_number zero [] is have = tt
      by_number zero (mark ∷ ms) is have = absurd have
      by_number (suc n) ms is have = absurd (omega (arith, is))

      none : FitMarks (parameter_marks marks setting.program.main) []
      none =
          by_number marked.main_there.0.parameters (parameter_marks marks setting.program.main) marked.main_there.1.1
          (marked.each setting.program.main marked.main_there.0 marked.main_there.1.0).parameters_marked

  pub after_step : (numbers : List ℕ) (s : CountedState) → Fits numbers s.machine
      → Fits (numbers_after s.machine.control numbers) (counted_step setting s).1.machine
  after_step numbers s fit =
      performed_kept (Fits (numbers_after s.machine.control numbers)) (counted_step_of setting s.machine) s.input
      (step_fits numbers s.machine fit)

  module _ (weight : CountedState → ℕ) where
    next_fits : (s : CountedState) (numbers : List ℕ) (how : Option End) → counted_ending_of s ≡ how → Fits numbers s.machine
        → Fits (numbers_after s.machine.control numbers) (step_unless how s (counted_step setting s)).1.machine
    next_fits s numbers None is fit = after_step numbers s fit
    next_fits s numbers (Some end) is fit = by_control s.machine.control refl
      where
        by_control : (control : CountedControl) → s.machine.control ≡ control → Fits (numbers_after control numbers) s.machine
        by_control (running code environment joins) here = absurd (cc)
        by_control (stopped by) here = fit
        by_control stuck here = fit

    run_fits : (n : ℕ) (s : CountedState) (numbers : List ℕ) → Fits numbers s.machine
        → Fits (numbers_from_state weight setting n s numbers) (state (counted_machine weight setting) n s).machine
    run_fits zero s numbers fit = fit
    run_fits (suc n) s numbers fit =
        run_fits n ((counted_machine weight setting).step s).1 (numbers_after s.machine.control numbers)
        (next_fits s numbers (counted_ending_of s) refl fit)

    -- in each state of a run each value fits its mark
    pub always_fit : (input : List ℕ) (n : ℕ) → Fits (numbers_in weight setting input n) (counted_after weight setting input n)
    always_fit input n = run_fits n (counted_first_state setting input) (setting.program.main ∷ []) start_fits
