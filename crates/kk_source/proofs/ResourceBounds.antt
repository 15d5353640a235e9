-- In so many steps a run makes at most as many cells and opens at most as many calls: with more room it never finds its heap or
-- its stack full.
use Rattle.std.proofs.Common.{◌≡◌, ◌≤◌, ℕ, zero, suc, ◌+◌, Bool, true, false, List, [], ◌∷◌, ◌++◌, length, Option, Some, None, nat_le, if◌then◌else◌, refl, sym, ap, subst, arith, length-append}
use Rattle.std.specs.Prelude.{slice_get}
use Rattle.kk_base.specs.Machines.{step_unless, state, ending_after}
use Rattle.kk_syntax.specs.declared.program.Form.{Form}
use Rattle.kk_syntax.specs.Trees.{Tree, variable, apply, no_tree, tree}
use Rattle.kk_syntax.specs.Programs.{FunctionTree}
use Rattle.kk_source.specs.State.{Setting, Value, unit, Environment, Frame, arguments, branches, rows, statement, call, End, ended, heap_full, stack_full, Control, expression, value, stopped, Configuration, end_at}
use Rattle.kk_source.specs.Live.{held_by_all, live, counted, is_live}
use Rattle.kk_source.specs.Matching.{Chosen, first_match}
use Rattle.kk_source.specs.FormEffects.{FormEffect, gives, prints, reads, makes, enters, form_effect, effect_step}
use Rattle.kk_source.specs.Step.{at_value, at_end, at_new_place, call_frames, construct_step, push_step, call_step, form_step, expression_step, choice_step, value_step, step_at, step_of}
use Rattle.kk_source.specs.SourceAfter.{State, step, ending_of, store_machine, first_state, HasRoom}
use Rattle.kk_source.proofs.RunInvariants.{LeadsTo, print_leads, performed_keeps}

abbrev IsNotFull : Control → Type 0
IsNotFull (stopped heap_full) = ⊥
IsNotFull (stopped stack_full) = ⊥
IsNotFull _ = Unit {0}

-- at most so many cells, and one call frame more
record IsRoomy (k : ℕ) (c : Configuration) : Type 0 where
  cells : length c.store ≤ k
  frames : call_frames c.frames ≤ suc k
  going : IsNotFull c.control

counted_most : (passes : ℕ → Bool) (n : ℕ) → counted passes n ≤ n
counted_most passes zero = omega arith
counted_most passes (suc n) = by (passes n) (counted_most passes n)
  where
    by : (b : Bool) → counted passes n ≤ n → counted passes n + (if b then 1 else 0) ≤ suc n
    by true few = omega (arith, few)
    by false few = omega (arith, few)

more_than : (most found : ℕ) → suc found ≤ most → nat_le most found ≡ false
more_than most found more = grind (arith, more)

module _ (setting : Setting) (k : ℕ) (cells : suc k ≤ setting.cells) (depth : suc (suc k) ≤ setting.depth) where
  constructs : (c : ℕ) (fields : List Value) (older : List Frame) (from : Configuration) → IsRoomy k from → call_frames older ≤ suc k
      → LeadsTo (IsRoomy (suc k)) (construct_step setting c fields older from)
  constructs c fields older from roomy few =
      let found = counted_most (is_live from.store (fields ++ held_by_all older)) (length from.store) in
      let old = roomy.cells in
      let test = more_than setting.cells (live from.store (fields ++ held_by_all older)) (omega (arith, found, old, cells)) in
      let longer = length-append from.store (record { made_by = c; fields = fields } ∷ []) in
      subst (λ b. IsRoomy (suc k) (if b then at_end heap_full from else at_new_place c fields (record from { frames = older })))
      (sym test) (record { cells = omega (arith, longer, old); frames = omega (arith, few); going = tt })

  pushes : (f : ℕ) (function : FunctionTree) (values : List Value) (older : List Frame) (from : Configuration) → IsRoomy k from
      → call_frames older ≤ suc k → LeadsTo (IsRoomy (suc k)) (push_step setting f function values older from)
  pushes f function values older from roomy few =
      let old = roomy.cells in
      let test = more_than setting.depth (call_frames older) (omega (arith, few, depth)) in
      rw test (record { cells = omega (arith, old); frames = omega (arith, few); going = tt })

  calls_it : (f : ℕ) (function : Option FunctionTree) (values : List Value) (older : List Frame) (from : Configuration)
      → IsRoomy k from → call_frames older ≤ suc k → LeadsTo (IsRoomy (suc k)) (call_step setting f function values older from)
  calls_it f None values older from roomy few =
      let old = roomy.cells in
      let now = roomy.frames in
      record { cells = omega (arith, old); frames = omega (arith, now); going = roomy.going }
  calls_it f (Some function) values (call lent ∷ older) from roomy few =
      let old = roomy.cells in record { cells = omega (arith, old); frames = omega (arith, few); going = tt }
  calls_it f (Some function) values [] from roomy few = pushes f function values [] from roomy few
  calls_it f (Some function) values (arguments form done left environment ∷ older) from roomy few =
      pushes f function values (arguments form done left environment ∷ older) from roomy few
  calls_it f (Some function) values (branches positive negative environment ∷ older) from roomy few =
      pushes f function values (branches positive negative environment ∷ older) from roomy few
  calls_it f (Some function) values (rows of environment ∷ older) from roomy few =
      pushes f function values (rows of environment ∷ older) from roomy few
  calls_it f (Some function) values (statement x rest environment ∷ older) from roomy few =
      pushes f function values (statement x rest environment ∷ older) from roomy few

  forms : (form : Form) (values : List Value) (older : List Frame) (from : Configuration) → IsRoomy k from
      → call_frames older ≤ suc k → LeadsTo (IsRoomy (suc k)) (form_step setting form values older from)
  forms form values older from roomy few = by (form_effect setting.program.texts form values)
    where
      by : (effect : FormEffect)
          → LeadsTo (IsRoomy (suc k)) (effect_step (λ v. at_value v (record from { frames = older }))
          (λ c fields. construct_step setting c fields older from)
          (λ f given. call_step setting f (slice_get setting.program.functions f) given older from) effect)
      by (gives v) = let old = roomy.cells in record { cells = omega (arith, old); frames = omega (arith, few); going = tt }
      by (prints piece) =
          let old = roomy.cells in
          print_leads (IsRoomy (suc k)) piece (at_value unit (record from { frames = older }))
          (record { cells = omega (arith, old); frames = omega (arith, few); going = tt })
      by reads = λ byte. let old = roomy.cells in record { cells = omega (arith, old); frames = omega (arith, few); going = tt }
      by (makes c fields) = constructs c fields older from roomy few
      by (enters f given) = calls_it f (slice_get setting.program.functions f) given older from roomy few

  -- a configuration with as many cells and no more call frames
  moved : (c to : Configuration) → IsRoomy k c → to.store ≡ c.store → call_frames to.frames ≤ suc k → IsNotFull to.control
      → IsRoomy (suc k) to
  moved c to roomy same few going =
      let old = roomy.cells in
      let cells = ap length same in
      record { cells = omega (arith, old, cells); frames = omega (arith, few); going = going }

  expressions : (e : Tree) (environment : Environment) (c : Configuration) → IsRoomy k c
      → LeadsTo (IsRoomy (suc k)) (expression_step setting e environment c)
  expressions (variable x) environment c roomy = moved c _ roomy refl roomy.frames tt
  expressions (apply form no_tree) environment c roomy = forms form [] c.frames c roomy roomy.frames
  expressions _ environment c roomy = moved c _ roomy refl roomy.frames tt

  choices : (chosen : Option Chosen) (older : List Frame) (c : Configuration) → IsRoomy k c → call_frames older ≤ suc k
      → LeadsTo (IsRoomy (suc k)) (choice_step setting chosen older c)
  choices None older c roomy few = moved c c roomy refl roomy.frames roomy.going
  choices (Some chosen) older c roomy few = moved c _ roomy refl few tt

  values : (v : Value) (frames : List Frame) (c : Configuration) → IsRoomy k c → c.frames ≡ frames
      → call_frames frames ≤ suc k → LeadsTo (IsRoomy (suc k)) (value_step setting v frames c)
  values v (arguments form done (tree next left) environment ∷ older) c roomy is few = moved c _ roomy refl few tt
  values v (arguments form done no_tree environment ∷ older) c roomy is few = forms form (done ++ v ∷ []) older c roomy few
  values v (branches positive negative environment ∷ older) c roomy is few = moved c _ roomy refl few tt
  values v (rows of environment ∷ older) c roomy is few = choices (first_match c.store of v environment) older c roomy few
  values v (statement awaited rest environment ∷ older) c roomy is few = moved c _ roomy refl few tt
  values v (call lent ∷ next ∷ older) c roomy is few = moved c _ roomy refl (omega (arith, few)) tt
  values v (call lent ∷ []) c roomy is few = moved c _ roomy refl (omega arith) tt
  values v [] c roomy is few = moved c _ roomy refl (subst (λ fs. call_frames fs ≤ suc k) (sym is) few) tt

  controls : (control : Control) (c : Configuration) → c.control ≡ control → IsRoomy k c
      → LeadsTo (IsRoomy (suc k)) (step_at setting control c)
  controls (expression e environment) c is roomy = expressions e environment c roomy
  controls (value v) c is roomy = values v c.frames c roomy refl roomy.frames
  controls (stopped by) c is roomy = moved c c roomy refl roomy.frames roomy.going

  steps_from : (c : Configuration) → IsRoomy k c → LeadsTo (IsRoomy (suc k)) (step_of setting c)
  steps_from c roomy = controls c.control c refl roomy

grows : (k : ℕ) (c : Configuration) → IsRoomy k c → IsRoomy (suc k) c
grows k c roomy =
    let old = roomy.cells in
    let few = roomy.frames in
    record { cells = omega (arith, old); frames = omega (arith, few); going = roomy.going }

runs_roomy : (setting : Setting) (n k : ℕ) (s : State) → n + k ≤ setting.cells → suc (n + k) ≤ setting.depth
    → IsRoomy k s.machine → IsRoomy (n + k) (state (store_machine setting) n s).machine
runs_roomy setting zero k s cells depth roomy = subst (λ j. IsRoomy j s.machine) (none k) roomy
  where
    none : (k : ℕ) → k ≡ 0 + k
    none k = omega arith
runs_roomy setting (suc n) k s cells depth roomy =
    subst (λ j. IsRoomy j (state (store_machine setting) (suc n) s).machine) (later n k)
    (runs_roomy setting n (suc k) ((store_machine setting).step s).1 (omega (arith, cells)) (omega (arith, depth))
    (by (ending_of s)))
  where
    later : (n k : ℕ) → n + suc k ≡ suc n + k
    later n k = omega arith

    by : (how : Option End) → IsRoomy (suc k) (step_unless how s (step setting s)).1.machine
    by None = performed_keeps (IsRoomy (suc k)) (step_of setting s.machine) s.input
        (steps_from setting k (omega (arith, cells)) (omega (arith, depth)) s.machine roomy)
    by (Some end) = grows k s.machine roomy

-- with room for as many cells and calls as there are steps a run finds neither its heap nor its stack full
pub has_room : (setting : Setting) (input : List ℕ) (n : ℕ) → n ≤ setting.cells → suc n ≤ setting.depth
    → HasRoom (ending_after (store_machine setting) n (first_state setting input))
has_room setting input n cells depth =
    by (state (store_machine setting) n (first_state setting input)).machine.control
    (runs_roomy setting n 0 (first_state setting input) (omega (arith, cells)) (omega (arith, depth))
    (record { cells = omega arith; frames = omega arith; going = tt })).going
  where
    by : (control : Control) → IsNotFull control → HasRoom (end_at control)
    by (expression e environment) going = tt
    by (value v) going = tt
    by (stopped ended) going = tt
    by (stopped heap_full) going = absurd going
    by (stopped stack_full) going = absurd going
