-- Each step keeps states typed, and finds what it asks for.
use Rattle.std.proofs.Common.{◌≡◌, ℕ, Bool, true, false, List, [], ◌∷◌, ◌++◌, length, Some, refl, sym, ap, ◌∙◌, subst, append_assoc}
use Rattle.std.specs.Prelude.{slice_get, if◌then◌else◌}
use Rattle.kk_syntax.specs.declared.program.Form.{Form}
use Rattle.kk_syntax.specs.Covered.{IsCovered, asked_by}
use Rattle.kk_syntax.specs.GroundTyping.{HasTruths, Table, table_of, IsFormTyped, HasType, HaveTypes, AreRowsTyped, IsGroundTyped}
use Rattle.kk_syntax.specs.OfType.{field_types, values_of}
use Rattle.kk_syntax.specs.PositionsOf.{is_lent}
use Rattle.kk_syntax.specs.Programs.{ConstructorTree, FunctionTree, ProgramTree}
use Rattle.kk_syntax.specs.Trees.{Tree, variable, apply, branch, match, sequence, Trees, no_tree, tree, Rows}
use Rattle.kk_syntax.specs.Types.{TypeTree, int32, unit_type}
use Rattle.kk_syntax.specs.Typing.{bool, Scope, with_parameters}
use Rattle.kk_source.specs.Actions.{Action}
use Rattle.kk_source.specs.FormEffects.{FormEffect, gives, prints, reads, makes, enters, is_true, byte_value, form_effect, effect_step}
use Rattle.kk_source.specs.Matching.{first_match}
use Rattle.kk_source.specs.NeverStuck.{CallFits, FormFits, ExpressionFits, ValueFits, ControlFits, StateFits}
use Rattle.kk_source.specs.State.{Setting, Value, unit, place, Store, Environment, Frame, arguments, branches, rows, statement, call, heap_full, stack_full, Control, expression, value, stopped, Configuration}
use Rattle.kk_source.specs.Step.{at_expression, at_value, at_end, bind_parameters, lent_places, at_new_place, in_body, construct_step, push_step, call_step, form_step, expression_step, choice_step, value_step, step_at, step_of}
use Rattle.kk_source.specs.ValueTypes.{IsOf, AreOf}
use Rattle.kk_source.proofs.Bindings.{IsTypedIn, with_awaited, awaited_is, known_none, known_bind, known_parameters, inside_longer, rows_of_type, chosen_typed}
use Rattle.kk_source.proofs.Matching.{takes_one}
use Rattle.kk_source.proofs.Operators.{function_there, byte_typed, arguments_fit, EffectTyped, effect_typed}
use Rattle.kk_source.proofs.RunInvariants.{LeadsTo, print_leads}
use Rattle.kk_source.proofs.Values.{get_behind, all_longer, at_type, at_types, construct_of, bool_is, unit_is, of_unit}

-- ---- typed states

-- a frame waits for a value of the first type, and then there is one of the second
abbrev pub FrameWaits : Table → Store → Frame → TypeTree → TypeTree → Type 0
FrameWaits table store (arguments form values left env) t r =
    (before after : List TypeTree) × IsFormTyped table form (before ++ t ∷ after) r × AreOf table.constructors store before values
    × IsTypedIn table.constructors store env (λ scope. HaveTypes table scope left after)
FrameWaits table store (branches positive negative env) t r =
    (t ≡ bool) × IsTypedIn table.constructors store env (λ scope. HasType table scope positive r × HasType table scope negative r)
FrameWaits table store (rows of env) t r =
    IsCovered (values_of table.constructors) t (asked_by of)
    × IsTypedIn table.constructors store env (λ scope. AreRowsTyped table scope of t r)
FrameWaits table store (statement x rest env) t r =
    IsTypedIn table.constructors store env (λ scope. HasType table (with_awaited x t scope) rest r)
FrameWaits table store (call lent) t r = t ≡ r

-- frames wait for a value of a type; that of `main` is `()`
abbrev pub FramesWait : Table → Store → List Frame → TypeTree → Type 0
FramesWait table store [] t = t ≡ unit_type
FramesWait table store (frame ∷ older) t = (r : TypeTree) × FrameWaits table store frame t r × FramesWait table store older r

abbrev pub ControlTyped : Table → Control → Configuration → Type 0
ControlTyped table (expression e env) c =
    (t : TypeTree) × IsTypedIn table.constructors c.store env (λ scope. HasType table scope e t)
    × FramesWait table c.store c.frames t
ControlTyped table (value v) c = (t : TypeTree) × IsOf table.constructors c.store t v × FramesWait table c.store c.frames t
ControlTyped table (stopped by) c = Unit {0}

abbrev pub IsStateTyped : Table → Configuration → Type 0
IsStateTyped table c = ControlTyped table c.control c

-- ---- a longer store

module _ (table : Table) (store more : Store) where
  frame_longer : (frame : Frame) (t r : TypeTree) → FrameWaits table store frame t r → FrameWaits table (store ++ more) frame t r
  frame_longer (arguments form values left env) t r w =
      let values_of = all_longer store more table.constructors w.0 values w.3 in
      (w.0, w.1, w.2, values_of, inside_longer table.constructors store more env _ w.4)
  frame_longer (branches positive negative env) t r w = (w.0, inside_longer table.constructors store more env _ w.1)
  frame_longer (rows of env) t r w = (w.0, inside_longer table.constructors store more env _ w.1)
  frame_longer (statement x rest env) t r w = inside_longer table.constructors store more env _ w
  frame_longer (call lent) t r w = w

  frames_longer : (fs : List Frame) (t : TypeTree) → FramesWait table store fs t → FramesWait table (store ++ more) fs t
  frames_longer [] t w = w
  frames_longer (f ∷ fs) t w = (w.0, frame_longer f t w.0 w.1, frames_longer fs w.0 w.2)

-- ---- arguments

module _ (constructors : List ConstructorTree) (store : Store) where
  of_both : (ts us : List TypeTree) (vs ws : List Value) → AreOf constructors store ts vs → AreOf constructors store us ws
      → AreOf constructors store (ts ++ us) (vs ++ ws)
  of_both [] us [] ws first second = second
  of_both [] us (v ∷ vs) ws first second = absurd first
  of_both (t ∷ ts) us [] ws first second = absurd first
  of_both (t ∷ ts) us (v ∷ vs) ws first second = (first.0, of_both ts us vs ws first.1 second)

-- no expressions have no types
none_of : (table : Table) (store : Store) (scope : Scope) (ts : List TypeTree) → HaveTypes table scope no_tree ts
    → AreOf table.constructors store ts []
none_of table store scope [] typed = tt
none_of table store scope (t ∷ ts) typed = absurd typed

-- the last argument completes those before it
last_of : (table : Table) (store : Store) (form : Form) (values : List Value) (env : Environment) (t r : TypeTree) (v : Value)
    → IsOf table.constructors store t v → (w : FrameWaits table store (arguments form values no_tree env) t r)
    → AreOf table.constructors store (w.0 ++ t ∷ w.1) (values ++ v ∷ [])
last_of table store form values env t r v of w =
    of_both table.constructors store w.0 (t ∷ w.1) values (v ∷ []) w.3 (of, none_of table store w.4.scope w.1 w.4.inside)

-- ---- typed states find what they ask for

module _ (program : ProgramTree) (truths : HasTruths program.constructors) where
  call_fits : (f : ℕ) (ts : List TypeTree) (t : TypeTree) (vs : List Value)
      → slice_get (table_of program).functions f ≡ Some (record { parameters = ts; result = t }) → length vs ≡ length ts
      → CallFits program f vs
  call_fits f ts t vs signature long =
      let there = function_there program.functions f ts t signature in
      (there.0, there.1, long ∙ ap (λ (us : List TypeTree). length us) (sym there.2))

  form_fits : (store : Store) (form : Form) (ts : List TypeTree) (t : TypeTree) (vs : List Value)
      → IsFormTyped (table_of program) form ts t → AreOf program.constructors store ts vs → FormFits program form vs
  form_fits store form ts t vs typed of =
      arguments_fit (table_of program) store truths program.texts (CallFits program) refl call_fits form ts t vs typed of

  expression_fits : (e : Tree) (env : Environment) (store : Store) (t : TypeTree)
      → IsTypedIn program.constructors store env (λ scope. HasType (table_of program) scope e t) → ExpressionFits program e env
  expression_fits (variable x) env store t typed = (typed.known x t typed.inside).0
  expression_fits (apply form no_tree) env store t typed =
      let none = none_of (table_of program) store typed.scope typed.inside.0 typed.inside.1 in
      form_fits store form typed.inside.0 t [] typed.inside.2 none
  expression_fits _ env store t typed = tt

  value_fits : (store : Store) (v : Value) (fs : List Frame) (t : TypeTree) → IsOf program.constructors store t v
      → FramesWait (table_of program) store fs t → ValueFits program store v fs
  value_fits store v [] t of w = tt
  value_fits store v (arguments form values (tree next left) env ∷ older) t of w = tt
  value_fits store v (arguments form values no_tree env ∷ older) t of w =
      form_fits store form _ w.0 _ w.1.2 (last_of (table_of program) store form values env t w.0 v of w.1)
  value_fits store v (branches positive negative env ∷ older) t of w =
      bool_is program.constructors store truths v (at_type program.constructors store t bool v w.1.0 of)
  value_fits store v (rows rs env ∷ older) t of w =
      takes_one program.constructors store rs t v env (rows_of_type (table_of program) w.1.1.scope rs t w.0 w.1.1.inside) w.1.0 of
  value_fits store v (statement x rest env ∷ older) t of w = tt
  value_fits store v (call lent ∷ []) t of w =
      unit_is program.constructors store v (at_type program.constructors store t unit_type v (w.1 ∙ w.2) of)
  value_fits store v (call lent ∷ next ∷ older) t of w = tt

  control_fits : (control : Control) (c : Configuration) → ControlTyped (table_of program) control c → ControlFits program control c
  control_fits (expression e env) c typed = expression_fits e env c.store typed.0 typed.1
  control_fits (value v) c typed = value_fits c.store v c.frames typed.0 typed.1 typed.2
  control_fits (stopped by) c typed = tt

  pub state_fits : (c : Configuration) → IsStateTyped (table_of program) c → StateFits program c
  state_fits c typed = control_fits c.control c typed

-- ---- each step keeps states typed

module _ (setting : Setting) (program_typed : IsGroundTyped setting.program) where
  abbrev table : Table
  table = table_of setting.program

  abbrev Safe : Action Configuration → Type 0
  Safe action = LeadsTo (IsStateTyped table) action

  -- `older` wait for the value of a form, and `from` is the state before the step
  construct_safe : (c : ℕ) (v : Value) (vs : List Value) (ts : List TypeTree) (t : TypeTree) (older : List Frame)
      → (from : Configuration) → field_types table.constructors t c ≡ Some ts → AreOf table.constructors from.store ts (v ∷ vs)
      → FramesWait table from.store older t → Safe (construct_step setting c (v ∷ vs) older from)
  construct_safe c v vs ts t older from fields of w = by_test _
    where
      made : IsOf table.constructors (from.store ++ record { made_by = c; fields = v ∷ vs } ∷ []) t (place (length from.store))
      made =
          construct_of table.constructors _ t c ts (place (length from.store)) (v ∷ vs) fields
          (length from.store, refl, get_behind from.store _) (all_longer from.store _ table.constructors ts (v ∷ vs) of)

      by_test : (full : Bool)
          → IsStateTyped table (if full then at_end heap_full from else at_new_place c (v ∷ vs) (record from { frames = older }))
      by_test true = tt
      by_test false = (t, made, frames_longer table from.store _ older t w)

  -- a function's body, its parameters bound
  body_typed : (f : ℕ) (function : FunctionTree) (vs : List Value) (store : Store)
      → slice_get setting.program.functions f ≡ Some function → AreOf table.constructors store function.parameters vs
      → IsTypedIn table.constructors store (bind_parameters 0 vs []) (λ scope. HasType table scope function.body function.result)
  body_typed f function vs store there of = record {
    scope = with_parameters 0 function.parameters [];
    known = known_parameters table.constructors store 0 function.parameters vs [] [] (known_none table.constructors store []) of;
    inside = program_typed.functions f function there;
  }

  push_safe : (f : ℕ) (function : FunctionTree) (vs : List Value) (older : List Frame) (from : Configuration)
      → slice_get setting.program.functions f ≡ Some function → AreOf table.constructors from.store function.parameters vs
      → FramesWait table from.store older function.result → Safe (push_step setting f function vs older from)
  push_safe f function vs older from there of w = by_test _
    where
      entered : Configuration
      entered = in_body function vs (record from { frames = call (lent_places (is_lent setting.positions f) 0 vs) ∷ older })

      by_test : (full : Bool) → IsStateTyped table (if full then at_end stack_full from else entered)
      by_test true = tt
      by_test false = (function.result, body_typed f function vs from.store there of, (function.result, refl, w))

  call_safe : (f : ℕ) (function : FunctionTree) (vs : List Value) (older : List Frame) (from : Configuration)
      → slice_get setting.program.functions f ≡ Some function → AreOf table.constructors from.store function.parameters vs
      → FramesWait table from.store older function.result → Safe (call_step setting f (Some function) vs older from)
  call_safe f function vs (call lent ∷ older) from there of w = (function.result, body_typed f function vs from.store there of, w)
  call_safe f function vs [] from there of w = push_safe f function vs [] from there of w
  call_safe f function vs (arguments form values left env ∷ older) from there of w =
      push_safe f function vs (arguments form values left env ∷ older) from there of w
  call_safe f function vs (branches p q env ∷ older) from there of w =
      push_safe f function vs (branches p q env ∷ older) from there of w
  call_safe f function vs (rows rs env ∷ older) from there of w = push_safe f function vs (rows rs env ∷ older) from there of w
  call_safe f function vs (statement x rest env ∷ older) from there of w =
      push_safe f function vs (statement x rest env ∷ older) from there of w

  enter_safe : (f : ℕ) (vs : List Value) (ts : List TypeTree) (t : TypeTree) (older : List Frame) (from : Configuration)
      → slice_get table.functions f ≡ Some (record { parameters = ts; result = t }) → AreOf table.constructors from.store ts vs
      → FramesWait table from.store older t → Safe (call_step setting f (slice_get setting.program.functions f) vs older from)
  enter_safe f vs ts t older from signature of w =
      let there = function_there setting.program.functions f ts t signature in
      subst (λ found. Safe (call_step setting f found vs older from)) (sym there.1)
      (call_safe f there.0 vs older from there.1 (at_types table.constructors from.store ts there.0.parameters vs (sym there.2) of)
      (subst (FramesWait table from.store older) (sym there.3) w))

  form_safe : (form : Form) (vs : List Value) (ts : List TypeTree) (t : TypeTree) (older : List Frame) (from : Configuration)
      → IsFormTyped table form ts t → AreOf table.constructors from.store ts vs → FramesWait table from.store older t
      → Safe (form_step setting form vs older from)
  form_safe form vs ts t older from typed of w =
      by_effect (form_effect setting.program.texts form vs)
      (effect_typed table from.store program_typed.truths setting.program.texts form ts t vs typed of)
    where
      acts : FormEffect → Action Configuration
      acts effect =
          effect_step (λ v. at_value v (record from { frames = older })) (λ c fields. construct_step setting c fields older from)
          (λ f arguments. call_step setting f (slice_get setting.program.functions f) arguments older from) effect

      by_effect : (effect : FormEffect) → EffectTyped table from.store t effect → Safe (acts effect)
      by_effect (gives v) e = (t, e, w)
      by_effect (prints piece) e =
          let of_print = at_type table.constructors from.store unit_type t unit (sym e) (of_unit table.constructors from.store) in
          print_leads (IsStateTyped table) piece _ (t, of_print, w)
      by_effect reads e =
          λ byte.
          let of_read = byte_typed table.constructors from.store byte in
          (t, at_type table.constructors from.store int32 t (byte_value byte) (sym e) of_read, w)
      by_effect (makes c []) e = absurd e
      by_effect (makes c (v ∷ fields)) e = construct_safe c v fields e.0 t older from e.1 e.2 w
      by_effect (enters f values) e = enter_safe f values e.0 t older from e.1 e.2 w

  -- an expression's first part is typed, and so is the frame that waits for it
  first_safe : (form : Form) (first : Tree) (rest : Trees) (env : Environment) (ts : List TypeTree) (t : TypeTree)
      → (c : Configuration) → IsFormTyped table form ts t
      → IsTypedIn table.constructors c.store env (λ scope. HaveTypes table scope (tree first rest) ts)
      → FramesWait table c.store c.frames t
      → IsStateTyped table (at_expression first env (record c { frames = arguments form [] rest env ∷ c.frames }))
  first_safe form first rest env [] t c form_typed typed w = absurd typed.inside
  first_safe form first rest env (s ∷ ts) t c form_typed typed w = (
    s,
    record { scope = typed.scope; known = typed.known; inside = typed.inside.0 },
    (t, ([], ts, form_typed, tt, record { scope = typed.scope; known = typed.known; inside = typed.inside.1 }), w),
  )

  expression_safe : (e : Tree) (env : Environment) (t : TypeTree) (c : Configuration)
      → IsTypedIn table.constructors c.store env (λ scope. HasType table scope e t) → FramesWait table c.store c.frames t
      → Safe (expression_step setting e env c)
  expression_safe (variable x) env t c typed w = (t, (typed.known x t typed.inside).1, w)
  expression_safe (apply form no_tree) env t c typed w =
      let none = none_of table c.store typed.scope typed.inside.0 typed.inside.1 in
      form_safe form [] typed.inside.0 t c.frames c typed.inside.2 none w
  expression_safe (apply form (tree first rest)) env t c typed w =
      first_safe form first rest env typed.inside.0 t c typed.inside.2
      (record { scope = typed.scope; known = typed.known; inside = typed.inside.1 }) w
  expression_safe (branch condition p q) env t c typed w = (
    bool,
    record { scope = typed.scope; known = typed.known; inside = typed.inside.0 },
    (t, (refl, record { scope = typed.scope; known = typed.known; inside = (typed.inside.1, typed.inside.2) }), w),
  )
  expression_safe (match scrutinee of) env t c typed w = (
    typed.inside.0,
    record { scope = typed.scope; known = typed.known; inside = typed.inside.1 },
    (t, (typed.inside.3, record { scope = typed.scope; known = typed.known; inside = typed.inside.2 }), w),
  )
  expression_safe (sequence binder first rest) env t c typed w = (
    typed.inside.0,
    record { scope = typed.scope; known = typed.known; inside = typed.inside.1 },
    (
      t,
      record {
        scope = typed.scope;
        known = typed.known;
        inside = subst (λ scope. HasType table scope rest t) (awaited_is binder typed.inside.0 typed.scope) typed.inside.2;
      },
      w,
    ),
  )

  -- the next argument of a form
  next_safe : (form : Form) (values : List Value) (next : Tree) (left : Trees) (env : Environment) (older : List Frame) (v : Value)
      → (t r : TypeTree) (before after : List TypeTree) (c : Configuration) → IsOf table.constructors c.store t v
      → IsFormTyped table form (before ++ t ∷ after) r → AreOf table.constructors c.store before values
      → IsTypedIn table.constructors c.store env (λ scope. HaveTypes table scope (tree next left) after)
      → FramesWait table c.store older r
      → IsStateTyped table (at_expression next env (record c { frames = arguments form (values ++ v ∷ []) left env ∷ older }))
  next_safe form values next left env older v t r before [] c of form_typed values_of typed w = absurd typed.inside
  next_safe form values next left env older v t r before (s ∷ after) c of form_typed values_of typed w = (
    s,
    record { scope = typed.scope; known = typed.known; inside = typed.inside.0 },
    (
      r,
      (
        before ++ t ∷ [],
        after,
        subst (λ ts. IsFormTyped table form ts r) (sym (append_assoc before (t ∷ []) (s ∷ after))) form_typed,
        of_both table.constructors c.store before (t ∷ []) values (v ∷ []) values_of (of, tt),
        record { scope = typed.scope; known = typed.known; inside = typed.inside.1 },
      ),
      w,
    ),
  )

  -- a row of a match
  choice_safe : (rs : Rows) (v : Value) (env : Environment) (older : List Frame) (u t : TypeTree) (c : Configuration)
      → IsOf table.constructors c.store u v → IsCovered (values_of table.constructors) u (asked_by rs)
      → IsTypedIn table.constructors c.store env (λ scope. AreRowsTyped table scope rs u t) → FramesWait table c.store older t
      → Safe (choice_step setting (first_match c.store rs v env) older c)
  choice_safe rs v env older u t c of covered typed w =
      let patterns = rows_of_type table typed.scope rs u t typed.inside in
      let chosen = takes_one table.constructors c.store rs u v env patterns covered of in
      subst (λ choice. Safe (choice_step setting choice older c)) (sym chosen.1)
      (t, chosen_typed table c.store u t v typed.scope env rs chosen.0 of typed.known typed.inside chosen.1, w)

  value_safe : (v : Value) (fs : List Frame) (t : TypeTree) (c : Configuration) → IsOf table.constructors c.store t v
      → FramesWait table c.store fs t → Safe (value_step setting v fs c)
  value_safe v (arguments form values (tree next left) env ∷ older) t c of w =
      next_safe form values next left env older v t w.0 w.1.0 w.1.1 c of w.1.2 w.1.3 w.1.4 w.2
  value_safe v (arguments form values no_tree env ∷ older) t c of w =
      let all = last_of table c.store form values env t w.0 v of w.1 in
      form_safe form (values ++ v ∷ []) (w.1.0 ++ t ∷ w.1.1) w.0 older c w.1.2 all w.2
  value_safe v (branches p q env ∷ older) t c of w = (
    w.0,
    record {
      scope = w.1.1.scope;
      known = w.1.1.known;
      inside =
          elim (is_true v) as (λ truth. HasType table w.1.1.scope (if truth then p else q) w.0)
          [ true ↦ w.1.1.inside.0 | false ↦ w.1.1.inside.1 ];
    },
    w.2,
  )
  value_safe v (rows rs env ∷ older) t c of w = choice_safe rs v env older t w.0 c of w.1.0 w.1.1 w.2
  value_safe v (statement x rest env ∷ older) t c of w = (
    w.0,
    record {
      scope = with_awaited x t w.1.scope;
      known = known_bind table.constructors c.store x t v w.1.scope env w.1.known of;
      inside = w.1.inside;
    },
    w.2,
  )
  value_safe v (call lent ∷ next ∷ older) t c of w = (w.0, at_type table.constructors c.store t w.0 v w.1 of, w.2)
  value_safe v (call lent ∷ []) t c of w = tt
  value_safe v [] t c of w = tt

  step_at_safe : (control : Control) (c : Configuration) → ControlTyped table control c → IsStateTyped table c
      → Safe (step_at setting control c)
  step_at_safe (expression e env) c typed whole = expression_safe e env typed.0 c typed.1 typed.2
  step_at_safe (value v) c typed whole = value_safe v c.frames typed.0 c typed.1 typed.2
  step_at_safe (stopped by) c typed whole = whole

  pub step_safe : (c : Configuration) → IsStateTyped table c → Safe (step_of setting c)
  step_safe c typed = step_at_safe c.control c typed typed
