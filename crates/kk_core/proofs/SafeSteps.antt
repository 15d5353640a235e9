-- Each step of the core machine keeps states typed.
use Rattle.std.proofs.Common.{◌≡◌, ℕ, ◌+◌, ◌≤◌, Bool, true, false, List, [], ◌∷◌, ◌++◌, length, map, Some, refl, sym, ap, subst, ◌∙◌, arith}
use Rattle.std.specs.Prelude.{slice_get, suc, nat_le, if◌then◌else◌}
use Rattle.kk_syntax.specs.declared.program.Form.{Form}
use Rattle.kk_syntax.specs.GroundTyping.{Table}
use Rattle.kk_syntax.specs.Patterns.{part}
use Rattle.kk_syntax.specs.GroundTyping.{Signature}
use Rattle.kk_syntax.specs.Types.{TypeTree}
use Rattle.kk_source.specs.FormEffects.{FormEffect, gives, prints, reads, makes, enters, byte_value, form_effect, effect_step}
use Rattle.kk_source.specs.Live.{value_of, live}
use Rattle.kk_source.specs.Matching.{and_then}
use Rattle.kk_source.specs.State.{Value, unit, place, Store, Environment, heap_full, stack_full}
use Rattle.kk_source.specs.Step.{bind_parameters}
use Rattle.kk_source.specs.ValueTypes.{IsOf, AreOf}
use Rattle.kk_source.proofs.RunInvariants.{LeadsTo, print_leads}
use Rattle.kk_source.proofs.Operators.{byte_typed, EffectTyped, effect_typed}
use Rattle.kk_source.proofs.Values.{get_behind, all_longer, construct_of, of_unit}
use Rattle.kk_core.specs.Codes.{Code, give, tail_call, case, compute, use_of, unpack, inside, FunctionCode}
use Rattle.kk_core.specs.CoreMachine.{arm_at, held_for, held_by_frames, bound_then, at_end, bind_fields, unpack_step, case_step, give_step, in_code, tail_step, construct_step, call_step, code_step, core_step_at, core_step_of}
use Rattle.kk_core.specs.CoreStates.{CoreSetting, Join, CallFrame, CoreControl, running, stopped, CoreConfiguration}
use Rattle.kk_core.specs.CoreTyping.{Facts, typing, typing_parameters, knowing, knowing_fields, HasCodeType, IsCodeTyped, IsCoreTyped}
use Rattle.kk_core.specs.Sizes.{below, Ordered}
use Rattle.kk_core.proofs.ChosenArms.{ordered_le}
use Rattle.kk_core.proofs.TypeSafety.{code_there, value_typed, values_typed, taken, opened_cell}
use Rattle.kk_core.proofs.VariableFacts.{Stand, unchanged, of_type, stand_none, stand_move, stand_bound, stand_known, parameters_stand, fields_stand, rise_le, same_bound, same_fields, stand_longer}
use Rattle.kk_core.proofs.TypedStates.{JoinsWait, FrameWaits, FramesWait, Runs, ControlTyped, IsStateTyped, joins_move, joins_longer, frames_longer}
use Rattle.kk_core.proofs.CallFrames.{call_frame}

module _ (table : Table) where
  -- a variable takes a value of its type, and the rest comes
  bound_runs : (store : Store) (environment : Environment) (joins : List Join) (facts : Facts) (names : List ℕ) (low high x : ℕ)
      (rest : Code) (tail : Bool) (s t r : TypeTree) (v : Value)
      → Stand table.constructors store facts environment low → low ≤ x → IsOf table.constructors store s v
      → Ordered names (x + 1) rest high → HasCodeType table tail (typing x s facts) rest t → (tail ≡ true → joins ≡ [])
      → JoinsWait table store environment low high joins t r
      → Runs table store rest (record { variable = x; value = v } ∷ environment) joins r
  bound_runs store environment joins facts names low high x rest tail s t r v stand le of ordered typed alone wait =
      record {
        facts = typing x s facts;
        names = names;
        low = x + 1;
        high = high;
        tail = tail;
        type = t;
        stand = stand_bound table.constructors store facts environment low x _ v le (of_type table.constructors store s v of) stand;
        ordered = ordered;
        typed = typed;
        alone = alone;
        wait = joins_move table store environment (record { variable = x; value = v } ∷ environment) low (x + 1) high high joins t r
            (same_bound low x v environment le) (omega (arith, le)) (omega arith) wait;
      }

  -- a value is given to what waits for it
  give_safe : (v : Value) (joins : List Join) (frames : List CallFrame) (environment : Environment) (from : CoreConfiguration)
      (low high : ℕ) (t r : TypeTree)
      → IsOf table.constructors from.store t v → low ≤ high → JoinsWait table from.store environment low high joins t r
      → FramesWait table from.store from.frames r → FramesWait table from.store frames r
      → LeadsTo (IsStateTyped table) (give_step v joins frames environment from)
  give_safe v (join ∷ joins) frames environment from low high t r of le wait older waits = (
    r,
    bound_runs from.store environment joins wait.facts wait.names low wait.top join.variable join.rest wait.tail t wait.type r v
        wait.stand (omega (arith, le, wait.above)) of wait.ordered wait.typed wait.alone wait.wait,
    older,
  )
  give_safe v [] (frame ∷ frames) environment from low high t r of le wait older waits =
      let w = waits.1 in (
        waits.0,
        bound_runs from.store frame.environment frame.joins w.facts w.names frame.variable w.high frame.variable frame.rest w.tail r
            w.type waits.0 v w.stand (omega arith) (subst (λ u. IsOf table.constructors from.store u v) wait of) w.ordered w.typed
            w.alone w.wait,
        waits.2,
      )
  give_safe v [] [] environment from low high t r of le wait older waits = tt

  -- a function's body, its parameters bound
  pub entered : (function : FunctionCode) (signature : Signature) (vs : List Value) (from : CoreConfiguration)
      → IsCodeTyped table function signature → AreOf table.constructors from.store signature.parameters vs
      → FramesWait table from.store from.frames signature.result → IsStateTyped table (in_code function vs from)
  entered function signature vs from is of older = (
    signature.result,
    record {
      facts = typing_parameters 0 signature.parameters [];
      names = below function.parameters;
      low = function.parameters;
      high = function.variables;
      tail = true;
      type = signature.result;
      stand =
          subst (Stand table.constructors from.store (typing_parameters 0 signature.parameters [])
          (bind_parameters 0 vs [])) {x = 0 + length signature.parameters} {y = function.parameters} (omega (arith, is.parameters))
          (parameters_stand table.constructors from.store 0 signature.parameters vs [] [] of
          (stand_none table.constructors from.store [] 0));
      ordered = is.ordered;
      typed = is.body;
      alone = λ true_is. refl;
      wait = refl;
    },
    older,
  )

module _ (table : Table) (setting : CoreSetting) (typed : IsCoreTyped table setting.code) (from : CoreConfiguration)
    (environment : Environment) (joins : List Join) (r : TypeTree) (older : FramesWait table from.store from.frames r) where
  tail_safe : (f : ℕ) (ts : List TypeTree) (vs : List Value)
      → slice_get table.functions f ≡ Some (record { parameters = ts; result = r }) → AreOf table.constructors from.store ts vs
      → LeadsTo (IsStateTyped table) (tail_step (slice_get setting.code.functions f) vs from)
  tail_safe f ts vs is of =
      let there =
      code_there table setting.code.functions table.functions f (record { parameters = ts; result = r }) typed.functions is in
      subst (λ found. LeadsTo (IsStateTyped table) (tail_step found vs from)) (sym there.1)
      (entered table there.0 (record { parameters = ts; result = r }) vs from there.2 of older)

  full_or : (full : Bool) (end to : CoreConfiguration) → IsStateTyped table end → IsStateTyped table to
      → IsStateTyped table (if full then end else to)
  full_or true end to first second = first
  full_or false end to first second = second

  -- ---- a form, whose value a variable takes

  module _ (x : ℕ) (form : Form) (arguments : List ℕ) (rest : Code)
      (runs : Runs table from.store (compute x form arguments rest) environment joins r) where
    abbrev s : TypeTree
    s = runs.typed.0

    value_bound : (v : Value) → IsOf table.constructors from.store s v
        → IsStateTyped table (bound_then x v rest environment joins from)
    value_bound v of = (
      r,
      bound_runs table from.store environment joins runs.facts (x ∷ runs.names) runs.low runs.high x rest runs.tail s runs.type r v
          runs.stand runs.ordered.1 of runs.ordered.2 runs.typed.4 runs.alone runs.wait,
      older,
    )

    -- a construction with fields
    cell_bound : (c : ℕ) (v : Value) (vs : List Value) → EffectTyped table from.store s (makes c (v ∷ vs))
        → IsStateTyped table
        (record (bound_then x (place (length from.store)) rest environment joins from) {
          store = from.store
              ++ record { made_by = c; fields = v ∷ vs } ∷ [];
        })
    cell_bound c v vs effect =
        let more : Store = record { made_by = c; fields = v ∷ vs } ∷ [] in (
          r,
          bound_runs table (from.store ++ more) environment joins runs.facts (x ∷ runs.names) runs.low runs.high x rest runs.tail s
              runs.type r (place (length from.store))
              (stand_longer table.constructors from.store more runs.facts environment runs.low runs.stand) runs.ordered.1
              (construct_of table.constructors (from.store ++ more) s c effect.0 (place (length from.store)) (v ∷ vs) effect.1
              (length from.store, refl, get_behind from.store (record { made_by = c; fields = v ∷ vs }))
              (all_longer from.store more table.constructors effect.0 (v ∷ vs) effect.2))
              runs.ordered.2 runs.typed.4 runs.alone (joins_longer table from.store more environment runs.low runs.high joins
              runs.type r runs.wait),
          frames_longer table from.store more from.frames r older,
        )

    -- a call
    call_safe : (f : ℕ) (vs : List Value) → EffectTyped table from.store s (enters f vs)
        → LeadsTo (IsStateTyped table) (call_step setting f (slice_get setting.code.functions f) vs
        (λ lent. record { variable = x; rest = rest; joins = joins; environment = environment; lent = lent }) from)
    call_safe f vs effect =
        let ts : List TypeTree = effect.0 in
        let there =
        code_there table setting.code.functions table.functions f (record { parameters = ts; result = s }) typed.functions
        effect.1 in
        let frame : CallFrame = call_frame setting x rest joins environment f vs in
        let waits : FrameWaits table from.store frame s r =
        record {
          facts = runs.facts;
          names = x ∷ runs.names;
          high = runs.high;
          tail = runs.tail;
          type = runs.type;
          stand = stand_move table.constructors from.store runs.facts environment environment runs.low x (unchanged _ _)
              runs.ordered.1 runs.stand;
          ordered = runs.ordered.2;
          typed = runs.typed.4;
          alone = runs.alone;
          wait = joins_move table from.store environment environment runs.low x runs.high runs.high joins runs.type r
              (unchanged _ _) runs.ordered.1 (omega arith) runs.wait;
        } in
        subst (λ found. LeadsTo (IsStateTyped table)
        (call_step setting f found vs
        (λ lent. record { variable = x; rest = rest; joins = joins; environment = environment; lent = lent }) from)) (sym there.1)
        (full_or (nat_le setting.depth (suc (length from.frames))) (at_end stack_full from)
        (in_code there.0 vs (record from { frames = frame ∷ from.frames })) tt
        (entered table there.0 (record { parameters = ts; result = s }) vs (record from { frames = frame ∷ from.frames }) there.2
        effect.2 (r, waits, older)))

    form_safe : (effect : FormEffect) → EffectTyped table from.store s effect
        → LeadsTo (IsStateTyped table)
        (effect_step (λ v. bound_then x v rest environment joins from)
        (λ c fields. construct_step setting c fields (held_for x rest joins environment ++ held_by_frames from.frames)
        (λ v. bound_then x v rest environment joins from) from)
        (λ f values. call_step setting f (slice_get setting.code.functions f) values
        (λ lent. record { variable = x; rest = rest; joins = joins; environment = environment; lent = lent }) from) effect)
    form_safe (gives v) effect = value_bound v effect
    form_safe (prints piece) effect =
        print_leads (IsStateTyped table) piece (bound_then x unit rest environment joins from)
        (value_bound unit (subst (λ t. IsOf table.constructors from.store t unit) (sym effect)
        (of_unit table.constructors from.store)))
    form_safe reads effect =
        λ byte. value_bound (byte_value byte) (subst (λ t. IsOf table.constructors from.store t (byte_value byte)) (sym effect)
        (byte_typed table.constructors from.store byte))
    form_safe (makes c []) effect = absurd effect
    form_safe (makes c (v ∷ vs)) effect =
        full_or (nat_le setting.cells (live from.store
        ((v ∷ vs) ++ (held_for x rest joins environment ++ held_by_frames from.frames)))) (at_end heap_full from)
        (record (bound_then x (place (length from.store)) rest environment joins from) {
          store = from.store
              ++ record { made_by = c; fields = v ∷ vs } ∷ [];
        }) tt (cell_bound c v vs effect)
    form_safe (enters f vs) effect = call_safe f vs effect

  -- ---- the step at a code

  pub code_safe : (code : Code) → Runs table from.store code environment joins r
      → LeadsTo (IsStateTyped table) (code_step setting code environment joins from)
  code_safe (give x) runs =
      give_safe table (value_of environment x) joins from.frames environment from runs.low runs.high runs.type r
      (value_typed table setting typed from environment joins r older (give x) runs x runs.type runs.typed) runs.ordered.1 runs.wait
      older older
  code_safe (tail_call f arguments) runs =
      tail_safe f runs.typed.1 (map (value_of environment) arguments) (by_joins joins (runs.alone runs.typed.0) runs.wait)
      (values_typed table setting typed from environment joins r older (tail_call f arguments) runs arguments runs.typed.1
      runs.typed.2)
    where
      by_joins : (others : List Join) → others ≡ [] → JoinsWait table from.store environment runs.low runs.high others runs.type r
          → slice_get table.functions f ≡ Some (record { parameters = runs.typed.1; result = r })
      by_joins [] none wait =
          subst (λ t. slice_get table.functions f ≡ Some (record { parameters = runs.typed.1; result = t })) wait runs.typed.3
      by_joins (join ∷ others) none wait = absurd (cc)
  code_safe (case x decisions arms) runs =
      let arm = taken table setting typed from environment joins r older x decisions arms runs in
      let inner = arm.2 in
      subst (λ found. LeadsTo (IsStateTyped table) (case_step found environment joins from))
      (sym (ap (λ row. and_then row (arm_at arms)) arm.1 ∙ inner.is)) (
        r,
        record {
          facts = knowing x runs.typed.0 inner.pattern runs.facts;
          names = runs.names;
          low = inner.from;
          high = inner.to;
          tail = runs.tail;
          type = runs.type;
          stand =
              stand_move table.constructors from.store (knowing x runs.typed.0 inner.pattern runs.facts) environment environment
              runs.low inner.from (unchanged _ _) inner.low_is
              (stand_known table.constructors from.store runs.facts environment runs.low x
              (record { type = runs.typed.0; pattern = runs.typed.1.0 }) (record { type = runs.typed.0; pattern = inner.pattern })
              runs.typed.1.1
              (record {
                of = value_typed table setting typed from environment joins r older (case x decisions arms) runs x
                    runs.typed.0 runs.typed.1;
                takes = inner.takes;
              }) runs.stand);
          ordered = inner.ordered;
          typed = inner.typed;
          alone = runs.alone;
          wait = joins_move table from.store environment environment runs.low inner.from runs.high inner.to joins runs.type r
              (unchanged _ _) inner.low_is inner.high_is runs.wait;
        },
        older,
      )
  code_safe (compute x form arguments rest) runs =
      form_safe x form arguments rest runs (form_effect setting.code.texts form (map (value_of environment) arguments))
      (effect_typed table from.store typed.truths setting.code.texts form runs.typed.1 runs.typed.0
      (map (value_of environment) arguments) runs.typed.3
      (values_typed table setting typed from environment joins r older (compute x form arguments rest) runs arguments runs.typed.1
      runs.typed.2))
  code_safe (use_of x rest) runs = (
    r,
    record {
      facts = runs.facts;
      names = runs.names;
      low = runs.low;
      high = runs.high;
      tail = runs.tail;
      type = runs.type;
      stand = runs.stand;
      ordered = runs.ordered.1;
      typed = runs.typed.2;
      alone = runs.alone;
      wait = runs.wait;
    },
    older,
  )
  code_safe (unpack x c fields rest) runs =
      let cell = opened_cell table setting typed from environment joins r older x c fields rest runs in
      let middle : ℕ = runs.ordered.0 in
      let le = rise_le runs.low middle fields runs.ordered.2 in
      let facts : Facts = knowing_fields fields runs.typed.1 (part runs.typed.2 runs.typed.3) runs.facts in
      subst (λ found. LeadsTo (IsStateTyped table) (unpack_step found fields rest environment joins from)) (sym cell.opened) (
        r,
        record {
          facts = facts;
          names = fields ++ runs.names;
          low = middle;
          high = runs.high;
          tail = runs.tail;
          type = runs.type;
          stand = fields_stand table.constructors from.store fields runs.typed.1 (part runs.typed.2 runs.typed.3) cell.fields
              runs.facts environment runs.low middle runs.typed.6 cell.each cell.taken runs.ordered.2 runs.stand;
          ordered = runs.ordered.3;
          typed = runs.typed.7;
          alone = runs.alone;
          wait = joins_move table from.store environment (bind_fields fields cell.fields environment) runs.low middle runs.high
              runs.high joins runs.type r (same_fields runs.low middle fields cell.fields environment runs.ordered.2) le
              (omega arith) runs.wait;
        },
        older,
      )
  code_safe (inside x block rest) runs =
      let le = ordered_le runs.names runs.low block x runs.ordered.0 in (
        r,
        record {
          facts = runs.facts;
          names = runs.names;
          low = runs.low;
          high = x;
          tail = false;
          type = runs.typed.0;
          stand = runs.stand;
          ordered = runs.ordered.0;
          typed = runs.typed.1;
          alone = λ is. absurd (cc);
          wait = record {
            facts = runs.facts;
            names = x ∷ runs.names;
            top = runs.high;
            tail = runs.tail;
            type = runs.type;
            stand = runs.stand;
            above = omega arith;
            ordered = runs.ordered.1;
            typed = runs.typed.2;
            alone = runs.alone;
            wait = runs.wait;
          };
        },
        older,
      )

module _ (table : Table) (setting : CoreSetting) (typed : IsCoreTyped table setting.code) where
  control_safe : (control : CoreControl) (c : CoreConfiguration) → ControlTyped table control c.store c.frames
      → IsStateTyped table c → LeadsTo (IsStateTyped table) (core_step_at setting control c)
  control_safe (running code environment joins) c at whole = code_safe table setting typed c environment joins at.0 at.2 code at.1
  control_safe (stopped by) c at whole = whole

  pub step_safe : (c : CoreConfiguration) → IsStateTyped table c → LeadsTo (IsStateTyped table) (core_step_of setting c)
  step_safe c at = control_safe c.control c at at
