-- Where no form of a program has more parts than so many, no step of its run looks at more.
use Rattle.std.proofs.Common.{◌≡◌, ℕ, zero, suc, ◌+◌, ◌*◌, ◌≤◌, Bool, true, false, Option, None, Some, List, [], ◌∷◌, ◌++◌, length, map, refl, sym, subst, arith}
use Rattle.std.specs.Prelude.{slice_get, nat_le, if◌then◌else◌}
use Rattle.std.proofs.lemmas.Option.{get_or_from_slice_get}
use Rattle.kk_base.specs.Machines.{state}
use Rattle.kk_source.specs.FormEffects.{FormEffect, gives, prints, reads, makes, enters, form_effect, effect_step}
use Rattle.kk_source.specs.Live.{value_of, live}
use Rattle.kk_source.specs.Matching.{and_then}
use Rattle.kk_source.specs.State.{Value, unit, place, Store, Environment, heap_full, stack_full}
use Rattle.kk_source.proofs.RunInvariants.{LeadsTo, print_leads, run_keeps}
use Rattle.kk_core.specs.Codes.{Code, give, tail_call, case, compute, use_of, unpack, inside, Arms, no_arm, arm, FunctionCode}
use Rattle.kk_core.specs.CoreMachine.{arm_at, held_for, held_by_frames, fields_opened, bound_then, at_end, unpack_step, case_step, give_step, in_code, tail_step, construct_step, call_step, code_step, core_step_at, core_step_of, core_ending_of, core_machine}
use Rattle.kk_core.specs.CoreStates.{CoreSetting, Join, CallFrame, CoreControl, running, stopped, CoreConfiguration, CoreState, no_code, core_start, core_first_state}
use Rattle.kk_core.specs.Costs.{parts_seen, step_cost, part_cost, control_cost, core_cost}
use Rattle.kk_core.specs.Decisions.{chosen}
use Rattle.kk_core.specs.Looks.{HasFewLooks}
use Rattle.kk_core.proofs.CallFrames.{call_frame}

-- the most that is seen: arguments or fields of a form, and what a case looks at
pub record MostSeen : Type 0 where
  pub parts : ℕ
  pub looks : ℕ

-- no form of a code has more arguments or fields, and no case looks at more
abbrev mutual
  pub HasFewParts : MostSeen → Code → Type 0
  HasFewParts most (give x) = Unit {0}
  HasFewParts most (tail_call f arguments) = length arguments ≤ most.parts
  HasFewParts most (case x decisions arms) = HasFewLooks decisions most.looks × HaveFewParts most arms
  HasFewParts most (compute x form arguments rest) = (length arguments ≤ most.parts) × HasFewParts most rest
  HasFewParts most (use_of x rest) = HasFewParts most rest
  HasFewParts most (unpack x c fields rest) = (length fields ≤ most.parts) × HasFewParts most rest
  HasFewParts most (inside x block rest) = HasFewParts most block × HasFewParts most rest

  pub HaveFewParts : MostSeen → Arms → Type 0
  HaveFewParts most no_arm = Unit {0}
  HaveFewParts most (arm pattern body rest) = HasFewParts most body × HaveFewParts most rest

-- what the step at a code sees at most
abbrev pub most_seen : MostSeen → Code → ℕ
most_seen most (case x decisions arms) = most.looks
most_seen most _ = most.parts

-- and so costs at most
abbrev pub most_cost : MostSeen → CoreControl → ℕ
most_cost most (running code environment joins) = step_cost + part_cost * most_seen most code
most_cost most (stopped by) = 0

-- ---- states

abbrev JoinsFew : MostSeen → List Join → Type 0
JoinsFew most [] = Unit {0}
JoinsFew most (join ∷ joins) = HasFewParts most join.rest × JoinsFew most joins

abbrev FramesFew : MostSeen → List CallFrame → Type 0
FramesFew most [] = Unit {0}
FramesFew most (frame ∷ older) = (HasFewParts most frame.rest × JoinsFew most frame.joins) × FramesFew most older

abbrev ControlFew : MostSeen → CoreControl → Type 0
ControlFew most (running code environment joins) = HasFewParts most code × JoinsFew most joins
ControlFew most (stopped by) = Unit {0}

abbrev StateFew : MostSeen → CoreConfiguration → Type 0
StateFew most c = ControlFew most c.control × FramesFew most c.frames

abbrev OptionFew : MostSeen → Option Code → Type 0
OptionFew most None = Unit {0}
OptionFew most (Some code) = HasFewParts most code

-- ---- steps

arm_few : (most : MostSeen) (arms : Arms) (row : ℕ) → HaveFewParts most arms → OptionFew most (arm_at arms row)
arm_few most no_arm row few = tt
arm_few most (arm pattern body rest) zero few = few.0
arm_few most (arm pattern body rest) (suc row) few = arm_few most rest row few.1

chosen_few : (most : MostSeen) (arms : Arms) (row : Option ℕ) → HaveFewParts most arms → OptionFew most (and_then row (arm_at arms))
chosen_few most arms None few = tt
chosen_few most arms (Some row) few = arm_few most arms row few

give_few : (most : MostSeen) (v : Value) (joins : List Join) (frames : List CallFrame) (environment : Environment)
    (from : CoreConfiguration)
    → JoinsFew most joins → FramesFew most frames → FramesFew most from.frames
    → LeadsTo (StateFew most) (give_step v joins frames environment from)
give_few most v (join ∷ joins) frames environment from few older waits = (few, waits)
give_few most v [] (frame ∷ frames) environment from few older waits = older
give_few most v [] [] environment from few older waits = (tt, waits)

case_few : (most : MostSeen) (body : Option Code) (environment : Environment) (joins : List Join) (from : CoreConfiguration)
    → OptionFew most body → JoinsFew most joins → StateFew most from
    → LeadsTo (StateFew most) (case_step body environment joins from)
case_few most None environment joins from few later stays = stays
case_few most (Some body) environment joins from few later stays = ((few, later), stays.1)

unpack_few : (most : MostSeen) (values : Option (List Value)) (fields : List ℕ) (rest : Code) (environment : Environment)
    (joins : List Join) (from : CoreConfiguration)
    → HasFewParts most rest → JoinsFew most joins → StateFew most from
    → LeadsTo (StateFew most) (unpack_step values fields rest environment joins from)
unpack_few most None fields rest environment joins from few later stays = stays
unpack_few most (Some vs) fields rest environment joins from few later stays = ((few, later), stays.1)

either_few : (most : MostSeen) (full : Bool) (one other : CoreConfiguration) → StateFew most one → StateFew most other
    → StateFew most (if full then one else other)
either_few most true one other first second = first
either_few most false one other first second = second

module _ (setting : CoreSetting) (most : MostSeen)
    (all : (f : ℕ) (function : FunctionCode) → slice_get setting.code.functions f ≡ Some function → HasFewParts most function.body)
  where
    tail_few : (f : ℕ) (function : Option FunctionCode) (values : List Value) (from : CoreConfiguration)
        → slice_get setting.code.functions f ≡ function → StateFew most from → LeadsTo (StateFew most) (tail_step function values from)
    tail_few f None values from is stays = stays
    tail_few f (Some function) values from is stays = ((all f function is, tt), stays.1)

    call_few : (f : ℕ) (function : Option FunctionCode) (values : List Value) (x : ℕ) (rest : Code) (environment : Environment)
        (joins : List Join) (from : CoreConfiguration)
        → slice_get setting.code.functions f ≡ function → HasFewParts most rest → JoinsFew most joins → StateFew most from
        → LeadsTo (StateFew most)
        (call_step setting f function values
        (λ lent. record { variable = x; rest = rest; joins = joins; environment = environment; lent = lent }) from)
    call_few f None values x rest environment joins from is few later stays = stays
    call_few f (Some function) values x rest environment joins from is few later stays =
        either_few most (nat_le setting.depth (suc (length from.frames))) (at_end stack_full from)
        (in_code function values (record from { frames = call_frame setting x rest joins environment f values ∷ from.frames }))
        (tt, stays.1) ((all f function is, tt), ((few, later), stays.1))

    effect_few : (effect : FormEffect) (x : ℕ) (rest : Code) (environment : Environment) (joins : List Join) (from : CoreConfiguration)
        (held : List Value)
        → HasFewParts most rest → JoinsFew most joins → StateFew most from
        → LeadsTo (StateFew most)
        (effect_step (λ v. bound_then x v rest environment joins from)
        (λ c fields. construct_step setting c fields held (λ v. bound_then x v rest environment joins from) from)
        (λ f arguments.
        call_step setting f (slice_get setting.code.functions f) arguments
        (λ lent. record { variable = x; rest = rest; joins = joins; environment = environment; lent = lent }) from)
        effect)
    effect_few (gives v) x rest environment joins from held few later stays = ((few, later), stays.1)
    effect_few (prints piece) x rest environment joins from held few later stays =
        print_leads (StateFew most) piece (bound_then x unit rest environment joins from) ((few, later), stays.1)
    effect_few reads x rest environment joins from held few later stays = λ byte. ((few, later), stays.1)
    effect_few (makes c fields) x rest environment joins from held few later stays =
        either_few most (nat_le setting.cells (live from.store (fields ++ held))) (at_end heap_full from)
        (record (bound_then x (place (length from.store)) rest environment joins from) {
          store = from.store ++ record { made_by = c; fields = fields } ∷ [];
        })
        (tt, stays.1) ((few, later), stays.1)
    effect_few (enters f arguments) x rest environment joins from held few later stays =
        call_few f (slice_get setting.code.functions f) arguments x rest environment joins from refl few later stays

    code_few : (code : Code) (environment : Environment) (joins : List Join) (from : CoreConfiguration)
        → HasFewParts most code → JoinsFew most joins → StateFew most from
        → LeadsTo (StateFew most) (code_step setting code environment joins from)
    code_few (give x) environment joins from few later stays =
        give_few most (value_of environment x) joins from.frames environment from later stays.1 stays.1
    code_few (tail_call f arguments) environment joins from few later stays =
        tail_few f (slice_get setting.code.functions f) (map (value_of environment) arguments) from refl stays
    code_few (case x decisions arms) environment joins from few later stays =
        case_few most (and_then (chosen (slice_get from.store) (value_of environment x) decisions) (arm_at arms)) environment joins from
        (chosen_few most arms (chosen (slice_get from.store) (value_of environment x) decisions) few.1) later stays
    code_few (compute x form arguments rest) environment joins from few later stays =
        effect_few (form_effect setting.code.texts form (map (value_of environment) arguments)) x rest environment joins from
        (held_for x rest joins environment ++ held_by_frames from.frames) few.1 later stays
    code_few (use_of x rest) environment joins from few later stays = ((few, later), stays.1)
    code_few (unpack x c fields rest) environment joins from few later stays =
        unpack_few most (fields_opened from.store c (value_of environment x)) fields rest environment joins from few.1 later stays
    code_few (inside x block rest) environment joins from few later stays = ((few.0, (few.1, later)), stays.1)

    step_few : (c : CoreConfiguration) → StateFew most c → LeadsTo (StateFew most) (core_step_of setting c)
    step_few c few = by c.control few.0
      where
        by : (control : CoreControl) → ControlFew most control → LeadsTo (StateFew most) (core_step_at setting control c)
        by (running code environment joins) here = code_few code environment joins c here.0 here.1 few
        by (stopped end) here = few

    -- ---- runs

    seen_few : (code : Code) (environment : Environment) (store : Store) → HasFewParts most code
        → parts_seen code environment store ≤ most_seen most code
    seen_few (give x) environment store few = omega arith
    seen_few (tail_call f arguments) environment store few = few
    seen_few (case x decisions arms) environment store few = few.0 (slice_get store) (value_of environment x) (length decisions) 0
    seen_few (compute x form arguments rest) environment store few = few.0
    seen_few (use_of x rest) environment store few = omega arith
    seen_few (unpack x c fields rest) environment store few = few.0
    seen_few (inside x block rest) environment store few = omega arith

    control_cheap : (control : CoreControl) (store : Store) → ControlFew most control
        → control_cost control store ≤ most_cost most control
    control_cheap (running code environment joins) store few = omega (arith, seen_few code environment store few.0)
    control_cheap (stopped by) store few = omega arith

    -- no step of a run costs more, if `main` is there
    pub run_cheap : (function : FunctionCode) → slice_get setting.code.functions setting.code.main ≡ Some function
        → (weight : CoreState → ℕ) (input : List ℕ) (n : ℕ)
        → core_cost (state (core_machine weight setting) n (core_first_state setting input))
        ≤ most_cost most (state (core_machine weight setting) n (core_first_state setting input)).machine.control
    run_cheap function there weight input n =
        let start : StateFew most (core_start setting) = (
          (
            subst (λ (one : FunctionCode). HasFewParts most one.body)
                (sym (get_or_from_slice_get setting.code.functions setting.code.main function no_code there))
                (all setting.code.main function there),
            tt,
          ),
          tt,
        ) in
        let here : StateFew most (state (core_machine weight setting) n (core_first_state setting input)).machine
        = run_keeps (StateFew most) weight core_ending_of (core_step_of setting) step_few n (core_first_state setting input) start in
        control_cheap (state (core_machine weight setting) n (core_first_state setting input)).machine.control
        (state (core_machine weight setting) n (core_first_state setting input)).machine.store here.0
