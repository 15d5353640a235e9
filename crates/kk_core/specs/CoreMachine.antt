-- The steps of the core machine. It tells the same notes as the store machine: each event, the live places at each
-- construction with fields, and the call frames at each call that is no tail call.
use Rattle.std.specs.Prelude.{ℕ, zero, suc, List, [], ◌∷◌, ◌++◌, map, length, Option, Some, None, slice_get}
use Rattle.kk_base.specs.Trace.{Event}
use Rattle.kk_base.specs.Machines.{Machine, weighing, mapped}
use Rattle.kk_syntax.specs.declared.program.Form.{Form}
use Rattle.kk_syntax.specs.Shapes.{without}
use Rattle.kk_syntax.specs.PositionsOf.{is_lent}
use Rattle.kk_source.specs.State.{Value, place, Store, Environment, End, ended, heap_full, stack_full}
use Rattle.kk_source.specs.Live.{value_of, live}
use Rattle.kk_source.specs.Matching.{fields_made_by, and_then}
use Rattle.kk_source.specs.Notes.{Note, events_of}
use Rattle.kk_source.specs.Actions.{Action, goes, build_step, enter_step, performed}
use Rattle.kk_source.specs.FormEffects.{form_effect, effect_step}
use Rattle.kk_source.specs.Step.{bind_parameters, lent_places}
use Rattle.kk_core.specs.Codes.{Code, give, tail_call, case, compute, use_of, unpack, inside, Arms, no_arm, arm, FunctionCode}
use Rattle.kk_core.specs.Decisions.{chosen}
use Rattle.kk_core.specs.Needed.{needed}
use Rattle.kk_core.specs.CoreStates.{CoreSetting, Join, CallFrame, CoreControl, running, stopped, CoreConfiguration, CoreState, core_end_at}

-- ---- what the machine still holds

-- the variables that are needed after the innermost block, by the blocks that it is in
abbrev pub needed_after : List Join → List ℕ
needed_after [] = []
needed_after (join ∷ joins) = without (join.variable ∷ []) (needed (needed_after joins) join.rest)

-- the values that a code still needs, a variable that is still to be bound aside
abbrev pub held_for : ℕ → Code → List Join → Environment → List Value
held_for x rest joins environment = map (value_of environment) (without (x ∷ []) (needed (needed_after joins) rest))

-- what the functions that wait still need, and what their calls were lent
abbrev pub held_by_frames : List CallFrame → List Value
held_by_frames [] = []
held_by_frames (frame ∷ older) =
    (held_for frame.variable frame.rest frame.joins frame.environment ++ frame.lent) ++ held_by_frames older

-- ---- the steps

-- the machine at a code
abbrev pub at_code : Code → Environment → List Join → CoreConfiguration → CoreConfiguration
at_code code environment joins c = record c { control = running code environment joins }

-- the machine at the rest of a code, a variable bound
abbrev pub bound_then : ℕ → Value → Code → Environment → List Join → CoreConfiguration → CoreConfiguration
bound_then x v rest environment joins c = at_code rest (record { variable = x; value = v } ∷ environment) joins c

abbrev pub at_end : End → CoreConfiguration → CoreConfiguration
at_end end c = record c { control = stopped end }

-- the variables bound to the fields of a cell, in their order
abbrev pub bind_fields : List ℕ → List Value → Environment → Environment
bind_fields [] vs environment = environment
bind_fields (x ∷ xs) [] environment = environment
bind_fields (x ∷ xs) (v ∷ vs) environment = bind_fields xs vs (record { variable = x; value = v } ∷ environment)

-- the fields of the cell that a value names, if that constructor made it
abbrev pub fields_opened : Store → ℕ → Value → Option (List Value)
fields_opened store c (place at) = fields_made_by c (slice_get store at)
fields_opened store c _ = None

-- at the rest, the fields bound; where the value names no cell of that constructor the machine stays
abbrev pub unpack_step : Option (List Value) → List ℕ → Code → Environment → List Join → CoreConfiguration → Action CoreConfiguration
unpack_step None fields rest environment joins from = goes from
unpack_step (Some vs) fields rest environment joins from = goes (at_code rest (bind_fields fields vs environment) joins from)

-- the arm of a row
abbrev pub arm_at : Arms → ℕ → Option Code
arm_at no_arm row = None
arm_at (arm pattern body rest) zero = Some body
arm_at (arm pattern body rest) (suc row) = arm_at rest row

-- at the arm that is taken; where no row is chosen the machine stays
abbrev pub case_step : Option Code → Environment → List Join → CoreConfiguration → Action CoreConfiguration
case_step None environment joins from = goes from
case_step (Some body) environment joins from = goes (at_code body environment joins from)

-- At the end of a block inside its variable takes the value. At the end of a function's body the function that waits
-- takes it, or the run ends with that of the first one.
abbrev pub give_step : Value → List Join → List CallFrame → Environment → CoreConfiguration → Action CoreConfiguration
give_step v (join ∷ joins) frames environment from = goes (bound_then join.variable v join.rest environment joins from)
give_step v [] (frame ∷ older) environment from =
    goes (bound_then frame.variable v frame.rest frame.environment frame.joins (record from { frames = older }))
give_step v [] [] environment from = goes (at_end ended from)

-- the machine in a function's body, its parameters bound
abbrev pub in_code : FunctionCode → List Value → CoreConfiguration → CoreConfiguration
in_code function values from = at_code function.body (bind_parameters 0 values []) [] from

-- a tail call enters the body; where there is no such function the machine stays
abbrev pub tail_step : Option FunctionCode → List Value → CoreConfiguration → Action CoreConfiguration
tail_step None values from = goes from
tail_step (Some function) values from = goes (in_code function values from)

module _ (setting : CoreSetting) where
  -- A construction with fields stops with a full heap exactly where as many places are live as there are cells; else its
  -- value is a new place. The live places are those of its fields, of what comes then and of all that waits.
  abbrev pub construct_step : ℕ → List Value → List Value → (Value → CoreConfiguration) → CoreConfiguration → Action CoreConfiguration
  construct_step c fields held to from =
      build_step setting.cells (live from.store (fields ++ held)) (at_end heap_full from)
      (record (to (place (length from.store))) { store = from.store ++ record { made_by = c; fields = fields } ∷ [] })

  -- A call that is no tail call. It stops with a full stack exactly where as many call frames stand as the stack has: the
  -- running one, and those of the functions that wait. Else the running function waits, and the body is entered. Where
  -- there is no such function the machine stays.
  abbrev pub call_step : ℕ → Option FunctionCode → List Value → (List Value → CallFrame) → CoreConfiguration → Action CoreConfiguration
  call_step f None values waiting from = goes from
  call_step f (Some function) values waiting from =
      enter_step setting.depth (suc (length from.frames)) (at_end stack_full from)
      (in_code function values (record from { frames = waiting (lent_places (is_lent setting.positions f) 0 values) ∷ from.frames }))

  -- a form on values, whose value a variable takes, and the rest comes
  abbrev pub form_step : Form → List Value → ℕ → Code → Environment → List Join → CoreConfiguration → Action CoreConfiguration
  form_step form values x rest environment joins from =
      effect_step (λ v. bound_then x v rest environment joins from)
      (λ c fields. construct_step c fields (held_for x rest joins environment ++ held_by_frames from.frames) (λ v. bound_then x v rest environment joins from) from)
      (λ f arguments. call_step f (slice_get setting.code.functions f) arguments (λ lent. record { variable = x; rest = rest; joins = joins; environment = environment; lent = lent }) from)
      (form_effect setting.code.texts form values)

  -- the step at a code
  abbrev pub code_step : Code → Environment → List Join → CoreConfiguration → Action CoreConfiguration
  code_step (give x) environment joins from = give_step (value_of environment x) joins from.frames environment from
  code_step (tail_call f arguments) environment joins from =
      tail_step (slice_get setting.code.functions f) (map (value_of environment) arguments) from
  code_step (case x decisions arms) environment joins from =
      case_step (and_then (chosen (slice_get from.store) (value_of environment x) decisions) (arm_at arms)) environment joins from
  code_step (compute x form arguments rest) environment joins from =
      form_step form (map (value_of environment) arguments) x rest environment joins from
  code_step (use_of x rest) environment joins from = goes (at_code rest environment joins from)
  code_step (unpack x c fields rest) environment joins from =
      unpack_step (fields_opened from.store c (value_of environment x)) fields rest environment joins from
  code_step (inside x block rest) environment joins from =
      goes (at_code block environment (record { variable = x; rest = rest } ∷ joins) from)

  -- the step of a machine, by what it is at; at its end it stays
  abbrev pub core_step_at : CoreControl → CoreConfiguration → Action CoreConfiguration
  core_step_at (running code environment joins) c = code_step code environment joins c
  core_step_at (stopped by) c = goes c

  abbrev pub core_step_of : CoreConfiguration → Action CoreConfiguration
  core_step_of c = core_step_at c.control c

-- what a step tells, and the state after it
abbrev pub core_step : CoreSetting → CoreState → List Note × CoreState
core_step setting s = performed (core_step_of setting s.machine) s.input

-- how a state has ended, if it has
abbrev pub core_ending_of : CoreState → Option End
core_ending_of s = core_end_at s.machine.control

-- The core machine, which tells all: it steps until it is at its end. What a step weighs is a parameter: a number for each
-- state.
abbrev pub core_machine : (CoreState → ℕ) → CoreSetting → Machine CoreState Note End
core_machine weight setting = weighing weight core_ending_of (core_step setting)

-- the core machine as the world sees it
abbrev pub core_seen : (CoreState → ℕ) → CoreSetting → Machine CoreState Event End
core_seen weight setting = mapped events_of (λ end. end) (core_machine weight setting)
