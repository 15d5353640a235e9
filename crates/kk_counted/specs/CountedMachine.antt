-- The steps of the counted machine. It tells the same notes as the store machine and the core machine: each event, the counted
-- cells at each construction with fields, and the call frames at each call that is no tail call.
use Rattle.std.specs.Prelude.{ℕ, zero, suc, ◌==◌, ◌&&◌, Bool, not, List, [], ◌∷◌, map, length, Option, Some, None, if◌then◌else◌, slice_get}
use Rattle.kk_base.specs.Trace.{Event}
use Rattle.kk_base.specs.Machines.{Machine, weighing, mapped}
use Rattle.kk_syntax.specs.declared.program.Form.{Form}
use Rattle.kk_syntax.specs.Shapes.{is_among}
use Rattle.kk_source.specs.State.{Value, place, Cell, Environment, End, ended, heap_full, stack_full}
use Rattle.kk_source.specs.Live.{value_of}
use Rattle.kk_source.specs.Matching.{and_then}
use Rattle.kk_source.specs.Notes.{Note, events_of}
use Rattle.kk_source.specs.Actions.{Action, goes, build_step, enter_step, performed}
use Rattle.kk_source.specs.FormEffects.{form_effect, effect_step}
use Rattle.kk_source.specs.Step.{bind_parameters}
use Rattle.kk_core.specs.CoreMachine.{bind_fields}
use Rattle.kk_core.specs.Decisions.{chosen}
use Rattle.kk_counted.specs.CountedCodes.{Counted, give, tail_call, case, compute, inside, read, open_cell, if_unique, dup, drop, CountedArms, no_arm, arm, CountedFunction}
use Rattle.kk_counted.specs.Heaps.{Heap, count_at, cell_at, set_count, busy, dup_value, dup_all, drop_value, drop_all}
use Rattle.kk_counted.specs.CountedStates.{CountedSetting, CountedJoin, CountedFrame, CountedControl, running, stopped, stuck, CountedConfiguration, CountedState, counted_end_at}

-- ---- the machine at another place

abbrev pub at_counted : Counted → Environment → List CountedJoin → CountedConfiguration → CountedConfiguration
at_counted code environment joins c = record c { control = running code environment joins }

-- the machine at the rest of a code, a variable bound
abbrev pub bound_then : ℕ → Value → Counted → Environment → List CountedJoin → CountedConfiguration → CountedConfiguration
bound_then x v rest environment joins c = at_counted rest (record { variable = x; value = v } ∷ environment) joins c

abbrev pub at_end : End → CountedConfiguration → CountedConfiguration
at_end end c = record c { control = stopped end }

abbrev pub at_stuck : CountedConfiguration → CountedConfiguration
at_stuck c = record c { control = stuck }

-- the machine with another heap, or stuck where there is none
abbrev pub with_heap : Option Heap → CountedConfiguration → CountedConfiguration → CountedConfiguration
with_heap None from to = at_stuck from
with_heap (Some heap) from to = record to { heap = heap }

-- ---- the steps

-- the arm of a row
abbrev pub arm_at : CountedArms → ℕ → Option Counted
arm_at no_arm row = None
arm_at (arm body rest) zero = Some body
arm_at (arm body rest) (suc row) = arm_at rest row

-- at the arm that is taken; it is stuck where no row is chosen, as where a cell that is tested is not counted
abbrev pub case_step : Option Counted → Environment → List CountedJoin → CountedConfiguration → Action CountedConfiguration
case_step None environment joins from = goes (at_stuck from)
case_step (Some body) environment joins from = goes (at_counted body environment joins from)

-- At the end of a block inside its variable takes the value. At the end of a function's body the function that waits
-- takes it, or the run ends with that of the first one.
abbrev pub give_step : Value → List CountedJoin → List CountedFrame → Environment → CountedConfiguration
    → Action CountedConfiguration
give_step v (join ∷ joins) frames environment from = goes (bound_then join.variable v join.rest environment joins from)
give_step v [] (frame ∷ older) environment from =
    goes (bound_then frame.variable v frame.rest frame.environment frame.joins (record from { frames = older }))
give_step v [] [] environment from = goes (at_end ended from)

-- the machine in a function's body, its parameters bound
abbrev pub in_code : CountedFunction → List Value → CountedConfiguration → CountedConfiguration
in_code function values from = at_counted function.body (bind_parameters 0 values []) [] from

-- a tail call enters the body; where there is no such function the machine is stuck
abbrev pub tail_step : Option CountedFunction → List Value → CountedConfiguration → Action CountedConfiguration
tail_step None values from = goes (at_stuck from)
tail_step (Some function) values from = goes (in_code function values from)

-- ---- the cell that a variable names

-- the fields of a cell of that constructor with as many fields
abbrev pub if_made_by : ℕ → ℕ → Cell → Option (List Value)
if_made_by c count cell = if (cell.made_by == c) && (length cell.fields == count) then Some cell.fields else None

-- the place of a value, if it has one
abbrev pub place_of : Value → Option ℕ
place_of (place at) = Some at
place_of _ = None

-- the place and the fields of a counted cell that a value names, of a constructor and a number of fields
pub record Named : Type 0 where
  pub at : ℕ
  pub fields : List Value

abbrev pub cell_named : ℕ → ℕ → Heap → Value → Option Named
cell_named c count heap v =
    and_then (place_of v) (λ at.
    and_then (cell_at heap at) (λ cell.
    and_then (if_made_by c count cell) (λ fields. Some (record { at = at; fields = fields }))))

-- the values of the fields whose variables are used, or of the others
abbrev pub values_where : (ℕ → Bool) → List ℕ → List Value → List Value
values_where takes [] vs = []
values_where takes (x ∷ xs) [] = []
values_where takes (x ∷ xs) (v ∷ vs) = if takes x then v ∷ values_where takes xs vs else values_where takes xs vs

abbrev pub used_values : List ℕ → List ℕ → List Value → List Value
used_values used fields vs = values_where (is_among used) fields vs

abbrev pub other_values : List ℕ → List ℕ → List Value → List Value
other_values used fields vs = values_where (λ x. not (is_among used x)) fields vs

-- an opening: the used fields get a reference more, and the cell's is given up
abbrev pub opened_heap : ℕ → List Value → Heap → Option Heap
opened_heap at used heap = and_then (dup_all used heap) (drop_value (place at))

-- an opening by the count of the cell: its only reference gives the used fields away and drops the others; one of several is
-- lowered, and the used fields get a reference more
abbrev pub unique_heap : ℕ → ℕ → List Value → List Value → Heap → Option Heap
unique_heap zero at used others heap = None
unique_heap (suc zero) at used others heap = drop_all others (set_count at 0 heap)
unique_heap (suc (suc count)) at used others heap = dup_all used (set_count at (suc count) heap)

-- the fields bound, where there is such a cell, and the heap changed as the form says
abbrev pub open_step : Option Named → (Named → Option Heap) → List ℕ → Counted → Environment → List CountedJoin
    → CountedConfiguration → Action CountedConfiguration
open_step None heap fields rest environment joins from = goes (at_stuck from)
open_step (Some named) heap fields rest environment joins from =
    goes (with_heap (heap named) from (at_counted rest (bind_fields fields named.fields environment) joins from))

module _ (setting : CountedSetting) where
  -- A construction with fields stops with a full heap exactly where as many cells are counted as there are cells; else its
  -- value is a new cell, with one reference.
  abbrev pub construct_step : ℕ → List Value → (Value → CountedConfiguration) → CountedConfiguration → Action CountedConfiguration
  construct_step c fields to from =
      build_step setting.cells (busy from.heap) (at_end heap_full from)
      (record (to (place (length from.heap))) {
        heap = record { count = 1; cell = record { made_by = c; fields = fields } } ∷ from.heap;
      })

  -- A call that is no tail call stops with a full stack exactly where as many call frames stand as the stack has. Else the
  -- running function waits, and the body is entered. Where there is no such function the machine is stuck.
  abbrev pub call_step : Option CountedFunction → List Value → CountedFrame → CountedConfiguration → Action CountedConfiguration
  call_step None values waiting from = goes (at_stuck from)
  call_step (Some function) values waiting from =
      enter_step setting.depth (suc (length from.frames)) (at_end stack_full from)
      (in_code function values (record from { frames = waiting ∷ from.frames }))

  -- a form on values, whose value a variable takes, and the rest comes
  abbrev pub form_step : Form → List Value → ℕ → Counted → Environment → List CountedJoin → CountedConfiguration
      → Action CountedConfiguration
  form_step form values x rest environment joins from =
      effect_step (λ v. bound_then x v rest environment joins from)
      (λ c fields. construct_step c fields (λ v. bound_then x v rest environment joins from) from)
      (λ f arguments.
      call_step (slice_get setting.program.functions f) arguments
      (record { variable = x; rest = rest; joins = joins; environment = environment }) from)
      (form_effect setting.program.texts form values)

  -- the step at a code
  abbrev pub counted_code_step : Counted → Environment → List CountedJoin → CountedConfiguration → Action CountedConfiguration
  counted_code_step (give x) environment joins from = give_step (value_of environment x) joins from.frames environment from
  counted_code_step (tail_call f arguments) environment joins from =
      tail_step (slice_get setting.program.functions f) (map (value_of environment) arguments) from
  counted_code_step (case x decisions arms) environment joins from =
      case_step (and_then (chosen (cell_at from.heap) (value_of environment x) decisions) (arm_at arms)) environment joins from
  counted_code_step (compute x form arguments rest) environment joins from =
      form_step form (map (value_of environment) arguments) x rest environment joins from
  counted_code_step (inside x block rest) environment joins from =
      goes (at_counted block environment (record { variable = x; rest = rest } ∷ joins) from)
  counted_code_step (read x c fields rest) environment joins from =
      open_step (cell_named c (length fields) from.heap (value_of environment x))
      (λ named. Some from.heap) fields rest environment joins from
  counted_code_step (open_cell x c fields used rest) environment joins from =
      open_step (cell_named c (length fields) from.heap (value_of environment x))
      (λ named. opened_heap named.at (used_values used fields named.fields) from.heap) fields rest environment joins from
  counted_code_step (if_unique x c fields used rest) environment joins from =
      open_step (cell_named c (length fields) from.heap (value_of environment x))
      (λ named.
      unique_heap (count_at from.heap named.at) named.at (used_values used fields named.fields)
      (other_values used fields named.fields) from.heap)
      fields rest environment joins from
  counted_code_step (dup x rest) environment joins from =
      goes (with_heap (dup_value (value_of environment x) from.heap) from (at_counted rest environment joins from))
  counted_code_step (drop x rest) environment joins from =
      goes (with_heap (drop_value (value_of environment x) from.heap) from (at_counted rest environment joins from))

  -- the step of a machine, by what it is at; at its end, and where it is stuck, it stays
  abbrev pub counted_step_at : CountedControl → CountedConfiguration → Action CountedConfiguration
  counted_step_at (running code environment joins) c = counted_code_step code environment joins c
  counted_step_at (stopped by) c = goes c
  counted_step_at stuck c = goes c

  abbrev pub counted_step_of : CountedConfiguration → Action CountedConfiguration
  counted_step_of c = counted_step_at c.control c

-- what a step tells, and the state after it
abbrev pub counted_step : CountedSetting → CountedState → List Note × CountedState
counted_step setting s = performed (counted_step_of setting s.machine) s.input

-- how a state has ended, if it has
abbrev pub counted_ending_of : CountedState → Option End
counted_ending_of s = counted_end_at s.machine.control

-- The counted machine, which tells all: it steps until it is at its end. What a step weighs is a parameter: a number for each
-- state.
abbrev pub counted_machine : (CountedState → ℕ) → CountedSetting → Machine CountedState Note End
counted_machine weight setting = weighing weight counted_ending_of (counted_step setting)

-- the counted machine as the world sees it
abbrev pub counted_seen : (CountedState → ℕ) → CountedSetting → Machine CountedState Event End
counted_seen weight setting = mapped events_of (λ end. end) (counted_machine weight setting)

-- the machine is not stuck
abbrev pub NotStuck : CountedControl → Type 0
NotStuck stuck = ⊥
NotStuck _ = Unit {0}
