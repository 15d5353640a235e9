-- The steps of the machine with tokens. It does what the counted machine does, and beside that takes, keeps and spends tokens.
use Rattle.std.specs.Prelude.{ℕ, zero, suc, Bool, List, [], ◌∷◌, map, length, Option, Some, None, if◌then◌else◌, slice_get}
use Rattle.kk_base.specs.Machines.{Machine, weighing}
use Rattle.kk_syntax.specs.declared.program.Form.{Form}
use Rattle.kk_syntax.specs.Shapes.{is_among}
use Rattle.kk_source.specs.State.{Value, place, Environment, End, ended, heap_full, stack_full}
use Rattle.kk_source.specs.Live.{value_of}
use Rattle.kk_source.specs.Matching.{and_then}
use Rattle.kk_source.specs.Notes.{Note}
use Rattle.kk_source.specs.Actions.{Action, goes, builds, enter_step, performed}
use Rattle.kk_source.specs.FormEffects.{form_effect, effect_step}
use Rattle.kk_source.specs.Step.{bind_parameters}
use Rattle.kk_core.specs.CoreMachine.{bind_fields}
use Rattle.kk_core.specs.Decisions.{chosen}
use Rattle.kk_counted.specs.Heaps.{Heap, count_at, cell_at, fields_held, busy, dup_value, drop_value}
use Rattle.kk_counted.specs.CountedMachine.{Named, cell_named, used_values, other_values, opened_heap, unique_heap}
use Rattle.kk_counted.specs.TokenedCodes.{Tokened, TokenedArms, TokenedFunction}
use Rattle.kk_counted.specs.Tokens.{spent, null, is_token, Tokens, blanked, released, opened_tokens, by_token, freed, moved, held, unheld, Room, has_room, no_room, no_token, request}
use Rattle.kk_counted.specs.TokenStates.{TokenSetting, TokenJoin, TokenFrame, TokenControl, TokenConfiguration, TokenState, token_end_at}

-- ---- the machine at another place

abbrev pub at_code : Tokened → Environment → List TokenJoin → TokenConfiguration → TokenConfiguration
at_code code environment joins c = record c { control = TokenControl.running code environment joins }

-- the machine at the rest of a code, a variable bound
abbrev pub bound_to : ℕ → Value → Tokened → Environment → List TokenJoin → TokenConfiguration → TokenConfiguration
bound_to x v rest environment joins c = at_code rest (record { variable = x; value = v } ∷ environment) joins c

abbrev pub token_at_end : End → TokenConfiguration → TokenConfiguration
token_at_end end c = record c { control = TokenControl.stopped end }

abbrev pub token_at_stuck : TokenConfiguration → TokenConfiguration
token_at_stuck c = record c { control = TokenControl.stuck }

-- the machine with another heap, or with other tokens, or stuck where there are none
abbrev pub to_heap : Option Heap → TokenConfiguration → TokenConfiguration → TokenConfiguration
to_heap None from to = token_at_stuck from
to_heap (Some heap) from to = record to { heap = heap }

abbrev pub to_tokens : Option Tokens → TokenConfiguration → TokenConfiguration → TokenConfiguration
to_tokens None from to = token_at_stuck from
to_tokens (Some tokens) from to = record to { tokens = tokens }

-- the number of the running function's frame
abbrev pub frame_of : TokenConfiguration → ℕ
frame_of c = length c.frames

-- ---- the steps

-- the arm of a row
abbrev pub tokened_arm_at : TokenedArms → ℕ → Option Tokened
tokened_arm_at TokenedArms.no_arm row = None
tokened_arm_at (TokenedArms.arm body rest) zero = Some body
tokened_arm_at (TokenedArms.arm body rest) (suc row) = tokened_arm_at rest row

abbrev pub token_case_step : Option Tokened → Environment → List TokenJoin → TokenConfiguration → Action TokenConfiguration
token_case_step None environment joins from = goes (token_at_stuck from)
token_case_step (Some body) environment joins from = goes (at_code body environment joins from)

abbrev pub token_give_step : Value → List TokenJoin → List TokenFrame → Environment → TokenConfiguration → Action TokenConfiguration
token_give_step v (join ∷ joins) frames environment from = goes (bound_to join.variable v join.rest environment joins from)
token_give_step v [] (frame ∷ older) environment from =
    goes (bound_to frame.variable v frame.rest frame.environment frame.joins (record from { frames = older }))
token_give_step v [] [] environment from = goes (token_at_end ended from)

-- the machine in a function's body, its parameters bound
abbrev pub in_body : TokenedFunction → List Value → TokenConfiguration → TokenConfiguration
in_body function values from = at_code function.body (bind_parameters 0 values []) [] from

abbrev pub token_tail_step : Option TokenedFunction → List Value → TokenConfiguration → Action TokenConfiguration
token_tail_step None values from = goes (token_at_stuck from)
token_tail_step (Some function) values from = goes (in_body function values from)

abbrev pub token_read_step : Option Named → List ℕ → Tokened → Environment → List TokenJoin → TokenConfiguration
    → Action TokenConfiguration
token_read_step None fields rest environment joins from = goes (token_at_stuck from)
token_read_step (Some named) fields rest environment joins from =
    goes (at_code rest (bind_fields fields named.fields environment) joins from)

-- where an opening has changed the heap, the slot takes the cell that is free then, or is null
abbrev pub to_opened : Option Heap → ℕ → ℕ → TokenConfiguration → TokenConfiguration → TokenConfiguration
to_opened None at y from to = token_at_stuck from
to_opened (Some heap) at y from to =
    record to { heap = heap; tokens = opened_tokens (count_at heap at) (frame_of from) y at from.tokens }

abbrev pub token_open_step : Option Named → (Named → Option Heap) → List ℕ → ℕ → Tokened → Environment → List TokenJoin
    → TokenConfiguration → Action TokenConfiguration
token_open_step None heap fields y rest environment joins from = goes (token_at_stuck from)
token_open_step (Some named) heap fields y rest environment joins from =
    goes (to_opened (heap named) named.at y from (at_code rest (bind_fields fields named.fields environment) joins from))

-- A construction with fields, by the tokens that are left when it has got its cell: its value is that cell, with one reference.
-- Where it has got none, it stops with a full heap; and it is stuck where the chain is wrong.
abbrev pub to_made : Room → ℕ → List Value → (Value → TokenConfiguration) → TokenConfiguration → TokenConfiguration
to_made no_room c fields to from = token_at_end heap_full from
to_made no_token c fields to from = token_at_stuck from
to_made (has_room tokens) c fields to from =
    record (to (place (length from.heap))) {
      heap = record { count = 1; cell = record { made_by = c; fields = fields } } ∷ from.heap;
      tokens = tokens;
    }

abbrev pub make_step : Room → ℕ → List Value → (Value → TokenConfiguration) → TokenConfiguration
    → Action TokenConfiguration
make_step tokens c fields to from = builds (busy from.heap) (to_made tokens c fields to from)

-- the fields of a new cell in a token's cell: those at the kept positions, counted from a first one on, are as the token has them
abbrev pub left_in : ℕ → List ℕ → List Value → List Value → List Value
left_in next kept (old ∷ olds) (new ∷ news) = (if is_among kept next then old else new) ∷ left_in (suc next) kept olds news
left_in next kept _ news = news

abbrev pub filled : Bool → List ℕ → List Value → List Value → List Value
filled leaves kept olds news = if leaves then left_in 0 kept olds news else news

module _ (setting : TokenSetting) where
  abbrev pub token_construct_step : ℕ → List Value → List ℕ → (Value → TokenConfiguration) → TokenConfiguration
      → Action TokenConfiguration
  token_construct_step c fields others to from =
      make_step (request setting.cells others (frame_of from) from.heap from.tokens) c fields to from

  -- The slot is spent. Its token's cell is the new cell; where it is null, a cell is asked for.
  abbrev pub fill_step : ℕ → ℕ → List Value → List ℕ → List ℕ → (Value → TokenConfiguration) → TokenConfiguration
      → Action TokenConfiguration
  fill_step y c fields kept others to from =
      by_token (goes (token_at_stuck from))
      (make_step (request setting.cells others (frame_of from) from.heap (blanked (frame_of from) y spent from.tokens)) c fields to
      from)
      (λ p.
      make_step (has_room (released (frame_of from) y p spent from.tokens)) c
      (filled setting.leaves kept (fields_held from.heap p) fields)
      to from)
      (frame_of from) y from.tokens

  abbrev pub token_call_step : Option TokenedFunction → List Value → TokenFrame → TokenConfiguration → Action TokenConfiguration
  token_call_step None values waiting from = goes (token_at_stuck from)
  token_call_step (Some function) values waiting from =
      enter_step setting.depth (suc (length from.frames)) (token_at_end stack_full from)
      (in_body function values (record from { frames = waiting ∷ from.frames }))

  abbrev pub token_form_step : Form → List Value → ℕ → List ℕ → Tokened → Environment → List TokenJoin → TokenConfiguration
      → Action TokenConfiguration
  token_form_step form values x others rest environment joins from =
      effect_step (λ v. bound_to x v rest environment joins from)
      (λ c fields. token_construct_step c fields others (λ v. bound_to x v rest environment joins from) from)
      (λ f arguments.
      token_call_step (slice_get setting.program.functions f) arguments
      (record { variable = x; rest = rest; joins = joins; environment = environment }) from)
      (form_effect setting.program.texts form values)

  -- the step at a code
  abbrev pub token_code_step : Tokened → Environment → List TokenJoin → TokenConfiguration → Action TokenConfiguration
  token_code_step (Tokened.give x) environment joins from =
      token_give_step (value_of environment x) joins from.frames environment from
  token_code_step (Tokened.tail_call f arguments) environment joins from =
      token_tail_step (slice_get setting.program.functions f) (map (value_of environment) arguments) from
  token_code_step (Tokened.case x decisions arms) environment joins from =
      token_case_step (and_then (chosen (cell_at from.heap) (value_of environment x) decisions) (tokened_arm_at arms))
      environment joins from
  token_code_step (Tokened.compute x form arguments others rest) environment joins from =
      token_form_step form (map (value_of environment) arguments) x others rest environment joins from
  token_code_step (Tokened.inside x block rest) environment joins from =
      goes (at_code block environment (record { variable = x; rest = rest } ∷ joins) from)
  token_code_step (Tokened.read x c fields rest) environment joins from =
      token_read_step (cell_named c (length fields) from.heap (value_of environment x)) fields rest environment joins from
  token_code_step (Tokened.open_cell x c fields used y rest) environment joins from =
      token_open_step (cell_named c (length fields) from.heap (value_of environment x))
      (λ named. opened_heap named.at (used_values used fields named.fields) from.heap) fields y rest environment joins from
  token_code_step (Tokened.if_unique x c fields used y rest) environment joins from =
      token_open_step (cell_named c (length fields) from.heap (value_of environment x))
      (λ named.
      unique_heap (count_at from.heap named.at) named.at (used_values used fields named.fields)
      (other_values used fields named.fields) from.heap)
      fields y rest environment joins from
  token_code_step (Tokened.dup x rest) environment joins from =
      goes (to_heap (dup_value (value_of environment x) from.heap) from (at_code rest environment joins from))
  token_code_step (Tokened.drop x rest) environment joins from =
      goes (to_heap (drop_value (value_of environment x) from.heap) from (at_code rest environment joins from))
  token_code_step (Tokened.fill x y c first arguments kept others rest) environment joins from =
      fill_step y c (map (value_of environment) (first ∷ arguments)) kept others
      (λ v. bound_to x v rest environment joins from) from
  token_code_step (Tokened.free y rest) environment joins from =
      goes (to_tokens (freed (frame_of from) y from.tokens) from (at_code rest environment joins from))
  token_code_step (Tokened.null y rest) environment joins from =
      goes (to_tokens (Some (blanked (frame_of from) y null from.tokens)) from (at_code rest environment joins from))
  token_code_step (Tokened.move to of rest) environment joins from =
      goes (to_tokens (moved (frame_of from) to of from.tokens) from (at_code rest environment joins from))
  token_code_step (Tokened.hold y rest) environment joins from =
      goes (to_tokens (held (frame_of from) y from.tokens) from (at_code rest environment joins from))
  token_code_step (Tokened.unhold y rest) environment joins from =
      goes (to_tokens (unheld (frame_of from) y from.tokens) from (at_code rest environment joins from))
  token_code_step (Tokened.if_token y there absent) environment joins from =
      goes (at_code (if is_token (from.tokens.slots (frame_of from) y) then there else absent) environment joins from)

  -- the step of a machine, by what it is at; at its end, and where it is stuck, it stays
  abbrev pub token_step_at : TokenControl → TokenConfiguration → Action TokenConfiguration
  token_step_at (TokenControl.running code environment joins) c = token_code_step code environment joins c
  token_step_at (TokenControl.stopped by) c = goes c
  token_step_at TokenControl.stuck c = goes c

  abbrev pub token_step_of : TokenConfiguration → Action TokenConfiguration
  token_step_of c = token_step_at c.control c

-- what a step tells, and the state after it
abbrev pub token_step : TokenSetting → TokenState → List Note × TokenState
token_step setting s = performed (token_step_of setting s.machine) s.input

abbrev pub token_ending_of : TokenState → Option End
token_ending_of s = token_end_at s.machine.control

-- The machine with tokens, which tells all: it steps until it is at its end. What a step weighs is a parameter.
abbrev pub token_machine : (TokenState → ℕ) → TokenSetting → Machine TokenState Note End
token_machine weight setting = weighing weight token_ending_of (token_step setting)

-- the machine is not stuck
abbrev pub TokenNotStuck : TokenControl → Type 0
TokenNotStuck TokenControl.stuck = ⊥
TokenNotStuck _ = Unit {0}
