-- The steps of the store machine. Evaluation is strict, and goes from left to right.
use Rattle.std.specs.Prelude.{ℕ, suc, Bool, List, [], ◌∷◌, ◌++◌, Option, Some, None, if◌then◌else◌, slice_get, length}
use Rattle.kk_syntax.specs.declared.program.Form.{Form}
use Rattle.kk_syntax.specs.Trees.{Tree, variable, apply, branch, match, sequence, no_tree, tree}
use Rattle.kk_syntax.specs.Programs.{FunctionTree}
use Rattle.kk_syntax.specs.Shapes.{variable_of}
use Rattle.kk_syntax.specs.PositionsOf.{is_lent}
use Rattle.kk_source.specs.State.{Setting, Value, place, Environment, Frame, arguments, branches, rows, statement, call, End, ended, heap_full, stack_full, Control, expression, value, stopped, Configuration}
use Rattle.kk_source.specs.Live.{value_of, held_by_all, live}
use Rattle.kk_source.specs.Matching.{Chosen, first_match}
use Rattle.kk_source.specs.Actions.{Action, goes, build_step, enter_step}
use Rattle.kk_source.specs.FormEffects.{is_true, form_effect, effect_step}

abbrev pub at_expression : Tree → Environment → Configuration → Configuration
at_expression e environment c = record c { control = expression e environment }

abbrev pub at_value : Value → Configuration → Configuration
at_value v c = record c { control = value v }

abbrev pub at_end : End → Configuration → Configuration
at_end end c = record c { control = stopped end }

-- a compound form goes to its first part, and leaves a frame that waits for it
abbrev pub part_step : Tree → Environment → Frame → Configuration → Action Configuration
part_step first environment frame c =
    goes (at_expression first environment (record c { frames = frame ∷ c.frames }))

-- a variable bound to a value, if there is one
abbrev pub bind : Option ℕ → Value → Environment → Environment
bind None v environment = environment
bind (Some x) v environment = record { variable = x; value = v } ∷ environment

-- parameters, from the one of that number on, bound to values
abbrev pub bind_parameters : ℕ → List Value → Environment → Environment
bind_parameters next [] environment = environment
bind_parameters next (v ∷ vs) environment =
    bind_parameters (suc next) vs (record { variable = next; value = v } ∷ environment)

-- the number of call frames
abbrev pub call_frames : List Frame → ℕ
call_frames [] = 0
call_frames (call lent ∷ older) = suc (call_frames older)
call_frames (frame ∷ older) = call_frames older

-- the places among arguments that are given at lent positions, from the position of that number on
abbrev pub lent_places : (ℕ → Bool) → ℕ → List Value → List Value
lent_places lent next [] = []
lent_places lent next (place at ∷ vs) =
    if lent next then place at ∷ lent_places lent (suc next) vs else lent_places lent (suc next) vs
lent_places lent next (v ∷ vs) = lent_places lent (suc next) vs

-- the store with one more cell, whose place is the value
abbrev pub at_new_place : ℕ → List Value → Configuration → Configuration
at_new_place c values to =
    record to { control = value (place (length to.store)); store = to.store ++ record { made_by = c; fields = values } ∷ [] }

-- the machine in a function's body, its parameters bound
abbrev pub in_body : FunctionTree → List Value → Configuration → Configuration
in_body function values c = at_expression function.body (bind_parameters 0 values []) c

-- In what follows `from` is the machine before the step, and `older` are its frames without that of the form, if the form
-- has one.
module _ (setting : Setting) where
  -- A construction with fields, its arguments computed: it stops with a full heap exactly where as many places are live as
  -- there are cells; else its value is a new place.
  abbrev pub construct_step : ℕ → List Value → List Frame → Configuration → Action Configuration
  construct_step c fields older from =
      build_step setting.cells (live from.store (fields ++ held_by_all older)) (at_end heap_full from)
      (at_new_place c fields (record from { frames = older }))

  -- A call that is no tail call, its arguments computed. It stops with a full stack exactly where as many call frames
  -- stand as the stack has; else it pushes one, which keeps the values that are lent, and enters the body.
  abbrev pub push_step : ℕ → FunctionTree → List Value → List Frame → Configuration → Action Configuration
  push_step f function values older from =
      enter_step setting.depth (call_frames older) (at_end stack_full from)
      (in_body function values (record from { frames = call (lent_places (is_lent setting.positions f) 0 values) ∷ older }))

  -- A call of a function, its arguments computed. With a call frame directly beneath it is a tail call: it enters the
  -- body and pushes nothing, and that frame keeps its lent values. Where there is no such function, as in no resolved
  -- program, the machine stays.
  abbrev pub call_step : ℕ → Option FunctionTree → List Value → List Frame → Configuration → Action Configuration
  call_step f None values older from = goes from
  call_step f (Some function) values (call lent ∷ older) from =
      goes (in_body function values (record from { frames = call lent ∷ older }))
  call_step f (Some function) values older from = push_step f function values older from

  -- a form, its arguments computed
  abbrev pub form_step : Form → List Value → List Frame → Configuration → Action Configuration
  form_step form values older from =
      effect_step (λ v. at_value v (record from { frames = older })) (λ c fields. construct_step c fields older from)
      (λ f arguments. call_step f (slice_get setting.program.functions f) arguments older from)
      (form_effect setting.program.texts form values)

  -- the step at an expression; a form without arguments acts at once
  abbrev pub expression_step : Tree → Environment → Configuration → Action Configuration
  expression_step (variable x) environment c = goes (at_value (value_of environment x) c)
  expression_step (apply form no_tree) environment c = form_step form [] c.frames c
  expression_step (apply form (tree first rest)) environment c =
      part_step first environment (arguments form [] rest environment) c
  expression_step (branch condition positive negative) environment c =
      part_step condition environment (branches positive negative environment) c
  expression_step (match scrutinee of) environment c = part_step scrutinee environment (rows of environment) c
  expression_step (sequence binder first rest) environment c =
      part_step first environment (statement (variable_of binder) rest environment) c

  -- The step at a match's scrutinee: the first row that matches. Where none does, as at no match that is covered, the
  -- machine stays.
  abbrev pub choice_step : Option Chosen → List Frame → Configuration → Action Configuration
  choice_step None older from = goes from
  choice_step (Some chosen) older from = goes (at_expression chosen.body chosen.environment (record from { frames = older }))

  -- The step at a value, by the newest frame and the older ones. A value is kept, and the next argument comes; or a form
  -- has all its arguments; or a branch, a row, or what is left of a block comes; or a call has its value, and the run ends
  -- with the last.
  abbrev pub value_step : Value → List Frame → Configuration → Action Configuration
  value_step v (arguments form values (tree next left) environment ∷ older) c =
      goes (at_expression next environment (record c { frames = arguments form (values ++ v ∷ []) left environment ∷ older }))
  value_step v (arguments form values no_tree environment ∷ older) c = form_step form (values ++ v ∷ []) older c
  value_step v (branches positive negative environment ∷ older) c =
      goes (at_expression (if is_true v then positive else negative) environment (record c { frames = older }))
  value_step v (rows of environment ∷ older) c = choice_step (first_match c.store of v environment) older c
  value_step v (statement awaited rest environment ∷ older) c =
      goes (at_expression rest (bind awaited v environment) (record c { frames = older }))
  value_step v (call lent ∷ next ∷ older) c = goes (at_value v (record c { frames = next ∷ older }))
  value_step v (call lent ∷ []) c = goes (record c { control = stopped ended; frames = [] })
  value_step v [] c = goes (at_end ended c)

  -- the step of a machine, by what it is at; at its end it stays
  abbrev pub step_at : Control → Configuration → Action Configuration
  step_at (expression e environment) c = expression_step e environment c
  step_at (value v) c = value_step v c.frames c
  step_at (stopped by) c = goes c

  abbrev pub step_of : Configuration → Action Configuration
  step_of c = step_at c.control c
