-- Runs of a program's instances and of the program, side by side: at each step the program is at the image of what the
-- instances are at, where calls, constructors and values are by the numbers of the program.
use Rattle.std.proofs.Common.{◌≡◌, ℕ, zero, suc, Bool, true, false, List, [], ◌∷◌, ◌++◌, Option, Some, None, length, map, option_map, refl, sym, ap, ◌∙◌}
use Rattle.std.specs.Prelude.{ℤ, not, nat_le, if◌then◌else◌, slice_get, slice_index_or}
use Rattle.std.specs.Fmt.{signed_decimal}
use Rattle.std.proofs.lemmas.List.{map-append, length-map}
use mathlib.Core.Path.{fun_ext}
use Rattle.kk_base.specs.Machines.{step_unless, trace, state}
use Rattle.kk_base.proofs.Machines.{trace_ended, state_ended}
use Rattle.kk_syntax.specs.declared.operator.UnaryOperator.TheVariants.{Negate, Not}
use Rattle.kk_syntax.specs.declared.operator.BinaryOperator.{BinaryOperator}
use Rattle.kk_syntax.specs.declared.operator.BinaryOperator.TheVariants.{Add, Subtract, Multiply, Divide, Remainder, Equal, NotEqual, Less, LessEqual, Greater, GreaterEqual}
use Rattle.kk_syntax.specs.declared.program.Form.{Form}
use Rattle.kk_syntax.specs.declared.program.Form.TheVariants.{Number, Unit as Nothing, ReadByte, PrintText, Unary, Binary, Print, Construct, Call}
use Rattle.kk_syntax.specs.declared.positions.Ownership.{Ownership}
use Rattle.kk_syntax.specs.declared.positions.Ownership.TheVariants.{Owned}
use Rattle.kk_syntax.specs.GroundTyping.{table_of, IsGroundTyped}
use Rattle.kk_syntax.specs.PositionsOf.{PositionTable, lends}
use Rattle.kk_syntax.specs.Trees.{Tree, variable, apply, no_tree, tree}
use Rattle.kk_syntax.specs.Programs.{FunctionTree, ProgramTree}
use Rattle.kk_syntax.specs.Types.{TypeTree}
use Rattle.kk_source.specs.State.{Setting, Value, integer, unit, constant, place, Cell, Store, Environment, Frame, arguments, branches, rows, statement, call, End, heap_full, stack_full, Control, expression, value, stopped, end_at, Configuration}
use Rattle.kk_source.specs.Notes.{Note}
use Rattle.kk_source.specs.Live.{value_of, held, held_by_all, live}
use Rattle.kk_source.specs.Matching.{Chosen, first_match}
use Rattle.kk_source.specs.Arithmetic.{negation_of}
use Rattle.kk_source.specs.Actions.{Action, goes, puts, takes, builds, calls as counts_calls, print_step, build_step, enter_step, performed}
use Rattle.kk_source.specs.FormEffects.{truth, is_true, integer_of, number_result, argument, piece_of, byte_value, FormEffect, gives, prints, reads, makes, enters, form_effect, effect_step}
use Rattle.kk_source.specs.NeverStuck.{CallFits, FormFits, ExpressionFits, ValueFits, ControlFits}
use Rattle.kk_source.specs.Step.{at_expression, at_value, at_end, at_new_place, lent_places, bind_parameters, call_frames, construct_step, push_step, call_step, form_step, expression_step, choice_step, value_step, step_at, step_of}
use Rattle.kk_source.specs.ValueTypes.{IsOf}
use Rattle.kk_source.specs.SourceAfter.{step, ending_of, store_machine, State}
use Rattle.kk_source.proofs.Bindings.{rows_of_type}
use Rattle.kk_source.proofs.RunInvariants.{performed_keeps}
use Rattle.kk_source.proofs.TypeSafety.{IsStateTyped, ControlTyped, FramesWait, state_fits, step_safe}
use Rattle.kk_instances.specs.Meaning.{setting_of}
use Rattle.kk_instances.proofs.Choices.{AreApart, choice_image, chosen_image}
use Rattle.kk_mono.specs.Instances.{Renaming, renamed, renamed_all, renamed_rows, renamed_form}
use Rattle.kk_instances.proofs.Images.{image, images, cell_image, store_image, environment_image, image_of_variable, image_of_variables, image_of_bound, image_of_parameters, image_of_argument, image_of_lent, live_image}
use Rattle.kk_instances.proofs.NumberRenaming.{same_free, same_free_all, same_free_rows}

-- ---- images of states

module _ (new : Renaming) where
  abbrev pub frame_image : Frame → Frame
  frame_image (arguments form values left env) =
      arguments (renamed_form new form) (images new values) (renamed_all new left) (environment_image new env)
  frame_image (branches positive negative env) =
      branches (renamed new positive) (renamed new negative) (environment_image new env)
  frame_image (rows of env) = rows (renamed_rows new of) (environment_image new env)
  frame_image (statement awaited rest env) = statement awaited (renamed new rest) (environment_image new env)
  frame_image (call lent) = call (images new lent)

  abbrev pub frames_image : List Frame → List Frame
  frames_image frames = map frame_image frames

  abbrev pub control_image : Control → Control
  control_image (expression e env) = expression (renamed new e) (environment_image new env)
  control_image (value v) = value (image new v)
  control_image (stopped by) = stopped by

  abbrev pub machine_image : Configuration → Configuration
  machine_image c =
      record { control = control_image c.control; frames = frames_image c.frames; store = store_image new c.store }

  abbrev pub state_image : State → State
  state_image s = record { machine = machine_image s.machine; input = s.input }

  abbrev pub action_image : Action Configuration → Action Configuration
  action_image (goes to) = goes (machine_image to)
  action_image (puts piece to) = puts piece (machine_image to)
  action_image (takes to) = takes (λ byte. machine_image (to byte))
  action_image (builds found to) = builds found (machine_image to)
  action_image (counts_calls found to) = counts_calls found (machine_image to)

  abbrev pub effect_image : FormEffect → FormEffect
  effect_image (gives v) = gives (image new v)
  effect_image (prints piece) = prints piece
  effect_image reads = reads
  effect_image (makes c fields) = makes (new.constructors c) (images new fields)
  effect_image (enters f values) = enters (new.functions f) (images new values)

  -- what is held has images, and as many calls wait
  held_image : (frame : Frame) → held (frame_image frame) ≡ images new (held frame)
  held_image (arguments form values left env) =
      ap (λ xs. images new values ++ map (value_of (environment_image new env)) xs) (same_free_all new left)
      ∙ (ap (λ vs. images new values ++ vs) (image_of_variables new env _) ∙ sym (map-append (image new) values _))
  held_image (branches positive negative env) =
      ap (λ xs. map (value_of (environment_image new env)) xs) (rw (same_free new positive, same_free new negative) refl)
      ∙ image_of_variables new env _
  held_image (rows of env) =
      ap (λ xs. map (value_of (environment_image new env)) xs) (same_free_rows new of) ∙ image_of_variables new env _
  held_image (statement awaited rest env) =
      ap (λ xs. map (value_of (environment_image new env)) xs) (rw (same_free new rest) refl) ∙ image_of_variables new env _
  held_image (call lent) = refl

  held_by_all_image : (frames : List Frame) → held_by_all (frames_image frames) ≡ images new (held_by_all frames)
  held_by_all_image [] = refl
  held_by_all_image (frame ∷ older) =
      ap (λ vs. vs ++ held_by_all (frames_image older)) (held_image frame)
      ∙ (ap (λ vs. images new (held frame) ++ vs) (held_by_all_image older)
      ∙ sym (map-append (image new) (held frame) (held_by_all older)))

  same_call_frames : (frames : List Frame) → call_frames (frames_image frames) ≡ call_frames frames
  same_call_frames [] = refl
  same_call_frames (arguments form values left env ∷ older) = same_call_frames older
  same_call_frames (branches positive negative env ∷ older) = same_call_frames older
  same_call_frames (rows of env ∷ older) = same_call_frames older
  same_call_frames (statement awaited rest env ∷ older) = same_call_frames older
  same_call_frames (call lent ∷ older) = ap suc (same_call_frames older)

  pub same_ending : (s : State) → ending_of (state_image s) ≡ ending_of s
  same_ending s = elim s.machine.control as (λ control. end_at (control_image control) ≡ end_at control)
      [ expression e env ↦ refl | value v ↦ refl | stopped by ↦ refl ]

  either_image : (test : Bool) (a b : Configuration) → (if test then machine_image a else machine_image b)
      ≡ machine_image (if test then a else b)
  either_image true a b = refl
  either_image false a b = refl

  branch_image : (test : Bool) (a b : Tree) → (if test then renamed new a else renamed new b) ≡ renamed new (if test then a else b)
  branch_image true a b = refl
  branch_image false a b = refl

  -- a new place
  new_place_image : (c : ℕ) (vs : List Value) (to : Configuration)
      → at_new_place (new.constructors c) (images new vs) (machine_image to) ≡ machine_image (at_new_place c vs to)
  new_place_image c vs to =
      ap (λ at. placed at (store_image new to.store ++ cell_image new (cell c vs) ∷ [])) (length-map to.store (cell_image new))
      ∙ ap (placed (length to.store)) (sym (map-append (cell_image new) to.store (cell c vs ∷ [])))
    where
      cell : ℕ → List Value → Cell
      cell d fields = record { made_by = d; fields = fields }

      placed : ℕ → Store → Configuration
      placed at store = record { control = value (place at); frames = frames_image to.frames; store = store }

  -- what a step tells and leads to
  same_performed : (action : Action Configuration) (input : List ℕ) → performed (action_image action) input
      ≡ ((performed action input).0, state_image (performed action input).1)
  same_performed (goes to) input = refl
  same_performed (puts piece to) input = refl
  same_performed (takes to) [] = refl
  same_performed (takes to) (byte ∷ input) = refl
  same_performed (builds found to) input = refl
  same_performed (counts_calls found to) input = refl

-- ---- forms

module _ (new : Renaming) (first : new.constructors 0 ≡ 0) (second : new.constructors 1 ≡ 1) where
  truth_image : (t : Bool) → image new (truth t) ≡ truth t
  truth_image false = ap (λ c. constant c) first
  truth_image true = ap (λ c. constant c) second

  test_image : (t : Bool) (v : Value) → v ≡ truth t → is_true (image new v) ≡ is_true v
  test_image t v is = ap (λ w. is_true (image new w)) is ∙ (ap is_true (truth_image t) ∙ sym (ap is_true is))

  integer_image : (v : Value) → integer_of (image new v) ≡ integer_of v
  integer_image (integer n) = refl
  integer_image unit = refl
  integer_image (constant c) = refl
  integer_image (place at) = refl

  number_image : (operator : BinaryOperator) (x y : ℤ) → number_result operator x y ≡ image new (number_result operator x y)
  number_image Add x y = refl
  number_image Subtract x y = refl
  number_image Multiply x y = refl
  number_image Divide x y = refl
  number_image Remainder x y = refl
  number_image Equal x y = sym (truth_image _)
  number_image NotEqual x y = sym (truth_image _)
  number_image Less x y = sym (truth_image _)
  number_image LessEqual x y = sym (truth_image _)
  number_image Greater x y = sym (truth_image _)
  number_image GreaterEqual x y = sym (truth_image _)

  byte_image : (byte : Option ℕ) → byte_value byte ≡ image new (byte_value byte)
  byte_image None = refl
  byte_image (Some byte) = refl

  integer_argument : (vs : List Value) (i : ℕ) → integer_of (argument i (images new vs)) ≡ integer_of (argument i vs)
  integer_argument vs i = ap integer_of (image_of_argument new vs i) ∙ integer_image (argument i vs)

  form_image : (program : ProgramTree) (texts : List (List ℕ)) (form : Form) (vs : List Value) → FormFits program form vs
      → form_effect texts (renamed_form new form) (images new vs) ≡ effect_image new (form_effect texts form vs)
  form_image program texts (Number n) vs fits = refl
  form_image program texts Nothing vs fits = refl
  form_image program texts ReadByte vs fits = refl
  form_image program texts (PrintText form text) vs fits = refl
  form_image program texts (Unary Negate) vs fits =
      ap (λ n. gives (integer (negation_of n))) (integer_argument vs 0)
  form_image program texts (Unary Not) vs fits =
      ap (λ v. gives (truth (not (is_true v)))) (image_of_argument new vs 0)
      ∙ (ap (λ t. gives (truth (not t))) (test_image fits.0 (argument 0 vs) (ap (argument 0) fits.1))
      ∙ ap gives (sym (truth_image (not (is_true (argument 0 vs))))))
  form_image program texts (Binary operator) vs fits =
      ap (λ n. gives (number_result operator n (integer_of (argument 1 (images new vs))))) (integer_argument vs 0)
      ∙ (ap (λ n. gives (number_result operator (integer_of (argument 0 vs)) n)) (integer_argument vs 1)
      ∙ ap gives (number_image operator (integer_of (argument 0 vs)) (integer_of (argument 1 vs))))
  form_image program texts (Print form) vs fits =
      ap (λ n. prints (piece_of form (signed_decimal n))) (integer_argument vs 0)
  form_image program texts (Construct c) [] fits = refl
  form_image program texts (Construct c) (v ∷ vs) fits = refl
  form_image program texts (Call f) vs fits = refl

-- ---- the steps

-- a function of the program, whose body differs from that of an instance in calls and constructors alone
pub record IsAlike (program : ProgramTree) (new : Renaming) (f : ℕ) (function : FunctionTree) : Type 0 where
  pub other : FunctionTree
  pub there : slice_get program.functions (new.functions f) ≡ Some other
  pub body : other.body ≡ renamed new function.body

-- The programs print the same string literals. The functions of the typed one, the instances, are there under both numbers,
-- and their positions are lent alike. The constructors of one type keep their numbers apart.
module _ (program made : ProgramTree) (texts : program.texts ≡ made.texts) (typed : IsGroundTyped made)
    (table other : PositionTable)
    (cells depth : ℕ) (new : Renaming) (first : new.constructors 0 ≡ 0) (second : new.constructors 1 ≡ 1)
    (apart : AreApart made.constructors new.constructors)
    (there : (f : ℕ) (function : FunctionTree) → slice_get made.functions f ≡ Some function → IsAlike program new f function)
    (lent : (f : ℕ) (function : FunctionTree) → slice_get made.functions f ≡ Some function
    → slice_index_or other (new.functions f) [] ≡ slice_index_or table f []) where
  abbrev made_setting : Setting
  made_setting = setting_of made table cells depth

  abbrev setting : Setting
  setting = setting_of program other cells depth

  -- the program does the image of what the instances do
  abbrev Follows : Action Configuration → Action Configuration → Type 0
  Follows a b = a ≡ action_image new b

  construct_follows : (c : ℕ) (vs : List Value) (older : List Frame) (from : Configuration)
      → Follows
      (construct_step setting (new.constructors c) (images new vs) (frames_image new older) (machine_image new from))
      (construct_step made_setting c vs older from)
  construct_follows c vs older from =
      ap (λ n. build_step cells n (at_end heap_full (machine_image new from))
      (at_new_place (new.constructors c) (images new vs) from_image)) found
      ∙ (ap (λ made_place. build_step cells (live from.store held_here) (at_end heap_full (machine_image new from)) made_place)
      (new_place_image new c vs (record from { frames = older }))
      ∙ ap (builds (live from.store held_here))
      (either_image new (nat_le cells (live from.store held_here)) (at_end heap_full from)
      (at_new_place c vs (record from { frames = older }))))
    where
      held_here : List Value
      held_here = vs ++ held_by_all older

      from_image : Configuration
      from_image = machine_image new (record from { frames = older })

      found : live (store_image new from.store) (images new vs ++ held_by_all (frames_image new older))
          ≡ live from.store held_here
      found =
          ap (λ ws. live (store_image new from.store) (images new vs ++ ws)) (held_by_all_image new older)
          ∙ (ap (live (store_image new from.store)) (sym (map-append (image new) vs (held_by_all older)))
          ∙ live_image new from.store held_here)

  -- a function's body, its parameters bound
  entered_image : (body : Tree) (vs : List Value) (to : Configuration)
      → at_expression (renamed new body) (bind_parameters 0 (images new vs) []) (machine_image new to)
      ≡ machine_image new (at_expression body (bind_parameters 0 vs []) to)
  entered_image body vs to =
      ap (λ env. at_expression (renamed new body) env (machine_image new to)) (image_of_parameters new 0 vs [])

  -- the machine that a call pushes a frame in, with the positions that its function lends
  abbrev pushed : Tree → List Value → List Frame → Configuration → List Ownership → Configuration
  pushed body vs older from lending =
      at_expression body (bind_parameters 0 vs [])
      (record from { frames = call (lent_places (λ i. lends (slice_index_or lending i Owned)) 0 vs) ∷ older })

  pushed_image : (body : Tree) (vs : List Value) (older : List Frame) (from : Configuration) (lending : List Ownership)
      → pushed (renamed new body) (images new vs) (frames_image new older) (machine_image new from) lending
      ≡ machine_image new (pushed body vs older from lending)
  pushed_image body vs older from lending =
      let lends_at : ℕ → Bool = λ i. lends (slice_index_or lending i Owned) in
      ap (λ places. at_expression (renamed new body) (bind_parameters 0 (images new vs) [])
      (record (machine_image new from) { frames = call places ∷ frames_image new older }))
      (image_of_lent new lends_at 0 vs)
      ∙ entered_image body vs (record from { frames = call (lent_places lends_at 0 vs) ∷ older })

  push_follows : (f : ℕ) (function made_one : FunctionTree) (vs : List Value) (older : List Frame) (from : Configuration)
      → slice_get made.functions f ≡ Some made_one → function.body ≡ renamed new made_one.body
      → Follows
      (push_step setting (new.functions f) function (images new vs) (frames_image new older) (machine_image new from))
      (push_step made_setting f made_one vs older from)
  push_follows f function made_one vs older from is same =
      ap (λ (row : List Ownership). enter_step depth (call_frames (frames_image new older)) full
      (pushed function.body (images new vs) (frames_image new older) (machine_image new from) row)) (lent f made_one is)
      ∙ (ap (λ (n : ℕ). enter_step depth n full
      (pushed function.body (images new vs) (frames_image new older) (machine_image new from) lending)) (same_call_frames new older)
      ∙ (ap (λ (b : Tree). enter_step depth found full
      (pushed b (images new vs) (frames_image new older) (machine_image new from) lending)) same
      ∙ (ap (enter_step depth found full) (pushed_image made_one.body vs older from lending)
      ∙ ap (counts_calls found)
      (either_image new (nat_le depth found) (at_end stack_full from) (pushed made_one.body vs older from lending)))))
    where
      found : ℕ
      found = call_frames older

      lending : List Ownership
      lending = slice_index_or table f []

      full : Configuration
      full = at_end stack_full (machine_image new from)

  entry_follows : (f : ℕ) (function made_one : FunctionTree) (vs : List Value) (older : List Frame) (from : Configuration)
      → slice_get made.functions f ≡ Some made_one → function.body ≡ renamed new made_one.body
      → Follows
      (call_step setting (new.functions f) (Some function) (images new vs) (frames_image new older) (machine_image new from))
      (call_step made_setting f (Some made_one) vs older from)
  entry_follows f function made_one vs (call kept ∷ older) from is same =
      let to : Configuration = record from { frames = call kept ∷ older } in
      ap (λ (b : Tree). goes (at_expression b (bind_parameters 0 (images new vs) []) (machine_image new to))) same
      ∙ ap goes (entered_image made_one.body vs to)
  entry_follows f function made_one vs [] from is same = push_follows f function made_one vs [] from is same
  entry_follows f function made_one vs (arguments form values left env ∷ older) from is same =
      push_follows f function made_one vs (arguments form values left env ∷ older) from is same
  entry_follows f function made_one vs (branches p q env ∷ older) from is same =
      push_follows f function made_one vs (branches p q env ∷ older) from is same
  entry_follows f function made_one vs (rows rs env ∷ older) from is same =
      push_follows f function made_one vs (rows rs env ∷ older) from is same
  entry_follows f function made_one vs (statement x rest env ∷ older) from is same =
      push_follows f function made_one vs (statement x rest env ∷ older) from is same

  call_follows : (f : ℕ) (vs : List Value) (older : List Frame) (from : Configuration) → CallFits made f vs
      → Follows
      (call_step setting (new.functions f) (slice_get program.functions (new.functions f)) (images new vs) (frames_image new older)
      (machine_image new from))
      (call_step made_setting f (slice_get made.functions f) vs older from)
  call_follows f vs older from fits =
      let alike = there f fits.0 fits.1 in
      ap (λ found. call_step setting (new.functions f) found (images new vs) (frames_image new older) (machine_image new from))
      alike.there
      ∙ (entry_follows f alike.other fits.0 vs older from fits.1 alike.body
      ∙ ap (λ found. action_image new (call_step made_setting f found vs older from)) (sym fits.1))

  print_follows : (piece : List ℕ) (to : Configuration) → Follows (print_step piece (machine_image new to)) (print_step piece to)
  print_follows [] to = refl
  print_follows (byte ∷ bytes) to = refl

  -- what an effect does
  abbrev effect_at : Setting → FormEffect → List Frame → Configuration → Action Configuration
  effect_at setting effect older from =
      effect_step (λ v. at_value v (record from { frames = older })) (λ c fields. construct_step setting c fields older from)
      (λ f values. call_step setting f (slice_get setting.program.functions f) values older from) effect

  -- a call is of a function that is there
  abbrev EffectFits : FormEffect → Type 0
  EffectFits (enters f values) = CallFits made f values
  EffectFits _ = Unit {0}

  effect_fits : (form : Form) (vs : List Value) → FormFits made form vs → EffectFits (form_effect made.texts form vs)
  effect_fits (Number n) vs fits = tt
  effect_fits Nothing vs fits = tt
  effect_fits ReadByte vs fits = tt
  effect_fits (PrintText form text) vs fits = tt
  effect_fits (Unary operator) vs fits = tt
  effect_fits (Binary operator) vs fits = tt
  effect_fits (Print form) vs fits = tt
  effect_fits (Construct c) [] fits = tt
  effect_fits (Construct c) (v ∷ vs) fits = tt
  effect_fits (Call f) vs fits = fits

  effect_follows : (effect : FormEffect) (older : List Frame) (from : Configuration) → EffectFits effect
      → Follows (effect_at setting (effect_image new effect) (frames_image new older) (machine_image new from))
      (effect_at made_setting effect older from)
  effect_follows (gives v) older from fits = refl
  effect_follows (prints piece) older from fits = print_follows piece (at_value unit (record from { frames = older }))
  effect_follows reads older from fits =
      ap (λ to. takes to)
      (fun_ext (λ byte. ap (λ v. at_value v (machine_image new (record from { frames = older })))
      (byte_image new first second byte)))
  effect_follows (makes c fields) older from fits = construct_follows c fields older from
  effect_follows (enters f values) older from fits = call_follows f values older from fits

  form_follows : (form : Form) (vs : List Value) (older : List Frame) (from : Configuration) → FormFits made form vs
      → Follows
      (form_step setting (renamed_form new form) (images new vs) (frames_image new older) (machine_image new from))
      (form_step made_setting form vs older from)
  form_follows form vs older from fits =
      ap (λ effect. effect_at setting effect (frames_image new older) (machine_image new from))
      (ap (λ all. form_effect all (renamed_form new form) (images new vs)) texts
      ∙ form_image new first second made made.texts form vs fits)
      ∙ effect_follows (form_effect made.texts form vs) older from (effect_fits form vs fits)

  expression_follows : (e : Tree) (env : Environment) (c : Configuration) → ExpressionFits made e env
      → Follows (expression_step setting (renamed new e) (environment_image new env) (machine_image new c))
      (expression_step made_setting e env c)
  expression_follows (variable x) env c fits = ap (λ v. goes (at_value v (machine_image new c))) (image_of_variable new env x)
  expression_follows (apply form no_tree) env c fits = form_follows form [] c.frames c fits
  expression_follows _ env c fits = refl

  choice_follows : (chosen : Option Chosen) (older : List Frame) (from : Configuration)
      → Follows (choice_step setting (option_map (choice_image made.constructors new apart from.store) chosen)
      (frames_image new older) (machine_image new from)) (choice_step made_setting chosen older from)
  choice_follows None older from = refl
  choice_follows (Some chosen) older from = refl

  value_follows : (v : Value) (fs : List Frame) (c : Configuration) (t : TypeTree) → IsOf made.constructors c.store t v
      → FramesWait (table_of made) c.store fs t → ValueFits made c.store v fs
      → Follows (value_step setting (image new v) (frames_image new fs) (machine_image new c)) (value_step made_setting v fs c)
  value_follows v (arguments form values (tree next left) env ∷ older) c t of waits fits =
      let bound = environment_image new env in
      ap (λ vs. goes (at_expression (renamed new next) bound (record (machine_image new c) {
        frames = arguments (renamed_form new form) vs (renamed_all new left) bound ∷ frames_image new older;
      })))
      (sym (map-append (image new) values (v ∷ [])))
  value_follows v (arguments form values no_tree env ∷ older) c t of waits fits =
      ap (λ vs. form_step setting (renamed_form new form) vs (frames_image new older) (machine_image new c))
      (sym (map-append (image new) values (v ∷ [])))
      ∙ form_follows form (values ++ v ∷ []) older c fits
  value_follows v (branches positive negative env ∷ older) c t of waits fits =
      ap (λ test. goes (at_expression (if test then renamed new positive else renamed new negative) (environment_image new env)
      (record (machine_image new c) { frames = frames_image new older })))
      (test_image new first second fits.0 v fits.1)
      ∙ ap (λ e. goes (at_expression e (environment_image new env)
      (record (machine_image new c) { frames = frames_image new older })))
      (branch_image new (is_true v) positive negative)
  value_follows v (rows rs env ∷ older) c t of waits fits =
      ap (λ chosen. choice_step setting chosen (frames_image new older) (machine_image new c))
      (chosen_image made.constructors new apart c.store rs t v env
      (rows_of_type (table_of made) waits.1.1.scope rs t waits.0 waits.1.1.inside) of)
      ∙ choice_follows (first_match c.store rs v env) older c
  value_follows v (statement awaited rest env ∷ older) c t of waits fits =
      ap (λ bound. goes (at_expression (renamed new rest) bound (record (machine_image new c) { frames = frames_image new older })))
      (image_of_bound new awaited v env)
  value_follows v (call kept ∷ next ∷ older) c t of waits fits = refl
  value_follows v (call kept ∷ []) c t of waits fits = refl
  value_follows v [] c t of waits fits = refl

  step_follows : (control : Control) (c : Configuration) → ControlTyped (table_of made) control c → ControlFits made control c
      → Follows (step_at setting (control_image new control) (machine_image new c)) (step_at made_setting control c)
  step_follows (expression e env) c waits fits = expression_follows e env c fits
  step_follows (value v) c waits fits = value_follows v c.frames c waits.0 waits.1 waits.2 fits
  step_follows (stopped by) c waits fits = refl

  -- ---- the runs

  abbrev IsStateSafe : Configuration → Type 0
  IsStateSafe c = IsStateTyped (table_of made) c

  pub record SameRun (n : ℕ) (s : State) : Type 0 where
    pub trace_is : trace (store_machine setting) n (state_image new s) ≡ trace (store_machine made_setting) n s
    pub state_is : state (store_machine setting) n (state_image new s) ≡ state_image new (state (store_machine made_setting) n s)

  same_next : (n : ℕ) (s next : State) (notes : List Note) → (store_machine made_setting).step s ≡ (notes, next)
      → (store_machine setting).step (state_image new s) ≡ (notes, state_image new next) → SameRun n next → SameRun (suc n) s
  same_next n s next notes made_is is later = record {
    trace_is =
        ap (λ (p : List Note × State). p.0 ++ trace (store_machine setting) n p.1) is
        ∙ (ap (λ (l : List Note). notes ++ l) later.trace_is
        ∙ sym (ap (λ (p : List Note × State). p.0 ++ trace (store_machine made_setting) n p.1) made_is));
    state_is =
        ap (λ (p : List Note × State). state (store_machine setting) n p.1) is
        ∙ (later.state_is
        ∙ sym (ap (λ (p : List Note × State). state_image new (state (store_machine made_setting) n p.1)) made_is));
  }

  pub same_run : (n : ℕ) (s : State) → IsStateSafe s.machine → SameRun n s
  same_run zero s safe = record { trace_is = refl; state_is = refl }
  same_run (suc n) s safe = by_end (ending_of s) refl (λ next safe. same_run n next safe)
    where
      by_end : (how : Option End) → ending_of s ≡ how → ((next : State) → IsStateSafe next.machine → SameRun n next)
          → SameRun (suc n) s
      by_end (Some w) e later = record {
        trace_is =
            trace_ended (store_machine setting) (suc n) (state_image new s) w (same_ending new s ∙ e)
            ∙ sym (trace_ended (store_machine made_setting) (suc n) s w e);
        state_is =
            state_ended (store_machine setting) (suc n) (state_image new s) w (same_ending new s ∙ e)
            ∙ ap (state_image new) (sym (state_ended (store_machine made_setting) (suc n) s w e));
      }
      by_end None e later =
          let action = step_of made_setting s.machine in
          let follows = step_follows s.machine.control s.machine safe (state_fits made typed.truths s.machine safe) in
          same_next n s (performed action s.input).1 (performed action s.input).0
          (ap (λ how. step_unless how s (step made_setting s)) e)
          (ap (λ how. step_unless how (state_image new s) (step setting (state_image new s))) (same_ending new s ∙ e)
          ∙ (ap (λ (a : Action Configuration). performed a s.input) follows ∙ same_performed new action s.input))
          (later (performed action s.input).1
          (performed_keeps IsStateSafe action s.input (step_safe made_setting typed s.machine safe)))
