-- Each step keeps states sound.
use Rattle.std.proofs.Common.{◌≡◌, ℕ, zero, suc, ◌+◌, ◌≤◌, ℤ, Bool, true, false, List, [], ◌∷◌, ◌++◌, length, Option, Some, None, arith, subst, length-append}
use Rattle.std.specs.Prelude.{slice_get, if◌then◌else◌, ◌==◌}
use Rattle.kk_syntax.specs.declared.operator.UnaryOperator.{UnaryOperator}
use Rattle.kk_syntax.specs.declared.operator.UnaryOperator.TheVariants.{Negate, Not}
use Rattle.kk_syntax.specs.declared.operator.BinaryOperator.{BinaryOperator}
use Rattle.kk_syntax.specs.declared.operator.BinaryOperator.TheVariants.{Add, Subtract, Multiply, Divide, Remainder, Equal, NotEqual, Less, LessEqual, Greater, GreaterEqual}
use Rattle.kk_syntax.specs.declared.program.Form.{Form}
use Rattle.kk_syntax.specs.declared.program.Form.TheVariants.{Number, Unit as Nothing, ReadByte, PrintText, Unary, Binary, Print, Construct, Call}
use Rattle.kk_syntax.specs.Programs.{FunctionTree}
use Rattle.kk_syntax.specs.PositionsOf.{is_lent}
use Rattle.kk_syntax.specs.Patterns.{Pattern, anything, variable, exactly, constructor, Patterns, no_part, part}
use Rattle.kk_syntax.specs.Trees.{Tree, variable as variable_tree, apply, branch, match, sequence, no_tree, tree, Rows, no_row, row, pattern_of_row, body_of_row}
use Rattle.kk_source.specs.State.{Value, integer, unit, constant, place, Cell, Store, Environment, Frame, arguments, branches, rows, statement, call, heap_full, stack_full, Control, expression, value, stopped, Configuration, Setting, start}
use Rattle.kk_source.specs.Live.{value_of, fields_in, fields_at}
use Rattle.kk_source.specs.Matching.{is_integer, fields_made_by, fields_under, and_then, matched, matched_all, Chosen, chosen_or, first_match}
use Rattle.kk_source.specs.Step.{at_expression, at_value, at_end, bind, bind_parameters, lent_places, at_new_place, in_body, construct_step, push_step, call_step, form_step, expression_step, choice_step, value_step, step_at, step_of}
use Rattle.kk_source.specs.Sound.{Within, AllWithin, BoundWithin, FrameWithin, FramesWithin, ControlWithin, IsOlder, Sound}
use Rattle.kk_source.specs.FormEffects.{FormEffect, gives, prints, reads, makes, enters, truth, unary_result, number_result, argument, byte_value, form_effect, effect_step}
use Rattle.kk_source.proofs.RunInvariants.{print_leads}
pub use Rattle.kk_source.proofs.RunInvariants.{LeadsTo}

-- of a longer store
pub within_more : (n m : ℕ) (v : Value) → n ≤ m → Within n v → Within m v
within_more n m (integer z) le w = tt
within_more n m unit le w = tt
within_more n m (constant c) le w = tt
within_more n m (place at) le w = omega arith

pub all_within_more : (n m : ℕ) (vs : List Value) → n ≤ m → AllWithin n vs → AllWithin m vs
all_within_more n m [] le w = tt
all_within_more n m (v ∷ vs) le w = (within_more n m v le w.0, all_within_more n m vs le w.1)

pub bound_within_more : (n m : ℕ) (env : Environment) → n ≤ m → BoundWithin n env → BoundWithin m env
bound_within_more n m [] le w = tt
bound_within_more n m (b ∷ env) le w = (within_more n m b.value le w.0, bound_within_more n m env le w.1)

frame_within_more : (n m : ℕ) (f : Frame) → n ≤ m → FrameWithin n f → FrameWithin m f
frame_within_more n m (arguments form values left env) le w = (all_within_more n m values le w.0, bound_within_more n m env le w.1)
frame_within_more n m (branches p q env) le w = bound_within_more n m env le w
frame_within_more n m (rows of env) le w = bound_within_more n m env le w
frame_within_more n m (statement x rest env) le w = bound_within_more n m env le w
frame_within_more n m (call lent) le w = all_within_more n m lent le w

pub frames_within_more : (n m : ℕ) (fs : List Frame) → n ≤ m → FramesWithin n fs → FramesWithin m fs
frames_within_more n m [] le w = tt
frames_within_more n m (f ∷ fs) le w = (frame_within_more n m f le w.0, frames_within_more n m fs le w.1)

-- lists and environments
pub all_within-append : (n : ℕ) (vs ws : List Value) → AllWithin n vs → AllWithin n ws → AllWithin n (vs ++ ws)
all_within-append n [] ws a b = b
all_within-append n (v ∷ vs) ws a b = (a.0, all_within-append n vs ws a.1 b)

within-value_of : (n : ℕ) (env : Environment) (x : ℕ) → BoundWithin n env → Within n (value_of env x)
within-value_of n [] x w = tt
within-value_of n (b ∷ env) x w =
    elim (b.variable == x) as (λ t. Within n (if t then b.value else value_of env x)) [ true ↦ w.0 | false ↦ within-value_of n env x w.1 ]

-- what fields, matched patterns and chosen rows hold
FieldsWithin : ℕ → Option (List Value) → Type 0
FieldsWithin n None = Unit {0}
FieldsWithin n (Some vs) = AllWithin n vs

MatchedWithin : ℕ → Option Environment → Type 0
MatchedWithin n None = Unit {0}
MatchedWithin n (Some env) = BoundWithin n env

ChosenWithin : ℕ → Option Chosen → Type 0
ChosenWithin n None = Unit {0}
ChosenWithin n (Some chosen) = BoundWithin n chosen.environment

module _ (store : Store) (older : IsOlder store) where
  made_by_within : (c at : ℕ) (cell : Option Cell) → AllWithin at (fields_in cell) → FieldsWithin at (fields_made_by c cell)
  unfolding FieldsWithin
  made_by_within c at None w = tt
  made_by_within c at (Some cell) w =
      elim (cell.made_by == c) as (λ t. FieldsWithin at (if t then Some cell.fields else None)) [ true ↦ w | false ↦ tt ]

  fields_more : (n m : ℕ) (fields : Option (List Value)) → n ≤ m → FieldsWithin n fields → FieldsWithin m fields
  unfolding FieldsWithin
  fields_more n m None le w = tt
  fields_more n m (Some vs) le w = all_within_more n m vs le w

  fields_within : (c : ℕ) (v : Value) → Within (length store) v → FieldsWithin (length store) (fields_under store c v)
  unfolding FieldsWithin
  fields_within c (integer z) w = tt
  fields_within c unit w = tt
  fields_within c (constant d) w =
      elim (d == c) as (λ t. FieldsWithin (length store) (if t then Some [] else None)) [ true ↦ tt | false ↦ tt ]
  fields_within c (place at) w =
      fields_more at (length store) _ (omega arith) (made_by_within c at (slice_get store at) (older at))

  then_within : (n : ℕ) (fields : Option (List Value)) (next : List Value → Option Environment) → FieldsWithin n fields → ((vs : List Value) → AllWithin n vs → MatchedWithin n (next vs)) → MatchedWithin n (and_then fields next)
  unfolding FieldsWithin MatchedWithin
  then_within n None next w each = tt
  then_within n (Some vs) next w each = each vs w

  bound_then_within : (n : ℕ) (bound : Option Environment) (next : Environment → Option Environment) → MatchedWithin n bound → ((env : Environment) → BoundWithin n env → MatchedWithin n (next env)) → MatchedWithin n (and_then bound next)
  unfolding MatchedWithin
  bound_then_within n None next w each = tt
  bound_then_within n (Some env) next w each = each env w

  mutual
    unfolding MatchedWithin

    matched_within : (p : Pattern) (v : Value) (env : Environment) → Within (length store) v → BoundWithin (length store) env → MatchedWithin (length store) (matched store p v env)
    matched_within anything v env w e = e
    matched_within (variable x) v env w e = (w, e)
    matched_within (exactly n) v env w e =
        elim (is_integer n v) as (λ t. MatchedWithin (length store) (if t then Some env else None)) [ true ↦ e | false ↦ tt ]
    matched_within (constructor c parts) v env w e =
        then_within (length store) (fields_under store c v) _ (fields_within c v w) (λ vs ws. matched_all_within parts vs env ws e)

    matched_all_within : (ps : Patterns) (vs : List Value) (env : Environment) → AllWithin (length store) vs → BoundWithin (length store) env → MatchedWithin (length store) (matched_all store ps vs env)
    matched_all_within no_part [] env w e = e
    matched_all_within no_part (v ∷ vs) env w e = tt
    matched_all_within (part p ps) [] env w e = tt
    matched_all_within (part p ps) (v ∷ vs) env w e =
        bound_then_within (length store) (matched store p v env) _ (matched_within p v env w.0 e) (λ bound b. matched_all_within ps vs bound w.1 b)

  chosen_or_within : (n : ℕ) (body : Tree) (bound : Option Environment) (later : Option Chosen) → MatchedWithin n bound → ChosenWithin n later → ChosenWithin n (chosen_or body bound later)
  unfolding MatchedWithin ChosenWithin
  chosen_or_within n body None later b l = l
  chosen_or_within n body (Some env) later b l = b

  chosen_within : (of : Rows) (v : Value) (env : Environment) → Within (length store) v → BoundWithin (length store) env → ChosenWithin (length store) (first_match store of v env)
  unfolding ChosenWithin
  chosen_within no_row v env w e = tt
  chosen_within (row first rest) v env w e =
      let p : Pattern = pattern_of_row first in
      chosen_or_within (length store) (body_of_row first) (matched store p v env) (first_match store rest v env) (matched_within p v env w e) (chosen_within rest v env w e)

-- one more cell
longer_from : (k : ℕ) (store : Store) (cell : Cell) → ((i n : ℕ) → n ≡ k + i → AllWithin n (fields_at store i)) → ((n : ℕ) → n ≡ k + length store → AllWithin n cell.fields) → (i n : ℕ) → n ≡ k + i → AllWithin n (fields_at (store ++ cell ∷ []) i)
longer_from k [] cell older w zero n e = w n e
longer_from k [] cell older w (suc i) n e = tt
longer_from k (c ∷ store) cell older w zero n e = older zero n e
longer_from k (c ∷ store) cell older w (suc i) n e =
    longer_from (suc k) store cell (λ j m d. older (suc j) m (omega arith)) (λ m d. w m (omega arith)) i n (omega arith)

fields_in_longer : (store : Store) (cell : Cell) (at : ℕ) → AllWithin (length store) cell.fields → IsOlder store → AllWithin at (fields_at (store ++ cell ∷ []) at)
fields_in_longer store cell at w older =
    longer_from 0 store cell
    (λ i n e. let e' : i ≡ n = omega arith in subst (λ m. AllWithin m (fields_at store i)) e' (older i))
    (λ n e. let e' : length store ≡ n = omega arith in subst (λ m. AllWithin m cell.fields) e' w) at at (omega arith)

-- parameters
bound_parameters_within : (n next : ℕ) (vs : List Value) (env : Environment) → AllWithin n vs → BoundWithin n env → BoundWithin n (bind_parameters next vs env)
bound_parameters_within n next [] env w e = e
bound_parameters_within n next (v ∷ vs) env w e = bound_parameters_within n (suc next) vs _ w.1 (w.0, e)

lent_within : (n : ℕ) (lent : ℕ → Bool) (next : ℕ) (vs : List Value) → AllWithin n vs → AllWithin n (lent_places lent next vs)
lent_within n lent next [] w = tt
lent_within n lent next (integer z ∷ vs) w = lent_within n lent (suc next) vs w.1
lent_within n lent next (unit ∷ vs) w = lent_within n lent (suc next) vs w.1
lent_within n lent next (constant c ∷ vs) w = lent_within n lent (suc next) vs w.1
lent_within n lent next (place at ∷ vs) w =
    elim (lent next) as (λ t. AllWithin n (if t then place at ∷ lent_places lent (suc next) vs else lent_places lent (suc next) vs))
    [ true ↦ (w.0, lent_within n lent (suc next) vs w.1) | false ↦ lent_within n lent (suc next) vs w.1 ]

truth_within : (n : ℕ) (t : Bool) → Within n (truth t)
truth_within n true = tt
truth_within n false = tt

unary_within : (n : ℕ) (operator : UnaryOperator) (x : Value) → Within n (unary_result operator x)
unary_within n Negate x = tt
unary_within n Not x = truth_within n _

number_within : (n : ℕ) (operator : BinaryOperator) (x y : ℤ) → Within n (number_result operator x y)
number_within n Add x y = tt
number_within n Subtract x y = tt
number_within n Multiply x y = tt
number_within n Divide x y = tt
number_within n Remainder x y = tt
number_within n Equal x y = truth_within n _
number_within n NotEqual x y = truth_within n _
number_within n Less x y = truth_within n _
number_within n LessEqual x y = truth_within n _
number_within n Greater x y = truth_within n _
number_within n GreaterEqual x y = truth_within n _

at_value_sound : (c : Configuration) (v : Value) → IsOlder c.store → Within (length c.store) v → FramesWithin (length c.store) c.frames → Sound (at_value v c)
at_value_sound c v o w f = record { older = o; control = w; frames = f }

at_expression_sound : (c : Configuration) (e : Tree) (env : Environment) → IsOlder c.store → BoundWithin (length c.store) env → FramesWithin (length c.store) c.frames → Sound (at_expression e env c)
at_expression_sound c e env o w f = record { older = o; control = w; frames = f }

byte_within : (n : ℕ) (byte : Option ℕ) → Within n (byte_value byte)
byte_within n None = tt
byte_within n (Some b) = tt

argument_within : (n index : ℕ) (vs : List Value) → AllWithin n vs → Within n (argument index vs)
argument_within n index [] w = tt
argument_within n zero (v ∷ vs) w = w.0
argument_within n (suc index) (v ∷ vs) w = argument_within n index vs w.1

-- what a form does is on values that are within
EffectWithin : ℕ → FormEffect → Type 0
EffectWithin n (gives v) = Within n v
EffectWithin n (prints piece) = Unit {0}
EffectWithin n reads = Unit {0}
EffectWithin n (makes c fields) = AllWithin n fields
EffectWithin n (enters f values) = AllWithin n values

effect_within : (n : ℕ) (texts : List (List ℕ)) (form : Form) (vs : List Value) → AllWithin n vs → EffectWithin n (form_effect texts form vs)
unfolding EffectWithin
effect_within n texts (Number z) vs w = tt
effect_within n texts Nothing vs w = tt
effect_within n texts ReadByte vs w = tt
effect_within n texts (PrintText form text) vs w = tt
effect_within n texts (Unary operator) vs w = unary_within n operator _
effect_within n texts (Binary operator) vs w = number_within n operator _ _
effect_within n texts (Print form) vs w = tt
effect_within n texts (Construct c) [] w = tt
effect_within n texts (Construct c) (v ∷ vs) w = w
effect_within n texts (Call f) vs w = w

module _ (setting : Setting) where
  -- `from` is sound but for its control, and the values of a form and the older frames are within
  construct_sound : (c : ℕ) (vs : List Value) (older : List Frame) (from : Configuration) → IsOlder from.store → AllWithin (length from.store) vs → FramesWithin (length from.store) older → FramesWithin (length from.store) from.frames → LeadsTo Sound (construct_step setting c vs older from)
  construct_sound c vs older from o w f g = by_test _
    where
      longer : length from.store ≤ length (from.store ++ record { made_by = c; fields = vs } ∷ [])
      longer = omega (arith, length-append {A = Cell})

      by_test : (full : Bool) → Sound (if full then at_end heap_full from else at_new_place c vs (record from { frames = older }))
      by_test true = record { older = o; control = tt; frames = g }
      by_test false = record {
        older = λ at. fields_in_longer from.store _ at w o;
        control = omega (arith, length-append {A = Cell});
        frames = frames_within_more _ _ older longer f;
      }

  push_sound : (f : ℕ) (function : FunctionTree) (vs : List Value) (older : List Frame) (from : Configuration) → Sound from → AllWithin (length from.store) vs → FramesWithin (length from.store) older → LeadsTo Sound (push_step setting f function vs older from)
  push_sound f function vs older from s w g = by_test _
    where
      by_test : (full : Bool) → Sound (if full then at_end stack_full from else in_body function vs (record from { frames = call (lent_places (is_lent setting.positions f) 0 vs) ∷ older }))
      by_test true = record { older = s.older; control = tt; frames = s.frames }
      by_test false = record { older = s.older; control = bound_parameters_within _ 0 vs [] w tt; frames = (lent_within _ _ 0 vs w, g) }

  call_sound : (f : ℕ) (function : Option FunctionTree) (vs : List Value) (older : List Frame) (from : Configuration) → Sound from → AllWithin (length from.store) vs → FramesWithin (length from.store) older → LeadsTo Sound (call_step setting f function vs older from)
  call_sound f None vs older from s w g = s
  call_sound f (Some function) vs (call lent ∷ older) from s w g =
      record { older = s.older; control = (bound_parameters_within _ 0 vs [] w tt); frames = g }
  call_sound f (Some function) vs [] from s w g = push_sound f function vs [] from s w g
  call_sound f (Some function) vs (arguments form values left env ∷ older) from s w g = push_sound f function vs (arguments form values left env ∷ older) from s w g
  call_sound f (Some function) vs (branches p q env ∷ older) from s w g = push_sound f function vs (branches p q env ∷ older) from s w g
  call_sound f (Some function) vs (rows of env ∷ older) from s w g = push_sound f function vs (rows of env ∷ older) from s w g
  call_sound f (Some function) vs (statement x rest env ∷ older) from s w g = push_sound f function vs (statement x rest env ∷ older) from s w g

  form_sound : (form : Form) (vs : List Value) (older : List Frame) (from : Configuration) → Sound from → AllWithin (length from.store) vs → FramesWithin (length from.store) older → LeadsTo Sound (form_step setting form vs older from)
  unfolding EffectWithin
  form_sound form vs older from s w g = by_effect (form_effect setting.program.texts form vs) (effect_within _ _ form vs w)
    where
      by_effect : (effect : FormEffect) → EffectWithin (length from.store) effect → LeadsTo Sound (effect_step (λ v. at_value v (record from { frames = older })) (λ c fields. construct_step setting c fields older from) (λ f arguments. call_step setting f (slice_get setting.program.functions f) arguments older from) effect)
      by_effect (gives v) e = record { older = s.older; control = e; frames = g }
      by_effect (prints piece) e = print_leads Sound piece _ (record { older = s.older; control = tt; frames = g })
      by_effect reads e = λ byte. record { older = s.older; control = byte_within _ byte; frames = g }
      by_effect (makes c fields) e = construct_sound c fields older from s.older e g s.frames
      by_effect (enters f values) e = call_sound f _ values older from s e g

  expression_sound : (e : Tree) (env : Environment) (c : Configuration) → Sound c → BoundWithin (length c.store) env → LeadsTo Sound (expression_step setting e env c)
  expression_sound (variable_tree x) env c s w = record { older = s.older; control = (within-value_of _ env x w); frames = s.frames }
  expression_sound (apply form no_tree) env c s w = form_sound form [] c.frames c s tt s.frames
  expression_sound (apply form (tree first rest)) env c s w = record { older = s.older; control = w; frames = ((tt, w), s.frames) }
  expression_sound (branch condition p q) env c s w = record { older = s.older; control = w; frames = (w, s.frames) }
  expression_sound (match scrutinee of) env c s w = record { older = s.older; control = w; frames = (w, s.frames) }
  expression_sound (sequence binder first rest) env c s w = record { older = s.older; control = w; frames = (w, s.frames) }

  choice_sound : (chosen : Option Chosen) (older : List Frame) (from : Configuration) → Sound from → ChosenWithin (length from.store) chosen → FramesWithin (length from.store) older → LeadsTo Sound (choice_step setting chosen older from)
  unfolding ChosenWithin
  choice_sound None older from s w g = s
  choice_sound (Some chosen) older from s w g = record { older = s.older; control = w; frames = g }

  bind_within : (n : ℕ) (x : Option ℕ) (v : Value) (env : Environment) → Within n v → BoundWithin n env → BoundWithin n (bind x v env)
  bind_within n None v env w e = e
  bind_within n (Some x) v env w e = (w, e)

  value_sound : (v : Value) (fs : List Frame) (c : Configuration) → Sound c → Within (length c.store) v → FramesWithin (length c.store) fs → LeadsTo Sound (value_step setting v fs c)
  value_sound v (arguments form values (tree next left) env ∷ older) c s w g =
      record { older = s.older; control = g.0.1; frames = ((all_within-append _ values (v ∷ []) g.0.0 (w, tt), g.0.1), g.1) }
  value_sound v (arguments form values no_tree env ∷ older) c s w g =
      form_sound form (values ++ v ∷ []) older c s (all_within-append _ values (v ∷ []) g.0.0 (w, tt)) g.1
  value_sound v (branches p q env ∷ older) c s w g = record { older = s.older; control = g.0; frames = g.1 }
  value_sound v (rows of env ∷ older) c s w g = choice_sound _ older c s (chosen_within c.store s.older of v env w g.0) g.1
  value_sound v (statement x rest env ∷ older) c s w g = record { older = s.older; control = (bind_within _ x v env w g.0); frames = g.1 }
  value_sound v (call lent ∷ next ∷ older) c s w g = record { older = s.older; control = w; frames = g.1 }
  value_sound v (call lent ∷ []) c s w g = record { older = s.older; control = tt; frames = tt }
  value_sound v [] c s w g = record { older = s.older; control = tt; frames = s.frames }

  step_at_sound : (control : Control) (c : Configuration) → Sound c → ControlWithin (length c.store) control → LeadsTo Sound (step_at setting control c)
  step_at_sound (expression e env) c s w = expression_sound e env c s w
  step_at_sound (value v) c s w = value_sound v c.frames c s w s.frames
  step_at_sound (stopped by) c s w = s

  pub step_sound : (c : Configuration) → Sound c → LeadsTo Sound (step_of setting c)
  step_sound c s = step_at_sound c.control c s s.control

  -- the start
  fields_of_none : (at : ℕ) → AllWithin at (fields_at [] at)
  fields_of_none zero = tt
  fields_of_none (suc at) = tt

  pub start_sound : Sound (start setting)
  start_sound = record { older = fields_of_none; control = tt; frames = (tt, tt) }
