-- Turns at a value, by the newest frame.
use Rattle.std.proofs.Common.{◌≡◌, ℕ, ◌+◌, ◌≤◌, ◌<◌, suc, zero, Bool, true, false, List, [], ◌∷◌, ◌++◌, map, Option, Some, None, refl, sym, ap, ◌∙◌, arith, cond, length, Result, Ok, Err, OnErr, IfOk}
use Rattle.std.specs.Prelude.{nat_le}
use Rattle.kk_syntax.specs.Trees.{Tree, Trees, apply, no_tree, tree, trees_of, Rows, expr_tree}
use Rattle.kk_syntax.specs.declared.program.Expr.{Expr}
use Rattle.kk_syntax.specs.declared.program.Form.{Form}
use Rattle.kk_syntax.specs.Programs.{FunctionTree}
use Rattle.kk_syntax.specs.PositionsOf.{is_lent}
use Rattle.kk_source.specs.State.{Setting, Value, Store, Environment, Frame, arguments, rows, statement, call, stack_full, end_at, Control, expression, value, stopped, Configuration}
use Rattle.kk_source.specs.Live.{counted, live, is_live}
use Rattle.kk_source.specs.Matching.{Chosen, first_match}
use Rattle.kk_source.specs.Step.{at_end, in_body, bind, bind_parameters, call_frames, lent_places, choice_step, call_step, push_step, form_step, expression_step, value_step}
use Rattle.kk_meaning.specs.Turns.{quiet_turn, turn_of}
use Rattle.kk_meaning.specs.declared.turn.Turn.{Turn}
use Rattle.kk_meaning.specs.declared.turn.Turn.TheVariants.{Went, StackFull}
use Rattle.kk_source.specs.Actions.{goes, calls}

abbrev pub machine : Control → List Frame → Store → Configuration
machine control frames store = record { control = control; frames = frames; store = store }

module _ (setting : Setting) (v : Value) (was : Control) (before older : List Frame) (kept : Store) (control : Control) (frames : List Frame) (store : Store) where
  abbrev at_newest : Turn × Configuration
  at_newest = turn_of (machine was before kept) (value_step setting v before (machine was before kept))

  pub statement_turn : (x : Option ℕ) (rest : Tree) (environment : Environment) → before ≡ statement x rest environment ∷ older → control ≡ expression rest (bind x v environment) → frames ≡ older → store ≡ kept → (Went, machine control frames store) ≡ at_newest
  statement_turn x rest environment newest control_is frames_are store_is = rw (control_is, frames_are, store_is, newest) refl

  pub choice_turn : (of : Rows) (environment : Environment) (chosen : Chosen) → before ≡ rows of environment ∷ older → first_match kept of v environment ≡ Some chosen → control ≡ expression chosen.body chosen.environment → frames ≡ older → store ≡ kept → (Went, machine control frames store) ≡ at_newest
  choice_turn of environment chosen newest match_is control_is frames_are store_is = rw (control_is, frames_are, store_is, newest, match_is) refl

  pub argument_turn : (form : Form) (values : List Value) (next : Tree) (left : Trees) (environment : Environment) → before ≡ arguments form values (tree next left) environment ∷ older → control ≡ expression next environment → frames ≡ arguments form (values ++ v ∷ []) left environment ∷ older → store ≡ kept → (Went, machine control frames store) ≡ at_newest
  argument_turn form values next left environment newest control_is frames_are store_is = rw (control_is, frames_are, store_is, newest) refl

  pub call_turn : (lent : List Value) → before ≡ call lent ∷ older → (older ≡ [] → ⊥) → control ≡ value v → frames ≡ older → store ≡ kept → (Went, machine control frames store) ≡ at_newest
  call_turn lent newest some control_is frames_are store_is = rw (control_is, frames_are, store_is, newest) (by_older older some)
    where
      by_older : (gs : List Frame) → (gs ≡ [] → ⊥) → (Went, machine (value v) gs kept) ≡ turn_of (machine was (call lent ∷ gs) kept) (value_step setting v (call lent ∷ gs) (machine was (call lent ∷ gs) kept))
      by_older [] some = absurd (some refl)
      by_older (g ∷ gs) some = refl

-- no more places are live than there are
counted_at_most : (passes : ℕ → Bool) (n : ℕ) → counted passes n ≤ n
counted_at_most passes zero = omega arith
counted_at_most passes (suc n) =
    elim (passes n) as (λ t. counted passes n + cond t 1 0 ≤ suc n) [ true ↦ omega (arith, counted_at_most passes n) | false ↦ omega (arith, counted_at_most passes n) ]

pub has_room : (store : Store) (held : List Value) (cells : ℕ) → length store < cells → nat_le cells (live store held) ≡ false
has_room store held cells lt =
    let most = counted_at_most (is_live store held) (length store) in
    grind (arith, most)

-- what holds of a call's answer
pub on_if_ok : {T E : Type 0} {P Q : T → Type 0} (r : Result T E) → ((x : T) → P x → Q x) → IfOk r P → IfOk r Q
on_if_ok (Ok x) f p = f x p
on_if_ok (Err e) f p = tt

pub on_err : {T E P : Type 0} (r : Result T E) → P → OnErr r P
on_err (Ok x) p = tt
on_err (Err e) p = p

-- a machine that goes on, and stays where it is
quiet_going : (control : Control) → end_at control ≡ None → Went ≡ quiet_turn control
quiet_going (expression e environment) going = refl
quiet_going (value v) going = refl
quiet_going (stopped by) going = absurd (cc)

pub stays_turn : (c : Configuration) → end_at c.control ≡ None → (Went, c) ≡ turn_of c (goes c)
stays_turn c going = ap (λ (t : Turn). (t, c)) (quiet_going c.control going)

pub no_choice : (setting : Setting) (v : Value) (c : Configuration) (of : Rows) (environment : Environment) (older : List Frame) → c.frames ≡ rows of environment ∷ older → first_match c.store of v environment ≡ None → value_step setting v c.frames c ≡ goes c
no_choice setting v c of environment older newest none =
    ap (λ fs. value_step setting v fs c) newest ∙ ap (λ chosen. choice_step setting chosen older c) none

-- calls
pub no_function : (setting : Setting) (f : ℕ) (function : Option FunctionTree) (values : List Value) (older : List Frame) (c : Configuration) → function ≡ None → call_step setting f function values older c ≡ goes c
no_function setting f function values older c none = ap (λ g. call_step setting f g values older c) none

pub tail_call : (setting : Setting) (f : ℕ) (function : FunctionTree) (values lent : List Value) (older rest : List Frame) (c : Configuration) → older ≡ call lent ∷ rest → call_step setting f (Some function) values older c ≡ goes (in_body function values (record c { frames = older }))
tail_call setting f function values lent older rest c is =
    ap (λ fs. call_step setting f (Some function) values fs c) is ∙ ap (λ fs. goes (in_body function values (record c { frames = fs }))) (sym is)

pub entered_turn : (function : FunctionTree) (values : List Value) (c : Configuration) (older frames : List Frame) (control : Control) (store : Store) → control ≡ expression function.body (bind_parameters 0 values []) → frames ≡ older → store ≡ c.store → (Went, machine control frames store) ≡ turn_of c (goes (in_body function values (record c { frames = older })))
entered_turn function values c older frames control store control_is frames_are store_is = rw (control_is, frames_are, store_is) refl

pub full_turn : (setting : Setting) (f : ℕ) (function : FunctionTree) (values : List Value) (older : List Frame) (c : Configuration) → setting.depth ≤ call_frames older → (StackFull, at_end stack_full c) ≡ turn_of c (push_step setting f function values older c)
full_turn setting f function values older c le =
    let full : true ≡ nat_le setting.depth (call_frames older) = grind arith in
    ap (λ t. turn_of c (calls (call_frames older) (cond t (at_end stack_full c) (in_body function values (record c { frames = call (lent_places (is_lent setting.positions f) 0 values) ∷ older }))))) full

pub pushed_turn : (setting : Setting) (f : ℕ) (function : FunctionTree) (values : List Value) (older frames : List Frame) (c : Configuration) (control : Control) (store : Store) → call_frames older < setting.depth → control ≡ expression function.body (bind_parameters 0 values []) → frames ≡ call (lent_places (is_lent setting.positions f) 0 values) ∷ older → store ≡ c.store → (Went, machine control frames store) ≡ turn_of c (push_step setting f function values older c)
pushed_turn setting f function values older frames c control store lt control_is frames_are store_is =
    let room : false ≡ nat_le setting.depth (call_frames older) = grind arith in
    rw (control_is, frames_are, store_is)
    (ap (λ t. turn_of c (calls (call_frames older) (cond t (at_end stack_full c) (in_body function values (record c { frames = call (lent_places (is_lent setting.positions f) 0 values) ∷ older }))))) room)

-- a form without arguments acts at once, over the frames that are there
pub form_at_once : (setting : Setting) (form : Form) (es : List Expr) (environment : Environment) (c : Configuration) (vs : List Value) (frames : List Frame) → es ≡ [] → vs ≡ [] → frames ≡ c.frames → expression_step setting (apply form (trees_of (map expr_tree es))) environment c ≡ form_step setting form vs frames c
form_at_once setting form es environment c vs frames none no_values same = rw (none, no_values, same) refl

-- the last argument has come, and the form acts over the older frames
pub form_with_last : (setting : Setting) (v : Value) (form : Form) (vs all : List Value) (environment : Environment) (older frames before : List Frame) (c : Configuration) → before ≡ arguments form vs no_tree environment ∷ older → all ≡ vs ++ v ∷ [] → frames ≡ older → value_step setting v before c ≡ form_step setting form all frames c
form_with_last setting v form vs all environment older frames before c newest values same = rw (newest, values, same) refl
