-- A turn tells all of its step: the events, and the end where it was found.
use Rattle.std.proofs.Common.{◌≡◌, ℕ, List, [], ◌∷◌, ◌++◌, Option, Some, None, refl, sym, ap, ◌∙◌, subst, Result, Ok, Err, IfOk, OnErr}
use Rattle.std.specs.Prelude.{slice_get}
use Rattle.std.specs.Fmt.{signed_decimal}
use Rattle.std.specs.List.{flat_map}
use Rattle.kk_syntax.specs.declared.program.Form.{Form}
use Rattle.kk_syntax.specs.declared.program.Form.TheVariants.{Number, Unit as Nothing, ReadByte, PrintText, Unary, Binary, Print, Construct, Call}
use Rattle.kk_syntax.specs.Trees.{Tree, variable, apply, no_tree, tree}
use Rattle.kk_syntax.specs.Programs.{FunctionTree, text_at}
use Rattle.kk_source.specs.State.{Setting, Value, Environment, Frame, arguments, branches, rows, statement, call, ended, heap_full, stack_full, end_at, Control, expression, value, stopped, Configuration}
use Rattle.kk_source.specs.Notes.{events_of as seen_of}
use Rattle.kk_source.specs.Matching.{Chosen, first_match}
use Rattle.kk_source.specs.Step.{at_value, call_step, form_step, choice_step, expression_step, value_step, step_at, step_of}
use Rattle.kk_source.specs.SourceAfter.{step}
use Rattle.kk_source.specs.Sound.{Sound}
use Rattle.kk_source.proofs.StateSoundness.{LeadsTo, step_sound}
use Rattle.kk_meaning.specs.Turns.{quiet_turn, turn_of, TakesByte, without_read, Reads, events_of, end_of}
use Rattle.kk_meaning.specs.declared.turn.Turn.{Turn}
use Rattle.kk_meaning.specs.declared.turn.Turn.TheVariants.{WantsInput}
use Rattle.kk_source.specs.Actions.{Action, goes, puts, takes, builds, calls, print_step, performed}
use Rattle.kk_source.specs.FormEffects.{piece_of, argument, byte_value, integer_of}

quiet_events : (control : Control) → events_of (quiet_turn control) ≡ []
quiet_events (expression e environment) = refl
quiet_events (value v) = refl
quiet_events (stopped ended) = refl
quiet_events (stopped heap_full) = refl
quiet_events (stopped stack_full) = refl

quiet_end : (control : Control) → end_of (quiet_turn control) ≡ end_at control
quiet_end (expression e environment) = refl
quiet_end (value v) = refl
quiet_end (stopped ended) = refl
quiet_end (stopped heap_full) = refl
quiet_end (stopped stack_full) = refl

-- what the world sees of a step that takes no byte is what its turn tells, and the machine after it is the turn's
seen_by_turn : (before : Configuration) (action : Action Configuration) (input : List ℕ) → (TakesByte action → ⊥) → flat_map seen_of (performed action input).0 ≡ events_of (turn_of before action).0
seen_by_turn before (goes to) input other = sym (quiet_events to.control)
seen_by_turn before (puts piece to) input other = refl
seen_by_turn before (takes to) input other = absurd (other tt)
seen_by_turn before (builds found to) input other = sym (quiet_events to.control)
seen_by_turn before (calls found to) input other = sym (quiet_events to.control)

state_by_turn : (before : Configuration) (action : Action Configuration) (input : List ℕ) → (TakesByte action → ⊥) → (performed action input).1 ≡ record { machine = (turn_of before action).1; input = input }
state_by_turn before (goes to) input other = refl
state_by_turn before (puts piece to) input other = refl
state_by_turn before (takes to) input other = absurd (other tt)
state_by_turn before (builds found to) input other = refl
state_by_turn before (calls found to) input other = refl

pub events_by_turn : (setting : Setting) (c : Configuration) (input : List ℕ) → (TakesByte (step_of setting c) → ⊥) → flat_map seen_of (step setting (record { machine = c; input = input })).0 ≡ events_of (turn_of c (step_of setting c)).0
events_by_turn setting c input other = seen_by_turn c (step_of setting c) input other

pub step_by_turn : (setting : Setting) (c : Configuration) (input : List ℕ) → (TakesByte (step_of setting c) → ⊥) → (step setting (record { machine = c; input = input })).1 ≡ record { machine = (turn_of c (step_of setting c)).1; input = input }
step_by_turn setting c input other = state_by_turn c (step_of setting c) input other

-- the turn asks for a byte exactly where the step takes one, and the machine stays
quiet_asks : (control : Control) → quiet_turn control ≡ WantsInput → ⊥
quiet_asks (expression e environment) asks = cc
quiet_asks (value v) asks = cc
quiet_asks (stopped ended) asks = cc
quiet_asks (stopped heap_full) asks = cc
quiet_asks (stopped stack_full) asks = cc

pub asks_by_turn : (before : Configuration) (action : Action Configuration) → (turn_of before action).0 ≡ WantsInput → TakesByte action × ((turn_of before action).1 ≡ before)
asks_by_turn before (goes to) asks = absurd (quiet_asks to.control asks)
asks_by_turn before (puts piece to) asks = absurd (cc)
asks_by_turn before (takes to) asks = (tt, refl)
asks_by_turn before (builds found to) asks = absurd (quiet_asks to.control asks)
asks_by_turn before (calls found to) asks = absurd (quiet_asks to.control asks)

-- the same, of a step that is done
pub wanted : (setting setting' : Setting) (before after : Configuration) (turn : Turn) → setting' ≡ setting → (turn, after) ≡ turn_of before (step_of setting before) → turn ≡ WantsInput → TakesByte (step_of setting' after)
wanted setting setting' before after turn same is asks =
    let asked = asks_by_turn before (step_of setting before) (sym (ap (λ (p : Turn × Configuration). p.0) is) ∙ asks) in
    let stays : after ≡ before = ap (λ (p : Turn × Configuration). p.1) is ∙ asked.1 in
    subst (λ s. TakesByte (step_of s after)) (sym same) (subst (λ c. TakesByte (step_of setting c)) (sym stays) asked.0)

-- a sound machine leads to a sound one
turn_sound : (before : Configuration) (action : Action Configuration) → Sound before → LeadsTo Sound action → Sound (turn_of before action).1
turn_sound before (goes to) s l = l
turn_sound before (puts piece to) s l = l
turn_sound before (takes to) s l = s
turn_sound before (builds found to) s l = l
turn_sound before (calls found to) s l = l

pub sound_after : (setting : Setting) (before after : Configuration) (turn : Turn) → Sound before → (turn, after) ≡ turn_of before (step_of setting before) → Sound after
sound_after setting before after turn s is =
    subst Sound (sym (ap (λ (p : Turn × Configuration). p.1) is)) (turn_sound before (step_of setting before) s (step_sound setting before s))

pub sound_same : (before after : Configuration) → Sound before → after ≡ before → Sound after
sound_same before after s is = subst Sound (sym is) s

-- the machine at what a read has got, its frame given up
abbrev pub at_byte : List Frame → Configuration → Option ℕ → Configuration
at_byte older c byte = at_value (byte_value byte) (record c { frames = older })

-- where a byte is given back as a value, without the frame of the read, the machine is there
pub came_at_byte : (before after : Configuration) (turn : Turn) (byte : Option ℕ) (read : Value) (frames : List Frame)
    → (turn, after) ≡ turn_of before (goes (at_value read (record before { frames = frames })))
    → frames ≡ without_read before.control before.frames → read ≡ byte_value byte
    → after ≡ at_byte (without_read before.control before.frames) before byte
came_at_byte before after turn byte read frames turn_is frames_are read_is =
    ap (λ (p : Turn × Configuration). p.1) turn_is
    ∙ (ap (λ (fs : List Frame). at_value read (record before { frames = fs })) frames_are
    ∙ ap (λ v. at_value v (record before { frames = without_read before.control before.frames })) read_is)

-- what a step that takes a byte comes to
abbrev Taken : List Frame → Configuration → Action Configuration → Type 0
Taken older c action = TakesByte action → action ≡ takes (at_byte older c)

print_takes : (piece : List ℕ) (older : List Frame) (c to : Configuration) → Taken older c (print_step piece to)
print_takes [] older c to takes_one = absurd takes_one
print_takes (byte ∷ bytes) older c to takes_one = absurd takes_one

module _ (setting : Setting) where
  call_takes : (f : ℕ) (function : Option FunctionTree) (values : List Value) (older : List Frame) (c : Configuration) → Taken older c (call_step setting f function values older c)
  call_takes f None values older c takes_one = absurd takes_one
  call_takes f (Some function) values [] c takes_one = absurd takes_one
  call_takes f (Some function) values (call lent ∷ older) c takes_one = absurd takes_one
  call_takes f (Some function) values (arguments form vs left environment ∷ older) c takes_one = absurd takes_one
  call_takes f (Some function) values (branches p q environment ∷ older) c takes_one = absurd takes_one
  call_takes f (Some function) values (rows of environment ∷ older) c takes_one = absurd takes_one
  call_takes f (Some function) values (statement x rest environment ∷ older) c takes_one = absurd takes_one

  form_takes : (form : Form) (values : List Value) (older : List Frame) (c : Configuration) → Taken older c (form_step setting form values older c)
  form_takes (Number number) values older c takes_one = absurd takes_one
  form_takes Nothing values older c takes_one = absurd takes_one
  form_takes ReadByte values older c takes_one = refl
  form_takes (PrintText form text) values older c takes_one = print_takes (piece_of form (text_at setting.program.texts text)) older c _ takes_one
  form_takes (Unary operator) values older c takes_one = absurd takes_one
  form_takes (Binary operator) values older c takes_one = absurd takes_one
  form_takes (Print form) values older c takes_one = print_takes (piece_of form (signed_decimal (integer_of (argument 0 values)))) older c _ takes_one
  form_takes (Construct k) [] older c takes_one = absurd takes_one
  form_takes (Construct k) (v ∷ vs) older c takes_one = absurd takes_one
  form_takes (Call f) values older c takes_one = call_takes f (slice_get setting.program.functions f) values older c takes_one

  expression_takes : (e : Tree) (environment : Environment) (c : Configuration) → Taken c.frames c (expression_step setting e environment c)
  expression_takes (variable x) environment c takes_one = absurd takes_one
  expression_takes (apply form no_tree) environment c takes_one = form_takes form [] c.frames c takes_one
  expression_takes _ environment c takes_one = absurd takes_one

  choice_takes : (chosen : Option Chosen) (older others : List Frame) (c : Configuration) → Taken others c (choice_step setting chosen older c)
  choice_takes None older others c takes_one = absurd takes_one
  choice_takes (Some chosen) older others c takes_one = absurd takes_one

  value_takes : (v : Value) (frames : List Frame) (c : Configuration) → Taken (without_read (value v) frames) c (value_step setting v frames c)
  value_takes v (arguments form values (tree next left) environment ∷ older) c takes_one = absurd takes_one
  value_takes v (arguments form values no_tree environment ∷ older) c takes_one = form_takes form (values ++ v ∷ []) older c takes_one
  value_takes v (branches p q environment ∷ older) c takes_one = absurd takes_one
  value_takes v (rows of environment ∷ older) c takes_one = choice_takes (first_match c.store of v environment) older (rows of environment ∷ older) c takes_one
  value_takes v (statement x rest environment ∷ older) c takes_one = absurd takes_one
  value_takes v (call lent ∷ next ∷ older) c takes_one = absurd takes_one
  value_takes v (call lent ∷ []) c takes_one = absurd takes_one
  value_takes v [] c takes_one = absurd takes_one

  step_takes : (control : Control) (c : Configuration) → Taken (without_read control c.frames) c (step_at setting control c)
  step_takes (expression e environment) c takes_one = expression_takes e environment c takes_one
  step_takes (value v) c takes_one = value_takes v c.frames c takes_one
  step_takes (stopped by) c takes_one = absurd takes_one

  -- given the byte, or the end, the machine is at its value
  performed_reads : (byte : Option ℕ) (c : Configuration) (older : List Frame) → step_of setting c ≡ takes (at_byte older c) → Reads setting byte c (at_byte older c byte)
  performed_reads (Some byte) c older is = λ rest. ap (λ action. performed action (byte ∷ rest)) is
  performed_reads None c older is = ap (λ action. performed action []) is

  pub reads : (byte : Option ℕ) (c to : Configuration) → TakesByte (step_of setting c) → to ≡ at_byte (without_read c.control c.frames) c byte → Reads setting byte c to
  reads byte c to takes_one there =
      rw (there) (performed_reads byte c (without_read c.control c.frames) (step_takes c.control c takes_one))

  pub byte_sound : (byte : Option ℕ) (c to : Configuration) → Sound c → TakesByte (step_of setting c) → to ≡ at_byte (without_read c.control c.frames) c byte → Sound to
  byte_sound byte c to s takes_one there =
      let l : LeadsTo Sound (takes (at_byte (without_read c.control c.frames) c)) = subst (LeadsTo Sound) (step_takes c.control c takes_one) (step_sound setting c s) in
      subst Sound (sym there) (l byte)

-- a machine stays sound, whatever a step has answered
pub sound_kept : {E : Type 0} (setting : Setting) (before after : Configuration) (r : Result Turn E) → Sound before → IfOk r (λ turn. (turn, after) ≡ turn_of before (step_of setting before)) → OnErr r (after ≡ before) → Sound after
sound_kept setting before after (Ok turn) s ok err = sound_after setting before after turn s ok
sound_kept setting before after (Err e) s ok err = sound_same before after s err
