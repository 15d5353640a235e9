-- A run by the store machine, step by step.
use Rattle.std.proofs.Common.{◌≡◌, ◌≢◌, ◌≤◌, ◌<◌, ℕ, ◌+◌, List, [], ◌∷◌, ◌++◌, length, take, Option, Some, None, option_map, Result, Ok, Err, refl, sym, ap, subst, ◌∙◌, arith, append-nil}
use Rattle.std.specs.List.{flat_map}
use Rattle.kk_base.specs.declared.error.NoMemory.{NoMemory}
use Rattle.kk_base.specs.Machines.{trace, state, step_unless}
use Rattle.kk_base.specs.Sink.{SinkState}
use Rattle.kk_base.specs.Source.{SourceState}
use Rattle.kk_base.specs.Trace.{Event, output, input as taken, input_end, output_of, TakesFrom}
use Rattle.kk_base.proofs.Machines.{state-add, trace-add}
use Rattle.kk_base.proofs.Traces.{TakesFrom-split}
use Rattle.kk_syntax.specs.declared.program.Form.{Form}
use Rattle.kk_syntax.specs.declared.program.Form.TheVariants.{Number, Unit as Nothing, ReadByte, PrintText, Unary, Binary, Print, Construct, Call}
use Rattle.kk_syntax.specs.Programs.{FunctionTree}
use Rattle.kk_syntax.specs.Trees.{Tree, variable, apply, no_tree, tree}
use Rattle.kk_source.specs.Actions.{Action, goes, puts, takes, builds, calls, performed, print_step}
use Rattle.kk_source.specs.Matching.{Chosen, first_match}
use Rattle.kk_source.specs.Notes.{Note, seen, events_of}
use Rattle.kk_source.specs.SourceAfter.{State, source_machine, step}
use Rattle.kk_source.specs.State.{Setting, Value, Environment, Frame, arguments, branches, rows, statement, call, ended, heap_full, stack_full, end_at, Control, expression, value, stopped, Configuration}
use Rattle.kk_source.specs.Step.{step_at, step_of, form_step, call_step, choice_step, expression_step, value_step}
use Rattle.kk_meaning.specs.declared.turn.Turn.{Turn}
use Rattle.kk_meaning.specs.declared.turn.Turn.TheVariants.{Went, Printed, WantsInput}
use Rattle.kk_meaning.specs.Turns.{turn_of, quiet_turn, TakesByte, Reads, end_of}
use Rattle.rv_sim.specs.Devices.{GivesEvents, asked}
use Rattle.rv_sim.proofs.Events.{GivesEvents-none, GivesEvents-join, gives_put, held-none, held-join}
use Rattle.kk_answer.specs.declared.answer.RunEnd.{RunEnd}
use Rattle.kk_answer.specs.declared.answer.RunEnd.TheVariants as OfRun
use Rattle.kk_eval.specs.Evaluations.{end_for}
use Rattle.kk_eval.specs.EvaluationStates.{with_input, StepsTo, AsksAt, Outcome, ending_for, Stands, HasEvaluated, HasGone, HasTurned, HasPrinted, HasRead, outcome_of}

-- ---- a step that prints or takes a byte does not end the run

-- a print is of some bytes, and neither it nor a read leads to an end
abbrev GoesOn : Action Configuration → Type 0
GoesOn (goes to) = Unit {0}
GoesOn (puts piece to) = (0 < length piece) × (end_at to.control ≡ None)
GoesOn (takes to) = (byte : Option ℕ) → end_at (to byte).control ≡ None
GoesOn (builds found to) = Unit {0}
GoesOn (calls found to) = Unit {0}

print_goes_on : (piece : List ℕ) (to : Configuration) → end_at to.control ≡ None → GoesOn (print_step piece to)
print_goes_on [] to going = tt
print_goes_on (byte ∷ bytes) to going = (omega arith, going)

call_goes_on : (setting : Setting) (f : ℕ) (function : Option FunctionTree) (values : List Value) (older : List Frame) (from : Configuration) → GoesOn (call_step setting f function values older from)
call_goes_on setting f None values older from = tt
call_goes_on setting f (Some function) values [] from = tt
call_goes_on setting f (Some function) values (arguments form vs left environment ∷ older) from = tt
call_goes_on setting f (Some function) values (branches positive negative environment ∷ older) from = tt
call_goes_on setting f (Some function) values (rows of environment ∷ older) from = tt
call_goes_on setting f (Some function) values (statement awaited rest environment ∷ older) from = tt
call_goes_on setting f (Some function) values (call lent ∷ older) from = tt

form_goes_on : (setting : Setting) (form : Form) (values : List Value) (older : List Frame) (from : Configuration) → GoesOn (form_step setting form values older from)
form_goes_on setting (Number n) values older from = tt
form_goes_on setting Nothing values older from = tt
form_goes_on setting ReadByte values older from = λ byte. refl
form_goes_on setting (PrintText form text) values older from = print_goes_on _ _ refl
form_goes_on setting (Unary operator) values older from = tt
form_goes_on setting (Binary operator) values older from = tt
form_goes_on setting (Print form) values older from = print_goes_on _ _ refl
form_goes_on setting (Construct c) [] older from = tt
form_goes_on setting (Construct c) (v ∷ vs) older from = tt
form_goes_on setting (Call f) values older from = call_goes_on setting f _ values older from

choice_goes_on : (setting : Setting) (chosen : Option Chosen) (older : List Frame) (from : Configuration) → GoesOn (choice_step setting chosen older from)
choice_goes_on setting None older from = tt
choice_goes_on setting (Some chosen) older from = tt

expression_goes_on : (setting : Setting) (e : Tree) (environment : Environment) (c : Configuration) → GoesOn (expression_step setting e environment c)
expression_goes_on setting (variable x) environment c = tt
expression_goes_on setting (apply form no_tree) environment c = form_goes_on setting form [] c.frames c
expression_goes_on setting _ environment c = tt

value_goes_on : (setting : Setting) (v : Value) (frames : List Frame) (c : Configuration) → GoesOn (value_step setting v frames c)
value_goes_on setting v [] c = tt
value_goes_on setting v (arguments form values no_tree environment ∷ older) c = form_goes_on setting form (values ++ v ∷ []) older c
value_goes_on setting v (arguments form values (tree next left) environment ∷ older) c = tt
value_goes_on setting v (branches positive negative environment ∷ older) c = tt
value_goes_on setting v (rows of environment ∷ older) c = choice_goes_on setting (first_match c.store of v environment) older c
value_goes_on setting v (statement awaited rest environment ∷ older) c = tt
value_goes_on setting v (call lent ∷ []) c = tt
value_goes_on setting v (call lent ∷ next ∷ older) c = tt

control_goes_on : (setting : Setting) (control : Control) (c : Configuration) → c.control ≡ control → GoesOn (step_of setting c)
control_goes_on setting (expression e environment) c is = subst (λ (k : Control). GoesOn (step_at setting k c)) (sym is) (expression_goes_on setting e environment c)
control_goes_on setting (value v) c is = subst (λ (k : Control). GoesOn (step_at setting k c)) (sym is) (value_goes_on setting v c.frames c)
control_goes_on setting (stopped by) c is = subst (λ (k : Control). GoesOn (step_at setting k c)) (sym is) tt

steps_go_on : (setting : Setting) (c : Configuration) → GoesOn (step_of setting c)
steps_go_on setting c = control_goes_on setting c.control c refl

-- ---- one step

one_step : (setting : Setting) (c : Configuration) (input : List ℕ) (next : List Note × State) → step setting (with_input c input) ≡ next → end_at c.control ≡ None
    → (trace (source_machine setting) 1 (with_input c input) ≡ flat_map events_of next.0 ++ []) × (state (source_machine setting) 1 (with_input c input) ≡ next.1)
one_step setting c input next is going =
    let stepped : step_unless (end_at c.control) (with_input c input) (step setting (with_input c input)) ≡ next = ap (λ how. step_unless how (with_input c input) (step setting (with_input c input))) going ∙ is in
    (ap (λ (n : List Note × State). flat_map events_of n.0 ++ []) stepped, ap (λ (n : List Note × State). n.1) stepped)

leads_by : (setting : Setting) (c to : Configuration) (events : List Event) (a : Action Configuration) → step_of setting c ≡ a → end_at c.control ≡ None
    → ((input rest : List ℕ) → TakesFrom events input rest → (flat_map events_of (performed a input).0 ++ [] ≡ events) × ((performed a input).1 ≡ with_input to rest))
    → StepsTo setting 1 events c to
leads_by setting c to events a is going does input rest given =
    let one = one_step setting c input (performed a input) (ap (λ (b : Action Configuration). performed b input) is) going in
    (one.0 ∙ (does input rest given).0, one.1 ∙ (does input rest given).1)

-- a turn of which the world sees nothing but an end
abbrev IsQuiet : Turn → Type 0
IsQuiet (Printed piece) = ⊥
IsQuiet WantsInput = ⊥
IsQuiet _ = Unit {0}

quiet_is_quiet : (control : Control) → IsQuiet (quiet_turn control)
quiet_is_quiet (expression e environment) = tt
quiet_is_quiet (value v) = tt
quiet_is_quiet (stopped ended) = tt
quiet_is_quiet (stopped heap_full) = tt
quiet_is_quiet (stopped stack_full) = tt

quiet_end : (control : Control) → end_at control ≡ end_of (quiet_turn control)
quiet_end (expression e environment) = refl
quiet_end (value v) = refl
quiet_end (stopped ended) = refl
quiet_end (stopped heap_full) = refl
quiet_end (stopped stack_full) = refl

abbrev Pair : Type 0
Pair = Turn × Configuration

quiet_to : (setting : Setting) (c to t : Configuration) (turn : Turn) (a : Action Configuration) → step_of setting c ≡ a → ◌≡◌ {A = Pair} (turn, to) (quiet_turn t.control, t)
    → ((input : List ℕ) → (flat_map events_of (performed a input).0 ≡ []) × ((performed a input).1 ≡ with_input t input)) → end_at c.control ≡ None
    → StepsTo setting 1 [] c to × (end_at to.control ≡ end_of turn)
quiet_to setting c to t turn a is same does going =
    let at : to ≡ t = ap (λ (p : Pair). p.1) same in
    let told : turn ≡ quiet_turn t.control = ap (λ (p : Pair). p.0) same in (
      leads_by setting c to [] a is going (λ input rest given. (ap (λ (es : List Event). es ++ []) (does input).0, (does input).1 ∙ ap (λ (d : Configuration). with_input d input) (sym at) ∙ ap (λ (xs : List ℕ). with_input to xs) given)),
      ap (λ (d : Configuration). end_at d.control) at ∙ quiet_end t.control ∙ ap end_of (sym told),
    )

pub quiet_leads : (setting : Setting) (c to : Configuration) (turn : Turn) (a : Action Configuration) → step_of setting c ≡ a → (turn, to) ≡ turn_of c a → IsQuiet turn → end_at c.control ≡ None
    → StepsTo setting 1 [] c to × (end_at to.control ≡ end_of turn)
quiet_leads setting c to turn (goes t) is same quiet going = quiet_to setting c to t turn (goes t) is same (λ input. (refl, refl)) going
quiet_leads setting c to turn (puts piece t) is same quiet going = absurd (subst IsQuiet (ap (λ (p : Pair). p.0) same) quiet)
quiet_leads setting c to turn (takes t) is same quiet going = absurd (subst IsQuiet (ap (λ (p : Pair). p.0) same) quiet)
quiet_leads setting c to turn (builds found t) is same quiet going = quiet_to setting c to t turn (builds found t) is same (λ input. (refl, refl)) going
quiet_leads setting c to turn (calls found t) is same quiet going = quiet_to setting c to t turn (calls found t) is same (λ input. (refl, refl)) going

abbrev piece_told : Turn → List ℕ
piece_told (Printed piece) = piece
piece_told _ = []

-- a step that prints
pub record Prints (setting : Setting) (c to : Configuration) (piece : List ℕ) : Type 0 where
  pub some : 0 < length piece
  pub leads : StepsTo setting 1 (output piece ∷ []) c to
  pub going : end_at to.control ≡ None
  pub next : (input : List ℕ) → trace (source_machine setting) 1 (with_input c input) ≡ output piece ∷ []

prints_to : (setting : Setting) (c to : Configuration) (piece : List ℕ) → step_of setting c ≡ puts piece to → GoesOn (puts piece to) → end_at c.control ≡ None → Prints setting c to piece
prints_to setting c to piece is goes_on going = record {
  some = goes_on.0;
  leads = leads_by setting c to (output piece ∷ []) (puts piece to) is going (λ input rest given. (refl, ap (λ (xs : List ℕ). with_input to xs) given));
  going = goes_on.1;
  next = λ input. (one_step setting c input (performed (puts piece to) input) (ap (λ (b : Action Configuration). performed b input) is) going).0;
}

not_printed : {T : Type 0} (control : Control) (piece : List ℕ) → Printed piece ≡ quiet_turn control → T
not_printed control piece same = absurd (subst IsQuiet (sym same) (quiet_is_quiet control))

-- a turn that prints nothing
abbrev IsNoPrint : Turn → Type 0
IsNoPrint (Printed piece) = ⊥
IsNoPrint _ = Unit {0}

pub print_leads : (setting : Setting) (c to : Configuration) (piece : List ℕ) (a : Action Configuration) → step_of setting c ≡ a → (Printed piece, to) ≡ turn_of c a → end_at c.control ≡ None → Prints setting c to piece
print_leads setting c to piece (goes t) is same going = not_printed t.control piece (ap (λ (p : Pair). p.0) same)
print_leads setting c to piece (puts other t) is same going =
    let at : to ≡ t = ap (λ (p : Pair). p.1) same in
    let told : piece ≡ other = ap (λ (p : Pair). piece_told p.0) same in
    let moved : step_of setting c ≡ puts piece to = is ∙ ap (λ (p : List ℕ). puts p t) (sym told) ∙ ap (puts piece) (sym at) in
    prints_to setting c to piece moved (subst GoesOn moved (steps_go_on setting c)) going
print_leads setting c to piece (takes t) is same going = absurd (subst IsNoPrint (sym (ap (λ (p : Pair). p.0) same)) tt)
print_leads setting c to piece (builds found t) is same going = not_printed t.control piece (ap (λ (p : Pair). p.0) same)
print_leads setting c to piece (calls found t) is same going = not_printed t.control piece (ap (λ (p : Pair). p.0) same)

-- a step that takes a byte
asks_of : (setting : Setting) (c : Configuration) (t : Option ℕ → Configuration) → step_of setting c ≡ takes t → end_at c.control ≡ None
    → (input : List ℕ) → trace (source_machine setting) 1 (with_input c input) ≡ asked input ∷ []
asks_of setting c t is going [] = (one_step setting c [] (performed (takes t) []) (ap (λ (b : Action Configuration). performed b []) is) going).0
asks_of setting c t is going (byte ∷ rest) = (one_step setting c (byte ∷ rest) (performed (takes t) (byte ∷ rest)) (ap (λ (b : Action Configuration). performed b (byte ∷ rest)) is) going).0

pub read_asks : (setting : Setting) (c : Configuration) (a : Action Configuration) → step_of setting c ≡ a → TakesByte a → end_at c.control ≡ None → AsksAt setting c
read_asks setting c (goes t) is wants going = absurd wants
read_asks setting c (puts piece t) is wants going = absurd wants
read_asks setting c (takes t) is wants going = asks_of setting c t is going
read_asks setting c (builds found t) is wants going = absurd wants
read_asks setting c (calls found t) is wants going = absurd wants

read_goes_on : (setting : Setting) (c to : Configuration) (input left : List ℕ) (notes : List Note) (a : Action Configuration) → step_of setting c ≡ a → GoesOn a → TakesByte a
    → performed (step_of setting c) input ≡ (notes, with_input to left) → end_at to.control ≡ None
read_goes_on setting c to input left notes (goes t) is on wants does = absurd wants
read_goes_on setting c to input left notes (puts piece t) is on wants does = absurd wants
read_goes_on setting c to [] left notes (takes t) is on wants does =
    let same : (performed (takes t) []).1 ≡ with_input to left = ap (λ (n : List Note × State). n.1) (ap (λ (b : Action Configuration). performed b []) (sym is) ∙ does) in
    ap (λ (s : State). end_at s.machine.control) (sym same) ∙ on None
read_goes_on setting c to (byte ∷ rest) left notes (takes t) is on wants does =
    let same : (performed (takes t) (byte ∷ rest)).1 ≡ with_input to left = ap (λ (n : List Note × State). n.1) (ap (λ (b : Action Configuration). performed b (byte ∷ rest)) (sym is) ∙ does) in
    ap (λ (s : State). end_at s.machine.control) (sym same) ∙ on (Some byte)
read_goes_on setting c to input left notes (builds found t) is on wants does = absurd wants
read_goes_on setting c to input left notes (calls found t) is on wants does = absurd wants

pub byte_leads : (setting : Setting) (c to : Configuration) (byte : ℕ) → Reads setting (Some byte) c to → TakesByte (step_of setting c) → end_at c.control ≡ None
    → StepsTo setting 1 (taken byte ∷ []) c to × (end_at to.control ≡ None)
byte_leads setting c to byte reads wants going = (leads, read_goes_on setting c to (byte ∷ []) [] _ (step_of setting c) refl (steps_go_on setting c) wants (reads []))
  where
    leads : StepsTo setting 1 (taken byte ∷ []) c to
    leads [] rest given = absurd given
    leads (x ∷ xs) rest given =
        let one = one_step setting c (x ∷ xs) (seen (taken x) ∷ [], with_input to xs) (subst (λ (b : ℕ). step setting (with_input c (b ∷ xs)) ≡ (seen (taken b) ∷ [], with_input to xs)) given.0 (reads xs)) going in
        (one.0 ∙ ap (λ (b : ℕ). taken b ∷ []) (sym given.0), one.1 ∙ ap (λ (ys : List ℕ). with_input to ys) given.1)

pub end_leads : (setting : Setting) (c to : Configuration) → Reads setting None c to → TakesByte (step_of setting c) → end_at c.control ≡ None
    → StepsTo setting 1 (input_end ∷ []) c to × (end_at to.control ≡ None)
end_leads setting c to reads wants going = (leads, read_goes_on setting c to [] [] _ (step_of setting c) refl (steps_go_on setting c) wants reads)
  where
    leads : StepsTo setting 1 (input_end ∷ []) c to
    leads [] rest given =
        let one = one_step setting c [] (seen input_end ∷ [], with_input to []) reads going in
        (one.0, one.1 ∙ ap (λ (ys : List ℕ). with_input to ys) given)
    leads (x ∷ xs) rest given = absurd given

-- ---- runs

-- a run of one step
pub evaluated_one : (setting : Setting) (outcome : Outcome) (old new : Configuration) (events : List Event) (l l' : SourceState) (h h' : SinkState)
    → GivesEvents events l l' → h'.held ≡ option_map (λ before. before ++ output_of events) h.held → StepsTo setting 1 events old new
    → end_at new.control ≡ ending_for outcome → Stands outcome setting 1 1 [] new → HasEvaluated setting 1 outcome old l l' h h'
evaluated_one setting outcome old new events l l' h h' given held leads ending stands = record {
  new = new;
  events = events;
  cut = [];
  count = 1;
  given = given;
  held = subst (λ (bytes : List ℕ). h'.held ≡ option_map (λ before. before ++ bytes) h.held) (sym (append-nil (output_of events))) held;
  leads = leads;
  ending = ending;
  stands = stands;
}

-- a run of no step
pub evaluated_none : (setting : Setting) (steps : ℕ) (outcome : Outcome) (old : Configuration) (cut : List ℕ) (l l' : SourceState) (h h' : SinkState)
    → GivesEvents [] l l' → h'.held ≡ option_map (λ before. before ++ cut) h.held → end_at old.control ≡ ending_for outcome
    → Stands outcome setting steps 0 cut old → HasEvaluated setting steps outcome old l l' h h'
evaluated_none setting steps outcome old cut l l' h h' given held ending stands = record {
  new = old;
  events = [];
  cut = cut;
  count = 0;
  given = given;
  held = held;
  leads = λ input rest given. (refl, ap (λ (xs : List ℕ). with_input old xs) given);
  ending = ending;
  stands = stands;
}

-- one run after the other
leads_then : (setting : Setting) (n k : ℕ) (es fs : List Event) (a b c : Configuration) → StepsTo setting n es a b → StepsTo setting k fs b c → StepsTo setting (n + k) (es ++ fs) a c
leads_then setting n k es fs a b c first second input rest given =
    let split = TakesFrom-split es fs input rest given in
    let one = first input split.0 split.1 in
    let two = second split.0 rest split.2 in (
      trace-add (source_machine setting) n k (with_input a input) ∙ ap (λ (ts : List Event). ts ++ trace (source_machine setting) k (state (source_machine setting) n (with_input a input))) one.0
          ∙ ap (λ (s : State). es ++ trace (source_machine setting) k s) one.1 ∙ ap (λ (ts : List Event). es ++ ts) two.0,
      state-add (source_machine setting) n k (with_input a input) ∙ ap (λ (s : State). state (source_machine setting) k s) one.1 ∙ two.1,
    )

stands_then : (outcome : Outcome) (setting : Setting) (n k m count : ℕ) (cut : List ℕ) (c : Configuration) → m ≡ n → Stands outcome setting k count cut c → Stands outcome setting (n + k) (m + count) cut c
stands_then (Ok OfRun.Ended) setting n k m count cut c is stands = (omega (arith, stands.0), stands.1)
stands_then (Ok OfRun.HeapFull) setting n k m count cut c is stands = (omega (arith, stands.0), stands.1)
stands_then (Ok OfRun.StackFull) setting n k m count cut c is stands = (omega (arith, stands.0), stands.1)
stands_then (Ok OfRun.StepsSpent) setting n k m count cut c is stands = (omega (arith, stands.0), stands.1)
stands_then (Ok OfRun.InputFault) setting n k m count cut c is stands = (omega (arith, stands.0), stands.1, stands.2)
stands_then (Ok OfRun.OutputFault) setting n k m count cut c is stands = (omega (arith, stands.0), stands.1)
stands_then (Err refused) setting n k m count cut c is stands = (omega (arith, stands.0), stands.1)

pub evaluated_then : (setting : Setting) (outcome : Outcome) (n k : ℕ) (a : Configuration) (l l' l'' : SourceState) (h h' h'' : SinkState)
    → (first : HasEvaluated setting n (Ok OfRun.StepsSpent) a l l' h h') → HasEvaluated setting k outcome first.new l' l'' h' h'' → HasEvaluated setting (n + k) outcome a l l'' h h''
evaluated_then setting outcome n k a l l' l'' h h' h'' first second =
    let whole_held = subst (λ (cut : List ℕ). h'.held ≡ option_map (λ before. before ++ (output_of first.events ++ cut)) h.held) first.stands.1 first.held in
    record {
      new = second.new;
      events = first.events ++ second.events;
      cut = second.cut;
      count = first.count + second.count;
      given = GivesEvents-join first.events second.events l l' l'' first.given second.given;
      held = held-join first.events second.events second.cut h.held h'.held h''.held whole_held second.held;
      leads = leads_then setting first.count second.count first.events second.events a first.new second.new first.leads second.leads;
      ending = second.ending;
      stands = stands_then outcome setting n k first.count second.count second.cut second.new first.stands.0 second.stands;
    }

-- a run that was not stopped by the number of its steps is one of more steps
stands_more : (outcome : Outcome) (setting : Setting) (n m count : ℕ) (cut : List ℕ) (c : Configuration) → outcome ≢ Ok OfRun.StepsSpent → n ≤ m → Stands outcome setting n count cut c → Stands outcome setting m count cut c
stands_more (Ok OfRun.Ended) setting n m count cut c early less stands = (omega (arith, stands.0), stands.1)
stands_more (Ok OfRun.HeapFull) setting n m count cut c early less stands = (omega (arith, stands.0), stands.1)
stands_more (Ok OfRun.StackFull) setting n m count cut c early less stands = (omega (arith, stands.0), stands.1)
stands_more (Ok OfRun.StepsSpent) setting n m count cut c early less stands = absurd (early refl)
stands_more (Ok OfRun.InputFault) setting n m count cut c early less stands = (omega (arith, stands.0), stands.1, stands.2)
stands_more (Ok OfRun.OutputFault) setting n m count cut c early less stands = (omega (arith, stands.0), stands.1)
stands_more (Err refused) setting n m count cut c early less stands = (omega (arith, stands.0), stands.1)

pub evaluated_more : (setting : Setting) (outcome : Outcome) (n m : ℕ) (a : Configuration) (l l' : SourceState) (h h' : SinkState)
    → outcome ≢ Ok OfRun.StepsSpent → n ≤ m → HasEvaluated setting n outcome a l l' h h' → HasEvaluated setting m outcome a l l' h h'
evaluated_more setting outcome n m a l l' h h' early less ran = record {
  new = ran.new;
  events = ran.events;
  cut = ran.cut;
  count = ran.count;
  given = ran.given;
  held = ran.held;
  leads = ran.leads;
  ending = ran.ending;
  stands = stands_more outcome setting n m ran.count ran.cut ran.new early less ran.stands;
}

-- ---- one step over the devices

pub turned_went : (setting : Setting) (old now : Configuration) (l : SourceState) (h : SinkState) → end_at old.control ≡ None → ◌≡◌ {A = Pair} (Went, now) (turn_of old (step_of setting old))
    → HasTurned setting (Ok None) old now l l h h
unfolding evaluated_one
turned_went setting old now l h going same =
    let leads = quiet_leads setting old now Went (step_of setting old) refl same tt going in
    record {
      ran = evaluated_one setting (Ok OfRun.StepsSpent) old now [] l l h h (GivesEvents-none l) (held-none h.held) leads.0 leads.1 (refl, refl);
      now_is = λ is. refl;
      spent = λ none. cc;
    }

-- the ends of a program
abbrev IsEnd : RunEnd → Type 0
IsEnd OfRun.StepsSpent = ⊥
IsEnd OfRun.InputFault = ⊥
IsEnd OfRun.OutputFault = ⊥
IsEnd _ = Unit {0}

end_not_spent : (end : RunEnd) → IsEnd end → ◌≢◌ {A = Result (Option RunEnd) NoMemory} (Ok (Some end)) (Ok (Some OfRun.StepsSpent))
end_not_spent OfRun.Ended is = λ same. cc
end_not_spent OfRun.HeapFull is = λ same. cc
end_not_spent OfRun.StackFull is = λ same. cc
end_not_spent OfRun.StepsSpent is = absurd is
end_not_spent OfRun.InputFault is = absurd is
end_not_spent OfRun.OutputFault is = absurd is

end_stands : (setting : Setting) (now : Configuration) (end : RunEnd) → IsEnd end → Stands (Ok end) setting 1 1 [] now
end_stands setting now OfRun.Ended is = (omega arith, refl)
end_stands setting now OfRun.HeapFull is = (omega arith, refl)
end_stands setting now OfRun.StackFull is = (omega arith, refl)
end_stands setting now OfRun.StepsSpent is = absurd is
end_stands setting now OfRun.InputFault is = absurd is
end_stands setting now OfRun.OutputFault is = absurd is

pub turned_end : (setting : Setting) (old now : Configuration) (l : SourceState) (h : SinkState) (turn : Turn) (end : RunEnd) → end_at old.control ≡ None
    → ◌≡◌ {A = Pair} (turn, now) (turn_of old (step_of setting old)) → IsQuiet turn → IsEnd end → end_of turn ≡ end_for end → HasTurned setting (Ok (Some end)) old now l l h h
turned_end setting old now l h turn end going same quiet is_end is =
    let leads = quiet_leads setting old now turn (step_of setting old) refl same quiet going in
    record {
      ran = evaluated_one setting (Ok end) old now [] l l h h (GivesEvents-none l) (held-none h.held) leads.0 (leads.1 ∙ is) (end_stands setting now end is_end);
      now_is = λ none. cc;
      spent = end_not_spent end is_end;
    }

pub turned_refused : (setting : Setting) (old now : Configuration) (l : SourceState) (h : SinkState) (refused : NoMemory) → end_at old.control ≡ None → HasTurned setting (Err refused) old now l l h h
turned_refused setting old now l h refused going = record {
  ran = evaluated_none setting 1 (Err refused) old [] l l h h (GivesEvents-none l) (held-none h.held) going (omega arith, refl);
  now_is = λ none. cc;
  spent = λ none. cc;
}

pub turned_print : (setting : Setting) (old now : Configuration) (l : SourceState) (h h' : SinkState) (piece : List ℕ) (result : Option RunEnd) → end_at old.control ≡ None
    → ◌≡◌ {A = Pair} (Printed piece, now) (turn_of old (step_of setting old)) → HasPrinted piece result h h' → HasTurned setting (Ok result) old now l l h h'
unfolding evaluated_one
turned_print setting old now l h h' piece None going same printed =
    let prints = print_leads setting old now piece (step_of setting old) refl same going in
    record {
      ran = evaluated_one setting (Ok OfRun.StepsSpent) old now (output piece ∷ []) l l h h' (gives_put piece l)
          (printed.0 ∙ ap (λ (bytes : List ℕ). option_map (λ before. before ++ bytes) h.held) (sym (append-nil piece))) prints.leads prints.going (refl, refl);
      now_is = λ is. refl;
      spent = λ none. cc;
    }
turned_print setting old now l h h' piece (Some OfRun.OutputFault) going same printed =
    let prints = print_leads setting old now piece (step_of setting old) refl same going in
    record {
      ran = evaluated_none setting 1 (Ok OfRun.OutputFault) old (take printed.0 piece) l l h h' (GivesEvents-none l) printed.2 going
          (omega arith, record { piece = piece; some = prints.some; taken = printed.0; within = printed.1; first = refl; next = prints.next });
      now_is = λ none. cc;
      spent = λ none. cc;
    }
turned_print setting old now l h h' piece (Some OfRun.Ended) going same printed = absurd printed
turned_print setting old now l h h' piece (Some OfRun.HeapFull) going same printed = absurd printed
turned_print setting old now l h h' piece (Some OfRun.StackFull) going same printed = absurd printed
turned_print setting old now l h h' piece (Some OfRun.StepsSpent) going same printed = absurd printed
turned_print setting old now l h h' piece (Some OfRun.InputFault) going same printed = absurd printed

-- a step that asks for a byte is not done yet
not_wanted : {T : Type 0} (control : Control) → WantsInput ≡ quiet_turn control → T
not_wanted control same = absurd (subst IsQuiet (sym same) (quiet_is_quiet control))

pub wanted_stays : (c to : Configuration) (a : Action Configuration) → ◌≡◌ {A = Pair} (WantsInput, to) (turn_of c a) → to ≡ c
wanted_stays c to (goes t) same = not_wanted t.control (ap (λ (p : Pair). p.0) same)
wanted_stays c to (puts piece t) same = absurd (subst IsNoPrint (ap (λ (p : Pair). p.0) same) tt)
wanted_stays c to (takes t) same = ap (λ (p : Pair). p.1) same
wanted_stays c to (builds found t) same = not_wanted t.control (ap (λ (p : Pair). p.0) same)
wanted_stays c to (calls found t) same = not_wanted t.control (ap (λ (p : Pair). p.0) same)

pub turned_read : (setting : Setting) (old now : Configuration) (l l' : SourceState) (h : SinkState) (result : Option RunEnd) → end_at old.control ≡ None
    → TakesByte (step_of setting old) → HasRead setting result old now l l' → HasTurned setting (Ok result) old now l l' h h
unfolding evaluated_one
turned_read setting old now l l' h None going wants read = record {
  ran = evaluated_one setting (Ok OfRun.StepsSpent) old now read.0 l l' h h read.2
      (held-none h.held ∙ ap (λ (bytes : List ℕ). option_map (λ before. before ++ bytes) h.held) (sym read.3)) read.1 read.4 (refl, refl);
  now_is = λ is. refl;
  spent = λ none. cc;
}
turned_read setting old now l l' h (Some OfRun.InputFault) going wants read = record {
  ran = evaluated_none setting 1 (Ok OfRun.InputFault) old [] l l' h h read.0 (held-none h.held) going (omega arith, refl, read_asks setting old (step_of setting old) refl wants going);
  now_is = λ none. cc;
  spent = λ none. cc;
}
turned_read setting old now l l' h (Some OfRun.Ended) going wants read = absurd read
turned_read setting old now l l' h (Some OfRun.HeapFull) going wants read = absurd read
turned_read setting old now l l' h (Some OfRun.StackFull) going wants read = absurd read
turned_read setting old now l l' h (Some OfRun.StepsSpent) going wants read = absurd read
turned_read setting old now l l' h (Some OfRun.OutputFault) going wants read = absurd read

pub turned_wanted : (setting setting' : Setting) (old mid now : Configuration) (l l' : SourceState) (h : SinkState) (result : Option RunEnd) → end_at old.control ≡ None → setting' ≡ setting
    → ◌≡◌ {A = Pair} (WantsInput, mid) (turn_of old (step_of setting old)) → TakesByte (step_of setting' mid) → HasRead setting' result mid now l l' → HasTurned setting (Ok result) old now l l' h h
turned_wanted setting setting' old mid now l l' h result going same_setting same wants read =
    let stays = wanted_stays old mid (step_of setting old) same in
    turned_read setting old now l l' h result going
    (subst (λ (c : Configuration). TakesByte (step_of setting c)) stays (subst (λ (s : Setting). TakesByte (step_of s mid)) same_setting wants))
    (subst (λ (c : Configuration). HasRead setting result c now l l') stays (subst (λ (s : Setting). HasRead s result mid now l l') same_setting read))

-- the turn of a step under another name
pub retold : (turn other : Turn) (now : Configuration) (p : Pair) → turn ≡ other → ◌≡◌ {A = Pair} (turn, now) p → ◌≡◌ {A = Pair} (other, now) p
retold turn other now p is same = ap (λ (t : Turn). (t, now)) (sym is) ∙ same

-- ---- many steps over the devices

pub gone_none : (setting : Setting) (old : Configuration) (l : SourceState) (h : SinkState) → end_at old.control ≡ None → HasGone setting 0 old old l l h h
unfolding evaluated_none
gone_none setting old l h going = record { ran = evaluated_none setting 0 (Ok OfRun.StepsSpent) old [] l l h h (GivesEvents-none l) (held-none h.held) going (refl, refl); at = refl }

pub gone_going : (setting : Setting) (n : ℕ) (old now : Configuration) (l l' : SourceState) (h h' : SinkState) → HasGone setting n old now l l' h h' → end_at now.control ≡ None
gone_going setting n old now l l' h h' gone = ap (λ (c : Configuration). end_at c.control) (sym gone.at) ∙ gone.ran.ending

pub gone_more : (setting : Setting) (n : ℕ) (old mid now : Configuration) (l l' l'' : SourceState) (h h' h'' : SinkState) → HasGone setting n old mid l l' h h'
    → HasTurned setting (Ok None) mid now l' l'' h' h'' → HasGone setting (n + 1) old now l l'' h h''
unfolding evaluated_then
gone_more setting n old mid now l l' l'' h h' h'' gone turned =
    let T : Configuration → Type 0 = λ c. (r : HasEvaluated setting 1 (Ok OfRun.StepsSpent) c l' l'' h' h'') × (r.new ≡ now) in
    let next = subst T (sym gone.at) (turned.ran, turned.now_is refl) in
    record { ran = evaluated_then setting (Ok OfRun.StepsSpent) n 1 old l l' l'' h h' h'' gone.ran next.0; at = next.1 }

abbrev Turned : Type 0
Turned = Result (Option RunEnd) NoMemory

pub gone_on : (setting setting' : Setting) (n m : ℕ) (old mid now : Configuration) (l l' l'' : SourceState) (h h' h'' : SinkState) (found : Option RunEnd) → found ≡ None → setting' ≡ setting → n + 1 ≡ m
    → HasGone setting n old mid l l' h h' → HasTurned setting' (Ok found) mid now l' l'' h' h'' → HasGone setting m old now l l'' h h''
gone_on setting setting' n m old mid now l l' l'' h h' h'' found none same is gone turned =
    let S : Setting → Type 0 = λ s. HasTurned s (Ok None) mid now l' l'' h' h'' in
    let F : Option RunEnd → Type 0 = λ f. HasTurned setting' (Ok f) mid now l' l'' h' h'' in
    let N : ℕ → Type 0 = λ k. HasGone setting k old now l l'' h h'' in
    subst N is (gone_more setting n old mid now l l' l'' h h' h'' gone (subst S same (subst F none turned)))

pub gone_same : (setting : Setting) (n m : ℕ) (old now : Configuration) (l l' : SourceState) (h h' : SinkState) → n ≡ m → HasGone setting n old now l l' h h' → HasGone setting m old now l l' h h'
gone_same setting n m old now l l' h h' is gone = subst (λ (k : ℕ). HasGone setting k old now l l' h h') is gone

pub gone_spent : (setting : Setting) (n m : ℕ) (old now : Configuration) (l l' : SourceState) (h h' : SinkState) → n ≡ m → HasGone setting n old now l l' h h' → HasEvaluated setting m (Ok OfRun.StepsSpent) old l l' h h'
gone_spent setting n m old now l l' h h' is gone = subst (λ (k : ℕ). HasEvaluated setting k (Ok OfRun.StepsSpent) old l l' h h') is gone.ran

-- how a run ended; what it is where memory was refused is of no matter
abbrev end_in : Outcome → RunEnd
end_in (Ok end) = end
end_in (Err refused) = OfRun.Ended

outcome_spent : (result : Turned) → result ≢ Ok None → result ≢ Ok (Some OfRun.StepsSpent) → outcome_of result ≢ Ok OfRun.StepsSpent
outcome_spent (Ok None) some spent same = some refl
outcome_spent (Ok (Some end)) some spent same = spent (ap (λ (o : Outcome). Ok (Some (end_in o))) same)
outcome_spent (Err refused) some spent same = cc

pub gone_stops : (setting setting' : Setting) (n steps : ℕ) (old mid now : Configuration) (l l' l'' : SourceState) (h h' h'' : SinkState) (result : Turned) → setting' ≡ setting → result ≢ Ok None
    → n + 1 ≤ steps → HasGone setting n old mid l l' h h' → HasTurned setting' result mid now l' l'' h' h'' → HasEvaluated setting steps (outcome_of result) old l l'' h h''
gone_stops setting setting' n steps old mid now l l' l'' h h' h'' result same some less gone turned =
    let T : Configuration → Type 0 = λ c. HasEvaluated setting 1 (outcome_of result) c l' l'' h' h'' in
    let S : Setting → Type 0 = λ s. HasEvaluated s 1 (outcome_of result) mid l' l'' h' h'' in
    evaluated_more setting (outcome_of result) (n + 1) steps old l l'' h h'' (outcome_spent result some turned.spent) less
    (evaluated_then setting (outcome_of result) n 1 old l l' l'' h h' h'' gone.ran (subst T (sym gone.at) (subst S same turned.ran)))

pub gone_ends : (setting setting' : Setting) (n steps : ℕ) (old mid now : Configuration) (l l' l'' : SourceState) (h h' h'' : SinkState) (found : Option RunEnd) (end : RunEnd) → found ≡ Some end → setting' ≡ setting
    → n + 1 ≤ steps → HasGone setting n old mid l l' h h' → HasTurned setting' (Ok found) mid now l' l'' h' h'' → HasEvaluated setting steps (Ok end) old l l'' h h''
gone_ends setting setting' n steps old mid now l l' l'' h h' h'' found end is same less gone turned =
    let F : Option RunEnd → Type 0 = λ f. HasTurned setting' (Ok f) mid now l' l'' h' h'' in
    gone_stops setting setting' n steps old mid now l l' l'' h h' h'' (Ok (Some end)) same (λ none. cc) less gone (subst F is turned)
