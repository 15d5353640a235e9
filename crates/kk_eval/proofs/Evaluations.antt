-- What a run by the store machine from its start has done of what the program means.
use Rattle.std.proofs.Common.{◌≡◌, ◌≤◌, ℕ, ◌+◌, List, [], ◌∷◌, ◌++◌, Option, Some, None, option_map, Ok, Err, refl, ap, subst, ◌∙◌, inr, append-nil}
use Rattle.kk_base.specs.declared.error.NoMemory.{NoMemory}
use Rattle.kk_base.specs.Faults.{Rises}
use Rattle.kk_base.specs.Machines.{trace, state, ending_after}
use Rattle.kk_base.specs.Sink.{SinkState}
use Rattle.kk_base.specs.Source.{SourceState}
use Rattle.kk_base.specs.Trace.{Event, output, output_of, TakesFrom}
use Rattle.kk_base.proofs.Machines.{trace-add, trace_stays, ending_stays}
use Rattle.kk_base.proofs.Traces.{some-input}
use Rattle.kk_source.specs.SourceAfter.{State, After, source_machine, ending_of, source_after, first_state}
use Rattle.kk_source.specs.State.{Setting, End, ended, heap_full, stack_full, end_at, start, Configuration}
use Rattle.rv_sim.specs.Devices.{GivesEvents, asked}
use Rattle.kk_answer.specs.declared.answer.RunEnd.{RunEnd}
use Rattle.kk_answer.specs.declared.answer.RunEnd.TheVariants as OfRun
use Rattle.kk_eval.specs.Evaluations.{end_for, is_input_end, is_output_end, HasCome, TakesNext, PrintsNext, StopsAt, TakesInput, RunsSource, RunsOutOfMemory}
use Rattle.kk_source.specs.Settings.{IsRun}
use Rattle.kk_syntax.specs.Programs.{ProgramTree}
use Rattle.kk_eval.specs.EvaluationStates.{with_input, StepsTo, AsksAt, PutsAt, Outcome, asks_input, asks_output, HasEvaluated}
use Rattle.kk_eval.specs.EvaluationStates.{HasRun}

same_end : (end : Option End) → option_map (λ (e : End). e) end ≡ end
same_end None = refl
same_end (Some end) = refl

has_come : (setting : Setting) (count : ℕ) (events : List Event) (new : Configuration) (end : Option End) → StepsTo setting count events (start setting) new → end_at new.control ≡ end → HasCome setting count events end
has_come setting count events new end leads is input rest takes =
    let does = leads input rest takes in
    let how : ending_after (source_machine setting) count (first_state setting input) ≡ end = ap (λ (s : State). option_map (λ (e : End). e) (ending_of s)) does.1 ∙ same_end (end_at new.control) ∙ is in
    ap (λ (es : List Event). record { trace = es; ending = ending_after (source_machine setting) count (first_state setting input) }) does.0
    ∙ ap (λ (e : Option End). record { trace = events; ending = e }) how

-- after its end a program stays as it is
comes_later : (setting : Setting) (count steps : ℕ) (events : List Event) (end : End) → count ≤ steps → HasCome setting count events (Some end) → HasCome setting steps events (Some end)
comes_later setting count steps events end less come input rest takes =
    let now = come input rest takes in
    let how : ending_after (source_machine setting) count (first_state setting input) ≡ Some end = ap (λ (a : After). a.ending) now in
    let whole = trace_stays (source_machine setting) count steps (first_state setting input) end how less in
    let later = ending_stays (source_machine setting) count steps (first_state setting input) end how less in
    ap (λ (es : List Event). record { trace = es; ending = ending_after (source_machine setting) steps (first_state setting input) }) (whole ∙ ap (λ (a : After). a.trace) now)
    ∙ ap (λ (e : Option End). record { trace = events; ending = e }) later

-- the events of the step behind those of a run
trace_next : (setting : Setting) (count : ℕ) (events more : List Event) (new : Configuration) (input rest : List ℕ) → StepsTo setting count events (start setting) new → TakesFrom events input rest
    → trace (source_machine setting) 1 (with_input new rest) ≡ more → (source_after setting input (count + 1)).trace ≡ events ++ more
trace_next setting count events more new input rest leads takes next =
    let does = leads input rest takes in
    trace-add (source_machine setting) count 1 (first_state setting input)
    ∙ ap (λ (es : List Event). es ++ trace (source_machine setting) 1 (state (source_machine setting) count (first_state setting input))) does.0
    ∙ ap (λ (s : State). events ++ trace (source_machine setting) 1 s) does.1 ∙ ap (λ (es : List Event). events ++ es) next

takes_next : (setting : Setting) (count : ℕ) (events : List Event) (new : Configuration) → StepsTo setting count events (start setting) new → AsksAt setting new → TakesNext setting count events
takes_next setting count events new leads asks input rest takes = trace_next setting count events (asked rest ∷ []) new input rest leads takes (asks rest)

prints_next : (setting : Setting) (count : ℕ) (events : List Event) (cut : List ℕ) (new : Configuration) → StepsTo setting count events (start setting) new → PutsAt setting cut new → PrintsNext setting count events cut
prints_next setting count events cut new leads puts = record {
  piece = puts.piece;
  some = puts.some;
  taken = puts.taken;
  within = puts.within;
  first = puts.first;
  next = λ input rest takes. trace_next setting count events (output puts.piece ∷ []) new input rest leads takes (puts.next rest);
}

-- after how many steps the program is looked at, and what has come of it then
pub record Looked (setting : Setting) (steps : ℕ) (end : RunEnd) (events : List Event) (cut : List ℕ) : Type 0 where
  pub count : ℕ
  pub done : HasCome setting count events (end_for end)
  pub stops : StopsAt end setting steps count events cut

looked : (setting : Setting) (steps : ℕ) (end : RunEnd) (l l' : SourceState) (h h' : SinkState) → (ran : HasEvaluated setting steps (Ok end) (start setting) l l' h h') → Looked setting steps end ran.events ran.cut
looked setting steps OfRun.Ended l l' h h' ran = record { count = steps; done = comes_later setting ran.count steps ran.events ended ran.stands.0 (has_come setting ran.count ran.events ran.new (Some ended) ran.leads ran.ending); stops = (refl, ran.stands.1) }
looked setting steps OfRun.HeapFull l l' h h' ran = record { count = steps; done = comes_later setting ran.count steps ran.events heap_full ran.stands.0 (has_come setting ran.count ran.events ran.new (Some heap_full) ran.leads ran.ending); stops = (refl, ran.stands.1) }
looked setting steps OfRun.StackFull l l' h h' ran = record { count = steps; done = comes_later setting ran.count steps ran.events stack_full ran.stands.0 (has_come setting ran.count ran.events ran.new (Some stack_full) ran.leads ran.ending); stops = (refl, ran.stands.1) }
looked setting steps OfRun.StepsSpent l l' h h' ran = record { count = ran.count; done = has_come setting ran.count ran.events ran.new None ran.leads ran.ending; stops = ran.stands }
looked setting steps OfRun.InputFault l l' h h' ran = record { count = ran.count; done = has_come setting ran.count ran.events ran.new None ran.leads ran.ending; stops = (ran.stands.0, ran.stands.1, takes_next setting ran.count ran.events ran.new ran.leads ran.stands.2) }
looked setting steps OfRun.OutputFault l l' h h' ran = record { count = ran.count; done = has_come setting ran.count ran.events ran.new None ran.leads ran.ending; stops = (ran.stands.0, prints_next setting ran.count ran.events ran.cut ran.new ran.leads ran.stands.1) }

-- what a run has taken of the input
taken_input : (events : List Event) (input input' : SourceState) → GivesEvents events input input' → TakesInput events input input'
taken_input events input input' given = record {
  given = given.content;
  bytes = given.bytes;
  some_input = some-input events input.ended input'.ended given.once;
}

pub runs_source : (setting : Setting) (steps : ℕ) (end : RunEnd) (l l' : SourceState) (h h' : SinkState) → HasEvaluated setting steps (Ok end) (start setting) l l' h h'
    → Rises (is_input_end end) l.faults l'.faults → Rises (is_output_end end) h.faults h'.faults → RunsSource setting steps end l l' h h'
runs_source setting steps end l l' h h' ran input_faults output_faults =
    let at = looked setting steps end l l' h h' ran in
    record {
      events = ran.events;
      cut = ran.cut;
      count = at.count;
      taken = taken_input ran.events l l' ran.given;
      held = ran.held;
      input_faults = input_faults;
      output_faults = output_faults;
      done = at.done;
      stops = at.stops;
    }

pub runs_out_of_memory : (setting : Setting) (steps : ℕ) (refused : NoMemory) (l l' : SourceState) (h h' : SinkState) → HasEvaluated setting steps (Err refused) (start setting) l l' h h'
    → l'.faults ≡ l.faults → h'.faults ≡ h.faults → RunsOutOfMemory setting steps l l' h h'
runs_out_of_memory setting steps refused l l' h h' ran input_faults output_faults = record {
  events = ran.events;
  count = ran.count;
  taken = taken_input ran.events l l' ran.given;
  held = subst (λ (cut : List ℕ). h'.held ≡ option_map (λ before. before ++ (output_of ran.events ++ cut)) h.held) ran.stands.1 ran.held ∙ ap (λ (bytes : List ℕ). option_map (λ before. before ++ bytes) h.held) (append-nil (output_of ran.events));
  input_faults = input_faults;
  output_faults = output_faults;
  done = has_come setting ran.count ran.events ran.new None ran.leads ran.ending;
  early = ran.stands.0;
}

pub start_going : (setting : Setting) (c : Configuration) → c ≡ start setting → end_at c.control ≡ None
start_going setting c is = ap (λ (d : Configuration). end_at d.control) is

pub has_run : (program : ProgramTree) (cells depth steps : ℕ) (setting : Setting) (c : Configuration) (outcome : Outcome) (l l' : SourceState) (h h' : SinkState) → IsRun program cells depth setting → c ≡ start setting
    → HasEvaluated setting steps outcome c l l' h h' → Rises (asks_input outcome) l.faults l'.faults → Rises (asks_output outcome) h.faults h'.faults → HasRun program cells depth steps outcome l l' h h'
has_run program cells depth steps setting c (Ok end) l l' h h' run is ran input_faults output_faults =
    (setting, run, runs_source setting steps end l l' h h' (subst (λ (d : Configuration). HasEvaluated setting steps (Ok end) d l l' h h') is ran) input_faults output_faults)
has_run program cells depth steps setting c (Err refused) l l' h h' run is ran input_faults output_faults =
    inr (setting, run, runs_out_of_memory setting steps refused l l' h h' (subst (λ (d : Configuration). HasEvaluated setting steps (Err refused) d l l' h h') is ran) input_faults output_faults)
