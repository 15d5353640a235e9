-- Runs one after the other are one run; what has ended within a budget has ended so within a greater one.
use Rattle.std.proofs.Common.{◌≡◌, ◌≢◌, ◌≤◌, ℕ, ◌+◌, ◌-◌, List, [], ◌++◌, false, option_map, refl, sym, ap, subst, ◌∙◌, arith, append_assoc, append-nil}
use Rattle.kk_base.specs.Source.{SourceState}
use Rattle.kk_base.specs.Sink.{SinkState}
use Rattle.kk_base.specs.Trace.{Event, TakesFrom, output_of}
use Rattle.rv_isa.specs.Processor.{Ending, going, exited, trapped, Progress}
use Rattle.rv_isa.specs.InstructionSet.{go_on}
use Rattle.rv_isa.specs.Execution.{rv32im, run}
use Rattle.rv_isa.proofs.Runs.{go_on-ended, go_on-add, go_on-none}
use Rattle.rv_sim.specs.Simulation.{Simulation, progress_of}
use Rattle.rv_sim.specs.declared.halt.Halt.{Halt}
use Rattle.rv_sim.specs.declared.halt.Halt.TheVariants.{Exit, StepsSpent, Trap, InputFault, OutputFault}
use Rattle.rv_sim.specs.Devices.{halt_of, ending_at, is_fault, ExecutesWithin, length_of, ComesTo, DeviceFails, HasRun}
use Rattle.rv_sim.proofs.Events.{GivesEvents-none, GivesEvents-join, held-none, held-join}
use Rattle.kk_base.proofs.Traces.{TakesFrom-split}

pub ComesTo-same : (events : List Event) (old new : Simulation) {n m : ℕ} → n ≡ m → ComesTo n events old new → ComesTo m events old new
ComesTo-same events old new same comes = subst (λ k. ComesTo k events old new) same comes

-- two runs of the definition
ComesTo-then : (n k : ℕ) (es fs : List Event) (a b c : Simulation) → ComesTo n es a b → ComesTo k fs b c → ComesTo (n + k) (es ++ fs) a c
ComesTo-then n k es fs a b c first second = λ left rest trace takes.
    let parts = TakesFrom-split es fs left rest takes in
    go_on-add rv32im (progress_of a left trace) n k
    ∙ ap (λ (after : Progress). go_on after (run k)) (first left parts.0 trace parts.1)
    ∙ second parts.0 rest (trace ++ es) parts.2
    ∙ ap (λ (events : List Event). progress_of c rest events) (append_assoc trace es fs)

-- an ended machine stays
ComesTo-more : (n m : ℕ) (es : List Event) (a b : Simulation) → n ≤ m → b.ending ≢ going → ComesTo n es a b → ComesTo m es a b
ComesTo-more n m es a b less ended comes = λ left rest trace takes.
    let sum : n + (m - n) ≡ m = omega arith in
    ap (λ k. go_on (progress_of a left trace) (run k)) (sym sum)
    ∙ go_on-add rv32im (progress_of a left trace) n (m - n)
    ∙ ap (λ (after : Progress). go_on after (run (m - n))) (comes left rest trace takes)
    ∙ go_on-ended (progress_of b rest (trace ++ es)) (run (m - n)) ended

ended_as : (a b : Ending) → a ≡ b → b ≢ going → a ≢ going
ended_as a b same ended = λ is. ended (sym same ∙ is)

-- ---- answers that are no device's

pub halt_of-ending : (e : Ending) → ending_at (halt_of e) ≡ e
halt_of-ending going = refl
halt_of-ending (exited n) = refl
halt_of-ending (trapped c p w) = refl

pub halt_of-no_fault : (e : Ending) → is_fault (halt_of e) ≡ false
halt_of-no_fault going = refl
halt_of-no_fault (exited n) = refl
halt_of-no_fault (trapped c p w) = refl

executes-none : (e : Ending) (n : ℕ) → ExecutesWithin (halt_of e) 0 n n
executes-none going n = omega arith
executes-none (exited k) n = omega arith
executes-none (trapped c p w) n = omega arith

pub fails-none : (e : Ending) (s : Simulation) → DeviceFails (halt_of e) [] s
fails-none going s = refl
fails-none (exited k) s = refl
fails-none (trapped c p w) s = refl

length-none : (e : Ending) (n : ℕ) → 0 ≡ length_of (halt_of e) 0 (n - n)
length-none going n = refl
length-none (exited k) n = refl
length-none (trapped c p w) n = refl

-- a run of no steps
pub HasRun-none : (s : Simulation) (left : SourceState) (held : SinkState) → s.faulted ≡ false → HasRun (halt_of s.ending) 0 s s left left held held
HasRun-none s left held sound = record {
  events = [];
  cut = [];
  given = GivesEvents-none left;
  held = held-none held.held;
  comes = ComesTo-same [] s s (length-none s.ending s.executed) (λ before rest trace same.
      go_on-none rv32im (progress_of s before trace) ∙ ap (λ (xs : List ℕ). progress_of s xs trace) same ∙ ap (λ (es : List Event). progress_of s rest es) (sym (append-nil trace)));
  stays = λ ended. refl;
  ending = sym (halt_of-ending s.ending);
  faulted = sound ∙ sym (halt_of-no_fault s.ending);
  later = omega arith;
  executed = executes-none s.ending s.executed;
  fails = fails-none s.ending s;
}

pub HasRun-same : {answer answer' : Halt} {n m : ℕ} {a b : Simulation} {l l' : SourceState} {h h' : SinkState} → answer ≡ answer' → n ≡ m → HasRun answer n a b l l' h h' → HasRun answer' m a b l l' h h'
HasRun-same {answer} {answer'} {n} {m} {a} {b} {l} {l'} {h} {h'} same_answer same ran =
    subst (λ (r : Halt). HasRun r m a b l l' h h') same_answer (subst (λ (k : ℕ). HasRun answer k a b l l' h h') same ran)

-- ---- one run after the other

length-then : (answer : Halt) (n k a b c : ℕ) → b ≡ a + n → b ≤ c → n + length_of answer k (c - b) ≡ length_of answer (n + k) (c - a)
length-then (Exit e) n k a b c is later = refl
length-then StepsSpent n k a b c is later = refl
length-then (Trap e p w) n k a b c is later = refl
length-then InputFault n k a b c is later = omega arith
length-then OutputFault n k a b c is later = omega arith

executes-then : (answer : Halt) (n k a b c : ℕ) → b ≡ a + n → ExecutesWithin answer k b c → ExecutesWithin answer (n + k) a c
executes-then (Exit e) n k a b c is more = omega arith
executes-then StepsSpent n k a b c is more = omega arith
executes-then (Trap e p w) n k a b c is more = omega arith
executes-then InputFault n k a b c is more = omega arith
executes-then OutputFault n k a b c is more = omega arith

-- a machine that had ended has not gone on
pub HasRun-stays : (answer : Halt) (n : ℕ) (a b : Simulation) (l l' : SourceState) (h h' : SinkState) → HasRun answer n a b l l' h h' → a.ending ≢ going
    → (left : List ℕ) (trace : List Event) → progress_of b left trace ≡ progress_of a left trace
HasRun-stays answer n a b l l' h h' ran ended left trace =
    let none = ran.stays ended in
    let takes : TakesFrom ran.events left left = subst (λ (es : List Event). TakesFrom es left left) (sym none) refl in
    ap (λ (es : List Event). progress_of b left es) (sym (append-nil trace) ∙ ap (λ (es : List Event). trace ++ es) (sym none))
    ∙ sym (ran.comes left left trace takes) ∙ go_on-ended (progress_of a left trace) (run (length_of answer n (b.executed - a.executed))) ended

pub HasRun-then : (answer : Halt) (n k : ℕ) (a b c : Simulation) (l l' l'' : SourceState) (h h' h'' : SinkState)
    → HasRun StepsSpent n a b l l' h h' → HasRun answer k b c l' l'' h' h'' → HasRun answer (n + k) a c l l'' h h''
HasRun-then answer n k a b c l l' l'' h h' h'' first second =
    let whole_held = subst (λ (cut : List ℕ). h'.held ≡ option_map (λ before. before ++ (output_of first.events ++ cut)) h.held) first.fails first.held in
    record {
      events = first.events ++ second.events;
      cut = second.cut;
      given = GivesEvents-join first.events second.events l l' l'' first.given second.given;
      held = held-join first.events second.events second.cut h.held h'.held h''.held whole_held second.held;
      comes = ComesTo-same (first.events ++ second.events) a c (length-then answer n k a.executed b.executed c.executed first.executed second.later)
          (ComesTo-then n (length_of answer k (c.executed - b.executed)) first.events second.events a b c first.comes second.comes);
      stays = λ ended. absurd (ended (ap (λ (after : Progress). after.ending) (sym (HasRun-stays StepsSpent n a b l l' h h' first ended [] [])) ∙ first.ending));
      ending = second.ending;
      faulted = second.faulted;
      later = omega (arith, first.later, second.later);
      executed = executes-then answer n k a.executed b.executed c.executed first.executed second.executed;
      fails = second.fails;
    }

-- ---- a greater budget

length-more : (answer : Halt) (n m executed : ℕ) (es : List Event) (a b : Simulation) → answer ≢ StepsSpent → n ≤ m → b.ending ≡ ending_at answer
    → ComesTo (length_of answer n executed) es a b → ComesTo (length_of answer m executed) es a b
length-more (Exit e) n m executed es a b early less is comes = ComesTo-more n m es a b less (ended_as b.ending (exited e) is (λ same. cc)) comes
length-more StepsSpent n m executed es a b early less is comes = absurd (early refl)
length-more (Trap c p w) n m executed es a b early less is comes = ComesTo-more n m es a b less (ended_as b.ending (trapped c p w) is (λ same. cc)) comes
length-more InputFault n m executed es a b early less is comes = comes
length-more OutputFault n m executed es a b early less is comes = comes

executes-more : (answer : Halt) (n m a b : ℕ) → answer ≢ StepsSpent → n ≤ m → ExecutesWithin answer n a b → ExecutesWithin answer m a b
executes-more (Exit e) n m a b early less holds = omega arith
executes-more StepsSpent n m a b early less holds = absurd (early refl)
executes-more (Trap c p w) n m a b early less holds = omega arith
executes-more InputFault n m a b early less holds = omega arith
executes-more OutputFault n m a b early less holds = omega arith

-- what has stopped within a budget stops so within a greater one
pub HasRun-more : (answer : Halt) (n m : ℕ) (a b : Simulation) (l l' : SourceState) (h h' : SinkState) → answer ≢ StepsSpent → n ≤ m → HasRun answer n a b l l' h h' → HasRun answer m a b l l' h h'
HasRun-more answer n m a b l l' h h' early less ran = record {
  events = ran.events;
  cut = ran.cut;
  given = ran.given;
  held = ran.held;
  comes = length-more answer n m (b.executed - a.executed) ran.events a b early less ran.ending ran.comes;
  stays = ran.stays;
  ending = ran.ending;
  faulted = ran.faulted;
  later = ran.later;
  executed = executes-more answer n m a.executed b.executed early less ran.executed;
  fails = ran.fails;
}

-- what has ended within a budget has ended so within a greater one
pub HasRun-ended : (e : Ending) (n m : ℕ) (a b : Simulation) (l l' : SourceState) (h h' : SinkState) → e ≢ going → n ≤ m → HasRun (halt_of e) n a b l l' h h' → HasRun (halt_of e) m a b l l' h h'
HasRun-ended going n m a b l l' h h' ended less ran = absurd (ended refl)
HasRun-ended (exited k) n m a b l l' h h' ended less ran = HasRun-more (Exit k) n m a b l l' h h' (λ same. cc) less ran
HasRun-ended (trapped c p w) n m a b l l' h h' ended less ran = HasRun-more (Trap c p w) n m a b l l' h h' (λ same. cc) less ran
