-- One instruction is a run of one step, also where a device fails at it.
use Rattle.std.proofs.Common.{◌≡◌, ℕ, ◌+◌, ◌-◌, List, [], ◌++◌, true, false, option_map, refl, sym, ap, ◌∙◌, arith, append-nil}
use Rattle.kk_base.specs.Source.{SourceState}
use Rattle.kk_base.specs.Sink.{SinkState}
use Rattle.kk_base.specs.Trace.{Event, output_of, TakesFrom}
use Rattle.rv_isa.specs.Processor.{Processor, Ending, going, exited, trapped, counted, Progress}
use Rattle.rv_isa.specs.InstructionSet.{resumes, go_on}
use Rattle.rv_isa.specs.Execution.{rv32im, run, step}
use Rattle.rv_isa.proofs.Runs.{run-one, go_on-none}
use Rattle.rv_isa.proofs.Cases.{step-executed}
use Rattle.rv_sim.specs.Turns.{TurnDoes, NextDoes}
use Rattle.rv_sim.specs.Simulation.{Simulation, processor_of, progress_of}
use Rattle.rv_sim.specs.declared.halt.Turn.TheVariants.{Over}
use Rattle.rv_sim.specs.declared.halt.Halt.{Halt}
use Rattle.rv_sim.specs.declared.halt.Halt.TheVariants.{Exit, StepsSpent, Trap, InputFault, OutputFault}
use Rattle.rv_sim.specs.Devices.{halt_of, ending_at, is_fault, ExecutesWithin, length_of, GivesEvents, DeviceFails, HasRun}
use Rattle.rv_sim.proofs.Events.{GivesEvents-none, held-none}
use Rattle.rv_sim.proofs.RunComposition.{ComesTo-same, halt_of-ending, halt_of-no_fault, fails-none}

executes-one : (e : Ending) (n m : ℕ) → m ≡ n + counted e → ExecutesWithin (halt_of e) 1 n m
executes-one going n m is = omega arith
executes-one (exited k) n m is = omega arith
executes-one (trapped c p w) n m is = omega arith

length-one : (e : Ending) (n : ℕ) → 1 ≡ length_of (halt_of e) 1 n
length-one going n = refl
length-one (exited k) n = refl
length-one (trapped c p w) n = refl

ending_at-fault : (answer : Halt) → is_fault answer ≡ true → ending_at answer ≡ going
ending_at-fault (Exit k) is = cc
ending_at-fault StepsSpent is = refl
ending_at-fault (Trap c p w) is = cc
ending_at-fault InputFault is = refl
ending_at-fault OutputFault is = refl

executes-fault : (answer : Halt) (n : ℕ) → is_fault answer ≡ true → ExecutesWithin answer 1 n n
executes-fault (Exit k) n is = cc
executes-fault StepsSpent n is = cc
executes-fault (Trap c p w) n is = cc
executes-fault InputFault n is = omega arith
executes-fault OutputFault n is = omega arith

length-fault : (answer : Halt) (n : ℕ) → is_fault answer ≡ true → 0 ≡ length_of answer 1 (n - n)
length-fault (Exit k) n is = cc
length-fault StepsSpent n is = cc
length-fault (Trap c p w) n is = cc
length-fault InputFault n is = omega arith
length-fault OutputFault n is = omega arith

module _ (old new : Simulation) (ongoing : old.ending ≡ going) where
  one_step : (left : List ℕ) (trace : List Event) → go_on (progress_of old left trace) (run 1) ≡ step (processor_of old left trace)
  one_step left trace = ap (λ (e : Ending). resumes e (processor_of old left trace) (run 1)) ongoing ∙ run-one rv32im (processor_of old left trace)

  -- an instruction that no device failed at
  pub HasRun-one : (events : List Event) (l l' : SourceState) (h h' : SinkState) → new.faulted ≡ false → new.executed ≡ old.executed + counted new.ending
      → GivesEvents events l l' → h'.held ≡ option_map (λ before. before ++ (output_of events ++ [])) h.held
      → ((left rest : List ℕ) (trace : List Event) → TakesFrom events left rest → step (processor_of old left trace) ≡ progress_of new rest (trace ++ events))
      → HasRun (halt_of new.ending) 1 old new l l' h h'
  HasRun-one events l l' h h' sound executed given held steps = record {
    events = events;
    cut = [];
    given = given;
    held = held;
    comes = ComesTo-same events old new (length-one new.ending (new.executed - old.executed)) (λ left rest trace takes. one_step left trace ∙ steps left rest trace takes);
    stays = λ ended. absurd (ended ongoing);
    ending = sym (halt_of-ending new.ending);
    faulted = sound ∙ sym (halt_of-no_fault new.ending);
    later = omega arith;
    executed = executes-one new.ending old.executed new.executed executed;
    fails = fails-none new.ending new;
  }

  -- one that has done nothing on the outside
  pub HasRun-quiet : (what : Processor → Progress) (left : SourceState) (held : SinkState) → old.faulted ≡ false → NextDoes what old → TurnDoes what Over old new → HasRun (halt_of new.ending) 1 old new left left held held
  HasRun-quiet what left held sound next does =
      let after : (xs : List ℕ) (trace : List Event) → progress_of new xs trace ≡ step (processor_of old xs trace) = λ xs trace. does.0 xs trace ∙ sym (next xs trace) in
      HasRun-one [] left left held held (does.1 ∙ sound)
      (ap (λ (a : Progress). a.processor.executed) (after [] []) ∙ step-executed rv32im (processor_of old [] []) ∙ ap (λ (a : Progress). old.executed + counted a.ending) (sym (after [] [])))
      (GivesEvents-none left) (held-none held.held)
      (λ before rest trace same.
      sym (after before trace) ∙ ap (λ (xs : List ℕ). progress_of new xs trace) same ∙ ap (λ (es : List Event). progress_of new rest es) (sym (append-nil trace)))

-- an instruction that a device failed at
pub HasRun-failed : (answer : Halt) (cut : List ℕ) (old : Simulation) (l l' : SourceState) (h h' : SinkState) → is_fault answer ≡ true → old.ending ≡ going
    → GivesEvents [] l l' → h'.held ≡ option_map (λ before. before ++ ([] ++ cut)) h.held → DeviceFails answer cut (record old { faulted = true }) → HasRun answer 1 old (record old { faulted = true }) l l' h h'
HasRun-failed answer cut old l l' h h' is ongoing given held fails = record {
  events = [];
  cut = cut;
  given = given;
  held = held;
  comes = ComesTo-same [] old (record old { faulted = true }) (length-fault answer old.executed is) (λ left rest trace same.
      go_on-none rv32im (progress_of old left trace) ∙ ap (λ (xs : List ℕ). progress_of old xs trace) same ∙ ap (λ (es : List Event). progress_of old rest es) (sym (append-nil trace)));
  stays = λ ended. refl;
  ending = ongoing ∙ sym (ending_at-fault answer is);
  faulted = sym is;
  later = omega arith;
  executed = executes-fault answer old.executed is;
  fails = fails;
}
