-- Instructions that tell nothing may come before a run that agrees with another machine's.
use Rattle.std.proofs.Common.{◌≡◌, ◌≤◌, ℕ, ◌+◌, ◌*◌, List, [], ◌++◌, Some, sym, ap, subst, ◌∙◌, arith}
use Rattle.std.proofs.lemmas.List.{append-nil, append_cancel_left}
use Rattle.kk_base.specs.Trace.{Event, IsPrefix}
use Rattle.kk_base.specs.Machines.{Machine, weight_unless, trace, state, weight_of, ending_after}
use Rattle.kk_base.specs.Agreements.{Does, Agree}
use Rattle.kk_base.proofs.Machines.{state-add, trace-add, weight_of-add, trace_grows, trace_stays, ending_stays, weight_of-at_most}
use Rattle.kk_base.proofs.Agreements.{prefix_through}
use Rattle.rv_isa.specs.Processor.{Processor, Ending, going, exited, trapped, Progress, goes}
use Rattle.rv_isa.specs.Execution.{rv32im, Leads}
use Rattle.rv_isa.specs.ProcessorMachine.{ended, processor_machine}
use Rattle.rv_isa.proofs.Runs.{Leads-run}
use Rattle.rv_isa.proofs.ProcessorMachines.{state-run, trace-run}

-- silent steps of the lower machine come first: their weight is more credit
pub agree_after : {S T E W : Type 0} (upper : Machine S E W) (lower : Machine T E W) (credit more steps : ℕ) (up : ℕ → ℕ) (s : S) (t : T)
    → trace lower steps t ≡ [] → weight_of lower steps t ≤ more → Agree upper lower credit up s (state lower steps t) → Agree upper lower (credit + more) up s t
agree_after {T = T} {E = E} {W = W} upper lower credit more steps up s t silent light agree =
    let then : T = state lower steps t in
    let later : (m : ℕ) → trace lower (steps + m) t ≡ trace lower m then = λ m. trace-add lower steps m t ∙ ap (λ (before : List E). before ++ trace lower m then) silent in
    let end : (m : ℕ) (w : W) → ending_after lower m t ≡ Some w → ending_after lower m then ≡ Some w =
    λ m w e. ap lower.ending (sym (state-add lower steps m t)) ∙ ending_stays lower m (steps + m) t w e (omega arith) in
    record {
      downwards = λ n.
          let done : Does lower (weight_of upper n s + credit) (trace upper n s) (ending_after upper n s) then = agree.downwards n in
          record {
            steps = steps + done.steps;
            weighs = omega (arith, weight_of-add lower steps done.steps t, done.weighs, light);
            events_are = later done.steps ∙ done.events_are;
            ending_is = ap lower.ending (state-add lower steps done.steps t) ∙ done.ending_is;
          };
      upwards = record {
        prefix = λ m.
            let grows : IsPrefix (trace lower m t) (trace lower (steps + m) t) = trace_grows lower m (steps + m) t (omega arith) in
            prefix_through (trace lower m t) (trace lower m then) (trace upper (up m) s) (subst (λ whole. IsPrefix (trace lower m t) whole) (later m) grows) (agree.upwards.prefix m);
        ending = λ m w e. agree.upwards.ending m w (end m w e);
        whole = λ m w e. agree.upwards.whole m w (end m w e) ∙ sym (later m) ∙ trace_stays lower m (steps + m) t w e (omega arith);
      };
    }

one_each : (ending : Ending) → weight_unless (ended ending) 1 ≤ 1
one_each going = omega arith
one_each (exited number) = omega arith
one_each (trapped cause pc word) = omega arith

-- instructions that leave the trace as it was have no events
pub silent_instructions : {k : ℕ} {p q : Processor} → Leads k p q → q.trace ≡ p.trace → trace (processor_machine rv32im) k (goes p) ≡ []
silent_instructions {k} {p} {q} leads told =
    append_cancel_left p.trace (trace (processor_machine rv32im) k (goes p)) []
    (sym (trace-run rv32im k p) ∙ ap (λ (progress : Progress). progress.processor.trace) (Leads-run leads) ∙ told ∙ sym (append-nil p.trace))

-- a few silent instructions lead to a processor that agrees with another machine: so does the one before them, with more credit
pub agree_after_instructions : {S : Type 0} (upper : Machine S Event Ending) (credit more k : ℕ) (up : ℕ → ℕ) (s : S) (p q : Processor)
    → k ≤ more → Leads k p q → q.trace ≡ p.trace → Agree upper (processor_machine rv32im) credit up s (goes q)
    → Agree upper (processor_machine rv32im) (credit + more) up s (goes p)
agree_after_instructions upper credit more k up s p q few leads told agree =
    let machine : Machine Progress Event Ending = processor_machine rv32im in
    let comes : state machine k (goes p) ≡ goes q = state-run rv32im k p ∙ Leads-run leads in
    let silent : trace machine k (goes p) ≡ [] = silent_instructions leads told in
    let weighs : weight_of machine k (goes p) ≤ 1 * k = weight_of-at_most machine 1 (λ progress. one_each progress.ending) k (goes p) in
    agree_after upper machine credit more k up s (goes p) silent (omega arith) (subst (λ then. Agree upper machine credit up s then) (sym comes) agree)
