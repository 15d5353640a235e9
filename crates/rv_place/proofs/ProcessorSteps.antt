-- From what a run of the processor comes to, the steps of its machine that a simulation asks for.
use Rattle.std.proofs.Common.{◌≡◌, ◌≤◌, ◌<◌, ℕ, zero, suc, ◌+◌, ◌*◌, List, ◌++◌, Option, Some, None, length, drop, sym, ap, ◌∙◌, subst, arith}
use Rattle.std.proofs.Math.Seq.{drop-append_seam}
use Rattle.kk_base.specs.Trace.{Event}
use Rattle.kk_base.specs.Machines.{trace, weight_of, weight_unless}
use Rattle.kk_base.specs.Simulations.{Reaches}
use Rattle.rv_isa.specs.Processor.{Processor, Ending, Progress, goes}
use Rattle.rv_isa.specs.Execution.{rv32im, run}
use Rattle.rv_isa.specs.ProcessorMachine.{ended, processor_machine}
use Rattle.rv_isa.proofs.ProcessorMachines.{state-run, trace-run}

one_at_most : (how : Option Ending) → weight_unless how 1 ≤ 1
one_at_most None = omega arith
one_at_most (Some how) = omega arith

-- so many steps weigh so much at most
weight_at_most : (n : ℕ) (progress : Progress) → weight_of (processor_machine rv32im) n progress ≤ n
weight_at_most zero progress = omega arith
weight_at_most (suc n) progress =
    let first = one_at_most (ended progress.ending) in
    let rest = weight_at_most n ((processor_machine rv32im).step progress).1 in
    omega arith

new_events : (before events after : List Event) → after ≡ before ++ events → drop (length before) after ≡ events
new_events before events after is = ap (drop (length before)) is ∙ drop-append_seam before events

pub reaches : {S : Type 0} (Related : ℕ → ℕ → S → Progress → Type 0) (Passing : Progress → Type 0) (pace most idle n credit_after idle_after : ℕ) (s : Processor) (after : Progress) (before behind : List Event) (turn : S)
    → run n s ≡ after → before ≡ s.trace → behind ≡ after.processor.trace → n + credit_after ≤ most → 1 + idle_after ≤ n * pace + idle → ((k : ℕ) → k < n → Passing (run k s)) → Related credit_after idle_after turn after
    → Reaches (processor_machine rv32im) Related Passing pace most 1 idle (drop (length before) behind) turn (goes s)
reaches Related Passing pace most idle n credit_after idle_after s after before behind turn runs before_is behind_is within moves passes related =
    let state_is = state-run rv32im n s ∙ runs in
    let grown : behind ≡ before ++ trace (processor_machine rv32im) n (goes s) =
    behind_is ∙ ap (λ (p : Progress). p.processor.trace) (sym runs) ∙ trace-run rv32im n s ∙ ap (λ b. b ++ trace (processor_machine rv32im) n (goes s)) (sym before_is) in
    record {
      steps = n;
      credit_after = credit_after;
      idle_after = idle_after;
      paid = (let weight = weight_at_most n (goes s) in omega arith);
      moves = moves;
      events_are = sym (new_events before (trace (processor_machine rv32im) n (goes s)) behind grown);
      passes = λ k below. subst Passing (sym (state-run rv32im k s)) (passes k below);
      related = subst (Related credit_after idle_after turn) (sym state_is) related;
    }
