-- The processor's machine does what runs do: its states, its traces and its endings are those of runs.
use Rattle.std.proofs.Common.{◌≡◌, ℕ, zero, suc, [], ◌++◌, refl, sym, ap, ◌∙◌, append-nil}
use Rattle.kk_base.specs.Trace.{IsPrefix}
use Rattle.kk_base.specs.Machines.{trace, state, ending_after}
use Rattle.kk_base.proofs.Machines.{told_after, state_ended}
use Rattle.rv_isa.specs.Processor.{Processor, Ending, going, exited, trapped, Progress, goes}
use Rattle.rv_isa.specs.InstructionSet.{InstructionSet, step_over, resumes, go_on, run_over}
use Rattle.rv_isa.specs.ProcessorMachine.{ended, processor_machine}
use Rattle.rv_isa.proofs.Runs.{run-suc, go_on-none}
use Rattle.rv_isa.proofs.Cases.{step-trace}

module _ {I : Type 0} (set : InstructionSet I) where
  -- the states
  state-by : (n : ℕ) (e : Ending) (s : Processor)
      → ((t : Progress) → state (processor_machine set) n t ≡ go_on t (run_over set n))
      → state (processor_machine set) (suc n) (record { processor = s; ending = e }) ≡ resumes e s (run_over set (suc n))
  state-by n going s rest = rest (step_over set s) ∙ sym (run-suc set n s)
  state-by n (exited number) s rest = state_ended (processor_machine set) n (record { processor = s; ending = exited number }) (exited number) refl
  state-by n (trapped cause pc word) s rest = state_ended (processor_machine set) n (record { processor = s; ending = trapped cause pc word }) (trapped cause pc word) refl

  pub state-processor : (n : ℕ) (progress : Progress) → state (processor_machine set) n progress ≡ go_on progress (run_over set n)
  state-processor zero progress = sym (go_on-none set progress)
  state-processor (suc n) progress = state-by n progress.ending progress.processor (state-processor n)

  pub state-run : (n : ℕ) (s : Processor) → state (processor_machine set) n (goes s) ≡ run_over set n s
  state-run n s = state-processor n (goes s)

  -- the traces: a run has done what it had done before, and the machine's trace
  grows : (e : Ending) (s : Processor) → IsPrefix s.trace (resumes e s (step_over set)).processor.trace
  grows going s = step-trace set s
  grows (exited number) s = ([], append-nil s.trace)
  grows (trapped cause pc word) s = ([], append-nil s.trace)

  pub trace-run : (n : ℕ) (s : Processor) → (run_over set n s).processor.trace ≡ s.trace ++ trace (processor_machine set) n (goes s)
  trace-run n s =
      ap (λ (progress : Progress). progress.processor.trace) (sym (state-run n s))
      ∙ told_after (λ (progress : Progress). ended progress.ending) (λ progress. go_on progress (step_over set)) (λ progress. progress.processor.trace)
      (λ progress. grows progress.ending progress.processor) n (goes s)

  -- the endings
  pub ending-run : (n : ℕ) (s : Processor) → ending_after (processor_machine set) n (goes s) ≡ ended (run_over set n s).ending
  ending-run n s = ap (λ (progress : Progress). ended progress.ending) (state-run n s)
