-- Where no count of faults rises, no fault is answered.
use Rattle.std.proofs.Common.{◌≡◌, ◌==◌, ℕ, List, Bool, true, false, not, cond, Option, refl, ap, subst, ◌∙◌}
use Rattle.kk_base.specs.Faults.{Rose, Rises}
use Rattle.kk_base.specs.Sink.{SinkState}
use Rattle.kk_base.specs.declared.refusal.Refusal.{Refusal}
use Rattle.kk_base.specs.declared.refusal.Refusal.TheVariants as OfText
use Rattle.kk_base.specs.declared.status.Status.{Status}
use Rattle.kk_base.specs.declared.status.Status.TheVariants as OfStatus
use Rattle.kk_front.specs.Judgement.{wants_memory}
use Rattle.kk_answer.specs.declared.answer.Answer.{Answer}
use Rattle.kk_answer.specs.declared.answer.RunEnd.{RunEnd}
use Rattle.kk_answer.specs.declared.answer.RunEnd.TheVariants as OfRun
use Rattle.rv_sim.specs.declared.halt.Halt.{Halt}
use Rattle.rv_sim.specs.declared.halt.Halt.TheVariants as OfHalt
use Rattle.kk_answer.specs.Ending.{EndsWith}
use Rattle.kk_answer.specs.Puts.{Puts}
use Rattle.kk_answer.specs.Answer.{fault_status, run_status, halt_status, status_of}
use Rattle.kk_perform.specs.Answers.{Answers, usage, no_memory, unread, refused, checked, built, unwritten, ran, measured, bad_image, simulated, evaluated, cut_short, bench_stopped, bench_ended, told_end, Faultless, is_fault_status}
use Rattle.kk_source.specs.State.{Setting}
use Rattle.kk_eval.specs.Evaluations.{RunsSource}
use Rattle.kk_perform.specs.ImageRuns.{RunsImage}
use Rattle.kk_perform.specs.Outside.{Outside}
use Rattle.kk_command.specs.Requests.{Request}
use Rattle.kk_perform.specs.SourceRuns.{halt_for}

fault_no_fault : (refusal : Refusal) → is_fault_status (fault_status refusal) ≡ false
fault_no_fault (OfText.Over limit) = refl
fault_no_fault (OfText.Lex error) = refl
fault_no_fault (OfText.Parse error) = refl
fault_no_fault (OfText.Name error) = refl
fault_no_fault (OfText.NotTyped function) = refl
fault_no_fault (OfText.NotCovered function example) = refl
fault_no_fault OfText.NoMemory = refl

by_want : (refusal : Refusal) (wants : Bool) → is_fault_status (cond wants OfStatus.NoMemory (fault_status refusal)) ≡ false
by_want refusal true = refl
by_want refusal false = fault_no_fault refusal

by_exit : (ends_well : Bool) → is_fault_status (cond ends_well OfStatus.Done OfStatus.ImageExit) ≡ false
by_exit true = refl
by_exit false = refl

-- a line that was not put whole is a fault of its sink
failed_line : (answer : Answer) (status : Status) (err err' : SinkState) (ends : EndsWith answer status err err') → ends.whole ≡ false → Rose err.faults err'.faults
failed_line answer status err err' ends is =
    let P : Bool → Type 0 = λ whole. Rises (not whole) err.faults err'.faults in
    subst P is ends.line.faults

module _ (before after : Outside) (err err' : SinkState) (faultless : Faultless before after err err') where
  no_run_fault : (image : List ℕ) (steps : ℕ) (end : RunEnd) → RunsImage image steps (halt_for end) before.input after.input before.out after.out → is_fault_status (run_status end) ≡ false
  no_run_fault image steps OfRun.Ended runs = refl
  no_run_fault image steps OfRun.HeapFull runs = refl
  no_run_fault image steps OfRun.StackFull runs = refl
  no_run_fault image steps OfRun.StepsSpent runs = refl
  no_run_fault image steps OfRun.InputFault runs = absurd (faultless.input runs.input_faults)
  no_run_fault image steps OfRun.OutputFault runs = absurd (faultless.out runs.output_faults)

  no_halt_fault : (image : List ℕ) (steps : ℕ) (halt : Halt) → RunsImage image steps halt before.input after.input before.out after.out → is_fault_status (halt_status halt) ≡ false
  no_halt_fault image steps (OfHalt.Exit number) runs = by_exit (number == 0)
  no_halt_fault image steps OfHalt.StepsSpent runs = refl
  no_halt_fault image steps (OfHalt.Trap cause pc word) runs = refl
  no_halt_fault image steps OfHalt.InputFault runs = absurd (faultless.input runs.input_faults)
  no_halt_fault image steps OfHalt.OutputFault runs = absurd (faultless.out runs.output_faults)

  no_source_fault : (setting : Setting) (steps : ℕ) (end : RunEnd) → RunsSource setting steps end before.input after.input before.out after.out → is_fault_status (run_status end) ≡ false
  no_source_fault setting steps OfRun.Ended runs = refl
  no_source_fault setting steps OfRun.HeapFull runs = refl
  no_source_fault setting steps OfRun.StackFull runs = refl
  no_source_fault setting steps OfRun.StepsSpent runs = refl
  no_source_fault setting steps OfRun.InputFault runs = absurd (faultless.input runs.input_faults)
  no_source_fault setting steps OfRun.OutputFault runs = absurd (faultless.out runs.output_faults)

  -- a line of `bench` that was not put whole is a fault of the output
  no_bench_fault : (image line : List ℕ) (steps : ℕ) (whole : Bool) (middle : SinkState)
      → RunsImage image steps (halt_for OfRun.Ended) before.input after.input before.out middle
      → Puts whole line middle after.out → is_fault_status (run_status (told_end whole)) ≡ false
  no_bench_fault image line steps true middle runs puts = refl
  no_bench_fault image line steps false middle runs puts =
      let P : ℕ → Type 0 = λ n. Rises true n after.out.faults in
      absurd (faultless.out (subst P runs.output_faults puts.faults))

  no_answer_fault : (request : Option Request) (answer : Answer) → Answers before after request answer → is_fault_status (status_of answer) ≡ false
  no_answer_fault _ _ (usage kept) = refl
  no_answer_fault _ _ (no_memory request files streams image) = refl
  no_answer_fault _ _ (unread request name is fails streams image) = absurd (faultless.files fails.fails.faults)
  no_answer_fault _ _ (refused request text refusal has is kept) = by_want refusal (wants_memory refusal)
  no_answer_fault _ _ (checked file text program has is kept) = refl
  no_answer_fault _ _ (built file out cells depth made written streams) = refl
  no_answer_fault _ _ (unwritten file out cells depth name is made fails streams) = absurd (faultless.files fails.fails.faults)
  no_answer_fault _ _ (ran file cells depth steps stats end quiet made runs means kept) = no_run_fault after.image steps end runs
  no_answer_fault _ _ (measured file cells depth steps stats instructions free asked made runs means is kept) = refl
  no_answer_fault _ _ (bad_image file steps reason condition has is number kept streams) = refl
  no_answer_fault _ _ (simulated file steps halt has loads runs kept) = no_halt_fault after.image steps halt runs
  no_answer_fault _ _ (evaluated file text cells depth steps end program setting has is run runs kept image) = no_source_fault setting steps end runs
  no_answer_fault _ _ (cut_short file text cells depth steps program setting has is run runs kept image) = refl
  no_answer_fault _ _ (bench_stopped seed size cells depth steps end quiet made runs means kept) =
      no_run_fault after.image steps end runs
  no_answer_fault _ _ (bench_ended seed size cells depth steps instructions free whole middle made runs means is puts kept) =
      no_bench_fault after.image _ steps whole middle runs puts

  by_line : (answer : Answer) (status : Status) → is_fault_status (status_of answer) ≡ false → EndsWith answer status err err' → is_fault_status status ≡ false
  by_line answer status none ends =
      elim ends.whole as (λ b. ends.whole ≡ b → is_fault_status status ≡ false) [
        | true ↦ λ is. ap is_fault_status (ends.told ∙ ap (λ (b : Bool). cond b (status_of answer) OfStatus.OutputFault) is) ∙ none
        | false ↦ λ is. absurd (faultless.line (failed_line answer status err err' ends is))
      ] refl

pub no_fault : (before after : Outside) (err err' : SinkState) (request : Option Request) (answer : Answer) (status : Status) → Answers before after request answer → EndsWith answer status err err' → Faultless before after err err' → is_fault_status status ≡ false
no_fault before after err err' request answer status answers ends faultless = by_line before after err err' faultless answer status (no_answer_fault before after err err' faultless request answer answers) ends
