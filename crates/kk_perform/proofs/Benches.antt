-- How `bench` comes to its answers.
use Rattle.std.proofs.Common.{◌≡◌, ℕ, List, [], length, Bool, true, false, Some, refl, sym, ap, subst, ◌∙◌, inr}
use Rattle.kk_base.specs.Sink.{SinkState}
use Rattle.kk_base.specs.Source.{SourceState}
use Rattle.kk_base.specs.Store.{StoreState}
use Rattle.kk_gen.specs.Generated.{generated}
use Rattle.kk_build.specs.Built.{IsBuilt}
use Rattle.kk_base.specs.declared.refusal.Refusal.{Refusal}
use Rattle.kk_front.specs.Judgement.{Refuses}
use Rattle.kk_build.specs.ImageAfter.{free_cells}
use Rattle.rv_sim.specs.Simulation.{Simulation, processor_of}
use Rattle.rv_sim.specs.declared.halt.Halt.{Halt}
use Rattle.kk_answer.specs.Line.{summary_line}
use Rattle.kk_answer.specs.Puts.{Puts}
use Rattle.kk_answer.specs.declared.answer.Answer.{Answer}
use Rattle.kk_answer.specs.declared.answer.Answer.TheVariants.{NoMemory, Ran}
use Rattle.kk_answer.specs.declared.answer.RunEnd.{RunEnd}
use Rattle.kk_answer.specs.declared.answer.RunEnd.TheVariants as OfRun
use Rattle.kk_command.specs.Requests.{Request, bench}
use Rattle.kk_perform.specs.Answers.{Answers, no_memory, bench_stopped, bench_ended, tells_statistics, told_end}
use Rattle.kk_perform.specs.ImageRuns.{IsMeasured}
use Rattle.kk_perform.specs.Internal.{answer_of_refusal, HasStopped, AnswersBench, without_line, with_line}
use Rattle.kk_perform.specs.Outside.{KeepsFiles, outside}
use Rattle.kk_perform.specs.SourceRuns.{halt_for}
use Rattle.kk_perform.proofs.ImageRuns.{stops_alike}
use Rattle.kk_perform.proofs.Rows.{text_refused, never}
use Rattle.kk_perform.proofs.SourceRuns.{means_run}
use Rattle.kk_perform.proofs.Stores.{same_files}

-- the one end of which the statistics are told
ends_by_itself : (end : RunEnd) → tells_statistics true end ≡ true → end ≡ OfRun.Ended
ends_by_itself OfRun.Ended asked = refl
ends_by_itself OfRun.HeapFull asked = absurd (never asked)
ends_by_itself OfRun.StackFull asked = absurd (never asked)
ends_by_itself OfRun.StepsSpent asked = absurd (never asked)
ends_by_itself OfRun.InputFault asked = absurd (never asked)
ends_by_itself OfRun.OutputFault asked = absurd (never asked)

-- the answer to a run, with a line and without
module _ (halt : Halt) (machine : Simulation) (cells depth steps source image : ℕ) (out out' : SinkState) where
  pub answered_with_line : (end told : RunEnd) (whole : Bool) (instructions free : ℕ) → halt_for end ≡ halt
      → tells_statistics true end ≡ true
      → instructions ≡ machine.executed → free ≡ free_cells cells (processor_of machine [] [])
      → Puts whole (summary_line source image instructions free) out out' → told ≡ told_end whole
      → AnswersBench halt machine cells depth steps source image out out' (Ran told cells depth steps)
  answered_with_line end told whole instructions free is asked executed left puts told_is =
      let P : RunEnd → Type 0 = λ e. AnswersBench halt machine cells depth steps source image out out' (Ran e cells depth steps) in
      let stops = sym (ap halt_for (ends_by_itself end asked)) ∙ is in
      subst P (sym told_is) (with_line whole instructions free stops executed left puts)

-- what is built of the generated text
pub generated_built : (seed size cells depth : ℕ) (text slice image : List ℕ) → text ≡ generated seed size → slice ≡ text
    → IsBuilt slice cells depth image
    → IsBuilt (generated seed size) cells depth image
generated_built seed size cells depth text slice image is same made =
    let P : List ℕ → Type 0 = λ t. IsBuilt t cells depth image in
    subst P (same ∙ is) made

module _ (store : StoreState) (seed size cells depth steps : ℕ) where
  abbrev request : Request
  request = bench seed size cells depth steps

  untouched : KeepsFiles store store
  untouched = record { files = same_files store.files; last_failed = refl; faults = refl }

  -- a generated text that is refused
  pub generated_refused : (input : SourceState) (out : SinkState) (image text slice : List ℕ) (refusal : Refusal) (answer : Answer)
      → text ≡ generated seed size → slice ≡ text → answer ≡ answer_of_refusal refusal → Refuses slice refusal
      → Answers (outside store input out image) (outside store input out image) (Some request) answer
  generated_refused input out image text slice refusal answer is same told refuses =
      text_refused store store input out image text slice refusal answer request same told is untouched refuses

  -- what becomes of its image
  module _ (image image' : List ℕ) (made : IsBuilt (generated seed size) cells depth image') (input input' : SourceState)
      (output middle output' : SinkState) where
    -- what `bench` comes to, by its answer
    abbrev Comes : Answer → Type 0
    Comes answer = Answers (outside store input output image) (outside store input' output' image') (Some request) answer

    stopped_so : (machine : Simulation) (end : RunEnd) → tells_statistics true end ≡ false → output' ≡ middle
        → HasStopped image' steps (halt_for end) machine input input' output middle → Comes (Ran end cells depth steps)
    stopped_so machine end quiet same has =
        let S : SinkState → Type 0 = λ out. HasStopped image' steps (halt_for end) machine input input' output out in
        let now = subst S (sym same) has in
        bench_stopped seed size cells depth steps end quiet made now.runs
        (means_run made.program image' cells depth made.is_file.setting made.is_file.is_run made.is_file.agrees end now.runs.count now.runs.events
        now.runs.done) untouched

    ended_so : (machine : Simulation) (whole : Bool) (instructions free : ℕ) → instructions ≡ machine.executed
        → free ≡ free_cells cells (processor_of machine [] [])
        → HasStopped image' steps (halt_for OfRun.Ended) machine input input' output middle
        → Puts whole (summary_line (length (generated seed size)) (length image') instructions free) middle output'
        → Comes (Ran (told_end whole) cells depth steps)
    ended_so machine whole instructions free executed left has puts =
        let is : IsMeasured image' has.runs.count has.runs.events cells instructions free =
        λ input rest takes. let both = has.measured cells input rest takes in (both.0 ∙ sym executed, both.1 ∙ sym left) in
        bench_ended seed size cells depth steps instructions free whole middle made has.runs
        (means_run made.program image' cells depth made.is_file.setting made.is_file.is_run made.is_file.agrees OfRun.Ended has.runs.count has.runs.events
        has.runs.done) is puts untouched

    by_answer : (halt : Halt) (machine : Simulation) (answer : Answer)
        → HasStopped image' steps halt machine input input' output middle
        → AnswersBench halt machine cells depth steps (length (generated seed size)) (length image') middle output' answer
        → Comes answer
    by_answer halt machine _ has (without_line end is quiet same) =
        stopped_so machine end quiet same (stops_alike image' steps halt (halt_for end) machine input input' output middle is has)
    by_answer halt machine _ has (with_line whole instructions free is executed left puts) =
        ended_so machine whole instructions free executed left
        (stops_alike image' steps halt (halt_for OfRun.Ended) machine input input' output middle is has) puts

    pub generated_ran : (slice : List ℕ) (halt : Halt) (machine : Simulation) (source bytes : ℕ) (answer : Answer) → slice ≡ image'
        → source ≡ length (generated seed size)
        → bytes ≡ length image' → HasStopped slice steps halt machine input input' output middle
        → AnswersBench halt machine cells depth steps source bytes middle output' answer → Comes answer
    generated_ran slice halt machine source bytes answer same source_is bytes_are has answers =
        let P : List ℕ → Type 0 = λ held. HasStopped held steps halt machine input input' output middle in
        let Q : ℕ → Type 0 = λ n. AnswersBench halt machine cells depth steps n bytes middle output' answer in
        let text = length (generated seed size) in
        let R : ℕ → Type 0 = λ n. AnswersBench halt machine cells depth steps text n middle output' answer in
        by_answer halt machine answer (subst P same has) (subst R bytes_are (subst Q source_is answers))

  -- the image could not be loaded for want of memory
  pub generated_idle : (image image' : List ℕ) → IsBuilt (generated seed size) cells depth image'
      → (input input' : SourceState) (output output' : SinkState)
      → input' ≡ input → output' ≡ output
      → Answers (outside store input output image) (outside store input' output' image') (Some request) NoMemory
  generated_idle image image' made input input' output output' same_input same_out =
      no_memory (Some request) untouched (record { input = same_input; out = same_out }) (inr made)
