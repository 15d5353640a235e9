-- What only private functions speak of.
use Rattle.std.specs.Prelude.{◌≡◌, List, [], All, ℕ, ◌<◌, Bool, true, false, Option, Some, None, if◌then◌else◌}
use Rattle.kk_base.specs.Sink.{SinkState}
use Rattle.kk_base.specs.Source.{SourceState}
use Rattle.kk_base.specs.declared.refusal.Refusal.{Refusal}
use Rattle.kk_build.specs.SourceMeaning.{exit_of}
use Rattle.kk_front.specs.Judgement.{wants_memory}
use Rattle.kk_build.specs.ImageAfter.{ExitsWell, file_after, free_cells}
use Rattle.rv_sim.specs.declared.halt.Halt.{Halt}
use Rattle.rv_sim.specs.Simulation.{Simulation, processor_of}
use Rattle.kk_answer.specs.declared.answer.Answer.{Answer}
use Rattle.kk_answer.specs.declared.answer.Answer.TheVariants.{Refused, NoMemory, Ran, Measured, BadImage}
use Rattle.kk_answer.specs.declared.answer.RunEnd.{RunEnd}
use Rattle.kk_answer.specs.declared.answer.RunEnd.TheVariants as OfRun
use Rattle.kk_answer.specs.Line.{summary_line}
use Rattle.kk_answer.specs.Puts.{Puts}
use Rattle.kk_command.specs.Requests.{Request, build, run, bench}
use Rattle.kk_perform.specs.Answers.{tells_statistics, told_end}
use Rattle.kk_perform.specs.ImageRuns.{RunsImage, IsMeasured}
use Rattle.kk_perform.specs.SourceRuns.{halt_for}

-- the answer to a text that is refused, or that was not judged for want of memory
abbrev pub answer_of_refusal : Refusal → Answer
answer_of_refusal refusal = if wants_memory refusal then NoMemory else Refused refusal

-- what is asked for needs an image of a text
abbrev pub builds : Request → Bool
builds (build file out cells depth) = true
builds (run file cells depth steps stats) = true
builds (bench seed size cells depth steps) = true
builds _ = false

-- the answer to a file that is no image, by the number of the condition that it fails; or that was not judged for want of memory
abbrev pub answer_of_condition : Option ℕ → Answer
answer_of_condition (Some condition) = BadImage condition
answer_of_condition None = NoMemory

-- an image was run for at most so many instructions and stopped so, and the machine is what it is then
pub record HasStopped (image : List ℕ) (steps : ℕ) (halt : Halt) (machine : Simulation) (input input' : SourceState) (out out' : SinkState) : Type 0 where
  pub runs : RunsImage image steps halt input input' out out'
  pub measured : (cells : ℕ) → IsMeasured image runs.count runs.events cells machine.executed (free_cells cells (processor_of machine [] []))

-- the answer to a run of a program, by why its image stopped and what the machine is then
pub data AnswersRun (halt : Halt) (machine : Simulation) (cells depth steps : ℕ) (stats : Bool) : Answer → Type 0 where
  without_statistics : (end : RunEnd) → halt_for end ≡ halt → tells_statistics stats end ≡ false → AnswersRun halt machine cells depth steps stats (Ran end cells depth steps)
  with_statistics : (end : RunEnd) (instructions free : ℕ) → halt_for end ≡ halt → tells_statistics stats end ≡ true
      → instructions ≡ machine.executed → free ≡ free_cells cells (processor_of machine [] [])
      → AnswersRun halt machine cells depth steps stats (Measured instructions free cells)

-- the answer to a run of a generated program, whose text and image have so many bytes, by why its image stopped and what the machine
-- is then, with what was put on the output behind it
pub data AnswersBench (halt : Halt) (machine : Simulation) (cells depth steps source image : ℕ) (out out' : SinkState)
    : Answer → Type 0 where
  without_line : (end : RunEnd) → halt_for end ≡ halt → tells_statistics true end ≡ false → out' ≡ out
      → AnswersBench halt machine cells depth steps source image out out' (Ran end cells depth steps)
  with_line : (whole : Bool) (instructions free : ℕ) → halt_for OfRun.Ended ≡ halt → instructions ≡ machine.executed
      → free ≡ free_cells cells (processor_of machine [] []) → Puts whole (summary_line source image instructions free) out out'
      → AnswersBench halt machine cells depth steps source image out out' (Ran (told_end whole) cells depth steps)

-- on each input of bytes an image never traps, and exits only with the number of a program's end
abbrev pub EndsWell : List ℕ → Type 0
EndsWell image = (input : List ℕ) → All (λ byte. byte < 256) input → (count : ℕ) → ExitsWell exit_of (file_after image input count).ending
