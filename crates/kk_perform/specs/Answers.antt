-- The answers of the commands, and the causes of each.
use Rattle.std.specs.Prelude.{◌≡◌, ◌⊎◌, ℕ, ◌+◌, List, take, length, Bool, true, false, Option, Some, None}
use Rattle.std.specs.Borrow.{Bor}
use Rattle.elf_image.specs.declared.bad_image.BadImage.{BadImage as Reason}
use Rattle.elf_image.specs.Loaded.{greatest_file, reason_of}
use Rattle.elf_image.specs.Reasons.{reason_number_of}
use Rattle.kk_base.specs.Faults.{Rose}
use Rattle.kk_base.specs.Limits.{greatest_of}
use Rattle.kk_base.specs.Sink.{SinkState}
use Rattle.kk_base.specs.Store.{Files, StoreState}
use Rattle.kk_base.specs.declared.limit.LimitKind.TheVariants.{Source}
use Rattle.kk_base.specs.declared.refusal.Refusal.{Refusal}
use Rattle.kk_base.specs.declared.status.Status.{Status}
use Rattle.kk_base.specs.declared.status.Status.TheVariants as OfStatus
use Rattle.kk_front.specs.Judgement.{IsProgramOf, IsRefusalOf}
use Rattle.kk_build.specs.Built.{ProgramTree, IsBuilt}
use Rattle.kk_gen.specs.Generated.{generated}
use Rattle.rv_sim.specs.declared.halt.Halt.{Halt}
use Rattle.kk_answer.specs.declared.answer.Answer.{Answer}
use Rattle.kk_answer.specs.declared.answer.Answer.TheVariants.{Done, Usage, Refused, NoMemory, FileFault, Ran, Measured, BadImage, Simulated}
use Rattle.kk_answer.specs.declared.answer.RunEnd.{RunEnd}
use Rattle.kk_answer.specs.declared.answer.RunEnd.TheVariants as OfRun
use Rattle.kk_source.specs.Settings.{IsRun}
use Rattle.kk_source.specs.State.{Setting}
use Rattle.kk_eval.specs.Evaluations.{RunsSource, RunsOutOfMemory}
use Rattle.kk_command.specs.Requests.{Request, check, build, run, sim, eval, bench, file_of}
use Rattle.kk_perform.specs.ImageRuns.{RunsImage, IsMeasured}
use Rattle.kk_perform.specs.SourceRuns.{halt_for, MeansRun}
use Rattle.kk_answer.specs.Ending.{EndsWith}
use Rattle.kk_answer.specs.Line.{summary_line}
use Rattle.kk_answer.specs.Puts.{Puts}
use Rattle.kk_perform.specs.Outside.{Outside, KeepsFiles, KeepsStreams, KeepsAll, FailsToRead, FailsToWrite, WritesAlone}

-- the first bytes of a file, at most so many, where the store tells them
abbrev pub BeginsFile : ℕ → List ℕ → List ℕ → StoreState → Type 0
BeginsFile count file bytes store =
    (files : Files) → store.files ≡ Some files → (content : List ℕ) × (files file ≡ Some content) × (bytes ≡ take count content)

-- A file's text: no more bytes are read than one more than a text may have, which tells whether there are more.
abbrev pub HasText : List ℕ → List ℕ → StoreState → Type 0
HasText file text store = BeginsFile (greatest_of Source + 1) file text store

-- the text that is asked for: of a file, or the one that is generated; `sim` asks for none
abbrev pub HasRequestedText : Request → List ℕ → StoreState → Type 0
HasRequestedText (check file) text store = HasText file text store
HasRequestedText (build file out cells depth) text store = HasText file text store
HasRequestedText (run file cells depth steps stats) text store = HasText file text store
HasRequestedText (sim image steps) text store = ⊥
HasRequestedText (eval file cells depth steps) text store = HasText file text store
HasRequestedText (bench seed size cells depth steps) text store = text ≡ generated seed size

-- A file's image: no more bytes are read than one more than an image may have, which tells whether there are more.
abbrev pub HasImage : List ℕ → List ℕ → StoreState → Type 0
HasImage file image store = BeginsFile (greatest_file + 1) file image store

-- these bytes are the image of the text in a file
pub record IsImageOfFile (file : List ℕ) (cells depth : ℕ) (store : StoreState) (image : List ℕ) : Type 0 where
  pub text : List ℕ
  pub has_text : HasText file text store
  pub built : IsBuilt text cells depth image

-- these bytes are the image that is asked for: it was built, or read
abbrev pub IsRequestedImage : Option Request → StoreState → List ℕ → Type 0
IsRequestedImage (Some (build file out cells depth)) store image = IsImageOfFile file cells depth store image
IsRequestedImage (Some (run file cells depth steps stats)) store image = IsImageOfFile file cells depth store image
IsRequestedImage (Some (sim file steps)) store image = HasImage file image store
IsRequestedImage (Some (bench seed size cells depth steps)) store image = IsBuilt (generated seed size) cells depth image
IsRequestedImage _ store image = ⊥

-- a run whose statistics are told: they were asked for, and the program ended by itself
abbrev pub tells_statistics : Bool → RunEnd → Bool
tells_statistics stats OfRun.Ended = stats
tells_statistics stats _ = false

-- how `bench` ends where the program ended by itself: with an output fault, where the line behind the program's output could not be put
-- whole
abbrev pub told_end : Bool → RunEnd
told_end true = OfRun.Ended
told_end false = OfRun.OutputFault

-- The answers that the words of a line may have, with what each does to the outside. There is no other.
pub data Answers (before after : Outside) : Option Request → Answer → Type 0 where
  -- the words are no command
  usage : KeepsAll before after → Answers before after None Usage
  -- memory was refused, before anything was written or run, or took a step
  no_memory : (request : Option Request) → KeepsFiles before.files after.files → KeepsStreams before after
      → (after.image ≡ before.image) ⊎ IsRequestedImage request before.files after.image → Answers before after request NoMemory
  -- FILE or IMAGE could not be read
  unread : (request : Request) (name : Bor (List ℕ)) → file_of request ≡ Some name.now
      → FailsToRead name.now before.files after.files → KeepsStreams before after → after.image ≡ before.image
      → Answers before after (Some request) (FileFault name)
  -- the text is refused, for its first failure
  refused : (request : Request) (text : List ℕ) (refusal : Refusal) → HasRequestedText request text before.files
      → IsRefusalOf text refusal
      → KeepsAll before after → Answers before after (Some request) (Refused refusal)
  -- check: the text is accepted
  checked : (file text : List ℕ) (program : ProgramTree) → HasText file text before.files → IsProgramOf text program
      → KeepsAll before after → Answers before after (Some (check file)) Done
  -- build: OUT is the image
  built : (file out : List ℕ) (cells depth : ℕ) → IsImageOfFile file cells depth before.files after.image
      → WritesAlone out after.image before.files after.files → KeepsStreams before after → Answers before after (Some (build file out cells depth)) Done
  -- build: OUT could not be written
  unwritten : (file out : List ℕ) (cells depth : ℕ) (name : Bor (List ℕ)) → name.now ≡ out → IsImageOfFile file cells depth before.files after.image
      → FailsToWrite out before.files after.files → KeepsStreams before after → Answers before after (Some (build file out cells depth)) (FileFault name)
  -- run: the image ran, for at most `steps` instructions, and stopped so; what it did is what the program means
  ran : (file : List ℕ) (cells depth steps : ℕ) (stats : Bool) (end : RunEnd) → tells_statistics stats end ≡ false → (made : IsImageOfFile file cells depth before.files after.image)
      (runs : RunsImage after.image steps (halt_for end) before.input after.input before.out after.out)
      → MeansRun made.built.program cells depth end runs.events → KeepsFiles before.files after.files
      → Answers before after (Some (run file cells depth steps stats)) (Ran end cells depth steps)
  -- run --stats: the same, where the program ended by itself; so many instructions were executed, and so many of the cells are free
  measured : (file : List ℕ) (cells depth steps : ℕ) (stats : Bool) (instructions free : ℕ) → tells_statistics stats OfRun.Ended ≡ true
      → (made : IsImageOfFile file cells depth before.files after.image)
      (runs : RunsImage after.image steps (halt_for OfRun.Ended) before.input after.input before.out after.out)
      → MeansRun made.built.program cells depth OfRun.Ended runs.events → IsMeasured after.image runs.count runs.events cells instructions free
      → KeepsFiles before.files after.files → Answers before after (Some (run file cells depth steps stats)) (Measured instructions free cells)
  -- sim: the bytes of IMAGE cannot be loaded, for the first condition that they fail, which has this number
  bad_image : (file : List ℕ) (steps : ℕ) (reason : Reason) (condition : ℕ) → HasImage file after.image before.files → reason_of after.image ≡ Some reason
      → reason_number_of reason ≡ Some condition → KeepsFiles before.files after.files → KeepsStreams before after
      → Answers before after (Some (sim file steps)) (BadImage condition)
  -- sim: the bytes of IMAGE were loaded and ran, for at most `steps` instructions, and stopped so
  simulated : (file : List ℕ) (steps : ℕ) (halt : Halt) → HasImage file after.image before.files → reason_of after.image ≡ None
      → RunsImage after.image steps halt before.input after.input before.out after.out → KeepsFiles before.files after.files
      → Answers before after (Some (sim file steps)) (Simulated halt steps)
  -- eval: the program of the text was run by its definition, for at most `steps` steps, and the run ended so
  evaluated : (file text : List ℕ) (cells depth steps : ℕ) (end : RunEnd) (program : ProgramTree) (setting : Setting) → HasText file text before.files → IsProgramOf text program
      → IsRun program cells depth setting → RunsSource setting steps end before.input after.input before.out after.out → KeepsFiles before.files after.files
      → after.image ≡ before.image → Answers before after (Some (eval file cells depth steps)) (Ran end cells depth steps)
  -- eval: memory was refused before the end; what was printed and read until then is the first that the program prints and reads
  cut_short : (file text : List ℕ) (cells depth steps : ℕ) (program : ProgramTree) (setting : Setting) → HasText file text before.files → IsProgramOf text program
      → IsRun program cells depth setting → RunsOutOfMemory setting steps before.input after.input before.out after.out → KeepsFiles before.files after.files
      → after.image ≡ before.image → Answers before after (Some (eval file cells depth steps)) NoMemory
  -- bench: the image of the generated program ran, for at most `steps` instructions, and stopped so before the program ended by
  -- itself; what it did is what the program means
  bench_stopped : (seed size cells depth steps : ℕ) (end : RunEnd) → tells_statistics true end ≡ false
      → (made : IsBuilt (generated seed size) cells depth after.image)
      (runs : RunsImage after.image steps (halt_for end) before.input after.input before.out after.out)
      → MeansRun made.program cells depth end runs.events → KeepsFiles before.files after.files
      → Answers before after (Some (bench seed size cells depth steps)) (Ran end cells depth steps)
  -- bench: the same, where the program ended by itself; so many instructions were executed, and so many of the cells are free. Then
  -- the line that tells this and the bytes of the text and of the image was put on the output, whole or in part
  bench_ended : (seed size cells depth steps instructions free : ℕ) (whole : Bool) (middle : SinkState)
      (made : IsBuilt (generated seed size) cells depth after.image)
      (runs : RunsImage after.image steps (halt_for OfRun.Ended) before.input after.input before.out middle)
      → MeansRun made.program cells depth OfRun.Ended runs.events
      → IsMeasured after.image runs.count runs.events cells instructions free
      → Puts whole (summary_line (length (generated seed size)) (length after.image) instructions free) middle after.out
      → KeepsFiles before.files after.files
      → Answers before after (Some (bench seed size cells depth steps)) (Ran (told_end whole) cells depth steps)

-- the words of a line end with a status, by one of their answers
pub record Ends (request : Option Request) (status : Status) (before after : Outside) (err err' : SinkState) : Type 0 where
  pub answer : Answer
  pub answers : Answers before after request answer
  pub ends : EndsWith answer status err err'

-- no count of faults rose; one at its last value reads as risen
pub record Faultless (before after : Outside) (err err' : SinkState) : Type 0 where
  pub files : ¬ Rose before.files.faults after.files.faults
  pub input : ¬ Rose before.input.faults after.input.faults
  pub out : ¬ Rose before.out.faults after.out.faults
  pub line : ¬ Rose err.faults err'.faults

-- the status of a fault of a device
abbrev pub is_fault_status : Status → Bool
is_fault_status OfStatus.FileFault = true
is_fault_status OfStatus.InputFault = true
is_fault_status OfStatus.OutputFault = true
is_fault_status _ = false
