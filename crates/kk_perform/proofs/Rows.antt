-- How each command comes to its answers.
use Rattle.std.proofs.Common.{◌≡◌, ℕ, List, [], Bool, true, false, cond, Option, Some, None, Ok, Err, refl, sym, subst, ◌∙◌, inl, inr}
use Rattle.std.specs.Borrow.{Bor}
use Rattle.elf_image.specs.declared.bad_image.BadImage.{BadImage as Reason}
use Rattle.elf_image.specs.declared.bad_image.BadImage.TheVariants as OfReason
use Rattle.elf_image.specs.Loaded.{reason_of, IsReason}
use Rattle.elf_image.specs.Reasons.{reason_number_of}
use Rattle.kk_base.specs.Faults.{Counts}
use Rattle.kk_base.specs.Sink.{SinkState}
use Rattle.kk_base.specs.Source.{SourceState}
use Rattle.kk_base.specs.Store.{StoreState, SameFiles, SameOthers, HasFile, Remembers}
use Rattle.kk_base.specs.declared.outside.StoreCall.{StoreCall}
use Rattle.kk_base.specs.declared.outside.StoreCall.TheVariants.{Reading, Writing}
use Rattle.kk_base.specs.declared.refusal.Refusal.{Refusal}
use Rattle.kk_front.specs.Judgement.{IsProgramOf, Refuses, wants_memory}
use Rattle.kk_build.specs.Built.{ProgramTree, IsBuilt}
use Rattle.kk_build.specs.ImageAfter.{free_cells}
use Rattle.rv_sim.specs.Simulation.{Simulation, processor_of}
use Rattle.rv_sim.specs.declared.halt.Halt.{Halt}
use Rattle.kk_answer.specs.declared.answer.Answer.{Answer}
use Rattle.kk_answer.specs.declared.answer.Answer.TheVariants.{Done, Usage, Refused, NoMemory, FileFault, Ran, Measured, Simulated}
use Rattle.kk_answer.specs.declared.answer.RunEnd.{RunEnd}
use Rattle.kk_answer.specs.declared.answer.RunEnd.TheVariants as OfRun
use Rattle.kk_perform.specs.Answers.{HasText, HasRequestedText, HasImage, IsImageOfFile, Answers, usage, no_memory, unread, refused, checked, built, unwritten, ran, measured, bad_image, simulated, evaluated, cut_short, tells_statistics}
use Rattle.kk_base.specs.declared.error.NoMemory.{NoMemory as OutOfMemory}
use Rattle.kk_eval.specs.EvaluationStates.{HasRun}
use Rattle.kk_perform.specs.Internal.{answer_of_refusal, answer_of_condition, builds, HasStopped, AnswersRun, without_statistics, with_statistics}
use Rattle.kk_perform.specs.ImageRuns.{IsMeasured}
use Rattle.kk_command.specs.Requests.{Request, check, build, run, sim, eval, bench, file_of}
use Rattle.kk_perform.specs.Outside.{Outside, KeepsFiles, KeepsStreams, KeepsAll}
use Rattle.kk_perform.specs.SourceRuns.{halt_for}
use Rattle.kk_perform.proofs.ImageRuns.{stops_alike}
use Rattle.kk_perform.proofs.SourceRuns.{means_run}
use Rattle.kk_perform.proofs.Stores.{same_files, then_kept, then_written, then_unwritten}

abbrev outside : StoreState → SourceState → SinkState → List ℕ → Outside
outside files input out image = record { files = files; input = input; out = out; image = image }

pub never : false ≡ true → ⊥
never is = cc

module _ (store store' : StoreState) (input : SourceState) (out : SinkState) (image : List ℕ) where
  same_streams : (image' : List ℕ) → KeepsStreams (outside store input out image) (outside store' input out image')
  same_streams image' = record { input = refl; out = refl }

  all_kept : KeepsFiles store store' → KeepsAll (outside store input out image) (outside store' input out image)
  all_kept kept = record { files = kept; streams = same_streams image; image = refl }

  pub read_failed : (file : Bor (List ℕ)) (request : Request) → file_of request ≡ Some file.now → SameFiles store.files store'.files
      → Counts true store.faults store'.faults
      → Remembers true (Reading file.now) store.last_failed store'.last_failed
      → Answers (outside store input out image) (outside store' input out image) (Some request) (FileFault file)
  read_failed file request is same counts remembers =
      unread request file is (record { fails = record { last_failed = remembers.told refl; faults = counts.rises }; files = same })
      (same_streams image) refl

  pub no_room : (call : StoreCall) (request : Request) → SameFiles store.files store'.files → Counts false store.faults store'.faults → Remembers false call store.last_failed store'.last_failed
      → Answers (outside store input out image) (outside store' input out image) (Some request) NoMemory
  no_room call request same counts remembers =
      no_memory (Some request) (record { files = same; last_failed = remembers.stays refl; faults = counts.rises }) (same_streams image) (inl refl)

  by_want : (request : Request) (text : List ℕ) (refusal : Refusal) (wants : Bool) → wants_memory refusal ≡ wants
      → HasRequestedText request text store → KeepsFiles store store' → Refuses text refusal
      → Answers (outside store input out image) (outside store' input out image) (Some request) (cond wants NoMemory (Refused refusal))
  by_want request text refusal true is has kept refuses = no_memory (Some request) kept (same_streams image) (inl refl)
  by_want request text refusal false is has kept refuses = refused request text refusal has (refuses is) (all_kept kept)

  pub text_refused : (text slice : List ℕ) (refusal : Refusal) (answer : Answer) (request : Request) → slice ≡ text
      → answer ≡ answer_of_refusal refusal
      → HasRequestedText request text store → KeepsFiles store store' → Refuses slice refusal
      → Answers (outside store input out image) (outside store' input out image) (Some request) answer
  text_refused text slice refusal answer request same told has kept refuses =
      let A : Answer → Type 0 = λ a. Answers (outside store input out image) (outside store' input out image) (Some request) a in
      let R : List ℕ → Type 0 = λ t. Refuses t refusal in
      subst A (sym told) (by_want request text refusal (wants_memory refusal) refl has kept (subst R same refuses))

  pub text_accepted : (file text slice : List ℕ) (program : ProgramTree) → slice ≡ text → HasText file text store → KeepsFiles store store' → IsProgramOf slice program
      → Answers (outside store input out image) (outside store' input out image) (Some (check file)) Done
  text_accepted file text slice program same has kept accepted =
      let P : List ℕ → Type 0 = λ t. IsProgramOf t program in
      checked file text program has (subst P same accepted) (all_kept kept)

-- a file by its other name
same_name : (file named : List ℕ) → Some named ≡ Some file → named ≡ file
same_name file named is = cc

at_name : (store : StoreState) (file named text : List ℕ) → Some named ≡ Some file → HasText file text store → HasText named text store
at_name store file named text is has =
    let H : List ℕ → Type 0 = λ name. HasText name text store in
    subst H (sym (same_name file named is)) has

-- the text of the file of which a request builds an image
pub text_of_file : (store : StoreState) (request : Request) (file text : List ℕ) → builds request ≡ true
    → file_of request ≡ Some file → HasText file text store → HasRequestedText request text store
text_of_file store (check named) file text asked is has = absurd (never asked)
text_of_file store (build named out cells depth) file text asked is has = at_name store file named text is has
text_of_file store (run named cells depth steps stats) file text asked is has = at_name store file named text is has
text_of_file store (sim named steps) file text asked is has = absurd (never asked)
text_of_file store (eval named cells depth steps) file text asked is has = absurd (never asked)
text_of_file store (bench seed size cells depth steps) file text asked is has = let none : None ≡ Some file = is in cc

pub image_built : (store : StoreState) (file text slice : List ℕ) (cells depth : ℕ) (image : List ℕ) → slice ≡ text → HasText file text store → IsBuilt slice cells depth image → IsImageOfFile file cells depth store image
image_built store file text slice cells depth image same has made =
    let P : List ℕ → Type 0 = λ t. IsBuilt t cells depth image in
    record { text = text; has_text = has; built = subst P same made }

-- words that are no command, and words for which memory was refused
module _ (store : StoreState) (input : SourceState) (out : SinkState) (image : List ℕ) where
  nothing_changed : KeepsFiles store store
  nothing_changed = record { files = same_files store.files; last_failed = refl; faults = refl }

  pub no_command : (request : Option Request) → None ≡ request → Answers (outside store input out image) (outside store input out image) request Usage
  no_command request none =
      let P : Option Request → Type 0 = λ r. Answers (outside store input out image) (outside store input out image) r Usage in
      subst P none (usage (all_kept store store input out image nothing_changed))

  pub no_words : (request : Option Request) → Answers (outside store input out image) (outside store input out image) request NoMemory
  no_words request = no_memory request nothing_changed (same_streams store store input out image image) (inl refl)

-- what becomes of an image that was built: it is written, or it could not be, or it is run
module _ (first second : StoreState) (kept : KeepsFiles first second) (image image' : List ℕ) (file : List ℕ) (cells depth : ℕ) (made : IsImageOfFile file cells depth first image') where
  module _ (third : StoreState) (input : SourceState) (output : SinkState) where
    pub image_written : (out slice : List ℕ) (call : StoreCall) → slice ≡ image' → SameOthers out second.files third.files × HasFile out slice third.files → Counts false second.faults third.faults → Remembers false call second.last_failed third.last_failed
        → Answers (outside first input output image) (outside third input output image') (Some (build file out cells depth)) Done
    image_written out slice call same wrote counts remembers =
        let P : List ℕ → Type 0 = λ bytes. HasFile out bytes third.files in
        built file out cells depth made (then_written call first second third kept out image' (wrote.0, subst P same wrote.1) counts remembers) (record { input = refl; out = refl })

    pub image_unwritten : (out : Bor (List ℕ)) → SameOthers out.now second.files third.files → Counts true second.faults third.faults → Remembers true (Writing out.now) second.last_failed third.last_failed
        → Answers (outside first input output image) (outside third input output image') (Some (build file out.now cells depth)) (FileFault out)
    image_unwritten out others counts remembers =
        unwritten file out.now cells depth out refl made (then_unwritten out.now first second third kept others counts remembers) (record { input = refl; out = refl })

    pub image_left : (out : List ℕ) (call : StoreCall) → SameFiles second.files third.files → Counts false second.faults third.faults → Remembers false call second.last_failed third.last_failed
        → Answers (outside first input output image) (outside third input output image') (Some (build file out cells depth)) NoMemory
    image_left out call same counts remembers =
        no_memory (Some (build file out cells depth)) (then_kept call first second third kept same counts remembers) (record { input = refl; out = refl }) (inr made)

  module _ (input input' : SourceState) (output output' : SinkState) (steps : ℕ) (stats : Bool) where
    -- what a run of the image comes to, by its answer
    abbrev Comes : Answer → Type 0
    Comes answer = Answers (outside first input output image) (outside second input' output' image') (Some (run file cells depth steps stats)) answer

    ran_so : (machine : Simulation) (end : RunEnd) → tells_statistics stats end ≡ false → HasStopped image' steps (halt_for end) machine input input' output output'
        → Comes (Ran end cells depth steps)
    ran_so machine end quiet has =
        ran file cells depth steps stats end quiet made has.runs
        (means_run made.built.program image' cells depth made.built.is_file.setting made.built.is_file.is_run made.built.is_file.agrees end has.runs.count has.runs.events has.runs.done) kept

    measured_so : (machine : Simulation) (end : RunEnd) (instructions free : ℕ) → tells_statistics stats end ≡ true → HasStopped image' steps (halt_for end) machine input input' output output'
        → instructions ≡ machine.executed → free ≡ free_cells cells (processor_of machine [] []) → Comes (Measured instructions free cells)
    measured_so machine OfRun.Ended instructions free asked has executed left =
        let is : IsMeasured image' has.runs.count has.runs.events cells instructions free =
        λ input rest takes. let both = has.measured cells input rest takes in (both.0 ∙ sym executed, both.1 ∙ sym left) in
        measured file cells depth steps stats instructions free asked made has.runs
        (means_run made.built.program image' cells depth made.built.is_file.setting made.built.is_file.is_run made.built.is_file.agrees OfRun.Ended has.runs.count has.runs.events has.runs.done) is kept
    measured_so machine OfRun.HeapFull instructions free asked has executed left = absurd (never asked)
    measured_so machine OfRun.StackFull instructions free asked has executed left = absurd (never asked)
    measured_so machine OfRun.StepsSpent instructions free asked has executed left = absurd (never asked)
    measured_so machine OfRun.InputFault instructions free asked has executed left = absurd (never asked)
    measured_so machine OfRun.OutputFault instructions free asked has executed left = absurd (never asked)

    by_answer : (halt : Halt) (machine : Simulation) (answer : Answer) → HasStopped image' steps halt machine input input' output output'
        → AnswersRun halt machine cells depth steps stats answer → Comes answer
    by_answer halt machine _ has (without_statistics end is quiet) = ran_so machine end quiet (stops_alike image' steps halt (halt_for end) machine input input' output output' is has)
    by_answer halt machine _ has (with_statistics end instructions free is asked executed left) =
        measured_so machine end instructions free asked (stops_alike image' steps halt (halt_for end) machine input input' output output' is has) executed left

    pub image_ran : (slice : List ℕ) (halt : Halt) (machine : Simulation) (answer : Answer) → slice ≡ image' → HasStopped slice steps halt machine input input' output output'
        → AnswersRun halt machine cells depth steps stats answer → Answers (outside first input output image) (outside second input' output' image') (Some (run file cells depth steps stats)) answer
    image_ran slice halt machine answer same has answers =
        let P : List ℕ → Type 0 = λ bytes. HasStopped bytes steps halt machine input input' output output' in
        by_answer halt machine answer (subst P same has) answers

    pub image_idle : input' ≡ input → output' ≡ output → Answers (outside first input output image) (outside second input' output' image') (Some (run file cells depth steps stats)) NoMemory
    image_idle same_input same_out = no_memory (Some (run file cells depth steps stats)) kept (record { input = same_input; out = same_out }) (inr made)

-- an error that has a number is the reason of its file
numbered : (file : List ℕ) (reason : Reason) (number : ℕ) → reason_number_of reason ≡ Some number → IsReason reason file → reason_of file ≡ Some reason
numbered file OfReason.Short number is says = says
numbered file OfReason.NotElf number is says = says
numbered file OfReason.NotRv32 number is says = says
numbered file OfReason.NotExec number is says = says
numbered file OfReason.BadHeaders number is says = says
numbered file OfReason.PartOutside number is says = says
numbered file OfReason.PartsOverlap number is says = says
numbered file OfReason.TooLarge number is says = says
numbered file OfReason.BadEntry number is says = says
numbered file OfReason.NoMemory number is says = cc

-- what becomes of an image that was read: it cannot be loaded, or it is run
module _ (first second : StoreState) (kept : KeepsFiles first second) (image image' : List ℕ) (file : List ℕ) (steps : ℕ) (has : HasImage file image' first) where
  module _ (input : SourceState) (output : SinkState) where
    by_condition : (reason : Reason) (condition : Option ℕ) → reason_number_of reason ≡ condition → IsReason reason image'
        → Answers (outside first input output image) (outside second input output image') (Some (sim file steps)) (answer_of_condition condition)
    by_condition reason (Some number) is says = bad_image file steps reason number has (numbered image' reason number is says) is kept (record { input = refl; out = refl })
    by_condition reason None is says = no_memory (Some (sim file steps)) kept (record { input = refl; out = refl }) (inr has)

    pub image_refused : (slice : List ℕ) (reason : Reason) (answer : Answer) → slice ≡ image' → answer ≡ answer_of_condition (reason_number_of reason) → IsReason reason slice
        → Answers (outside first input output image) (outside second input output image') (Some (sim file steps)) answer
    image_refused slice reason answer same is says =
        let A : Answer → Type 0 = λ a. Answers (outside first input output image) (outside second input output image') (Some (sim file steps)) a in
        let P : List ℕ → Type 0 = λ bytes. IsReason reason bytes in
        subst A (sym is) (by_condition reason (reason_number_of reason) refl (subst P same says))

  module _ (input input' : SourceState) (output output' : SinkState) where
    pub image_simulated : (slice : List ℕ) (halt : Halt) (machine : Simulation) → slice ≡ image' → reason_of slice ≡ None → HasStopped slice steps halt machine input input' output output'
        → Answers (outside first input output image) (outside second input' output' image') (Some (sim file steps)) (Simulated halt steps)
    image_simulated slice halt machine same loads stopped =
        let L : List ℕ → Type 0 = λ bytes. reason_of bytes ≡ None in
        let P : List ℕ → Type 0 = λ bytes. HasStopped bytes steps halt machine input input' output output' in
        simulated file steps halt has (subst L same loads) (subst P same stopped).runs kept

    pub image_not_simulated : input' ≡ input → output' ≡ output → Answers (outside first input output image) (outside second input' output' image') (Some (sim file steps)) NoMemory
    image_not_simulated same_input same_out = no_memory (Some (sim file steps)) kept (record { input = same_input; out = same_out }) (inr has)

-- what becomes of a text that is accepted and run by its definition
module _ (first second : StoreState) (kept : KeepsFiles first second) (file text slice image : List ℕ) (cells depth steps : ℕ) (program : ProgramTree)
    (same : slice ≡ text) (has : HasText file text first) (accepted : IsProgramOf slice program) (input input' : SourceState) (output output' : SinkState) where
  is_program : IsProgramOf text program
  is_program = subst (λ (t : List ℕ). IsProgramOf t program) same accepted

  pub program_evaluated : (end : RunEnd) → HasRun program cells depth steps (Ok end) input input' output output'
      → Answers (outside first input output image) (outside second input' output' image) (Some (eval file cells depth steps)) (Ran end cells depth steps)
  program_evaluated end done = evaluated file text cells depth steps end program done.0 has is_program done.1 done.2 kept refl

  pub program_cut_short : (want : OutOfMemory) → HasRun program cells depth steps (Err want) input input' output output'
      → Answers (outside first input output image) (outside second input' output' image) (Some (eval file cells depth steps)) NoMemory
  program_cut_short want (inl unchanged) = no_memory (Some (eval file cells depth steps)) kept (record { input = unchanged.0; out = unchanged.1 }) (inl refl)
  program_cut_short want (inr done) = cut_short file text cells depth steps program done.0 has is_program done.1 done.2 kept refl
