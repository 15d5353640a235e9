-- Where an image agrees with its program, its runs do what the program means.
use Rattle.std.proofs.Common.{◌≡◌, ℕ, ◌++◌, List, [], Some, Option, sym, ap, subst, ◌∙◌, option_map, flat_map}
use Rattle.kk_base.specs.Machines.{trace}
use Rattle.kk_base.specs.Sink.{SinkState}
use Rattle.kk_base.specs.Source.{SourceState}
use Rattle.kk_base.specs.Trace.{Event, input_of}
use Rattle.kk_base.proofs.Machines.{trace-mapped}
use Rattle.kk_build.specs.SourceMeaning.{IsRun, exit_of, events_of, After, source_after, store_machine, first_state, Setting, End, ended, heap_full, stack_full}
use Rattle.kk_build.specs.ImageAfter.{ExitsWell, Ending, exited, file_after}
use Rattle.rv_sim.specs.Devices.{ending_at}
use Rattle.rv_sim.specs.declared.halt.Halt.{Halt}
use Rattle.kk_build.specs.Agreement.{Agrees, AgreesOn}
use Rattle.kk_build.proofs.Runs.{one_setting}
use Rattle.kk_build.specs.Built.{ProgramTree}
use Rattle.kk_answer.specs.declared.answer.RunEnd.{RunEnd}
use Rattle.kk_answer.specs.declared.answer.RunEnd.TheVariants as OfRun
use Rattle.kk_perform.specs.ImageRuns.{HasDone, RunsImage}
use Rattle.kk_perform.specs.Internal.{EndsWell}
use Rattle.kk_perform.specs.SourceRuns.{halt_for, EndsAs, DoesFirst, Means, MeansRun}

abbrev after : List Event → Option End → After
after events ending = record { trace = events; ending = ending }

same_after : (ts us : List Event) (v w : Option End) → ts ≡ us → v ≡ w → after ts v ≡ after us w
same_after ts us v w traces endings = ap (λ (es : List Event). after es v) traces ∙ ap (λ (e : Option End). after us e) endings

-- what an image has done on an input, where it agrees with a program there
module _ (image : List ℕ) (setting : Setting) (input : List ℕ) (agrees : AgreesOn image setting input) (count : ℕ) (events : List Event) (done : (file_after image input count).processor.trace ≡ events) where
  seen_is : (n : ℕ) → (source_after setting input n).trace ≡ flat_map events_of (trace (store_machine setting) n (first_state setting input))
  seen_is n = trace-mapped events_of (λ (end : End). end) (store_machine setting) n (first_state setting input)

  does_first : DoesFirst setting input events
  does_first =
      let found = agrees.image_is_behind count in
      (found.0, (found.1.0, ap (λ (es : List Event). es ++ found.1.0) (sym done) ∙ found.1.1 ∙ sym (seen_is found.0)))

  ends_as : (end : End) → (file_after image input count).ending ≡ exited (exit_of end) → EndsAs end setting input events
  ends_as end is =
      let found = (agrees.end_alike end).1 (count, is) in (
        found.0,
        same_after (source_after setting input found.0).trace events (source_after setting input found.0).ending (Some end)
            (seen_is found.0 ∙ agrees.same_trace end found.0 count found.1 is ∙ done) (ap (option_map (λ (e : End). e)) found.1),
      )

  means : (end : RunEnd) → (file_after image input count).ending ≡ ending_at (halt_for end) → Means end setting input events
  means OfRun.Ended is = ends_as ended is
  means OfRun.HeapFull is = ends_as heap_full is
  means OfRun.StackFull is = ends_as stack_full is
  means OfRun.StepsSpent is = does_first
  means OfRun.InputFault is = does_first
  means OfRun.OutputFault is = does_first

module _ (program : ProgramTree) (image : List ℕ) (cells depth : ℕ) (setting : Setting) (is_run : IsRun program cells depth setting) (agrees : Agrees image setting) where
  pub means_run : (end : RunEnd) (count : ℕ) (events : List Event) → HasDone image count events (ending_at (halt_for end)) → MeansRun program cells depth end events
  means_run end count events done other other_is input rest bytes takes =
      let has = done input rest takes in
      subst (λ s. Means end s input events) (one_setting program cells depth setting other is_run other_is)
      (means image setting input (agrees.agrees input bytes) count events has.0 end has.1)

  pub ends_well : EndsWell image
  ends_well input bytes count = (agrees.agrees input bytes).ends_well count

-- the run of an image that ends well stops well
pub stops_well : (image : List ℕ) (steps : ℕ) (halt : Halt) (input input' : SourceState) (out out' : SinkState) → EndsWell image → RunsImage image steps halt input input' out out' → ExitsWell exit_of (ending_at halt)
stops_well image steps halt input input' out out' well runs =
    subst (λ (ending : Ending). ExitsWell exit_of ending) (runs.done (input_of runs.events) [] runs.taken.some_input).1 (well (input_of runs.events) runs.taken.bytes runs.count)
