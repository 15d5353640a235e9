-- The run of a loaded machine is the run of the image in its file, and the machine tells what it took.
use Rattle.std.proofs.Common.{◌≡◌, ◌<◌, ℕ, ◌+◌, ◌-◌, List, [], ◌∷◌, ◌++◌, refl, sym, ap, subst, ◌∙◌, arith}
use Rattle.kk_base.specs.Faults.{Rises}
use Rattle.kk_base.specs.Sink.{SinkState}
use Rattle.kk_base.specs.Source.{SourceState}
use Rattle.kk_base.specs.Trace.{Event, output, TakesFrom}
use Rattle.kk_base.proofs.Traces.{some-input}
use Rattle.elf_image.specs.Fields.{entry_of}
use Rattle.elf_image.specs.Loaded.{IsLoaded, loaded_parts}
use Rattle.elf_image.specs.Parts.{memory_of}
use Rattle.elf_image.specs.declared.part.Part.{Part}
use Rattle.rv_sim.specs.Simulation.{Simulation, processor_of, progress_of}
use Rattle.rv_sim.specs.Devices.{ending_at, ComesTo, HasRun, is_input_fault, is_output_fault, asked}
use Rattle.rv_sim.specs.declared.halt.Halt.{Halt}
use Rattle.rv_sim.specs.declared.halt.Halt.TheVariants.{Exit, StepsSpent, Trap, InputFault, OutputFault}
use Rattle.kk_build.specs.ImageAfter.{Ending, going, Progress, goes, start, go_on, step, run, image_after, file_after, free_cells}
use Rattle.kk_build.proofs.FileSteps.{one_more}
use Rattle.kk_perform.specs.ImageRuns.{HasDone, IsMeasured, Stops}
use Rattle.kk_perform.specs.Internal.{HasStopped}

fewer : (executed before steps : ℕ) → before ≡ 0 → executed < before + steps → executed - before < steps
fewer executed before steps none less = omega arith

module _ (file : List ℕ) (entry : ℕ) (parts : List Part) (loaded : IsLoaded file entry parts) (old new : Simulation)
    (starts : (input : List ℕ) → progress_of old input [] ≡ goes (start (memory_of parts) entry input)) where
  is_file : (input : List ℕ) (count : ℕ) → file_after file input count ≡ go_on (progress_of old input []) (run count)
  is_file input count =
      ap (λ (ps : List Part). image_after (memory_of ps) (entry_of file) input count) (sym loaded.parts_are)
      ∙ ap (λ (e : ℕ). image_after (memory_of parts) e input count) (sym loaded.entry_is)
      ∙ ap (λ (a : Progress). go_on a (run count)) (sym (starts input))

  comes_to : (count : ℕ) (events : List Event) → ComesTo count events old new → (input rest : List ℕ) → TakesFrom events input rest → file_after file input count ≡ progress_of new rest events
  comes_to count events comes input rest takes = is_file input count ∙ comes input rest [] takes

  has_done : (count : ℕ) (events : List Event) (ending : Ending) → ComesTo count events old new → new.ending ≡ ending → HasDone file count events ending
  has_done count events ending comes ends input rest takes =
      let is = comes_to count events comes input rest takes in
      (ap (λ (a : Progress). a.processor.trace) is, ap (λ (a : Progress). a.ending) is ∙ ends)

  is_measured : (count : ℕ) (events : List Event) → ComesTo count events old new → (cells : ℕ) → IsMeasured file count events cells new.executed (free_cells cells (processor_of new [] []))
  is_measured count events comes cells input rest takes =
      let is = comes_to count events comes input rest takes in
      (ap (λ (a : Progress). a.processor.executed) is, ap (λ (a : Progress). free_cells cells a.processor) is)

  next_is : (count : ℕ) (events : List Event) (event : List ℕ → Event) → ComesTo count events old new → new.ending ≡ going
      → ((left : List ℕ) (trace : List Event) → (step (processor_of new left trace)).processor.trace ≡ trace ++ event left ∷ [])
      → (input rest : List ℕ) → TakesFrom events input rest → (file_after file input (count + 1)).processor.trace ≡ events ++ event rest ∷ []
  next_is count events event comes ongoing next input rest takes =
      let first : run count (start (loaded_parts file) (entry_of file) input) ≡ goes (processor_of new rest events) =
      comes_to count events comes input rest takes ∙ ap (λ (e : Ending). record { processor = processor_of new rest events; ending = e }) ongoing in
      ap (λ (a : Progress). a.processor.trace) (one_more (start (loaded_parts file) (entry_of file) input) count (processor_of new rest events) first) ∙ next rest events

  module _ (steps : ℕ) (input input' : SourceState) (out out' : SinkState) (nothing : old.executed ≡ 0) where
    so_far : (halt : Halt) (ran : HasRun halt steps old new input input' out out') → Rises (is_input_fault halt) input.faults input'.faults → Rises (is_output_fault halt) out.faults out'.faults
        → (count : ℕ) → ComesTo count ran.events old new → Stops halt file steps count ran.events ran.cut → HasStopped file steps halt new input input' out out'
    so_far halt ran in_faults out_faults count comes stops = record {
      runs = record {
        events = ran.events;
        cut = ran.cut;
        count = count;
        taken = record {
          given = ran.given.content;
          bytes = ran.given.bytes;
          some_input = some-input ran.events input.ended input'.ended ran.given.once;
        };
        held = ran.held;
        input_faults = in_faults;
        output_faults = out_faults;
        done = has_done count ran.events (ending_at halt) comes ran.ending;
        stops = stops;
      };
      measured = is_measured count ran.events comes;
    }

    -- all of the budget counts, but where a device has failed
    pub has_stopped : (halt : Halt) → HasRun halt steps old new input input' out out' → Rises (is_input_fault halt) input.faults input'.faults → Rises (is_output_fault halt) out.faults out'.faults
        → HasStopped file steps halt new input input' out out'
    has_stopped (Exit code) ran in_faults out_faults = so_far (Exit code) ran in_faults out_faults steps ran.comes (refl, ran.fails)
    has_stopped StepsSpent ran in_faults out_faults = so_far StepsSpent ran in_faults out_faults steps ran.comes (refl, ran.fails)
    has_stopped (Trap cause pc word) ran in_faults out_faults = so_far (Trap cause pc word) ran in_faults out_faults steps ran.comes (refl, ran.fails)
    has_stopped InputFault ran in_faults out_faults =
        let count = new.executed - old.executed in
        so_far InputFault ran in_faults out_faults count ran.comes
        (fewer new.executed old.executed steps nothing ran.executed, ran.fails.0, next_is count ran.events asked ran.comes ran.ending ran.fails.1)
    has_stopped OutputFault ran in_faults out_faults =
        let count = new.executed - old.executed in
        let put = ran.fails in
        so_far OutputFault ran in_faults out_faults count ran.comes (
          fewer new.executed old.executed steps nothing ran.executed,
          record {
            piece = put.piece;
            some = put.some;
            taken = put.count;
            within = put.within;
            first = put.first;
            next = next_is count ran.events (λ left. output put.piece) ran.comes ran.ending put.next;
          },
        )

-- a run that stops for the same cause
pub stops_alike : (image : List ℕ) (steps : ℕ) (halt other : Halt) (machine : Simulation) (input input' : SourceState) (out out' : SinkState) → other ≡ halt
    → HasStopped image steps halt machine input input' out out' → HasStopped image steps other machine input input' out out'
stops_alike image steps halt other machine input input' out out' same has = subst (λ (h : Halt). HasStopped image steps h machine input input' out out') (sym same) has
