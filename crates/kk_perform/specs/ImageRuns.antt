-- The run of an image over the devices: what the image in a file does by the table of instructions, on each input that the run can have taken.
use Rattle.std.specs.Prelude.{◌≡◌, ◌≤◌, ◌<◌, ℕ, ◌+◌, List, [], ◌∷◌, ◌++◌, take, length, option_map}
use Rattle.kk_base.specs.Faults.{Rises}
use Rattle.kk_base.specs.Sink.{SinkState}
use Rattle.kk_base.specs.Source.{SourceState}
use Rattle.kk_base.specs.Trace.{Event, output, output_of, TakesFrom}
use Rattle.rv_sim.specs.Devices.{asked, ending_at, is_input_fault, is_output_fault}
use Rattle.rv_sim.specs.declared.halt.Halt.{Halt}
use Rattle.rv_sim.specs.declared.halt.Halt.TheVariants.{InputFault, OutputFault}
use Rattle.kk_eval.specs.Evaluations.{TakesInput}
use Rattle.kk_build.specs.ImageAfter.{Ending, file_after, free_cells}

-- on each input that the events can have taken, the image has done them after so many instructions, and has ended so
abbrev pub HasDone : List ℕ → ℕ → List Event → Ending → Type 0
HasDone image count events ending =
    (input rest : List ℕ) → TakesFrom events input rest → ((file_after image input count).processor.trace ≡ events) × ((file_after image input count).ending ≡ ending)

-- on each such input, so many instructions are executed then, and so many of the cells are free
abbrev pub IsMeasured : List ℕ → ℕ → List Event → ℕ → ℕ → ℕ → Type 0
IsMeasured image count events cells instructions free =
    (input rest : List ℕ) → TakesFrom events input rest
    → ((file_after image input count).processor.executed ≡ instructions) × (free_cells cells (file_after image input count).processor ≡ free)

-- the instruction after so many asks for a byte
abbrev pub AsksNext : List ℕ → ℕ → List Event → Type 0
AsksNext image count events =
    (input rest : List ℕ) → TakesFrom events input rest → (file_after image input (count + 1)).processor.trace ≡ events ++ asked rest ∷ []

-- the instruction after so many puts a piece, and `cut` are first bytes of it
pub record PutsNext (image : List ℕ) (count : ℕ) (events : List Event) (cut : List ℕ) : Type 0 where
  pub piece : List ℕ
  pub some : 0 < length piece
  pub taken : ℕ
  pub within : taken ≤ length piece
  pub first : cut ≡ take taken piece
  pub next : (input rest : List ℕ) → TakesFrom events input rest → (file_after image input (count + 1)).processor.trace ≡ events ++ output piece ∷ []

-- Unless a device fails, the image is looked at after the whole budget, where it may have ended before, and all pieces are whole; where one has failed,
-- the run stopped before the instruction that called it.
abbrev pub Stops : Halt → List ℕ → ℕ → ℕ → List Event → List ℕ → Type 0
Stops InputFault image steps count events cut = (count < steps) × (cut ≡ []) × AsksNext image count events
Stops OutputFault image steps count events cut = (count < steps) × PutsNext image count events cut
Stops _ image steps count events cut = (count ≡ steps) × (cut ≡ [])

-- the image was run for at most so many instructions, and did these events on the devices; there is some input of bytes that they can have taken
pub record RunsImage (image : List ℕ) (steps : ℕ) (halt : Halt) (input input' : SourceState) (out out' : SinkState) : Type 0 where
  pub events : List Event
  pub cut : List ℕ
  pub count : ℕ
  pub taken : TakesInput events input input'
  pub held : out'.held ≡ option_map (λ before. before ++ (output_of events ++ cut)) out.held
  pub input_faults : Rises (is_input_fault halt) input.faults input'.faults
  pub output_faults : Rises (is_output_fault halt) out.faults out'.faults
  pub done : HasDone image count events (ending_at halt)
  pub stops : Stops halt image steps count events cut
