-- What the run by the store machine, and its private functions, speak of: the machine between two of its steps.
use Rattle.std.specs.Prelude.{◌≡◌, ◌≢◌, ◌⊎◌, ◌≤◌, ◌<◌, ℕ, List, [], ◌∷◌, ◌++◌, take, length, Bool, false, Option, None, Some, option_map, Result, Ok, Err}
use Rattle.kk_base.specs.declared.error.NoMemory.{NoMemory}
use Rattle.kk_base.specs.Faults.{Rose}
use Rattle.kk_base.specs.Machines.{trace, state}
use Rattle.kk_base.specs.Sink.{SinkState}
use Rattle.kk_base.specs.Source.{SourceState}
use Rattle.kk_base.specs.Trace.{Event, output, output_of, TakesFrom}
use Rattle.kk_source.specs.SourceAfter.{State, source_machine}
use Rattle.kk_source.specs.Settings.{IsRun}
use Rattle.kk_source.specs.State.{Setting, End, end_at, Configuration}
use Rattle.kk_syntax.specs.Programs.{ProgramTree}
use Rattle.rv_sim.specs.Devices.{GivesEvents, asked}
use Rattle.kk_answer.specs.declared.answer.RunEnd.{RunEnd}
use Rattle.kk_answer.specs.declared.answer.RunEnd.TheVariants as OfRun
use Rattle.kk_eval.specs.Evaluations.{end_for, is_input_end, is_output_end, RunsSource, RunsOutOfMemory}

abbrev pub with_input : Configuration → List ℕ → State
with_input machine input = record { machine = machine; input = input }

-- so many steps lead from one machine to another, and do these events, on each input that they can have taken
abbrev pub StepsTo : Setting → ℕ → List Event → Configuration → Configuration → Type 0
StepsTo setting count events old new =
    (input rest : List ℕ) → TakesFrom events input rest
    → (trace (source_machine setting) count (with_input old input) ≡ events) × (state (source_machine setting) count (with_input old input) ≡ with_input new rest)

-- the next step takes a byte
abbrev pub AsksAt : Setting → Configuration → Type 0
AsksAt setting c = (input : List ℕ) → trace (source_machine setting) 1 (with_input c input) ≡ asked input ∷ []

-- the next step prints a piece, and `cut` are first bytes of it
pub record PutsAt (setting : Setting) (cut : List ℕ) (c : Configuration) : Type 0 where
  pub piece : List ℕ
  pub some : 0 < length piece
  pub taken : ℕ
  pub within : taken ≤ length piece
  pub first : cut ≡ take taken piece
  pub next : (input : List ℕ) → trace (source_machine setting) 1 (with_input c input) ≡ output piece ∷ []

-- what a run has come to, or that memory was refused
abbrev pub Outcome : Type 0
Outcome = Result RunEnd NoMemory

-- how the machine has ended then
abbrev pub ending_for : Outcome → Option End
ending_for (Ok end) = end_for end
ending_for (Err refused) = None

-- how many of the steps were made, and which device failed at the next one
abbrev pub Stands : Outcome → Setting → ℕ → ℕ → List ℕ → Configuration → Type 0
Stands (Ok OfRun.StepsSpent) setting steps count cut c = (count ≡ steps) × (cut ≡ [])
Stands (Ok OfRun.InputFault) setting steps count cut c = (count < steps) × (cut ≡ []) × AsksAt setting c
Stands (Ok OfRun.OutputFault) setting steps count cut c = (count < steps) × PutsAt setting cut c
Stands (Err refused) setting steps count cut c = (count < steps) × (cut ≡ [])
Stands (Ok _) setting steps count cut c = (count ≤ steps) × (cut ≡ [])

-- a run of at most so many steps led from a machine to another over the devices, and has come to this
pub record HasEvaluated (setting : Setting) (steps : ℕ) (outcome : Outcome) (old : Configuration) (input input' : SourceState) (out out' : SinkState) : Type 0 where
  pub new : Configuration
  pub events : List Event
  pub cut : List ℕ
  pub count : ℕ
  pub given : GivesEvents events input input'
  pub held : out'.held ≡ option_map (λ before. before ++ (output_of events ++ cut)) out.held
  pub leads : StepsTo setting count events old new
  pub ending : end_at new.control ≡ ending_for outcome
  pub stands : Stands outcome setting steps count cut new

-- a failure of the input, and of the output
abbrev pub asks_input : Outcome → Bool
asks_input (Ok end) = is_input_end end
asks_input (Err refused) = false

abbrev pub asks_output : Outcome → Bool
asks_output (Ok end) = is_output_end end
asks_output (Err refused) = false

-- what one step has come to: where it is no end, its run has made its one step
abbrev pub outcome_of : Result (Option RunEnd) NoMemory → Outcome
outcome_of (Ok None) = Ok OfRun.StepsSpent
outcome_of (Ok (Some end)) = Ok end
outcome_of (Err refused) = Err refused

-- a step led so; where the run goes on, it goes on from `now`
pub record HasTurned (setting : Setting) (result : Result (Option RunEnd) NoMemory) (old now : Configuration) (input input' : SourceState) (out out' : SinkState) : Type 0 where
  pub ran : HasEvaluated setting 1 (outcome_of result) old input input' out out'
  pub now_is : result ≡ Ok None → ran.new ≡ now
  pub spent : result ≢ Ok (Some OfRun.StepsSpent)

-- a run of so many steps has come to a machine, and goes on from there
pub record HasGone (setting : Setting) (steps : ℕ) (old now : Configuration) (input input' : SourceState) (out out' : SinkState) : Type 0 where
  pub ran : HasEvaluated setting steps (Ok OfRun.StepsSpent) old input input' out out'
  pub at : ran.new ≡ now

-- a piece was put, or first bytes of it
abbrev pub HasPrinted : List ℕ → Option RunEnd → SinkState → SinkState → Type 0
HasPrinted piece None out out' = (out'.held ≡ option_map (λ before. before ++ piece) out.held) × (out'.faults ≡ out.faults)
HasPrinted piece (Some OfRun.OutputFault) out out' =
    (n : ℕ) × (n ≤ length piece) × (out'.held ≡ option_map (λ before. before ++ take n piece) out.held) × Rose out.faults out'.faults
HasPrinted piece (Some _) out out' = ⊥

-- the step that takes a byte was made, or the source failed
abbrev pub HasRead : Setting → Option RunEnd → Configuration → Configuration → SourceState → SourceState → Type 0
HasRead setting None old now input input' =
    (events : List Event) × StepsTo setting 1 events old now × GivesEvents events input input' × (output_of events ≡ [])
    × (end_at now.control ≡ None) × (input'.faults ≡ input.faults)
HasRead setting (Some OfRun.InputFault) old now input input' = GivesEvents [] input input' × Rose input.faults input'.faults
HasRead setting (Some _) old now input input' = ⊥

-- A program was run by its definition, for at most so many steps, and the run has come to this. Where memory was refused it may have been
-- refused before the first step.
abbrev pub HasRun : ProgramTree → ℕ → ℕ → ℕ → Outcome → SourceState → SourceState → SinkState → SinkState → Type 0
HasRun program cells depth steps (Ok end) input input' out out' = (setting : Setting) × IsRun program cells depth setting × RunsSource setting steps end input input' out out'
HasRun program cells depth steps (Err refused) input input' out out' =
    ((input' ≡ input) × (out' ≡ out)) ⊎ ((setting : Setting) × IsRun program cells depth setting × RunsOutOfMemory setting steps input input' out out')
