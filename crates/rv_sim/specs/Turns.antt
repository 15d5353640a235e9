-- What one instruction does on the way through the code. Private functions alone cite these.
use Rattle.std.specs.Prelude.{◌≡◌, ℕ, List, Bool, true, false, Option, Some, None}
use Rattle.kk_base.specs.Trace.{Event}
use Rattle.rv_isa.specs.Processor.{Processor, Ending, Progress}
use Rattle.rv_isa.specs.Environment.{calls}
use Rattle.rv_isa.specs.Execution.{step}
use Rattle.rv_sim.specs.Simulation.{Simulation, processor_of, progress_of}
use Rattle.rv_sim.specs.Devices.{halt_of}
use Rattle.rv_sim.specs.declared.halt.Device.{Device}
use Rattle.rv_sim.specs.declared.halt.Device.TheVariants.{Input, Output}
use Rattle.rv_sim.specs.declared.halt.Halt.{Halt}
use Rattle.rv_sim.specs.declared.halt.Halt.TheVariants.{InputFault, OutputFault}
use Rattle.rv_sim.specs.declared.halt.Turn.{Turn}
use Rattle.rv_sim.specs.declared.halt.Turn.TheVariants.{Over, Call}

abbrev pub is_input : Option Device → Bool
is_input (Some Input) = true
is_input _ = false

abbrev pub is_output : Option Device → Bool
is_output (Some Output) = true
is_output _ = false

-- the answer of a run of one instruction, at which a device has failed or none
abbrev pub answer_at : Option Device → Ending → Halt
answer_at None ending = halt_of ending
answer_at (Some Input) ending = InputFault
answer_at (Some Output) ending = OutputFault

-- an instruction that is over has done `what` the machine does, and no device failed; one that calls the environment has changed nothing, and
-- what it does is the call
abbrev pub TurnDoes : (Processor → Progress) → Turn → Simulation → Simulation → Type 0
TurnDoes what Over old new =
    ((left : List ℕ) (trace : List Event) → progress_of new left trace ≡ what (processor_of old left trace)) × (new.faulted ≡ old.faulted)
TurnDoes what (Call next word) old new =
    (new ≡ old) × ((left : List ℕ) (trace : List Event) → what (processor_of old left trace) ≡ calls next word (processor_of old left trace))

-- this is what the next instruction does
abbrev pub NextDoes : (Processor → Progress) → Simulation → Type 0
NextDoes what s = (left : List ℕ) (trace : List Event) → step (processor_of s left trace) ≡ what (processor_of s left trace)
