-- What a simulated machine holds, and the machine that it is.
use Rattle.std.specs.Prelude.{ℕ, List, map, Bool}
use Rattle.kk_base.specs.Memory.{Part, byte_loaded}
use Rattle.kk_base.specs.Trace.{Event}
use Rattle.rv_isa.specs.Processor.{Processor, bare, Ending, going, exited, trapped, Progress}
use Rattle.rv_sim.specs.Registers.{registers_of}
use Rattle.rv_sim.specs.declared.halt.Phase.{Phase}
use Rattle.rv_sim.specs.declared.halt.Phase.TheVariants.{Going, Exited, Trapped}

-- the registers by number, the parts with all the bytes that they hold, how many instructions were executed, whether the machine has ended, and
-- whether a device has failed
pub record Simulation : Type 0 where
  pub registers : List ℕ
  pub pc : ℕ
  pub parts : List Part
  pub executed : ℕ
  pub ending : Ending
  pub faulted : Bool

-- the machine, with what is left of its input and what was done on the outside
abbrev pub processor_of : Simulation → List ℕ → List Event → Processor
processor_of held left trace = record {
  registers = registers_of held.registers;
  pc = held.pc;
  memory = byte_loaded held.parts;
  parts = map bare held.parts;
  left = left;
  executed = held.executed;
  trace = trace;
}

-- what its run has come to
abbrev pub progress_of : Simulation → List ℕ → List Event → Progress
progress_of held left trace = record { processor = processor_of held left trace; ending = held.ending }

abbrev pub ending_of : Phase → Ending
ending_of Going = going
ending_of (Exited number) = exited number
ending_of (Trapped cause pc word) = trapped cause pc word
