-- The status that each answer ends a command with.
use Rattle.std.specs.Prelude.{◌==◌, if◌then◌else◌}
use Rattle.kk_base.specs.declared.refusal.Refusal.{Refusal}
use Rattle.kk_base.specs.declared.refusal.Refusal.TheVariants as OfText
use Rattle.kk_base.specs.declared.status.Status.{Status}
use Rattle.kk_base.specs.declared.status.Status.TheVariants as OfStatus
use Rattle.kk_front.specs.Judgement.{wants_memory}
use Rattle.rv_sim.specs.declared.halt.Halt.{Halt}
use Rattle.rv_sim.specs.declared.halt.Halt.TheVariants as OfHalt
use Rattle.kk_answer.specs.declared.answer.Answer.{Answer}
use Rattle.kk_answer.specs.declared.answer.Answer.TheVariants.{Done, Usage, Refused, NoMemory, FileFault, Ran, Measured, BadImage, Simulated}
use Rattle.kk_answer.specs.declared.answer.RunEnd.{RunEnd}
use Rattle.kk_answer.specs.declared.answer.RunEnd.TheVariants as OfRun

-- a text that is not accepted passes a limit, or has another fault
abbrev pub fault_status : Refusal → Status
fault_status (OfText.Over limit) = OfStatus.Limit
fault_status _ = OfStatus.Refused

abbrev pub refusal_status : Refusal → Status
refusal_status refusal = if wants_memory refusal then OfStatus.NoMemory else fault_status refusal

-- a run of a program, by how it ended
abbrev pub run_status : RunEnd → Status
run_status OfRun.Ended = OfStatus.Done
run_status OfRun.HeapFull = OfStatus.HeapFull
run_status OfRun.StackFull = OfStatus.StackFull
run_status OfRun.StepsSpent = OfStatus.StepsSpent
run_status OfRun.InputFault = OfStatus.InputFault
run_status OfRun.OutputFault = OfStatus.OutputFault

-- a run of an image, by why it stopped
abbrev pub halt_status : Halt → Status
halt_status (OfHalt.Exit number) = if number == 0 then OfStatus.Done else OfStatus.ImageExit
halt_status OfHalt.StepsSpent = OfStatus.StepsSpent
halt_status (OfHalt.Trap cause pc word) = OfStatus.Trap
halt_status OfHalt.InputFault = OfStatus.InputFault
halt_status OfHalt.OutputFault = OfStatus.OutputFault

abbrev pub status_of : Answer → Status
status_of Done = OfStatus.Done
status_of Usage = OfStatus.Usage
status_of (Refused refusal) = refusal_status refusal
status_of NoMemory = OfStatus.NoMemory
status_of (FileFault name) = OfStatus.FileFault
status_of (Ran end cells depth steps) = run_status end
status_of (Measured instructions free cells) = OfStatus.Done
status_of (BadImage condition) = OfStatus.BadImage
status_of (Simulated halt steps) = halt_status halt
