-- What the run of an image has done of what its program means, by the store machine of the source.
use Rattle.std.specs.Prelude.{◌≡◌, ◌<◌, ℕ, List, All, Some}
use Rattle.kk_base.specs.Trace.{Event, TakesFrom, IsPrefix}
use Rattle.kk_build.specs.SourceMeaning.{IsRun, exit_of, source_after, Setting, End, ended, heap_full, stack_full}
use Rattle.kk_build.specs.Built.{ProgramTree}
use Rattle.rv_sim.specs.declared.halt.Halt.{Halt}
use Rattle.rv_sim.specs.declared.halt.Halt.TheVariants as OfHalt
use Rattle.kk_answer.specs.declared.answer.RunEnd.{RunEnd}
use Rattle.kk_answer.specs.declared.answer.RunEnd.TheVariants as OfRun

-- why the image stops where a run ends so: it exits with the number of the program's end, or the budget or a device stops it
abbrev pub halt_for : RunEnd → Halt
halt_for OfRun.Ended = OfHalt.Exit (exit_of ended)
halt_for OfRun.HeapFull = OfHalt.Exit (exit_of heap_full)
halt_for OfRun.StackFull = OfHalt.Exit (exit_of stack_full)
halt_for OfRun.StepsSpent = OfHalt.StepsSpent
halt_for OfRun.InputFault = OfHalt.InputFault
halt_for OfRun.OutputFault = OfHalt.OutputFault

-- on an input the program ends so, and these events are all that it does
abbrev pub EndsAs : End → Setting → List ℕ → List Event → Type 0
EndsAs end setting input events = (n : ℕ) × (source_after setting input n ≡ record { trace = events; ending = Some end })

-- on an input these events are the first that the program does
abbrev pub DoesFirst : Setting → List ℕ → List Event → Type 0
DoesFirst setting input events = (n : ℕ) × IsPrefix events (source_after setting input n).trace

-- A run that has ended has done all that the program does, and the program ends alike. One that was stopped has done the first of it.
abbrev pub Means : RunEnd → Setting → List ℕ → List Event → Type 0
Means OfRun.Ended setting input events = EndsAs ended setting input events
Means OfRun.HeapFull setting input events = EndsAs heap_full setting input events
Means OfRun.StackFull setting input events = EndsAs stack_full setting input events
Means _ setting input events = DoesFirst setting input events

-- A run with these events, which ended so, did what the program means as it is run, on so many cells and with such a depth: on each
-- input of bytes that the events can have taken.
abbrev pub MeansRun : ProgramTree → ℕ → ℕ → RunEnd → List Event → Type 0
MeansRun program cells depth end events =
    (setting : Setting) → IsRun program cells depth setting → (input rest : List ℕ) → All (λ byte. byte < 256) input → TakesFrom events input rest
    → Means end setting input events
