-- The routine that ends the run: an exit with one of three numbers.
use Rattle.std.specs.Prelude.{ℕ}
use Rattle.kk_base.specs.Exits.{heap_full_exit, stack_full_exit}
use Rattle.rv_isa.specs.Processor.{Processor}
use Rattle.rv_isa.specs.Standing.{Code}
use Rattle.cell_runtime.specs.declared.process.Ending.{Ending}
use Rattle.cell_runtime.specs.declared.process.Ending.TheVariants.{Ended, HeapFull, StackFull}
use Rattle.cell_runtime.specs.Calls.{IsAt, Exits}

-- the exit number of an end
abbrev pub number_of : Ending → ℕ
number_of Ended = 0
number_of HeapFull = heap_full_exit
number_of StackFull = stack_full_exit

abbrev pub IsStop : Ending → Code → ℕ → Type 0
IsStop ending code at = (s : Processor) → IsAt code at s → Exits code (number_of ending) 3 s
