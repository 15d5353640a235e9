-- How an image tells the end of its program.
use Rattle.std.specs.Prelude.{ℕ}
use Rattle.kk_base.specs.Exits.{heap_full_exit, stack_full_exit}
use Rattle.kk_source.specs.State.{End, ended, heap_full, stack_full}

-- the number with which the image exits, by how the program ends: by itself, with the heap full, or with the stack full
abbrev pub exit_of : End → ℕ
exit_of ended = 0
exit_of heap_full = heap_full_exit
exit_of stack_full = stack_full_exit
