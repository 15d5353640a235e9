-- The numbers with which an image exits where its program cannot go on.
use Rattle.std.specs.Prelude.{ℕ}

-- its live cells fill the heap
abbrev pub heap_full_exit : ℕ
heap_full_exit = 101

-- its calls pass the depth
abbrev pub stack_full_exit : ℕ
stack_full_exit = 102
