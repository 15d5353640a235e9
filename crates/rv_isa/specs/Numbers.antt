-- The numbers of the execution environment: its calls, the files that they name, the causes of traps, and the size of a cell.
use Rattle.std.specs.Prelude.{ℕ, ◌*◌}

-- the calls, with the numbers that Linux gives them on RISC-V
abbrev pub read_call : ℕ
read_call = 63

abbrev pub write_call : ℕ
write_call = 64

abbrev pub exit_call : ℕ
exit_call = 93

-- the files, as POSIX numbers them
abbrev pub standard_input : ℕ
standard_input = 0

abbrev pub standard_output : ℕ
standard_output = 1

-- the causes of traps, which have numbers of this project's own
abbrev pub illegal_instruction : ℕ
illegal_instruction = 1

abbrev pub fetch_fault : ℕ
fetch_fault = 2

abbrev pub misaligned_target : ℕ
misaligned_target = 3

abbrev pub access_fault : ℕ
access_fault = 4

abbrev pub misaligned_access : ℕ
misaligned_access = 5

abbrev pub unknown_call : ℕ
unknown_call = 6

-- the words of a cell: its count, its tag with the mask of its fields, and its fields
abbrev pub cell_words : ℕ
cell_words = 8

-- its bytes; a cell lies at a multiple of them
abbrev pub cell_size : ℕ
cell_size = 4 * cell_words
