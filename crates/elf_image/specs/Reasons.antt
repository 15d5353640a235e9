-- The numbers of the conditions on an image.
use Rattle.std.specs.Prelude.{ℕ, Option, Some, None}
use Rattle.elf_image.specs.declared.bad_image.BadImage.{BadImage}
use Rattle.elf_image.specs.declared.bad_image.BadImage.TheVariants.{Short, NotElf, NotRv32, NotExec, BadHeaders, PartOutside, PartsOverlap, TooLarge, BadEntry, NoMemory}

-- the number that a line tells; none for want of memory
abbrev pub reason_number_of : BadImage → Option ℕ
reason_number_of Short = Some 1
reason_number_of NotElf = Some 2
reason_number_of NotRv32 = Some 3
reason_number_of NotExec = Some 4
reason_number_of BadHeaders = Some 5
reason_number_of PartOutside = Some 6
reason_number_of PartsOverlap = Some 7
reason_number_of TooLarge = Some 8
reason_number_of BadEntry = Some 9
reason_number_of NoMemory = None
