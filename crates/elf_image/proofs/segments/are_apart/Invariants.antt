use Rattle.std.proofs.Common.{◌≡◌, map, drop}
use Rattle.elf_image.specs.Parts.{are_apart}
use Rattle.elf_image.specs.Reading.{extent_of}
use Rattle.elf_image.proofs.segments.are_apart.Given as goal

abbrev pub invariant-loop-i : goal.invariant-loop-i
invariant-loop-i l = are_apart (map extent_of l.segments) ≡ are_apart (map extent_of (drop l.i l.segments))
