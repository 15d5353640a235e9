use Rattle.std.proofs.Common.{◌≡◌, map, take}
use Rattle.elf_image.specs.Loaded.{part_of}
use Rattle.elf_image.proofs.segments.parts.Given as goal

abbrev pub invariant-loop-segment : goal.invariant-loop-segment
invariant-loop-segment l = l.parts.items ≡ map (part_of l.file) (take l.segment-index l.segments)
