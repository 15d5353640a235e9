use Rattle.std.proofs.Common.{◌≡◌, map, take}
use Rattle.elf_image.specs.Parts.{memory_of}
use Rattle.rv_sim.specs.Areas.{filled, parts_of_areas}
use Rattle.rv_sim.proofs.memory.Memory.from_parts.Given as goal

abbrev pub invariant-loop-part : goal.invariant-loop-part
invariant-loop-part l = parts_of_areas l.areas.items ≡ map filled (memory_of (take l.part-index l.part-items))
