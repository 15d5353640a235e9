use Rattle.std.proofs.Common.{◌≡◌, map, subst, sym, arith}
use Rattle.std.proofs.lemmas.Grind.{common_steps}
use Rattle.elf_image.specs.Parts.{memory_of}
use Rattle.rv_sim.specs.Areas.{filled, parts_of_areas, AreApart}
use Rattle.rv_sim.proofs.StartMachine.{are_apart-filled}
use Rattle.rv_sim.proofs.memory.Memory.from_parts.Goals as goal

pub new-requires : goal.new-requires
new-requires c =
    let whole : parts_of_areas c.loop-part.areas.items ≡ map filled (memory_of c.args.parts.now) = grind (arith, common_steps) in
    subst AreApart (sym whole) (are_apart-filled c.args.parts.now c.requires.apart)
