use Rattle.std.proofs.Common.{◌≡◌, map}
use Rattle.kk_counted.specs.CountedForms.{block_code}
use Rattle.kk_insert.specs.Parts.{part_of, arm_in}
use Rattle.kk_insert.proofs.blocks.Insertion.arms_behind.Given as goal

abbrev pub invariant-loop-part : goal.invariant-loop-part
invariant-loop-part l = map block_code l.arms.items ≡ map (arm_in l.all) (map part_of l.yielded)
