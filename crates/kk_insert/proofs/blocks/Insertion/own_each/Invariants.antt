use Rattle.std.proofs.Common.{◌≡◌, ◌≤◌, map, length, drop}
use Rattle.kk_insert.specs.Parts.{own_each, part_of}
use Rattle.kk_insert.proofs.blocks.Insertion.own_each.Given as goal

abbrev pub invariant-back : goal.invariant-back
invariant-back l = (l.found.items ≡ own_each l.left (map part_of (drop l.count l.parts))) × (l.count ≤ length l.parts)

abbrev pub decreases-back : goal.decreases-back
decreases-back l = l.count
