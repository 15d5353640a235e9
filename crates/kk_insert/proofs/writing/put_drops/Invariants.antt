use Rattle.std.proofs.Common.{◌≡◌, ◌≤◌, length, drop}
use Rattle.kk_counted.specs.CountedForms.{block_code}
use Rattle.kk_insert.specs.Insertion.{drops}
use Rattle.kk_insert.proofs.writing.put_drops.Given as goal

abbrev pub invariant-back : goal.invariant-back
invariant-back l =
    (block_code l.block ≡ drops (drop l.left l.variables) (block_code l.initial.block)) × (l.left ≤ length l.variables)

abbrev pub decreases-back : goal.decreases-back
decreases-back l = l.left
