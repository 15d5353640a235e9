use Rattle.std.proofs.Common.{◌≡◌, ◌≤◌, map, length, take, drop}
use Rattle.kk_syntax.specs.PositionsOf.{positions_of}
use Rattle.kk_core.specs.Codes.{step_piece, arm_code, plug}
use Rattle.kk_core.specs.Codes.{last_code as core_last_code}
use Rattle.kk_counted.specs.CountedForms.{block_code}
use Rattle.kk_insert.specs.Insertion.{own, insert}
use Rattle.kk_insert.specs.Parts.{part_of, part_in}
use Rattle.kk_insert.proofs.blocks.Insertion.+block.Given as goal

abbrev pub invariant-arms-loop-arm : goal.invariant-arms-loop-arm
invariant-arms-loop-arm l =
    map part_of l.parts.items
    ≡ map (part_in (positions_of l.self.positions.now) l.self.lent.now l.left) (map arm_code (take l.arm-index l.arms))

abbrev pub invariant-block-back : goal.invariant-block-back
invariant-block-back l =
    (l.part.owned.items
    ≡ own (positions_of l.self.positions.now) l.self.lent.now l.left
    (plug (map step_piece (drop l.count l.block.steps.items)) (core_last_code l.block.last)))
    × ((block_code l.part.block
    ≡ insert (positions_of l.self.positions.now) l.self.lent.now l.left
    (plug (map step_piece (drop l.count l.block.steps.items)) (core_last_code l.block.last)))
    × (l.count ≤ length l.block.steps.items))

abbrev pub decreases-block-back : goal.decreases-block-back
decreases-block-back l = l.count
