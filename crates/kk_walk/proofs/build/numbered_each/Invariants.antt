use Rattle.std.proofs.Common.{◌≡◌, map, take, slice_index_or}
use Rattle.kk_walk.proofs.build.numbered_each.Given as goal

abbrev pub invariant-loop-node : goal.invariant-loop-node
invariant-loop-node l = l.found.items ≡ map (λ i. slice_index_or l.numbers i 0) (take l.node-index l.at)
