use Rattle.std.proofs.Common.{vec_len, ◌-◌, ◌≤◌}
use Rattle.kk_host.proofs.store.read_file.Given as goal

abbrev pub invariant-loop-chunk : goal.invariant-loop-chunk
invariant-loop-chunk g l = vec_len l.bytes ≤ l.at_most

abbrev pub decreases-loop-chunk : goal.decreases-loop-chunk
decreases-loop-chunk g l = l.at_most - vec_len l.bytes
