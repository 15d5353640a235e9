use Rattle.std.proofs.Common.{◌≡◌, ◌+◌, length}
use Rattle.kk_unify.specs.WalkOf.{IsReadyIn}
use Rattle.kk_unify.proofs.walk.Rooted.advance.Given as goal

abbrev pub invariant-loop-argument : goal.invariant-loop-argument
invariant-loop-argument l = (l.frame.node ≡ l.fn.frame.node) × IsReadyIn l.self l.marks l.frame × (length l.frame.numbers.items ≡ length l.fn.frame.numbers.items + l.argument-index)
