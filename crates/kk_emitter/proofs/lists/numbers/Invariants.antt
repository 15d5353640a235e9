use Rattle.std.proofs.Common.{◌≡◌, ◌+◌, ◌-◌, ◌≤◌, length}
use Rattle.kk_counted.specs.Spending.{numbers_from}
use Rattle.kk_emitter.proofs.lists.numbers.Given as goal

abbrev pub invariant-grow : goal.invariant-grow
invariant-grow l =
    (l.found.items ≡ numbers_from l.from (length l.found.items)) × ((l.next ≡ l.from + length l.found.items) × (length l.found.items ≤ l.count))

abbrev pub decreases-grow : goal.decreases-grow
decreases-grow l = l.count - length l.found.items
