use Rattle.std.proofs.Common.{◌≡◌, ◌-◌, ◌≤◌, length, map}
use Rattle.kk_emitter.specs.Drafts.{copies}
use Rattle.kk_emitter.specs.Works.{items_of}
use Rattle.kk_emitter.proofs.lists.copies.Given as goal

abbrev pub invariant-grow : goal.invariant-grow
invariant-grow l = (map items_of l.found.items ≡ copies (length l.found.items) l.variables) × (length l.found.items ≤ l.count)

abbrev pub decreases-grow : goal.decreases-grow
decreases-grow l = l.count - length l.found.items
