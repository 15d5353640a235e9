use Rattle.std.proofs.Common.{◌≡◌, ◌≤◌, false, drop, vec_len, vec_capacity}
use Rattle.kk_counted.specs.VariableLists.{minus_all}
use Rattle.kk_counted.specs.Spending.{at_positions}
use Rattle.kk_emitter.specs.Works.{used_at, passes}
use Rattle.kk_emitter.proofs.lists.take_used.Given as goal

abbrev pub invariant-loop-at : goal.invariant-loop-at
invariant-loop-at l =
    (minus_all (at_positions (passes l.parameters false) l.at (drop l.at l.arguments)) l.owed.items
    ≡ minus_all (used_at l.parameters l.arguments) l.initial.owed.items)
    × ((vec_capacity l.owed ≡ vec_capacity l.initial.owed) × (vec_len l.owed ≤ vec_len l.initial.owed))
