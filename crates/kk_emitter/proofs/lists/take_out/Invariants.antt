use Rattle.std.proofs.Common.{◌≡◌, ◌++◌, take, drop}
use Rattle.kk_counted.specs.VariableLists.{minus}
use Rattle.kk_emitter.proofs.lists.take_out.Given as goal

abbrev pub invariant-loop-at : goal.invariant-loop-at
invariant-loop-at l =
    (minus l.variable l.owed.items ≡ take l.at l.owed.items ++ minus l.variable (drop l.at l.owed.items)) × (l.owed.items ≡ l.initial.owed.items)
