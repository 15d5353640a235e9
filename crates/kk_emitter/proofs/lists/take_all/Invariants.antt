use Rattle.std.proofs.Common.{◌≡◌, drop}
use Rattle.kk_counted.specs.VariableLists.{minus_all}
use Rattle.kk_emitter.proofs.lists.take_all.Given as goal

abbrev pub invariant-loop-variable : goal.invariant-loop-variable
invariant-loop-variable l =
    minus_all (drop l.variable-index l.variables) l.owed.items ≡ minus_all l.variables l.initial.owed.items
