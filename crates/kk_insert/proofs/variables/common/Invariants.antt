use Rattle.std.proofs.Common.{◌≡◌, ◌++◌, drop}
use Rattle.kk_insert.specs.Insertion.{common}
use Rattle.kk_insert.proofs.variables.common.Given as goal

abbrev pub invariant-loop-variable : goal.invariant-loop-variable
invariant-loop-variable l =
    l.found.items ++ common l.others (drop l.variable-index l.variables) ≡ common l.others l.variables
