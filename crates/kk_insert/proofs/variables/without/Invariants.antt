use Rattle.std.proofs.Common.{◌≡◌, ◌++◌, drop}
use Rattle.kk_syntax.specs.Shapes.{without}
use Rattle.kk_insert.proofs.variables.without.Given as goal

abbrev pub invariant-loop-variable : goal.invariant-loop-variable
invariant-loop-variable l =
    l.found.items ++ without l.others (drop l.variable-index l.variables) ≡ without l.others l.variables
