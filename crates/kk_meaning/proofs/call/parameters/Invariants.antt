use Rattle.std.proofs.Common.{◌≡◌, map, drop}
use Rattle.kk_source.specs.State.{Environment}
use Rattle.kk_source.specs.Step.{bind_parameters}
use Rattle.kk_meaning.specs.View.{value_view, bound_view, pushed}
use Rattle.kk_meaning.proofs.call.parameters.Given as goal

abbrev pub invariant-loop-variable : goal.invariant-loop-variable
invariant-loop-variable l = (environment : Environment) → bind_parameters l.variable (map value_view (drop l.variable l.arguments)) (pushed (map bound_view l.bound.items) environment) ≡ bind_parameters 0 (map value_view l.arguments) environment
