use Rattle.std.proofs.Common.{◌≡◌}
use Rattle.kk_source.specs.Live.{value_of}
use Rattle.kk_meaning.specs.View.{environment_of}
use Rattle.kk_meaning.proofs.binding.Bindings.value_of.Given as goal

abbrev pub invariant-loop-left : goal.invariant-loop-left
invariant-loop-left l =
    value_of (environment_of l.self.links.items l.left) l.variable ≡ value_of (environment_of l.self.links.items l.environment) l.variable

abbrev pub decreases-loop-left : goal.decreases-loop-left
decreases-loop-left l = l.left
