use Rattle.std.proofs.Common.{◌≡◌, ◌+◌, map, drop}
use Rattle.kk_syntax.specs.Surface.{written_constructor}
use Rattle.kk_names.specs.Methods.{state_of, behind_cases}
use Rattle.kk_names.proofs.resolver.Resolver.declare_cases.Given as goal

abbrev pub invariant-loop-case : goal.invariant-loop-case
invariant-loop-case l =
    (l.number ≡ l.first + l.case-index)
    × (behind_cases l.number (map written_constructor (drop l.case-index l.cases)) (state_of l.self)
    ≡ behind_cases l.first (map written_constructor l.cases) (state_of l.fn.self))
