use Rattle.std.proofs.Common.{◌≡◌, drop, map}
use Rattle.std.specs.Prelude.{flat_map}
use Rattle.kk_syntax.specs.Programs.{constructor_tree, program_tree}
use Rattle.kk_syntax.specs.Declarations.{quantities_of_constructor, sooner, first_over}
use Rattle.kk_limits.proofs.declarations.first_of_constructors.Given as goal

-- the first one of all is the first one so far, or of those that are left
abbrev pub invariant-loop-constructor : goal.invariant-loop-constructor
invariant-loop-constructor l =
    first_over (flat_map (quantities_of_constructor (program_tree l.program)) (program_tree l.program).constructors)
    ≡ sooner l.first (first_over (flat_map (quantities_of_constructor (program_tree l.program)) (map constructor_tree (drop l.constructor-index l.program.constructors.items))))
