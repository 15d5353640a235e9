use Rattle.std.proofs.Common.{◌≡◌, map, drop}
use Rattle.kk_syntax.specs.Surface.{written_type, types_of}
use Rattle.kk_names.specs.TypeNames.{with_all_variables}
use Rattle.kk_names.proofs.scope.+see.Given as goal

abbrev pub invariant-see_all-loop-written : goal.invariant-see_all-loop-written
invariant-see_all-loop-written l =
    with_all_variables (types_of (map written_type (drop l.written-index l.types))) l.variables.items ≡ with_all_variables (types_of (map written_type l.types)) l.fn.variables.items
