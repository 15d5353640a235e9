use Rattle.std.proofs.Common.{◌≡◌, map, drop}
use Rattle.kk_syntax.specs.Surface.{written_declaration}
use Rattle.kk_names.specs.Methods.{state_of, behind_functions}
use Rattle.kk_names.proofs.resolver.Resolver.declare_functions.Given as goal

abbrev pub invariant-loop-declaration : goal.invariant-loop-declaration
invariant-loop-declaration l =
    behind_functions l.number (map written_declaration (drop l.declaration-index l.declarations)) (state_of l.self)
    ≡ behind_functions 0 (map written_declaration l.declarations) (state_of l.fn.self)
