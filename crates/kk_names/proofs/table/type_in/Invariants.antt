use Rattle.std.proofs.Common.{◌≡◌, drop}
use Rattle.kk_names.specs.Tables.{type_in}
use Rattle.kk_names.proofs.table.type_in.Given as goal

-- none of the declared names so far is the one that is sought
abbrev pub invariant-loop-declared : goal.invariant-loop-declared
invariant-loop-declared l = type_in l.table l.name ≡ type_in (drop l.declared-index l.table) l.name
