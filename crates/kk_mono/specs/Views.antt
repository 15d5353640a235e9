-- What the parts of the search mean in memory.
use Rattle.std.specs.Prelude.{List}
use Rattle.kk_syntax.specs.GroundPrograms.{ground_types}
use Rattle.kk_syntax.specs.Types.{TypeTree}
use Rattle.kk_mono.specs.declared.types.Types.{Types}

-- the types of a table, by their numbers
abbrev pub types_in : Types → List TypeTree
types_in table = ground_types table.nodes.keys
