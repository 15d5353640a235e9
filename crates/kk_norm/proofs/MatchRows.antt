-- The matches of a typed program have rows.
use Rattle.std.proofs.Common.{◌++◌}
use Rattle.kk_syntax.proofs.Elements.{each_parts}
use Rattle.kk_syntax.proofs.Walks.{typed_gathered}
use Rattle.kk_syntax.specs.Covered.{Each, IsCovered, asked_by}
use Rattle.kk_syntax.specs.GroundTyping.{Table, table_of, IsGroundTyped}
use Rattle.kk_syntax.specs.OfType.{values_of}
use Rattle.kk_syntax.specs.Outlines.{any}
use Rattle.kk_syntax.specs.Patterns.{Pattern}
use Rattle.kk_syntax.specs.Programs.{ProgramTree}
use Rattle.kk_syntax.specs.Shapes.{gathered, gathered_all, gathered_rows}
use Rattle.kk_syntax.specs.Trees.{Tree, Trees, tree, Rows, no_row, row, row_parts}
use Rattle.kk_syntax.specs.Types.{TypeTree}
use Rattle.kk_norm.specs.MatchRows.{gathers_rows, MatchesHaveRows, AllMatchesHaveRows, IsSomeRow, BodiesHaveRows, FunctionsHaveRows}

-- no rows miss each value
covered_rows : (table : Table) (rows : Rows) (u : TypeTree) → IsCovered (values_of table.constructors) u (asked_by rows)
    → IsSomeRow rows
covered_rows table no_row u covered = covered any (record { typed = tt; clashes = tt })
covered_rows table (row first rest) u covered = tt

pub functions_have_rows : (program : ProgramTree) → IsGroundTyped program → FunctionsHaveRows program.functions
functions_have_rows program typed =
    let table : Table = table_of program in
    λ f function is.
    typed_gathered table gathers_rows IsSomeRow (λ form. tt) (λ pattern. tt)
    (λ rows u covered. (covered_rows table rows u covered, tt))
    function.body _ function.result (typed.functions f function is)

-- what is so of the whole is so of its parts
pub of_parts : (e other : Tree) → Each IsSomeRow (gathered gathers_rows e ++ gathered gathers_rows other) → MatchesHaveRows e
    × MatchesHaveRows other
of_parts e other = each_parts IsSomeRow (gathered gathers_rows e) (gathered gathers_rows other)

pub of_first : (e : Tree) (es : Trees) → AllMatchesHaveRows (tree e es) → MatchesHaveRows e × AllMatchesHaveRows es
of_first e es = each_parts IsSomeRow (gathered gathers_rows e) (gathered_all gathers_rows es)

pub of_body : (pattern : Pattern) (body : Tree) (rest : Rows) → BodiesHaveRows (row (row_parts pattern body) rest) → MatchesHaveRows body
    × BodiesHaveRows rest
of_body pattern body rest = each_parts IsSomeRow (gathered gathers_rows body) (gathered_rows gathers_rows rest)
