use Rattle.std.proofs.Common.{◌≡◌, ◌++◌, map, drop}
use Rattle.std.specs.Prelude.{codes}
use Rattle.kk_syntax.specs.Programs.{program_tree}
use Rattle.kk_syntax.specs.Outlines.{outline_list, pattern_outline}
use Rattle.kk_cover.specs.ExampleSpelling.{spelled_from}
use Rattle.kk_cover.proofs.spelling.+spell.Given as goal

abbrev pub invariant-spell_parts-loop-part : goal.invariant-spell_parts-loop-part
invariant-spell_parts-loop-part l =
    l.bytes.items ++ spelled_from (program_tree l.program) l.separator (outline_list (map pattern_outline (drop l.part-index l.parts)))
    ≡ l.fn.bytes.items ++ spelled_from (program_tree l.program) (codes "(") (outline_list (map pattern_outline l.parts))
