use Rattle.std.proofs.Common.{◌≡◌, ◌++◌, map, drop}
use Rattle.kk_syntax.specs.Patterns.{pattern_tree, patterns_of}
use Rattle.kk_match.specs.Parts.{types_of, parts_of_all}
use Rattle.kk_match.specs.Views.{part_of}
use Rattle.kk_match.proofs.question.+adding.Given as goal

abbrev pub invariant-add_parts-loop-field : goal.invariant-add_parts-loop-field
invariant-add_parts-loop-field l =
    map part_of l.found.items ++ parts_of_all (types_of l.constructors) l.at l.field (patterns_of (map pattern_tree (drop l.field l.parts)))
    ≡ map part_of l.initial.found.items ++ parts_of_all (types_of l.constructors) l.at 0 (patterns_of (map pattern_tree l.parts))
