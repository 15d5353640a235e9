use Rattle.std.proofs.Common.{◌≡◌, ◌++◌, [], map, drop}
use Rattle.kk_syntax.specs.Patterns.{pattern_tree}
use Rattle.kk_match.specs.Parts.{types_of, parts_of}
use Rattle.kk_match.specs.Views.{part_of}
use Rattle.kk_match.proofs.deciding.questions_of_rows.Given as goal

abbrev pub invariant-loop-pattern : goal.invariant-loop-pattern
invariant-loop-pattern l =
    map (λ qs. map part_of qs.items) l.found.items ++ map (λ p. parts_of (types_of l.rows.constructors.now) [] (pattern_tree p.now)) (drop l.pattern-index l.rows.patterns.items)
    ≡ map (λ p. parts_of (types_of l.rows.constructors.now) [] (pattern_tree p.now)) l.rows.patterns.items
