use Rattle.std.proofs.Common.{◌≡◌, map, take}
use Rattle.kk_syntax.specs.Patterns.{pattern_tree}
use Rattle.kk_mono.specs.Labels.{left_in, behind, names_of_pattern, labelled_pattern, names_of_each, labelled_each}
use Rattle.kk_mono.proofs.body.+labelled_pattern.Given as goal

abbrev pub invariant-labelled_patterns-loop-pattern : goal.invariant-labelled_patterns-loop-pattern
invariant-labelled_patterns-loop-pattern l = record {
  trees : map pattern_tree l.copies.items
      ≡ labelled_each names_of_pattern labelled_pattern (left_in l.initial.labels)
      (take l.pattern-index (map pattern_tree l.patterns));
  rest : left_in l.labels ≡ behind (left_in l.initial.labels)
      (names_of_each names_of_pattern (take l.pattern-index (map pattern_tree l.patterns)));
}
