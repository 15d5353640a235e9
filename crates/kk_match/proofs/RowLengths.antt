-- Rows that are tried in turn are brief: a test has one edge, and the positions of a pattern's parts are short together.
use Rattle.std.proofs.Common.{◌≡◌, ℕ, ◌+◌, ◌*◌, ◌-◌, ◌<◌, ◌≤◌, Bool, true, false, Some, List, [], ◌∷◌, ◌++◌, length, refl, sym, ap, ◌∙◌, subst, arith, length-append}
use Rattle.std.specs.Prelude.{count_by, if◌then◌else◌}
use Rattle.std.proofs.lemmas.List.Sums.{sum_by-cons}
use Rattle.kk_syntax.specs.Patterns.{Pattern, anything, variable, exactly, constructor, Patterns, no_part, part}
use Rattle.kk_syntax.specs.Programs.{ConstructorTree}
use Rattle.kk_syntax.specs.Shapes.{nodes_of_pattern, nodes_of_patterns}
use Rattle.kk_core.specs.declared.decisions.Answer.TheVariants.{Constructor}
use Rattle.kk_core.specs.CaseLengths.{choice_length, length_of_test, tests_length, brief_pair_length, most_brief}
use Rattle.kk_core.specs.Cases.{IsLean}
use Rattle.kk_core.specs.RowChoice.{Decides}
use Rattle.kk_core.specs.Decisions.{NodeTree, chooses, tests}
use Rattle.kk_match.specs.Decided.{is_test, most_tests, brief_length, rows_in_turn, many_tests, long_tests, IsFormed, IsBrieflyFormed}
use Rattle.kk_match.specs.Graphs.{lines_from, weight, HasMoreTests}
use Rattle.kk_match.specs.InTurn.{with_parts, with_rows}
use Rattle.kk_match.specs.Parts.{Part, has_several, parts_of, parts_of_all, AreTypeNumbers}
use Rattle.kk_match.proofs.NodeDecisions.{turn_some, turn_decides, turn_lean}
use Rattle.kk_match.proofs.Edges.{formed_few, lines_small}
use Rattle.kk_match.proofs.GraphStates.{tests_turned, rows_test}
use Rattle.kk_match.proofs.TestSizes.{length_both, turned_length, node_each}

-- ---- how long the tests of parts are

abbrev parts_length : List Part → ℕ
parts_length [] = 0
parts_length (q ∷ qs) = length_of_test (length q.at) 1 + parts_length qs

both_length : (ps qs : List Part) → parts_length (ps ++ qs) ≡ parts_length ps + parts_length qs
both_length [] qs = omega arith
both_length (p ∷ ps) qs = let rest = both_length ps qs in omega (arith, rest)

with_parts_length : (other : ℕ) (qs : List Part) (nodes : List NodeTree)
    → tests_length (with_parts other qs nodes) ≡ parts_length qs + tests_length nodes
with_parts_length other [] nodes = omega arith
with_parts_length other (q ∷ qs) nodes =
    let before : List NodeTree = with_parts other qs nodes in
    let rest = with_parts_length other qs nodes in
    let both = length_both before (tests q.at (record { found = q.asked; next = length before - 1 } ∷ []) (Some other) ∷ []) in
    omega (arith, rest, both)

-- ---- the parts of a pattern at a position of so many fields

mutual
  pattern_brief : (types at : List ℕ) (d : ℕ) (p : Pattern) → length at ≡ d
      → parts_length (parts_of types at p) + choice_length * nodes_of_pattern p
      ≤ nodes_of_pattern p * length_of_test d 1 + brief_pair_length * nodes_of_pattern p * nodes_of_pattern p
  pattern_brief types at d anything deep = omega arith
  pattern_brief types at d (variable x) deep = omega arith
  pattern_brief types at d (exactly n) deep = omega (arith, deep)
  pattern_brief types at d (constructor c ps) deep = by (has_several types c) (patterns_brief types at d 0 ps deep)
    where
      m : ℕ
      m = nodes_of_patterns ps

      by : (several : Bool)
          → parts_length (parts_of_all types at 0 ps) + choice_length * m ≤ m * length_of_test (d + 1) 1 + brief_pair_length * m * m
          → parts_length ((if several then record { at = at; asked = Constructor c } ∷ [] else []) ++ parts_of_all types at 0 ps)
          + choice_length * (m + 1)
          ≤ (m + 1) * length_of_test d 1 + brief_pair_length * (m + 1) * (m + 1)
      by true few = omega (arith, few, deep)
      by false few = omega (arith, few)

  patterns_brief : (types at : List ℕ) (d field : ℕ) (ps : Patterns) → length at ≡ d
      → parts_length (parts_of_all types at field ps) + choice_length * nodes_of_patterns ps
      ≤ nodes_of_patterns ps * length_of_test (d + 1) 1 + brief_pair_length * nodes_of_patterns ps * nodes_of_patterns ps
  patterns_brief types at d field no_part deep = omega arith
  patterns_brief types at d field (part first rest) deep =
      let inner : length (at ++ field ∷ []) ≡ d + 1 = let long = length-append at (field ∷ []) in omega (arith, long, deep) in
      let both = both_length (parts_of types (at ++ field ∷ []) first) (parts_of_all types at (field + 1) rest) in
      let one = pattern_brief types (at ++ field ∷ []) (d + 1) first inner in
      let others = patterns_brief types at d (field + 1) rest deep in
      omega (arith, both, one, others)

-- ---- rows

rows_brief : (types : List ℕ) (k : ℕ) (ps : List Pattern) → tests_length (with_rows (lines_from types k ps) []) ≤ brief_length ps
rows_brief types k [] = omega arith
rows_brief types k (p ∷ ps) =
    let nodes : List NodeTree = with_rows (lines_from types (k + 1) ps) [] in
    let more = with_parts_length (length nodes - 1) (parts_of types [] p) (nodes ++ chooses k ∷ []) in
    let both = length_both nodes (chooses k ∷ []) in
    let one = pattern_brief types [] 0 p refl in
    let some = node_each p in
    let others = rows_brief types (k + 1) ps in
    subst (λ (s : ℕ). tests_length (with_rows (lines_from types k (p ∷ ps)) []) ≤ most_brief s)
    (sym (sum_by-cons nodes_of_pattern p ps))
    (omega (arith, more, both, one, some, others))

-- ---- decisions that try the rows in turn

abbrev others_of : List ℕ → List Pattern → List NodeTree
others_of types ps = with_rows (lines_from types 0 ps) []

pub turns_brief : (types : List ℕ) (ps : List Pattern) (nodes : List NodeTree) → nodes ≡ rows_in_turn types ps
    → tests_length nodes ≤ brief_length ps
turns_brief types ps nodes is =
    omega (arith, ap tests_length is, turned_length (length (others_of types ps) - 1) (others_of types ps), rows_brief types 0 ps)

pub turns_decide : (constructors : List ConstructorTree) (types : List ℕ) (ps : List Pattern) (nodes : List NodeTree)
    → AreTypeNumbers constructors types → 0 < length ps → nodes ≡ rows_in_turn types ps → Decides constructors ps nodes
turns_decide constructors types ps nodes numbers some is =
    let others = others_of types ps in
    subst (Decides constructors ps) (sym is)
    (turn_decides types others (length others - 1) (turn_some types others ps some refl) ps some refl constructors numbers)

pub turns_lean : (types : List ℕ) (ps : List Pattern) (nodes : List NodeTree)
    → 0 < length ps → nodes ≡ rows_in_turn types ps → IsLean nodes ps
turns_lean types ps nodes some is =
    let others = others_of types ps in
    subst (λ (ns : List NodeTree). IsLean ns ps) (sym is)
    (turn_lean types others (length others - 1) (turn_some types others ps some refl) ps some refl)

turns_count : (types : List ℕ) (ps : List Pattern) (nodes : List NodeTree) → nodes ≡ rows_in_turn types ps
    → count_by is_test nodes ≡ weight (lines_from types 0 ps)
turns_count types ps nodes is =
    ap (count_by is_test) is
    ∙ (tests_turned (length (others_of types ps) - 1) (others_of types ps) ∙ rows_test (lines_from types 0 ps))

pub turns_formed : (types : List ℕ) (ps : List Pattern) (nodes : List NodeTree) (count : ℕ) (by_rows : Bool)
    → HasMoreTests types (lines_from types 0 ps) (most_tests ps) → nodes ≡ rows_in_turn types ps
    → count ≡ count_by is_test nodes → by_rows ≡ true → IsFormed types ps nodes count by_rows
turns_formed types ps nodes count by_rows more is counted by =
    subst (IsFormed types ps nodes count) (sym by) (more, counted ∙ turns_count types ps nodes is, is)

-- ---- brief decisions

-- of rows in turn, where others would be long
pub turns_briefly : (types : List ℕ) (ps : List Pattern) (long : List NodeTree) (many : ℕ) (long_by_rows : Bool)
    (nodes : List NodeTree) (count : ℕ) (by_rows : Bool) → IsFormed types ps long many long_by_rows
    → brief_length ps < tests_length long → nodes ≡ rows_in_turn types ps
    → count ≡ count_by is_test nodes → by_rows ≡ true → IsBrieflyFormed types ps nodes count by_rows
turns_briefly types ps long many false nodes count by_rows formed over is counted by =
    subst (IsBrieflyFormed types ps nodes count) (sym by)
    (long_tests long formed.3 over, counted ∙ turns_count types ps nodes is, is)
turns_briefly types ps long many true nodes count by_rows formed over is counted by =
    subst (IsBrieflyFormed types ps nodes count) (sym by)
    (many_tests formed.0, counted ∙ turns_count types ps nodes is, is)

-- there are few tests in either form
pub briefly_few : (types : List ℕ) (ps : List Pattern) (nodes : List NodeTree) (count : ℕ) (by_rows : Bool)
    → IsBrieflyFormed types ps nodes count by_rows → count ≤ most_tests ps
briefly_few types ps nodes count false formed = formed_few types ps nodes count false formed
briefly_few types ps nodes count true formed =
    let same = formed.1 in
    let few = lines_small types 0 ps in
    omega (arith, same, few)
