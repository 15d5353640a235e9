-- The forms of a core form take few words for each node of the text that it is made of, and its tests are brief.
use Rattle.std.proofs.Common.{◌≡◌, ℕ, ◌+◌, ◌-◌, ◌*◌, ◌≤◌, ◌&&◌, Bool, true, false, List, [], ◌∷◌, length, refl, ap, sym, subst, ◌∙◌, arith}
use Rattle.std.specs.Prelude.{if◌then◌else◌, sum_by}
use Rattle.std.proofs.lemmas.List.Sums.{sum_by-cons}
use Rattle.kk_syntax.specs.declared.program.Form.{Form}
use Rattle.kk_syntax.specs.declared.program.Form.TheVariants.{Call, Construct}
use Rattle.kk_syntax.specs.Patterns.{Pattern, anything, variable as pattern_variable, exactly, constructor, Patterns, no_part, part}
use Rattle.kk_syntax.specs.Programs.{ConstructorTree, FunctionTree, ProgramTree}
use Rattle.kk_syntax.specs.Shapes.{nodes_of, nodes_of_all, nodes_of_rows, nodes_of_pattern, variable_of}
use Rattle.kk_syntax.specs.Trees.{Tree, variable, apply, branch, match, sequence, Trees, no_tree, tree, Rows, no_row, row, row_parts}
use Rattle.kk_core.specs.CaseLengths.{tests_length, brief_node_length, brief_pair_length, most_brief}
use Rattle.kk_core.specs.CodeNodes.{is_plain_pattern, are_truths, first_fields, case_nodes, AreBriefFor, HasBriefTests, HaveBriefTests, StandsForNodes, StandForNodes}
use Rattle.kk_core.specs.CodeNodes.{drops_words, plain_words, arms_plain_words, most_node_words, reference_length, give_words, argument_words, print_words, string_words, case_words, opening_words, opened_field_words}
use Rattle.kk_core.specs.Codes.{Code, case, Arms, patterns_of, FunctionCode, ProgramCode}
use Rattle.kk_core.specs.Decisions.{NodeTree}
use Rattle.kk_core.specs.Truths.{truth_case}
use Rattle.kk_norm.specs.MatchDecisions.{AreDecisions}
use Rattle.kk_norm.specs.Names.{Names, name_of, named}
use Rattle.kk_norm.specs.Normalized.{part_count, pattern_size, parts_size, Then, final, next, size, size_all, size_rows, atom, atoms, after, after_use, within, joined, finish, finish_call, opened, opened_all, pattern_names, patterns_in, IsCode, AreCodes, AreArms, AreCoresOf, IsCoreForm}
use Rattle.kk_norm.proofs.CodeNodes.{pattern_is, numbers_long, code_nodes}
use Rattle.kk_norm.proofs.CoreTyping.{patterns_are}

-- ---- the openings with which a code begins

-- the code of an expression begins with none
finish_call_unopened : (k : Then) (m f : ℕ) (xs : List ℕ) → first_fields (finish_call k m f xs) ≡ 0
finish_call_unopened (final true) m f xs = refl
finish_call_unopened k m f xs = refl

finish_unopened : (k : Then) (m : ℕ) (form : Form) (xs : List ℕ) → first_fields (finish k m form xs) ≡ 0
finish_unopened k m (Call f) xs = finish_call_unopened k m f xs
finish_unopened k m form xs = refl

after_use_unopened : (k : Then) (a : ℕ) → first_fields (after_use k a) ≡ 0
after_use_unopened (final tail) a = refl
after_use_unopened (next rest) a = refl

mutual
  code_unopened : (constructors : List ConstructorTree) (k : Then) (names : Names) (n : ℕ) (e : Tree) (c : Code)
      → IsCode constructors k names n e c → first_fields c ≡ 0
  code_unopened constructors k names n (variable x) c coded = ap first_fields coded ∙ after_use_unopened k (name_of names x)
  code_unopened constructors k names n (apply form es) c coded =
      codes_unopened constructors names n es (finish k (n + size_all es) form (atoms names n es)) c coded
      (finish_unopened k (n + size_all es) form (atoms names n es))
  code_unopened constructors k names n (branch e positive negative) c coded =
      let own : Code = truth_case (atom names n e) coded.0 coded.1 in
      code_unopened constructors (next (joined k (n + size e + size positive + size negative) own)) names n e c coded.4
  code_unopened constructors k names n (match e rows) c coded =
      let own : Code = case (atom names n e) coded.0 coded.1 in
      code_unopened constructors (next (joined k (n + size e + size_rows rows) own)) names n e c coded.4
  code_unopened constructors k names n (sequence binder first rest) c coded =
      code_unopened constructors (next coded.0) names n first c coded.2

  codes_unopened : (constructors : List ConstructorTree) (names : Names) (n : ℕ) (es : Trees) (last c : Code)
      → AreCodes constructors names n es last c → first_fields last ≡ 0 → first_fields c ≡ 0
  codes_unopened constructors names n no_tree last c coded none = ap first_fields coded ∙ none
  codes_unopened constructors names n (tree first rest) last c coded none =
      code_unopened constructors (next coded.0) names n first c coded.2

-- ---- patterns

-- the openings of a pattern: how many fields they have, what they take, and that they have fields and no tests
opened_cell_fields : (a n c : ℕ) (ps : Patterns) (rest : Code)
    → first_fields (opened_all n (n + part_count ps) ps rest) ≡ parts_size ps + first_fields rest
    → first_fields (opened a n (constructor c ps) rest) ≡ part_count ps + parts_size ps + first_fields rest
opened_cell_fields a n c no_part rest same = omega arith
opened_cell_fields a n c (part first others) rest same = omega (arith, same, numbers_long n (part first others))

mutual
  opened_fields : (a n : ℕ) (p : Pattern) (rest : Code) → first_fields (opened a n p rest) ≡ pattern_size p + first_fields rest
  opened_fields a n anything rest = omega arith
  opened_fields a n (pattern_variable x) rest = omega arith
  opened_fields a n (exactly m) rest = omega arith
  opened_fields a n (constructor c ps) rest = opened_cell_fields a n c ps rest (opened_all_fields n (n + part_count ps) ps rest)

  opened_all_fields : (a n : ℕ) (ps : Patterns) (rest : Code)
      → first_fields (opened_all a n ps rest) ≡ parts_size ps + first_fields rest
  opened_all_fields a n no_part rest = omega arith
  opened_all_fields a n (part first others) rest =
      omega (
        arith,
        opened_fields a n first (opened_all (a + 1) (n + pattern_size first) others rest),
        opened_all_fields (a + 1) (n + pattern_size first) others rest,
      )

-- the words of an opening for each of its fields, of which one has those of the opening itself too
abbrev field_share : ℕ
field_share = opening_words + opened_field_words

opened_cell_words : (a n c : ℕ) (ps : Patterns) (rest : Code)
    → plain_words (opened_all n (n + part_count ps) ps rest) ≤ field_share * parts_size ps + plain_words rest
    → plain_words (opened a n (constructor c ps) rest) ≤ field_share * (part_count ps + parts_size ps) + plain_words rest
opened_cell_words a n c no_part rest few = omega arith
opened_cell_words a n c (part first others) rest few = omega (arith, few, numbers_long n (part first others))

mutual
  opened_words : (a n : ℕ) (p : Pattern) (rest : Code)
      → plain_words (opened a n p rest) ≤ field_share * pattern_size p + plain_words rest
  opened_words a n anything rest = omega arith
  opened_words a n (pattern_variable x) rest = omega arith
  opened_words a n (exactly m) rest = omega arith
  opened_words a n (constructor c ps) rest = opened_cell_words a n c ps rest (opened_all_words n (n + part_count ps) ps rest)

  opened_all_words : (a n : ℕ) (ps : Patterns) (rest : Code)
      → plain_words (opened_all a n ps rest) ≤ field_share * parts_size ps + plain_words rest
  opened_all_words a n no_part rest = omega arith
  opened_all_words a n (part first others) rest =
      omega (
        arith,
        opened_words a n first (opened_all (a + 1) (n + pattern_size first) others rest),
        opened_all_words (a + 1) (n + pattern_size first) others rest,
      )

opened_cell_brief : (a n c : ℕ) (ps : Patterns) (rest : Code) → HasBriefTests rest
    → HasBriefTests (opened_all n (n + part_count ps) ps rest) → HasBriefTests (opened a n (constructor c ps) rest)
opened_cell_brief a n c no_part rest later brief = later
opened_cell_brief a n c (part first others) rest later brief = (omega (arith, numbers_long n (part first others)), brief)

mutual
  opened_brief : (a n : ℕ) (p : Pattern) (rest : Code) → HasBriefTests rest → HasBriefTests (opened a n p rest)
  opened_brief a n anything rest later = later
  opened_brief a n (pattern_variable x) rest later = later
  opened_brief a n (exactly m) rest later = later
  opened_brief a n (constructor c ps) rest later =
      opened_cell_brief a n c ps rest later (opened_all_brief n (n + part_count ps) ps rest later)

  opened_all_brief : (a n : ℕ) (ps : Patterns) (rest : Code) → HasBriefTests rest → HasBriefTests (opened_all a n ps rest)
  opened_all_brief a n no_part rest later = later
  opened_all_brief a n (part first others) rest later =
      opened_brief a n first (opened_all (a + 1) (n + pattern_size first) others rest)
      (opened_all_brief (a + 1) (n + pattern_size first) others rest later)

-- the nodes of the patterns of a match are told by the openings of its arms
arms_case_nodes : (constructors : List ConstructorTree) (k : Then) (names : Names) (a n : ℕ) (rows : Rows) (arms : Arms)
    → AreArms constructors k names a n rows arms → case_nodes arms ≡ sum_by nodes_of_pattern (patterns_in rows)
arms_case_nodes constructors k names a n no_row arms are = ap case_nodes are
arms_case_nodes constructors k names a n (row (row_parts pattern body) rest) arms are =
    let from : ℕ = n + pattern_size pattern in
    omega (
      arith,
      ap case_nodes are.2,
      opened_fields a n pattern are.0,
      code_unopened constructors k (pattern_names a n pattern names) from body are.0 are.3,
      pattern_is pattern,
      arms_case_nodes constructors k names a (from + size body) rest are.1 are.4,
      sum_by-cons nodes_of_pattern pattern (patterns_in rest),
    )

-- ---- the tests of a match

-- the patterns `True` and `False` are two nodes
plain_one : (c : ℕ) (p : Pattern) → is_plain_pattern c p ≡ true → nodes_of_pattern p ≡ 1
plain_one c anything is = absurd (cc)
plain_one c (pattern_variable x) is = absurd (cc)
plain_one c (exactly m) is = absurd (cc)
plain_one c (constructor by no_part) is = refl
plain_one c (constructor by (part first rest)) is = absurd (cc)

both : (a b : Bool) → (a && b) ≡ true → (a ≡ true) × (b ≡ true)
both true b is = (refl, is)
both false b is = absurd (cc)

truths_two : (ps : List Pattern) → are_truths ps ≡ true → sum_by nodes_of_pattern ps ≡ 2
truths_two [] is = absurd (cc)
truths_two (first ∷ []) is = absurd (cc)
truths_two (first ∷ second ∷ []) is =
    let each = both (is_plain_pattern 1 first) (is_plain_pattern 0 second) is in
    omega (
      arith,
      plain_one 1 first each.0,
      plain_one 0 second each.1,
      sum_by-cons nodes_of_pattern first (second ∷ []),
      sum_by-cons nodes_of_pattern second [],
    )
truths_two (first ∷ second ∷ third ∷ rest) is = absurd (cc)

-- what the tests of an `if` may have for the pairs of the two nodes of its patterns
abbrev most_truth_pairs : ℕ
most_truth_pairs = brief_pair_length * 2 * 2

-- so their tests take at most so many words more than the tests of other patterns are counted for
tests_words : (ps : List Pattern) (nodes tests : ℕ) → sum_by nodes_of_pattern ps ≡ nodes → tests ≤ most_brief nodes
    → (if are_truths ps then tests else brief_node_length * nodes) ≤ brief_node_length * nodes + most_truth_pairs
tests_words ps nodes tests are brief = by_truths (are_truths ps) refl
  where
    by_truths : (b : Bool) → are_truths ps ≡ b
        → (if b then tests else brief_node_length * nodes) ≤ brief_node_length * nodes + most_truth_pairs
    by_truths true is =
        let two : nodes ≡ 2 = sym are ∙ truths_two ps is in
        let few : tests ≤ most_brief 2 = subst (λ (m : ℕ). tests ≤ most_brief m) two brief in
        omega (arith, few, two)
    by_truths false is = omega arith

tests_brief : (truths : Bool) (nodes tests : ℕ) → tests ≤ most_brief nodes → AreBriefFor truths nodes tests
tests_brief true nodes tests brief = tt
tests_brief false nodes tests brief = brief

-- the tests of a match by the openings of its arms
match_brief : (constructors : List ConstructorTree) (k : Then) (names : Names) (a n : ℕ) (rows : Rows) (decisions : List NodeTree)
    (arms : Arms) → AreDecisions constructors (patterns_in rows) decisions → AreArms constructors k names a n rows arms
    → tests_length decisions ≤ most_brief (case_nodes arms)
match_brief constructors k names a n rows decisions arms decided are =
    rw (arms_case_nodes constructors k names a n rows arms are) decided.brief

-- ---- what comes after

-- the words of an argument, with a dup and a drop of it
abbrev argument_share : ℕ
argument_share = argument_words + 2 * reference_length

-- of an end that gives a value, with a drop or a dup of it
abbrev end_words : ℕ
end_words = give_words + reference_length

-- of the longest form, the print of a string, with a drop of its value
abbrev longest_words : ℕ
longest_words = print_words + string_words + reference_length

-- what a node that is the longest form leaves at the end of a block
abbrev left_at_end : ℕ
left_at_end = most_node_words - longest_words - end_words

-- What an expression leaves of its words: for being an argument, where more comes, and else for the end of its block.
abbrev words_left : Then → ℕ
words_left (final tail) = left_at_end
words_left (next rest) = argument_share

abbrev words_then : Then → ℕ
words_then (final tail) = 0
words_then (next rest) = plain_words rest

after_use_words : (k : Then) (a : ℕ) → plain_words (after_use k a) + words_left k ≤ most_node_words + words_then k
after_use_words (final tail) a = omega arith
after_use_words (next rest) a = omega arith

after_words : (k : Then) (a : ℕ) → plain_words (after k a) + words_left k ≤ end_words + left_at_end + words_then k
after_words (final tail) a = omega arith
after_words (next rest) a = omega arith

finish_call_words : (k : Then) (m f : ℕ) (xs : List ℕ)
    → plain_words (finish_call k m f xs) + words_left k ≤ most_node_words + argument_share * length xs + words_then k
finish_call_words (final true) m f xs = omega arith
finish_call_words k m f xs = omega (arith, after_words k m)

construct_words : (k : Then) (m c : ℕ) (xs : List ℕ)
    → plain_words (finish k m (Construct c) xs) + words_left k ≤ most_node_words + argument_share * length xs + words_then k
construct_words k m c [] = omega (arith, after_words k m)
construct_words k m c (x ∷ xs) = omega (arith, after_words k m)

finish_words : (k : Then) (m : ℕ) (form : Form) (xs : List ℕ)
    → plain_words (finish k m form xs) + words_left k ≤ most_node_words + argument_share * length xs + words_then k
finish_words k m (Call f) xs = finish_call_words k m f xs
finish_words k m (Construct c) xs = construct_words k m c xs
finish_words k m form xs = omega (arith, after_words k m)

joined_words : (k : Then) (m : ℕ) (own : Code)
    → plain_words (joined k m own) + words_left k ≤ reference_length + argument_share + plain_words own + words_then k
joined_words (final tail) m own = omega arith
joined_words (next rest) m own = omega arith

words_within : (k : Then) → (words_left (within k) ≡ left_at_end) × (words_then (within k) ≡ 0)
words_within (final tail) = (refl, refl)
words_within (next rest) = (refl, refl)

-- the words of a match, but for its arms, and for what its tests count for at the nodes of its patterns
abbrev match_share : ℕ
match_share = case_words + reference_length + most_truth_pairs

-- a case of a match, by what its arms leave for it
match_words : (x : ℕ) (decisions : List NodeTree) (arms : Arms) (words : ℕ)
    → (if are_truths (patterns_of arms) then tests_length decisions else brief_node_length * case_nodes arms)
    ≤ brief_node_length * case_nodes arms + most_truth_pairs
    → arms_plain_words arms + brief_node_length * case_nodes arms + drops_words * length (patterns_of arms) ≤ words
    → plain_words (case x decisions arms) ≤ match_share + words
match_words x decisions arms words tests few = omega (arith, tests, few)

-- ---- expressions

mutual
  code_words : (constructors : List ConstructorTree) (k : Then) (names : Names) (n : ℕ) (e : Tree) (c : Code)
      → IsCode constructors k names n e c → plain_words c + words_left k ≤ most_node_words * nodes_of e + words_then k
  code_words constructors k names n (variable x) c coded =
      omega (arith, after_use_words k (name_of names x), ap plain_words coded)
  code_words constructors k names n (apply form es) c coded =
      let xs : List ℕ = atoms names n es in
      let all = codes_words constructors names n es (finish k (n + size_all es) form xs) c coded in
      omega (arith, all, finish_words k (n + size_all es) form xs)
  code_words constructors k names n (branch e positive negative) c coded =
      let own : Code = truth_case (atom names n e) coded.0 coded.1 in
      let m : ℕ = n + size e + size positive + size negative in
      let whole = code_words constructors (next (joined k m own)) names n e c coded.4 in
      let first = code_words constructors (within k) names (n + size e) positive coded.0 coded.2 in
      let second = code_words constructors (within k) names (n + size e + size positive) negative coded.1 coded.3 in
      let inner = words_within k in
      omega (arith, whole, first, second, joined_words k m own, inner.0, inner.1)
  code_words constructors k names n (match e rows) c coded =
      let x : ℕ = atom names n e in
      let own : Code = case x coded.0 coded.1 in
      let m : ℕ = n + size e + size_rows rows in
      let whole = code_words constructors (next (joined k m own)) names n e c coded.4 in
      let patterns : patterns_of coded.1 ≡ patterns_in rows =
      patterns_are constructors (within k) names x (n + size e) rows coded.1 coded.3 in
      let nodes : case_nodes coded.1 ≡ sum_by nodes_of_pattern (patterns_in rows) =
      arms_case_nodes constructors (within k) names x (n + size e) rows coded.1 coded.3 in
      let tests = tests_words (patterns_of coded.1) (case_nodes coded.1) (tests_length coded.0)
      (ap (sum_by nodes_of_pattern) patterns ∙ sym nodes)
      (match_brief constructors (within k) names x (n + size e) rows coded.0 coded.1 coded.2 coded.3) in
      let inner = words_within k in
      let arms = arms_words constructors (within k) names x (n + size e) rows coded.1 coded.3 inner.0 inner.1 in
      omega (arith, whole, match_words x coded.0 coded.1 (most_node_words * nodes_of_rows rows) tests arms, joined_words k m own)
  code_words constructors k names n (sequence binder first rest) c coded =
      let one = code_words constructors (next coded.0) names n first c coded.2 in
      let two = code_words constructors k (named (variable_of binder) (atom names n first) names) (n + size first) rest
      coded.0 coded.1 in
      omega (arith, one, two)

  codes_words : (constructors : List ConstructorTree) (names : Names) (n : ℕ) (es : Trees) (last c : Code)
      → AreCodes constructors names n es last c
      → plain_words c + argument_share * length (atoms names n es) ≤ most_node_words * nodes_of_all es + plain_words last
  codes_words constructors names n no_tree last c coded = omega (arith, ap plain_words coded)
  codes_words constructors names n (tree first rest) last c coded =
      let one = code_words constructors (next coded.0) names n first c coded.2 in
      let two = codes_words constructors names (n + size first) rest last coded.0 coded.1 in
      omega (arith, one, two)

  -- A row leaves what its patterns count for in tests, and eight drops at the start of its arm.
  arms_words : (constructors : List ConstructorTree) (k : Then) (names : Names) (a n : ℕ) (rows : Rows) (arms : Arms)
      → AreArms constructors k names a n rows arms → words_left k ≡ left_at_end → words_then k ≡ 0
      → arms_plain_words arms + brief_node_length * case_nodes arms + drops_words * length (patterns_of arms)
      ≤ most_node_words * nodes_of_rows rows
  arms_words constructors k names a n no_row arms are left none =
      omega (arith, ap arms_plain_words are, ap case_nodes are, ap (λ each. length (patterns_of each)) are)
  arms_words constructors k names a n (row (row_parts pattern body) rest) arms are left none =
      let from : ℕ = n + pattern_size pattern in
      omega (
        arith,
        ap arms_plain_words are.2,
        ap case_nodes are.2,
        ap (λ each. length (patterns_of each)) are.2,
        opened_words a n pattern are.0,
        opened_fields a n pattern are.0,
        code_unopened constructors k (pattern_names a n pattern names) from body are.0 are.3,
        code_words constructors k (pattern_names a n pattern names) from body are.0 are.3,
        arms_words constructors k names a (from + size body) rest are.1 are.4 left none,
        pattern_is pattern,
        left,
        none,
      )

-- ---- brief tests

abbrev AreBriefThen : Then → Type 0
AreBriefThen (final tail) = Unit {0}
AreBriefThen (next rest) = HasBriefTests rest

after_use_brief : (k : Then) (a : ℕ) → AreBriefThen k → HasBriefTests (after_use k a)
after_use_brief (final tail) a later = tt
after_use_brief (next rest) a later = later

after_brief : (k : Then) (a : ℕ) → AreBriefThen k → HasBriefTests (after k a)
after_brief (final tail) a later = tt
after_brief (next rest) a later = later

finish_call_brief : (k : Then) (m f : ℕ) (xs : List ℕ) → AreBriefThen k → HasBriefTests (finish_call k m f xs)
finish_call_brief (final true) m f xs later = tt
finish_call_brief k m f xs later = after_brief k m later

finish_brief : (k : Then) (m : ℕ) (form : Form) (xs : List ℕ) → AreBriefThen k → HasBriefTests (finish k m form xs)
finish_brief k m (Call f) xs later = finish_call_brief k m f xs later
finish_brief k m form xs later = after_brief k m later

joined_brief : (k : Then) (m : ℕ) (own : Code) → HasBriefTests own → AreBriefThen k → HasBriefTests (joined k m own)
joined_brief (final tail) m own brief later = brief
joined_brief (next rest) m own brief later = (brief, later)

within_brief : (k : Then) → AreBriefThen (within k)
within_brief (final tail) = tt
within_brief (next rest) = tt

mutual
  code_brief : (constructors : List ConstructorTree) (k : Then) (names : Names) (n : ℕ) (e : Tree) (c : Code)
      → IsCode constructors k names n e c → AreBriefThen k → HasBriefTests c
  code_brief constructors k names n (variable x) c coded later =
      subst HasBriefTests (sym coded) (after_use_brief k (name_of names x) later)
  code_brief constructors k names n (apply form es) c coded later =
      codes_brief constructors names n es (finish k (n + size_all es) form (atoms names n es)) c coded
      (finish_brief k (n + size_all es) form (atoms names n es) later)
  code_brief constructors k names n (branch e positive negative) c coded later =
      let own : Code = truth_case (atom names n e) coded.0 coded.1 in
      let m : ℕ = n + size e + size positive + size negative in
      let first = code_brief constructors (within k) names (n + size e) positive coded.0 coded.2 (within_brief k) in
      let second = code_brief constructors (within k) names (n + size e + size positive) negative coded.1 coded.3
      (within_brief k) in
      code_brief constructors (next (joined k m own)) names n e c coded.4
      (joined_brief k m own (tt, (first, (second, tt))) later)
  code_brief constructors k names n (match e rows) c coded later =
      let x : ℕ = atom names n e in
      let own : Code = case x coded.0 coded.1 in
      let m : ℕ = n + size e + size_rows rows in
      let tests = tests_brief (are_truths (patterns_of coded.1)) (case_nodes coded.1) (tests_length coded.0)
      (match_brief constructors (within k) names x (n + size e) rows coded.0 coded.1 coded.2 coded.3) in
      let arms = arms_brief constructors (within k) names x (n + size e) rows coded.1 coded.3 (within_brief k) in
      code_brief constructors (next (joined k m own)) names n e c coded.4 (joined_brief k m own (tests, arms) later)
  code_brief constructors k names n (sequence binder first rest) c coded later =
      code_brief constructors (next coded.0) names n first c coded.2
      (code_brief constructors k (named (variable_of binder) (atom names n first) names) (n + size first) rest
      coded.0 coded.1 later)

  codes_brief : (constructors : List ConstructorTree) (names : Names) (n : ℕ) (es : Trees) (last c : Code)
      → AreCodes constructors names n es last c → HasBriefTests last → HasBriefTests c
  codes_brief constructors names n no_tree last c coded brief = subst HasBriefTests (sym coded) brief
  codes_brief constructors names n (tree first rest) last c coded brief =
      code_brief constructors (next coded.0) names n first c coded.2
      (codes_brief constructors names (n + size first) rest last coded.0 coded.1 brief)

  arms_brief : (constructors : List ConstructorTree) (k : Then) (names : Names) (a n : ℕ) (rows : Rows) (arms : Arms)
      → AreArms constructors k names a n rows arms → AreBriefThen k → HaveBriefTests arms
  arms_brief constructors k names a n no_row arms are later = subst HaveBriefTests (sym are) tt
  arms_brief constructors k names a n (row (row_parts pattern body) rest) arms are later =
      let from : ℕ = n + pattern_size pattern in
      let one = code_brief constructors k (pattern_names a n pattern names) from body are.0 are.3 later in
      let others = arms_brief constructors k names a (from + size body) rest are.1 are.4 later in
      subst HaveBriefTests (sym are.2) (opened_brief a n pattern are.0 one, others)

-- ---- programs

all_stand : (constructors : List ConstructorTree) (functions : List FunctionTree) (cores : List FunctionCode)
    → AreCoresOf constructors functions cores → StandForNodes functions cores
all_stand constructors [] cores are = subst (StandForNodes []) (sym are) tt
all_stand constructors (function ∷ functions) [] are = absurd are
all_stand constructors (function ∷ functions) (core ∷ cores) are =
    let from : ℕ = length function.parameters in
    let one : StandsForNodes (nodes_of function.body) core.body = record {
      nodes = omega (arith, code_nodes constructors (final true) [] from function.body core.body are.0.body [] false);
      words = omega (arith, code_words constructors (final true) [] from function.body core.body are.0.body);
      tests = code_brief constructors (final true) [] from function.body core.body are.0.body tt;
    } in
    (one, all_stand constructors functions cores are.1)

pub core_stands : (program : ProgramTree) (code : ProgramCode) → IsCoreForm program code
    → StandForNodes program.functions code.functions
core_stands program code form = all_stand program.constructors program.functions code.functions form.functions
