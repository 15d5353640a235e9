-- The tests of all cases of a core form are short: those of a match take little for each node of its patterns.
use Rattle.std.proofs.Common.{◌≡◌, ℕ, ◌+◌, ◌*◌, ◌/◌, ◌≤◌, true, List, [], ◌∷◌, length, refl, ap, ◌∙◌, arith, mul-le-mul_right}
use Rattle.std.specs.Prelude.{sum_by}
use Rattle.std.proofs.lemmas.List.Sums.{sum_by-cons}
use Rattle.kk_syntax.specs.declared.program.Form.{Form}
use Rattle.kk_syntax.specs.declared.program.Form.TheVariants.{Call}
use Rattle.kk_syntax.specs.Patterns.{Pattern, anything, variable as pattern_variable, exactly, constructor, Patterns, no_part, part}
use Rattle.kk_syntax.specs.Shapes.{nodes_of, nodes_of_all, nodes_of_rows, nodes_of_pattern, variable_of}
use Rattle.kk_syntax.specs.Trees.{Tree, variable, apply, branch, match, sequence, Trees, no_tree, tree, Rows, no_row, row, row_parts}
use Rattle.kk_syntax.specs.Programs.{ConstructorTree, FunctionTree}
use Rattle.kk_core.specs.Codes.{Code, case, Arms, FunctionCode}
use Rattle.kk_core.specs.CaseLengths.{tests_length, most_brief, cases_length, arms_cases_length, all_cases_length, most_cases_length}
use Rattle.kk_core.specs.Decisions.{NodeTree}
use Rattle.kk_core.specs.Sizes.{most_nodes, most_program_nodes}
use Rattle.kk_core.specs.Truths.{truth_case}
use Rattle.kk_norm.specs.MatchDecisions.{AreDecisions}
use Rattle.kk_norm.specs.Names.{Names, name_of, named}
use Rattle.kk_norm.specs.Normal.{AreWithin, all_nodes}
use Rattle.kk_norm.specs.Normalized.{part_count, pattern_size, Then, final, next, size, size_all, size_rows, atom, atoms, after, after_use, within, joined, finish, finish_call, opened, opened_all, pattern_names, patterns_in, IsCode, AreCodes, AreArms, AreCoresOf}
use Rattle.kk_norm.proofs.FormInduction.{tree_some}

-- ---- what comes after

-- the tests of what comes after
abbrev cases_then : Then → ℕ
cases_then (final tail) = 0
cases_then (next rest) = cases_length rest

cases_after : (k : Then) (a : ℕ) → cases_length (after k a) ≡ cases_then k
cases_after (final tail) a = refl
cases_after (next rest) a = refl

cases_after_use : (k : Then) (a : ℕ) → cases_length (after_use k a) ≡ cases_then k
cases_after_use (final tail) a = refl
cases_after_use (next rest) a = refl

cases_finish_call : (k : Then) (m f : ℕ) (xs : List ℕ) → cases_length (finish_call k m f xs) ≡ cases_then k
cases_finish_call (final true) m f xs = refl
cases_finish_call k m f xs = cases_after k m

cases_finish : (k : Then) (m : ℕ) (form : Form) (xs : List ℕ) → cases_length (finish k m form xs) ≡ cases_then k
cases_finish k m (Call f) xs = cases_finish_call k m f xs
cases_finish k m form xs = cases_after k m

cases_joined : (k : Then) (m : ℕ) (own : Code) → cases_length (joined k m own) ≡ cases_length own + cases_then k
cases_joined (final tail) m own = omega arith
cases_joined (next rest) m own = refl

cases_within : (k : Then) → cases_then (within k) ≡ 0
cases_within (final tail) = refl
cases_within (next rest) = refl

-- openings have no tests
opened_cell : (a n c : ℕ) (ps : Patterns) (rest : Code)
    → cases_length (opened_all n (n + part_count ps) ps rest) ≡ cases_length rest
    → cases_length (opened a n (constructor c ps) rest) ≡ cases_length rest
opened_cell a n c no_part rest same = refl
opened_cell a n c (part first others) rest same = same

mutual
  opened_same : (a n : ℕ) (p : Pattern) (rest : Code) → cases_length (opened a n p rest) ≡ cases_length rest
  opened_same a n anything rest = refl
  opened_same a n (pattern_variable x) rest = refl
  opened_same a n (exactly m) rest = refl
  opened_same a n (constructor c ps) rest = opened_cell a n c ps rest (opened_all_same n (n + part_count ps) ps rest)

  opened_all_same : (a n : ℕ) (ps : Patterns) (rest : Code) → cases_length (opened_all a n ps rest) ≡ cases_length rest
  opened_all_same a n no_part rest = refl
  opened_all_same a n (part first others) rest =
      opened_same a n first (opened_all (a + 1) (n + pattern_size first) others rest)
      ∙ opened_all_same (a + 1) (n + pattern_size first) others rest

-- ---- the tests of a match

-- a row has its pattern, and a node in its body
rows_nodes : (rows : Rows) → sum_by nodes_of_pattern (patterns_in rows) + length (patterns_in rows) ≤ nodes_of_rows rows
rows_nodes no_row = omega arith
rows_nodes (row (row_parts pattern body) rest) =
    omega (arith, sum_by-cons nodes_of_pattern pattern (patterns_in rest), rows_nodes rest, tree_some body)

-- how long the tests of cases are at most, for each node of a function
abbrev node_cases : ℕ
node_cases = most_cases_length / most_program_nodes

-- patterns of so many nodes
few_tests : (p : ℕ) → p ≤ most_nodes → most_brief p ≤ node_cases * (p + 1)
few_tests p most = let each = mul-le-mul_right p most in omega (arith, each)

match_short : (constructors : List ConstructorTree) (rows : Rows) (decisions : List NodeTree)
    → AreDecisions constructors (patterns_in rows) decisions → nodes_of_rows rows ≤ most_nodes
    → tests_length decisions ≤ node_cases * (sum_by nodes_of_pattern (patterns_in rows) + 1)
match_short constructors rows decisions are few =
    let patterns : List Pattern = patterns_in rows in
    let nodes = rows_nodes rows in
    omega (
      arith,
      are.brief,
      few_tests (sum_by nodes_of_pattern patterns) (omega (arith, nodes, few)),
    )

-- ---- expressions

mutual
  code_short : (constructors : List ConstructorTree) (k : Then) (names : Names) (n : ℕ) (e : Tree) (c : Code)
      → IsCode constructors k names n e c → nodes_of e ≤ most_nodes → cases_length c ≤ node_cases * nodes_of e + cases_then k
  code_short constructors k names n (variable x) c coded few =
      omega (arith, cases_after_use k (name_of names x), ap cases_length coded)
  code_short constructors k names n (apply form es) c coded few =
      let all = codes_short constructors names n es (finish k (n + size_all es) form (atoms names n es)) c coded
      (omega (arith, few)) in
      omega (arith, all, cases_finish k (n + size_all es) form (atoms names n es))
  code_short constructors k names n (branch e positive negative) c coded few =
      let own : Code = truth_case (atom names n e) coded.0 coded.1 in
      let m : ℕ = n + size e + size positive + size negative in
      let whole = code_short constructors (next (joined k m own)) names n e c coded.4 (omega (arith, few)) in
      let first = code_short constructors (within k) names (n + size e) positive coded.0 coded.2 (omega (arith, few)) in
      let second = code_short constructors (within k) names (n + size e + size positive) negative coded.1 coded.3
      (omega (arith, few)) in
      omega (arith, whole, first, second, cases_joined k m own, cases_within k)
  code_short constructors k names n (match e rows) c coded few =
      let own : Code = case (atom names n e) coded.0 coded.1 in
      let m : ℕ = n + size e + size_rows rows in
      let whole = code_short constructors (next (joined k m own)) names n e c coded.4 (omega (arith, few)) in
      let arms = arms_short constructors (within k) names (atom names n e) (n + size e) rows coded.1 coded.3 (cases_within k)
      (omega (arith, few)) in
      omega (arith, whole, arms, match_short constructors rows coded.0 coded.2 (omega (arith, few)), cases_joined k m own)
  code_short constructors k names n (sequence binder first rest) c coded few =
      let one = code_short constructors (next coded.0) names n first c coded.2 (omega (arith, few)) in
      let two = code_short constructors k (named (variable_of binder) (atom names n first) names) (n + size first) rest
      coded.0 coded.1 (omega (arith, few)) in
      omega (arith, one, two)

  codes_short : (constructors : List ConstructorTree) (names : Names) (n : ℕ) (es : Trees) (last c : Code)
      → AreCodes constructors names n es last c → nodes_of_all es ≤ most_nodes
      → cases_length c ≤ node_cases * nodes_of_all es + cases_length last
  codes_short constructors names n no_tree last c coded few = omega (arith, ap cases_length coded)
  codes_short constructors names n (tree first rest) last c coded few =
      let one = code_short constructors (next coded.0) names n first c coded.2 (omega (arith, few)) in
      let two = codes_short constructors names (n + size first) rest last coded.0 coded.1 (omega (arith, few)) in
      omega (arith, one, two)

  -- the tests inside of arms, and what the patterns leave for those of the match
  arms_short : (constructors : List ConstructorTree) (k : Then) (names : Names) (a n : ℕ) (rows : Rows) (arms : Arms)
      → AreArms constructors k names a n rows arms → cases_then k ≡ 0 → nodes_of_rows rows ≤ most_nodes
      → arms_cases_length arms + node_cases * sum_by nodes_of_pattern (patterns_in rows) ≤ node_cases * nodes_of_rows rows
  arms_short constructors k names a n no_row arms are none few = omega (arith, ap arms_cases_length are)
  arms_short constructors k names a n (row (row_parts pattern body) rest) arms are none few =
      let from : ℕ = n + pattern_size pattern in
      let one = code_short constructors k (pattern_names a n pattern names) from body are.0 are.3 (omega (arith, few)) in
      let others = arms_short constructors k names a (from + size body) rest are.1 are.4 none (omega (arith, few)) in
      omega (
        arith,
        ap arms_cases_length are.2,
        opened_same a n pattern are.0,
        one,
        others,
        none,
        sum_by-cons nodes_of_pattern pattern (patterns_in rest),
      )

-- ---- programs

pub all_short : (constructors : List ConstructorTree) (functions : List FunctionTree) (cores : List FunctionCode)
    → AreCoresOf constructors functions cores → AreWithin functions → all_cases_length cores ≤ node_cases * all_nodes functions
all_short constructors [] cores are limits = omega (arith, ap all_cases_length are)
all_short constructors (function ∷ functions) [] are limits = absurd are
all_short constructors (function ∷ functions) (core ∷ cores) are limits =
    let one = code_short constructors (final true) [] (length function.parameters) function.body core.body are.0.body
    (limits.0.nodes) in
    let others = all_short constructors functions cores are.1 limits.1 in
    omega (arith, one, others)
