-- A core form is small: an expression takes at most as many numbers as it has nodes, and at most twice as many forms.
use Rattle.std.proofs.Common.{◌≡◌, ℕ, zero, suc, ◌+◌, ◌*◌, ◌≤◌, true, List, [], ◌∷◌, Some, length, refl, sym, ap, subst, ◌∙◌, arith}
use Rattle.std.specs.Prelude.{slice_get}
use Rattle.kk_syntax.specs.declared.program.Form.{Form}
use Rattle.kk_syntax.specs.declared.program.Form.TheVariants.{Call}
use Rattle.kk_syntax.specs.Patterns.{Pattern, anything, variable as pattern_variable, exactly, constructor, Patterns, no_part, part}
use Rattle.kk_syntax.specs.Shapes.{nodes_of, nodes_of_all, nodes_of_rows, nodes_of_pattern, nodes_of_patterns, variable_of, greatest_of, greatest_nodes}
use Rattle.kk_syntax.specs.Trees.{Tree, variable, apply, branch, match, sequence, Trees, no_tree, tree, Rows, no_row, row, row_parts}
use Rattle.kk_syntax.specs.Programs.{ConstructorTree, FunctionTree, ProgramTree}
use Rattle.kk_core.specs.Codes.{Code, case, Arms, FunctionCode, ProgramCode}
use Rattle.kk_core.specs.CoreTyping.{IsFunctionSmall, AreSmall, all_forms, IsSmall}
use Rattle.kk_core.specs.Sizes.{forms, forms_of_arms, most_parameters}
use Rattle.kk_core.specs.Truths.{truth_case}
use Rattle.kk_core.specs.VariableBounds.{HaveVariablesAtMost}
use Rattle.kk_norm.specs.Names.{Names, name_of, named}
use Rattle.kk_norm.specs.Normal.{IsFunctionWithin, AreWithin, all_nodes, IsWithin}
use Rattle.kk_norm.proofs.Lengths.{all_short}
use Rattle.kk_norm.specs.Normalized.{part_count, pattern_size, parts_size, Then, final, next, size, size_all, size_rows, atom, atoms, after, after_use, within, joined, finish, finish_call, opened, opened_all, pattern_names, IsCode, AreCodes, AreArms, IsCoreOf, AreCoresOf, IsCoreForm}

-- ---- numbers

mutual
  pattern_small : (p : Pattern) → pattern_size p + 1 ≤ nodes_of_pattern p
  pattern_small anything = omega arith
  pattern_small (pattern_variable x) = omega arith
  pattern_small (exactly n) = omega arith
  pattern_small (constructor c ps) = omega (arith, parts_small ps)

  parts_small : (ps : Patterns) → part_count ps + parts_size ps ≤ nodes_of_patterns ps
  parts_small no_part = omega arith
  parts_small (part first rest) = omega (arith, pattern_small first, parts_small rest)

mutual
  pub size_small : (e : Tree) → size e ≤ nodes_of e
  size_small (variable x) = omega arith
  size_small (apply form es) = omega (arith, size_all_small es)
  size_small (branch e positive negative) = omega (arith, size_small e, size_small positive, size_small negative)
  size_small (match e rows) = omega (arith, size_small e, size_rows_small rows)
  size_small (sequence binder first rest) = omega (arith, size_small first, size_small rest)

  pub size_all_small : (es : Trees) → size_all es ≤ nodes_of_all es
  size_all_small no_tree = omega arith
  size_all_small (tree first rest) = omega (arith, size_small first, size_all_small rest)

  size_rows_small : (rows : Rows) → size_rows rows ≤ nodes_of_rows rows
  size_rows_small no_row = omega arith
  size_rows_small (row (row_parts pattern body) rest) = omega (arith, pattern_small pattern, size_small body, size_rows_small rest)

-- ---- forms

-- the forms of what comes after
abbrev pub forms_then : Then → ℕ
forms_then (final tail) = 0
forms_then (next rest) = forms rest

forms_after : (k : Then) (a : ℕ) → forms (after k a) ≤ forms_then k + 1
forms_after (final tail) a = omega arith
forms_after (next rest) a = omega arith

forms_after_use : (k : Then) (a : ℕ) → forms (after_use k a) ≤ forms_then k + 1
forms_after_use (final tail) a = omega arith
forms_after_use (next rest) a = omega arith

forms_finish_call : (k : Then) (m f : ℕ) (xs : List ℕ) → forms (finish_call k m f xs) ≤ forms_then k + 2
forms_finish_call (final true) m f xs = omega arith
forms_finish_call k m f xs = omega (arith, forms_after k m)

forms_finish : (k : Then) (m : ℕ) (form : Form) (xs : List ℕ) → forms (finish k m form xs) ≤ forms_then k + 2
forms_finish k m (Call f) xs = forms_finish_call k m f xs
forms_finish k m form xs = omega (arith, forms_after k m)

forms_joined : (k : Then) (m : ℕ) (own : Code) → forms (joined k m own) ≤ forms own + (forms_then k + 1)
forms_joined (final tail) m own = omega arith
forms_joined (next rest) m own = omega arith

forms_within : (k : Then) → forms_then (within k) ≡ 0
forms_within (final tail) = refl
forms_within (next rest) = refl

-- an opening is one form for a cell, which is a node of the pattern
opened_cell : (a n c : ℕ) (ps : Patterns) (rest : Code) → forms (opened_all n (n + part_count ps) ps rest) ≤ nodes_of_patterns ps + forms rest → forms (opened a n (constructor c ps) rest) ≤ nodes_of_patterns ps + 1 + forms rest
opened_cell a n c no_part rest le = omega arith
opened_cell a n c (part first others) rest le = omega (arith, le)

mutual
  opened_small : (a n : ℕ) (p : Pattern) (rest : Code) → forms (opened a n p rest) ≤ nodes_of_pattern p + forms rest
  opened_small a n anything rest = omega arith
  opened_small a n (pattern_variable x) rest = omega arith
  opened_small a n (exactly m) rest = omega arith
  opened_small a n (constructor c ps) rest = opened_cell a n c ps rest (opened_all_small n (n + part_count ps) ps rest)

  opened_all_small : (a n : ℕ) (ps : Patterns) (rest : Code) → forms (opened_all a n ps rest) ≤ nodes_of_patterns ps + forms rest
  opened_all_small a n no_part rest = omega arith
  opened_all_small a n (part first others) rest =
      omega (arith, opened_small a n first (opened_all (a + 1) (n + pattern_size first) others rest), opened_all_small (a + 1) (n + pattern_size first) others rest)

branch_sum : (e p q first second own inner outer whole : ℕ) → whole ≤ 2 * e + own → own ≤ (first + (second + 0) + 1) + (outer + 1) → first ≤ 2 * p + inner → second ≤ 2 * q + inner → inner ≡ 0
    → whole ≤ 2 * (e + p + q + 1) + outer
branch_sum e p q first second own inner outer whole one two three four none = omega arith

mutual
  forms_small : (constructors : List ConstructorTree) (k : Then) (names : Names) (n : ℕ) (e : Tree) (c : Code) → IsCode constructors k names n e c → forms c ≤ 2 * nodes_of e + forms_then k
  forms_small constructors k names n (variable x) c coded = omega (arith, forms_after_use k (name_of names x), ap forms coded)
  forms_small constructors k names n (apply form es) c coded =
      omega (arith, forms_all_small constructors names n es (finish k (n + size_all es) form (atoms names n es)) c coded, forms_finish k (n + size_all es) form (atoms names n es))
  forms_small constructors k names n (branch e positive negative) c coded =
      let own : Code = truth_case (atom names n e) coded.0 coded.1 in
      let m : ℕ = n + size e + size positive + size negative in
      branch_sum (nodes_of e) (nodes_of positive) (nodes_of negative) (forms coded.0) (forms coded.1) (forms (joined k m own)) (forms_then (within k)) (forms_then k) (forms c)
      (forms_small constructors (next (joined k m own)) names n e c coded.4) (forms_joined k m own)
      (forms_small constructors (within k) names (n + size e) positive coded.0 coded.2) (forms_small constructors (within k) names (n + size e + size positive) negative coded.1 coded.3) (forms_within k)
  forms_small constructors k names n (match e rows) c coded =
      let own : Code = case (atom names n e) coded.0 coded.1 in
      let m : ℕ = n + size e + size_rows rows in
      let whole : forms c ≤ 2 * nodes_of e + forms (joined k m own) = forms_small constructors (next (joined k m own)) names n e c coded.4 in
      let arms_few : forms_of_arms coded.1 ≤ 2 * nodes_of_rows rows = arms_small constructors (within k) names (atom names n e) (n + size e) rows coded.1 coded.3 (forms_within k) in
      omega (arith, whole, arms_few, forms_joined k m own)
  forms_small constructors k names n (sequence binder first rest) c coded =
      let one : forms c ≤ 2 * nodes_of first + forms coded.0 = forms_small constructors (next coded.0) names n first c coded.2 in
      let two : forms coded.0 ≤ 2 * nodes_of rest + forms_then k = forms_small constructors k (named (variable_of binder) (atom names n first) names) (n + size first) rest coded.0 coded.1 in
      omega arith

  forms_all_small : (constructors : List ConstructorTree) (names : Names) (n : ℕ) (es : Trees) (last c : Code) → AreCodes constructors names n es last c → forms c ≤ 2 * nodes_of_all es + forms last
  forms_all_small constructors names n no_tree last c coded = omega (arith, ap forms coded)
  forms_all_small constructors names n (tree first rest) last c coded =
      let one : forms c ≤ 2 * nodes_of first + forms coded.0 = forms_small constructors (next coded.0) names n first c coded.2 in
      let two : forms coded.0 ≤ 2 * nodes_of_all rest + forms last = forms_all_small constructors names (n + size first) rest last coded.0 coded.1 in
      omega arith

  arms_small : (constructors : List ConstructorTree) (k : Then) (names : Names) (a n : ℕ) (rows : Rows) (arms : Arms) → AreArms constructors k names a n rows arms → forms_then k ≡ 0 → forms_of_arms arms ≤ 2 * nodes_of_rows rows
  arms_small constructors k names a n no_row arms are none = omega (arith, ap forms_of_arms are)
  arms_small constructors k names a n (row (row_parts pattern body) rest) arms are none =
      let from : ℕ = n + pattern_size pattern in
      let one : forms (opened a n pattern are.0) ≤ nodes_of_pattern pattern + forms are.0 = opened_small a n pattern are.0 in
      let two : forms are.0 ≤ 2 * nodes_of body + forms_then k = forms_small constructors k (pattern_names a n pattern names) from body are.0 are.3 in
      let three : forms_of_arms are.1 ≤ 2 * nodes_of_rows rest = arms_small constructors k names a (from + size body) rest are.1 are.4 none in
      let all : forms_of_arms arms ≡ forms (opened a n pattern are.0) + forms_of_arms are.1 = ap forms_of_arms are.2 in
      omega arith

-- ---- functions and programs

function_small : (constructors : List ConstructorTree) (function : FunctionTree) (core : FunctionCode) → IsCoreOf constructors function core → IsFunctionWithin function → IsFunctionSmall core
function_small constructors function core is limits =
    record {
      parameters = omega (arith, is.parameters, limits.parameters);
      variables = omega (arith, is.variables, limits.parameters, limits.nodes, size_small function.body);
      forms = omega (arith, limits.nodes, forms_small constructors (final true) [] (length function.parameters) function.body core.body is.body);
    }

are_small : (constructors : List ConstructorTree) (functions : List FunctionTree) (cores : List FunctionCode) → AreCoresOf constructors functions cores → AreWithin functions → AreSmall cores
are_small constructors [] cores are limits = subst (λ (all : List FunctionCode). AreSmall all) (sym are) tt
are_small constructors (function ∷ functions) [] are limits = absurd are
are_small constructors (function ∷ functions) (core ∷ cores) are limits =
    (function_small constructors function core are.0 limits.0, are_small constructors functions cores are.1 limits.1)

-- a function has no more variables than its body has nodes, and its parameters
variables_small : (nodes : ℕ) (constructors : List ConstructorTree) (functions : List FunctionTree) (cores : List FunctionCode)
    → AreCoresOf constructors functions cores → AreWithin functions → greatest_of functions ≤ nodes
    → (f : ℕ) (core : FunctionCode) → slice_get cores f ≡ Some core → core.variables ≤ nodes + most_parameters
variables_small nodes constructors [] cores are limits le f core there =
    absurd (none_there f core (subst (λ (all : List FunctionCode). slice_get all f ≡ Some core) are there))
  where
    none_there : (f : ℕ) (core : FunctionCode) → slice_get [] f ≡ Some core → ⊥
    none_there f core there = cc
variables_small nodes constructors (function ∷ functions) [] are limits le f core there = absurd are
variables_small nodes constructors (function ∷ functions) (first ∷ cores) are limits le zero core there =
    let is = are.0.variables in
    let few = limits.0.parameters in
    let size = size_small function.body in
    let variables : first.variables ≤ nodes + most_parameters = omega (arith, is, few, size, le) in
    subst (λ (one : FunctionCode). one.variables ≤ nodes + most_parameters) (same there) variables
  where
    same : Some first ≡ Some core → first ≡ core
    same is = cc
variables_small nodes constructors (function ∷ functions) (first ∷ cores) are limits le (suc f) core there =
    variables_small nodes constructors functions cores are.1 limits.1
    (omega (arith, le)) f core there

pub few_variables : (program : ProgramTree) (code : ProgramCode) → IsCoreForm program code → IsWithin program → (nodes : ℕ)
    → greatest_nodes program ≤ nodes → HaveVariablesAtMost (nodes + most_parameters) code
few_variables program code form limits nodes le =
    variables_small nodes program.constructors program.functions code.functions form.functions limits.functions le

all_small : (constructors : List ConstructorTree) (functions : List FunctionTree) (cores : List FunctionCode) → AreCoresOf constructors functions cores → all_forms cores ≤ 2 * all_nodes functions
all_small constructors [] cores are = omega (arith, ap all_forms are)
all_small constructors (function ∷ functions) [] are = absurd are
all_small constructors (function ∷ functions) (core ∷ cores) are =
    omega (arith, forms_small constructors (final true) [] (length function.parameters) function.body core.body are.0.body, all_small constructors functions cores are.1)

pub as_many : (constructors : List ConstructorTree) (functions : List FunctionTree) (cores : List FunctionCode) → AreCoresOf constructors functions cores → length cores ≡ length functions
as_many constructors [] cores are = ap length are
as_many constructors (function ∷ functions) [] are = absurd are
as_many constructors (function ∷ functions) (core ∷ cores) are = omega (arith, as_many constructors functions cores are.1)

pub is_small : (program : ProgramTree) (code : ProgramCode) → IsCoreForm program code → IsWithin program → IsSmall code
is_small program code form limits =
    record {
      main = form.main ∙ limits.main;
      functions = are_small program.constructors program.functions code.functions form.functions limits.functions;
      few = omega (arith, as_many program.constructors program.functions code.functions form.functions, limits.few);
      all = omega (arith, all_small program.constructors program.functions code.functions form.functions, limits.all);
      cases = omega (
        arith,
        all_short program.constructors program.functions code.functions form.functions limits.functions,
        limits.all,
      );
    }
