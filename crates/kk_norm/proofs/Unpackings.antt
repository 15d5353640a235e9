-- A core form opens fewer cells on a path than the body that it is made of has nodes: at most one for each constructor in a
-- pattern.
use Rattle.std.proofs.Common.{◌≡◌, ℕ, zero, suc, ◌+◌, ◌-◌, ◌≤◌, true, List, [], ◌∷◌, length, Some, refl, ap, subst, arith}
use Rattle.std.specs.Prelude.{slice_get}
use Rattle.kk_syntax.specs.declared.program.Form.{Form}
use Rattle.kk_syntax.specs.declared.program.Form.TheVariants.{Call}
use Rattle.kk_syntax.specs.Patterns.{Pattern, anything, variable as pattern_variable, exactly, constructor, Patterns, no_part, part}
use Rattle.kk_syntax.specs.Programs.{ConstructorTree, FunctionTree, ProgramTree}
use Rattle.kk_syntax.specs.Shapes.{nodes_of, nodes_of_all, nodes_of_rows, nodes_of_pattern, nodes_of_patterns, greatest_of, greatest_nodes, variable_of}
use Rattle.kk_syntax.specs.Trees.{Tree, variable, apply, branch, match, sequence, Trees, no_tree, tree, Rows, no_row, row, row_parts}
use Rattle.kk_core.specs.Codes.{Code, case, Arms, FunctionCode, ProgramCode}
use Rattle.kk_core.specs.Truths.{truth_case}
use Rattle.kk_core.specs.Unpackings.{unpackings, unpackings_of, UnpackAtMost}
use Rattle.kk_norm.specs.Names.{Names, name_of, named}
use Rattle.kk_norm.specs.Normalized.{part_count, pattern_size, Then, final, next, size, size_all, size_rows, atom, atoms, after, after_use, within, joined, finish, finish_call, opened, opened_all, pattern_names, IsCode, AreCodes, AreArms, AreCoresOf, IsCoreForm}

-- ---- what comes after

abbrev unpackings_then : Then → ℕ
unpackings_then (final tail) = 0
unpackings_then (next rest) = unpackings rest

after_opens : (k : Then) (a : ℕ) → unpackings (after k a) ≡ unpackings_then k
after_opens (final tail) a = refl
after_opens (next rest) a = refl

after_use_opens : (k : Then) (a : ℕ) → unpackings (after_use k a) ≡ unpackings_then k
after_use_opens (final tail) a = refl
after_use_opens (next rest) a = refl

finish_call_opens : (k : Then) (m f : ℕ) (xs : List ℕ) → unpackings (finish_call k m f xs) ≡ unpackings_then k
finish_call_opens (final true) m f xs = refl
finish_call_opens k m f xs = after_opens k m

finish_opens : (k : Then) (m : ℕ) (form : Form) (xs : List ℕ) → unpackings (finish k m form xs) ≡ unpackings_then k
finish_opens k m (Call f) xs = finish_call_opens k m f xs
finish_opens k m form xs = after_opens k m

joined_opens : (k : Then) (m : ℕ) (own : Code) → unpackings (joined k m own) ≡ unpackings own + unpackings_then k
joined_opens (final tail) m own = omega arith
joined_opens (next rest) m own = refl

within_opens : (k : Then) → unpackings_then (within k) ≡ 0
within_opens (final tail) = refl
within_opens (next rest) = refl

-- ---- patterns

cell_opens : (a n c : ℕ) (ps : Patterns) (rest : Code)
    → unpackings (opened_all n (n + part_count ps) ps rest) ≤ nodes_of_patterns ps + unpackings rest
    → unpackings (opened a n (constructor c ps) rest) ≤ nodes_of_patterns ps + 1 + unpackings rest
cell_opens a n c no_part rest few = omega arith
cell_opens a n c (part first others) rest few = omega (arith, few)

mutual
  pattern_opens : (a n : ℕ) (p : Pattern) (rest : Code) → unpackings (opened a n p rest) ≤ nodes_of_pattern p + unpackings rest
  pattern_opens a n anything rest = omega arith
  pattern_opens a n (pattern_variable x) rest = omega arith
  pattern_opens a n (exactly m) rest = omega arith
  pattern_opens a n (constructor c ps) rest = cell_opens a n c ps rest (patterns_open n (n + part_count ps) ps rest)

  patterns_open : (a n : ℕ) (ps : Patterns) (rest : Code)
      → unpackings (opened_all a n ps rest) ≤ nodes_of_patterns ps + unpackings rest
  patterns_open a n no_part rest = omega arith
  patterns_open a n (part first others) rest =
      omega (
        arith,
        pattern_opens a n first (opened_all (a + 1) (n + pattern_size first) others rest),
        patterns_open (a + 1) (n + pattern_size first) others rest,
      )

-- ---- expressions

mutual
  code_opens : (constructors : List ConstructorTree) (k : Then) (names : Names) (n : ℕ) (e : Tree) (c : Code)
      → IsCode constructors k names n e c → unpackings c + 1 ≤ nodes_of e + unpackings_then k
  code_opens constructors k names n (variable x) c coded =
      omega (arith, after_use_opens k (name_of names x), ap unpackings coded)
  code_opens constructors k names n (apply form es) c coded =
      omega (
        arith,
        codes_open constructors names n es (finish k (n + size_all es) form (atoms names n es)) c coded,
        finish_opens k (n + size_all es) form (atoms names n es),
      )
  code_opens constructors k names n (branch e positive negative) c coded =
      let own : Code = truth_case (atom names n e) coded.0 coded.1 in
      let m : ℕ = n + size e + size positive + size negative in
      omega (
        arith,
        code_opens constructors (next (joined k m own)) names n e c coded.4,
        code_opens constructors (within k) names (n + size e) positive coded.0 coded.2,
        code_opens constructors (within k) names (n + size e + size positive) negative coded.1 coded.3,
        joined_opens k m own,
        within_opens k,
      )
  code_opens constructors k names n (match e rows) c coded =
      let own : Code = case (atom names n e) coded.0 coded.1 in
      let m : ℕ = n + size e + size_rows rows in
      omega (
        arith,
        code_opens constructors (next (joined k m own)) names n e c coded.4,
        arms_open constructors (within k) names (atom names n e) (n + size e) rows coded.1 coded.3 (within_opens k),
        joined_opens k m own,
      )
  code_opens constructors k names n (sequence binder first rest) c coded =
      omega (
        arith,
        code_opens constructors (next coded.0) names n first c coded.2,
        code_opens constructors k (named (variable_of binder) (atom names n first) names) (n + size first) rest coded.0 coded.1,
      )

  codes_open : (constructors : List ConstructorTree) (names : Names) (n : ℕ) (es : Trees) (last c : Code)
      → AreCodes constructors names n es last c → unpackings c ≤ nodes_of_all es + unpackings last
  codes_open constructors names n no_tree last c coded = omega (arith, ap unpackings coded)
  codes_open constructors names n (tree first rest) last c coded =
      omega (
        arith,
        code_opens constructors (next coded.0) names n first c coded.2,
        codes_open constructors names (n + size first) rest last coded.0 coded.1,
      )

  arms_open : (constructors : List ConstructorTree) (k : Then) (names : Names) (a n : ℕ) (rows : Rows) (arms : Arms)
      → AreArms constructors k names a n rows arms → unpackings_then k ≡ 0 → unpackings_of arms ≤ nodes_of_rows rows
  arms_open constructors k names a n no_row arms are none = omega (arith, ap unpackings_of are)
  arms_open constructors k names a n (row (row_parts pattern body) rest) arms are none =
      let from : ℕ = n + pattern_size pattern in
      omega (
        arith,
        ap unpackings_of are.2,
        pattern_opens a n pattern are.0,
        code_opens constructors k (pattern_names a n pattern names) from body are.0 are.3,
        arms_open constructors k names a (from + size body) rest are.1 are.4 none,
        none,
      )

-- ---- programs

cores_open : (constructors : List ConstructorTree) (functions : List FunctionTree) (cores : List FunctionCode) (nodes : ℕ)
    → AreCoresOf constructors functions cores → greatest_of functions ≤ nodes
    → (f : ℕ) (core : FunctionCode) → slice_get cores f ≡ Some core → unpackings core.body ≤ nodes - 1
cores_open constructors [] cores nodes are few f core is =
    let none : slice_get [] f ≡ Some core = subst (λ (cs : List FunctionCode). slice_get cs f ≡ Some core) are is in cc none
cores_open constructors (function ∷ functions) [] nodes are few f core is = absurd are
cores_open constructors (function ∷ functions) (first ∷ cores) nodes are few zero core is =
    let same : first ≡ core = cc is in
    subst (λ (g : FunctionCode). unpackings g.body ≤ nodes - 1) same
    (omega (
      arith,
      few,
      code_opens constructors (final true) [] (length function.parameters) function.body first.body are.0.body,
    ))
cores_open constructors (function ∷ functions) (first ∷ cores) nodes are few (suc f) core is =
    cores_open constructors functions cores nodes are.1 (omega (arith, few)) f core is

pub core_opens : (program : ProgramTree) (code : ProgramCode) → IsCoreForm program code → (nodes : ℕ)
    → greatest_nodes program ≤ nodes → UnpackAtMost (nodes - 1) code
core_opens program code form nodes few = cores_open program.constructors program.functions code.functions nodes form.functions few
