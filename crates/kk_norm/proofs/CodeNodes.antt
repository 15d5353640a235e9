-- A core form has no more nodes than the text that it is made of: a node of the text becomes at most one form, and each field of an
-- opening is a node of a pattern.
use Rattle.std.proofs.Common.{◌≡◌, ℕ, ◌+◌, ◌≤◌, ◌||◌, ◌&&◌, Bool, true, false, not, List, ◌++◌, length, refl, ap, arith}
use Rattle.std.specs.Prelude.{if◌then◌else◌}
use Rattle.kk_syntax.specs.declared.program.Form.{Form}
use Rattle.kk_syntax.specs.declared.program.Form.TheVariants.{Call}
use Rattle.kk_syntax.specs.Patterns.{Pattern, anything, variable as pattern_variable, exactly, constructor, Patterns, no_part, part}
use Rattle.kk_syntax.specs.Programs.{ConstructorTree}
use Rattle.kk_syntax.specs.Shapes.{is_among, nodes_of, nodes_of_all, nodes_of_rows, nodes_of_pattern, nodes_of_patterns, variable_of}
use Rattle.kk_syntax.specs.Trees.{Tree, variable, apply, branch, match, sequence, Trees, no_tree, tree, Rows, no_row, row, row_parts}
use Rattle.kk_core.specs.CodeNodes.{pattern_nodes, arms_pattern_nodes, other_nodes, arms_other_nodes, gives, are_truths}
use Rattle.kk_core.specs.Codes.{Code, case, Arms, patterns_of}
use Rattle.kk_core.specs.Truths.{truth_case}
use Rattle.kk_norm.specs.Names.{Names, name_of, named}
use Rattle.kk_norm.specs.Normalized.{part_count, pattern_size, parts_size, Then, final, next, size, size_all, size_rows, atom, atoms, after, after_use, within, joined, finish, finish_call, numbers, opened, opened_all, pattern_names, IsCode, AreCodes, AreArms}
use Rattle.kk_norm.proofs.Variables.{same_number, among_left, among_right, first_among, later_among}

-- all nodes of a code
abbrev nodes_in : List ℕ → Bool → Code → ℕ
nodes_in fields opens c = pattern_nodes fields opens c + other_nodes c

-- the node that an opening has besides its fields
abbrev own_node : Bool → ℕ
own_node known = if known then 0 else 1

-- ---- patterns

-- a pattern's nodes are itself and the fields that it opens
mutual
  pub pattern_is : (p : Pattern) → nodes_of_pattern p ≡ pattern_size p + 1
  pattern_is anything = refl
  pattern_is (pattern_variable x) = refl
  pattern_is (exactly m) = refl
  pattern_is (constructor c ps) = omega (arith, parts_are ps)

  parts_are : (ps : Patterns) → nodes_of_patterns ps ≡ part_count ps + parts_size ps
  parts_are no_part = refl
  parts_are (part first rest) = omega (arith, pattern_is first, parts_are rest)

pub numbers_long : (n : ℕ) (ps : Patterns) → length (numbers n ps) ≡ part_count ps
numbers_long n no_part = refl
numbers_long n (part first rest) = omega (arith, numbers_long (n + 1) rest)

-- the variables of the first list are among those of the second
abbrev AreWithin : List ℕ → List ℕ → Type 0
AreWithin xs ys = (x : ℕ) → is_among xs x ≡ true → is_among ys x ≡ true

-- a code has at most so many nodes behind openings, of whatever fields besides
abbrev HasBehind : List ℕ → Code → ℕ → Type 0
HasBehind fields c m = (more : List ℕ) (opens : Bool) → AreWithin fields more → nodes_in more opens c ≤ m

-- openings add a node for each field that they open, and the first one may add its own
opened_cell_nodes : (fields : List ℕ) (opens : Bool) (a n c : ℕ) (ps : Patterns) (rest : Code) (m : ℕ) → HasBehind fields rest m
    → nodes_in (numbers n ps ++ fields) (opens && is_among fields a) (opened_all n (n + part_count ps) ps rest) ≤ parts_size ps + m
    → nodes_in fields opens (opened a n (constructor c ps) rest)
    ≤ part_count ps + parts_size ps + own_node (is_among fields a || opens) + m
opened_cell_nodes fields opens a n c no_part rest m later few = omega (arith, later fields opens (λ x is. is))
opened_cell_nodes fields opens a n c (part first others) rest m later few =
    omega (arith, few, numbers_long n (part first others))

mutual
  opened_nodes : (fields : List ℕ) (opens : Bool) (a n : ℕ) (p : Pattern) (rest : Code) (m : ℕ) → HasBehind fields rest m
      → nodes_in fields opens (opened a n p rest) ≤ pattern_size p + own_node (is_among fields a || opens) + m
  opened_nodes fields opens a n anything rest m later = omega (arith, later fields opens (λ x is. is))
  opened_nodes fields opens a n (pattern_variable x) rest m later = omega (arith, later fields opens (λ y is. is))
  opened_nodes fields opens a n (exactly v) rest m later = omega (arith, later fields opens (λ x is. is))
  opened_nodes fields opens a n (constructor c ps) rest m later =
      opened_cell_nodes fields opens a n c ps rest m later
      (opened_all_nodes (numbers n ps ++ fields) (opens && is_among fields a) n (n + part_count ps) ps rest m
      (λ x is. among_left (numbers n ps) fields x is)
      (λ more also wide. later more also (λ x is. wide x (among_right (numbers n ps) fields x is))))

  -- the openings of fields have no more nodes than these open
  opened_all_nodes : (fields : List ℕ) (opens : Bool) (a n : ℕ) (ps : Patterns) (rest : Code) (m : ℕ)
      → AreWithin (numbers a ps) fields → HasBehind fields rest m
      → nodes_in fields opens (opened_all a n ps rest) ≤ parts_size ps + m
  opened_all_nodes fields opens a n no_part rest m are later = omega (arith, later fields opens (λ x is. is))
  opened_all_nodes fields opens a n (part first others) rest m are later =
      let known : is_among fields a ≡ true = are a (first_among a (numbers (a + 1) others)) in
      let own : own_node (is_among fields a || opens) ≡ 0 = rw known refl in
      let whole = opened_nodes fields opens a n first (opened_all (a + 1) (n + pattern_size first) others rest)
      (parts_size others + m)
      (λ more also wide. opened_all_nodes more also (a + 1) (n + pattern_size first) others rest m
      (λ x is. wide x (are x (later_among a (numbers (a + 1) others) x is)))
      (λ most ever wider. later most ever (λ x is. wider x (wide x is)))) in
      omega (arith, whole, own)

-- an arm has a node of its own, which is that of its first opening, or the pattern's of an `if`
arm_own : (fields : List ℕ) (a : ℕ) (truths : Bool)
    → (if truths then 0 else 1) + own_node (is_among fields a || not truths) ≤ 1
arm_own fields a true = omega (arith, by_field (is_among fields a))
  where
    by_field : (b : Bool) → own_node (b || false) ≤ 1
    by_field true = omega arith
    by_field false = omega arith
arm_own fields a false = by_field (is_among fields a)
  where
    by_field : (b : Bool) → 1 + own_node (b || true) ≤ 1
    by_field true = omega arith
    by_field false = omega arith

-- ---- what comes after

abbrev nodes_then : List ℕ → Then → ℕ
nodes_then fields (final tail) = 0
nodes_then fields (next rest) = nodes_in fields false rest

nodes_within : (fields : List ℕ) (k : Then) → nodes_then fields (within k) ≡ 0
nodes_within fields (final tail) = refl
nodes_within fields (next rest) = refl

after_use_nodes : (fields : List ℕ) (opens : Bool) (k : Then) (a : ℕ)
    → nodes_in fields opens (after_use k a) ≤ 1 + nodes_then fields k
after_use_nodes fields opens (final tail) a = omega arith
after_use_nodes fields opens (next rest) a = omega arith

-- a form and the end that gives its value are one node
compute_nodes : (fields : List ℕ) (k : Then) (m : ℕ)
    → pattern_nodes fields false (after k m) + (if gives m (after k m) then 1 else 1 + other_nodes (after k m))
    ≤ 1 + nodes_then fields k
compute_nodes fields (final tail) m = rw (same_number m) (omega arith)
compute_nodes fields (next rest) m = by_end (gives m rest)
  where
    by_end : (b : Bool) → pattern_nodes fields false rest + (if b then 1 else 1 + other_nodes rest)
        ≤ 1 + (pattern_nodes fields false rest + other_nodes rest)
    by_end true = omega arith
    by_end false = omega arith

finish_call_nodes : (fields : List ℕ) (opens : Bool) (k : Then) (m f : ℕ) (xs : List ℕ)
    → nodes_in fields opens (finish_call k m f xs) ≤ 1 + nodes_then fields k
finish_call_nodes fields opens (final true) m f xs = omega arith
finish_call_nodes fields opens k m f xs = compute_nodes fields k m

finish_nodes : (fields : List ℕ) (opens : Bool) (k : Then) (m : ℕ) (form : Form) (xs : List ℕ)
    → nodes_in fields opens (finish k m form xs) ≤ 1 + nodes_then fields k
finish_nodes fields opens k m (Call f) xs = finish_call_nodes fields opens k m f xs
finish_nodes fields opens k m form xs = compute_nodes fields k m

joined_nodes : (fields : List ℕ) (k : Then) (m : ℕ) (own : Code)
    → nodes_in fields false (joined k m own) ≡ nodes_in fields false own + nodes_then fields k
joined_nodes fields (final tail) m own = omega arith
joined_nodes fields (next rest) m own = omega arith

-- ---- expressions

mutual
  pub code_nodes : (constructors : List ConstructorTree) (k : Then) (names : Names) (n : ℕ) (e : Tree) (c : Code)
      → IsCode constructors k names n e c
      → (fields : List ℕ) (opens : Bool) → nodes_in fields opens c ≤ nodes_of e + nodes_then fields k
  code_nodes constructors k names n (variable x) c coded fields opens =
      omega (arith, after_use_nodes fields opens k (name_of names x), ap (nodes_in fields opens) coded)
  code_nodes constructors k names n (apply form es) c coded fields opens =
      let last : Code = finish k (n + size_all es) form (atoms names n es) in
      let all = codes_nodes constructors names n es last c coded fields opens (1 + nodes_then fields k)
      (λ also. finish_nodes fields also k (n + size_all es) form (atoms names n es)) in
      omega (arith, all)
  code_nodes constructors k names n (branch e positive negative) c coded fields opens =
      let own : Code = truth_case (atom names n e) coded.0 coded.1 in
      let m : ℕ = n + size e + size positive + size negative in
      let whole = code_nodes constructors (next (joined k m own)) names n e c coded.4 fields opens in
      let first = code_nodes constructors (within k) names (n + size e) positive coded.0 coded.2 fields false in
      let second = code_nodes constructors (within k) names (n + size e + size positive) negative coded.1 coded.3 fields false in
      omega (arith, whole, first, second, joined_nodes fields k m own, nodes_within fields k)
  code_nodes constructors k names n (match e rows) c coded fields opens =
      let own : Code = case (atom names n e) coded.0 coded.1 in
      let m : ℕ = n + size e + size_rows rows in
      let whole = code_nodes constructors (next (joined k m own)) names n e c coded.4 fields opens in
      let arms = arms_nodes constructors (within k) names (atom names n e) (n + size e) rows coded.1 coded.3 fields
      (λ more. nodes_within more k) (are_truths (patterns_of coded.1)) in
      omega (arith, whole, arms, joined_nodes fields k m own)
  code_nodes constructors k names n (sequence binder first rest) c coded fields opens =
      let one = code_nodes constructors (next coded.0) names n first c coded.2 fields opens in
      let two = code_nodes constructors k (named (variable_of binder) (atom names n first) names) (n + size first) rest
      coded.0 coded.1 fields false in
      omega (arith, one, two)

  codes_nodes : (constructors : List ConstructorTree) (names : Names) (n : ℕ) (es : Trees) (last c : Code)
      → AreCodes constructors names n es last c
      → (fields : List ℕ) (opens : Bool) (m : ℕ) → ((also : Bool) → nodes_in fields also last ≤ m)
      → nodes_in fields opens c ≤ nodes_of_all es + m
  codes_nodes constructors names n no_tree last c coded fields opens m few =
      omega (arith, few opens, ap (nodes_in fields opens) coded)
  codes_nodes constructors names n (tree first rest) last c coded fields opens m few =
      let one = code_nodes constructors (next coded.0) names n first c coded.2 fields opens in
      let two = codes_nodes constructors names (n + size first) rest last coded.0 coded.1 fields false m few in
      omega (arith, one, two)

  arms_nodes : (constructors : List ConstructorTree) (k : Then) (names : Names) (a n : ℕ) (rows : Rows) (arms : Arms)
      → AreArms constructors k names a n rows arms
      → (fields : List ℕ) → ((more : List ℕ) → nodes_then more k ≡ 0) → (truths : Bool)
      → arms_pattern_nodes fields truths arms + arms_other_nodes arms ≤ nodes_of_rows rows
  arms_nodes constructors k names a n no_row arms are fields none truths =
      omega (arith, ap (arms_pattern_nodes fields truths) are, ap arms_other_nodes are)
  arms_nodes constructors k names a n (row (row_parts pattern body) rest) arms are fields none truths =
      let from : ℕ = n + pattern_size pattern in
      let behind : HasBehind fields are.0 (nodes_of body) = λ more also wide. omega (
        arith,
        code_nodes constructors k (pattern_names a n pattern names) from body are.0 are.3 more also,
        none more,
      ) in
      let one = opened_nodes fields (not truths) a n pattern are.0 (nodes_of body) behind in
      let others = arms_nodes constructors k names a (from + size body) rest are.1 are.4 fields none truths in
      omega (
        arith,
        ap (arms_pattern_nodes fields truths) are.2,
        ap arms_other_nodes are.2,
        one,
        arm_own fields a truths,
        pattern_is pattern,
        others,
      )
