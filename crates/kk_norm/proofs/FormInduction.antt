-- What holds of a core form, if it holds of each form whose parts it holds of.
use Rattle.std.proofs.Common.{◌≡◌, ℕ, zero, suc, ◌+◌, ◌*◌, ◌<◌, ◌≤◌, true, false, List, [], ◌∷◌, length, Some, sym, subst, arith}
use Rattle.std.specs.Prelude.{sum_by, slice_get}
use Rattle.std.proofs.lemmas.List.Sums.{sum_by-cons}
use Rattle.std.proofs.Math.Nat.{mul-le-mul}
use Rattle.kk_syntax.specs.declared.program.Form.{Form}
use Rattle.kk_syntax.specs.declared.program.Form.TheVariants.{Call}
use Rattle.kk_syntax.specs.Patterns.{Pattern, anything, variable as pattern_variable, exactly, constructor, Patterns, no_part, part}
use Rattle.kk_syntax.specs.Programs.{ConstructorTree, FunctionTree, ProgramTree}
use Rattle.kk_syntax.specs.Shapes.{nodes_of, nodes_of_all, nodes_of_rows, nodes_of_pattern, nodes_of_patterns, greatest_of, greatest_nodes, variable_of}
use Rattle.kk_syntax.specs.Trees.{Tree, variable, apply, branch, match, sequence, Trees, no_tree, tree, Rows, no_row, row, row_parts}
use Rattle.kk_core.specs.Cases.{EachCase, EachCaseOfArms, EachCaseOfAll, IsWhole, CasesAreWhole, IsLean, CasesAreLean}
use Rattle.kk_core.specs.Codes.{Code, give, tail_call, case, compute, use_of, unpack, inside, Arms, patterns_of, no_arm, arm, FunctionCode, ProgramCode}
use Rattle.kk_core.specs.Decisions.{NodeTree}
use Rattle.kk_core.specs.Truths.{truth_patterns, truth_decisions, truth_case}
use Rattle.kk_core.proofs.PartBounds.{MostSeen, HasFewParts, HaveFewParts}
use Rattle.kk_core.proofs.Truths.{truths_orderly, truths_look, truths_lean}
use Rattle.kk_norm.specs.MatchDecisions.{AreDecisions}
use Rattle.kk_norm.specs.Names.{Names, name_of, named}
use Rattle.kk_norm.specs.Normalized.{part_count, pattern_size, Then, final, next, size, size_all, size_rows, atom, atoms, after, after_use, within, joined, finish, finish_call, numbers, opened, opened_all, pattern_names, patterns_in, IsCode, AreCodes, AreArms, AreCoresOf, IsCoreForm}
use Rattle.kk_norm.proofs.CoreTyping.{patterns_are}

-- ---- how many parts a form has

numbers_few : (n : ℕ) (ps : Patterns) → length (numbers n ps) ≤ nodes_of_patterns ps
numbers_few n no_part = omega arith
numbers_few n (part first rest) = omega (arith, nodes_some first, numbers_few (n + 1) rest)
  where
    nodes_some : (p : Pattern) → 1 ≤ nodes_of_pattern p
    nodes_some anything = omega arith
    nodes_some (pattern_variable x) = omega arith
    nodes_some (exactly m) = omega arith
    nodes_some (constructor c ps) = omega arith

pub tree_some : (e : Tree) → 1 ≤ nodes_of e
tree_some (variable x) = omega arith
tree_some (apply form es) = omega arith
tree_some (branch e positive negative) = omega arith
tree_some (match e of) = omega arith
tree_some (sequence binder first rest) = omega (arith, tree_some rest)

atoms_few : (names : Names) (n : ℕ) (es : Trees) → length (atoms names n es) ≤ nodes_of_all es
atoms_few names n no_tree = omega arith
atoms_few names n (tree first rest) = omega (arith, tree_some first, atoms_few names (n + size first) rest)

patterns_few : (of : Rows) → sum_by nodes_of_pattern (patterns_in of) ≤ nodes_of_rows of
patterns_few no_row = omega arith
patterns_few (row (row_parts pattern body) rest) =
    omega (arith, sum_by-cons nodes_of_pattern pattern (patterns_in rest), patterns_few rest)

-- ---- form by form

-- What holds of codes and of arms: it holds of a form with fewer parts than so many, if it holds of the codes in it.
pub record HoldsByForms (constructors : List ConstructorTree) (most : ℕ) (Q : Code → Type 0) (Each : Arms → Type 0) : Type 0 where
  pub gives : (x : ℕ) → Q (give x)
  pub tails : (f : ℕ) (xs : List ℕ) → length xs < most → Q (tail_call f xs)
  pub truths : (x : ℕ) (positive negative : Code) → 3 < most → Q positive → Q negative → Q (truth_case x positive negative)
  pub cases : (x : ℕ) (decisions : List NodeTree) (arms : Arms) → AreDecisions constructors (patterns_of arms) decisions
      → sum_by nodes_of_pattern (patterns_of arms) < most → Each arms → Q (case x decisions arms)
  pub computes : (x : ℕ) (form : Form) (xs : List ℕ) (rest : Code) → length xs < most → Q rest → Q (compute x form xs rest)
  pub uses : (x : ℕ) (rest : Code) → Q rest → Q (use_of x rest)
  pub unpacks : (x c : ℕ) (fields : List ℕ) (rest : Code) → length fields < most → Q rest → Q (unpack x c fields rest)
  pub insides : (x : ℕ) (block rest : Code) → Q block → Q rest → Q (inside x block rest)
  pub none : Each no_arm
  pub more : (pattern : Pattern) (body : Code) (rest : Arms) → Q body → Each rest → Each (arm pattern body rest)

module _ (constructors : List ConstructorTree) (most : ℕ) (Q : Code → Type 0) (Each : Arms → Type 0)
    (holds : HoldsByForms constructors most Q Each) where
  -- it holds of what comes after
  abbrev HoldsThen : Then → Type 0
  HoldsThen (final tail) = Unit {0}
  HoldsThen (next rest) = Q rest

  after_holds : (k : Then) (a : ℕ) → HoldsThen k → Q (after k a)
  after_holds (final tail) a later = holds.gives a
  after_holds (next rest) a later = later

  after_use_holds : (k : Then) (a : ℕ) → HoldsThen k → Q (after_use k a)
  after_use_holds (final tail) a later = holds.gives a
  after_use_holds (next rest) a later = holds.uses a rest later

  finish_call_holds : (k : Then) (m f : ℕ) (xs : List ℕ) → length xs < most → HoldsThen k → Q (finish_call k m f xs)
  finish_call_holds (final true) m f xs few later = holds.tails f xs few
  finish_call_holds (final false) m f xs few later = holds.computes m (Call f) xs (give m) few (holds.gives m)
  finish_call_holds (next rest) m f xs few later = holds.computes m (Call f) xs rest few later

  finish_holds : (k : Then) (m : ℕ) (form : Form) (xs : List ℕ) → length xs < most → HoldsThen k → Q (finish k m form xs)
  finish_holds k m (Call f) xs few later = finish_call_holds k m f xs few later
  finish_holds k m form xs few later = holds.computes m form xs (after k m) few (after_holds k m later)

  joined_holds : (k : Then) (m : ℕ) (own : Code) → Q own → HoldsThen k → Q (joined k m own)
  joined_holds (final tail) m own here later = here
  joined_holds (next rest) m own here later = holds.insides m own rest here later

  within_holds : (k : Then) → HoldsThen (within k)
  within_holds (final tail) = tt
  within_holds (next rest) = tt

  cell_holds : (a n c : ℕ) (ps : Patterns) (rest : Code) → nodes_of_patterns ps < most → Q (opened_all n (n + part_count ps) ps rest)
      → Q rest → Q (opened a n (constructor c ps) rest)
  cell_holds a n c no_part rest few inner here = here
  cell_holds a n c (part first others) rest few inner here =
      holds.unpacks a c (numbers n (part first others)) _ (omega (arith, numbers_few n (part first others), few)) inner

  mutual
    opened_holds : (a n : ℕ) (p : Pattern) (rest : Code) → nodes_of_pattern p ≤ most → Q rest → Q (opened a n p rest)
    opened_holds a n anything rest few here = here
    opened_holds a n (pattern_variable x) rest few here = here
    opened_holds a n (exactly m) rest few here = here
    opened_holds a n (constructor c ps) rest few here =
        cell_holds a n c ps rest (omega (arith, few)) (all_opened_hold n (n + part_count ps) ps rest (omega (arith, few)) here) here

    all_opened_hold : (a n : ℕ) (ps : Patterns) (rest : Code) → nodes_of_patterns ps ≤ most → Q rest → Q (opened_all a n ps rest)
    all_opened_hold a n no_part rest few here = here
    all_opened_hold a n (part first others) rest few here =
        opened_holds a n first (opened_all (a + 1) (n + pattern_size first) others rest) (omega (arith, few))
        (all_opened_hold (a + 1) (n + pattern_size first) others rest (omega (arith, few)) here)

  mutual
    code_holds : (k : Then) (names : Names) (n : ℕ) (e : Tree) (c : Code) → IsCode constructors k names n e c → nodes_of e ≤ most
        → HoldsThen k → Q c
    code_holds k names n (variable x) c coded few later = subst Q (sym coded) (after_use_holds k (name_of names x) later)
    code_holds k names n (apply form es) c coded few later =
        codes_hold names n es (finish k (n + size_all es) form (atoms names n es)) c coded (omega (arith, few))
        (finish_holds k (n + size_all es) form (atoms names n es) (omega (arith, few, atoms_few names n es)) later)
    code_holds k names n (branch e positive negative) c coded few later =
        let m : ℕ = n + size e + size positive + size negative in
        let own : Code = truth_case (atom names n e) coded.0 coded.1 in
        let first : Q coded.0
        = code_holds (within k) names (n + size e) positive coded.0 coded.2 (omega (arith, few)) (within_holds k) in
        let second : Q coded.1
        = code_holds (within k) names (n + size e + size positive) negative coded.1 coded.3 (omega (arith, few)) (within_holds k) in
        code_holds (next (joined k m own)) names n e c coded.4 (omega (arith, few))
        (joined_holds k m own (holds.truths (atom names n e) coded.0 coded.1 (omega (arith, few, tree_some e, tree_some positive, tree_some negative)) first second) later)
    code_holds k names n (match e of) c coded few later =
        let m : ℕ = n + size e + size_rows of in
        let a : ℕ = atom names n e in
        let own : Code = case a coded.0 coded.1 in
        let same : patterns_of coded.1 ≡ patterns_in of
        = patterns_are constructors (within k) names a (n + size e) of coded.1 coded.3 in
        let decisions : AreDecisions constructors (patterns_of coded.1) coded.0
        = subst (λ (patterns : List Pattern). AreDecisions constructors patterns coded.0) (sym same) coded.2 in
        let small : sum_by nodes_of_pattern (patterns_of coded.1) < most
        = subst (λ (patterns : List Pattern). sum_by nodes_of_pattern patterns < most) (sym same)
        (omega (arith, few, patterns_few of)) in
        let each : Each coded.1
        = arms_hold (within k) names a (n + size e) of coded.1 coded.3 (omega (arith, few)) (within_holds k) in
        code_holds (next (joined k m own)) names n e c coded.4 (omega (arith, few))
        (joined_holds k m own (holds.cases a coded.0 coded.1 decisions small each) later)
    code_holds k names n (sequence binder first rest) c coded few later =
        code_holds (next coded.0) names n first c coded.2 (omega (arith, few))
        (code_holds k (named (variable_of binder) (atom names n first) names) (n + size first) rest coded.0 coded.1 (omega (arith, few))
        later)

    codes_hold : (names : Names) (n : ℕ) (es : Trees) (last c : Code) → AreCodes constructors names n es last c
        → nodes_of_all es ≤ most → Q last → Q c
    codes_hold names n no_tree last c coded few here = subst Q (sym coded) here
    codes_hold names n (tree first rest) last c coded few here =
        code_holds (next coded.0) names n first c coded.2 (omega (arith, few))
        (codes_hold names (n + size first) rest last coded.0 coded.1 (omega (arith, few)) here)

    arms_hold : (k : Then) (names : Names) (a n : ℕ) (of : Rows) (arms : Arms) → AreArms constructors k names a n of arms
        → nodes_of_rows of ≤ most → HoldsThen k → Each arms
    arms_hold k names a n no_row arms are few later = subst Each (sym are) holds.none
    arms_hold k names a n (row (row_parts pattern body) rest) arms are few later =
        let from : ℕ = n + pattern_size pattern in
        let here : Q are.0 = code_holds k (pattern_names a n pattern names) from body are.0 are.3 (omega (arith, few)) later in
        subst Each (sym are.2)
        (holds.more pattern (opened a n pattern are.0) are.1 (opened_holds a n pattern are.0 (omega (arith, few)) here)
        (arms_hold k names a (from + size body) rest are.1 are.4 (omega (arith, few)) later))

  cores_hold : (functions : List FunctionTree) (cores : List FunctionCode) → AreCoresOf constructors functions cores
      → greatest_of functions ≤ most
      → (f : ℕ) (core : FunctionCode) → slice_get cores f ≡ Some core → Q core.body
  cores_hold [] cores are few f core there =
      absurd (nothing (subst (λ (all : List FunctionCode). slice_get all f ≡ Some core) are there))
    where
      nothing : slice_get [] f ≡ Some core → ⊥
      nothing none = cc
  cores_hold (function ∷ functions) [] are few f core there = absurd are
  cores_hold (function ∷ functions) (first ∷ cores) are few zero core there =
      subst (λ (one : FunctionCode). Q one.body) (only there)
      (code_holds (final true) [] (length function.parameters) function.body first.body are.0.body (omega (arith, few)) tt)
    where
      only : Some first ≡ Some core → first ≡ core
      only same = cc
  cores_hold (function ∷ functions) (first ∷ cores) are few (suc f) core there =
      cores_hold functions cores are.1 (omega (arith, few)) f core there

-- ---- cases

cases_hold : (constructors : List ConstructorTree) (most : ℕ) (P : List NodeTree → List Pattern → Type 0)
    → P truth_decisions truth_patterns
    → ((decisions : List NodeTree) (patterns : List Pattern) → AreDecisions constructors patterns decisions → P decisions patterns)
    → HoldsByForms constructors most (EachCase P) (EachCaseOfArms P)
cases_hold constructors most P truths each =
    record {
      gives = λ x. tt;
      tails = λ f xs few. tt;
      truths = λ x positive negative large first second. (truths, (first, (second, tt)));
      cases = λ x decisions arms are few inner. (each decisions (patterns_of arms) are, inner);
      computes = λ x form xs rest few later. later;
      uses = λ x rest later. later;
      unpacks = λ x c fields rest few later. later;
      insides = λ x block rest here later. (here, later);
      none = tt;
      more = λ pattern body rest here others. (here, others);
    }

each_case : (program : ProgramTree) (code : ProgramCode) (P : List NodeTree → List Pattern → Type 0) → IsCoreForm program code
    → P truth_decisions truth_patterns
    → ((decisions : List NodeTree) (patterns : List Pattern) → AreDecisions program.constructors patterns decisions → P decisions patterns)
    → EachCaseOfAll P code
each_case program code P form truths each =
    cores_hold program.constructors (greatest_nodes program) (EachCase P) (EachCaseOfArms P)
    (cases_hold program.constructors (greatest_nodes program) P truths each) program.functions code.functions form.functions (omega arith)

-- each case of a core form has an arm for each row of its decisions
pub are_whole : (program : ProgramTree) (code : ProgramCode) → IsCoreForm program code → CasesAreWhole code
are_whole program code form = each_case program code IsWhole form truths_orderly (λ decisions patterns are. are.orderly)

-- and looks at little
pub are_lean : (program : ProgramTree) (code : ProgramCode) → IsCoreForm program code → CasesAreLean code
are_lean program code form = each_case program code IsLean form truths_lean (λ decisions patterns are. are.lean)

-- ---- parts

-- fewer parts than the greatest body has nodes, and fewer looks than their square
abbrev pub most_by : ℕ → MostSeen
most_by most = record { parts = most; looks = most * (most + 1) }

one_more : (few most : ℕ) → few ≤ most → few + 1 ≤ most + 1
one_more few most le = omega (arith, le)

two_at_least : (most : ℕ) → 3 < suc most → 2 ≤ most
two_at_least most large = omega (arith, large)

parts_hold : (constructors : List ConstructorTree) (most : ℕ)
    → HoldsByForms constructors (suc most) (HasFewParts (most_by most)) (HaveFewParts (most_by most))
parts_hold constructors most =
    record {
      gives = λ x. tt;
      tails = λ f xs few. omega (arith, few);
      truths = λ x positive negative large first second. (
        (λ cells v steps k. omega (
          arith,
          truths_look cells v steps k,
          mul-le-mul (two_at_least most large) (one_more 2 most (two_at_least most large)),
        )),
        (first, (second, tt)),
      );
      cases = λ x decisions arms are few inner. (
        (λ cells v steps k. let small : sum_by nodes_of_pattern (patterns_of arms) ≤ most = omega (arith, few) in omega (
          arith,
          are.lean.looks cells v steps k,
          mul-le-mul small (one_more (sum_by nodes_of_pattern (patterns_of arms)) most small),
        )),
        inner,
      );
      computes = λ x form xs rest few later. (omega (arith, few), later);
      uses = λ x rest later. later;
      unpacks = λ x c fields rest few later. (omega (arith, few), later);
      insides = λ x block rest here later. (here, later);
      none = tt;
      more = λ pattern body rest here others. (here, others);
    }

-- each form of a core form has fewer parts than the greatest body has nodes
pub have_few_parts : (program : ProgramTree) (code : ProgramCode) (most : ℕ) → IsCoreForm program code
    → greatest_nodes program ≤ suc most
    → (f : ℕ) (core : FunctionCode) → slice_get code.functions f ≡ Some core → HasFewParts (most_by most) core.body
have_few_parts program code most form few =
    cores_hold program.constructors (suc most) (HasFewParts (most_by most)) (HaveFewParts (most_by most))
    (parts_hold program.constructors most)
    program.functions code.functions form.functions few
