-- Core code that computes a value before more comes lends what the code behind it lends, and has no tail call of its own.
use Rattle.std.proofs.Common.{◌≡◌, ℕ, ◌+◌, Bool, true, false, List, ◌++◌, refl, sym, ◌∙◌, subst}
use Rattle.std.specs.Prelude.{if◌then◌else◌}
use Rattle.kk_syntax.specs.declared.program.Form.{Form}
use Rattle.kk_syntax.specs.declared.program.Form.TheVariants.{Number, Unit as Nothing, ReadByte, PrintText, Unary, Binary, Print, Construct, Call}
use Rattle.kk_syntax.specs.Patterns.{Pattern, anything, variable as pattern_variable, exactly, constructor, Patterns, no_part, part}
use Rattle.kk_syntax.specs.PositionsOf.{PositionTable}
use Rattle.kk_syntax.specs.Programs.{ConstructorTree}
use Rattle.kk_syntax.specs.Shapes.{is_among, variable_of}
use Rattle.kk_syntax.specs.Trees.{Tree, variable, apply, branch, match, sequence, Trees, no_tree, tree, Rows, no_row, row, row_parts}
use Rattle.kk_core.specs.Codes.{Code, give, tail_call, case, compute, use_of, unpack, inside, Arms, no_arm, arm}
use Rattle.kk_core.specs.Truths.{truth_case}
use Rattle.kk_norm.specs.Names.{Names, name_of, named}
use Rattle.kk_norm.specs.Normalized.{size, size_all, size_rows, pattern_size, part_count, atom, atoms, final, next, finish, numbers, opened, opened_all, pattern_names, IsCode, AreCodes, AreArms}
use Rattle.kk_insert.specs.Insertion.{lent_in, lent_in_arms}
use Rattle.kk_insert.specs.Promise.{LendsTails, AllLendTails}
use Rattle.kk_insert.proofs.Sets.{Part, in_back}

pub part_self : (xs : List ℕ) → Part xs xs
part_self xs y is = is

pub part_then : (xs ys zs : List ℕ) → Part xs ys → Part ys zs → Part xs zs
part_then xs ys zs one two y is = two y (one y is)

-- ---- lent variables stay lent

-- the fields of a cell whose variable is lent
pub with_fields : (t : Bool) (fields before : List ℕ) → Part before (if t then fields ++ before else before)
with_fields true fields before y is = in_back fields before y is
with_fields false fields before y is = is

mutual
  pub grows : (code : Code) (before : List ℕ) → Part before (lent_in before code)
  grows (give x) before y is = is
  grows (tail_call f arguments) before y is = is
  grows (case x decisions arms) before y is = grow_arms arms before y is
  grows (compute x form arguments rest) before y is = grows rest before y is
  grows (use_of x rest) before y is = grows rest before y is
  grows (unpack x c fields rest) before y is =
      grows rest (if is_among before x then fields ++ before else before) y (with_fields (is_among before x) fields before y is)
  grows (inside x block rest) before y is = grows rest (lent_in before block) y (grows block before y is)

  pub grow_arms : (arms : Arms) (before : List ℕ) → Part before (lent_in_arms before arms)
  grow_arms no_arm before y is = is
  grow_arms (arm pattern body rest) before y is = grow_arms rest (lent_in before body) y (grows body before y is)

-- ---- what comes before other code

-- the lent variables at the code behind a code, by those before it
pub record Lent (before : List ℕ) (code later : Code) : Type 0 where
  pub next : List ℕ
  pub are : lent_in before code ≡ lent_in next later
  pub more : Part before next

-- a code passes on to the code behind it
pub record Passes (positions : PositionTable) (code later : Code) : Type 0 where
  pub lent : (before : List ℕ) → Lent before code later
  pub tails : (lent : List ℕ) → LendsTails positions lent later → LendsTails positions lent code

module _ (positions : PositionTable) where
  passes_self : (code later : Code) → code ≡ later → Passes positions code later
  passes_self code later is =
      subst (λ (c : Code). Passes positions c later) (sym is)
      (record {
        lent = λ before. record { next = before; are = refl; more = part_self before };
        tails = λ lent tails. tails;
      })

  passes_then : (code middle later : Code) → Passes positions code middle → Passes positions middle later
      → Passes positions code later
  passes_then code middle later one two =
      record {
        lent = λ before.
            let first : Lent before code middle = one.lent before in
            let second : Lent first.next middle later = two.lent first.next in
            record {
              next = second.next;
              are = first.are ∙ second.are;
              more = part_then before first.next second.next first.more second.more;
            };
        tails = λ lent tails. one.tails lent (two.tails lent tails);
      }

  passes_compute : (code later : Code) (x : ℕ) (form : Form) (arguments : List ℕ) → code ≡ compute x form arguments later
      → Passes positions code later
  passes_compute code later x form arguments is =
      subst (λ (c : Code). Passes positions c later) (sym is)
      (record {
        lent = λ before. record { next = before; are = refl; more = part_self before };
        tails = λ lent tails. tails;
      })

  passes_use : (code later : Code) (x : ℕ) → code ≡ use_of x later → Passes positions code later
  passes_use code later x is =
      subst (λ (c : Code). Passes positions c later) (sym is)
      (record {
        lent = λ before. record { next = before; are = refl; more = part_self before };
        tails = λ lent tails. tails;
      })

  passes_inside : (x : ℕ) (block later : Code) → ((lent : List ℕ) → LendsTails positions lent block)
      → Passes positions (inside x block later) later
  passes_inside x block later none =
      record {
        lent = λ before. record { next = lent_in before block; are = refl; more = grows block before };
        tails = λ lent tails. (none lent, tails);
      }

  passes_unpack : (x c : ℕ) (fields : List ℕ) (later : Code) → Passes positions (unpack x c fields later) later
  passes_unpack x c fields later =
      record {
        lent = λ before.
            record {
              next = if is_among before x then fields ++ before else before;
              are = refl;
              more = with_fields (is_among before x) fields before;
            };
        tails = λ lent tails. tails;
      }

  mutual
    pub opened_passes : (pattern : Pattern) (a n : ℕ) (later : Code) → Passes positions (opened a n pattern later) later
    opened_passes anything a n later = passes_self later later refl
    opened_passes (pattern_variable x) a n later = passes_self later later refl
    opened_passes (exactly value) a n later = passes_self later later refl
    opened_passes (constructor c no_part) a n later = passes_self later later refl
    opened_passes (constructor c (part first others)) a n later =
        passes_then (opened a n (constructor c (part first others)) later)
        (opened_all n (n + part_count (part first others)) (part first others) later) later
        (passes_unpack a c (numbers n (part first others))
        (opened_all n (n + part_count (part first others)) (part first others) later))
        (opened_all_passes (part first others) n (n + part_count (part first others)) later)

    pub opened_all_passes : (parts : Patterns) (a n : ℕ) (later : Code) → Passes positions (opened_all a n parts later) later
    opened_all_passes no_part a n later = passes_self later later refl
    opened_all_passes (part first others) a n later =
        passes_then (opened_all a n (part first others) later) (opened_all (a + 1) (n + pattern_size first) others later) later
        (opened_passes first a n (opened_all (a + 1) (n + pattern_size first) others later))
        (opened_all_passes others (a + 1) (n + pattern_size first) later)

  -- ---- forms

  finish_next : (later : Code) (m : ℕ) (form : Form) (arguments : List ℕ)
      → finish (next later) m form arguments ≡ compute m form arguments later
  finish_next later m (Number n) arguments = refl
  finish_next later m Nothing arguments = refl
  finish_next later m ReadByte arguments = refl
  finish_next later m (PrintText form text) arguments = refl
  finish_next later m (Unary operator) arguments = refl
  finish_next later m (Binary operator) arguments = refl
  finish_next later m (Print form) arguments = refl
  finish_next later m (Construct c) arguments = refl
  finish_next later m (Call f) arguments = refl

  finish_block : (lent : List ℕ) (m : ℕ) (form : Form) (arguments : List ℕ)
      → LendsTails positions lent (finish (final false) m form arguments)
  finish_block lent m (Number n) arguments = tt
  finish_block lent m Nothing arguments = tt
  finish_block lent m ReadByte arguments = tt
  finish_block lent m (PrintText form text) arguments = tt
  finish_block lent m (Unary operator) arguments = tt
  finish_block lent m (Binary operator) arguments = tt
  finish_block lent m (Print form) arguments = tt
  finish_block lent m (Construct c) arguments = tt
  finish_block lent m (Call f) arguments = tt

  module _ (constructors : List ConstructorTree) where
    mutual
      -- code behind which more comes
      pub passes : (e : Tree) (names : Names) (n : ℕ) (later code : Code) → IsCode constructors (next later) names n e code
          → Passes positions code later
      passes (variable x) names n later code is = passes_use code later (name_of names x) is
      passes (apply form es) names n later code is =
          passes_then code (finish (next later) (n + size_all es) form (atoms names n es)) later
          (pass_all es names n (finish (next later) (n + size_all es) form (atoms names n es)) code is)
          (passes_compute (finish (next later) (n + size_all es) form (atoms names n es)) later (n + size_all es) form (atoms names n es)
          (finish_next later (n + size_all es) form (atoms names n es)))
      passes (branch e positive negative) names n later code is =
          let block : Code = truth_case (atom names n e) is.0 is.1 in
          passes_then code (inside (n + size e + size positive + size negative) block later) later
          (passes e names n (inside (n + size e + size positive + size negative) block later) code is.4)
          (passes_inside (n + size e + size positive + size negative) block later
          (λ lent. (
            ends positive names (n + size e) is.0 is.2 lent,
            (ends negative names (n + size e + size positive) is.1 is.3 lent, tt),
          )))
      passes (match e rows) names n later code is =
          let block : Code = case (atom names n e) is.0 is.1 in
          passes_then code (inside (n + size e + size_rows rows) block later) later
          (passes e names n (inside (n + size e + size_rows rows) block later) code is.4)
          (passes_inside (n + size e + size_rows rows) block later
          (λ lent. end_arms rows names (atom names n e) (n + size e) is.1 is.3 lent))
      passes (sequence binder first rest) names n later code is =
          passes_then code is.0 later (passes first names n is.0 code is.2)
          (passes rest (named (variable_of binder) (atom names n first) names) (n + size first) later is.0 is.1)

      pub pass_all : (es : Trees) (names : Names) (n : ℕ) (last code : Code) → AreCodes constructors names n es last code
          → Passes positions code last
      pass_all no_tree names n last code is = passes_self code last is
      pass_all (tree first rest) names n last code is =
          passes_then code is.0 last (passes first names n is.0 code is.2) (pass_all rest names (n + size first) last is.0 is.1)

      -- a block that is a step of another has no tail call
      pub ends : (e : Tree) (names : Names) (n : ℕ) (code : Code) → IsCode constructors (final false) names n e code
          → (lent : List ℕ) → LendsTails positions lent code
      ends (variable x) names n code is lent = subst (LendsTails positions lent) (sym is) tt
      ends (apply form es) names n code is lent =
          (pass_all es names n (finish (final false) (n + size_all es) form (atoms names n es)) code is).tails lent
          (finish_block lent (n + size_all es) form (atoms names n es))
      ends (branch e positive negative) names n code is lent =
          (passes e names n (truth_case (atom names n e) is.0 is.1) code is.4).tails lent (
            ends positive names (n + size e) is.0 is.2 lent,
            (ends negative names (n + size e + size positive) is.1 is.3 lent, tt),
          )
      ends (match e rows) names n code is lent =
          (passes e names n (case (atom names n e) is.0 is.1) code is.4).tails lent
          (end_arms rows names (atom names n e) (n + size e) is.1 is.3 lent)
      ends (sequence binder first rest) names n code is lent =
          (passes first names n is.0 code is.2).tails lent
          (ends rest (named (variable_of binder) (atom names n first) names) (n + size first) is.0 is.1 lent)

      pub end_arms : (rows : Rows) (names : Names) (a n : ℕ) (arms : Arms) → AreArms constructors (final false) names a n rows arms
          → (lent : List ℕ) → AllLendTails positions lent arms
      end_arms no_row names a n arms is lent = subst (AllLendTails positions lent) (sym is) tt
      end_arms (row (row_parts pattern body) rest) names a n arms is lent =
          subst (AllLendTails positions lent) (sym is.2) (
            (opened_passes pattern a n is.0).tails lent
                (ends body (pattern_names a n pattern names) (n + pattern_size pattern) is.0 is.3 lent),
            end_arms rest names a (n + pattern_size pattern + size body) is.1 is.4 lent,
          )
