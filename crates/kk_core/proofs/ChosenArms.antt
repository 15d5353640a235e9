-- The arms of a covered case: its decisions choose one of them, whose pattern its value matches.
use Rattle.std.proofs.Common.{◌≡◌, ℕ, suc, ◌+◌, ◌≤◌, Bool, true, false, List, [], ◌∷◌, map, Option, Some, None, refl, arith}
use Rattle.std.specs.Prelude.{if◌then◌else◌, is_some}
use Rattle.kk_syntax.specs.Covered.{Each, IsCovered}
use Rattle.kk_syntax.specs.GroundTyping.{Table}
use Rattle.kk_syntax.specs.OfType.{IsPatternOf, values_of}
use Rattle.kk_syntax.specs.Outlines.{outline_of, Clash}
use Rattle.kk_syntax.specs.Patterns.{Pattern}
use Rattle.kk_syntax.specs.Programs.{ConstructorTree}
use Rattle.kk_syntax.specs.Types.{TypeTree}
use Rattle.kk_source.specs.State.{Value, Store, Environment}
use Rattle.kk_source.specs.Matching.{matched}
use Rattle.kk_source.specs.ValueTypes.{Content, HasContent, IsContentOf, IsOf}
use Rattle.kk_source.proofs.Matching.{outline_in, outline_typed, clashes}
use Rattle.kk_core.specs.RowChoice.{matches, first_row}
use Rattle.kk_core.specs.Codes.{Code, give, tail_call, case, compute, use_of, unpack, inside, Arms, no_arm, arm, patterns_of}
use Rattle.kk_core.specs.CoreMachine.{arm_at}
use Rattle.kk_core.specs.CoreTyping.{Facts, knowing, HasCodeType, AreArmsTyped}
use Rattle.kk_core.specs.Sizes.{Ordered, OrderedArms}
use Rattle.kk_core.proofs.VariableFacts.{Takes, matches_takes, rise_le}

-- a code binds variables from one number on, below another one that is no smaller
mutual
  pub ordered_le : (names : List ℕ) (low : ℕ) (code : Code) (high : ℕ) → Ordered names low code high → low ≤ high
  ordered_le names low (give x) high ordered = ordered.1
  ordered_le names low (tail_call f arguments) high ordered = ordered.1
  ordered_le names low (case x decisions arms) high ordered = arms_le names low arms high ordered.1
  ordered_le names low (compute x form arguments rest) high ordered =
      let more = ordered_le (x ∷ names) (x + 1) rest high ordered.2 in omega (arith, ordered.1, more)
  ordered_le names low (use_of x rest) high ordered = ordered_le names low rest high ordered.1
  ordered_le names low (unpack x c fields rest) high ordered =
      let first = rise_le low ordered.0 fields ordered.2 in
      let second = ordered_le _ ordered.0 rest high ordered.3 in omega (arith, first, second)
  ordered_le names low (inside x block rest) high ordered =
      let first = ordered_le names low block x ordered.0 in
      let second = ordered_le (x ∷ names) (x + 1) rest high ordered.1 in omega (arith, first, second)

  pub arms_le : (names : List ℕ) (low : ℕ) (arms : Arms) (high : ℕ) → OrderedArms names low arms high → low ≤ high
  arms_le names low no_arm high ordered = ordered
  arms_le names low (arm pattern body rest) high ordered =
      let first = ordered_le names low body ordered.0 ordered.1 in
      let second = arms_le names ordered.0 rest high ordered.2 in omega (arith, first, second)

-- ---- a covered match

module _ (constructors : List ConstructorTree) (store : Store) where
  no_row : (k : ℕ) (ps : List Pattern) (t : TypeTree) (what : Content) (v : Value)
      → Each (IsPatternOf (values_of constructors) t) (map outline_of ps) → HasContent store v what
      → IsContentOf constructors t what → first_row store k ps v ≡ None → Each (Clash (outline_in what)) (map outline_of ps)
  no_row k [] t what v patterns has typed none = tt
  no_row k (p ∷ ps) t what v patterns has typed none =
      by_bound (matched store p v []) refl none (λ later. no_row (k + 1) ps t what v patterns.1 has typed later)
    where
      by_bound : (bound : Option Environment) → matched store p v [] ≡ bound
          → (if is_some bound then Some k else first_row store (k + 1) ps v) ≡ None
          → (first_row store (k + 1) ps v ≡ None → Each (Clash (outline_in what)) (map outline_of ps))
          → Clash (outline_in what) (outline_of p) × Each (Clash (outline_in what)) (map outline_of ps)
      by_bound None at later rest = (clashes constructors store p t what v [] patterns.0 has typed at, rest later)
      by_bound (Some bound) at later rest = absurd (cc)

  -- a value matches one of the patterns of its type that are covered
  pub covered_row : (ps : List Pattern) (t : TypeTree) (v : Value)
      → Each (IsPatternOf (values_of constructors) t) (map outline_of ps) → IsCovered (values_of constructors) t (map outline_of ps)
      → IsOf constructors store t v → (row : ℕ) × (first_row store 0 ps v ≡ Some row)
  covered_row ps t v patterns covered of = by_row (first_row store 0 ps v) refl
    where
      by_row : (row : Option ℕ) → first_row store 0 ps v ≡ row → (number : ℕ) × (first_row store 0 ps v ≡ Some number)
      by_row None none =
          absurd (covered (outline_in of.what)
          (record {
            typed = outline_typed constructors t of.what of.typed;
            clashes = no_row 0 ps t of.what v patterns of.has
                of.typed none;
          }))
      by_row (Some number) found = (number, found)

-- the patterns of typed arms are of the type
pub patterns_typed : (table : Table) (tail : Bool) (facts : Facts) (x : ℕ) (u : TypeTree) (arms : Arms) (t : TypeTree)
    → AreArmsTyped table tail facts x u arms t
    → Each (IsPatternOf (values_of table.constructors) u) (map outline_of (patterns_of arms))
patterns_typed table tail facts x u no_arm t typed = tt
patterns_typed table tail facts x u (arm pattern body rest) t typed = (typed.0, patterns_typed table tail facts x u rest t typed.2)

-- ---- the arm of the first row that matches

-- the arm of a row: its value matches the pattern, its block is typed, and binds variables of those of the case
pub record ArmTaken (table : Table) (store : Store) (tail : Bool) (facts : Facts) (x : ℕ) (u t : TypeTree) (v : Value)
    (names : List ℕ) (low high : ℕ) (arms : Arms) (row : ℕ) : Type 0 where
  pub pattern : Pattern
  pub body : Code
  pub from : ℕ
  pub to : ℕ
  pub is : arm_at arms row ≡ Some body
  pub takes : Takes store pattern v
  pub typed : HasCodeType table tail (knowing x u pattern facts) body t
  pub ordered : Ordered names from body to
  pub low_is : low ≤ from
  pub high_is : to ≤ high

module _ (table : Table) (store : Store) (tail : Bool) (facts : Facts) (x : ℕ) (u t : TypeTree) (v : Value) (names : List ℕ)
    (high : ℕ) where
  pub arm_taken : (arms : Arms) (k row low : ℕ) → first_row store k (patterns_of arms) v ≡ Some row
      → AreArmsTyped table tail facts x u arms t → OrderedArms names low arms high
      → (j : ℕ) × (row ≡ k + j) × ArmTaken table store tail facts x u t v names low high arms j
  arm_taken no_arm k row low is typed ordered = absurd (cc)
  arm_taken (arm pattern body rest) k row low is typed ordered =
      by_match (matches store pattern v) refl is (λ later. arm_taken rest (k + 1) row ordered.0 later typed.2 ordered.2)
    where
      by_match : (some : Bool) → matches store pattern v ≡ some
          → (if some then Some k else first_row store (k + 1) (patterns_of rest) v) ≡ Some row
          → (first_row store (k + 1) (patterns_of rest) v ≡ Some row → (j : ℕ) × (row ≡ (k + 1) + j)
          × ArmTaken table store tail facts x u t v names ordered.0 high rest j)
          → (j : ℕ) × (row ≡ k + j) × ArmTaken table store tail facts x u t v names low high (arm pattern body rest) j
      by_match true match found later =
          let same : k ≡ row = cc in (
            0,
            omega (arith, same),
            record {
              pattern = pattern;
              body = body;
              from = low;
              to = ordered.0;
              is = refl;
              takes = matches_takes store pattern v match;
              typed = typed.1;
              ordered = ordered.1;
              low_is = omega arith;
              high_is = arms_le names ordered.0 rest high ordered.2;
            },
          )
      by_match false match found later =
          let one = later found in
          let le = ordered_le names low body ordered.0 ordered.1 in (
            suc one.0,
            omega (arith, one.1),
            record {
              pattern = one.2.pattern;
              body = one.2.body;
              from = one.2.from;
              to = one.2.to;
              is = one.2.is;
              takes = one.2.takes;
              typed = one.2.typed;
              ordered = one.2.ordered;
              low_is = omega (arith, one.2.low_is, le);
              high_is = one.2.high_is;
            },
          )
