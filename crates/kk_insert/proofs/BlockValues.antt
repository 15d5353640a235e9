-- Each block inside of inserted code gives a value, each case has an arm, and each form as many arguments as it takes.
use Rattle.std.proofs.Common.{◌≡◌, ℕ, ◌||◌, Bool, true, false, List, [], ◌∷◌, map, length, Option, Some, None, arith, refl, sym, ◌∙◌, ap}
use Rattle.kk_syntax.specs.Shapes.{is_among, without}
use Rattle.kk_syntax.specs.Covered.{IsCovered}
use Rattle.kk_syntax.specs.GroundTyping.{Table, IsFormTyped}
use Rattle.kk_syntax.specs.OfType.{values_of}
use Rattle.kk_syntax.specs.Outlines.{outline_of, any}
use Rattle.kk_syntax.specs.PositionsOf.{PositionTable}
use Rattle.kk_syntax.specs.Types.{TypeTree}
use Rattle.kk_syntax.specs.declared.program.Form.{Form}
use Rattle.kk_syntax.specs.declared.program.Form.TheVariants.{Number, Unit as Nothing, ReadByte, PrintText, Unary, Binary, Print, Construct, Call}
use Rattle.kk_core.specs.Codes.{Code, give, tail_call, case, compute, use_of, unpack, inside, Arms, patterns_of, no_arm, arm, FunctionCode}
use Rattle.kk_core.specs.CoreTyping.{Facts, HaveTypes, HasCodeType, AreArmsTyped}
use Rattle.kk_counted.specs.CountedCodes as Counted
use Rattle.kk_counted.specs.CountBounds.{HasAnArm, EachHasAnArm, AllHaveAnArm}
use Rattle.kk_counted.specs.Lowerable.{first_of, given_by, given_by_arms, BlocksGive, BlocksOfArmsGive, HasArity, HasArities, HaveArities}
use Rattle.kk_counted.specs.Spending.{at_positions, numbers_from, is_owned}
use Rattle.kk_insert.specs.Insertion.{dropping, common, used, lends, owns, wants, back, opening, lent_of, own, insert, insert_arms, inserted_function}
use Rattle.kk_insert.proofs.Gains.{HasFew}
use Rattle.kk_insert.proofs.TypedPrograms.{same_length}
use Rattle.kk_insert.proofs.DupPrefixes.{through_dups, through_dropping, through_back}

-- rows that are covered are some
pub some_arm : (table : Table) (u : TypeTree) (arms : Arms) → IsCovered (values_of table.constructors) u (map outline_of (patterns_of arms))
    → arms ≡ no_arm → ⊥
some_arm table u no_arm covered is = covered any (record { typed = tt; clashes = tt })
some_arm table u (arm pattern body rest) covered is = absurd (cc)

-- ---- what a code gives

abbrev Gives : ℕ → Counted.Counted → Type 0
Gives g code = given_by code ≡ Some g

given_first : (one two : Option ℕ) (g : ℕ) → one ≡ Some g → first_of one two ≡ Some g
given_first None two g is = absurd (cc)
given_first (Some x) two g is = is

opening_gives : (stays : Bool) (x c : ℕ) (fields in_use : List ℕ) (code : Counted.Counted) (g : ℕ) → Gives g code
    → Gives g (opening stays x c fields in_use code)
opening_gives true x c fields in_use code g is = through_dups (Gives g) (λ y code is. is) (λ y code is. is) in_use code is
opening_gives false x c fields in_use code g is = is

module _ (positions : PositionTable) (lent : List ℕ) (table : Table) where
  mutual
    gives : (left : List ℕ) (code : Code) (facts : Facts) (t : TypeTree) → HasCodeType table false facts code t
        → (g : ℕ) × Gives g (insert positions lent left code)
    gives left (give x) facts t has =
        (x, through_dups (Gives x) (λ y code is. is) (λ y code is. is) (wants lent (x ∷ []) left) (Counted.give x) refl)
    gives left (tail_call f arguments) facts t has = absurd (let never : false ≡ true = has.0 in cc)
    gives left (case x decisions arms) facts t has =
        arms_give left (own positions lent left (case x decisions arms)) arms facts x has.0 t has.2 (some_arm table has.0 arms has.3)
    gives left (compute x form arguments rest) facts t has =
        let now = own positions lent left rest in
        let given = lends positions form arguments in
        let behind = gives left rest _ t has.4 in (
          behind.0,
          through_dups (Gives behind.0) (λ y code is. is) (λ y code is. is)
              (wants lent (used positions form arguments) (owns lent given (without (x ∷ []) now)))
              (Counted.compute x form arguments (back lent given x now (insert positions lent left rest)))
              (through_back (Gives behind.0) (λ y code is. is) (λ y code is. is) lent given x now (insert positions lent left rest) behind.1),
        )
    gives left (use_of x rest) facts t has =
        let behind = gives left rest facts t has.2 in (
          behind.0,
          through_dropping (Gives behind.0) (λ y code is. is) (λ y code is. is) (own positions lent left (use_of x rest)) (own positions lent left rest)
              (insert positions lent left rest) behind.1,
        )
    gives left (unpack x c fields rest) facts t has =
        let now = own positions lent left rest in
        let behind = gives left rest _ t has.7 in
        (behind.0, opening_gives (is_among lent x || is_among now x) x c fields (common now fields) (insert positions lent left rest) behind.0 behind.1)
    gives left (inside x block rest) facts t has =
        let behind = gives left rest _ t has.2 in
        (behind.0, through_dropping (Gives behind.0) (λ y code is. is) (λ y code is. is) (x ∷ []) (own positions lent left rest) (insert positions lent left rest) behind.1)

    arms_give : (left all : List ℕ) (arms : Arms) (facts : Facts) (x : ℕ) (u t : TypeTree) → AreArmsTyped table false facts x u arms t
        → (arms ≡ no_arm → ⊥) → (g : ℕ) × (given_by_arms (insert_arms positions lent left all arms) ≡ Some g)
    arms_give left all no_arm facts x u t has some = absurd (some refl)
    arms_give left all (arm pattern body rest) facts x u t has some =
        let first = gives left body _ t has.1 in
        let one = through_dropping (Gives first.0) (λ y code is. is) (λ y code is. is) all (own positions lent left body) (insert positions lent left body) first.1 in (
          first.0,
          given_first (given_by (dropping all (own positions lent left body) (insert positions lent left body)))
              (given_by_arms (insert_arms positions lent left all rest)) first.0 one,
        )

  -- ---- blocks inside, arms and arguments

  abbrev Well : Counted.Counted → Type 0
  Well code = BlocksGive code × (EachHasAnArm code × HasArities code)

  abbrev AllWell : Counted.CountedArms → Type 0
  AllWell arms = BlocksOfArmsGive arms × (AllHaveAnArm arms × HaveArities arms)

  opening_well : (stays : Bool) (x c : ℕ) (fields in_use : List ℕ) (code : Counted.Counted) → Well code
      → Well (opening stays x c fields in_use code)
  opening_well true x c fields in_use code well = through_dups Well (λ y code is. is) (λ y code is. is) in_use code well
  opening_well false x c fields in_use code well = well

  has_one : (left all : List ℕ) (arms : Arms) → (arms ≡ no_arm → ⊥) → HasAnArm (insert_arms positions lent left all arms)
  has_one left all no_arm some = absurd (some refl)
  has_one left all (arm pattern body rest) some = tt

  module _ (few : HasFew table) where
    has_arity : (form : Form) (facts : Facts) (arguments : List ℕ) (ts : List TypeTree) (t : TypeTree) → HaveTypes facts arguments ts
        → IsFormTyped table form ts t → HasArity form arguments
    has_arity (Number n) facts arguments ts t have is = tt
    has_arity Nothing facts arguments ts t have is = tt
    has_arity ReadByte facts arguments ts t have is = tt
    has_arity (PrintText form text) facts arguments ts t have is = tt
    has_arity (Unary operator) facts arguments ts t have is = sym (same_length facts arguments ts have) ∙ ap length is.0
    has_arity (Binary operator) facts arguments ts t have is = sym (same_length facts arguments ts have) ∙ ap length is.0
    has_arity (Print form) facts arguments ts t have is = sym (same_length facts arguments ts have) ∙ ap length is.0
    has_arity (Construct c) facts arguments ts t have is = tt
    has_arity (Call f) facts arguments ts t have is =
        let many = same_length facts arguments ts have in
        let eight = few.parameters f (record { parameters = ts; result = t }) is in
        omega (arith, many, eight)

    mutual
      pub well : (left : List ℕ) (code : Code) (tail : Bool) (facts : Facts) (t : TypeTree) → HasCodeType table tail facts code t
          → Well (insert positions lent left code)
      well left (give x) tail facts t has =
          through_dups Well (λ y code is. is) (λ y code is. is) (wants lent (x ∷ []) left) (Counted.give x) (tt, (tt, tt))
      well left (tail_call f arguments) tail facts t has =
          through_dups Well (λ y code is. is) (λ y code is. is) (wants lent (used positions (Call f) arguments) left)
          (Counted.tail_call f arguments) (tt, (tt, has_arity (Call f) facts arguments has.1 t has.2 has.3))
      well left (case x decisions arms) tail facts t has =
          let all = own positions lent left (case x decisions arms) in
          let each = arms_well left all arms tail facts x has.0 t has.2 in
          let some = has_one left all arms (some_arm table has.0 arms has.3) in
          (each.0, ((some, each.1.0), each.1.1))
      well left (compute x form arguments rest) tail facts t has =
          let now = own positions lent left rest in
          let given = lends positions form arguments in
          let behind = through_back Well (λ y code is. is) (λ y code is. is) lent given x now (insert positions lent left rest) (well left rest tail _ t has.4) in
          through_dups Well (λ y code is. is) (λ y code is. is)
          (wants lent (used positions form arguments) (owns lent given (without (x ∷ []) now)))
          (Counted.compute x form arguments (back lent given x now (insert positions lent left rest)))
          (behind.0, (behind.1.0, (has_arity form facts arguments has.1 has.0 has.2 has.3, behind.1.1)))
      well left (use_of x rest) tail facts t has =
          through_dropping Well (λ y code is. is) (λ y code is. is) (own positions lent left (use_of x rest)) (own positions lent left rest)
          (insert positions lent left rest) (well left rest tail facts t has.2)
      well left (unpack x c fields rest) tail facts t has =
          let now = own positions lent left rest in
          opening_well (is_among lent x || is_among now x) x c fields (common now fields) (insert positions lent left rest) (well left rest tail _ t has.7)
      well left (inside x block rest) tail facts t has =
          let now = own positions lent left rest in
          let value = gives (without (x ∷ []) now) block facts has.0 has.1 in
          let one = well (without (x ∷ []) now) block false facts has.0 has.1 in
          let two = through_dropping Well (λ y code is. is) (λ y code is. is) (x ∷ []) now (insert positions lent left rest) (well left rest tail _ t has.2) in
          ((value.0, (value.1, (one.0, two.0))), ((one.1.0, two.1.0), (one.1.1, two.1.1)))

      arms_well : (left all : List ℕ) (arms : Arms) (tail : Bool) (facts : Facts) (x : ℕ) (u t : TypeTree)
          → AreArmsTyped table tail facts x u arms t → AllWell (insert_arms positions lent left all arms)
      arms_well left all no_arm tail facts x u t has = (tt, (tt, tt))
      arms_well left all (arm pattern body rest) tail facts x u t has =
          let one = through_dropping Well (λ y code is. is) (λ y code is. is) all (own positions lent left body) (insert positions lent left body) (well left body tail _ t has.1) in
          let two = arms_well left all rest tail facts x u t has.2 in
          ((one.0, two.0), ((one.1.0, two.1.0), (one.1.1, two.1.1)))

pub function_well : (positions : PositionTable) (table : Table) → HasFew table → (f : ℕ) (function : FunctionCode) (facts : Facts) (t : TypeTree)
    → HasCodeType table true facts function.body t
    → BlocksGive (inserted_function positions f function).body
    × (EachHasAnArm (inserted_function positions f function).body × HasArities (inserted_function positions f function).body)
function_well positions table few f function facts t has =
    let lent = lent_of positions f function in
    through_dropping (λ code. BlocksGive code × (EachHasAnArm code × HasArities code)) (λ y code is. is) (λ y code is. is)
    (at_positions (is_owned positions [] f) 0 (numbers_from 0 function.parameters))
    (own positions lent [] function.body) (insert positions lent [] function.body)
    (well positions lent table few [] function.body true facts t has)
