-- How inserted code of a typed program ends: each case has an arm, and a block inside ends with values alone.
use Rattle.std.proofs.Common.{◌≡◌, ℕ, ◌||◌, Bool, true, false, not, List, [], ◌∷◌, refl, ap, subst}
use Rattle.kk_syntax.specs.Shapes.{is_among, without}
use Rattle.kk_syntax.specs.GroundTyping.{Table}
use Rattle.kk_syntax.specs.PositionsOf.{PositionTable}
use Rattle.kk_syntax.specs.Types.{TypeTree}
use Rattle.kk_syntax.specs.declared.program.Form.TheVariants.{Call}
use Rattle.kk_core.specs.Codes.{Code, give, tail_call, case, compute, use_of, unpack, inside, Arms, no_arm, arm, FunctionCode, ProgramCode}
use Rattle.kk_core.specs.CoreTyping.{Facts, HasCodeType, AreArmsTyped, IsCoreTyped}
use Rattle.kk_counted.specs.BlockEnds.{HasAnArm, EndsWell, ArmsEndWell, AllEndWell}
use Rattle.kk_counted.specs.CountedCodes as Counted
use Rattle.kk_counted.specs.CountedCodes.{CountedFunction}
use Rattle.kk_counted.specs.Spending.{at_positions, numbers_from, is_owned}
use Rattle.kk_insert.specs.Insertion.{common, used, lends, owns, wants, back, opening, lent_of, own, insert, insert_arms, inserted_function, inserted}
use Rattle.kk_insert.proofs.BlockValues.{some_arm}
use Rattle.kk_insert.proofs.DupPrefixes.{through_dups, through_dropping, through_back}
use Rattle.kk_insert.proofs.Lowerability.{inserted_at}
use Rattle.kk_insert.proofs.TypedPrograms.{signature_there}

opening_ends : (inner stays : Bool) (x c : ℕ) (fields in_use : List ℕ) (code : Counted.Counted) → EndsWell inner code
    → EndsWell inner (opening stays x c fields in_use code)
opening_ends inner true x c fields in_use code ends =
    through_dups (EndsWell inner) (λ y code is. is) (λ y code is. is) in_use code ends
opening_ends inner false x c fields in_use code ends = ends

module _ (positions : PositionTable) (lent : List ℕ) (table : Table) where
  some : (left all : List ℕ) (arms : Arms) → (arms ≡ no_arm → ⊥) → HasAnArm (insert_arms positions lent left all arms)
  some left all no_arm are = absurd (are refl)
  some left all (arm pattern body rest) are = tt

  mutual
    -- a code that may not end with a tail call ends as a block inside does
    ends_well : (left : List ℕ) (code : Code) (tail : Bool) (facts : Facts) (t : TypeTree) → HasCodeType table tail facts code t
        → EndsWell (not tail) (insert positions lent left code)
    ends_well left (give x) tail facts t has =
        through_dups (EndsWell (not tail)) (λ y code is. is) (λ y code is. is) (wants lent (x ∷ []) left) (Counted.give x) tt
    ends_well left (tail_call f arguments) tail facts t has =
        through_dups (EndsWell (not tail)) (λ y code is. is) (λ y code is. is) (wants lent (used positions (Call f) arguments) left)
        (Counted.tail_call f arguments) (ap not has.0)
    ends_well left (case x decisions arms) tail facts t has =
        let all = own positions lent left (case x decisions arms) in
        (some left all arms (some_arm table has.0 arms has.3), arms_end_well left all arms tail facts x has.0 t has.2)
    ends_well left (compute x form arguments rest) tail facts t has =
        let now = own positions lent left rest in
        let given = lends positions form arguments in
        through_dups (EndsWell (not tail)) (λ y code is. is) (λ y code is. is)
        (wants lent (used positions form arguments) (owns lent given (without (x ∷ []) now)))
        (Counted.compute x form arguments (back lent given x now (insert positions lent left rest)))
        (through_back (EndsWell (not tail)) (λ y code is. is) (λ y code is. is) lent given x now (insert positions lent left rest)
        (ends_well left rest tail _ t has.4))
    ends_well left (use_of x rest) tail facts t has =
        through_dropping (EndsWell (not tail)) (λ y code is. is) (λ y code is. is) (own positions lent left (use_of x rest))
        (own positions lent left rest) (insert positions lent left rest) (ends_well left rest tail facts t has.2)
    ends_well left (unpack x c fields rest) tail facts t has =
        let now = own positions lent left rest in
        opening_ends (not tail) (is_among lent x || is_among now x) x c fields (common now fields) (insert positions lent left rest)
        (ends_well left rest tail _ t has.7)
    ends_well left (inside x block rest) tail facts t has =
        let now = own positions lent left rest in (
          ends_well (without (x ∷ []) now) block false facts has.0 has.1,
          through_dropping (EndsWell (not tail)) (λ y code is. is) (λ y code is. is) (x ∷ []) now (insert positions lent left rest)
              (ends_well left rest tail _ t has.2),
        )

    arms_end_well : (left all : List ℕ) (arms : Arms) (tail : Bool) (facts : Facts) (x : ℕ) (u t : TypeTree)
        → AreArmsTyped table tail facts x u arms t → ArmsEndWell (not tail) (insert_arms positions lent left all arms)
    arms_end_well left all no_arm tail facts x u t has = tt
    arms_end_well left all (arm pattern body rest) tail facts x u t has = (
      through_dropping (EndsWell (not tail)) (λ y code is. is) (λ y code is. is) all (own positions lent left body)
          (insert positions lent left body) (ends_well left body tail _ t has.1),
      arms_end_well left all rest tail facts x u t has.2,
    )

function_ends_well : (positions : PositionTable) (table : Table) (f : ℕ) (function : FunctionCode) (facts : Facts) (t : TypeTree)
    → HasCodeType table true facts function.body t → EndsWell false (inserted_function positions f function).body
function_ends_well positions table f function facts t has =
    let lent = lent_of positions f function in
    through_dropping (EndsWell false) (λ y code is. is) (λ y code is. is)
    (at_positions (is_owned positions [] f) 0 (numbers_from 0 function.parameters))
    (own positions lent [] function.body) (insert positions lent [] function.body)
    (ends_well positions lent table [] function.body true facts t has)

-- so do all functions of the program
pub inserted_ends_well : (positions : PositionTable) (table : Table) (code : ProgramCode) → IsCoreTyped table code
    → AllEndWell (inserted positions code).functions
inserted_ends_well positions table code typed f made there =
    let from = inserted_at positions f code.functions made there in
    let signed = signature_there table code.functions table.functions f from.0 typed.functions from.1.0 in
    subst (λ (one : CountedFunction). EndsWell false one.body) from.1.1
    (function_ends_well positions table f from.0 _ signed.0.result signed.1.1.body)
