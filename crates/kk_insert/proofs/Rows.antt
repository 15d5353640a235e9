-- That each case of inserted code has an arm for each row of its decisions.
use Rattle.std.proofs.Common.{◌≡◌, ℕ, suc, ◌||◌, Bool, true, false, List, [], ◌∷◌, length, refl, sym, ap, subst}
use Rattle.kk_syntax.specs.Shapes.{is_among, without}
use Rattle.kk_syntax.specs.declared.program.Form.TheVariants.{Call}
use Rattle.kk_syntax.specs.PositionsOf.{PositionTable}
use Rattle.kk_core.specs.Codes.{Code, give, tail_call, case, compute, use_of, unpack, inside, Arms, patterns_of, no_arm, arm, FunctionCode}
use Rattle.kk_core.specs.Decisions.{AreOrderly}
use Rattle.kk_counted.specs.Arms.{arm_count, HasArms, HaveArms}
use Rattle.kk_counted.specs.CountedCodes as Counted
use Rattle.kk_counted.specs.Spending.{at_positions, numbers_from, is_owned}
use Rattle.kk_insert.specs.Insertion.{dups, drops, dropping, common, used, lends, owns, wants, back, opening, lent_of, own, insert, insert_arms, inserted_function}
use Rattle.kk_insert.specs.Promise.{HasRows, HaveRows}

dups_arms : (xs : List ℕ) (code : Counted.Counted) → HasArms code → HasArms (dups xs code)
dups_arms [] code has = has
dups_arms (x ∷ xs) code has = dups_arms xs code has

drops_arms : (xs : List ℕ) (code : Counted.Counted) → HasArms code → HasArms (drops xs code)
drops_arms [] code has = has
drops_arms (x ∷ xs) code has = drops_arms xs code has

dropping_arms : (all now : List ℕ) (code : Counted.Counted) → HasArms code → HasArms (dropping all now code)
dropping_arms all now code has = drops_arms (without now all) code has

opening_arms : (stays : Bool) (x c : ℕ) (fields in_use : List ℕ) (code : Counted.Counted) → HasArms code
    → HasArms (opening stays x c fields in_use code)
opening_arms true x c fields in_use code has = dups_arms in_use code has
opening_arms false x c fields in_use code has = has

module _ (positions : PositionTable) (lent : List ℕ) where
  arms_counted : (left all : List ℕ) (arms : Arms)
      → arm_count (insert_arms positions lent left all arms) ≡ length (patterns_of arms)
  arms_counted left all no_arm = refl
  arms_counted left all (arm pattern body rest) = ap suc (arms_counted left all rest)

  mutual
    insert_has : (left : List ℕ) (code : Code) → HasRows code → HasArms (insert positions lent left code)
    insert_has left (give x) has = dups_arms (wants lent (x ∷ []) left) (Counted.give x) tt
    insert_has left (tail_call f arguments) has = dups_arms (wants lent (used positions (Call f) arguments) left) (Counted.tail_call f arguments) tt
    insert_has left (case x decisions arms) has = (
      subst (AreOrderly decisions) (sym (arms_counted left (own positions lent left (case x decisions arms)) arms)) has.0,
      insert_have left (own positions lent left (case x decisions arms)) arms has.1,
    )
    insert_has left (compute x form arguments rest) has =
        let now = own positions lent left rest in
        let given = lends positions form arguments in
        let code = insert positions lent left rest in
        dups_arms (wants lent (used positions form arguments) (owns lent given (without (x ∷ []) now)))
        (Counted.compute x form arguments (back lent given x now code))
        (dropping_arms (owns lent given (without (x ∷ []) now)) (without (x ∷ []) now) (dropping (x ∷ []) now code)
        (dropping_arms (x ∷ []) now code (insert_has left rest has)))
    insert_has left (use_of x rest) has =
        dropping_arms (own positions lent left (use_of x rest)) (own positions lent left rest) (insert positions lent left rest) (insert_has left rest has)
    insert_has left (unpack x c fields rest) has =
        opening_arms (is_among lent x || is_among (own positions lent left rest) x) x c fields
        (common (own positions lent left rest) fields) (insert positions lent left rest) (insert_has left rest has)
    insert_has left (inside x block rest) has = (
      insert_has (without (x ∷ []) (own positions lent left rest)) block has.0,
      dropping_arms (x ∷ []) (own positions lent left rest) (insert positions lent left rest) (insert_has left rest has.1),
    )

    insert_have : (left all : List ℕ) (arms : Arms) → HaveRows arms → HaveArms (insert_arms positions lent left all arms)
    insert_have left all no_arm have = tt
    insert_have left all (arm pattern body rest) have =
        (dropping_arms all (own positions lent left body) (insert positions lent left body) (insert_has left body have.0), insert_have left all rest have.1)

pub function_has_arms : (positions : PositionTable) (f : ℕ) (function : FunctionCode) → HasRows function.body
    → HasArms (inserted_function positions f function).body
function_has_arms positions f function has =
    dropping_arms (at_positions (is_owned positions [] f) 0 (numbers_from 0 function.parameters))
    (own positions (lent_of positions f function) [] function.body) (insert positions (lent_of positions f function) [] function.body)
    (insert_has positions (lent_of positions f function) [] function.body has)
