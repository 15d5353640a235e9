-- Changed code can be lowered where the code can that it is made of, and spends as little: it is marked and numbered, has its arms
-- and arguments, and its blocks give values.
use Rattle.std.proofs.Common.{◌≡◌, ℕ, suc, Bool, List, ◌∷◌, ◌++◌, map, Option, refl, sym, ap, ◌∙◌, subst}
use Rattle.kk_core.specs.Decisions.{AreOrderly}
use Rattle.kk_counted.specs.Arms.{arm_count, HasArms, HaveArms}
use Rattle.kk_counted.specs.CountBounds.{HasAnArm, EachHasAnArm, AllHaveAnArm, SpendsAtMost, SpendAtMost, AllSpendAtMost}
use Rattle.kk_counted.specs.CountedCodes.{Counted, CountedArms, CountedFunction, CountedProgram}
use Rattle.kk_counted.specs.FunctionSizes.{HasVariablesBelow, AllHaveVariablesBelow}
use Rattle.kk_counted.specs.Spending.{numbers_from}
use Rattle.kk_counted.specs.Lowerable.{first_of, given_by, given_by_arms, BlocksGive, BlocksOfArmsGive, HasArities, HaveArities}
use Rattle.kk_counted.specs.Lowerable.{AreNumbered, AreArmsNumbered, IsLowerable, AreLowerable}
use Rattle.kk_counted.specs.Marks.{CellMarks, result_mark, HasMark, HaveMark, IsMarked}
use Rattle.kk_dropspec.specs.Changed.{changed_function, changed_program}
use Rattle.kk_dropspec.specs.Specialised.{special, special_function, special_program}
use Rattle.kk_dropspec.proofs.CodeChanges.{Changes, gives, calls, decides, computes, runs, reads, opens, opens_by_count}
use Rattle.kk_dropspec.proofs.CodeChanges.{opens_unique, dups, dups_less, drops, ArmsChange, no_arms, one_more, Never}
use Rattle.kk_dropspec.proofs.CodeChanges.{special_changes}
use Rattle.kk_dropspec.proofs.ChangedFunctions.{found_before}

module _ (Fewer : ℕ → Counted → Counted → Type 0) where
  -- ---- marks

  module _ (marks : CellMarks) (holds : ℕ → Bool) (result : Bool)
      (fewer : (x : ℕ) (code less : Counted) → Fewer x code less → (bound : List ℕ) (given : Bool)
      → HasMark marks holds result bound given code → HasMark marks holds result bound given less) where
    mutual
      pub marks_stay : {code less : Counted} → Changes Fewer code less → (bound : List ℕ) (given : Bool)
          → HasMark marks holds result bound given code → HasMark marks holds result bound given less
      marks_stay (gives x) bound given has = has
      marks_stay (calls f arguments) bound given has = has
      marks_stay (decides x decisions each) bound given has = (has.0, arms_marks_stay each bound given has.1)
      marks_stay (computes x form arguments after) bound given has =
          (has.0, (has.1.0, marks_stay after (x ∷ bound) given has.1.1))
      marks_stay (runs x made after) bound given has =
          (marks_stay made bound (holds x) has.0, marks_stay after (x ∷ bound) given has.1)
      marks_stay (reads x c fields after) bound given has = (has.0, marks_stay after (fields ++ bound) given has.1)
      marks_stay (opens x c fields used after) bound given has = (has.0, marks_stay after (fields ++ bound) given has.1)
      marks_stay (opens_by_count x c fields used after) bound given has = (has.0, marks_stay after (fields ++ bound) given has.1)
      marks_stay (opens_unique x c fields used after) bound given has = (has.0, marks_stay after (fields ++ bound) given has.1)
      marks_stay (dups x after) bound given has = (has.0, marks_stay after bound given has.1)
      marks_stay (dups_less x before less after gone) bound given has =
          fewer x before less gone bound given (marks_stay after bound given has.1)
      marks_stay (drops x after) bound given has = (has.0, marks_stay after bound given has.1)

      arms_marks_stay : {arms others : CountedArms} → ArmsChange Fewer arms others → (bound : List ℕ) (given : Bool)
          → HaveMark marks holds result bound given arms → HaveMark marks holds result bound given others
      arms_marks_stay no_arms bound given have = tt
      arms_marks_stay (one_more made rest) bound given have =
          (marks_stay made bound given have.0, arms_marks_stay rest bound given have.1)

  -- ---- numbers

  module _ (base : ℕ) (fewer : (x : ℕ) (code less : Counted) → Fewer x code less → (bound : List ℕ)
      → AreNumbered base bound code → AreNumbered base bound less) where
    mutual
      pub numbers_stay : {code less : Counted} → Changes Fewer code less → (bound : List ℕ) → AreNumbered base bound code
          → AreNumbered base bound less
      numbers_stay (gives x) bound are = tt
      numbers_stay (calls f arguments) bound are = tt
      numbers_stay (decides x decisions each) bound are = arms_numbers_stay each bound are
      numbers_stay (computes x form arguments after) bound are = (are.0, (are.1.0, numbers_stay after (x ∷ bound) are.1.1))
      numbers_stay (runs x made after) bound are =
          (are.0, (numbers_stay made bound are.1.0, numbers_stay after (x ∷ bound) are.1.1))
      numbers_stay (reads x c fields after) bound are = (are.0, numbers_stay after (fields ++ bound) are.1)
      numbers_stay (opens x c fields used after) bound are = (are.0, numbers_stay after (fields ++ bound) are.1)
      numbers_stay (opens_by_count x c fields used after) bound are = (are.0, numbers_stay after (fields ++ bound) are.1)
      numbers_stay (opens_unique x c fields used after) bound are = (are.0, numbers_stay after (fields ++ bound) are.1)
      numbers_stay (dups x after) bound are = numbers_stay after bound are
      numbers_stay (dups_less x before less after gone) bound are = fewer x before less gone bound (numbers_stay after bound are)
      numbers_stay (drops x after) bound are = numbers_stay after bound are

      arms_numbers_stay : {arms others : CountedArms} → ArmsChange Fewer arms others → (bound : List ℕ)
          → AreArmsNumbered base bound arms → AreArmsNumbered base bound others
      arms_numbers_stay no_arms bound are = tt
      arms_numbers_stay (one_more made rest) bound are = (numbers_stay made bound are.0, arms_numbers_stay rest bound are.1)

  -- ---- arms

  same_count : {arms others : CountedArms} → ArmsChange Fewer arms others → arm_count others ≡ arm_count arms
  same_count no_arms = refl
  same_count (one_more made rest) = ap suc (same_count rest)

  module _ (fewer : (x : ℕ) (code less : Counted) → Fewer x code less → HasArms code → HasArms less) where
    mutual
      pub arms_stay : {code less : Counted} → Changes Fewer code less → HasArms code → HasArms less
      arms_stay (gives x) has = tt
      arms_stay (calls f arguments) has = tt
      arms_stay (decides x decisions each) has =
          (subst (AreOrderly decisions) (sym (same_count each)) has.0, all_arms_stay each has.1)
      arms_stay (computes x form arguments after) has = arms_stay after has
      arms_stay (runs x made after) has = (arms_stay made has.0, arms_stay after has.1)
      arms_stay (reads x c fields after) has = arms_stay after has
      arms_stay (opens x c fields used after) has = arms_stay after has
      arms_stay (opens_by_count x c fields used after) has = arms_stay after has
      arms_stay (opens_unique x c fields used after) has = arms_stay after has
      arms_stay (dups x after) has = arms_stay after has
      arms_stay (dups_less x before less after gone) has = fewer x before less gone (arms_stay after has)
      arms_stay (drops x after) has = arms_stay after has

      all_arms_stay : {arms others : CountedArms} → ArmsChange Fewer arms others → HaveArms arms → HaveArms others
      all_arms_stay no_arms have = tt
      all_arms_stay (one_more made rest) have = (arms_stay made have.0, all_arms_stay rest have.1)

  -- ---- blocks inside

  module _ (fewer : (x : ℕ) (code less : Counted) → Fewer x code less → given_by less ≡ given_by code) where
    mutual
      same_given : {code less : Counted} → Changes Fewer code less → given_by less ≡ given_by code
      same_given (gives x) = refl
      same_given (calls f arguments) = refl
      same_given (decides x decisions each) = same_arms_given each
      same_given (computes x form arguments after) = same_given after
      same_given (runs x made after) = same_given after
      same_given (reads x c fields after) = same_given after
      same_given (opens x c fields used after) = same_given after
      same_given (opens_by_count x c fields used after) = same_given after
      same_given (opens_unique x c fields used after) = same_given after
      same_given (dups x after) = same_given after
      same_given (dups_less x before less after gone) = fewer x before less gone ∙ same_given after
      same_given (drops x after) = same_given after

      same_arms_given : {arms others : CountedArms} → ArmsChange Fewer arms others → given_by_arms others ≡ given_by_arms arms
      same_arms_given no_arms = refl
      same_arms_given (one_more made rest) = first_same _ _ _ _ (same_given made) (same_arms_given rest)
        where
          first_same : (a b c d : Option ℕ) → a ≡ b → c ≡ d → first_of a c ≡ first_of b d
          first_same a b c d one two = ap (λ o. first_of o c) one ∙ ap (first_of b) two

    module _ (stays : (x : ℕ) (code less : Counted) → Fewer x code less → BlocksGive code → BlocksGive less) where
      mutual
        pub blocks_stay : {code less : Counted} → Changes Fewer code less → BlocksGive code → BlocksGive less
        blocks_stay (gives x) give = tt
        blocks_stay (calls f arguments) give = tt
        blocks_stay (decides x decisions each) give = arms_blocks_stay each give
        blocks_stay (computes x form arguments after) give = blocks_stay after give
        blocks_stay (runs x made after) give =
            (give.0, (same_given made ∙ give.1.0, (blocks_stay made give.1.1.0, blocks_stay after give.1.1.1)))
        blocks_stay (reads x c fields after) give = blocks_stay after give
        blocks_stay (opens x c fields used after) give = blocks_stay after give
        blocks_stay (opens_by_count x c fields used after) give = blocks_stay after give
        blocks_stay (opens_unique x c fields used after) give = blocks_stay after give
        blocks_stay (dups x after) give = blocks_stay after give
        blocks_stay (dups_less x before less after gone) give = stays x before less gone (blocks_stay after give)
        blocks_stay (drops x after) give = blocks_stay after give

        arms_blocks_stay : {arms others : CountedArms} → ArmsChange Fewer arms others → BlocksOfArmsGive arms
            → BlocksOfArmsGive others
        arms_blocks_stay no_arms give = tt
        arms_blocks_stay (one_more made rest) give = (blocks_stay made give.0, arms_blocks_stay rest give.1)

  -- ---- arguments

  module _ (fewer : (x : ℕ) (code less : Counted) → Fewer x code less → HasArities code → HasArities less) where
    mutual
      pub arities_stay : {code less : Counted} → Changes Fewer code less → HasArities code → HasArities less
      arities_stay (gives x) has = tt
      arities_stay (calls f arguments) has = has
      arities_stay (decides x decisions each) has = arms_arities_stay each has
      arities_stay (computes x form arguments after) has = (has.0, arities_stay after has.1)
      arities_stay (runs x made after) has = (arities_stay made has.0, arities_stay after has.1)
      arities_stay (reads x c fields after) has = arities_stay after has
      arities_stay (opens x c fields used after) has = arities_stay after has
      arities_stay (opens_by_count x c fields used after) has = arities_stay after has
      arities_stay (opens_unique x c fields used after) has = arities_stay after has
      arities_stay (dups x after) has = arities_stay after has
      arities_stay (dups_less x before less after gone) has = fewer x before less gone (arities_stay after has)
      arities_stay (drops x after) has = arities_stay after has

      arms_arities_stay : {arms others : CountedArms} → ArmsChange Fewer arms others → HaveArities arms → HaveArities others
      arms_arities_stay no_arms have = tt
      arms_arities_stay (one_more made rest) have = (arities_stay made have.0, arms_arities_stay rest have.1)

  -- ---- what is spent

  still_one : {arms others : CountedArms} → ArmsChange Fewer arms others → HasAnArm arms → HasAnArm others
  still_one no_arms has = has
  still_one (one_more made rest) has = tt

  module _ (fewer : (x : ℕ) (code less : Counted) → Fewer x code less → EachHasAnArm code → EachHasAnArm less) where
    mutual
      pub some_arm_stays : {code less : Counted} → Changes Fewer code less → EachHasAnArm code → EachHasAnArm less
      some_arm_stays (gives x) has = tt
      some_arm_stays (calls f arguments) has = tt
      some_arm_stays (decides x decisions each) has = (still_one each has.0, some_arms_stay each has.1)
      some_arm_stays (computes x form arguments after) has = some_arm_stays after has
      some_arm_stays (runs x made after) has = (some_arm_stays made has.0, some_arm_stays after has.1)
      some_arm_stays (reads x c fields after) has = some_arm_stays after has
      some_arm_stays (opens x c fields used after) has = some_arm_stays after has
      some_arm_stays (opens_by_count x c fields used after) has = some_arm_stays after has
      some_arm_stays (opens_unique x c fields used after) has = some_arm_stays after has
      some_arm_stays (dups x after) has = some_arm_stays after has
      some_arm_stays (dups_less x before less after gone) has = fewer x before less gone (some_arm_stays after has)
      some_arm_stays (drops x after) has = some_arm_stays after has

      some_arms_stay : {arms others : CountedArms} → ArmsChange Fewer arms others → AllHaveAnArm arms → AllHaveAnArm others
      some_arms_stay no_arms have = tt
      some_arms_stay (one_more made rest) have = (some_arm_stays made have.0, some_arms_stay rest have.1)

  module _ (fewer : (x : ℕ) (code less : Counted) → Fewer x code less → (n : ℕ) → SpendsAtMost code n → SpendsAtMost less n) where
    mutual
      pub spends_as_little : {code less : Counted} → Changes Fewer code less → (n : ℕ) → SpendsAtMost code n
          → SpendsAtMost less n
      spends_as_little (gives x) n most = most
      spends_as_little (calls f arguments) n most = most
      spends_as_little (decides x decisions each) n most = (still_one each most.0, spend_as_little each n most.1)
      spends_as_little (computes x form arguments after) n most =
          (most.0, (most.1.0, spends_as_little after most.0 most.1.1))
      spends_as_little (runs x made after) n most = (
        most.0,
        (
          most.1.0,
          (most.1.1.0, (spends_as_little made most.0 most.1.1.1.0, spends_as_little after most.1.0 most.1.1.1.1)),
        ),
      )
      spends_as_little (reads x c fields after) n most = spends_as_little after n most
      spends_as_little (opens x c fields used after) n most = (most.0, (most.1.0, spends_as_little after most.0 most.1.1))
      spends_as_little (opens_by_count x c fields used after) n most =
          (most.0, (most.1.0, spends_as_little after most.0 most.1.1))
      spends_as_little (opens_unique x c fields used after) n most =
          (most.0, (most.1.0, spends_as_little after most.0 most.1.1))
      spends_as_little (dups x after) n most = spends_as_little after n most
      spends_as_little (dups_less x before less after gone) n most = fewer x before less gone n (spends_as_little after n most)
      spends_as_little (drops x after) n most = (most.0, (most.1.0, spends_as_little after most.0 most.1.1))

      spend_as_little : {arms others : CountedArms} → ArmsChange Fewer arms others → (n : ℕ) → SpendAtMost arms n
          → SpendAtMost others n
      spend_as_little no_arms n most = tt
      spend_as_little (one_more made rest) n most = (spends_as_little made n most.0, spend_as_little rest n most.1)

-- ---- functions

-- what a dup that is gone leaves, where it leaves something
pub record Leaves (Fewer : ℕ → Counted → Counted → Type 0) : Type 0 where
  pub marks : (marks : CellMarks) (holds : ℕ → Bool) (result : Bool) (x : ℕ) (code less : Counted) → Fewer x code less
      → (bound : List ℕ) (given : Bool) → HasMark marks holds result bound given code
      → HasMark marks holds result bound given less
  pub numbers : (base x : ℕ) (code less : Counted) → Fewer x code less → (bound : List ℕ) → AreNumbered base bound code
      → AreNumbered base bound less
  pub arms : (x : ℕ) (code less : Counted) → Fewer x code less → HasArms code → HasArms less
  pub given : (x : ℕ) (code less : Counted) → Fewer x code less → given_by less ≡ given_by code
  pub blocks : (x : ℕ) (code less : Counted) → Fewer x code less → BlocksGive code → BlocksGive less
  pub arities : (x : ℕ) (code less : Counted) → Fewer x code less → HasArities code → HasArities less
  pub some_arm : (x : ℕ) (code less : Counted) → Fewer x code less → EachHasAnArm code → EachHasAnArm less
  pub spends : (x : ℕ) (code less : Counted) → Fewer x code less → (n : ℕ) → SpendsAtMost code n → SpendsAtMost less n

module _ (Fewer : ℕ → Counted → Counted → Type 0) (leaves : Leaves Fewer) (change : Counted → Counted)
    (changes : (code : Counted) → Changes Fewer code (change code)) where
  -- a changed function is marked where the function is
  pub changed_marked : (marks : CellMarks) (holds : ℕ → Bool) (f : ℕ) (function : CountedFunction)
      → IsMarked marks holds f function → IsMarked marks holds f (changed_function change function)
  changed_marked marks holds f function marked =
      record {
        parameters_marked = marked.parameters_marked;
        body_marked =
            marks_stay Fewer marks holds (result_mark marks f) (leaves.marks marks holds (result_mark marks f))
            (changes function.body) _ (result_mark marks f) marked.body_marked;
      }

  -- it can be lowered where the function can
  changed_is : (table : CellMarks) (f : ℕ) (function : CountedFunction) → IsLowerable table f function
      → IsLowerable table f (changed_function change function)
  changed_is table f function lowerable =
      record {
        holds = lowerable.holds;
        base = lowerable.base;
        few = lowerable.few;
        few_parameters = lowerable.few_parameters;
        marked = changed_marked table lowerable.holds f function lowerable.marked;
        numbered =
            numbers_stay Fewer lowerable.base (leaves.numbers lowerable.base) (changes function.body) _ lowerable.numbered;
        parameters_below = lowerable.parameters_below;
        arms = arms_stay Fewer leaves.arms (changes function.body) lowerable.arms;
        some_arm = some_arm_stays Fewer leaves.some_arm (changes function.body) lowerable.some_arm;
        gives = blocks_stay Fewer leaves.given leaves.blocks (changes function.body) lowerable.gives;
        arities = arities_stay Fewer leaves.arities (changes function.body) lowerable.arities;
      }

  pub changed_are : (table : CellMarks) (functions : List CountedFunction) → AreLowerable table functions
      → AreLowerable table (map (changed_function change) functions)
  changed_are table functions each f function there =
      let before = found_before change functions f function there in
      subst (IsLowerable table f) before.1.1 (changed_is table f before.0 (each f before.0 before.1.0))

  -- a changed program spends as little
  pub changed_spends : (program : CountedProgram) (n : ℕ) → AllSpendAtMost program n
      → AllSpendAtMost (changed_program change program) n
  changed_spends program n each f function there =
      let before = found_before change program.functions f function there in
      subst (λ (one : CountedFunction). SpendsAtMost one.body n) before.1.1
      (spends_as_little Fewer leaves.spends (changes before.0.body) n (each f before.0 before.1.0))

-- ---- specialised code

never_leaves : Leaves Never
never_leaves =
    record {
      marks = λ marks holds result x code less none. absurd none;
      numbers = λ base x code less none. absurd none;
      arms = λ x code less none. absurd none;
      given = λ x code less none. absurd none;
      blocks = λ x code less none. absurd none;
      arities = λ x code less none. absurd none;
      some_arm = λ x code less none. absurd none;
      spends = λ x code less none. absurd none;
    }

pub special_has_arms : (code : Counted) → HasArms code → HasArms (special code)
special_has_arms code = arms_stay Never never_leaves.arms (special_changes code)

pub special_marked : (marks : CellMarks) (holds : ℕ → Bool) (f : ℕ) (function : CountedFunction) → IsMarked marks holds f function
    → IsMarked marks holds f (special_function function)
special_marked = changed_marked Never never_leaves special special_changes

pub specials_are : (table : CellMarks) (functions : List CountedFunction) → AreLowerable table functions
    → AreLowerable table (map special_function functions)
specials_are = changed_are Never never_leaves special special_changes

pub special_spends : (program : CountedProgram) (n : ℕ) → AllSpendAtMost program n → AllSpendAtMost (special_program program) n
special_spends = changed_spends Never never_leaves special special_changes

-- and have no more variables
pub special_variables : (most : ℕ) (functions : List CountedFunction) → AllHaveVariablesBelow most functions
    → AllHaveVariablesBelow most (map special_function functions)
special_variables most functions each f function there =
    let before = found_before special functions f function there in
    let own = each f before.0 before.1.0 in
    subst (HasVariablesBelow most) before.1.1
    (record {
      parameters = own.parameters;
      numbered = numbers_stay Never most (never_leaves.numbers most) (special_changes before.0.body)
          (numbers_from 0 before.0.parameters) own.numbered;
    })
