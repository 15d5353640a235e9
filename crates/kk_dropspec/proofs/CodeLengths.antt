-- Changed code is no longer than the code that it is made of, and has as many forms on values, and beside dups and drops.
use Rattle.std.proofs.Common.{◌≡◌, ◌≤◌, ℕ, suc, List, [], ◌∷◌, map, arith, refl, ap, ◌∙◌}
use Rattle.kk_counted.specs.CountedCodes.{Counted, CountedArms, CountedFunction}
use Rattle.kk_counted.specs.Lengths.{code_length, arms_length, functions_length, computes as computes_in, arms_computes}
use Rattle.kk_counted.specs.Lengths.{all_computes, forms_in, arms_forms, all_forms_in, AreShort}
use Rattle.kk_dropspec.specs.Changed.{changed_function}
use Rattle.kk_dropspec.specs.Specialised.{special, special_function}
use Rattle.kk_dropspec.proofs.CodeChanges.{Changes, gives, calls, decides, computes, runs, reads, opens, opens_by_count}
use Rattle.kk_dropspec.proofs.CodeChanges.{opens_unique, dups, dups_less, drops, ArmsChange, no_arms, one_more, Never}
use Rattle.kk_dropspec.proofs.CodeChanges.{special_changes}

-- what a dup that is gone leaves is no longer, and has as many forms
pub record LeavesShort (Fewer : ℕ → Counted → Counted → Type 0) : Type 0 where
  pub no_more : (x : ℕ) (code less : Counted) → Fewer x code less → code_length less ≤ code_length code
  pub values : (x : ℕ) (code less : Counted) → Fewer x code less → computes_in less ≡ computes_in code
  pub others : (x : ℕ) (code less : Counted) → Fewer x code less → forms_in less ≡ forms_in code

module _ (Fewer : ℕ → Counted → Counted → Type 0) (leaves : LeavesShort Fewer) where
  mutual
    no_longer : {code less : Counted} → Changes Fewer code less → code_length less ≤ code_length code
    no_longer (gives x) = omega arith
    no_longer (calls f arguments) = omega arith
    no_longer (decides x decisions each) = let all = arms_no_longer each in omega (arith, all)
    no_longer (computes x form arguments after) = let later = no_longer after in omega (arith, later)
    no_longer (runs x made after) = let one = no_longer made in let two = no_longer after in omega (arith, one, two)
    no_longer (reads x c fields after) = let later = no_longer after in omega (arith, later)
    no_longer (opens x c fields used after) = let later = no_longer after in omega (arith, later)
    no_longer (opens_by_count x c fields used after) = let later = no_longer after in omega (arith, later)
    no_longer (opens_unique x c fields used after) = let later = no_longer after in omega (arith, later)
    no_longer (dups x after) = let later = no_longer after in omega (arith, later)
    no_longer (dups_less x before less after gone) =
        let later = no_longer after in let fewer = leaves.no_more x before less gone in omega (arith, later, fewer)
    no_longer (drops x after) = let later = no_longer after in omega (arith, later)

    arms_no_longer : {arms others : CountedArms} → ArmsChange Fewer arms others → arms_length others ≤ arms_length arms
    arms_no_longer no_arms = omega arith
    arms_no_longer (one_more made rest) =
        let one = no_longer made in let two = arms_no_longer rest in omega (arith, one, two)

  mutual
    same_computes : {code less : Counted} → Changes Fewer code less → computes_in less ≡ computes_in code
    same_computes (gives x) = refl
    same_computes (calls f arguments) = refl
    same_computes (decides x decisions each) = same_arms_compute each
    same_computes (computes x form arguments after) = ap suc (same_computes after)
    same_computes (runs x made after) = let one = same_computes made in let two = same_computes after in omega (arith, one, two)
    same_computes (reads x c fields after) = same_computes after
    same_computes (opens x c fields used after) = same_computes after
    same_computes (opens_by_count x c fields used after) = same_computes after
    same_computes (opens_unique x c fields used after) = same_computes after
    same_computes (dups x after) = same_computes after
    same_computes (dups_less x before less after gone) = leaves.values x before less gone ∙ same_computes after
    same_computes (drops x after) = same_computes after

    same_arms_compute : {arms others : CountedArms} → ArmsChange Fewer arms others → arms_computes others ≡ arms_computes arms
    same_arms_compute no_arms = refl
    same_arms_compute (one_more made rest) =
        let one = same_computes made in let two = same_arms_compute rest in omega (arith, one, two)

  mutual
    same_forms : {code less : Counted} → Changes Fewer code less → forms_in less ≡ forms_in code
    same_forms (gives x) = refl
    same_forms (calls f arguments) = refl
    same_forms (decides x decisions each) = ap suc (same_arms_forms each)
    same_forms (computes x form arguments after) = ap suc (same_forms after)
    same_forms (runs x made after) = let one = same_forms made in let two = same_forms after in omega (arith, one, two)
    same_forms (reads x c fields after) = ap suc (same_forms after)
    same_forms (opens x c fields used after) = ap suc (same_forms after)
    same_forms (opens_by_count x c fields used after) = ap suc (same_forms after)
    same_forms (opens_unique x c fields used after) = ap suc (same_forms after)
    same_forms (dups x after) = same_forms after
    same_forms (dups_less x before less after gone) = leaves.others x before less gone ∙ same_forms after
    same_forms (drops x after) = same_forms after

    same_arms_forms : {arms others : CountedArms} → ArmsChange Fewer arms others → arms_forms others ≡ arms_forms arms
    same_arms_forms no_arms = refl
    same_arms_forms (one_more made rest) =
        let one = same_forms made in let two = same_arms_forms rest in omega (arith, one, two)

  -- ---- all functions

  module _ (change : Counted → Counted) (changes : (code : Counted) → Changes Fewer code (change code)) where
    all_length : (functions : List CountedFunction)
        → functions_length (map (changed_function change) functions) ≤ functions_length functions
    all_length [] = omega arith
    all_length (function ∷ functions) =
        let one = no_longer (changes function.body) in let later = all_length functions in omega (arith, one, later)

    all_compute : (functions : List CountedFunction)
        → all_computes (map (changed_function change) functions) ≡ all_computes functions
    all_compute [] = refl
    all_compute (function ∷ functions) =
        let one = same_computes (changes function.body) in let later = all_compute functions in omega (arith, one, later)

    all_forms : (functions : List CountedFunction)
        → all_forms_in (map (changed_function change) functions) ≡ all_forms_in functions
    all_forms [] = refl
    all_forms (function ∷ functions) =
        let one = same_forms (changes function.body) in let later = all_forms functions in omega (arith, one, later)

    -- changed functions are short where the functions are
    pub changed_short : (functions : List CountedFunction) → AreShort functions
        → AreShort (map (changed_function change) functions)
    changed_short functions short =
        let long = all_length functions in
        let many = all_compute functions in
        let most = short.length in
        let few = short.computes in
        let same = all_forms functions in
        let forms = short.forms in
        record { length = omega (arith, long, most); computes = omega (arith, many, few); forms = omega (arith, same, forms) }

pub special_short : (functions : List CountedFunction) → AreShort functions → AreShort (map special_function functions)
special_short =
    changed_short Never (record {
      no_more = λ x code less none. absurd none;
      values = λ x code less none. absurd none;
      others = λ x code less none. absurd none;
    }) special special_changes
