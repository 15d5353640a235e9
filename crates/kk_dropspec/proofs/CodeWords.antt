-- Changed code takes no more words than the code that it is made of, its tokens take as many, and it ends as well.
use Rattle.std.proofs.Common.{◌≡◌, ◌≤◌, ℕ, suc, ◌+◌, ◌-◌, ◌*◌, ◌==◌, Bool, true, arith, refl, ap, ◌∙◌}
use Rattle.std.specs.Prelude.{if◌then◌else◌}
use Rattle.kk_counted.specs.BlockEnds.{HasAnArm, EndsWell, ArmsEndWell}
use Rattle.kk_counted.specs.CountedCodes.{Counted, CountedArms}
use Rattle.kk_counted.specs.TokenCosts.{openings}
use Rattle.kk_counted.specs.TokenWords.{code_words, arms_words, branch_ends, arms_ends, lacking, arms_lacking}
use Rattle.kk_counted.specs.TokenWords.{holds_tokens, token_words, arms_token_words}
use Rattle.kk_dropspec.proofs.CodeChanges.{Changes, gives, calls, decides, computes, runs, reads, opens, opens_by_count}
use Rattle.kk_dropspec.proofs.CodeChanges.{opens_unique, dups, dups_less, drops, ArmsChange, no_arms, one_more}
use Rattle.kk_dropspec.proofs.Openings.{same_openings}

-- what a dup that is gone leaves takes no more words, its tokens take as many, and it ends as well
pub record LeavesWords (Fewer : ℕ → Counted → Counted → Type 0) : Type 0 where
  pub words : (x : ℕ) (code less : Counted) → Fewer x code less → code_words less ≤ code_words code
  pub opening : (x : ℕ) (code less : Counted) → Fewer x code less → openings less ≡ openings code
  pub branches : (x : ℕ) (code less : Counted) → Fewer x code less → branch_ends less ≡ branch_ends code
  pub lacks : (more x : ℕ) (code less : Counted) → Fewer x code less → lacking more less ≡ lacking more code
  pub tokens : (tokens x : ℕ) (code less : Counted) → Fewer x code less → token_words tokens less ≡ token_words tokens code
  pub ends : (inner : Bool) (x : ℕ) (code less : Counted) → Fewer x code less → EndsWell inner code → EndsWell inner less

-- sums and differences of equal numbers are equal, and so is what a test of equal numbers chooses
both : {a b c d : ℕ} → a ≡ b → c ≡ d → a + c ≡ b + d
both one two = cc

apart : {a b c d : ℕ} → a ≡ b → c ≡ d → a - c ≡ b - d
apart one two = cc

either : {a b c d e f : ℕ} → a ≡ b → c ≡ d → e ≡ f → (if a == 0 then c else e) ≡ (if b == 0 then d else f)
either one two three = cc

module _ (Fewer : ℕ → Counted → Counted → Type 0) (leaves : LeavesWords Fewer) where
  mutual
    pub words_fall : {code less : Counted} → Changes Fewer code less → code_words less ≤ code_words code
    words_fall (gives x) = omega arith
    words_fall (calls f arguments) = omega arith
    words_fall (decides x decisions each) = let all = arms_words_fall each in omega (arith, all)
    words_fall (computes x form arguments after) = let later = words_fall after in omega (arith, later)
    words_fall (runs x made after) = let one = words_fall made in let two = words_fall after in omega (arith, one, two)
    words_fall (reads x c fields after) = let later = words_fall after in omega (arith, later)
    words_fall (opens x c fields used after) = let later = words_fall after in omega (arith, later)
    words_fall (opens_by_count x c fields used after) = let later = words_fall after in omega (arith, later)
    words_fall (opens_unique x c fields used after) = let later = words_fall after in omega (arith, later)
    words_fall (dups x after) = let later = words_fall after in omega (arith, later)
    words_fall (dups_less x before less after gone) =
        let later = words_fall after in let fewer = leaves.words x before less gone in omega (arith, later, fewer)
    words_fall (drops x after) = let later = words_fall after in omega (arith, later)

    arms_words_fall : {arms others : CountedArms} → ArmsChange Fewer arms others → arms_words others ≤ arms_words arms
    arms_words_fall no_arms = omega arith
    arms_words_fall (one_more made rest) =
        let one = words_fall made in let two = arms_words_fall rest in omega (arith, one, two)

  -- ---- tokens

  opening_too : {code less : Counted} → Changes Fewer code less → openings less ≡ openings code
  opening_too = same_openings Fewer leaves.opening

  mutual
    same_branches : {code less : Counted} → Changes Fewer code less → branch_ends less ≡ branch_ends code
    same_branches (gives x) = refl
    same_branches (calls f arguments) = refl
    same_branches (decides x decisions each) = same_arms_branches each
    same_branches (computes x form arguments after) = same_branches after
    same_branches (runs x made after) = same_branches after
    same_branches (reads x c fields after) = same_branches after
    same_branches (opens x c fields used after) = same_branches after
    same_branches (opens_by_count x c fields used after) = same_branches after
    same_branches (opens_unique x c fields used after) = same_branches after
    same_branches (dups x after) = same_branches after
    same_branches (dups_less x before less after gone) = leaves.branches x before less gone ∙ same_branches after
    same_branches (drops x after) = same_branches after

    same_arms_branches : {arms others : CountedArms} → ArmsChange Fewer arms others → arms_ends others ≡ arms_ends arms
    same_arms_branches no_arms = refl
    same_arms_branches (one_more made rest) =
        let one = same_branches made in let two = same_arms_branches rest in omega (arith, one, two)

  -- for equal numbers
  mutual
    same_lacking : {code less : Counted} {more other : ℕ} → Changes Fewer code less → more ≡ other
        → lacking more less ≡ lacking other code
    same_lacking (gives x) is = refl
    same_lacking (calls f arguments) is = refl
    same_lacking (decides x decisions each) is = same_arms_lacking each is
    same_lacking (computes x form arguments after) is = same_lacking after is
    same_lacking (runs x made after) is = same_lacking after (apart is (opening_too made))
    same_lacking (reads x c fields after) is = same_lacking after is
    same_lacking (opens x c fields used after) is = same_lacking after (ap (λ n. n - 1) is)
    same_lacking (opens_by_count x c fields used after) is = same_lacking after (ap (λ n. n - 1) is)
    same_lacking (opens_unique x c fields used after) is = same_lacking after (ap (λ n. n - 1) is)
    same_lacking (dups x after) is = same_lacking after is
    same_lacking (dups_less x before less after gone) is = leaves.lacks _ x before less gone ∙ same_lacking after is
    same_lacking (drops x after) is = same_lacking after is

    same_arms_lacking : {arms others : CountedArms} {more other : ℕ} → ArmsChange Fewer arms others → more ≡ other
        → arms_lacking more others ≡ arms_lacking other arms
    same_arms_lacking no_arms is = refl
    same_arms_lacking (one_more made rest) is =
        both (either (same_branches made) is (same_lacking made is)) (same_arms_lacking rest is)

  mutual
    same_tokens : {code less : Counted} {tokens other : ℕ} → Changes Fewer code less → tokens ≡ other
        → token_words tokens less ≡ token_words other code
    same_tokens (gives x) is = refl
    same_tokens (calls f arguments) is = refl
    same_tokens (decides x decisions each) is = same_arms_tokens each is
    same_tokens (computes x form arguments after) is =
        both (ap (λ n. if holds_tokens form arguments then 11 * n else 0) is) (same_tokens after is)
    same_tokens (runs x made after) is =
        both
        (both (same_tokens made is) (ap (λ n. 4 * n) (same_lacking made (opening_too made))))
        (same_tokens after (both is (opening_too made)))
    same_tokens (reads x c fields after) is = same_tokens after is
    same_tokens (opens x c fields used after) is = same_tokens after (ap suc is)
    same_tokens (opens_by_count x c fields used after) is = same_tokens after (ap suc is)
    same_tokens (opens_unique x c fields used after) is = same_tokens after (ap suc is)
    same_tokens (dups x after) is = same_tokens after is
    same_tokens (dups_less x before less after gone) is = leaves.tokens _ x before less gone ∙ same_tokens after is
    same_tokens (drops x after) is = same_tokens after is

    same_arms_tokens : {arms others : CountedArms} {tokens other : ℕ} → ArmsChange Fewer arms others → tokens ≡ other
        → arms_token_words tokens others ≡ arms_token_words other arms
    same_arms_tokens no_arms is = refl
    same_arms_tokens (one_more made rest) is =
        both (both (ap (λ n. 5 * n) is) (same_tokens made is)) (same_arms_tokens rest is)

  pub tokens_stay : {code less : Counted} → Changes Fewer code less → (tokens : ℕ)
      → token_words tokens less ≡ token_words tokens code
  tokens_stay changed tokens = same_tokens changed refl

  -- ---- ends

  some_arm_too : {arms others : CountedArms} → ArmsChange Fewer arms others → HasAnArm arms → HasAnArm others
  some_arm_too no_arms has = has
  some_arm_too (one_more made rest) has = tt

  mutual
    pub ends_stay : {code less : Counted} → Changes Fewer code less → (inner : Bool) → EndsWell inner code
        → EndsWell inner less
    ends_stay (gives x) inner well = tt
    ends_stay (calls f arguments) inner well = well
    ends_stay (decides x decisions each) inner well = (some_arm_too each well.0, arms_ends_stay each inner well.1)
    ends_stay (computes x form arguments after) inner well = ends_stay after inner well
    ends_stay (runs x made after) inner well = (ends_stay made true well.0, ends_stay after inner well.1)
    ends_stay (reads x c fields after) inner well = ends_stay after inner well
    ends_stay (opens x c fields used after) inner well = ends_stay after inner well
    ends_stay (opens_by_count x c fields used after) inner well = ends_stay after inner well
    ends_stay (opens_unique x c fields used after) inner well = ends_stay after inner well
    ends_stay (dups x after) inner well = ends_stay after inner well
    ends_stay (dups_less x before less after gone) inner well =
        leaves.ends inner x before less gone (ends_stay after inner well)
    ends_stay (drops x after) inner well = ends_stay after inner well

    arms_ends_stay : {arms others : CountedArms} → ArmsChange Fewer arms others → (inner : Bool) → ArmsEndWell inner arms
        → ArmsEndWell inner others
    arms_ends_stay no_arms inner well = tt
    arms_ends_stay (one_more made rest) inner well = (ends_stay made inner well.0, arms_ends_stay rest inner well.1)
