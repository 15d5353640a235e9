-- Changed code has as many openings on a path as the code that it is made of, and each of specialised code goes by the count of the
-- cell.
use Rattle.std.proofs.Common.{◌≡◌, ℕ, suc, ◌≤◌, List, map, refl, ap, ◌∙◌, subst, arith}
use Rattle.kk_counted.specs.CountedCodes.{Counted, give, tail_call, case, compute, inside, read, open_cell, if_unique, dup, drop}
use Rattle.kk_counted.specs.CountedCodes.{CountedArms, no_arm, arm, CountedFunction, CountedProgram}
use Rattle.kk_counted.specs.Lowerable.{OpensByCount, OpenByCount, AllOpenByCount}
use Rattle.kk_counted.specs.TokenCosts.{openings, openings_of, OpenAtMost}
use Rattle.kk_dropspec.specs.Changed.{changed_program}
use Rattle.kk_dropspec.specs.Specialised.{special, special_arms, special_function, special_program}
use Rattle.kk_dropspec.proofs.CodeChanges.{Changes, gives, calls, decides, computes, runs, reads, opens, opens_by_count}
use Rattle.kk_dropspec.proofs.CodeChanges.{opens_unique, dups, dups_less, drops, ArmsChange, no_arms, one_more, Never}
use Rattle.kk_dropspec.proofs.CodeChanges.{special_changes}
use Rattle.kk_dropspec.proofs.ChangedFunctions.{found_before}

module _ (Fewer : ℕ → Counted → Counted → Type 0)
    (fewer : (x : ℕ) (code less : Counted) → Fewer x code less → openings less ≡ openings code) where
  mutual
    pub same_openings : {code less : Counted} → Changes Fewer code less → openings less ≡ openings code
    same_openings (gives x) = refl
    same_openings (calls f arguments) = refl
    same_openings (decides x decisions each) = same_arms_openings each
    same_openings (computes x form arguments after) = same_openings after
    same_openings (runs x made after) = let one = same_openings made in let two = same_openings after in omega (arith, one, two)
    same_openings (reads x c fields after) = same_openings after
    same_openings (opens x c fields used after) = ap suc (same_openings after)
    same_openings (opens_by_count x c fields used after) = ap suc (same_openings after)
    same_openings (opens_unique x c fields used after) = ap suc (same_openings after)
    same_openings (dups x after) = same_openings after
    same_openings (dups_less x before less after gone) = fewer x before less gone ∙ same_openings after
    same_openings (drops x after) = same_openings after

    same_arms_openings : {arms others : CountedArms} → ArmsChange Fewer arms others → openings_of others ≡ openings_of arms
    same_arms_openings no_arms = refl
    same_arms_openings (one_more made rest) =
        let one = same_openings made in let two = same_arms_openings rest in omega (arith, one, two)

  -- a changed program has no more openings
  pub changed_opens : (change : Counted → Counted) → ((code : Counted) → Changes Fewer code (change code)) → (most : ℕ)
      (program : CountedProgram) → OpenAtMost most program → OpenAtMost most (changed_program change program)
  changed_opens change changes most program few f function is =
      let before = found_before change program.functions f function is in
      subst (λ (one : CountedFunction). openings one.body ≤ most) before.1.1
      (let same = same_openings (changes before.0.body) in let less = few f before.0 before.1.0 in omega (arith, same, less))

pub special_opens : (most : ℕ) (program : CountedProgram) → OpenAtMost most program → OpenAtMost most (special_program program)
special_opens = changed_opens Never (λ x code less none. absurd none) special special_changes

mutual
  by_count : (code : Counted) → OpensByCount (special code)
  by_count (give x) = tt
  by_count (tail_call f arguments) = tt
  by_count (case x decisions arms) = arms_by_count arms
  by_count (compute x form arguments rest) = by_count rest
  by_count (inside x block rest) = (by_count block, by_count rest)
  by_count (read x c fields rest) = by_count rest
  by_count (open_cell x c fields used rest) = by_count rest
  by_count (if_unique x c fields used rest) = by_count rest
  by_count (dup x rest) = by_count rest
  by_count (drop x rest) = by_count rest

  arms_by_count : (arms : CountedArms) → OpenByCount (special_arms arms)
  arms_by_count no_arm = tt
  arms_by_count (arm body rest) = (by_count body, arms_by_count rest)

pub all_by_count : (functions : List CountedFunction) → AllOpenByCount (map special_function functions)
all_by_count functions f function is =
    let before = found_before special functions f function is in
    subst (λ (one : CountedFunction). OpensByCount one.body) before.1.1 (by_count before.0.body)
