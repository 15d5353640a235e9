-- Specialised code takes as many words as the code that it is made of, its tokens do, and it ends as well.
use Rattle.std.proofs.Common.{◌≡◌, ℕ, ◌+◌, Bool, arith, refl}
use Rattle.kk_counted.specs.BlockEnds.{EndsWell}
use Rattle.kk_counted.specs.CountedCodes.{Counted, give, tail_call, case, compute, inside, read, open_cell, if_unique, dup, drop}
use Rattle.kk_counted.specs.CountedCodes.{CountedArms, no_arm, arm}
use Rattle.kk_counted.specs.TokenWords.{code_words, arms_words, token_words}
use Rattle.kk_dropspec.specs.Specialised.{special, special_arms}
use Rattle.kk_dropspec.proofs.CodeChanges.{Never, special_changes}
use Rattle.kk_dropspec.proofs.CodeWords.{LeavesWords, tokens_stay, ends_stay}

-- an opening takes as many words by either way
mutual
  same_words : (code : Counted) → code_words (special code) ≡ code_words code
  same_words (give x) = refl
  same_words (tail_call f arguments) = refl
  same_words (case x decisions arms) = let each = same_arms_words arms in omega (arith, each)
  same_words (compute x form arguments rest) = let later = same_words rest in omega (arith, later)
  same_words (inside x block rest) = let one = same_words block in let two = same_words rest in omega (arith, one, two)
  same_words (read x c fields rest) = let later = same_words rest in omega (arith, later)
  same_words (open_cell x c fields used rest) = let later = same_words rest in omega (arith, later)
  same_words (if_unique x c fields used rest) = let later = same_words rest in omega (arith, later)
  same_words (dup x rest) = let later = same_words rest in omega (arith, later)
  same_words (drop x rest) = let later = same_words rest in omega (arith, later)

  same_arms_words : (arms : CountedArms) → arms_words (special_arms arms) ≡ arms_words arms
  same_arms_words no_arm = refl
  same_arms_words (arm body rest) = let one = same_words body in let two = same_arms_words rest in omega (arith, one, two)

-- no dup is gone
leaves_none : LeavesWords Never
leaves_none =
    record {
      words = λ x code less none. absurd none;
      opening = λ x code less none. absurd none;
      branches = λ x code less none. absurd none;
      lacks = λ more x code less none. absurd none;
      tokens = λ tokens x code less none. absurd none;
      ends = λ inner x code less none. absurd none;
    }

-- specialised code takes as many words, with those for its tokens
pub special_words : (tokens : ℕ) (code : Counted)
    → code_words (special code) + token_words tokens (special code) ≡ code_words code + token_words tokens code
special_words tokens code =
    let one = same_words code in
    let two = tokens_stay Never leaves_none (special_changes code) tokens in
    omega (arith, one, two)

-- and it ends as well
pub special_ends : (inner : Bool) (code : Counted) → EndsWell inner code → EndsWell inner (special code)
special_ends inner code = ends_stay Never leaves_none (special_changes code) inner
