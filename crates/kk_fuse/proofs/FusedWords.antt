-- Fused code takes no more words than the code that it is made of, its tokens take as many, and it ends as well.
use Rattle.std.proofs.Common.{◌≡◌, ◌≤◌, ℕ, ◌+◌, Bool, Some, arith, refl}
use Rattle.kk_counted.specs.BlockEnds.{EndsWell}
use Rattle.kk_counted.specs.CountedCodes.{Counted}
use Rattle.kk_counted.specs.TokenWords.{code_words, branch_ends, lacking, token_words}
use Rattle.kk_dropspec.proofs.CodeWords.{LeavesWords, words_fall, tokens_stay, ends_stay}
use Rattle.kk_fuse.specs.Fused.{without_drop, fuse}
use Rattle.kk_fuse.proofs.DropRemoval.{by_without, Without, fuse_changes}
use Rattle.kk_fuse.proofs.Openings.{less_openings}

-- the code without a drop takes no more words
less_words : (x : ℕ) (code less : Counted) → without_drop x code ≡ Some less → code_words less ≤ code_words code
less_words x =
    by_without x (λ code less. code_words less ≤ code_words code) (λ rest. omega arith)
    (λ y rest less apart later. omega (arith, later)) (λ y rest less apart later. omega (arith, later))
    (λ y c fields rest less apart named later. omega (arith, later))
    (λ y form arguments rest less apart named plain later. omega (arith, later))

-- as many of its ends come behind a case
less_branches : (x : ℕ) (code less : Counted) → without_drop x code ≡ Some less → branch_ends less ≡ branch_ends code
less_branches x =
    by_without x (λ code less. branch_ends less ≡ branch_ends code) (λ rest. refl) (λ y rest less apart later. later)
    (λ y rest less apart later. later) (λ y c fields rest less apart named later. later)
    (λ y form arguments rest less apart named plain later. later)

-- they lack as many tokens
less_lacking : (more x : ℕ) (code less : Counted) → without_drop x code ≡ Some less → lacking more less ≡ lacking more code
less_lacking more x =
    by_without x (λ code less. lacking more less ≡ lacking more code) (λ rest. refl) (λ y rest less apart later. later)
    (λ y rest less apart later. later) (λ y c fields rest less apart named later. later)
    (λ y form arguments rest less apart named plain later. later)

-- its tokens take as many words
less_tokens : (tokens x : ℕ) (code less : Counted) → without_drop x code ≡ Some less
    → token_words tokens less ≡ token_words tokens code
less_tokens tokens x =
    by_without x (λ code less. token_words tokens less ≡ token_words tokens code) (λ rest. refl)
    (λ y rest less apart later. later) (λ y rest less apart later. later) (λ y c fields rest less apart named later. later)
    (λ y form arguments rest less apart named plain later. omega (arith, later))

-- it ends as well
less_ends : (inner : Bool) (x : ℕ) (code less : Counted) → without_drop x code ≡ Some less → EndsWell inner code
    → EndsWell inner less
less_ends inner x =
    by_without x (λ code less. EndsWell inner code → EndsWell inner less) (λ rest well. well)
    (λ y rest less apart later well. later well) (λ y rest less apart later well. later well)
    (λ y c fields rest less apart named later well. later well)
    (λ y form arguments rest less apart named plain later well. later well)

-- ---- fused code

leaves : LeavesWords Without
leaves =
    record {
      words = less_words;
      opening = less_openings;
      branches = less_branches;
      lacks = less_lacking;
      tokens = less_tokens;
      ends = less_ends;
    }

-- fused code takes no more words, with those for its tokens
pub fused_words : (tokens : ℕ) (code : Counted)
    → code_words (fuse code) + token_words tokens (fuse code) ≤ code_words code + token_words tokens code
fused_words tokens code =
    let one = words_fall Without leaves (fuse_changes code) in
    let two = tokens_stay Without leaves (fuse_changes code) tokens in
    omega (arith, one, two)

-- and it ends as well
pub fused_ends : (inner : Bool) (code : Counted) → EndsWell inner code → EndsWell inner (fuse code)
fused_ends inner code = ends_stay Without leaves (fuse_changes code) inner
