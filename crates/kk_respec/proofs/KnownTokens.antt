-- What is known of tokens as Rust changes it.
use Rattle.std.proofs.Common.{◌≡◌, ◌≤◌, ◌+◌, ◌++◌, ℕ, Bool, true, false, List, [], ◌∷◌, map, length, drop, append-nil, refl, sym, ap, ◌∙◌, arith}
use Rattle.std.specs.Prelude.{if◌then◌else◌, filter, min, nat_le}
use Rattle.std.proofs.Math.ListN.{drop_of_length-le}
use Rattle.kk_counted.specs.KeptFields.{KnownFields}
use Rattle.kk_respec.specs.KnownTokens.{known_of}
use Rattle.kk_respec.specs.Respecialised.{kept_from}
use Rattle.kk_respec.specs.declared.known.KnownToken.{KnownToken}

-- those that pass a test of what they say
pub filtered_known : (test : KnownFields → Bool) (known : List KnownToken)
    → map known_of (filter (λ one. test (known_of one)) known) ≡ filter test (map known_of known)
filtered_known test [] = refl
filtered_known test (one ∷ known) = by_test (test (known_of one)) (filtered_known test known)
  where
    by_test : (t : Bool) → map known_of (filter (λ one. test (known_of one)) known) ≡ filter test (map known_of known)
        → map known_of (if t then one ∷ filter (λ one. test (known_of one)) known else filter (λ one. test (known_of one)) known)
        ≡ (if t then known_of one ∷ filter test (map known_of known) else filter test (map known_of known))
    by_test true rest = ap (λ (others : List KnownFields). known_of one ∷ others) rest
    by_test false rest = rest

-- ---- positions

no_argument : (next : ℕ) (fields : List ℕ) → kept_from next fields [] ≡ []
no_argument next [] = refl
no_argument next (field ∷ fields) = refl

-- behind the shorter of two lists no position is left
none_left : (next i : ℕ) (fields arguments : List ℕ) → min (length fields) (length arguments) ≤ i
    → kept_from next (drop i fields) (drop i arguments) ≡ []
none_left next i fields arguments past = by_test (nat_le (length fields) i) refl
  where
    ended : nat_le (length fields) i ≡ true → length fields ≤ i
    ended is = grind arith

    other_ended : nat_le (length fields) i ≡ false → length arguments ≤ i
    other_ended is = let more : i + 1 ≤ length fields = grind arith in omega (arith, past, more)

    by_test : (t : Bool) → nat_le (length fields) i ≡ t → kept_from next (drop i fields) (drop i arguments) ≡ []
    by_test true is = ap (λ xs. kept_from next xs (drop i arguments)) (drop_of_length-le fields (ended is))
    by_test false is =
        ap (kept_from next (drop i fields)) (drop_of_length-le arguments (other_ended is)) ∙ no_argument next (drop i fields)

pub positions_found : (i end : ℕ) (fields arguments kept all : List ℕ) → end ≡ min (length fields) (length arguments) → end ≤ i
    → kept ++ kept_from i (drop i fields) (drop i arguments) ≡ all → kept ≡ all
positions_found i end fields arguments kept all is past so_far =
    sym (append-nil kept) ∙ ap (λ xs. kept ++ xs) (sym (none_left i i fields arguments (omega (arith, is, past)))) ∙ so_far
