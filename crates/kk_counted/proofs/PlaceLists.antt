-- Lists that are read one by one, and numbers that grow by one.
use Rattle.std.proofs.Common.{◌≡◌, ℕ, zero, suc, ◌+◌, ◌<◌, List, [], ◌∷◌, ◌++◌, length, take, drop, get_or, arith, ap, ◌∙◌}
use Rattle.std.proofs.Math.Seq.{take-suc, drop-cons}
use Rattle.kk_counted.specs.Spending.{numbers_from}

pub next_one : {A : Type 0} (xs : List A) (i : ℕ) (d : A) → i < length xs → drop i xs ≡ get_or xs i d ∷ drop (i + 1) xs
next_one xs i d less = drop-cons xs i d less ∙ ap (λ j. get_or xs i d ∷ drop j xs) {x = suc i} {y = i + 1} (omega arith)

pub past_one : {A : Type 0} (xs : List A) (i : ℕ) (d : A) → i < length xs → take (i + 1) xs ≡ take i xs ++ get_or xs i d ∷ []
past_one xs i d less = ap (λ j. take j xs) {x = i + 1} {y = suc i} (omega arith) ∙ take-suc xs i d less

numbers_end : (from n : ℕ) → numbers_from from (suc n) ≡ numbers_from from n ++ (from + n) ∷ []
numbers_end from zero = ap (λ m. m ∷ []) {x = from} {y = from + 0} (omega arith)
numbers_end from (suc n) = ap (λ all. from ∷ all) (numbers_end (suc from) n ∙ ap (λ m. numbers_from (suc from) n ++ m ∷ []) {x = suc from + n} {y = from + suc n} (omega arith))

pub numbers_more : (from n m : ℕ) → m ≡ n + 1 → numbers_from from m ≡ numbers_from from n ++ (from + n) ∷ []
numbers_more from n m is = ap (numbers_from from) {x = m} {y = suc n} (omega (arith, is)) ∙ numbers_end from n
