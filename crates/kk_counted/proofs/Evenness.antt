-- Lists with the same variables as often, and lists of low variables.
use Rattle.std.proofs.Common.{◌≡◌, ◌⊎◌, inl, inr, ℕ, zero, suc, ◌+◌, ◌≤◌, ◌<◌, ◌==◌, ◌||◌, Bool, true, false, List, [], ◌∷◌, ◌++◌, arith, refl, sym, ap, ◌∙◌, subst}
use Rattle.std.specs.Prelude.{if◌then◌else◌}
use Rattle.kk_syntax.specs.Shapes.{is_among}
use Rattle.kk_counted.specs.Spending.{total, AreEven, AreFresh, AreApart, numbers_from}
use Rattle.kk_counted.specs.VariableLists.{minus, minus_all, HasAll, AreLow, AreIn}
use Rattle.kk_counted.proofs.CountChanges.{same}
use Rattle.kk_counted.proofs.Variables.{among_cases}

-- ---- sums

pub total_append : (weight : ℕ → ℕ) (xs ys : List ℕ) → total weight (xs ++ ys) ≡ total weight xs + total weight ys
total_append weight [] ys = omega arith
total_append weight (x ∷ xs) ys = omega (arith, total_append weight xs ys)

pub even_same : (xs : List ℕ) → AreEven xs xs
even_same xs = λ w. refl

pub even_back : (xs ys : List ℕ) → AreEven xs ys → AreEven ys xs
even_back xs ys one = λ w. sym (one w)

pub even_then : (xs ys zs : List ℕ) → AreEven xs ys → AreEven ys zs → AreEven xs zs
even_then xs ys zs one two = λ w. one w ∙ two w

-- one part of a list for another
pub even_front : (xs ys rest : List ℕ) → AreEven xs ys → AreEven (xs ++ rest) (ys ++ rest)
even_front xs ys rest one = λ w. omega (arith, total_append w xs rest, total_append w ys rest, one w)

pub even_behind : (first xs ys : List ℕ) → AreEven xs ys → AreEven (first ++ xs) (first ++ ys)
even_behind first xs ys one = λ w. omega (arith, total_append w first xs, total_append w first ys, one w)

-- a last one comes first
pub even_last : (xs rest : List ℕ) (x : ℕ) → AreEven ((xs ++ x ∷ []) ++ rest) (x ∷ (xs ++ rest))
even_last xs rest x =
    λ w. omega (arith, total_append w (xs ++ x ∷ []) rest, total_append w xs (x ∷ []), total_append w xs rest)

-- those behind others come first
pub even_turned : (xs ys rest : List ℕ) → AreEven ((xs ++ ys) ++ rest) (ys ++ (xs ++ rest))
even_turned xs ys rest =
    λ w. omega (arith, total_append w (xs ++ ys) rest, total_append w xs ys, total_append w xs rest, total_append w ys (xs ++ rest))

pub even_grouped : (xs ys rest : List ℕ) → AreEven ((xs ++ ys) ++ rest) (xs ++ (ys ++ rest))
even_grouped xs ys rest =
    λ w. omega (arith, total_append w (xs ++ ys) rest, total_append w xs ys, total_append w xs (ys ++ rest), total_append w ys rest)

-- ---- a variable is taken out

pub minus_even : (x : ℕ) (ys : List ℕ) → is_among ys x ≡ true → AreEven ys (x ∷ minus x ys)
minus_even x [] is = absurd (cc)
minus_even x (y ∷ ys) is = by_test (y == x) refl is (minus_even x ys)
  where
    by_test : (t : Bool) → (y == x) ≡ t → (t || is_among ys x) ≡ true → (is_among ys x ≡ true → AreEven ys (x ∷ minus x ys)) → AreEven (y ∷ ys) (x ∷ (if t then ys else y ∷ minus x ys))
    by_test true one is later = λ w. ap (λ z. w z + total w ys) (same y x one)
    by_test false one is later = λ w. omega (arith, later is w)

pub minus_all_even : (xs ys : List ℕ) → HasAll xs ys → AreEven ys (xs ++ minus_all xs ys)
minus_all_even [] ys has = λ w. refl
minus_all_even (x ∷ xs) ys has = λ w. omega (arith, minus_even x ys has.0 w, minus_all_even xs (minus x ys) has.1 w)

-- ---- the variables of a list

ones : ℕ → ℕ → ℕ
ones x y = if y == x then 1 else 0

among_total : (x : ℕ) (ys : List ℕ) → is_among ys x ≡ true → 1 ≤ total (ones x) ys
unfolding ones
among_total x [] is = absurd (cc)
among_total x (y ∷ ys) is = by_test (y == x) is (among_total x ys)
  where
    by_test : (t : Bool) → (t || is_among ys x) ≡ true → (is_among ys x ≡ true → 1 ≤ total (ones x) ys) → 1 ≤ (if t then 1 else 0) + total (ones x) ys
    by_test true is later = omega arith
    by_test false is later = omega (arith, later is)

total_among : (x : ℕ) (ys : List ℕ) → 1 ≤ total (ones x) ys → is_among ys x ≡ true
unfolding ones
total_among x [] some = absurd (omega arith)
total_among x (y ∷ ys) some = by_test (y == x) some (total_among x ys)
  where
    by_test : (t : Bool) → 1 ≤ (if t then 1 else 0) + total (ones x) ys → (1 ≤ total (ones x) ys → is_among ys x ≡ true) → (t || is_among ys x) ≡ true
    by_test true some later = refl
    by_test false some later = later (omega (arith, some))

pub even_among : (xs ys : List ℕ) (x : ℕ) → AreEven xs ys → is_among xs x ≡ true → is_among ys x ≡ true
even_among xs ys x even is = total_among x ys (subst (λ (n : ℕ). 1 ≤ n) (even (ones x)) (among_total x xs is))

pub among_front : (xs ys : List ℕ) (x : ℕ) → is_among xs x ≡ true → is_among (xs ++ ys) x ≡ true
among_front [] ys x is = absurd (cc)
among_front (y ∷ xs) ys x is = by_test (y == x) is (among_front xs ys x)
  where
    by_test : (t : Bool) → (t || is_among xs x) ≡ true → (is_among xs x ≡ true → is_among (xs ++ ys) x ≡ true) → (t || is_among (xs ++ ys) x) ≡ true
    by_test true is later = refl
    by_test false is later = later is

pub among_behind : (xs ys : List ℕ) (x : ℕ) → is_among ys x ≡ true → is_among (xs ++ ys) x ≡ true
among_behind [] ys x is = is
among_behind (y ∷ xs) ys x is = by_test (y == x) (among_behind xs ys x is)
  where
    by_test : (t : Bool) → is_among (xs ++ ys) x ≡ true → (t || is_among (xs ++ ys) x) ≡ true
    by_test true is = refl
    by_test false is = is

-- variables are among others
pub in_both : (xs ys others : List ℕ) → AreIn xs others → AreIn ys others → AreIn (xs ++ ys) others
in_both xs ys others one two = λ x is. by_case x (among_cases xs ys x is)
  where
    by_case : (x : ℕ) → (is_among xs x ≡ true) ⊎ (is_among ys x ≡ true) → is_among others x ≡ true
    by_case x (inl left) = one x left
    by_case x (inr right) = two x right

-- ---- low variables

pub low_even : (n : ℕ) (xs ys : List ℕ) → AreEven xs ys → AreLow n ys → AreLow n xs
low_even n xs ys even low = λ x is. low x (even_among xs ys x even is)

pub low_up : (n m : ℕ) (xs : List ℕ) → n ≤ m → AreLow n xs → AreLow m xs
low_up n m xs less low = λ x is. omega (arith, low x is)

pub low_both : (n : ℕ) (xs ys : List ℕ) → AreLow n xs → AreLow n ys → AreLow n (xs ++ ys)
low_both n xs ys one two = λ x is. by_case x (among_cases xs ys x is)
  where
    by_case : (x : ℕ) → (is_among xs x ≡ true) ⊎ (is_among ys x ≡ true) → x < n
    by_case x (inl is) = one x is
    by_case x (inr is) = two x is

pub low_front : (n : ℕ) (xs ys : List ℕ) → AreLow n (xs ++ ys) → AreLow n xs
low_front n xs ys low = λ x is. low x (among_front xs ys x is)

pub low_behind : (n : ℕ) (xs ys : List ℕ) → AreLow n (xs ++ ys) → AreLow n ys
low_behind n xs ys low = λ x is. low x (among_behind xs ys x is)

pub low_one : (n x : ℕ) → x < n → AreLow n (x ∷ [])
low_one n x less y is = by_test (x == y) refl is
  where
    by_test : (t : Bool) → (x == y) ≡ t → (t || false) ≡ true → y < n
    by_test true one is = subst (λ (z : ℕ). z < n) (same x y one) less
    by_test false one is = absurd (cc)

pub low_next : (n : ℕ) (xs : List ℕ) → AreLow n xs → AreLow (n + 1) (n ∷ xs)
low_next n xs low = low_both (n + 1) (n ∷ []) xs (low_one (n + 1) n (omega arith)) (low_up n (n + 1) xs (omega arith) low)

pub low_numbers : (n count : ℕ) → AreLow (n + count) (numbers_from n count)
low_numbers n zero = λ x is. absurd (cc)
low_numbers n (suc count) =
    low_both (n + suc count) (n ∷ []) (numbers_from (suc n) count) (low_one (n + suc count) n (omega arith))
    (low_up (suc n + count) (n + suc count) (numbers_from (suc n) count) (omega arith) (low_numbers (suc n) count))

-- a number that is not below is fresh
pub low_fresh : (n x : ℕ) (xs : List ℕ) → n ≤ x → AreLow n xs → is_among xs x ≡ false
low_fresh n x xs less low = by_test (is_among xs x) refl
  where
    by_test : (t : Bool) → is_among xs x ≡ t → t ≡ false
    by_test false is = refl
    by_test true is = absurd (omega (arith, low x is, less))

pub numbers_fresh : (n from count : ℕ) (xs : List ℕ) → n ≤ from → AreLow n xs → AreFresh (numbers_from from count) xs
numbers_fresh n from zero xs less low = tt
numbers_fresh n from (suc count) xs less low =
    (low_fresh n from xs less low, numbers_fresh n (suc from) count xs (omega (arith, less)) low)

numbers_above : (x from count : ℕ) → x < from → is_among (numbers_from from count) x ≡ false
numbers_above x from zero less = refl
numbers_above x from (suc count) less = by_test (from == x) refl (numbers_above x (suc from) count (omega (arith, less)))
  where
    by_test : (t : Bool) → (from == x) ≡ t → is_among (numbers_from (suc from) count) x ≡ false → (t || is_among (numbers_from (suc from) count) x) ≡ false
    by_test true one later = absurd (omega (arith, same from x one, less))
    by_test false one later = later

pub numbers_apart : (from count : ℕ) → AreApart (numbers_from from count)
numbers_apart from zero = tt
numbers_apart from (suc count) = (numbers_above from (suc from) count (omega arith), numbers_apart (suc from) count)
