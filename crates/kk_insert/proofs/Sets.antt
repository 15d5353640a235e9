-- Sets of variables as lists: what is among them, and what they weigh.
use Rattle.std.proofs.Common.{◌≡◌, ◌⊎◌, inl, inr, ℕ, ◌+◌, ◌==◌, ◌||◌, ◌&&◌, Bool, true, false, not, List, [], ◌∷◌, ◌++◌, arith, refl, sym, ap, ◌∙◌, subst}
use Rattle.std.specs.Prelude.{if◌then◌else◌, filter}
use Rattle.kk_syntax.specs.Shapes.{is_among, without}
use Rattle.kk_counted.specs.Spending.{total, AllAmong, AreFresh, AreApart}
use Rattle.kk_counted.proofs.CountChanges.{same, itself}
use Rattle.kk_insert.specs.Insertion.{add, before, extra, common}

-- ---- tests

pub and_left : (a b : Bool) → (a && b) ≡ true → a ≡ true
and_left true b is = refl
and_left false b is = absurd (cc)

pub and_right : (a b : Bool) → (a && b) ≡ true → b ≡ true
and_right true b is = is
and_right false b is = absurd (cc)

pub and_both : (a b : Bool) → a ≡ true → b ≡ true → (a && b) ≡ true
and_both true b one two = two
and_both false b one two = absurd (cc)

pub or_cases : (a b : Bool) → (a || b) ≡ true → (a ≡ true) ⊎ (b ≡ true)
or_cases true b is = inl refl
or_cases false b is = inr is

pub or_left : (a b : Bool) → a ≡ true → (a || b) ≡ true
or_left true b is = refl
or_left false b is = absurd (cc)

pub or_right : (a b : Bool) → b ≡ true → (a || b) ≡ true
or_right true b is = refl
or_right false b is = is

pub not_true : (a : Bool) → not a ≡ true → a ≡ false
not_true false is = refl
not_true true is = absurd (cc)

pub is_not : (a : Bool) → a ≡ false → not a ≡ true
is_not false is = refl
is_not true is = absurd (cc)

pub no_both : (P : Type 0) (a : Bool) → a ≡ true → a ≡ false → P
no_both P true one two = absurd (cc)
no_both P false one two = absurd (cc)

pub false_if : (a : Bool) → (a ≡ true → ⊥) → a ≡ false
false_if false never = refl
false_if true never = absurd (never refl)

pub equal_tests : (a b : Bool) → (a ≡ true → b ≡ true) → (b ≡ true → a ≡ true) → a ≡ b
equal_tests true b there back = sym (there refl)
equal_tests false true there back = back refl
equal_tests false false there back = refl

-- ---- what is among lists

-- each of the one is among the other
abbrev pub Part : List ℕ → List ℕ → Type 0
Part xs ys = (y : ℕ) → is_among xs y ≡ true → is_among ys y ≡ true

-- none of the one is among the other
abbrev pub Clear : List ℕ → List ℕ → Type 0
Clear xs ys = (y : ℕ) → is_among xs y ≡ true → is_among ys y ≡ false

pub among_first : (x : ℕ) (xs : List ℕ) → is_among (x ∷ xs) x ≡ true
among_first x xs = rw (itself x) refl

pub among_next : (x y : ℕ) (xs : List ℕ) → is_among xs y ≡ true → is_among (x ∷ xs) y ≡ true
among_next x y xs is = or_right (x == y) (is_among xs y) is

pub one_only : (y x : ℕ) → is_among (y ∷ []) x ≡ true → y ≡ x
one_only y x is = by_test (y == x) refl is
  where
    by_test : (t : Bool) → (y == x) ≡ t → (t || false) ≡ true → y ≡ x
    by_test true same_ones is = same y x same_ones
    by_test false other is = absurd (cc)

pub among_append : (xs ys : List ℕ) (y : ℕ) → is_among (xs ++ ys) y ≡ (is_among xs y || is_among ys y)
among_append [] ys y = refl
among_append (x ∷ xs) ys y = by_test (x == y) (among_append xs ys y)
  where
    by_test : (t : Bool) → is_among (xs ++ ys) y ≡ (is_among xs y || is_among ys y)
        → (t || is_among (xs ++ ys) y) ≡ ((t || is_among xs y) || is_among ys y)
    by_test true later = refl
    by_test false later = later

pub in_front : (xs ys : List ℕ) (y : ℕ) → is_among xs y ≡ true → is_among (xs ++ ys) y ≡ true
in_front xs ys y is = among_append xs ys y ∙ or_left (is_among xs y) (is_among ys y) is

pub in_back : (xs ys : List ℕ) (y : ℕ) → is_among ys y ≡ true → is_among (xs ++ ys) y ≡ true
in_back xs ys y is = among_append xs ys y ∙ or_right (is_among xs y) (is_among ys y) is

pub in_either : (xs ys : List ℕ) (y : ℕ) → is_among (xs ++ ys) y ≡ true → (is_among xs y ≡ true) ⊎ (is_among ys y ≡ true)
in_either xs ys y is = or_cases (is_among xs y) (is_among ys y) (sym (among_append xs ys y) ∙ is)

pub among_filter : (p : ℕ → Bool) (xs : List ℕ) (y : ℕ) → is_among (filter p xs) y ≡ (is_among xs y && p y)
among_filter p [] y = refl
among_filter p (x ∷ xs) y = by_tests (x == y) refl (p x) refl (among_filter p xs y)
  where
    by_tests : (t : Bool) → (x == y) ≡ t → (s : Bool) → p x ≡ s → is_among (filter p xs) y ≡ (is_among xs y && p y)
        → is_among (if s then x ∷ filter p xs else filter p xs) y ≡ ((t || is_among xs y) && p y)
    by_tests true here true is later = rw here (sym (ap p (sym (same x y here)) ∙ is))
    by_tests true here false is later =
        later ∙ (ap (λ b. is_among xs y && b) no ∙ (none (is_among xs y) ∙ sym no))
      where
        no : p y ≡ false
        no = ap p (sym (same x y here)) ∙ is

        none : (b : Bool) → (b && false) ≡ false
        none true = refl
        none false = refl
    by_tests false other true is later = rw other later
    by_tests false other false is later = later

pub in_filter : (p : ℕ → Bool) (xs : List ℕ) (y : ℕ) → is_among xs y ≡ true → p y ≡ true → is_among (filter p xs) y ≡ true
in_filter p xs y is passes = among_filter p xs y ∙ and_both (is_among xs y) (p y) is passes

pub filter_in : (p : ℕ → Bool) (xs : List ℕ) (y : ℕ) → is_among (filter p xs) y ≡ true → is_among xs y ≡ true
filter_in p xs y is = and_left (is_among xs y) (p y) (sym (among_filter p xs y) ∙ is)

pub filter_passes : (p : ℕ → Bool) (xs : List ℕ) (y : ℕ) → is_among (filter p xs) y ≡ true → p y ≡ true
filter_passes p xs y is = and_right (is_among xs y) (p y) (sym (among_filter p xs y) ∙ is)

pub without_clear : (bs xs : List ℕ) → Clear (without bs xs) bs
without_clear bs xs y is = not_true (is_among bs y) (filter_passes (λ x. not (is_among bs x)) xs y is)

pub in_without : (bs xs : List ℕ) (y : ℕ) → is_among xs y ≡ true → is_among bs y ≡ false → is_among (without bs xs) y ≡ true
in_without bs xs y is other = in_filter (λ x. not (is_among bs x)) xs y is (is_not (is_among bs y) other)

-- a list without a variable
pub no_self : (x : ℕ) (xs : List ℕ) → is_among (without (x ∷ []) xs) x ≡ false
no_self x xs =
    false_if (is_among (without (x ∷ []) xs) x)
    (λ is. no_both ⊥ (is_among (x ∷ []) x) (among_first x []) (without_clear (x ∷ []) xs x is))

pub clear_back : (xs ys : List ℕ) → Clear xs ys → Clear ys xs
clear_back xs ys clear y is = false_if (is_among xs y) (λ there. no_both ⊥ (is_among ys y) is (clear y there))

pub among_add : (x : ℕ) (xs : List ℕ) (y : ℕ) → is_among (add x xs) y ≡ is_among (x ∷ xs) y
among_add x xs y = by_test (is_among xs x) refl
  where
    by_test : (t : Bool) → is_among xs x ≡ t → is_among (if t then xs else x ∷ xs) y ≡ is_among (x ∷ xs) y
    by_test false is = refl
    by_test true is =
        equal_tests (is_among xs y) (is_among (x ∷ xs) y) (λ here. among_next x y xs here)
        (λ there. either (or_cases (x == y) (is_among xs y) there))
      where
        either : ((x == y) ≡ true) ⊎ (is_among xs y ≡ true) → is_among xs y ≡ true
        either (inl here) = ap (is_among xs) (sym (same x y here)) ∙ is
        either (inr later) = later

pub among_before : (xs ys : List ℕ) (y : ℕ) → is_among (before xs ys) y ≡ is_among (xs ++ ys) y
among_before [] ys y = refl
among_before (x ∷ xs) ys y = among_add x (before xs ys) y ∙ ap (λ b. (x == y) || b) (among_before xs ys y)

pub before_front : (xs ys : List ℕ) (y : ℕ) → is_among xs y ≡ true → is_among (before xs ys) y ≡ true
before_front xs ys y is = among_before xs ys y ∙ in_front xs ys y is

pub before_back : (xs ys : List ℕ) (y : ℕ) → is_among ys y ≡ true → is_among (before xs ys) y ≡ true
before_back xs ys y is = among_before xs ys y ∙ in_back xs ys y is

pub before_either : (xs ys : List ℕ) (y : ℕ) → is_among (before xs ys) y ≡ true → (is_among xs y ≡ true) ⊎ (is_among ys y ≡ true)
before_either xs ys y is = in_either xs ys y (sym (among_before xs ys y) ∙ is)

-- the uses that take a dup are of variables that are owned
pub extra_in : (xs after : List ℕ) → Part (extra xs after) (before xs after)
extra_in [] after y is = absurd (cc)
extra_in (x ∷ xs) after y is = among_add x (before xs after) y
    ∙ by_test (is_among (before xs after) x) refl is (extra_in xs after y)
  where
    by_test : (t : Bool) → is_among (before xs after) x ≡ t → is_among (if t then x ∷ extra xs after else extra xs after) y ≡ true
        → (is_among (extra xs after) y ≡ true → is_among (before xs after) y ≡ true) → is_among (x ∷ before xs after) y ≡ true
    by_test true here is later = either (or_cases (x == y) (is_among (extra xs after) y) is)
      where
        either : ((x == y) ≡ true) ⊎ (is_among (extra xs after) y ≡ true) → is_among (x ∷ before xs after) y ≡ true
        either (inl first) = or_left (x == y) (is_among (before xs after) y) first
        either (inr rest) = among_next x y (before xs after) (later rest)
    by_test false here is later = among_next x y (before xs after) (later is)

-- ---- the forms of the judgement

pub part_all : (xs ys : List ℕ) → Part xs ys → AllAmong xs ys
part_all [] ys part = tt
part_all (x ∷ xs) ys part = (part x (among_first x xs), part_all xs ys (λ y is. part y (among_next x y xs is)))

pub all_part : (xs ys : List ℕ) → AllAmong xs ys → Part xs ys
all_part [] ys all y is = absurd (cc)
all_part (x ∷ xs) ys all y is = either (or_cases (x == y) (is_among xs y) is) (all_part xs ys all.1 y)
  where
    either : ((x == y) ≡ true) ⊎ (is_among xs y ≡ true) → (is_among xs y ≡ true → is_among ys y ≡ true) → is_among ys y ≡ true
    either (inl here) later = ap (is_among ys) (sym (same x y here)) ∙ all.0
    either (inr there) later = later there

pub clear_fresh : (xs ys : List ℕ) → Clear xs ys → AreFresh xs ys
clear_fresh [] ys clear = tt
clear_fresh (x ∷ xs) ys clear = (clear x (among_first x xs), clear_fresh xs ys (λ y is. clear y (among_next x y xs is)))

pub apart_filter : (p : ℕ → Bool) (xs : List ℕ) → AreApart xs → AreApart (filter p xs)
apart_filter p [] apart = tt
apart_filter p (x ∷ xs) apart = by_test (p x) (apart_filter p xs apart.1)
  where
    by_test : (t : Bool) → AreApart (filter p xs) → AreApart (if t then x ∷ filter p xs else filter p xs)
    by_test true later = (
      false_if (is_among (filter p xs) x)
          (λ is. no_both ⊥ (is_among xs x) (filter_in p xs x is) apart.0),
      later,
    )
    by_test false later = later

pub apart_before : (xs ys : List ℕ) → AreApart ys → AreApart (before xs ys)
apart_before [] ys apart = apart
apart_before (x ∷ xs) ys apart = by_test (is_among (before xs ys) x) refl (apart_before xs ys apart)
  where
    by_test : (t : Bool) → is_among (before xs ys) x ≡ t → AreApart (before xs ys)
        → AreApart (if t then before xs ys else x ∷ before xs ys)
    by_test true is later = later
    by_test false is later = (is, later)

-- ---- sums

pub total_append : (weight : ℕ → ℕ) (xs ys : List ℕ) → total weight (xs ++ ys) ≡ total weight xs + total weight ys
total_append weight [] ys = omega arith
total_append weight (x ∷ xs) ys = omega (arith, total_append weight xs ys)

-- each use is one that takes a dup, or the last one of a variable that is owned
pub total_before : (weight : ℕ → ℕ) (xs after : List ℕ)
    → total weight (extra xs after) + total weight (before xs after) ≡ total weight xs + total weight after
total_before weight [] after = refl
total_before weight (x ∷ xs) after = by_test (is_among (before xs after) x) (total_before weight xs after)
  where
    by_test : (t : Bool) → total weight (extra xs after) + total weight (before xs after) ≡ total weight xs + total weight after
        → total weight (if t then x ∷ extra xs after else extra xs after) + total weight
        (if t then before xs after else x ∷ before xs after) ≡ (weight x + total weight xs) + total weight after
    by_test true later = omega (arith, later)
    by_test false later = omega (arith, later)

pub total_parts : (weight : ℕ → ℕ) (bs xs : List ℕ) → total weight xs ≡ total weight (common bs xs) + total weight (without bs xs)
total_parts weight bs [] = refl
total_parts weight bs (x ∷ xs) = by_test (is_among bs x) (total_parts weight bs xs)
  where
    by_test : (t : Bool) → total weight xs ≡ total weight (common bs xs) + total weight (without bs xs)
        → weight x + total weight xs ≡ total weight (if t then x ∷ common bs xs else common bs xs) + total weight
        (if not t then x ∷ without bs xs else without bs xs)
    by_test true later = omega (arith, later)
    by_test false later = omega (arith, later)

-- filters that agree on a list
pub filter_alike : (p q : ℕ → Bool) (xs : List ℕ) → ((y : ℕ) → is_among xs y ≡ true → p y ≡ q y) → filter p xs ≡ filter q xs
filter_alike p q [] alike = refl
filter_alike p q (x ∷ xs) alike =
    ap (λ t. if t then x ∷ filter p xs else filter p xs) (alike x (among_first x xs))
    ∙ ap (λ ys. if q x then x ∷ ys else ys) (filter_alike p q xs (λ y is. alike y (among_next x y xs is)))

pub filter_all : (p : ℕ → Bool) (xs : List ℕ) → ((y : ℕ) → is_among xs y ≡ true → p y ≡ true) → filter p xs ≡ xs
filter_all p [] all = refl
filter_all p (x ∷ xs) all =
    ap (λ t. if t then x ∷ filter p xs else filter p xs) (all x (among_first x xs))
    ∙ ap (λ ys. x ∷ ys) (filter_all p xs (λ y is. all y (among_next x y xs is)))

filter_twice : (p q : ℕ → Bool) (xs : List ℕ) → filter p (filter q xs) ≡ filter (λ x. q x && p x) xs
filter_twice p q [] = refl
filter_twice p q (x ∷ xs) = by_test (q x) (filter_twice p q xs)
  where
    by_test : (t : Bool) → filter p (filter q xs) ≡ filter (λ x. q x && p x) xs
        → filter p (if t then x ∷ filter q xs else filter q xs) ≡
        (if t && p x then x ∷ filter (λ x. q x && p x) xs else filter (λ x. q x && p x) xs)
    by_test true later = ap (λ ys. if p x then x ∷ ys else ys) later
    by_test false later = later

-- one variable taken out of a list without repetition
pub total_one : (weight : ℕ → ℕ) (x : ℕ) (xs : List ℕ) → AreApart xs → is_among xs x ≡ true
    → total weight xs ≡ weight x + total weight (without (x ∷ []) xs)
total_one weight x [] apart is = absurd (cc)
total_one weight x (y ∷ xs) apart is = by_test (x == y) refl (total_one weight x xs apart.1)
  where
    Later : Type 0
    Later = is_among xs x ≡ true → total weight xs ≡ weight x + total weight (without (x ∷ []) xs)

    by_test : (t : Bool) → (x == y) ≡ t → Later
        → weight y + total weight xs ≡ weight x + total weight
        (if not (t || false) then y ∷ without (x ∷ []) xs else without (x ∷ []) xs)
    by_test true here later =
        omega (
          arith,
          ap weight (same x y here),
          ap (total weight) (filter_all (λ z. not (is_among (x ∷ []) z)) xs
              (λ z there. is_not (is_among (x ∷ []) z)
              (false_if (is_among (x ∷ []) z)
              (λ one. no_both ⊥ (is_among xs y) (subst (λ w. is_among xs w ≡ true) (sym (one_only x z one) ∙ same x y here) there)
              apart.0)))),
        )
    by_test false other later = omega (arith, later (either (or_cases (y == x) (is_among xs x) is)))
      where
        either : ((y == x) ≡ true) ⊎ (is_among xs x ≡ true) → is_among xs x ≡ true
        either (inl here) = no_both (is_among xs x ≡ true) (x == y) (ap (λ z. x == z) (same y x here) ∙ itself x) other
        either (inr there) = there

-- a part of a list, both without repetition, taken out
pub total_minus : (weight : ℕ → ℕ) (all now : List ℕ) → AreApart all → AreApart now → Part now all
    → total weight all ≡ total weight (without now all) + total weight now
total_minus weight all [] apart_all apart part =
    omega (arith, ap (total weight) (filter_all (λ z. not (is_among [] z)) all (λ z is. refl)))
total_minus weight all (x ∷ now) apart_all apart part =
    omega (
      arith,
      total_one weight x all apart_all (part x (among_first x now)),
      total_minus weight (without (x ∷ []) all) now (apart_filter (λ z. not (is_among (x ∷ []) z)) all apart_all) apart.1 rest,
      ap (total weight) (filter_twice (λ z. not (is_among now z)) (λ z. not (is_among (x ∷ []) z)) all
          ∙ filter_alike (λ z. not (is_among (x ∷ []) z) && not (is_among now z)) (λ z. not (is_among (x ∷ now) z)) all
          (λ y is. both (x == y) (is_among now y))),
    )
  where
    both : (a b : Bool) → (not (a || false) && not b) ≡ not (a || b)
    both true b = refl
    both false b = refl

    rest : (y : ℕ) → is_among now y ≡ true → is_among (without (x ∷ []) all) y ≡ true
    rest y is =
        in_without (x ∷ []) all y (part y (among_next x y now is))
        (false_if (is_among (x ∷ []) y) (λ one. no_both ⊥ (is_among now x)
        (subst (λ w. is_among now w ≡ true) (sym (one_only x y one)) is) apart.0))

-- the common part of two lists without repetition weighs the same from both sides
pub total_common : (weight : ℕ → ℕ) (xs ys : List ℕ) → AreApart xs → AreApart ys
    → total weight ys ≡ total weight (common ys xs) + total weight (without xs ys)
total_common weight xs ys apart_xs apart_ys =
    omega (
      arith,
      total_minus weight ys (common ys xs) apart_ys (apart_filter (is_among ys) xs apart_xs)
          (λ y is. filter_passes (is_among ys) xs y is),
      ap (total weight) (filter_alike (λ z. not (is_among (common ys xs) z)) (λ z. not (is_among xs z)) ys
          (λ y is. ap not (among_filter (is_among ys) xs y ∙ one (is_among xs y) (is_among ys y) is))),
    )
  where
    one : (a b : Bool) → b ≡ true → (a && b) ≡ a
    one true b is = is
    one false b is = refl
