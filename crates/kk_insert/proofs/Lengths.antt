-- How many variables are owned, and how many dups are taken: for each owned variable the cost of its drop is saved.
use Rattle.std.proofs.Common.{◌≡◌, ◌⊎◌, inl, inr, ℕ, zero, suc, ◌+◌, ◌≤◌, ◌<◌, Bool, true, false, not, List, [], ◌∷◌, ◌++◌, length, arith, refl, subst}
use Rattle.std.proofs.lemmas.Bool.{cases_lt}
use Rattle.std.specs.Prelude.{if◌then◌else◌}
use Rattle.std.proofs.lemmas.List.{length-append, length-map}
use Rattle.kk_syntax.specs.Shapes.{is_among, without}
use Rattle.kk_source.specs.State.{Value, Environment}
use Rattle.kk_source.specs.Live.{value_of}
use Rattle.kk_counted.proofs.ListLengths.{total_ones, filter_length}
use Rattle.kk_counted.specs.Spending.{AreEven, AreApart}
use Rattle.kk_counted.specs.Keeping.{values_of}
use Rattle.kk_insert.specs.Insertion.{before, extra, common, wants}
use Rattle.kk_insert.proofs.VariableBindings.{AreBelow}
use Rattle.kk_insert.proofs.Sets.{no_both, Part, among_first, filter_in, without_clear, apart_filter, total_append, total_one}

-- even lists are as long
pub even_length : (xs ys zs : List ℕ) → AreEven xs (ys ++ zs) → length xs ≡ length ys + length zs
even_length xs ys zs even =
    omega (arith, even (λ x. 1), total_append (λ x. 1) ys zs, total_ones xs, total_ones ys, total_ones zs)

-- the same with two lists on each side
pub even_append : (xs ys zs ws : List ℕ) → AreEven (xs ++ ys) (zs ++ ws) → length xs + length ys ≡ length zs + length ws
even_append xs ys zs ws even =
    omega (
      arith,
      even (λ x. 1),
      total_append (λ x. 1) xs ys,
      total_append (λ x. 1) zs ws,
      total_ones xs,
      total_ones ys,
      total_ones zs,
      total_ones ws,
    )

-- the uses that are not the last ones are no more than the uses
extra_few : (xs after : List ℕ) → length (extra xs after) ≤ length xs
extra_few [] after = omega arith
extra_few (x ∷ xs) after = by_test (is_among (before xs after) x) (extra_few xs after)
  where
    by_test : (t : Bool) → length (extra xs after) ≤ length xs
        → length (if t then x ∷ extra xs after else extra xs after) ≤ suc (length xs)
    by_test true later = omega (arith, later)
    by_test false later = omega (arith, later)

-- a use takes at most one dup
pub wants_few : (lent xs after : List ℕ) → length (wants lent xs after) ≤ length xs
wants_few lent xs after =
    omega (
      arith,
      length-append (common lent xs) (extra (without lent xs) after),
      filter_length (is_among lent) xs,
      extra_few (without lent xs) after,
    )

-- nothing is among no variables
pub part_none : (xs : List ℕ) → Part xs [] → length xs ≡ 0
part_none [] part = refl
part_none (x ∷ xs) part = absurd (let never : false ≡ true = part x (among_first x xs) in cc)

less_unless : (n y : ℕ) → y < suc n → (n ≡ y → ⊥) → y < n
less_unless n y less other = by_order (cases_lt y n)
  where
    by_order : (y < n) ⊎ (n ≤ y) → y < n
    by_order (inl below) = below
    by_order (inr above) = absurd (other (omega (arith, less, above)))

-- variables without repetition that are below a number are no more than that
pub few_below : (n : ℕ) (xs : List ℕ) → AreApart xs → AreBelow xs n → length xs ≤ n
few_below zero [] apart below = omega arith
few_below zero (x ∷ xs) apart below = absurd (omega (arith, below x (among_first x xs)))
few_below (suc n) xs apart below = by_test (is_among xs n) refl (few_below n xs apart)
    (few_below n (without (n ∷ []) xs) (apart_filter (λ y. not (is_among (n ∷ []) y)) xs apart))
  where
    by_test : (t : Bool) → is_among xs n ≡ t → (AreBelow xs n → length xs ≤ n)
        → (AreBelow (without (n ∷ []) xs) n → length (without (n ∷ []) xs) ≤ n) → length xs ≤ suc n
    by_test true there same fewer =
        omega (
          arith,
          total_one (λ x. 1) n xs apart there,
          total_ones xs,
          total_ones (without (n ∷ []) xs),
          fewer (λ y is. less_unless n y (below y (filter_in (λ z. not (is_among (n ∷ []) z)) xs y is))
              (λ eq. no_both ⊥ (is_among (n ∷ []) y) (subst (λ z. is_among (n ∷ []) z ≡ true) eq (among_first n []))
              (without_clear (n ∷ []) xs y is))),
        )
    by_test false away same fewer =
        let few = same (λ y is. less_unless n y (below y is)
        (λ eq. no_both ⊥ (is_among xs y) is (subst (λ z. is_among xs z ≡ false) eq away))) in
        omega (arith, few)

-- of what is owned before variables are used up, what is not owned later is among them
pub before_few : (xs now : List ℕ) → length (without now (before xs now)) ≤ length xs
before_few [] now = omega (arith, part_none (without now now) none)
  where
    none : Part (without now now) []
    none y is =
        no_both (is_among [] y ≡ true) (is_among now y) (filter_in (λ x. not (is_among now x)) now y is)
        (without_clear now now y is)
before_few (x ∷ xs) now = by_test (is_among (before xs now) x) (before_few xs now)
  where
    by_test : (t : Bool) → length (without now (before xs now)) ≤ length xs
        → length (without now (if t then before xs now else x ∷ before xs now)) ≤ suc (length xs)
    by_test true later = omega (arith, later)
    by_test false later = next (not (is_among now x)) later
      where
        next : (s : Bool) → length (without now (before xs now)) ≤ length xs
            → length (if s then x ∷ without now (before xs now) else without now (before xs now)) ≤ suc (length xs)
        next true few = omega (arith, few)
        next false few = omega (arith, few)

-- variables have as many values
pub values_length : (environment : Environment) (xs : List ℕ) → length (values_of environment xs) ≡ length xs
values_length environment xs = length-map xs (value_of environment)

-- what is owned: the variables of the function that runs, and the values of those that wait
pub owned_length : (environment : Environment) (xs : List ℕ) (below : List Value)
    → length (values_of environment xs ++ below) ≡ length xs + length below
owned_length environment [] below = omega arith
owned_length environment (x ∷ xs) below = omega (arith, owned_length environment xs below)
