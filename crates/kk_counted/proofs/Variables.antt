-- The values of owned and lent variables, as variables are bound.
use Rattle.std.proofs.Common.{◌≡◌, ◌⊎◌, inl, inr, ℕ, suc, ◌+◌, ◌≤◌, ◌<◌, ◌==◌, ◌||◌, Bool, true, false, not, List, [], ◌∷◌, ◌++◌, length, arith, refl, sym, ap, ◌∙◌, subst}
use Rattle.std.specs.Prelude.{if◌then◌else◌, filter}
use Rattle.kk_syntax.specs.Shapes.{is_among}
use Rattle.kk_source.specs.State.{Value, place, Environment}
use Rattle.kk_source.specs.Live.{value_of, Among}
use Rattle.kk_source.specs.Step.{bind_parameters}
use Rattle.kk_core.specs.CoreMachine.{bind_fields}
use Rattle.kk_counted.specs.CountedMachine.{used_values, other_values}
use Rattle.kk_counted.specs.References.{refs_of, refs}
use Rattle.kk_counted.specs.Spending.{total, AreEven, AllAmong, AreFresh, AreApart, at_positions, numbers_from}
use Rattle.kk_counted.specs.Keeping.{values_of}
use Rattle.kk_counted.proofs.CountChanges.{same, itself}

-- ---- tests

pub left_false : (a b : Bool) → (a || b) ≡ false → a ≡ false
left_false false b is = refl
left_false true b is = is

pub right_false : (a b : Bool) → (a || b) ≡ false → b ≡ false
right_false false b is = is
right_false true b is = absurd (cc)

pub turned : (x y : ℕ) → (x == y) ≡ false → (y == x) ≡ false
turned x y apart = by_test (y == x) refl
  where
    by_test : (t : Bool) → (y == x) ≡ t → t ≡ false
    by_test false is = refl
    by_test true is = sym (itself y) ∙ (ap (λ z. z == y) (same y x is) ∙ apart)

pub among_first : (x : ℕ) (xs : List ℕ) → is_among (x ∷ xs) x ≡ true
among_first x xs = ap (λ t. t || is_among xs x) (itself x)

pub among_later : (y x : ℕ) (xs : List ℕ) → is_among xs x ≡ true → is_among (y ∷ xs) x ≡ true
among_later y x xs is = by_test (y == x)
  where
    by_test : (t : Bool) → (t || is_among xs x) ≡ true
    by_test true = refl
    by_test false = is

pub among_cases : (xs ys : List ℕ) (x : ℕ) → is_among (xs ++ ys) x ≡ true → (is_among xs x ≡ true) ⊎ (is_among ys x ≡ true)
among_cases [] ys x is = inr is
among_cases (y ∷ xs) ys x is = by_test (y == x) is (among_cases xs ys x)
  where
    by_test : (t : Bool) → (t || is_among (xs ++ ys) x) ≡ true → (is_among (xs ++ ys) x ≡ true → (is_among xs x ≡ true) ⊎ (is_among ys x ≡ true)) → ((t || is_among xs x) ≡ true) ⊎ (is_among ys x ≡ true)
    by_test true is later = inl refl
    by_test false is later = later is

-- ---- references of variables

pub refs_of_total : (environment : Environment) (q : ℕ) (xs : List ℕ) → total (λ x. refs_of (value_of environment x) q) xs ≡ refs (values_of environment xs) q
refs_of_total environment q [] = refl
refs_of_total environment q (x ∷ xs) = ap (λ n. refs_of (value_of environment x) q + n) (refs_of_total environment q xs)

pub even_refs : (environment : Environment) (xs ys : List ℕ) (q : ℕ) → AreEven xs ys → refs (values_of environment xs) q ≡ refs (values_of environment ys) q
even_refs environment xs ys q even =
    sym (refs_of_total environment q xs) ∙ (even (λ x. refs_of (value_of environment x) q) ∙ refs_of_total environment q ys)

pub refs_of_both : (environment : Environment) (xs ys : List ℕ) (q : ℕ) → refs (values_of environment (xs ++ ys)) q ≡ refs (values_of environment xs) q + refs (values_of environment ys) q
refs_of_both environment [] ys q = omega arith
refs_of_both environment (x ∷ xs) ys q = omega (arith, refs_of_both environment xs ys q)

pub among_refs : (environment : Environment) (xs : List ℕ) (x q : ℕ) → is_among xs x ≡ true → refs_of (value_of environment x) q ≤ refs (values_of environment xs) q
among_refs environment [] x q is = absurd (cc)
among_refs environment (y ∷ xs) x q is = by_test (y == x) refl is (among_refs environment xs x q)
  where
    by_test : (t : Bool) → (y == x) ≡ t → (t || is_among xs x) ≡ true → (is_among xs x ≡ true → refs_of (value_of environment x) q ≤ refs (values_of environment xs) q) → refs_of (value_of environment x) q ≤ refs_of (value_of environment y) q + refs (values_of environment xs) q
    by_test true here is later = omega (arith, ap (λ z. refs_of (value_of environment z) q) (same y x here))
    by_test false here is later = omega (arith, later is)

pub among_values : (environment : Environment) (xs : List ℕ) (x at : ℕ) → is_among xs x ≡ true → value_of environment x ≡ place at → Among (values_of environment xs) at
among_values environment [] x at is named = absurd (cc)
among_values environment (y ∷ xs) x at is named = by_test (y == x) refl is (among_values environment xs x at)
  where
    by_test : (t : Bool) → (y == x) ≡ t → (t || is_among xs x) ≡ true → (is_among xs x ≡ true → value_of environment x ≡ place at → Among (values_of environment xs) at) → (value_of environment y ≡ place at) ⊎ Among (values_of environment xs) at
    by_test true here is later = inl (ap (value_of environment) (same y x here) ∙ named)
    by_test false here is later = inr (later is named)

-- a place that variables name is one of another list's, where all of them are there
pub among_others : (environment : Environment) (xs ys : List ℕ) (at : ℕ) → AllAmong xs ys → Among (values_of environment xs) at → (y : ℕ) × ((is_among ys y ≡ true) × (value_of environment y ≡ place at))
among_others environment [] ys at all named = absurd named
among_others environment (x ∷ xs) ys at all (inl here) = (x, (all.0, here))
among_others environment (x ∷ xs) ys at all (inr there) = among_others environment xs ys at all.1 there

-- ---- one variable is bound

pub value_new : (x : ℕ) (v : Value) (environment : Environment) → value_of (record { variable = x; value = v } ∷ environment) x ≡ v
value_new x v environment = rw (itself x) refl

pub value_old : (x y : ℕ) (v : Value) (environment : Environment) → (x == y) ≡ false → value_of (record { variable = x; value = v } ∷ environment) y ≡ value_of environment y
value_old x y v environment apart = rw apart refl

pub values_fresh : (x : ℕ) (v : Value) (environment : Environment) (ys : List ℕ) → is_among ys x ≡ false → values_of (record { variable = x; value = v } ∷ environment) ys ≡ values_of environment ys
values_fresh x v environment [] fresh = refl
values_fresh x v environment (y ∷ ys) fresh =
    rw (value_old x y v environment (turned y x (left_false (y == x) (is_among ys x) fresh)))
    (ap (λ vs. value_of environment y ∷ vs) (values_fresh x v environment ys (right_false (y == x) (is_among ys x) fresh)))

-- a variable that is among fresh ones is another one
pub other_variable : (x y : ℕ) (ys : List ℕ) → is_among ys x ≡ false → is_among ys y ≡ true → (x == y) ≡ false
other_variable x y ys fresh is = by_test (x == y) refl
  where
    by_test : (t : Bool) → (x == y) ≡ t → t ≡ false
    by_test false here = refl
    by_test true here = sym is ∙ (ap (is_among ys) (sym (same x y here)) ∙ fresh)

-- ---- the fields of a cell are bound

pub fields_fresh : (fields : List ℕ) (vs : List Value) (environment : Environment) (ys : List ℕ) → AreFresh fields ys → values_of (bind_fields fields vs environment) ys ≡ values_of environment ys
fields_fresh [] vs environment ys fresh = refl
fields_fresh (x ∷ xs) [] environment ys fresh = refl
fields_fresh (x ∷ xs) (v ∷ vs) environment ys fresh =
    fields_fresh xs vs (record { variable = x; value = v } ∷ environment) ys fresh.1 ∙ values_fresh x v environment ys fresh.0

pub field_past : (fields : List ℕ) (vs : List Value) (environment : Environment) (y : ℕ) → is_among fields y ≡ false → value_of (bind_fields fields vs environment) y ≡ value_of environment y
field_past [] vs environment y past = refl
field_past (x ∷ xs) [] environment y past = refl
field_past (x ∷ xs) (v ∷ vs) environment y past =
    field_past xs vs (record { variable = x; value = v } ∷ environment) y (right_false (x == y) (is_among xs y) past)
    ∙ value_old x y v environment (left_false (x == y) (is_among xs y) past)

-- each variable has its old value or that of a field
pub field_or_old : (P : Value → Type 0) (fields : List ℕ) (vs : List Value) (environment : Environment) (y : ℕ) → P (value_of environment y) → ((v : Value) → ((q : ℕ) → refs_of v q ≤ refs vs q) → P v) → P (value_of (bind_fields fields vs environment) y)
field_or_old P [] vs environment y old each = old
field_or_old P (x ∷ xs) [] environment y old each = old
field_or_old P (x ∷ xs) (v ∷ vs) environment y old each =
    field_or_old P xs vs (record { variable = x; value = v } ∷ environment) y
    (elim (x == y) as (λ t. P (if t then v else value_of environment y)) [ true ↦ each v (λ q. omega arith) | false ↦ old ])
    (λ w named. each w (λ q. omega (arith, named q)))

-- a variable of a field has the value of one
pub field_is_one : (P : Value → Type 0) (fields : List ℕ) (vs : List Value) (environment : Environment) (y : ℕ) → length vs ≡ length fields → is_among fields y ≡ true → ((v : Value) → ((q : ℕ) → refs_of v q ≤ refs vs q) → P v) → P (value_of (bind_fields fields vs environment) y)
field_is_one P [] vs environment y many is each = absurd (cc)
field_is_one P (x ∷ xs) [] environment y many is each = absurd (omega (arith, many))
field_is_one P (x ∷ xs) (v ∷ vs) environment y many is each =
    by_test (is_among xs y) refl
    (λ there. field_is_one P xs vs (record { variable = x; value = v } ∷ environment) y (omega (arith, many)) there (λ w named. each w (λ q. omega (arith, named q))))
  where
    here : (t : Bool) → (t || is_among xs y) ≡ true → is_among xs y ≡ false → t ≡ true
    here true is past = refl
    here false is past = sym past ∙ is

    by_test : (s : Bool) → is_among xs y ≡ s → (is_among xs y ≡ true → P (value_of (bind_fields xs vs (record { variable = x; value = v } ∷ environment)) y)) → P (value_of (bind_fields xs vs (record { variable = x; value = v } ∷ environment)) y)
    by_test true there later = later there
    by_test false past later =
        subst P (sym (field_past xs vs (record { variable = x; value = v } ∷ environment) y past ∙ ap (λ t. if t then v else value_of environment y) (here (x == y) is past)))
        (each v (λ q. omega arith))

-- the used fields
pub used_refs : (used fields : List ℕ) (vs : List Value) (environment : Environment) → AreApart fields → length vs ≡ length fields → values_of (bind_fields fields vs environment) (filter (is_among used) fields) ≡ used_values used fields vs
used_refs used [] vs environment apart many = refl
used_refs used (x ∷ xs) [] environment apart many = absurd (omega (arith, many))
used_refs used (x ∷ xs) (v ∷ vs) environment apart many =
    by_test (is_among used x) (used_refs used xs vs (record { variable = x; value = v } ∷ environment) apart.1 (omega (arith, many)))
  where
    bound : Environment
    bound = bind_fields xs vs (record { variable = x; value = v } ∷ environment)

    first : value_of (bind_fields xs vs (record { variable = x; value = v } ∷ environment)) x ≡ v
    first = field_past xs vs (record { variable = x; value = v } ∷ environment) x apart.0 ∙ value_new x v environment

    by_test : (t : Bool) → values_of (bind_fields xs vs (record { variable = x; value = v } ∷ environment)) (filter (is_among used) xs) ≡ used_values used xs vs → values_of (bind_fields xs vs (record { variable = x; value = v } ∷ environment)) (if t then x ∷ filter (is_among used) xs else filter (is_among used) xs) ≡ (if t then v ∷ used_values used xs vs else used_values used xs vs)
    by_test true later = rw first (ap (λ ws. v ∷ ws) later)
    by_test false later = later

pub fields_part : (used fields : List ℕ) (vs : List Value) (q : ℕ) → length vs ≡ length fields → refs vs q ≡ refs (used_values used fields vs) q + refs (other_values used fields vs) q
fields_part used [] [] q many = refl
fields_part used [] (v ∷ vs) q many = absurd (omega (arith, many))
fields_part used (x ∷ xs) [] q many = absurd (omega (arith, many))
fields_part used (x ∷ xs) (v ∷ vs) q many = by_test (is_among used x) (fields_part used xs vs q (omega (arith, many)))
  where
    by_test : (t : Bool) → refs vs q ≡ refs (used_values used xs vs) q + refs (other_values used xs vs) q → refs_of v q + refs vs q ≡ refs (if t then v ∷ used_values used xs vs else used_values used xs vs) q + refs (if not t then v ∷ other_values used xs vs else other_values used xs vs) q
    by_test true later = omega (arith, later)
    by_test false later = omega (arith, later)

-- ---- arguments and parameters

pub values_at : (environment : Environment) (takes : ℕ → Bool) (next : ℕ) (xs : List ℕ) → values_of environment (at_positions takes next xs) ≡ at_positions takes next (values_of environment xs)
values_at environment takes next [] = refl
values_at environment takes next (x ∷ xs) =
    elim (takes next) as (λ t. values_of environment (if t then x ∷ at_positions takes (suc next) xs else at_positions takes (suc next) xs) ≡ (if t then value_of environment x ∷ at_positions takes (suc next) (values_of environment xs) else at_positions takes (suc next) (values_of environment xs)))
    [ true ↦ ap (λ vs. value_of environment x ∷ vs) (values_at environment takes (suc next) xs) | false ↦ values_at environment takes (suc next) xs ]

pub parts_at : (lent : ℕ → Bool) (next q : ℕ) (vs : List Value) → refs vs q ≡ refs (at_positions (λ i. not (lent i)) next vs) q + refs (at_positions lent next vs) q
parts_at lent next q [] = refl
parts_at lent next q (v ∷ vs) = by_test (lent next) (parts_at lent (suc next) q vs)
  where
    by_test : (t : Bool) → refs vs q ≡ refs (at_positions (λ i. not (lent i)) (suc next) vs) q + refs (at_positions lent (suc next) vs) q → refs_of v q + refs vs q ≡ refs (if not t then v ∷ at_positions (λ i. not (lent i)) (suc next) vs else at_positions (λ i. not (lent i)) (suc next) vs) q + refs (if t then v ∷ at_positions lent (suc next) vs else at_positions lent (suc next) vs) q
    by_test true later = omega (arith, later)
    by_test false later = omega (arith, later)

older_parameter : (x next : ℕ) (vs : List Value) (environment : Environment) → x < next → value_of (bind_parameters next vs environment) x ≡ value_of environment x
older_parameter x next [] environment less = refl
older_parameter x next (v ∷ vs) environment less =
    older_parameter x (suc next) vs (record { variable = next; value = v } ∷ environment) (omega (arith, less))
    ∙ value_old next x v environment (apart (next == x) refl)
  where
    apart : (t : Bool) → (next == x) ≡ t → t ≡ false
    apart false is = refl
    apart true is = absurd (omega (arith, less, same next x is))

pub parameters_owned : (takes : ℕ → Bool) (next : ℕ) (vs : List Value) (environment : Environment) → values_of (bind_parameters next vs environment) (at_positions takes next (numbers_from next (length vs))) ≡ at_positions takes next vs
parameters_owned takes next [] environment = refl
parameters_owned takes next (v ∷ vs) environment =
    by_test (takes next) (parameters_owned takes (suc next) vs (record { variable = next; value = v } ∷ environment))
  where
    first : value_of (bind_parameters (suc next) vs (record { variable = next; value = v } ∷ environment)) next ≡ v
    first = older_parameter next (suc next) vs (record { variable = next; value = v } ∷ environment) (omega arith) ∙ value_new next v environment

    by_test : (t : Bool) → values_of (bind_parameters (suc next) vs (record { variable = next; value = v } ∷ environment)) (at_positions takes (suc next) (numbers_from (suc next) (length vs))) ≡ at_positions takes (suc next) vs → values_of (bind_parameters (suc next) vs (record { variable = next; value = v } ∷ environment)) (if t then next ∷ at_positions takes (suc next) (numbers_from (suc next) (length vs)) else at_positions takes (suc next) (numbers_from (suc next) (length vs))) ≡ (if t then v ∷ at_positions takes (suc next) vs else at_positions takes (suc next) vs)
    by_test true later = rw first (ap (λ ws. v ∷ ws) later)
    by_test false later = later

-- a parameter at a position that is taken has one of the values there
pub parameter_among : (takes : ℕ → Bool) (next : ℕ) (vs : List Value) (environment : Environment) (y at : ℕ) → value_of (bind_parameters next vs environment) y ≡ place at → (value_of environment y ≡ place at) ⊎ ((y < next + length vs) × (takes y ≡ true → Among (at_positions takes next vs) at))
parameter_among takes next [] environment y at named = inl named
parameter_among takes next (v ∷ vs) environment y at named =
    by_cases (parameter_among takes (suc next) vs (record { variable = next; value = v } ∷ environment) y at named) (next == y) refl
  where
    put : (t : Bool) → Among (at_positions takes (suc next) vs) at → Among (if t then v ∷ at_positions takes (suc next) vs else at_positions takes (suc next) vs) at
    put true there = inr there
    put false there = there

    by_cases : (value_of (record { variable = next; value = v } ∷ environment) y ≡ place at) ⊎ ((y < suc next + length vs) × (takes y ≡ true → Among (at_positions takes (suc next) vs) at)) → (t : Bool) → (next == y) ≡ t → (value_of environment y ≡ place at) ⊎ ((y < next + suc (length vs)) × (takes y ≡ true → Among (at_positions takes next (v ∷ vs)) at))
    by_cases (inr later) t is = inr (omega (arith, later.0), λ taken. put (takes next) (later.1 taken))
    by_cases (inl here) false is = inl (sym (value_old next y v environment is) ∙ here)
    by_cases (inl here) true is =
        inr (
          omega (arith, same next y is),
          λ taken. rw (ap takes (same next y is) ∙ taken) (inl (sym (ap (λ t. if t then v else value_of environment y) is) ∙ here)),
        )
