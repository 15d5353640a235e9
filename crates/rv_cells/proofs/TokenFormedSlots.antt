-- What may be read in code with tokens: the variables that are bound, and the values of the slots that are unspent.
use Rattle.std.proofs.Common.{◌≡◌, ◌≢◌, ℕ, zero, suc, ◌+◌, ◌<◌, ◌≤◌, ◌==◌, ◌||◌, ◌⊎◌, inl, inr, Bool, true, false, List, [], ◌∷◌}
use Rattle.std.proofs.Common.{refl, sym, subst, ◌∙◌, arith}
use Rattle.std.specs.Prelude.{if◌then◌else◌}
use Rattle.std.specs.List.{AllByRecursion}
use Rattle.std.proofs.lemmas.Bool.{or_cases, or_left, or_right, eq-eqb, eqb-true, false≢true, false_from_ne_true}
use Rattle.kk_syntax.specs.Shapes.{is_among}
use Rattle.kk_core.specs.Sizes.{AreBound}
use Rattle.kk_counted.specs.Lowerable.{AreBelow}
use Rattle.kk_counted.specs.Spending.{AreApart}
use Rattle.rv_isa.specs.WellFormed.{most_values}
use Rattle.rv_lower.proofs.WellFormedness.{HasRoom, IsWithin, most_temporaries}
use Rattle.rv_cells.specs.TokenedLines.{values_of_slots}

module _ (variables : ℕ) where
  -- the variables, and the values of the unspent slots below a number
  abbrev pub read_below : ℕ → List ℕ → List ℕ → List ℕ
  read_below zero unspent bound = bound
  read_below (suc n) unspent bound =
      if is_among unspent n then (variables + n) ∷ read_below n unspent bound else read_below n unspent bound

  -- a member more, or none
  one_more : (t : Bool) (n : ℕ) (xs : List ℕ) → IsWithin xs (if t then (variables + n) ∷ xs else xs)
  one_more true n xs v is = or_right (variables + n == v) (is_among xs v) is
  one_more false n xs v is = is

  first_there : (t : Bool) (n : ℕ) (xs : List ℕ) → t ≡ true
      → is_among (if t then (variables + n) ∷ xs else xs) (variables + n) ≡ true
  first_there true n xs is = or_left (variables + n == variables + n) (is_among xs (variables + n)) (eq-eqb (variables + n) _ refl)
  first_there false n xs is = absurd (false≢true is)

  -- the variables are among them
  pub variable_there : (n : ℕ) (unspent bound : List ℕ) → IsWithin bound (read_below n unspent bound)
  variable_there zero unspent bound v is = is
  variable_there (suc n) unspent bound v is =
      one_more (is_among unspent n) n (read_below n unspent bound) v (variable_there n unspent bound v is)

  -- and so are the slots
  pub slot_there : (n : ℕ) (unspent bound : List ℕ) (y : ℕ) → y < n → is_among unspent y ≡ true
      → is_among (read_below n unspent bound) (variables + y) ≡ true
  slot_there zero unspent bound y less is = absurd (omega (arith, less))
  slot_there (suc n) unspent bound y less is = by (n == y) refl (λ lower. slot_there n unspent bound y lower is)
    where
      lower : (n ≡ y → ⊥) → y < n
      lower differs = let ne : n ≢ y = differs in omega (arith, less, ne)

      by : (t : Bool) → (n == y) ≡ t → (y < n → is_among (read_below n unspent bound) (variables + y) ≡ true)
          → is_among (if is_among unspent n then (variables + n) ∷ read_below n unspent bound else read_below n unspent bound)
          (variables + y) ≡ true
      by true same later =
          subst (λ (z : ℕ). is_among (if is_among unspent n then (variables + n) ∷ read_below n unspent bound
          else read_below n unspent bound) (variables + z) ≡ true) (eqb-true n y same)
          (first_there (is_among unspent n) n (read_below n unspent bound)
          (subst (λ (z : ℕ). is_among unspent z ≡ true) (sym (eqb-true n y same)) is))
      by false other later =
          one_more (is_among unspent n) n (read_below n unspent bound) (variables + y)
          (later (lower (λ e. false≢true (sym other ∙ eq-eqb n y e))))

  -- nothing else is
  pub read_within : (n : ℕ) (unspent bound more : List ℕ) → IsWithin bound more
      → ((y : ℕ) → y < n → is_among unspent y ≡ true → is_among more (variables + y) ≡ true)
      → IsWithin (read_below n unspent bound) more
  read_within zero unspent bound more within slots v is = within v is
  read_within (suc n) unspent bound more within slots v is =
      by (is_among unspent n) refl is (read_within n unspent bound more within (λ y less. slots y (omega (arith, less))) v)
    where
      by : (t : Bool) → is_among unspent n ≡ t
          → is_among (if t then (variables + n) ∷ read_below n unspent bound else read_below n unspent bound) v ≡ true
          → (is_among (read_below n unspent bound) v ≡ true → is_among more v ≡ true) → is_among more v ≡ true
      by false other is later = later is
      by true there is later = split (or_cases (variables + n == v) (is_among (read_below n unspent bound) v) is)
        where
          split : ((variables + n == v) ≡ true) ⊎ (is_among (read_below n unspent bound) v ≡ true) → is_among more v ≡ true
          split (inl same) =
              subst (λ (u : ℕ). is_among more u ≡ true) (eqb-true (variables + n) v same) (slots n (omega arith) there)
          split (inr rest) = later rest

  -- ---- room

  -- they are below the temporaries, and those are below the most values that there are
  pub room_read : (slots : ℕ) (unspent bound : List ℕ) → (variables + slots) + most_temporaries ≤ most_values
      → ((v : ℕ) → is_among bound v ≡ true → v < variables) → HasRoom (variables + slots) (read_below slots unspent bound)
  room_read slots unspent bound room low = record { room = room; low = below slots (omega arith) }
    where
      below : (n : ℕ) → n ≤ slots → (v : ℕ) → is_among (read_below n unspent bound) v ≡ true → v < variables + slots
      below zero le v is = let less = low v is in omega (arith, less)
      below (suc n) le v is = by (is_among unspent n) is (below n (omega (arith, le)) v)
        where
          by : (t : Bool) → is_among (if t then (variables + n) ∷ read_below n unspent bound else read_below n unspent bound) v
              ≡ true → (is_among (read_below n unspent bound) v ≡ true → v < variables + slots) → v < variables + slots
          by false is later = later is
          by true is later = split (or_cases (variables + n == v) (is_among (read_below n unspent bound) v) is)
            where
              split : ((variables + n == v) ≡ true) ⊎ (is_among (read_below n unspent bound) v ≡ true) → v < variables + slots
              split (inl same) = let e = eqb-true (variables + n) v same in omega (arith, e, le)
              split (inr rest) = later rest

  -- ---- values of slots

  pub values_there : (n : ℕ) (unspent bound others : List ℕ) → AreBelow n others
      → ((y : ℕ) → is_among others y ≡ true → is_among unspent y ≡ true)
      → AreBound (read_below n unspent bound) (values_of_slots variables others)
  values_there n unspent bound [] below are = tt
  values_there n unspent bound (y ∷ others) below are = (
    slot_there n unspent bound y below.0 (are y (or_left (y == y) (is_among others y) (eq-eqb y y refl))),
    values_there n unspent bound others below.1 (λ z is. are z (or_right (y == z) (is_among others z) is)),
  )

  -- each is a value of a slot
  pub values_between : (slots : ℕ) (others : List ℕ) → AreBelow slots others
      → AllByRecursion (λ (v : ℕ). (variables ≤ v) × (v < variables + slots)) (values_of_slots variables others)
  values_between slots [] below = tt
  values_between slots (y ∷ others) below =
      let less = below.0 in ((omega arith, omega (arith, less)), values_between slots others below.1)

  -- different slots have different values
  pub value_other : (y : ℕ) (others : List ℕ) → is_among others y ≡ false
      → is_among (values_of_slots variables others) (variables + y) ≡ false
  value_other y [] other = refl
  value_other y (z ∷ others) other =
      false_from_ne_true _ (λ is. split (value_other y others parts.1) (or_cases (variables + z == variables + y)
      (is_among (values_of_slots variables others) (variables + y)) is))
    where
      neither : (a b : Bool) → (a || b) ≡ false → (a ≡ false) × (b ≡ false)
      neither false false is = (refl, refl)
      neither true b is = absurd (false≢true (sym is))
      neither false true is = absurd (false≢true (sym is))

      parts : ((z == y) ≡ false) × (is_among others y ≡ false)
      parts = neither (z == y) (is_among others y) other

      split : is_among (values_of_slots variables others) (variables + y) ≡ false
          → ((variables + z == variables + y) ≡ true) ⊎ (is_among (values_of_slots variables others) (variables + y) ≡ true) → ⊥
      split later (inl same) =
          let e = eqb-true (variables + z) (variables + y) same in
          let same_slot : z ≡ y = omega (arith, e) in false≢true (sym parts.0 ∙ eq-eqb z y same_slot)
      split later (inr is) = false≢true (sym later ∙ is)

  pub values_apart : (others : List ℕ) → AreApart others → AreApart (values_of_slots variables others)
  values_apart [] apart = tt
  values_apart (y ∷ others) apart = (value_other y others apart.0, values_apart others apart.1)
