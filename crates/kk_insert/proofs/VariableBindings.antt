-- Code whose variables are in order is fine: what it reads is bound, what it binds is new, and the fields of cells that lent
-- variables name are lent, and no others.
use Rattle.std.proofs.Common.{◌≡◌, ◌⊎◌, inl, inr, ℕ, ◌+◌, ◌≤◌, ◌<◌, ◌==◌, Bool, true, false, List, [], ◌∷◌, ◌++◌, arith, refl, sym, ap, ◌∙◌}
use Rattle.std.specs.Prelude.{if◌then◌else◌}
use Rattle.kk_syntax.specs.Shapes.{is_among}
use Rattle.kk_core.specs.Codes.{Code, give, tail_call, case, compute, use_of, unpack, inside, Arms, no_arm, arm}
use Rattle.kk_core.specs.Sizes.{AreBound, Rise, Ordered, OrderedArms}
use Rattle.kk_counted.specs.Spending.{AreApart}
use Rattle.kk_counted.proofs.CountChanges.{same}
use Rattle.kk_insert.specs.Insertion.{lent_in, lent_in_arms}
use Rattle.kk_insert.proofs.Sets.{or_cases, no_both, false_if, Part, Clear, in_front, in_either, in_back}

module _ (lent : List ℕ) where
  abbrev pub FineFields : ℕ → List ℕ → Type 0
  FineFields x fields = ((is_among lent x ≡ true) × Part fields lent) ⊎ ((is_among lent x ≡ false) × Clear fields lent)

  abbrev mutual
    pub IsFine : List ℕ → Code → Type 0
    IsFine bound (give x) = is_among bound x ≡ true
    IsFine bound (tail_call f arguments) = Part arguments bound
    IsFine bound (case x decisions arms) = (is_among bound x ≡ true) × AreFine bound arms
    IsFine bound (compute x form arguments rest) =
        Part arguments bound × ((is_among bound x ≡ false) × ((is_among lent x ≡ false) × IsFine (x ∷ bound) rest))
    IsFine bound (use_of x rest) = (is_among bound x ≡ true) × IsFine bound rest
    IsFine bound (unpack x c fields rest) =
        (is_among bound x ≡ true) × (AreApart fields × (Clear fields bound × (FineFields x fields × IsFine (fields ++ bound) rest)))
    IsFine bound (inside x block rest) =
        IsFine bound block × ((is_among bound x ≡ false) × ((is_among lent x ≡ false) × IsFine (x ∷ bound) rest))

    pub AreFine : List ℕ → Arms → Type 0
    AreFine bound no_arm = Unit {0}
    AreFine bound (arm pattern body rest) = IsFine bound body × AreFine bound rest

-- all of a list are below a number
abbrev pub AreBelow : List ℕ → ℕ → Type 0
AreBelow xs n = (y : ℕ) → is_among xs y ≡ true → y < n

pub one_below : (x n y : ℕ) (xs : List ℕ) → AreBelow xs n → n ≤ x → is_among (x ∷ xs) y ≡ true → y < x + 1
one_below x n y xs below le is = either (or_cases (x == y) (is_among xs y) is)
  where
    either : ((x == y) ≡ true) ⊎ (is_among xs y ≡ true) → y < x + 1
    either (inl here) = omega (arith, same x y here)
    either (inr there) = omega (arith, below y there, le)

pub rise_high : (low : ℕ) (xs : List ℕ) (high : ℕ) → Rise low xs high → low ≤ high
rise_high low [] high rise = rise
rise_high low (x ∷ xs) high rise = omega (arith, rise.0, rise_high (x + 1) xs high rise.1)

-- the variables that rise from a number on are at least that, and below the other
pub rise_in : (low : ℕ) (xs : List ℕ) (high y : ℕ) → Rise low xs high → is_among xs y ≡ true → (low ≤ y) × (y < high)
rise_in low [] high y rise is = absurd (cc)
rise_in low (x ∷ xs) high y rise is = either (or_cases (x == y) (is_among xs y) is) (rise_in (x + 1) xs high y rise.1)
  where
    either : ((x == y) ≡ true) ⊎ (is_among xs y ≡ true) → (is_among xs y ≡ true → (x + 1 ≤ y) × (y < high)) → (low ≤ y) × (y < high)
    either (inl here) later = (omega (arith, rise.0, same x y here), omega (arith, same x y here, rise_high (x + 1) xs high rise.1))
    either (inr there) later = (omega (arith, rise.0, (later there).0), (later there).1)

pub rise_apart : (low : ℕ) (xs : List ℕ) (high : ℕ) → Rise low xs high → AreApart xs
rise_apart low [] high rise = tt
rise_apart low (x ∷ xs) high rise = (
  false_if (is_among xs x) (λ is. absurd (omega (arith, (rise_in (x + 1) xs high x rise.1 is).0))),
  rise_apart (x + 1) xs high rise.1,
)

mutual
  pub ordered_high : (bound : List ℕ) (low : ℕ) (code : Code) (high : ℕ) → Ordered bound low code high → low ≤ high
  ordered_high bound low (give x) high o = o.1
  ordered_high bound low (tail_call f arguments) high o = o.1
  ordered_high bound low (case x decisions arms) high o = arms_high bound low arms high o.1
  ordered_high bound low (compute x form arguments rest) high o = omega (arith, o.1, ordered_high (x ∷ bound) (x + 1) rest high o.2)
  ordered_high bound low (use_of x rest) high o = ordered_high bound low rest high o.1
  ordered_high bound low (unpack x c fields rest) high o =
      omega (arith, rise_high low fields o.0 o.2, ordered_high (fields ++ bound) o.0 rest high o.3)
  ordered_high bound low (inside x block rest) high o =
      omega (arith, ordered_high bound low block x o.0, ordered_high (x ∷ bound) (x + 1) rest high o.1)

  pub arms_high : (bound : List ℕ) (low : ℕ) (arms : Arms) (high : ℕ) → OrderedArms bound low arms high → low ≤ high
  arms_high bound low no_arm high o = o
  arms_high bound low (arm pattern body rest) high o =
      omega (arith, ordered_high bound low body o.0 o.1, arms_high bound o.0 rest high o.2)

-- ---- what a code lends besides is of its own numbers

fields_if : (t : Bool) (fields lent : List ℕ) (y : ℕ) → is_among fields y ≡ false
    → is_among (if t then fields ++ lent else lent) y ≡ is_among lent y
fields_if true fields lent y other = by_test (is_among lent y) refl
  where
    by_test : (s : Bool) → is_among lent y ≡ s → is_among (fields ++ lent) y ≡ is_among lent y
    by_test true is = in_back fields lent y is ∙ sym is
    by_test false is = false_if (is_among (fields ++ lent) y)
        (λ there. elim (in_either fields lent y there)
        [ inl one ↦ no_both ⊥ (is_among fields y) one other | inr two ↦ no_both ⊥ (is_among lent y) two is ]) ∙ sym is
fields_if false fields lent y other = refl

mutual
  pub lent_before : (lent bound : List ℕ) (low : ℕ) (code : Code) (high y : ℕ) → Ordered bound low code high → y < low
      → is_among (lent_in lent code) y ≡ is_among lent y
  lent_before lent bound low (give x) high y o less = refl
  lent_before lent bound low (tail_call f arguments) high y o less = refl
  lent_before lent bound low (case x decisions arms) high y o less = lent_before_arms lent bound low arms high y o.1 less
  lent_before lent bound low (compute x form arguments rest) high y o less =
      lent_before lent (x ∷ bound) (x + 1) rest high y o.2 (omega (arith, less, o.1))
  lent_before lent bound low (use_of x rest) high y o less = lent_before lent bound low rest high y o.1 less
  lent_before lent bound low (unpack x c fields rest) high y o less =
      lent_before (if is_among lent x then fields ++ lent else lent) (fields ++ bound) o.0 rest high y o.3
      (omega (arith, less, rise_high low fields o.0 o.2))
      ∙ fields_if (is_among lent x) fields lent y
      (false_if (is_among fields y) (λ is. absurd (omega (arith, less, (rise_in low fields o.0 y o.2 is).0))))
  lent_before lent bound low (inside x block rest) high y o less =
      lent_before (lent_in lent block) (x ∷ bound) (x + 1) rest high y o.1 (omega (arith, less, ordered_high bound low block x o.0))
      ∙ lent_before lent bound low block x y o.0 less

  lent_before_arms : (lent bound : List ℕ) (low : ℕ) (arms : Arms) (high y : ℕ) → OrderedArms bound low arms high → y < low
      → is_among (lent_in_arms lent arms) y ≡ is_among lent y
  lent_before_arms lent bound low no_arm high y o less = refl
  lent_before_arms lent bound low (arm pattern body rest) high y o less =
      lent_before_arms (lent_in lent body) bound o.0 rest high y o.2 (omega (arith, less, ordered_high bound low body o.0 o.1))
      ∙ lent_before lent bound low body o.0 y o.1 less

fields_below : (t : Bool) (fields lent : List ℕ) (low middle : ℕ) → Rise low fields middle → AreBelow lent low → (y : ℕ)
    → is_among (if t then fields ++ lent else lent) y ≡ true → y < middle
fields_below false fields lent low middle rise below y is = omega (arith, below y is, rise_high low fields middle rise)
fields_below true fields lent low middle rise below y is = either (in_either fields lent y is)
  where
    either : (is_among fields y ≡ true) ⊎ (is_among lent y ≡ true) → y < middle
    either (inl here) = (rise_in low fields middle y rise here).1
    either (inr there) = omega (arith, below y there, rise_high low fields middle rise)

mutual
  lent_below : (lent bound : List ℕ) (low : ℕ) (code : Code) (high : ℕ) → Ordered bound low code high → AreBelow lent low → (y : ℕ)
      → is_among (lent_in lent code) y ≡ true → y < high
  lent_below lent bound low (give x) high o below y is = omega (arith, below y is, o.1)
  lent_below lent bound low (tail_call f arguments) high o below y is = omega (arith, below y is, o.1)
  lent_below lent bound low (case x decisions arms) high o below y is = lent_below_arms lent bound low arms high o.1 below y is
  lent_below lent bound low (compute x form arguments rest) high o below y is =
      lent_below lent (x ∷ bound) (x + 1) rest high o.2 (λ z there. omega (arith, below z there, o.1)) y is
  lent_below lent bound low (use_of x rest) high o below y is = lent_below lent bound low rest high o.1 below y is
  lent_below lent bound low (unpack x c fields rest) high o below y is =
      lent_below (if is_among lent x then fields ++ lent else lent) (fields ++ bound) o.0 rest high o.3
      (λ z. fields_below (is_among lent x) fields lent low o.0 o.2 below z) y is
  lent_below lent bound low (inside x block rest) high o below y is =
      lent_below (lent_in lent block) (x ∷ bound) (x + 1) rest high o.1
      (λ z there. omega (arith, lent_below lent bound low block x o.0 below z there)) y is

  lent_below_arms : (lent bound : List ℕ) (low : ℕ) (arms : Arms) (high : ℕ) → OrderedArms bound low arms high → AreBelow lent low
      → (y : ℕ) → is_among (lent_in_arms lent arms) y ≡ true → y < high
  lent_below_arms lent bound low no_arm high o below y is = omega (arith, below y is, o)
  lent_below_arms lent bound low (arm pattern body rest) high o below y is =
      lent_below_arms (lent_in lent body) bound o.0 rest high o.2 (λ z. lent_below lent bound low body o.0 o.1 below z) y is

-- ---- code in order is fine

pub bound_part : (bound arguments : List ℕ) → AreBound bound arguments → Part arguments bound
bound_part bound [] all y is = absurd (cc)
bound_part bound (x ∷ xs) all y is = either (or_cases (x == y) (is_among xs y) is) (bound_part bound xs all.1 y)
  where
    either : ((x == y) ≡ true) ⊎ (is_among xs y ≡ true) → (is_among xs y ≡ true → is_among bound y ≡ true) → is_among bound y ≡ true
    either (inl here) later = ap (is_among bound) (sym (same x y here)) ∙ all.0
    either (inr there) later = later there

never_below : (xs : List ℕ) (n x : ℕ) → AreBelow xs n → n ≤ x → is_among xs x ≡ false
never_below xs n x below le = false_if (is_among xs x) (λ is. absurd (omega (arith, below x is, le)))

module _ (lent : List ℕ) where
  fine_fields : (now bound : List ℕ) (low middle high x : ℕ) (fields : List ℕ) (rest : Code) → Rise low fields middle
      → Ordered (fields ++ bound) middle rest high
      → AreBelow bound low → AreBelow now low → is_among bound x ≡ true
      → (t : Bool) → is_among now x ≡ t
      → ((y : ℕ) → y < high → is_among lent y ≡ is_among (lent_in (if t then fields ++ now else now) rest) y)
      → FineFields lent x fields
  fine_fields now bound low middle high x fields rest rise o below now_below is true here alike =
      inl (
        alike x (omega (arith, below x is, rise_high low fields middle rise, ordered_high (fields ++ bound) middle rest high o))
            ∙ (lent_before (fields ++ now) (fields ++ bound) middle rest high x o
            (omega (arith, below x is, rise_high low fields middle rise)) ∙ in_back fields now x here),
        λ y one.
            alike y (omega (arith, (rise_in low fields middle y rise one).1, ordered_high (fields ++ bound) middle rest high o))
            ∙ (lent_before (fields ++ now) (fields ++ bound) middle rest high y o (rise_in low fields middle y rise one).1
            ∙ in_front fields now y one),
      )
  fine_fields now bound low middle high x fields rest rise o below now_below is false here alike =
      inr (
        alike x (omega (arith, below x is, rise_high low fields middle rise, ordered_high (fields ++ bound) middle rest high o))
            ∙ (lent_before now (fields ++ bound) middle rest high x o (omega (arith, below x is, rise_high low fields middle rise))
            ∙ here),
        λ y one.
            alike y (omega (arith, (rise_in low fields middle y rise one).1, ordered_high (fields ++ bound) middle rest high o))
            ∙ (lent_before now (fields ++ bound) middle rest high y o (rise_in low fields middle y rise one).1
            ∙ never_below now low y now_below (rise_in low fields middle y rise one).0),
      )

  mutual
    pub ordered_fine : (now bound : List ℕ) (low : ℕ) (code : Code) (high : ℕ) → Ordered bound low code high → AreBelow bound low
        → AreBelow now low
        → ((y : ℕ) → y < high → is_among lent y ≡ is_among (lent_in now code) y) → IsFine lent bound code
    ordered_fine now bound low (give x) high o below now_below alike = o.0
    ordered_fine now bound low (tail_call f arguments) high o below now_below alike = bound_part bound arguments o.0
    ordered_fine now bound low (case x decisions arms) high o below now_below alike =
        (o.0, ordered_fine_arms now bound low arms high o.1 below now_below alike)
    ordered_fine now bound low (compute x form arguments rest) high o below now_below alike = (
      bound_part bound arguments o.0,
      (
        never_below bound low x below o.1,
        (
          alike x (omega (arith, ordered_high (x ∷ bound) (x + 1) rest high o.2))
              ∙ (lent_before now (x ∷ bound) (x + 1) rest high x o.2 (omega arith) ∙ never_below now low x now_below o.1),
          ordered_fine now (x ∷ bound) (x + 1) rest high o.2 (λ y is. one_below x low y bound below o.1 is)
              (λ y is. omega (arith, now_below y is, o.1)) alike,
        ),
      ),
    )
    ordered_fine now bound low (use_of x rest) high o below now_below alike =
        (o.0, ordered_fine now bound low rest high o.1 below now_below alike)
    ordered_fine now bound low (unpack x c fields rest) high o below now_below alike = (
      o.1,
      (
        rise_apart low fields o.0 o.2,
        (
          λ y is. never_below bound low y below (rise_in low fields o.0 y o.2 is).0,
          (
            fine_fields now bound low o.0 high x fields rest o.2 o.3 below now_below o.1 (is_among now x) refl alike,
            ordered_fine (if is_among now x then fields ++ now else now) (fields ++ bound) o.0 rest high o.3
                (λ y is. fields_below true fields bound low o.0 o.2 below y is)
                (λ y is. fields_below (is_among now x) fields now low o.0 o.2 now_below y is) alike,
          ),
        ),
      ),
    )
    ordered_fine now bound low (inside x block rest) high o below now_below alike = (
      ordered_fine now bound low block x o.0 below now_below
          (λ y less. alike y (omega (arith, less, ordered_high (x ∷ bound) (x + 1) rest high o.1))
          ∙ lent_before (lent_in now block) (x ∷ bound) (x + 1) rest high y o.1 (omega (arith, less))),
      (
        never_below bound low x below (ordered_high bound low block x o.0),
        (
          alike x (omega (arith, ordered_high (x ∷ bound) (x + 1) rest high o.1))
              ∙ (lent_before (lent_in now block) (x ∷ bound) (x + 1) rest high x o.1 (omega arith)
              ∙ never_below (lent_in now block) x x (λ y is. lent_below now bound low block x o.0 now_below y is) (omega arith)),
          ordered_fine (lent_in now block) (x ∷ bound) (x + 1) rest high o.1
              (λ y is. one_below x low y bound below (ordered_high bound low block x o.0) is)
              (λ y is. omega (arith, lent_below now bound low block x o.0 now_below y is)) alike,
        ),
      ),
    )

    ordered_fine_arms : (now bound : List ℕ) (low : ℕ) (arms : Arms) (high : ℕ) → OrderedArms bound low arms high
        → AreBelow bound low → AreBelow now low
        → ((y : ℕ) → y < high → is_among lent y ≡ is_among (lent_in_arms now arms) y) → AreFine lent bound arms
    ordered_fine_arms now bound low no_arm high o below now_below alike = tt
    ordered_fine_arms now bound low (arm pattern body rest) high o below now_below alike = (
      ordered_fine now bound low body o.0 o.1 below now_below
          (λ y less. alike y (omega (arith, less, arms_high bound o.0 rest high o.2))
          ∙ lent_before_arms (lent_in now body) bound o.0 rest high y o.2 less),
      ordered_fine_arms (lent_in now body) bound o.0 rest high o.2
          (λ y is. omega (arith, below y is, ordered_high bound low body o.0 o.1))
          (λ y is. lent_below now bound low body o.0 o.1 now_below y is) alike,
    )
