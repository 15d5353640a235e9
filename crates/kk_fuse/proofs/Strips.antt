-- Code without the next drops of some variables, by its first form.
use Rattle.std.proofs.Common.{◌≡◌, ◌⊎◌, inl, inr, ℕ, ◌==◌, ◌||◌, Bool, true, false, List, [], ◌∷◌, ◌++◌, Option, Some, None, arith}
use Rattle.std.proofs.Common.{refl, sym, ap, ◌∙◌, subst}
use Rattle.std.specs.Prelude.{if◌then◌else◌, option_map}
use Rattle.kk_syntax.specs.declared.program.Form.{Form}
use Rattle.kk_syntax.specs.Shapes.{is_among}
use Rattle.kk_source.specs.Matching.{and_then}
use Rattle.kk_counted.specs.CountedCodes.{Counted, compute, read, dup, drop}
use Rattle.kk_counted.specs.VariableLists.{minus}
use Rattle.kk_counted.specs.Spending.{AreEven}
use Rattle.kk_counted.proofs.CountChanges.{same, itself}
use Rattle.kk_counted.proofs.Variables.{among_cases, turned}
use Rattle.kk_counted.proofs.Evenness.{minus_even, even_among, total_append}
use Rattle.kk_fuse.specs.Fused.{is_plain, without_drop}

-- the code without the next drop of each variable, the first one first
abbrev pub strip : List ℕ → Counted → Option Counted
strip [] code = Some code
strip (x ∷ xs) code = and_then (without_drop x code) (strip xs)

-- none of the variables is among others
abbrev pub ArePast : List ℕ → List ℕ → Type 0
ArePast xs ys = (x : ℕ) → is_among xs x ≡ true → is_among ys x ≡ false

some_is : {A : Type 0} (a b : A) → Some a ≡ Some b → a ≡ b
some_is a b is = cc

past_first : (x : ℕ) (xs ys : List ℕ) → is_among ys x ≡ false → ArePast xs ys → (z : ℕ) → is_among (x ∷ xs) z ≡ true
    → is_among ys z ≡ false
past_first x xs ys first rest z is = by_test (x == z) refl is
  where
    by_test : (t : Bool) → (x == z) ≡ t → (t || is_among xs z) ≡ true → is_among ys z ≡ false
    by_test true here is = subst (λ w. is_among ys w ≡ false) (same x z here) first
    by_test false here is = rest z is

-- what stands behind a dup, a reading or a form, where the code begins with it
pub record IsPast (xs : List ℕ) (y : ℕ) (put : Counted → Counted) (rest fused : Counted) : Type 0 where
  pub less : Counted
  pub strips : strip xs rest ≡ Some less
  pub is : fused ≡ put less
  pub other : is_among xs y ≡ false

-- a form that each drop passes, if the variable is another one
past_one : (x y : ℕ) (xs : List ℕ) (put : Counted → Counted) (rest fused : Counted) (found : Option Counted)
    → without_drop x rest ≡ found → (y == x) ≡ false
    → ((less : Counted) → strip xs (put less) ≡ Some fused → IsPast xs y put less fused)
    → and_then (option_map put found) (strip xs) ≡ Some fused → IsPast (x ∷ xs) y put rest fused
past_one x y xs put rest fused None is apart later strips = absurd (cc)
past_one x y xs put rest fused (Some less) is apart later strips =
    let one = later less strips in
    record { less = one.less; strips = rw is one.strips; is = one.is; other = rw (turned y x apart) one.other }

past_nothing : (y : ℕ) (put : Counted → Counted) (rest fused : Counted) → Some (put rest) ≡ Some fused
    → IsPast [] y put rest fused
past_nothing y put rest fused is = record { less = rest; strips = refl; is = sym (some_is _ _ is); other = refl }

pub strip_dup : (xs : List ℕ) (y : ℕ) (rest fused : Counted) → strip xs (dup y rest) ≡ Some fused
    → IsPast xs y (dup y) rest fused
strip_dup [] y rest fused is = past_nothing y (dup y) rest fused is
strip_dup (x ∷ xs) y rest fused is = by_test (y == x) refl is (λ less. strip_dup xs y less fused)
  where
    by_test : (t : Bool) → (y == x) ≡ t
        → and_then (if t then None else option_map (dup y) (without_drop x rest)) (strip xs) ≡ Some fused
        → ((less : Counted) → strip xs (dup y less) ≡ Some fused → IsPast xs y (dup y) less fused)
        → IsPast (x ∷ xs) y (dup y) rest fused
    by_test true here is later = absurd (cc)
    by_test false apart is later = past_one x y xs (dup y) rest fused (without_drop x rest) refl apart later is

pub strip_read : (xs : List ℕ) (y c : ℕ) (fields : List ℕ) (rest fused : Counted)
    → strip xs (read y c fields rest) ≡ Some fused → IsPast xs y (read y c fields) rest fused
strip_read [] y c fields rest fused is = past_nothing y (read y c fields) rest fused is
strip_read (x ∷ xs) y c fields rest fused is =
    by_test (y == x) refl (is_among fields x) is (λ less. strip_read xs y c fields less fused)
  where
    by_test : (t : Bool) → (y == x) ≡ t → (s : Bool)
        → and_then (if t || s then None else option_map (read y c fields) (without_drop x rest)) (strip xs) ≡ Some fused
        → ((less : Counted) → strip xs (read y c fields less) ≡ Some fused → IsPast xs y (read y c fields) less fused)
        → IsPast (x ∷ xs) y (read y c fields) rest fused
    by_test true here s is later = absurd (cc)
    by_test false apart true is later = absurd (cc)
    by_test false apart false is later =
        past_one x y xs (read y c fields) rest fused (without_drop x rest) refl apart later is

pub strip_compute : (xs : List ℕ) (y : ℕ) (form : Form) (arguments : List ℕ) (rest fused : Counted)
    → strip xs (compute y form arguments rest) ≡ Some fused
    → IsPast xs y (compute y form arguments) rest fused × ArePast xs arguments
strip_compute [] y form arguments rest fused is =
    (past_nothing y (compute y form arguments) rest fused is, λ x among. absurd (cc))
strip_compute (x ∷ xs) y form arguments rest fused is =
    by_test (y == x) refl (is_among arguments x) refl (is_plain form arguments) is
    (λ less. strip_compute xs y form arguments less fused)
  where
    by_found : (y == x) ≡ false → is_among arguments x ≡ false → (found : Option Counted) → without_drop x rest ≡ found
        → and_then (option_map (compute y form arguments) found) (strip xs) ≡ Some fused
        → ((less : Counted) → strip xs (compute y form arguments less) ≡ Some fused
        → IsPast xs y (compute y form arguments) less fused × ArePast xs arguments)
        → IsPast (x ∷ xs) y (compute y form arguments) rest fused × ArePast (x ∷ xs) arguments
    by_found apart at None found is later = absurd (cc)
    by_found apart at (Some less) found is later = (
      past_one x y xs (compute y form arguments) rest fused (Some less) found apart (λ other strips. (later other strips).0) is,
      past_first x xs arguments at (later less is).1,
    )

    by_test : (t : Bool) → (y == x) ≡ t → (s : Bool) → is_among arguments x ≡ s → (p : Bool)
        → and_then
        (if t || s then None
        else if p then option_map (compute y form arguments) (without_drop x rest) else None) (strip xs) ≡ Some fused
        → ((less : Counted) → strip xs (compute y form arguments less) ≡ Some fused
        → IsPast xs y (compute y form arguments) less fused × ArePast xs arguments)
        → IsPast (x ∷ xs) y (compute y form arguments) rest fused × ArePast (x ∷ xs) arguments
    by_test true here s at p is later = absurd (cc)
    by_test false apart true at p is later = absurd (cc)
    by_test false apart false at false is later = absurd (cc)
    by_test false apart false at true is later = by_found apart at (without_drop x rest) refl is later

-- a form that a pending drop passes is plain
pub strip_plain : (x : ℕ) (xs : List ℕ) (y : ℕ) (form : Form) (arguments : List ℕ) (rest fused : Counted)
    → strip (x ∷ xs) (compute y form arguments rest) ≡ Some fused → is_plain form arguments ≡ true
strip_plain x xs y form arguments rest fused is = by_test (y == x || is_among arguments x) (is_plain form arguments) refl is
  where
    by_test : (t p : Bool) → is_plain form arguments ≡ p
        → and_then (if t then None
        else if p then option_map (compute y form arguments) (without_drop x rest) else None) (strip xs) ≡ Some fused
        → is_plain form arguments ≡ true
    by_test true p at is = absurd (cc)
    by_test false true at is = at
    by_test false false at is = absurd (cc)

-- a drop: of another variable, or the next one of a variable that is pending
pub record IsTaken (xs : List ℕ) (y : ℕ) (rest fused : Counted) : Type 0 where
  pub others : List ℕ
  pub strips : strip others rest ≡ Some fused
  pub even : AreEven xs (y ∷ others)

pub strip_drop : (xs : List ℕ) (y : ℕ) (rest fused : Counted) → strip xs (drop y rest) ≡ Some fused
    → IsPast xs y (drop y) rest fused ⊎ IsTaken xs y rest fused
strip_drop [] y rest fused is = inl (past_nothing y (drop y) rest fused is)
strip_drop (x ∷ xs) y rest fused is = by_test (y == x) refl is (λ less. strip_drop xs y less fused)
  where
    put : (less : Counted) → (y == x) ≡ false → without_drop x rest ≡ Some less
        → IsPast xs y (drop y) less fused ⊎ IsTaken xs y less fused
        → IsPast (x ∷ xs) y (drop y) rest fused ⊎ IsTaken (x ∷ xs) y rest fused
    put less apart found (inl one) =
        inl (record { less = one.less; strips = rw found one.strips; is = one.is; other = rw (turned y x apart) one.other })
    put less apart found (inr one) =
        inr (record {
          others = x ∷ one.others;
          strips = rw found one.strips;
          even = λ weight. omega (arith, one.even weight);
        })

    by_found : (y == x) ≡ false → (found : Option Counted) → without_drop x rest ≡ found
        → and_then (option_map (drop y) found) (strip xs) ≡ Some fused
        → ((less : Counted) → strip xs (drop y less) ≡ Some fused → IsPast xs y (drop y) less fused ⊎ IsTaken xs y less fused)
        → IsPast (x ∷ xs) y (drop y) rest fused ⊎ IsTaken (x ∷ xs) y rest fused
    by_found apart None found is later = absurd (cc)
    by_found apart (Some less) found is later = put less apart found (later less is)

    by_test : (t : Bool) → (y == x) ≡ t
        → and_then (if t then Some rest else option_map (drop y) (without_drop x rest)) (strip xs) ≡ Some fused
        → ((less : Counted) → strip xs (drop y less) ≡ Some fused → IsPast xs y (drop y) less fused ⊎ IsTaken xs y less fused)
        → IsPast (x ∷ xs) y (drop y) rest fused ⊎ IsTaken (x ∷ xs) y rest fused
    by_test true here is later =
        inr (record { others = xs; strips = is; even = λ weight. omega (arith, ap weight (same y x here)) })
    by_test false apart is later = by_found apart (without_drop x rest) refl is later

-- ---- what is owned beside the pending variables

-- what is used up is none of them: so the rest owns them still, and what is owned beside them owned what is used up
pub record IsSplit (xs used kept owned : List ℕ) : Type 0 where
  pub beside : List ℕ
  pub kept_is : AreEven kept (xs ++ beside)
  pub owned_is : AreEven owned (used ++ beside)

pub split : (xs used kept owned : List ℕ) → AreEven (xs ++ owned) (used ++ kept) → ArePast xs used
    → IsSplit xs used kept owned
split [] used kept owned even past = record { beside = kept; kept_is = λ weight. refl; owned_is = even }
split (x ∷ xs) used kept owned even past =
    let later : IsSplit xs used (minus x kept) owned = split xs used (minus x kept) owned
    (λ weight. omega (
      arith,
      even weight,
      total_append weight used kept,
      total_append weight used (minus x kept),
      minus_even x kept there weight,
    ))
    past_rest in
    record {
      beside = later.beside;
      kept_is = λ weight. omega (arith, minus_even x kept there weight, later.kept_is weight);
      owned_is = later.owned_is;
    }
  where
    first : is_among (x ∷ xs) x ≡ true
    first = rw (itself x) refl

    found : (is_among used x ≡ true) ⊎ (is_among kept x ≡ true) → is_among kept x ≡ true
    found (inl here) = absurd (let both : true ≡ false = sym here ∙ past x first in cc)
    found (inr here) = here

    there : is_among kept x ≡ true
    there = found (among_cases used kept x (even_among (x ∷ (xs ++ owned)) (used ++ kept) x even (rw (itself x) refl)))

    past_rest : (z : ℕ) → is_among xs z ≡ true → is_among used z ≡ false
    past_rest z is = past z (by_test (x == z))
      where
        by_test : (t : Bool) → (t || is_among xs z) ≡ true
        by_test true = refl
        by_test false = is
