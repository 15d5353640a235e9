-- The values of a frame have the words of its variables.
use Rattle.std.proofs.Common.{◌≡◌, ◌≢◌, ◌<◌, ◌≤◌, ◌⊎◌, inl, inr, ℕ, zero, suc, ◌==◌, Bool, true, false, List, [], ◌∷◌, length, map, Option, Some, None, refl, sym, ◌∙◌, ap, subst, arith, eqb-true, ne_eqb}
use Rattle.std.specs.Prelude.{◌||◌, ◌&&◌, if◌then◌else◌}
use Rattle.std.proofs.lemmas.Bool.{cases_eq}
use Rattle.kk_syntax.specs.Shapes.{is_among}
use Rattle.kk_source.specs.State.{Value, integer, unit, constant, place, Environment}
use Rattle.kk_source.specs.Live.{value_of}
use Rattle.kk_source.specs.Matching.{and_then}
use Rattle.kk_source.specs.Sound.{Within, AllWithin}
use Rattle.kk_core.specs.CoreMachine.{bind_fields}
use Rattle.kk_counted.specs.Heaps.{Held, Heap, held_at, if_counted}
use Rattle.kk_counted.specs.CountedMachine.{Named, cell_named, if_made_by}
use Rattle.kk_counted.specs.Lowerable.{AreBelow, bound_list}
use Rattle.rv_isa.specs.Frames.{put}
use Rattle.rv_lower.proofs.FormEffects.{put_same, put_other}
use Rattle.rv_cells.specs.Layout.{Layout, word_in, words_in, FitsField, FitFields}
use Rattle.rv_cells.specs.CountedCells.{assign}
use Rattle.rv_cells.proofs.Words.{value_older, within_more}

-- Each bound variable is below the temporaries, and has the word of its value; it is of a type with cells or not as its value
-- is; and it names an older cell than the next one.
pub record HasValues (layout : Layout) (address : ℕ → ℕ) (holds : ℕ → Bool) (base next : ℕ) (bound : List ℕ)
    (environment : Environment) (values : ℕ → Option ℕ) : Type 0 where
  pub below : (x : ℕ) → is_among bound x ≡ true → x < base
  pub words : (x : ℕ) → is_among bound x ≡ true → values x ≡ Some (word_in layout address (value_of environment x))
  pub fits : (x : ℕ) → is_among bound x ≡ true → FitsField (holds x) (value_of environment x)
  pub older : (x : ℕ) → is_among bound x ≡ true → Within next (value_of environment x)

-- ---- values that are written

abbrev pub put_list : List ℕ → List ℕ → (ℕ → Option ℕ) → ℕ → Option ℕ
put_list [] words values = values
put_list (x ∷ xs) [] values = values
put_list (x ∷ xs) (word ∷ words) values = put_list xs words (put x (Some word) values)

-- ---- bound variables

pub among_by : (x : ℕ) (xs : List ℕ) (z : ℕ) → is_among (x ∷ xs) z ≡ true → (x ≡ z) ⊎ (is_among xs z ≡ true)
among_by x xs z is = by (x == z) refl is
  where
    by : (b : Bool) → (x == z) ≡ b → (b || is_among xs z) ≡ true → (x ≡ z) ⊎ (is_among xs z ≡ true)
    by true same among = inl (eqb-true x z same)
    by false other among = inr among

pub among_none : (x : ℕ) (xs : List ℕ) (z : ℕ) → is_among (x ∷ xs) z ≡ false → (z ≢ x) × (is_among xs z ≡ false)
among_none x xs z not = by (x == z) refl not
  where
    by : (b : Bool) → (x == z) ≡ b → (b || is_among xs z) ≡ false → (z ≢ x) × (is_among xs z ≡ false)
    by true same among = cc
    by false other among = (λ e. let itself : (x == z) ≡ true = grind arith in let both = sym other ∙ itself in cc, among)

pub value_same : (x z : ℕ) (v : Value) (environment : Environment) → x ≡ z
    → value_of (record { variable = x; value = v } ∷ environment) z ≡ v
value_same x z v environment e = let itself : (x == z) ≡ true = grind arith in rw itself refl

pub value_other : (x z : ℕ) (v : Value) (environment : Environment) → x ≢ z
    → value_of (record { variable = x; value = v } ∷ environment) z ≡ value_of environment z
value_other x z v environment differ = rw (ne_eqb x z differ) refl

module _ {layout : Layout} {address : ℕ → ℕ} {holds : ℕ → Bool} {base next : ℕ} {bound : List ℕ} {environment : Environment}
    {values : ℕ → Option ℕ} (has : HasValues layout address holds base next bound environment values) where
  -- a variable more
  pub has_bound : (x : ℕ) (v : Value) → x < base → FitsField (holds x) v → Within next v
      → HasValues layout address holds base next (x ∷ bound) (record { variable = x; value = v } ∷ environment)
      (put x (Some (word_in layout address v)) values)
  has_bound x v low fit within = record {
    below = λ z is. elim (among_by x bound z is) [ inl e ↦ omega (arith, e, low) | inr among ↦ has.below z among ];
    words = λ z is. by_case z is (λ w. put x (Some (word_in layout address v)) values z ≡ Some (word_in layout address w))
        (λ e. ap (put x (Some (word_in layout address v)) values) (sym e) ∙ put_same x (word_in layout address v) values)
        (λ differ among. put_other x z (word_in layout address v) values (λ e. differ (sym e)) ∙ has.words z among);
    fits = λ z is. by_case z is (FitsField (holds z)) (λ e. subst (λ y. FitsField (holds y) v) e fit)
        (λ differ among. has.fits z among);
    older = λ z is. by_case z is (Within next) (λ e. within) (λ differ among. has.older z among);
  }
    where
      by_case : (z : ℕ) → is_among (x ∷ bound) z ≡ true → (P : Value → Type 0) → (x ≡ z → P v)
          → (x ≢ z → is_among bound z ≡ true → P (value_of environment z))
          → P (value_of (record { variable = x; value = v } ∷ environment) z)
      by_case z is P same other =
          elim (cases_eq x z) [
            | inl e ↦ subst P (sym (value_same x z v environment e)) (same e)
            | inr differ ↦
                subst P (sym (value_other x z v environment differ))
                (other differ (elim (among_by x bound z is) [ inl e ↦ absurd (differ e) | inr among ↦ among ]))
          ]

  -- a value that is no bound variable's is written, as a temporary
  pub has_other : (t word : ℕ) → is_among bound t ≡ false → HasValues layout address holds base next bound environment
      (put t (Some word) values)
  has_other t word none = record {
    below = has.below;
    words = λ x among.
        put_other t x word values (λ e. let both : true ≡ false = sym among ∙ ap (is_among bound) e ∙ none in cc)
        ∙ has.words x among;
    fits = has.fits;
    older = has.older;
  }

  pub has_temporary : (t word : ℕ) → base ≤ t → HasValues layout address holds base next bound environment
      (put t (Some word) values)
  has_temporary t word high = has_other t word (by (is_among bound t) refl)
    where
      by : (b : Bool) → is_among bound t ≡ b → b ≡ false
      by true among = let low = has.below t among in absurd (omega (arith, low, high))
      by false among = refl

  -- a cell more, under the next name
  pub has_cell : (at : ℕ) → HasValues layout (assign next at address) holds base (suc next) bound environment values
  has_cell at = record {
    below = has.below;
    words = λ x among. has.words x among
        ∙ ap Some (sym (value_older layout next at address (value_of environment x) (has.older x among)));
    fits = has.fits;
    older = λ x among. within_more next (suc next) (value_of environment x) (omega arith) (has.older x among);
  }

-- values and names of cells are carried on: what words frames have they keep
abbrev pub Carries : Layout → (ℕ → ℕ) → ℕ → (ℕ → ℕ) → ℕ → Type 0
Carries layout address next later more =
    (holds : ℕ → Bool) (base : ℕ) (bound : List ℕ) (environment : Environment) (values : ℕ → Option ℕ)
    → HasValues layout address holds base next bound environment values
    → HasValues layout later holds base more bound environment values

pub carries_same : (layout : Layout) (address : ℕ → ℕ) (next more : ℕ) → more ≡ next → Carries layout address next address more
carries_same layout address next more same = λ holds base bound environment values has.
    subst (λ n. HasValues layout address holds base n bound environment values) (sym same) has

-- other variables than those of a list keep their words
pub list_grown : (xs bound : List ℕ) (z : ℕ) → is_among (bound_list xs bound) z ≡ false → is_among bound z ≡ false
list_grown [] bound z none = none
list_grown (x ∷ xs) bound z none = (among_none x bound z (list_grown xs (x ∷ bound) z none)).1

pub list_spared : (xs words bound : List ℕ) (z : ℕ) (values : ℕ → Option ℕ) → is_among (bound_list xs bound) z ≡ false
    → put_list xs words values z ≡ values z
list_spared [] words bound z values none = refl
list_spared (x ∷ xs) [] bound z values none = refl
list_spared (x ∷ xs) (word ∷ words) bound z values none =
    let beside = among_none x bound z (list_grown xs (x ∷ bound) z none) in
    list_spared xs words (x ∷ bound) z (put x (Some word) values) none ∙ put_other x z word values beside.0

-- a list of variables more
pub has_list : {layout : Layout} {address : ℕ → ℕ} {holds : ℕ → Bool} {base next : ℕ} (xs : List ℕ)
    (vs : List Value) {bound : List ℕ} {environment : Environment} {values : ℕ → Option ℕ}
    → HasValues layout address holds base next bound environment values → AreBelow base xs → FitFields (map holds xs) vs
    → AllWithin next vs
    → HasValues layout address holds base next (bound_list xs bound) (bind_fields xs vs environment)
    (put_list xs (words_in layout address vs) values)
has_list [] vs has low fits within = has
has_list {holds = holds} (x ∷ xs) [] has low fits within = absurd (no_fit (holds x) (map holds xs) fits)
  where
    no_fit : (b : Bool) (bits : List Bool) → FitFields (b ∷ bits) [] → ⊥
    no_fit true bits fits = fits
    no_fit false bits fits = fits
has_list {holds = holds} (x ∷ xs) (v ∷ vs) has low fits within =
    let parts = fit_parts (holds x) (map holds xs) v vs fits in
    has_list xs vs (has_bound has x v low.0 parts.0 within.0) low.1 parts.1 within.1
  where
    fit_parts : (b : Bool) (bits : List Bool) (v : Value) (vs : List Value) → FitFields (b ∷ bits) (v ∷ vs) → FitsField b v
        × FitFields bits vs
    fit_parts true bits v vs fits = (fits.0, fits.1)
    fit_parts false bits v vs fits = (fits.0, fits.1)

-- ---- the cell that a variable names

pub record MadeBy (c count : ℕ) (heap : Heap) (v : Value) (named : Named) : Type 0 where
  pub is : v ≡ place named.at
  pub held : Held
  pub there : held_at heap named.at ≡ Some held
  pub counted : 1 ≤ held.count
  pub made : held.cell.made_by ≡ c
  pub fields : held.cell.fields ≡ named.fields
  pub many : length held.cell.fields ≡ count

both_true : (a b : Bool) → (a && b) ≡ true → (a ≡ true) × (b ≡ true)
both_true true b is = (refl, is)
both_true false b is = cc

pub named_made : (c count : ℕ) (heap : Heap) (v : Value) (named : Named) → cell_named c count heap v ≡ Some named
    → MadeBy c count heap v named
named_made c count heap (integer n) named is = cc
named_made c count heap unit named is = cc
named_made c count heap (constant d) named is = cc
named_made c count heap (place at) named is = by_held (held_at heap at) refl is
  where
    by_test : (held : Held) (n : ℕ) → held_at heap at ≡ Some held → held.count ≡ suc n → (t : Bool)
        → ((held.cell.made_by == c) && (length held.cell.fields == count)) ≡ t
        → and_then (if t then Some held.cell.fields else None) (λ fields. Some (record { at = at; fields = fields })) ≡ Some named
        → MadeBy c count heap (place at) named
    by_test held n here counted false test is = cc
    by_test held n here counted true test is =
        let parts = both_true (held.cell.made_by == c) (length held.cell.fields == count) test in
        let same : record { at = at; fields = held.cell.fields } ≡ named = some_is is in
        record {
          is = ap (λ (n : Named). place n.at) same;
          held = held;
          there = subst (λ p. held_at heap p ≡ Some held) (ap (λ (n : Named). n.at) same) here;
          counted = omega (arith, counted);
          made = eqb-true held.cell.made_by c parts.0;
          fields = ap (λ (n : Named). n.fields) same;
          many = eqb-true (length held.cell.fields) count parts.1;
        }
      where
        some_is : {a b : Named} → Some a ≡ Some b → a ≡ b
        some_is e = cc

    by_count : (held : Held) (n : ℕ) → held_at heap at ≡ Some held → held.count ≡ n
        → and_then (if_counted n held.cell)
        (λ cell. and_then (if_made_by c count cell) (λ fields. Some (record { at = at; fields = fields }))) ≡ Some named
        → MadeBy c count heap (place at) named
    by_count held zero here counted is = cc
    by_count held (suc n) here counted is = by_test held n here counted
        ((held.cell.made_by == c) && (length held.cell.fields == count)) refl is

    by_held : (found : Option Held) → held_at heap at ≡ found
        → and_then (and_then found (λ held. if_counted held.count held.cell))
        (λ cell. and_then (if_made_by c count cell) (λ fields. Some (record { at = at; fields = fields }))) ≡ Some named
        → MadeBy c count heap (place at) named
    by_held None here is = cc
    by_held (Some held) here is = by_count held held.count here refl is
