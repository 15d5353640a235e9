-- Lists of values: what is among them.
use Rattle.std.proofs.Common.{◌≡◌, ◌==◌, ◌||◌, ◌&&◌, ◌⊎◌, ℕ, List, [], ◌∷◌, ◌++◌, Option, None, Bool, true, false, not, cond, All, refl, sym, ◌∙◌, ap, subst, inl, inr, eq-eqb, map}
use Rattle.std.specs.List.{AllByRecursion}
use Rattle.std.proofs.lemmas.Bool.{eqb-true, eqb-false, ne_eqb, or_cases, or_parts, or_right, or_left, or_from, false≢true, cases_Bool}
use Rattle.std.proofs.lemmas.List.Elements.{All-nil, All-cons}
use Rattle.std.proofs.lemmas.List.Folds.{list_any-append}
use Rattle.rv_isa.specs.Frames.{is_among}
use Rattle.rv_isa.specs.WellFormed.{is_written, AreDistinct}
use Rattle.rv_propose.specs.Alive.{with_value, with_values, without}

-- what holds of each value among some holds of what is made of each
pub all_made : {A : Type 0} (P : A → Type 0) (f : ℕ → A) (values : List ℕ) → ((v : ℕ) → is_among v values ≡ true → P (f v)) → All P (map f values)
all_made P f [] h = All-nil P
all_made P f (v ∷ vs) h =
    All-cons P (f v) (map f vs) (h v (or_left (v == v) (is_among v vs) (eq-eqb v v refl))) (all_made P f vs (λ u t. h u (or_right (v == u) (is_among u vs) t)))

-- and what holds of all holds of each
pub each_among : (P : ℕ → Type 0) (values : List ℕ) (v : ℕ) → AllByRecursion P values → is_among v values ≡ true → P v
each_among P [] v all t = absurd (false≢true t)
each_among P (x ∷ xs) v all t = go (each_among P xs v all.1) (or_cases (x == v) (is_among v xs) t)
  where
    go : (is_among v xs ≡ true → P v) → ((x == v) ≡ true) ⊎ (is_among v xs ≡ true) → P v
    go later (inl same) = subst P (eqb-true x v same) all.0
    go later (inr there) = later there

-- ---- a value more

added_among : (x v : ℕ) (values : List ℕ) (there : Bool) → is_among x values ≡ there → is_among v (cond there values (values ++ x ∷ [])) ≡ ((x == v) || is_among v values)
added_among x v values true there = go (cases_Bool (x == v))
  where
    go : ((x == v) ≡ true) ⊎ ((x == v) ≡ false) → is_among v values ≡ ((x == v) || is_among v values)
    go (inl same) = ap (λ u. is_among u values) (sym (eqb-true x v same)) ∙ there ∙ sym (or_left (x == v) (is_among v values) same)
    go (inr other) = ap (λ b. b || is_among v values) (sym other)
added_among x v values false there = list_any-append (λ (other : ℕ). other == v) values (x ∷ []) ∙ swapped (is_among v values) (x == v)
  where
    swapped : (a b : Bool) → (a || (b || false)) ≡ (b || a)
    swapped true true = refl
    swapped true false = refl
    swapped false true = refl
    swapped false false = refl

pub among_with_value : (x v : ℕ) (values : List ℕ) → is_among v (with_value x values) ≡ ((x == v) || is_among v values)
among_with_value x v values = added_among x v values (is_among x values) refl

or_turned : (a b c : Bool) → (a || (b || c)) ≡ ((b || a) || c)
or_turned true true c = refl
or_turned true false c = refl
or_turned false true c = refl
or_turned false false c = refl

pub among_with_values : (vs values : List ℕ) (v : ℕ) → is_among v (with_values vs values) ≡ (is_among v vs || is_among v values)
among_with_values [] values v = refl
among_with_values (x ∷ xs) values v =
    among_with_values xs (with_value x values) v ∙ ap (λ b. is_among v xs || b) (among_with_value x v values) ∙ or_turned (is_among v xs) (x == v) (is_among v values)

-- ---- a value less

kept_among : (v : ℕ) (tail : List ℕ) (x : ℕ) (n t e : Bool) (a : Bool) → (e ≡ true → t ≡ n) → is_among v tail ≡ (n && a) → (x == v) ≡ e → is_among v (cond t (x ∷ tail) tail) ≡ (n && ((x == v) || a))
kept_among v tail x true true e a same later is = ap (λ b. (x == v) || b) later
kept_among v tail x false true true a same later is = absurd (false≢true (sym (same refl)))
kept_among v tail x false true false a same later is = or_from (x == v) (is_among v tail) is later
kept_among v tail x true false true a same later is = absurd (false≢true (same refl))
kept_among v tail x true false false a same later is = later ∙ ap (λ b. b || a) (sym is)
kept_among v tail x false false e a same later is = later

pub among_without : (into : Option ℕ) (values : List ℕ) (v : ℕ) → is_among v (without into values) ≡ (not (is_written into v) && is_among v values)
among_without into [] v = none (not (is_written into v))
  where
    none : (b : Bool) → false ≡ (b && false)
    none true = refl
    none false = refl
among_without into (x ∷ xs) v =
    kept_among v (without into xs) x (not (is_written into v)) (not (is_written into x)) (x == v) (is_among v xs) (λ same. ap (λ u. not (is_written into u)) (eqb-true x v same)) (among_without into xs v) refl

pub without_none : (values : List ℕ) → without None values ≡ values
without_none [] = refl
without_none (x ∷ xs) = ap (λ rest. x ∷ rest) (without_none xs)

-- ---- each once

distinct_behind : (values : List ℕ) (x : ℕ) → AreDistinct values → is_among x values ≡ false → AreDistinct (values ++ x ∷ [])
distinct_behind [] x distinct none = (refl, tt)
distinct_behind (y ∷ ys) x distinct none =
    let parts = or_parts (y == x) (is_among x ys) none in (
      list_any-append (λ (other : ℕ). other == y) ys (x ∷ []) ∙ or_from (is_among y ys) ((x == y) || false) distinct.0
          (or_from (x == y) false (ne_eqb x y (λ same. eqb-false y x parts.0 (sym same))) refl),
      distinct_behind ys x distinct.1 parts.1,
    )

distinct_added : (x : ℕ) (values : List ℕ) (there : Bool) → is_among x values ≡ there → AreDistinct values → AreDistinct (cond there values (values ++ x ∷ []))
distinct_added x values true there distinct = distinct
distinct_added x values false there distinct = distinct_behind values x distinct there

pub distinct_with : (vs values : List ℕ) → AreDistinct values → AreDistinct (with_values vs values)
distinct_with [] values distinct = distinct
distinct_with (x ∷ xs) values distinct = distinct_with xs (with_value x values) (distinct_added x values (is_among x values) refl distinct)

distinct_kept : (x : ℕ) (tail : List ℕ) (t : Bool) → is_among x tail ≡ false → AreDistinct tail → AreDistinct (cond t (x ∷ tail) tail)
distinct_kept x tail true none distinct = (none, distinct)
distinct_kept x tail false none distinct = distinct

pub distinct_without : (into : Option ℕ) (values : List ℕ) → AreDistinct values → AreDistinct (without into values)
distinct_without into [] distinct = tt
distinct_without into (x ∷ xs) distinct =
    distinct_kept x (without into xs) (not (is_written into x))
    (among_without into xs x ∙ ap (λ b. not (is_written into x) && b) distinct.0 ∙ none (not (is_written into x))) (distinct_without into xs distinct.1)
  where
    none : (b : Bool) → (b && false) ≡ false
    none true = refl
    none false = refl
