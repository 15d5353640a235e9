-- What variables stand for, in an environment of the source and in one of the core form.
use Rattle.std.proofs.Common.{◌≡◌, ◌⊎◌, inl, inr, ℕ, ◌<◌, ◌≤◌, ◌==◌, ◌||◌, Bool, true, false, not, List, [], ◌∷◌, ◌++◌, Option, Some, None, map, cond, refl, sym, ap, subst, ◌∙◌, arith}
use Rattle.std.specs.Prelude.{if◌then◌else◌}
use Rattle.std.proofs.lemmas.List.{map-append}
use Rattle.std.proofs.lemmas.Bool.{eq-eqb, eqb-true}
use Rattle.std.proofs.lemmas.Bool.Decides.{nat_tests}
use Rattle.std.proofs.lemmas.List.Folds.{list_any-append}
use Rattle.kk_syntax.specs.Shapes.{is_among, without}
use Rattle.kk_source.specs.State.{Value, Environment}
use Rattle.kk_source.specs.Live.{value_of, awaited}
use Rattle.kk_source.specs.Step.{bind}
use Rattle.kk_norm.specs.Names.{Names, name_of, named}

-- the second environment has the values of the first for all variables below a bound
abbrev pub SameBelow : ℕ → Environment → Environment → Type 0
SameBelow bound first second = (x : ℕ) → x < bound → value_of second x ≡ value_of first x

-- each of these variables of the source has its value in the core variable that is its name, which is below a bound
abbrev pub Stands : Names → Environment → Environment → ℕ → List ℕ → Type 0
Stands names environment core bound xs = (x : ℕ) → is_among xs x ≡ true → (value_of core (name_of names x) ≡ value_of environment x) × (name_of names x < bound)

abbrev pub AllBelow : ℕ → List ℕ → Type 0
AllBelow bound [] = Unit {0}
AllBelow bound (x ∷ xs) = (x < bound) × AllBelow bound xs

pub same_number : (x : ℕ) → (x == x) ≡ true
same_number x = eq-eqb x x refl

pub other_number : (x y : ℕ) → (x ≡ y → ⊥) → (x == y) ≡ false
other_number x y other = grind (arith, nat_tests)

pub value_here : (x : ℕ) (v : Value) (environment : Environment) → value_of (record { variable = x; value = v } ∷ environment) x ≡ v
value_here x v environment = rw (same_number x) refl

pub value_elsewhere : (x y : ℕ) (v : Value) (environment : Environment) → (x ≡ y → ⊥) → value_of (record { variable = x; value = v } ∷ environment) y ≡ value_of environment y
value_elsewhere x y v environment other = rw (other_number x y other) refl

-- a variable from the bound on is bound, and those below it keep their values
pub same_below_bound : (bound x : ℕ) (v : Value) (environment : Environment) → bound ≤ x → SameBelow bound environment (record { variable = x; value = v } ∷ environment)
same_below_bound bound x v environment le = λ y less. value_elsewhere x y v environment (λ same. absurd (omega arith))

pub among_left : (xs ys : List ℕ) (x : ℕ) → is_among xs x ≡ true → is_among (xs ++ ys) x ≡ true
among_left xs ys x is = list_any-append (λ y. y == x) xs ys ∙ ap (λ b. b || is_among ys x) is

pub among_right : (xs ys : List ℕ) (x : ℕ) → is_among ys x ≡ true → is_among (xs ++ ys) x ≡ true
among_right xs ys x is = list_any-append (λ y. y == x) xs ys ∙ ap (λ b. is_among xs x || b) is ∙ or_true (is_among xs x)
  where
    or_true : (b : Bool) → (b || true) ≡ true
    or_true true = refl
    or_true false = refl

-- what follows where a variable is among the first ones and where it is among the others
pub among_each : (xs ys : List ℕ) (x : ℕ) (P : Type 0) → (is_among xs x ≡ true → P) → (is_among ys x ≡ true → P) → is_among (xs ++ ys) x ≡ true → P
among_each [] ys x P left right is = right is
among_each (z ∷ xs) ys x P left right is = by_test (z == x) refl (λ first later. among_each xs ys x P first right later)
  where
    by_test : (same : Bool) → (z == x) ≡ same → ((is_among xs x ≡ true → P) → is_among (xs ++ ys) x ≡ true → P) → P
    by_test true same_is rest = left (rw same_is refl)
    by_test false same_is rest = rest (λ later. left (rw same_is later)) (rw same_is at is)

-- a variable that is left was there, and is none of those that were taken away
pub left_over : (ys xs : List ℕ) (x : ℕ) → is_among (without ys xs) x ≡ true → (is_among ys x ≡ false) × (is_among xs x ≡ true)
left_over ys [] x is = absurd (cc)
left_over ys (z ∷ xs) x is = by_tests (z == x) (is_among ys z) refl refl (λ later. left_over ys xs x later)
  where
    by_tests : (same : Bool) (taken : Bool) → (z == x) ≡ same → is_among ys z ≡ taken → (is_among (without ys xs) x ≡ true → (is_among ys x ≡ false) × (is_among xs x ≡ true))
        → (is_among ys x ≡ false) × (is_among (z ∷ xs) x ≡ true)
    by_tests true true same_is taken_is rest = ((rest (rw taken_is at is)).0, rw same_is refl)
    by_tests true false same_is taken_is rest = (sym (ap (is_among ys) (eqb-true z x same_is)) ∙ taken_is, rw same_is refl)
    by_tests false true same_is taken_is rest = let one = rest (rw taken_is at is) in (one.0, rw same_is one.1)
    by_tests false false same_is taken_is rest = let one = rest (rw same_is at (rw taken_is at is)) in (one.0, rw same_is one.1)

-- what follows from each of two
pub or_else : {A B C : Type 0} → A ⊎ B → (A → C) → (B → C) → C
or_else (inl a) left right = left a
or_else (inr b) left right = right b

-- a variable is among the first ones or among the others
pub among_split : (xs ys : List ℕ) (x : ℕ) → is_among (xs ++ ys) x ≡ true → (is_among xs x ≡ true) ⊎ (is_among ys x ≡ true)
among_split xs ys x is =
    among_each xs ys x ((is_among xs x ≡ true) ⊎ (is_among ys x ≡ true)) (λ here. inl here) (λ there. inr there) is

-- a variable is the first one, or another one among those behind it
pub among_head : (z : ℕ) (xs : List ℕ) (x : ℕ) → is_among (z ∷ xs) x ≡ true → (z ≡ x) ⊎ ((x ≡ z → ⊥) × (is_among xs x ≡ true))
among_head z xs x is = by_test (z == x) refl
  where
    by_test : (same : Bool) → (z == x) ≡ same → (z ≡ x) ⊎ ((x ≡ z → ⊥) × (is_among xs x ≡ true))
    by_test true same_is = inl (eqb-true z x same_is)
    by_test false same_is = inr (λ same. absurd (let one : true ≡ false = sym (eq-eqb z x (sym same)) ∙ same_is in cc), rw same_is at is)

pub alone_among : (x : ℕ) → is_among (x ∷ []) x ≡ true
alone_among x = rw (same_number x) refl

pub first_among : (x : ℕ) (xs : List ℕ) → is_among (x ∷ xs) x ≡ true
first_among x xs = rw (same_number x) refl

pub later_among : (z : ℕ) (xs : List ℕ) (x : ℕ) → is_among xs x ≡ true → is_among (z ∷ xs) x ≡ true
later_among z xs x is = among_right (z ∷ []) xs x is

pub not_alone : (m x : ℕ) → (x ≡ m → ⊥) → is_among (m ∷ []) x ≡ false
not_alone m x other = rw (other_number m x (λ same. other (sym same))) refl

-- one that is not the only one is another
pub another : (m x : ℕ) → is_among (m ∷ []) x ≡ false → x ≡ m → ⊥
another m x out same = let one : true ≡ false = sym (subst (λ (y : ℕ). is_among (m ∷ []) y ≡ true) (sym same) (alone_among m)) ∙ out in absurd (cc)

-- what is among others without some of them
pub without_among : (ys xs : List ℕ) (x : ℕ) → is_among (without ys xs) x ≡ true → is_among xs x ≡ true
without_among ys xs x is = (left_over ys xs x is).1

-- what stands for several variables stands for some of them, and later
pub stands_left : (names : Names) (environment core : Environment) (bound : ℕ) (xs ys : List ℕ) → Stands names environment core bound (xs ++ ys) → Stands names environment core bound xs
stands_left names environment core bound xs ys stands = λ x is. stands x (among_left xs ys x is)

pub stands_right : (names : Names) (environment core : Environment) (bound : ℕ) (xs ys : List ℕ) → Stands names environment core bound (xs ++ ys) → Stands names environment core bound ys
stands_right names environment core bound xs ys stands = λ x is. stands x (among_right xs ys x is)

pub stands_later : (names : Names) (environment core later : Environment) (bound most : ℕ) (xs : List ℕ) → SameBelow bound core later → bound ≤ most → Stands names environment core bound xs → Stands names environment later most xs
stands_later names environment core later bound most xs same le stands = λ x is. (same (name_of names x) (stands x is).1 ∙ (stands x is).0, omega (arith, (stands x is).1))

-- a variable is among others or is one that is taken away
pub among_without : (ys xs : List ℕ) (x : ℕ) → is_among ys x ≡ false → is_among xs x ≡ true → is_among (without ys xs) x ≡ true
among_without ys [] x out is = is
among_without ys (z ∷ xs) x out is = by_tests (z == x) (is_among ys z) refl refl (λ later. among_without ys xs x out later)
  where
    by_tests : (same : Bool) (taken : Bool) → (z == x) ≡ same → is_among ys z ≡ taken → (is_among xs x ≡ true → is_among (without ys xs) x ≡ true) → is_among (cond (not taken) (z ∷ without ys xs) (without ys xs)) x ≡ true
    by_tests true true same_is taken_is rest = absurd (let same : z ≡ x = eqb-true z x same_is in let one : true ≡ false = sym taken_is ∙ (ap (is_among ys) same ∙ out) in cc)
    by_tests true false same_is taken_is rest = rw same_is refl
    by_tests false true same_is taken_is rest = rest (rw same_is at is)
    by_tests false false same_is taken_is rest = rw same_is (rest (rw same_is at is))

-- after a statement the variables of the rest stand for their values: its own by the name of the statement's value
pub stands_bound : (w : Option ℕ) (a : ℕ) (v : Value) (names : Names) (environment core : Environment) (bound most : ℕ) (xs : List ℕ)
    → Stands names environment core bound (without (awaited w) xs) → bound ≤ most → value_of core a ≡ v → a < most
    → Stands (named w a names) (bind w v environment) core most xs
stands_bound None a v names environment core bound most xs stands le has low = λ x is. let one = stands x (among_without [] xs x refl is) in (one.0, omega (arith, one.1))
stands_bound (Some y) a v names environment core bound most xs stands le has low = λ x is. by_test x is (y == x) refl
  where
    by_test : (x : ℕ) → is_among xs x ≡ true → (same : Bool) → (y == x) ≡ same → (value_of core (if same then a else name_of names x) ≡ (if same then v else value_of environment x)) × ((if same then a else name_of names x) < most)
    by_test x is true same_is = (has, low)
    by_test x is false same_is = let one = stands x (among_without (y ∷ []) xs x (rw same_is refl) is) in (one.0, omega (arith, one.1))

-- values of several variables
pub values_later : (core later : Environment) (bound : ℕ) (xs : List ℕ) → SameBelow bound core later → AllBelow bound xs → map (value_of later) xs ≡ map (value_of core) xs
values_later core later bound [] same low = refl
values_later core later bound (x ∷ xs) same low = ap (λ v. v ∷ map (value_of later) xs) (same x low.0) ∙ ap (λ vs. value_of core x ∷ vs) (values_later core later bound xs same low.1)

pub all_below_more : (bound most : ℕ) (xs : List ℕ) → bound ≤ most → AllBelow bound xs → AllBelow most xs
all_below_more bound most [] le low = tt
all_below_more bound most (x ∷ xs) le low = (omega (arith, low.0), all_below_more bound most xs le low.1)

pub all_below_one_more : (bound a : ℕ) (xs : List ℕ) → AllBelow bound xs → a < bound → AllBelow bound (xs ++ a ∷ [])
all_below_one_more bound a [] low less = (less, tt)
all_below_one_more bound a (x ∷ xs) low less = (low.0, all_below_one_more bound a xs low.1 less)

pub values_one_more : (core : Environment) (a : ℕ) (v : Value) (xs : List ℕ) (vs : List Value) → map (value_of core) xs ≡ vs → value_of core a ≡ v → map (value_of core) (xs ++ a ∷ []) ≡ vs ++ v ∷ []
values_one_more core a v xs vs are has = map-append (value_of core) xs (a ∷ []) ∙ (ap (λ (l : List Value). l ++ value_of core a ∷ []) are ∙ ap (λ w. vs ++ w ∷ []) has)
