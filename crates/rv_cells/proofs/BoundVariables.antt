-- Lists of variables that are bound: which are among others, below a number or apart from it, and have values.
use Rattle.std.proofs.Common.{◌≡◌, ℕ, ◌<◌, inl, inr, Bool, true, false, List, [], ◌∷◌, map, Option, refl, ◌∙◌, ap, arith}
use Rattle.std.specs.Prelude.{◌==◌}
use Rattle.std.proofs.lemmas.Bool.{or_right, ne_eqb}
use Rattle.kk_syntax.specs.Shapes.{is_among}
use Rattle.kk_source.specs.State.{Environment}
use Rattle.kk_core.specs.Sizes.{AreBound}
use Rattle.kk_counted.specs.Spending.{AllAmong}
use Rattle.kk_counted.specs.Marks.{HaveMarks}
use Rattle.kk_counted.specs.Lowerable.{AreBelow}
use Rattle.rv_cells.specs.Layout.{Layout}
use Rattle.rv_cells.proofs.Values.{HasValues, among_by}

-- the variables of one list are among those of another
abbrev pub AreWithin : List ℕ → List ℕ → Type 0
AreWithin xs ys = (z : ℕ) → is_among xs z ≡ true → is_among ys z ≡ true

-- those of a list are among themselves
pub within_itself : (xs : List ℕ) → AreWithin xs xs
within_itself xs = λ z is. is

-- and among these and one more
pub within_one : (x : ℕ) (xs : List ℕ) → AreWithin xs (x ∷ xs)
within_one x xs = λ z is. or_right (x == z) (is_among xs z) is

-- values of fewer variables
pub has_fewer : {layout : Layout} {address : ℕ → ℕ} {holds : ℕ → Bool} {base next : ℕ} {bound : List ℕ} {environment : Environment}
    {values : ℕ → Option ℕ} → HasValues layout address holds base next bound environment values → (fewer : List ℕ)
    → AreWithin fewer bound → HasValues layout address holds base next fewer environment values
has_fewer has fewer within = record {
  below = λ x is. has.below x (within x is);
  words = λ x is. has.words x (within x is);
  fits = λ x is. has.fits x (within x is);
  older = λ x is. has.older x (within x is);
}

-- arguments that are bound are among what is bound
pub all_among : (xs bound : List ℕ) → AreBound bound xs → AllAmong xs bound
all_among [] bound are = tt
all_among (x ∷ xs) bound are = (are.0, all_among xs bound are.1)

-- variables hold as they are marked
pub marks_are : (holds : ℕ → Bool) (xs : List ℕ) (marks : List Bool) → HaveMarks holds xs marks → map holds xs ≡ marks
marks_are holds [] [] have = refl
marks_are holds [] (mark ∷ marks) have = absurd have
marks_are holds (x ∷ xs) [] have = absurd have
marks_are holds (x ∷ xs) (mark ∷ marks) have = ap (λ m. m ∷ map holds xs) have.0
    ∙ ap (λ ms. mark ∷ ms) (marks_are holds xs marks have.1)

-- a variable among those below a number is below it
pub below_among : (x : ℕ) (bound : List ℕ) (z : ℕ) → AreBelow x bound → is_among bound z ≡ true → z < x
below_among x [] z below is = cc
below_among x (y ∷ ys) z below is =
    elim (among_by y ys z is) [
      | inl e ↦ (let low = below.0 in omega arith)
      | inr later ↦ below_among x ys z below.1 later
    ]

-- a variable above all that are bound is none of them
pub apart_above : (x : ℕ) (xs bound : List ℕ) → AreBelow x bound → AllAmong xs bound → is_among xs x ≡ false
apart_above x [] bound below all = refl
apart_above x (y ∷ ys) bound below all =
    let low = below_among x bound y below all.0 in
    let differ : (y == x) ≡ false = grind arith in
    rw differ (apart_above x ys bound below all.1)

pub not_bound : (x : ℕ) (bound : List ℕ) → AreBelow x bound → is_among bound x ≡ false
not_bound x [] below = refl
not_bound x (y ∷ ys) below =
    let low = below.0 in
    let differ : (y == x) ≡ false = ne_eqb y x (λ e. omega (arith, e, low)) in
    rw differ (not_bound x ys below.1)
