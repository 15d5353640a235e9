-- Inserted programs are spent: each function spends the references of its owned parameters.
use Rattle.std.proofs.Common.{◌≡◌, ◌⊎◌, inl, inr, ℕ, zero, suc, ◌+◌, ◌≤◌, ◌<◌, ◌==◌, Bool, true, false, List, [], ◌∷◌, Option, Some, None, arith, refl, sym, ap, ◌∙◌, subst}
use Rattle.std.proofs.lemmas.Bool.{cases_lt}
use Rattle.std.specs.Prelude.{if◌then◌else◌, slice_get}
use Rattle.kk_syntax.specs.Shapes.{is_among}
use Rattle.kk_syntax.specs.PositionsOf.{PositionTable, is_lent}
use Rattle.kk_core.specs.Codes.{FunctionCode, ProgramCode}
use Rattle.kk_core.specs.Sizes.{below, IsOrdered}
use Rattle.kk_counted.specs.CountedCodes.{CountedFunction}
use Rattle.kk_counted.specs.Spending.{AreApart, at_positions, numbers_from, is_owned, HasAsMany, SpendsParameters, IsSpent}
use Rattle.kk_counted.proofs.CountChanges.{same, itself}
use Rattle.kk_insert.specs.Insertion.{lent_of, own, insert, inserted_function, inserted_functions, inserted}
use Rattle.kk_insert.specs.Promise.{TakesAsMany, IsFunctionInsertable, IsInsertable}
use Rattle.kk_insert.proofs.Sets.{or_cases, or_left, no_both, false_if, is_not, equal_tests, among_next}
use Rattle.kk_insert.proofs.VariableBindings.{IsFine, lent_before, ordered_fine}
use Rattle.kk_insert.proofs.OwnedVariables.{own_part, own_clear, own_apart}
use Rattle.kk_insert.proofs.Spending.{spends, spends_dropping}

-- ---- parameters

pub at_numbers : (takes : ℕ → Bool) (next count y : ℕ) → is_among (at_positions takes next (numbers_from next count)) y ≡ true
    → (next ≤ y) × ((y < next + count) × (takes y ≡ true))
at_numbers takes next zero y is = absurd (cc)
at_numbers takes next (suc count) y is = by_test (takes next) refl is (at_numbers takes (suc next) count y)
  where
    further : (suc next ≤ y) × ((y < suc next + count) × (takes y ≡ true)) → (next ≤ y)
        × ((y < next + suc count) × (takes y ≡ true))
    further r = (omega (arith, r.0), (omega (arith, r.1.0), r.1.1))

    by_test : (t : Bool) → takes next ≡ t
        → is_among (if t then next ∷ at_positions takes (suc next) (numbers_from (suc next) count) else at_positions takes
        (suc next) (numbers_from (suc next) count)) y ≡ true
        → (is_among (at_positions takes (suc next) (numbers_from (suc next) count)) y ≡ true → (suc next ≤ y)
        × ((y < suc next + count) × (takes y ≡ true))) → (next ≤ y) × ((y < next + suc count) × (takes y ≡ true))
    by_test false fails is later = further (later is)
    by_test true passes is later = either
        (or_cases (next == y) (is_among (at_positions takes (suc next) (numbers_from (suc next) count)) y) is)
      where
        either : ((next == y) ≡ true) ⊎ (is_among (at_positions takes (suc next) (numbers_from (suc next) count)) y ≡ true)
            → (next ≤ y) × ((y < next + suc count) × (takes y ≡ true))
        either (inl here) = (
          omega (arith, same next y here),
          (omega (arith, same next y here), ap takes (sym (same next y here)) ∙ passes),
        )
        either (inr there) = further (later there)

pub numbers_at : (takes : ℕ → Bool) (next count y : ℕ) → next ≤ y → y < next + count → takes y ≡ true
    → is_among (at_positions takes next (numbers_from next count)) y ≡ true
numbers_at takes next zero y low high is = absurd (omega (arith, low, high))
numbers_at takes next (suc count) y low high is = by_tests (next == y) refl (takes next) refl (numbers_at takes (suc next) count y)
  where
    Later : Type 0
    Later = suc next ≤ y → y < suc next + count → takes y ≡ true
        → is_among (at_positions takes (suc next) (numbers_from (suc next) count)) y ≡ true

    above : (next == y) ≡ false → suc next ≤ y
    above other = by_order (cases_lt next y)
      where
        by_order : (next < y) ⊎ (y ≤ next) → suc next ≤ y
        by_order (inl less) = omega (arith, less)
        by_order (inr least) = let e : next ≡ y = omega (arith, low, least) in no_both (suc next ≤ y) (next == y)
            (ap (λ z. next == z) (sym e) ∙ itself next) other

    by_tests : (t : Bool) → (next == y) ≡ t → (s : Bool) → takes next ≡ s → Later
        → is_among (if s then next ∷ at_positions takes (suc next) (numbers_from (suc next) count) else at_positions takes
        (suc next) (numbers_from (suc next) count)) y ≡ true
    by_tests true here true passes later = or_left (next == y)
        (is_among (at_positions takes (suc next) (numbers_from (suc next) count)) y) here
    by_tests true here false fails later = no_both
        (is_among (at_positions takes (suc next) (numbers_from (suc next) count)) y ≡ true) (takes y) is
        (ap takes (sym (same next y here)) ∙ fails)
    by_tests false other true passes later = among_next next y (at_positions takes (suc next) (numbers_from (suc next) count))
        (later (above other) (omega (arith, high)) is)
    by_tests false other false fails later = later (above other) (omega (arith, high)) is

pub numbers_apart : (takes : ℕ → Bool) (next count : ℕ) → AreApart (at_positions takes next (numbers_from next count))
numbers_apart takes next zero = tt
numbers_apart takes next (suc count) = by_test (takes next) (numbers_apart takes (suc next) count)
  where
    by_test : (t : Bool) → AreApart (at_positions takes (suc next) (numbers_from (suc next) count))
        → AreApart (if t then next ∷ at_positions takes (suc next) (numbers_from (suc next) count) else at_positions takes
        (suc next) (numbers_from (suc next) count))
    by_test true later = (
      false_if (is_among (at_positions takes (suc next) (numbers_from (suc next) count)) next)
          (λ is. absurd (omega (arith, (at_numbers takes (suc next) count next is).0))),
      later,
    )
    by_test false later = later

pub below_less : (n y : ℕ) → is_among (below n) y ≡ true → y < n
below_less zero y is = absurd (cc)
below_less (suc n) y is = either (or_cases (n == y) (is_among (below n) y) is) (below_less n y)
  where
    either : ((n == y) ≡ true) ⊎ (is_among (below n) y ≡ true) → (is_among (below n) y ≡ true → y < n) → y < suc n
    either (inl here) later = omega (arith, same n y here)
    either (inr there) later = omega (arith, later there)

module _ (positions : PositionTable) where
  -- ---- functions

  abbrev lent_parameters : ℕ → FunctionCode → List ℕ
  lent_parameters f function = at_positions (is_lent positions f) 0 (numbers_from 0 function.parameters)

  -- a function whose variables are in order is fine
  pub ordered_is_fine : (f : ℕ) (function : FunctionCode) → IsOrdered function
      → IsFine (lent_of positions f function) (below function.parameters) function.body
  ordered_is_fine f function ordered =
      ordered_fine (lent_of positions f function) (lent_parameters f function)
      (below function.parameters) function.parameters function.body function.variables ordered
      (λ y is. below_less function.parameters y is)
      (λ y is. omega (arith, (at_numbers (is_lent positions f) 0 function.parameters y is).1.0))
      (λ y less. refl)

  module _ (source : List FunctionCode) (f : ℕ) (function : FunctionCode)
      (promise : IsFunctionInsertable positions source f function) where
    pub lent_parameter : (i : ℕ) → i < function.parameters → is_among (lent_of positions f function) i ≡ is_lent positions f i
    lent_parameter i less =
        lent_before (lent_parameters f function) (below function.parameters) function.parameters function.body function.variables i
        promise.ordered less
        ∙ equal_tests (is_among (lent_parameters f function) i) (is_lent positions f i)
        (λ is. (at_numbers (is_lent positions f) 0 function.parameters i is).1.1)
        (λ is. numbers_at (is_lent positions f) 0 function.parameters i (omega arith) (omega (arith, less)) is)

    pub is_fine : IsFine (lent_of positions f function) (below function.parameters) function.body
    is_fine = ordered_is_fine f function promise.ordered

    pub owned_parameter : (y : ℕ) → is_among (own positions (lent_of positions f function) [] function.body) y ≡ true
        → is_among (at_positions (is_owned positions [] f) 0 (numbers_from 0 function.parameters)) y ≡ true
    owned_parameter y is =
        let less : y < function.parameters = below_less function.parameters y
        (own_part positions (lent_of positions f function) [] (below function.parameters) function.body is_fine
        (λ z there. none z there) y is) in
        numbers_at (is_owned positions [] f) 0 function.parameters y (omega arith) (omega (arith, less))
        (is_not (is_lent positions f y) (sym (lent_parameter y less) ∙ own_clear positions (lent_of positions f function)
        [] function.body (λ z there. nothing z there) y is))
      where
        none : (z : ℕ) → is_among [] z ≡ true → is_among (below function.parameters) z ≡ true
        none z there = absurd (cc)

        nothing : (z : ℕ) → is_among [] z ≡ true → is_among (lent_of positions f function) z ≡ false
        nothing z there = absurd (cc)

    pub function_spent : (functions : List CountedFunction)
        → ((g : ℕ) (arguments : List ℕ) → TakesAsMany positions source g arguments → HasAsMany positions functions g arguments)
        → SpendsParameters positions functions f (inserted_function positions f function)
    function_spent functions as_many = (
      lent_of positions f function,
      (
        lent_parameter,
        spends_dropping positions source functions as_many (lent_of positions f function)
            (at_positions (is_owned positions [] f) 0 (numbers_from 0 function.parameters))
            (own positions (lent_of positions f function) [] function.body) None
            (insert positions (lent_of positions f function) [] function.body)
            (numbers_apart (is_owned positions [] f) 0 function.parameters)
            (own_apart positions (lent_of positions f function) [] function.body tt)
            owned_parameter
            (spends positions source functions as_many (lent_of positions f function) function.body
            (below function.parameters) None is_fine promise.tails (λ z there. absurd_in z there) tt),
      ),
    )
      where
        absurd_in : (z : ℕ) → is_among [] z ≡ true → is_among (below function.parameters) z ≡ true
        absurd_in z there = absurd (cc)

  -- ---- programs

  abbrev inserted_if : ℕ → Option FunctionCode → Option CountedFunction
  inserted_if n None = None
  inserted_if n (Some function) = Some (inserted_function positions n function)

  -- the functions of an inserted program are the insertions of the program's
  pub inserted_at : (k : ℕ) (source : List FunctionCode) (f n : ℕ) → n ≡ k + f
      → slice_get (inserted_functions positions k source) f ≡ inserted_if n (slice_get source f)
  inserted_at k [] f n number = refl
  inserted_at k (first ∷ source) zero n number =
      ap (λ m. Some (inserted_function positions m first)) (let e : k ≡ n = omega (arith, number) in e)
  inserted_at k (first ∷ source) (suc f) n number = inserted_at (suc k) source f n (omega (arith, number))

  pub inserted_there : (source : List FunctionCode) (f : ℕ) (function : FunctionCode) → slice_get source f ≡ Some function
      → slice_get (inserted_functions positions 0 source) f ≡ Some (inserted_function positions f function)
  inserted_there source f function there = inserted_at 0 source f f (omega arith) ∙ ap (inserted_if f) there

  abbrev parameters_if : ℕ → Option FunctionCode → ℕ
  parameters_if other None = other
  parameters_if other (Some function) = function.parameters

  function_if : CountedFunction → Option CountedFunction → CountedFunction
  function_if other None = other
  function_if other (Some function) = function

  -- and each of its functions is one
  pub from_there : (source : List FunctionCode) (f : ℕ) (result : CountedFunction)
      → slice_get (inserted_functions positions 0 source) f ≡ Some result → (function : FunctionCode)
      × ((slice_get source f ≡ Some function) × (result ≡ inserted_function positions f function))
  unfolding function_if
  from_there source f result there = by_found (slice_get source f) refl (sym (inserted_at 0 source f f (omega arith)) ∙ there)
    where
      by_found : (found : Option FunctionCode) → slice_get source f ≡ found → inserted_if f found ≡ Some result
          → (function : FunctionCode) × ((slice_get source f ≡ Some function) × (result ≡ inserted_function positions f function))
      by_found None is same_one = absurd (cc)
      by_found (Some function) is same_one
          = (function, (is, ap (λ (o : Option CountedFunction). function_if result o) (sym same_one)))

  takes_as_many : (source : List FunctionCode) (f : ℕ) (arguments : List ℕ) → TakesAsMany positions source f arguments
      → HasAsMany positions (inserted_functions positions 0 source) f arguments
  takes_as_many source f arguments takes result there =
      let from = from_there source f result there in ap (λ (function : CountedFunction). function.parameters) from.1.1
      ∙ ap (λ (o : Option FunctionCode). parameters_if 0 o) (sym from.1.0 ∙ takes.1.0) ∙ takes.1.1

  pub inserted_is_spent : (code : ProgramCode) → IsInsertable positions code → IsSpent positions (inserted positions code)
  inserted_is_spent code promise =
      record {
        each = λ f result there.
            let from = from_there code.functions f result there in
            subst (SpendsParameters positions (inserted_functions positions 0 code.functions) f) (sym from.1.1)
            (function_spent code.functions f from.0 (promise.each f from.0 from.1.0) (inserted_functions positions 0 code.functions)
            (takes_as_many code.functions));
        main = (
          inserted_function positions code.main promise.main.0,
          (inserted_there code.functions code.main promise.main.0 promise.main.1.0, promise.main.1.1),
        );
      }
