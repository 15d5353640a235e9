-- In a core form whose program's owned positions are closed under the rule on tail calls, tail calls lend what is lent.
use Rattle.std.proofs.Common.{◌≡◌, ◌≢◌, ◌⊎◌, inl, inr, ℕ, zero, suc, ◌+◌, ◌<◌, ◌≤◌, ◌==◌, ◌||◌, Bool, true, false, not, List, [], ◌∷◌, map, length, Some, arith, refl, sym, ap, ◌∙◌, subst}
use Rattle.std.specs.Prelude.{if◌then◌else◌, slice_get, slice_index_or, IsTrue}
use Rattle.kk_syntax.specs.declared.positions.Ownership.{Ownership}
use Rattle.kk_syntax.specs.declared.positions.Ownership.TheVariants.{Owned, Lent}
use Rattle.kk_syntax.specs.OwnedPositions.{arity_of, lent_below, owned_in, Told, OwnsHanded, ClosedUnderTailCalls}
use Rattle.kk_syntax.specs.PositionsOf.{PositionTable, lends, is_lent}
use Rattle.kk_syntax.specs.Programs.{ConstructorTree, FunctionTree, ProgramTree, no_function}
use Rattle.kk_syntax.specs.Shapes.{is_among}
use Rattle.kk_core.specs.Codes.{FunctionCode, ProgramCode}
use Rattle.kk_norm.specs.Normalized.{IsCoreOf, AreCoresOf, IsCoreForm}
use Rattle.kk_counted.specs.Spending.{at_positions, numbers_from}
use Rattle.kk_counted.proofs.CountChanges as Counting
use Rattle.kk_insert.specs.Insertion.{lent_of}
use Rattle.kk_insert.specs.Promise.{TailsLendOn}
use Rattle.kk_insert.proofs.Sets.{among_first, among_next, in_either, no_both}
use Rattle.kk_middle.specs.LentNames.{KeepsLent}
use Rattle.kk_middle.proofs.LentTails.{tail_lends}

-- ---- a row of positions

-- a position that is lent is in its row
in_row : (row : List Ownership) (i : ℕ) → lends (slice_index_or row i Owned) ≡ true → i < length row
in_row [] i is = absurd (cc)
in_row (x ∷ row) zero is = omega arith
in_row (x ∷ row) (suc i) is = let less = in_row row i is in omega (arith, less)

-- so it is lent whatever holds of the others
lent_there : (row : List Ownership) (i : ℕ) → i < length row → slice_index_or row i Owned ≡ slice_index_or row i Lent
lent_there [] i less = absurd (omega (arith, less))
lent_there (x ∷ row) zero less = refl
lent_there (x ∷ row) (suc i) less = lent_there row i (omega (arith, less))

-- the row of a function, by the numbers of parameters
pub row_length : (table : PositionTable) (functions : List FunctionTree) (f : ℕ)
    → map length table ≡ map (λ (function : FunctionTree). length function.parameters) functions
    → length (slice_index_or table f []) ≡ length (slice_index_or functions f no_function).parameters
row_length [] [] f same = refl
row_length [] (function ∷ functions) f same = absurd (cc)
row_length (row ∷ table) [] f same = absurd (cc)
row_length (row ∷ table) (function ∷ functions) zero same = first same
  where
    first : length row ∷ map length table
        ≡ length function.parameters ∷ map (λ (g : FunctionTree). length g.parameters) functions
        → length row ≡ length function.parameters
    first equal = cc
row_length (row ∷ table) (function ∷ functions) (suc f) same = row_length table functions f (rest same)
  where
    rest : length row ∷ map length table
        ≡ length function.parameters ∷ map (λ (g : FunctionTree). length g.parameters) functions
        → map length table ≡ map (λ (g : FunctionTree). length g.parameters) functions
    rest equal = cc

-- ---- the lent parameters of a function

differ : (n i : ℕ) → (n == i) ≡ false → n ≢ i
differ n i other same = no_both ⊥ (n == i) (subst (λ (y : ℕ). (n == y) ≡ true) same (Counting.itself n)) other

in_numbered : (takes : ℕ → Bool) (n k i : ℕ) → n ≤ i → i < n + k → takes i ≡ true
    → is_among (at_positions takes n (numbers_from n k)) i ≡ true
in_numbered takes n zero i le less is = absurd (omega (arith, le, less))
in_numbered takes n (suc k) i le less is =
    by (decided (n == i)) (decided (takes n)) (λ later. in_numbered takes (suc n) k i later (omega (arith, less)) is)
  where
    decided : (t : Bool) → (t ≡ true) ⊎ (t ≡ false)
    decided true = inl refl
    decided false = inr refl

    more : List ℕ
    more = at_positions takes (suc n) (numbers_from (suc n) k)

    put : (t : Bool) → takes n ≡ t → is_among (if t then n ∷ more else more) i ≡ true
        → is_among (if takes n then n ∷ more else more) i ≡ true
    put t at there = subst (λ (b : Bool). is_among (if b then n ∷ more else more) i ≡ true) (sym at) there

    next : n ≤ i → (n == i) ≡ false → suc n ≤ i
    next one two = omega (arith, one, differ n i two)

    by : ((n == i) ≡ true) ⊎ ((n == i) ≡ false) → (takes n ≡ true) ⊎ (takes n ≡ false)
        → (suc n ≤ i → is_among more i ≡ true) → is_among (if takes n then n ∷ more else more) i ≡ true
    by (inl same) (inl at) later =
        put true at (subst (λ (y : ℕ). is_among (n ∷ more) y ≡ true) (Counting.same n i same) (among_first n more))
    by (inl same) (inr at) later =
        no_both (is_among (if takes n then n ∷ more else more) i ≡ true) (takes i) is
        (subst (λ (y : ℕ). takes y ≡ false) (Counting.same n i same) at)
    by (inr other) (inl at) later = put true at (among_next n i more (later (next le other)))
    by (inr other) (inr at) later = put false at (later (next le other))

-- the parameters that are not owned
below_is : (owned : ℕ → Bool) (count x : ℕ) → is_among (lent_below owned count) x ≡ true → (x < count) × (owned x ≡ false)
below_is owned zero x is = absurd (nothing is)
  where
    nothing : false ≡ true → ⊥
    nothing same = cc
below_is owned (suc count) x is =
    either (in_either (lent_below owned count) (if owned count then [] else count ∷ []) x is) (below_is owned count x)
  where
    last : (t : Bool) → owned count ≡ t → is_among (if t then [] else count ∷ []) x ≡ true → (x < suc count) × (owned x ≡ false)
    last true at there = absurd (nothing there)
      where
        nothing : false ≡ true → ⊥
        nothing same = cc
    last false at there =
        let same : count ≡ x = only (count == x) refl there in
        (subst (λ (y : ℕ). y < suc count) same (omega arith), subst (λ (y : ℕ). owned y ≡ false) same at)
      where
        only : (t : Bool) → (count == x) ≡ t → (t || false) ≡ true → count ≡ x
        only true at there = Counting.same count x at
        only false at there = absurd (nothing there)
          where
            nothing : false ≡ true → ⊥
            nothing same = cc

    either : (is_among (lent_below owned count) x ≡ true) ⊎ (is_among (if owned count then [] else count ∷ []) x ≡ true)
        → (is_among (lent_below owned count) x ≡ true → (x < count) × (owned x ≡ false)) → (x < suc count) × (owned x ≡ false)
    either (inl there) below =
        let before = below there in
        let less = before.0 in
        (omega (arith, less), before.1)
    either (inr there) below = last (owned count) refl there

not_false : (t : Bool) → not t ≡ false → t ≡ true
not_false true is = refl
not_false false is = absurd (cc)

module _ (program : ProgramTree) (code : ProgramCode) (positions : PositionTable) (told : Told program positions)
    (closed : ClosedUnderTailCalls program (owned_in positions)) where
  in_range : (f i : ℕ) → is_lent positions f i ≡ true → i < arity_of program f
  in_range f i is =
      subst (λ (n : ℕ). i < n) (row_length positions program.functions f told) (in_row (slice_index_or positions f []) i is)

  apart : (f i : ℕ) → is_lent positions f i ≡ true → IsTrue (owned_in positions f i) → ⊥
  apart f i is owned =
      by (lends (slice_index_or (slice_index_or positions f []) i Lent))
      (ap lends (sym (lent_there (slice_index_or positions f []) i (in_row (slice_index_or positions f []) i is))) ∙ is) owned
    where
      by : (t : Bool) → t ≡ true → IsTrue (not t) → ⊥
      by true at never = cc
      by false at never = cc

  -- a parameter that is not owned is lent
  lent_parameters : (f count x : ℕ) → count ≡ arity_of program f → is_among (lent_below (owned_in positions f) count) x ≡ true
      → is_among (at_positions (is_lent positions f) 0 (numbers_from 0 count)) x ≡ true
  lent_parameters f count x is there =
      let one = below_is (owned_in positions f) count x there in
      let less : x < count = one.0 in
      let row : List Ownership = slice_index_or positions f [] in
      let within : x < length row = subst (λ (n : ℕ). x < n) (is ∙ sym (row_length positions program.functions f told)) less in
      in_numbered (is_lent positions f) 0 count x (omega arith) (omega (arith, less))
      (ap lends (lent_there row x within) ∙ not_false (lends (slice_index_or row x Lent)) one.1)

  -- ---- functions

  -- a function of the core form is that of one of the program
  core_there : (constructors : List ConstructorTree) (functions : List FunctionTree) (cores : List FunctionCode) (f : ℕ) (core : FunctionCode)
      → AreCoresOf constructors functions cores → slice_get cores f ≡ Some core
      → (function : FunctionTree) × ((slice_get functions f ≡ Some function) × IsCoreOf constructors function core)
  core_there constructors [] cores f core are there =
      absurd (nothing f (ap (λ (xs : List FunctionCode). slice_get xs f) (sym are) ∙ there))
    where
      nothing : (f : ℕ) → slice_get [] f ≡ Some core → ⊥
      nothing f is = cc
  core_there constructors (function ∷ functions) [] f core are there = absurd are
  core_there constructors (function ∷ functions) (first ∷ cores) zero core are there =
      (function, (refl, subst (λ (c : FunctionCode). IsCoreOf constructors function c) (only there) are.0))
    where
      only : Some first ≡ Some core → first ≡ core
      only same = cc
  core_there constructors (function ∷ functions) (first ∷ cores) (suc f) core are there =
      core_there constructors functions cores f core are.1 there

  at_number : (functions : List FunctionTree) (f : ℕ) (function : FunctionTree) → slice_get functions f ≡ Some function
      → (f < length functions) × (slice_index_or functions f no_function ≡ function)
  at_number [] f function there = absurd (cc)
  at_number (first ∷ functions) zero function there = (omega arith, only there)
    where
      only : Some first ≡ Some function → first ≡ function
      only same = cc
  at_number (first ∷ functions) (suc f) function there =
      let one = at_number functions f function there in
      let less = one.0 in
      (omega (arith, less), one.1)

  pub programs_lend_on : IsCoreForm program code
      → ((f : ℕ) (function : FunctionTree) → slice_get program.functions f ≡ Some function
      → KeepsLent (lent_below (owned_in positions f) (length function.parameters)) function.body)
      → TailsLendOn positions code
  programs_lend_on form keeps f core there =
      let one = core_there program.constructors program.functions code.functions f core form.functions there in
      let function : FunctionTree = one.0 in
      let place = at_number program.functions f function one.1.0 in
      let count : length function.parameters ≡ arity_of program f = ap (λ (g : FunctionTree). length g.parameters) (sym place.1) in
      let same : core.parameters ≡ length function.parameters = one.1.1.parameters in
      let own : List ℕ = lent_below (owned_in positions f) (length function.parameters) in
      let handed : OwnsHanded program (owned_in positions) f function =
      subst (OwnsHanded program (owned_in positions) f) place.1 (closed f place.0) in
      tail_lends program positions in_range apart program.constructors own function.body [] [] (length function.parameters) core.body
      (at_positions (is_lent positions f) 0 (numbers_from 0 core.parameters)) (lent_of positions f core) one.1.1.body
      (λ x is. subst (λ (n : ℕ). is_among (at_positions (is_lent positions f) 0 (numbers_from 0 n)) x ≡ true) (sym same)
      (lent_parameters f (length function.parameters) x count is))
      (λ y is. is) (keeps f function one.1.0) handed
