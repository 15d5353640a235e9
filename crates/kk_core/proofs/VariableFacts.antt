-- The facts on variables, and the values that an environment binds to them: they stay true in a longer store, and where more is
-- bound.
use Rattle.std.proofs.Common.{◌≡◌, ℕ, suc, ◌+◌, ◌<◌, ◌≤◌, ◌==◌, Bool, true, false, List, [], ◌∷◌, ◌++◌, ◌⊎◌, inl, inr, length, Option, Some, None, refl, sym, ap, subst, ◌∙◌, arith, add-one}
use Rattle.std.specs.Prelude.{if◌then◌else◌, is_some, map, slice_get}
use Rattle.std.proofs.lemmas.Bool.{eqb-true}
use Rattle.kk_syntax.specs.Patterns.{Pattern, anything, variable, exactly, constructor, Patterns, no_part, part}
use Rattle.kk_syntax.specs.Programs.{ConstructorTree}
use Rattle.kk_syntax.specs.Types.{TypeTree}
use Rattle.kk_source.specs.NeverStuck.{IsBound}
use Rattle.kk_source.specs.State.{Value, integer, unit, constant, place, Cell, Store, Environment}
use Rattle.kk_source.specs.Live.{value_of}
use Rattle.kk_source.specs.Matching.{is_integer, fields_made_by, fields_under, and_then, matched, matched_all}
use Rattle.kk_source.specs.Step.{bind_parameters}
use Rattle.kk_source.specs.ValueTypes.{IsOf, AreOf}
use Rattle.kk_source.proofs.Values.{get_longer, of_longer}
use Rattle.kk_core.specs.RowChoice.{matches}
use Rattle.kk_core.specs.CoreMachine.{bind_fields}
use Rattle.kk_core.specs.CoreTyping.{Fact, Facts, fact_in, knowing, typing, typing_parameters, knowing_fields, Has, HaveTypes}
use Rattle.kk_core.specs.NeverStuck.{AreBound}
use Rattle.kk_core.specs.Sizes.{Rise}

-- ---- patterns that values match

-- a value matches a pattern, whose variables count as `_`
abbrev mutual
  pub Takes : Store → Pattern → Value → Type 0
  Takes store anything v = Unit {0}
  Takes store (variable x) v = Unit {0}
  Takes store (exactly n) v = is_integer n v ≡ true
  Takes store (constructor c parts) v = (vs : List Value) × (fields_under store c v ≡ Some vs) × TakeEach store parts vs

  pub TakeEach : Store → Patterns → List Value → Type 0
  TakeEach store no_part [] = Unit {0}
  TakeEach store no_part (v ∷ vs) = ⊥
  TakeEach store (part first rest) [] = ⊥
  TakeEach store (part first rest) (v ∷ vs) = Takes store first v × TakeEach store rest vs

some_then : {A B : Type 0} (o : Option A) (next : A → Option B) (y : B) → and_then o next ≡ Some y → (x : A) × (o ≡ Some x)
    × (next x ≡ Some y)
some_then None next y is = absurd (cc)
some_then (Some x) next y is = (x, refl, is)

if_some : {X : Type 0} (t : Bool) (x y : X) → (if t then Some x else None) ≡ Some y → t ≡ true
if_some true x y is = refl
if_some false x y is = absurd (cc)

module _ (store : Store) where
  mutual
    matched_takes : (p : Pattern) (v : Value) (env bound : Environment) → matched store p v env ≡ Some bound → Takes store p v
    matched_takes anything v env bound is = tt
    matched_takes (variable x) v env bound is = tt
    matched_takes (exactly n) v env bound is = if_some (is_integer n v) env bound is
    matched_takes (constructor c parts) v env bound is =
        let some = some_then (fields_under store c v) (λ vs. matched_all store parts vs env) bound is in
        (some.0, some.1, all_taken parts some.0 env bound some.2)

    all_taken : (ps : Patterns) (vs : List Value) (env bound : Environment) → matched_all store ps vs env ≡ Some bound
        → TakeEach store ps vs
    all_taken no_part [] env bound is = tt
    all_taken no_part (v ∷ vs) env bound is = absurd (cc)
    all_taken (part p ps) [] env bound is = absurd (cc)
    all_taken (part p ps) (v ∷ vs) env bound is =
        let some = some_then (matched store p v env) (λ inner. matched_all store ps vs inner) bound is in
        (matched_takes p v env some.0 some.1, all_taken ps vs some.0 bound some.2)

  pub matches_takes : (p : Pattern) (v : Value) → matches store p v ≡ true → Takes store p v
  matches_takes p v is = by_bound (matched store p v []) refl is
    where
      by_bound : (bound : Option Environment) → matched store p v [] ≡ bound → is_some bound ≡ true → Takes store p v
      by_bound None at some = absurd (cc)
      by_bound (Some bound) at some = matched_takes p v [] bound at

-- ---- a longer store

module _ (store more : Store) where
  cell_longer : (c at : ℕ) (vs : List Value) (found : Option Cell) → slice_get store at ≡ found → fields_made_by c found ≡ Some vs
      → fields_made_by c (slice_get (store ++ more) at) ≡ Some vs
  cell_longer c at vs None there is = absurd (cc)
  cell_longer c at vs (Some cell) there is = ap (fields_made_by c) (get_longer store more at cell there) ∙ is

  fields_longer : (c : ℕ) (v : Value) (vs : List Value) → fields_under store c v ≡ Some vs
      → fields_under (store ++ more) c v ≡ Some vs
  fields_longer c (integer n) vs is = absurd (cc)
  fields_longer c unit vs is = absurd (cc)
  fields_longer c (constant d) vs is = is
  fields_longer c (place at) vs is = cell_longer c at vs (slice_get store at) refl is

  mutual
    pub takes_longer : (p : Pattern) (v : Value) → Takes store p v → Takes (store ++ more) p v
    takes_longer anything v takes = tt
    takes_longer (variable x) v takes = tt
    takes_longer (exactly n) v takes = takes
    takes_longer (constructor c parts) v takes = (takes.0, fields_longer c v takes.0 takes.1, each_longer parts takes.0 takes.2)

    each_longer : (ps : Patterns) (vs : List Value) → TakeEach store ps vs → TakeEach (store ++ more) ps vs
    each_longer no_part [] take = tt
    each_longer no_part (v ∷ vs) take = absurd take
    each_longer (part p ps) [] take = absurd take
    each_longer (part p ps) (v ∷ vs) take = (takes_longer p v take.0, each_longer ps vs take.1)

-- ---- facts

-- a value is as a fact says
pub record IsAs (constructors : List ConstructorTree) (store : Store) (fact : Fact) (v : Value) : Type 0 where
  pub of : IsOf constructors store fact.type v
  pub takes : Takes store fact.pattern v

-- each fact is true of the value of its variable, which is below a number
pub record Stand (constructors : List ConstructorTree) (store : Store) (facts : Facts) (environment : Environment) (low : ℕ) : Type
    0 where
  pub each : (x : ℕ) (fact : Fact) → fact_in facts x ≡ Some fact → IsAs constructors store fact (value_of environment x)
  pub there : (x : ℕ) (fact : Fact) → fact_in facts x ≡ Some fact → IsBound environment x
  pub below : (x : ℕ) (fact : Fact) → fact_in facts x ≡ Some fact → x < low

-- the variables below a number have the same values, and stay bound
abbrev pub SameBelow : ℕ → Environment → Environment → Type 0
SameBelow low environment later =
    (x : ℕ) → x < low → (value_of later x ≡ value_of environment x) × (IsBound environment x → IsBound later x)

pub unchanged : (low : ℕ) (environment : Environment) → SameBelow low environment environment
unchanged low environment = λ x less. (refl, λ bound. bound)

pub same_bound : (low x : ℕ) (v : Value) (environment : Environment) → low ≤ x
    → SameBelow low environment (record { variable = x; value = v } ∷ environment)
same_bound low x v environment le = λ y less. (by_test y less (x == y) refl, λ bound. inr bound)
  where
    by_test : (y : ℕ) → y < low → (same : Bool) → (x == y) ≡ same
        → (if same then v else value_of environment y) ≡ value_of environment y
    by_test y less true same = let is : x ≡ y = eqb-true x y same in absurd (omega (arith, is, less, le))
    by_test y less false other = refl

module _ (constructors : List ConstructorTree) (store : Store) where
  pub of_type : (t : TypeTree) (v : Value) → IsOf constructors store t v
      → IsAs constructors store (record { type = t; pattern = anything }) v
  of_type t v of = record { of = of; takes = tt }

  pub stand_none : (environment : Environment) (low : ℕ) → Stand constructors store [] environment low
  stand_none environment low = record { each = λ x fact is. absurd (cc); there = λ x fact is. absurd (cc); below = λ x fact is. absurd (cc) }

  pub stand_move : (facts : Facts) (environment later : Environment) (low high : ℕ) → SameBelow low environment later → low ≤ high
      → Stand constructors store facts environment low → Stand constructors store facts later high
  stand_move facts environment later low high same le stand =
      record {
        each = λ x fact is. subst (IsAs constructors store fact) (sym (same x (stand.below x fact is)).0) (stand.each x fact is);
        there = λ x fact is. (same x (stand.below x fact is)).1 (stand.there x fact is);
        below = λ x fact is. let less = stand.below x fact is in omega (arith, less, le);
      }

  -- a variable that is bound to a value, and what is known of it
  pub stand_bound : (facts : Facts) (environment : Environment) (low x : ℕ) (fact : Fact) (v : Value) → low ≤ x
      → IsAs constructors store fact v → Stand constructors store facts environment low
      → Stand constructors store (record { variable = x; fact = fact } ∷ facts) (record { variable = x; value = v } ∷ environment)
      (x + 1)
  stand_bound facts environment low x fact v le good stand =
      record {
        each = λ y other is. each_one y other (x == y) refl is;
        there = λ y other is. there_one y other (x == y) refl is;
        below = λ y other is. below_one y other (x == y) refl is;
      }
    where
      there_one : (y : ℕ) (other : Fact) (same : Bool) → (x == y) ≡ same
          → (if same then Some fact else fact_in facts y) ≡ Some other → (x ≡ y) ⊎ IsBound environment y
      there_one y other true same is = inl (eqb-true x y same)
      there_one y other false same is = inr (stand.there y other is)

      each_one : (y : ℕ) (other : Fact) (same : Bool) → (x == y) ≡ same → (if same then Some fact else fact_in facts y) ≡ Some other
          → IsAs constructors store other (if same then v else value_of environment y)
      each_one y other true same is = let one : fact ≡ other = cc in subst (λ f. IsAs constructors store f v) one good
      each_one y other false same is = stand.each y other is

      below_one : (y : ℕ) (other : Fact) (same : Bool) → (x == y) ≡ same
          → (if same then Some fact else fact_in facts y) ≡ Some other → y < x + 1
      below_one y other true same is = let one : x ≡ y = eqb-true x y same in omega (arith, one)
      below_one y other false same is = let less = stand.below y other is in omega (arith, less, le)

  -- more is known of a variable that is bound
  pub stand_known : (facts : Facts) (environment : Environment) (low x : ℕ) (fact known : Fact) → fact_in facts x ≡ Some fact
      → IsAs constructors store known (value_of environment x) → Stand constructors store facts environment low
      → Stand constructors store (record { variable = x; fact = known } ∷ facts) environment low
  stand_known facts environment low x fact known is good stand =
      record {
        each = λ y other at. each_one y other (x == y) refl at;
        there = λ y other at. there_one y other (x == y) refl at;
        below = λ y other at. below_one y other (x == y) refl at;
      }
    where
      there_one : (y : ℕ) (other : Fact) (same : Bool) → (x == y) ≡ same
          → (if same then Some known else fact_in facts y) ≡ Some other → IsBound environment y
      there_one y other true same at = subst (IsBound environment) (eqb-true x y same) (stand.there x fact is)
      there_one y other false same at = stand.there y other at

      each_one : (y : ℕ) (other : Fact) (same : Bool) → (x == y) ≡ same
          → (if same then Some known else fact_in facts y) ≡ Some other → IsAs constructors store other (value_of environment y)
      each_one y other true same at =
          let one : known ≡ other = cc in
          subst (λ z. IsAs constructors store other (value_of environment z)) (eqb-true x y same)
          (subst (λ f. IsAs constructors store f (value_of environment x)) one good)
      each_one y other false same at = stand.each y other at

      below_one : (y : ℕ) (other : Fact) (same : Bool) → (x == y) ≡ same
          → (if same then Some known else fact_in facts y) ≡ Some other → y < low
      below_one y other true same at = let less = stand.below x fact is in omega (arith, less, eqb-true x y same)
      below_one y other false same at = stand.below y other at

  -- parameters that are bound to values of their types
  pub parameters_stand : (next : ℕ) (ts : List TypeTree) (vs : List Value) (facts : Facts) (environment : Environment)
      → AreOf constructors store ts vs → Stand constructors store facts environment next
      → Stand constructors store (typing_parameters next ts facts) (bind_parameters next vs environment) (next + length ts)
  parameters_stand next [] [] facts environment of stand =
      stand_move facts environment environment next (next + 0) (unchanged next environment) (omega arith) stand
  parameters_stand next [] (v ∷ vs) facts environment of stand = absurd of
  parameters_stand next (t ∷ ts) [] facts environment of stand = absurd of
  parameters_stand next (t ∷ ts) (v ∷ vs) facts environment of stand =
      subst (λ n. Stand constructors store (typing_parameters (next + 1) ts (typing next t facts))
      (bind_parameters n vs (record { variable = next; value = v } ∷ environment)) (next + suc (length ts))) (add-one next)
      (subst (Stand constructors store (typing_parameters (next + 1) ts (typing next t facts))
      (bind_parameters (next + 1) vs (record { variable = next; value = v } ∷ environment))) (omega arith)
      (parameters_stand (next + 1) ts vs (typing next t facts) (record { variable = next; value = v } ∷ environment) of.1
      (stand_bound facts environment next next (record { type = t; pattern = anything }) v (omega arith) (of_type t v of.0) stand)))

  -- variables that are bound to the fields of a cell
  pub fields_stand : (xs : List ℕ) (ts : List TypeTree) (ps : Patterns) (vs : List Value) (facts : Facts)
      (environment : Environment) (low high : ℕ) → length xs ≡ length ts → AreOf constructors store ts vs → TakeEach store ps vs
      → Rise low xs high → Stand constructors store facts environment low
      → Stand constructors store (knowing_fields xs ts ps facts) (bind_fields xs vs environment) high
  fields_stand [] ts ps vs facts environment low high many of takes rise stand =
      stand_move facts environment environment low high (unchanged low environment) rise stand
  fields_stand (x ∷ xs) [] ps vs facts environment low high many of takes rise stand = absurd (cc)
  fields_stand (x ∷ xs) (t ∷ ts) ps [] facts environment low high many of takes rise stand = absurd of
  fields_stand (x ∷ xs) (t ∷ ts) no_part (v ∷ vs) facts environment low high many of takes rise stand = absurd takes
  fields_stand (x ∷ xs) (t ∷ ts) (part p ps) (v ∷ vs) facts environment low high many of takes rise stand =
      let as_many : length xs ≡ length ts = omega (arith, many) in
      fields_stand xs ts ps vs (knowing x t p facts) (record { variable = x; value = v } ∷ environment) (x + 1) high as_many of.1
      takes.1 rise.1
      (stand_bound facts environment low x (record { type = t; pattern = p }) v rise.0 (record { of = of.0; takes = takes.0 })
      stand)

pub rise_le : (low high : ℕ) (xs : List ℕ) → Rise low xs high → low ≤ high
rise_le low high [] rise = rise
rise_le low high (x ∷ xs) rise = let more = rise_le (x + 1) high xs rise.1 in omega (arith, rise.0, more)

pub same_fields : (low high : ℕ) (xs : List ℕ) (vs : List Value) (environment : Environment) → Rise low xs high
    → SameBelow low environment (bind_fields xs vs environment)
same_fields low high [] vs environment rise = unchanged low environment
same_fields low high (x ∷ xs) [] environment rise = unchanged low environment
same_fields low high (x ∷ xs) (v ∷ vs) environment rise = λ y less.
    let later =
    same_fields (x + 1) high xs vs (record { variable = x; value = v } ∷ environment) rise.1 y (omega (arith, less, rise.0)) in
    let one = same_bound low x v environment rise.0 y less in
    (later.0 ∙ one.0, λ bound. later.1 (one.1 bound))

module _ (constructors : List ConstructorTree) (store more : Store) where
  pub stand_longer : (facts : Facts) (environment : Environment) (low : ℕ) → Stand constructors store facts environment low
      → Stand constructors (store ++ more) facts environment low
  stand_longer facts environment low stand =
      record {
        each = λ x fact is. let good = stand.each x fact is in
            record {
              of = of_longer store more constructors fact.type (value_of environment x) good.of;
              takes = takes_longer store
                  more fact.pattern (value_of environment x) good.takes;
            };
        there = stand.there;
        below = stand.below;
      }

-- ---- the values of typed variables

module _ (constructors : List ConstructorTree) (store : Store) (facts : Facts) (environment : Environment) (low : ℕ)
    (stand : Stand constructors store facts environment low) where
  pub typed_value : (x : ℕ) (t : TypeTree) → Has facts x t → IsOf constructors store t (value_of environment x)
  typed_value x t has = (stand.each x (record { type = t; pattern = has.0 }) has.1).of

  pub typed_values : (xs : List ℕ) (ts : List TypeTree) → HaveTypes facts xs ts
      → AreOf constructors store ts (map (value_of environment) xs)
  typed_values [] [] have = tt
  typed_values [] (t ∷ ts) have = absurd have
  typed_values (x ∷ xs) [] have = absurd have
  typed_values (x ∷ xs) (t ∷ ts) have = (typed_value x t have.0, typed_values xs ts have.1)

  pub typed_bound : (xs : List ℕ) (ts : List TypeTree) → HaveTypes facts xs ts → AreBound environment xs
  typed_bound [] [] have = tt
  typed_bound [] (t ∷ ts) have = absurd have
  typed_bound (x ∷ xs) [] have = absurd have
  typed_bound (x ∷ xs) (t ∷ ts) have =
      (stand.there x (record { type = t; pattern = have.0.0 }) have.0.1, typed_bound xs ts have.1)
