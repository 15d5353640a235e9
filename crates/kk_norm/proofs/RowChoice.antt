-- The row of a match that is chosen, in the source and in the core form.
use Rattle.std.proofs.Common.{◌≡◌, ℕ, suc, ◌+◌, ◌≤◌, Bool, true, false, List, [], ◌∷◌, Option, Some, None, option_map, refl, sym, ap, subst, ◌∙◌, arith}
use Rattle.std.specs.Prelude.{if◌then◌else◌, is_some}
use Rattle.kk_syntax.specs.Patterns.{Pattern, anything, variable, exactly, constructor, Patterns, no_part, part}
use Rattle.kk_syntax.specs.Shapes.{bound, free, free_rows, nodes_of, nodes_of_rows, without}
use Rattle.kk_syntax.specs.Trees.{Tree, Rows, no_row, row, row_parts, pattern_of_row, body_of_row}
use Rattle.kk_source.specs.State.{Value, Store, Environment}
use Rattle.kk_source.specs.Matching.{Chosen, is_integer, fields_under, and_then, matched, matched_all, chosen_or, first_match}
use Rattle.kk_core.specs.Codes.{Code, Arms, arm}
use Rattle.kk_core.specs.CoreMachine.{arm_at}
use Rattle.kk_core.specs.RowChoice.{first_row}
use Rattle.kk_norm.specs.OpenedCells.{openings}
use Rattle.kk_norm.specs.Meaning.{openings_if, openings_of_rows}
use Rattle.kk_norm.specs.Names.{Names}
use Rattle.kk_norm.specs.Normalized.{Then, size, size_rows, pattern_size, pattern_names, opened, IsCode, AreArms, patterns_in}
use Rattle.kk_norm.proofs.Bounds.{Bounds, OpensAtMost, RowsOpenAtMost, of_match}
use Rattle.kk_norm.proofs.Openings.{same_some}
use Rattle.kk_norm.proofs.Variables.{Stands, stands_left, stands_right}

-- ---- what a pattern matches does not depend on the environment

abbrev pub IsSome : {A : Type 0} → Option A → Type 0
IsSome None = ⊥
IsSome (Some x) = Unit {0}

some_is : {A : Type 0} (o : Option A) (x : A) → o ≡ Some x → IsSome o
some_is o x is = subst (λ (p : Option _). IsSome p) (sym is) tt

some_chain : {A B : Type 0} (o : Option A) (first second : A → Option B) → ((x : A) → IsSome (first x) → IsSome (second x))
    → IsSome (and_then o first) → IsSome (and_then o second)
some_chain None first second each is = is
some_chain (Some x) first second each is = each x is

some_chains : {A : Type 0} (o p : Option A) (first second : A → Option A) → (IsSome o → IsSome p)
    → ((x y : A) → IsSome (first x) → IsSome (second y)) → IsSome (and_then o first) → IsSome (and_then p second)
some_chains None p first second one each is = absurd is
some_chains (Some x) None first second one each is = absurd (one tt)
some_chains (Some x) (Some y) first second one each is = each x y is

mutual
  matches_anyway : (store : Store) (p : Pattern) (v : Value) (environment other : Environment)
      → IsSome (matched store p v environment) → IsSome (matched store p v other)
  matches_anyway store anything v environment other is = tt
  matches_anyway store (variable x) v environment other is = tt
  matches_anyway store (exactly n) v environment other is = by_test (is_integer n v) is
    where
      by_test : (b : Bool) → IsSome (if b then Some environment else None) → IsSome (if b then Some other else None)
      by_test true is = tt
      by_test false is = absurd is
  matches_anyway store (constructor c ps) v environment other is =
      some_chain (fields_under store c v) (λ vs. matched_all store ps vs environment) (λ vs. matched_all store ps vs other)
      (λ vs one. match_anyway store ps vs environment other one) is

  match_anyway : (store : Store) (ps : Patterns) (vs : List Value) (environment other : Environment)
      → IsSome (matched_all store ps vs environment) → IsSome (matched_all store ps vs other)
  match_anyway store no_part [] environment other is = tt
  match_anyway store no_part (v ∷ vs) environment other is = absurd is
  match_anyway store (part first rest) [] environment other is = absurd is
  match_anyway store (part first rest) (v ∷ vs) environment other is =
      some_chains (matched store first v environment) (matched store first v other) (λ bound. matched_all store rest vs bound)
      (λ bound. matched_all store rest vs bound)
      (λ one. matches_anyway store first v environment other one) (λ here there one. match_anyway store rest vs here there one) is

-- ---- the first row that matches

abbrev row_if : Option Environment → Option ℕ → Option ℕ
row_if None later = option_map suc later
row_if (Some bound) later = Some 0

-- its number, by recursion on the rows
abbrev row_of : Store → Rows → Value → Option ℕ
row_of store no_row v = None
row_of store (row first rest) v = row_if (matched store (pattern_of_row first) v []) (row_of store rest v)

-- numbers that begin one later are one greater
one_later : (store : Store) (k : ℕ) (ps : List Pattern) (v : Value)
    → first_row store (k + 1) ps v ≡ option_map suc (first_row store k ps v)
one_later store k [] v = refl
one_later store k (p ∷ ps) v = by_match (matched store p v []) (one_later store (k + 1) ps v)
  where
    by_match : (found : Option Environment) → first_row store (k + 1 + 1) ps v ≡ option_map suc (first_row store (k + 1) ps v)
        → (if is_some found then Some (k + 1) else first_row store (k + 1 + 1) ps v) ≡ option_map suc
        (if is_some found then Some k else first_row store (k + 1) ps v)
    by_match None later = later
    by_match (Some bound) later = ap (λ (i : ℕ). Some i) {x = k + 1} {y = suc k} (omega arith)

first_is : (store : Store) (of : Rows) (v : Value) → first_row store 0 (patterns_in of) v ≡ row_of store of v
first_is store no_row v = refl
first_is store (row first rest) v =
    by_match (matched store (pattern_of_row first) v []) (one_later store 0 (patterns_in rest) v) (first_is store rest v)
  where
    by_match : (found : Option Environment) → first_row store (0 + 1) (patterns_in rest) v ≡ option_map suc
        (first_row store 0 (patterns_in rest) v) → first_row store 0 (patterns_in rest) v ≡ row_of store rest v
        → (if is_some found then Some 0 else first_row store (0 + 1) (patterns_in rest) v) ≡ row_if found (row_of store rest v)
    by_match None shift later = shift ∙ ap (option_map suc) later
    by_match (Some bound) shift later = refl

-- ---- the row that is chosen

-- A row matches: its arm, what the source goes on with, and the numbers of its variables.
pub record Picked (given : Bounds) (k : Then) (names : Names) (a n : ℕ) (of : Rows) (arms : Arms) (store : Store) (v : Value)
    (environment core : Environment) (low i : ℕ) : Type 0 where
  pub pattern : Pattern
  pub body : Tree
  pub later : Environment
  pub from : ℕ
  pub code : Code
  pub match_is : matched store pattern v environment ≡ Some later
  pub source_is : first_match store of v environment ≡ Some (record { body = body; environment = later })
  pub arm_is : arm_at arms i ≡ Some (opened a from pattern code)
  pub coded : IsCode given.constructors k (pattern_names a from pattern names) (from + pattern_size pattern) body code
  pub opens : openings_of_rows store of v environment ≡ openings pattern
  pub open_few : openings pattern ≤ given.cells
  pub body_opens : OpensAtMost given body
  pub starts : n ≤ from
  pub ends : from + pattern_size pattern + size body ≤ n + size_rows of
  pub small : nodes_of body ≤ nodes_of_rows of
  pub stands : Stands names environment core low (without (bound pattern) (free body))

picked_first : (given : Bounds) (k : Then) (names : Names) (a n : ℕ) (pattern : Pattern) (body : Tree) (rest : Rows) (arms : Arms)
    (store : Store) (v : Value) (environment core later : Environment) (low : ℕ)
    → AreArms given.constructors k names a n (row (row_parts pattern body) rest) arms → RowsOpenAtMost given (row (row_parts pattern body) rest)
    → Stands names environment core low (free_rows (row (row_parts pattern body) rest))
    → matched store pattern v environment ≡ Some later
    → Picked given k names a n (row (row_parts pattern body) rest) arms store v environment core low 0
picked_first given k names a n pattern body rest arms store v environment core later low are open_few stands found =
    record {
      pattern = pattern;
      body = body;
      later = later;
      from = n;
      code = are.0;
      match_is = found;
      source_is = ap (λ (o : Option Environment). chosen_or body o (first_match store rest v environment)) found;
      arm_is = ap (λ (all : Arms). arm_at all 0) are.2;
      coded = are.3;
      opens = ap (λ (o : Option Environment). openings_if o (openings pattern) (openings_of_rows store rest v environment)) found;
      open_few = open_few.0;
      body_opens = (of_match given body rest open_few.1).0;
      starts = omega arith;
      ends = omega arith;
      small = omega arith;
      stands = stands_left names environment core low (without (bound pattern) (free body)) (free_rows rest) stands;
    }

picked_later : (given : Bounds) (k : Then) (names : Names) (a n : ℕ) (pattern : Pattern) (body : Tree) (rest : Rows)
    (arms others : Arms) (own : Code) (store : Store) (v : Value) (environment core : Environment) (low i : ℕ)
    → arms ≡ arm pattern own others → matched store pattern v environment ≡ None
    → Picked given k names a (n + pattern_size pattern + size body) rest others store v environment core low i
    → Picked given k names a n (row (row_parts pattern body) rest) arms store v environment core low (suc i)
picked_later given k names a n pattern body rest arms others own store v environment core low i arms_are none picked =
    record {
      pattern = picked.pattern;
      body = picked.body;
      later = picked.later;
      from = picked.from;
      code = picked.code;
      match_is = picked.match_is;
      source_is = ap (λ (o : Option Environment). chosen_or body o (first_match store rest v environment)) none ∙ picked.source_is;
      arm_is = ap (λ (all : Arms). arm_at all (suc i)) arms_are ∙ picked.arm_is;
      coded = picked.coded;
      opens = ap (λ (o : Option Environment). openings_if o (openings pattern) (openings_of_rows store rest v environment)) none
          ∙ picked.opens;
      open_few = picked.open_few;
      body_opens = picked.body_opens;
      starts = omega (arith, picked.starts);
      ends = omega (arith, picked.ends);
      small = omega (arith, picked.small);
      stands = picked.stands;
    }

-- the first row that matches is picked
picks_row : (given : Bounds) (k : Then) (names : Names) (a n : ℕ) (of : Rows) (arms : Arms) (store : Store) (v : Value)
    (environment core : Environment) (low i : ℕ)
    → AreArms given.constructors k names a n of arms → RowsOpenAtMost given of → Stands names environment core low (free_rows of)
    → row_of store of v ≡ Some i
    → Picked given k names a n of arms store v environment core low i
picks_row given k names a n no_row arms store v environment core low i are open_few stands is = absurd (cc)
picks_row given k names a n (row (row_parts pattern body) rest) arms store v environment core low i are open_few stands is =
    by_match (matched store pattern v environment) refl (matched store pattern v []) refl is
    (λ j later_is. picks_row given k names a (n + pattern_size pattern + size body) rest are.1 store v environment core low j are.4
    (of_match given body rest open_few.1).1
    (stands_right names environment core low (without (bound pattern) (free body)) (free_rows rest) stands) later_is)
  where
    Goal : ℕ → Type 0
    Goal i = Picked given k names a n (row (row_parts pattern body) rest) arms store v environment core low i

    by_row : (o : Option ℕ) (i : ℕ) → row_of store rest v ≡ o → option_map suc o ≡ Some i
        → matched store pattern v environment ≡ None
        → ((j : ℕ) → row_of store rest v ≡ Some j → Picked given k names a
        (n + pattern_size pattern + size body) rest are.1 store v environment core low j) → Goal i
    by_row None i row_is is none recurse = absurd (cc)
    by_row (Some j) i row_is is none recurse =
        let next_one : suc j ≡ i = cc in
        subst Goal next_one (picked_later given k names a n pattern body rest arms are.1
        (opened a n pattern are.0) store v environment core low j are.2 none (recurse j row_is))

    by_match : (found : Option Environment) → matched store pattern v environment ≡ found → (empty : Option Environment)
        → matched store pattern v [] ≡ empty → row_if (matched store pattern v []) (row_of store rest v) ≡ Some i
        → ((j : ℕ) → row_of store rest v ≡ Some j → Picked given k names a
        (n + pattern_size pattern + size body) rest are.1 store v environment core low j) → Goal i
    by_match (Some later) found_is (Some bound) empty_is is recurse =
        let zero_is : 0 ≡ i = same_some 0 i (sym (ap (λ (o : Option Environment). row_if o (row_of store rest v)) empty_is) ∙ is) in
        subst Goal zero_is (picked_first given k names a n pattern body rest arms store v environment core later low are open_few
        stands found_is)
    by_match (Some later) found_is None empty_is is recurse =
        absurd (subst (λ (o : Option Environment). IsSome o) empty_is
        (matches_anyway store pattern v environment [] (some_is (matched store pattern v environment) later found_is)))
    by_match None found_is (Some bound) empty_is is recurse =
        absurd (subst (λ (o : Option Environment). IsSome o) found_is
        (matches_anyway store pattern v [] environment (some_is (matched store pattern v []) bound empty_is)))
    by_match None found_is None empty_is is recurse =
        by_row (row_of store rest v) i refl (sym (ap (λ (o : Option Environment). row_if o (row_of store rest v)) empty_is) ∙ is)
        found_is recurse

-- where a match chooses a row, there is a first one
row_there : (store : Store) (of : Rows) (v : Value) (environment : Environment) (chosen : Chosen)
    → first_match store of v environment ≡ Some chosen → (i : ℕ) × (row_of store of v ≡ Some i)
row_there store no_row v environment chosen is = absurd (cc)
row_there store (row first rest) v environment chosen is =
    by_match (matched store (pattern_of_row first) v environment) refl (matched store (pattern_of_row first) v []) refl is
    (λ later_is. row_there store rest v environment chosen later_is)
  where
    by_match : (found : Option Environment) → matched store (pattern_of_row first) v environment ≡ found → (empty : Option Environment)
        → matched store (pattern_of_row first) v [] ≡ empty → chosen_or (body_of_row first) (matched store (pattern_of_row first) v environment)
        (first_match store rest v environment) ≡ Some chosen
        → (first_match store rest v environment ≡ Some chosen → (i : ℕ) × (row_of store rest v ≡ Some i))
        → (i : ℕ) × (row_of store (row first rest) v ≡ Some i)
    by_match found found_is (Some bound) empty_is is recurse =
        (0, ap (λ (o : Option Environment). row_if o (row_of store rest v)) empty_is)
    by_match (Some later) found_is None empty_is is recurse =
        absurd (subst (λ (o : Option Environment). IsSome o) empty_is
        (matches_anyway store (pattern_of_row first) v environment [] (some_is (matched store (pattern_of_row first) v environment) later found_is)))
    by_match None found_is None empty_is is recurse =
        let one = recurse (sym (ap (λ (o : Option Environment). chosen_or (body_of_row first) o (first_match store rest v environment)) found_is)
        ∙ is) in
        (suc one.0, ap (λ (o : Option Environment). row_if o (row_of store rest v)) empty_is ∙ ap (option_map suc) one.1)

-- ---- by the patterns alone

pub picks : (given : Bounds) (k : Then) (names : Names) (a n : ℕ) (of : Rows) (arms : Arms) (store : Store) (v : Value)
    (environment core : Environment) (low i : ℕ)
    → AreArms given.constructors k names a n of arms → RowsOpenAtMost given of → Stands names environment core low (free_rows of)
    → first_row store 0 (patterns_in of) v ≡ Some i
    → Picked given k names a n of arms store v environment core low i
picks given k names a n of arms store v environment core low i are open_few stands is =
    picks_row given k names a n of arms store v environment core low i are open_few stands (sym (first_is store of v) ∙ is)

pub row_found : (store : Store) (of : Rows) (v : Value) (environment : Environment) (chosen : Chosen)
    → first_match store of v environment ≡ Some chosen → (i : ℕ) × (first_row store 0 (patterns_in of) v ≡ Some i)
row_found store of v environment chosen is =
    let one = row_there store of v environment chosen is in (one.0, first_is store of v ∙ one.1)
