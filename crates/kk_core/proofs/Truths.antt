-- What the decisions of a truth do.
use Rattle.std.proofs.Common.{◌≡◌, ◌≢◌, ◌⊎◌, ◌<◌, ◌≤◌, inl, inr, ℕ, zero, suc, Bool, true, false, List, [], ◌∷◌, map, length, Option, Some, None, refl, sym, subst, ne_eqb, ◌==◌, arith}
use Rattle.std.specs.Prelude.{slice_get, if◌then◌else◌, ◌||◌}
use Rattle.std.proofs.lemmas.Bool.{both_ways, eqb-true}
use Rattle.std.proofs.lemmas.Option.{none-some, same_Some}
use Rattle.kk_syntax.specs.Covered.{IsCovered}
use Rattle.kk_syntax.specs.GroundTyping.{HasTruths}
use Rattle.kk_syntax.specs.OfType.{IsPatternOf, values_of}
use Rattle.kk_syntax.specs.Outlines.{any, exactly, made, Outlines, no_outline, outline, outline_of, ClashIn}
use Rattle.kk_syntax.specs.Programs.{ConstructorTree}
use Rattle.kk_syntax.specs.Shapes.{is_among}
use Rattle.kk_syntax.specs.Typing.{bool}
use Rattle.kk_source.specs.FormEffects.{truth}
use Rattle.kk_source.specs.Matching.{and_then}
use Rattle.kk_source.specs.State.{Value, integer, unit, constant, place, Cell, Store}
use Rattle.kk_core.specs.Cases.{IsLean}
use Rattle.kk_core.specs.RowChoice.{first_row, Decides}
use Rattle.kk_core.specs.Decisions.{NodeTree, chooses, tests, found_at, is_answer, next_by, chosen, targets, row_chosen, AreOrderly}
use Rattle.kk_core.specs.declared.decisions.Answer.{Answer}
use Rattle.kk_core.specs.declared.decisions.Answer.TheVariants.{Constructor}
use Rattle.kk_core.specs.Edges.{edges_from, edges_behind}
use Rattle.kk_core.specs.Looks.{looks_from, looks_behind, HasFewLooks}
use Rattle.kk_core.specs.Truths.{true_pattern, false_pattern, truth_patterns, truth_decisions}

-- ---- the row that is chosen

-- `True` chooses the first row, and `False` the second
pub truth_chosen : (cells : ℕ → Option Cell) (test : Bool)
    → chosen cells (truth test) truth_decisions ≡ Some (if test then 0 else 1)
truth_chosen cells true = refl
truth_chosen cells false = refl

by_fields : (store : Store) (made_by : ℕ) (fields : List Value) (at row : ℕ)
    → slice_get store at ≡ Some (record { made_by = made_by; fields = fields })
    → first_row store 0 truth_patterns (place at) ≡ Some row
    → chosen (slice_get store) (place at) truth_decisions ≡ Some row
by_fields store zero [] at row there is = rw there (rw there at is)
by_fields store zero (v ∷ vs) at row there is = absurd (cc (rw there at is))
by_fields store (suc zero) [] at row there is = rw there (rw there at is)
by_fields store (suc zero) (v ∷ vs) at row there is = absurd (cc (rw there at is))
by_fields store (suc (suc c)) fields at row there is =
    let one : (suc (suc c) == 1) ≡ false = ne_eqb (suc (suc c)) 1 (λ e. omega (arith, e)) in
    let two : (suc (suc c) == 0) ≡ false = ne_eqb (suc (suc c)) 0 (λ e. omega (arith, e)) in
    let none : None ≡ Some row = rw two at (rw one at (rw there at is)) in absurd (cc)

by_constant : (store : Store) (c row : ℕ) → first_row store 0 truth_patterns (constant c) ≡ Some row
    → chosen (slice_get store) (constant c) truth_decisions ≡ Some row
by_constant store zero row is = is
by_constant store (suc zero) row is = is
by_constant store (suc (suc c)) row is =
    let one : (suc (suc c) == 1) ≡ false = ne_eqb (suc (suc c)) 1 (λ e. omega (arith, e)) in
    let two : (suc (suc c) == 0) ≡ false = ne_eqb (suc (suc c)) 0 (λ e. omega (arith, e)) in
    let none : None ≡ Some row = rw two at (rw one at is) in absurd (cc)

by_cell : (store : Store) (at row : ℕ) (found : Option Cell) → slice_get store at ≡ found
    → first_row store 0 truth_patterns (place at) ≡ Some row → chosen (slice_get store) (place at) truth_decisions ≡ Some row
by_cell store at row None there is = absurd (cc (rw there at is))
by_cell store at row (Some cell) there is = by_fields store cell.made_by cell.fields at row there is

by_value : (store : Store) (v : Value) (row : ℕ) → first_row store 0 truth_patterns v ≡ Some row
    → chosen (slice_get store) v truth_decisions ≡ Some row
by_value store (integer n) row is = absurd (cc)
by_value store unit row is = absurd (cc)
by_value store (constant c) row is = by_constant store c row is
by_value store (place at) row is = by_cell store at row (slice_get store at) refl is

pub truths_decide : (constructors : List ConstructorTree) → Decides constructors truth_patterns truth_decisions
truths_decide constructors t store v row patterns of is = by_value store v row is

-- ---- the nodes

abbrev test : NodeTree
test = tests [] (record { found = Constructor 0; next = 2 } ∷ []) (Some 1)

targets_later : (j : ℕ) → is_among (1 ∷ 2 ∷ []) j ≡ true → (0 < j) × (j < 3)
targets_later zero is = absurd (cc)
targets_later (suc zero) is = (omega arith, omega arith)
targets_later (suc (suc zero)) is = (omega arith, omega arith)
targets_later (suc (suc (suc j))) is =
    let one : (1 == suc (suc (suc j))) ≡ false = ne_eqb 1 (suc (suc (suc j))) (λ e. omega (arith, e)) in
    let two : (2 == suc (suc (suc j))) ≡ false = ne_eqb 2 (suc (suc (suc j))) (λ e. omega (arith, e)) in
    let none : false ≡ true = rw two at (rw one at is) in absurd (cc)

node_later : (k j : ℕ) (node : NodeTree) → slice_get truth_decisions k ≡ Some node → is_among (targets node) j ≡ true
    → (k < j) × (j < length truth_decisions)
node_later zero j node there is =
    targets_later j (subst (λ (n : NodeTree). is_among (targets n) j ≡ true) (sym (same_Some test node there)) is)
node_later (suc zero) j node there is =
    let none : false ≡ true = subst (λ (n : NodeTree). is_among (targets n) j ≡ true) (sym (same_Some (chooses 0) node there)) is in
    absurd (cc)
node_later (suc (suc zero)) j node there is =
    let none : false ≡ true = subst (λ (n : NodeTree). is_among (targets n) j ≡ true) (sym (same_Some (chooses 1) node there)) is in
    absurd (cc)
node_later (suc (suc (suc k))) j node there is = absurd (none-some node there)

among_one : (n row : ℕ) → is_among (n ∷ []) row ≡ true → n ≡ row
among_one n row is = by (n == row) refl is
  where
    by : (same : Bool) → (n == row) ≡ same → (same || false) ≡ true → n ≡ row
    by true same is = eqb-true n row same
    by false same is = absurd (cc)

node_below : (k row : ℕ) (node : NodeTree) → slice_get truth_decisions k ≡ Some node → is_among (row_chosen node) row ≡ true → row < 2
node_below zero row node there is =
    let none : false ≡ true = subst (λ (n : NodeTree). is_among (row_chosen n) row ≡ true) (sym (same_Some test node there)) is in
    absurd (cc)
node_below (suc zero) row node there is =
    let one = among_one 0 row
    (subst (λ (n : NodeTree). is_among (row_chosen n) row ≡ true) (sym (same_Some (chooses 0) node there)) is) in
    omega (arith, one)
node_below (suc (suc zero)) row node there is =
    let one = among_one 1 row
    (subst (λ (n : NodeTree). is_among (row_chosen n) row ≡ true) (sym (same_Some (chooses 1) node there)) is) in
    omega (arith, one)
node_below (suc (suc (suc k))) row node there is = absurd (none-some node there)

pub truths_orderly : AreOrderly truth_decisions 2
truths_orderly = record { first = omega arith; later = node_later; below = node_below }

-- ---- what is looked at: the node, and its edge

module _ (cells : ℕ → Option Cell) (v : Value) where
  -- the node to which a test of truths leads has no edges, and none is looked at behind it
  last_edges : (steps : ℕ) (found : Option Answer)
      → edges_behind (edges_from cells v truth_decisions steps) (and_then found (next_by (record { found = Constructor 0; next = 2 } ∷ []) (Some 1))) ≡ 0
  last_edges steps None = refl
  last_edges zero (Some found) = by (is_answer (Constructor 0) found)
    where
      by : (is : Bool) → edges_behind (λ k. 0) (if is then Some 2 else Some 1) ≡ 0
      by true = refl
      by false = refl
  last_edges (suc steps) (Some found) = by (is_answer (Constructor 0) found)
    where
      by : (is : Bool) → edges_behind (edges_from cells v truth_decisions (suc steps)) (if is then Some 2 else Some 1) ≡ 0
      by true = refl
      by false = refl

  few_edges : (steps k : ℕ) → edges_from cells v truth_decisions steps k ≤ 1
  few_edges zero k = omega arith
  few_edges (suc steps) zero = let none = last_edges steps (found_at cells [] v) in omega (arith, none)
  few_edges (suc steps) (suc zero) = omega arith
  few_edges (suc steps) (suc (suc zero)) = omega arith
  few_edges (suc steps) (suc (suc (suc k))) = omega arith

  last_looks : (steps : ℕ) (found : Option Answer)
      → looks_behind (looks_from cells v truth_decisions steps) (and_then found (next_by (record { found = Constructor 0; next = 2 } ∷ []) (Some 1))) ≡ 0
  last_looks steps None = refl
  last_looks zero (Some found) = by (is_answer (Constructor 0) found)
    where
      by : (is : Bool) → looks_behind (λ k. 0) (if is then Some 2 else Some 1) ≡ 0
      by true = refl
      by false = refl
  last_looks (suc steps) (Some found) = by (is_answer (Constructor 0) found)
    where
      by : (is : Bool) → looks_behind (looks_from cells v truth_decisions (suc steps)) (if is then Some 2 else Some 1) ≡ 0
      by true = refl
      by false = refl

  few_looks : (steps k : ℕ) → looks_from cells v truth_decisions steps k ≤ 2
  few_looks zero k = omega arith
  few_looks (suc steps) zero = let none = last_looks steps (found_at cells [] v) in omega (arith, none)
  few_looks (suc steps) (suc zero) = omega arith
  few_looks (suc steps) (suc (suc zero)) = omega arith
  few_looks (suc steps) (suc (suc (suc k))) = omega arith

pub truths_look : HasFewLooks truth_decisions 2
truths_look = few_looks

pub truths_lean : IsLean truth_decisions truth_patterns
truths_lean =
    record {
      edges = λ cells v steps k. omega (arith, few_edges cells v steps k);
      looks = λ cells v steps k. omega (arith, few_looks cells v steps k);
    }

-- ---- the rows

clash_none : (ps : Outlines) → ClashIn ps no_outline → ⊥
clash_none no_outline h = h
clash_none (outline p ps) h = h

module _ (constructors : List ConstructorTree) (truths : HasTruths constructors) where
  pub true_typed : IsPatternOf (values_of constructors) bool (outline_of true_pattern)
  true_typed = ([], truths.truths 1 (omega arith), tt)

  pub false_typed : IsPatternOf (values_of constructors) bool (outline_of false_pattern)
  false_typed = ([], truths.truths 0 (omega arith), tt)

  -- they are covered
  pub truths_covered : IsCovered (values_of constructors) bool (map outline_of truth_patterns)
  truths_covered any missed = missed.clashes.0
  truths_covered (exactly n) missed = both_ways false refl missed.typed
  truths_covered (made c ps) missed = by c ps (truths.no_others c missed.typed.0 missed.typed.1) missed.clashes.0 missed.clashes.1.0
    where
      by : (c : ℕ) (ps : Outlines) → c ≤ 1 → (c ≢ 1) ⊎ ClashIn ps no_outline → (c ≢ 0) ⊎ ClashIn ps no_outline → ⊥
      by c ps low (inr inside) second = clash_none ps inside
      by c ps low first (inr inside) = clash_none ps inside
      by zero ps low (inl other) (inl one) = one refl
      by (suc zero) ps low (inl other) (inl one) = other refl
      by (suc (suc c)) ps low (inl other) (inl one) = omega (arith, low)
