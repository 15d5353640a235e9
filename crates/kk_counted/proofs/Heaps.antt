-- What dups, drops, openings and constructions do to a heap whose counts are the numbers of its references.
use Rattle.std.proofs.Common.{◌≡◌, ℕ, zero, suc, ◌+◌, ◌≤◌, ◌==◌, Bool, true, false, List, [], ◌∷◌, ◌++◌, length, Option, Some, None, arith, refl, ap, ◌∙◌, subst, length-append}
use Rattle.kk_source.specs.State.{Value, integer, unit, constant, place}
use Rattle.kk_source.specs.Matching.{and_then}
use Rattle.kk_counted.specs.Heaps.{Heap, count_at, set_count, more, dup_value, dup_all, fields_held, weight, give_up, drop_value, drop_all}
use Rattle.kk_counted.specs.CountedMachine.{opened_heap, unique_heap}
use Rattle.kk_counted.specs.References.{refs_of, refs, counted_fields, Counts, IsCounted, cells_of}
use Rattle.kk_counted.proofs.CountChanges.{same, itself, refs_append, set_cells, count_set, count_other, kept_fields, freed_fields, kept_weight, freed_weight}

-- a heap has become one of the same cells, whose counts are right over other references from outside
pub record Became (before : Heap) (result : Option Heap) (outside : ℕ → ℕ) : Type 0 where
  pub heap : Heap
  pub is : result ≡ Some heap
  pub counts : Counts outside heap
  pub cells : cells_of heap ≡ cells_of before

pub ref_here : (at : ℕ) → refs_of (place at) at ≡ 1
ref_here at = rw (itself at) refl

pub ref_other : (at q : ℕ) → (at == q) ≡ false → refs_of (place at) q ≡ 0
ref_other at q apart = rw apart refl

pub positive : (n : ℕ) → 1 ≤ n → (k : ℕ) × (n ≡ suc k)
positive zero le = absurd (omega (arith, le))
positive (suc k) le = (k, refl)

-- ---- one count changes

recounts : (outside after : ℕ → ℕ) (heap : Heap) (at k n : ℕ) → Counts outside heap → count_at heap at ≡ suc k → suc n + outside at ≡ after at + suc k → ((q : ℕ) → (at == q) ≡ false → after q ≡ outside q) → (q : ℕ) → count_at (set_count at (suc n) heap) q ≡ after q + refs (counted_fields (set_count at (suc n) heap)) q
recounts outside after heap at k n counts counted moved others q = by_test (at == q) refl
  where
    here : count_at (set_count at (suc n) heap) at ≡ after at + refs (counted_fields (set_count at (suc n) heap)) at
    here =
        rw (kept_fields at n k heap counted)
        (omega (arith, count_set at (suc n) k heap counted, counts at, counted, moved))

    by_test : (t : Bool) → (at == q) ≡ t → count_at (set_count at (suc n) heap) q ≡ after q + refs (counted_fields (set_count at (suc n) heap)) q
    by_test true is =
        subst (λ p. count_at (set_count at (suc n) heap) p ≡ after p + refs (counted_fields (set_count at (suc n) heap)) p) (same at q is) here
    by_test false is =
        rw (kept_fields at n k heap counted) (omega (arith, count_other at (suc n) q heap is, counts q, others q is))

frees : (outside after : ℕ → ℕ) (heap : Heap) (at : ℕ) → Counts outside heap → count_at heap at ≡ 1 → ((q : ℕ) → refs_of (place at) q + after q ≡ refs (fields_held heap at) q + outside q) → (q : ℕ) → count_at (set_count at 0 heap) q ≡ after q + refs (counted_fields (set_count at 0 heap)) q
frees outside after heap at counts counted moved q = by_test (at == q) refl
  where
    here : count_at (set_count at 0 heap) at ≡ after at + refs (counted_fields (set_count at 0 heap)) at
    here =
        omega (arith, count_set at 0 0 heap counted, freed_fields at 0 at heap counted, counts at, counted, moved at, ref_here at)

    by_test : (t : Bool) → (at == q) ≡ t → count_at (set_count at 0 heap) q ≡ after q + refs (counted_fields (set_count at 0 heap)) q
    by_test true is =
        subst (λ p. count_at (set_count at 0 heap) p ≡ after p + refs (counted_fields (set_count at 0 heap)) p) (same at q is) here
    by_test false is =
        omega (arith, count_other at 0 q heap is, freed_fields at 0 q heap counted, counts q, moved q, ref_other at q is)

grown : (at k n q : ℕ) (heap : Heap) → count_at heap at ≡ suc k → k ≤ n → count_at heap q ≤ count_at (set_count at (suc n) heap) q
grown at k n q heap counted le = by_test (at == q) refl
  where
    by_test : (t : Bool) → (at == q) ≡ t → count_at heap q ≤ count_at (set_count at (suc n) heap) q
    by_test true is =
        subst (λ p. count_at heap p ≤ count_at (set_count at (suc n) heap) p) (same at q is)
        (omega (arith, count_set at (suc n) k heap counted, counted, le))
    by_test false is = omega (arith, count_other at (suc n) q heap is)

-- one change of a heap after another
then_became : (heap : Heap) (result : Option Heap) (next : Heap → Option Heap) (between after : ℕ → ℕ) (first : Became heap result between) → Became first.heap (next first.heap) after → Became heap (and_then result next) after
then_became heap result next between after first rest =
    record { heap = rest.heap; is = ap (λ o. and_then o next) first.is ∙ rest.is; counts = rest.counts; cells = rest.cells ∙ first.cells }

-- ---- references more

abbrev same_heap : (outside after : ℕ → ℕ) (heap : Heap) → Counts outside heap → ((q : ℕ) → after q ≡ outside q) → Became heap (Some heap) after
same_heap outside after heap counts moved =
    record { heap = heap; is = refl; counts = λ q. omega (arith, counts q, moved q); cells = refl }

-- a dup, which lowers no count
pub dupped : (outside after : ℕ → ℕ) (v : Value) (heap : Heap) → Counts outside heap → IsCounted heap v → ((q : ℕ) → after q ≡ refs_of v q + outside q) → (became : Became heap (dup_value v heap) after) × ((q : ℕ) → count_at heap q ≤ count_at became.heap q)
dupped outside after (integer n) heap counts usable moved = (same_heap outside after heap counts (λ q. omega (arith, moved q)), λ q. omega arith)
dupped outside after unit heap counts usable moved = (same_heap outside after heap counts (λ q. omega (arith, moved q)), λ q. omega arith)
dupped outside after (constant c) heap counts usable moved = (same_heap outside after heap counts (λ q. omega (arith, moved q)), λ q. omega arith)
dupped outside after (place at) heap counts usable moved =
    let k = positive (count_at heap at) usable in (
      record {
        heap = set_count at (suc (suc k.0)) heap;
        is = ap (λ n. more at n heap) k.1;
        counts = recounts outside after heap at k.0 (suc k.0) counts k.1 (omega (arith, moved at, ref_here at)) (λ q is. omega (arith, moved q, ref_other at q is));
        cells = set_cells at (suc (suc k.0)) heap;
      },
      λ q. grown at k.0 (suc k.0) q heap k.1 (omega arith),
    )

pub value_counted : (v : Value) (heap : Heap) → ((q : ℕ) → 1 ≤ refs_of v q → 1 ≤ count_at heap q) → IsCounted heap v
value_counted (integer n) heap ready = tt
value_counted unit heap ready = tt
value_counted (constant c) heap ready = tt
value_counted (place at) heap ready = ready at (omega (arith, ref_here at))

pub all_dupped : (vs : List Value) (outside after : ℕ → ℕ) (heap : Heap) → Counts outside heap → ((q : ℕ) → 1 ≤ refs vs q → 1 ≤ count_at heap q) → ((q : ℕ) → after q ≡ refs vs q + outside q) → Became heap (dup_all vs heap) after
all_dupped [] outside after heap counts ready moved = same_heap outside after heap counts (λ q. omega (arith, moved q))
all_dupped (v ∷ vs) outside after heap counts ready moved =
    let first = dupped outside (λ q. refs_of v q + outside q) v heap counts (value_counted v heap (λ q named. ready q (omega (arith, named)))) (λ q. refl) in
    then_became heap (dup_value v heap) (dup_all vs) (λ q. refs_of v q + outside q) after first.0
    (all_dupped vs (λ q. refs_of v q + outside q) after first.0.heap first.0.counts
    (λ q named. omega (arith, ready q (omega (arith, named)), first.1 q)) (λ q. omega (arith, moved q)))

-- ---- references less

-- References that wait to be given up are references from outside. There are turns enough for them and for the fields of all
-- counted cells.
pub given_up : (turns : ℕ) (vs : List Value) (outside after : ℕ → ℕ) (heap : Heap) → Counts outside heap → ((q : ℕ) → outside q ≡ refs vs q + after q) → length vs + weight heap ≤ turns → Became heap (give_up turns vs heap) after
given_up zero [] outside after heap counts moved room = same_heap outside after heap counts (λ q. omega (arith, moved q))
given_up (suc turns) [] outside after heap counts moved room = same_heap outside after heap counts (λ q. omega (arith, moved q))
given_up zero (v ∷ vs) outside after heap counts moved room = absurd (omega (arith, room))
given_up (suc turns) (integer n ∷ vs) outside after heap counts moved room =
    given_up turns vs outside after heap counts (λ q. omega (arith, moved q)) (omega (arith, room))
given_up (suc turns) (unit ∷ vs) outside after heap counts moved room =
    given_up turns vs outside after heap counts (λ q. omega (arith, moved q)) (omega (arith, room))
given_up (suc turns) (constant c ∷ vs) outside after heap counts moved room =
    given_up turns vs outside after heap counts (λ q. omega (arith, moved q)) (omega (arith, room))
given_up (suc turns) (place at ∷ vs) outside after heap counts moved room =
    by_count (count_at heap at) refl (λ ws between. given_up turns ws between after)
  where
    Later : Type 0
    Later = (ws : List Value) (between : ℕ → ℕ) (other : Heap) → Counts between other → ((q : ℕ) → between q ≡ refs ws q + after q) → length ws + weight other ≤ turns → Became other (give_up turns ws other) after

    by_count : (count : ℕ) → count_at heap at ≡ count → Later → Became heap (elim count [ zero ↦ None | suc count ↦ elim count [ zero ↦ give_up turns (fields_held heap at ++ vs) (set_count at 0 heap) | suc others ↦ give_up turns vs (set_count at (suc others) heap) ] ]) after
    by_count zero counted later = absurd (omega (arith, counts at, moved at, ref_here at, counted))
    by_count (suc zero) counted later =
        let rest = later (fields_held heap at ++ vs) (λ q. refs (fields_held heap at ++ vs) q + after q) (set_count at 0 heap)
        (frees outside (λ q. refs (fields_held heap at ++ vs) q + after q) heap at counts counted (λ q. omega (arith, refs_append (fields_held heap at) vs q, moved q)))
        (λ q. refl) (omega (arith, length-append {A = Value}, freed_weight at 0 heap counted, room)) in
        record { heap = rest.heap; is = rest.is; counts = rest.counts; cells = rest.cells ∙ set_cells at 0 heap }
    by_count (suc (suc others)) counted later =
        let rest = later vs (λ q. refs vs q + after q) (set_count at (suc others) heap)
        (recounts outside (λ q. refs vs q + after q) heap at (suc others) others counts counted (omega (arith, moved at, ref_here at)) (λ q is. omega (arith, moved q, ref_other at q is)))
        (λ q. refl) (omega (arith, kept_weight at others (suc others) heap counted, room)) in
        record { heap = rest.heap; is = rest.is; counts = rest.counts; cells = rest.cells ∙ set_cells at (suc others) heap }

pub dropped : (outside after : ℕ → ℕ) (v : Value) (heap : Heap) → Counts outside heap → ((q : ℕ) → outside q ≡ refs_of v q + after q) → Became heap (drop_value v heap) after
dropped outside after v heap counts moved =
    given_up (suc (weight heap)) (v ∷ []) outside after heap counts (λ q. omega (arith, moved q)) (omega arith)

pub all_dropped : (vs : List Value) (outside after : ℕ → ℕ) (heap : Heap) → Counts outside heap → ((q : ℕ) → outside q ≡ refs vs q + after q) → Became heap (drop_all vs heap) after
all_dropped [] outside after heap counts moved = same_heap outside after heap counts (λ q. omega (arith, moved q))
all_dropped (v ∷ vs) outside after heap counts moved =
    let first = dropped outside (λ q. refs vs q + after q) v heap counts (λ q. omega (arith, moved q)) in
    then_became heap (drop_value v heap) (drop_all vs) (λ q. refs vs q + after q) after first
    (all_dropped vs (λ q. refs vs q + after q) after first.heap first.counts (λ q. refl))

-- ---- openings, which give up a reference to a cell, and leave references to the fields that are used

-- the fields of a counted cell are counted
pub fields_counted : (outside : ℕ → ℕ) (heap : Heap) (at k q : ℕ) → Counts outside heap → count_at heap at ≡ suc k → 1 ≤ refs (fields_held heap at) q → 1 ≤ count_at heap q
fields_counted outside heap at k q counts counted named = omega (arith, counts q, freed_fields at k q heap counted, named)

-- the references from outside, one to a place among them
abbrev pub with_place : ℕ → (ℕ → ℕ) → ℕ → ℕ
with_place at kept q = refs_of (place at) q + kept q

abbrev pub with_fields : List Value → (ℕ → ℕ) → ℕ → ℕ
with_fields used kept q = refs used q + kept q

pub opened : (at : ℕ) (used others : List Value) (kept : ℕ → ℕ) (heap : Heap) → Counts (with_place at kept) heap → ((q : ℕ) → refs (fields_held heap at) q ≡ refs used q + refs others q) → Became heap (opened_heap at used heap) (with_fields used kept)
opened at used others kept heap counts parts =
    let k = positive (count_at heap at) (omega (arith, counts at, ref_here at)) in
    let first = all_dupped used (with_place at kept) (λ q. refs used q + with_place at kept q) heap counts
    (λ q named. fields_counted (with_place at kept) heap at k.0 q counts k.1 (omega (arith, parts q, named))) (λ q. refl) in
    then_became heap (dup_all used heap) (drop_value (place at)) (λ q. refs used q + with_place at kept q) (with_fields used kept) first
    (dropped (λ q. refs used q + with_place at kept q) (with_fields used kept) (place at) first.heap first.counts (λ q. omega arith))

pub opened_by_count : (at : ℕ) (used others : List Value) (kept : ℕ → ℕ) (heap : Heap) → Counts (with_place at kept) heap → ((q : ℕ) → refs (fields_held heap at) q ≡ refs used q + refs others q) → Became heap (unique_heap (count_at heap at) at used others heap) (with_fields used kept)
opened_by_count at used others kept heap counts parts = by_count (count_at heap at) refl
  where
    by_count : (count : ℕ) → count_at heap at ≡ count → Became heap (unique_heap count at used others heap) (with_fields used kept)
    by_count zero counted = absurd (omega (arith, counts at, ref_here at, counted))
    by_count (suc zero) counted =
        let rest = all_dropped others (λ q. refs (fields_held heap at) q + kept q) (with_fields used kept) (set_count at 0 heap)
        (frees (with_place at kept) (λ q. refs (fields_held heap at) q + kept q) heap at counts counted (λ q. omega arith))
        (λ q. omega (arith, parts q)) in
        record { heap = rest.heap; is = rest.is; counts = rest.counts; cells = rest.cells ∙ set_cells at 0 heap }
    by_count (suc (suc others_left)) counted =
        let lower = recounts (with_place at kept) kept heap at (suc others_left) others_left counts counted (omega (arith, ref_here at)) (λ q is. omega (arith, ref_other at q is)) in
        let rest = all_dupped used kept (with_fields used kept) (set_count at (suc others_left) heap) lower
        (λ q named. omega (arith, lower q, ap (λ fields. refs fields q) (kept_fields at others_left (suc others_left) heap counted), freed_fields at (suc others_left) q heap counted, parts q, named))
        (λ q. refl) in
        record { heap = rest.heap; is = rest.is; counts = rest.counts; cells = rest.cells ∙ set_cells at (suc others_left) heap }
