-- A cell that is opened is owned from outside, where the heap is sound before and behind the opening. So both ways to open it lead
-- to the same heap.
use Rattle.std.proofs.Common.{◌≡◌, ℕ, zero, suc, ◌+◌, ◌-◌, ◌≤◌, ◌==◌, Bool, true, false, List, [], ◌∷◌, ◌++◌, Option, Some, None}
use Rattle.std.proofs.Common.{arith, refl, ap, ◌∙◌, subst}
use Rattle.kk_source.specs.State.{Value, integer, unit, constant, place}
use Rattle.kk_source.specs.Matching.{and_then}
use Rattle.kk_counted.specs.Heaps.{Heap, count_at, set_count, fields_held, weight, more, dup_value, dup_all, drop_value, give_up}
use Rattle.kk_counted.specs.CountedMachine.{opened_heap, unique_heap}
use Rattle.kk_counted.specs.References.{refs_of, refs, counted_fields, IsSound}
use Rattle.kk_counted.proofs.CountChanges.{same, refs_append, count_set, count_other, kept_fields, freed_fields}
use Rattle.kk_counted.proofs.Heaps.{ref_here, ref_other, with_place}
use Rattle.kk_counted.proofs.Reachability.{within_none}
use Rattle.kk_counted.proofs.SoundRuns.{openings_are_one}

heap_is : {heap next : Heap} → Some heap ≡ Some next → heap ≡ next
heap_is is = cc

-- ---- one count changes

one_less : (at k q : ℕ) (heap : Heap) → count_at heap at ≡ suc k
    → count_at (set_count at k heap) q + refs_of (place at) q ≡ count_at heap q
one_less at k q heap counted = by (at == q) refl
  where
    by : (t : Bool) → (at == q) ≡ t → count_at (set_count at k heap) q + refs_of (place at) q ≡ count_at heap q
    by true is =
        subst (λ p. count_at (set_count at k heap) p + refs_of (place at) p ≡ count_at heap p) (same at q is)
        (omega (arith, count_set at k k heap counted, counted, ref_here at))
    by false is = omega (arith, count_other at k q heap is, ref_other at q is)

one_more : (at k q : ℕ) (heap : Heap) → count_at heap at ≡ suc k
    → count_at (set_count at (suc (suc k)) heap) q ≡ count_at heap q + refs_of (place at) q
one_more at k q heap counted = by (at == q) refl
  where
    by : (t : Bool) → (at == q) ≡ t → count_at (set_count at (suc (suc k)) heap) q ≡ count_at heap q + refs_of (place at) q
    by true is =
        subst (λ p. count_at (set_count at (suc (suc k)) heap) p ≡ count_at heap p + refs_of (place at) p) (same at q is)
        (omega (arith, count_set at (suc (suc k)) k heap counted, counted, ref_here at))
    by false is = omega (arith, count_other at (suc (suc k)) q heap is, ref_other at q is)

-- ---- references less and more

-- References were given up: so many more are the counts before, but for what the fields of counted cells name.
abbrev Gave : (ℕ → ℕ) → Heap → Heap → Type 0
Gave given heap next =
    (q : ℕ) → count_at next q + (refs (counted_fields heap) q + given q) ≡ count_at heap q + refs (counted_fields next) q

gave : (turns : ℕ) (vs : List Value) (heap next : Heap) → give_up turns vs heap ≡ Some next → Gave (refs vs) heap next
gave zero [] heap next is = subst (Gave (refs []) heap) (heap_is is) (λ q. omega arith)
gave (suc turns) [] heap next is = subst (Gave (refs []) heap) (heap_is is) (λ q. omega arith)
gave zero (v ∷ vs) heap next is = cc is
gave (suc turns) (integer n ∷ vs) heap next is = λ q. omega (arith, gave turns vs heap next is q)
gave (suc turns) (unit ∷ vs) heap next is = λ q. omega (arith, gave turns vs heap next is q)
gave (suc turns) (constant c ∷ vs) heap next is = λ q. omega (arith, gave turns vs heap next is q)
gave (suc turns) (place at ∷ vs) heap next is =
    by_count (count_at heap at) refl is (λ ws other. gave turns ws other next)
  where
    Later : Type 0
    Later = (ws : List Value) (other : Heap) → give_up turns ws other ≡ Some next → Gave (refs ws) other next

    by_count : (count : ℕ) → count_at heap at ≡ count
        → elim count [
          | zero ↦ None
          | suc count ↦ elim count [
            | zero ↦ give_up turns (fields_held heap at ++ vs) (set_count at 0 heap)
            | suc others ↦ give_up turns vs (set_count at (suc others) heap)
          ]
        ] ≡ Some next → Later → Gave (refs (place at ∷ vs)) heap next
    by_count zero counted given later = cc given
    by_count (suc zero) counted given later = λ q. omega (
      arith,
      later (fields_held heap at ++ vs) (set_count at 0 heap) given q,
      refs_append (fields_held heap at) vs q,
      freed_fields at 0 q heap counted,
      one_less at 0 q heap counted,
    )
    by_count (suc (suc others)) counted given later = λ q. omega (
      arith,
      later vs (set_count at (suc others) heap) given q,
      ap (λ fields. refs fields q) (kept_fields at others (suc others) heap counted),
      one_less at (suc others) q heap counted,
    )

abbrev Got : (ℕ → ℕ) → Heap → Heap → Type 0
Got got heap next =
    (q : ℕ) → (count_at next q ≡ count_at heap q + got q) × (refs (counted_fields next) q ≡ refs (counted_fields heap) q)

got_one : (v : Value) (heap next : Heap) → dup_value v heap ≡ Some next → Got (refs_of v) heap next
got_one (integer n) heap next is = subst (Got (λ q. 0) heap) (heap_is is) (λ q. (omega arith, refl))
got_one unit heap next is = subst (Got (λ q. 0) heap) (heap_is is) (λ q. (omega arith, refl))
got_one (constant c) heap next is = subst (Got (λ q. 0) heap) (heap_is is) (λ q. (omega arith, refl))
got_one (place at) heap next is = by_count (count_at heap at) refl is
  where
    by_count : (count : ℕ) → count_at heap at ≡ count → more at count heap ≡ Some next → Got (refs_of (place at)) heap next
    by_count zero counted given = cc given
    by_count (suc k) counted given =
        subst (Got (refs_of (place at)) heap) (heap_is given)
        (λ q. (one_more at k q heap counted, ap (λ fields. refs fields q) (kept_fields at (suc k) k heap counted)))

-- behind one change of a heap there is another one
split_change : (o : Option Heap) (f : Heap → Option Heap) (next : Heap) → and_then o f ≡ Some next
    → (between : Heap) × ((o ≡ Some between) × (f between ≡ Some next))
split_change None f next is = cc is
split_change (Some between) f next is = (between, (refl, is))

got_all : (vs : List Value) (heap next : Heap) → dup_all vs heap ≡ Some next → Got (refs vs) heap next
got_all [] heap next is = subst (Got (refs []) heap) (heap_is is) (λ q. (omega arith, refl))
got_all (v ∷ vs) heap next is =
    let two = split_change (dup_value v heap) (dup_all vs) next is in
    let one = got_one v heap two.0 two.1.0 in
    let later = got_all vs two.0 next two.1.1 in
    λ q. (omega (arith, (one q).0, (later q).0), (later q).1 ∙ (one q).1)

-- ---- openings

-- the cell is owned from outside
owned_at : (at : ℕ) (used owned later : List Value) (heap next : Heap) → IsSound owned heap → IsSound later next
    → opened_heap at used heap ≡ Some next → refs used at ≡ 0 → 1 ≤ refs owned at
owned_at at used owned later heap next sound after opens none =
    let two = split_change (dup_all used heap) (drop_value (place at)) next opens in
    let got = got_all used heap two.0 two.1.0 at in
    let given = gave (suc (weight two.0)) (place at ∷ []) two.0 next two.1.1 at in
    omega (arith, got.0, got.1, given, ref_here at, sound.counts at, after.counts at, none)

-- the other references from outside
abbrev others_at : ℕ → List Value → ℕ → ℕ
others_at at owned q = refs owned q - refs_of (place at) q

-- So an opening by the count of the cell leads to the same heap.
pub opens_by_count : (at : ℕ) (used others owned later : List Value) (heap next : Heap) → IsSound owned heap → IsSound later next
    → opened_heap at used heap ≡ Some next
    → ((q : ℕ) → refs (fields_held heap at) q ≡ refs used q + refs others q)
    → unique_heap (count_at heap at) at used others heap ≡ Some next
opens_by_count at used others owned later heap next sound after opens parts =
    openings_are_one at used others (others_at at owned) heap counts sound.older parts ∙ opens
  where
    some : 1 ≤ refs owned at
    some = owned_at at used owned later heap next sound after opens
        (omega (arith, parts at, within_none at at (fields_held heap at) (sound.older at) (omega arith)))

    within : (q : ℕ) → refs_of (place at) q ≤ refs owned q
    within q = by (at == q) refl
      where
        by : (t : Bool) → (at == q) ≡ t → refs_of (place at) q ≤ refs owned q
        by true is = subst (λ p. refs_of (place at) p ≤ refs owned p) (same at q is) (omega (arith, some, ref_here at))
        by false is = omega (arith, ref_other at q is)

    counts : (q : ℕ) → count_at heap q ≡ with_place at (others_at at owned) q + refs (counted_fields heap) q
    counts q = omega (arith, sound.counts q, within q)
