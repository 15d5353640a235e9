-- What is held at a name after one count has changed, and after a cell was made.
use Rattle.std.proofs.Common.{◌≡◌, ◌≢◌, ◌≤◌, ◌<◌, ℕ, suc, ◌==◌, Bool, true, false, [], ◌∷◌, length, Option, Some, None, refl, sym, ap, ◌∙◌, arith, eqb-true, ne_eqb}
use Rattle.std.specs.Prelude.{if◌then◌else◌}
use Rattle.kk_counted.specs.Heaps.{Held, Heap, held_at, count_in, count_at, set_count, fields_if_held, fields_held}
use Rattle.kk_counted.proofs.CountChanges.{itself, set_length}

pub some-is : {A : Type 0} {a b : A} → Some a ≡ Some b → a ≡ b
some-is e = cc

pub held_top : (held : Held) (heap : Heap) (at : ℕ) → (length heap == at) ≡ true → held_at (held ∷ heap) at ≡ Some held
held_top held heap at is = rw is refl

pub held_below : (held : Held) (heap : Heap) (at : ℕ) → (length heap == at) ≡ false → held_at (held ∷ heap) at ≡ held_at heap at
held_below held heap at is = rw is refl

-- the newest cell, and the others
pub held_new : (held : Held) (heap : Heap) → held_at (held ∷ heap) (length heap) ≡ Some held
held_new held heap = held_top held heap (length heap) (itself (length heap))

pub held_older : (held : Held) (heap : Heap) (at : ℕ) → length heap ≢ at → held_at (held ∷ heap) at ≡ held_at heap at
held_older held heap at differ = held_below held heap at (ne_eqb (length heap) at differ)

pub held_within : (heap : Heap) (at : ℕ) (held : Held) → held_at heap at ≡ Some held → at < length heap
held_within [] at held there = cc
held_within (first ∷ heap) at held there = by (length heap == at) refl (held_within heap at held)
  where
    by : (t : Bool) → (length heap == at) ≡ t → (held_at heap at ≡ Some held → at < length heap) → at < suc (length heap)
    by true is later = omega (arith, eqb-true (length heap) at is)
    by false is later = omega (arith, later (sym (held_below first heap at is) ∙ there))

-- another count
pub held_set : (at n : ℕ) (heap : Heap) (held : Held) → held_at heap at ≡ Some held → held_at (set_count at n heap) at
    ≡ Some (record held { count = n })
held_set at n [] held there = cc
held_set at n (first ∷ heap) held there = by (length heap == at) refl (held_set at n heap held)
  where
    by : (t : Bool) → (length heap == at) ≡ t
        → (held_at heap at ≡ Some held → held_at (set_count at n heap) at ≡ Some (record held { count = n }))
        → held_at (if t then record first { count = n } ∷ heap else first ∷ set_count at n heap) at
        ≡ Some (record held { count = n })
    by true is later =
        let same : first ≡ held = some-is (sym (held_top first heap at is) ∙ there) in
        held_top (record first { count = n }) heap at is ∙ ap (λ (h : Held). Some (record h { count = n })) same
    by false is later =
        held_below first (set_count at n heap) at (ap (λ m. m == at) (set_length at n heap) ∙ is)
        ∙ later (sym (held_below first heap at is) ∙ there)

pub held_other : (at n q : ℕ) (heap : Heap) → at ≢ q → held_at (set_count at n heap) q ≡ held_at heap q
held_other at n q [] differ = refl
held_other at n q (first ∷ heap) differ = by (length heap == at) refl (length heap == q) refl (held_other at n q heap differ)
  where
    by : (t : Bool) → (length heap == at) ≡ t → (s : Bool) → (length heap == q) ≡ s
        → held_at (set_count at n heap) q ≡ held_at heap q
        → held_at (if t then record first { count = n } ∷ heap else first ∷ set_count at n heap) q ≡ held_at (first ∷ heap) q
    by true is true there later = absurd (differ (sym (eqb-true (length heap) at is) ∙ eqb-true (length heap) q there))
    by true is false there later = held_below (record first { count = n }) heap q there ∙ sym (held_below first heap q there)
    by false is true there later =
        held_top first (set_count at n heap) q (ap (λ m. m == q) (set_length at n heap) ∙ there) ∙ sym (held_top first heap q there)
    by false is false there later =
        held_below first (set_count at n heap) q (ap (λ m. m == q) (set_length at n heap) ∙ there)
        ∙ (later ∙ sym (held_below first heap q there))

-- a cell that is counted is held
counted_in : (held : Option Held) → 1 ≤ count_in held → (one : Held) × (held ≡ Some one)
counted_in None some = absurd (omega (arith, some))
counted_in (Some one) some = (one, refl)

pub counted_held : (heap : Heap) (name : ℕ) → 1 ≤ count_at heap name → (held : Held) × (held_at heap name ≡ Some held)
counted_held heap name some = counted_in (held_at heap name) some

pub held_count : (heap : Heap) (name : ℕ) (held : Held) → held_at heap name ≡ Some held → count_at heap name ≡ held.count
held_count heap name held there = ap count_in there

pub held_fields : (heap : Heap) (name : ℕ) (held : Held) → held_at heap name ≡ Some held → fields_held heap name ≡ held.cell.fields
held_fields heap name held there = ap fields_if_held there
