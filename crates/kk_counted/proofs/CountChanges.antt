-- What a heap is after one count has changed.
use Rattle.std.proofs.Common.{◌≡◌, ℕ, zero, suc, ◌+◌, ◌<◌, ◌==◌, Bool, true, false, List, [], ◌∷◌, ◌++◌, length, arith, refl, sym, ap, ◌∙◌, length-append}
use Rattle.std.specs.Prelude.{if◌then◌else◌}
use Rattle.kk_source.specs.State.{Value}
use Rattle.kk_counted.specs.Heaps.{Held, Heap, count_at, set_count, fields_held, weight_if, weight}
use Rattle.kk_counted.specs.References.{refs, fields_if, counted_fields, cells_of}

pub same : (a b : ℕ) → (a == b) ≡ true → a ≡ b
same a b is = grind arith

pub itself : (a : ℕ) → (a == a) ≡ true
itself a = grind arith

pub refs_append : (vs ws : List Value) (q : ℕ) → refs (vs ++ ws) q ≡ refs vs q + refs ws q
refs_append [] ws q = omega arith
refs_append (v ∷ vs) ws q = omega (arith, refs_append vs ws q)

-- ---- what stands at a place

pub count_top : (held : Held) (heap : Heap) (at : ℕ) → (length heap == at) ≡ true → count_at (held ∷ heap) at ≡ held.count
count_top held heap at is = rw is refl

pub count_below : (held : Held) (heap : Heap) (at : ℕ) → (length heap == at) ≡ false → count_at (held ∷ heap) at ≡ count_at heap at
count_below held heap at is = rw is refl

pub fields_top : (held : Held) (heap : Heap) (at : ℕ) → (length heap == at) ≡ true → fields_held (held ∷ heap) at ≡ held.cell.fields
fields_top held heap at is = rw is refl

pub fields_below : (held : Held) (heap : Heap) (at : ℕ) → (length heap == at) ≡ false → fields_held (held ∷ heap) at ≡ fields_held heap at
fields_below held heap at is = rw is refl

-- a cell that is counted is there
pub counted_within : (heap : Heap) (at k : ℕ) → count_at heap at ≡ suc k → at < length heap
counted_within [] at k counted = absurd (omega arith)
counted_within (held ∷ heap) at k counted = by (length heap == at) refl (counted_within heap at k)
  where
    by : (t : Bool) → (length heap == at) ≡ t → (count_at heap at ≡ suc k → at < length heap) → at < suc (length heap)
    by true is later = omega (arith, same (length heap) at is)
    by false is later = omega (arith, later (sym (count_below held heap at is) ∙ counted))

-- ---- another count of one cell

pub set_length : (at n : ℕ) (heap : Heap) → length (set_count at n heap) ≡ length heap
set_length at n [] = refl
set_length at n (held ∷ heap) =
    elim (length heap == at) as (λ t. length (if t then record held { count = n } ∷ heap else held ∷ set_count at n heap) ≡ suc (length heap))
    [ true ↦ refl | false ↦ ap suc (set_length at n heap) ]

pub set_cells : (at n : ℕ) (heap : Heap) → cells_of (set_count at n heap) ≡ cells_of heap
set_cells at n [] = refl
set_cells at n (held ∷ heap) =
    elim (length heap == at) as (λ t. cells_of (if t then record held { count = n } ∷ heap else held ∷ set_count at n heap) ≡ held.cell ∷ cells_of heap)
    [ true ↦ refl | false ↦ ap (λ cells. held.cell ∷ cells) (set_cells at n heap) ]

pub count_set : (at n k : ℕ) (heap : Heap) → count_at heap at ≡ suc k → count_at (set_count at n heap) at ≡ n
count_set at n k [] counted = absurd (omega arith)
count_set at n k (held ∷ heap) counted = by (length heap == at) refl (count_set at n k heap)
  where
    by : (t : Bool) → (length heap == at) ≡ t → (count_at heap at ≡ suc k → count_at (set_count at n heap) at ≡ n) → count_at (if t then record held { count = n } ∷ heap else held ∷ set_count at n heap) at ≡ n
    by true is later = count_top (record held { count = n }) heap at is
    by false is later =
        count_below held (set_count at n heap) at (ap (λ m. m == at) (set_length at n heap) ∙ is) ∙ later (sym (count_below held heap at is) ∙ counted)

pub count_other : (at n q : ℕ) (heap : Heap) → (at == q) ≡ false → count_at (set_count at n heap) q ≡ count_at heap q
count_other at n q [] apart = refl
count_other at n q (held ∷ heap) apart = by (length heap == at) refl (length heap == q) refl (count_other at n q heap apart)
  where
    by : (t : Bool) → (length heap == at) ≡ t → (s : Bool) → (length heap == q) ≡ s → count_at (set_count at n heap) q ≡ count_at heap q → count_at (if t then record held { count = n } ∷ heap else held ∷ set_count at n heap) q ≡ count_at (held ∷ heap) q
    by true is s there later =
        let beside = ap (λ m. m == q) (same (length heap) at is) ∙ apart in
        count_below (record held { count = n }) heap q beside ∙ sym (count_below held heap q beside)
    by false is true there later =
        count_top held (set_count at n heap) q (ap (λ m. m == q) (set_length at n heap) ∙ there) ∙ sym (count_top held heap q there)
    by false is false there later =
        count_below held (set_count at n heap) q (ap (λ m. m == q) (set_length at n heap) ∙ there) ∙ (later ∙ sym (count_below held heap q there))

-- the fields of the counted cells
pub kept_fields : (at n k : ℕ) (heap : Heap) → count_at heap at ≡ suc k → counted_fields (set_count at (suc n) heap) ≡ counted_fields heap
kept_fields at n k [] counted = refl
kept_fields at n k (held ∷ heap) counted = by (length heap == at) refl (kept_fields at n k heap)
  where
    by : (t : Bool) → (length heap == at) ≡ t → (count_at heap at ≡ suc k → counted_fields (set_count at (suc n) heap) ≡ counted_fields heap) → counted_fields (if t then record held { count = suc n } ∷ heap else held ∷ set_count at (suc n) heap) ≡ counted_fields (held ∷ heap)
    by true is later =
        ap (λ count. fields_if count held.cell.fields ++ counted_fields heap) (sym (sym (count_top held heap at is) ∙ counted))
    by false is later =
        ap (λ fields. fields_if held.count held.cell.fields ++ fields) (later (sym (count_below held heap at is) ∙ counted))

pub freed_fields : (at k q : ℕ) (heap : Heap) → count_at heap at ≡ suc k → refs (counted_fields heap) q ≡ refs (fields_held heap at) q + refs (counted_fields (set_count at 0 heap)) q
freed_fields at k q [] counted = absurd (omega arith)
freed_fields at k q (held ∷ heap) counted = by (length heap == at) refl (freed_fields at k q heap)
  where
    by : (t : Bool) → (length heap == at) ≡ t → (count_at heap at ≡ suc k → refs (counted_fields heap) q ≡ refs (fields_held heap at) q + refs (counted_fields (set_count at 0 heap)) q) → refs (counted_fields (held ∷ heap)) q ≡ refs (fields_held (held ∷ heap) at) q + refs (counted_fields (if t then record held { count = 0 } ∷ heap else held ∷ set_count at 0 heap)) q
    by true is later =
        rw (fields_top held heap at is) (rw (sym (count_top held heap at is) ∙ counted) (refs_append held.cell.fields (counted_fields heap) q))
    by false is later =
        rw (fields_below held heap at is)
        (omega (arith, refs_append (fields_if held.count held.cell.fields) (counted_fields heap) q, refs_append (fields_if held.count held.cell.fields) (counted_fields (set_count at 0 heap)) q, later (sym (count_below held heap at is) ∙ counted)))

-- the weight is the number of these fields
pub weight_length : (heap : Heap) → weight heap ≡ length (counted_fields heap)
weight_length [] = refl
weight_length (held ∷ heap) = one held.count (weight_length heap)
  where
    one : (count : ℕ) → weight heap ≡ length (counted_fields heap) → weight_if count held.cell.fields + weight heap ≡ length (fields_if count held.cell.fields ++ counted_fields heap)
    one zero later = omega (arith, later)
    one (suc count) later = omega (arith, later, length-append {A = Value})

pub kept_weight : (at n k : ℕ) (heap : Heap) → count_at heap at ≡ suc k → weight (set_count at (suc n) heap) ≡ weight heap
kept_weight at n k heap counted =
    weight_length (set_count at (suc n) heap) ∙ (ap length (kept_fields at n k heap counted) ∙ sym (weight_length heap))

pub freed_weight : (at k : ℕ) (heap : Heap) → count_at heap at ≡ suc k → length (fields_held heap at) + weight (set_count at 0 heap) ≡ weight heap
freed_weight at k [] counted = absurd (omega arith)
freed_weight at k (held ∷ heap) counted = by (length heap == at) refl (freed_weight at k heap)
  where
    by : (t : Bool) → (length heap == at) ≡ t → (count_at heap at ≡ suc k → length (fields_held heap at) + weight (set_count at 0 heap) ≡ weight heap) → length (fields_held (held ∷ heap) at) + weight (if t then record held { count = 0 } ∷ heap else held ∷ set_count at 0 heap) ≡ weight (held ∷ heap)
    by true is later =
        rw (fields_top held heap at is) (rw (sym (count_top held heap at is) ∙ counted) (omega arith))
    by false is later =
        rw (fields_below held heap at is) (omega (arith, later (sym (count_below held heap at is) ∙ counted)))
