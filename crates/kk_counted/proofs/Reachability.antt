-- What can be reached in a heap: it is counted, and stays reached as cells are made.
use Rattle.std.proofs.Common.{◌≡◌, ◌⊎◌, inl, inr, ℕ, zero, suc, ◌+◌, ◌≤◌, ◌<◌, ◌==◌, Bool, true, false, List, [], ◌∷◌, ◌++◌, length, arith, refl, sym, ap, ◌∙◌, subst, length-append}
use Rattle.kk_source.specs.State.{Value, integer, unit, constant, place, Cell, Store}
use Rattle.kk_source.specs.Live.{fields_at, Among, Leads, Reached}
use Rattle.kk_source.specs.Sound.{AllWithin}
use Rattle.kk_counted.specs.Heaps.{Held, Heap, count_at, fields_held, forwards, one_if_counted, busy}
use Rattle.kk_counted.specs.References.{refs_of, refs, fields_if, counted_fields, Counts, cells_of, spread, counted}
use Rattle.kk_counted.proofs.CountChanges.{same, itself, refs_append, count_top, count_below, fields_top, fields_below}
use Rattle.kk_counted.proofs.Heaps.{positive, ref_here, ref_other, fields_counted}

-- ---- a place among values, and the number of references to it

pub among_one : (vs : List Value) (q : ℕ) → Among vs q → 1 ≤ refs vs q
among_one [] q named = absurd named
among_one (v ∷ vs) q (inl here) = omega (arith, ap (λ w. refs_of w q) here, ref_here q)
among_one (v ∷ vs) q (inr there) = omega (arith, among_one vs q there)

pub one_among : (vs : List Value) (q : ℕ) → 1 ≤ refs vs q → Among vs q
one_among [] q one = absurd (omega (arith, one))
one_among (integer n ∷ vs) q one = inr (one_among vs q (omega (arith, one)))
one_among (unit ∷ vs) q one = inr (one_among vs q (omega (arith, one)))
one_among (constant c ∷ vs) q one = inr (one_among vs q (omega (arith, one)))
one_among (place at ∷ vs) q one = by_test (at == q) refl (one_among vs q)
  where
    by_test : (t : Bool) → (at == q) ≡ t → (1 ≤ refs vs q → Among vs q) → (place at ≡ place q) ⊎ Among vs q
    by_test true is later = inl (ap place (same at q is))
    by_test false is later = inr (later (omega (arith, one, ref_other at q is)))

pub within_none : (n q : ℕ) (vs : List Value) → AllWithin n vs → n ≤ q → refs vs q ≡ 0
within_none n q [] within le = refl
within_none n q (integer m ∷ vs) within le = omega (arith, within_none n q vs within.1 le)
within_none n q (unit ∷ vs) within le = omega (arith, within_none n q vs within.1 le)
within_none n q (constant c ∷ vs) within le = omega (arith, within_none n q vs within.1 le)
within_none n q (place at ∷ vs) within le = omega (arith, within_none n q vs within.1 le, ref_other at q (apart (at == q) refl))
  where
    apart : (t : Bool) → (at == q) ≡ t → t ≡ false
    apart false is = refl
    apart true is = absurd (omega (arith, within.0, le, same at q is))

pub all_within : (n : ℕ) (vs : List Value) → ((q : ℕ) → 1 ≤ refs vs q → q < n) → AllWithin n vs
all_within n [] below = tt
all_within n (integer m ∷ vs) below = (tt, all_within n vs (λ q one. below q (omega (arith, one))))
all_within n (unit ∷ vs) below = (tt, all_within n vs (λ q one. below q (omega (arith, one))))
all_within n (constant c ∷ vs) below = (tt, all_within n vs (λ q one. below q (omega (arith, one))))
all_within n (place at ∷ vs) below =
    (below at (omega (arith, ref_here at)), all_within n vs (λ q one. below q (omega (arith, one))))

-- ---- the store of a heap

pub turned : List Cell → Store
turned [] = []
turned (cell ∷ cells) = turned cells ++ cell ∷ []

forwards_turned : (heap : Heap) → forwards heap ≡ turned (cells_of heap)
unfolding turned
forwards_turned [] = refl
forwards_turned (held ∷ heap) = ap (λ store. store ++ held.cell ∷ []) (forwards_turned heap)

-- heaps of the same cells have one store
pub same_store : (heap other : Heap) → cells_of heap ≡ cells_of other → forwards heap ≡ forwards other
same_store heap other cells = forwards_turned heap ∙ (ap turned cells ∙ sym (forwards_turned other))

pub forwards_length : (heap : Heap) → length (forwards heap) ≡ length heap
forwards_length [] = refl
forwards_length (held ∷ heap) = omega (arith, length-append {A = Cell}, forwards_length heap)

fields_last : (store : Store) (cell : Cell) (at : ℕ) → at ≡ length store → fields_at (store ++ cell ∷ []) at ≡ cell.fields
fields_last [] cell zero last = refl
fields_last [] cell (suc at) last = absurd (omega (arith, last))
fields_last (c ∷ store) cell zero last = absurd (omega (arith, last))
fields_last (c ∷ store) cell (suc at) last = fields_last store cell at (omega (arith, last))

fields_rest : (store : Store) (cell : Cell) (at : ℕ) → (at ≡ length store → ⊥) → fields_at (store ++ cell ∷ []) at ≡ fields_at store at
fields_rest [] cell zero other = absurd (other refl)
fields_rest [] cell (suc at) other = refl
fields_rest (c ∷ store) cell zero other = refl
fields_rest (c ∷ store) cell (suc at) other = fields_rest store cell at (λ last. other (omega (arith, last)))

pub store_fields : (heap : Heap) (at : ℕ) → fields_at (forwards heap) at ≡ fields_held heap at
store_fields [] zero = refl
store_fields [] (suc at) = refl
store_fields (held ∷ heap) at = by_test (length heap == at) refl (store_fields heap at)
  where
    other : at ≡ length heap → (length heap == at) ≡ false → ⊥
    other e is = let both : true ≡ false = sym (itself at) ∙ (ap (λ n. n == at) e ∙ is) in absurd (cc)

    by_test : (t : Bool) → (length heap == at) ≡ t → fields_at (forwards heap) at ≡ fields_held heap at → fields_at (forwards heap ++ held.cell ∷ []) at ≡ fields_held (held ∷ heap) at
    by_test true is later =
        fields_last (forwards heap) held.cell at (omega (arith, same (length heap) at is, forwards_length heap)) ∙ sym (fields_top held heap at is)
    by_test false is later =
        fields_rest (forwards heap) held.cell at (λ last. other (last ∙ forwards_length heap) is)
        ∙ (later ∙ sym (fields_below held heap at is))

-- the fields stay as they are where the cells do
pub same_fields : (heap other : Heap) (at : ℕ) → cells_of heap ≡ cells_of other → fields_held heap at ≡ fields_held other at
same_fields heap other at cells =
    sym (store_fields heap at) ∙ (ap (λ store. fields_at store at) (same_store heap other cells) ∙ store_fields other at)

pub cells_length : (heap : Heap) → length heap ≡ length (cells_of heap)
cells_length [] = refl
cells_length (held ∷ heap) = ap suc (cells_length heap)

-- ---- ways

pub leads_widen : (store : Store) (vs ws : List Value) (way : List ℕ) (goal : ℕ) → ((at : ℕ) → Among vs at → Among ws at) → Leads store vs way goal → Leads store ws way goal
leads_widen store vs ws [] goal more l = more goal l
leads_widen store vs ws (at ∷ way) goal more l = (more at l.0, l.1)

pub reached_widen : (store : Store) (vs ws : List Value) (goal : ℕ) → ((at : ℕ) → Among vs at → Among ws at) → Reached store vs goal → Reached store ws goal
reached_widen store vs ws goal more r = (r.0, leads_widen store vs ws r.0 goal more r.1)

leads_on : (store : Store) (vs : List Value) (way : List ℕ) (at goal : ℕ) → Leads store vs way at → Among (fields_at store at) goal → Leads store vs (way ++ at ∷ []) goal
leads_on store vs [] at goal l named = (l, named)
leads_on store vs (next ∷ way) at goal l named = (l.0, leads_on store (fields_at store next) way at goal l.1 named)

-- the fields of a cell that is reached
pub reached_field : (store : Store) (vs : List Value) (at goal : ℕ) → Reached store vs at → Among (fields_at store at) goal → Reached store vs goal
reached_field store vs at goal r named = (r.0 ++ at ∷ [], leads_on store vs r.0 at goal r.1 named)

fields_longer : (store : Store) (cell : Cell) (at goal : ℕ) → Among (fields_at store at) goal → Among (fields_at (store ++ cell ∷ []) at) goal
fields_longer [] cell zero goal named = absurd named
fields_longer [] cell (suc at) goal named = absurd named
fields_longer (c ∷ store) cell zero goal named = named
fields_longer (c ∷ store) cell (suc at) goal named = fields_longer store cell at goal named

leads_longer : (store : Store) (cell : Cell) (vs : List Value) (way : List ℕ) (goal : ℕ) → Leads store vs way goal → Leads (store ++ cell ∷ []) vs way goal
leads_longer store cell vs [] goal l = l
leads_longer store cell vs (next ∷ way) goal l = (
  l.0,
  leads_widen (store ++ cell ∷ []) (fields_at store next) (fields_at (store ++ cell ∷ []) next) way goal (λ at. fields_longer store cell next at)
      (leads_longer store cell (fields_at store next) way goal l.1),
)

-- one more cell
pub reached_longer : (store : Store) (cell : Cell) (vs : List Value) (goal : ℕ) → Reached store vs goal → Reached (store ++ cell ∷ []) vs goal
reached_longer store cell vs goal r = (r.0, leads_longer store cell vs r.0 goal r.1)

-- what is reached from counted cells is counted
leads_counted : (outside : ℕ → ℕ) (heap : Heap) → Counts outside heap → (vs : List Value) (way : List ℕ) (goal : ℕ) → ((q : ℕ) → 1 ≤ refs vs q → 1 ≤ count_at heap q) → Leads (forwards heap) vs way goal → 1 ≤ count_at heap goal
leads_counted outside heap counts vs [] goal ready l = ready goal (among_one vs goal l)
leads_counted outside heap counts vs (at ∷ way) goal ready l =
    let k = positive (count_at heap at) (ready at (among_one vs at l.0)) in
    leads_counted outside heap counts (fields_at (forwards heap) at) way goal
    (λ q one. fields_counted outside heap at k.0 q counts k.1 (subst (λ vs. 1 ≤ refs vs q) (store_fields heap at) one)) l.1

pub reached_counted : (outside : ℕ → ℕ) (heap : Heap) → Counts outside heap → (vs : List Value) (goal : ℕ) → ((q : ℕ) → refs vs q ≤ outside q) → Reached (forwards heap) vs goal → 1 ≤ count_at heap goal
reached_counted outside heap counts vs goal named r =
    leads_counted outside heap counts vs r.0 goal (λ q one. omega (arith, counts q, named q, one)) r.1

-- ---- a new cell

pub none_beyond : (heap : Heap) (at : ℕ) → length heap ≤ at → count_at heap at ≡ 0
none_beyond [] at le = refl
none_beyond (held ∷ heap) at le = by_test (length heap == at) refl (none_beyond heap at (omega (arith, le)))
  where
    by_test : (t : Bool) → (length heap == at) ≡ t → count_at heap at ≡ 0 → count_at (held ∷ heap) at ≡ 0
    by_test true is later = absurd (omega (arith, le, same (length heap) at is))
    by_test false is later = count_below held heap at is ∙ later

pub built : (cell : Cell) (kept : ℕ → ℕ) (heap : Heap) → Counts (λ q. refs cell.fields q + kept q) heap → (q : ℕ) → count_at (record { count = 1; cell = cell } ∷ heap) q ≡ (refs_of (place (length heap)) q + kept q) + refs (cell.fields ++ counted_fields heap) q
built cell kept heap counts q = by_test (length heap == q) refl
  where
    by_test : (t : Bool) → (length heap == q) ≡ t → count_at (record { count = 1; cell = cell } ∷ heap) q ≡ (refs_of (place (length heap)) q + kept q) + refs (cell.fields ++ counted_fields heap) q
    by_test true is =
        omega (
          arith,
          count_top (record { count = 1; cell = cell }) heap q is,
          counts q,
          none_beyond heap q (omega (arith, same (length heap) q is)),
          refs_append cell.fields (counted_fields heap) q,
          ap (λ n. refs_of (place n) q) (same (length heap) q is),
          ref_here q,
        )
    by_test false is =
        omega (arith, count_below (record { count = 1; cell = cell }) heap q is, counts q, refs_append cell.fields (counted_fields heap) q, ref_other (length heap) q is)

pub built_older : (cell : Cell) (count : ℕ) (heap : Heap) → AllWithin (length heap) cell.fields → ((at : ℕ) → AllWithin at (fields_held heap at)) → (at : ℕ) → AllWithin at (fields_held (record { count = count; cell = cell } ∷ heap) at)
built_older cell count heap within older at = by_test (length heap == at) refl
  where
    by_test : (t : Bool) → (length heap == at) ≡ t → AllWithin at (fields_held (record { count = count; cell = cell } ∷ heap) at)
    by_test true is =
        subst (AllWithin at) (sym (fields_top (record { count = count; cell = cell }) heap at is)) (subst (λ n. AllWithin n cell.fields) (same (length heap) at is) within)
    by_test false is = subst (AllWithin at) (sym (fields_below (record { count = count; cell = cell }) heap at is)) (older at)

-- ---- the end: where nothing is owned, no cell is counted

fields_beyond : (heap : Heap) (at : ℕ) → length heap ≤ at → fields_held heap at ≡ []
fields_beyond [] at le = refl
fields_beyond (held ∷ heap) at le = by_test (length heap == at) refl (fields_beyond heap at (omega (arith, le)))
  where
    by_test : (t : Bool) → (length heap == at) ≡ t → fields_held heap at ≡ [] → fields_held (held ∷ heap) at ≡ []
    by_test true is later = absurd (omega (arith, le, same (length heap) at is))
    by_test false is later = fields_below held heap at is ∙ later

abbrev pub HasOlder : Heap → Type 0
HasOlder heap = (at : ℕ) → AllWithin at (fields_held heap at)

pub older_same : (heap other : Heap) → cells_of other ≡ cells_of heap → HasOlder heap → (at : ℕ) → AllWithin at (fields_held other at)
older_same heap other cells older at = subst (AllWithin at) (sym (same_fields other heap at cells)) (older at)

pub older_below : (held : Held) (heap : Heap) → HasOlder (held ∷ heap) → (at : ℕ) → AllWithin at (fields_held heap at)
older_below held heap older at = by_test (length heap == at) refl
  where
    by_test : (t : Bool) → (length heap == at) ≡ t → AllWithin at (fields_held heap at)
    by_test true is = subst (AllWithin at) (sym (fields_beyond heap at (omega (arith, same (length heap) at is)))) tt
    by_test false is = subst (AllWithin at) (fields_below held heap at is) (older at)

pub older_first : (held : Held) (heap : Heap) → HasOlder (held ∷ heap) → AllWithin (length heap) held.cell.fields
older_first held heap older = subst (AllWithin (length heap)) (fields_top held heap (length heap) (itself (length heap))) (older (length heap))

-- no field of a counted cell names one that is not there
pub no_field : (heap : Heap) (q : ℕ) → HasOlder heap → length heap ≤ q → refs (counted_fields heap) q ≡ 0
no_field [] q older le = refl
no_field (held ∷ heap) q older le =
    by_count held.count (no_field heap q (older_below held heap older) (omega (arith, le)))
  where
    by_count : (count : ℕ) → refs (counted_fields heap) q ≡ 0 → refs (fields_if count held.cell.fields ++ counted_fields heap) q ≡ 0
    by_count zero later = later
    by_count (suc count) later =
        omega (arith, refs_append held.cell.fields (counted_fields heap) q, later, within_none (length heap) q held.cell.fields (older_first held heap older) (omega (arith, le)))

-- the newest cell is owned from outside alone
newest : (held : Held) (heap : Heap) (outside : ℕ → ℕ) → HasOlder (held ∷ heap) → count_at (held ∷ heap) (length heap) ≡ outside (length heap) + refs (counted_fields (held ∷ heap)) (length heap) → held.count ≡ outside (length heap)
newest held heap outside older counts =
    omega (arith, count_top held heap (length heap) (itself (length heap)), counts, none held.count)
  where
    none : (count : ℕ) → refs (fields_if count held.cell.fields ++ counted_fields heap) (length heap) ≡ 0
    none zero = no_field heap (length heap) (older_below held heap older) (omega arith)
    none (suc count) =
        omega (
          arith,
          refs_append held.cell.fields (counted_fields heap) (length heap),
          no_field heap (length heap) (older_below held heap older) (omega arith),
          within_none (length heap) (length heap) held.cell.fields (older_first held heap older) (omega arith),
        )

pub beside : (n at : ℕ) → at < n → (n == at) ≡ false
beside n at less = by_test (n == at) refl
  where
    by_test : (t : Bool) → (n == at) ≡ t → t ≡ false
    by_test false is = refl
    by_test true is = absurd (omega (arith, less, same n at is))

-- A sound heap is the function of its cells and of the references from outside: so two of them with the same cells and
-- references are equal.
pub counted_is : (heap : Heap) (outside : ℕ → ℕ) → HasOlder heap → ((q : ℕ) → q < length heap → count_at heap q ≡ outside q + refs (counted_fields heap) q) → heap ≡ counted outside (cells_of heap)
counted_is [] outside older counts = refl
counted_is (held ∷ heap) outside older counts =
    ap (λ rest. held ∷ rest)
    (counted_is heap (spread held.count held.cell.fields outside) (older_below held heap older)
    (λ q less. omega (arith, count_below held heap q (beside (length heap) q less), counts q (omega (arith, less)), refs_append (fields_if held.count held.cell.fields) (counted_fields heap) q)))
    ∙ ap (λ count. record { count = count; cell = held.cell } ∷ counted (spread count held.cell.fields outside) (cells_of heap)) first
  where
    first : held.count ≡ outside (length (cells_of heap))
    first = newest held heap outside older (counts (length heap) (omega arith)) ∙ ap outside (cells_length heap)

pub none_counted : (heap : Heap) → HasOlder heap → ((q : ℕ) → q < length heap → count_at heap q ≡ refs (counted_fields heap) q) → busy heap ≡ 0
none_counted [] older counts = refl
none_counted (held ∷ heap) older counts =
    omega (
      arith,
      ap one_if_counted none,
      none_counted heap (older_below held heap older)
          (λ q less. sym (count_below held heap q (beside (length heap) q less)) ∙ (counts q (omega (arith, less)) ∙ ap (λ count. refs (fields_if count held.cell.fields ++ counted_fields heap) q) none)),
    )
  where
    none : held.count ≡ 0
    none = newest held heap (λ q. 0) older (omega (arith, counts (length heap) (omega arith)))
