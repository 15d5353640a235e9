-- In a sound heap the counted cells are those that can be reached from what is owned: so they are as many as the live places.
use Rattle.std.proofs.Common.{◌≡◌, ℕ, zero, suc, ◌+◌, ◌≤◌, ◌<◌, Bool, true, false, List, [], ◌∷◌, ◌++◌, length, arith, refl, sym, ap, ◌∙◌, subst}
use Rattle.std.specs.Prelude.{◌↔◌, if◌then◌else◌}
use Rattle.kk_source.specs.State.{Value}
use Rattle.kk_source.specs.Live.{fields_at, Reached, is_live, counted as passing, live}
use Rattle.kk_source.specs.Sound.{AllWithin}
use Rattle.kk_source.proofs.Live.{among_within, live_reached, reached_live}
use Rattle.kk_counted.specs.Heaps.{Held, Heap, forwards, count_at, fields_held, one_if_counted, busy}
use Rattle.kk_counted.specs.References.{refs, fields_if, counted_fields, IsSound}
use Rattle.kk_counted.proofs.CountChanges.{itself, refs_append, count_top, count_below, fields_top, fields_below, counted_within}
use Rattle.kk_counted.proofs.HeapChanges.{one_counted}
use Rattle.kk_counted.proofs.Heaps.{positive}
use Rattle.kk_counted.proofs.Reachability.{one_among, store_fields, forwards_length, reached_field, reached_counted, beside}

-- a cell is owned by a field of a counted one
abbrev IsField : Heap → ℕ → Type 0
IsField heap q = (p : ℕ) × ((1 ≤ count_at heap p) × (1 ≤ refs (fields_held heap p) q))

field_past : (held : Held) (heap : Heap) (q : ℕ) → IsField heap q → IsField (held ∷ heap) q
field_past held heap q field =
    let k = positive (count_at heap field.0) field.1.0 in
    let other = beside (length heap) field.0 (counted_within heap field.0 k.0 k.1) in
    (field.0, (omega (arith, count_below held heap field.0 other, field.1.0), omega (arith, ap (λ vs. refs vs q) (fields_below held heap field.0 other), field.1.1)))

field_of : (heap : Heap) (q : ℕ) → 1 ≤ refs (counted_fields heap) q → IsField heap q
field_of [] q one = absurd (omega (arith, one))
field_of (held ∷ heap) q one = by_count held.count refl (field_of heap q)
  where
    by_own : (k own : ℕ) → held.count ≡ suc k → refs held.cell.fields q ≡ own → (1 ≤ refs (counted_fields heap) q → IsField heap q) → IsField (held ∷ heap) q
    by_own k zero counted none later =
        field_past held heap q
        (later (omega (arith, one, ap (λ count. refs (fields_if count held.cell.fields ++ counted_fields heap) q) counted, refs_append held.cell.fields (counted_fields heap) q, none)))
    by_own k (suc own) counted some later = (
      length heap,
      (
        omega (arith, count_top held heap (length heap) (itself (length heap)), counted),
        omega (arith, ap (λ vs. refs vs q) (fields_top held heap (length heap) (itself (length heap))), some),
      ),
    )

    by_count : (count : ℕ) → held.count ≡ count → (1 ≤ refs (counted_fields heap) q → IsField heap q) → IsField (held ∷ heap) q
    by_count zero counted later =
        field_past held heap q (later (omega (arith, one, ap (λ count. refs (fields_if count held.cell.fields ++ counted_fields heap) q) counted)))
    by_count (suc k) counted later = by_own k (refs held.cell.fields q) counted refl later

-- a counted cell is reached: it is owned, or a field of a newer one that is reached
pub counted_reached : (owned : List Value) (heap : Heap) → IsSound owned heap → (n at : ℕ) → length heap ≤ at + n → 1 ≤ count_at heap at → Reached (forwards heap) owned at
counted_reached owned heap sound zero at room one =
    let k = positive (count_at heap at) one in absurd (omega (arith, room, counted_within heap at k.0 k.1))
counted_reached owned heap sound (suc n) at room one = by_refs (refs owned at) refl (counted_reached owned heap sound n)
  where
    by_refs : (own : ℕ) → refs owned at ≡ own → ((p : ℕ) → length heap ≤ p + n → 1 ≤ count_at heap p → Reached (forwards heap) owned p) → Reached (forwards heap) owned at
    by_refs (suc own) some later = ([], one_among owned at (omega (arith, some)))
    by_refs zero none later =
        let field = field_of heap at (omega (arith, sound.counts at, none, one)) in
        let newer = among_within field.0 (fields_held heap field.0) at (sound.older field.0) (one_among (fields_held heap field.0) at field.1.1) in
        reached_field (forwards heap) owned field.0 at (later field.0 (omega (arith, room, newer)) field.1.0)
        (one_among (fields_at (forwards heap) field.0) at (omega (arith, ap (λ vs. refs vs at) (store_fields heap field.0), field.1.1)))

pub counted_is_reached : (owned : List Value) (heap : Heap) → IsSound owned heap → (at : ℕ) → (1 ≤ count_at heap at) ↔ Reached (forwards heap) owned at
counted_is_reached owned heap sound at =
    (λ one. counted_reached owned heap sound (length heap) at (omega arith) one, λ r. reached_counted (refs owned) heap sound.counts owned at (λ q. omega arith) r)

-- the number of counted cells, by a test for them
pub busy_passing : (heap : Heap) (passes : ℕ → Bool) → ((at : ℕ) → at < length heap → passes at ≡ true → 1 ≤ count_at heap at) → ((at : ℕ) → at < length heap → 1 ≤ count_at heap at → passes at ≡ true) → busy heap ≡ passing passes (length heap)
busy_passing [] passes only all = refl
busy_passing (held ∷ heap) passes only all =
    omega (
      arith,
      head (passes (length heap)) refl,
      busy_passing heap passes
          (λ at less is. omega (arith, count_below held heap at (beside (length heap) at less), only at (omega (arith, less)) is))
          (λ at less one. all at (omega (arith, less)) (omega (arith, count_below held heap at (beside (length heap) at less), one))),
    )
  where
    none : (n : ℕ) → held.count ≡ n → passes (length heap) ≡ false → one_if_counted n ≡ 0
    none zero counted fails = refl
    none (suc n) counted fails =
        let both : true ≡ false = sym (all (length heap) (omega arith) (omega (arith, count_top held heap (length heap) (itself (length heap)), counted))) ∙ fails in
        absurd (cc)

    head : (t : Bool) → passes (length heap) ≡ t → one_if_counted held.count ≡ (if passes (length heap) then 1 else 0)
    head true is =
        rw is (one_counted held.count (omega (arith, only (length heap) (omega arith) is, count_top held heap (length heap) (itself (length heap)))))
    head false is = rw is (none held.count refl is)

pub counted_are_live : (owned : List Value) (heap : Heap) → IsSound owned heap → busy heap ≡ live (forwards heap) owned
counted_are_live owned heap sound =
    busy_passing heap (is_live (forwards heap) owned)
    (λ at less is. reached_counted (refs owned) heap sound.counts owned at (λ q. omega arith) (reached_live (forwards heap) older owned at is))
    (λ at less one. live_reached (forwards heap) older owned at (counted_reached owned heap sound (length heap) at (omega arith) one))
    ∙ ap (passing (is_live (forwards heap) owned)) (sym (forwards_length heap))
  where
    older : (at : ℕ) → AllWithin at (fields_at (forwards heap) at)
    older at = subst (AllWithin at) (sym (store_fields heap at)) (sound.older at)
