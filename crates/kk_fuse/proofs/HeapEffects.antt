-- What a dup, a drop, a reading and a plain form do to a heap that is sound over what is owned: they are not stuck, and the heap is
-- sound over what is owned then.
use Rattle.std.proofs.Common.{◌≡◌, ◌⊎◌, inl, inr, ℕ, ◌+◌, ◌≤◌, true, false, List, [], ◌∷◌, ◌++◌, length, Option, Some, arith, refl, sym, ap, ◌∙◌, subst}
use Rattle.std.specs.Prelude.{slice_get}
use Rattle.kk_syntax.specs.Shapes.{is_among}
use Rattle.kk_source.specs.State.{Value, place, Store, Environment}
use Rattle.kk_source.specs.Live.{value_of, fields_at, Reached}
use Rattle.kk_core.specs.CoreMachine.{bind_fields}
use Rattle.kk_counted.specs.Heaps.{Heap, count_at, forwards, dup_value, drop_value}
use Rattle.kk_counted.specs.CountedMachine.{Named, cell_named}
use Rattle.kk_counted.specs.References.{refs_of, refs, IsSound, IsCounted, cells_of}
use Rattle.kk_counted.specs.Spending.{AreEven, AreFresh}
use Rattle.kk_counted.specs.Keeping.{values_of, HaveNoCells, AreReached, IsCell}
use Rattle.kk_counted.proofs.CountChanges.{refs_append}
use Rattle.kk_counted.proofs.Heaps.{positive, ref_here, value_counted, fields_counted, dupped, dropped}
use Rattle.kk_counted.proofs.Variables.{among_cases, even_refs, refs_of_both, among_refs, fields_fresh, field_past, field_or_old, field_is_one}
use Rattle.kk_counted.proofs.Reachability.{one_among, same_store, store_fields, reached_field, reached_counted}
use Rattle.kk_counted.proofs.Looks.{cell_same}
use Rattle.kk_counted.proofs.Progress.{named_place}
use Rattle.kk_counted.proofs.SoundSteps.{moved, became_sound, with_variable, landed, reached_bound, fresh_past, counted_if, counted_grows, no_refs, NamedCell, OnNamed, named_cell}

-- a heap by the lent, the readable and the owned variables of the function that runs, and by the values that those that wait own
pub record IsSeen (below : List Value) (environment : Environment) (lent readable owned : List ℕ) (heap : Heap) : Type 0 where
  pub reached : AreReached (forwards heap) below environment lent
  pub counted : (y : ℕ) → is_among readable y ≡ true → IsCounted heap (value_of environment y)
  pub sound : IsSound (values_of environment owned ++ below) heap

-- another heap of the same cells, seen so
pub record Turned (below : List Value) (environment : Environment) (lent readable owned : List ℕ) (heap : Heap)
    (result : Option Heap) : Type 0 where
  pub after : Heap
  pub is : result ≡ Some after
  pub cells : cells_of after ≡ cells_of heap
  pub seen : IsSeen below environment lent readable owned after

module _ (below : List Value) (environment : Environment) (lent : List ℕ) (heap : Heap) where
  -- what is owned may be named in any order
  pub seen_even : (readable owned now : List ℕ) → AreEven owned now → IsSeen below environment lent readable owned heap
      → IsSeen below environment lent readable now heap
  seen_even readable owned now even seen =
      record {
        reached = seen.reached;
        counted = seen.counted;
        sound =
            moved (values_of environment owned ++ below) (values_of environment now ++ below) heap
            (λ q. omega (
              arith,
              refs_append (values_of environment owned) below q,
              refs_append (values_of environment now) below q,
              even_refs environment owned now q even,
            ))
            seen.sound;
      }

  -- a variable that is lent, readable or owned names no cell or one that is counted
  pub seen_counted : (readable owned : List ℕ) (x : ℕ) → is_among (lent ++ (readable ++ owned)) x ≡ true
      → IsSeen below environment lent readable owned heap → IsCounted heap (value_of environment x)
  seen_counted readable owned x is seen = by_case (among_cases lent (readable ++ owned) x is)
    where
      by_now : (is_among readable x ≡ true) ⊎ (is_among owned x ≡ true) → IsCounted heap (value_of environment x)
      by_now (inl here) = seen.counted x here
      by_now (inr here) =
          value_counted (value_of environment x) heap
          (λ q one. omega (
            arith,
            one,
            among_refs environment owned x q here,
            seen.sound.counts q,
            refs_append (values_of environment owned) below q,
          ))

      by_case : (is_among lent x ≡ true) ⊎ (is_among (readable ++ owned) x ≡ true) → IsCounted heap (value_of environment x)
      by_case (inl here) =
          counted_if (value_of environment x) heap
          (λ at e. reached_counted (refs (values_of environment owned ++ below)) heap seen.sound.counts below at
          (λ q. omega (arith, refs_append (values_of environment owned) below q)) (seen.reached x at here e))
      by_case (inr there) = by_now (among_cases readable owned x there)

  -- what is reached stays reached in a heap of the same cells
  reached_after : (after : Heap) → cells_of after ≡ cells_of heap → AreReached (forwards heap) below environment lent
      → AreReached (forwards after) below environment lent
  reached_after after cells reached =
      subst (λ (store : Store). AreReached store below environment lent) (sym (same_store after heap cells)) reached

  -- the value of a variable gets a reference more
  pub seen_dup : (readable owned : List ℕ) (x : ℕ) → is_among (lent ++ (readable ++ owned)) x ≡ true
      → IsSeen below environment lent readable owned heap
      → Turned below environment lent readable (x ∷ owned) heap (dup_value (value_of environment x) heap)
  seen_dup readable owned x is seen =
      let d = dupped (refs (values_of environment owned ++ below))
      (λ q. refs_of (value_of environment x) q + refs (values_of environment owned ++ below) q) (value_of environment x) heap
      seen.sound.counts (seen_counted readable owned x is seen) (λ q. refl) in
      record {
        after = d.0.heap;
        is = d.0.is;
        cells = d.0.cells;
        seen =
            record {
              reached = reached_after d.0.heap d.0.cells seen.reached;
              counted = λ y here. counted_grows (value_of environment y) heap d.0.heap d.1 (seen.counted y here);
              sound =
                  became_sound (values_of environment owned ++ below) (values_of environment (x ∷ owned) ++ below) heap
                  (dup_value (value_of environment x) heap)
                  (λ q. refs_of (value_of environment x) q + refs (values_of environment owned ++ below) q) d.0
                  (λ q. refl) seen.sound;
            };
      }

  -- a reference of the value of an owned variable is given up
  pub seen_drop : (readable owned kept : List ℕ) (x : ℕ) → AreEven owned (x ∷ kept)
      → IsSeen below environment lent readable owned heap
      → Turned below environment lent [] kept heap (drop_value (value_of environment x) heap)
  seen_drop readable owned kept x even seen =
      let d = dropped (refs (values_of environment owned ++ below)) (refs (values_of environment kept ++ below))
      (value_of environment x) heap seen.sound.counts
      (λ q. omega (
        arith,
        refs_append (values_of environment owned) below q,
        refs_append (values_of environment kept) below q,
        even_refs environment owned (x ∷ kept) q even,
      )) in
      record {
        after = d.heap;
        is = d.is;
        cells = d.cells;
        seen =
            record {
              reached = reached_after d.heap d.cells seen.reached;
              counted = λ y here. absurd (cc);
              sound =
                  became_sound (values_of environment owned ++ below) (values_of environment kept ++ below) heap
                  (drop_value (value_of environment x) heap) (refs (values_of environment kept ++ below)) d (λ q. refl) seen.sound;
            };
      }

  -- a variable takes a value without cells, and what is owned without cells is used up
  pub seen_value : (readable owned arguments kept : List ℕ) (x : ℕ) (v : Value) → AreEven owned (arguments ++ kept)
      → HaveNoCells (values_of environment arguments) → ((q : ℕ) → refs_of v q ≡ 0)
      → is_among kept x ≡ false → is_among lent x ≡ false
      → IsSeen below environment lent readable owned heap
      → IsSeen below (with_variable x v environment) lent [] (x ∷ kept) heap
  seen_value readable owned arguments kept x v even none free fresh unlent seen =
      record {
        reached = reached_bound (forwards heap) below environment lent x v unlent seen.reached;
        counted = λ y here. absurd (cc);
        sound =
            landed x v environment kept below (values_of environment owned ++ below) heap fresh
            (λ q. omega (
              arith,
              refs_append (values_of environment owned) below q,
              even_refs environment owned (arguments ++ kept) q even,
              refs_of_both environment arguments kept q,
              no_refs (values_of environment arguments) q none,
              free q,
            ))
            seen.sound;
      }

  -- the fields of a counted cell are read
  pub seen_read : (readable owned fields : List ℕ) (x : ℕ) (named : Named) → AreFresh fields owned
      → (is_among lent x ≡ true) ⊎ ((is_among owned x ≡ true) × AreFresh fields lent)
      → NamedCell heap (value_of environment x) (length fields) named
      → IsSeen below environment lent readable owned heap
      → IsSeen below (bind_fields fields named.fields environment) lent fields owned heap
  seen_read readable owned fields x named fresh where_from cell seen =
      record {
        reached = λ y at is e. lent_reached where_from y is at e;
        counted = λ y is.
            field_is_one (IsCounted heap) fields named.fields environment y cell.many is (λ v one. field_counted v one);
        sound =
            moved (values_of environment owned ++ below)
            (values_of (bind_fields fields named.fields environment) owned ++ below) heap
            (λ q. omega (
              arith,
              refs_append (values_of environment owned) below q,
              refs_append (values_of (bind_fields fields named.fields environment) owned) below q,
              ap (λ vs. refs vs q) (fields_fresh fields named.fields environment owned fresh),
            ))
            seen.sound;
      }
    where
      field_counted : (v : Value) → ((q : ℕ) → refs_of v q ≤ refs named.fields q) → IsCounted heap v
      field_counted v one =
          let k = positive (count_at heap named.at) cell.counted in
          value_counted v heap
          (λ q is. fields_counted (refs (values_of environment owned ++ below)) heap named.at k.0 q seen.sound.counts k.1
          (omega (arith, one q, is, ap (λ vs. refs vs q) cell.fields)))

      field_reached : (goal : ℕ) → Reached (forwards heap) below named.at → 1 ≤ refs named.fields goal
          → Reached (forwards heap) below goal
      field_reached goal r one =
          reached_field (forwards heap) below named.at goal r
          (one_among (fields_at (forwards heap) named.at) goal
          (omega (arith, one, ap (λ vs. refs vs goal) (store_fields heap named.at ∙ cell.fields))))

      lent_reached : (is_among lent x ≡ true) ⊎ ((is_among owned x ≡ true) × AreFresh fields lent) → (y : ℕ)
          → is_among lent y ≡ true → (at : ℕ) → value_of (bind_fields fields named.fields environment) y ≡ place at
          → Reached (forwards heap) below at
      lent_reached (inl lent_x) y is =
          field_or_old (λ v. (at : ℕ) → v ≡ place at → Reached (forwards heap) below at) fields named.fields environment y
          (λ at e. seen.reached y at is e)
          (λ v one at e. field_reached at (seen.reached x named.at lent_x cell.is)
          (omega (arith, one at, ap (λ w. refs_of w at) e, ref_here at)))
      lent_reached (inr owned_x) y is =
          λ at e. seen.reached y at is
          (sym (field_past fields named.fields environment y (fresh_past fields lent y owned_x.1 is)) ∙ e)

-- ---- the cell that a variable names

-- the place and the fields of a cell in a store
abbrev pub named_in : (store : Store) (c count : ℕ) (v : Value) → IsCell store c count v → Named
named_in store c count v shape = record { at = shape.0; fields = shape.1.0.fields }

-- where the cell is counted it is found, in each heap of these cells
pub named_is : (c count : ℕ) (heap : Heap) (store : Store) (v : Value) → forwards heap ≡ store → IsCounted heap v
    → (shape : IsCell store c count v)
    → (cell_named c count heap v ≡ Some (named_in store c count v shape)) × NamedCell heap v count (named_in store c count v shape)
named_is c count heap store v same counted shape = (
  found,
  subst (OnNamed (NamedCell heap v count)) found (named_cell c count heap v),
)
  where
    found : cell_named c count heap v ≡ Some (record { at = shape.0; fields = shape.1.0.fields })
    found =
        subst (λ w. cell_named c count heap w ≡ Some (record { at = shape.0; fields = shape.1.0.fields })) (sym shape.1.1.0)
        (named_place c count heap shape.0 shape.1.0
        (cell_same heap shape.0 (subst (IsCounted heap) shape.1.1.0 counted)
        ∙ (ap (λ (other : Store). slice_get other shape.0) same ∙ shape.1.1.1.0)) shape.1.1.1.1.0 shape.1.1.1.1.1)
