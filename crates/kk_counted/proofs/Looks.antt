-- A case looks at counted cells as the core machine looks at its store.
use Rattle.std.proofs.Common.{◌≡◌, ℕ, zero, suc, ◌≤◌, ◌==◌, Bool, true, false, List, [], ◌∷◌, ◌++◌, length, Option, Some, None, arith, refl, sym, ap, ◌∙◌, option_map}
use Rattle.std.specs.Prelude.{slice_get}
use Rattle.kk_source.specs.State.{Value, integer, unit, constant, place, Cell, Store}
use Rattle.kk_source.specs.Live.{fields_in}
use Rattle.kk_source.specs.Matching.{and_then}
use Rattle.kk_core.specs.declared.decisions.Answer.{Answer}
use Rattle.kk_core.specs.declared.decisions.Edge.{Edge}
use Rattle.kk_core.specs.Decisions.{NodeTree, chooses, tests, fields_shown, value_at, answer_of, found_at, next_by, row_at, chosen_from, chosen}
use Rattle.kk_counted.specs.Heaps.{Held, Heap, forwards, count_at, cell_at, fields_held}
use Rattle.kk_counted.specs.References.{refs_of, refs, Counts, IsCounted}
use Rattle.kk_counted.proofs.CountChanges.{same, itself, count_top, count_below}
use Rattle.kk_counted.proofs.Heaps.{positive, value_counted, fields_counted}
use Rattle.kk_counted.proofs.Reachability.{forwards_length, store_fields}

-- ---- a counted cell is that of the store

slice_last : (store : Store) (cell : Cell) (at : ℕ) → at ≡ length store → slice_get (store ++ cell ∷ []) at ≡ Some cell
slice_last [] cell zero last = refl
slice_last [] cell (suc at) last = absurd (omega (arith, last))
slice_last (c ∷ store) cell zero last = absurd (omega (arith, last))
slice_last (c ∷ store) cell (suc at) last = slice_last store cell at (omega (arith, last))

slice_rest : (store : Store) (cell : Cell) (at : ℕ) → (at ≡ length store → ⊥) → slice_get (store ++ cell ∷ []) at ≡ slice_get store at
slice_rest [] cell zero other = absurd (other refl)
slice_rest [] cell (suc at) other = refl
slice_rest (c ∷ store) cell zero other = refl
slice_rest (c ∷ store) cell (suc at) other = slice_rest store cell at (λ last. other (omega (arith, last)))

cell_top : (held : Held) (heap : Heap) (at k : ℕ) → (length heap == at) ≡ true → held.count ≡ suc k → cell_at (held ∷ heap) at ≡ Some held.cell
cell_top held heap at k is counted = rw is (rw counted refl)

cell_below : (held : Held) (heap : Heap) (at : ℕ) → (length heap == at) ≡ false → cell_at (held ∷ heap) at ≡ cell_at heap at
cell_below held heap at is = rw is refl

pub cell_same : (heap : Heap) (at : ℕ) → 1 ≤ count_at heap at → cell_at heap at ≡ slice_get (forwards heap) at
cell_same [] at one = absurd (omega (arith, one))
cell_same (held ∷ heap) at one = by_test (length heap == at) refl (cell_same heap at)
  where
    other : at ≡ length heap → (length heap == at) ≡ false → ⊥
    other e is = let both : true ≡ false = sym (itself at) ∙ (ap (λ n. n == at) e ∙ is) in absurd (cc)

    by_test : (t : Bool) → (length heap == at) ≡ t → (1 ≤ count_at heap at → cell_at heap at ≡ slice_get (forwards heap) at) → cell_at (held ∷ heap) at ≡ slice_get (forwards heap ++ held.cell ∷ []) at
    by_test true is later =
        let k = positive held.count (omega (arith, count_top held heap at is, one)) in
        cell_top held heap at k.0 is k.1 ∙ sym (slice_last (forwards heap) held.cell at (omega (arith, same (length heap) at is, forwards_length heap)))
    by_test false is later =
        cell_below held heap at is
        ∙ (later (omega (arith, count_below held heap at is, one)) ∙ sym (slice_rest (forwards heap) held.cell at (λ last. other (last ∙ forwards_length heap) is)))

-- ---- what a value shows

value_or : Option Value → Value
value_or None = unit
value_or (Some v) = v

slice_refs : (vs : List Value) (i q : ℕ) (w : Value) → slice_get vs i ≡ Some w → refs_of w q ≤ refs vs q
unfolding value_or
slice_refs [] i q w is = absurd (cc)
slice_refs (v ∷ vs) zero q w is = omega (arith, ap (λ (o : Option Value). refs_of (value_or o) q) is)
slice_refs (v ∷ vs) (suc i) q w is = omega (arith, slice_refs vs i q w is)

abbrev OnValue : (Value → Type 0) → Option Value → Type 0
OnValue P None = Unit {0}
OnValue P (Some v) = P v

module _ (outside : ℕ → ℕ) (heap : Heap) (counts : Counts outside heap) where
  shown_same : (v : Value) → IsCounted heap v → fields_shown (cell_at heap) v ≡ fields_shown (slice_get (forwards heap)) v
  shown_same (integer n) counted = refl
  shown_same unit counted = refl
  shown_same (constant c) counted = refl
  shown_same (place at) counted = ap (option_map (λ (cell : Cell). cell.fields)) (cell_same heap at counted)

  answer_same : (v : Value) → IsCounted heap v → answer_of (cell_at heap) v ≡ answer_of (slice_get (forwards heap)) v
  answer_same (integer n) counted = refl
  answer_same unit counted = refl
  answer_same (constant c) counted = refl
  answer_same (place at) counted =
      ap (λ (o : Option Cell). answer_of (λ other. o) (place at)) (cell_same heap at counted)

  -- a field of a counted cell
  field_counted : (field : ℕ) (v : Value) → IsCounted heap v → OnValue (IsCounted heap) (and_then (fields_shown (cell_at heap) v) (λ fields. slice_get fields field))
  field_counted field (integer n) counted = tt
  field_counted field unit counted = tt
  field_counted field (constant c) counted = tt
  field_counted field (place at) counted = by_cell (cell_at heap at) refl
    where
      by_field : (cell : Cell) → cell_at heap at ≡ Some cell → (found : Option Value) → slice_get cell.fields field ≡ found → OnValue (IsCounted heap) found
      by_field cell here None is = tt
      by_field cell here (Some w) is =
          let k = positive (count_at heap at) counted in
          let fields : fields_held heap at ≡ cell.fields = sym (store_fields heap at) ∙ ap fields_in (sym (cell_same heap at counted) ∙ here) in
          value_counted w heap
          (λ q one. fields_counted outside heap at k.0 q counts k.1 (omega (arith, ap (λ vs. refs vs q) fields, slice_refs cell.fields field q w is, one)))

      by_cell : (found : Option Cell) → cell_at heap at ≡ found → OnValue (IsCounted heap) (and_then (option_map (λ (cell : Cell). cell.fields) found) (λ fields. slice_get fields field))
      by_cell None here = tt
      by_cell (Some cell) here = by_field cell here (slice_get cell.fields field) refl

  value_same : (way : List ℕ) (v : Value) → IsCounted heap v → (value_at (cell_at heap) way v ≡ value_at (slice_get (forwards heap)) way v) × OnValue (IsCounted heap) (value_at (cell_at heap) way v)
  value_same [] v counted = (refl, counted)
  value_same (field ∷ way) v counted =
      let r = by_part (and_then (fields_shown (cell_at heap) v) (λ fields. slice_get fields field)) (field_counted field v counted) (value_same way) in
      (r.0 ∙ ap (λ (o : Option (List Value)). and_then (and_then o (λ fields. slice_get fields field)) (value_at (slice_get (forwards heap)) way)) (shown_same v counted), r.1)
    where
      by_part : (part : Option Value) → OnValue (IsCounted heap) part
          → ((w : Value) → IsCounted heap w → (value_at (cell_at heap) way w ≡ value_at (slice_get (forwards heap)) way w) × OnValue (IsCounted heap) (value_at (cell_at heap) way w))
          → (and_then part (value_at (cell_at heap) way) ≡ and_then part (value_at (slice_get (forwards heap)) way)) × OnValue (IsCounted heap) (and_then part (value_at (cell_at heap) way))
      by_part None counted later = (refl, tt)
      by_part (Some w) counted later = later w counted

  pub found_same : (way : List ℕ) (v : Value) → IsCounted heap v → found_at (cell_at heap) way v ≡ found_at (slice_get (forwards heap)) way v
  found_same way v counted =
      let r = value_same way v counted in
      by_value (value_at (cell_at heap) way v) r.1 ∙ ap (λ (o : Option Value). and_then o (answer_of (slice_get (forwards heap)))) r.0
    where
      by_value : (found : Option Value) → OnValue (IsCounted heap) found → and_then found (answer_of (cell_at heap)) ≡ and_then found (answer_of (slice_get (forwards heap)))
      by_value None counted = refl
      by_value (Some w) counted = answer_same w counted

  -- ---- the row

  chosen_from_same : (v : Value) → IsCounted heap v → (nodes : List NodeTree) (steps k : ℕ) → chosen_from (cell_at heap) v nodes steps k ≡ chosen_from (slice_get (forwards heap)) v nodes steps k
  chosen_from_same v counted nodes zero k = refl
  chosen_from_same v counted nodes (suc steps) k = by_node (slice_get nodes k) (chosen_from_same v counted nodes steps)
    where
      by_next : (next : Option ℕ) → ((j : ℕ) → chosen_from (cell_at heap) v nodes steps j ≡ chosen_from (slice_get (forwards heap)) v nodes steps j) → and_then next (chosen_from (cell_at heap) v nodes steps) ≡ and_then next (chosen_from (slice_get (forwards heap)) v nodes steps)
      by_next None later = refl
      by_next (Some j) later = later j

      by_found : (edges : List Edge) (otherwise : Option ℕ) (found : Option Answer) → ((j : ℕ) → chosen_from (cell_at heap) v nodes steps j ≡ chosen_from (slice_get (forwards heap)) v nodes steps j) → and_then found (λ answer. and_then (next_by edges otherwise answer) (chosen_from (cell_at heap) v nodes steps)) ≡ and_then found (λ answer. and_then (next_by edges otherwise answer) (chosen_from (slice_get (forwards heap)) v nodes steps))
      by_found edges otherwise None later = refl
      by_found edges otherwise (Some answer) later = by_next (next_by edges otherwise answer) later

      by_node : (node : Option NodeTree) → ((j : ℕ) → chosen_from (cell_at heap) v nodes steps j ≡ chosen_from (slice_get (forwards heap)) v nodes steps j) → row_at (cell_at heap) v (chosen_from (cell_at heap) v nodes steps) node ≡ row_at (slice_get (forwards heap)) v (chosen_from (slice_get (forwards heap)) v nodes steps) node
      by_node None later = refl
      by_node (Some (chooses row)) later = refl
      by_node (Some (tests at edges otherwise)) later =
          by_found edges otherwise (found_at (cell_at heap) at v) later
          ∙ ap (λ (o : Option Answer). and_then o (λ answer. and_then (next_by edges otherwise answer) (chosen_from (slice_get (forwards heap)) v nodes steps))) (found_same at v counted)

  pub chosen_same : (v : Value) → IsCounted heap v → (decisions : List NodeTree) → chosen (cell_at heap) v decisions ≡ chosen (slice_get (forwards heap)) v decisions
  chosen_same v counted decisions = chosen_from_same v counted decisions (length decisions) 0
