-- The heap that is the function of its cells and of the references from outside is sound, and equal references give equal heaps.
use Rattle.std.proofs.Common.{◌≡◌, ℕ, zero, suc, ◌+◌, ◌≤◌, ◌<◌, ◌==◌, Bool, true, false, List, [], ◌∷◌, length, arith, refl, sym, ap, ◌∙◌, subst, ◌⊎◌, inl, inr}
use Rattle.std.proofs.lemmas.Bool.{cases_lt}
use Rattle.kk_source.specs.State.{Value, Cell}
use Rattle.kk_source.specs.Sound.{AllWithin}
use Rattle.kk_counted.specs.Heaps.{Heap, count_at, fields_held}
use Rattle.kk_counted.specs.References.{refs, fields_if, counted_fields, IsSound, AreOlder, cells_of, spread, counted}
use Rattle.kk_counted.proofs.CountChanges.{same, itself, refs_append, count_top, count_below}
use Rattle.kk_counted.proofs.Reachability.{within_none, none_beyond, built_older, HasOlder, older_below, older_first, no_field, cells_length}

pub counted_cells : (outside : ℕ → ℕ) (cells : List Cell) → cells_of (counted outside cells) ≡ cells
counted_cells outside [] = refl
counted_cells outside (cell ∷ cells) =
    ap (λ (others : List Cell). cell ∷ others) (counted_cells (spread (outside (length cells)) cell.fields outside) cells)

pub counted_length : (outside : ℕ → ℕ) (cells : List Cell) → length (counted outside cells) ≡ length cells
counted_length outside cells = cells_length (counted outside cells) ∙ ap length (counted_cells outside cells)

pub same_outside : (outside other : ℕ → ℕ) (cells : List Cell) → ((q : ℕ) → q < length cells → outside q ≡ other q) → counted outside cells ≡ counted other cells
same_outside outside other [] alike = refl
same_outside outside other (cell ∷ cells) alike =
    ap (λ (rest : Heap). record { count = outside (length cells); cell = cell } ∷ rest)
    (same_outside (spread (outside (length cells)) cell.fields outside) (spread (other (length cells)) cell.fields other) cells
    (λ q less. omega (arith, ap (λ count. refs (fields_if count cell.fields) q) first, alike q (omega (arith, less)))))
    ∙ ap (λ count. record { count = count; cell = cell } ∷ counted (spread (other (length cells)) cell.fields other) cells) first
  where
    first : outside (length cells) ≡ other (length cells)
    first = alike (length cells) (omega arith)

pub counted_older : (outside : ℕ → ℕ) (cells : List Cell) → AreOlder cells → (at : ℕ) → AllWithin at (fields_held (counted outside cells) at)
counted_older outside [] older at = tt
counted_older outside (cell ∷ cells) older at =
    built_older cell (outside (length cells)) (counted (spread (outside (length cells)) cell.fields outside) cells)
    (subst (λ n. AllWithin n cell.fields) (sym (counted_length (spread (outside (length cells)) cell.fields outside) cells)) older.0)
    (counted_older (spread (outside (length cells)) cell.fields outside) cells older.1) at

counts_below : (outside : ℕ → ℕ) (cells : List Cell) → AreOlder cells → (q : ℕ) → q < length cells → count_at (counted outside cells) q ≡ outside q + refs (counted_fields (counted outside cells)) q
counts_below outside [] older q less = absurd (omega (arith, less))
counts_below outside (cell ∷ cells) older q less =
    by_test (length (counted (spread (outside (length cells)) cell.fields outside) cells) == q) refl
    (counts_below (spread (outside (length cells)) cell.fields outside) cells older.1 q)
  where
    rest_older : HasOlder (counted (spread (outside (length cells)) cell.fields outside) cells)
    rest_older = counted_older (spread (outside (length cells)) cell.fields outside) cells older.1

    rest_length : length (counted (spread (outside (length cells)) cell.fields outside) cells) ≡ length cells
    rest_length = counted_length (spread (outside (length cells)) cell.fields outside) cells

    none : (count : ℕ) → length cells ≤ q → refs (fields_if count cell.fields) q ≡ 0
    none zero le = refl
    none (suc count) le = within_none (length cells) q cell.fields older.0 le

    other : q ≡ length cells → (length (counted (spread (outside (length cells)) cell.fields outside) cells) == q) ≡ false → ⊥
    other e is = let both : true ≡ false = sym (itself q) ∙ (ap (λ n. n == q) (e ∙ sym rest_length) ∙ is) in absurd (cc)

    by_test : (t : Bool) → (length (counted (spread (outside (length cells)) cell.fields outside) cells) == q) ≡ t
        → (q < length cells → count_at (counted (spread (outside (length cells)) cell.fields outside) cells) q ≡ spread (outside (length cells)) cell.fields outside q + refs (counted_fields (counted (spread (outside (length cells)) cell.fields outside) cells)) q)
        → count_at (counted outside (cell ∷ cells)) q ≡ outside q + refs (counted_fields (counted outside (cell ∷ cells))) q
    by_test true is later =
        let here : length cells ≡ q = sym rest_length ∙ same (length (counted (spread (outside (length cells)) cell.fields outside) cells)) q is in
        omega (
          arith,
          count_top (record { count = outside (length cells); cell = cell }) (counted (spread (outside (length cells)) cell.fields outside) cells) q is,
          ap outside here,
          none (outside (length cells)) (omega (arith, here)),
          refs_append (fields_if (outside (length cells)) cell.fields) (counted_fields (counted (spread (outside (length cells)) cell.fields outside) cells)) q,
          no_field (counted (spread (outside (length cells)) cell.fields outside) cells) q rest_older (omega (arith, here, rest_length)),
        )
    by_test false is later =
        omega (
          arith,
          count_below (record { count = outside (length cells); cell = cell }) (counted (spread (outside (length cells)) cell.fields outside) cells) q is,
          refs_append (fields_if (outside (length cells)) cell.fields) (counted_fields (counted (spread (outside (length cells)) cell.fields outside) cells)) q,
          later (smaller (cases_lt q (length cells))),
        )
      where
        smaller : (q < length cells) ⊎ (length cells ≤ q) → q < length cells
        smaller (inl small) = small
        smaller (inr le) = let e : q ≡ length cells = omega (arith, le, less) in absurd (other e is)

pub counted_counts : (outside : ℕ → ℕ) (cells : List Cell) → AreOlder cells → ((q : ℕ) → length cells ≤ q → outside q ≡ 0) → (q : ℕ) → count_at (counted outside cells) q ≡ outside q + refs (counted_fields (counted outside cells)) q
counted_counts outside cells older none q = by_place (cases_lt q (length cells))
  where
    by_place : (q < length cells) ⊎ (length cells ≤ q) → count_at (counted outside cells) q ≡ outside q + refs (counted_fields (counted outside cells)) q
    by_place (inl small) = counts_below outside cells older q small
    by_place (inr le) =
        omega (
          arith,
          none q le,
          none_beyond (counted outside cells) q (omega (arith, le, counted_length outside cells)),
          no_field (counted outside cells) q (counted_older outside cells older) (omega (arith, le, counted_length outside cells)),
        )

pub counted_is_sound : (owned : List Value) (cells : List Cell) → AreOlder cells → AllWithin (length cells) owned → IsSound owned (counted (refs owned) cells)
counted_is_sound owned cells older within =
    record { counts = counted_counts (refs owned) cells older (λ q le. within_none (length cells) q owned within le); older = counted_older (refs owned) cells older }

-- the cells of a heap whose fields name older cells
pub cells_older : (heap : Heap) → HasOlder heap → AreOlder (cells_of heap)
cells_older [] older = tt
cells_older (held ∷ heap) older =
    (subst (λ n. AllWithin n held.cell.fields) (cells_length heap) (older_first held heap older), cells_older heap (older_below held heap older))
