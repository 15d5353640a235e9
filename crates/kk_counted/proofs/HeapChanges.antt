-- Changes of a heap that count no cell anew: dups, drops and openings.
use Rattle.std.proofs.Common.{◌≡◌, ℕ, zero, suc, ◌≤◌, ◌==◌, Bool, true, false, List, [], ◌∷◌, ◌++◌, length, Option, Some, None, arith, refl, sym, ap, ◌∙◌}
use Rattle.kk_source.specs.State.{Value, integer, unit, constant, place, Cell}
use Rattle.kk_source.specs.Matching.{and_then}
use Rattle.kk_counted.specs.Heaps.{Held, Heap, count_at, set_count, one_if_counted, busy, more, dup_value, dup_all, fields_held, weight, give_up, drop_value, drop_all}
use Rattle.kk_counted.specs.CountedMachine.{opened_heap, unique_heap}
use Rattle.kk_counted.specs.References.{cells_of}
use Rattle.kk_counted.proofs.CountChanges.{same, itself, count_top, count_below, counted_within, set_length, set_cells, count_other}

pub record Eased (before after : Heap) : Type 0 where
  pub cells : cells_of after ≡ cells_of before
  pub many : length after ≡ length before
  pub zeros : (q : ℕ) → count_at before q ≡ 0 → count_at after q ≡ 0

abbrev pub EasedTo : Heap → Option Heap → Type 0
EasedTo before None = Unit {0}
EasedTo before (Some after) = Eased before after

pub eased_same : (heap : Heap) → Eased heap heap
eased_same heap = record { cells = refl; many = refl; zeros = λ q is. is }

pub eased_then : (before between : Heap) (result : Option Heap) → Eased before between → EasedTo between result
    → EasedTo before result
eased_then before between None first rest = tt
eased_then before between (Some after) first rest =
    record { cells = rest.cells ∙ first.cells; many = rest.many ∙ first.many; zeros = λ q is. rest.zeros q (first.zeros q is) }

eased_and : (before : Heap) (result : Option Heap) (next : Heap → Option Heap) → EasedTo before result
    → ((between : Heap) → EasedTo between (next between)) → EasedTo before (and_then result next)
eased_and before None next first rest = tt
eased_and before (Some between) next first rest = eased_then before between (next between) first (rest between)

eased_set : (at n k : ℕ) (heap : Heap) → count_at heap at ≡ suc k → Eased heap (set_count at n heap)
eased_set at n k heap counted =
    record { cells = set_cells at n heap; many = set_length at n heap; zeros = λ q none. by_test q none (at == q) refl }
  where
    by_test : (q : ℕ) → count_at heap q ≡ 0 → (t : Bool) → (at == q) ≡ t → count_at (set_count at n heap) q ≡ 0
    by_test q none true is = absurd (omega (arith, ap (count_at heap) (same at q is), none, counted))
    by_test q none false is = count_other at n q heap is ∙ none

eased_more : (at count : ℕ) (heap : Heap) → count_at heap at ≡ count → EasedTo heap (more at count heap)
eased_more at zero heap counted = tt
eased_more at (suc count) heap counted = eased_set at (suc (suc count)) count heap counted

pub eased_dup : (v : Value) (heap : Heap) → EasedTo heap (dup_value v heap)
eased_dup (integer n) heap = eased_same heap
eased_dup unit heap = eased_same heap
eased_dup (constant c) heap = eased_same heap
eased_dup (place at) heap = eased_more at (count_at heap at) heap refl

eased_dups : (vs : List Value) (heap : Heap) → EasedTo heap (dup_all vs heap)
eased_dups [] heap = eased_same heap
eased_dups (v ∷ vs) heap = eased_and heap (dup_value v heap) (dup_all vs) (eased_dup v heap) (eased_dups vs)

eased_give_up : (turns : ℕ) (vs : List Value) (heap : Heap) → EasedTo heap (give_up turns vs heap)
eased_give_up zero [] heap = eased_same heap
eased_give_up (suc turns) [] heap = eased_same heap
eased_give_up zero (v ∷ vs) heap = tt
eased_give_up (suc turns) (integer n ∷ vs) heap = eased_give_up turns vs heap
eased_give_up (suc turns) (unit ∷ vs) heap = eased_give_up turns vs heap
eased_give_up (suc turns) (constant c ∷ vs) heap = eased_give_up turns vs heap
eased_give_up (suc turns) (place at ∷ vs) heap = by_count (count_at heap at) refl (eased_give_up turns)
  where
    by_count : (count : ℕ) → count_at heap at ≡ count → ((ws : List Value) (other : Heap) → EasedTo other (give_up turns ws other))
        → EasedTo heap (elim count [
          | zero ↦ None
          | suc count ↦ elim count [
            | zero ↦ give_up turns (fields_held heap at ++ vs) (set_count at 0 heap)
            | suc others ↦ give_up turns vs
                (set_count at (suc others) heap)
          ]
        ])
    by_count zero counted later = tt
    by_count (suc zero) counted later =
        eased_then heap (set_count at 0 heap) (give_up turns (fields_held heap at ++ vs) (set_count at 0 heap))
        (eased_set at 0 0 heap counted)
        (later (fields_held heap at ++ vs) (set_count at 0 heap))
    by_count (suc (suc others)) counted later =
        eased_then heap (set_count at (suc others) heap) (give_up turns vs (set_count at (suc others) heap))
        (eased_set at (suc others) (suc others) heap counted)
        (later vs (set_count at (suc others) heap))

pub eased_drop : (v : Value) (heap : Heap) → EasedTo heap (drop_value v heap)
eased_drop v heap = eased_give_up (suc (weight heap)) (v ∷ []) heap

eased_drops : (vs : List Value) (heap : Heap) → EasedTo heap (drop_all vs heap)
eased_drops [] heap = eased_same heap
eased_drops (v ∷ vs) heap = eased_and heap (drop_value v heap) (drop_all vs) (eased_drop v heap) (eased_drops vs)

pub eased_opening : (at : ℕ) (used : List Value) (heap : Heap) → EasedTo heap (opened_heap at used heap)
eased_opening at used heap =
    eased_and heap (dup_all used heap) (drop_value (place at)) (eased_dups used heap) (eased_drop (place at))

pub eased_unique : (count at : ℕ) (used others : List Value) (heap : Heap) → count_at heap at ≡ count
    → EasedTo heap (unique_heap count at used others heap)
eased_unique zero at used others heap counted = tt
eased_unique (suc zero) at used others heap counted =
    eased_then heap (set_count at 0 heap) (drop_all others (set_count at 0 heap)) (eased_set at 0 0 heap counted)
    (eased_drops others (set_count at 0 heap))
eased_unique (suc (suc count)) at used others heap counted =
    eased_then heap (set_count at (suc count) heap) (dup_all used (set_count at (suc count) heap))
    (eased_set at (suc count) (suc count) heap counted)
    (eased_dups used (set_count at (suc count) heap))

-- ---- how many cells are counted

none_beyond : (heap : Heap) (q : ℕ) → length heap ≤ q → (count : ℕ) → count_at heap q ≡ count → count_at heap q ≡ 0
none_beyond heap q far zero is = is
none_beyond heap q far (suc count) is = absurd (omega (arith, counted_within heap q count is, far))

abbrev rest_of : List Cell → List Cell
rest_of [] = []
rest_of (cell ∷ cells) = cells

eased_tail : (one other : Held) (before after : Heap) → Eased (one ∷ before) (other ∷ after) → Eased before after
eased_tail one other before after eased =
    record {
      cells = ap rest_of eased.cells;
      many = omega (arith, eased.many);
      zeros = λ q none. by_test q none (length before == q) refl;
    }
  where
    many : length after ≡ length before
    many = omega (arith, eased.many)

    by_test : (q : ℕ) → count_at before q ≡ 0 → (t : Bool) → (length before == q) ≡ t → count_at after q ≡ 0
    by_test q none true is = none_beyond after q (omega (arith, many, same (length before) q is)) (count_at after q) refl
    by_test q none false is =
        sym (count_below other after q (ap (λ m. m == q) many ∙ is)) ∙ eased.zeros q (count_below one before q is ∙ none)

one_at_most : (n : ℕ) → one_if_counted n ≤ 1
one_at_most zero = omega arith
one_at_most (suc n) = omega arith

fewer_one : (m n : ℕ) → (n ≡ 0 → m ≡ 0) → one_if_counted m ≤ one_if_counted n
fewer_one m zero zeros = rw (zeros refl) (omega arith)
fewer_one m (suc n) zeros = one_at_most m

eased_head : (one other : Held) (before after : Heap) → Eased (one ∷ before) (other ∷ after)
    → one_if_counted other.count ≤ one_if_counted one.count
eased_head one other before after eased =
    fewer_one other.count one.count
    (λ none.
    sym (count_top other after (length before) (ap (λ m. m == length before) many ∙ itself (length before)))
    ∙ eased.zeros (length before) (count_top one before (length before) (itself (length before)) ∙ none))
  where
    many : length after ≡ length before
    many = omega (arith, eased.many)

pub fewer_busy : (before after : Heap) → Eased before after → busy after ≤ busy before
fewer_busy [] [] eased = omega arith
fewer_busy [] (other ∷ after) eased = absurd (omega (arith, eased.many))
fewer_busy (one ∷ before) [] eased = absurd (omega (arith, eased.many))
fewer_busy (one ∷ before) (other ∷ after) eased =
    omega (arith, eased_head one other before after eased, fewer_busy before after (eased_tail one other before after eased))

pub one_counted : (n : ℕ) → 1 ≤ n → one_if_counted n ≡ 1
one_counted zero less = absurd (omega (arith, less))
one_counted (suc n) less = refl

-- a cell that is counted no more makes room
pub freed_busy : (before after : Heap) (p : ℕ) → Eased before after → 1 ≤ count_at before p → count_at after p ≡ 0
    → suc (busy after) ≤ busy before
freed_busy [] after p eased counted none = absurd (omega (arith, counted))
freed_busy (one ∷ before) [] p eased counted none = absurd (omega (arith, eased.many))
freed_busy (one ∷ before) (other ∷ after) p eased counted none = by_test (length before == p) refl (freed_busy before after p)
  where
    many : length after ≡ length before
    many = omega (arith, eased.many)

    tail : Eased before after
    tail = eased_tail one other before after eased

    by_test : (t : Bool) → (length before == p) ≡ t
        → (Eased before after → 1 ≤ count_at before p → count_at after p ≡ 0 → suc (busy after) ≤ busy before)
        → suc (busy (other ∷ after)) ≤ busy (one ∷ before)
    by_test true is later =
        omega (
          arith,
          fewer_busy before after tail,
          one_counted one.count (omega (arith, count_top one before p is, counted)),
          ap one_if_counted (sym (count_top other after p (ap (λ m. m == p) many ∙ is)) ∙ none),
        )
    by_test false is later =
        omega (
          arith,
          eased_head one other before after eased,
          later tail (omega (arith, count_below one before p is, counted))
              (sym (count_below other after p (ap (λ m. m == p) many ∙ is)) ∙ none),
        )
