-- What holds of a heap whatever its counts are is kept by dups, drops and openings.
use Rattle.std.proofs.Common.{ℕ, zero, suc, List, [], ◌∷◌, ◌++◌, Option, Some, None}
use Rattle.kk_source.specs.Matching.{and_then}
use Rattle.kk_source.specs.State.{Value, integer, unit, constant, place}
use Rattle.kk_counted.specs.CountedMachine.{opened_heap, unique_heap}
use Rattle.kk_counted.specs.Heaps.{Heap, count_at, set_count, more, dup_value, dup_all, fields_held, weight, give_up, drop_value, drop_all}

abbrev pub OnHeap : (Heap → Type 0) → Option Heap → Type 0
OnHeap P None = Unit {0}
OnHeap P (Some heap) = P heap

then_on : (P : Heap → Type 0) (first : Option Heap) (next : Heap → Option Heap) → OnHeap P first
    → ((heap : Heap) → P heap → OnHeap P (next heap)) → OnHeap P (and_then first next)
then_on P None next on each = tt
then_on P (Some heap) next on each = each heap on

module _ (P : Heap → Type 0) (recounted : (at count : ℕ) (heap : Heap) → P heap → P (set_count at count heap)) where
  more_keeps : (at count : ℕ) (heap : Heap) → P heap → OnHeap P (more at count heap)
  more_keeps at zero heap is = tt
  more_keeps at (suc count) heap is = recounted at (suc (suc count)) heap is

  pub dup_keeps : (v : Value) (heap : Heap) → P heap → OnHeap P (dup_value v heap)
  dup_keeps (integer n) heap is = is
  dup_keeps unit heap is = is
  dup_keeps (constant c) heap is = is
  dup_keeps (place at) heap is = more_keeps at (count_at heap at) heap is

  dups_keep : (vs : List Value) (heap : Heap) → P heap → OnHeap P (dup_all vs heap)
  dups_keep [] heap is = is
  dups_keep (v ∷ vs) heap is = then_on P (dup_value v heap) (dup_all vs) (dup_keeps v heap is) (dups_keep vs)

  by_count : (turns at count : ℕ) (vs : List Value) (heap : Heap)
      → OnHeap P (give_up turns (fields_held heap at ++ vs) (set_count at 0 heap))
      → ((others : ℕ) → OnHeap P (give_up turns vs (set_count at (suc others) heap)))
      → OnHeap P (elim count [
        | zero ↦ None
        | suc count ↦ elim count [
          | zero ↦ give_up turns (fields_held heap at ++ vs) (set_count at 0 heap)
          | suc others ↦ give_up turns vs (set_count at (suc others) heap)
        ]
      ])
  by_count turns at zero vs heap last lower = tt
  by_count turns at (suc zero) vs heap last lower = last
  by_count turns at (suc (suc others)) vs heap last lower = lower others

  given_up_keeps : (turns : ℕ) (vs : List Value) (heap : Heap) → P heap → OnHeap P
      (give_up turns vs heap)
  given_up_keeps zero [] heap is = is
  given_up_keeps (suc turns) [] heap is = is
  given_up_keeps zero (v ∷ vs) heap is = tt
  given_up_keeps (suc turns) (integer n ∷ vs) heap is = given_up_keeps turns vs heap is
  given_up_keeps (suc turns) (unit ∷ vs) heap is = given_up_keeps turns vs heap is
  given_up_keeps (suc turns) (constant c ∷ vs) heap is = given_up_keeps turns vs heap is
  given_up_keeps (suc turns) (place at ∷ vs) heap is =
      by_count turns at (count_at heap at) vs heap
      (given_up_keeps turns (fields_held heap at ++ vs) (set_count at 0 heap) (recounted at 0 heap is))
      (λ others. given_up_keeps turns vs (set_count at (suc others) heap) (recounted at (suc others) heap is))

  pub drop_keeps : (v : Value) (heap : Heap) → P heap → OnHeap P (drop_value v heap)
  drop_keeps v heap is = given_up_keeps (suc (weight heap)) (v ∷ []) heap is

  drops_keep : (vs : List Value) (heap : Heap) → P heap → OnHeap P (drop_all vs heap)
  drops_keep [] heap is = is
  drops_keep (v ∷ vs) heap is = then_on P (drop_value v heap) (drop_all vs) (drop_keeps v heap is) (drops_keep vs)

  pub opened_keeps : (at : ℕ) (used : List Value) (heap : Heap) → P heap → OnHeap P
      (opened_heap at used heap)
  opened_keeps at used heap is = then_on P (dup_all used heap) (drop_value (place at)) (dups_keep used heap is)
      (drop_keeps (place at))

  pub unique_keeps : (count at : ℕ) (used others : List Value) (heap : Heap) → P heap
      → OnHeap P (unique_heap count at used others heap)
  unique_keeps zero at used others heap is = tt
  unique_keeps (suc zero) at used others heap is = drops_keep others (set_count at 0 heap) (recounted at 0 heap is)
  unique_keeps (suc (suc count)) at used others heap is = dups_keep used (set_count at (suc count) heap)
      (recounted at (suc count) heap is)
