-- A drop takes one turn for itself, and one for each field of a cell that it frees: so it pays for itself.
use Rattle.std.proofs.Common.{◌≡◌, ℕ, zero, suc, ◌+◌, ◌*◌, List, [], ◌∷◌, ◌++◌, length, Option, Some, None, arith, refl, sym, ap, ◌∙◌, length-append}
use Rattle.kk_source.specs.State.{Value, integer, unit, constant, place}
use Rattle.kk_source.specs.Matching.{and_then}
use Rattle.kk_counted.specs.Heaps.{Heap, count_at, set_count, more, dup_value, dup_all, fields_held, weight, give_up, drop_value}
use Rattle.kk_counted.specs.CountedMachine.{opened_heap}
use Rattle.kk_counted.specs.Spending.{AreEven}
use Rattle.kk_counted.specs.Cost.{turns_taken, drop_turns, saved, turns_if, opening_turns}
use Rattle.kk_counted.proofs.CountChanges.{kept_weight, freed_weight}
use Rattle.kk_counted.proofs.ListLengths.{total_ones}

some_is : (heap after : Heap) → Some heap ≡ Some after → heap ≡ after
some_is heap after same = ap (λ (o : Option Heap). elim o [ None ↦ heap | Some h ↦ h ]) same

abbrev nothing : Option Heap
nothing = None

none_is : (P : Type 0) (after : Heap) → nothing ≡ Some after → P
none_is P after same = absurd (cc)

pub turns_cost : (turns : ℕ) (vs : List Value) (heap after : Heap) → give_up turns vs heap ≡ Some after → turns_taken turns vs heap + weight after ≡ length vs + weight heap
turns_cost zero [] heap after gives = omega (arith, ap weight (some_is heap after gives))
turns_cost (suc turns) [] heap after gives = omega (arith, ap weight (some_is heap after gives))
turns_cost zero (v ∷ vs) heap after gives = none_is _ after gives
turns_cost (suc turns) (integer n ∷ vs) heap after gives = omega (arith, turns_cost turns vs heap after gives)
turns_cost (suc turns) (unit ∷ vs) heap after gives = omega (arith, turns_cost turns vs heap after gives)
turns_cost (suc turns) (constant c ∷ vs) heap after gives = omega (arith, turns_cost turns vs heap after gives)
turns_cost (suc turns) (place at ∷ vs) heap after gives = by_count (count_at heap at) refl gives (λ ws other. turns_cost turns ws other after)
  where
    by_count : (count : ℕ) → count_at heap at ≡ count
        → elim count [ zero ↦ None | suc count ↦ elim count [ zero ↦ give_up turns (fields_held heap at ++ vs) (set_count at 0 heap) | suc others ↦ give_up turns vs (set_count at (suc others) heap) ] ] ≡ Some after
        → ((ws : List Value) (other : Heap) → give_up turns ws other ≡ Some after → turns_taken turns ws other + weight after ≡ length ws + weight other)
        → elim count [ zero ↦ 1 | suc count ↦ elim count [ zero ↦ suc (turns_taken turns (fields_held heap at ++ vs) (set_count at 0 heap)) | suc others ↦ suc (turns_taken turns vs (set_count at (suc others) heap)) ] ] + weight after ≡ suc (length vs) + weight heap
    by_count zero counted gives later = none_is _ after gives
    by_count (suc zero) counted gives later =
        omega (arith, later (fields_held heap at ++ vs) (set_count at 0 heap) gives, length-append {A = Value}, freed_weight at 0 heap counted)
    by_count (suc (suc others)) counted gives later =
        omega (arith, later vs (set_count at (suc others) heap) gives, kept_weight at others (suc others) heap counted)

pub drop_cost : (v : Value) (heap after : Heap) → drop_value v heap ≡ Some after → drop_turns v heap + weight after ≡ 1 + weight heap
drop_cost v heap after gives = omega (arith, turns_cost (suc (weight heap)) (v ∷ []) heap after gives)

pub drop_pays : (v : Value) (heap after : Heap) (x : ℕ) (owned kept : List ℕ) → AreEven owned (x ∷ kept) → drop_value v heap ≡ Some after → (16 + 16 * drop_turns v heap) + saved kept after ≡ saved owned heap
drop_pays v heap after x owned kept even gives =
    omega (arith, drop_cost v heap after gives, even (λ y. 1), total_ones owned, total_ones kept)

-- ---- a dup leaves the weight, and an opening pays for its own drop

pub dup_weight : (v : Value) (heap after : Heap) → dup_value v heap ≡ Some after → weight after ≡ weight heap
dup_weight (integer n) heap after gives = ap weight (sym (some_is heap after gives))
dup_weight unit heap after gives = ap weight (sym (some_is heap after gives))
dup_weight (constant c) heap after gives = ap weight (sym (some_is heap after gives))
dup_weight (place at) heap after gives = by_count (count_at heap at) refl gives
  where
    by_count : (count : ℕ) → count_at heap at ≡ count → more at count heap ≡ Some after → weight after ≡ weight heap
    by_count zero counted gives = none_is _ after gives
    by_count (suc k) counted gives =
        ap weight (sym (some_is (set_count at (suc (suc k)) heap) after gives)) ∙ kept_weight at (suc k) k heap counted

pub dups_weight : (vs : List Value) (heap after : Heap) → dup_all vs heap ≡ Some after → weight after ≡ weight heap
dups_weight [] heap after gives = ap weight (sym (some_is heap after gives))
dups_weight (v ∷ vs) heap after gives = by_first (dup_value v heap) refl gives (λ between. dups_weight vs between after)
  where
    by_first : (first : Option Heap) → dup_value v heap ≡ first → and_then first (dup_all vs) ≡ Some after → ((between : Heap) → dup_all vs between ≡ Some after → weight after ≡ weight between) → weight after ≡ weight heap
    by_first None is gives later = none_is _ after gives
    by_first (Some between) is gives later = later between gives ∙ dup_weight v heap between is

pub opening_cost : (at : ℕ) (used : List Value) (heap after : Heap) → opened_heap at used heap ≡ Some after → opening_turns at used heap + weight after ≡ 1 + weight heap
opening_cost at used heap after gives = by_first (dup_all used heap) refl gives
  where
    by_first : (first : Option Heap) → dup_all used heap ≡ first → and_then first (drop_value (place at)) ≡ Some after → turns_if (place at) first + weight after ≡ 1 + weight heap
    by_first None is gives = none_is _ after gives
    by_first (Some between) is gives = omega (arith, drop_cost (place at) between after gives, dups_weight used heap between is)
