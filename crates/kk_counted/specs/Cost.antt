-- What a drop costs: the references that it gives up, one in each turn; and what is saved for that.
use Rattle.std.specs.Prelude.{ℕ, zero, suc, ◌+◌, ◌*◌, List, [], ◌∷◌, ◌++◌, length, Option, Some, None}
use Rattle.kk_source.specs.State.{Value, integer, unit, constant, place}
use Rattle.kk_counted.specs.Heaps.{Heap, count_at, set_count, dup_all, fields_held, weight}

-- how many of the turns are taken
abbrev pub turns_taken : ℕ → List Value → Heap → ℕ
turns_taken turns [] heap = 0
turns_taken zero (v ∷ vs) heap = 0
turns_taken (suc turns) (integer n ∷ vs) heap = suc (turns_taken turns vs heap)
turns_taken (suc turns) (unit ∷ vs) heap = suc (turns_taken turns vs heap)
turns_taken (suc turns) (constant c ∷ vs) heap = suc (turns_taken turns vs heap)
turns_taken (suc turns) (place at ∷ vs) heap =
    elim (count_at heap at) [
      | zero ↦ 1
      | suc count ↦ elim count [
        | zero ↦ suc (turns_taken turns (fields_held heap at ++ vs) (set_count at 0 heap))
        | suc others ↦ suc (turns_taken turns vs (set_count at (suc others) heap))
      ]
    ]

abbrev pub drop_turns : Value → Heap → ℕ
drop_turns v heap = turns_taken (suc (weight heap)) (v ∷ []) heap

-- a price for each owned variable and one for each field of a counted cell
abbrev pub saved : List ℕ → Heap → ℕ
saved owned heap = 32 * length owned + 16 * weight heap

-- an opening drops its cell when the used fields have got a reference more
abbrev pub turns_if : Value → Option Heap → ℕ
turns_if v None = 0
turns_if v (Some heap) = drop_turns v heap

abbrev pub opening_turns : ℕ → List Value → Heap → ℕ
opening_turns at used heap = turns_if (place at) (dup_all used heap)
