-- Heaps of counted cells. Cells are named by the order in which they were made, from 0, and no name is used again: so the
-- values of the core machine and of the counted machine are equal. A cell of count 0 is free; what it held is never read.
use Rattle.std.specs.Prelude.{ℕ, zero, suc, ◌+◌, ◌==◌, List, [], ◌∷◌, ◌++◌, length, Option, Some, None, if◌then◌else◌}
use Rattle.kk_source.specs.State.{Value, integer, unit, constant, place, Cell, Store}
use Rattle.kk_source.specs.Matching.{and_then}

-- a cell and the number of its owning references
pub record Held : Type 0 where
  pub count : ℕ
  pub cell : Cell

-- the newest cell first
abbrev pub Heap : Type 0
Heap = List Held

-- the cells in the order in which they were made, as a store has them
abbrev pub forwards : Heap → Store
forwards [] = []
forwards (held ∷ heap) = forwards heap ++ held.cell ∷ []

abbrev pub held_at : Heap → ℕ → Option Held
held_at [] at = None
held_at (held ∷ heap) at = if length heap == at then Some held else held_at heap at

-- the count of a cell; 0 where there is none
abbrev pub count_in : Option Held → ℕ
count_in None = 0
count_in (Some held) = held.count

abbrev pub count_at : Heap → ℕ → ℕ
count_at heap at = count_in (held_at heap at)

-- a cell that is counted, and so may be read
abbrev pub if_counted : ℕ → Cell → Option Cell
if_counted zero cell = None
if_counted (suc count) cell = Some cell

abbrev pub cell_at : Heap → ℕ → Option Cell
cell_at heap at = and_then (held_at heap at) (λ held. if_counted held.count held.cell)

-- the heap with another count of one cell
abbrev pub set_count : ℕ → ℕ → Heap → Heap
set_count at count [] = []
set_count at count (held ∷ heap) =
    if length heap == at then record held { count = count } ∷ heap else held ∷ set_count at count heap

-- the number of cells that are counted
abbrev pub one_if_counted : ℕ → ℕ
one_if_counted zero = 0
one_if_counted (suc count) = 1

abbrev pub busy : Heap → ℕ
busy [] = 0
busy (held ∷ heap) = one_if_counted held.count + busy heap

-- ---- references more and less; none where a cell is not counted

-- a reference more
abbrev pub more : ℕ → ℕ → Heap → Option Heap
more at zero heap = None
more at (suc count) heap = Some (set_count at (suc (suc count)) heap)

abbrev pub dup_value : Value → Heap → Option Heap
dup_value (place at) heap = more at (count_at heap at) heap
dup_value _ heap = Some heap

abbrev pub dup_all : List Value → Heap → Option Heap
dup_all [] heap = Some heap
dup_all (v ∷ vs) heap = and_then (dup_value v heap) (dup_all vs)

-- the fields of a cell, counted or not
abbrev pub fields_if_held : Option Held → List Value
fields_if_held None = []
fields_if_held (Some held) = held.cell.fields

abbrev pub fields_held : Heap → ℕ → List Value
fields_held heap at = fields_if_held (held_at heap at)

-- the fields of all counted cells, which is how many references can be given up beyond those that are asked for
abbrev pub weight_if : ℕ → List Value → ℕ
weight_if zero fields = 0
weight_if (suc count) fields = length fields

abbrev pub weight : Heap → ℕ
weight [] = 0
weight (held ∷ heap) = weight_if held.count held.cell.fields + weight heap

-- References are given up one after the other, within so many turns. One that is not a cell's last lowers its count; the last
-- one frees the cell, and the references of its fields are given up too.
abbrev pub give_up : ℕ → List Value → Heap → Option Heap
give_up turns [] heap = Some heap
give_up zero (v ∷ vs) heap = None
give_up (suc turns) (integer n ∷ vs) heap = give_up turns vs heap
give_up (suc turns) (unit ∷ vs) heap = give_up turns vs heap
give_up (suc turns) (constant c ∷ vs) heap = give_up turns vs heap
give_up (suc turns) (place at ∷ vs) heap =
    elim (count_at heap at) [
      | zero ↦ None
      | suc count ↦ elim count [
        | zero ↦ give_up turns (fields_held heap at ++ vs) (set_count at 0 heap)
        | suc others ↦ give_up turns vs (set_count at (suc others) heap)
      ]
    ]

-- a drop gives up one reference; there are turns enough for all fields of counted cells
abbrev pub drop_value : Value → Heap → Option Heap
drop_value v heap = give_up (suc (weight heap)) (v ∷ []) heap

abbrev pub drop_all : List Value → Heap → Option Heap
drop_all [] heap = Some heap
drop_all (v ∷ vs) heap = and_then (drop_value v heap) (drop_all vs)
