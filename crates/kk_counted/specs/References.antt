-- What a sound heap is: its counts are the numbers of the references that own its cells, and its cells name older ones. So a
-- heap is a function of its cells and of the references to them from outside.
use Rattle.std.specs.Prelude.{◌≡◌, ℕ, zero, suc, ◌+◌, ◌≤◌, ◌==◌, List, [], ◌∷◌, ◌++◌, length, if◌then◌else◌}
use Rattle.kk_source.specs.State.{Value, place, Cell}
use Rattle.kk_source.specs.Sound.{AllWithin}
use Rattle.kk_counted.specs.Heaps.{Heap, count_at, fields_held}

-- how often values name a place
abbrev pub refs_of : Value → ℕ → ℕ
refs_of (place other) at = if other == at then 1 else 0
refs_of _ at = 0

abbrev pub refs : List Value → ℕ → ℕ
refs [] at = 0
refs (v ∷ vs) at = refs_of v at + refs vs at

-- the fields of the cells that are counted
abbrev pub fields_if : ℕ → List Value → List Value
fields_if zero fields = []
fields_if (suc count) fields = fields

abbrev pub counted_fields : Heap → List Value
counted_fields [] = []
counted_fields (held ∷ heap) = fields_if held.count held.cell.fields ++ counted_fields heap

-- each count is the number of references to the cell: those from outside, and those in the fields of counted cells
abbrev pub Counts : (ℕ → ℕ) → Heap → Type 0
Counts outside heap = (at : ℕ) → count_at heap at ≡ outside at + refs (counted_fields heap) at

-- A heap is sound over the values by which it is owned from outside. So a reference that owns a cell names one that is
-- counted; and fields form no cycle.
pub record IsSound (owned : List Value) (heap : Heap) : Type 0 where
  pub counts : Counts (refs owned) heap
  pub older : (at : ℕ) → AllWithin at (fields_held heap at)

-- a value that may be used: it names no cell, or one that is counted
abbrev pub IsCounted : Heap → Value → Type 0
IsCounted heap (place at) = 1 ≤ count_at heap at
IsCounted heap _ = Unit {0}

-- ---- the heap as a function

-- the cells of a heap, the newest first
abbrev pub cells_of : Heap → List Cell
cells_of [] = []
cells_of (held ∷ heap) = held.cell ∷ cells_of heap

-- each cell names older ones
abbrev pub AreOlder : List Cell → Type 0
AreOlder [] = Unit {0}
AreOlder (cell ∷ cells) = AllWithin (length cells) cell.fields × AreOlder cells

-- the references to older cells, with those of a cell of that count
abbrev pub spread : ℕ → List Value → (ℕ → ℕ) → ℕ → ℕ
spread count fields outside at = refs (fields_if count fields) at + outside at

-- the heap of these cells, the newest first, by the references from outside
abbrev pub counted : (ℕ → ℕ) → List Cell → Heap
counted outside [] = []
counted outside (cell ∷ cells) =
    record { count = outside (length cells); cell = cell } ∷ counted (spread (outside (length cells)) cell.fields outside) cells
