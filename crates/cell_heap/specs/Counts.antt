-- When the counts of cells are right, and when no cell can be reached from itself.
use Rattle.std.specs.Prelude.{◌≡◌, ◌≢◌, ℕ, ◌+◌, ◌*◌, ◌%◌, ◌<◌, List, [], ◌∷◌, length}
use Rattle.cell_heap.specs.Cells.{Body, Cell, waiting, counted, Heap, owned, occurs}

abbrev pub count_of : Cell → ℕ
count_of (counted count body) = count
count_of _ = 0

abbrev pub total : (ℕ → ℕ) → List ℕ → ℕ
total f [] = 0
total f (x ∷ xs) = f x + total f xs

-- how many references to an address the cells at these places own
abbrev pub references_to : ℕ → Heap → List ℕ → ℕ
references_to at heap places = total (λ place. occurs at (owned (heap place))) places

-- each count is the number of the references to its cell: those from outside of the cells (`roots`), those that are about to be given up, and those
-- that cells own. So each of these references names a counted cell. No count is 0
pub record HasCounts (places : List ℕ) (roots : ℕ → ℕ) (given : List ℕ) (heap : Heap) : Type 0 where
  pub right : (at : ℕ) → at % 2 ≡ 0 → count_of (heap at) ≡ roots at + occurs at given + references_to at heap places
  pub some : (at count : ℕ) (body : Body) → heap at ≡ counted count body → 0 < count

-- no cell can be reached from itself: the references of a cell go to cells of a lower rank
pub record IsAcyclic (heap : Heap) : Type 0 where
  pub rank : ℕ → ℕ
  pub falls : (at to : ℕ) → to % 2 ≡ 0 → occurs to (owned (heap at)) ≢ 0 → rank to < rank at

-- the credit that cells keep for the day on which they are given up: so much a cell, and so much for each reference that it owns. The
-- construction of a cell pays it
abbrev pub credit_of : ℕ → ℕ → Cell → ℕ
credit_of a_cell a_reference (counted count body) = a_cell + a_reference * length (owned (counted count body))
credit_of a_cell a_reference (waiting body) = a_cell + a_reference * length (owned (waiting body))
credit_of a_cell a_reference _ = 0

abbrev pub credit : ℕ → ℕ → List ℕ → Heap → ℕ
credit a_cell a_reference places heap = total (λ place. credit_of a_cell a_reference (heap place)) places
