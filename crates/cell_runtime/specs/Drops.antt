-- The routine that frees a cell whose last reference was given up, and gives up the references in its fields.
use Rattle.std.specs.Prelude.{◌≡◌, ℕ, ◌+◌, ◌*◌, ◌≤◌, List, [], ◌∷◌}
use Rattle.rv_isa.specs.Bytes.{with_number}
use Rattle.rv_isa.specs.Processor.{Processor, value}
use Rattle.rv_isa.specs.Standing.{Code}
use Rattle.cell_heap.specs.Cells.{Body, waiting, counted, Heap, changed}
use Rattle.cell_heap.specs.Pool.{Pool}
use Rattle.cell_heap.specs.View.{View}
use Rattle.cell_heap.specs.Memory.{Memory, IsNoCount}
use Rattle.cell_heap.specs.Turns.{Turns}
use Rattle.rv_isa.specs.declared.routine.Routine.TheVariants.{Drop}
use Rattle.rv_isa.specs.declared.placed.Symbol.TheVariants.{Routine}
use Rattle.cell_runtime.specs.Calls.{IsAt, HasWayBack, Returns}

-- what the turns of a drop come to, from the cells that a reader sees: so many references are given up, so many cells are freed, and these free
-- cells and this heap are left
pub record Dropped : Type 0 where
  pub gave : ℕ
  pub freed : ℕ
  pub frees : List ℕ
  pub heap : Heap

-- the turns from where a cell waits, and no reference is left to be given up
abbrev pub Frees : ℕ → Body → View → Dropped → Type 0
Frees cell body view dropped =
    Turns [] (cell ∷ []) view.frees (changed cell (waiting body) view.heap) dropped.gave dropped.freed dropped.frees dropped.heap

-- The last reference to a cell was given up: its count is lowered from 1 to 0 in a memory that has the cells of the view, and the cell, whose
-- address is in x10, waits. Each turn from there can be taken. The counts of other cells need not be right.
pub record BeforeDrop (pool : Pool) (cell : ℕ) (body : Body) (view : View) (dropped : Dropped) (s : Processor) : Type 0 where
  pub way_back : HasWayBack s
  pub cell_is : value s.registers 10 ≡ cell
  pub last : view.heap cell ≡ counted 1 body
  pub counting : ℕ → ℕ
  pub memory : Memory pool view (record s { memory = counting })
  pub lowered : s.memory ≡ with_number cell 4 0 counting
  pub turns : Frees cell body view dropped

-- the most instructions of a whole drop, but for its call: for each reference that is given up, for each cell that is freed, and once
abbrev pub given_cost : ℕ
given_cost = 8

abbrev pub freed_cost : ℕ
freed_cost = 52

abbrev pub begun_cost : ℕ
begun_cost = 5

abbrev pub most_drop_cost : ℕ → ℕ → ℕ
most_drop_cost gave freed = given_cost * gave + freed_cost * freed + begun_cost

-- the most instructions of the routine: as much for each further reference and for each freed cell, and less once
abbrev pub called_cost : ℕ
called_cost = 3

abbrev pub most_freeing_cost : ℕ → ℕ → ℕ
most_freeing_cost gave freed = given_cost * gave + freed_cost * freed + called_cost

-- The heap and the chain of free cells are exactly those that the turns come to. Border, held tokens and every byte of memory that is none of a
-- count stay. That takes no more instructions than that
pub record AfterDrop (code : Code) (pool : Pool) (view : View) (dropped : Dropped) (s t : Processor) : Type 0 where
  pub count : ℕ
  pub memory : Memory pool (record view { heap = dropped.heap; frees = dropped.frees }) t
  pub returns : Returns code (Routine Drop) count s t
  pub bounded : count ≤ most_freeing_cost dropped.gave dropped.freed
  pub trace : t.trace ≡ s.trace
  pub left : t.left ≡ s.left
  pub others : (x : ℕ) → IsNoCount view.heap x → t.memory x ≡ s.memory x

abbrev pub IsDrop : Code → ℕ → Type 0
IsDrop code at =
    (pool : Pool) (cell : ℕ) (body : Body) (view : View) (dropped : Dropped) (s : Processor) → IsAt code at s
    → BeforeDrop pool cell body view dropped s → (t : Processor) × AfterDrop code pool view dropped s t
