-- What operations on cells come to, where the cells hold a counted heap.
use Rattle.std.specs.Prelude.{◌≡◌, ℕ, ◌+◌, ◌*◌, ◌≤◌, Option, Some, true, false}
use Rattle.cell_heap.specs.Pool.{Pool}
use Rattle.cell_heap.specs.Turns.{Work}
use Rattle.cell_heap.specs.Blocks.{Cells, nothing, request, dup, hold, unhold, past_links, release, drop_cells, merged_cells}
use Rattle.cell_runtime.specs.Drops.{given_cost, freed_cost}
use Rattle.kk_source.specs.State.{Value}
use Rattle.kk_counted.specs.Heaps.{Heap, busy, weight}
use Rattle.kk_counted.specs.Cost.{drop_turns}
use Rattle.rv_cells.specs.Layout.{Layout, word_in}
use Rattle.rv_cells.specs.CountedCells.{Owner, nobody, in_hand, kept_aside, Follows, with_owner, still}

-- a request is served by a free cell, which is in hand then
pub record Served (pool : Pool) (layout : Layout) (address : ℕ → ℕ) (owners : ℕ → Owner) (heap : Heap) (cells : Cells)
    (top : Option ℕ) : Type 0 where
  pub at : ℕ
  pub next : Cells
  pub is : request pool top cells ≡ Some (at, next, false)
  pub free : owners at ≡ nobody
  pub holds : Follows pool layout address (with_owner at (in_hand nothing) owners) heap next

-- a request is served by a cell on the chain of held tokens, which is in hand then
pub record ServedByHeld (pool : Pool) (layout : Layout) (address : ℕ → ℕ) (owners : ℕ → Owner) (heap : Heap) (cells : Cells)
    (at : ℕ) : Type 0 where
  pub next : Cells
  pub is : request pool (Some at) cells ≡ Some (at, next, true)
  pub holds : Follows pool layout address (with_owner at (in_hand nothing) owners) heap next

-- a cell in hand was put on the chain of held tokens
pub record PutAside (pool : Pool) (layout : Layout) (address : ℕ → ℕ) (owners : ℕ → Owner) (heap : Heap) (cells : Cells)
    (at : ℕ) (words : ℕ → Option ℕ) : Type 0 where
  pub now : Cells
  pub is : hold at cells ≡ Some now
  pub holds : Follows pool layout address (with_owner at (kept_aside words) owners) heap now

-- A cell was taken back from the chain of held tokens, and is in hand. Its first two words are not known any more.
pub record TakenBack (pool : Pool) (layout : Layout) (address : ℕ → ℕ) (owners : ℕ → Owner) (heap : Heap) (cells : Cells)
    (at : ℕ) (words : ℕ → Option ℕ) : Type 0 where
  pub now : Cells
  pub is : unhold at cells ≡ Some now
  pub holds : Follows pool layout address (with_owner at (in_hand (past_links words)) owners) heap now

-- a value got a reference more, and the cells hold the heap that is left
pub record Dupped (pool : Pool) (layout : Layout) (address : ℕ → ℕ) (owners : ℕ → Owner) (next : Heap) (cells : Cells)
    (v : Value) : Type 0 where
  pub now : Cells
  pub is : dup (word_in layout address v) cells ≡ Some now
  pub holds : Follows pool layout address owners next now

-- A reference of a value was given up in the turns of the runtime's routine. It gives up no more references than the heap does,
-- and frees as many cells.
pub record Dropped (pool : Pool) (layout : Layout) (address : ℕ → ℕ) (owners : ℕ → Owner) (heap next : Heap) (cells : Cells)
    (v : Value) : Type 0 where
  pub work : Work
  pub is : drop_cells pool (word_in layout address v) cells ≡ Some work
  pub holds : Follows pool layout address (λ x. still next (owners x)) next (merged_cells work cells)
  pub few : work.gave ≤ drop_turns v heap
  pub freed : work.freed + busy next ≡ busy heap

-- what the heap has saved pays for the routine, but for one reference
abbrev pub IsPaid : Heap → Heap → Work → Type 0
IsPaid heap next work =
    given_cost * work.gave + freed_cost * work.freed + (freed_cost * busy next + given_cost * weight next)
    ≤ given_cost + (freed_cost * busy heap + given_cost * weight heap)

-- a cell in hand was given back
pub record Released (pool : Pool) (layout : Layout) (address : ℕ → ℕ) (owners : ℕ → Owner) (heap : Heap) (cells : Cells)
    (at : ℕ) : Type 0 where
  pub now : Cells
  pub is : release at cells ≡ Some now
  pub holds : Follows pool layout address (with_owner at nobody owners) heap now
