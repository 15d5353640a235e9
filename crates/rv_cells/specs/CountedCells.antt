-- When the cells of a program hold a counted heap: each counted cell stands in a block of its own. Each other block is free, or a
-- cell that is not counted: it is in hand, or held as a token.
use Rattle.std.specs.Prelude.{◌≡◌, ◌≢◌, ℕ, zero, suc, ◌%◌, ◌<◌, ◌≤◌, Bool, true, false, List, [], ◌∷◌, Option, Some, nat_eq, if◌then◌else◌}
use Rattle.rv_isa.specs.Arithmetic.{bit_of}
use Rattle.rv_isa.specs.Numbers.{cell_size}
use Rattle.cell_heap.specs.Cells.{occurs}
use Rattle.cell_heap.specs.Counts.{total}
use Rattle.cell_heap.specs.Pool.{Pool, end_of, IsCell, places}
use Rattle.cell_heap.specs.Blocks.{Block, no_block, unused, own, kept, Cells}
use Rattle.kk_counted.specs.Heaps.{Held, Heap, held_at, count_at}
use Rattle.rv_cells.specs.Layout.{Layout, header_of, words_in, FitFields, first_field}

-- these words are known one behind the other, from one on
abbrev pub AreFrom : (ℕ → Option ℕ) → ℕ → List ℕ → Type 0
AreFrom words i [] = Unit {0}
AreFrom words i (w ∷ ws) = (words i ≡ Some w) × AreFrom words (suc i) ws

-- the words of a block are those of a counted cell
pub record IsBlockOf (layout : Layout) (address : ℕ → ℕ) (held : Held) (words : ℕ → Option ℕ) : Type 0 where
  pub count : words 0 ≡ Some held.count
  pub header : words 1 ≡ Some (header_of layout held.cell.made_by)
  pub fields : AreFrom words first_field (words_in layout address held.cell.fields)
  pub fits : FitFields (layout.fields held.cell.made_by) held.cell.fields

-- What stands at an address: nothing that is used; the counted cell of a name; a cell that was taken, of which words are known,
-- and that is not counted yet; or such a cell on the chain of held tokens, from which a request may take it.
pub data Owner : Type 0 where
  nobody : Owner
  cell_of : (name : ℕ) → Owner
  in_hand : (words : ℕ → Option ℕ) → Owner
  kept_aside : (words : ℕ → Option ℕ) → Owner

-- an address is a cell, and free; or it is none
pub record IsFree (pool : Pool) (at : ℕ) (block : Block) : Type 0 where
  pub free : IsCell pool at → block ≡ unused
  pub none : (IsCell pool at → ⊥) → block ≡ no_block

-- the block at an address is that of the cell of a name, which is counted
pub record IsCellOf (pool : Pool) (layout : Layout) (address : ℕ → ℕ) (heap : Heap) (name at : ℕ) (block : Block) : Type 0 where
  pub cell : IsCell pool at
  pub is_at : address name ≡ at
  pub held : Held
  pub there : held_at heap name ≡ Some held
  pub counted : 1 ≤ held.count
  pub words : ℕ → Option ℕ
  pub is : block ≡ own words
  pub shows : IsBlockOf layout address held words

abbrev pub BlockOf : Pool → Layout → (ℕ → ℕ) → Heap → ℕ → Owner → Block → Type 0
BlockOf pool layout address heap at nobody block = IsFree pool at block
BlockOf pool layout address heap at (cell_of name) block = IsCellOf pool layout address heap name at block
BlockOf pool layout address heap at (in_hand words) block = IsCell pool at × (block ≡ own words)
BlockOf pool layout address heap at (kept_aside words) block = IsCell pool at × (block ≡ kept words)

-- the free blocks are those of the chain, each once, and all cells from the border on
pub record HasChain (pool : Pool) (cells : Cells) : Type 0 where
  pub aligned : cells.border % cell_size ≡ 0
  pub behind : pool.first ≤ cells.border
  pub within : cells.border ≤ end_of pool
  pub fresh : (at : ℕ) → IsCell pool at → cells.border ≤ at → cells.blocks at ≡ unused
  pub chained : (at : ℕ) → cells.blocks at ≡ unused → at < cells.border → occurs at cells.frees ≡ 1
  pub members : (at : ℕ) → occurs at cells.frees ≢ 0 → (cells.blocks at ≡ unused) × (at < cells.border)

-- By the address of each name and by what stands at each address, the cells are those of the heap: each counted name has a cell
-- of its own, whose block is that of the cell.
pub record Follows (pool : Pool) (layout : Layout) (address : ℕ → ℕ) (owners : ℕ → Owner) (heap : Heap)
    (cells : Cells) : Type 0 where
  pub named : (name : ℕ) → 1 ≤ count_at heap name → owners (address name) ≡ cell_of name
  pub blocks : (at : ℕ) → BlockOf pool layout address heap at (owners at) (cells.blocks at)
  pub chain : HasChain pool cells

-- ---- changes

-- another owner of one address
abbrev pub with_owner : ℕ → Owner → (ℕ → Owner) → ℕ → Owner
with_owner at owner owners x = if nat_eq x at then owner else owners x

-- the address of one name
abbrev pub assign : ℕ → ℕ → (ℕ → ℕ) → ℕ → ℕ
assign name at address x = if nat_eq x name then at else address x

-- what stands at an address once counts are those of a later heap
abbrev pub still_count : ℕ → ℕ → Owner
still_count zero name = nobody
still_count (suc k) name = cell_of name

abbrev pub still : Heap → Owner → Owner
still next (cell_of name) = still_count (count_at next name) name
still next owner = owner

-- ---- cells that are taken and not counted

-- a cell is set aside: it is in hand, or on the chain of held tokens
abbrev pub is_aside : Owner → Bool
is_aside (in_hand words) = true
is_aside (kept_aside words) = true
is_aside _ = false

-- how many cells are set aside
abbrev pub set_aside : Pool → (ℕ → Owner) → ℕ
set_aside pool owners = total (λ at. bit_of (is_aside (owners at))) (places pool)

-- no cell is set aside
abbrev pub NoneAside : (ℕ → Owner) → Type 0
NoneAside owners = (at : ℕ) → is_aside (owners at) ≡ false
