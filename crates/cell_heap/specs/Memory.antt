-- The cells in a machine's memory. A cell has eight words:
--
-- | Word | Counted                                         | Free              | Held token                     |
-- | 0    | number of owning references                     | next free cell, 0 | next held cell, or 0           |
-- | 1    | tag in bits 0 to 7, field mask in bits 8 to 13  | unsaid            | address of the frame's slot    |
-- | 2 to 7 | fields 1 to 6                                 | unsaid            | fields as they were when it was opened |
--
-- x8 has the first free cell of the chain, or 0; x9 the newest held token, or 0; x18 and x19 bound the cells that were never used, of which no
-- word is said.
use Rattle.std.specs.Prelude.{◌≡◌, ◌≢◌, ℕ, ◌+◌, ◌*◌, ◌%◌, ◌^◌, ◌<◌, ◌≤◌, ◌⊎◌, List, [], ◌∷◌, map, length, true}
use Rattle.kk_base.specs.Limits.{greatest_of}
use Rattle.kk_base.specs.Memory.{Part}
use Rattle.kk_base.specs.declared.limit.LimitKind.TheVariants.{Fields}
use Rattle.rv_isa.specs.Bytes.{number_at}
use Rattle.rv_isa.specs.Processor.{Processor, value, can_load, can_store}
use Rattle.cell_heap.specs.Cells.{Body, Cell, no_cell, free, token, waiting, counted, Heap, occurs}
use Rattle.cell_heap.specs.Pool.{Pool, end_of, IsCell, IsUsable}
use Rattle.cell_heap.specs.View.{Link, View, HasBorder}

abbrev pub word : (ℕ → ℕ) → ℕ → ℕ
word memory at = number_at memory at 4

-- these words stand one behind the other from an address on
abbrev pub HasWords : (ℕ → ℕ) → ℕ → List ℕ → Type 0
HasWords memory at [] = Unit {0}
HasWords memory at (x ∷ xs) = (word memory at ≡ x) × HasWords memory (at + 4) xs

-- words 1 to 7 of a cell, of which the fields behind those of its constructor are unsaid
pub record HasBody (memory : ℕ → ℕ) (at : ℕ) (body : Body) : Type 0 where
  pub header : word memory (at + 4) ≡ body.tag + 256 * body.mask
  pub tag : body.tag < 256
  pub mask : body.mask < 2 ^ length body.fields
  pub few : length body.fields ≤ greatest_of Fields
  pub fields : HasWords memory (at + 8) body.fields

-- what memory shows of a cell at its address: free cells and held tokens have more to show by their chains
abbrev pub Shows : Pool → (ℕ → ℕ) → ℕ → Cell → Type 0
Shows pool memory at no_cell = IsCell pool at → ⊥
Shows pool memory at free = IsCell pool at
Shows pool memory at (token fields) = IsCell pool at × (length fields ≤ greatest_of Fields) × HasWords memory (at + 8) fields
Shows pool memory at (waiting body) = IsCell pool at × HasBody memory at body
Shows pool memory at (counted count body) =
    IsCell pool at × (word memory at ≡ count) × (count < 2 ^ 32) × HasBody memory at body

pub record IsShown (pool : Pool) (memory : ℕ → ℕ) (heap : Heap) : Type 0 where
  pub cell : (at : ℕ) → Shows pool memory at (heap at)

-- the free cells of the chain, each once, by word 0
abbrev pub IsChain : (ℕ → ℕ) → Heap → ℕ → List ℕ → Type 0
IsChain memory heap at [] = at ≡ 0
IsChain memory heap at (cell ∷ cells) =
    (at ≡ cell) × (heap cell ≡ free) × (occurs cell cells ≡ 0) × IsChain memory heap (word memory cell) cells

-- a slot of a frame: a word outside of the cells
pub record IsSlot (pool : Pool) (parts : List Part) (at : ℕ) : Type 0 where
  pub aligned : at % 4 ≡ 0
  pub below : at + 4 ≤ 2 ^ 32
  pub apart : (at + 4 ≤ pool.first) ⊎ (end_of pool ≤ at)
  pub loads : can_load parts at 4 ≡ true
  pub stores : can_store parts at 4 ≡ true

abbrev pub IsToken : Cell → Type 0
IsToken (token fields) = Unit {0}
IsToken _ = ⊥

-- a token is held by a slot
pub record IsHeld (pool : Pool) (parts : List Part) (memory : ℕ → ℕ) (heap : Heap) (link : Link) : Type 0 where
  pub is_token : IsToken (heap link.cell)
  pub is_slot : IsSlot pool parts link.slot
  pub names_slot : word memory (link.cell + 4) ≡ link.slot
  pub is_in_slot : word memory link.slot ≡ link.cell

-- the held tokens by word 0, each cell and each slot once
abbrev pub IsHeldChain : Pool → List Part → (ℕ → ℕ) → Heap → ℕ → List Link → Type 0
IsHeldChain pool parts memory heap at [] = at ≡ 0
IsHeldChain pool parts memory heap at (link ∷ links) =
    (at ≡ link.cell) × IsHeld pool parts memory heap link
    × (occurs link.cell (map (λ l. l.cell) links) ≡ 0) × (occurs link.slot (map (λ l. l.slot) links) ≡ 0)
    × IsHeldChain pool parts memory heap (word memory link.cell) links

-- the machine's memory and registers have the cells of the view, as at each moment outside of the runtime's routines
pub record Memory (pool : Pool) (view : View) (s : Processor) : Type 0 where
  pub usable : IsUsable pool s.parts
  pub shown : IsShown pool s.memory view.heap
  pub settled : (at : ℕ) (body : Body) → view.heap at ≢ waiting body
  pub chain : IsChain s.memory view.heap (value s.registers 8) view.frees
  pub held : IsHeldChain pool s.parts s.memory view.heap (value s.registers 9) view.held
  pub border : value s.registers 18 ≡ view.border
  pub end : value s.registers 19 ≡ end_of pool
  pub has_border : HasBorder pool view

-- the byte at an address is none of the first word of a counted cell
abbrev pub IsNoCount : Heap → ℕ → Type 0
IsNoCount heap x = (at count : ℕ) (body : Body) → heap at ≡ counted count body → (x < at) ⊎ (at + 4 ≤ x)
