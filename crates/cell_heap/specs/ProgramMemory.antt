-- When a machine's memory has the blocks of a program.
use Rattle.std.specs.Prelude.{◌≡◌, ℕ, ◌+◌, ◌*◌, ◌%◌, ◌^◌, ◌<◌, ◌≤◌, ◌⊎◌, List, map, Option, Some, true}
use Rattle.rv_isa.specs.Numbers.{cell_words, cell_size}
use Rattle.rv_isa.specs.Processor.{Processor, value, can_load, can_store}
use Rattle.cell_heap.specs.Cells.{free, occurs}
use Rattle.cell_heap.specs.Pool.{Pool}
use Rattle.cell_heap.specs.View.{Link}
use Rattle.cell_heap.specs.Memory.{word, Memory}
use Rattle.cell_heap.specs.Blocks.{Block, no_block, unused, own, kept, Cells, seen_cells, view_of}

-- the words that are known from one on stand in memory
abbrev pub AreKnown : (ℕ → ℕ) → ℕ → ℕ → (ℕ → Option ℕ) → Type 0
AreKnown memory at first words =
    (i w : ℕ) → first ≤ i → i < cell_words → words i ≡ Some w → (word memory (at + 4 * i) ≡ w) × (w < 2 ^ 32)

-- of a token on the held chain words 0 and 1 are not said
abbrev pub IsKnown : (ℕ → ℕ) → ℕ → Block → Type 0
IsKnown memory at no_block = Unit {0}
IsKnown memory at unused = Unit {0}
IsKnown memory at (own words) = AreKnown memory at 0 words
IsKnown memory at (kept words) = AreKnown memory at 2 words

abbrev pub IsOwnBlock : Block → Type 0
IsOwnBlock (own words) = Unit {0}
IsOwnBlock _ = ⊥

-- memory has the cells that a reader sees of the blocks, and their known words; and the held tokens are no blocks of the program's own
pub record HoldsCells (pool : Pool) (cells : Cells) (links : List Link) (s : Processor) : Type 0 where
  pub memory : Memory pool (view_of cells links) s
  pub known : (at : ℕ) → IsKnown s.memory at (cells.blocks at)
  pub apart : (at : ℕ) → IsOwnBlock (cells.blocks at) → occurs at (map (λ link. link.cell) links) ≡ 0

-- the registers of the chains and the border, and the parts, are the same
pub record SameRoots (s t : Processor) : Type 0 where
  pub parts : t.parts ≡ s.parts
  pub chain : value t.registers 8 ≡ value s.registers 8
  pub held : value t.registers 9 ≡ value s.registers 9
  pub border : value t.registers 18 ≡ value s.registers 18
  pub end : value t.registers 19 ≡ value s.registers 19

-- a word of a block of the program's own, so many bytes from its begin: it may be loaded and stored, and no byte of it is one of a free cell
pub record IsOwnWord (cells : Cells) (at offset : ℕ) (s : Processor) : Type 0 where
  pub within : offset + 4 ≤ cell_size
  pub aligned : (at + offset) % 4 ≡ 0
  pub loads : can_load s.parts (at + offset) 4 ≡ true
  pub stores : can_store s.parts (at + offset) 4 ≡ true
  pub no_free : (x : ℕ) → seen_cells cells x ≡ free → (at + offset + 4 ≤ x) ⊎ (x + cell_size ≤ at + offset)
