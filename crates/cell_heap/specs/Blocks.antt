-- The cells of a program as its code may see them: for each a block of eight words, of which some are known.
use Rattle.std.specs.Prelude.{ℕ, zero, suc, ◌+◌, ◌/◌, ◌%◌, ◌^◌, List, [], ◌∷◌, Option, Some, None, option_map, Bool, true, false, ◌&&◌, if◌then◌else◌, nat_eq, nat_le, nat_lt, length}
use Rattle.rv_isa.specs.Arithmetic.{sum_word}
use Rattle.rv_isa.specs.Numbers.{cell_size}
use Rattle.cell_heap.specs.Cells.{Cell, no_cell, free, token, counted, Heap}
use Rattle.cell_heap.specs.Pool.{Pool, end_of, places}
use Rattle.cell_heap.specs.Counts.{credit}
use Rattle.cell_heap.specs.Turns.{Work, work_of, turns}
use Rattle.cell_heap.specs.View.{Link, View}

-- what is at an address: no cell; a free cell; a block of the program's own, with the words of it that are known; or a token on the held chain, of
-- which words 0 and 1 are the chain's
pub data Block : Type 0 where
  no_block : Block
  unused : Block
  own : (words : ℕ → Option ℕ) → Block
  kept : (words : ℕ → Option ℕ) → Block

-- the blocks by their addresses; the chain of the cells that were given back, the next one to be taken first; and the first cell that was never
-- used, or the end of all cells
pub record Cells : Type 0 where
  pub blocks : ℕ → Block
  pub frees : List ℕ
  pub border : ℕ

abbrev pub with_block : ℕ → Block → Cells → Cells
with_block at block cells = record cells { blocks = λ x. if nat_eq x at then block else cells.blocks x }

-- the cells of a pool of which none was ever used
abbrev pub unused_cells : Pool → Cells
unused_cells pool = record {
  blocks = λ at. if nat_le pool.first at && nat_lt at (end_of pool) && nat_eq (at % cell_size) 0 then unused else no_block;
  frees = [];
  border = pool.first;
}

-- ---- words

-- no word is known
abbrev pub nothing : ℕ → Option ℕ
nothing i = None

abbrev pub with_word : ℕ → ℕ → (ℕ → Option ℕ) → ℕ → Option ℕ
with_word i word words j = if nat_eq j i then Some word else words j

-- which word of a block is so many bytes from its begin
abbrev pub index_of : ℕ → Option ℕ
index_of offset = if nat_eq (offset % 4) 0 && nat_lt offset cell_size then Some (offset / 4) else None

-- words of the program's own blocks alone are loaded, where they are known, and stored
abbrev pub word_in : Block → Option ℕ → Option ℕ
word_in (own words) (Some i) = words i
word_in _ _ = None

abbrev pub load : ℕ → ℕ → Cells → Option ℕ
load at offset cells = word_in (cells.blocks at) (index_of offset)

abbrev pub stored_in : Block → Option ℕ → ℕ → Option Block
stored_in (own words) (Some i) word = Some (own (with_word i word words))
stored_in _ _ word = None

abbrev pub store : ℕ → ℕ → ℕ → Cells → Option Cells
store at offset word cells =
    option_map (λ block. with_block at block cells) (stored_in (cells.blocks at) (index_of offset) word)

-- the count of a cell is raised
abbrev pub raised : ℕ → Option ℕ → Cells → Option Cells
raised at None cells = None
raised at (Some count) cells = store at 0 (sum_word count 1) cells

-- the count of the cell of a reference, of which an odd one names none
abbrev pub dup : ℕ → Cells → Option Cells
dup reference cells = if nat_eq (reference % 2) 1 then Some cells else raised reference (load reference 0 cells) cells

-- ---- requests

-- a cell is the program's own, of which nothing is known
abbrev pub takes : ℕ → List ℕ → ℕ → Cells → Cells
takes at frees border cells = with_block at (own nothing) (record cells { frees = frees; border = border })

-- A request is served by the first cell of the chain, else by the first cell that was never used, else by the newest held token. The cell, the
-- cells then, and whether it was the held token.
abbrev pub request_by : Pool → List ℕ → Option ℕ → Cells → Option (ℕ × Cells × Bool)
request_by pool (at ∷ frees) top cells = Some (at, takes at frees cells.border cells, false)
request_by pool [] top cells =
    if nat_lt cells.border (end_of pool) then Some (cells.border, takes cells.border [] (cells.border + cell_size) cells, false)
    else option_map (λ at. (at, takes at [] cells.border cells, true)) top

abbrev pub request : Pool → Option ℕ → Cells → Option (ℕ × Cells × Bool)
request pool top cells = request_by pool cells.frees top cells

-- ---- tokens

abbrev pub held_as : Block → Option Block
held_as (own words) = Some (kept words)
held_as _ = None

-- words 0 and 1 are not known any more
abbrev pub past_links : (ℕ → Option ℕ) → ℕ → Option ℕ
past_links words i = if nat_lt i 2 then None else words i

abbrev pub unheld_as : Block → Option Block
unheld_as (kept words) = Some (own (past_links words))
unheld_as _ = None

-- a token is put on the held chain, and taken off
abbrev pub hold : ℕ → Cells → Option Cells
hold at cells = option_map (λ block. with_block at block cells) (held_as (cells.blocks at))

abbrev pub unhold : ℕ → Cells → Option Cells
unhold at cells = option_map (λ block. with_block at block cells) (unheld_as (cells.blocks at))

abbrev pub freed_as : Block → Option Block
freed_as (own words) = Some unused
freed_as _ = None

-- a token is freed, and is the first of the chain
abbrev pub release : ℕ → Cells → Option Cells
release at cells =
    option_map (λ block. with_block at block (record cells { frees = at ∷ cells.frees })) (freed_as (cells.blocks at))

-- ---- what a reader sees of blocks

abbrev pub known_then : Option ℕ → List ℕ → List ℕ
known_then None words = []
known_then (Some word) words = word ∷ words

-- the words that are known from one on, up to the first that is not, at most so many
abbrev pub known_from : (ℕ → Option ℕ) → ℕ → ℕ → List ℕ
known_from words i zero = []
known_from words i (suc n) = known_then (words i) (known_from words (suc i) n)

abbrev pub fields_of : (ℕ → Option ℕ) → List ℕ
fields_of words = known_from words 2 6

-- a counted cell where count and header are known, and each field that the mask names; else a token
abbrev pub seen_with : Option ℕ → Option ℕ → List ℕ → Cell
seen_with (Some count) (Some header) fields =
    if nat_lt (header / 256) (2 ^ length fields) then counted count (record { tag = header % 256; mask = header / 256; fields = fields }) else token fields
seen_with _ _ fields = token fields

abbrev pub seen : Block → Cell
seen no_block = no_cell
seen unused = free
seen (own words) = seen_with (words 0) (words 1) (fields_of words)
seen (kept words) = token (fields_of words)

abbrev pub seen_cells : Cells → Heap
seen_cells cells at = seen (cells.blocks at)

abbrev pub view_of : Cells → List Link → View
view_of cells links = record { heap = seen_cells cells; frees = cells.frees; border = cells.border; held = links }

-- ---- giving up a reference

-- a block once its cell was lowered or freed
abbrev pub merged : Cell → Block → Block
merged (counted count body) (own words) = own (with_word 0 count words)
merged free block = unused
merged _ block = block

abbrev pub merged_cells : Work → Cells → Cells
merged_cells work cells = record { blocks = λ at. merged (work.heap at) (cells.blocks at); frees = work.frees; border = cells.border }

-- a reference is given up, in the turns of the runtime's routine; none where one of them cannot be taken
abbrev pub drop_cells : Pool → ℕ → Cells → Option Work
drop_cells pool reference cells =
    turns (2 + credit 1 1 (places pool) (seen_cells cells)) (work_of (reference ∷ []) cells.frees (seen_cells cells))

abbrev pub dropped : Pool → ℕ → Cells → Option Cells
dropped pool reference cells = option_map (λ work. merged_cells work cells) (drop_cells pool reference cells)
