-- The pool of numbered cells. Cells are named by the order in which they were made, without end; each name in use, which is that of
-- a counted cell or of a token, is assigned a cell of the pool of its own. The other cells of the pool are free.
use Rattle.std.specs.Prelude.{◌≡◌, ℕ, zero, suc, ◌+◌, ◌≤◌, ◌<◌, ◌==◌, ◌&&◌, Bool, true, false, List, ◌∷◌, length, Option, Some, None, if◌then◌else◌}
use Rattle.kk_source.specs.State.{Value, Cell}
use Rattle.kk_source.specs.Live.{counted as number_of}
use Rattle.kk_counted.specs.Heaps.{Held, Heap, held_at, busy}
use Rattle.kk_counted.specs.References.{cells_of}
use Rattle.kk_counted.specs.Tokens.{Mark, plain, token_of, marked}
use Rattle.kk_counted.specs.TokenStates.{TokenConfiguration}

-- a cell of the pool: free; the token of a slot of a frame, with the values of its fields; or counted
pub data Numbered : Type 0 where
  free : Numbered
  token : (frame : ℕ) → (slot : ℕ) → (values : List Value) → Numbered
  counted : (count : ℕ) → (cell : Cell) → Numbered

abbrev pub is_used : Numbered → Bool
is_used free = false
is_used _ = true

-- what a name names, by its count and its mark
abbrev pub by_count : ℕ → Cell → Mark → Numbered
by_count (suc count) cell mark = counted (suc count) cell
by_count zero cell (token_of f y) = token f y cell.fields
by_count zero cell plain = free

abbrev pub by_held : Option Held → Mark → Numbered
by_held None mark = free
by_held (Some held) mark = by_count held.count held.cell mark

abbrev pub named : Heap → (ℕ → Mark) → ℕ → Numbered
named heap marks p = by_held (held_at heap p) (marks p)

-- a name is in use: its cell is counted or is a token
abbrev pub is_alive : Heap → (ℕ → Mark) → ℕ → Bool
is_alive heap marks p = is_used (named heap marks p)

-- each name in use is assigned a cell of the pool, and no two the same
pub record IsPlaced (cells : ℕ) (assigned : ℕ → ℕ) (heap : Heap) (marks : ℕ → Mark) : Type 0 where
  pub within : (p : ℕ) → is_alive heap marks p ≡ true → assigned p < cells
  pub own : (p q : ℕ) → is_alive heap marks p ≡ true → is_alive heap marks q ≡ true → assigned p ≡ assigned q → p ≡ q

-- the pool, by the first so many names, and by all
abbrev pub numbered_by : (ℕ → ℕ) → Heap → (ℕ → Mark) → ℕ → ℕ → Numbered
numbered_by assigned heap marks zero c = free
numbered_by assigned heap marks (suc n) c =
    if is_alive heap marks n && (assigned n == c) then named heap marks n else numbered_by assigned heap marks n c

abbrev pub numbered : (ℕ → ℕ) → Heap → (ℕ → Mark) → ℕ → Numbered
numbered assigned heap marks c = numbered_by assigned heap marks (length heap) c

-- The pool that an assignment gives: the cell of a name in use is what the name names, any other is free, and those that are not
-- free are as many as are counted or are tokens.
pub record IsPool (cells : ℕ) (assigned : ℕ → ℕ) (heap : Heap) (marks : ℕ → Mark) : Type 0 where
  pub names : (p : ℕ) → is_alive heap marks p ≡ true → numbered assigned heap marks (assigned p) ≡ named heap marks p
  pub others : (c : ℕ) → is_used (numbered assigned heap marks c) ≡ true
      → (p : ℕ) × ((is_alive heap marks p ≡ true) × (assigned p ≡ c))
  pub number : number_of (λ c. is_used (numbered assigned heap marks c)) cells ≡ busy heap + marked marks (length heap)

-- the assignment of a new name to a cell
abbrev pub assigned_with : ℕ → ℕ → (ℕ → ℕ) → ℕ → ℕ
assigned_with n c assigned p = if p == n then c else assigned p

-- What a step does to the names. stays: none is new, all cells have the constructors and the fields that they had, and the names
-- in use were so before. grows: the next name is that of a new cell; of the others those in use were so before, and without it a
-- cell of the pool is free.
pub data Growth (cells : ℕ) (from to : TokenConfiguration) : Type 0 where
  stays : cells_of to.heap ≡ cells_of from.heap → ((p : ℕ) → is_alive to.heap to.tokens.marks p ≡ true
      → is_alive from.heap from.tokens.marks p ≡ true)
      → Growth cells from to
  grows : (held : Held) → to.heap ≡ record held { count = 1 } ∷ from.heap
      → ((p : ℕ) → is_alive from.heap to.tokens.marks p ≡ true → is_alive from.heap from.tokens.marks p ≡ true)
      → suc (busy from.heap + marked to.tokens.marks (length from.heap)) ≤ cells → Growth cells from to

-- After a step the names have their cells, those in use before the same ones; a new name may have any cell that is free.
pub data Placing (cells : ℕ) (assigned : ℕ → ℕ) (from to : TokenConfiguration) : Type 0 where
  same : IsPlaced cells assigned to.heap to.tokens.marks → Placing cells assigned from to
  new : ((c : ℕ) → c < cells → is_used (numbered assigned from.heap to.tokens.marks c) ≡ false
      → IsPlaced cells (assigned_with (length from.heap) c assigned) to.heap to.tokens.marks)
      → (c : ℕ) × ((c < cells) × (is_used (numbered assigned from.heap to.tokens.marks c) ≡ false))
      → Placing cells assigned from to
