-- Words that are apart from each free cell: those behind the cells, those of tokens, and those of the program's own blocks.
use Rattle.std.proofs.Common.{◌≡◌, ◌≢◌, ◌≤◌, ◌⊎◌, inl, inr, ℕ, ◌+◌, List, [], ◌∷◌, All, refl, sym, ap, ◌∙◌, arith}
use Rattle.std.proofs.lemmas.Bool.{cases_lt}
use Rattle.std.proofs.lemmas.List.Elements.{All-nil, All-cons}
use Rattle.rv_isa.specs.Bytes.{Apart}
use Rattle.rv_isa.specs.FreeCells.{free_list}
use Rattle.rv_isa.specs.Processor.{Processor}
use Rattle.cell_heap.specs.Cells.{Cell, no_cell, free, token, waiting, counted, occurs}
use Rattle.cell_heap.specs.Pool.{Pool, end_of}
use Rattle.cell_heap.specs.View.{Link, View}
use Rattle.cell_heap.specs.Memory.{Memory}
use Rattle.cell_heap.specs.Blocks.{Cells, seen_cells}
use Rattle.cell_heap.specs.ProgramMemory.{HoldsCells}
use Rattle.cell_heap.proofs.Sums.{occurs-first, occurs-later}
use Rattle.cell_heap.proofs.Frames.{shown-cell, cell-inside}
use Rattle.cell_heap.proofs.FreeCells.{free_list-lists}
use Rattle.rv_place.proofs.InstructionExecution.{MissesFree}

-- what holds of each member of a list
all_members : (P : ℕ → Type 0) (xs : List ℕ) → ((x : ℕ) → occurs x xs ≢ 0 → P x) → All P xs
all_members P [] each = All-nil P
all_members P (x ∷ xs) each =
    All-cons P x xs (each x (occurs-first x xs)) (all_members P xs (λ y some. each y (occurs-later y x xs some)))

free_or_other : (cell : Cell) → (cell ≡ free) ⊎ (cell ≢ free)
free_or_other no_cell = inr (λ e. cc)
free_or_other free = inl refl
free_or_other (token fields) = inr (λ e. cc)
free_or_other (waiting body) = inr (λ e. cc)
free_or_other (counted count body) = inr (λ e. cc)

token_not_free : (fields : List ℕ) → token fields ≢ free
token_not_free fields e = cc

-- what holds of each free cell of a view holds of each that is listed
each_free : (pool : Pool) (view : View) (s : Processor) → Memory pool view s → (P : ℕ → Type 0)
    → ((x : ℕ) → view.heap x ≡ free → P x) → All P (free_list pool.cells s)
each_free pool view s memory P each =
    let lists = free_list-lists pool view s memory in
    all_members P (free_list pool.cells s)
    (λ x some. elim (free_or_other (view.heap x)) [ inl is ↦ each x is | inr other ↦ absurd (some (lists.no_other x other)) ])

-- a word of a cell that is a token
pub token_misses : {pool : Pool} {view : View} {s : Processor} → Memory pool view s → (at to : ℕ) (fields : List ℕ)
    → view.heap at ≡ token fields → at ≤ to → to + 4 ≤ at + 32 → MissesFree pool.cells s to
token_misses {pool} {view} {s} memory at to fields is low high =
    let cell = shown-cell memory.shown at (token fields) is (λ e. cc) in
    each_free pool view s memory (λ x. Apart to 4 x 32)
    (λ x is_free.
    let other = shown-cell memory.shown x free is_free (λ e. cc) in
    let differ : x ≢ at = λ e. token_not_free fields (sym is ∙ ap view.heap (sym e) ∙ is_free) in
    let whole = cell.aligned in
    let other_whole = other.aligned in
    elim (cases_lt at x) [ inl below ↦ inr (omega arith) | inr above ↦ inl (omega arith) ])

module _ {pool : Pool} {cells : Cells} {links : List Link} {s : Processor} (holds : HoldsCells pool cells links s) where
  -- a word behind the cells
  pub behind_misses : (at : ℕ) → end_of pool ≤ at → MissesFree pool.cells s at
  behind_misses at behind =
      each_free pool _ s holds.memory (λ x. Apart at 4 x 32)
      (λ x is.
      let inside = cell-inside pool x holds.memory.usable.aligned (shown-cell holds.memory.shown x free is (λ e. cc)) in
      inl (omega arith))

  -- a word that is apart from each free cell
  pub apart_misses : (at : ℕ) → ((x : ℕ) → seen_cells cells x ≡ free → (at + 4 ≤ x) ⊎ (x + 32 ≤ at)) → MissesFree pool.cells s at
  apart_misses at apart =
      each_free pool _ s holds.memory (λ x. Apart at 4 x 32)
      (λ x is. elim (apart x is) [ inl before ↦ inr before | inr after ↦ inl after ])
