-- Held tokens over a drop: it changes counts alone.
use Rattle.std.proofs.Common.{◌≡◌, ◌≢◌, ◌≤◌, ◌<◌, ℕ, ◌+◌, ◌%◌, ◌⊎◌, inl, inr, List, [], ◌∷◌, refl, sym, ap, ◌∙◌, subst, arith}
use Rattle.std.proofs.lemmas.Bool.{cases_lt}
use Rattle.kk_base.specs.Memory.{Part}
use Rattle.rv_isa.proofs.Memory.{number_at-same}
use Rattle.rv_isa.specs.Numbers.{cell_size}
use Rattle.cell_heap.specs.Cells.{Body, Cell, no_cell, free, token, waiting, counted, Heap}
use Rattle.cell_heap.specs.Pool.{Pool, IsCell}
use Rattle.cell_heap.specs.View.{Link}
use Rattle.cell_heap.specs.Memory.{word, IsShown, IsSlot, IsToken, IsHeldChain, IsNoCount}
use Rattle.cell_heap.proofs.Frames.{shown-cell, IsHeld-cell, slot-apart}
use Rattle.cell_heap.proofs.CountChanges.{counted-some}
use Rattle.cell_heap.proofs.CellsAfterDrop.{IsLeft, IsLeft-kept}

token-counted : (cell : Cell) → IsToken cell → (count : ℕ) (body : Body) → cell ≢ counted count body
token-counted no_cell is_token count body e = is_token
token-counted free is_token count body e = is_token
token-counted (token fields) is_token count body e = cc
token-counted (waiting body) is_token count other e = is_token
token-counted (counted n body) is_token count other e = is_token

module _ {pool : Pool} {old new : ℕ → ℕ} {heap end : Heap} (first_aligned : pool.first % cell_size ≡ 0) (shown : IsShown pool old heap) (left : IsLeft heap end) (others : (x : ℕ) → IsNoCount heap x → new x ≡ old x) where
  -- a word of a cell that is not counted
  apart-cell : (cell at x : ℕ) → IsCell pool cell → IsCell pool at → cell ≢ at → cell ≤ x → x < cell + cell_size
      → (x < at) ⊎ (at + 4 ≤ x)
  apart-cell cell at x is_cell at_cell differ low high =
      let a = is_cell.aligned in
      let b = at_cell.aligned in
      elim (cases_lt cell at) [ inl below ↦ inl (omega arith) | inr above ↦ inr (grind arith) ]

  word-kept : (cell x : ℕ) → IsCell pool cell → ((count : ℕ) (body : Body) → heap cell ≢ counted count body) → cell ≤ x → x + 4 ≤ cell + cell_size → word new x ≡ word old x
  word-kept cell x is_cell other low high =
      number_at-same new old x 4 (λ y from to. others y (λ at count body is.
      apart-cell cell at y is_cell (shown-cell shown at (counted count body) is (counted-some count body))
      (λ e. other count body (ap heap e ∙ is)) (omega arith) (omega arith)))

  slot-kept : (parts : List Part) (slot : ℕ) → IsSlot pool parts slot → word new slot ≡ word old slot
  slot-kept parts slot is_slot =
      number_at-same new old slot 4 (λ y from to. others y (λ at count body is.
      let cell = shown-cell shown at (counted count body) is (counted-some count body) in
      elim (slot-apart pool parts slot at first_aligned is_slot cell) [ inl before ↦ inl (omega arith) | inr behind ↦ inr (omega arith) ]))

  pub IsHeldChain-kept : (parts : List Part) (from : ℕ) (links : List Link) → IsHeldChain pool parts old heap from links → IsHeldChain pool parts new end from links
  IsHeldChain-kept parts from [] chain = chain
  IsHeldChain-kept parts from (link ∷ links) chain =
      let held = chain.1 in
      let cell = IsHeld-cell shown held in
      let other = token-counted (heap link.cell) held.is_token in
      let next : word new link.cell ≡ word old link.cell = word-kept link.cell link.cell cell other (omega arith) (omega arith) in
      let rest = IsHeldChain-kept parts (word old link.cell) links chain.4 in (
        chain.0,
        record {
          is_token = subst IsToken (sym (IsLeft-kept left link.cell (heap link.cell) other refl)) held.is_token;
          is_slot = held.is_slot;
          names_slot = word-kept link.cell (link.cell + 4) cell other (omega arith) (omega arith) ∙ held.names_slot;
          is_in_slot = slot-kept parts link.slot held.is_slot ∙ held.is_in_slot;
        },
        chain.2,
        chain.3,
        subst (λ w. IsHeldChain pool parts new end w links) (sym next) rest,
      )
