-- What the hold of a token makes of what memory shows.
use Rattle.std.proofs.Common.{◌≡◌, ◌≢◌, ◌≤◌, ◌<◌, ℕ, ◌+◌, ◌^◌, ◌⊎◌, inl, inr, List, [], ◌∷◌, map, length, refl, sym, ap, ◌∙◌, subst, arith}
use Rattle.kk_base.specs.Limits.{greatest_of}
use Rattle.kk_base.specs.declared.limit.LimitKind.TheVariants.{Fields}
use Rattle.rv_isa.specs.Bytes.{with_number, Apart}
use Rattle.rv_isa.specs.Processor.{Processor, value}
use Rattle.rv_isa.proofs.Memory.{word-same, word-apart}
use Rattle.rv_isa.specs.Numbers.{cell_size}
use Rattle.cell_heap.specs.Cells.{Cell, free, token, Heap, changed, occurs}
use Rattle.cell_heap.specs.Pool.{Pool, IsCell, IsUsable}
use Rattle.cell_heap.specs.View.{Link, View, HasBorder}
use Rattle.cell_heap.specs.Memory.{word, HasWords, IsShown, IsChain, IsSlot, IsToken, IsHeld, IsHeldChain, Memory}
use Rattle.cell_heap.proofs.Sums.{occurs-other}
use Rattle.cell_heap.proofs.Frames.{changed-by, shows-at, shown-cell, SameBut, HasWords-same, IsShown-changed, IsChain-changed}
use Rattle.cell_heap.proofs.Frames.{IsHeldChain-changed, IsHeld-cell, slot-apart, byte-stored_apart}

-- the memory in which a token names the next one and its slot
abbrev pub linked : ℕ → ℕ → ℕ → (ℕ → ℕ) → ℕ → ℕ
linked cell next slot memory = with_number (cell + 4) 4 slot (with_number cell 4 next memory)

module _ (cell next slot : ℕ) (memory : ℕ → ℕ) (next_fits : next < 2 ^ 32) (slot_fits : slot < 2 ^ 32) where
  pub linked-first : word (linked cell next slot memory) cell ≡ next
  linked-first = word-apart (cell + 4) slot (with_number cell 4 next memory) cell (inl (omega arith)) ∙ word-same cell next memory next_fits

  pub linked-second : word (linked cell next slot memory) (cell + 4) ≡ slot
  linked-second = word-same (cell + 4) slot (with_number cell 4 next memory) slot_fits

  linked-apart : (x : ℕ) → (x + 4 ≤ cell) ⊎ (cell + 8 ≤ x) → word (linked cell next slot memory) x ≡ word memory x
  linked-apart x away =
      word-apart (cell + 4) slot (with_number cell 4 next memory) x (second x away) ∙ word-apart cell next memory x (first x away)
    where
      second : (x : ℕ) → (x + 4 ≤ cell) ⊎ (cell + 8 ≤ x) → Apart (cell + 4) 4 x 4
      second x (inl low) = inl (omega arith)
      second x (inr high) = inr (omega arith)

      first : (x : ℕ) → (x + 4 ≤ cell) ⊎ (cell + 8 ≤ x) → Apart cell 4 x 4
      first x (inl low) = inl (omega arith)
      first x (inr high) = inr (omega arith)

  linked-but : SameBut memory (linked cell next slot memory) cell
  linked-but = record { same = λ x away. linked-apart x (nearer x away) }
    where
      nearer : (x : ℕ) → (x + 4 ≤ cell) ⊎ (cell + cell_size ≤ x) → (x + 4 ≤ cell) ⊎ (cell + 8 ≤ x)
      nearer x (inl low) = inl low
      nearer x (inr high) = inr (omega arith)

-- all bytes but those of the first two words stay
pub linked-outside : (cell next slot : ℕ) (memory : ℕ → ℕ) (x : ℕ) → (x < cell) ⊎ (cell + 8 ≤ x)
    → linked cell next slot memory x ≡ memory x
linked-outside cell next slot memory x (inl low) =
    byte-stored_apart (with_number cell 4 next memory) (cell + 4) slot x (inl (omega arith))
    ∙ byte-stored_apart memory cell next x (inl low)
linked-outside cell next slot memory x (inr high) =
    byte-stored_apart (with_number cell 4 next memory) (cell + 4) slot x (inr (omega arith))
    ∙ byte-stored_apart memory cell next x (inr (omega arith))

-- a heap with a cell that it has is that heap
changed-none : (cell : ℕ) (c : Cell) (heap : Heap) → heap cell ≡ c → changed cell c heap ≡ heap
changed-none cell c heap is = λ i x. changed-by (λ d. d ≡ heap x) x cell c heap (λ e. sym is ∙ ap heap (sym e)) (λ differ. refl) i

token-not-free : (fields : List ℕ) → token fields ≢ free
token-not-free fields e = cc

-- the border does not speak of held tokens
border_kept : (pool : Pool) (view : View) (held : List Link) → HasBorder pool view → HasBorder pool (record view { held = held })
border_kept pool view held border = record {
  aligned = border.aligned;
  behind = border.behind;
  within = border.within;
  fresh = border.fresh;
  chained = border.chained;
}

module _ (pool : Pool) (view : View) (s t : Processor) (memory : Memory pool view s) (cell slot : ℕ) (fields : List ℕ) (is_token : view.heap cell ≡ token fields)
    (is_slot : IsSlot pool s.parts slot) (holds : word s.memory slot ≡ cell) (cells_apart : occurs cell (map (λ link. link.cell) view.held) ≡ 0) (slots_apart : occurs slot (map (λ link. link.slot) view.held) ≡ 0)
    (next_fits : value s.registers 9 < 2 ^ 32) (stored : t.memory ≡ linked cell (value s.registers 9) slot s.memory) (parts : t.parts ≡ s.parts) where
  pub token_cell : IsCell pool cell
  token_cell = shown-cell memory.shown cell (token fields) is_token (λ e. cc)

  but : SameBut s.memory t.memory cell
  but = rw stored (linked-but cell (value s.registers 9) slot s.memory next_fits (omega (arith, is_slot.below)))

  shows : IsCell pool cell × (length fields ≤ greatest_of Fields) × HasWords t.memory (cell + 8) fields
  shows =
      let old = shows-at memory.shown cell (token fields) is_token in
      let few = old.1 in (
        token_cell,
        old.1,
        HasWords-same s.memory t.memory (cell + 8) (cell + cell_size) fields record {
          same = λ x low high.
              ap (λ m. word m x) stored ∙ linked-apart cell (value s.registers 9) slot s.memory next_fits (omega (arith, is_slot.below)) x (inr low);
        } (omega arith) old.2,
      )

  same_heap : changed cell (token fields) view.heap ≡ view.heap
  same_heap = changed-none cell (token fields) view.heap is_token

  not_chained : (from : ℕ) (frees : List ℕ) → IsChain s.memory view.heap from frees → occurs cell frees ≡ 0
  not_chained from [] chain = refl
  not_chained from (first ∷ frees) chain =
      let differ : cell ≢ first = λ e. token-not-free fields (sym is_token ∙ ap view.heap e ∙ chain.1) in
      occurs-other cell first frees differ ∙ not_chained (word s.memory first) frees chain.3

  links_kept : IsHeldChain pool s.parts t.memory view.heap (value s.registers 9) view.held
  links_kept =
      subst (λ heap. IsHeldChain pool s.parts t.memory heap (value s.registers 9) view.held) same_heap
      (IsHeldChain-changed s.parts cell (token fields) memory.usable.aligned memory.shown token_cell but (value s.registers 9) view.held cells_apart memory.held)

  newest_held : IsHeld pool s.parts t.memory view.heap (record { cell = cell; slot = slot })
  newest_held = record {
    is_token = subst IsToken (sym is_token) tt;
    is_slot = is_slot;
    names_slot = ap (λ m. word m (cell + 4)) stored ∙ linked-second cell (value s.registers 9) slot s.memory next_fits (omega (arith, is_slot.below));
    is_in_slot = but.same slot (slot-apart pool s.parts slot cell memory.usable.aligned is_slot token_cell) ∙ holds;
  }

  pub memory_held : value t.registers 8 ≡ value s.registers 8 → value t.registers 9 ≡ cell → value t.registers 18 ≡ value s.registers 18 → value t.registers 19 ≡ value s.registers 19
      → Memory pool (record view { held = record { cell = cell; slot = slot } ∷ view.held }) t
  memory_held first newest border end =
      let next_is = ap (λ m. word m cell) stored ∙ linked-first cell (value s.registers 9) slot s.memory next_fits (omega (arith, is_slot.below)) in
      let chain = IsChain-changed cell (token fields) memory.shown token_cell but (value s.registers 8) view.frees (not_chained (value s.registers 8) view.frees memory.chain) memory.chain in
      record {
        usable = subst (IsUsable pool) (sym parts) memory.usable;
        shown = subst (IsShown pool t.memory) same_heap (IsShown-changed cell (token fields) memory.shown token_cell but shows);
        settled = memory.settled;
        chain = rw first (subst (λ heap. IsChain t.memory heap (value s.registers 8) view.frees) same_heap chain);
        held = subst (λ p. IsHeldChain pool p t.memory view.heap (value t.registers 9) (record { cell = cell; slot = slot } ∷ view.held)) (sym parts) (newest, newest_held, cells_apart, slots_apart, rw next_is links_kept);
        border = border ∙ memory.border;
        end = end ∙ memory.end;
        has_border = border_kept pool view _ memory.has_border;
      }

-- ---- no change of memory

module _ (pool : Pool) (view : View) (s t : Processor) (memory : Memory pool view s) (same : t.memory ≡ s.memory) (parts : t.parts ≡ s.parts)
    (first : value t.registers 8 ≡ value s.registers 8) (border : value t.registers 18 ≡ value s.registers 18) (end : value t.registers 19 ≡ value s.registers 19) where
  pub memory_with : (held : List Link) → IsHeldChain pool s.parts s.memory view.heap (value t.registers 9) held → Memory pool (record view { held = held }) t
  memory_with held chain = record {
    usable = subst (IsUsable pool) (sym parts) memory.usable;
    shown = rw same memory.shown;
    settled = memory.settled;
    chain = rw (same, first) memory.chain;
    held = rw (same, parts) chain;
    border = border ∙ memory.border;
    end = end ∙ memory.end;
    has_border = border_kept pool view held memory.has_border;
  }

-- the newest held token is at a word
newest-below : (pool : Pool) (view : View) (s : Processor) → Memory pool view s → (links : List Link) → IsHeldChain pool s.parts s.memory view.heap (value s.registers 9) links → value s.registers 9 < 2 ^ 32
newest-below pool view s memory [] none = let is = none in omega arith
newest-below pool view s memory (link ∷ links) chain =
    let is = chain.0 in
    let cell = IsHeld-cell memory.shown chain.1 in
    let before = cell.before in
    let below = memory.usable.below in
    omega arith

pub newest_below : (pool : Pool) (view : View) (s : Processor) → Memory pool view s → value s.registers 9 < 2 ^ 32
newest_below pool view s memory = newest-below pool view s memory view.held memory.held
