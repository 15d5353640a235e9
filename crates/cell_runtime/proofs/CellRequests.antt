-- What a request for a cell makes of what a reader sees.
use Rattle.std.proofs.Common.{◌≡◌, ◌≢◌, ◌<◌, ℕ, ◌+◌, ◌%◌, inl, inr, List, [], ◌∷◌, map, refl, sym, ap, ◌∙◌, subst, lit≤, arith}
use Rattle.kk_base.specs.Memory.{Part}
use Rattle.std.proofs.lemmas.Bool.{cases_lt}
use Rattle.rv_isa.specs.Bytes.{with_number, Apart}
use Rattle.rv_isa.specs.Processor.{Processor, value}
use Rattle.rv_isa.proofs.Memory.{word-apart}
use Rattle.rv_isa.specs.Numbers.{cell_size}
use Rattle.cell_heap.specs.Cells.{Body, Cell, no_cell, free, token, waiting, counted, Heap, changed, occurs}
use Rattle.cell_heap.specs.Pool.{Pool, end_of, IsCell, IsUsable}
use Rattle.cell_heap.specs.View.{Link, View, HasBorder}
use Rattle.cell_heap.specs.Memory.{word, IsShown, IsChain, IsToken, IsSlot, IsHeld, IsHeldChain, Memory}
use Rattle.cell_heap.proofs.Sums.{occurs-first, occurs-other, occurs-by}
use Rattle.cell_heap.proofs.Frames.{changed-by, changed-same, changed-other, SameBut, shown-cell, IsShown-changed, IsChain-changed, IsHeldChain-changed, SameInside, SameInside-store, SameSlots, IsShown-outside, IsChain-outside, IsHeldChain-outside, IsHeld-cell}

-- a cell that is no token is none of the held ones
module _ (pool : Pool) (parts : List Part) (memory : ℕ → ℕ) (heap : Heap) (at : ℕ) (no_token : IsToken (heap at) → ⊥) where
  pub none_held : (from : ℕ) (links : List Link) → IsHeldChain pool parts memory heap from links → occurs at (map (λ link. link.cell) links) ≡ 0
  none_held from [] chain = refl
  none_held from (link ∷ links) chain =
      let differ : at ≢ link.cell = λ e. no_token (subst (λ c. IsToken (heap c)) (sym e) chain.1.is_token) in
      occurs-other at link.cell (map (λ link. link.cell) links) differ ∙ none_held (word memory link.cell) links chain.4

pub free-no-token : (cell : Cell) → cell ≡ free → IsToken cell → ⊥
free-no-token no_cell is held = held
free-no-token free is held = held
free-no-token (token fields) is held = cc
free-no-token (waiting body) is held = held
free-no-token (counted count body) is held = held

free-some : free ≢ no_cell
free-some e = cc

token-not-free : token [] ≢ free
token-not-free e = cc

-- a free cell is given: what a reader sees then, but for the chain and the border
module _ (pool : Pool) (view : View) (s t : Processor) (memory : Memory pool view s) (cell : ℕ) (is_free : view.heap cell ≡ free) (same : t.memory ≡ s.memory) (parts : t.parts ≡ s.parts) where
  abbrev heap : Heap
  heap = changed cell (token []) view.heap

  is_cell : IsCell pool cell
  is_cell = shown-cell memory.shown cell free is_free free-some

  but : SameBut s.memory t.memory cell
  but = record { same = λ x apart. ap (λ m. word m x) same }

  pub given-shown : IsShown pool t.memory (changed cell (token []) view.heap)
  given-shown = IsShown-changed cell (token []) memory.shown is_cell but (is_cell, lit≤ tt, tt)

  pub given-settled : (at : ℕ) (body : Body) → changed cell (token []) view.heap at ≢ waiting body
  given-settled at body = changed-by (λ c. c ≢ waiting body) at cell (token []) view.heap (λ e w. cc) (λ differ. memory.settled at body)

  pub given-chain : (from : ℕ) (frees : List ℕ) → occurs cell frees ≡ 0 → IsChain s.memory view.heap from frees → IsChain t.memory (changed cell (token []) view.heap) from frees
  given-chain from frees none chain = IsChain-changed cell (token []) memory.shown is_cell but from frees none chain

  pub given-held : value t.registers 9 ≡ value s.registers 9 → IsHeldChain pool t.parts t.memory (changed cell (token []) view.heap) (value t.registers 9) view.held
  given-held first =
      let none = none_held pool s.parts s.memory view.heap cell (free-no-token (view.heap cell) is_free) (value s.registers 9) view.held memory.held in
      let chain = IsHeldChain-changed s.parts cell (token []) memory.usable.aligned memory.shown is_cell but (value s.registers 9) view.held none memory.held in
      rw (parts, first) chain

-- ---- the three ways

-- a cell that is free still is not the one that was given
given-differs : (view : View) (cell at : ℕ) → changed cell (token []) view.heap at ≡ free → at ≢ cell
given-differs view cell at still e =
    token-not-free (sym (changed-same cell (token []) view.heap) ∙ ap (changed cell (token []) view.heap) (sym e) ∙ still)

module _ (pool : Pool) (view : View) (s t : Processor) (memory : Memory pool view s) (same : t.memory ≡ s.memory) (parts : t.parts ≡ s.parts) (held : value t.registers 9 ≡ value s.registers 9) (end : value t.registers 19 ≡ value s.registers 19) where
  -- the first cell of the chain
  module _ (cell : ℕ) (frees : List ℕ) (first : view.frees ≡ cell ∷ frees) where
    chain_at : IsChain s.memory view.heap (value s.registers 8) (cell ∷ frees)
    chain_at = subst (IsChain s.memory view.heap (value s.registers 8)) first memory.chain

    pub first_is : value s.registers 8 ≡ cell
    first_is = chain_at.0

    pub first_free : view.heap cell ≡ free
    first_free = chain_at.1

    listed : occurs cell view.frees ≢ 0
    listed none = occurs-first cell frees (sym (ap (occurs cell) first) ∙ none)

    border_stays : HasBorder pool (record view { heap = changed cell (token []) view.heap; frees = frees })
    border_stays =
        let border = memory.has_border in
        let is_free : view.heap cell ≡ free = chain_at.1 in
        record {
          aligned = border.aligned;
          behind = border.behind;
          within = border.within;
          fresh = λ at is_cell high.
              let below = (border.chained cell is_free).0 listed in
              let differ : at ≢ cell = λ e. absurd (omega arith) in
              changed-other cell (token []) view.heap at differ ∙ border.fresh at is_cell high;
          chained = λ at still.
              let differ : at ≢ cell = given-differs view cell at still in
              let was = border.chained at (sym (changed-other cell (token []) view.heap at differ) ∙ still) in
              let same_count : occurs at view.frees ≡ occurs at frees = ap (occurs at) first ∙ occurs-other at cell frees differ in
              (λ some. was.0 (λ none. some (sym same_count ∙ none)), λ low none. was.1 low (same_count ∙ none));
        }

    pub memory_chained : value t.registers 8 ≡ word s.memory cell → value t.registers 18 ≡ value s.registers 18 → Memory pool (record view { heap = changed cell (token []) view.heap; frees = frees }) t
    memory_chained next border = record {
      usable = subst (IsUsable pool) (sym parts) memory.usable;
      shown = given-shown pool view s t memory cell first_free same parts;
      settled = given-settled pool view s t memory cell first_free same parts;
      chain = rw next (given-chain pool view s t memory cell first_free same parts (word s.memory cell) frees chain_at.2 chain_at.3);
      held = given-held pool view s t memory cell first_free same parts held;
      border = border ∙ memory.border;
      end = end ∙ memory.end;
      has_border = border_stays;
    }

  -- the first cell that was never used
  module _ (none : view.frees ≡ []) (below : view.border < end_of pool) where
    fresh_cell : IsCell pool view.border
    fresh_cell = record { behind = memory.has_border.behind; before = below; aligned = memory.has_border.aligned }

    pub fresh_free : view.heap view.border ≡ free
    fresh_free = memory.has_border.fresh view.border fresh_cell (omega arith)

    border_rises : HasBorder pool
        (record view { heap = changed view.border (token []) view.heap; border = view.border + cell_size })
    border_rises =
        let border = memory.has_border in
        let aligned = border.aligned in
        let behind = border.behind in
        let pool_aligned = memory.usable.aligned in
        record {
          aligned = omega arith;
          behind = omega arith;
          within = omega arith;
          fresh = λ at is_cell high.
              let differ : at ≢ view.border = λ e. absurd (omega arith) in
              changed-other view.border (token []) view.heap at differ ∙ border.fresh at is_cell (omega arith);
          chained = λ at still.
              let differ : at ≢ view.border = given-differs view view.border at still in
              let was_free = sym (changed-other view.border (token []) view.heap at differ) ∙ still in
              let was = border.chained at was_free in
              let is_cell = shown-cell memory.shown at free was_free free-some in (
                λ some. absurd (some (ap (occurs at) none)),
                λ low listed. was.1 (below_old at is_cell.aligned aligned low differ) (ap (occurs at) none),
              );
        }
      where
        below_old : (at : ℕ) → at % cell_size ≡ 0 → view.border % cell_size ≡ 0 → at < view.border + cell_size
            → at ≢ view.border → at < view.border
        below_old at a b low differ = omega arith

    pub memory_fresh : value t.registers 8 ≡ value s.registers 8 → value t.registers 18 ≡ view.border + cell_size
        → Memory pool (record view { heap = changed view.border (token []) view.heap; border = view.border + cell_size }) t
    memory_fresh first border = record {
      usable = subst (IsUsable pool) (sym parts) memory.usable;
      shown = given-shown pool view s t memory view.border fresh_free same parts;
      settled = given-settled pool view s t memory view.border fresh_free same parts;
      chain = rw first (given-chain pool view s t memory view.border fresh_free same parts (value s.registers 8) view.frees (ap (occurs view.border) none) memory.chain);
      held = given-held pool view s t memory view.border fresh_free same parts held;
      border = border;
      end = end ∙ memory.end;
      has_border = border_rises;
    }

-- ---- the newest held token

module _ (pool : Pool) (parts : List Part) (memory : ℕ → ℕ) (heap : Heap) where
  -- a slot of a held token is a slot
  held_slot : (slot from : ℕ) (links : List Link) → occurs slot (map (λ link. link.slot) links) ≢ 0 → IsHeldChain pool parts memory heap from links → IsSlot pool parts slot
  held_slot slot from [] some chain = absurd (some refl)
  held_slot slot from (link ∷ links) some chain =
      elim (occurs-by slot link.slot (map (λ link. link.slot) links) some) [
        | inl e ↦ subst (IsSlot pool parts) (sym e) chain.1.is_slot
        | inr later ↦ held_slot slot (word memory link.cell) links later chain.4
      ]

words-apart : (a b : ℕ) → a % 4 ≡ 0 → b % 4 ≡ 0 → a ≢ b → Apart a 4 b 4
words-apart a b p q differ = elim (cases_lt a b) [ inl low ↦ inr (omega arith) | inr high ↦ inl (omega arith) ]

module _ (pool : Pool) (view : View) (s t : Processor) (memory : Memory pool view s) (link : Link) (links : List Link) (newest : view.held ≡ link ∷ links)
    (stored : t.memory ≡ with_number link.slot 4 0 s.memory) (parts : t.parts ≡ s.parts) where
  held_at : IsHeldChain pool s.parts s.memory view.heap (value s.registers 9) (link ∷ links)
  held_at = subst (IsHeldChain pool s.parts s.memory view.heap (value s.registers 9)) newest memory.held

  pub newest_inside : SameInside pool s.memory t.memory
  newest_inside = rw stored (SameInside-store pool s.memory link.slot 0 held_at.1.is_slot.apart)

  slots : SameSlots s.memory t.memory links
  slots = record {
    same = λ slot some.
        let there = held_slot pool s.parts s.memory view.heap slot (word s.memory link.cell) links some held_at.4 in
        let differ : link.slot ≢ slot = λ e. some (ap (λ x. occurs x (map (λ link. link.slot) links)) (sym e) ∙ held_at.3) in
        ap (λ m. word m slot) stored ∙ word-apart link.slot 0 s.memory slot (words-apart link.slot slot held_at.1.is_slot.aligned there.aligned differ);
  }

  pub memory_taken_back : value t.registers 8 ≡ value s.registers 8 → value t.registers 9 ≡ word s.memory link.cell → value t.registers 18 ≡ value s.registers 18 → value t.registers 19 ≡ value s.registers 19
      → Memory pool (record view { held = links }) t
  memory_taken_back first next border end =
      let aligned = memory.usable.aligned in
      let chain = IsHeldChain-outside s.parts aligned newest_inside memory.shown (word s.memory link.cell) links slots held_at.4 in
      record {
        usable = subst (IsUsable pool) (sym parts) memory.usable;
        shown = IsShown-outside aligned newest_inside memory.shown;
        settled = memory.settled;
        chain = rw first (IsChain-outside aligned newest_inside memory.shown (value s.registers 8) view.frees memory.chain);
        held = rw (parts, next) chain;
        border = border ∙ memory.border;
        end = end ∙ memory.end;
        has_border = record {
          aligned = memory.has_border.aligned;
          behind = memory.has_border.behind;
          within = memory.has_border.within;
          fresh = memory.has_border.fresh;
          chained = memory.has_border.chained;
        };
      }

  pub newest_is : value s.registers 9 ≡ link.cell
  newest_is = held_at.0

  pub newest_held : IsHeld pool s.parts s.memory view.heap link
  newest_held = held_at.1

  pub newest_cell : IsCell pool link.cell
  newest_cell = IsHeld-cell memory.shown held_at.1
