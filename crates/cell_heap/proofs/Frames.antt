-- What a change of memory leaves of what cells show: a change of one cell's words, and one outside of all cells.
use Rattle.std.proofs.Common.{◌≡◌, ◌≢◌, ◌≤◌, ◌<◌, ℕ, ◌+◌, ◌*◌, ◌%◌, ◌⊎◌, inl, inr, List, [], ◌∷◌, map, length, Bool, true, false, nat_eq, if◌then◌else◌, refl, sym, ◌∙◌, subst, arith}
use Rattle.std.proofs.lemmas.Bool.{cases_lt}
use Rattle.std.proofs.lemmas.Bool.Decides.{nat_tests}
use Rattle.kk_base.specs.Memory.{Part}
use Rattle.rv_isa.specs.Bytes.{with_number, Apart}
use Rattle.rv_isa.proofs.Memory.{word-apart, number_at-one, number_at-apart}
use Rattle.rv_isa.specs.Numbers.{cell_size}
use Rattle.cell_heap.proofs.Sums.{occurs-none, occurs-first, occurs-later}
use Rattle.cell_heap.specs.Cells.{Body, Cell, no_cell, free, token, waiting, counted, Heap, changed, occurs}
use Rattle.cell_heap.specs.Pool.{Pool, end_of, IsCell}
use Rattle.cell_heap.specs.View.{Link}
use Rattle.cell_heap.specs.Memory.{word, HasWords, HasBody, Shows, IsShown, IsChain, IsSlot, IsToken, IsHeld, IsHeldChain}

-- ---- the heap with another cell

by-test : (P : Cell → Type 0) (x at : ℕ) (cell : Cell) (heap : Heap) (b : Bool) → nat_eq x at ≡ b → (x ≡ at → P cell) → (x ≢ at → P (heap x)) → P (if b then cell else heap x)
by-test P x at cell heap true test same other = same (grind (arith, nat_tests))
by-test P x at cell heap false test same other = other (grind (arith, nat_tests))

-- what holds of the new cell, and elsewhere of the cells that were there, holds of the heap
pub changed-by : (P : Cell → Type 0) (x at : ℕ) (cell : Cell) (heap : Heap) → (x ≡ at → P cell) → (x ≢ at → P (heap x)) → P (changed at cell heap x)
changed-by P x at cell heap same other = by-test P x at cell heap (nat_eq x at) refl same other

pub changed-same : (at : ℕ) (cell : Cell) (heap : Heap) → changed at cell heap at ≡ cell
changed-same at cell heap =
    changed-by (λ c. c ≡ cell) at at cell heap (λ e. refl) (λ differ. absurd (differ refl))

pub changed-other : (at : ℕ) (cell : Cell) (heap : Heap) (x : ℕ) → x ≢ at → changed at cell heap x ≡ heap x
changed-other at cell heap x differ =
    changed-by (λ c. c ≡ heap x) x at cell heap (λ e. absurd (differ e)) (λ d. refl)

-- ---- words

-- the words from an address up to another are the same in both memories
pub record SameWords (old new : ℕ → ℕ) (from to : ℕ) : Type 0 where
  pub same : (x : ℕ) → from ≤ x → x + 4 ≤ to → word new x ≡ word old x

-- all words are the same but those of one cell
pub record SameBut (old new : ℕ → ℕ) (at : ℕ) : Type 0 where
  pub same : (x : ℕ) → (x + 4 ≤ at) ⊎ (at + cell_size ≤ x) → word new x ≡ word old x

pub HasWords-same : (old new : ℕ → ℕ) (at to : ℕ) (xs : List ℕ) → SameWords old new at to → at + 4 * length xs ≤ to → HasWords old at xs → HasWords new at xs
HasWords-same old new at to [] same within has = tt
HasWords-same old new at to (x ∷ xs) same within has =
    let w = within in (
      same.same at (omega arith) (omega arith) ∙ has.0,
      HasWords-same old new (at + 4) to xs record { same = λ y low high. same.same y (omega arith) high } (omega arith) has.1,
    )

pub HasBody-same : (old new : ℕ → ℕ) (at : ℕ) (body : Body) → SameWords old new (at + 4) (at + cell_size) → HasBody old at body → HasBody new at body
HasBody-same old new at body same has =
    let few = has.few in
    record {
      header = same.same (at + 4) (omega arith) (omega arith) ∙ has.header;
      tag = has.tag;
      mask = has.mask;
      few = has.few;
      fields = HasWords-same old new (at + 8) (at + cell_size) body.fields record { same = λ y low high. same.same y (omega arith) high } (omega arith) has.fields;
    }

pub Shows-same : (pool : Pool) (old new : ℕ → ℕ) (at : ℕ) (cell : Cell) → (IsCell pool at → SameWords old new at (at + cell_size)) → Shows pool old at cell → Shows pool new at cell
Shows-same pool old new at no_cell same shows = shows
Shows-same pool old new at free same shows = shows
Shows-same pool old new at (token fields) same shows =
    let words = same shows.0 in
    let few = shows.1 in
    (shows.0, shows.1, HasWords-same old new (at + 8) (at + cell_size) fields record { same = λ y low high. words.same y (omega arith) high } (omega arith) shows.2)
Shows-same pool old new at (waiting body) same shows =
    let words = same shows.0 in
    (shows.0, HasBody-same old new at body record { same = λ y low high. words.same y (omega arith) high } shows.1)
Shows-same pool old new at (counted count body) same shows =
    let words = same shows.0 in
    (shows.0, words.same at (omega arith) (omega arith) ∙ shows.1, shows.2, HasBody-same old new at body record { same = λ y low high. words.same y (omega arith) high } shows.3)

-- an address that is no cell's shows none
Shows-cell : (pool : Pool) (memory : ℕ → ℕ) (at : ℕ) (cell : Cell) → cell ≢ no_cell → Shows pool memory at cell → IsCell pool at
Shows-cell pool memory at no_cell some shows = absurd (some refl)
Shows-cell pool memory at free some shows = shows
Shows-cell pool memory at (token fields) some shows = shows.0
Shows-cell pool memory at (waiting body) some shows = shows.0
Shows-cell pool memory at (counted count body) some shows = shows.0

pub shown-cell : {pool : Pool} {memory : ℕ → ℕ} {heap : Heap} → IsShown pool memory heap → (at : ℕ) (cell : Cell) → heap at ≡ cell → cell ≢ no_cell → IsCell pool at
shown-cell {pool} {memory} {heap} shown at cell is some =
    Shows-cell pool memory at cell some (subst (λ c. Shows pool memory at c) is (shown.cell at))

-- what memory shows of a cell
pub shows-at : {pool : Pool} {memory : ℕ → ℕ} {heap : Heap} → IsShown pool memory heap → (at : ℕ) (cell : Cell) → heap at ≡ cell → Shows pool memory at cell
shows-at {pool} {memory} {heap} shown at cell is = subst (λ c. Shows pool memory at c) is (shown.cell at)

-- ---- a change of one cell

-- a word of another cell is none of this one's
other-cell : (x at y : ℕ) → x % cell_size ≡ 0 → at % cell_size ≡ 0 → x ≢ at → x ≤ y → y + 4 ≤ x + cell_size
    → (y + 4 ≤ at) ⊎ (at + cell_size ≤ y)
other-cell x at y x_aligned at_aligned differ low high =
    elim (cases_lt x at) [ inl below ↦ inl (omega arith) | inr above ↦ inr (omega arith) ]

pub SameWords-but : {pool : Pool} {old new : ℕ → ℕ} {at : ℕ} → SameBut old new at → IsCell pool at → (x : ℕ) → x ≢ at → IsCell pool x → SameWords old new x (x + cell_size)
SameWords-but {pool} {old} {new} {at} but cell x differ other = record {
  same = λ y low high. but.same y (other-cell x at y other.aligned cell.aligned differ low high);
}

pub IsShown-changed : {pool : Pool} {old new : ℕ → ℕ} {heap : Heap} (at : ℕ) (cell : Cell) → IsShown pool old heap → IsCell pool at → SameBut old new at → Shows pool new at cell → IsShown pool new (changed at cell heap)
IsShown-changed {pool} {old} {new} {heap} at cell shown is_cell but shows = record {
  cell = λ x. changed-by (Shows pool new x) x at cell heap
      (λ e. subst (λ y. Shows pool new y cell) (sym e) shows)
      (λ differ. Shows-same pool old new x (heap x) (SameWords-but but is_cell x differ) (shown.cell x));
}

-- a free cell is not none
pub free-some : free ≢ no_cell
free-some e = cc

-- a chain that the cell is not on stays
pub IsChain-changed : {pool : Pool} {old new : ℕ → ℕ} {heap : Heap} (at : ℕ) (cell : Cell) → IsShown pool old heap → IsCell pool at → SameBut old new at
    → (from : ℕ) (cells : List ℕ) → occurs at cells ≡ 0 → IsChain old heap from cells → IsChain new (changed at cell heap) from cells
IsChain-changed at cell shown is_cell but from [] none chain = chain
IsChain-changed {pool} {old} {new} {heap} at cell shown is_cell but from (first ∷ cells) none chain =
    let apart = occurs-none at first cells none in
    let differ : first ≢ at = λ e. apart.0 (sym e) in
    let first_cell = shown-cell shown first free chain.1 free-some in
    let words = SameWords-but but is_cell first differ first_cell in
    let next : word new first ≡ word old first = words.same first (omega arith) (omega arith) in
    let rest = IsChain-changed at cell shown is_cell but (word old first) cells apart.1 chain.3 in
    (chain.0, changed-other at cell heap first differ ∙ chain.1, chain.2, subst (λ w. IsChain new (changed at cell heap) w cells) (sym next) rest)

-- ---- held tokens

not-token-free : (cell : Cell) → IsToken cell → cell ≢ no_cell
not-token-free no_cell is_token e = is_token
not-token-free free is_token e = is_token
not-token-free (token fields) is_token e = cc
not-token-free (waiting body) is_token e = is_token
not-token-free (counted count body) is_token e = is_token

-- a slot lies outside of each cell
pub slot-apart : (pool : Pool) (parts : List Part) (slot at : ℕ) → pool.first % cell_size ≡ 0 → IsSlot pool parts slot → IsCell pool at → (slot + 4 ≤ at) ⊎ (at + cell_size ≤ slot)
slot-apart pool parts slot at aligned is_slot cell = by-side is_slot.apart
  where
    by-side : (slot + 4 ≤ pool.first) ⊎ (end_of pool ≤ slot) → (slot + 4 ≤ at) ⊎ (at + cell_size ≤ slot)
    by-side (inl before) = let low = cell.behind in inl (omega arith)
    by-side (inr behind) = let high = cell.before in let here = cell.aligned in inr (omega arith)

pub IsHeld-cell : {pool : Pool} {parts : List Part} {memory : ℕ → ℕ} {heap : Heap} {link : Link} → IsShown pool memory heap → IsHeld pool parts memory heap link → IsCell pool link.cell
IsHeld-cell {pool} {parts} {memory} {heap} {link} shown held =
    shown-cell shown link.cell (heap link.cell) refl (not-token-free (heap link.cell) held.is_token)

pub IsHeldChain-changed : {pool : Pool} (parts : List Part) {old new : ℕ → ℕ} {heap : Heap} (at : ℕ) (cell : Cell) → pool.first % cell_size ≡ 0 → IsShown pool old heap → IsCell pool at → SameBut old new at
    → (from : ℕ) (links : List Link) → occurs at (map (λ l. l.cell) links) ≡ 0 → IsHeldChain pool parts old heap from links → IsHeldChain pool parts new (changed at cell heap) from links
IsHeldChain-changed parts at cell aligned shown is_cell but from [] none chain = chain
IsHeldChain-changed {pool} parts {old} {new} {heap} at cell aligned shown is_cell but from (link ∷ links) none chain =
    let apart = occurs-none at link.cell (map (λ l. l.cell) links) none in
    let differ : link.cell ≢ at = λ e. apart.0 (sym e) in
    let held = chain.1 in
    let held_cell = IsHeld-cell shown held in
    let words = SameWords-but but is_cell link.cell differ held_cell in
    let next : word new link.cell ≡ word old link.cell = words.same link.cell (omega arith) (omega arith) in
    let rest = IsHeldChain-changed parts at cell aligned shown is_cell but (word old link.cell) links apart.1 chain.4 in (
      chain.0,
      record {
        is_token = subst IsToken (sym (changed-other at cell heap link.cell differ)) held.is_token;
        is_slot = held.is_slot;
        names_slot = words.same (link.cell + 4) (omega arith) (omega arith) ∙ held.names_slot;
        is_in_slot = but.same link.slot (slot-apart pool parts link.slot at aligned held.is_slot is_cell) ∙ held.is_in_slot;
      },
      chain.2,
      chain.3,
      subst (λ w. IsHeldChain pool parts new (changed at cell heap) w links) (sym next) rest,
    )

-- ---- a change outside of all cells

pub record SameInside (pool : Pool) (old new : ℕ → ℕ) : Type 0 where
  pub same : (x : ℕ) → pool.first ≤ x → x + 4 ≤ end_of pool → word new x ≡ word old x

-- all words of a cell are inside
pub cell-inside : (pool : Pool) (at : ℕ) → pool.first % cell_size ≡ 0 → IsCell pool at → at + cell_size ≤ end_of pool
cell-inside pool at aligned cell = let high = cell.before in let here = cell.aligned in omega arith

pub SameWords-inside : {pool : Pool} {old new : ℕ → ℕ} → pool.first % cell_size ≡ 0 → SameInside pool old new → (at : ℕ) → IsCell pool at → SameWords old new at (at + cell_size)
SameWords-inside {pool} aligned inside at cell = record {
  same = λ y low high. let end = cell-inside pool at aligned cell in let begin = cell.behind in inside.same y (omega arith) (omega arith);
}

pub IsShown-outside : {pool : Pool} {old new : ℕ → ℕ} {heap : Heap} → pool.first % cell_size ≡ 0 → SameInside pool old new → IsShown pool old heap → IsShown pool new heap
IsShown-outside {pool} {old} {new} {heap} aligned inside shown = record {
  cell = λ x. Shows-same pool old new x (heap x) (SameWords-inside aligned inside x) (shown.cell x);
}

pub IsChain-outside : {pool : Pool} {old new : ℕ → ℕ} {heap : Heap} → pool.first % cell_size ≡ 0 → SameInside pool old new → IsShown pool old heap
    → (from : ℕ) (cells : List ℕ) → IsChain old heap from cells → IsChain new heap from cells
IsChain-outside aligned inside shown from [] chain = chain
IsChain-outside {pool} {old} {new} {heap} aligned inside shown from (first ∷ cells) chain =
    let words = SameWords-inside aligned inside first (shown-cell shown first free chain.1 free-some) in
    let next : word new first ≡ word old first = words.same first (omega arith) (omega arith) in
    let rest = IsChain-outside aligned inside shown (word old first) cells chain.3 in
    (chain.0, chain.1, chain.2, subst (λ w. IsChain new heap w cells) (sym next) rest)

-- the slots of the held tokens have the words that they had
pub record SameSlots (old new : ℕ → ℕ) (links : List Link) : Type 0 where
  pub same : (slot : ℕ) → occurs slot (map (λ l. l.slot) links) ≢ 0 → word new slot ≡ word old slot

pub IsHeldChain-outside : {pool : Pool} (parts : List Part) {old new : ℕ → ℕ} {heap : Heap} → pool.first % cell_size ≡ 0 → SameInside pool old new → IsShown pool old heap
    → (from : ℕ) (links : List Link) → SameSlots old new links → IsHeldChain pool parts old heap from links → IsHeldChain pool parts new heap from links
IsHeldChain-outside parts aligned inside shown from [] slots chain = chain
IsHeldChain-outside {pool} parts {old} {new} {heap} aligned inside shown from (link ∷ links) slots chain =
    let held = chain.1 in
    let words = SameWords-inside aligned inside link.cell (IsHeld-cell shown held) in
    let next : word new link.cell ≡ word old link.cell = words.same link.cell (omega arith) (omega arith) in
    let later : SameSlots old new links = record { same = λ slot some. slots.same slot (occurs-later slot link.slot (map (λ l. l.slot) links) some) } in
    let rest = IsHeldChain-outside parts aligned inside shown (word old link.cell) links later chain.4 in (
      chain.0,
      record {
        is_token = held.is_token;
        is_slot = held.is_slot;
        names_slot = words.same (link.cell + 4) (omega arith) (omega arith) ∙ held.names_slot;
        is_in_slot = slots.same link.slot (occurs-first link.slot (map (λ l. l.slot) links)) ∙ held.is_in_slot;
      },
      chain.2,
      chain.3,
      subst (λ w. IsHeldChain pool parts new heap w links) (sym next) rest,
    )

-- ---- one store

-- a store of a word of a cell changes that cell alone
pub SameBut-store : (memory : ℕ → ℕ) (at to n : ℕ) → at ≤ to → to + 4 ≤ at + cell_size
    → SameBut memory (with_number to 4 n memory) at
SameBut-store memory at to n low high =
    record { same = λ x apart. word-apart to n memory x (apart-word x apart) }
  where
    apart-word : (x : ℕ) → (x + 4 ≤ at) ⊎ (at + cell_size ≤ x) → Apart to 4 x 4
    apart-word x (inl before) = inl (omega arith)
    apart-word x (inr behind) = inr (omega arith)

-- a store of a word outside of all cells changes none
pub SameInside-store : (pool : Pool) (memory : ℕ → ℕ) (to n : ℕ) → (to + 4 ≤ pool.first) ⊎ (end_of pool ≤ to) → SameInside pool memory (with_number to 4 n memory)
SameInside-store pool memory to n apart =
    record { same = λ x low high. word-apart to n memory x (apart-word x low high apart) }
  where
    apart-word : (x : ℕ) → pool.first ≤ x → x + 4 ≤ end_of pool → (to + 4 ≤ pool.first) ⊎ (end_of pool ≤ to) → Apart to 4 x 4
    apart-word x low high (inl before) = inr (omega arith)
    apart-word x low high (inr behind) = inl (omega arith)

-- and no byte outside of the word
pub byte-stored_apart : (memory : ℕ → ℕ) (to n x : ℕ) → (x < to) ⊎ (to + 4 ≤ x) → with_number to 4 n memory x ≡ memory x
byte-stored_apart memory to n x apart =
    sym (number_at-one (with_number to 4 n memory) x) ∙ number_at-apart to 4 n memory x 1 (λ some. apart-byte apart) ∙ number_at-one memory x
  where
    apart-byte : (x < to) ⊎ (to + 4 ≤ x) → Apart to 4 x 1
    apart-byte (inl below) = inl (omega arith)
    apart-byte (inr above) = inr above
