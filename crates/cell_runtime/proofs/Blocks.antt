-- What the routines for cells and tokens make of the blocks of a program.
use Rattle.std.proofs.Common.{◌≡◌, ◌≤◌, ◌<◌, ◌⊎◌, inl, inr, ℕ, ◌+◌, ◌*◌, ◌%◌, List, [], ◌∷◌, map, Option, Some, None}
use Rattle.std.proofs.Common.{option_map, Bool, true, false, ◌&&◌, if◌then◌else◌, nat_eq, nat_le, nat_lt, refl, sym, ap, ◌∙◌, subst}
use Rattle.std.proofs.Common.{lit≤, arith}
use mathlib.Core.Path.{fun_ext}
use Rattle.std.proofs.lemmas.Bool.Decides.{nat_tests}
use Rattle.rv_isa.specs.Processor.{Processor, value}
use Rattle.rv_isa.specs.Standing.{Code}
use Rattle.rv_isa.proofs.Memory.{number_at-same}
use Rattle.rv_isa.specs.Numbers.{cell_size}
use Rattle.cell_heap.specs.Cells.{no_cell, free, token, changed, occurs}
use Rattle.cell_heap.specs.Pool.{Pool, end_of, IsCell}
use Rattle.cell_heap.specs.View.{Link, View}
use Rattle.cell_heap.specs.Memory.{word, IsChain, IsToken, IsHeldChain, Memory}
use Rattle.cell_heap.specs.Blocks.{no_block, unused, own, kept, Cells, with_block, unused_cells, nothing, takes, request_by}
use Rattle.cell_heap.specs.Blocks.{request, past_links, fields_of, seen, seen_cells, view_of}
use Rattle.cell_heap.specs.ProgramMemory.{AreKnown, IsKnown, IsOwnBlock, HoldsCells, SameRoots}
use Rattle.cell_heap.proofs.Sums.{occurs-none, occurs-other}
use Rattle.cell_heap.proofs.Frames.{SameBut, SameInside, SameWords-but, SameWords-inside, shown-cell, IsHeld-cell}
use Rattle.cell_heap.proofs.OutsideChanges.{IsOwn, token-own, own_change, changed-nothing}
use Rattle.cell_heap.proofs.Blocks.{seen-changed, block-same, placed-by, own-cell, own-known, is-own, known-length}
use Rattle.cell_heap.proofs.Blocks.{known-fields}
use Rattle.cell_runtime.specs.Calls.{KeepsOutside}
use Rattle.cell_runtime.specs.Starts.{first_view}
use Rattle.cell_runtime.specs.Takes.{Taken, from_chain, at_border, from_held, EmptiesSlot, AfterTake}
use Rattle.cell_runtime.proofs.CellRequests.{none_held, free-no-token}

abbrev cells_of : List Link → List ℕ
cells_of links = map (λ link. link.cell) links

same_roots : (s : Processor) → SameRoots s s
same_roots s = record { parts = refl; chain = refl; held = refl; border = refl; end = refl }

-- memory outside of some bytes is as before: so is a word
pub word_kept : (at count : ℕ) (s t : Processor) (x : ℕ) → KeepsOutside at count s t → (x + 4 ≤ at) ⊎ (at + count ≤ x)
    → word t.memory x ≡ word s.memory x
word_kept at count s t x keeps apart = number_at-same t.memory s.memory x 4 (λ y low high. keeps y (aside apart y low high))
  where
    aside : (x + 4 ≤ at) ⊎ (at + count ≤ x) → (y : ℕ) → x ≤ y → y < x + 4 → (y < at) ⊎ (at + count ≤ y)
    aside (inl before) y low high = inl (omega arith)
    aside (inr behind) y low high = inr (omega arith)

-- ---- requests

-- a cell that was given belongs to the program
given_holds : {pool : Pool} {cells : Cells} {links left : List Link} {s t : Processor} → HoldsCells pool cells links s
    → (at : ℕ) (frees : List ℕ) (border : ℕ)
    → Memory pool (view_of (takes at frees border cells) left) t → SameInside pool s.memory t.memory
    → occurs at (cells_of left) ≡ 0 → ((x : ℕ) → occurs x (cells_of links) ≡ 0 → occurs x (cells_of left) ≡ 0)
    → HoldsCells pool (takes at frees border cells) left t
given_holds {cells = cells} {left = left} {t = t} holds at frees border memory inside none fewer =
    let base : Cells = record cells { frees = frees; border = border } in
    record {
      memory = memory;
      known = λ x. placed-by (IsKnown t.memory x) x at (own nothing) base
          (λ e i w low high is. cc)
          (λ differ. block-same holds t.memory x (cells.blocks x) refl
          (λ other. SameWords-inside holds.memory.usable.aligned inside x other));
      apart = λ x. placed-by (λ b. IsOwnBlock b → occurs x (cells_of left) ≡ 0) x at (own nothing) base
          (λ e own_now. subst (λ y. occurs y (cells_of left) ≡ 0) (sym e) none)
          (λ differ own_now. fewer x (holds.apart x own_now));
    }

-- what a request came to: a free cell, or that of the newest held token
pub data TakenBlock (pool : Pool) (cells : Cells) (links : List Link) (t : Processor) : ℕ → Option ℕ → Type 0 where
  of_free : {cell : ℕ} (next : Cells) → ((top : Option ℕ) → request pool top cells ≡ Some (cell, next, false))
      → HoldsCells pool next links t → TakenBlock pool cells links t cell None
  of_link : (link : Link) (left : List Link) (next : Cells) → links ≡ link ∷ left
      → request pool (Some link.cell) cells ≡ Some (link.cell, next, true) → HoldsCells pool next left t
      → TakenBlock pool cells links t link.cell (Some link.slot)

same_inside : (pool : Pool) (s t : Processor) → t.memory ≡ s.memory → SameInside pool s.memory t.memory
same_inside pool s t same = record { same = λ x low high. ap (λ m. word m x) same }

-- a heap in which a cell is given
given_view : {pool : Pool} {t : Processor} (cells : Cells) (at : ℕ) (frees : List ℕ) (border : ℕ) (links : List Link)
    → Memory pool (record { heap = changed at (token []) (seen_cells cells); frees = frees; border = border; held = links }) t
    → Memory pool (view_of (takes at frees border cells) links) t
given_view {pool} {t} cells at frees border links memory =
    subst (λ h. Memory pool (record { heap = h; frees = frees; border = border; held = links }) t)
    (sym (seen-changed at (own nothing) (record cells { frees = frees; border = border }))) memory

module _ {pool : Pool} {cells : Cells} {links : List Link} {s t : Processor} (holds : HoldsCells pool cells links s) where
  -- the first cell of the chain
  chained_taken : (cell : ℕ) (frees : List ℕ) → cells.frees ≡ cell ∷ frees
      → Memory pool (record (view_of cells links) { heap = changed cell (token []) (seen_cells cells); frees = frees }) t
      → t.memory ≡ s.memory
      → TakenBlock pool cells links t cell None
  chained_taken cell frees first memory same =
      let chain = subst (IsChain s.memory (seen_cells cells) (value s.registers 8)) first holds.memory.chain in
      of_free (takes cell frees cells.border cells) (λ top. ap (λ fs. request_by pool fs top cells) first)
      (given_holds holds cell frees cells.border (given_view cells cell frees cells.border links memory) (same_inside pool s t same)
      (none_held pool s.parts s.memory (seen_cells cells) cell (free-no-token (seen_cells cells cell) chain.1)
      (value s.registers 9) links holds.memory.held) (λ x none. none))

  -- the first cell that was never used
  fresh_taken : cells.frees ≡ [] → cells.border < end_of pool
      → Memory pool (record (view_of cells links)
      { heap = changed cells.border (token []) (seen_cells cells); border = cells.border + cell_size }) t → t.memory ≡ s.memory
      → TakenBlock pool cells links t cells.border None
  fresh_taken none below memory same =
      let at = cells.border in
      let border = holds.memory.has_border in
      let is_cell : IsCell pool at = record { behind = border.behind; before = below; aligned = border.aligned } in
      let is_free = border.fresh at is_cell (omega arith) in
      let test : nat_lt at (end_of pool) ≡ true = grind (arith, nat_tests) in
      let empty = subst (λ fs. Memory pool
      (record { heap = changed at (token []) (seen_cells cells); frees = fs; border = at + cell_size; held = links }) t) none
      memory in
      of_free (takes at [] (at + cell_size) cells)
      (λ top. ap (λ fs. request_by pool fs top cells) none
      ∙ ap (λ b. if b then Some (at, takes at [] (at + cell_size) cells, false) else option_map
      (λ x. (x, takes x [] at cells, true)) top) test)
      (given_holds holds at [] (at + cell_size) (given_view cells at [] (at + cell_size) links empty) (same_inside pool s t same)
      (none_held pool s.parts s.memory (seen_cells cells) at (free-no-token (seen_cells cells at) is_free)
      (value s.registers 9) links holds.memory.held) (λ x none. none))

  -- the newest held token
  held_taken : (link : Link) (left : List Link) → cells.frees ≡ [] → end_of pool ≤ cells.border → links ≡ link ∷ left
      → Memory pool (record (view_of cells links) { held = left }) t → KeepsOutside link.slot 4 s t
      → TakenBlock pool cells links t link.cell (Some link.slot)
  held_taken link left none full newest memory keeps =
      let at = link.cell in
      let chain = subst (IsHeldChain pool s.parts s.memory (seen_cells cells) (value s.registers 9)) newest holds.memory.held in
      let is_cell = IsHeld-cell holds.memory.shown chain.1 in
      let own_view : IsOwn (record (view_of cells links) { held = left }) at = record {
        some = λ e. subst IsToken e chain.1.is_token;
        not_free = λ e. subst IsToken e chain.1.is_token;
        not_held = chain.2;
      } in
      let given = own_change memory (same_roots t) at (token []) own_view (token-own []) (record { same = λ x apart. refl })
      (is_cell, lit≤ tt, tt) in
      let empty = subst (λ fs. Memory pool
      (record { heap = changed at (token []) (seen_cells cells); frees = fs; border = cells.border; held = left }) t) none
      given in
      let inside : SameInside pool s.memory t.memory = record {
        same = λ x low high. word_kept link.slot 4 s t x keeps
            (beside chain.1.is_slot.apart x low high);
      } in
      let test : nat_lt cells.border (end_of pool) ≡ false = grind (arith, nat_tests) in
      of_link link left (takes at [] cells.border cells) newest
      (ap (λ fs. request_by pool fs (Some at) cells) none
      ∙ ap (λ b. if b then Some (cells.border, takes cells.border [] (cells.border + cell_size) cells, false) else option_map
      (λ x. (x, takes x [] cells.border cells, true)) (Some at)) test)
      (given_holds holds at [] cells.border (given_view cells at [] cells.border left empty) inside chain.2
      (λ x apart. (occurs-none x at (cells_of left) (subst (λ ls. occurs x (cells_of ls) ≡ 0) newest apart)).1))
    where
      beside : (link.slot + 4 ≤ pool.first) ⊎ (end_of pool ≤ link.slot) → (x : ℕ) → pool.first ≤ x → x + 4 ≤ end_of pool
          → (x + 4 ≤ link.slot) ⊎ (link.slot + 4 ≤ x)
      beside (inl before) x low high = inr (omega arith)
      beside (inr behind) x low high = inl (omega arith)

taken_by : {pool : Pool} {cells : Cells} {links : List Link} {s t : Processor} → HoldsCells pool cells links s
    → (cell : ℕ) (then_view : View) (slot : Option ℕ) (count : ℕ)
    → Taken pool (view_of cells links) cell then_view slot count → Memory pool then_view t → EmptiesSlot slot s t
    → (count ≤ 8) × TakenBlock pool cells links t cell slot
taken_by holds cell then_view slot count (from_chain {cell = at} {frees = frees} first) memory same =
    (lit≤ tt, chained_taken holds at frees first memory same)
taken_by holds cell then_view slot count (at_border none below) memory same = (lit≤ tt, fresh_taken holds none below memory same)
taken_by holds cell then_view slot count (from_held {link = link} {links = left} none full newest) memory same =
    (lit≤ tt, held_taken holds link left none full newest memory same.1)

-- what is given is a cell
taken_cell : {pool : Pool} {view : View} {cell : ℕ} {then_view : View} {slot : Option ℕ} {count : ℕ} (s : Processor)
    → Memory pool view s → Taken pool view cell then_view slot count → IsCell pool cell
taken_cell {view = view} s memory (from_chain {cell = at} first) =
    let chain = subst (IsChain s.memory view.heap (value s.registers 8)) first memory.chain in
    shown-cell memory.shown at free chain.1 (λ e. cc)
taken_cell s memory (at_border none below) = record
    { behind = memory.has_border.behind; before = below; aligned = memory.has_border.aligned }
taken_cell {pool = pool} {view = view} s memory (from_held none full newest) =
    let chain = subst (IsHeldChain pool s.parts s.memory view.heap (value s.registers 9)) newest memory.held in
    IsHeld-cell memory.shown chain.1

-- a request has given a block
pub take_blocks : {code : Code} {pool : Pool} {cells : Cells} {links : List Link} {s t : Processor} → HoldsCells pool cells links s
    → (after : AfterTake code pool (view_of cells links) s t)
    → (after.count ≤ 8) × IsCell pool after.cell × TakenBlock pool cells links t after.cell after.slot
take_blocks {s = s} holds after =
    let given = taken_by holds after.cell after.then_view after.slot after.count after.taken after.cells after.memory in
    (given.0, taken_cell s holds.memory after.taken, given.1)

-- ---- tokens

-- a block of the program's own, seen as a token of the fields that are known
pub token_view : {pool : Pool} {cells : Cells} {links : List Link} {s : Processor} → HoldsCells pool cells links s
    → (at : ℕ) (words : ℕ → Option ℕ) → cells.blocks at ≡ own words
    → Memory pool (record (view_of cells links) { heap = changed at (token (fields_of words)) (seen_cells cells) }) s
token_view {s = s} holds at words is =
    own_change holds.memory (same_roots s) at (token (fields_of words)) (is-own holds at words is) (token-own (fields_of words))
    (record { same = λ x apart. refl }) (
      own-cell holds at words is,
      known-length words 2 6,
      known-fields s.memory at 0 words (omega arith)
          (own-known holds at words is),
    )

-- a token is held
pub held_holds : {pool : Pool} {cells : Cells} {links : List Link} {s t : Processor} → HoldsCells pool cells links s
    → (at slot : ℕ) (words : ℕ → Option ℕ) → cells.blocks at ≡ own words
    → Memory pool (record {
      heap = changed at (token (fields_of words))
          (seen_cells cells);
      frees = cells.frees;
      border = cells.border;
      held = record { cell = at; slot = slot } ∷ links;
    }) t
    → KeepsOutside at 8 s t → HoldsCells pool (with_block at (kept words) cells) (record { cell = at; slot = slot } ∷ links) t
held_holds {pool} {cells} {links} {s} {t} holds at slot words is memory keeps =
    let cell = own-cell holds at words is in
    let but : SameBut s.memory t.memory at = record { same = λ x apart. word_kept at 8 s t x keeps (beside x apart) } in
    record {
      memory = subst (λ h. Memory pool
          (record { heap = h; frees = cells.frees; border = cells.border; held = record { cell = at; slot = slot } ∷ links }) t)
          (sym (seen-changed at (kept words) cells)) memory;
      known = λ x. placed-by (IsKnown t.memory x) x at (kept words) cells
          (λ e. subst (λ y. AreKnown t.memory y 2 words) (sym e) (λ i w low high there.
          let old = own-known holds at words is i w (omega arith) high there in
          (word_kept at 8 s t (at + 4 * i) keeps (inr (omega arith)) ∙ old.0, old.1)))
          (λ differ. block-same holds t.memory x (cells.blocks x) refl (λ other. SameWords-but but cell x differ other));
      apart = λ x. placed-by (λ b. IsOwnBlock b → occurs x (at ∷ cells_of links) ≡ 0) x at (kept words) cells
          (λ e own_now. absurd own_now)
          (λ differ own_now. occurs-other x at (cells_of links) differ ∙ holds.apart x own_now);
    }
  where
    beside : (x : ℕ) → (x + 4 ≤ at) ⊎ (at + cell_size ≤ x) → (x + 4 ≤ at) ⊎ (at + 8 ≤ x)
    beside x (inl before) = inl before
    beside x (inr behind) = inr (omega arith)

past_known : (words : ℕ → Option ℕ) (i w : ℕ) (low : Bool) → nat_lt i 2 ≡ low → (if low then None else words i) ≡ Some w
    → (2 ≤ i) × (words i ≡ Some w)
past_known words i w true test is = cc
past_known words i w false test is = (grind (arith, nat_tests), is)

-- the newest token is held no longer
pub unheld_holds : {pool : Pool} {cells : Cells} {link : Link} {links : List Link} {s t : Processor}
    → HoldsCells pool cells (link ∷ links) s → (words : ℕ → Option ℕ) → cells.blocks link.cell ≡ kept words
    → Memory pool (view_of cells links) t → t.memory ≡ s.memory
    → HoldsCells pool (with_block link.cell (own (past_links words)) cells) links t
unheld_holds {pool} {cells} {link} {links} {s} {t} holds words is memory same =
    let at = link.cell in
    let seen_is : seen_cells cells at ≡ token (fields_of words) = ap seen is in
    let heap_is : seen_cells (with_block at (own (past_links words)) cells) ≡ seen_cells cells
    = seen-changed at (own (past_links words)) cells ∙ changed-nothing at (token (fields_of words)) (seen_cells cells) seen_is in
    record {
      memory = subst (λ h. Memory pool (record { heap = h; frees = cells.frees; border = cells.border; held = links }) t)
          (sym heap_is) memory;
      known = λ x. placed-by (IsKnown t.memory x) x at (own (past_links words)) cells
          (λ e. subst (λ y. AreKnown t.memory y 0 (past_links words)) (sym e) (λ i w low high there.
          let past = past_known words i w (nat_lt i 2) refl there in
          let old = (subst (IsKnown s.memory at) is (holds.known at)) i w past.0 high past.1 in
          (ap (λ m. word m (at + 4 * i)) same ∙ old.0, old.1)))
          (λ differ. block-same holds t.memory x (cells.blocks x) refl
          (λ other. record { same = λ y low high. ap (λ m. word m y) same }));
      apart = λ x. placed-by (λ b. IsOwnBlock b → occurs x (cells_of links) ≡ 0) x at (own (past_links words)) cells
          (λ e own_now. subst (λ y. occurs y (cells_of links) ≡ 0) (sym e) holds.memory.held.2)
          (λ differ own_now. (occurs-none x at (cells_of links) (holds.apart x own_now)).1);
    }

-- ---- the start

seen_unused : (test : Bool) → seen (if test then unused else no_block) ≡ (if test then free else no_cell)
seen_unused true = refl
seen_unused false = refl

known_unused : (memory : ℕ → ℕ) (at : ℕ) (test : Bool) → IsKnown memory at (if test then unused else no_block)
known_unused memory at true = tt
known_unused memory at false = tt

none_own : (test : Bool) → IsOwnBlock (if test then unused else no_block) → ⊥
none_own true mine = mine
none_own false mine = mine

-- memory has the cells of which none was ever used
pub start_holds : {pool : Pool} {t : Processor} → Memory pool (first_view pool) t → HoldsCells pool (unused_cells pool) [] t
start_holds {pool} {t} memory = record {
  memory = subst (λ h. Memory pool (record { heap = h; frees = []; border = pool.first; held = [] }) t)
      (fun_ext (λ at. sym (seen_unused (nat_le pool.first at && nat_lt at (end_of pool) && nat_eq (at % cell_size) 0)))) memory;
  known = λ at. known_unused t.memory at (nat_le pool.first at && nat_lt at (end_of pool) && nat_eq (at % cell_size) 0);
  apart = λ at mine. absurd (none_own (nat_le pool.first at && nat_lt at (end_of pool) && nat_eq (at % cell_size) 0) mine);
}
