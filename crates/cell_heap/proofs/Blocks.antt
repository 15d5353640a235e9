-- What memory has of blocks: loads and stores of a program's own blocks, and what they touch.
use Rattle.std.proofs.Common.{◌≡◌, ◌≢◌, ◌≤◌, ◌<◌, ℕ, zero, suc, ◌+◌, ◌*◌, ◌/◌, ◌%◌, ◌^◌, ◌⊎◌, inl, inr, List, ◌∷◌, Option, Some, None, option_map, Bool, true, false, ◌&&◌, if◌then◌else◌, nat_eq, nat_lt, length, map, refl, sym, ap, ◌∙◌, subst, arith}
use mathlib.Core.Path.{fun_ext}
use Rattle.std.proofs.lemmas.Bool.{cases_lt}
use Rattle.std.proofs.lemmas.Bool.Decides.{nat_tests}
use Rattle.rv_isa.specs.Bytes.{with_number, Apart}
use Rattle.rv_isa.specs.Numbers.{cell_size, cell_words}
use Rattle.rv_isa.specs.Processor.{Processor, value, can_load, can_store}
use Rattle.rv_isa.proofs.Memory.{word-same, word-apart}
use Rattle.cell_heap.specs.Cells.{Cell, no_cell, free, token, counted, changed, occurs}
use Rattle.cell_heap.specs.Pool.{Pool, end_of, IsCell}
use Rattle.cell_heap.specs.View.{Link}
use Rattle.cell_heap.specs.Memory.{word, HasWords, Shows, Memory}
use Rattle.cell_heap.specs.Blocks.{Block, no_block, unused, own, kept, Cells, with_block, with_word, index_of, word_in, load, stored_in, store, known_then, known_from, fields_of, seen_with, seen, seen_cells, view_of}
use Rattle.cell_heap.specs.ProgramMemory.{AreKnown, IsKnown, IsOwnBlock, HoldsCells, SameRoots, IsOwnWord}
use Rattle.cell_heap.proofs.Frames.{SameWords, SameBut, SameBut-store, SameWords-but, SameInside, SameWords-inside, SameSlots, shown-cell, cell-inside}
use Rattle.cell_heap.proofs.OutsideChanges.{IsOwn, IsOwnState, counted-own, token-own, own_change, outside_store, own_free}

pub mapped : {A B : Type 0} (f : A → B) (o : Option A) (b : B) → option_map f o ≡ Some b → (a : A) × (o ≡ Some a) × (f a ≡ b)
mapped f None b is = cc
mapped f (Some a) b is = (a, refl, cc)

-- ---- places in a block

by_index : (offset i : ℕ) (whole low : Bool) → nat_eq (offset % 4) 0 ≡ whole → nat_lt offset cell_size ≡ low → (if whole && low then Some (offset / 4) else None) ≡ Some i → (offset ≡ 4 * i) × (i < cell_words)
by_index offset i true true whole low is =
    let at : offset / 4 ≡ i = cc in
    let none : offset % 4 ≡ 0 = grind (arith, nat_tests) in
    let below : offset < cell_size = grind (arith, nat_tests) in
    (omega arith, omega arith)
by_index offset i true false whole low is = cc
by_index offset i false low whole test is = cc

pub index-is : (offset i : ℕ) → index_of offset ≡ Some i → (offset ≡ 4 * i) × (i < cell_words)
index-is offset i is = by_index offset i (nat_eq (offset % 4) 0) (nat_lt offset cell_size) refl refl is

-- ---- what is seen of a block

by_mask : (P : Cell → Type 0) (count header : ℕ) (fields : List ℕ) (low : Bool) → nat_lt (header / 256) (2 ^ length fields) ≡ low
    → (header / 256 < 2 ^ length fields → P (counted count (record { tag = header % 256; mask = header / 256; fields = fields }))) → P (token fields)
    → P (if low then counted count (record { tag = header % 256; mask = header / 256; fields = fields }) else token fields)
by_mask P count header fields true test is not = is (grind (arith, nat_tests))
by_mask P count header fields false test is not = not

pub seen-by : (P : Cell → Type 0) (c h : Option ℕ) (fields : List ℕ)
    → ((count header : ℕ) → c ≡ Some count → h ≡ Some header → header / 256 < 2 ^ length fields → P (counted count (record { tag = header % 256; mask = header / 256; fields = fields })))
    → P (token fields) → P (seen_with c h fields)
seen-by P None h fields is not = not
seen-by P (Some count) None fields is not = not
seen-by P (Some count) (Some header) fields is not =
    by_mask P count header fields (nat_lt (header / 256) (2 ^ length fields)) refl (λ below. is count header refl refl below) not

pub seen-some : (words : ℕ → Option ℕ) → seen (own words) ≢ no_cell
seen-some words = seen-by (λ c. c ≢ no_cell) (words 0) (words 1) (fields_of words) (λ count header a b below e. cc) (λ e. cc)

pub seen-not_free : (words : ℕ → Option ℕ) → seen (own words) ≢ free
seen-not_free words = seen-by (λ c. c ≢ free) (words 0) (words 1) (fields_of words) (λ count header a b below e. cc) (λ e. cc)

pub seen-own : (words : ℕ → Option ℕ) → IsOwnState (seen (own words))
seen-own words =
    seen-by IsOwnState (words 0) (words 1) (fields_of words) (λ count header a b below. counted-own count (record { tag = header % 256; mask = header / 256; fields = fields_of words }))
    (token-own (fields_of words))

by_place : (x at : ℕ) (block : Block) (cells : Cells) (same : Bool) → nat_eq x at ≡ same
    → seen (if same then block else cells.blocks x) ≡ (if same then seen block else seen_cells cells x)
by_place x at block cells true test = refl
by_place x at block cells false test = refl

pub seen-changed : (at : ℕ) (block : Block) (cells : Cells) → seen_cells (with_block at block cells) ≡ changed at (seen block) (seen_cells cells)
seen-changed at block cells = fun_ext (λ x. by_place x at block cells (nat_eq x at) refl)

-- ---- known words

then-length : (w : Option ℕ) (rest : List ℕ) (n : ℕ) → length rest ≤ n → length (known_then w rest) ≤ suc n
then-length None rest n few = omega arith
then-length (Some v) rest n few = omega arith

pub known-length : (words : ℕ → Option ℕ) (i n : ℕ) → length (known_from words i n) ≤ n
known-length words i zero = omega arith
known-length words i (suc n) =
    then-length (words i) (known_from words (suc i) n) n (known-length words (suc i) n)

then-words : (memory : ℕ → ℕ) (at : ℕ) (w : Option ℕ) (rest : List ℕ) → ((v : ℕ) → w ≡ Some v → word memory at ≡ v) → HasWords memory (at + 4) rest → HasWords memory at (known_then w rest)
then-words memory at None rest is has = tt
then-words memory at (Some v) rest is has = (is v refl, has)

known-words : (memory : ℕ → ℕ) (at first : ℕ) (words : ℕ → Option ℕ) → AreKnown memory at first words → (i n : ℕ) → first ≤ i → i + n ≤ 8 → HasWords memory (at + 4 * i) (known_from words i n)
known-words memory at first words known i zero low high = tt
known-words memory at first words known i (suc n) low high =
    let next : at + 4 * suc i ≡ at + 4 * i + 4 = omega arith in
    then-words memory (at + 4 * i) (words i) (known_from words (suc i) n) (λ v is. (known i v low (omega arith) is).0)
    (subst (λ a. HasWords memory a (known_from words (suc i) n)) next (known-words memory at first words known (suc i) n (omega arith) (omega arith)))

pub known-fields : (memory : ℕ → ℕ) (at first : ℕ) (words : ℕ → Option ℕ) → first ≤ 2 → AreKnown memory at first words → HasWords memory (at + 8) (fields_of words)
known-fields memory at first words low known = known-words memory at first words known 2 6 low (omega arith)

-- memory shows what is seen of a block of the program's own
pub shows-known : (pool : Pool) (memory : ℕ → ℕ) (at : ℕ) (words : ℕ → Option ℕ) → IsCell pool at → AreKnown memory at 0 words → Shows pool memory at (seen (own words))
shows-known pool memory at words cell known =
    seen-by (Shows pool memory at) (words 0) (words 1) (fields_of words)
    (λ count header count_is header_is below.
    let first : word memory (at + 4 * 0) ≡ count = (known 0 count (omega arith) (omega arith) count_is).0 in
    let second : word memory (at + 4 * 1) ≡ header = (known 1 header (omega arith) (omega arith) header_is).0 in
    let there : at + 4 * 0 ≡ at = omega arith in
    let behind : at + 4 * 1 ≡ at + 4 = omega arith in
    let parts : header ≡ header % 256 + 256 * (header / 256) = omega arith in (
      cell,
      ap (word memory) (sym there) ∙ first,
      (known 0 count (omega arith) (omega arith) count_is).1,
      record {
        header = ap (word memory) (sym behind) ∙ second ∙ parts;
        tag = omega arith;
        mask = below;
        few = known-length words 2 6;
        fields = known-fields memory at 0 words (omega arith) known;
      },
    ))
    (cell, known-length words 2 6, known-fields memory at 0 words (omega arith) known)

-- ---- the program's own blocks

pub loaded-own : (block : Block) (index : Option ℕ) (w : ℕ) → word_in block index ≡ Some w → (words : ℕ → Option ℕ) × (i : ℕ) × (block ≡ own words) × (index ≡ Some i) × (words i ≡ Some w)
loaded-own (own words) (Some i) w is = (words, i, refl, refl, is)
loaded-own (own words) None w is = cc
loaded-own no_block index w is = cc
loaded-own unused index w is = cc
loaded-own (kept words) index w is = cc

pub stored-own : (block : Block) (index : Option ℕ) (w : ℕ) (next : Block) → stored_in block index w ≡ Some next
    → (words : ℕ → Option ℕ) × (i : ℕ) × (block ≡ own words) × (index ≡ Some i) × (next ≡ own (with_word i w words))
stored-own (own words) (Some i) w next is = (words, i, refl, refl, cc)
stored-own (own words) None w next is = cc
stored-own no_block index w next is = cc
stored-own unused index w next is = cc
stored-own (kept words) index w next is = cc

module _ {pool : Pool} {cells : Cells} {links : List Link} {s : Processor} (holds : HoldsCells pool cells links s) (at : ℕ) (words : ℕ → Option ℕ) (is : cells.blocks at ≡ own words) where
  seen-is : seen_cells cells at ≡ seen (own words)
  seen-is = ap seen is

  pub own-cell : IsCell pool at
  own-cell = shown-cell holds.memory.shown at (seen (own words)) seen-is (seen-some words)

  pub own-known : AreKnown s.memory at 0 words
  own-known = subst (IsKnown s.memory at) is (holds.known at)

  pub own-apart : occurs at (map (λ link. link.cell) links) ≡ 0
  own-apart = holds.apart at (subst IsOwnBlock (sym is) tt)

  pub is-own : IsOwn (view_of cells links) at
  is-own = record {
    some = λ e. seen-some words (sym seen-is ∙ e);
    not_free = λ e. seen-not_free words (sym seen-is ∙ e);
    not_held = own-apart;
  }

  pub own-inside : (at + cell_size ≤ end_of pool) × (end_of pool < 2 ^ 32)
  own-inside = (cell-inside pool at holds.memory.usable.aligned own-cell, holds.memory.usable.below)

  -- a word of it may be loaded and stored
  pub own-usable : (i : ℕ) → i < cell_words → ((at + 4 * i) % 4 ≡ 0) × (can_load s.parts (at + 4 * i) 4 ≡ true) × (can_store s.parts (at + 4 * i) 4 ≡ true)
  own-usable i low =
      let cell = own-cell in
      let whole = cell.aligned in
      let behind = cell.behind in
      let inside = cell-inside pool at holds.memory.usable.aligned cell in (
        omega arith,
        holds.memory.usable.loads (at + 4 * i) (omega arith) (omega arith),
        holds.memory.usable.stores (at + 4 * i) (omega arith) (omega arith),
      )

  -- and is none of another cell's, so of no free one's
  pub own-no_other : (i x : ℕ) → i < cell_words → IsCell pool x → x ≢ at → (at + 4 * i + 4 ≤ x) ⊎ (x + cell_size ≤ at + 4 * i)
  own-no_other i x low other differ =
      let cell = own-cell in
      let whole = cell.aligned in
      let other_whole = other.aligned in
      elim (cases_lt at x) [ inl below ↦ inl (omega arith) | inr above ↦ inr (omega arith) ]

  pub own-no_free : (i x : ℕ) → i < cell_words → seen_cells cells x ≡ free → (at + 4 * i + 4 ≤ x) ⊎ (x + cell_size ≤ at + 4 * i)
  own-no_free i x low is_free =
      own-no_other i x low (shown-cell holds.memory.shown x free is_free (λ e. cc)) (λ e. seen-not_free words (sym seen-is ∙ ap (seen_cells cells) (sym e) ∙ is_free))

-- a block of which a word is loaded or stored
pub loaded-block : (cells : Cells) (at offset w : ℕ) → load at offset cells ≡ Some w → (words : ℕ → Option ℕ) × (cells.blocks at ≡ own words) × (offset + 4 ≤ cell_size)
loaded-block cells at offset w is =
    let found = loaded-own (cells.blocks at) (index_of offset) w is in
    let place = index-is offset found.1 found.3 in
    (found.0, found.2, omega (arith, place.0, place.1))

pub stored-block : (cells next : Cells) (at offset w : ℕ) → store at offset w cells ≡ Some next → (words : ℕ → Option ℕ) × (cells.blocks at ≡ own words) × (offset + 4 ≤ cell_size)
stored-block cells next at offset w is =
    let done = mapped (λ block. with_block at block cells) (stored_in (cells.blocks at) (index_of offset) w) next is in
    let found = stored-own (cells.blocks at) (index_of offset) w done.0 done.1 in
    let place = index-is offset found.1 found.3 in
    (found.0, found.2, omega (arith, place.0, place.1))

-- ---- a load

pub own-word : {pool : Pool} {cells : Cells} {links : List Link} {s : Processor} → HoldsCells pool cells links s → (at offset i : ℕ) (words : ℕ → Option ℕ) → cells.blocks at ≡ own words → index_of offset ≡ Some i → IsOwnWord cells at offset s
own-word {s = s} holds at offset i words is index =
    let place = index-is offset i index in
    let offset_is = place.0 in
    let low = place.1 in
    let there : at + 4 * i ≡ at + offset = omega arith in
    let usable = own-usable holds at words is i low in
    record {
      within = omega arith;
      aligned = subst (λ a. a % 4 ≡ 0) there usable.0;
      loads = subst (λ a. can_load s.parts a 4 ≡ true) there usable.1;
      stores = subst (λ a. can_store s.parts a 4 ≡ true) there usable.2;
      no_free = λ x is_free. subst (λ a. (a + 4 ≤ x) ⊎ (x + cell_size ≤ a)) there (own-no_free holds at words is i x low is_free);
    }

-- what is loaded is there
pub load-shows : {pool : Pool} {cells : Cells} {links : List Link} {s : Processor} → HoldsCells pool cells links s → (at offset w : ℕ) → load at offset cells ≡ Some w
    → IsOwnWord cells at offset s × (word s.memory (at + offset) ≡ w) × (w < 2 ^ 32)
load-shows {cells = cells} {s = s} holds at offset w is =
    let found = loaded-own (cells.blocks at) (index_of offset) w is in
    let i = found.1 in
    let place = index-is offset i found.3 in
    let offset_is = place.0 in
    let there : at + offset ≡ at + 4 * i = omega arith in
    let known = own-known holds at found.0 found.2 i w (omega arith) place.1 found.4 in
    (own-word holds at offset i found.0 found.2 found.3, ap (word s.memory) there ∙ known.0, known.1)

-- ---- what stays known

known-same : (old new : ℕ → ℕ) (x first : ℕ) (words : ℕ → Option ℕ) → SameWords old new x (x + cell_size) → AreKnown old x first words → AreKnown new x first words
known-same old new x first words same known i w low high is =
    let old_word = known i w low high is in
    (same.same (x + 4 * i) (omega arith) (omega arith) ∙ old_word.0, old_word.1)

-- of a block whose words are the same
pub block-same : {pool : Pool} {cells : Cells} {links : List Link} {s : Processor} → HoldsCells pool cells links s → (new : ℕ → ℕ) (x : ℕ) (block : Block) → cells.blocks x ≡ block
    → (IsCell pool x → SameWords s.memory new x (x + cell_size)) → IsKnown new x block
block-same holds new x no_block is same = tt
block-same holds new x unused is same = tt
block-same {s = s} holds new x (own words) is same =
    known-same s.memory new x 0 words (same (own-cell holds x words is)) (own-known holds x words is)
block-same {cells = cells} {s = s} holds new x (kept words) is same =
    known-same s.memory new x 2 words (same (shown-cell holds.memory.shown x (token (fields_of words)) (ap seen is) (λ e. cc)))
    (subst (IsKnown s.memory x) is (holds.known x))

pub placed-by : (P : Block → Type 0) (x at : ℕ) (block : Block) (cells : Cells) → (x ≡ at → P block) → (x ≢ at → P (cells.blocks x)) → P ((with_block at block cells).blocks x)
placed-by P x at block cells same other = by_test (nat_eq x at) refl
  where
    by_test : (b : Bool) → nat_eq x at ≡ b → P (if b then block else cells.blocks x)
    by_test true test = same (grind (arith, nat_tests))
    by_test false test = other (grind (arith, nat_tests))

-- ---- a store

stored-known : (memory : ℕ → ℕ) (at i w : ℕ) (words : ℕ → Option ℕ) → i < cell_words → w < 2 ^ 32 → AreKnown memory at 0 words → AreKnown (with_number (at + 4 * i) 4 w memory) at 0 (with_word i w words)
stored-known memory at i w words low fits known j v from below is = by_word (nat_eq j i) refl is
  where
    by_word : (b : Bool) → nat_eq j i ≡ b → (if b then Some w else words j) ≡ Some v → (word (with_number (at + 4 * i) 4 w memory) (at + 4 * j) ≡ v) × (v < 2 ^ 32)
    by_word true test is =
        let same : j ≡ i = grind (arith, nat_tests) in
        let value_is : w ≡ v = cc in
        (subst (λ k. word (with_number (at + 4 * i) 4 w memory) (at + 4 * k) ≡ v) (sym same) (word-same (at + 4 * i) w memory fits ∙ value_is), subst (λ n. n < 2 ^ 32) value_is fits)
    by_word false test is =
        let differ : j ≢ i = grind (arith, nat_tests) in
        let old = known j v from below is in
        (word-apart (at + 4 * i) w memory (at + 4 * j) (other_word differ) ∙ old.0, old.1)
      where
        other_word : j ≢ i → Apart (at + 4 * i) 4 (at + 4 * j) 4
        other_word differ = elim (cases_lt j i) [ inl before ↦ inl (omega arith) | inr behind ↦ inr (omega arith) ]

-- where a word is stored it may be
pub store-shows : {pool : Pool} {cells : Cells} {links : List Link} {s : Processor} → HoldsCells pool cells links s → (at offset w : ℕ) (next : Cells) → store at offset w cells ≡ Some next → IsOwnWord cells at offset s
store-shows {cells = cells} holds at offset w next is =
    let done = mapped (λ block. with_block at block cells) (stored_in (cells.blocks at) (index_of offset) w) next is in
    let found = stored-own (cells.blocks at) (index_of offset) w done.0 done.1 in
    own-word holds at offset found.1 found.0 found.2 found.3

-- a word of a block of the program's own is stored
pub store-holds : {pool : Pool} {cells : Cells} {links : List Link} {s t : Processor} → HoldsCells pool cells links s → SameRoots s t → (at offset w : ℕ) (next : Cells) → store at offset w cells ≡ Some next → w < 2 ^ 32
    → t.memory ≡ with_number (at + offset) 4 w s.memory → HoldsCells pool next links t
store-holds {pool} {cells} {links} {s} {t} holds same at offset w next is fits stored =
    let done = mapped (λ block. with_block at block cells) (stored_in (cells.blocks at) (index_of offset) w) next is in
    let found = stored-own (cells.blocks at) (index_of offset) w done.0 done.1 in
    let words = found.0 in
    let i = found.1 in
    let place = index-is offset i found.3 in
    let offset_is = place.0 in
    let low = place.1 in
    let there : at + offset ≡ at + 4 * i = omega arith in
    let kept_at : t.memory ≡ with_number (at + 4 * i) 4 w s.memory = stored ∙ ap (λ a. with_number a 4 w s.memory) there in
    let cell = own-cell holds at words found.2 in
    let but : SameBut s.memory t.memory at = subst (λ m. SameBut s.memory m at) (sym kept_at) (SameBut-store s.memory at (at + 4 * i) w (omega arith) (omega arith)) in
    let known : AreKnown t.memory at 0 (with_word i w words) = subst (λ m. AreKnown m at 0 (with_word i w words)) (sym kept_at) (stored-known s.memory at i w words low fits (own-known holds at words found.2)) in
    let new = own (with_word i w words) in
    let memory = own_change holds.memory same at (seen new) (is-own holds at words found.2) (seen-own (with_word i w words)) but (shows-known pool t.memory at (with_word i w words) cell known) in
    let result : HoldsCells pool (with_block at new cells) links t = record {
      memory = subst (λ h. Memory pool (record (view_of cells links) { heap = h }) t) (sym (seen-changed at new cells)) memory;
      known = λ x. placed-by (IsKnown t.memory x) x at new cells
          (λ e. subst (λ y. IsKnown t.memory y new) (sym e) known)
          (λ differ. block-same holds t.memory x (cells.blocks x) refl (λ other. SameWords-but but cell x differ other));
      apart = λ x. placed-by (λ b. IsOwnBlock b → occurs x (map (λ link. link.cell) links) ≡ 0) x at new cells
          (λ e own_now. subst (λ y. occurs y (map (λ link. link.cell) links) ≡ 0) (sym e) (own-apart holds at words found.2))
          (λ differ own_now. holds.apart x own_now);
    } in
    subst (λ c. HoldsCells pool c links t) (ap (λ block. with_block at block cells) (sym found.4) ∙ done.2) result

-- ---- a token is freed

pub release-holds : {pool : Pool} {cells : Cells} {links : List Link} {s t : Processor} → HoldsCells pool cells links s → (at : ℕ) (words : ℕ → Option ℕ) → cells.blocks at ≡ own words
    → t.parts ≡ s.parts → t.memory ≡ with_number at 4 (value s.registers 8) s.memory
    → value t.registers 8 ≡ at → value t.registers 9 ≡ value s.registers 9 → value t.registers 18 ≡ value s.registers 18 → value t.registers 19 ≡ value s.registers 19
    → HoldsCells pool (with_block at unused (record cells { frees = at ∷ cells.frees })) links t
release-holds {pool} {cells} {links} {s} {t} holds at words is parts stored chain held border end =
    let cell = own-cell holds at words is in
    let but : SameBut s.memory t.memory at = subst (λ m. SameBut s.memory m at) (sym stored) (SameBut-store s.memory at at (value s.registers 8) (omega arith) (omega arith)) in
    let memory = own_free holds.memory at (is-own holds at words is) parts stored chain held border end in
    record {
      memory = subst (λ h. Memory pool (record (view_of cells links) { heap = h; frees = at ∷ cells.frees }) t) (sym (seen-changed at unused cells)) memory;
      known = λ x. placed-by (IsKnown t.memory x) x at unused cells
          (λ e. tt)
          (λ differ. block-same holds t.memory x (cells.blocks x) refl (λ other. SameWords-but but cell x differ other));
      apart = λ x. placed-by (λ b. IsOwnBlock b → occurs x (map (λ link. link.cell) links) ≡ 0) x at unused cells
          (λ e own_now. absurd own_now)
          (λ differ own_now. holds.apart x own_now);
    }

-- ---- stores outside of all cells

pub outside-holds : {pool : Pool} {cells : Cells} {links : List Link} {s t : Processor} → HoldsCells pool cells links s → SameRoots s t → SameInside pool s.memory t.memory → SameSlots s.memory t.memory links
    → HoldsCells pool cells links t
outside-holds {cells = cells} {t = t} holds same inside slots = record {
  memory = outside_store holds.memory same inside slots;
  known = λ x. block-same holds t.memory x (cells.blocks x) refl (λ other. SameWords-inside holds.memory.usable.aligned inside x other);
  apart = holds.apart;
}
