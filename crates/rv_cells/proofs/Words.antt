-- Words of blocks are loaded and stored, and cells are made of them.
use Rattle.std.proofs.Common.{◌≡◌, ◌≢◌, ◌≤◌, ◌<◌, ℕ, suc, ◌*◌, ◌%◌, ◌/◌, true, inl, inr, List, [], ◌∷◌, length, Option, Some, nat_eq, nat_lt, refl, sym, ap, ◌∙◌, subst, arith}
use mathlib.Core.Path.{fun_ext}
use Rattle.std.proofs.lemmas.Bool.{cases_eq}
use Rattle.std.proofs.lemmas.Bool.Decides.{nat_tests}
use Rattle.rv_isa.specs.Numbers.{cell_words, cell_size}
use Rattle.cell_heap.specs.Pool.{Pool, IsCell}
use Rattle.cell_heap.specs.Blocks.{own, kept, Cells, with_block, with_word, index_of, load, store}
use Rattle.kk_source.specs.State.{Value, integer, unit, constant, place, Cell}
use Rattle.kk_source.specs.Sound.{Within, AllWithin}
use Rattle.kk_counted.specs.Heaps.{Held, Heap, count_in, count_at, set_count, fields_held}
use Rattle.kk_counted.proofs.CountChanges.{count_set}
use Rattle.rv_cells.specs.Layout.{Layout, word_in, words_in, first_field}
use Rattle.rv_cells.specs.CountedCells.{AreFrom, IsBlockOf, Owner, cell_of, in_hand, kept_aside, IsCellOf, BlockOf, Follows, with_owner, assign}
use Rattle.rv_cells.proofs.NameContents.{held_new, held_older, held_within, held_set, held_other, held_fields}
use Rattle.rv_cells.proofs.Owners.{chosen_by, chosen_same, chosen_other, own-unused, own-words, Stays, put_owner, chain_over}

-- ---- a word of a block

pub index_at : (i : ℕ) → i < cell_words → index_of (4 * i) ≡ Some i
index_at i low =
    let whole : nat_eq ((4 * i) % 4) 0 ≡ true = grind (arith, nat_tests) in
    let below : nat_lt (4 * i) cell_size ≡ true = grind (arith, nat_tests) in
    let index : (4 * i) / 4 ≡ i = omega arith in
    rw (whole, below) (ap Some index)

pub load_own : (cells : Cells) (at i w : ℕ) (words : ℕ → Option ℕ) → cells.blocks at ≡ own words → i < cell_words → words i ≡ Some w
    → load at (4 * i) cells ≡ Some w
load_own cells at i w words is low known = rw (is, index_at i low) known

pub store_own : (cells : Cells) (at i w : ℕ) (words : ℕ → Option ℕ) → cells.blocks at ≡ own words → i < cell_words
    → store at (4 * i) w cells ≡ Some (with_block at (own (with_word i w words)) cells)
store_own cells at i w words is low = rw (is, index_at i low) refl

-- what is known behind a word does not change with it
pub from_later : (i w j : ℕ) (words : ℕ → Option ℕ) (ws : List ℕ) → i < j → AreFrom words j ws → AreFrom (with_word i w words) j ws
from_later i w j words [] less known = tt
from_later i w j words (v ∷ ws) less known = (
  chosen_other j i (Some w) words (λ e. omega (arith, e, less)) ∙ known.0,
  from_later i w (suc j) words ws
      (omega (arith, less)) known.1,
)

-- ---- addresses of older names

pub value_older : (layout : Layout) (name at : ℕ) (address : ℕ → ℕ) (v : Value) → Within name v
    → word_in layout (assign name at address) v ≡ word_in layout address v
value_older layout name at address (integer n) older = refl
value_older layout name at address unit older = refl
value_older layout name at address (constant c) older = refl
value_older layout name at address (place other) older = chosen_other other name at address (λ e. omega (arith, e, older))

pub words_older : (layout : Layout) (name at : ℕ) (address : ℕ → ℕ) (vs : List Value) → AllWithin name vs
    → words_in layout (assign name at address) vs ≡ words_in layout address vs
words_older layout name at address [] older = refl
words_older layout name at address (v ∷ vs) older =
    let first = value_older layout name at address v older.0 in
    let rest = words_older layout name at address vs older.1 in
    rw (first, rest) refl

pub within_more : (n m : ℕ) (v : Value) → n ≤ m → Within n v → Within m v
within_more n m (integer z) le within = tt
within_more n m unit le within = tt
within_more n m (constant c) le within = tt
within_more n m (place at) le within = omega (arith, le, within)

pub all_within_more : (n m : ℕ) (vs : List Value) → n ≤ m → AllWithin n vs → AllWithin m vs
all_within_more n m [] le within = tt
all_within_more n m (v ∷ vs) le within = (within_more n m v le within.0, all_within_more n m vs le within.1)

pub same_owner : (at : ℕ) (owner : Owner) (owners : ℕ → Owner) → owners at ≡ owner → with_owner at owner owners ≡ owners
same_owner at owner owners is =
    fun_ext (λ x. chosen_by (λ o. o ≡ owners x) x at owner owners (λ e. sym is ∙ ap owners (sym e)) (λ differ. refl))

-- ---- the cells

module _ {pool : Pool} {layout : Layout} {address : ℕ → ℕ} {owners : ℕ → Owner} {heap : Heap} {cells : Cells}
    (follows : Follows pool layout address owners heap cells) where
  pub cell_owned : (name at : ℕ) → owners at ≡ cell_of name → IsCellOf pool layout address heap name at (cells.blocks at)
  cell_owned name at is = subst (λ o. BlockOf pool layout address heap at o (cells.blocks at)) is (follows.blocks at)

  pub cell_named : (name : ℕ) → 1 ≤ count_at heap name → IsCellOf pool layout address heap name (address name)
      (cells.blocks (address name))
  cell_named name some = cell_owned name (address name) (follows.named name some)

  pub hand_owned : (at : ℕ) (words : ℕ → Option ℕ) → owners at ≡ in_hand words → IsCell pool at × (cells.blocks at ≡ own words)
  hand_owned at words is = subst (λ o. BlockOf pool layout address heap at o (cells.blocks at)) is (follows.blocks at)

  pub aside_owned : (at : ℕ) (words : ℕ → Option ℕ) → owners at ≡ kept_aside words → IsCell pool at × (cells.blocks at ≡ kept words)
  aside_owned at words is = subst (λ o. BlockOf pool layout address heap at o (cells.blocks at)) is (follows.blocks at)

  not_cell : (at name : ℕ) (words : ℕ → Option ℕ) → owners at ≡ in_hand words → owners at ≢ cell_of name
  not_cell at name words is other = let both : in_hand words ≡ cell_of name = sym is ∙ other in cc

  -- no counted name has an address that is not a cell's of a name
  pub kept_names : (at : ℕ) (owner : Owner) (next : Heap) → ((name : ℕ) → owners at ≢ cell_of name)
      → ((name : ℕ) → 1 ≤ count_at next name → 1 ≤ count_at heap name)
      → (name : ℕ) → 1 ≤ count_at next name → with_owner at owner owners (address name) ≡ cell_of name
  kept_names at owner next none fewer name some =
      let owns = follows.named name (fewer name some) in
      chosen_other (address name) at owner owners (λ e. none name (ap owners (sym e) ∙ owns)) ∙ owns

  -- a word of a cell in hand is stored
  pub written : (at i w : ℕ) (words : ℕ → Option ℕ) → owners at ≡ in_hand words
      → Follows pool layout address (with_owner at (in_hand (with_word i w words)) owners) heap
      (with_block at (own (with_word i w words)) cells)
  written at i w words is =
      let stands = hand_owned at words is in
      put_owner follows at (in_hand (with_word i w words)) address heap (with_block at (own (with_word i w words)) cells)
      (stands.0, chosen_same at at (own (with_word i w words)) cells.blocks refl)
      (λ x differ. chosen_other x at (own (with_word i w words)) cells.blocks differ)
      (λ x name differ owns. record { at = refl; held = refl; fields = λ one there. refl })
      (kept_names at (in_hand (with_word i w words)) heap (λ name. not_cell at name words is) (λ name some. some))
      (chain_over follows.chain at (own (with_word i w words)) (λ e. own-unused (sym stands.1 ∙ e)) own-unused)

  -- a cell in hand whose words are there is counted, under a new name
  pub built : (at : ℕ) (words : ℕ → Option ℕ) (cell : Cell) → owners at ≡ in_hand words
      → ((name : ℕ) → AllWithin name (fields_held heap name)) → AllWithin (length heap) cell.fields
      → IsBlockOf layout address (record { count = 1; cell = cell }) words
      → Follows pool layout (assign (length heap) at address) (with_owner at (cell_of (length heap)) owners)
      (record { count = 1; cell = cell } ∷ heap) cells
  built at words cell is older within shows =
      let stands = hand_owned at words is in
      let newest : Held = record { count = 1; cell = cell } in
      put_owner follows at (cell_of (length heap)) (assign (length heap) at address) (newest ∷ heap) cells
      (record {
        cell = stands.0;
        is_at = chosen_same (length heap) (length heap) at address refl;
        held = newest;
        there = held_new newest heap;
        counted = omega arith;
        words = words;
        is = stands.1;
        shows = record {
          count = shows.count;
          header = shows.header;
          fields = subst (AreFrom words first_field) (sym (words_older layout (length heap) at address cell.fields within))
              shows.fields;
          fits = shows.fits;
        };
      })
      (λ x differ. refl)
      (λ x name differ owns. stays name x owns)
      (λ name some. named name some)
      follows.chain
    where
      stays : (name x : ℕ) → owners x ≡ cell_of name → Stays layout address (assign (length heap) at address) heap
          (record { count = 1; cell = cell } ∷ heap) name
      stays name x owns =
          let stands = cell_owned name x owns in
          let less = held_within heap name stands.held stands.there in
          record {
            at = chosen_other name (length heap) at address (λ e. omega (arith, e, less));
            held = held_older (record { count = 1; cell = cell }) heap name (λ e. omega (arith, e, less));
            fields = λ one there. words_older layout (length heap) at address one.cell.fields
                (all_within_more name (length heap) one.cell.fields (omega (arith, less))
                (subst (AllWithin name) (held_fields heap name one there) (older name)));
          }

      named : (name : ℕ) → 1 ≤ count_at (record { count = 1; cell = cell } ∷ heap) name
          → with_owner at (cell_of (length heap)) owners (assign (length heap) at address name) ≡ cell_of name
      named name some =
          elim (cases_eq (length heap) name) [
            | inl e ↦
                chosen_same (assign (length heap) at address name) at (cell_of (length heap)) owners
                (chosen_same name (length heap) at address (sym e)) ∙ ap cell_of e
            | inr differ ↦
                (let same = ap count_in (held_older (record { count = 1; cell = cell }) heap name differ) in
                let owns = follows.named name (omega arith) in
                let there = chosen_other name (length heap) at address (λ e. differ (sym e)) in
                ap (with_owner at (cell_of (length heap)) owners) there
                ∙ chosen_other (address name) at (cell_of (length heap)) owners
                (λ e. not_cell at name words is (ap owners (sym e) ∙ owns)) ∙ owns)
          ]

  -- ---- counts

  -- the names that are counted once a count is another one
  fewer : (name n : ℕ) → 1 ≤ count_at heap name → (other : ℕ) → 1 ≤ count_at (set_count name n heap) other → 1 ≤ count_at heap other
  fewer name n counted other some =
      elim (cases_eq name other) [
        | inl e ↦ subst (λ m. 1 ≤ count_at heap m) e counted
        | inr differ ↦ (let same = ap count_in (held_other name n other heap differ) in omega arith)
      ]

  others_stay : (name n : ℕ) (x other : ℕ) → x ≢ address name → owners x ≡ cell_of other → Stays layout address address heap
      (set_count name n heap) other
  others_stay name n x other differ owns = record {
    at = refl;
    held = held_other name n other heap (λ e. differ (sym (cell_owned other x owns).is_at ∙ ap address (sym e)));
    fields = λ one there. refl;
  }

  -- the count of a counted cell is stored
  pub recount : (name j : ℕ) (words : ℕ → Option ℕ) → 1 ≤ count_at heap name → cells.blocks (address name) ≡ own words
      → Follows pool layout address owners (set_count name (suc j) heap)
      (with_block (address name) (own (with_word 0 (suc j) words)) cells)
  recount name j words some is =
      let owns = follows.named name some in
      let stands = cell_named name some in
      let same = own-words (sym stands.is ∙ is) in
      subst (λ o. Follows pool layout address o (set_count name (suc j) heap)
      (with_block (address name) (own (with_word 0 (suc j) words)) cells))
      (same_owner (address name) (cell_of name) owners owns)
      (put_owner follows (address name) (cell_of name) address (set_count name (suc j) heap)
      (with_block (address name) (own (with_word 0 (suc j) words)) cells)
      (record {
        cell = stands.cell;
        is_at = refl;
        held = record stands.held { count = suc j };
        there = held_set name (suc j) heap stands.held stands.there;
        counted = omega arith;
        words = with_word 0 (suc j) words;
        is = chosen_same (address name) (address name) (own (with_word 0 (suc j) words)) cells.blocks refl;
        shows = record {
          count = refl;
          header = ap (λ f. f 1) (sym same) ∙ stands.shows.header;
          fields = from_later 0 (suc j) 2 words (words_in layout address stands.held.cell.fields) (omega arith)
              (subst (λ f. AreFrom f first_field (words_in layout address stands.held.cell.fields)) same stands.shows.fields);
          fits = stands.shows.fits;
        };
      })
      (λ x differ. chosen_other x (address name) (own (with_word 0 (suc j) words)) cells.blocks differ)
      (others_stay name (suc j))
      (λ other counted. subst (λ o. o (address other) ≡ cell_of other) (sym (same_owner (address name) (cell_of name) owners owns))
      (follows.named other (fewer name (suc j) some other counted)))
      (chain_over follows.chain (address name) (own (with_word 0 (suc j) words)) (λ e. own-unused (sym stands.is ∙ e)) own-unused))

  -- a cell whose only reference is given up with it is in hand; its words are those that it had
  pub opened_unique : (name : ℕ) (words : ℕ → Option ℕ) → count_at heap name ≡ 1 → cells.blocks (address name) ≡ own words
      → Follows pool layout address (with_owner (address name) (in_hand words) owners) (set_count name 0 heap) cells
  opened_unique name words once is =
      let stands = cell_named name (omega (arith, once)) in
      put_owner follows (address name) (in_hand words) address (set_count name 0 heap) cells
      (stands.cell, is)
      (λ x differ. refl)
      (others_stay name 0)
      named
      follows.chain
    where
      named : (other : ℕ) → 1 ≤ count_at (set_count name 0 heap) other → with_owner (address name) (in_hand words) owners
          (address other) ≡ cell_of other
      named other some =
          elim (cases_eq name other) [
            | inl e ↦
                (let none = count_set name 0 0 heap once in
                let same = ap (count_at (set_count name 0 heap)) e in absurd (omega arith))
            | inr differ ↦
                (let owns = follows.named other (fewer name 0 (omega (arith, once)) other some) in
                let own_name = follows.named name (omega (arith, once)) in
                chosen_other (address other) (address name) (in_hand words) owners
                (λ e. differ (name_of name other (sym own_name ∙ ap owners (sym e) ∙ owns))) ∙ owns)
          ]
        where
          name_of : (one two : ℕ) → cell_of one ≡ cell_of two → one ≡ two
          name_of one two e = cc
