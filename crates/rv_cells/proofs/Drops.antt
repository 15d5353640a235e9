-- A reference of a counted heap is dropped by the runtime's routine, with all that is freed by it.
use Rattle.std.proofs.Common.{◌≡◌, ◌≢◌, ◌≤◌, ◌<◌, ℕ, zero, suc, ◌+◌, ◌*◌, ◌%◌, ◌/◌, ◌^◌, inl, inr, List, [], ◌∷◌, ◌++◌, length, Option, Some, Bool, true, false, nat_lt, refl, sym, ap, ◌∙◌, subst, arith, length-append}
use Rattle.std.proofs.Math.Nat.{pow-suc}
use Rattle.std.proofs.lemmas.List.{length-map}
use mathlib.Core.Path.{fun_ext}
use Rattle.std.proofs.lemmas.Bool.{cases_eq, cases_lt}
use Rattle.std.proofs.lemmas.Bool.Decides.{nat_tests}
use Rattle.cell_heap.specs.Cells.{Cell, no_cell, free, waiting, counted, Heap as SeenHeap, changed, references, chosen, occurs}
use Rattle.cell_heap.specs.Pool.{Pool, IsCell, places}
use Rattle.cell_heap.specs.Counts.{credit}
use Rattle.cell_heap.specs.DropMeaning.{GivesUp}
use Rattle.cell_heap.specs.Turns.{Turns, ended, passed, lower, waits_now, opened, Work}
use Rattle.cell_heap.specs.Blocks.{Block, no_block, unused, own, kept, Cells, with_word, known_then, known_from, fields_of, seen, seen_cells, merged, merged_cells}
use Rattle.cell_heap.proofs.Sums.{occurs-cells, occurs-same, occurs-other, occurs-by}
use Rattle.cell_heap.proofs.Frames.{changed-by}
use Rattle.cell_heap.proofs.CountChanges.{IsListed}
use Rattle.cell_heap.proofs.DropMeaning.{GivesUp-paid}
use Rattle.cell_heap.proofs.RoutineTurns.{given_in_turns, turns_computed_first}
use Rattle.cell_heap.proofs.Blocks.{seen-by, seen-not_free}
use Rattle.kk_source.specs.State.{Value, integer, unit, constant, place}
use Rattle.kk_counted.specs.Heaps.{Held, Heap, count_at, busy, weight, drop_value}
use Rattle.kk_counted.specs.Cost.{drop_turns}
use Rattle.kk_counted.proofs.Cost.{drop_cost}
use Rattle.rv_cells.specs.Layout.{Layout, IsNarrow, mask_of, header_of, word_in, words_in, FitsField, FitFields}
use Rattle.rv_cells.specs.CountedCells.{AreFrom, IsBlockOf, Owner, nobody, cell_of, in_hand, kept_aside, IsCellOf, BlockOf, HasChain, Follows, still_count, still}
use Rattle.rv_cells.specs.Steps.{Dropped, IsPaid}
use Rattle.rv_cells.proofs.NameContents.{held_count, held_fields}
use Rattle.rv_cells.proofs.Owners.{chosen_by}
use Rattle.rv_cells.proofs.Requests.{is_cell, free_is}
use Rattle.rv_cells.proofs.Words.{from_later, cell_owned, cell_named}
use Rattle.rv_cells.proofs.Cascades.{Gives, fields_given, body_in, shown_count, shown_by, Lowered, AreOwners, Stand, shown, cascade}
use Rattle.rv_isa.specs.Numbers.{cell_size}
use Rattle.kk_base.specs.Limits.{greatest_of}
use Rattle.kk_base.specs.declared.limit.LimitKind.TheVariants.{Fields}

-- ---- what is seen of a counted cell's block

fields_known : (words : ℕ → Option ℕ) (i n : ℕ) (ws : List ℕ) → AreFrom words i ws → length ws ≤ n → (more : List ℕ)
    × (known_from words i n ≡ ws ++ more)
fields_known words i zero [] known few = ([], refl)
fields_known words i (suc n) [] known few = (known_from words i (suc n), refl)
fields_known words i zero (w ∷ ws) known few = absurd (omega arith)
fields_known words i (suc n) (w ∷ ws) known few =
    let rest = fields_known words (suc i) n ws known.1 (omega (arith, few)) in
    (rest.0, ap (λ o. known_then o (known_from words (suc i) n)) known.0 ∙ ap (λ l. w ∷ l) rest.1)

pow_some : (n : ℕ) → 0 < 2 ^ n
pow_some zero = omega arith
pow_some (suc n) = let double = pow-suc 2 n in let rest = pow_some n in omega arith

mask_below : (bits : List Bool) (n : ℕ) → length bits ≤ n → mask_of bits < 2 ^ n
mask_below [] n few = pow_some n
mask_below (b ∷ bits) zero few = absurd (omega arith)
mask_below (true ∷ bits) (suc n) few = let double = pow-suc 2 n in let rest = mask_below bits n (omega (arith, few)) in omega arith
mask_below (false ∷ bits) (suc n) few = let double = pow-suc 2 n in let rest = mask_below bits n (omega (arith, few)) in omega arith

pub fits_length : (bits : List Bool) (vs : List Value) → FitFields bits vs → length bits ≡ length vs
fits_length [] [] fits = refl
fits_length [] (v ∷ vs) fits = absurd fits
fits_length (true ∷ bits) [] fits = absurd fits
fits_length (false ∷ bits) [] fits = absurd fits
fits_length (true ∷ bits) (v ∷ vs) fits = ap suc (fits_length bits vs fits.1)
fits_length (false ∷ bits) (v ∷ vs) fits = ap suc (fits_length bits vs fits.1)

module _ {layout : Layout} {address : ℕ → ℕ} {held : Held} {words : ℕ → Option ℕ} (narrow : IsNarrow layout)
    (shows : IsBlockOf layout address held words) where
  mask_is : header_of layout held.cell.made_by / 256 ≡ mask_of (layout.fields held.cell.made_by)
  mask_is = let tag = narrow.tags held.cell.made_by in omega arith

  as_many : length (words_in layout address held.cell.fields) ≡ length (layout.fields held.cell.made_by)
  as_many = length-map held.cell.fields (word_in layout address)
      ∙ sym (fits_length (layout.fields held.cell.made_by) held.cell.fields shows.fits)

  known : (more : List ℕ) × (fields_of words ≡ words_in layout address held.cell.fields ++ more)
  known = fields_known words 2 (greatest_of Fields) (words_in layout address held.cell.fields) shows.fields
      (let few = narrow.few held.cell.made_by in let same = as_many in omega arith)

  pub seen_counted : seen (own words) ≡ counted held.count (body_in (own words))
  seen_counted =
      let few : length (layout.fields held.cell.made_by) ≤ length (fields_of words) =
      (let all = ap length known.1 in
      let both : length (words_in layout address held.cell.fields ++ known.0) ≡ length (words_in layout address held.cell.fields) +
      length known.0 = length-append (words_in layout address held.cell.fields) known.0 in
      let same = as_many in omega arith) in
      let below = mask_below (layout.fields held.cell.made_by) (length (fields_of words)) few in
      let is = mask_is in
      let test : nat_lt (header_of layout held.cell.made_by / 256) (2 ^ length (fields_of words)) ≡ true = grind
      (arith, nat_tests) in
      rw (shows.count, shows.header, test) refl

  pub fields_gives : Gives address held.cell.fields (references (body_in (own words)))
  fields_gives =
      let refs : references (body_in (own words)) ≡ chosen (mask_of (layout.fields held.cell.made_by))
      (words_in layout address held.cell.fields ++ known.0) =
      (rw shows.header (ap (λ m. chosen m (fields_of words)) mask_is ∙ ap (chosen (mask_of (layout.fields held.cell.made_by)))
      known.1)) in
      subst (Gives address held.cell.fields) (sym refs)
      (fields_given layout address (layout.fields held.cell.made_by) held.cell.fields known.0 shows.fits)

-- ---- the chain of free cells through the turns

abbrev IsUsed : Cell → Type 0
IsUsed no_cell = ⊥
IsUsed free = ⊥
IsUsed _ = Unit {0}

record Lists (border : ℕ) (heap : SeenHeap) (frees : List ℕ) : Type 0 where
  chained : (x : ℕ) → heap x ≡ free → x < border → occurs x frees ≡ 1
  members : (x : ℕ) → occurs x frees ≢ 0 → (heap x ≡ free) × (x < border)
  below : (x : ℕ) → IsUsed (heap x) → x < border

lists_changed : {border : ℕ} {heap : SeenHeap} {frees : List ℕ} (at : ℕ) (cell : Cell) → IsUsed (heap at) → IsUsed cell
    → Lists border heap frees → Lists border (changed at cell heap) frees
lists_changed {border} {heap} {frees} at cell was is lists = record {
  chained = λ x. changed-by (λ c. c ≡ free → x < border → occurs x frees ≡ 1) x at cell heap
      (λ e freed. absurd (subst IsUsed freed is)) (λ differ. lists.chained x);
  members = λ x some.
      let old = lists.members x some in (
        changed-by (λ c. c ≡ free) x at cell heap (λ e. absurd (subst IsUsed (ap heap (sym e) ∙ old.0) was))
            (λ differ. old.0),
        old.1,
      );
  below = λ x. changed-by (λ c. IsUsed c → x < border) x at cell heap
      (λ e used. subst (λ y. y < border) (sym e) (lists.below at was)) (λ differ. lists.below x);
}

lists_freed : {border : ℕ} {heap : SeenHeap} {frees : List ℕ} (at : ℕ) → IsUsed (heap at) → Lists border heap frees
    → Lists border (changed at free heap) (at ∷ frees)
lists_freed {border} {heap} {frees} at was lists = record {
  chained = λ x. changed-by (λ c. c ≡ free → x < border → occurs x (at ∷ frees) ≡ 1) x at free heap
      (λ e freed low. occurs-same x at frees e ∙ ap suc (elim (cases_eq (occurs x frees) 0) [
        | inl none ↦ none
        | inr some ↦ absurd (subst IsUsed (ap heap (sym e) ∙ (lists.members x some).0) was)
      ]))
      (λ differ freed low. occurs-other x at frees differ ∙ lists.chained x freed low);
  members = λ x some. elim (occurs-by x at frees some) [
    | inl e ↦ (
      changed-by (λ c. c ≡ free) x at free heap (λ same. refl) (λ differ. absurd (differ e)),
      subst (λ y. y < border)
          (sym e) (lists.below at was),
    )
    | inr later ↦ (let old = lists.members x later in
        (changed-by (λ c. c ≡ free) x at free heap (λ same. refl) (λ differ. old.0), old.1))
  ];
  below = λ x. changed-by (λ c. IsUsed c → x < border) x at free heap (λ e used. absurd used) (λ differ. lists.below x);
}

turns_lists : {refs waits frees left : List ℕ} {heap end : SeenHeap} {gave freed : ℕ} (border : ℕ)
    → Turns refs waits frees heap gave freed left end → Lists border heap frees → Lists border end left
turns_lists border ended lists = lists
turns_lists border (passed odd rest) lists = turns_lists border rest lists
turns_lists border (lower {x = x} {count = count} {body = body} even is rest) lists =
    turns_lists border rest (lists_changed x (counted (suc count) body) (subst IsUsed (sym is) tt) tt lists)
turns_lists border (waits_now {x = x} {body = body} even is rest) lists =
    turns_lists border rest (lists_changed x (waiting body) (subst IsUsed (sym is) tt) tt lists)
turns_lists border (opened {x = x} is rest) lists = turns_lists border rest (lists_freed x (subst IsUsed (sym is) tt) lists)

-- ---- what becomes of blocks

seen_free : (block : Block) → seen block ≡ free → block ≡ unused
seen_free no_block is = cc
seen_free unused is = refl
seen_free (own words) is = absurd (seen-not_free words is)
seen_free (kept words) is = cc

same_word : (i w : ℕ) (words : ℕ → Option ℕ) → words i ≡ Some w → with_word i w words ≡ words
same_word i w words is = fun_ext (λ j. chosen_by (λ o. o ≡ words j) j i (Some w) words (λ e. sym is ∙ ap words (sym e))
    (λ differ. refl))

merged_seen : (words : ℕ → Option ℕ) → merged (seen (own words)) (own words) ≡ own words
merged_seen words =
    seen-by (λ c. merged c (own words) ≡ own words) (words 0) (words 1) (fields_of words)
    (λ count header count_is header_is below. ap own (same_word 0 count words count_is)) refl

gives_one : (layout : Layout) (address : ℕ → ℕ) (v : Value) → FitsField true v → Gives address (v ∷ [])
    (word_in layout address v ∷ [])
gives_one layout address (integer n) fits = absurd fits
gives_one layout address unit fits = inr (1, [], refl, refl, refl)
gives_one layout address (constant c) fits = inr (2 * layout.tag c + 1, [], refl, omega arith, refl)
gives_one layout address (place name) fits = ([], refl, refl)

counted_is : (n : ℕ) (block : Block) → 1 ≤ n → counted n (body_in block) ≡ shown_count n block
counted_is zero block some = absurd (omega (arith, some))
counted_is (suc n) block some = refl

module _ {pool : Pool} {layout : Layout} {address : ℕ → ℕ} {owners : ℕ → Owner} {heap : Heap} {cells : Cells}
    (aligned : pool.first % cell_size ≡ 0) (narrow : IsNarrow layout)
    (follows : Follows pool layout address owners heap cells) where
  are : AreOwners address owners
  are = record {
    is_at = λ x name is. (cell_owned follows name x is).is_at;
    even = λ x name is. let whole = (cell_owned follows name x is).cell.aligned in omega arith;
  }

  stand : Stand address owners cells.blocks heap
  stand = record {
    named = follows.named;
    fields = λ name some.
        let s = cell_named follows name some in
        subst (λ vs. Gives address vs (references (body_in (cells.blocks (address name)))))
        (sym (held_fields heap name s.held s.there))
        (subst (λ b. Gives address s.held.cell.fields (references (body_in b))) (sym s.is) (fields_gives narrow s.shows));
  }

  seen_shown : seen_cells cells ≡ shown address owners cells.blocks are heap
  seen_shown = fun_ext (λ x. by x (owners x) (follows.blocks x))
    where
      by : (x : ℕ) (owner : Owner) → BlockOf pool layout address heap x owner (cells.blocks x)
          → seen (cells.blocks x) ≡ shown_by heap (cells.blocks x) owner
      by x nobody s = refl
      by x (in_hand words) s = refl
      by x (kept_aside words) s = refl
      by x (cell_of name) s =
          ap seen s.is ∙ seen_counted narrow s.shows ∙ ap (λ b. counted s.held.count (body_in b)) (sym s.is)
          ∙ counted_is s.held.count (cells.blocks x) s.counted
          ∙ ap (λ n. shown_count n (cells.blocks x)) (sym (held_count heap name s.held s.there))

  cell_seen : (x : ℕ) → seen_cells cells x ≢ no_cell → IsCell pool x
  cell_seen x some = by (owners x) (follows.blocks x)
    where
      by : (owner : Owner) → BlockOf pool layout address heap x owner (cells.blocks x) → IsCell pool x
      by nobody s = elim (is_cell pool x) [ inl cell ↦ cell | inr not ↦ absurd (some (ap seen (s.none not))) ]
      by (in_hand words) s = s.0
      by (kept_aside words) s = s.0
      by (cell_of name) s = s.cell

  listed : IsListed (places pool) (seen_cells cells)
  listed = record {
    once = λ x some. let cell = cell_seen x some in let whole = cell.aligned in occurs-cells x pool.first pool.cells cell.behind
        cell.before (omega arith);
    even = λ x some. let cell = cell_seen x some in let whole = cell.aligned in omega arith;
  }

  lists : Lists cells.border (seen_cells cells) cells.frees
  lists = record {
    chained = λ x is low. follows.chain.chained x (seen_free (cells.blocks x) is) low;
    members = λ x some. let old = follows.chain.members x some in (ap seen old.0, old.1);
    below = λ x used. elim (cases_lt x cells.border) [
      | inl low ↦ low
      | inr high ↦
          (let cell = cell_seen x (λ none. subst IsUsed none used) in
          absurd (subst IsUsed (ap seen (follows.chain.fresh x cell high)) used))
    ];
  }

  -- ---- the blocks of a later heap

  module _ (next : Heap) (lowered : Lowered heap next) where
    now_counted : (x name count : ℕ) → count_at next name ≡ count → IsCellOf pool layout address heap name x (cells.blocks x)
        → BlockOf pool layout address next x (still_count count name) (merged (shown_count count (cells.blocks x)) (cells.blocks x))
    now_counted x name zero is s = record { free = λ cell. refl; none = λ not. absurd (not s.cell) }
    now_counted x name (suc j) is s =
        let found = lowered.held name s.held s.there in
        let count : found.0 ≡ suc j = sym (held_count next name (record s.held { count = found.0 }) found.1) ∙ is in
        record {
          cell = s.cell;
          is_at = s.is_at;
          held = record s.held { count = found.0 };
          there = found.1;
          counted = omega (arith, count);
          words = with_word 0 found.0 s.words;
          is = ap (merged (counted (suc j) (body_in (cells.blocks x)))) s.is ∙ ap (λ n. own (with_word 0 n s.words)) (sym count);
          shows = record {
            count = refl;
            header = s.shows.header;
            fields = from_later 0 found.0 2 s.words (words_in layout address s.held.cell.fields) (omega arith) s.shows.fields;
            fits = s.shows.fits;
          };
        }

    now_block : (x : ℕ) (owner : Owner) → BlockOf pool layout address heap x owner (cells.blocks x)
        → BlockOf pool layout address next x (still next owner) (merged (shown_by next (cells.blocks x) owner) (cells.blocks x))
    now_block x nobody s = record {
      free = λ cell. ap (λ b. merged (seen b) b) (s.free cell);
      none = λ not. ap (λ b. merged (seen b) b) (s.none not);
    }
    now_block x (in_hand words) s = (s.0, ap (λ b. merged (seen b) b) s.1 ∙ merged_seen words)
    now_block x (kept_aside words) s = (s.0, ap (λ b. merged (seen b) b) s.1)
    now_block x (cell_of name) s = now_counted x name (count_at next name) refl s

    -- a block that is free then is seen as free
    now_free : (x : ℕ) (owner : Owner) → BlockOf pool layout address heap x owner (cells.blocks x)
        → merged (shown_by next (cells.blocks x) owner) (cells.blocks x) ≡ unused
        → shown_by next (cells.blocks x) owner ≡ free
    now_free x nobody s is =
        elim (is_cell pool x) [
          | inl cell ↦ ap seen (s.free cell)
          | inr not ↦ (let both : no_block ≡ unused = sym ((now_block x nobody s).none not) ∙ is in cc)
        ]
    now_free x (in_hand words) s is = let both : own words ≡ unused = sym (now_block x (in_hand words) s).1 ∙ is in cc
    now_free x (kept_aside words) s is = let both : kept words ≡ unused = sym (now_block x (kept_aside words) s).1 ∙ is in cc
    now_free x (cell_of name) s is = by (count_at next name) refl is
      where
        by : (count : ℕ) → count_at next name ≡ count → merged (shown_count count (cells.blocks x)) (cells.blocks x) ≡ unused
            → shown_count count (cells.blocks x) ≡ free
        by zero counts is = refl
        by (suc j) counts is =
            let both : own (with_word 0 (suc j) s.words) ≡ unused = sym
            (ap (merged (counted (suc j) (body_in (cells.blocks x)))) s.is) ∙ is in cc

    now_chain : (work : Work) → work.heap ≡ shown address owners cells.blocks are next → Lists cells.border work.heap work.frees
        → HasChain pool (merged_cells work cells)
    now_chain work is after =
        let shows : (x : ℕ) → work.heap x ≡ shown_by next (cells.blocks x) (owners x) = λ x. ap (λ (h : SeenHeap). h x) is in
        record {
          aligned = follows.chain.aligned;
          behind = follows.chain.behind;
          within = follows.chain.within;
          fresh = λ x cell high.
              let old = follows.chain.fresh x cell high in
              let owns = (free_is follows x old).0 in
              ap (λ c. merged c (cells.blocks x)) (shows x) ∙ ap (λ o. merged (shown_by next (cells.blocks x) o) (cells.blocks x))
              owns ∙ ap (λ b. merged (seen b) b) old;
          chained = λ x free_now low.
              after.chained x (shows x ∙ now_free x (owners x) (follows.blocks x)
              (sym (ap (λ c. merged c (cells.blocks x)) (shows x)) ∙ free_now)) low;
          members = λ x some. let m = after.members x some in (ap (λ c. merged c (cells.blocks x)) m.0, m.1);
        }

    now_follows : (work : Work) → work.heap ≡ shown address owners cells.blocks are next → Lists cells.border work.heap work.frees
        → Follows pool layout address (λ x. still next (owners x)) next (merged_cells work cells)
    now_follows work is after = record {
      named = λ name some. ap (still next) (follows.named name (lowered.fewer name some)) ∙ still_is (count_at next name) name some;
      blocks = λ x.
          subst (λ c. BlockOf pool layout address next x (still next (owners x)) (merged c (cells.blocks x)))
          (sym (ap (λ (h : SeenHeap). h x) is))
          (now_block x (owners x) (follows.blocks x));
      chain = now_chain work is after;
    }
      where
        still_is : (count name : ℕ) → 1 ≤ count → still_count count name ≡ cell_of name
        still_is zero name some = absurd (omega (arith, some))
        still_is (suc k) name some = refl

  -- a drop of the counted machine is one of the cells
  pub drops : (v : Value) (next : Heap) → FitsField true v → drop_value v heap ≡ Some next
      → Dropped pool layout address owners heap next cells v
  drops v next fits is =
      let given = cascade address owners cells.blocks are (suc (weight heap)) (v ∷ []) heap next
      (word_in layout address v ∷ []) stand is (gives_one layout address v fits) in
      let gives : GivesUp (word_in layout address v ∷ []) (seen_cells cells) given.gave given.freed
      (shown address owners cells.blocks are next) =
      subst (λ h. GivesUp (word_in layout address v ∷ []) h given.gave given.freed (shown address owners cells.blocks are next))
      (sym seen_shown) given.gives in
      let turned = given_in_turns cells.frees gives in
      let paid = GivesUp-paid (places pool) 1 1 gives listed in
      let work : Work = record {
        refs = [];
        waits = [];
        frees = turned.0;
        heap = shown address owners cells.blocks are next;
        gave =
            given.gave;
        freed = given.freed;
      } in
      record {
        work = work;
        is = turns_computed_first (2 + credit 1 1 (places pool) (seen_cells cells)) turned.1 (omega arith);
        holds = now_follows next given.lower work refl (turns_lists cells.border turned.1 lists);
        few = given.few;
        freed = given.cells;
      }

-- its cost
pub drop_paid : (v : Value) (heap next : Heap) (work : Work) → drop_value v heap ≡ Some next → work.gave ≤ drop_turns v heap
    → work.freed + busy next ≡ busy heap → IsPaid heap next work
drop_paid v heap next work is few freed = let cost = drop_cost v heap next is in omega arith
