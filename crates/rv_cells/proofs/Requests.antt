-- A request for a cell is served by a free cell exactly where fewer cells are counted and set aside than there are; else by the
-- newest held token, if there is one.
use Rattle.std.proofs.Common.{◌≡◌, ◌≢◌, ◌≤◌, ◌<◌, ◌⊎◌, ℕ, ◌+◌, ◌%◌, Bool, true, false, inl, inr, List, [], ◌∷◌, length, Option, Some, None, option_map, nat_lt, refl, sym, ap, ◌∙◌, subst, arith}
use Rattle.std.proofs.lemmas.Bool.{cases_lt, cases_eq}
use Rattle.std.proofs.lemmas.Bool.Decides.{nat_tests}
use Rattle.cell_heap.specs.Cells.{occurs}
use Rattle.cell_heap.specs.Counts.{total}
use Rattle.cell_heap.specs.Pool.{Pool, IsCell, places, end_of}
use Rattle.cell_heap.specs.Blocks.{no_block, unused, own, kept, Cells, nothing, takes, request}
use Rattle.cell_heap.proofs.Sums.{occurs-cells, occurs-same, occurs-other, occurs-first, occurs-later, occurs-by}
use Rattle.cell_heap.proofs.DistinctCells.{length-cells_from, total-at_most, cells_from-member}
use Rattle.kk_counted.specs.Heaps.{Heap, count_at, busy}
use Rattle.rv_cells.specs.Layout.{Layout}
use Rattle.rv_cells.specs.CountedCells.{Owner, nobody, cell_of, in_hand, kept_aside, BlockOf, HasChain, Follows, with_owner}
use Rattle.rv_cells.specs.CountedCells.{set_aside}
use Rattle.rv_cells.specs.Steps.{Served, ServedByHeld}
use Rattle.rv_cells.proofs.Owners.{chosen_by, chosen_same, chosen_other, own-unused, kept-unused, put_owner, chain_over}
use Rattle.rv_cells.proofs.UsedCells.{used, used-most, used_busy}
use Rattle.rv_isa.specs.Numbers.{cell_size}

-- ---- sums of ones

total-all : (f : ℕ → ℕ) (places : List ℕ) → ((p : ℕ) → occurs p places ≢ 0 → f p ≡ 1) → total f places ≡ length places
total-all f [] all = refl
total-all f (p ∷ places) all =
    let first = all p (occurs-first p places) in
    let rest = total-all f places (λ q some. all q (occurs-later q p places some)) in omega arith

total-less : (f : ℕ → ℕ) (at : ℕ) (places : List ℕ) → ((p : ℕ) → f p ≤ 1) → f at ≡ 0 → occurs at places ≢ 0
    → total f places < length places
total-less f at [] most none some = absurd (some refl)
total-less f at (p ∷ places) most none some =
    elim (occurs-by at p places some) [
      | inl e ↦ (let here = ap f e in let rest = total-at_most f places most in omega arith)
      | inr later ↦ (let first = most p in let rest = total-less f at places most none later in omega arith)
    ]

pub is_cell : (pool : Pool) (at : ℕ) → IsCell pool at ⊎ (IsCell pool at → ⊥)
is_cell pool at =
    elim (cases_lt at pool.first) [
      | inl low ↦ inr (λ cell. let behind = cell.behind in omega arith)
      | inr behind ↦
          elim (cases_lt at (end_of pool)) [
            | inl before ↦
                elim (cases_eq (at % cell_size) 0) [
                  | inl aligned ↦ inl (record { behind = behind; before = before; aligned = aligned })
                  | inr not ↦ inr (λ cell. not cell.aligned)
                ]
            | inr high ↦ inr (λ cell. let before = cell.before in omega arith)
          ]
    ]

module _ {pool : Pool} {layout : Layout} {address : ℕ → ℕ} {owners : ℕ → Owner} {heap : Heap} {cells : Cells}
    (follows : Follows pool layout address owners heap cells) where
  -- ---- a free block is nobody's

  pub free_is : (at : ℕ) → cells.blocks at ≡ unused → (owners at ≡ nobody) × IsCell pool at
  free_is at is = by (owners at) refl (follows.blocks at)
    where
      by : (owner : Owner) → owners at ≡ owner → BlockOf pool layout address heap at owner (cells.blocks at) → (owner ≡ nobody)
          × IsCell pool at
      by nobody owns free = (
        refl,
        elim (is_cell pool at)
            [ inl cell ↦ cell | inr not ↦ (let both : no_block ≡ unused = sym (free.none not) ∙ is in cc) ],
      )
      by (cell_of name) owns stands = absurd (own-unused (sym stands.is ∙ is))
      by (in_hand words) owns block = absurd (own-unused (sym block.1 ∙ is))
      by (kept_aside words) owns block = absurd (kept-unused (sym block.1 ∙ is))

  pub named_over : (at : ℕ) (owner : Owner) → ((name : ℕ) → owners at ≢ cell_of name) → (name : ℕ) → 1 ≤ count_at heap name
      → with_owner at owner owners (address name) ≡ cell_of name
  named_over at owner none name some =
      chosen_other (address name) at owner owners (λ e. none name (ap owners (sym e) ∙ follows.named name some))
      ∙ follows.named name some

  pub nobody_named : (at name : ℕ) → owners at ≡ nobody → owners at ≢ cell_of name
  nobody_named at name is other = let both : nobody ≡ cell_of name = sym is ∙ other in cc

  -- ---- a free cell is taken

  pub takes_free : (at : ℕ) (frees : List ℕ) (border : ℕ) → cells.blocks at ≡ unused → HasChain pool (takes at frees border cells)
      → Follows pool layout address (with_owner at (in_hand nothing) owners) heap (takes at frees border cells)
  takes_free at frees border is chain =
      let free = free_is at is in
      put_owner follows at (in_hand nothing) address heap (takes at frees border cells)
      (free.1, chosen_same at at (own nothing) cells.blocks refl)
      (λ x differ. chosen_other x at (own nothing) cells.blocks differ)
      (λ x name differ owns. record { at = refl; held = refl; fields = λ one there. refl })
      (named_over at (in_hand nothing) (λ name. nobody_named at name free.0))
      chain

  chain_next : (at : ℕ) (frees : List ℕ) → cells.frees ≡ at ∷ frees → HasChain pool (takes at frees cells.border cells)
  chain_next at frees is =
      let chain = follows.chain in
      let first = chain.members at (λ none. occurs-first at frees (ap (occurs at) (sym is) ∙ none)) in
      let once = chain.chained at first.0 first.1 in
      record {
        aligned = chain.aligned;
        behind = chain.behind;
        within = chain.within;
        fresh = λ x cell high. chosen_by (λ b. b ≡ unused) x at (own nothing) cells.blocks
            (λ e. let low = first.1 in absurd (omega arith)) (λ differ. chain.fresh x cell high);
        chained = λ x. chosen_by (λ b. b ≡ unused → x < cells.border → occurs x frees ≡ 1) x at (own nothing) cells.blocks
            (λ e free. absurd (own-unused free))
            (λ differ free low. sym (occurs-other x at frees differ) ∙ ap (occurs x) (sym is) ∙ chain.chained x free low);
        members = λ x some.
            let old = chain.members x (λ none. occurs-later x at frees some (ap (occurs x) (sym is) ∙ none)) in (
              chosen_by (λ b. b ≡ unused) x at (own nothing) cells.blocks
                  (λ e.
                  let twice = ap (occurs at) (sym is) ∙ once in
                  let here = occurs-same at at frees refl in
                  let there = ap (λ y. occurs y frees) e in
                  absurd (some (omega arith)))
                  (λ differ. old.0),
              old.1,
            );
      }

  chain_border : pool.first % cell_size ≡ 0 → cells.frees ≡ [] → cells.border < end_of pool
      → HasChain pool (takes cells.border [] (cells.border + cell_size) cells)
  chain_border aligned none room =
      let chain = follows.chain in
      let whole = chain.aligned in
      record {
        aligned = omega arith;
        behind = let behind = chain.behind in omega arith;
        within = omega arith;
        fresh = λ x cell high. chosen_by (λ b. b ≡ unused) x cells.border (own nothing) cells.blocks (λ e. absurd (omega arith))
            (λ differ. chain.fresh x cell (omega (arith, high)));
        chained = λ x. chosen_by (λ b. b ≡ unused → x < cells.border + cell_size → occurs x [] ≡ 1) x cells.border
            (own nothing) cells.blocks
            (λ e free. absurd (own-unused free))
            (λ differ free low. elim (cases_lt x cells.border) [
              | inl below ↦ ap (occurs x) (sym none) ∙ chain.chained x free below
              | inr above ↦
                  (let cell = (free_is x free).1 in
                  let placed = cell.aligned in
                  absurd (grind arith))
            ]);
        members = λ x some. absurd (some refl);
      }

  -- ---- whether there is one

  module _ (aligned : pool.first % cell_size ≡ 0) where
    all_used : cells.frees ≡ [] → end_of pool ≤ cells.border → busy heap + set_aside pool owners ≡ pool.cells
    all_used no_free high =
        sym (used_busy aligned follows)
        ∙ total-all (λ at. used (owners at)) (places pool) (λ p some. is_used p (member p some))
        ∙ length-cells_from pool.first pool.cells
      where
        member : (p : ℕ) → occurs p (places pool) ≢ 0 → IsCell pool p
        member p some =
            let is = cells_from-member p pool.first pool.cells some in
            let same = is.2 in
            record { behind = is.0; before = is.1; aligned = omega arith }

        is_used : (p : ℕ) → IsCell pool p → used (owners p) ≡ 1
        is_used p cell = by (owners p) refl (follows.blocks p)
          where
            by : (owner : Owner) → owners p ≡ owner → BlockOf pool layout address heap p owner (cells.blocks p) → used owner ≡ 1
            by nobody owns free =
                let before = cell.before in
                let once = follows.chain.chained p (free.free cell) (omega arith) in
                let nowhere : occurs p cells.frees ≡ 0 = ap (occurs p) no_free in absurd (omega arith)
            by (cell_of name) owns stands = refl
            by (in_hand words) owns block = refl
            by (kept_aside words) owns block = refl

    pub some_free : (at : ℕ) → cells.blocks at ≡ unused → busy heap + set_aside pool owners < pool.cells
    some_free at is =
        let free = free_is at is in
        let behind = free.1.behind in
        let before = free.1.before in
        let whole = free.1.aligned in
        let sum = used_busy aligned follows in
        let less = total-less (λ x. used (owners x)) at (places pool) (λ p. used-most (owners p)) (ap used free.0)
        (λ nowhere. let once = occurs-cells at pool.first pool.cells behind before (omega arith) in omega arith) in
        let count = length-cells_from pool.first pool.cells in
        omega arith

    pub served : (top : Option ℕ) → busy heap + set_aside pool owners < pool.cells → Served pool layout address owners heap cells top
    served top room = by cells.frees refl
      where
        by_border : (low : Bool) → nat_lt cells.border (end_of pool) ≡ low → cells.frees ≡ []
            → Served pool layout address owners heap cells top
        by_border true test no_free =
            let low : cells.border < end_of pool = grind (arith, nat_tests) in
            let chain = follows.chain in
            let is = chain.fresh cells.border (record { behind = chain.behind; before = low; aligned = chain.aligned })
            (omega arith) in
            record {
              at = cells.border;
              next = takes cells.border [] (cells.border + cell_size) cells;
              is = rw (no_free, test) refl;
              free = (free_is cells.border is).0;
              holds = takes_free cells.border [] (cells.border + cell_size) is (chain_border aligned no_free low);
            }
        by_border false test no_free =
            let high : end_of pool ≤ cells.border = grind (arith, nat_tests) in
            let all = all_used no_free high in absurd (omega arith)

        by : (frees : List ℕ) → cells.frees ≡ frees → Served pool layout address owners heap cells top
        by [] is = by_border (nat_lt cells.border (end_of pool)) refl is
        by (at ∷ frees) is =
            let first = follows.chain.members at (λ nowhere. occurs-first at frees (ap (occurs at) (sym is) ∙ nowhere)) in
            record {
              at = at;
              next = takes at frees cells.border cells;
              is = rw is refl;
              free = (free_is at first.0).0;
              holds = takes_free at frees cells.border first.0 (chain_next at frees is);
            }

    -- Where as many cells are counted and set aside as there are, none is free, and the newest held token is taken, if there is one.
    none_free : pool.cells ≤ busy heap + set_aside pool owners
        → (cells.frees ≡ []) × ((top : Option ℕ) → request pool top cells
        ≡ option_map (λ at. (at, takes at [] cells.border cells, true)) top)
    none_free full = by cells.frees refl
      where
        by_border : (low : Bool) → nat_lt cells.border (end_of pool) ≡ low → cells.frees ≡ [] → (top : Option ℕ)
            → request pool top cells ≡ option_map (λ at. (at, takes at [] cells.border cells, true)) top
        by_border true test no_free =
            let low : cells.border < end_of pool = grind (arith, nat_tests) in
            let chain = follows.chain in
            let is = chain.fresh cells.border (record { behind = chain.behind; before = low; aligned = chain.aligned })
            (omega arith) in
            let less = some_free cells.border is in absurd (omega arith)
        by_border false test no_free = λ top. rw (no_free, test) refl

        by : (frees : List ℕ) → cells.frees ≡ frees → (cells.frees ≡ []) × ((top : Option ℕ) → request pool top cells
            ≡ option_map (λ at. (at, takes at [] cells.border cells, true)) top)
        by [] is = (is, by_border (nat_lt cells.border (end_of pool)) refl is)
        by (at ∷ frees) is =
            let first = follows.chain.members at (λ nowhere. occurs-first at frees (ap (occurs at) (sym is) ∙ nowhere)) in
            let less = some_free at first.0 in absurd (omega arith)

    pub is_full : pool.cells ≤ busy heap + set_aside pool owners → request pool None cells ≡ None
    is_full full = (none_free full).1 None

    pub from_held : (at : ℕ) (words : ℕ → Option ℕ) → owners at ≡ kept_aside words → pool.cells ≤ busy heap + set_aside pool owners
        → ServedByHeld pool layout address owners heap cells at
    from_held at words is full =
        let none = none_free full in
        let block : IsCell pool at × (cells.blocks at ≡ kept words) = subst
        (λ o. BlockOf pool layout address heap at o (cells.blocks at)) is (follows.blocks at) in
        let now = takes at [] cells.border cells in
        record {
          next = now;
          is = none.1 (Some at);
          holds = put_owner follows at (in_hand nothing) address heap now
              (block.0, chosen_same at at (own nothing) cells.blocks refl)
              (λ x differ. chosen_other x at (own nothing) cells.blocks differ)
              (λ x name differ owns. record { at = refl; held = refl; fields = λ one there. refl })
              (named_over at (in_hand nothing) (λ name other. let both : kept_aside words ≡ cell_of name = sym is ∙ other in cc))
              (subst (λ frees. HasChain pool (takes at frees cells.border cells)) none.0
              (chain_over follows.chain at (own nothing) (λ e. kept-unused (sym block.1 ∙ e)) own-unused));
        }
