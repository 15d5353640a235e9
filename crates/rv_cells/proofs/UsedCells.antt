-- How many cells are used: those that are counted, and those that are set aside.
use Rattle.std.proofs.Common.{◌≡◌, ◌≢◌, ◌≤◌, ◌<◌, ℕ, zero, suc, ◌+◌, ◌%◌, Bool, true, false, inl, inr, [], ◌∷◌, List, length, nat_lt, refl, sym, ap, ◌∙◌, subst, arith}
use Rattle.std.proofs.lemmas.Bool.{cases_eq}
use Rattle.std.proofs.lemmas.Bool.Decides.{nat_tests}
use Rattle.rv_isa.specs.Arithmetic.{bit_of}
use Rattle.rv_isa.specs.Numbers.{cell_size}
use Rattle.cell_heap.specs.Cells.{occurs}
use Rattle.cell_heap.specs.Counts.{total}
use Rattle.cell_heap.specs.Pool.{Pool, IsCell, places}
use Rattle.cell_heap.specs.Blocks.{Cells}
use Rattle.cell_heap.proofs.Sums.{occurs-cells, total-same, total-none, total-change}
use Rattle.cell_heap.proofs.DistinctCells.{length-cells_from, total-at_most}
use Rattle.kk_counted.specs.Heaps.{Heap, count_in, count_at, one_if_counted, busy}
use Rattle.kk_counted.proofs.CountChanges.{itself, count_top}
use Rattle.rv_cells.specs.Layout.{Layout}
use Rattle.rv_cells.specs.CountedCells.{Owner, nobody, cell_of, in_hand, kept_aside, IsCellOf, BlockOf, Follows, with_owner, is_aside, set_aside, NoneAside}
use Rattle.rv_cells.proofs.Owners.{chosen_same, chosen_other}
use Rattle.rv_cells.proofs.NameContents.{held_within, held_older, held_count}

-- ---- the counted names below one

abbrev names_counted : Heap → ℕ → ℕ
names_counted heap zero = 0
names_counted heap (suc n) = one_if_counted (count_at heap n) + names_counted heap n

names_same : (heap other : Heap) (n : ℕ) → ((name : ℕ) → name < n → count_at heap name ≡ count_at other name)
    → names_counted heap n ≡ names_counted other n
names_same heap other zero same = refl
names_same heap other (suc n) same =
    let first = ap one_if_counted (same n (omega arith)) in
    let rest = names_same heap other n (λ name less. same name (omega (arith, less))) in omega arith

names_busy : (heap : Heap) → names_counted heap (length heap) ≡ busy heap
names_busy [] = refl
names_busy (held ∷ heap) =
    let first = ap one_if_counted (count_top held heap (length heap) (itself (length heap))) in
    let rest = names_same (held ∷ heap) heap (length heap)
    (λ name less. ap count_in (held_older held heap name (λ e. omega (arith, e, less)))) in
    let all = names_busy heap in omega arith

-- ---- sums

total-add : (f g : ℕ → ℕ) (xs : List ℕ) → total (λ x. f x + g x) xs ≡ total f xs + total g xs
total-add f g [] = refl
total-add f g (x ∷ xs) = let rest = total-add f g xs in omega arith

place_once : (pool : Pool) → pool.first % cell_size ≡ 0 → (at : ℕ) → IsCell pool at → occurs at (places pool) ≡ 1
place_once pool aligned at cell =
    let whole = cell.aligned in
    occurs-cells at pool.first pool.cells cell.behind cell.before (omega arith)

-- ---- cells that are set aside

pub none_aside : (pool : Pool) (owners : ℕ → Owner) → NoneAside owners → set_aside pool owners ≡ 0
none_aside pool owners none = total-none (λ at. bit_of (is_aside (owners at))) (places pool) (λ at. ap bit_of (none at))

pub same_aside : (pool : Pool) (owners others : ℕ → Owner) → ((at : ℕ) → is_aside (owners at) ≡ is_aside (others at))
    → set_aside pool owners ≡ set_aside pool others
same_aside pool owners others same =
    total-same (λ at. bit_of (is_aside (owners at))) (λ at. bit_of (is_aside (others at))) (places pool) (λ at. ap bit_of (same at))

-- where one cell alone is set aside, or is so no more
pub one_aside : (pool : Pool) → pool.first % cell_size ≡ 0 → (at : ℕ) (owners others : ℕ → Owner) → IsCell pool at
    → ((x : ℕ) → x ≢ at → is_aside (others x) ≡ is_aside (owners x))
    → set_aside pool others + bit_of (is_aside (owners at)) ≡ set_aside pool owners + bit_of (is_aside (others at))
one_aside pool aligned at owners others cell same =
    total-change (λ x. bit_of (is_aside (others x))) (λ x. bit_of (is_aside (owners x))) at (places pool)
    (λ x differ. ap bit_of (same x differ)) (place_once pool aligned at cell)

-- once one address has another owner
pub aside_with : (pool : Pool) → pool.first % cell_size ≡ 0 → (at : ℕ) (owner : Owner) (owners : ℕ → Owner) → IsCell pool at
    → set_aside pool (with_owner at owner owners) + bit_of (is_aside (owners at)) ≡ set_aside pool owners + bit_of (is_aside owner)
aside_with pool aligned at owner owners cell =
    let change = one_aside pool aligned at owners (with_owner at owner owners) cell
    (λ x differ. ap is_aside (chosen_other x at owner owners differ)) in
    let here = ap (λ o. bit_of (is_aside o)) (chosen_same at at owner owners refl) in
    omega arith

-- ---- the cells that names own

abbrev pub one_below : ℕ → Owner → ℕ
one_below n nobody = 0
one_below n (cell_of name) = bit_of (nat_lt name n)
one_below n (in_hand words) = 0
one_below n (kept_aside words) = 0

abbrev pub used : Owner → ℕ
used nobody = 0
used _ = 1

one_more : (n : ℕ) (owner : Owner) → owner ≢ cell_of n → one_below (suc n) owner ≡ one_below n owner
one_more n nobody differ = refl
one_more n (in_hand words) differ = refl
one_more n (kept_aside words) differ = refl
one_more n (cell_of name) differ =
    elim (cases_eq name n) [
      | inl e ↦ absurd (differ (ap cell_of e))
      | inr other ↦ by other (nat_lt name n) refl
    ]
  where
    by : name ≢ n → (b : Bool) → nat_lt name n ≡ b → bit_of (nat_lt name (suc n)) ≡ bit_of b
    by other true is = let less : nat_lt name (suc n) ≡ true = grind (arith, nat_tests) in rw less refl
    by other false is = let not_less : nat_lt name (suc n) ≡ false = grind (arith, nat_tests) in rw not_less refl

one_here : (n : ℕ) → one_below (suc n) (cell_of n) ≡ 1
one_here n = let less : nat_lt n (suc n) ≡ true = grind (arith, nat_tests) in rw less refl

none_here : (n : ℕ) → one_below n (cell_of n) ≡ 0
none_here n = let not_less : nat_lt n n ≡ false = grind (arith, nat_tests) in rw not_less refl

one_used : (n : ℕ) (owner : Owner) → ((name : ℕ) → owner ≡ cell_of name → name < n)
    → one_below n owner + bit_of (is_aside owner) ≡ used owner
one_used n nobody within = refl
one_used n (in_hand words) within = refl
one_used n (kept_aside words) within = refl
one_used n (cell_of name) within =
    let low = within name refl in
    let less : nat_lt name n ≡ true = grind (arith, nat_tests) in rw less refl

pub used-most : (owner : Owner) → used owner ≤ 1
used-most nobody = omega arith
used-most (cell_of name) = omega arith
used-most (in_hand words) = omega arith
used-most (kept_aside words) = omega arith

module _ {pool : Pool} {layout : Layout} {address : ℕ → ℕ} {owners : ℕ → Owner} {heap : Heap} {cells : Cells}
    (aligned : pool.first % cell_size ≡ 0) (follows : Follows pool layout address owners heap cells) where
  -- what stands at the address of a cell that somebody owns
  pub owned_cell : (name at : ℕ) → owners at ≡ cell_of name → IsCellOf pool layout address heap name at (cells.blocks at)
  owned_cell name at is = subst (λ o. BlockOf pool layout address heap at o (cells.blocks at)) is (follows.blocks at)

  pub named_cell : (name : ℕ) → 1 ≤ count_at heap name → IsCellOf pool layout address heap name (address name)
      (cells.blocks (address name))
  named_cell name some = owned_cell name (address name) (follows.named name some)

  names_own : (n : ℕ) → total (λ at. one_below n (owners at)) (places pool) ≡ names_counted heap n
  names_own zero = total-none (λ at. one_below 0 (owners at)) (places pool) (λ at. nobody_below (owners at))
    where
      nobody_below : (owner : Owner) → one_below 0 owner ≡ 0
      nobody_below nobody = refl
      nobody_below (in_hand words) = refl
      nobody_below (kept_aside words) = refl
      nobody_below (cell_of name) = let not_less : nat_lt name 0 ≡ false = grind (arith, nat_tests) in rw not_less refl
  names_own (suc n) = by_count (count_at heap n) refl (names_own n)
    where
      by_count : (count : ℕ) → count_at heap n ≡ count → total (λ at. one_below n (owners at)) (places pool) ≡ names_counted heap n
          → total (λ at. one_below (suc n) (owners at)) (places pool) ≡ one_if_counted count + names_counted heap n
      by_count zero is rest =
          total-same (λ at. one_below (suc n) (owners at)) (λ at. one_below n (owners at)) (places pool)
          (λ at. one_more n (owners at) (λ owns. no_cell_of at owns))
          ∙ rest ∙ omega arith
        where
          no_cell_of : (at : ℕ) → owners at ≡ cell_of n → ⊥
          no_cell_of at owns =
              let stands = owned_cell n at owns in
              let counted = stands.counted in
              let count = held_count heap n stands.held stands.there in
              absurd (omega arith)
      by_count (suc others) is rest =
          let owns = follows.named n (omega (arith, is)) in
          let stands = owned_cell n (address n) owns in
          let change = total-change (λ at. one_below (suc n) (owners at)) (λ at. one_below n (owners at)) (address n) (places pool)
          (λ at differ. one_more n (owners at) (λ other. differ (sym (owned_cell n at other).is_at)))
          (place_once pool aligned (address n) stands.cell) in
          let here = ap (one_below (suc n)) owns ∙ one_here n in
          let there = ap (one_below n) owns ∙ none_here n in
          omega arith

  -- as many cells are used as are counted and set aside
  pub used_busy : total (λ at. used (owners at)) (places pool) ≡ busy heap + set_aside pool owners
  used_busy =
      let split = total-same (λ at. used (owners at)) (λ at. one_below (length heap) (owners at) + bit_of (is_aside (owners at)))
      (places pool) (λ at. sym (one_used (length heap) (owners at)
      (λ name is. let stands = owned_cell name at is in held_within heap name stands.held stands.there))) in
      let sum = total-add (λ at. one_below (length heap) (owners at)) (λ at. bit_of (is_aside (owners at))) (places pool) in
      let counted = names_own (length heap) ∙ names_busy heap in
      omega arith

  -- and no more than there are
  pub busy_most : busy heap + set_aside pool owners ≤ pool.cells
  busy_most =
      let sum = used_busy in
      let most = total-at_most (λ at. used (owners at)) (places pool) (λ at. used-most (owners at)) in
      let count = length-cells_from pool.first pool.cells in
      omega arith
