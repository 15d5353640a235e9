-- What stands at one address changes.
use Rattle.std.proofs.Common.{◌≡◌, ◌≢◌, ◌≤◌, ℕ, ◌%◌, Bool, true, false, Option, Some, nat_eq, if◌then◌else◌, refl, sym, ap, ◌∙◌, subst, arith}
use Rattle.std.proofs.lemmas.Bool.Decides.{nat_tests}
use Rattle.cell_heap.specs.Cells.{occurs}
use Rattle.cell_heap.specs.Pool.{Pool}
use Rattle.cell_heap.specs.Blocks.{Block, unused, own, kept, Cells, with_block}
use Rattle.kk_counted.specs.Heaps.{Held, Heap, held_at, count_at}
use Rattle.rv_cells.specs.Layout.{Layout, words_in, first_field}
use Rattle.rv_cells.specs.CountedCells.{AreFrom, Owner, nobody, cell_of, in_hand, kept_aside, IsCellOf, BlockOf, HasChain, Follows, with_owner}
use Rattle.rv_isa.specs.Numbers.{cell_size}

-- ---- functions with another value at one number

pub chosen_by : {A : Type 0} (P : A → Type 0) (x at : ℕ) (a : A) (f : ℕ → A) → (x ≡ at → P a) → (x ≢ at → P (f x))
    → P (if nat_eq x at then a else f x)
chosen_by P x at a f same other = by (nat_eq x at) refl
  where
    by : (b : Bool) → nat_eq x at ≡ b → P (if b then a else f x)
    by true test = same (grind (arith, nat_tests))
    by false test = other (grind (arith, nat_tests))

pub chosen_same : {A : Type 0} (x at : ℕ) (a : A) (f : ℕ → A) → x ≡ at → (if nat_eq x at then a else f x) ≡ a
chosen_same x at a f is = chosen_by (λ c. c ≡ a) x at a f (λ e. refl) (λ differ. absurd (differ is))

pub chosen_other : {A : Type 0} (x at : ℕ) (a : A) (f : ℕ → A) → x ≢ at → (if nat_eq x at then a else f x) ≡ f x
chosen_other x at a f differ = chosen_by (λ c. c ≡ f x) x at a f (λ e. absurd (differ e)) (λ other. refl)

-- ---- blocks

pub own-unused : {words : ℕ → Option ℕ} → own words ≢ unused
own-unused e = cc

pub kept-unused : {words : ℕ → Option ℕ} → kept words ≢ unused
kept-unused e = cc

pub own-words : {words others : ℕ → Option ℕ} → own words ≡ own others → words ≡ others
own-words e = cc

-- what a name has is the same in other heaps, at other addresses
pub record Stays (layout : Layout) (address later : ℕ → ℕ) (heap next : Heap) (name : ℕ) : Type 0 where
  pub at : later name ≡ address name
  pub held : held_at next name ≡ held_at heap name
  pub fields : (one : Held) → held_at heap name ≡ Some one → words_in layout later one.cell.fields ≡ words_in layout address
      one.cell.fields

pub cell_stays : {pool : Pool} {layout : Layout} {address later : ℕ → ℕ} {heap next : Heap} {name x : ℕ} {block : Block}
    → Stays layout address later heap next name
    → IsCellOf pool layout address heap name x block → IsCellOf pool layout later next name x block
cell_stays stays is = record {
  cell = is.cell;
  is_at = stays.at ∙ is.is_at;
  held = is.held;
  there = stays.held ∙ is.there;
  counted = is.counted;
  words = is.words;
  is = is.is;
  shows = record {
    count = is.shows.count;
    header = is.shows.header;
    fields = subst (AreFrom is.words first_field) (sym (stays.fields is.held is.there)) is.shows.fields;
    fits = is.shows.fits;
  };
}

pub block_stays : (pool : Pool) (layout : Layout) (address later : ℕ → ℕ) (heap next : Heap) (x : ℕ) (owner : Owner) (block : Block)
    → ((name : ℕ) → owner ≡ cell_of name → Stays layout address later heap next name)
    → BlockOf pool layout address heap x owner block → BlockOf pool layout later next x owner block
block_stays pool layout address later heap next x nobody block stays is = is
block_stays pool layout address later heap next x (cell_of name) block stays is = cell_stays (stays name refl) is
block_stays pool layout address later heap next x (in_hand words) block stays is = is
block_stays pool layout address later heap next x (kept_aside words) block stays is = is

-- ---- the relation with another owner of one address

pub put_owner : {pool : Pool} {layout : Layout} {address : ℕ → ℕ} {owners : ℕ → Owner} {heap : Heap} {cells : Cells}
    → Follows pool layout address owners heap cells
    → (at : ℕ) (owner : Owner) (later : ℕ → ℕ) (next : Heap) (now : Cells) → BlockOf pool layout later next at owner (now.blocks at)
    → ((x : ℕ) → x ≢ at → now.blocks x ≡ cells.blocks x)
    → ((x name : ℕ) → x ≢ at → owners x ≡ cell_of name → Stays layout address later heap next name)
    → ((name : ℕ) → 1 ≤ count_at next name → with_owner at owner owners (later name) ≡ cell_of name)
    → HasChain pool now → Follows pool layout later (with_owner at owner owners) next now
put_owner {pool} {layout} {address} {owners} {heap} {cells} follows at owner later next now here others stays named chain = record {
  named = named;
  blocks = λ x. chosen_by (λ o. BlockOf pool layout later next x o (now.blocks x)) x at owner owners
      (λ e. subst (λ y. BlockOf pool layout later next y owner (now.blocks y)) (sym e) here)
      (λ differ. subst (BlockOf pool layout later next x (owners x)) (sym (others x differ))
      (block_stays pool layout address later heap next x (owners x) (cells.blocks x) (λ name is. stays x name differ is)
      (follows.blocks x)));
  chain = chain;
}

-- ---- the chain

module _ {pool : Pool} {cells : Cells} (chain : HasChain pool cells) where
  -- where other blocks are free
  pub chain_same : (now : Cells) → now.frees ≡ cells.frees → now.border ≡ cells.border
      → ((x : ℕ) → now.blocks x ≡ unused → cells.blocks x ≡ unused)
      → ((x : ℕ) → cells.blocks x ≡ unused → now.blocks x ≡ unused) → HasChain pool now
  chain_same now frees border less more = record {
    aligned = subst (λ b. b % cell_size ≡ 0) (sym border) chain.aligned;
    behind = subst (λ b. pool.first ≤ b) (sym border) chain.behind;
    within = let old = chain.within in omega arith;
    fresh = λ x cell high. more x (chain.fresh x cell (omega (arith, border, high)));
    chained = λ x is low. ap (occurs x) frees ∙ chain.chained x (less x is) (omega (arith, border, low));
    members = λ x some.
        let old = chain.members x (λ none. some (ap (occurs x) frees ∙ none)) in
        let low = old.1 in
        (more x old.0, omega (arith, border, low));
  }

  -- a block that is used becomes another one
  pub chain_over : (at : ℕ) (block : Block) → cells.blocks at ≢ unused → block ≢ unused → HasChain pool (with_block at block cells)
  chain_over at block was is =
      chain_same (with_block at block cells) refl refl
      (λ x. chosen_by (λ b. b ≡ unused → cells.blocks x ≡ unused) x at block cells.blocks (λ e free. absurd (is free))
      (λ differ free. free))
      (λ x free. chosen_by (λ b. b ≡ unused) x at block cells.blocks
      (λ e. absurd (was (ap cells.blocks (sym e) ∙ free))) (λ differ. free))
