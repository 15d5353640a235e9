-- A reference more, and a cell that is given back, held, or taken back.
use Rattle.std.proofs.Common.{◌≡◌, ◌<◌, ℕ, zero, suc, ◌+◌, ◌*◌, ◌%◌, ◌^◌, true, false, inl, inr, ◌∷◌, Option, Some, nat_eq, refl, sym, ap, ◌∙◌, subst, arith}
use Rattle.std.proofs.lemmas.Bool.{cases_lt, cases_eq}
use Rattle.std.proofs.lemmas.Bool.Decides.{nat_tests}
use Rattle.rv_isa.specs.Arithmetic.{sum_word}
use Rattle.cell_heap.specs.Cells.{occurs}
use Rattle.cell_heap.specs.Pool.{Pool, IsCell}
use Rattle.cell_heap.specs.Blocks.{unused, own, kept, Cells, with_block, with_word, load, store, raised, dup, past_links}
use Rattle.cell_heap.proofs.Sums.{occurs-same, occurs-other, occurs-by}
use Rattle.kk_source.specs.State.{Value, integer, unit, constant, place}
use Rattle.kk_counted.specs.Heaps.{Heap, count_at, set_count, more, dup_value}
use Rattle.rv_cells.specs.Layout.{Layout, word_in, FitsField}
use Rattle.rv_cells.specs.CountedCells.{Owner, nobody, cell_of, in_hand, kept_aside, HasChain, Follows}
use Rattle.rv_cells.specs.Steps.{Dupped, PutAside, TakenBack, Released}
use Rattle.rv_cells.proofs.NameContents.{held_count}
use Rattle.rv_cells.proofs.Owners.{chosen_by, chosen_same, chosen_other, own-unused, kept-unused, put_owner, chain_over}
use Rattle.rv_cells.proofs.Words.{load_own, store_own, cell_named, hand_owned, aside_owned, kept_names, recount}

-- ---- a reference more

dup_odd : (reference : ℕ) (cells : Cells) → reference % 2 ≡ 1 → dup reference cells ≡ Some cells
dup_odd reference cells odd = let test : nat_eq (reference % 2) 1 ≡ true = grind (arith, nat_tests) in rw test refl

dup_even : (reference : ℕ) (cells : Cells) → reference % 2 ≡ 0 → dup reference cells ≡ raised reference
    (load reference 0 cells) cells
dup_even reference cells even = let test : nat_eq (reference % 2) 1 ≡ false = grind (arith, nat_tests) in rw test refl

one_more : (n : ℕ) → suc n < 2 ^ 32 → sum_word n 1 ≡ suc n
one_more n small = omega (arith, small)

abbrev Raised : Pool → Layout → (ℕ → ℕ) → (ℕ → Owner) → Heap → Cells → ℕ → Type 0
Raised pool layout address owners next cells reference = (now : Cells) × (dup reference cells ≡ Some now)
    × Follows pool layout address owners next now

module _ {pool : Pool} {layout : Layout} {address : ℕ → ℕ} {owners : ℕ → Owner} {heap : Heap} {cells : Cells}
    (follows : Follows pool layout address owners heap cells) where
  passes : (reference : ℕ) (next : Heap) → reference % 2 ≡ 1 → Some heap ≡ Some next
      → Raised pool layout address owners next cells reference
  passes reference next odd is =
      (cells, dup_odd reference cells odd, subst (λ h. Follows pool layout address owners h cells) (same heap next is) follows)
    where
      same : (one two : Heap) → Some one ≡ Some two → one ≡ two
      same one two e = cc

  -- the count of a cell is raised, where it is small
  raises : (name count : ℕ) (next : Heap) → count_at heap name ≡ count → more name count heap ≡ Some next → suc count < 2 ^ 32
      → Raised pool layout address owners next cells (address name)
  raises name zero next is some small = cc
  raises name (suc k) next is some small =
      let stands = cell_named follows name (omega (arith, is)) in
      let whole = stands.cell.aligned in
      let even : address name % 2 ≡ 0 = omega arith in
      let count : stands.held.count ≡ suc k = sym (held_count heap name stands.held stands.there) ∙ is in
      let loaded : load (address name) 0 cells ≡ Some (suc k) = load_own cells (address name) 0 (suc k) stands.words stands.is
      (omega arith) (stands.shows.count ∙ ap Some count) in (
        with_block (address name) (own (with_word 0 (suc (suc k)) stands.words)) cells,
        dup_even (address name) cells even
            ∙ ap (λ o. raised (address name) o cells) loaded
            ∙ ap (λ w. store (address name) 0 w cells) (one_more (suc k) small)
            ∙ store_own cells (address name) 0 (suc (suc k)) stands.words stands.is (omega arith),
        subst (λ h. Follows pool layout address owners h
            (with_block (address name) (own (with_word 0 (suc (suc k)) stands.words)) cells))
            (same (set_count name (suc (suc k)) heap) next some)
            (recount follows name (suc k) stands.words (omega (arith, is)) stands.is),
      )
    where
      same : (one two : Heap) → Some one ≡ Some two → one ≡ two
      same one two e = cc

  dupped_word : (v : Value) (next : Heap) → FitsField true v → dup_value v heap ≡ Some next
      → ((name : ℕ) → suc (count_at heap name) < 2 ^ 32)
      → Raised pool layout address owners next cells (word_in layout address v)
  dupped_word (integer n) next fits is small = absurd fits
  dupped_word unit next fits is small = passes 1 next refl is
  dupped_word (constant c) next fits is small = passes (2 * layout.tag c + 1) next (omega arith) is
  dupped_word (place name) next fits is small = raises name (count_at heap name) next refl is (small name)

  pub dupped : (v : Value) (next : Heap) → FitsField true v → dup_value v heap ≡ Some next
      → ((name : ℕ) → suc (count_at heap name) < 2 ^ 32)
      → Dupped pool layout address owners next cells v
  dupped v next fits is small = let done = dupped_word v next fits is small in record { now = done.0; is = done.1; holds = done.2 }

  -- ---- a cell in hand is given back

  chain_freed : (at : ℕ) (words : ℕ → Option ℕ) → IsCell pool at → cells.blocks at ≡ own words
      → HasChain pool (with_block at unused (record cells { frees = at ∷ cells.frees }))
  chain_freed at words cell is =
      let chain = follows.chain in
      record {
        aligned = chain.aligned;
        behind = chain.behind;
        within = chain.within;
        fresh = λ x there high. chosen_by (λ b. b ≡ unused) x at unused cells.blocks (λ e. refl)
            (λ differ. chain.fresh x there high);
        chained = λ x. chosen_by (λ b. b ≡ unused → x < cells.border → occurs x (at ∷ cells.frees) ≡ 1) x at unused cells.blocks
            (λ e free low. occurs-same x at cells.frees e ∙ ap suc (elim (cases_eq (occurs x cells.frees) 0) [
              | inl none ↦ none
              | inr some ↦ absurd (own-unused (sym is ∙ ap cells.blocks (sym e) ∙ (chain.members x some).0))
            ]))
            (λ differ free low. occurs-other x at cells.frees differ ∙ chain.chained x free low);
        members = λ x some. elim (occurs-by x at cells.frees some) [
          | inl e ↦ (chosen_same x at unused cells.blocks e, low x e)
          | inr later ↦
              (let old = chain.members x later in
              (chosen_by (λ b. b ≡ unused) x at unused cells.blocks (λ e. refl) (λ differ. old.0), old.1))
        ];
      }
    where
      low : (x : ℕ) → x ≡ at → x < cells.border
      low x e =
          elim (cases_lt x cells.border) [
            | inl less ↦ less
            | inr high ↦ absurd (own-unused (sym is ∙ follows.chain.fresh at cell (omega arith)))
          ]

  pub released : (at : ℕ) (words : ℕ → Option ℕ) → owners at ≡ in_hand words → Released pool layout address owners heap cells at
  released at words is =
      let stands = hand_owned follows at words is in
      let chain = chain_freed at words stands.0 stands.1 in
      record {
        now = with_block at unused (record cells { frees = at ∷ cells.frees });
        is = rw (stands.1) refl;
        holds = put_owner follows at nobody address heap (with_block at unused (record cells { frees = at ∷ cells.frees }))
            (record {
              free = λ cell. chosen_same at at unused cells.blocks refl;
              none = λ not. absurd (not stands.0);
            })
            (λ x differ. chosen_other x at unused cells.blocks differ)
            (λ x name differ owns. record { at = refl; held = refl; fields = λ one there. refl })
            (kept_names follows at nobody heap (λ name other. let both : in_hand words ≡ cell_of name = sym is ∙ other in cc)
            (λ name some. some))
            chain;
      }

  -- ---- a cell in hand is held, and taken back

  pub put_aside : (at : ℕ) (words : ℕ → Option ℕ) → owners at ≡ in_hand words
      → PutAside pool layout address owners heap cells at words
  put_aside at words is =
      let stands = hand_owned follows at words is in
      record {
        now = with_block at (kept words) cells;
        is = rw (stands.1) refl;
        holds = put_owner follows at (kept_aside words) address heap (with_block at (kept words) cells)
            (stands.0, chosen_same at at (kept words) cells.blocks refl)
            (λ x differ. chosen_other x at (kept words) cells.blocks differ)
            (λ x name differ owns. record { at = refl; held = refl; fields = λ one there. refl })
            (kept_names follows at (kept_aside words) heap
            (λ name other. let both : in_hand words ≡ cell_of name = sym is ∙ other in cc) (λ name some. some))
            (chain_over follows.chain at (kept words) (λ e. own-unused (sym stands.1 ∙ e)) kept-unused);
      }

  pub taken_back : (at : ℕ) (words : ℕ → Option ℕ) → owners at ≡ kept_aside words
      → TakenBack pool layout address owners heap cells at words
  taken_back at words is =
      let stands = aside_owned follows at words is in
      record {
        now = with_block at (own (past_links words)) cells;
        is = rw (stands.1) refl;
        holds = put_owner follows at (in_hand (past_links words)) address heap (with_block at (own (past_links words)) cells)
            (stands.0, chosen_same at at (own (past_links words)) cells.blocks refl)
            (λ x differ. chosen_other x at (own (past_links words)) cells.blocks differ)
            (λ x name differ owns. record { at = refl; held = refl; fields = λ one there. refl })
            (kept_names follows at (in_hand (past_links words)) heap
            (λ name other. let both : kept_aside words ≡ cell_of name = sym is ∙ other in cc) (λ name some. some))
            (chain_over follows.chain at (own (past_links words)) (λ e. kept-unused (sym stands.1 ∙ e)) own-unused);
      }
