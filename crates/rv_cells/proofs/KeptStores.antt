-- Some fields of a cell in hand are stored: the kept ones, and the others.
use Rattle.std.proofs.Common.{◌≡◌, ◌≢◌, ◌<◌, ◌≤◌, ℕ, suc, ◌+◌, Bool, true, false, not, List, [], ◌∷◌, ◌++◌, length, Option, Some, refl, sym, ◌∙◌, ap, subst, arith}
use Rattle.std.specs.Prelude.{if◌then◌else◌}
use Rattle.kk_syntax.specs.Shapes.{is_among}
use Rattle.kk_source.specs.State.{Value}
use Rattle.kk_counted.specs.Heaps.{Heap}
use Rattle.kk_counted.proofs.KeptFields.{AreKeptFields}
use Rattle.rv_isa.specs.Numbers.{cell_words}
use Rattle.rv_isa.specs.AsmCode.{Line}
use Rattle.rv_isa.specs.Frames.{Frame}
use Rattle.cell_heap.specs.Blocks.{Cells, own, with_block, with_word}
use Rattle.cell_runtime.specs.World.{World, with_cells}
use Rattle.rv_lower.proofs.Calls.{HaveWords}
use Rattle.rv_cells.specs.Layout.{Layout, word_in, words_in}
use Rattle.rv_cells.specs.CountedCells.{AreFrom, Owner}
use Rattle.rv_cells.specs.CellLines.{StoresIf, SomeStores, is_kept}
use Rattle.rv_cells.proofs.Owners.{chosen_same, chosen_other}
use Rattle.rv_cells.proofs.LineCosts.{most_moves, row_cost}
use Rattle.rv_cells.proofs.Runs.{Target, turn_of, Runs, runs_none, runs_then}
use Rattle.rv_cells.proofs.ConstructionLines.{Hands, stored, store_hand}

-- ---- values at positions

-- the members of a list at the positions that are taken, counted from a first one on
abbrev pub picked : (ℕ → Bool) → ℕ → List ℕ → List ℕ
picked takes position [] = []
picked takes position (x ∷ xs) =
    if takes position then x ∷ picked takes (suc position) xs else picked takes (suc position) xs

-- those that are kept and the others are all
pub picked_all : (kept : List ℕ) (position : ℕ) (xs : List ℕ) (cost : ℕ)
    → row_cost (picked (is_kept true kept) position xs) cost + row_cost (picked (is_kept false kept) position xs) cost
    ≡ row_cost xs cost
picked_all kept position [] cost = refl
picked_all kept position (x ∷ xs) cost = by (is_among kept position) (picked_all kept (suc position) xs cost)
  where
    by : (b : Bool) → row_cost (picked (is_kept true kept) (suc position) xs) cost
        + row_cost (picked (is_kept false kept) (suc position) xs) cost ≡ row_cost xs cost
        → row_cost (if b then x ∷ picked (is_kept true kept) (suc position) xs
        else picked (is_kept true kept) (suc position) xs) cost
        + row_cost (if not b then x ∷ picked (is_kept false kept) (suc position) xs
        else picked (is_kept false kept) (suc position) xs) cost
        ≡ cost + row_cost xs cost
    by true all = omega (arith, all)
    by false all = omega (arith, all)

-- they are no more
pub picked_few : (takes : ℕ → Bool) (position : ℕ) (xs : List ℕ) → length (picked takes position xs) ≤ length xs
picked_few takes position [] = omega arith
picked_few takes position (x ∷ xs) = by (takes position) (picked_few takes (suc position) xs)
  where
    by : (b : Bool) → length (picked takes (suc position) xs) ≤ length xs
        → length (if b then x ∷ picked takes (suc position) xs else picked takes (suc position) xs) ≤ suc (length xs)
    by true few = omega (arith, few)
    by false few = omega (arith, few)

-- ---- words at positions

abbrev pub word_if : Bool → ℕ → ℕ → (ℕ → Option ℕ) → ℕ → Option ℕ
word_if true i w words = with_word i w words
word_if false i w words = words

-- words are written from one on, at the positions that are taken
abbrev pub with_some : (ℕ → Bool) → ℕ → ℕ → List ℕ → (ℕ → Option ℕ) → ℕ → Option ℕ
with_some takes i position [] words = words
with_some takes i position (w ∷ ws) words =
    with_some takes (suc i) (suc position) ws (word_if (takes position) i w words)

-- words are known from one on, at the positions that are taken
abbrev pub AreSome : (ℕ → Bool) → (ℕ → Option ℕ) → ℕ → ℕ → List ℕ → Type 0
AreSome takes words i position [] = Unit {0}
AreSome takes words i position (w ∷ ws) =
    (takes position ≡ true → words i ≡ Some w) × AreSome takes words (suc i) (suc position) ws

pub word_other : (b : Bool) (i w j : ℕ) (words : ℕ → Option ℕ) → j ≢ i → word_if b i w words j ≡ words j
word_other true i w j words differ = chosen_other j i (Some w) words differ
word_other false i w j words differ = refl

pub some_below : (takes : ℕ → Bool) (i position j : ℕ) (ws : List ℕ) (words : ℕ → Option ℕ) → j < i
    → with_some takes i position ws words j ≡ words j
some_below takes i position j [] words less = refl
some_below takes i position j (w ∷ ws) words less =
    some_below takes (suc i) (suc position) j ws (word_if (takes position) i w words) (omega (arith, less))
    ∙ word_other (takes position) i w j words (λ e. omega (arith, e, less))

-- what is known behind a word does not change with it
pub some_later : (takes : ℕ → Bool) (i w j position : ℕ) (words : ℕ → Option ℕ) (ws : List ℕ) → i < j
    → AreSome takes words j position ws → AreSome takes (with_word i w words) j position ws
some_later takes i w j position words [] less are = tt
some_later takes i w j position words (v ∷ ws) less are = (
  λ is. chosen_other j i (Some w) words (λ e. omega (arith, e, less)) ∙ are.0 is,
  some_later takes i w (suc j) (suc position) words ws (omega (arith, less)) are.1,
)

-- the written ones are known
pub some_written : (takes : ℕ → Bool) (i position : ℕ) (ws : List ℕ) (words : ℕ → Option ℕ)
    → AreSome takes (with_some takes i position ws words) i position ws
some_written takes i position [] words = tt
some_written takes i position (w ∷ ws) words = (
  λ is.
      some_below takes (suc i) (suc position) i ws (word_if (takes position) i w words) (omega arith)
      ∙ ap (λ b. word_if b i w words i) is ∙ chosen_same i i (Some w) words refl,
  some_written takes (suc i) (suc position) ws (word_if (takes position) i w words),
)

-- where the kept ones are known, and the others are written, all are
pub all_written : (kept : List ℕ) (i position : ℕ) (ws : List ℕ) (words : ℕ → Option ℕ)
    → AreSome (is_kept true kept) words i position ws → AreFrom (with_some (is_kept false kept) i position ws words) i ws
all_written kept i position [] words are = tt
all_written kept i position (w ∷ ws) words are = (
  some_below (is_kept false kept) (suc i) (suc position) i ws (word_if (not (is_among kept position)) i w words) (omega arith)
      ∙ by (is_among kept position) are.0,
  all_written kept (suc i) (suc position) ws (word_if (not (is_among kept position)) i w words)
      (later (is_among kept position) are.1),
)
  where
    by : (b : Bool) → (b ≡ true → words i ≡ Some w) → word_if (not b) i w words i ≡ Some w
    by true is = is refl
    by false is = chosen_same i i (Some w) words refl

    later : (b : Bool) → AreSome (is_kept true kept) words (suc i) (suc position) ws
        → AreSome (is_kept true kept) (word_if (not b) i w words) (suc i) (suc position) ws
    later true behind = behind
    later false behind = some_later (is_kept true kept) i w (suc i) (suc position) words ws (omega arith) behind

-- the kept fields of a cell are those of a new one
pub kept_words : (layout : Layout) (address : ℕ → ℕ) (kept : List ℕ) (words : ℕ → Option ℕ) (i position : ℕ)
    (olds news : List Value) → AreKeptFields position kept olds news → AreFrom words i (words_in layout address olds)
    → AreSome (is_kept true kept) words i position (words_in layout address news)
kept_words layout address kept words i position olds [] are known = tt
kept_words layout address kept words i position [] (new ∷ news) are known = (
  λ is. let both : true ≡ false = sym is ∙ are.0 in cc,
  kept_words layout address kept words (suc i) (suc position) [] news are.1 tt,
)
kept_words layout address kept words i position (old ∷ olds) (new ∷ news) are known = (
  λ is. known.0 ∙ ap (λ (v : Value). Some (word_in layout address v)) (are.0 is),
  kept_words layout address kept words (suc i) (suc position) olds news are.1 known.1,
)

-- ---- stores

module _ (target : Target) (layout : Layout) (address : ℕ → ℕ) (owners : ℕ → Owner) (heap : Heap) (fs : List (Frame Line))
    (f : Frame Line) (x at : ℕ) (is : f.cells x ≡ Some at) (takes : ℕ → Bool) where
  abbrev SomeRun : List Line → List ℕ → List ℕ → ℕ → ℕ → List Line → (ℕ → Option ℕ) → World → Type 0
  SomeRun rest xs ws i position lines words world =
      (cells : Cells)
      × Runs target (row_cost (picked takes position xs) (most_moves + 3)) (length (picked takes position xs))
      (turn_of (lines ++ rest) f fs world) (turn_of rest f fs (with_cells world cells))
      × Hands target.pool layout address owners heap at (with_some takes i position ws words) cells

  pub some_run : (rest : List Line) (xs ws : List ℕ) (i position : ℕ) (lines : List Line) (words : ℕ → Option ℕ) (world : World)
      → SomeStores takes x i position xs lines → HaveWords f.cells xs ws → i + length xs ≤ cell_words
      → Hands target.pool layout address owners heap at words world.cells → SomeRun rest xs ws i position lines words world
  some_run rest [] [] i position lines words world stores has few holds = (
    world.cells,
    subst (λ ls. Runs target 0 0 (turn_of (ls ++ rest) f fs world) (turn_of rest f fs world)) (sym stores)
        (runs_none target (turn_of rest f fs world)),
    holds,
  )
  some_run rest [] (w ∷ ws) i position lines words world stores has few holds = absurd has
  some_run rest (y ∷ ys) [] i position lines words world stores has few holds = absurd has
  some_run rest (y ∷ ys) (w ∷ ws) i position lines words world stores has few holds =
      subst (λ ls. SomeRun rest (y ∷ ys) (w ∷ ws) i position ls words world) (sym stores.4)
      (by (takes position) stores.2
      (λ next there hands. some_run rest ys ws (suc i) (suc position) stores.1 next there stores.3 has.1 (omega (arith, few))
      hands))
    where
      by : (b : Bool) → StoresIf b x i y stores.0
          → ((next : ℕ → Option ℕ) (there : World) → Hands target.pool layout address owners heap at next there.cells
          → SomeRun rest ys ws (suc i) (suc position) stores.1 next there)
          → (cells : Cells)
          × Runs target
          (row_cost (if b then y ∷ picked takes (suc position) ys else picked takes (suc position) ys) (most_moves + 3))
          (length (if b then y ∷ picked takes (suc position) ys else picked takes (suc position) ys))
          (turn_of ((stores.0 ++ stores.1) ++ rest) f fs world) (turn_of rest f fs (with_cells world cells))
          × Hands target.pool layout address owners heap at
          (with_some takes (suc i) (suc position) ws (word_if b i w words)) cells
      by true first again =
          let next = with_block at (own (with_word i w words)) world.cells in
          let runs = store_hand target layout address owners heap fs f x at is (stores.1 ++ rest) world i y w words first.0 first.1
          has.0 (omega (arith, few)) holds in
          let later = again (with_word i w words) (with_cells world next)
          (stored target layout address owners heap fs f x at is i w words world.cells holds) in
          let row = row_cost (picked takes (suc position) ys) (most_moves + 3) in
          let many = length (picked takes (suc position) ys) in
          let one_more : 1 + many ≡ suc many = omega arith in (
            later.0,
            subst (λ ls. Runs target ((most_moves + 3) + row) (suc many) (turn_of ((ls ++ stores.1) ++ rest) f fs world)
                (turn_of rest f fs (with_cells world later.0))) (sym first.2)
                (subst (λ n. Runs target ((most_moves + 3) + row) n (turn_of ((first.0 ∷ stores.1) ++ rest) f fs world)
                (turn_of rest f fs (with_cells world later.0))) one_more
                (runs_then target (most_moves + 3) row 1 many (turn_of (first.0 ∷ (stores.1 ++ rest)) f fs world)
                (turn_of (stores.1 ++ rest) f fs (with_cells world next)) (turn_of rest f fs (with_cells world later.0)) runs
                later.1)),
            later.2,
          )
      by false first again =
          let later = again words world holds in
          let row = row_cost (picked takes (suc position) ys) (most_moves + 3) in
          let many = length (picked takes (suc position) ys) in (
            later.0,
            subst (λ ls. Runs target row many (turn_of ((ls ++ stores.1) ++ rest) f fs world)
                (turn_of rest f fs (with_cells world later.0))) (sym first) later.1,
            later.2,
          )
