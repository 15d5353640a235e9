-- Where all cells of the world are free, so are all cells of the image.
use Rattle.std.proofs.Common.{◌≡◌, ◌≢◌, ◌%◌, ◌/◌, ◌^◌, ℕ, Bool, true, false, List, [], ◌∷◌, length, zero, suc, Option, Some, None, nat_lt, refl, sym, ap, ◌∙◌, arith}
use Rattle.std.specs.Prelude.{if◌then◌else◌}
use Rattle.cell_heap.specs.Blocks.{Block, no_block, unused, own, kept, Cells, seen, seen_with, seen_cells, fields_of, view_of}
use Rattle.cell_heap.specs.Cells.{Cell, no_cell, free, token, counted, occurs}
use Rattle.cell_heap.specs.Counts.{total}
use Rattle.cell_heap.specs.FreeCells.{ListsFree}
use Rattle.cell_heap.specs.Pool.{Pool, IsCell, places}
use Rattle.cell_heap.proofs.DistinctCells.{cells_from-member, length-cells_from, length-total}
use Rattle.cell_heap.proofs.FreeCells.{free_list-lists}
use Rattle.cell_heap.proofs.Frames.{shown-cell, free-some}
use Rattle.cell_heap.proofs.Sums.{occurs-cells, occurs-first, occurs-later}
use Rattle.rv_isa.specs.FreeCells.{free_list, free_cells}
use Rattle.rv_isa.specs.Numbers.{cell_size}
use Rattle.rv_isa.specs.Processor.{Processor}
use Rattle.rv_cells.specs.Meaning.{AreFree}
use Rattle.rv_place.specs.ProcessorStates.{HasCells}
use Rattle.kk_back.specs.FreeCells.{AreAllFree}

-- a sum of ones
total-ones : (f : ℕ → ℕ) (xs : List ℕ) → ((x : ℕ) → occurs x xs ≢ 0 → f x ≡ 1) → total f xs ≡ length xs
total-ones f [] each = refl
total-ones f (x ∷ xs) each =
    let here : f x ≡ 1 = each x (occurs-first x xs) in
    let rest = total-ones f xs (λ y some. each y (occurs-later y x xs some)) in
    omega (arith, here, rest)

-- what is seen as free is unused
by_test : (b : Bool) (one other : Cell) → one ≢ free → other ≢ free → (if b then one else other) ≢ free
by_test true one other first second = first
by_test false one other first second = second

seen_words : (count header : Option ℕ) (fields : List ℕ) → seen_with count header fields ≢ free
seen_words None header fields = λ is. cc
seen_words (Some count) None fields = λ is. cc
seen_words (Some count) (Some header) fields =
    by_test (nat_lt (header / 256) (2 ^ length fields)) (counted count (record { tag = header % 256; mask = header / 256; fields = fields })) (token fields)
    (λ is. cc) (λ is. cc)

pub all_are_free : (pool : Pool) (cells : Cells) (s : Processor) → AreFree pool cells → HasCells pool cells s
    → AreAllFree pool.cells s
all_are_free pool cells s free_are has = record {
  first = pool.first;
  aligned = has.1.memory.usable.aligned;
  stores = has.1.memory.usable.stores;
  each_once = same;
  number = number;
}
  where
    aligned : pool.first % cell_size ≡ 0
    aligned = has.1.memory.usable.aligned

    place_is : (x : ℕ) → occurs x (places pool) ≢ 0 → IsCell pool x
    place_is x some =
        let member = cells_from-member x pool.first pool.cells some in
        record { behind = member.0; before = member.1; aligned = member.2 ∙ aligned }

    once : (x : ℕ) → occurs x (places pool) ≢ 0 → ListsFree (seen_cells cells) (free_list pool.cells s) → occurs x (free_list pool.cells s) ≡ 1
    once x some lists = lists.once x (ap seen (free_are x (place_is x some)))

    of_block : (x : ℕ) (block : Block) → cells.blocks x ≡ block → occurs x (free_list pool.cells s) ≢ 0
        → ListsFree (seen_cells cells) (free_list pool.cells s) → seen_cells cells x ≡ free
    of_block x no_block is some lists = absurd (some (lists.no_other x (λ same. let all : no_cell ≡ free = sym (ap seen is) ∙ same in cc)))
    of_block x unused is some lists = ap seen is
    of_block x (own words) is some lists =
        absurd (some (lists.no_other x (λ same. seen_words (words 0) (words 1) (fields_of words) (sym (ap seen is) ∙ same))))
    of_block x (kept words) is some lists =
        absurd (some (lists.no_other x (λ same. let all : token (fields_of words) ≡ free = sym (ap seen is) ∙ same in cc)))

    listed : (x : ℕ) → occurs x (free_list pool.cells s) ≢ 0 → ListsFree (seen_cells cells) (free_list pool.cells s) → occurs x (places pool) ≡ 1
    listed x some lists =
        let is_free = of_block x (cells.blocks x) refl some lists in
        let cell = shown-cell has.1.memory.shown x free is_free free-some in
        let low = cell.behind in
        let high = cell.before in
        occurs-cells x pool.first pool.cells low high (aligned ∙ sym cell.aligned)

    lists : ListsFree (seen_cells cells) (free_list pool.cells s)
    lists = free_list-lists pool (view_of cells has.0) s has.1.memory

    same : (x : ℕ) → occurs x (free_list pool.cells s) ≡ occurs x (places pool)
    same x = by_count (occurs x (places pool)) refl
      where
        none : (n : ℕ) → occurs x (free_list pool.cells s) ≡ n → occurs x (places pool) ≡ 0 → n ≡ 0
        none zero is no_place = refl
        none (suc n) is no_place =
            let there = listed x (λ no. let never : suc n ≡ 0 = sym is ∙ no in cc) lists in
            absurd (let never : 1 ≡ 0 = sym there ∙ no_place in cc)

        by_count : (n : ℕ) → occurs x (places pool) ≡ n → occurs x (free_list pool.cells s) ≡ occurs x (places pool)
        by_count zero is = none (occurs x (free_list pool.cells s)) refl is ∙ sym is
        by_count (suc n) is =
            let some : occurs x (places pool) ≢ 0 = λ no. let never : suc n ≡ 0 = sym is ∙ no in cc in
            let found = once x some lists in
            found ∙ sym (listed x (λ no. let never : 1 ≡ 0 = sym found ∙ no in cc) lists)

    number : free_cells pool.cells s ≡ pool.cells
    number =
        let list = free_list pool.cells s in
        let counted_there = length-total list (places pool) (λ x some. listed x some lists) in
        let ones = total-ones (λ p. occurs p list) (places pool) (λ x some. once x some lists) in
        let many = length-cells_from pool.first pool.cells in
        sym counted_there ∙ ones ∙ many
