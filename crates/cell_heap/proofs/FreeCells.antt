-- The free cells of a view, as a list: those of the chain, and those from the border on.
use Rattle.std.proofs.Common.{◌≡◌, ◌≢◌, ◌≤◌, ℕ, zero, suc, ◌+◌, ◌-◌, ◌*◌, ◌/◌, ◌%◌, inl, inr, List, [], ◌∷◌, ◌++◌, length, take, true, false, ◌&&◌, nat_eq, refl, sym, ap, ◌∙◌, arith, length-append}
use Rattle.std.proofs.lemmas.Bool.{cases_eq, cases_lt, or_cases, or_left, or_right, and_parts}
use Rattle.std.proofs.lemmas.Bool.Decides.{nat_tests}
use Rattle.cell_heap.specs.Cells.{free, Heap, occurs}
use Rattle.cell_heap.specs.Pool.{Pool, end_of, IsCell, IsUsable}
use Rattle.rv_isa.specs.FreeCells.{chain as image_chain, border as image_border, border_size, cells_from, free_list}
use Rattle.rv_isa.specs.Processor.{Processor, value, can_load, lies_in_part}
use Rattle.rv_isa.specs.Numbers.{cell_size}
use Rattle.kk_base.specs.Memory.{Part, covers}
use Rattle.cell_heap.specs.View.{View, HasBorder}
use Rattle.cell_heap.specs.Memory.{word, IsShown, IsChain, Memory}
use Rattle.cell_heap.specs.FreeCells.{ListsFree}
use Rattle.cell_heap.proofs.Sums.{occurs-by, occurs-other, occurs-same, occurs-append, occurs-below, occurs-cells}
use Rattle.cell_heap.proofs.Frames.{shown-cell, free-some, cell-inside}
use Rattle.cell_heap.proofs.WaitChains.{IsChain-apart}
use Rattle.cell_heap.proofs.DistinctCells.{cells_from-member, length-cells_from, length-total, total-at_most}

-- each member of a chain is free and stands there once
pub IsChain-free : (memory : ℕ → ℕ) (heap : Heap) (from : ℕ) (cells : List ℕ) → IsChain memory heap from cells → (x : ℕ) → occurs x cells ≢ 0 → heap x ≡ free
IsChain-free memory heap from [] chain x some = absurd (some refl)
IsChain-free memory heap from (first ∷ cells) chain x some =
    elim (occurs-by x first cells some) [
      | inl e ↦ ap heap e ∙ chain.1
      | inr later ↦ IsChain-free memory heap (word memory first) cells chain.3 x later
    ]

pub IsChain-once : (memory : ℕ → ℕ) (heap : Heap) (from : ℕ) (cells : List ℕ) → IsChain memory heap from cells → (x : ℕ) → occurs x cells ≤ 1
IsChain-once memory heap from [] chain x = omega arith
IsChain-once memory heap from (first ∷ cells) chain x =
    let rest = IsChain-once memory heap (word memory first) cells chain.3 x in
    elim (cases_eq x first) [
      | inl e ↦ (let here = occurs-same x first cells e in let none = ap (λ y. occurs y cells) e ∙ chain.2 in omega arith)
      | inr differ ↦ (let here = occurs-other x first cells differ in omega arith)
    ]

-- how many cells were never used
abbrev pub fresh_cells : Pool → ℕ → ℕ
fresh_cells pool border = (end_of pool - border) / cell_size

-- each free cell is listed once, and no other address
module _ (pool : Pool) (memory : ℕ → ℕ) (view : View) (from : ℕ) (aligned : pool.first % cell_size ≡ 0) (shown : IsShown pool memory view.heap) (chain : IsChain memory view.heap from view.frees) (has : HasBorder pool view) where
  whole-border : view.border + cell_size * fresh_cells pool view.border ≡ end_of pool
  whole-border = let within = has.within in let whole = has.aligned in omega arith

  fresh-once : (x : ℕ) → IsCell pool x → view.border ≤ x → occurs x (cells_from view.border (fresh_cells pool view.border)) ≡ 1
  fresh-once x cell high =
      let sum = whole-border in
      let below = cell.before in
      occurs-cells x view.border (fresh_cells pool view.border) high (omega arith) (has.aligned ∙ sym cell.aligned)

  pub free-listed : (x : ℕ) → view.heap x ≡ free → occurs x (view.frees ++ cells_from view.border (fresh_cells pool view.border)) ≡ 1
  free-listed x is =
      let cell = shown-cell shown x free is free-some in
      let sum = occurs-append x view.frees (cells_from view.border (fresh_cells pool view.border)) in
      let once = IsChain-once memory view.heap from view.frees chain x in
      let chained = has.chained x is in
      elim (cases_lt x view.border) [
        | inl below ↦
            (let some = chained.1 below in
            let none = occurs-below x view.border (fresh_cells pool view.border) below in
            elim (cases_eq (occurs x view.frees) 0) [ inl gone ↦ absurd (some gone) | inr there ↦ grind arith ])
        | inr high ↦
            (let fresh = fresh-once x cell high in
            elim (cases_eq (occurs x view.frees) 0) [
              | inl none ↦ omega arith
              | inr some ↦ (let below = chained.0 some in absurd (omega arith))
            ])
      ]

  pub other-unlisted : (x : ℕ) → view.heap x ≢ free → occurs x (view.frees ++ cells_from view.border (fresh_cells pool view.border)) ≡ 0
  other-unlisted x other =
      let sum = occurs-append x view.frees (cells_from view.border (fresh_cells pool view.border)) in
      let none = IsChain-apart memory view.heap x other from view.frees chain in
      elim (cases_eq (occurs x (cells_from view.border (fresh_cells pool view.border))) 0) [
        | inl gone ↦ omega arith
        | inr some ↦
            (let member = cells_from-member x view.border (fresh_cells pool view.border) some in
            let low = member.0 in
            let high = member.1 in
            let size = whole-border in
            let behind = has.behind in
            let cell : IsCell pool x = record { behind = omega arith; before = omega arith; aligned = member.2 ∙ has.aligned } in
            absurd (other (has.fresh x cell low)))
      ]

  -- there are no more of them than cells
  chain-few : length view.frees ≤ (view.border - pool.first) / cell_size
  chain-few =
      let behind = has.behind in
      let whole = has.aligned in
      let n = (view.border - pool.first) / cell_size in
      let size : pool.first + cell_size * n ≡ view.border = omega arith in
      let most = total-at_most (λ p. occurs p view.frees) (cells_from pool.first n) (IsChain-once memory view.heap from view.frees chain) in
      let count = length-cells_from pool.first n in
      let sum = length-total view.frees (cells_from pool.first n) (λ x some.
      let is = IsChain-free memory view.heap from view.frees chain x some in
      let cell = shown-cell shown x free is free-some in
      let below = (has.chained x is).0 some in
      let low = cell.behind in
      occurs-cells x pool.first n low (omega arith) (aligned ∙ sym cell.aligned)) in
      omega arith

  pub listed-few : length (view.frees ++ cells_from view.border (fresh_cells pool view.border)) ≤ pool.cells
  listed-few =
      let few = chain-few in
      let sum = length-append view.frees (cells_from view.border (fresh_cells pool view.border)) in
      let count = length-cells_from view.border (fresh_cells pool view.border) in
      let size = whole-border in
      let behind = has.behind in
      let whole = has.aligned in
      omega arith

-- ---- the free cells of an image

lies-loaded : (parts : List Part) (at count : ℕ) → can_load parts at count ≡ true → lies_in_part parts at count ≡ true
lies-loaded [] at count loads = loads
lies-loaded (part ∷ parts) at count loads =
    elim (or_cases (part.readable && covers part at count) (can_load parts at count) loads) [
      | inl first ↦ or_left (covers part at count) (lies_in_part parts at count) (and_parts part.readable (covers part at count) first).1
      | inr later ↦ or_right (covers part at count) (lies_in_part parts at count) (lies-loaded parts at count later)
    ]

-- the chain of an image is the view's
chain-is : (pool : Pool) (parts : List Part) (memory : ℕ → ℕ) (heap : Heap) → IsUsable pool parts → IsShown pool memory heap → (count at : ℕ) (frees : List ℕ) → IsChain memory heap at frees → length frees ≤ count → image_chain parts memory count at ≡ frees
chain-is pool parts memory heap usable shown zero at [] is few = refl
chain-is pool parts memory heap usable shown zero at (first ∷ frees) is few = absurd (omega arith)
chain-is pool parts memory heap usable shown (suc count) at [] is few = let test : nat_eq at 0 ≡ true = grind (arith, nat_tests) in rw test refl
chain-is pool parts memory heap usable shown (suc count) at (first ∷ frees) is few =
    let cell = shown-cell shown first free is.1 free-some in
    let some : at ≢ 0 = λ e. let behind = cell.behind in let above = usable.some in let here = is.0 in omega arith in
    let test : nat_eq at 0 ≡ false = grind (arith, nat_tests) in
    let inside = cell-inside pool first usable.aligned cell in
    let lies : lies_in_part parts at 4 ≡ true = ap (λ a. lies_in_part parts a 4) is.0 ∙ lies-loaded parts first 4 (usable.loads first cell.behind (omega arith)) in
    let rest = chain-is pool parts memory heap usable shown count (word memory first) frees is.3 (omega arith) in
    rw (test, lies) (ap (λ a. a ∷ image_chain parts memory count (word memory a)) is.0 ∙ ap (λ cells. first ∷ cells) rest)

take-all : (n : ℕ) (xs : List ℕ) → length xs ≤ n → take n xs ≡ xs
take-all zero [] few = refl
take-all (suc n) [] few = refl
take-all zero (x ∷ xs) few = absurd (omega arith)
take-all (suc n) (x ∷ xs) few = ap (λ ys. x ∷ ys) (take-all n xs (omega arith))

border-size : (low high : ℕ) → low % cell_size ≡ 0 → high % cell_size ≡ 0 → low ≤ high
    → border_size low high ≡ (high - low) / cell_size
border-size low high low_whole high_whole within = grind (arith, nat_tests)

-- where memory has the cells of a view, the free cells of the image are the view's
pub free_list-is : {pool : Pool} {view : View} {s : Processor} → Memory pool view s → free_list pool.cells s ≡ view.frees ++ cells_from view.border (fresh_cells pool view.border)
free_list-is {pool} {view} {s} memory =
    let aligned = memory.usable.aligned in
    let has = memory.has_border in
    let few = listed-few pool s.memory view (value s.registers 8) aligned memory.shown memory.chain has in
    let sum = length-append view.frees (cells_from view.border (fresh_cells pool view.border)) in
    let chain_is = chain-is pool s.parts s.memory view.heap memory.usable memory.shown pool.cells (value s.registers 8) view.frees memory.chain (omega arith) in
    let high : end_of pool % cell_size ≡ 0 = omega arith in
    let size : border_size (value s.registers 18) (value s.registers 19) ≡ fresh_cells pool view.border = ap (λ n. border_size n (value s.registers 19)) memory.border ∙ ap (border_size view.border) memory.end ∙ border-size view.border (end_of pool) has.aligned high has.within in
    let border_is : image_border s ≡ cells_from view.border (fresh_cells pool view.border) = ap (λ n. cells_from n (border_size (value s.registers 18) (value s.registers 19))) memory.border ∙ ap (cells_from view.border) size in
    ap (λ cells. take pool.cells (cells ++ image_border s)) chain_is ∙ ap (λ cells. take pool.cells (view.frees ++ cells)) border_is ∙ take-all pool.cells (view.frees ++ cells_from view.border (fresh_cells pool view.border)) few

pub free_list-lists : (pool : Pool) (view : View) (s : Processor) → Memory pool view s → ListsFree view.heap (free_list pool.cells s)
free_list-lists pool view s memory =
    let is = free_list-is memory in
    let aligned = memory.usable.aligned in
    record {
      once = λ at free_at. ap (occurs at) is ∙ free-listed pool s.memory view (value s.registers 8) aligned memory.shown memory.chain memory.has_border at free_at;
      no_other = λ at other. ap (occurs at) is ∙ other-unlisted pool s.memory view (value s.registers 8) aligned memory.shown memory.chain memory.has_border at other;
    }
