-- A reference is given up, and memory has the blocks that this leaves.
use Rattle.std.proofs.Common.{◌≡◌, ◌≢◌, ◌≤◌, ◌<◌, ℕ, zero, suc, ◌+◌, ◌*◌, ◌/◌, ◌%◌, ◌^◌, ◌⊎◌, inl, inr, List, [], Option, Some, true, false, nat_eq, nat_lt, length, refl, sym, ap, ◌∙◌, subst, arith}
use mathlib.Core.Path.{fun_ext}
use Rattle.std.proofs.lemmas.Bool.{cases_eq, cases_lt}
use Rattle.std.proofs.lemmas.Bool.Decides.{nat_tests}
use Rattle.rv_isa.specs.Processor.{Processor}
use Rattle.rv_isa.proofs.Memory.{number_at-same}
use Rattle.rv_isa.specs.Numbers.{cell_size}
use Rattle.cell_heap.specs.Cells.{Body, Cell, no_cell, free, token, waiting, counted}
use Rattle.cell_heap.specs.Pool.{Pool, IsCell}
use Rattle.cell_heap.specs.View.{Link}
use Rattle.cell_heap.specs.Memory.{word, Memory, IsNoCount}
use Rattle.cell_heap.specs.Turns.{Turns, Work}
use Rattle.cell_heap.specs.Blocks.{Block, no_block, unused, own, kept, Cells, with_word, fields_of, seen, seen_cells, view_of, merged, merged_cells}
use Rattle.cell_heap.specs.ProgramMemory.{AreKnown, IsKnown, IsOwnBlock, HoldsCells}
use Rattle.cell_heap.proofs.CountChanges.{counted-some}
use Rattle.cell_heap.proofs.Frames.{shown-cell, shows-at}
use Rattle.cell_heap.proofs.CellsAfterDrop.{Becomes, IsLeft, IsLeft-same}
use Rattle.cell_heap.proofs.Turns.{Turns-settled}
use Rattle.cell_heap.proofs.DropMeaning.{Turns-left}
use Rattle.cell_heap.proofs.Blocks.{seen-by, own-cell, own-known}

-- ---- the cells that are seen then

recounted : (words : ℕ → Option ℕ) (count header : ℕ) → words 1 ≡ Some header → header / 256 < 2 ^ length (fields_of words)
    → seen (own (with_word 0 count words)) ≡ counted count (record { tag = header % 256; mask = header / 256; fields = fields_of words })
recounted words count header is below =
    let test : nat_lt (header / 256) (2 ^ length (fields_of words)) ≡ true = grind (arith, nat_tests) in
    rw (is, test) refl

seen-merged_own : (words : ℕ → Option ℕ) (now : Cell) → ((body : Body) → now ≢ waiting body) → Becomes (seen (own words)) now → seen (merged now (own words)) ≡ now
seen-merged_own words now settled becomes =
    seen-by (λ c. seen (own words) ≡ c → Becomes c now → seen (merged now (own words)) ≡ now) (words 0) (words 1) (fields_of words)
    (λ count header count_is header_is below is left. elim left [
      | inl gone ↦ subst (λ n. seen (merged n (own words)) ≡ n) (sym gone) refl
      | inr more ↦
          elim more [
            | inl waits ↦ absurd (settled _ waits)
            | inr again ↦ subst (λ n. seen (merged n (own words)) ≡ n) (sym again.1) (recounted words again.0 header header_is below)
          ]
    ])
    (λ is left. subst (λ n. seen (merged n (own words)) ≡ n) (sym left) is)
    refl becomes

seen-merged : (block : Block) (now : Cell) → ((body : Body) → now ≢ waiting body) → Becomes (seen block) now → seen (merged now block) ≡ now
seen-merged no_block now settled left = subst (λ n. seen (merged n no_block) ≡ n) (sym left) refl
seen-merged unused now settled left = subst (λ n. seen (merged n unused) ≡ n) (sym left) refl
seen-merged (kept words) now settled left = subst (λ n. seen (merged n (kept words)) ≡ n) (sym left) refl
seen-merged (own words) now settled left = seen-merged_own words now settled left

merged-own : (now : Cell) (block : Block) → IsOwnBlock (merged now block) → IsOwnBlock block
merged-own (counted count body) (own words) is_own = tt
merged-own (counted count body) no_block is_own = is_own
merged-own (counted count body) unused is_own = is_own
merged-own (counted count body) (kept words) is_own = is_own
merged-own free block is_own = absurd is_own
merged-own no_cell block is_own = is_own
merged-own (token fields) block is_own = is_own
merged-own (waiting body) block is_own = is_own

-- ---- the words that are known then

other_cell : (pool : Pool) (x at z : ℕ) → IsCell pool x → IsCell pool at → x ≢ at → x ≤ z → z < x + cell_size
    → (z < at) ⊎ (at + 4 ≤ z)
other_cell pool x at z cell other differ low high =
    let a = cell.aligned in
    let b = other.aligned in
    elim (cases_lt x at) [ inl below ↦ inl (omega arith) | inr above ↦ inr (grind arith) ]

other_word : (words : ℕ → Option ℕ) (count i : ℕ) → with_word 0 count words (suc i) ≡ words (suc i)
other_word words count i = let test : nat_eq (suc i) 0 ≡ false = grind (arith, nat_tests) in rw test refl

module _ {pool : Pool} {cells : Cells} {links : List Link} {s : Processor} (t : Processor) (holds : HoldsCells pool cells links s) (others : (x : ℕ) → IsNoCount (seen_cells cells) x → t.memory x ≡ s.memory x) where
  -- all words of a cell but its first
  behind : (x y : ℕ) → IsCell pool x → x + 4 ≤ y → y + 4 ≤ x + cell_size → word t.memory y ≡ word s.memory y
  behind x y cell low high =
      number_at-same t.memory s.memory y 4 (λ z from to. others z (λ at count body is.
      elim (cases_eq x at) [
        | inl same ↦ inr (omega arith)
        | inr differ ↦ other_cell pool x at z cell (shown-cell holds.memory.shown at (counted count body) is (counted-some count body)) differ (omega arith) (omega arith)
      ]))

  -- and all of one that is not counted
  uncounted : (x y : ℕ) → IsCell pool x → ((count : ℕ) (body : Body) → seen_cells cells x ≢ counted count body) → x ≤ y → y + 4 ≤ x + cell_size → word t.memory y ≡ word s.memory y
  uncounted x y cell not_counted low high =
      number_at-same t.memory s.memory y 4 (λ z from to. others z (λ at count body is.
      other_cell pool x at z cell (shown-cell holds.memory.shown at (counted count body) is (counted-some count body))
      (λ same. not_counted count body (ap (seen_cells cells) same ∙ is)) (omega arith) (omega arith)))

  module _ (work : Work) (settled : (x : ℕ) (body : Body) → work.heap x ≢ waiting body) (left : IsLeft (seen_cells cells) work.heap)
      (memory : Memory pool (record (view_of cells links) { heap = work.heap; frees = work.frees }) t) where
    known_again : (x : ℕ) (words : ℕ → Option ℕ) (count : ℕ) (body : Body) → cells.blocks x ≡ own words → work.heap x ≡ counted count body → AreKnown t.memory x 0 (with_word 0 count words)
    known_again x words count body is now zero w low high word_is =
        let shows = shows-at memory.shown x (counted count body) now in
        let here : x + 4 * 0 ≡ x = omega arith in
        let value_is : count ≡ w = cc in
        (ap (word t.memory) here ∙ shows.1 ∙ value_is, subst (λ n. n < 2 ^ 32) value_is shows.2)
    known_again x words count body is now (suc i) w low high word_is =
        let old = own-known holds x words is (suc i) w (omega arith) high (sym (other_word words count i) ∙ word_is) in
        (behind x (x + 4 * suc i) (own-cell holds x words is) (omega arith) (omega arith) ∙ old.0, old.1)

    known_still : (x : ℕ) (words : ℕ → Option ℕ) → cells.blocks x ≡ own words → ((count : ℕ) (body : Body) → seen_cells cells x ≢ counted count body) → AreKnown t.memory x 0 words
    known_still x words is not_counted i w low high word_is =
        let old = own-known holds x words is i w low high word_is in
        (uncounted x (x + 4 * i) (own-cell holds x words is) not_counted (omega arith) (omega arith) ∙ old.0, old.1)

    known-merged_own : (x : ℕ) (words : ℕ → Option ℕ) → cells.blocks x ≡ own words → Becomes (seen (own words)) (work.heap x) → IsKnown t.memory x (merged (work.heap x) (own words))
    known-merged_own x words is becomes =
        seen-by (λ c. seen (own words) ≡ c → Becomes c (work.heap x) → IsKnown t.memory x (merged (work.heap x) (own words))) (words 0) (words 1) (fields_of words)
        (λ count header count_is header_is below seen_is becoming. elim becoming [
          | inl gone ↦ subst (λ n. IsKnown t.memory x (merged n (own words))) (sym gone) tt
          | inr more ↦
              elim more [
                | inl waits ↦ absurd (settled x _ waits)
                | inr again ↦ subst (λ n. IsKnown t.memory x (merged n (own words))) (sym again.1) (known_again x words again.0 _ is again.1)
              ]
        ])
        (λ seen_is becoming. subst (λ n. IsKnown t.memory x (merged n (own words))) (sym becoming) (known_still x words is (not_now x words (fields_of words) is seen_is)))
        refl becomes
      where
        not_now : (x : ℕ) (words : ℕ → Option ℕ) (fields : List ℕ) → cells.blocks x ≡ own words → seen (own words) ≡ token fields → (count : ℕ) (body : Body) → seen_cells cells x ≢ counted count body
        not_now x words fields is seen_is count body e = let here = ap seen is in cc

    known-merged : (x : ℕ) (block : Block) → cells.blocks x ≡ block → Becomes (seen block) (work.heap x) → IsKnown t.memory x (merged (work.heap x) block)
    known-merged x no_block is becomes = subst (λ n. IsKnown t.memory x (merged n no_block)) (sym becomes) tt
    known-merged x unused is becomes = subst (λ n. IsKnown t.memory x (merged n unused)) (sym becomes) tt
    known-merged x (kept words) is becomes =
        let cell = shown-cell holds.memory.shown x (token (fields_of words)) (ap seen is) (λ e. cc) in
        let old : IsKnown s.memory x (kept words) = subst (IsKnown s.memory x) is (holds.known x) in
        subst (λ n. IsKnown t.memory x (merged n (kept words))) (sym becomes)
        (λ i w low high word_is. let was = old i w low high word_is in (behind x (x + 4 * i) cell (omega arith) (omega arith) ∙ was.0, was.1))
    known-merged x (own words) is becomes = known-merged_own x words is becomes

    merged-holds : HoldsCells pool (merged_cells work cells) links t
    merged-holds =
        let heap_is : seen_cells (merged_cells work cells) ≡ work.heap = fun_ext (λ x. seen-merged (cells.blocks x) (work.heap x) (settled x) (left.each x)) in
        record {
          memory = subst (λ h. Memory pool (record (view_of cells links) { heap = h; frees = work.frees }) t) (sym heap_is) memory;
          known = λ x. known-merged x (cells.blocks x) refl (left.each x);
          apart = λ x is_own. holds.apart x (merged-own (work.heap x) (cells.blocks x) is_own);
        }

-- where memory has the cells that the turns come to, and counts alone have changed
pub drop-holds : {pool : Pool} {cells : Cells} {links : List Link} {s t : Processor} {refs : List ℕ} → HoldsCells pool cells links s → (work : Work) → Turns refs [] cells.frees (seen_cells cells) work.gave work.freed work.frees work.heap
    → Memory pool (record (view_of cells links) { heap = work.heap; frees = work.frees }) t → ((x : ℕ) → IsNoCount (seen_cells cells) x → t.memory x ≡ s.memory x) → HoldsCells pool (merged_cells work cells) links t
drop-holds {cells = cells} {t = t} holds work turns memory others =
    merged-holds t holds others work (Turns-settled turns holds.memory.settled) (Turns-left (seen_cells cells) holds.memory.settled turns (IsLeft-same (seen_cells cells))) memory
