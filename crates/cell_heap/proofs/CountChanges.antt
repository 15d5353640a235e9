-- What one change of a cell does to the counts, to the ranks and to the credit.
use Rattle.std.proofs.Common.{◌≡◌, ◌≢◌, ◌<◌, ℕ, zero, suc, ◌+◌, ◌%◌, List, [], ◌∷◌, ◌++◌, refl, sym, ap, ◌∙◌, subst, arith}
use Rattle.cell_heap.specs.Cells.{Body, Cell, no_cell, free, token, waiting, counted, Heap, changed, references, owned, occurs}
use Rattle.cell_heap.specs.Counts.{count_of, references_to, HasCounts, IsAcyclic, credit_of, credit}
use Rattle.cell_heap.proofs.Sums.{occurs-same, occurs-other, occurs-first, occurs-append, total-change}
use Rattle.cell_heap.proofs.Frames.{changed-by, changed-same, changed-other}

-- each cell is at an even address, which is one of the places, once
pub record IsListed (places : List ℕ) (heap : Heap) : Type 0 where
  pub once : (at : ℕ) → heap at ≢ no_cell → occurs at places ≡ 1
  pub even : (at : ℕ) → heap at ≢ no_cell → at % 2 ≡ 0

pub counted-some : (count : ℕ) (body : Body) → counted count body ≢ no_cell
counted-some count body e = cc

pub waiting-some : (body : Body) → waiting body ≢ no_cell
waiting-some body e = cc

pub is-some : (heap : Heap) (at : ℕ) (cell : Cell) → heap at ≡ cell → cell ≢ no_cell → heap at ≢ no_cell
is-some heap at cell is some = λ e. some (sym is ∙ e)

pub IsListed-changed : {places : List ℕ} {heap : Heap} (at : ℕ) (cell : Cell) → heap at ≢ no_cell → IsListed places heap → IsListed places (changed at cell heap)
IsListed-changed {places} {heap} at cell some listed = record {
  once = λ x. changed-by (λ c. c ≢ no_cell → occurs x places ≡ 1) x at cell heap
      (λ e is. listed.once x (subst (λ y. heap y ≢ no_cell) (sym e) some))
      (λ differ. listed.once x);
  even = λ x. changed-by (λ c. c ≢ no_cell → x % 2 ≡ 0) x at cell heap
      (λ e is. listed.even x (subst (λ y. heap y ≢ no_cell) (sym e) some))
      (λ differ. listed.even x);
}

-- ---- sums over the places

module _ (places : List ℕ) (heap : Heap) (at : ℕ) (cell : Cell) (once : occurs at places ≡ 1) where
  pub references_to-changed : (x : ℕ) → references_to x (changed at cell heap) places + occurs x (owned (heap at)) ≡ references_to x heap places + occurs x (owned cell)
  references_to-changed x =
      let now = changed-same at cell heap in
      let here : occurs x (owned (changed at cell heap at)) ≡ occurs x (owned cell) = ap (λ c. occurs x (owned c)) now in
      let e = total-change (λ place. occurs x (owned (changed at cell heap place))) (λ place. occurs x (owned (heap place))) at places
      (λ y differ. ap (λ c. occurs x (owned c)) (changed-other at cell heap y differ)) once in
      e ∙ ap (λ n. references_to x heap places + n) here

  pub credit-changed : (a_cell a_reference : ℕ) → credit a_cell a_reference places (changed at cell heap) + credit_of a_cell a_reference (heap at) ≡ credit a_cell a_reference places heap + credit_of a_cell a_reference cell
  credit-changed a_cell a_reference =
      let now = changed-same at cell heap in
      let here : credit_of a_cell a_reference (changed at cell heap at) ≡ credit_of a_cell a_reference cell = ap (λ c. credit_of a_cell a_reference c) now in
      let e = total-change (λ place. credit_of a_cell a_reference (changed at cell heap place)) (λ place. credit_of a_cell a_reference (heap place)) at places
      (λ y differ. ap (λ c. credit_of a_cell a_reference c) (changed-other at cell heap y differ)) once in
      e ∙ ap (λ n. credit a_cell a_reference places heap + n) here

  -- the counts stay right where what is given up, what the cell owns and the counts move by the same
  right-changed : (roots : ℕ → ℕ) (given left : List ℕ)
      → ((x : ℕ) → count_of (changed at cell heap x) + occurs x given + occurs x (owned (heap at)) ≡ count_of (heap x) + occurs x left + occurs x (owned cell))
      → (x : ℕ) → count_of (heap x) ≡ roots x + occurs x given + references_to x heap places → count_of (changed at cell heap x) ≡ roots x + occurs x left + references_to x (changed at cell heap) places
  right-changed roots given left moves x right =
      let move = moves x in let sums = references_to-changed x in omega arith

pub HasCounts-changed : {places : List ℕ} {roots : ℕ → ℕ} {given : List ℕ} {heap : Heap} (at : ℕ) (cell : Cell) (left : List ℕ) → IsListed places heap → heap at ≢ no_cell
    → ((count : ℕ) (body : Body) → cell ≡ counted count body → 0 < count)
    → ((x : ℕ) → count_of (changed at cell heap x) + occurs x given + occurs x (owned (heap at)) ≡ count_of (heap x) + occurs x left + occurs x (owned cell))
    → HasCounts places roots given heap → HasCounts places roots left (changed at cell heap)
HasCounts-changed {places} {roots} {given} {heap} at cell left listed some above moves counts = record {
  right = λ x even. right-changed places heap at cell (listed.once at some) roots given left moves x (counts.right x even);
  some = λ x count body. changed-by (λ c. c ≡ counted count body → 0 < count) x at cell heap (λ e. above count body) (λ differ. counts.some x count body);
}

-- ---- the four moves

module _ {places : List ℕ} {roots : ℕ → ℕ} {heap : Heap} (listed : IsListed places heap) where
  -- an odd reference names no cell
  pub HasCounts-constant : {x : ℕ} {xs : List ℕ} → x % 2 ≡ 1 → HasCounts places roots (x ∷ xs) heap → HasCounts places roots xs heap
  HasCounts-constant {x} {xs} odd counts = record {
    right = λ y even.
        let other = occurs-other y x xs (λ e. let parts = ap (λ n. n % 2) e in omega arith) in
        let right = counts.right y even in
        omega arith;
    some = counts.some;
  }

  pub HasCounts-lowered : {x : ℕ} {xs : List ℕ} {count : ℕ} {body : Body} → heap x ≡ counted (suc (suc count)) body → HasCounts places roots (x ∷ xs) heap
      → HasCounts places roots xs (changed x (counted (suc count) body) heap)
  HasCounts-lowered {x} {xs} {count} {body} is counts =
      HasCounts-changed x (counted (suc count) body) xs listed (is-some heap x _ is (counted-some _ body)) (λ k b e. let n = ap count_of e in omega arith) moves counts
    where
      moves : (y : ℕ) → count_of (changed x (counted (suc count) body) heap y) + occurs y (x ∷ xs) + occurs y (owned (heap x)) ≡ count_of (heap y) + occurs y xs + occurs y (references body)
      moves y =
          let owns : occurs y (owned (heap x)) ≡ occurs y (references body) = ap (λ c. occurs y (owned c)) is in
          changed-by (λ c. count_of c + occurs y (x ∷ xs) + occurs y (owned (heap x)) ≡ count_of (heap y) + occurs y xs + occurs y (references body)) y x (counted (suc count) body) heap
          (λ e. let had = ap count_of (ap heap e ∙ is) in let here = occurs-same y x xs e in omega arith)
          (λ differ. let other = occurs-other y x xs differ in omega arith)

  pub HasCounts-waiting : {x : ℕ} {xs : List ℕ} {body : Body} → heap x ≡ counted 1 body → HasCounts places roots (x ∷ xs) heap
      → HasCounts places roots xs (changed x (waiting body) heap)
  HasCounts-waiting {x} {xs} {body} is counts =
      HasCounts-changed x (waiting body) xs listed (is-some heap x _ is (counted-some _ body)) (λ k b e. cc) moves counts
    where
      moves : (y : ℕ) → count_of (changed x (waiting body) heap y) + occurs y (x ∷ xs) + occurs y (owned (heap x)) ≡ count_of (heap y) + occurs y xs + occurs y (references body)
      moves y =
          let owns : occurs y (owned (heap x)) ≡ occurs y (references body) = ap (λ c. occurs y (owned c)) is in
          changed-by (λ c. count_of c + occurs y (x ∷ xs) + occurs y (owned (heap x)) ≡ count_of (heap y) + occurs y xs + occurs y (references body)) y x (waiting body) heap
          (λ e. let had = ap count_of (ap heap e ∙ is) in let here = occurs-same y x xs e in omega arith)
          (λ differ. let other = occurs-other y x xs differ in omega arith)

  pub HasCounts-opened : {x : ℕ} {body : Body} → heap x ≡ waiting body → HasCounts places roots [] heap → HasCounts places roots (references body) (changed x free heap)
  HasCounts-opened {x} {body} is counts =
      HasCounts-changed x free (references body) listed (is-some heap x _ is (waiting-some body)) (λ k b e. cc) moves counts
    where
      moves : (y : ℕ) → count_of (changed x free heap y) + 0 + occurs y (owned (heap x)) ≡ count_of (heap y) + occurs y (references body) + 0
      moves y =
          let owns : occurs y (owned (heap x)) ≡ occurs y (references body) = ap (λ c. occurs y (owned c)) is in
          changed-by (λ c. count_of c + 0 + occurs y (owned (heap x)) ≡ count_of (heap y) + occurs y (references body) + 0) y x free heap
          (λ e. let had = ap count_of (ap heap e ∙ is) in omega arith)
          (λ differ. omega arith)

  pub HasCounts-freed : {x : ℕ} {xs : List ℕ} {body : Body} → heap x ≡ counted 1 body → HasCounts places roots (x ∷ xs) heap
      → HasCounts places roots (references body ++ xs) (changed x free heap)
  HasCounts-freed {x} {xs} {body} is counts =
      HasCounts-changed x free (references body ++ xs) listed (is-some heap x _ is (counted-some _ body)) (λ k b e. cc) moves counts
    where
      moves : (y : ℕ) → count_of (changed x free heap y) + occurs y (x ∷ xs) + occurs y (owned (heap x)) ≡ count_of (heap y) + occurs y (references body ++ xs) + 0
      moves y =
          let owns : occurs y (owned (heap x)) ≡ occurs y (references body) = ap (λ c. occurs y (owned c)) is in
          let joined = occurs-append y (references body) xs in
          changed-by (λ c. count_of c + occurs y (x ∷ xs) + occurs y (owned (heap x)) ≡ count_of (heap y) + occurs y (references body ++ xs) + 0) y x free heap
          (λ e. let had = ap count_of (ap heap e ∙ is) in let here = occurs-same y x xs e in omega arith)
          (λ differ. let other = occurs-other y x xs differ in omega arith)

  -- an even reference that is about to be given up names a counted cell
  pub HasCounts-next : {x : ℕ} {xs : List ℕ} → x % 2 ≡ 0 → HasCounts places roots (x ∷ xs) heap → (count : ℕ) × (body : Body) × (heap x ≡ counted (suc count) body)
  HasCounts-next {x} {xs} even counts =
      let right = counts.right x even in
      let first = occurs-first x xs in
      by-cell (heap x) refl (λ none. first (omega arith))
    where
      by-cell : (cell : Cell) → heap x ≡ cell → count_of cell ≢ 0 → (count : ℕ) × (body : Body) × (heap x ≡ counted (suc count) body)
      by-cell (counted (suc count) body) is some = (count, body, is)
      by-cell (counted zero body) is some = absurd (some refl)
      by-cell no_cell is some = absurd (some refl)
      by-cell free is some = absurd (some refl)
      by-cell (token fields) is some = absurd (some refl)
      by-cell (waiting body) is some = absurd (some refl)

-- ---- ranks

pub IsAcyclic-changed : {heap : Heap} (at : ℕ) (cell : Cell) → ((x : ℕ) → occurs x (owned cell) ≢ 0 → occurs x (owned (heap at)) ≢ 0) → IsAcyclic heap → IsAcyclic (changed at cell heap)
IsAcyclic-changed {heap} at cell within acyclic = record {
  rank = acyclic.rank;
  falls = λ x to even. changed-by (λ c. occurs to (owned c) ≢ 0 → acyclic.rank to < acyclic.rank x) x at cell heap
      (λ e owns. subst (λ y. acyclic.rank to < acyclic.rank y) (sym e) (acyclic.falls at to even (within to owns)))
      (λ differ owns. acyclic.falls x to even owns);
}
