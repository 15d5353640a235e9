-- What giving up references can make of each cell.
use Rattle.std.proofs.Common.{◌≡◌, ◌≢◌, ℕ, ◌⊎◌, inl, inr, List, [], refl, ap, ◌∙◌, subst}
use Rattle.cell_heap.specs.Cells.{Body, Cell, no_cell, free, token, waiting, counted, Heap, changed, owned, occurs}
use Rattle.cell_heap.specs.Counts.{IsAcyclic}
use Rattle.cell_heap.proofs.Frames.{changed-by}
use Rattle.cell_heap.proofs.CountChanges.{IsListed}

-- what becomes of a counted cell: it is freed, it waits, or it has a count again; with what it had in it
abbrev pub BecomesOf : Body → Cell → Type 0
BecomesOf body now = (now ≡ free) ⊎ ((now ≡ waiting body) ⊎ ((count : ℕ) × (now ≡ counted count body)))

-- another cell stays
abbrev pub Becomes : Cell → Cell → Type 0
Becomes (counted count body) now = BecomesOf body now
Becomes cell now = now ≡ cell

pub record IsLeft (start heap : Heap) : Type 0 where
  pub each : (at : ℕ) → Becomes (start at) (heap at)

Becomes-same : (cell : Cell) → Becomes cell cell
Becomes-same (counted count body) = inr (inr (count, refl))
Becomes-same no_cell = refl
Becomes-same free = refl
Becomes-same (token fields) = refl
Becomes-same (waiting body) = refl

pub IsLeft-same : (heap : Heap) → IsLeft heap heap
IsLeft-same heap = record { each = λ at. Becomes-same (heap at) }

-- ---- one change

same-body : (now next : Cell) (count : ℕ) (body other : Body) → now ≡ counted count body → BecomesOf other now → BecomesOf body next → BecomesOf other next
same-body now next count body other is (inl gone) becomes = cc
same-body now next count body other is (inr (inl waits)) becomes = cc
same-body now next count body other is (inr (inr kept)) becomes =
    let there = kept.1 in let same : body ≡ other = cc in subst (λ b. BecomesOf b next) same becomes

Becomes-counted : (cell now next : Cell) (count : ℕ) (body : Body) → now ≡ counted count body → Becomes cell now → BecomesOf body next → Becomes cell next
Becomes-counted (counted n other) now next count body is left becomes =
    same-body now next count body other is left becomes
Becomes-counted no_cell now next count body is left becomes = cc
Becomes-counted free now next count body is left becomes = cc
Becomes-counted (token fields) now next count body is left becomes = cc
Becomes-counted (waiting other) now next count body is left becomes = cc

pub IsLeft-counted : {start heap : Heap} (at count : ℕ) (body : Body) (next : Cell) → heap at ≡ counted count body → BecomesOf body next → IsLeft start heap → IsLeft start (changed at next heap)
IsLeft-counted {start} {heap} at count body next is becomes left = record {
  each = λ x. changed-by (Becomes (start x)) x at next heap
      (λ e. Becomes-counted (start x) (heap x) next count body (ap heap e ∙ is) (left.each x) becomes)
      (λ differ. left.each x);
}

Becomes-freed : (cell now : Cell) (body : Body) → now ≡ waiting body → ((other : Body) → cell ≢ waiting other) → Becomes cell now → Becomes cell free
Becomes-freed (counted n other) now body is settled left = inl refl
Becomes-freed no_cell now body is settled left = cc
Becomes-freed free now body is settled left = refl
Becomes-freed (token fields) now body is settled left = cc
Becomes-freed (waiting other) now body is settled left = absurd (settled other refl)

pub IsLeft-opened : {start heap : Heap} (at : ℕ) (body : Body) → ((x : ℕ) (other : Body) → start x ≢ waiting other) → heap at ≡ waiting body → IsLeft start heap → IsLeft start (changed at free heap)
IsLeft-opened {start} {heap} at body settled is left = record {
  each = λ x. changed-by (Becomes (start x)) x at free heap
      (λ e. Becomes-freed (start x) (heap x) body (ap heap e ∙ is) (settled x) (left.each x))
      (λ differ. left.each x);
}

-- ---- what stays so

-- a cell owns what it owned, or nothing
pub Becomes-owned : (cell now : Cell) → Becomes cell now → (owned now ≡ []) ⊎ (owned now ≡ owned cell)
Becomes-owned (counted n body) now (inl gone) = inl (ap owned gone)
Becomes-owned (counted n body) now (inr (inl waits)) = inr (ap owned waits)
Becomes-owned (counted n body) now (inr (inr kept)) = inr (ap owned kept.1)
Becomes-owned no_cell now left = inl (ap owned left)
Becomes-owned free now left = inl (ap owned left)
Becomes-owned (token fields) now left = inl (ap owned left)
Becomes-owned (waiting body) now left = inr (ap owned left)

pub IsLeft-owned : {start heap : Heap} → IsLeft start heap → (at x : ℕ) → occurs x (owned (heap at)) ≢ 0 → occurs x (owned (start at)) ≢ 0
IsLeft-owned {start} {heap} left at x owns =
    elim (Becomes-owned (start at) (heap at) (left.each at)) [
      | inl none ↦ absurd (owns (ap (occurs x) none))
      | inr same ↦ subst (λ ys. occurs x ys ≢ 0) same owns
    ]

Becomes-none : (cell now : Cell) → Becomes cell now → now ≢ no_cell → cell ≢ no_cell
Becomes-none (counted n body) now left some e = cc
Becomes-none no_cell now left some e = some left
Becomes-none free now left some e = cc
Becomes-none (token fields) now left some e = cc
Becomes-none (waiting body) now left some e = cc

pub IsLeft-acyclic : {start heap : Heap} → IsLeft start heap → IsAcyclic start → IsAcyclic heap
IsLeft-acyclic left acyclic = record {
  rank = acyclic.rank;
  falls = λ at to even owns. acyclic.falls at to even (IsLeft-owned left at to owns);
}

pub IsLeft-listed : {places : List ℕ} {start heap : Heap} → IsLeft start heap → IsListed places start → IsListed places heap
IsLeft-listed {places} {start} {heap} left listed = record {
  once = λ at some. listed.once at (Becomes-none (start at) (heap at) (left.each at) some);
  even = λ at some. listed.even at (Becomes-none (start at) (heap at) (left.each at) some);
}

-- what is a cell was one
pub IsLeft-placed : {start heap : Heap} → IsLeft start heap → (at : ℕ) → heap at ≢ no_cell → start at ≢ no_cell
IsLeft-placed {start} {heap} left at some = Becomes-none (start at) (heap at) (left.each at) some

-- a cell that is not counted is as it was
pub IsLeft-kept : {start heap : Heap} → IsLeft start heap → (at : ℕ) (cell : Cell) → ((count : ℕ) (body : Body) → cell ≢ counted count body) → start at ≡ cell → heap at ≡ cell
IsLeft-kept {start} {heap} left at cell other is = by-cell cell other (subst (λ c. Becomes c (heap at)) is (left.each at))
  where
    by-cell : (cell : Cell) → ((count : ℕ) (body : Body) → cell ≢ counted count body) → Becomes cell (heap at) → heap at ≡ cell
    by-cell (counted count body) other becomes = absurd (other count body refl)
    by-cell no_cell other becomes = becomes
    by-cell free other becomes = becomes
    by-cell (token fields) other becomes = becomes
    by-cell (waiting body) other becomes = becomes

-- what is counted now was counted, and so was what waits, where nothing waited
Becomes-was_counted : (cell now : Cell) (count : ℕ) (body : Body) → now ≡ counted count body → Becomes cell now → (before : ℕ) × (cell ≡ counted before body)
Becomes-was_counted (counted n other) now count body is (inl gone) = cc
Becomes-was_counted (counted n other) now count body is (inr (inl waits)) = cc
Becomes-was_counted (counted n other) now count body is (inr (inr kept)) =
    let there = kept.1 in let same : other ≡ body = cc in (n, ap (counted n) same)
Becomes-was_counted no_cell now count body is left = cc
Becomes-was_counted free now count body is left = cc
Becomes-was_counted (token fields) now count body is left = cc
Becomes-was_counted (waiting other) now count body is left = cc

pub IsLeft-was_counted : {start heap : Heap} → IsLeft start heap → (at count : ℕ) (body : Body) → heap at ≡ counted count body → (before : ℕ) × (start at ≡ counted before body)
IsLeft-was_counted {start} {heap} left at count body is =
    Becomes-was_counted (start at) (heap at) count body is (left.each at)

Becomes-was_waiting : (cell now : Cell) (body : Body) → now ≡ waiting body → ((other : Body) → cell ≢ waiting other) → Becomes cell now → (before : ℕ) × (cell ≡ counted before body)
Becomes-was_waiting (counted n other) now body is settled (inl gone) = cc
Becomes-was_waiting (counted n other) now body is settled (inr (inl waits)) =
    let same : other ≡ body = cc in (n, ap (counted n) same)
Becomes-was_waiting (counted n other) now body is settled (inr (inr kept)) = let there = kept.1 in cc
Becomes-was_waiting no_cell now body is settled left = cc
Becomes-was_waiting free now body is settled left = cc
Becomes-was_waiting (token fields) now body is settled left = cc
Becomes-was_waiting (waiting other) now body is settled left = absurd (settled other refl)

pub IsLeft-was_waiting : {start heap : Heap} → ((x : ℕ) (other : Body) → start x ≢ waiting other) → IsLeft start heap → (at : ℕ) (body : Body) → heap at ≡ waiting body → (before : ℕ) × (start at ≡ counted before body)
IsLeft-was_waiting {start} {heap} settled left at body is =
    Becomes-was_waiting (start at) (heap at) body is (settled at) (left.each at)
