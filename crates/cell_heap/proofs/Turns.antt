-- The turns of the routine that gives up references: which cells wait.
use Rattle.std.proofs.Common.{◌≡◌, ◌≢◌, ℕ, suc, inl, inr, List, [], ◌∷◌, refl, sym, subst}
use Rattle.cell_heap.specs.Cells.{Body, Cell, free, waiting, counted, Heap, changed, occurs}
use Rattle.cell_heap.specs.Turns.{Turns, ended, passed, lower, waits_now, opened}
use Rattle.cell_heap.proofs.Sums.{occurs-first, occurs-later, occurs-by}
use Rattle.cell_heap.proofs.Frames.{changed-by}

-- each waiting cell is a member
pub record AllWait (heap : Heap) (waits : List ℕ) : Type 0 where
  pub each : (x : ℕ) (body : Body) → heap x ≡ waiting body → occurs x waits ≢ 0

AllWait-changed : {heap : Heap} {waits : List ℕ} (at : ℕ) (cell : Cell) → ((body : Body) → cell ≢ waiting body) → AllWait heap waits → AllWait (changed at cell heap) waits
AllWait-changed {heap} {waits} at cell settled all = record {
  each = λ x body. changed-by (λ c. c ≡ waiting body → occurs x waits ≢ 0) x at cell heap (λ e is. absurd (settled body is)) (λ differ. all.each x body);
}

AllWait-more : {heap : Heap} {waits : List ℕ} (at : ℕ) (cell : Cell) → AllWait heap waits → AllWait (changed at cell heap) (at ∷ waits)
AllWait-more {heap} {waits} at cell all = record {
  each = λ x body. changed-by (λ c. c ≡ waiting body → occurs x (at ∷ waits) ≢ 0) x at cell heap
      (λ e is. subst (λ y. occurs y (at ∷ waits) ≢ 0) (sym e) (occurs-first at waits))
      (λ differ is. occurs-later x at waits (all.each x body is));
}

AllWait-less : {heap : Heap} {waits : List ℕ} (at : ℕ) → AllWait heap (at ∷ waits) → AllWait (changed at free heap) waits
AllWait-less {heap} {waits} at all = record {
  each = λ x body. changed-by (λ c. c ≡ waiting body → occurs x waits ≢ 0) x at free heap
      (λ e is. cc)
      (λ differ is. elim (occurs-by x at waits (all.each x body is)) [ inl e ↦ absurd (differ e) | inr later ↦ later ]);
}

counted-waiting : (count : ℕ) (body other : Body) → counted count body ≢ waiting other
counted-waiting count body other e = cc

-- at the end none waits
pub Turns-all : {refs waits frees left : List ℕ} {heap end : Heap} {gave freed : ℕ} → Turns refs waits frees heap gave freed left end → AllWait heap waits → AllWait end []
Turns-all ended all = all
Turns-all (passed odd rest) all = Turns-all rest all
Turns-all (lower {x = x} {count = count} {body = body} even is rest) all =
    Turns-all rest (AllWait-changed x (counted (suc count) body) (counted-waiting (suc count) body) all)
Turns-all (waits_now {x = x} {body = body} even is rest) all = Turns-all rest (AllWait-more x (waiting body) all)
Turns-all (opened {x = x} is rest) all = Turns-all rest (AllWait-less x all)

-- where none waits before
pub Turns-settled : {refs frees left : List ℕ} {heap end : Heap} {gave freed : ℕ} → Turns refs [] frees heap gave freed left end → ((x : ℕ) (body : Body) → heap x ≢ waiting body)
    → (x : ℕ) (body : Body) → end x ≢ waiting body
Turns-settled taken settled x body is =
    (Turns-all taken (record { each = λ y other there. absurd (settled y other there) })).each x body is refl
