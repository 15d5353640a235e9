-- The free cells of a view over a drop, and the cells of a pool by their list.
use Rattle.std.proofs.Common.{◌≡◌, ◌≢◌, ◌≤◌, ◌<◌, ◌↔◌, ℕ, ◌%◌, inl, inr, List, ◌∷◌, refl, sym, ◌∙◌, subst, arith}
use Rattle.std.proofs.lemmas.Bool.{cases_lt}
use Rattle.cell_heap.specs.Cells.{Body, Cell, no_cell, free, waiting, counted, Heap, changed, occurs}
use Rattle.cell_heap.specs.Pool.{Pool, IsCell, places}
use Rattle.cell_heap.specs.View.{View, HasBorder}
use Rattle.cell_heap.specs.Memory.{IsShown}
use Rattle.cell_heap.proofs.Sums.{occurs-first, occurs-other, occurs-cells}
use Rattle.cell_heap.proofs.Frames.{changed-by, shown-cell}
use Rattle.cell_heap.proofs.CountChanges.{IsListed, counted-some, waiting-some, is-some}
use Rattle.cell_heap.specs.Turns.{Turns, ended, passed, lower, waits_now, opened}
use Rattle.rv_isa.specs.Numbers.{cell_size}

-- each cell of the heap is one of the pool
pub record IsPlaced (pool : Pool) (heap : Heap) : Type 0 where
  pub each : (at : ℕ) → heap at ≢ no_cell → IsCell pool at

pub IsPlaced-shown : {pool : Pool} {memory : ℕ → ℕ} {heap : Heap} → IsShown pool memory heap → IsPlaced pool heap
IsPlaced-shown {pool} {memory} {heap} shown = record { each = λ at some. shown-cell shown at (heap at) refl some }

pub IsPlaced-listed : {pool : Pool} {heap : Heap} → pool.first % cell_size ≡ 0 → IsPlaced pool heap → IsListed (places pool) heap
IsPlaced-listed {pool} {heap} aligned placed = record {
  once = λ at some.
      let cell = placed.each at some in
      occurs-cells at pool.first pool.cells cell.behind cell.before (aligned ∙ sym cell.aligned);
  even = λ at some. let whole = (placed.each at some).aligned in omega arith;
}

IsPlaced-changed : {pool : Pool} {heap : Heap} (at : ℕ) (cell : Cell) → heap at ≢ no_cell → IsPlaced pool heap → IsPlaced pool (changed at cell heap)
IsPlaced-changed {pool} {heap} at cell some placed = record {
  each = λ x. changed-by (λ c. c ≢ no_cell → IsCell pool x) x at cell heap
      (λ e is. placed.each x (subst (λ y. heap y ≢ no_cell) (sym e) some))
      (λ differ. placed.each x);
}

-- the parts of a border, apart from the view
pub record HasFrees (pool : Pool) (border : ℕ) (frees : List ℕ) (heap : Heap) : Type 0 where
  pub fresh : (at : ℕ) → IsCell pool at → border ≤ at → heap at ≡ free
  pub chained : (at : ℕ) → heap at ≡ free → (occurs at frees ≢ 0) ↔ (at < border)

-- a cell that is not free and does not become free
pub HasFrees-changed : {pool : Pool} {border : ℕ} {frees : List ℕ} {heap : Heap} (at : ℕ) (cell : Cell) → heap at ≢ free → cell ≢ free → HasFrees pool border frees heap → HasFrees pool border frees (changed at cell heap)
HasFrees-changed {pool} {border} {frees} {heap} at cell was now has = record {
  fresh = λ x is_cell high. changed-by (λ c. c ≡ free) x at cell heap
      (λ e. absurd (was (subst (λ y. heap y ≡ free) e (has.fresh x is_cell high))))
      (λ differ. has.fresh x is_cell high);
  chained = λ x. changed-by (λ c. c ≡ free → (occurs x frees ≢ 0) ↔ (x < border)) x at cell heap
      (λ e is. absurd (now is))
      (λ differ. has.chained x);
}

below-border : {pool : Pool} {border : ℕ} {frees : List ℕ} {heap : Heap} (at : ℕ) → heap at ≢ free → IsCell pool at → HasFrees pool border frees heap → at < border
below-border {border = border} at was is_cell has =
    elim (cases_lt at border) [ inl below ↦ below | inr high ↦ absurd (was (has.fresh at is_cell high)) ]

-- a cell below the border that becomes free and goes to the chain
pub HasFrees-freed : {pool : Pool} {border : ℕ} {frees : List ℕ} {heap : Heap} (at : ℕ) → heap at ≢ free → IsCell pool at → HasFrees pool border frees heap → HasFrees pool border (at ∷ frees) (changed at free heap)
HasFrees-freed {pool} {border} {frees} {heap} at was is_cell has = record {
  fresh = λ x is_cell high. changed-by (λ c. c ≡ free) x at free heap (λ e. refl) (λ differ. has.fresh x is_cell high);
  chained = λ x. changed-by (λ c. c ≡ free → (occurs x (at ∷ frees) ≢ 0) ↔ (x < border)) x at free heap
      (λ e is. (
        λ some. subst (λ y. y < border) (sym e) (below-border at was is_cell has),
        λ below. subst (λ y. occurs y (at ∷ frees) ≢ 0) (sym e) (occurs-first at frees),
      ))
      (λ differ is.
      let same = occurs-other x at frees differ in
      let old = has.chained x is in
      (λ some. old.0 (λ none. some (same ∙ none)), λ below none. old.1 below (sym same ∙ none)));
}

not-free-counted : (heap : Heap) (at count : ℕ) (body : Body) → heap at ≡ counted count body → heap at ≢ free
not-free-counted heap at count body is e = cc

not-free-waiting : (heap : Heap) (at : ℕ) (body : Body) → heap at ≡ waiting body → heap at ≢ free
not-free-waiting heap at body is e = cc

counted-free : (count : ℕ) (body : Body) → counted count body ≢ free
counted-free count body e = cc

waiting-free : (body : Body) → waiting body ≢ free
waiting-free body e = cc

Turns-frees : {pool : Pool} {border : ℕ} {refs waits frees left : List ℕ} {heap end : Heap} {gave freed : ℕ} → Turns refs waits frees heap gave freed left end → IsPlaced pool heap → HasFrees pool border frees heap → HasFrees pool border left end
Turns-frees ended placed has = has
Turns-frees (passed odd rest) placed has = Turns-frees rest placed has
Turns-frees (lower {x = x} {heap = heap} {count = count} {body = body} even is rest) placed has =
    Turns-frees rest (IsPlaced-changed x _ (is-some heap x _ is (counted-some _ body)) placed) (HasFrees-changed x _ (not-free-counted heap x _ body is) (counted-free _ body) has)
Turns-frees (waits_now {x = x} {heap = heap} {body = body} even is rest) placed has =
    Turns-frees rest (IsPlaced-changed x _ (is-some heap x _ is (counted-some _ body)) placed) (HasFrees-changed x _ (not-free-counted heap x _ body is) (waiting-free body) has)
Turns-frees (opened {x = x} {heap = heap} {body = body} is rest) placed has =
    let some = is-some heap x _ is (waiting-some body) in
    Turns-frees rest (IsPlaced-changed x _ some placed) (HasFrees-freed x (not-free-waiting heap x body is) (placed.each x some) has)

-- a drop leaves the border, and its free cells are those of the chain and those from the border on
pub Turns-border : {pool : Pool} {refs waits left : List ℕ} {end : Heap} {gave freed : ℕ} (view : View) → Turns refs waits view.frees view.heap gave freed left end → IsPlaced pool view.heap → HasBorder pool view → HasBorder pool (record view { heap = end; frees = left })
Turns-border view turns placed has =
    let frees = Turns-frees turns placed (record { fresh = has.fresh; chained = has.chained }) in
    record { aligned = has.aligned; behind = has.behind; within = has.within; fresh = frees.fresh; chained = frees.chained }
