-- What follows of a drop: the memory that its turns leave, that it is the plain meaning of giving up the reference, and that credit pays its
-- instructions.
use Rattle.std.proofs.Common.{◌≡◌, ◌≤◌, ◌%◌, ℕ, suc, ◌+◌, List, [], ◌∷◌, sym, ◌∙◌, subst, arith}
use Rattle.rv_isa.specs.Processor.{Processor, value}
use Rattle.rv_isa.specs.Standing.{Code}
use Rattle.cell_heap.specs.Cells.{Body, Heap, waiting, counted, changed}
use Rattle.cell_heap.specs.Pool.{Pool, places}
use Rattle.cell_heap.specs.View.{View}
use Rattle.cell_heap.specs.Memory.{Memory, IsShown, IsChain, IsHeldChain, IsNoCount}
use Rattle.cell_heap.specs.Counts.{credit}
use Rattle.cell_heap.specs.DropMeaning.{GivesUp}
use Rattle.cell_heap.specs.Turns.{Turns, ended, passed, lower, waits_now}
use Rattle.cell_heap.proofs.Turns.{Turns-settled}
use Rattle.cell_heap.proofs.Frames.{shows-at}
use Rattle.cell_heap.proofs.CellsAfterDrop.{IsLeft-same}
use Rattle.cell_heap.proofs.Borders.{IsPlaced-shown, IsPlaced-listed, Turns-border}
use Rattle.cell_heap.proofs.HeldTokens.{IsHeldChain-kept}
use Rattle.cell_heap.proofs.DropMeaning.{GivesUp-paid, Turns-left}
use Rattle.cell_heap.proofs.RoutineTurns.{turns_give_up}
use Rattle.cell_runtime.specs.Drops.{Dropped, BeforeDrop, AfterDrop}

-- ---- the memory that turns leave

module _ {pool : Pool} {view : View} {refs left : List ℕ} {end : Heap} {gave freed : ℕ} {s t : Processor} (memory : Memory pool view s) (turns : Turns refs [] view.frees view.heap gave freed left end) where
  -- where no byte has changed but of counts, and no register of held tokens and of the border
  pub memory-left : t.parts ≡ s.parts → value t.registers 9 ≡ value s.registers 9 → value t.registers 18 ≡ value s.registers 18 → value t.registers 19 ≡ value s.registers 19
      → ((x : ℕ) → IsNoCount view.heap x → t.memory x ≡ s.memory x) → IsShown pool t.memory end → IsChain t.memory end (value t.registers 8) left
      → Memory pool (record view { heap = end; frees = left }) t
  memory-left parts held border top others shown chain = record {
    usable = rw parts memory.usable;
    shown = shown;
    settled = Turns-settled turns memory.settled;
    chain = chain;
    held = subst (λ p. IsHeldChain pool p t.memory end (value t.registers 9) view.held) (sym parts)
        (subst (λ w. IsHeldChain pool s.parts t.memory end w view.held) (sym held)
        (IsHeldChain-kept memory.usable.aligned memory.shown (Turns-left view.heap memory.settled turns (IsLeft-same view.heap)) others s.parts (value s.registers 9) view.held memory.held));
    border = border ∙ memory.border;
    end = top ∙ memory.end;
    has_border = Turns-border view turns (IsPlaced-shown memory.shown) memory.has_border;
  }

-- ---- the turns of giving up one reference

-- no turn is left
none-left : {frees left : List ℕ} {heap end : Heap} {gave freed : ℕ} → Turns [] [] frees heap gave freed left end → (P : ℕ → ℕ → List ℕ → Heap → Type 0) → P 0 0 frees heap → P gave freed left end
none-left ended P is = is

-- the reference names no cell, or one that has others left, or it is the last one
pub first-turn : {x : ℕ} {frees left : List ℕ} {heap end : Heap} {gave freed : ℕ} → Turns (x ∷ []) [] frees heap gave freed left end
    → (P : ℕ → ℕ → List ℕ → Heap → Type 0) → (x % 2 ≡ 1 → P 1 0 frees heap)
    → ((count : ℕ) (body : Body) → x % 2 ≡ 0 → heap x ≡ counted (suc (suc count)) body → P 1 0 frees (changed x (counted (suc count) body) heap))
    → ((body : Body) (g f : ℕ) (l : List ℕ) (e : Heap) → x % 2 ≡ 0 → heap x ≡ counted 1 body → Turns [] (x ∷ []) frees (changed x (waiting body) heap) g f l e → P (suc g) f l e)
    → P gave freed left end
first-turn (passed odd turns) P is_odd is_lowered is_last = none-left turns (λ g f l e. P (suc g) f l e) (is_odd odd)
first-turn (lower {count = count} {body = body} even is turns) P is_odd is_lowered is_last = none-left turns (λ g f l e. P (suc g) f l e) (is_lowered count body even is)
first-turn (waits_now {left = left} {end = end} {gave = gave} {freed = freed} {body = body} even is turns) P is_odd is_lowered is_last = is_last body gave freed left end even is turns

-- ---- the turns of the routine

module _ {pool : Pool} {cell : ℕ} {body : Body} {view : View} {dropped : Dropped} {s : Processor} (before : BeforeDrop pool cell body view dropped s) where
  cell-even : cell % 2 ≡ 0
  cell-even = let aligned = (shows-at before.memory.shown cell (counted 1 body) before.last).0.aligned in omega arith

  -- the turns that begin with the reference
  pub drop-turns : Turns (cell ∷ []) [] view.frees view.heap (suc dropped.gave) dropped.freed dropped.frees dropped.heap
  drop-turns = waits_now cell-even before.last before.turns

  pub drop-gives_up : GivesUp (cell ∷ []) view.heap (suc dropped.gave) dropped.freed dropped.heap
  drop-gives_up = turns_give_up drop-turns

  -- 52 for each cell and 8 for each reference pay a drop but for 3 instructions
  pub drop-paid : {code : Code} {t : Processor} (after : AfterDrop code pool view dropped s t) → after.count + credit 52 8 (places pool) dropped.heap ≤ credit 52 8 (places pool) view.heap + 3
  drop-paid after =
      let listed = IsPlaced-listed before.memory.usable.aligned (IsPlaced-shown before.memory.shown) in
      let paid = GivesUp-paid (places pool) 52 8 drop-gives_up listed in
      let bounded = after.bounded in
      omega arith
