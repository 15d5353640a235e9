-- What it is to give up references: the plain meaning of a drop, whatever way a program goes about it.
use Rattle.std.specs.Prelude.{◌≡◌, ℕ, suc, ◌%◌, List, [], ◌∷◌, ◌++◌}
use Rattle.cell_heap.specs.Cells.{Body, free, counted, Heap, changed, references}

-- references are given up one after the other, in a heap, which leaves a heap; so many were given up in all, and so many cells were freed. An odd
-- one names no cell. Another one lowers the count of its cell; the last one of a cell frees it, and then the references of its fields are given
-- up too
pub data GivesUp : List ℕ → Heap → ℕ → ℕ → Heap → Type 0 where
  all_given : {heap : Heap} → GivesUp [] heap 0 0 heap
  constant : {x : ℕ} {xs : List ℕ} {heap end : Heap} {gave freed : ℕ}
      → x % 2 ≡ 1 → GivesUp xs heap gave freed end → GivesUp (x ∷ xs) heap (suc gave) freed end
  lowered : {x : ℕ} {xs : List ℕ} {heap end : Heap} {gave freed : ℕ} {count : ℕ} {body : Body}
      → x % 2 ≡ 0 → heap x ≡ counted (suc (suc count)) body
      → GivesUp xs (changed x (counted (suc count) body) heap) gave freed end → GivesUp (x ∷ xs) heap (suc gave) freed end
  last : {x : ℕ} {xs : List ℕ} {heap end : Heap} {gave freed : ℕ} {body : Body}
      → x % 2 ≡ 0 → heap x ≡ counted 1 body
      → GivesUp (references body ++ xs) (changed x free heap) gave freed end → GivesUp (x ∷ xs) heap (suc gave) (suc freed) end
