-- What is true of giving up references in a sound heap.
use Rattle.std.proofs.Common.{◌≡◌, ◌≢◌, ◌%◌, ℕ, suc, ◌+◌, List, [], length, arith}
use Rattle.cell_heap.specs.Cells.{Body, Cell, free, waiting, counted, Heap, changed, occurs}
use Rattle.cell_heap.specs.Pool.{Pool, places}
use Rattle.cell_heap.specs.DropMeaning.{GivesUp, all_given, constant, lowered, last}
use Rattle.cell_heap.specs.Counts.{HasCounts, credit}
use Rattle.cell_heap.specs.Sound.{IsSound}
use Rattle.cell_heap.proofs.Frames.{changed-by}
use Rattle.cell_heap.proofs.CountChanges.{IsListed}
use Rattle.cell_heap.proofs.CellsAfterDrop.{IsLeft-same, IsLeft-acyclic, IsLeft-placed}
use Rattle.cell_heap.proofs.Borders.{IsPlaced-listed}
use Rattle.cell_heap.proofs.DropMeaning.{Given, GivesUp-left, GivesUp-counts, GivesUp-exists}

-- no cell waits
pub record IsSettled (heap : Heap) : Type 0 where
  pub none : (at : ℕ) (body : Body) → heap at ≢ waiting body

IsSettled-changed : {heap : Heap} (at : ℕ) (cell : Cell) → ((body : Body) → cell ≢ waiting body) → IsSettled heap → IsSettled (changed at cell heap)
IsSettled-changed {heap} at cell other settled = record {
  none = λ x body. changed-by (λ c. c ≢ waiting body) x at cell heap (λ e. other body) (λ differ. settled.none x body);
}

pub GivesUp-settled : {refs : List ℕ} {heap end : Heap} {gave freed : ℕ} → GivesUp refs heap gave freed end → IsSettled heap → IsSettled end
GivesUp-settled all_given settled = settled
GivesUp-settled (constant odd rest) settled = GivesUp-settled rest settled
GivesUp-settled (lowered {x = x} {count = count} {body = body} even is rest) settled =
    GivesUp-settled rest (IsSettled-changed x (counted (suc count) body) (λ b e. cc) settled)
GivesUp-settled (last {x = x} even is rest) settled = GivesUp-settled rest (IsSettled-changed x free (λ b e. cc) settled)

-- references go from those that stay to those that are given up, or back, and the order of these does not matter
pub HasCounts-moved : {places : List ℕ} {roots : ℕ → ℕ} {given : List ℕ} {heap : Heap} (later : ℕ → ℕ) (left : List ℕ) → ((x : ℕ) → x % 2 ≡ 0 → later x + occurs x left ≡ roots x + occurs x given)
    → HasCounts places roots given heap → HasCounts places later left heap
HasCounts-moved later left same counts = record {
  right = λ at even. let right = counts.right at even in let e = same at even in omega arith;
  some = counts.some;
}

module _ {pool : Pool} {roots : ℕ → ℕ} {given : List ℕ} {heap : Heap} (sound : IsSound pool roots given heap) where
  pub sound-listed : IsListed (places pool) heap
  sound-listed = IsPlaced-listed sound.aligned (record { each = sound.placed })

  pub sound-gives : Given given heap
  sound-gives =
      GivesUp-exists (length given + credit 1 1 (places pool) heap) given heap (omega arith) sound-listed sound.counts

  pub sound-kept : (end : Heap) (gave freed : ℕ) → GivesUp given heap gave freed end → IsSound pool roots [] end
  sound-kept end gave freed gives =
      let left = GivesUp-left heap gives (IsLeft-same heap) in
      record {
        aligned = sound.aligned;
        placed = λ at some. sound.placed at (IsLeft-placed left at some);
        settled = (GivesUp-settled gives (record { none = sound.settled })).none;
        counts = GivesUp-counts gives sound-listed sound.counts;
        acyclic = IsLeft-acyclic left sound.acyclic;
      }
