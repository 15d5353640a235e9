-- What a construction saves, and what an opening takes from the credit; a change of a count leaves it.
use Rattle.std.proofs.Common.{◌≡◌, ℕ, ◌+◌, ◌*◌, List, length, ap, arith}
use Rattle.cell_heap.specs.Cells.{Body, token, counted, Heap, changed, references, occurs}
use Rattle.cell_heap.specs.Counts.{credit_of, credit}
use Rattle.cell_heap.proofs.CountChanges.{credit-changed}

module _ (places : List ℕ) (heap : Heap) (at : ℕ) (once : occurs at places ≡ 1) (a_cell a_reference : ℕ) where
  -- a cell that is made saves its own credit
  pub credit-made : (fields : List ℕ) (count : ℕ) (body : Body) → heap at ≡ token fields
      → credit a_cell a_reference places (changed at (counted count body) heap) ≡ credit a_cell a_reference places heap + (a_cell + a_reference * length (references body))
  credit-made fields count body is =
      let e = credit-changed places heap at (counted count body) once a_cell a_reference in
      let none = ap (λ c. credit_of a_cell a_reference c) is in
      omega arith

  -- one that is opened gives it back
  pub credit-opened : (fields : List ℕ) (count : ℕ) (body : Body) → heap at ≡ counted count body
      → credit a_cell a_reference places (changed at (token fields) heap) + (a_cell + a_reference * length (references body)) ≡ credit a_cell a_reference places heap
  credit-opened fields count body is =
      let e = credit-changed places heap at (token fields) once a_cell a_reference in
      let had = ap (λ c. credit_of a_cell a_reference c) is in
      omega arith

  -- a count that changes leaves it
  pub credit-counted : (count next : ℕ) (body : Body) → heap at ≡ counted count body → credit a_cell a_reference places (changed at (counted next body) heap) ≡ credit a_cell a_reference places heap
  credit-counted count next body is =
      let e = credit-changed places heap at (counted next body) once a_cell a_reference in
      let had = ap (λ c. credit_of a_cell a_reference c) is in
      omega arith
