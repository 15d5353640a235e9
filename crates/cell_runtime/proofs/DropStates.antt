-- The states of the routine that gives up a reference: what memory holds within it, and what it leaves alone.
use Rattle.std.proofs.Common.{◌≡◌, ℕ, ◌+◌, ◌^◌, ◌<◌, ◌≤◌, List, [], ◌∷◌, length, ◌∙◌, arith}
use Rattle.rv_isa.specs.Bytes.{with_number}
use Rattle.rv_isa.specs.Processor.{Processor, value, put}
use Rattle.rv_isa.specs.Standing.{Code, Stands, LeadsIn}
use Rattle.rv_isa.proofs.Standing.{LeadsIn-then}
use Rattle.rv_isa.proofs.Instructions.{value-put_other}
use Rattle.cell_heap.specs.Cells.{Body, Heap, counted}
use Rattle.cell_heap.specs.Pool.{Pool, IsCell}
use Rattle.cell_heap.specs.Memory.{IsNoCount}
use Rattle.cell_heap.proofs.Frames.{cell-inside, byte-stored_apart}
use Rattle.cell_heap.proofs.CellsAfterDrop.{IsLeft}
use Rattle.cell_heap.proofs.WaitChains.{AreCells, AreFields}
use Rattle.rv_isa.specs.declared.routine.Routine.TheVariants.{Drop}
use Rattle.rv_isa.specs.declared.placed.Symbol.TheVariants.{Routine}
use Rattle.cell_runtime.specs.Registers.{KeptBy}
use Rattle.cell_runtime.specs.Calls.{HasWayBack}
use Rattle.cell_runtime.proofs.DropRows.{MayUse}

-- from one machine to a later one only registers that the routine spoils and counts of the first heap have changed
pub record IsQuiet (first : Heap) (s t : Processor) : Type 0 where
  pub registers : (x : ℕ) → KeptBy (Routine Drop) x → value t.registers x ≡ value s.registers x
  pub parts : t.parts ≡ s.parts
  pub trace : t.trace ≡ s.trace
  pub left : t.left ≡ s.left
  pub others : (x : ℕ) → IsNoCount first x → t.memory x ≡ s.memory x

pub IsQuiet-then : {first : Heap} {s t u : Processor} → IsQuiet first s t → IsQuiet first t u → IsQuiet first s u
IsQuiet-then one two = record {
  registers = λ x kept. two.registers x kept ∙ one.registers x kept;
  parts = two.parts ∙ one.parts;
  trace = two.trace ∙ one.trace;
  left = two.left ∙ one.left;
  others = λ x none. two.others x none ∙ one.others x none;
}

-- a store of a count changes no other byte
pub count-stored : (first : Heap) (at before n : ℕ) (body : Body) (memory : ℕ → ℕ) → first at ≡ counted before body → (x : ℕ) → IsNoCount first x → with_number at 4 n memory x ≡ memory x
count-stored first at before n body memory is x none =
    byte-stored_apart memory at n x (none at before body is)

-- ---- registers that are set

module _ (registers : ℕ → ℕ) (x : ℕ) (kept : KeptBy (Routine Drop) x) where
  pub kept-5 : (v : ℕ) → value (put 5 v registers) x ≡ value registers x
  kept-5 v = value-put_other 5 v registers x kept.1.0

  pub kept-8 : (v : ℕ) → value (put 8 v registers) x ≡ value registers x
  kept-8 v = value-put_other 8 v registers x kept.0

  pub kept-10 : (v : ℕ) → value (put 10 v registers) x ≡ value registers x
  kept-10 v = value-put_other 10 v registers x kept.1.1.0

  pub kept-11 : (v : ℕ) → value (put 11 v registers) x ≡ value registers x
  kept-11 v = value-put_other 11 v registers x kept.1.1.1.0

  pub kept-12 : (v : ℕ) → value (put 12 v registers) x ≡ value registers x
  kept-12 v = value-put_other 12 v registers x kept.1.1.1.1.0

  pub kept-13 : (v : ℕ) → value (put 13 v registers) x ≡ value registers x
  kept-13 v = value-put_other 13 v registers x kept.1.1.1.1.1.0

-- ---- within the routine

-- the code stands, and memory has the cells of a heap, with the chains from x8 and x13; the heap was left of the first one; and x1 is the way back
pub record IsWithin (code : Code) (pool : Pool) (first heap : Heap) (waits frees : List ℕ) (s : Processor) : Type 0 where
  pub stands : Stands code s
  pub cells : AreCells pool s.parts s.memory heap (value s.registers 8) frees (value s.registers 13) waits
  pub heap_left : IsLeft first heap
  pub way_back : HasWayBack s

-- x12 is the mask of these fields, which stand from x11 on
pub record IsScanning (pool : Pool) (mask : ℕ) (xs : List ℕ) (s : Processor) : Type 0 where
  pub mask_is : value s.registers 12 ≡ mask
  pub below : mask < 2 ^ length xs
  pub fields : AreFields pool s.memory (value s.registers 11) xs

-- the words of cells may be loaded and stored
pub first-use : {code : Code} {pool : Pool} {first heap : Heap} {waits frees : List ℕ} {s : Processor} → IsWithin code pool first heap waits frees s → (at : ℕ) → IsCell pool at → MayUse s at
first-use {pool = pool} within at cell =
    let usable = within.cells.usable in
    let inside = cell-inside pool at usable.aligned cell in
    let low = cell.behind in
    let whole = cell.aligned in
    let below = usable.below in
    record {
      aligned = omega arith;
      below = omega arith;
      loads = usable.loads at low (omega arith);
      stores = usable.stores at low (omega arith);
    }

pub field-use : {code : Code} {pool : Pool} {first heap : Heap} {waits frees : List ℕ} {s : Processor} → IsWithin code pool first heap waits frees s → (at x : ℕ) (xs : List ℕ) → AreFields pool s.memory at (x ∷ xs) → MayUse s at
field-use {pool = pool} within at x xs fields =
    let usable = within.cells.usable in
    let below = usable.below in
    let high = fields.4 in
    record {
      aligned = fields.1;
      below = omega arith;
      loads = usable.loads at fields.3 fields.4;
      stores = usable.stores at fields.3 fields.4;
    }

-- ---- what a state comes to

-- within so many instructions the routine is back, with this heap and this chain of free cells
pub record Comes (code : Code) (pool : Pool) (first end : Heap) (left : List ℕ) (most : ℕ) (s : Processor) : Type 0 where
  pub last : Processor
  pub count : ℕ
  pub leads : LeadsIn code count s last
  pub within : count ≤ most
  pub back : last.pc ≡ value s.registers 1
  pub quiet : IsQuiet first s last
  pub cells : AreCells pool last.parts last.memory end (value last.registers 8) left (value last.registers 13) []

-- and so it does from a machine that leads there
pub Comes-from : {code : Code} {pool : Pool} {first end : Heap} {left : List ℕ} {most k n : ℕ} {s t : Processor} → LeadsIn code k s t → IsQuiet first s t → value t.registers 1 ≡ value s.registers 1 → k + most ≤ n → Comes code pool first end left most t → Comes code pool first end left n s
Comes-from {most = most} {k} {n} leads quiet way fits comes =
    let within = comes.within in
    record {
      last = comes.last;
      count = k + comes.count;
      leads = LeadsIn-then leads comes.leads;
      within = omega arith;
      back = comes.back ∙ way;
      quiet = IsQuiet-then quiet comes.quiet;
      cells = comes.cells;
    }

pub Comes-weaker : {code : Code} {pool : Pool} {first end : Heap} {left : List ℕ} {most n : ℕ} {s : Processor} → most ≤ n → Comes code pool first end left most s → Comes code pool first end left n s
Comes-weaker fits comes =
    let within = comes.within in
    record {
      last = comes.last;
      count = comes.count;
      leads = comes.leads;
      within = omega arith;
      back = comes.back;
      quiet = comes.quiet;
      cells = comes.cells;
    }
