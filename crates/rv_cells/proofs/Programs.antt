-- What is so of the lines of all functions of a program, and of its cells once none is counted.
use Rattle.std.proofs.Common.{◌≡◌, ℕ, zero, suc, ◌+◌, ◌≤◌, Bool, true, false, List, [], ◌∷◌, length, Some, refl, sym, ◌∙◌, ap, subst, arith}
use Rattle.std.specs.Prelude.{◌==◌, slice_get, if◌then◌else◌}
use Rattle.kk_counted.specs.Heaps.{Held, Heap, held_at, one_if_counted, busy}
use Rattle.rv_isa.specs.AsmCode.{Lines}
use Rattle.rv_isa.specs.WellFormed.{AreLinesFormed, AreWellFormed}
use Rattle.cell_heap.specs.Pool.{Pool, IsCell}
use Rattle.cell_heap.specs.Blocks.{Cells, unused}
use Rattle.rv_cells.specs.Layout.{Layout}
use Rattle.rv_cells.specs.CountedCells.{Owner, nobody, cell_of, in_hand, kept_aside, BlockOf, Follows, is_aside, NoneAside}
use Rattle.rv_cells.specs.Meaning.{AreFree}

-- ---- cells

-- a heap with a counted cell is not empty
counted_busy : (heap : Heap) (name : ℕ) (held : Held) → held_at heap name ≡ Some held → 1 ≤ held.count → 1 ≤ busy heap
counted_busy [] name held is some = cc
counted_busy (first ∷ heap) name held is some =
    by (length heap == name) is (λ later. counted_busy heap name held later some)
  where
    one : (n : ℕ) → 1 ≤ n → 1 ≤ one_if_counted n
    one zero less = absurd (omega (arith, less))
    one (suc n) less = omega arith

    by : (b : Bool) → (if b then Some first else held_at heap name) ≡ Some held → (held_at heap name ≡ Some held → 1 ≤ busy heap)
        → 1 ≤ one_if_counted first.count + busy heap
    by true is later =
        let same : first.count ≡ held.count = ap (λ (h : Held). h.count) (held_is is) in
        let counted = one first.count (omega (arith, same, some)) in
        omega (arith, counted)
      where
        held_is : Some first ≡ Some held → first ≡ held
        held_is e = cc
    by false is later = let counted = later is in omega (arith, counted)

-- where no cell is counted all cells are free
pub all_free : (pool : Pool) (layout : Layout) (address : ℕ → ℕ) (owners : ℕ → Owner) (heap : Heap) (cells : Cells)
    → Follows pool layout address owners heap cells → NoneAside owners → busy heap ≡ 0 → AreFree pool cells
all_free pool layout address owners heap cells follows none empty_heap = λ at cell.
    by at cell (owners at) refl (follows.blocks at)
  where
    by : (at : ℕ) → IsCell pool at → (owner : Owner) → owners at ≡ owner
        → BlockOf pool layout address heap at owner (cells.blocks at) → cells.blocks at ≡ unused
    by at cell nobody is block = block.free cell
    by at cell (cell_of name) is block =
        let counted = counted_busy heap name block.held block.there block.counted in absurd (omega (arith, counted, empty_heap))
    by at cell (in_hand words) is block = let both : true ≡ false = sym (ap is_aside is) ∙ none at in cc
    by at cell (kept_aside words) is block = let both : true ≡ false = sym (ap is_aside is) ∙ none at in cc

-- ---- lines

-- each function's lines are well formed
pub lines_formed : (functions : List Lines) → AreWellFormed functions → (f : ℕ) (lines : Lines)
    → slice_get functions f ≡ Some lines → AreLinesFormed lines.code
lines_formed [] formed f lines is = cc
lines_formed (one ∷ functions) formed zero lines is =
    let same : one ≡ lines = cc is in subst (λ (ls : Lines). AreLinesFormed ls.code) same formed.0.lines
lines_formed (one ∷ functions) formed (suc f) lines is = lines_formed functions formed.1 f lines is
