-- The request for a cell.
use Rattle.std.specs.Prelude.{◌≡◌, ℕ, ◌+◌, ◌<◌, ◌≤◌, ◌⊎◌, List, [], ◌∷◌, Option, Some, None}
use Rattle.kk_base.specs.Exits.{heap_full_exit}
use Rattle.rv_isa.specs.Numbers.{cell_size}
use Rattle.rv_isa.specs.Processor.{Processor, value}
use Rattle.rv_isa.specs.Standing.{Code}
use Rattle.cell_heap.specs.Cells.{token, changed}
use Rattle.cell_heap.specs.Pool.{Pool, end_of}
use Rattle.cell_heap.specs.View.{Link, View}
use Rattle.cell_heap.specs.Memory.{word, Memory}
use Rattle.rv_isa.specs.declared.routine.Routine.TheVariants.{Take}
use Rattle.rv_isa.specs.declared.placed.Symbol.TheVariants.{Routine}
use Rattle.cell_runtime.specs.Calls.{IsAt, HasWayBack, Returns, KeepsOutside, Exits}

-- A request is served by the first cell of the chain; where the chain is empty, by the first cell that was never used; where there is none, by
-- the newest held token, whose slot loses it. The cell, what a reader sees then, the slot that lost its token, and how many instructions it took
pub data Taken (pool : Pool) (view : View) : ℕ → View → Option ℕ → ℕ → Type 0 where
  from_chain : {cell : ℕ} {frees : List ℕ} → view.frees ≡ cell ∷ frees
      → Taken pool view cell (record view { heap = changed cell (token []) view.heap; frees = frees }) None 4
  at_border : view.frees ≡ [] → view.border < end_of pool
      → Taken pool view view.border (record view { heap = changed view.border (token []) view.heap; border = view.border + cell_size }) None 5
  from_held : {link : Link} {links : List Link} → view.frees ≡ [] → end_of pool ≤ view.border → view.held ≡ link ∷ links
      → Taken pool view link.cell (record view { held = links }) (Some link.slot) 8

-- there is no cell: the end of the run
pub record IsFull (pool : Pool) (view : View) : Type 0 where
  pub chain : view.frees ≡ []
  pub border : end_of pool ≤ view.border
  pub held : view.held ≡ []

-- memory is as before; a slot that lost its token has 0
abbrev pub EmptiesSlot : Option ℕ → Processor → Processor → Type 0
EmptiesSlot None s t = t.memory ≡ s.memory
EmptiesSlot (Some slot) s t = (word t.memory slot ≡ 0) × KeepsOutside slot 4 s t

pub record AfterTake (code : Code) (pool : Pool) (view : View) (s t : Processor) : Type 0 where
  pub cell : ℕ
  pub then_view : View
  pub slot : Option ℕ
  pub count : ℕ
  pub taken : Taken pool view cell then_view slot count
  pub returns : Returns code (Routine Take) count s t
  pub gives : value t.registers 5 ≡ cell
  pub cells : Memory pool then_view t
  pub memory : EmptiesSlot slot s t
  pub left : t.left ≡ s.left
  pub trace : t.trace ≡ s.trace

abbrev pub IsTake : Pool → Code → ℕ → Type 0
IsTake pool code at =
    (view : View) (s : Processor) → IsAt code at s → HasWayBack s → Memory pool view s
    → ((t : Processor) × AfterTake code pool view s t) ⊎ (IsFull pool view × Exits code heap_full_exit 6 s)

-- the code of a take does not depend on where the cells are
abbrev pub IsTakeOfPools : Code → ℕ → Type 0
IsTakeOfPools code at = (pool : Pool) → IsTake pool code at
