-- The start of an image.
use Rattle.std.specs.Prelude.{◌≡◌, ℕ, ◌+◌, ◌*◌, ◌%◌, ◌^◌, ◌<◌, [], ◌&&◌, if◌then◌else◌, nat_eq, nat_le, nat_lt}
use Rattle.rv_isa.specs.Processor.{Processor, value}
use Rattle.rv_isa.specs.Conventions.{one_register, header_register, list_header}
use Rattle.rv_isa.specs.Execution.{Leads, Along}
use Rattle.rv_isa.specs.Numbers.{cell_size}
use Rattle.rv_isa.specs.Standing.{Code, Inside}
use Rattle.cell_heap.specs.Cells.{no_cell, free, Heap}
use Rattle.cell_heap.specs.Pool.{Pool, end_of, IsUsable}
use Rattle.cell_heap.specs.View.{View}
use Rattle.cell_heap.specs.Memory.{Memory}
use Rattle.cell_runtime.specs.Sizes.{runtime_words}
use Rattle.cell_runtime.specs.declared.layout.Layout.{Layout}
use Rattle.rv_isa.specs.declared.placed.Symbol.TheVariants.{Start}
use Rattle.cell_runtime.specs.Registers.{KeptBy}
use Rattle.cell_runtime.specs.Calls.{IsAt}

-- all cells are free, and none was ever used
abbrev pub all_free : Pool → Heap
all_free pool at =
    if nat_le pool.first at && nat_lt at (end_of pool) && nat_eq (at % cell_size) 0 then free else no_cell

abbrev pub first_view : Pool → View
first_view pool = record { heap = all_free pool; frees = []; border = pool.first; held = [] }

-- eleven instructions of the code, however many cells there are, lead to `main`: x1 is the way back to the stop behind them, x2 the end
-- of the stack, x3 is 1, and x20 the header of a list cell
pub record AfterStart (code : Code) (pool : Pool) (stack_end main at : ℕ) (s t : Processor) : Type 0 where
  pub leads : Leads 11 s t
  pub inside : Along (Inside code) 11 s
  pub goes_to : t.pc ≡ main
  pub way_back : value t.registers 1 ≡ at + 44
  pub stack : value t.registers 2 ≡ stack_end
  pub one : value t.registers one_register ≡ 1
  pub header : value t.registers header_register ≡ list_header
  pub cells : Memory pool (first_view pool) t
  pub registers : (x : ℕ) → KeptBy Start x → value t.registers x ≡ value s.registers x
  pub parts : t.parts ≡ s.parts
  pub memory : t.memory ≡ s.memory
  pub left : t.left ≡ s.left
  pub trace : t.trace ≡ s.trace

abbrev pub IsStart : Pool → ℕ → ℕ → Code → ℕ → Type 0
IsStart pool stack_end main code at =
    (s : Processor) → IsAt code at s → IsUsable pool s.parts → main < 2 ^ 32
    → (t : Processor) × AfterStart code pool stack_end main at s t

-- `main` stands behind the runtime, and the cells and the stack where the layout says
abbrev pub IsStartOf : Layout → ℕ → Code → ℕ → Type 0
IsStartOf layout memory code at =
    (pool : Pool) → pool.first ≡ memory + layout.cells → end_of pool ≡ memory + layout.cells_end
    → IsStart pool (memory + layout.stack_end) (at + 4 * runtime_words) code at
