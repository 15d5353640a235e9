-- The definitions of the runtime, tried on examples.
use Rattle.std.proofs.Common.{◌≡◌, ◌-◌, ◌^◌, [], ◌∷◌, ◌++◌, None, Some, refl, lit<, lit≤}
use Rattle.std.specs.Prelude.{codes}
use Rattle.std.specs.Fmt.{digits}
use Rattle.rv_isa.specs.Arithmetic.{signed}
use Rattle.cell_heap.specs.Cells.{free, token, changed}
use Rattle.cell_heap.specs.Pool.{Pool}
use Rattle.cell_heap.specs.View.{View}
use Rattle.cell_runtime.specs.declared.process.Ending.TheVariants.{Ended, HeapFull, StackFull}
use Rattle.cell_runtime.specs.Layouts.{layout_of}
use Rattle.cell_runtime.specs.Prints.{int_piece, int_count, put_of}
use Rattle.cell_runtime.specs.Starts.{first_view, all_free}
use Rattle.cell_runtime.specs.Stops.{number_of}
use Rattle.cell_runtime.specs.Takes.{Taken, from_chain, at_border, from_held, IsFull}

-- printed numbers, the least and the greatest of them, with a line end and without
zero : int_piece 0 0 ≡ codes "0"
unfolding digits
zero = refl

zero_line : int_piece 0 1 ≡ codes "0" ++ 10 ∷ []
unfolding digits
zero_line = refl

minus_one : int_piece (2 ^ 32 - 1) 0 ≡ codes "-1"
unfolding digits
minus_one = refl

least : int_piece (2 ^ 31) 1 ≡ codes "-2147483648" ++ 10 ∷ []
unfolding digits
least = refl

greatest : int_piece (2 ^ 31 - 1) 0 ≡ codes "2147483647"
unfolding digits
greatest = refl

-- the most instructions: ten digits and a sign
longest : int_count (signed (2 ^ 31)) ≡ 78
unfolding digits
longest = refl

nothing_put : put_of [] ≡ []
nothing_put = refl

exits-are : number_of Ended ∷ number_of HeapFull ∷ number_of StackFull ∷ [] ≡ 0 ∷ 101 ∷ 102 ∷ []
exits-are = refl

no_cells : layout_of 0 1 4 ≡ record { cells = 32; cells_end = 32; stack = 32; stack_end = 36 }
no_cells = refl

-- a wide frame, in which the stack pointer stands above the first word
wide_frame : layout_of 1 2 2048 ≡ record { cells = 32; cells_end = 64; stack = 2112; stack_end = 6208 }
wide_frame = refl

-- two cells at 4128
abbrev two_cells : Pool
two_cells = record { first = 4128; cells = 2 }

cell-free : all_free two_cells 4160 ≡ free
cell-free = refl

abbrev once : View
once = record (first_view two_cells) { heap = changed 4128 (token []) (all_free two_cells); border = 4160 }

first_taken : Taken two_cells (first_view two_cells) 4128 once None 5
first_taken = at_border refl (lit< tt)

-- a cell that was given back comes before the border
abbrev given_back : View
given_back = record (first_view two_cells) { frees = 4128 ∷ []; border = 4160 }

again_taken : Taken two_cells given_back 4128 (record given_back { heap = changed 4128 (token []) (all_free two_cells); frees = [] }) None 4
again_taken = from_chain refl

-- where all cells were used the newest held token comes, and its slot is emptied
abbrev all_used : View
all_used = record (first_view two_cells) { border = 4192; held = record { cell = 4128; slot = 8000 } ∷ [] }

token_taken : Taken two_cells all_used 4128 (record all_used { held = [] }) (Some 8000) 8
token_taken = from_held refl (lit≤ tt) refl

none_left : IsFull two_cells (record all_used { held = [] })
none_left = record { chain = refl; border = lit≤ tt; held = refl }
