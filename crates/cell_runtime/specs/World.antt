-- What the code of a program shares with the outside and with the runtime: the input, the trace and the cells; and what its operations and the
-- routines of the runtime do to them.
use Rattle.std.specs.Prelude.{ℕ, ◌+◌, ◌-◌, ◌^◌, List, [], ◌∷◌, ◌++◌, Option, Some, None, option_map, Bool, false, ◌&&◌, if◌then◌else◌, nat_lt, nat_le}
use Rattle.kk_base.specs.Trace.{Event, output, input, input_end}
use Rattle.rv_isa.specs.Arithmetic.{signed}
use Rattle.rv_isa.specs.Processor.{Ending, exited}
use Rattle.rv_isa.specs.Primitives.{Reply, answers, ends, fails, Primitives, by_token}
use Rattle.rv_isa.specs.declared.asm.Operation.{Operation}
use Rattle.rv_isa.specs.declared.asm.Operation.TheVariants.{Lw, Sw, Dup, Free}
use Rattle.rv_isa.specs.declared.routine.Routine.{Routine}
use Rattle.rv_isa.specs.declared.routine.Routine.TheVariants.{Take, Drop, PrintInt, PrintText, ReadByte}
use Rattle.cell_heap.specs.Pool.{Pool}
use Rattle.cell_heap.specs.Turns.{Work}
use Rattle.cell_heap.specs.Blocks.{Cells, unused_cells, load, store, dup, release, request, drop_cells, merged_cells}
use Rattle.cell_heap.specs.Blocks as OfBlocks
use Rattle.cell_runtime.specs.declared.process.Ending.TheVariants as OfEnding
use Rattle.cell_runtime.specs.Drops.{most_drop_cost}
use Rattle.cell_runtime.specs.Prints.{int_piece, int_count, put_of}
use Rattle.cell_runtime.specs.Stops.{number_of}
use Rattle.cell_runtime.specs.Operations.{Constants, computed, holds, bytes_at}

-- what is left of the input, what was done on the outside so far, and the cells
pub record World : Type 0 where
  pub left : List ℕ
  pub trace : List Event
  pub cells : Cells

-- before anything was done
abbrev pub first_world : Pool → List ℕ → World
first_world pool bytes = record { left = bytes; trace = []; cells = unused_cells pool }

-- ---- operations

abbrev pub with_cells : World → Cells → World
with_cells world cells = record world { cells = cells }

-- the world with other cells, if they are there, and an operation that writes no value
abbrev pub changes : World → Option Cells → Option (ℕ × World)
changes world cells = option_map (λ next. (0, with_cells world next)) cells

-- Loads and stores are of words of the program's own blocks, so many bytes from their begin. A reference is duplicated, and a token freed.
abbrev pub computed_in : Constants → Operation → List ℕ → World → Option (ℕ × World)
computed_in constants (Lw offset) (at ∷ []) world = option_map (λ word. (word, world)) (load at offset.word world.cells)
computed_in constants (Sw offset) (at ∷ word ∷ []) world = changes world (store at offset.word word world.cells)
computed_in constants Dup (reference ∷ []) world = changes world (dup reference world.cells)
computed_in constants Free (at ∷ []) world = changes world (by_token release at world.cells)
computed_in constants operation words world = option_map (λ word. (word, world)) (computed constants operation words)

-- ---- routines

-- the world after more events
abbrev pub told_more : List Event → World → World
told_more events world = record world { trace = world.trace ++ events }

-- A print of a number: of its word, and whether a line feed comes behind it. One of any other number of words, of no word,
-- or with another choice is none that the runtime allows.
abbrev pub print_int : ℕ → ℕ → World → Reply World Ending
print_int word choice world =
    if nat_lt word (2 ^ 32) && nat_le choice 1 then answers 0 (told_more (output (int_piece word choice) ∷ []) world) false else fails

-- a print of constant bytes
abbrev pub print_bytes : Option (List ℕ) → World → Reply World Ending
print_bytes None world = fails
print_bytes (Some bytes) world = answers 0 (told_more (put_of bytes) world) false

-- the next byte of the input, or -1 at its end
abbrev pub read_next : List ℕ → World → Reply World Ending
read_next [] world = answers (2 ^ 32 - 1) (told_more (input_end ∷ []) world) false
read_next (byte ∷ rest) world = answers byte (record (told_more (input byte ∷ []) world) { left = rest }) false

-- a request for a cell; where there is none the heap is full
abbrev pub takes_cell : Option (ℕ × Cells × Bool) → World → Reply World Ending
takes_cell None world = ends (exited (number_of OfEnding.HeapFull)) world
takes_cell (Some (at, cells, took_held)) world = answers at (with_cells world cells) took_held

-- a reference is given up
abbrev pub gives_up : Option Work → World → Reply World Ending
gives_up None world = fails
gives_up (Some work) world = answers 0 (with_cells world (merged_cells work world.cells)) false

abbrev pub served : Constants → Pool → Routine → List ℕ → Option ℕ → World → Reply World Ending
served constants pool Take [] held world = takes_cell (request pool held world.cells) world
served constants pool Drop (reference ∷ []) held world = gives_up (drop_cells pool reference world.cells) world
served constants pool PrintInt (word ∷ choice ∷ []) held world = print_int word choice world
served constants pool PrintText (at ∷ count ∷ []) held world = print_bytes (bytes_at constants at count) world
served constants pool ReadByte [] held world = read_next world.left world
served constants pool _ _ held world = fails

-- by how many references are given up, and how many cells are freed
abbrev pub drop_count : Option Work → ℕ
drop_count None = 0
drop_count (Some work) = most_drop_cost work.gave work.freed

-- the most instructions of a routine
abbrev pub lasts : Pool → Routine → List ℕ → Option ℕ → World → ℕ
lasts pool Take words held world = 8
lasts pool Drop (reference ∷ []) held world = drop_count (drop_cells pool reference world.cells)
lasts pool PrintInt (word ∷ choice ∷ []) held world = int_count (signed word)
lasts pool PrintText words held world = 6
lasts pool ReadByte words held world = 10
lasts pool _ words held world = 0

-- ---- what the machines leave open

-- a token is put on the held chain, or taken off
abbrev pub on_cells : (ℕ → Cells → Option Cells) → ℕ → World → Option World
on_cells act word world = option_map (with_cells world) (act word world.cells)

-- what the machines of the assembler form and of its placed form leave open, for a program with these constants and cells
abbrev pub primitives : Constants → Pool → Primitives World Event Ending
primitives constants pool = record {
  compute = computed_in constants;
  holds = holds;
  serve = served constants pool;
  lasts = lasts pool;
  hold = on_cells OfBlocks.hold;
  unhold = on_cells OfBlocks.unhold;
  told = λ world. world.trace;
  finished = exited (number_of OfEnding.Ended);
  stack_full = exited (number_of OfEnding.StackFull);
}
