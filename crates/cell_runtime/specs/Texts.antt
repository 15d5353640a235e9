-- The whole text of the runtime: which lines it has, and what the routines do wherever it stands.
use Rattle.std.specs.Prelude.{◌≡◌, ℕ, ◌+◌, ◌*◌, List, [], ◌∷◌}
use Rattle.kk_base.specs.Sizes.{greatest_depth}
use Rattle.rv_isa.specs.declared.instr.Instr.{Instr}
use Rattle.rv_isa.specs.declared.routine.Routine.TheVariants as routine
use Rattle.rv_isa.specs.declared.placed.Symbol.{Symbol}
use Rattle.rv_isa.specs.declared.placed.Symbol.TheVariants.{Start, Routine, Stop, StackFull}
use Rattle.rv_isa.specs.declared.placed.Placed.{Placed}
use Rattle.rv_isa.specs.Sizes.{reach_down}
use Rattle.rv_isa.specs.Standing.{Code, Has}
use Rattle.rv_isa.specs.PlacedCode.{placed_natives, placed_memory, placed_functions, placed_constants}
use Rattle.cell_heap.specs.Pool.{Pool}
use Rattle.cell_runtime.specs.declared.layout.Layout.{Layout}
use Rattle.cell_runtime.specs.declared.process.Ending.TheVariants as ending
use Rattle.cell_runtime.specs.Layouts.{bytes_before_cells, layout_of}
use Rattle.cell_runtime.specs.Lines.{Spells, words_of, labels_of, AreWithin}
use Rattle.cell_runtime.specs.Prints.{IsPrintInt, IsPrintText, IsReadByte}
use Rattle.cell_runtime.specs.Stops.{IsStop}
use Rattle.cell_runtime.specs.Takes.{IsTake}
use Rattle.cell_runtime.specs.Drops.{IsDrop}
use Rattle.cell_runtime.specs.Starts.{IsStart}
use Rattle.cell_runtime.specs.Sizes.{runtime_words}

-- the cells of an image, of whose memory this is the begin
abbrev pub pool_of : ℕ → ℕ → Pool
pool_of cells memory = record { first = memory + bytes_before_cells; cells = cells }

-- the code at an address and behind it: each routine at its place. `main` stands behind the last one
pub record IsRuntime (cells : ℕ) (layout : Layout) (memory : ℕ) (code : Code) (at : ℕ) : Type 0 where
  pub start : IsStart (pool_of cells memory) (memory + layout.stack_end) (at + 4 * runtime_words) code at
  pub ended : IsStop ending.Ended code (at + 4 * 11)
  pub stack_full : IsStop ending.StackFull code (at + 4 * 14)
  pub take : IsTake (pool_of cells memory) code (at + 4 * 17)
  pub give_up : IsDrop code (at + 4 * 34)
  pub print_int : IsPrintInt memory code (at + 4 * 62)
  pub print_text : IsPrintText code (at + 4 * 86)
  pub read_byte : IsReadByte memory code (at + 4 * 92)

-- the labels of the routines, each with the number of instructions before it
abbrev pub runtime_labels : List (Symbol × ℕ)
runtime_labels =
    (Start, 0) ∷ (Stop, 11) ∷ (StackFull, 14) ∷ (Routine routine.Take, 17) ∷ (Routine routine.Drop, 34)
    ∷ (Routine routine.PrintInt, 62) ∷ (Routine routine.PrintText, 86) ∷ (Routine routine.ReadByte, 92) ∷ []

-- how far from the memory's begin the runtime's addresses are at most: twice as far as all frames take, even where each has as many
-- bytes as a load reaches
abbrev pub greatest_reach : ℕ
greatest_reach = 2 * (greatest_depth * (2 * reach_down))

-- the runtime alone, for so many cells and so many frames of so many bytes
pub record IsText (cells depth frame_bytes : ℕ) (text : Placed) : Type 0 where
  pub memory : placed_memory text ≡ record { size = (layout_of cells depth frame_bytes).stack_end; stack_bottom = (layout_of cells depth frame_bytes).stack }
  pub functions : placed_functions text ≡ []
  pub constants : placed_constants text ≡ []
  pub words : words_of (placed_natives text) ≡ runtime_words
  pub labels : labels_of 0 (placed_natives text) ≡ runtime_labels
  pub within : AreWithin greatest_reach (placed_natives text)
  pub routines : (memory : ℕ) (is : List Instr) (code : Code) (at : ℕ) → Spells memory (placed_natives text) is → Has code at is
      → IsRuntime cells (layout_of cells depth frame_bytes) memory code at
