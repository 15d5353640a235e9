-- What a run of placed code rests on: where the code, the constants, the stack and the runtime stand, and what stays so in each
-- state.
use Rattle.std.specs.Prelude.{◌≡◌, ℕ, ◌+◌, ◌*◌, ◌%◌, ◌^◌, ◌≤◌, ◌<◌, List, Some, length, true}
use Rattle.kk_base.specs.Memory.{Part}
use Rattle.rv_isa.specs.declared.instr.Instr.{Instr}
use Rattle.rv_isa.specs.declared.routine.Routine.TheVariants as routine
use Rattle.rv_isa.specs.declared.placed.Symbol.{Symbol}
use Rattle.rv_isa.specs.declared.placed.Symbol.TheVariants as symbol
use Rattle.rv_isa.specs.PlacedCode.{PlacedLines}
use Rattle.rv_isa.specs.Bytes.{Apart, bytes_at}
use Rattle.rv_isa.specs.Processor.{Processor, can_load, can_store}
use Rattle.rv_isa.specs.Standing.{Code, Stands}
use Rattle.cell_runtime.specs.Sizes.{runtime_words}
use Rattle.cell_runtime.specs.declared.process.Ending.TheVariants as ending
use Rattle.cell_runtime.specs.Prints.{buffer_bytes, IsPrintInt, IsPrintText, IsReadByte}
use Rattle.cell_runtime.specs.Stops.{IsStop}
use Rattle.cell_runtime.specs.Takes.{IsTake}
use Rattle.cell_runtime.specs.Drops.{IsDrop}
use Rattle.cell_heap.specs.Pool.{Pool, end_of}
use Rattle.cell_runtime.specs.Operations.{all_bytes}
use Rattle.rv_place.specs.Addresses.{frames_taken, frame_bias}
use Rattle.rv_place.specs.Lines.{Map, IsSymbolAt, FunctionsAt}

-- what stands at a symbol of the runtime is of a kind
abbrev pub HasRoutine : Map → Symbol → (ℕ → Type 0) → Type 0
HasRoutine map name IsOfKind = (target : ℕ) × IsSymbolAt map name target × IsOfKind target

-- how many constant bytes there are
abbrev pub constant_bytes : Map → ℕ
constant_bytes map = length (all_bytes map.constants.texts)

-- the address behind the stack: that of the frame of main is one frame below it
abbrev pub stack_end : Map → ℕ → ℕ
stack_end map depth = map.bottom + depth * map.frame

-- The functions and the routines stand in the code, whose addresses are below 2^32, and it is known which functions take a
-- frame. The frames of the stack are words that may be
-- loaded and stored. The cells end where the lowest frame begins, and the buffer of the prints lies below the cells. The
-- constants may be
-- loaded, and no store reaches them. Behind the end of main the run comes to a stop. The routines and the stops stand in the
-- runtime's
-- own code, which is a part of the code, and within its words.
pub record Ground (map : Map) (pool : Pool) (functions : List PlacedLines) (depth buffer stop : ℕ) (code : Code) (parts : List Part) : Type 0 where
  pub functions_at : FunctionsAt map code map.entries functions
  pub takes : map.takes ≡ frames_taken map.jumps functions
  pub below : (at : ℕ) (i : Instr) → code at ≡ Some i → at + 4 < 2 ^ 32
  pub some_frame : 4 ≤ map.frame
  pub frame_words : map.frame % 4 ≡ 0
  pub some_depth : 1 ≤ depth
  pub bottom_word : map.bottom % 4 ≡ 0
  pub in_range : stack_end map depth + frame_bias map.jumps < 2 ^ 32
  pub loads : (at : ℕ) → map.bottom ≤ at → at + 4 ≤ stack_end map depth → at % 4 ≡ 0 → can_load parts at 4 ≡ true
  pub stores : (at : ℕ) → map.bottom ≤ at → at + 4 ≤ stack_end map depth → at % 4 ≡ 0 → can_store parts at 4 ≡ true
  pub buffer_below : buffer + buffer_bytes ≤ pool.first
  pub cells_below : end_of pool ≡ map.bottom
  pub buffer_loads : can_load parts buffer buffer_bytes ≡ true
  pub buffer_stores : can_store parts buffer buffer_bytes ≡ true
  pub byte_loads : can_load parts buffer 1 ≡ true
  pub byte_stores : can_store parts buffer 1 ≡ true
  pub constants_below : map.constants.first + constant_bytes map < 2 ^ 32
  pub constants_load : (at count : ℕ) → map.constants.first ≤ at → at + count ≤ map.constants.first + constant_bytes map
      → can_load parts at count ≡ true
  pub constants_kept : (x count : ℕ) → can_store parts x count ≡ true → 0 < count
      → Apart x count map.constants.first (constant_bytes map)
  pub runtime_word : map.runtime % 4 ≡ 0
  pub own : Code
  pub own_part : (at : ℕ) (i : Instr) → own at ≡ Some i → code at ≡ Some i
  pub own_inside : (at : ℕ) (i : Instr) → own at ≡ Some i → (map.runtime ≤ at) × (at < map.runtime + 4 * runtime_words)
  pub take : HasRoutine map (symbol.Routine routine.Take) (IsTake pool own)
  pub give_up : HasRoutine map (symbol.Routine routine.Drop) (IsDrop own)
  pub print_int : HasRoutine map (symbol.Routine routine.PrintInt) (IsPrintInt buffer own)
  pub print_text : HasRoutine map (symbol.Routine routine.PrintText) (IsPrintText own)
  pub read_byte : HasRoutine map (symbol.Routine routine.ReadByte) (IsReadByte buffer own)
  pub stack_full : HasRoutine map symbol.StackFull (IsStop ending.StackFull own)
  pub stop_word : stop % 4 ≡ 0
  pub stop_below : stop < 2 ^ 32
  pub ends : IsStop ending.Ended own stop

-- what is so in each state of the run
pub record Rests (map : Map) (code : Code) (parts : List Part) (s : Processor) : Type 0 where
  pub stands : Stands code s
  pub parts_are : s.parts ≡ parts
  pub constants : bytes_at s.memory map.constants.first (constant_bytes map) ≡ all_bytes map.constants.texts
