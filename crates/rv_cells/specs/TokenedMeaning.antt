-- That assembler code does what a program with tokens does, whose bare form is a program in counted form.
use Rattle.std.specs.Prelude.{◌≡◌, ◌≢◌, ℕ, List, [], Some, slice_get}
use Rattle.kk_base.specs.Trace.{Event}
use Rattle.kk_base.specs.Agreements.{Agree}
use Rattle.kk_base.specs.Machines.{Machine, mapped, state}
use Rattle.kk_source.specs.Ends.{exit_of}
use Rattle.kk_source.specs.Notes.{events_of}
use Rattle.kk_source.specs.State.{End, ended as well}
use Rattle.kk_counted.specs.BareForms.{bare_program}
use Rattle.kk_counted.specs.CountedCosts.{roomy_cost}
use Rattle.kk_counted.specs.CountedStates.{CountedSetting, CountedState, stopped, counted_first_state}
use Rattle.kk_counted.specs.CountedMachine.{counted_machine}
use Rattle.kk_counted.specs.Heaps.{busy}
use Rattle.kk_counted.specs.Keeping.{counted_after}
use Rattle.kk_counted.specs.KeptFields.{LeavesKnown}
use Rattle.kk_counted.specs.Marks.{CellMarks, field_marks}
use Rattle.kk_counted.specs.TokenSpending.{AreTokensSpent}
use Rattle.kk_counted.specs.TokenedCodes.{TokenedFunction, TokenedProgram}
use Rattle.rv_isa.specs.Processor.{Ending, exited}
use Rattle.rv_isa.specs.AsmCode.{Lines}
use Rattle.rv_isa.specs.AsmMachine.{asm_machine, asm_start}
use Rattle.rv_isa.specs.Primitives.{ended, stuck}
use Rattle.rv_isa.specs.WellFormed.{AreWellFormed}
use Rattle.cell_heap.specs.Pool.{Pool}
use Rattle.cell_runtime.specs.World.{World, first_world, primitives}
use Rattle.rv_cells.specs.Layout.{Layout, IsNarrow}
use Rattle.rv_cells.specs.Meaning.{setting_on, AreFree}
use Rattle.rv_cells.specs.TokenedLines.{AreFunctionsOf}

-- The counted machine as an image tells it: the events that the world sees, and the number of the exit. A step weighs what
-- the table of costs says, with so much room for tokens.
abbrev pub roomy_outside : ℕ → CountedSetting → Machine CountedState Event Ending
roomy_outside room setting = mapped events_of (λ end. exited (exit_of end)) (counted_machine (roomy_cost room) setting)

-- Each function of a program with tokens is lowered to well-formed code, spends its tokens, and leaves only fields that are known.
-- Constructors 0 and 1 are `False` and `True`.
pub record IsTokenedLowered (layout : Layout) (marks : CellMarks) (code : TokenedProgram) (constants : List (List ℕ))
    (functions : List Lines) : Type 0 where
  pub narrow : IsNarrow layout
  pub fields_are : (c : ℕ) → layout.fields c ≡ field_marks marks c
  pub falsity : layout.tag 0 ≡ 0
  pub truth_is : layout.tag 1 ≡ 1
  pub each : AreFunctionsOf layout (record { literals = code.texts; constants = constants }) marks code.functions functions
  pub spends : AreTokensSpent code
  pub leaves : (f : ℕ) (function : TokenedFunction) → slice_get code.functions f ≡ Some function → LeavesKnown [] function.body
  pub formed : AreWellFormed functions
  pub main : TokenedFunction
  pub main_is : slice_get code.functions code.main ≡ Some main
  pub main_alone : main.parameters ≡ 0
  pub main_lines : Lines
  pub lines_are : slice_get functions code.main ≡ Some main_lines

-- On an input the assembler's machine agrees with the counted one of the bare form: it tells the same events, ends alike, and weighs
-- no more than that with room for tokens, and this room once more. It comes to no state in which it can do nothing. Where the
-- program ends by itself with an empty heap, all cells are free.
pub record TokenedRunsTheSame (code : TokenedProgram) (room : ℕ) (constants : List (List ℕ)) (functions : List Lines) (main : Lines)
    (pool : Pool) (depth first : ℕ) (input : List ℕ) : Type 0 where
  pub agrees : (up : ℕ → ℕ) × Agree (roomy_outside room (setting_on (bare_program code) pool depth))
      (asm_machine (primitives (record { first = first; texts = constants }) pool) depth functions) room up
      (counted_first_state (setting_on (bare_program code) pool depth) input) (asm_start main (first_world pool input))
  pub ends : (n : ℕ) (by : End)
      → (counted_after (roomy_cost room) (setting_on (bare_program code) pool depth) input n).control ≡ stopped by
      → (steps : ℕ) × (world : World)
      × (state (asm_machine (primitives (record { first = first; texts = constants }) pool) depth functions) steps
      (asm_start main (first_world pool input)) ≡ ended (exited (exit_of by)) world)
      × (by ≡ well → busy (counted_after (roomy_cost room) (setting_on (bare_program code) pool depth) input n).heap ≡ 0
      → AreFree pool world.cells)
  pub never_stuck : (n : ℕ)
      → state (asm_machine (primitives (record { first = first; texts = constants }) pool) depth functions) n
      (asm_start main (first_world pool input)) ≢ stuck
