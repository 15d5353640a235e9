-- Words of values, and turns of the assembler's machine.
use Rattle.std.specs.Prelude.{◌≡◌, ℕ, ◌^◌, ◌<◌, List, [], ◌∷◌, Bool, Option}
use Rattle.kk_syntax.specs.Types.{TypeTree, int32, unit_type, type_variable, named}
use Rattle.kk_source.specs.State.{Value, integer, unit}
use Rattle.kk_source.specs.FormEffects.{truth}
use Rattle.rv_isa.specs.Arithmetic.{signed}
use Rattle.rv_isa.specs.Processor.{Ending}
use Rattle.rv_isa.specs.AsmCode.{Line}
use Rattle.rv_isa.specs.AsmMachine.{AsmTurn}
use Rattle.rv_isa.specs.Frames.{Frame}
use Rattle.rv_isa.specs.Primitives.{go}
use Rattle.cell_runtime.specs.World.{World}
use Rattle.rv_lower.specs.Lines.{unit_word}
use Rattle.rv_lower.proofs.Words.{truth_word}

-- The word of a value of a type: an `int32` is the number of its word, `()` is the word 1, and a truth has its word. No other types have values.
abbrev pub IsWordOf : TypeTree → Value → ℕ → Type 0
IsWordOf int32 v word = (v ≡ integer (signed word)) × (word < 2 ^ 32)
IsWordOf unit_type v word = (v ≡ unit) × (word ≡ unit_word)
IsWordOf (type_variable of) v word = ⊥
IsWordOf (named by arguments) v word = (b : Bool) × (v ≡ truth b) × (word ≡ truth_word b)

-- a function by its number and its code
abbrev pub Function : Type 0
Function = ℕ × List Line

-- a frame that holds no tokens
abbrev pub frame_at : Function → List Line → (ℕ → Option ℕ) → Option ℕ → Frame Line
frame_at whole left cells into =
    record { function = whole.0; whole = whole.1; code = left; cells = cells; held = []; into = into }

abbrev pub turn_at : Function → List Line → (ℕ → Option ℕ) → Option ℕ → List (Frame Line) → World → AsmTurn World Ending
turn_at whole left cells into fs world = go (record { frames = frame_at whole left cells into ∷ fs; shared = world })
