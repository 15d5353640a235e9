-- What was written of a function's assembler code, from its code with tokens.
use Rattle.std.specs.Prelude.{◌≡◌, ℕ, ◌+◌, Bool, true, false, not, List, ◌++◌, ◌∷◌, [], Some, length}
use Rattle.kk_syntax.specs.declared.program.Form.{Form}
use Rattle.kk_counted.specs.TokenedCodes.{Tokened}
use Rattle.kk_counted.specs.TokenedForms.{TokenedMove, plug_tokened, tokened_arms}
use Rattle.kk_counted.specs.declared.tokened.TokenedStep.{TokenedStep}
use Rattle.kk_counted.specs.declared.tokened.TokenedStep.TheVariants as OfStep
use Rattle.kk_counted.specs.TokenedWords.{prints_in_form, tokened_prints, tokened_arms_prints}
use Rattle.rv_isa.specs.AsmCode.{Line}
use Rattle.rv_isa.specs.declared.asm.Action.TheVariants.{Routine as Calls, Branch}
use Rattle.rv_isa.specs.declared.asm.Condition.TheVariants.{Equal}
use Rattle.rv_isa.specs.declared.routine.Routine.TheVariants.{Take}
use Rattle.rv_lower.specs.Lines.{acts}
use Rattle.rv_lower.specs.declared.lowering.Lowering.{Lowering}
use Rattle.rv_lower.specs.Lowered.{Goal}
use Rattle.rv_lower.specs.Written.{texts_written, Grows}
use Rattle.rv_tokens.specs.declared.known.Known.{Known}
use Rattle.rv_cells.specs.CellLines.{StoresIf, ConstructLines, FillLines, hold_lines, unhold_lines}
use Rattle.rv_cells.specs.declared.compare.Branching.{Branching}
use Rattle.rv_cells.specs.TokenedLines.{AskLines, LinesBehind, CodeLines, ArmsLines}
use Rattle.rv_tokens.specs.Written.{Facts, setting_in}

-- how many variables there are: each has a mark
abbrev pub variables_known : Known → ℕ
variables_known known = length known.marks.now

-- a cell is taken
abbrev pub take_line : ℕ → Line
take_line x = record { action = Calls Take; args = []; into = Some x }

-- the stores of a construction, which come behind the line that takes its cell
abbrev pub StoreLines : ℕ → ℕ → ℕ → List ℕ → List Line → Type 0
StoreLines base x header arguments lines = ConstructLines base x header arguments (take_line x ∷ lines)

-- behind other lines one stores a word of a cell, or none does
abbrev pub PushedStore : Bool → ℕ → ℕ → ℕ → List Line → List Line → Type 0
PushedStore taken cell i from old new = (one : List Line) × StoresIf taken cell i from one × (new ≡ old ++ one)

-- what the cell of a token has, or what it has not
abbrev pub is_left : Bool → Bool → Bool
is_left true has = has
is_left false has = not has

-- a cell is taken while tokens are held
abbrev pub request_lines : ℕ → List ℕ → List Line
request_lines x tokens = hold_lines tokens ++ (take_line x ∷ unhold_lines tokens)

-- to a label where a token is null
abbrev pub token_test_lines : ℕ → ℕ → List Line
token_test_lines token label = acts (Branch Equal label) (token ∷ []) ∷ []

-- a construction in the cell of a token was written, with a label
pub record WroteFill (x token : ℕ) (others : List ℕ) (header : ℕ) (arguments kept : List ℕ) (head count : Bool) (old new : Lowering)
    : Type 0 where
  pub lines : List Line
  pub grows : Grows 0 lines old new
  pub label : new.next_label ≡ old.next_label + 1
  pub are : FillLines old.base x token others old.next_label header arguments kept head count lines

-- The lines of a form on variables were written. They are its lines however many texts come later.
pub record WroteAsk (facts : Facts) (variables x : ℕ) (form : Form) (arguments others : List ℕ) (old new : Lowering) : Type 0 where
  pub lines : List Line
  pub grows : Grows (prints_in_form form) lines old new
  pub are : (later : List (List ℕ))
      → AskLines (setting_in facts old.base (texts_written new ++ later)) variables old.next_label x form arguments others lines
      new.next_label

-- the same of a code, where variables are those below a number
pub record WroteTokened (facts : Facts) (variables : ℕ) (goal : Goal) (code : Tokened) (old new : Lowering) : Type 0 where
  pub lines : List Line
  pub grows : Grows (tokened_prints code) lines old new
  pub are : (later : List (List ℕ))
      → CodeLines (setting_in facts old.base (texts_written new ++ later)) variables goal old.next_label code lines
      new.next_label

-- the same of a case that does the work of a comparison
pub record WroteBehind (facts : Facts) (variables : ℕ) (goal : Goal) (branch : Branching) (code : Tokened) (old new : Lowering)
    : Type 0 where
  pub lines : List Line
  pub grows : Grows (tokened_prints code) lines old new
  pub are : (later : List (List ℕ))
      → LinesBehind (Some branch) (setting_in facts old.base (texts_written new ++ later)) variables goal old.next_label code lines
      new.next_label

-- the same of the arms of a case, from a label on
pub record WroteTokenedArms (facts : Facts) (variables : ℕ) (goal : Goal) (label : ℕ) (arms : List Tokened) (old new : Lowering)
    : Type 0 where
  pub lines : List Line
  pub grows : Grows (tokened_arms_prints (tokened_arms arms)) lines old new
  pub are : (later : List (List ℕ))
      → ArmsLines (setting_in facts old.base (texts_written new ++ later)) variables goal label old.next_label
      (tokened_arms arms) lines new.next_label

-- The lines of steps were written, behind which other steps come: those of any code that follows stand behind them.
pub record WroteTokenedSteps (facts : Facts) (variables : ℕ) (moves behind : List TokenedMove) (old new : Lowering) : Type 0 where
  pub lines : List Line
  pub n : ℕ
  pub grows : Grows n lines old new
  pub counted : (rest : Tokened) → tokened_prints (plug_tokened moves rest) ≡ n + tokened_prints rest
  pub are : (later : List (List ℕ)) (goal : Goal) (rest : Tokened) (more : List Line) (high : ℕ)
      → CodeLines (setting_in facts old.base (texts_written new ++ later)) variables goal new.next_label (plug_tokened behind rest)
      more high
      → CodeLines (setting_in facts old.base (texts_written new ++ later)) variables goal old.next_label
      (plug_tokened moves (plug_tokened behind rest)) (lines ++ more) high

-- ---- steps by what they are

-- what holds of a step if it opens a cell, and if it fills one
abbrev pub IfOpens : TokenedStep → Type 0 → Type 0
IfOpens step Holds =
    ((x c : ℕ) (fields used : _) (y : ℕ) → step ≡ OfStep.Open x c fields used y → Holds)
    × ((x c : ℕ) (fields used : _) (y : ℕ) → step ≡ OfStep.IfUnique x c fields used y → Holds)

abbrev pub IfFills : TokenedStep → Type 0 → Type 0
IfFills step Holds = (x y c first : ℕ) (arguments kept others : _) → step ≡ OfStep.Fill x y c first arguments kept others → Holds
