-- What was written of a function's assembler code.
use Rattle.std.specs.Prelude.{◌≡◌, ℕ, ◌+◌, ◌*◌, ◌≤◌, List, [], ◌∷◌, ◌++◌, Option, Some, None, map, length}
use Rattle.kk_base.specs.Limits.{greatest_string}
use Rattle.kk_syntax.specs.declared.program.Form.{Form}
use Rattle.kk_syntax.specs.declared.program.Form.TheVariants.{PrintText}
use Rattle.rv_isa.specs.AsmCode.{Line, line_of}
use Rattle.cell_runtime.specs.Operations.{all_bytes}
use Rattle.rv_lower.specs.declared.lowering.Reads.{Reads}
use Rattle.rv_lower.specs.declared.lowering.Reads.TheVariants.{Nothing, One, Two}
use Rattle.rv_lower.specs.declared.lowering.Short.{Short}
use Rattle.rv_lower.specs.declared.lowering.Lowering.{Lowering}
use Rattle.rv_lower.specs.Lines.{Texts, FormLines, PrintLines}
use Rattle.rv_lower.specs.declared.block.Goal.{Goal as CodeGoal}
use Rattle.rv_lower.specs.declared.block.Goal.TheVariants as OfGoal
use Rattle.rv_lower.specs.Lowered.{Goal, returns, joins}

abbrev pub read_list : Reads → List ℕ
read_list Nothing = []
read_list (One a) = a ∷ []
read_list (Two a b) = a ∷ b ∷ []

abbrev pub short_line : Short → Line
short_line s = record { action = s.action; args = read_list s.reads; into = s.into }

-- the lines and the constant bytes that stand there
abbrev pub lines_written : Lowering → List Line
lines_written lowering = map line_of lowering.code.items

abbrev pub texts_written : Lowering → List (List ℕ)
texts_written lowering = lowering.texts.items

-- the texts, where these constant bytes stand there
abbrev pub texts_of : List (List ℕ) → List (List ℕ) → Texts
texts_of literals constants = record { literals = literals; constants = constants }

-- lines were written, and nothing else
pub record Wrote (lines : List Line) (old new : Lowering) : Type 0 where
  pub code : lines_written new ≡ lines_written old ++ lines
  pub texts : texts_written new ≡ texts_written old
  pub base : new.base ≡ old.base
  pub label : new.next_label ≡ old.next_label

-- a label was taken, and nothing written
pub record TookLabel (label : ℕ) (old new : Lowering) : Type 0 where
  pub is : label ≡ old.next_label
  pub next : new.next_label ≡ old.next_label + 1
  pub code : lines_written new ≡ lines_written old
  pub texts : texts_written new ≡ texts_written old
  pub base : new.base ≡ old.base

-- the most bytes of a print: a string, and a line feed
abbrev pub most_print : ℕ
most_print = greatest_string + 1

-- lines were written, and texts: those have the bytes of so many prints at most
pub record Grows (n : ℕ) (lines : List Line) (old new : Lowering) : Type 0 where
  pub code : lines_written new ≡ lines_written old ++ lines
  pub base : new.base ≡ old.base
  pub more : List (List ℕ)
  pub texts : texts_written new ≡ texts_written old ++ more
  pub few : length (all_bytes more) ≤ most_print * n

-- the most texts that a form on variables adds: the string that it prints
abbrev pub texts_in : Form → ℕ
texts_in (PrintText how text) = 1
texts_in form = 0

-- The lines of a form on variables were written. They are its lines however many texts come later.
pub record WroteForm (literals : List (List ℕ)) (x : ℕ) (form : Form) (arguments : List ℕ) (old new : Lowering) : Type 0 where
  pub lines : List Line
  pub grows : Grows (texts_in form) lines old new
  pub label : new.next_label ≡ old.next_label
  pub are : (later : List (List ℕ)) → FormLines old.base (texts_of literals (texts_written new ++ later)) x form arguments lines

-- lines of a kind were written, and nothing else
pub record WroteLines (Kind : List Line → Type 0) (old new : Lowering) : Type 0 where
  pub lines : List Line
  pub wrote : Wrote lines old new
  pub are : Kind lines

-- the lines of a print were written, and its bytes, if it has any
pub record WrotePrint (bytes : List ℕ) (old new : Lowering) : Type 0 where
  pub lines : List Line
  pub grows : Grows 1 lines old new
  pub label : new.next_label ≡ old.next_label
  pub are : (later : List (List ℕ)) → PrintLines old.base (texts_written new ++ later) bytes lines

-- a text was added, and nothing written
pub record AddedText (index : ℕ) (text : List ℕ) (old new : Lowering) : Type 0 where
  pub is : index ≡ length (texts_written old)
  pub texts : texts_written new ≡ texts_written old ++ text ∷ []
  pub code : lines_written new ≡ lines_written old
  pub base : new.base ≡ old.base
  pub label : new.next_label ≡ old.next_label

-- the two of a list of two
abbrev pub pair_of : List ℕ → Option (ℕ × ℕ)
pair_of (a ∷ b ∷ []) = Some (a, b)
pair_of _ = None

-- where the value of a block goes
abbrev pub goal_of : CodeGoal → Goal
goal_of OfGoal.Return = returns
goal_of (OfGoal.Join variable label) = joins variable label
