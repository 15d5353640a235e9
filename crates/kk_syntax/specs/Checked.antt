-- Programs that are checked: all that is known of a program before its instances are made.
use Rattle.std.specs.Prelude.{◌≡◌, ◌<◌, ℕ, List, [], ◌∷◌, length, Some, slice_get}
use Rattle.kk_syntax.specs.declared.program.Form.{Form}
use Rattle.kk_syntax.specs.declared.program.Form.TheVariants.{PrintText}
use Rattle.kk_syntax.specs.Covered.{Each}
use Rattle.kk_syntax.specs.GroundTyping.{HasTruths}
use Rattle.kk_syntax.specs.Matches.{IsFunctionCovered}
use Rattle.kk_syntax.specs.Programs.{FunctionTree, ProgramTree}
use Rattle.kk_syntax.specs.Shapes.{Gathers, gathered}
use Rattle.kk_syntax.specs.Trees.{Tree}
use Rattle.kk_syntax.specs.Types.{unit_type}
use Rattle.kk_syntax.specs.Typing.{Choice, IsTyping, variables_of_type}

-- the string literal that a form prints
abbrev pub printed_by : Form → List ℕ
printed_by (PrintText form text) = text ∷ []
printed_by _ = []

-- the string literals that an expression prints, each by its number, in the order of the text
abbrev pub of_texts : Gathers ℕ
of_texts = record { at_form = printed_by; at_rows = λ rows. []; at_pattern = λ pattern. [] }

abbrev pub printed : Tree → List ℕ
printed e = gathered of_texts e

-- each string literal that a function prints is one of the program's
abbrev pub PrintsTexts : ProgramTree → FunctionTree → Type 0
PrintsTexts program function = Each (λ text. text < length program.texts) (printed function.body)

-- `main` has no type variables and no parameters, and gives `()`
pub record HasMainFunction (program : ProgramTree) : Type 0 where
  pub function : FunctionTree
  pub is : slice_get program.functions program.main ≡ Some function
  pub variables : function.variables ≡ 0
  pub parameters : function.parameters ≡ []
  pub result : function.result ≡ unit_type

-- Each function of a program has one of these typings, its matches are covered, and it prints literals of the program;
-- `bool` is as it must be, without type variables, and so is `main`.
pub record IsChecked (program : ProgramTree) (typings : List (List Choice)) : Type 0 where
  pub as_many : length typings ≡ length program.functions
  pub typed : (f : ℕ) (function : FunctionTree) (choices : List Choice) → slice_get program.functions f ≡ Some function
      → slice_get typings f ≡ Some choices → IsTyping program function choices
  pub covered : Each (IsFunctionCovered program) program.functions
  pub texts : Each (PrintsTexts program) program.functions
  pub bool : variables_of_type (slice_get program.types 0) ≡ 0
  pub truths : HasTruths program.constructors
  pub main : HasMainFunction program
