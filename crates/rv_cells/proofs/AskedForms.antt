-- The lines of forms on values, by whether a construction asks for its cell while other tokens are held.
use Rattle.std.proofs.Common.{◌≡◌, ℕ, ◌+◌, ◌⊎◌, inl, inr, false, List, [], ◌∷◌, refl}
use Rattle.kk_syntax.specs.declared.program.Form.{Form}
use Rattle.kk_syntax.specs.declared.program.Form.TheVariants.{Number, Unit as Nothing, ReadByte, PrintText, Unary, Binary, Print}
use Rattle.kk_syntax.specs.declared.program.Form.TheVariants.{Construct, Call}
use Rattle.rv_isa.specs.AsmCode.{Line}
use Rattle.rv_lower.specs.Lines.{sets}
use Rattle.rv_cells.specs.Layout.{header_of}
use Rattle.rv_cells.specs.CellLines.{FillLines}
use Rattle.rv_cells.specs.CountedLines.{Setting, ComputeLines}
use Rattle.rv_cells.specs.TokenedLines.{values_of_slots, AskLines}

-- a construction with fields, whose variable is null where it asks, while the tokens of these slots are held
pub record Asks (setting : Setting) (variables low x : ℕ) (form : Form) (arguments others : List ℕ) (own : List Line) (middle : ℕ)
    : Type 0 where
  pub made_by : ℕ
  pub first : ℕ
  pub later : List ℕ
  pub form_is : form ≡ Construct made_by
  pub arguments_are : arguments ≡ first ∷ later
  pub fill : List Line
  pub fills : FillLines setting.base x x (values_of_slots variables others) low (header_of setting.layout made_by) arguments []
      false false fill
  pub own_is : own ≡ sets 0 x ∷ fill
  pub middle_is : low + 1 ≡ middle

module _ (setting : Setting) (variables low x : ℕ) where
  abbrev IsEither : Form → List ℕ → List ℕ → List Line → ℕ → Type 0
  IsEither form arguments others own middle =
      (ComputeLines setting x form arguments own × (low ≡ middle)) ⊎ Asks setting variables low x form arguments others own middle

  -- The lines are those of a form without tokens, or of such a construction.
  pub ask_either : (form : Form) (arguments others : List ℕ) (own : List Line) (middle : ℕ)
      → AskLines setting variables low x form arguments others own middle → IsEither form arguments others own middle
  ask_either (Number value) arguments others own middle is = inl is
  ask_either Nothing arguments others own middle is = inl is
  ask_either ReadByte arguments others own middle is = inl is
  ask_either (PrintText how text) arguments others own middle is = inl is
  ask_either (Unary operator) arguments others own middle is = inl is
  ask_either (Binary operator) arguments others own middle is = inl is
  ask_either (Print how) arguments others own middle is = inl is
  ask_either (Construct c) [] others own middle is = inl is
  ask_either (Construct c) (a ∷ more) [] own middle is = inl is
  ask_either (Construct c) (a ∷ more) (other ∷ others) own middle is = inr (record {
    made_by = c;
    first = a;
    later = more;
    form_is = refl;
    arguments_are = refl;
    fill = is.0;
    fills = is.1;
    own_is = is.2;
    middle_is = is.3;
  })
  ask_either (Call f) arguments others own middle is = inl is
