-- The lines of a form name few values: its variable, its arguments, and eight temporaries at most.
use Rattle.std.proofs.Common.{ℕ, zero, suc, ◌+◌, ◌<◌, ◌≤◌, List, [], ◌∷◌, ◌++◌, Option, Some, length, sym, subst, arith}
use Rattle.kk_syntax.specs.declared.operator.UnaryOperator.TheVariants.{Negate, Not}
use Rattle.kk_syntax.specs.declared.operator.BinaryOperator.{BinaryOperator}
use Rattle.kk_syntax.specs.declared.operator.BinaryOperator.TheVariants as Of
use Rattle.kk_syntax.specs.declared.program.Form.{Form}
use Rattle.kk_syntax.specs.declared.program.Form.TheVariants.{Number, Unit as Nothing, ReadByte, PrintText, Unary, Binary, Print, Construct, Call}
use Rattle.kk_syntax.specs.Programs.{text_at}
use Rattle.kk_source.specs.FormEffects.{piece_of}
use Rattle.rv_isa.specs.declared.asm.Action.{Action}
use Rattle.rv_isa.specs.declared.asm.Action.TheVariants as OfAction
use Rattle.rv_isa.specs.declared.asm.Operation.TheVariants as Op
use Rattle.rv_isa.specs.declared.asm.ImmediateOperation.TheVariants as Immediate
use Rattle.rv_isa.specs.declared.asm.RegisterOperation.TheVariants as Register
use Rattle.rv_isa.specs.AsmCode.{Line}
use Rattle.rv_isa.specs.ValueBounds.{AreValuesBelow, IsWrittenBelow, AreLinesBelow}
use Rattle.rv_isa.proofs.ValueBounds.{lines_joined}
use Rattle.rv_lower.specs.Lines.{Texts, computes, sets, registers, unit_word, copies, temporaries, MakesTruth, Compares, BinaryLines, PrintLines, FormLines}
use Rattle.rv_lower.specs.Lowered.{Goal, returns, joins, goal_lines, from_to}
use Rattle.rv_lower.proofs.Operations.{HasArguments}
use Rattle.rv_lower.proofs.WellFormedness.{most_temporaries}

module _ (most : ℕ) where
  -- ---- arguments that are handed over

  copies_below : (at : ℕ) (xs : List ℕ) → at + length xs ≤ most → AreValuesBelow most xs → AreLinesBelow most (copies at xs)
  copies_below at [] le below = tt
  copies_below at (x ∷ xs) le below =
      (((below.0, tt), omega (arith, le)), copies_below (at + 1) xs (omega (arith, le)) below.1)

  temporaries_below : (at : ℕ) (xs : List ℕ) → at + length xs ≤ most → AreValuesBelow most (temporaries at xs)
  temporaries_below at [] le = tt
  temporaries_below at (x ∷ xs) le = (omega (arith, le), temporaries_below (at + 1) xs (omega (arith, le)))

  pub handed_below : (base : ℕ) (xs : List ℕ) (action : Action) (into : Option ℕ) → base + length xs ≤ most → AreValuesBelow most xs
      → IsWrittenBelow most into
      → AreLinesBelow most (copies base xs ++ record { action = action; args = temporaries base xs; into = into } ∷ [])
  handed_below base xs action into le below written =
      lines_joined most (copies base xs) (record { action = action; args = temporaries base xs; into = into } ∷ [])
      (copies_below base xs le below) ((temporaries_below base xs le, written), tt)

  -- numbers one after the other
  pub from_to_below : (at count : ℕ) → at + count ≤ most → AreValuesBelow most (from_to at count)
  from_to_below at zero le = tt
  from_to_below at (suc count) le = (omega (arith, le), from_to_below (at + 1) count (omega (arith, le)))

  -- ---- where a code ends

  abbrev pub IsGoalBelow : Goal → Type 0
  IsGoalBelow returns = Unit {0}
  IsGoalBelow (joins y label) = y < most

  pub goal_below : (goal : Goal) (x : ℕ) → IsGoalBelow goal → x < most → AreLinesBelow most (goal_lines goal x)
  goal_below returns x goal_is less = (((less, tt), tt), tt)
  goal_below (joins y label) x goal_is less = (((less, tt), goal_is), ((tt, tt), tt))

  -- ---- operators

  module _ (x : ℕ) (less : x < most) where
    truth_below : (lines : List Line) → MakesTruth x lines → AreLinesBelow most lines
    truth_below lines is = subst (AreLinesBelow most) (sym is.4) (((less, tt), less), (((less, tt), less), tt))

    compared_below : (first lines : List Line) → AreLinesBelow most first → Compares x first lines → AreLinesBelow most lines
    compared_below first lines below is =
        subst (AreLinesBelow most) (sym is.2) (lines_joined most first is.0 below (truth_below is.0 is.1))

    module _ (base a b : ℕ) (room : base < most) (a_less : a < most) (b_less : b < most) where
      -- three registers
      abbrev Three : Type 0
      Three = ((a < most) × ((b < most) × Unit {0})) × (x < most)

      three : Three
      three = ((a_less, (b_less, tt)), less)

      turned : ((b < most) × ((a < most) × Unit {0})) × (x < most)
      turned = ((b_less, (a_less, tt)), less)

      again : ((x < most) × Unit {0}) × (x < most)
      again = ((less, tt), less)

      pub binary_below : (operator : BinaryOperator) (lines : List Line) → BinaryLines base x operator a b lines
          → AreLinesBelow most lines
      binary_below Of.Add lines is = subst (AreLinesBelow most) (sym is) (three, tt)
      binary_below Of.Subtract lines is = subst (AreLinesBelow most) (sym is) (three, tt)
      binary_below Of.Multiply lines is = subst (AreLinesBelow most) (sym is) (three, tt)
      binary_below Of.Remainder lines is = subst (AreLinesBelow most) (sym is) (three, tt)
      binary_below Of.Divide lines is =
          subst (AreLinesBelow most) (sym is)
          (three, ((tt, room), (((room, (b_less, tt)), room), (((less, (room, tt)), less), tt))))
      binary_below Of.Equal lines is =
          compared_below (registers x a b (Op.Register Register.Sub) ∷ computes (Op.Immediate Immediate.Sltiu is.0) (x ∷ []) x ∷ []) lines
          (three, (again, tt)) is.2
      binary_below Of.NotEqual lines is =
          compared_below (registers x a b (Op.Register Register.Sub) ∷ sets 0 base ∷ registers x base x (Op.Register Register.Sltu) ∷ [])
          lines (three, ((tt, room), (((room, (less, tt)), less), tt))) is
      binary_below Of.Less lines is = compared_below (registers x a b (Op.Register Register.Slt) ∷ []) lines (three, tt) is
      binary_below Of.Greater lines is = compared_below (registers x b a (Op.Register Register.Slt) ∷ []) lines (turned, tt) is
      binary_below Of.LessEqual lines is =
          compared_below (registers x b a (Op.Register Register.Slt) ∷ computes (Op.Immediate Immediate.Xori is.0) (x ∷ []) x ∷ []) lines
          (turned, (again, tt)) is.2
      binary_below Of.GreaterEqual lines is =
          compared_below (registers x a b (Op.Register Register.Slt) ∷ computes (Op.Immediate Immediate.Xori is.0) (x ∷ []) x ∷ []) lines
          (three, (again, tt)) is.2

  -- ---- forms

  module _ (base x : ℕ) (room : base + most_temporaries ≤ most) (less : x < most) where
    zero_less : base < most
    zero_less = omega (arith, room)

    one_less : base + 1 < most
    one_less = omega (arith, room)

    print_below : (texts : List (List ℕ)) (bytes : List ℕ) (lines : List Line) → PrintLines base texts bytes lines
        → AreLinesBelow most lines
    print_below texts [] lines is = subst (AreLinesBelow most) (sym is) ((tt, zero_less), (((zero_less, tt), tt), tt))
    print_below texts (byte ∷ more) lines is =
        subst (AreLinesBelow most) (sym is.2)
        ((tt, zero_less), ((tt, one_less), (((zero_less, (one_less, tt)), tt), tt)))

    pub form_below : (texts : Texts) (form : Form) (arguments : List ℕ) (lines : List Line) → HasArguments form arguments
        → AreValuesBelow most arguments → FormLines base texts x form arguments lines → AreLinesBelow most lines
    form_below texts (Number value) arguments lines arity below is = subst (AreLinesBelow most) (sym is.3) ((tt, less), tt)
    form_below texts Nothing arguments lines arity below is = subst (AreLinesBelow most) (sym is) ((tt, less), tt)
    form_below texts ReadByte arguments lines arity below is = subst (AreLinesBelow most) (sym is) ((tt, less), tt)
    form_below texts (PrintText how text) arguments lines arity below is =
        subst (AreLinesBelow most) (sym is.2) (lines_joined most is.0 (sets unit_word x ∷ [])
        (print_below texts.constants (piece_of how (text_at texts.literals text)) is.0 is.1) ((tt, less), tt))
    form_below texts (Unary Negate) (a ∷ []) lines arity below is =
        subst (AreLinesBelow most) (sym is) ((tt, zero_less), (((zero_less, (below.0, tt)), less), tt))
    form_below texts (Unary Not) (a ∷ []) lines arity below is = subst (AreLinesBelow most) (sym is.2) (((below.0, tt), less), tt)
    form_below texts (Unary operator) [] lines arity below is = absurd (omega (arith, arity))
    form_below texts (Unary operator) (a ∷ b ∷ more) lines arity below is = absurd (omega (arith, arity))
    form_below texts (Binary operator) (a ∷ b ∷ []) lines arity below is =
        binary_below x less base a b zero_less below.0 below.1.0 operator lines is
    form_below texts (Binary operator) [] lines arity below is = absurd (omega (arith, arity))
    form_below texts (Binary operator) (a ∷ []) lines arity below is = absurd (omega (arith, arity))
    form_below texts (Binary operator) (a ∷ b ∷ c ∷ more) lines arity below is = absurd (omega (arith, arity))
    form_below texts (Print how) (a ∷ []) lines arity below is =
        subst (AreLinesBelow most) (sym is)
        (((below.0, tt), zero_less), ((tt, one_less), (((zero_less, (one_less, tt)), tt), ((tt, less), tt))))
    form_below texts (Print how) [] lines arity below is = absurd (omega (arith, arity))
    form_below texts (Print how) (a ∷ b ∷ more) lines arity below is = absurd (omega (arith, arity))
    form_below texts (Construct c) [] lines arity below is = subst (AreLinesBelow most) (sym is) ((tt, less), tt)
    form_below texts (Construct c) (a ∷ more) lines arity below is = absurd (omega (arith, arity))
    form_below texts (Call f) arguments lines arity below is =
        subst (AreLinesBelow most) (sym is)
        (handed_below base arguments (OfAction.Call f) (Some x) (omega (arith, room, arity)) below less)
