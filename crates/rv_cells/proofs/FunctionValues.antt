-- The assembler code of a function names few values: its variables, the values of its slots, and eight temporaries.
use Rattle.std.proofs.Common.{◌≡◌, ℕ, suc, ◌+◌, ◌<◌, ◌≤◌, Bool, true, false, List, [], ◌∷◌, ◌++◌, length, Option, Some, None, refl, sym, subst, arith}
use Rattle.std.specs.Prelude.{slice_get}
use Rattle.kk_syntax.specs.declared.operator.BinaryOperator.{BinaryOperator}
use Rattle.kk_syntax.specs.declared.operator.BinaryOperator.TheVariants as Of
use Rattle.kk_syntax.specs.declared.program.Form.{Form}
use Rattle.kk_syntax.specs.declared.program.Form.TheVariants.{Number, Unit as Nothing, ReadByte, PrintText, Unary, Binary, Print, Construct, Call}
use Rattle.kk_syntax.specs.Shapes.{without}
use Rattle.kk_core.specs.Decisions.{NodeTree}
use Rattle.kk_core.specs.Sizes.{AreBound}
use Rattle.kk_counted.specs.BareForms.{bare, bare_arms, bare_function, bare_program}
use Rattle.kk_counted.specs.FunctionSizes.{AllHaveVariablesBelow, AllHaveSlotsBelow}
use Rattle.kk_counted.specs.Lowerable.{AreBelow, AreNumbered, AreArmsNumbered, HasArity, HasArities, HaveArities, IsLowerable, AreLowerable}
use Rattle.kk_counted.specs.Marks.{CellMarks, result_mark}
use Rattle.kk_counted.specs.Spending.{numbers_from}
use Rattle.kk_counted.specs.TokenSpending.{SpendsTokens, SpendAllTokens, AreTokensSpent}
use Rattle.kk_counted.specs.TokenedCodes.{Tokened, TokenedArms, TokenedFunction, TokenedProgram}
use Rattle.kk_counted.specs.declared.shape.Shape.{Shape}
use Rattle.rv_isa.specs.declared.asm.Action.TheVariants.{Label, TailCall}
use Rattle.rv_isa.specs.AsmCode.{Line, Lines}
use Rattle.rv_isa.specs.ValueBounds.{AreValuesBelow, IsWrittenBelow, AreLinesBelow, HasValuesBelow, HaveValuesBelow}
use Rattle.rv_isa.proofs.ValueBounds.{lines_joined}
use Rattle.rv_lower.specs.Lines.{Texts, acts}
use Rattle.rv_lower.specs.Lowered.{Goal, returns, joins}
use Rattle.rv_lower.specs.Written.{texts_of}
use Rattle.rv_lower.proofs.ValueBounds.{handed_below, from_to_below, IsGoalBelow, goal_below, form_below}
use Rattle.rv_lower.proofs.WellFormedness.{HasRoom, room_more, most_temporaries}
use Rattle.rv_cells.specs.declared.compare.Branching.{Branching}
use Rattle.rv_cells.specs.CellLines.{dup_lines, drop_lines}
use Rattle.rv_cells.specs.ComparisonBranch.{branch_of, branch_unless}
use Rattle.rv_cells.specs.CountedLines.{Setting, ComputeLines, ways_of}
use Rattle.rv_cells.specs.Layout.{Layout, header_of}
use Rattle.rv_cells.specs.Tables.{table_of, layout_in}
use Rattle.rv_cells.specs.Laws.{most_values_of}
use Rattle.rv_cells.specs.TokenedLines.{values_of_slots, HasSlots, HaveSlots, AskLines, OwnLines, CaseLines, IsFillOf, MayFill, OpeningLines}
use Rattle.rv_cells.specs.TokenedLines.{header_stands, count_stands, LinesBehind, ArmsLines, IsFunctionOf}
use Rattle.rv_cells.specs.TokenedLowered.{IsTokenedForm}
use Rattle.rv_cells.proofs.CallLines.{among_numbers}
use Rattle.rv_cells.proofs.FormedOrders.{room_front}
use Rattle.rv_cells.proofs.FormValues.{dup_below, drop_below, construct_below, fill_below, token_unique_below, nodes_below}
use Rattle.rv_cells.proofs.ReadingLines.{reads_below}
use Rattle.rv_cells.proofs.TokenFormedFunctions.{bare_at}
use Rattle.rv_cells.proofs.UnnamedVariables.{HasUses, HaveUses, uses_marked}

-- ---- values of variables and slots

-- variables that are bound are below the variables
bound_below : (variables most : ℕ) (bound xs : List ℕ) → variables ≤ most → HasRoom variables bound → AreBound bound xs
    → AreValuesBelow most xs
bound_below variables most bound [] le has are = tt
bound_below variables most bound (x ∷ xs) le has are =
    let less = has.low x are.0 in (omega (arith, le, less), bound_below variables most bound xs le has are.1)

fields_below : (variables most : ℕ) (fields : List ℕ) → variables ≤ most → AreBelow variables fields → AreValuesBelow most fields
fields_below variables most [] le below = tt
fields_below variables most (x ∷ fields) le below =
    let less = below.0 in (omega (arith, le, less), fields_below variables most fields le below.1)

slots_below : (variables slots most : ℕ) (ys : List ℕ) → variables + slots ≤ most → AreBelow slots ys
    → AreValuesBelow most (values_of_slots variables ys)
slots_below variables slots most [] le below = tt
slots_below variables slots most (y ∷ ys) le below =
    let less = below.0 in (omega (arith, le, less), slots_below variables slots most ys le below.1)

-- ---- branches

-- what a branch compares
abbrev IsBranchBelow : ℕ → Option Branching → Type 0
IsBranchBelow most None = Unit {0}
IsBranchBelow most (Some branch) = (branch.first < most) × (branch.second < most)

unless_below : (most : ℕ) (operator : BinaryOperator) (a b : ℕ) → a < most → b < most → IsBranchBelow most (branch_unless operator a b)
unless_below most Of.Equal a b first second = (first, second)
unless_below most Of.NotEqual a b first second = (first, second)
unless_below most Of.Less a b first second = (first, second)
unless_below most Of.GreaterEqual a b first second = (first, second)
unless_below most Of.Greater a b first second = (second, first)
unless_below most Of.LessEqual a b first second = (second, first)
unless_below most Of.Add a b first second = tt
unless_below most Of.Subtract a b first second = tt
unless_below most Of.Multiply a b first second = tt
unless_below most Of.Divide a b first second = tt
unless_below most Of.Remainder a b first second = tt

branch_below : (most : ℕ) (form : Form) (arguments : List ℕ) (joined : Bool) → AreValuesBelow most arguments
    → IsBranchBelow most (branch_of form arguments joined)
branch_below most (Binary operator) (a ∷ b ∷ []) true below = unless_below most operator a b below.0 below.1.0
branch_below most (Binary operator) (a ∷ b ∷ []) false below = tt
branch_below most (Binary operator) [] joined below = tt
branch_below most (Binary operator) (a ∷ []) joined below = tt
branch_below most (Binary operator) (a ∷ b ∷ c ∷ more) joined below = tt
branch_below most (Number value) arguments joined below = tt
branch_below most Nothing arguments joined below = tt
branch_below most ReadByte arguments joined below = tt
branch_below most (PrintText how text) arguments joined below = tt
branch_below most (Unary operator) arguments joined below = tt
branch_below most (Print how) arguments joined below = tt
branch_below most (Construct c) arguments joined below = tt
branch_below most (Call f) arguments joined below = tt

-- ---- codes

module _ (setting : Setting) (marks : CellMarks) (result : Bool) (variables slots : ℕ) (base_is : setting.base ≡ variables + slots) where
  -- the variables, the slots, and eight temporaries
  abbrev most : ℕ
  most = variables + slots + most_temporaries

  abbrev Below : List Line → Type 0
  Below lines = AreLinesBelow most lines

  room : setting.base + most_temporaries ≤ most
  room = omega (arith, base_is)

  base_less : setting.base < most
  base_less = omega (arith, base_is)

  variables_le : variables ≤ most
  variables_le = omega arith

  variable_less : (x : ℕ) → x < variables → x < most
  variable_less x less = omega (arith, less)

  slot_less : (y : ℕ) → y < slots → variables + y < most
  slot_less y less = omega (arith, less)

  -- a form on variables
  compute_below : (x : ℕ) (form : Form) (arguments : List ℕ) (lines : List Line) → x < variables → HasArity form arguments
      → AreValuesBelow most arguments → ComputeLines setting x form arguments lines → Below lines
  compute_below x (Construct c) [] lines less arity below is = subst Below (sym is) ((tt, variable_less x less), tt)
  compute_below x (Construct c) (a ∷ more) lines less arity below is =
      construct_below most setting.base x (header_of setting.layout c) (a ∷ more) lines base_less (variable_less x less) below is
  compute_below x (Number value) arguments lines less arity below is =
      form_below most setting.base x room (variable_less x less) setting.texts (Number value) arguments lines tt below is
  compute_below x Nothing arguments lines less arity below is =
      form_below most setting.base x room (variable_less x less) setting.texts Nothing arguments lines tt below is
  compute_below x ReadByte arguments lines less arity below is =
      form_below most setting.base x room (variable_less x less) setting.texts ReadByte arguments lines tt below is
  compute_below x (PrintText how text) arguments lines less arity below is =
      form_below most setting.base x room (variable_less x less) setting.texts (PrintText how text) arguments lines tt below is
  compute_below x (Unary operator) arguments lines less arity below is =
      form_below most setting.base x room (variable_less x less) setting.texts (Unary operator) arguments lines arity below is
  compute_below x (Binary operator) arguments lines less arity below is =
      form_below most setting.base x room (variable_less x less) setting.texts (Binary operator) arguments lines arity below is
  compute_below x (Print how) arguments lines less arity below is =
      form_below most setting.base x room (variable_less x less) setting.texts (Print how) arguments lines arity below is
  compute_below x (Call f) arguments lines less arity below is =
      form_below most setting.base x room (variable_less x less) setting.texts (Call f) arguments lines arity below is

  ask_below : (low x : ℕ) (form : Form) (arguments others : List ℕ) (lines : List Line) (high : ℕ) → x < variables
      → HasArity form arguments → AreValuesBelow most arguments → AreBelow slots others
      → AskLines setting variables low x form arguments others lines high → Below lines
  ask_below low x (Construct c) (a ∷ more) (other ∷ others) lines high less arity below few is =
      subst Below (sym is.2) (
        (tt, variable_less x less),
        fill_below most setting.base x x (values_of_slots variables (other ∷ others)) low (header_of setting.layout c) (a ∷ more) []
            false false is.0 base_less (variable_less x less) (variable_less x less)
            (slots_below variables slots most (other ∷ others) (omega arith) few) below is.1,
      )
  ask_below low x (Construct c) (a ∷ more) [] lines high less arity below few is =
      compute_below x (Construct c) (a ∷ more) lines less arity below is.0
  ask_below low x (Construct c) [] others lines high less arity below few is =
      compute_below x (Construct c) [] lines less arity below is.0
  ask_below low x (Number value) arguments others lines high less arity below few is =
      compute_below x (Number value) arguments lines less arity below is.0
  ask_below low x Nothing arguments others lines high less arity below few is =
      compute_below x Nothing arguments lines less arity below is.0
  ask_below low x ReadByte arguments others lines high less arity below few is =
      compute_below x ReadByte arguments lines less arity below is.0
  ask_below low x (PrintText how text) arguments others lines high less arity below few is =
      compute_below x (PrintText how text) arguments lines less arity below is.0
  ask_below low x (Unary operator) arguments others lines high less arity below few is =
      compute_below x (Unary operator) arguments lines less arity below is.0
  ask_below low x (Binary operator) arguments others lines high less arity below few is =
      compute_below x (Binary operator) arguments lines less arity below is.0
  ask_below low x (Print how) arguments others lines high less arity below few is =
      compute_below x (Print how) arguments lines less arity below is.0
  ask_below low x (Call f) arguments others lines high less arity below few is =
      compute_below x (Call f) arguments lines less arity below is.0

  own_below : (comes : Option Branching) (low x : ℕ) (form : Form) (arguments others : List ℕ) (lines : List Line) (high : ℕ)
      → x < variables → HasArity form arguments → AreValuesBelow most arguments → AreBelow slots others
      → OwnLines comes setting variables low x form arguments others lines high → Below lines
  own_below None low x form arguments others lines high less arity below few is =
      ask_below low x form arguments others lines high less arity below few is
  own_below (Some branch) low x form arguments others lines high less arity below few is = subst Below (sym is.0) tt

  case_below : (comes : Option Branching) (nodes arms x : ℕ) (decisions : List NodeTree) (lines : List Line) → x < variables
      → IsBranchBelow most comes → CaseLines comes setting nodes arms x decisions lines → Below lines
  case_below None nodes arms x decisions lines less branch is =
      nodes_below most setting.layout setting.base nodes x (ways_of decisions nodes arms) (omega (arith, base_is))
      (variable_less x less) 0 decisions lines is
  case_below (Some branch) nodes arms x decisions lines less both is = subst Below (sym is) (((both.0, (both.1, tt)), tt), tt)

  -- the variable of a construction in a token's cell is one of the function
  filled_less : (x y : ℕ) (code : Tokened) (bound : List ℕ) → IsFillOf x y code → AreNumbered variables bound (bare code) → x < most
  filled_less x y (Tokened.fill z w c first arguments kept others rest) bound fills numbered =
      subst (λ (v : ℕ). v < most) fills.0 (variable_less z numbered.0)
  filled_less x y (Tokened.give z) bound fills numbered = absurd fills
  filled_less x y (Tokened.tail_call f arguments) bound fills numbered = absurd fills
  filled_less x y (Tokened.case z decisions arms) bound fills numbered = absurd fills
  filled_less x y (Tokened.compute z form arguments others rest) bound fills numbered = absurd fills
  filled_less x y (Tokened.inside z block rest) bound fills numbered = absurd fills
  filled_less x y (Tokened.read z c fields rest) bound fills numbered = absurd fills
  filled_less x y (Tokened.open_cell z c fields used w rest) bound fills numbered = absurd fills
  filled_less x y (Tokened.if_unique z c fields used w rest) bound fills numbered = absurd fills
  filled_less x y (Tokened.dup z rest) bound fills numbered = absurd fills
  filled_less x y (Tokened.drop z rest) bound fills numbered = absurd fills
  filled_less x y (Tokened.free z rest) bound fills numbered = absurd fills
  filled_less x y (Tokened.null z rest) bound fills numbered = absurd fills
  filled_less x y (Tokened.move to of rest) bound fills numbered = absurd fills
  filled_less x y (Tokened.hold z rest) bound fills numbered = absurd fills
  filled_less x y (Tokened.unhold z rest) bound fills numbered = absurd fills
  filled_less x y (Tokened.if_token z there absent) bound fills numbered = absurd fills

  may_fill_less : (into : Option ℕ) (y : ℕ) (code : Tokened) (bound : List ℕ) → MayFill into y code
      → AreNumbered variables bound (bare code) → (x : ℕ) → into ≡ Some x → x < most
  may_fill_less None y code bound fills numbered x is = cc is
  may_fill_less (Some z) y code bound fills numbered x is =
      subst (λ (v : ℕ). v < most) (same is) (filled_less z y code bound fills numbered)
    where
      same : Some z ≡ Some x → z ≡ x
      same is = cc is

  -- an opening's lines, in front of those of the code behind it
  opening_below : (low x : ℕ) (fields used : List ℕ) (y : ℕ) (rest : Tokened) (bound : List ℕ) (lines own more : List Line)
      → x < variables → AreBelow variables fields → y < slots → AreNumbered variables bound (bare rest)
      → OpeningLines setting variables low x fields used y rest own → lines ≡ own ++ more → Below more → Below lines
  opening_below low x fields used y rest bound lines own more less below few numbered is lines_are later =
      subst Below (sym lines_are)
      (lines_joined most own more
      (token_unique_below most setting.base setting.holds low (low + 1) (low + 2) x fields used (variables + y) is.0 own
      (omega (arith, base_is)) (variable_less x less) (slot_less y few) (may_fill_less is.0 y rest bound is.1 numbered)
      (fields_below variables most fields variables_le below) is.2)
      later)

  mutual
    pub code_below : (comes : Option Branching) (code : Tokened) (bound unspent left held : List ℕ) (given : Bool) (goal : Goal)
        (low high : ℕ) (lines : List Line) → IsBranchBelow most comes → IsGoalBelow most goal → HasRoom variables bound
        → HasUses marks setting.holds result bound given (bare code) → AreNumbered variables bound (bare code)
        → HasArities (bare code) → HasSlots slots code → SpendsTokens left unspent held code
        → LinesBehind comes setting variables goal low code lines high → Below lines
    code_below comes (Tokened.give x) bound unspent left held given goal low high lines branch to has uses numbered arities few
        spends is =
        subst Below (sym is.0) (goal_below most goal x to (variable_less x (has.low x uses.0)))
    code_below comes (Tokened.tail_call f arguments) bound unspent left held given goal low high lines branch to has uses numbered
        arities few spends is =
        subst Below (sym is.0)
        (handed_below most setting.base arguments (TailCall f) None (omega (arith, base_is, arities))
        (bound_below variables most bound arguments variables_le has uses.0) tt)
    code_below comes (Tokened.case x decisions arms) bound unspent left held given goal low high lines branch to has uses numbered
        arities few spends is =
        subst Below (sym is.6)
        (lines_joined most is.0 is.1 (case_below comes is.2 low x decisions is.0 (has.low x uses.0) branch is.4)
        (arms_below arms bound unspent left given goal low (is.2 + length decisions) high is.1 to has uses.1 numbered arities few
        spends.1 is.5))
    code_below comes (Tokened.compute x form arguments others rest) bound unspent left held given goal low high lines branch to has
        uses numbered arities few spends is =
        let next = branch_of form arguments is.3 in
        let below = bound_below variables most bound arguments variables_le has uses.0 in
        subst Below (sym is.7)
        (lines_joined most is.0 is.1
        (own_below next low x form arguments others is.0 is.2 numbered.0 arities.0 below few.0 is.4)
        (code_below next rest (x ∷ bound) unspent left held given goal is.2 high is.1 (branch_below most form arguments is.3 below) to
        (room_more variables bound x has numbered.0) uses.1.1 numbered.1.1 arities.1 few.1 spends.1 is.5))
    code_below comes (Tokened.inside x block rest) bound unspent left held given goal low high lines branch to has uses numbered
        arities few spends is =
        subst Below (sym is.5)
        (lines_joined most is.0 (acts (Label low) [] ∷ is.1)
        (code_below None block bound unspent spends.0 [] (setting.holds x) (joins x low) (low + 1) is.2 is.0 tt
        (variable_less x numbered.0) has uses.0 numbered.1.0 arities.0 few.0 spends.1.1.0 is.3) (
          (tt, tt),
          code_below None rest (x ∷ bound) spends.0 left [] given goal is.2 high is.1 tt to
              (room_more variables bound x has numbered.0) uses.1 numbered.1.1 arities.1 few.1 spends.1.1.1 is.4,
        ))
    code_below comes (Tokened.read x c fields rest) bound unspent left held given goal low high lines branch to has uses numbered
        arities few spends is =
        subst Below (sym is.4)
        (lines_joined most is.0 is.1
        (reads_below most x fields is.0 (variable_less x (has.low x uses.0.0))
        (fields_below variables most fields variables_le numbered.0.0) is.2)
        (code_below None rest (fields ++ bound) unspent left [] given goal low high is.1 tt to
        (room_front variables bound fields has numbered.0.0) uses.1 numbered.1 arities few spends.1 is.3))
    code_below comes (Tokened.open_cell x c fields used y rest) bound unspent left held given goal low high lines branch to has uses
        numbered arities few spends is =
        opening_below low x fields used y rest (fields ++ bound) lines is.0 is.1 (has.low x uses.0.0) numbered.0.0 few.0 numbered.1
        is.2 is.4
        (code_below None rest (fields ++ bound) (y ∷ unspent) left [] given goal (low + 2) high is.1 tt to
        (room_front variables bound fields has numbered.0.0) uses.1 numbered.1 arities few.1 spends.1.1 is.3)
    code_below comes (Tokened.if_unique x c fields used y rest) bound unspent left held given goal low high lines branch to has uses
        numbered arities few spends is =
        opening_below low x fields used y rest (fields ++ bound) lines is.0 is.1 (has.low x uses.0.0) numbered.0.0 few.0 numbered.1
        is.2 is.4
        (code_below None rest (fields ++ bound) (y ∷ unspent) left [] given goal (low + 2) high is.1 tt to
        (room_front variables bound fields has numbered.0.0) uses.1 numbered.1 arities few.1 spends.1.1 is.3)
    code_below comes (Tokened.dup x rest) bound unspent left held given goal low high lines branch to has uses numbered arities few
        spends is =
        subst Below (sym is.2)
        (lines_joined most (dup_lines setting.holds x) is.0 (dup_below most setting.holds x (variable_less x (has.low x uses.0)))
        (code_below None rest bound unspent left [] given goal low high is.0 tt to has uses.1 numbered arities few spends.1 is.1))
    code_below comes (Tokened.drop x rest) bound unspent left held given goal low high lines branch to has uses numbered arities few
        spends is =
        subst Below (sym is.2)
        (lines_joined most (drop_lines setting.holds x) is.0
        (drop_below most setting.holds x (λ held. variable_less x (has.low x (uses.0 held))))
        (code_below comes rest bound unspent left held given goal low high is.0 branch to has uses.1 numbered arities few spends
        is.1))
    code_below comes (Tokened.fill x y c first arguments kept others rest) bound unspent left held given goal low high lines branch
        to has uses numbered arities few spends is =
        subst Below (sym is.4)
        (lines_joined most is.0 is.1
        (fill_below most setting.base x (variables + y) (values_of_slots variables others) low (header_of setting.layout c)
        (first ∷ arguments) kept (header_stands setting.standing c) (count_stands setting.standing) is.0 base_less
        (variable_less x numbered.0) (slot_less y few.0) (slots_below variables slots most others (omega arith) few.1.0)
        (bound_below variables most bound (first ∷ arguments) variables_le has uses.0) is.2)
        (code_below None rest (x ∷ bound) (without (y ∷ []) unspent) left [] given goal (low + 1) high is.1 tt to
        (room_more variables bound x has numbered.0) uses.1.1 numbered.1.1 arities.1 few.1.1 spends.1.1.1.1 is.3))
    code_below comes (Tokened.free y rest) bound unspent left held given goal low high lines branch to has uses numbered arities few
        spends is =
        subst Below (sym is.2) (
          ((slot_less y few.0, tt), tt),
          code_below None rest bound (without (y ∷ []) unspent) left [] given goal low high is.0 tt to has uses numbered arities few.1
              spends.1.1 is.1,
        )
    code_below comes (Tokened.null y rest) bound unspent left held given goal low high lines branch to has uses numbered arities few
        spends is =
        subst Below (sym is.2) (
          (tt, slot_less y few.0),
          code_below None rest bound (y ∷ unspent) left [] given goal low high is.0 tt to has uses numbered arities few.1 spends.1.1
              is.1,
        )
    code_below comes (Tokened.move to_slot of rest) bound unspent left held given goal low high lines branch to has uses numbered
        arities few spends is =
        subst Below (sym is.2) (
          ((slot_less of few.1.0, tt), slot_less to_slot few.0),
          code_below None rest bound (to_slot ∷ without (of ∷ []) unspent) left [] given goal low high is.0 tt to has uses numbered
              arities few.1.1 spends.1.1.1 is.1,
        )
    code_below comes (Tokened.hold y rest) bound unspent left held given goal low high lines branch to has uses numbered arities few
        spends is =
        subst Below (sym is.2) (
          ((slot_less y few.0, (slot_less y few.0, tt)), tt),
          code_below None rest bound unspent left (y ∷ held) given goal low high is.0 tt to has uses numbered arities few.1 spends.1.1
              is.1,
        )
    code_below comes (Tokened.unhold y rest) bound unspent left held given goal low high lines branch to has uses numbered arities
        few spends is =
        subst Below (sym is.2) (
          ((slot_less y few.0, tt), slot_less y few.0),
          code_below None rest bound unspent left spends.0 given goal low high is.0 tt to has uses numbered arities few.1 spends.1.1.1
              is.1,
        )
    code_below comes (Tokened.if_token y there absent) bound unspent left held given goal low high lines branch to has uses numbered
        arities few spends is =
        subst Below (sym is.5) (
          ((slot_less y few.0, tt), tt),
          lines_joined most is.0 (acts (Label low) [] ∷ is.1)
              (code_below None there bound unspent left held given goal (low + 1) is.2 is.0 tt to has uses numbered arities few.1.0
              spends.1.1.0 is.3) (
                (tt, tt),
                code_below None absent bound unspent left held given goal is.2 high is.1 tt to has
                    (subst (HasUses marks setting.holds result bound given) (sym spends.1.0) uses)
                    (subst (AreNumbered variables bound) (sym spends.1.0) numbered) (subst HasArities (sym spends.1.0) arities) few.1.1
                    spends.1.1.1 is.4,
              ),
        )

    arms_below : (arms : TokenedArms) (bound unspent left : List ℕ) (given : Bool) (goal : Goal) (label low high : ℕ)
        (lines : List Line) → IsGoalBelow most goal → HasRoom variables bound
        → HaveUses marks setting.holds result bound given (bare_arms arms) → AreArmsNumbered variables bound (bare_arms arms)
        → HaveArities (bare_arms arms) → HaveSlots slots arms → SpendAllTokens left unspent arms
        → ArmsLines setting variables goal label low arms lines high → Below lines
    arms_below TokenedArms.no_arm bound unspent left given goal label low high lines to has uses numbered arities few spends is =
        subst Below (sym is.0) tt
    arms_below (TokenedArms.arm body rest) bound unspent left given goal label low high lines to has uses numbered arities few spends
        is =
        subst Below (sym is.5) (
          (tt, tt),
          lines_joined most is.0 is.1
              (code_below None body bound unspent left [] given goal low is.2 is.0 tt to has uses.0 numbered.0 arities.0 few.0 spends.0
              is.3)
              (arms_below rest bound unspent left given goal (label + 1) is.2 high is.1 to has uses.1 numbered.1 arities.1 few.1 spends.1
              is.4),
        )

-- ---- functions

-- a function that can be lowered, and is so
function_below : (layout : Layout) (texts : Texts) (table : CellMarks) (f : ℕ) (function : TokenedFunction) (lines : Lines)
    → IsLowerable table f (bare_function function) → SpendsTokens [] [] [] function.body
    → (is : IsFunctionOf layout texts table f function lines)
    → HasValuesBelow (is.lowered.variables + is.lowered.slots + most_temporaries) lines
function_below layout texts table f function lines may spends is = (
  subst (AreValuesBelow most_here) (sym is.lowered.params)
      (from_to_below most_here 0 function.parameters (let few = is.few in omega (arith, few))),
  code_below (record {
    layout = layout;
    holds = is.lowered.holds;
    base = is.lowered.variables + is.lowered.slots;
    texts = texts;
    standing = is.lowered.standing;
  }) table (result_mark table f) is.lowered.variables is.lowered.slots refl None function.body (numbers_from 0 function.parameters) []
      [] [] (result_mark table f) returns 0 is.lowered.labels lines.code tt tt has
      (uses_marked table is.lowered.holds (result_mark table f) (bare function.body) (numbers_from 0 function.parameters)
      (result_mark table f) is.marked.body_marked)
      is.numbered may.arities is.has spends is.lowered.code,
)
  where
    most_here : ℕ
    most_here = is.lowered.variables + is.lowered.slots + most_temporaries

    has : HasRoom is.lowered.variables (numbers_from 0 function.parameters)
    has = record {
      room = let low = is.low in omega (arith, low);
      low = λ v among. let at = among_numbers 0 function.parameters v among in let few = is.few in omega (arith, at.1, at.2, few);
    }

-- what is below a number is below a greater one
values_more : (most more : ℕ) (values : List ℕ) → most ≤ more → AreValuesBelow most values → AreValuesBelow more values
values_more most more [] le below = tt
values_more most more (v ∷ values) le below =
    let less = below.0 in (omega (arith, le, less), values_more most more values le below.1)

written_more : (most more : ℕ) (into : Option ℕ) → most ≤ more → IsWrittenBelow most into → IsWrittenBelow more into
written_more most more None le below = tt
written_more most more (Some v) le below = omega (arith, le, below)

lines_more : (most more : ℕ) (lines : List Line) → most ≤ more → AreLinesBelow most lines → AreLinesBelow more lines
lines_more most more [] le below = tt
lines_more most more (line ∷ lines) le below = (
  (values_more most more line.args le below.0.0, written_more most more line.into le below.0.1),
  lines_more most more lines le below.1,
)

-- as many functions, of which each by its number names few values
all_below : {F : Type 0} (most : ℕ) (functions : List F) (each : List Lines) → length each ≡ length functions
    → ((f : ℕ) (function : F) → slice_get functions f ≡ Some function
    → (lines : Lines) × ((slice_get each f ≡ Some lines) × HasValuesBelow most lines)) → HaveValuesBelow most each
all_below most [] [] same are = tt
all_below most [] (lines ∷ each) same are = absurd (omega (arith, same))
all_below most (function ∷ functions) [] same are = absurd (omega (arith, same))
all_below most (function ∷ functions) (lines ∷ each) same are =
    let own = are 0 function refl in (
      subst (HasValuesBelow most) (found own.0 own.1.0) own.1.1,
      all_below most functions each (omega (arith, same)) (λ f other is. are (suc f) other is),
    )
  where
    found : (other : Lines) → Some lines ≡ Some other → other ≡ lines
    found other is = grind (arith, is)

pub tokened_values_below : (shape : Shape) (code : TokenedProgram) (texts : List (List ℕ)) (each : List Lines)
    → AreLowerable (table_of shape) (bare_program code).functions → AreTokensSpent code
    → IsTokenedForm shape code.texts code.functions each texts → (variables slots : ℕ)
    → AllHaveVariablesBelow variables (bare_program code).functions → AllHaveSlotsBelow slots code.functions
    → HaveValuesBelow (most_values_of variables slots) each
tokened_values_below shape code texts each lowerable spends form variables slots few_variables few_slots =
    all_below (most_values_of variables slots) code.functions each form.as_many (λ f function is.
    let one = form.lowered f function is in
    let there = bare_at code.functions f function is in
    let below = function_below (layout_in shape) (texts_of code.texts texts) (table_of shape) f function one.0
    (lowerable f (bare_function function) there) (spends f function is) one.2 in
    let fewest = one.2.fewest variables (few_variables f (bare_function function) there) in
    let least = one.2.least in
    let few = few_slots f function is in
    let le : one.2.lowered.variables + one.2.lowered.slots + most_temporaries ≤ most_values_of variables slots
    = omega (arith, fewest, least, few) in (
      one.0,
      (one.1, (values_more _ _ one.0.params le below.0, lines_more _ _ one.0.code le below.1)),
    ))
