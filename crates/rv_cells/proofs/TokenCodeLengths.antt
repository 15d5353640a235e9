-- The assembler code of code with tokens is short: it is no longer than that code tells, since its words are no more than that.
use Rattle.std.proofs.Common.{◌≡◌, ℕ, suc, ◌+◌, ◌*◌, ◌≤◌, Bool, List, [], ◌∷◌, ◌++◌, length, Some, refl, sym, subst, arith}
use Rattle.std.specs.Prelude.{slice_get}
use Rattle.kk_base.specs.declared.limit.LimitKind.TheVariants.{Fields}
use Rattle.kk_base.specs.Limits.{greatest_of}
use Rattle.kk_core.specs.CodeNodes.{form_words}
use Rattle.kk_core.specs.Sizes.{most_parameters}
use Rattle.kk_counted.specs.BareForms.{bare, bare_arms, bare_function, bare_program}
use Rattle.kk_counted.specs.Lengths.{form_length}
use Rattle.kk_counted.specs.Lowerable.{HasArity, HasArities, HaveArities, AreLowerable}
use Rattle.kk_counted.specs.Marks.{CellMarks, field_marks, result_mark, HaveMarks, IsFormMarked, HasMark, HaveMark}
use Rattle.kk_counted.specs.Spending.{numbers_from}
use Rattle.kk_syntax.specs.declared.program.Form.{Form}
use Rattle.kk_syntax.specs.declared.program.Form.TheVariants.{Number, Unit as Nothing, ReadByte, PrintText, Unary, Binary, Print}
use Rattle.kk_syntax.specs.declared.program.Form.TheVariants.{Construct, Call}
use Rattle.kk_syntax.specs.Shapes.{without}
use Rattle.kk_counted.specs.TokenLengths.{tokened_length, tokened_arms_length, tokened_functions_length}
use Rattle.kk_counted.specs.TokenLengths.{tokened_computes, tokened_arms_computes, all_tokened_computes}
use Rattle.kk_counted.specs.TokenedWords.{tokened_words, tokened_arms_words, prints_in_form, tokened_prints, tokened_arms_prints}
use Rattle.kk_counted.specs.TokenedWords.{all_tokened_prints, all_tokened_words}
use Rattle.kk_counted.specs.TokenSpending.{SpendsTokens, SpendAllTokens, AreTokensSpent}
use Rattle.kk_counted.specs.TokenedCodes.{Tokened, TokenedArms, TokenedFunction, TokenedProgram}
use Rattle.kk_counted.specs.declared.shape.Shape.{Shape}
use Rattle.rv_isa.specs.AsmCode.{Lines}
use Rattle.rv_isa.specs.Costs.{functions_length}
use Rattle.cell_runtime.specs.Operations.{all_bytes}
use Rattle.rv_cells.specs.Layout.{IsNarrow}
use Rattle.rv_cells.specs.Tables.{table_of, layout_in}
use Rattle.rv_cells.specs.TokenedLowered.{IsTokenedForm}
use Rattle.rv_cells.proofs.TokenCodeWords.{tokened_programs_few}
use Rattle.rv_cells.proofs.TokenFormedFunctions.{bare_at}
use Rattle.rv_lower.specs.Written.{most_print}

-- variables are as many as the marks that they have
marks_many : (holds : ℕ → Bool) (xs : List ℕ) (marks : List Bool) → HaveMarks holds xs marks → length xs ≡ length marks
marks_many holds [] [] are = omega arith
marks_many holds [] (mark ∷ more) are = absurd are
marks_many holds (x ∷ xs) [] are = absurd are
marks_many holds (x ∷ xs) (mark ∷ more) are = let rest = marks_many holds xs more are.1 in omega (arith, rest)

module _ (holds : ℕ → Bool) (table : CellMarks) (narrow : (c : ℕ) → length (field_marks table c) ≤ greatest_of Fields)
    (result : Bool) where
  few_fields : (c : ℕ) (fields : List ℕ) → HaveMarks holds fields (field_marks table c) → length fields ≤ greatest_of Fields
  few_fields c fields are =
      let many = marks_many holds fields (field_marks table c) are in
      let few = narrow c in omega (arith, many, few)

  form_short : (form : Form) (arguments : List ℕ) (mark : Bool) → HasArity form arguments
      → IsFormMarked table holds form arguments mark → form_words form arguments ≤ form_length
  form_short (Number value) arguments mark arity marked = omega arith
  form_short Nothing arguments mark arity marked = omega arith
  form_short ReadByte arguments mark arity marked = omega arith
  form_short (PrintText how text) arguments mark arity marked = omega arith
  form_short (Unary operator) arguments mark arity marked = omega arith
  form_short (Binary operator) arguments mark arity marked = omega arith
  form_short (Print how) arguments mark arity marked = omega arith
  form_short (Construct c) [] mark arity marked = omega arith
  form_short (Construct c) (a ∷ arguments) mark arity marked =
      let few = few_fields c (a ∷ arguments) marked.0 in omega (arith, few)
  form_short (Call f) arguments mark arity marked = omega (arith, arity)

  -- the words of a code whose variables are marked are no more than its length
  mutual
    code_short : (code : Tokened) (bound : List ℕ) (given : Bool) (left unspent held : List ℕ)
        → HasMark table holds result bound given (bare code) → HasArities (bare code) → SpendsTokens left unspent held code
        → tokened_words code ≤ tokened_length code
    code_short (Tokened.give x) bound given left unspent held marked arities spends = omega arith
    code_short (Tokened.tail_call f arguments) bound given left unspent held marked arities spends = omega (arith, arities)
    code_short (Tokened.case x decisions arms) bound given left unspent held marked arities spends =
        let bodies = arms_short arms bound given left unspent marked.1 arities spends.1 in omega (arith, bodies)
    code_short (Tokened.compute x form arguments others rest) bound given left unspent held marked arities spends =
        let own = form_short form arguments (holds x) arities.0 marked.1.0 in
        let more = code_short rest (x ∷ bound) given left unspent held marked.1.1 arities.1 spends.1 in omega (arith, own, more)
    code_short (Tokened.inside x block rest) bound given left unspent held marked arities spends =
        let part = code_short block bound (holds x) spends.0 unspent [] marked.0 arities.0 spends.1.1.0 in
        let more = code_short rest (x ∷ bound) given left spends.0 [] marked.1 arities.1 spends.1.1.1 in omega (arith, part, more)
    code_short (Tokened.read x c fields rest) bound given left unspent held marked arities spends =
        let few = few_fields c fields marked.0.1.1 in
        let more = code_short rest (fields ++ bound) given left unspent [] marked.1 arities spends.1 in omega (arith, few, more)
    code_short (Tokened.open_cell x c fields used y rest) bound given left unspent held marked arities spends =
        let few = few_fields c fields marked.0.1.1 in
        let more = code_short rest (fields ++ bound) given left (y ∷ unspent) [] marked.1 arities spends.1.1 in
        omega (arith, few, more)
    code_short (Tokened.if_unique x c fields used y rest) bound given left unspent held marked arities spends =
        let few = few_fields c fields marked.0.1.1 in
        let more = code_short rest (fields ++ bound) given left (y ∷ unspent) [] marked.1 arities spends.1.1 in
        omega (arith, few, more)
    code_short (Tokened.dup x rest) bound given left unspent held marked arities spends =
        let more = code_short rest bound given left unspent [] marked.1 arities spends.1 in omega (arith, more)
    code_short (Tokened.drop x rest) bound given left unspent held marked arities spends =
        let more = code_short rest bound given left unspent held marked.1 arities spends in omega (arith, more)
    code_short (Tokened.fill x y c first arguments kept others rest) bound given left unspent held marked arities spends =
        let few = few_fields c (first ∷ arguments) marked.1.0.0 in
        let more = code_short rest (x ∷ bound) given left (without (y ∷ []) unspent) [] marked.1.1 arities.1 spends.1.1.1.1 in
        omega (arith, few, more)
    code_short (Tokened.free y rest) bound given left unspent held marked arities spends =
        let more = code_short rest bound given left (without (y ∷ []) unspent) [] marked arities spends.1.1 in omega (arith, more)
    code_short (Tokened.null y rest) bound given left unspent held marked arities spends =
        let more = code_short rest bound given left (y ∷ unspent) [] marked arities spends.1.1 in omega (arith, more)
    code_short (Tokened.move to of rest) bound given left unspent held marked arities spends =
        let more = code_short rest bound given left (to ∷ without (of ∷ []) unspent) [] marked arities spends.1.1.1 in
        omega (arith, more)
    code_short (Tokened.hold y rest) bound given left unspent held marked arities spends =
        let more = code_short rest bound given left unspent (y ∷ held) marked arities spends.1.1 in omega (arith, more)
    code_short (Tokened.unhold y rest) bound given left unspent held marked arities spends =
        let more = code_short rest bound given left unspent spends.0 marked arities spends.1.1.1 in omega (arith, more)
    code_short (Tokened.if_token y there absent) bound given left unspent held marked arities spends =
        let yes = code_short there bound given left unspent held marked arities spends.1.1.0 in
        let no = code_short absent bound given left unspent held
        (subst (HasMark table holds result bound given) (sym spends.1.0) marked) (subst HasArities (sym spends.1.0) arities)
        spends.1.1.1 in
        omega (arith, yes, no)

    arms_short : (arms : TokenedArms) (bound : List ℕ) (given : Bool) (left unspent : List ℕ)
        → HaveMark table holds result bound given (bare_arms arms) → HaveArities (bare_arms arms)
        → SpendAllTokens left unspent arms → tokened_arms_words arms ≤ tokened_arms_length arms
    arms_short TokenedArms.no_arm bound given left unspent marked arities spends = omega arith
    arms_short (TokenedArms.arm body rest) bound given left unspent marked arities spends =
        let one = code_short body bound given left unspent [] marked.0 arities.0 spends.0 in
        let more = arms_short rest bound given left unspent marked.1 arities.1 spends.1 in omega (arith, one, more)

-- functions whose words are no more than their lengths
all_short : (functions : List TokenedFunction)
    → ((f : ℕ) (function : TokenedFunction) → slice_get functions f ≡ Some function
    → tokened_words function.body ≤ tokened_length function.body)
    → most_parameters * length functions + all_tokened_words functions ≤ tokened_functions_length functions
all_short [] are = omega arith
all_short (function ∷ functions) are =
    let own = are 0 function refl in
    let more = all_short functions (λ f other is. are (suc f) other is) in omega (arith, own, more)

-- ---- strings

-- a form prints one string at most
prints_one : (form : Form) → prints_in_form form ≤ 1
prints_one (Number value) = omega arith
prints_one Nothing = omega arith
prints_one ReadByte = omega arith
prints_one (PrintText how text) = omega arith
prints_one (Unary operator) = omega arith
prints_one (Binary operator) = omega arith
prints_one (Print how) = omega arith
prints_one (Construct c) = omega arith
prints_one (Call f) = omega arith

-- a code has no more strings than forms on values
mutual
  prints_below : (code : Tokened) → tokened_prints code ≤ tokened_computes code
  prints_below (Tokened.give x) = omega arith
  prints_below (Tokened.tail_call f arguments) = omega arith
  prints_below (Tokened.case x decisions arms) = let bodies = arms_prints_below arms in omega (arith, bodies)
  prints_below (Tokened.compute x form arguments others rest) =
      let own = prints_one form in let more = prints_below rest in omega (arith, own, more)
  prints_below (Tokened.inside x block rest) =
      let part = prints_below block in let more = prints_below rest in omega (arith, part, more)
  prints_below (Tokened.read x c fields rest) = prints_below rest
  prints_below (Tokened.open_cell x c fields used y rest) = prints_below rest
  prints_below (Tokened.if_unique x c fields used y rest) = prints_below rest
  prints_below (Tokened.dup x rest) = prints_below rest
  prints_below (Tokened.drop x rest) = prints_below rest
  prints_below (Tokened.fill x y c first arguments kept others rest) = prints_below rest
  prints_below (Tokened.free y rest) = prints_below rest
  prints_below (Tokened.null y rest) = prints_below rest
  prints_below (Tokened.move to of rest) = prints_below rest
  prints_below (Tokened.hold y rest) = prints_below rest
  prints_below (Tokened.unhold y rest) = prints_below rest
  prints_below (Tokened.if_token y there absent) =
      let yes = prints_below there in let no = prints_below absent in omega (arith, yes, no)

  arms_prints_below : (arms : TokenedArms) → tokened_arms_prints arms ≤ tokened_arms_computes arms
  arms_prints_below TokenedArms.no_arm = omega arith
  arms_prints_below (TokenedArms.arm body rest) =
      let one = prints_below body in let more = arms_prints_below rest in omega (arith, one, more)

all_prints_below : (functions : List TokenedFunction) → all_tokened_prints functions ≤ all_tokened_computes functions
all_prints_below [] = omega arith
all_prints_below (function ∷ functions) =
    let one = prints_below function.body in let more = all_prints_below functions in omega (arith, one, more)

-- ---- programs

pub tokened_programs_short : (shape : Shape) (code : TokenedProgram) (texts : List (List ℕ)) (each : List Lines)
    → AreLowerable (table_of shape) (bare_program code).functions → AreTokensSpent code
    → IsTokenedForm shape code.texts code.functions each texts → IsNarrow (layout_in shape)
    → (functions_length each ≤ tokened_functions_length code.functions)
    × (length (all_bytes texts) ≤ most_print * all_tokened_computes code.functions)
tokened_programs_short shape code texts each lowerable spends form narrow =
    let words = tokened_programs_few shape code texts each lowerable spends form in
    let lengths = all_short code.functions short in
    let prints = all_prints_below code.functions in
    let bytes = form.few_bytes in
    (omega (arith, words, lengths), omega (arith, prints, bytes))
  where
    short : (f : ℕ) (function : TokenedFunction) → slice_get code.functions f ≡ Some function
        → tokened_words function.body ≤ tokened_length function.body
    short f function is =
        let one = form.lowered f function is in
        let may = lowerable f (bare_function function) (bare_at code.functions f function is) in
        code_short one.2.lowered.holds (table_of shape) narrow.few (result_mark (table_of shape) f) function.body
        (numbers_from 0 function.parameters) (result_mark (table_of shape) f) [] [] [] one.2.marked.body_marked may.arities
        (spends f function is)
