-- The assembler code of code with tokens takes few words: no more than that code tells, and those of its strings fewer.
use Rattle.std.proofs.Common.{◌≡◌, ℕ, suc, ◌+◌, ◌*◌, ◌≤◌, inl, inr, false, List, [], ◌∷◌, length, Some, None, Option}
use Rattle.std.proofs.Common.{refl, sym, ap, subst, arith}
use Rattle.std.specs.Prelude.{slice_get}
use Rattle.kk_core.specs.Decisions.{NodeTree}
use Rattle.kk_core.specs.CaseLengths.{tests_length}
use Rattle.kk_core.specs.CodeNodes.{form_words, string_words, case_words}
use Rattle.kk_core.specs.Sizes.{most_parameters}
use Rattle.kk_counted.specs.BareForms.{bare, bare_arms, bare_function, bare_program}
use Rattle.kk_counted.specs.Lowerable.{HasArity, HasArities, HaveArities, IsLowerable, AreLowerable}
use Rattle.kk_counted.specs.Marks.{CellMarks}
use Rattle.kk_syntax.specs.declared.program.Form.{Form}
use Rattle.kk_syntax.specs.declared.program.Form.TheVariants.{Number, Unit as Nothing, ReadByte, PrintText, Unary, Binary, Print}
use Rattle.kk_syntax.specs.declared.program.Form.TheVariants.{Construct, Call}
use Rattle.kk_syntax.specs.Shapes.{without}
use Rattle.kk_counted.specs.TokenLengths.{other_length}
use Rattle.kk_counted.specs.TokenedWords.{tokened_words, tokened_arms_words, prints_in_form, tokened_prints, tokened_arms_prints}
use Rattle.kk_counted.specs.TokenedWords.{all_tokened_prints, all_tokened_words}
use Rattle.kk_counted.specs.TokenSpending.{SpendsTokens, SpendAllTokens, AreTokensSpent}
use Rattle.kk_counted.specs.TokenedCodes.{Tokened, TokenedArms, TokenedFunction, TokenedProgram}
use Rattle.kk_counted.specs.declared.shape.Shape.{Shape}
use Rattle.rv_isa.specs.declared.asm.Action.TheVariants.{Label}
use Rattle.rv_isa.specs.AsmCode.{Line, Lines}
use Rattle.rv_isa.specs.Costs.{code_length, functions_length}
use Rattle.rv_lower.specs.Lines.{Texts, acts}
use Rattle.rv_lower.specs.Lowered.{Goal, returns, joins}
use Rattle.rv_lower.specs.Written.{texts_of}
use Rattle.rv_lower.proofs.Functions.{from_to_length}
use Rattle.rv_cells.specs.CellLines.{dup_lines, drop_lines}
use Rattle.rv_cells.specs.declared.compare.Branching.{Branching}
use Rattle.rv_cells.specs.ComparisonBranch.{branch_of}
use Rattle.rv_cells.specs.CountedLines.{Setting, ways_of}
use Rattle.rv_cells.specs.Layout.{Layout, header_of}
use Rattle.rv_cells.specs.Tables.{table_of, layout_in}
use Rattle.rv_cells.specs.TokenedLines.{CodeLines, values_of_slots, header_stands, count_stands, AskLines, OwnLines, CaseLines, LinesBehind}
use Rattle.rv_cells.specs.TokenedLines.{ArmsLines, IsFunctionOf}
use Rattle.rv_cells.specs.TokenedLowered.{IsTokenedForm}
use Rattle.rv_cells.proofs.FormLengths.{lines_append, dup_length, drop_length, token_unique_length, fill_length}
use Rattle.rv_cells.proofs.FormLengths.{goal_length, tail_length, form_few}
use Rattle.rv_cells.proofs.ReadingLines.{reads_length}
use Rattle.rv_cells.proofs.TestLengths.{nodes_short}
use Rattle.rv_cells.proofs.AskedForms.{ask_either}
use Rattle.rv_cells.proofs.TokenFormedFunctions.{bare_at}

-- each slot has its value
values_many : (variables : ℕ) (slots : List ℕ) → length (values_of_slots variables slots) ≡ length slots
values_many variables [] = omega arith
values_many variables (y ∷ slots) = let more = values_many variables slots in omega (arith, more)

-- the words of a form have room for those of its string
string_fits : (form : Form) (arguments : List ℕ) → string_words * prints_in_form form ≤ form_words form arguments
string_fits (Number value) arguments = omega arith
string_fits Nothing arguments = omega arith
string_fits ReadByte arguments = omega arith
string_fits (PrintText how text) arguments = omega arith
string_fits (Unary operator) arguments = omega arith
string_fits (Binary operator) arguments = omega arith
string_fits (Print how) arguments = omega arith
string_fits (Construct c) arguments = omega arith
string_fits (Call f) arguments = omega arith

module _ (setting : Setting) (variables : ℕ) where
  -- Lines are few for a code: they and its strings take no more words than it tells. How the code spends its tokens tells that both
  -- copies behind a test of a token have the same bare form.
  abbrev AreFew : Tokened → List Line → Type 0
  AreFew code lines = code_length lines + string_words * tokened_prints code ≤ tokened_words code

  -- the lines of a form on values, also where it asks for a cell while other tokens are held
  ask_few : (low x : ℕ) (form : Form) (arguments others : List ℕ) (own : List Line) (middle : ℕ) → HasArity form arguments
      → AskLines setting variables low x form arguments others own middle
      → code_length own + string_words * prints_in_form form ≤ form_words form arguments + other_length * length others
  ask_few low x form arguments others own middle arity is =
      elim (ask_either setting variables low x form arguments others own middle is) [
        | inl plain ↦ (let few = form_few setting x form arguments own arity plain.0 in omega (arith, few))
        | inr asks ↦ (
            let whole = ap code_length asks.own_is in
            let values = values_many variables others in
            let fill = fill_length setting.base x x (values_of_slots variables others) low (header_of setting.layout asks.made_by)
            arguments [] false false asks.fill asks.fills in
            let words = ap (λ (f : Form). form_words f arguments) asks.form_is in
            let prints = ap prints_in_form asks.form_is in
            let more = ap (form_words (Construct asks.made_by)) asks.arguments_are in
            let count = ap (λ (ys : List ℕ). length ys) asks.arguments_are in
            omega (arith, whole, values, fill, words, prints, more, count)
            )
      ]

  -- so are they where the case behind a comparison does its work, and is a branch then
  own_few : (branch : Option Branching) (low x : ℕ) (form : Form) (arguments others : List ℕ) (own : List Line) (middle : ℕ)
      → HasArity form arguments → OwnLines branch setting variables low x form arguments others own middle
      → code_length own + string_words * prints_in_form form ≤ form_words form arguments + other_length * length others
  own_few None low x form arguments others own middle arity is = ask_few low x form arguments others own middle arity is
  own_few (Some branch) low x form arguments others own middle arity is =
      let whole = ap code_length is.0 in
      let fits = string_fits form arguments in omega (arith, whole, fits)

  choice_few : (branch : Option Branching) (nodes arms x : ℕ) (decisions : List NodeTree) (choice : List Line)
      → CaseLines branch setting nodes arms x decisions choice → code_length choice ≤ tests_length decisions + case_words
  choice_few None nodes arms x decisions choice is =
      let short = nodes_short setting.layout setting.base nodes (ways_of decisions nodes arms) x 0 decisions choice is in
      omega (arith, short)
  choice_few (Some branch) nodes arms x decisions choice is = let whole = ap code_length is in omega (arith, whole)

  -- the lines of an opening and those of the code behind it are few, however many tokens are left then
  opening_few : (x c : ℕ) (fields used : List ℕ) (y : ℕ) (rest : Tokened) (goal : Goal) (low high : ℕ) (lines : List Line)
      → (is : CodeLines setting variables goal low (Tokened.open_cell x c fields used y rest) lines high) → AreFew rest is.1
      → AreFew (Tokened.open_cell x c fields used y rest) lines
  opening_few x c fields used y rest goal low high lines is more =
      let whole = ap code_length is.4 in
      let apart = lines_append is.0 is.1 in
      let own = token_unique_length setting.holds setting.base low (low + 1) (low + 2) x fields used (variables + y) is.2.0
      is.0 is.2.2 in
      omega (arith, whole, apart, own, more)

  mutual
    code_few : (branch : Option Branching) (code : Tokened) (goal : Goal) (low high : ℕ) (lines : List Line)
        (left unspent held : List ℕ) → HasArities (bare code) → SpendsTokens left unspent held code
        → LinesBehind branch setting variables goal low code lines high → AreFew code lines
    code_few branch (Tokened.give x) goal low high lines left unspent held arities spends is =
        let whole = ap code_length is.0 in
        let own = goal_length goal x in omega (arith, whole, own)
    code_few branch (Tokened.tail_call f arguments) goal low high lines left unspent held arities spends is =
        let whole = ap code_length is.0 in
        let own = tail_length setting.base f arguments in omega (arith, whole, own)
    code_few branch (Tokened.case x decisions arms) goal low high lines left unspent held arities spends is =
        let whole = ap code_length is.6 in
        let apart = lines_append is.0 is.1 in
        let choice = choice_few branch is.2 low x decisions is.0 is.4 in
        let bodies = arms_few arms goal low (is.2 + length decisions) high is.1 left unspent arities spends.1 is.5 in
        omega (arith, whole, apart, choice, bodies)
    code_few branch (Tokened.compute x form arguments others rest) goal low high lines left unspent held arities spends is =
        let whole = ap code_length is.7 in
        let apart = lines_append is.0 is.1 in
        let comes = branch_of form arguments is.3 in
        let own = own_few comes low x form arguments others is.0 is.2 arities.0 is.4 in
        let more = code_few comes rest goal is.2 high is.1 left unspent held arities.1 spends.1 is.5 in
        omega (arith, whole, apart, own, more)
    code_few branch (Tokened.inside x block rest) goal low high lines left unspent held arities spends is =
        let whole = ap code_length is.5 in
        let apart = lines_append is.0 (acts (Label low) [] ∷ is.1) in
        let part = code_few None block (joins x low) (low + 1) is.2 is.0 spends.0 unspent [] arities.0 spends.1.1.0 is.3 in
        let more = code_few None rest goal is.2 high is.1 left spends.0 [] arities.1 spends.1.1.1 is.4 in
        omega (arith, whole, apart, part, more)
    code_few branch (Tokened.read x c fields rest) goal low high lines left unspent held arities spends is =
        let whole = ap code_length is.4 in
        let apart = lines_append is.0 is.1 in
        let own = reads_length x fields is.0 is.2 in
        let more = code_few None rest goal low high is.1 left unspent [] arities spends.1 is.3 in
        omega (arith, whole, apart, own, more)
    code_few branch (Tokened.open_cell x c fields used y rest) goal low high lines left unspent held arities spends is =
        opening_few x c fields used y rest goal low high lines is
        (code_few None rest goal (low + 2) high is.1 left (y ∷ unspent) [] arities spends.1.1 is.3)
    code_few branch (Tokened.if_unique x c fields used y rest) goal low high lines left unspent held arities spends is =
        opening_few x c fields used y rest goal low high lines is
        (code_few None rest goal (low + 2) high is.1 left (y ∷ unspent) [] arities spends.1.1 is.3)
    code_few branch (Tokened.dup x rest) goal low high lines left unspent held arities spends is =
        let whole = ap code_length is.2 in
        let apart = lines_append (dup_lines setting.holds x) is.0 in
        let own = dup_length setting.holds x in
        let more = code_few None rest goal low high is.0 left unspent [] arities spends.1 is.1 in
        omega (arith, whole, apart, own, more)
    code_few branch (Tokened.drop x rest) goal low high lines left unspent held arities spends is =
        let whole = ap code_length is.2 in
        let apart = lines_append (drop_lines setting.holds x) is.0 in
        let own = drop_length setting.holds x in
        let more = code_few branch rest goal low high is.0 left unspent held arities spends is.1 in
        omega (arith, whole, apart, own, more)
    code_few branch (Tokened.fill x y c first arguments kept others rest) goal low high lines left unspent held arities spends is =
        let whole = ap code_length is.4 in
        let apart = lines_append is.0 is.1 in
        let values = values_many variables others in
        let own = fill_length setting.base x (variables + y) (values_of_slots variables others) low (header_of setting.layout c)
        (first ∷ arguments) kept (header_stands setting.standing c) (count_stands setting.standing) is.0 is.2 in
        let more = code_few None rest goal (low + 1) high is.1 left (without (y ∷ []) unspent) [] arities.1
        spends.1.1.1.1 is.3 in
        omega (arith, whole, apart, values, own, more)
    code_few branch (Tokened.free y rest) goal low high lines left unspent held arities spends is =
        let whole = ap code_length is.2 in
        let more = code_few None rest goal low high is.0 left (without (y ∷ []) unspent) [] arities spends.1.1 is.1 in
        omega (arith, whole, more)
    code_few branch (Tokened.null y rest) goal low high lines left unspent held arities spends is =
        let whole = ap code_length is.2 in
        let more = code_few None rest goal low high is.0 left (y ∷ unspent) [] arities spends.1.1 is.1 in
        omega (arith, whole, more)
    code_few branch (Tokened.move to of rest) goal low high lines left unspent held arities spends is =
        let whole = ap code_length is.2 in
        let more = code_few None rest goal low high is.0 left (to ∷ without (of ∷ []) unspent) [] arities spends.1.1.1 is.1 in
        omega (arith, whole, more)
    code_few branch (Tokened.hold y rest) goal low high lines left unspent held arities spends is =
        let whole = ap code_length is.2 in
        let more = code_few None rest goal low high is.0 left unspent (y ∷ held) arities spends.1.1 is.1 in
        omega (arith, whole, more)
    code_few branch (Tokened.unhold y rest) goal low high lines left unspent held arities spends is =
        let whole = ap code_length is.2 in
        let more = code_few None rest goal low high is.0 left unspent spends.0 arities spends.1.1.1 is.1 in
        omega (arith, whole, more)
    code_few branch (Tokened.if_token y there absent) goal low high lines left unspent held arities spends is =
        let whole = ap code_length is.5 in
        let ways = lines_append is.0 (acts (Label low) [] ∷ is.1) in
        let yes = code_few None there goal (low + 1) is.2 is.0 left unspent held arities spends.1.1.0 is.3 in
        let no = code_few None absent goal is.2 high is.1 left unspent held
        (subst HasArities (sym spends.1.0) arities) spends.1.1.1 is.4 in
        omega (arith, whole, ways, yes, no)

    arms_few : (arms : TokenedArms) (goal : Goal) (label low high : ℕ) (lines : List Line) (left unspent : List ℕ)
        → HaveArities (bare_arms arms) → SpendAllTokens left unspent arms
        → ArmsLines setting variables goal label low arms lines high
        → code_length lines + string_words * tokened_arms_prints arms ≤ tokened_arms_words arms
    arms_few TokenedArms.no_arm goal label low high lines left unspent arities spends is =
        let whole = ap code_length is.0 in omega (arith, whole)
    arms_few (TokenedArms.arm body rest) goal label low high lines left unspent arities spends is =
        let whole = ap code_length is.5 in
        let apart = lines_append is.0 is.1 in
        let one = code_few None body goal low is.2 is.0 left unspent [] arities.0 spends.0 is.3 in
        let more = arms_few rest goal (label + 1) is.2 high is.1 left unspent arities.1 spends.1 is.4 in
        omega (arith, whole, apart, one, more)

-- ---- functions

-- A function's lines and its strings take a word for each parameter that it may have, and those of its body.
function_few : (layout : Layout) (texts : Texts) (table : CellMarks) (f : ℕ) (function : TokenedFunction) (lines : Lines)
    → IsLowerable table f (bare_function function) → SpendsTokens [] [] [] function.body
    → IsFunctionOf layout texts table f function lines
    → length lines.params + code_length lines.code + string_words * tokened_prints function.body
    ≤ most_parameters + tokened_words function.body
function_few layout texts table f function lines may spends is =
    let base : ℕ = is.lowered.variables + is.lowered.slots in
    let setting : Setting
    = record { layout = layout; holds = is.lowered.holds; base = base; texts = texts; standing = is.lowered.standing } in
    let params = ap (λ (xs : List ℕ). length xs) is.lowered.params in
    let many = from_to_length 0 function.parameters in
    let few = may.few_parameters in
    let body = code_few setting is.lowered.variables None function.body returns 0 is.lowered.labels lines.code [] [] [] may.arities
    spends is.lowered.code in
    omega (arith, params, many, few, body)

-- functions each of which by its number takes few words
all_few : (functions : List TokenedFunction) (each : List Lines) → length each ≡ length functions
    → ((f : ℕ) (function : TokenedFunction) → slice_get functions f ≡ Some function
    → (lines : Lines) × ((slice_get each f ≡ Some lines)
    × (length lines.params + code_length lines.code + string_words * tokened_prints function.body
    ≤ most_parameters + tokened_words function.body)))
    → functions_length each + string_words * all_tokened_prints functions
    ≤ most_parameters * length functions + all_tokened_words functions
all_few [] [] same are = omega arith
all_few [] (lines ∷ each) same are = absurd (omega (arith, same))
all_few (function ∷ functions) [] same are = absurd (omega (arith, same))
all_few (function ∷ functions) (lines ∷ each) same are =
    let own = are 0 function refl in
    let one = subst (λ (other : Lines). length other.params + code_length other.code + string_words * tokened_prints function.body
    ≤ most_parameters + tokened_words function.body) (found own.0 own.1.0) own.1.1 in
    let more = all_few functions each (omega (arith, same)) (λ f other is. are (suc f) other is) in omega (arith, one, more)
  where
    found : (other : Lines) → Some lines ≡ Some other → other ≡ lines
    found other is = grind (arith, is)

-- the lines and the strings of a program's functions take few words
pub tokened_programs_few : (shape : Shape) (code : TokenedProgram) (texts : List (List ℕ)) (each : List Lines)
    → AreLowerable (table_of shape) (bare_program code).functions → AreTokensSpent code
    → IsTokenedForm shape code.texts code.functions each texts
    → functions_length each + string_words * all_tokened_prints code.functions
    ≤ most_parameters * length code.functions + all_tokened_words code.functions
tokened_programs_few shape code texts each lowerable spends form = all_few code.functions each form.as_many few
  where
    few : (f : ℕ) (function : TokenedFunction) → slice_get code.functions f ≡ Some function
        → (lines : Lines) × ((slice_get each f ≡ Some lines)
        × (length lines.params + code_length lines.code + string_words * tokened_prints function.body
        ≤ most_parameters + tokened_words function.body))
    few f function is =
        let one = form.lowered f function is in
        let own = function_few (layout_in shape) (texts_of code.texts texts) (table_of shape) f function one.0
        (lowerable f (bare_function function) (bare_at code.functions f function is)) (spends f function is) one.2 in
        (one.0, (one.1, own))
