-- Each string literal that a resolved program prints is one of its own; and its first type is `bool`, as it must be.
use Rattle.std.proofs.Common.{◌≡◌, ◌≤◌, ◌<◌, ◌+◌, ℕ, List, [], ◌∷◌, ◌++◌, length, length-append, Bool, true, false, Option, Some, None, bytes_eq, refl, sym, subst, ◌∙◌, arith}
use Rattle.std.specs.Prelude.{if◌then◌else◌}
use Rattle.kk_syntax.specs.declared.tree.SurfaceBinder.{SurfaceBinder}
use Rattle.kk_syntax.specs.declared.tree.SurfaceBinder.TheVariants as OfSurface
use Rattle.kk_syntax.specs.Checked.{printed_by, of_texts, printed}
use Rattle.kk_syntax.specs.Covered.{Each}
use Rattle.kk_syntax.specs.Programs.{FunctionTree}
use Rattle.kk_syntax.specs.Shapes.{gathered_all, gathered_rows}
use Rattle.kk_syntax.specs.Surface.{WrittenPattern, anything, pattern_variable, exactly, constructor, WrittenPatterns, no_part, part, Written, number, unit, variable, call, dot_call, construct, unary, binary, both, either, print_text, branch, branch_alone, match, sequence, Writtens, no_written, written, WrittenRows, no_row, row, WrittenConstructor, WrittenDeclaration, type_declaration, function_declaration}
use Rattle.kk_syntax.specs.Trees.{Trees}
use Rattle.kk_syntax.proofs.Elements.{each_both}
use Rattle.kk_names.specs.declared.table.Callee.{Callee}
use Rattle.kk_names.specs.declared.table.Declared.{Declared}
use Rattle.kk_names.specs.Expressions.{applied, variable_or_unit, meant, meant_all, meant_rows}
use Rattle.kk_names.specs.Names.{before_body, with_texts, with_all_texts, functions_of, constructors_of, texts_meant, HasTruthsAndTexts, ResolvedProgramsHaveTruthsAndTexts}
use Rattle.kk_names.specs.Scopes.{Scope, number_in, with_parameters, with_binder, in_row, Before, past_binder, past_pattern, past_parts, past, past_all, past_rows}
use Rattle.kk_names.specs.Tables.{Known, known_in, built_in_constructors, built_in_functions, cases_from, constructors_from, functions_from, meaning_in}
use Rattle.kk_names.proofs.Constructors.{truth, no_other, constructors_other}

-- ---- names

-- what a name means prints no string literal
abbrev ArePrintless : List Declared → Type 0
ArePrintless [] = Unit {0}
ArePrintless (declared ∷ more) = (printed_by declared.callee.form ≡ []) × ArePrintless more

abbrev IsPrintless : Option Callee → Type 0
IsPrintless None = Unit {0}
IsPrintless (Some callee) = printed_by callee.form ≡ []

printless_both : (xs ys : List Declared) → ArePrintless xs → ArePrintless ys → ArePrintless (xs ++ ys)
printless_both [] ys one more = more
printless_both (x ∷ xs) ys one more = (one.0, printless_both xs ys one.1 more)

functions_printless : (n : ℕ) (ds : List WrittenDeclaration) → ArePrintless (functions_from n ds)
functions_printless n [] = tt
functions_printless n (type_declaration name parameters cases ∷ more) = functions_printless n more
functions_printless n (function_declaration name parameters effects result body ∷ more) = (refl, functions_printless (n + 1) more)

cases_printless : (n : ℕ) (cases : List WrittenConstructor) → ArePrintless (cases_from n cases)
cases_printless n [] = tt
cases_printless n (case ∷ more) = (refl, cases_printless (n + 1) more)

constructors_printless : (n : ℕ) (ds : List WrittenDeclaration) → ArePrintless (constructors_from n ds)
constructors_printless n [] = tt
constructors_printless n (type_declaration name parameters cases ∷ more) =
    printless_both (cases_from n cases) (constructors_from (n + length cases) more) (cases_printless n cases) (constructors_printless (n + length cases) more)
constructors_printless n (function_declaration name parameters effects result body ∷ more) = constructors_printless n more

meaning_printless : (names : List Declared) (name : List ℕ) → ArePrintless names → IsPrintless (meaning_in names name)
meaning_printless [] name printless = tt
meaning_printless (declared ∷ more) name printless = by (bytes_eq declared.name name) (meaning_printless more name printless.1)
  where
    by : (same : Bool) → IsPrintless (meaning_in more name)
        → IsPrintless (if same then Some declared.callee else meaning_in more name)
    by true later = printless.0
    by false later = later

-- ---- what stands before an expression

binder_texts : (binder : SurfaceBinder) (before : Before) → (past_binder binder before).texts ≡ before.texts
binder_texts OfSurface.Nothing before = refl
binder_texts OfSurface.Wildcard before = refl
binder_texts (OfSurface.Variable name) before = refl

mutual
  pattern_texts : (p : WrittenPattern) (before : Before) → (past_pattern p before).texts ≡ before.texts
  pattern_texts anything before = refl
  pattern_texts (pattern_variable name) before = refl
  pattern_texts (exactly value) before = refl
  pattern_texts (constructor name parts) before = parts_texts parts before

  parts_texts : (ps : WrittenPatterns) (before : Before) → (past_parts ps before).texts ≡ before.texts
  parts_texts no_part before = refl
  parts_texts (part first rest) before = parts_texts rest (past_pattern first before) ∙ pattern_texts first before

abbrev count : Before → ℕ
count before = length before.texts

binder_count : (binder : SurfaceBinder) (before : Before) → count (past_binder binder before) ≡ count before
binder_count binder before = let same = binder_texts binder before in cc

pattern_count : (p : WrittenPattern) (before : Before) → count (past_pattern p before) ≡ count before
pattern_count p before = let same = pattern_texts p before in cc

mutual
  longer : (w : Written) (before : Before) → count before ≤ count (past w before)
  longer (number value) before = omega arith
  longer unit before = omega arith
  longer (variable name) before = omega arith
  longer (call name arguments) before = all_longer arguments before
  longer (dot_call first name others) before =
      let one = longer first before in
      let more = all_longer others (past first before) in
      omega (arith, one, more)
  longer (construct name arguments) before = all_longer arguments before
  longer (unary operator operand) before = longer operand before
  longer (binary operator left right) before =
      let one = longer left before in
      let more = longer right (past left before) in
      omega (arith, one, more)
  longer (both left right) before =
      let one = longer left before in
      let more = longer right (past left before) in
      omega (arith, one, more)
  longer (either left right) before =
      let one = longer left before in
      let more = longer right (past left before) in
      omega (arith, one, more)
  longer (print_text form text) before = let more = length-append before.texts (text ∷ []) in omega (arith, more)
  longer (branch condition positive negative) before =
      let one = longer condition before in
      let two = longer positive (past condition before) in
      let three = longer negative (past positive (past condition before)) in
      omega (arith, one, two, three)
  longer (branch_alone condition positive) before =
      let one = longer condition before in
      let two = longer positive (past condition before) in
      omega (arith, one, two)
  longer (match scrutinee rows) before =
      let one = longer scrutinee before in
      let more = rows_longer rows (past scrutinee before) in
      omega (arith, one, more)
  longer (sequence binder first rest) before =
      let same = binder_count binder before in
      let one = longer first (past_binder binder before) in
      let two = longer rest (past first (past_binder binder before)) in
      omega (arith, same, one, two)

  all_longer : (ws : Writtens) (before : Before) → count before ≤ count (past_all ws before)
  all_longer no_written before = omega arith
  all_longer (written first rest) before =
      let one = longer first before in
      let more = all_longer rest (past first before) in
      omega (arith, one, more)

  rows_longer : (rows : WrittenRows) (before : Before) → count before ≤ count (past_rows rows before)
  rows_longer no_row before = omega arith
  rows_longer (row pattern body rest) before =
      let same = pattern_count pattern before in
      let one = longer body (past_pattern pattern before) in
      let more = rows_longer rest (past body (past_pattern pattern before)) in
      omega (arith, same, one, more)

-- ---- expressions

-- each number is below a bound
abbrev AreBelow : ℕ → List ℕ → Type 0
AreBelow n = Each (λ text. text < n)

applied_prints : (n : ℕ) (meaning : Option Callee) (arguments : Trees) → IsPrintless meaning
    → AreBelow n (gathered_all of_texts arguments) → AreBelow n (printed (applied meaning arguments))
applied_prints n None arguments printless below = tt
applied_prints n (Some callee) arguments printless below =
    subst (λ (texts : List ℕ). AreBelow n (texts ++ gathered_all of_texts arguments)) (sym printless) below

variable_prints : (n : ℕ) (by : Option ℕ) → AreBelow n (printed (variable_or_unit by))
variable_prints n None = tt
variable_prints n (Some by) = tt

in_turn : (n : ℕ) (xs ys : List ℕ) → AreBelow n xs → AreBelow n ys → AreBelow n (xs ++ ys)
in_turn n = each_both (λ text. text < n)

module _ (known : Known) (calls : ArePrintless known.functions) (makers : ArePrintless known.constructors) (n : ℕ) where
  mutual
    tree_prints : (scope : Scope) (before : Before) (w : Written) → count (past w before) ≤ n
        → AreBelow n (printed (meant known scope before w))
    tree_prints scope before (number value) few = tt
    tree_prints scope before unit few = tt
    tree_prints scope before (variable name) few = variable_prints n (number_in scope name.name)
    tree_prints scope before (call name arguments) few =
        applied_prints n (meaning_in known.functions name.name) (meant_all known scope before arguments)
        (meaning_printless known.functions name.name calls) (trees_print scope before arguments few)
    tree_prints scope before (dot_call first name others) few =
        let more = all_longer others (past first before) in
        applied_prints n (meaning_in known.functions name.name) (meant_all known scope before (written first others))
        (meaning_printless known.functions name.name calls)
        (in_turn n _ _ (tree_prints scope before first (omega (arith, few, more))) (trees_print scope (past first before) others few))
    tree_prints scope before (construct name arguments) few =
        applied_prints n (meaning_in known.constructors name.name) (meant_all known scope before arguments)
        (meaning_printless known.constructors name.name makers) (trees_print scope before arguments few)
    tree_prints scope before (unary operator operand) few = in_turn n _ [] (tree_prints scope before operand few) tt
    tree_prints scope before (binary operator left right) few =
        in_turn n _ _ (tree_prints scope before left (let more = longer right (past left before) in omega (arith, few, more)))
        (in_turn n _ [] (tree_prints scope (past left before) right few) tt)
    tree_prints scope before (both left right) few =
        in_turn n _ _ (tree_prints scope before left (let more = longer right (past left before) in omega (arith, few, more)))
        (in_turn n _ [] (tree_prints scope (past left before) right few) tt)
    tree_prints scope before (either left right) few =
        in_turn n _ _ (tree_prints scope before left (let more = longer right (past left before) in omega (arith, few, more)))
        (tree_prints scope (past left before) right few)
    tree_prints scope before (print_text form text) few =
        ((let more = length-append before.texts (text ∷ []) in omega (arith, few, more)), tt)
    tree_prints scope before (branch condition positive negative) few =
        let two = longer positive (past condition before) in
        let three = longer negative (past positive (past condition before)) in
        in_turn n _ _ (tree_prints scope before condition (omega (arith, few, two, three)))
        (in_turn n _ _ (tree_prints scope (past condition before) positive (omega (arith, few, three)))
        (tree_prints scope (past positive (past condition before)) negative few))
    tree_prints scope before (branch_alone condition positive) few =
        let two = longer positive (past condition before) in
        in_turn n _ _ (tree_prints scope before condition (omega (arith, few, two)))
        (in_turn n _ [] (tree_prints scope (past condition before) positive few) tt)
    tree_prints scope before (match scrutinee rows) few =
        in_turn n _ _ (tree_prints scope before scrutinee (let more = rows_longer rows (past scrutinee before) in omega (arith, few, more)))
        (rows_print scope (past scrutinee before) rows few)
    tree_prints scope before (sequence binder first rest) few =
        let two = longer rest (past first (past_binder binder before)) in
        in_turn n _ _ (tree_prints scope (past_binder binder before) first (omega (arith, few, two)))
        (tree_prints (with_binder binder before.variables scope) (past first (past_binder binder before)) rest few)

    trees_print : (scope : Scope) (before : Before) (ws : Writtens) → count (past_all ws before) ≤ n
        → AreBelow n (gathered_all of_texts (meant_all known scope before ws))
    trees_print scope before no_written few = tt
    trees_print scope before (written first rest) few =
        in_turn n _ _ (tree_prints scope before first (let more = all_longer rest (past first before) in omega (arith, few, more)))
        (trees_print scope (past first before) rest few)

    rows_print : (scope : Scope) (before : Before) (rows : WrittenRows) → count (past_rows rows before) ≤ n
        → AreBelow n (gathered_rows of_texts (meant_rows known scope before rows))
    rows_print scope before no_row few = tt
    rows_print scope before (row pattern body rest) few =
        let behind = past body (past_pattern pattern before) in
        in_turn n _ _
        (tree_prints (in_row pattern before scope) (past_pattern pattern before) body (let more = rows_longer rest behind in omega (arith, few, more)))
        (rows_print scope behind rest few)

  -- ---- programs

  texts_longer : (ds : List WrittenDeclaration) (texts : List (List ℕ)) → length texts ≤ length (with_all_texts texts ds)
  texts_longer [] texts = omega arith
  texts_longer (type_declaration name parameters cases ∷ ds) texts = texts_longer ds texts
  texts_longer (function_declaration name parameters effects result body ∷ ds) texts =
      let one = longer body (before_body texts parameters) in
      let more = texts_longer ds (with_texts texts (function_declaration name parameters effects result body)) in
      omega (arith, one, more)

  functions_print : (ds : List WrittenDeclaration) (texts : List (List ℕ)) → length (with_all_texts texts ds) ≤ n
      → Each (λ (function : FunctionTree). AreBelow n (printed function.body)) (functions_of known texts ds)
  functions_print [] texts few = tt
  functions_print (type_declaration name parameters cases ∷ ds) texts few = functions_print ds texts few
  functions_print (function_declaration name parameters effects result body ∷ ds) texts few =
      let behind = with_texts texts (function_declaration name parameters effects result body) in
      let more = texts_longer ds behind in
      let first = tree_prints (with_parameters 0 parameters []) (before_body texts parameters) body (omega (arith, few, more)) in
      (first, functions_print ds behind few)

-- ---- the whole

pub resolved_programs_have_truths_and_texts : ResolvedProgramsHaveTruthsAndTexts
resolved_programs_have_truths_and_texts tree program resolved =
    let known = known_in tree.declarations in
    let others = constructors_of known 1 tree.declarations in
    subst HasTruthsAndTexts (sym resolved.makes.is) (record {
      truths = record {
        truths = truth others;
        no_others = no_other others (constructors_other known 1 tree.declarations (omega arith));
      };
      texts =
          functions_print known
          (printless_both built_in_functions (functions_from 0 tree.declarations) (refl, (refl, (refl, tt))) (functions_printless 0 tree.declarations))
          (printless_both built_in_constructors (constructors_from 2 tree.declarations) (refl, (refl, tt)) (constructors_printless 2 tree.declarations))
          (length (texts_meant tree.declarations)) tree.declarations [] (omega arith);
    })
