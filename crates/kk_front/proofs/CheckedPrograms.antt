-- An accepted program is checked.
use Rattle.std.proofs.Common.{◌≡◌, ℕ, zero, suc, List, [], ◌∷◌, ◌++◌, map, length, Option, Some, None, refl, ap, ◌∙◌, subst, sym}
use Rattle.std.specs.Prelude.{Ok, slice_get, codes}
use Rattle.std.proofs.lemmas.Option.{same_Some}
use Rattle.kk_syntax.specs.Checked.{HasMainFunction, IsChecked}
use Rattle.kk_syntax.specs.Covered.{Each}
use Rattle.kk_syntax.specs.Matches.{IsFunctionCovered}
use Rattle.kk_syntax.specs.Programs.{FunctionTree, ProgramTree}
use Rattle.kk_syntax.specs.Surface as written
use Rattle.kk_syntax.specs.Surface.{WrittenDeclaration, type_declaration, function_declaration, WrittenParameter, WrittenTree, WrittenType}
use Rattle.kk_syntax.specs.Types.{unit_type}
use Rattle.kk_syntax.specs.Typing.{Choice, variables_of_type, ArePrincipal}
use Rattle.kk_names.specs.declared.table.TypeMeaning.{TypeMeaning}
use Rattle.kk_names.specs.Faults.{variable_faults, named_faults, types_count, types_faults, parameter_faults, result_faults, faults_in, second_names, faults_in_types, faults_in_function, faults_in_functions, faults_of}
use Rattle.kk_names.specs.Scopes.{parameter_names}
use Rattle.kk_names.specs.Tables.{Known, known_in, type_in, type_names, constructor_names, function_names}
use Rattle.kk_names.specs.TypeNames.{place_of, variable_type, numbered_type, applied_type, type_meant, types_meant, result_meant, signature_variables}
use Rattle.kk_names.specs.Names.{HasMain, HasTruthsAndTexts, ResolvesAs, ResolvedProgramsHaveMain, ResolvedProgramsHaveTruthsAndTexts, functions_of, function_of, with_texts}
use Rattle.kk_front.specs.Judgement.{IsProgramOf}
use Rattle.kk_front.proofs.AcceptedPrograms.{found}

-- ---- neither `bool` nor `main` has type variables

bool_closed : (tree : WrittenTree) (program : ProgramTree) → ResolvesAs tree (Ok program) → variables_of_type (slice_get program.types 0) ≡ 0
bool_closed tree program resolved =
    subst (λ (p : ProgramTree). variables_of_type (slice_get p.types 0) ≡ 0) (sym resolved.makes.is) refl

front_none : {X : Type 0} (xs ys : List X) → xs ++ ys ≡ [] → xs ≡ []
front_none [] ys none = refl
front_none (x ∷ xs) ys none = absurd (cc)

back_none : {X : Type 0} (xs ys : List X) → xs ++ ys ≡ [] → ys ≡ []
back_none [] ys none = none
back_none (x ∷ xs) ys none = absurd (cc)

-- a result that is written without fault and means `()` names empty type variable
result_closed : (known : Known) (result : Option WrittenType) → result_faults known (signature_variables [] result) result ≡ []
    → result_meant known (signature_variables [] result) result ≡ unit_type → length (signature_variables [] result) ≡ 0
result_closed known None none is = refl
result_closed known (Some written.unit_type) none is = refl
result_closed known (Some (written.type_variable name)) none is =
    by (place_of (signature_variables [] (Some (written.type_variable name))) name.name) none is
  where
    by : (o : Option ℕ) → variable_faults o name ≡ [] → variable_type o ≡ unit_type
        → length (signature_variables [] (Some (written.type_variable name))) ≡ 0
    by None empty is_unit = absurd (cc)
    by (Some of) empty is_unit = absurd (cc)
result_closed known (Some (written.named name arguments)) none is =
    by (type_in known.types name.name)
    (back_none (types_faults known (signature_variables [] (Some (written.named name arguments))) arguments)
    (named_faults (type_in known.types name.name) name (types_count arguments)) none) is
  where
    by : (o : Option TypeMeaning) → named_faults o name (types_count arguments) ≡ []
        → applied_type o (types_meant known (signature_variables [] (Some (written.named name arguments))) arguments) ≡ unit_type
        → length (signature_variables [] (Some (written.named name arguments))) ≡ 0
    by None empty is_unit = absurd (cc)
    by (Some meaning) empty is_unit = numbered meaning.number is_unit
      where
        numbered : (n : Option ℕ)
            → numbered_type n (types_meant known (signature_variables [] (Some (written.named name arguments))) arguments) ≡ unit_type
            → length (signature_variables [] (Some (written.named name arguments))) ≡ 0
        numbered None is_int = absurd (cc)
        numbered (Some by) is_named = absurd (cc)

signature_closed : (known : Known) (parameters : List WrittenParameter) (result : Option WrittenType)
    → result_faults known (signature_variables parameters result) result ≡ []
    → map (λ (p : WrittenParameter). type_meant known (signature_variables parameters result) p.of_type) parameters ≡ []
    → result_meant known (signature_variables parameters result) result ≡ unit_type → length (signature_variables parameters result) ≡ 0
signature_closed known [] result none empty is = result_closed known result none is
signature_closed known (p ∷ parameters) result none empty is = absurd (cc)

main_closed : (known : Known) (texts : List (List ℕ)) (declarations : List WrittenDeclaration) (f : ℕ) (function : FunctionTree)
    → faults_in_functions known declarations ≡ [] → slice_get (functions_of known texts declarations) f ≡ Some function
    → function.parameters ≡ [] → function.result ≡ unit_type → function.variables ≡ 0
main_closed known texts [] f function none there empty is = absurd (cc)
main_closed known texts (type_declaration name parameters constructors ∷ more) f function none there empty is =
    main_closed known texts more f function none there empty is
main_closed known texts (function_declaration name parameters effects result body ∷ more) zero function none there empty is =
    let same : function_of known texts name parameters result body ≡ function =
    same_Some (function_of known texts name parameters result body) function there in
    let inside = front_none (faults_in_function known (function_declaration name parameters effects result body)) (faults_in_functions known more) none in
    let behind = back_none (parameter_faults known (signature_variables parameters result) [] parameters)
    (result_faults known (signature_variables parameters result) result ++ faults_in known (parameter_names parameters []) body) inside in
    ap (λ (g : FunctionTree). g.variables) (sym same)
    ∙ signature_closed known parameters result
    (front_none (result_faults known (signature_variables parameters result) result) (faults_in known (parameter_names parameters []) body) behind)
    (ap (λ (g : FunctionTree). g.parameters) same ∙ empty) (ap (λ (g : FunctionTree). g.result) same ∙ is)
main_closed known texts (function_declaration name parameters effects result body ∷ more) (suc f) function none there empty is =
    main_closed known (with_texts texts (function_declaration name parameters effects result body)) more f function
    (back_none (faults_in_function known (function_declaration name parameters effects result body)) (faults_in_functions known more) none) there empty is

-- a program without faults has none inside of its functions
no_faults_inside : (declarations : List WrittenDeclaration) → faults_of declarations ≡ [] → faults_in_functions (known_in declarations) declarations ≡ []
no_faults_inside declarations none =
    let known = known_in declarations in
    let functions = faults_in_functions known declarations in
    let inside = faults_in_types known declarations ++ functions in
    let of_functions = second_names (codes "print" ∷ codes "println" ∷ codes "read-byte" ∷ []) (function_names declarations) in
    let of_constructors = second_names (codes "False" ∷ codes "True" ∷ []) (constructor_names declarations) in
    let of_types = second_names (codes "int32" ∷ codes "bool" ∷ []) (type_names declarations) in
    back_none (faults_in_types known declarations) functions
    (back_none of_functions inside
    (back_none of_constructors (of_functions ++ inside)
    (back_none of_types (of_constructors ++ (of_functions ++ inside)) none)))

-- ---- the whole

module _ (program : ProgramTree) (tree : WrittenTree) (resolved : ResolvesAs tree (Ok program)) where
  main_function : HasMain program → HasMainFunction program
  main_function main =
      record {
        function = main.function;
        is = main.there;
        variables = main_closed (known_in tree.declarations) [] tree.declarations program.main main.function
            (no_faults_inside tree.declarations resolved.faults)
            (subst (λ (p : ProgramTree). slice_get p.functions program.main ≡ Some main.function) resolved.makes.is main.there)
            main.parameters main.result;
        parameters = main.parameters;
        result = main.result;
      }

  program_checked : Each (IsFunctionCovered program) program.functions → HasMain program → HasTruthsAndTexts program → (typings : List (List Choice)) → ArePrincipal program typings
      → IsChecked program typings
  program_checked covered main whole typings are =
      record {
        as_many = are.length;
        typed = λ f function choices there chosen. (are.each f function choices there chosen).typing;
        covered = covered;
        texts = whole.texts;
        bool = bool_closed tree program resolved;
        truths = whole.truths;
        main = main_function main;
      }

pub checked : ResolvedProgramsHaveMain → ResolvedProgramsHaveTruthsAndTexts → (text : List ℕ) (program : ProgramTree)
    (typings : List (List Choice)) → IsProgramOf text program → ArePrincipal program typings → IsChecked program typings
checked mains whole text program typings h are =
    let facts = found text program h in
    program_checked program facts.tree facts.resolved facts.covered (mains facts.tree program facts.resolved)
    (whole facts.tree program facts.resolved) typings are

-- a program that is typed and covered, as it was resolved
pub checked_of : ResolvedProgramsHaveMain → ResolvedProgramsHaveTruthsAndTexts → (program made : ProgramTree) (tree : WrittenTree)
    → ResolvesAs tree (Ok program) → made ≡ program → Each (IsFunctionCovered made) made.functions
    → (typings : List (List Choice)) → ArePrincipal made typings → IsChecked made typings
checked_of mains whole program made tree resolved same covered typings are =
    let of_made = subst (λ (p : ProgramTree). ResolvesAs tree (Ok p)) (sym same) resolved in
    program_checked made tree of_made covered (mains tree made of_made) (whole tree made of_made) typings are
