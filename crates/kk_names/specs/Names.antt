-- Which program a tree means, or why its names have no meaning.
use Rattle.std.specs.Prelude.{◌≡◌, ℕ, ◌+◌, ◌≤◌, List, [], ◌∷◌, ◌++◌, length, map, All, position, bytes_eq, codes, Option, Some, None, Result, Ok, Err, slice_get}
use Rattle.kk_base.specs.Exactly.{IsOnly, ExactlyOne}
use Rattle.kk_base.specs.declared.error.NameError.{NameError}
use Rattle.kk_base.specs.declared.error.NameError.TheVariants.{NoMain, MainShape, NoMemory}
use Rattle.kk_syntax.specs.declared.program.Fun.{Fun}
use Rattle.kk_syntax.specs.declared.program.Program.{Program}
use Rattle.kk_syntax.specs.declared.program.TypeDecl.{TypeDecl}
use Rattle.kk_syntax.specs.declared.tree.Declaration.{Declaration}
use Rattle.kk_syntax.specs.declared.tree.Identifier.{Identifier}
use Rattle.kk_syntax.specs.declared.tree.Tree.{Tree}
use Rattle.kk_syntax.specs.Checked.{PrintsTexts}
use Rattle.kk_syntax.specs.Covered.{Each}
use Rattle.kk_syntax.specs.Depths.{body_depth, depth_of}
use Rattle.kk_syntax.specs.GroundTyping.{HasTruths}
use Rattle.kk_syntax.specs.Programs.{ConstructorTree, FunctionTree, ProgramTree, program_tree}
use Rattle.kk_syntax.specs.Shapes.{nodes_of}
use Rattle.kk_syntax.specs.Surface.{Written, WrittenType, WrittenParameter, WrittenConstructor, WrittenDeclaration, type_declaration, function_declaration, WrittenTree, written_tree}
use Rattle.kk_syntax.specs.Types.{unit_type}
use Rattle.kk_syntax.specs.WrittenNodes.{nodes_in}
use Rattle.kk_names.specs.declared.fault.Fault.{Fault}
use Rattle.kk_names.specs.Expressions.{meant}
use Rattle.kk_names.specs.Faults.{IsFirstFault, error_of, faults_of}
use Rattle.kk_names.specs.Scopes.{with_parameters, Before, past}
use Rattle.kk_names.specs.Tables.{Known, known_in, names_of}
use Rattle.kk_names.specs.TypeNames.{type_meant, result_meant, signature_variables}

-- the type `bool`, with its constructors `False` and `True`
abbrev pub bool_type : TypeDecl
bool_type = record { name = codes "bool"; at = 0; variables = 0; first_constructor = 0; constructor_count = 2 }

abbrev pub bool_constructor : List ℕ → ℕ → ConstructorTree
bool_constructor name tag = record { name = name; at = 0; of_type = 0; arguments = None; tag = tag; fields = [] }

abbrev pub bool_constructors : List ConstructorTree
bool_constructors = bool_constructor (codes "False") 0 ∷ bool_constructor (codes "True") 1 ∷ []

-- what stands before a function's body: its parameters, and the string literals that the functions before it print
abbrev pub before_body : List (List ℕ) → List WrittenParameter → Before
before_body texts parameters = record { variables = length parameters; texts = texts }

-- a function where those names are known, behind those string literals; its parameters are its first variables
abbrev pub function_of : Known → List (List ℕ) → Identifier → List WrittenParameter → Option WrittenType → Written → FunctionTree
function_of known texts name parameters result body = record {
  name = name.name;
  at = name.at;
  variables = length (signature_variables parameters result);
  parameters = map (λ parameter. type_meant known (signature_variables parameters result) parameter.of_type) parameters;
  result = result_meant known (signature_variables parameters result) result;
  body = meant known (with_parameters 0 parameters []) (before_body texts parameters) body;
}

-- string literals, and those that a declaration prints: a type prints none
abbrev pub with_texts : List (List ℕ) → WrittenDeclaration → List (List ℕ)
with_texts texts (type_declaration name parameters constructors) = texts
with_texts texts (function_declaration name parameters effects result body) = (past body (before_body texts parameters)).texts

-- the functions of declarations behind those string literals
abbrev pub functions_of : Known → List (List ℕ) → List WrittenDeclaration → List FunctionTree
functions_of known texts [] = []
functions_of known texts (type_declaration name parameters constructors ∷ more) = functions_of known texts more
functions_of known texts (function_declaration name parameters effects result body ∷ more) =
    function_of known texts name parameters result body
    ∷ functions_of known (with_texts texts (function_declaration name parameters effects result body)) more

abbrev pub functions_meant : List WrittenDeclaration → List FunctionTree
functions_meant declarations = functions_of (known_in declarations) [] declarations

-- string literals, and those that declarations print
abbrev pub with_all_texts : List (List ℕ) → List WrittenDeclaration → List (List ℕ)
with_all_texts texts [] = texts
with_all_texts texts (declaration ∷ more) = with_all_texts (with_texts texts declaration) more

abbrev pub texts_meant : List WrittenDeclaration → List (List ℕ)
texts_meant = with_all_texts []

-- The types of declarations, in their order. The constructors of each follow one another, and those of the first begin at
-- that number.
abbrev pub types_of : ℕ → List WrittenDeclaration → List TypeDecl
types_of first [] = []
types_of first (type_declaration name parameters cases ∷ more) =
    record { name = name.name; at = name.at; variables = length parameters; first_constructor = first; constructor_count = length cases }
    ∷ types_of (first + length cases) more
types_of first (function_declaration name parameters effects result body ∷ more) = types_of first more

-- a constructor at that place in the type of that number; its fields are over the type's variables
abbrev pub constructor_of : Known → List (List ℕ) → ℕ → ℕ → WrittenConstructor → ConstructorTree
constructor_of known variables number place case = record {
  name = case.name.name;
  at = case.name.at;
  of_type = number;
  arguments = None;
  tag = place;
  fields = map (λ field. type_meant known variables field.of_type) case.fields;
}

-- the constructors of a type from that place on
abbrev pub cases_of : Known → List (List ℕ) → ℕ → ℕ → List WrittenConstructor → List ConstructorTree
cases_of known variables number place [] = []
cases_of known variables number place (case ∷ more) = constructor_of known variables number place case ∷ cases_of known variables number (place + 1) more

-- the constructors of declarations, of which the first type has that number
abbrev pub constructors_of : Known → ℕ → List WrittenDeclaration → List ConstructorTree
constructors_of known number [] = []
constructors_of known number (type_declaration name parameters cases ∷ more) =
    cases_of known (names_of parameters) number 0 cases ++ constructors_of known (number + 1) more
constructors_of known number (function_declaration name parameters effects result body ∷ more) = constructors_of known number more

abbrev pub program_types : List WrittenDeclaration → List TypeDecl
program_types declarations = bool_type ∷ types_of 2 declarations

abbrev pub program_constructors : List WrittenDeclaration → List ConstructorTree
program_constructors declarations = bool_constructors ++ constructors_of (known_in declarations) 1 declarations

-- a program but for which function is `main`
pub record Parts : Type 0 where
  pub types : List TypeDecl
  pub constructors : List ConstructorTree
  pub functions : List FunctionTree
  pub texts : List (List ℕ)

abbrev pub parts_meant : List WrittenDeclaration → Parts
parts_meant declarations = record {
  types = program_types declarations;
  constructors = program_constructors declarations;
  functions = functions_meant declarations;
  texts = texts_meant declarations;
}

-- the number of the function `main`
abbrev pub main_of : List FunctionTree → Option ℕ
main_of functions = position (λ function. bytes_eq function.name (codes "main")) functions

-- a program of these parts, of whose functions that one is `main`
abbrev pub program_of : Parts → ℕ → ProgramTree
program_of parts main = record {
  types = parts.types;
  constructors = parts.constructors;
  functions = parts.functions;
  texts = parts.texts;
  main = main;
}

-- `main` takes nothing and gives nothing
pub record IsMainShaped (function : FunctionTree) : Type 0 where
  pub parameters : function.parameters ≡ []
  pub result : function.result ≡ unit_type

-- these parts, of whose functions one is a `main` as it must be, make a program
pub record MakesProgram (parts : Parts) (program : ProgramTree) : Type 0 where
  pub main : ℕ
  pub function : FunctionTree
  pub main_is : main_of parts.functions ≡ Some main
  pub there : slice_get parts.functions main ≡ Some function
  pub shape : IsMainShaped function
  pub is : program ≡ program_of parts main

-- no function is called `main`, which is told of at the text's end
pub record LacksMain (functions : List FunctionTree) (length : ℕ) (error : NameError) : Type 0 where
  pub lacking : main_of functions ≡ None
  pub error_is : error ≡ NoMain (codes "main") length

-- `main` has a parameter or a result
pub record HasOtherMain (functions : List FunctionTree) (error : NameError) : Type 0 where
  pub main : ℕ
  pub function : FunctionTree
  pub main_is : main_of functions ≡ Some main
  pub there : slice_get functions main ≡ Some function
  pub other : IsMainShaped function → ⊥
  pub error_is : error ≡ MainShape function.name function.at

-- a tree without faults means a program
pub record MeansProgram (declarations : List WrittenDeclaration) (program : ProgramTree) : Type 0 where
  pub faults : faults_of declarations ≡ []
  pub makes : MakesProgram (parts_meant declarations) program

-- a tree is refused for its first fault, or, if it has none, for its `main`
pub data IsRefusedFor (tree : WrittenTree) (error : NameError) : Type 0 where
  first_fault : (fault : Fault) → IsFirstFault (faults_of tree.declarations) fault → error ≡ error_of fault → IsRefusedFor tree error
  no_main : faults_of tree.declarations ≡ [] → LacksMain (functions_meant tree.declarations) tree.length error → IsRefusedFor tree error
  main_shape : faults_of tree.declarations ≡ [] → HasOtherMain (functions_meant tree.declarations) error → IsRefusedFor tree error

-- what a tree comes to
abbrev pub ResolvesAs : WrittenTree → Result ProgramTree NameError → Type 0
ResolvesAs tree (Ok program) = MeansProgram tree.declarations program
ResolvesAs tree (Err error) = IsRefusedFor tree error

-- an answer is what the tree comes to, as nothing else is, unless memory ran out
abbrev pub AnswersNames : Tree → Result Program NameError → Type 0
AnswersNames tree (Ok program) = IsOnly (ResolvesAs (written_tree tree)) (Ok (program_tree program))
AnswersNames tree (Err NoMemory) = Unit {0}
AnswersNames tree (Err error) = IsOnly (ResolvesAs (written_tree tree)) (Err error)

-- each tree comes to exactly one thing
abbrev pub EachTreeIsResolved : Type 0
EachTreeIsResolved = (tree : WrittenTree) → ExactlyOne (ResolvesAs tree)

-- no function has more nodes than the declarations have that it comes from
abbrev pub KeepsNodes : List WrittenDeclaration → List FunctionTree → Type 0
KeepsNodes declarations functions = (most : ℕ) → All (λ d. nodes_in d ≤ most) declarations → All (λ f. nodes_of f.body ≤ most) functions

-- no function's body is deeper in memory than the bodies of the declarations are
abbrev pub KeepsDepth : List Declaration → List Fun → Type 0
KeepsDepth declarations functions = (most : ℕ) → All (λ d. body_depth d ≤ most) declarations → All (λ f. depth_of f.body ≤ most) functions

-- a program has a function `main` without parameters and without a result
pub record HasMain (program : ProgramTree) : Type 0 where
  pub function : FunctionTree
  pub there : slice_get program.functions program.main ≡ Some function
  pub parameters : function.parameters ≡ []
  pub result : function.result ≡ unit_type

abbrev pub ResolvedProgramsHaveMain : Type 0
ResolvedProgramsHaveMain = (tree : WrittenTree) (program : ProgramTree) → ResolvesAs tree (Ok program) → HasMain program

-- `bool` is as it must be, and each string literal that a function prints is one of the program's
pub record HasTruthsAndTexts (program : ProgramTree) : Type 0 where
  pub truths : HasTruths program.constructors
  pub texts : Each (PrintsTexts program) program.functions

abbrev pub ResolvedProgramsHaveTruthsAndTexts : Type 0
ResolvedProgramsHaveTruthsAndTexts = (tree : WrittenTree) (program : ProgramTree) → ResolvesAs tree (Ok program) → HasTruthsAndTexts program
