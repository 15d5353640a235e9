-- Which types, constructors and functions there are, and what a name of one means.
use Rattle.std.specs.Prelude.{ℕ, ◌+◌, List, [], ◌∷◌, ◌++◌, map, length, bytes_eq, codes, Option, Some, None, if◌then◌else◌}
use Rattle.kk_syntax.specs.declared.operator.PrintForm.TheVariants as OfPrint
use Rattle.kk_syntax.specs.declared.program.Form.{Form}
use Rattle.kk_syntax.specs.declared.program.Form.TheVariants.{ReadByte, Print, Construct, Call}
use Rattle.kk_syntax.specs.declared.tree.Identifier.{Identifier}
use Rattle.kk_syntax.specs.Surface.{WrittenConstructor, WrittenDeclaration, type_declaration, function_declaration}
use Rattle.kk_names.specs.declared.table.Callee.{Callee}
use Rattle.kk_names.specs.declared.table.Declared.{Declared}
use Rattle.kk_names.specs.declared.table.DeclaredType.{DeclaredType}
use Rattle.kk_names.specs.declared.table.TypeMeaning.{TypeMeaning}

-- a name that means a form with so many arguments
abbrev pub means : List ℕ → Form → ℕ → Declared
means name form parameters = record { name = name; callee = record { form = form; parameters = parameters } }

-- a name that means `int32`, which has no number, or the type of that number; and how many arguments it has
abbrev pub means_type : List ℕ → Option ℕ → ℕ → DeclaredType
means_type name number parameters = record { name = name; meaning = record { number = number; parameters = parameters } }

-- ---- what is built in

-- `int32` and `bool` have no arguments; `bool` is the first type of a program
abbrev pub built_in_types : List DeclaredType
built_in_types = means_type (codes "int32") None 0 ∷ means_type (codes "bool") (Some 0) 0 ∷ []

-- `False` and `True` have none, and are the first constructors of a program
abbrev pub built_in_constructors : List Declared
built_in_constructors = means (codes "False") (Construct 0) 0 ∷ means (codes "True") (Construct 1) 0 ∷ []

-- `print` and `println` have one argument each, and `read-byte` has none
abbrev pub built_in_functions : List Declared
built_in_functions =
    means (codes "print") (Print OfPrint.Print) 1 ∷ means (codes "println") (Print OfPrint.PrintLine) 1 ∷ means (codes "read-byte") ReadByte 0 ∷ []

-- ---- what is declared

-- the types of declarations, numbered in the order of the text from that number on
abbrev pub types_from : ℕ → List WrittenDeclaration → List DeclaredType
types_from number [] = []
types_from number (type_declaration name parameters cases ∷ more) = means_type name.name (Some number) (length parameters) ∷ types_from (number + 1) more
types_from number (function_declaration name parameters effects result body ∷ more) = types_from number more

-- the constructors of a type, and of declarations, numbered in the order of the text from that number on
abbrev pub cases_from : ℕ → List WrittenConstructor → List Declared
cases_from number [] = []
cases_from number (case ∷ more) = means case.name.name (Construct number) (length case.fields) ∷ cases_from (number + 1) more

abbrev pub constructors_from : ℕ → List WrittenDeclaration → List Declared
constructors_from number [] = []
constructors_from number (type_declaration name parameters cases ∷ more) = cases_from number cases ++ constructors_from (number + length cases) more
constructors_from number (function_declaration name parameters effects result body ∷ more) = constructors_from number more

-- the functions of declarations, numbered in the order of the text from that number on
abbrev pub functions_from : ℕ → List WrittenDeclaration → List Declared
functions_from number [] = []
functions_from number (type_declaration name parameters cases ∷ more) = functions_from number more
functions_from number (function_declaration name parameters effects result body ∷ more) =
    means name.name (Call number) (length parameters) ∷ functions_from (number + 1) more

-- the names that are known: types, constructors and functions are three kinds
pub record Known : Type 0 where
  pub types : List DeclaredType
  pub constructors : List Declared
  pub functions : List Declared

-- all names of a text: each declaration sees them all, whatever their order
abbrev pub known_in : List WrittenDeclaration → Known
known_in declarations = record {
  types = built_in_types ++ types_from 1 declarations;
  constructors = built_in_constructors ++ constructors_from 2 declarations;
  functions = built_in_functions ++ functions_from 0 declarations;
}

-- what a name means: what the first of that name does
abbrev pub meaning_in : List Declared → List ℕ → Option Callee
meaning_in [] name = None
meaning_in (declared ∷ more) name = if bytes_eq declared.name name then Some declared.callee else meaning_in more name

abbrev pub type_in : List DeclaredType → List ℕ → Option TypeMeaning
type_in [] name = None
type_in (declared ∷ more) name = if bytes_eq declared.name name then Some declared.meaning else type_in more name

-- ---- the names that declarations declare, in the order of the text

abbrev pub names_of : List Identifier → List (List ℕ)
names_of = map (λ name. name.name)

abbrev pub type_names : List WrittenDeclaration → List Identifier
type_names [] = []
type_names (type_declaration name parameters cases ∷ more) = name ∷ type_names more
type_names (function_declaration name parameters effects result body ∷ more) = type_names more

abbrev pub constructor_names : List WrittenDeclaration → List Identifier
constructor_names [] = []
constructor_names (type_declaration name parameters cases ∷ more) = map (λ case. case.name) cases ++ constructor_names more
constructor_names (function_declaration name parameters effects result body ∷ more) = constructor_names more

abbrev pub function_names : List WrittenDeclaration → List Identifier
function_names [] = []
function_names (type_declaration name parameters cases ∷ more) = function_names more
function_names (function_declaration name parameters effects result body ∷ more) = name ∷ function_names more
