-- The faults of a text: names that are declared twice, that have no meaning, or that have another number of arguments than
-- declared. A text is refused for the first of them.
use Rattle.std.specs.Prelude.{◌≡◌, ◌<◌, ◌==◌, ℕ, ◌+◌, List, [], ◌∷◌, ◌++◌, All, ◌⊎◌, codes, Option, Some, None, if◌then◌else◌}
use Rattle.kk_base.specs.declared.error.NameError.{NameError}
use Rattle.kk_base.specs.declared.error.NameError.TheVariants as OfError
use Rattle.kk_syntax.specs.declared.tree.Identifier.{Identifier}
use Rattle.kk_syntax.specs.Surface.{WrittenType, WrittenTypes, unit_type, type_variable, named, no_type, type, WrittenPattern, anything, pattern_variable, exactly, constructor, WrittenPatterns, no_part, part, Written, number, unit, variable, call, dot_call, construct, unary, binary, both, either, print_text, branch, branch_alone, match, sequence, Writtens, no_written, written, WrittenRows, no_row, row, WrittenParameter, WrittenConstructor, WrittenDeclaration, type_declaration, function_declaration}
use Rattle.kk_names.specs.declared.fault.Fault.{Fault}
use Rattle.kk_names.specs.declared.fault.FaultKind.{FaultKind}
use Rattle.kk_names.specs.declared.fault.FaultKind.TheVariants.{Twice, Unknown, Arity}
use Rattle.kk_names.specs.declared.table.Callee.{Callee}
use Rattle.kk_names.specs.declared.table.TypeMeaning.{TypeMeaning}
use Rattle.kk_names.specs.Scopes.{is_among, parameter_names, binder_names, pattern_names}
use Rattle.kk_names.specs.Tables.{Known, known_in, meaning_in, type_in, names_of, type_names, constructor_names, function_names}
use Rattle.kk_names.specs.TypeNames.{place_of, signature_variables}

abbrev pub fault_at : FaultKind → Identifier → Fault
fault_at kind name = record { kind = kind; name = name.name; at = name.at }

-- ---- which fault is the first

-- the order of the kinds at one byte
abbrev pub rank : FaultKind → ℕ
rank Twice = 0
rank Unknown = 1
rank Arity = 2

abbrev pub IsBefore : Fault → Fault → Type 0
IsBefore fault other = (fault.at < other.at) ⊎ ((fault.at ≡ other.at) × (rank fault.kind < rank other.kind))

-- the first fault of a list: the least one, and among equal ones the one that is listed first
pub record IsFirstFault (faults : List Fault) (fault : Fault) : Type 0 where
  pub earlier : List Fault
  pub later : List Fault
  pub among : faults ≡ earlier ++ fault ∷ later
  pub before : All (λ other. IsBefore fault other) earlier
  pub not_behind : All (λ other. IsBefore other fault → ⊥) later

-- the error that tells of a fault
abbrev pub error_for : FaultKind → List ℕ → ℕ → NameError
error_for Twice name at = OfError.Twice name at
error_for Unknown name at = OfError.Unknown name at
error_for Arity name at = OfError.Arity name at

abbrev pub error_of : Fault → NameError
error_of fault = error_for fault.kind fault.name fault.at

-- ---- the faults of types and expressions

-- a name that is declared where these are declared already
abbrev pub twice_faults : List (List ℕ) → Identifier → List Fault
twice_faults names name = if is_among names name.name then fault_at Twice name ∷ [] else []

-- a type variable, and a name of a type with so many arguments
abbrev pub variable_faults : Option ℕ → Identifier → List Fault
variable_faults None name = fault_at Unknown name ∷ []
variable_faults (Some of) name = []

abbrev pub named_faults : Option TypeMeaning → Identifier → ℕ → List Fault
named_faults None name count = fault_at Unknown name ∷ []
named_faults (Some meaning) name count = if meaning.parameters == count then [] else fault_at Arity name ∷ []

abbrev pub types_count : WrittenTypes → ℕ
types_count no_type = 0
types_count (type first rest) = 1 + types_count rest

-- the faults of a type, where those type variables are seen
abbrev mutual
  pub type_faults : Known → List (List ℕ) → WrittenType → List Fault
  type_faults known variables unit_type = []
  type_faults known variables (type_variable name) = variable_faults (place_of variables name.name) name
  type_faults known variables (named name arguments) =
      types_faults known variables arguments ++ named_faults (type_in known.types name.name) name (types_count arguments)

  pub types_faults : Known → List (List ℕ) → WrittenTypes → List Fault
  types_faults known variables no_type = []
  types_faults known variables (type first rest) = type_faults known variables first ++ types_faults known variables rest

-- a name that is used with so many arguments
abbrev pub use_faults : Option Callee → Identifier → ℕ → List Fault
use_faults None name count = fault_at Unknown name ∷ []
use_faults (Some callee) name count = if callee.parameters == count then [] else fault_at Arity name ∷ []

abbrev pub count_of : Writtens → ℕ
count_of no_written = 0
count_of (written first rest) = 1 + count_of rest

abbrev pub parts_count : WrittenPatterns → ℕ
parts_count no_part = 0
parts_count (part first rest) = 1 + parts_count rest

-- the faults of a pattern, of which variables of these names stand before
abbrev mutual
  pub pattern_faults : Known → List (List ℕ) → WrittenPattern → List Fault
  pattern_faults known names anything = []
  pattern_faults known names (pattern_variable name) = twice_faults names name
  pattern_faults known names (exactly value) = []
  pattern_faults known names (constructor name parts) =
      parts_faults known names parts ++ use_faults (meaning_in known.constructors name.name) name (parts_count parts)

  pub parts_faults : Known → List (List ℕ) → WrittenPatterns → List Fault
  parts_faults known names no_part = []
  parts_faults known names (part first rest) = pattern_faults known names first ++ parts_faults known (pattern_names first names) rest

-- the faults of an expression, where variables of these names are seen
abbrev mutual
  pub faults_in : Known → List (List ℕ) → Written → List Fault
  faults_in known names (number value) = []
  faults_in known names unit = []
  faults_in known names (print_text form text) = []
  faults_in known names (variable name) = if is_among names name.name then [] else fault_at Unknown name ∷ []
  faults_in known names (call name arguments) =
      faults_in_all known names arguments ++ use_faults (meaning_in known.functions name.name) name (count_of arguments)
  faults_in known names (dot_call first name others) =
      (faults_in known names first ++ faults_in_all known names others) ++ use_faults (meaning_in known.functions name.name) name (1 + count_of others)
  faults_in known names (construct name arguments) =
      faults_in_all known names arguments ++ use_faults (meaning_in known.constructors name.name) name (count_of arguments)
  faults_in known names (unary operator operand) = faults_in known names operand
  faults_in known names (binary operator left right) = faults_in known names left ++ faults_in known names right
  faults_in known names (both left right) = faults_in known names left ++ faults_in known names right
  faults_in known names (either left right) = faults_in known names left ++ faults_in known names right
  faults_in known names (branch condition positive negative) =
      faults_in known names condition ++ (faults_in known names positive ++ faults_in known names negative)
  faults_in known names (branch_alone condition positive) = faults_in known names condition ++ faults_in known names positive
  faults_in known names (sequence binder first rest) =
      faults_in known names first ++ faults_in known (binder_names binder names) rest
  faults_in known names (match scrutinee rows) = faults_in known names scrutinee ++ faults_in_rows known names rows

  pub faults_in_all : Known → List (List ℕ) → Writtens → List Fault
  faults_in_all known names no_written = []
  faults_in_all known names (written first rest) = faults_in known names first ++ faults_in_all known names rest

  pub faults_in_rows : Known → List (List ℕ) → WrittenRows → List Fault
  faults_in_rows known names no_row = []
  faults_in_rows known names (row pattern body rest) =
      (pattern_faults known [] pattern ++ faults_in known (pattern_names pattern [] ++ names) body) ++ faults_in_rows known names rest

-- ---- the faults of declarations

-- parameters, where those type variables are seen, and those of these names are declared already
abbrev pub parameter_faults : Known → List (List ℕ) → List (List ℕ) → List WrittenParameter → List Fault
parameter_faults known variables names [] = []
parameter_faults known variables names (parameter ∷ more) =
    (twice_faults names parameter.name ++ type_faults known variables parameter.of_type) ++ parameter_faults known variables (parameter.name.name ∷ names) more

abbrev pub result_faults : Known → List (List ℕ) → Option WrittenType → List Fault
result_faults known variables None = []
result_faults known variables (Some of_type) = type_faults known variables of_type

-- names in the order in which they are declared, behind those: each that was declared before
abbrev pub second_names : List (List ℕ) → List Identifier → List Fault
second_names names [] = []
second_names names (name ∷ more) = twice_faults names name ++ second_names (names ++ name.name ∷ []) more

-- the fields of the constructors of a type with those type variables; each constructor has names of its own
abbrev pub field_faults : Known → List (List ℕ) → List WrittenConstructor → List Fault
field_faults known variables [] = []
field_faults known variables (case ∷ more) = parameter_faults known variables [] case.fields ++ field_faults known variables more

-- a declared type: its type variables, and the fields of its constructors
abbrev pub faults_in_type : Known → WrittenDeclaration → List Fault
faults_in_type known (type_declaration name parameters cases) = second_names [] parameters ++ field_faults known (names_of parameters) cases
faults_in_type known (function_declaration name parameters effects result body) = []

abbrev pub faults_in_types : Known → List WrittenDeclaration → List Fault
faults_in_types known [] = []
faults_in_types known (declaration ∷ more) = faults_in_type known declaration ++ faults_in_types known more

-- a declared function: its parameters, its result and its body
abbrev pub faults_in_function : Known → WrittenDeclaration → List Fault
faults_in_function known (type_declaration name parameters cases) = []
faults_in_function known (function_declaration name parameters effects result body) =
    parameter_faults known (signature_variables parameters result) [] parameters
    ++ (result_faults known (signature_variables parameters result) result ++ faults_in known (parameter_names parameters []) body)

abbrev pub faults_in_functions : Known → List WrittenDeclaration → List Fault
faults_in_functions known [] = []
faults_in_functions known (declaration ∷ more) = faults_in_function known declaration ++ faults_in_functions known more

-- The faults of a text: names that are declared twice, where those of what is built in come first, and the faults inside
-- of the declarations.
abbrev pub faults_of : List WrittenDeclaration → List Fault
faults_of declarations =
    second_names (codes "int32" ∷ codes "bool" ∷ []) (type_names declarations)
    ++ (second_names (codes "False" ∷ codes "True" ∷ []) (constructor_names declarations)
    ++ (second_names (codes "print" ∷ codes "println" ∷ codes "read-byte" ∷ []) (function_names declarations)
    ++ (faults_in_types (known_in declarations) declarations ++ faults_in_functions (known_in declarations) declarations)))
