-- What a type means as it is written.
use Rattle.std.specs.Prelude.{ℕ, List, [], ◌∷◌, ◌++◌, bytes_eq, position, is_some, Option, Some, None, if◌then◌else◌}
use Rattle.kk_syntax.specs.Surface as written
use Rattle.kk_syntax.specs.Surface.{WrittenType, WrittenTypes, type_variable, named, WrittenParameter}
use Rattle.kk_syntax.specs.Types as program
use Rattle.kk_syntax.specs.Types.{TypeTree, TypeTrees}
use Rattle.kk_names.specs.declared.table.TypeMeaning.{TypeMeaning}
use Rattle.kk_names.specs.Tables.{Known, type_in}

-- the number of a type variable: its place among those that are seen
abbrev pub place_of : List (List ℕ) → List ℕ → Option ℕ
place_of variables name = position (λ v. bytes_eq v name) variables

-- a name of a type, or of a type variable, that has no meaning stands for `()`
abbrev pub variable_type : Option ℕ → TypeTree
variable_type None = program.unit_type
variable_type (Some of) = program.type_variable of

abbrev pub numbered_type : Option ℕ → TypeTrees → TypeTree
numbered_type None arguments = program.int32
numbered_type (Some by) arguments = program.named by arguments

abbrev pub applied_type : Option TypeMeaning → TypeTrees → TypeTree
applied_type None arguments = program.unit_type
applied_type (Some meaning) arguments = numbered_type meaning.number arguments

-- the meaning of a type, where those names are known and those type variables are seen
abbrev mutual
  pub type_meant : Known → List (List ℕ) → WrittenType → TypeTree
  type_meant known variables written.unit_type = program.unit_type
  type_meant known variables (type_variable name) = variable_type (place_of variables name.name)
  type_meant known variables (named name arguments) = applied_type (type_in known.types name.name) (types_meant known variables arguments)

  pub types_meant : Known → List (List ℕ) → WrittenTypes → TypeTrees
  types_meant known variables written.no_type = program.no_type
  types_meant known variables (written.type first rest) = program.type (type_meant known variables first) (types_meant known variables rest)

-- the type of a function's result, which is `()` where none is written
abbrev pub result_meant : Known → List (List ℕ) → Option WrittenType → TypeTree
result_meant known variables None = program.unit_type
result_meant known variables (Some type) = type_meant known variables type

-- ---- the type variables of a function, in the order in which its parameters and its result first name them

abbrev pub with_variable_name : List (List ℕ) → List ℕ → List (List ℕ)
with_variable_name variables name = if is_some (place_of variables name) then variables else variables ++ name ∷ []

abbrev mutual
  pub with_variables : WrittenType → List (List ℕ) → List (List ℕ)
  with_variables written.unit_type variables = variables
  with_variables (type_variable name) variables = with_variable_name variables name.name
  with_variables (named name arguments) variables = with_all_variables arguments variables

  pub with_all_variables : WrittenTypes → List (List ℕ) → List (List ℕ)
  with_all_variables written.no_type variables = variables
  with_all_variables (written.type first rest) variables = with_all_variables rest (with_variables first variables)

abbrev pub parameter_variables : List WrittenParameter → List (List ℕ) → List (List ℕ)
parameter_variables [] variables = variables
parameter_variables (parameter ∷ more) variables = parameter_variables more (with_variables parameter.of_type variables)

abbrev pub result_variables : Option WrittenType → List (List ℕ) → List (List ℕ)
result_variables None variables = variables
result_variables (Some type) variables = with_variables type variables

abbrev pub signature_variables : List WrittenParameter → Option WrittenType → List (List ℕ)
signature_variables parameters result = result_variables result (parameter_variables parameters [])
