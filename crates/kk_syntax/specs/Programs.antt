-- A resolved program as mathematics.
use Rattle.std.specs.Prelude.{◌≡◌, ℕ, List, [], map, Option, Some, None, slice_get, slice_index_or}
use Rattle.kk_syntax.specs.declared.program.TypeDecl.{TypeDecl}
use Rattle.kk_syntax.specs.declared.program.Constructor.{Constructor}
use Rattle.kk_syntax.specs.declared.program.Fun.{Fun}
use Rattle.kk_syntax.specs.declared.program.Program.{Program}
use Rattle.kk_syntax.specs.Types.{TypeTree, TypeTrees, unit_type, type_tree}
use Rattle.kk_syntax.specs.declared.program.Form.TheVariants.{Unit as Nothing}
use Rattle.kk_syntax.specs.Trees.{Tree, apply, no_tree, expr_tree}

-- A constructor: its name, the byte where that stands in the text, the number of its type, the arguments of that type, its
-- place among the constructors of its type, from 0, and the types of its fields. A declared constructor makes values of its
-- type at any arguments: it has none of its own, and the variables of its type stand in its fields. A ground constructor
-- makes values of its type at its own arguments alone, and its fields have types without variables.
pub record ConstructorTree : Type 0 where
  pub name : List ℕ
  pub at : ℕ
  pub of_type : ℕ
  pub arguments : Option TypeTrees
  pub tag : ℕ
  pub fields : List TypeTree

-- A function: its name, the byte where that stands in the text, the number of its type variables, the types of its
-- parameters and of its result, and its body, whose first variables are the parameters.
pub record FunctionTree : Type 0 where
  pub name : List ℕ
  pub at : ℕ
  pub variables : ℕ
  pub parameters : List TypeTree
  pub result : TypeTree
  pub body : Tree

-- The types, the constructors, the functions and the string literals that are printed, each by its number, from 0, and
-- which function is `main`.
pub record ProgramTree : Type 0 where
  pub types : List TypeDecl
  pub constructors : List ConstructorTree
  pub functions : List FunctionTree
  pub texts : List (List ℕ)
  pub main : ℕ

abbrev pub constructor_tree : Constructor → ConstructorTree
constructor_tree constructor = record {
  name = constructor.name;
  at = constructor.at;
  of_type = constructor.of_type;
  arguments = None;
  tag = constructor.tag;
  fields = map type_tree constructor.fields.items;
}

abbrev pub function_tree : Fun → FunctionTree
function_tree function = record {
  name = function.name;
  at = function.at;
  variables = function.variables;
  parameters = map type_tree function.parameters.items;
  result = type_tree function.result;
  body = expr_tree function.body;
}

abbrev pub program_tree : Program → ProgramTree
program_tree program = record {
  types = program.types.items;
  constructors = map constructor_tree program.constructors.items;
  functions = map function_tree program.functions.items;
  texts = program.texts.items;
  main = program.main;
}

-- what stands behind the last function, where no program looks
abbrev pub no_function : FunctionTree
no_function = record { name = []; at = 0; variables = 0; parameters = []; result = unit_type; body = apply Nothing no_tree }

-- what stands behind the last constructor, where no program looks
abbrev pub no_constructor : ConstructorTree
no_constructor = record { name = []; at = 0; of_type = 0; arguments = None; tag = 0; fields = [] }

-- a constructor by its number
abbrev pub constructor_in : ProgramTree → ℕ → ConstructorTree
constructor_in program number = slice_index_or program.constructors number no_constructor

-- each constructor is a declared one
abbrev pub AreDeclared : List ConstructorTree → Type 0
AreDeclared constructors = (c : ℕ) (constructor : ConstructorTree) → slice_get constructors c ≡ Some constructor → constructor.arguments ≡ None

-- a constructor, if it is a declared one
abbrev pub if_declared : ConstructorTree → Option TypeTrees → Option ConstructorTree
if_declared constructor None = Some constructor
if_declared constructor (Some arguments) = None

abbrev pub declared_in : Option ConstructorTree → Option ConstructorTree
declared_in None = None
declared_in (Some constructor) = if_declared constructor constructor.arguments

-- the body of a function by its number
abbrev pub body_of : ProgramTree → ℕ → Tree
body_of program number = (slice_index_or program.functions number no_function).body

-- a string literal by its number; what stands behind the last, where no program looks, is the empty one
abbrev pub text_at : List (List ℕ) → ℕ → List ℕ
text_at texts number = slice_index_or texts number []
