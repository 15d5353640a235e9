-- Which types have cells: those with a constructor that has a field.
use Rattle.std.specs.Prelude.{◌≡◌, Bool, true, false, List, [], ◌∷◌, map, Option, None, Some}
use Rattle.std.specs.List.{list_any}
use Rattle.kk_syntax.specs.OfType.{fields_of}
use Rattle.kk_syntax.specs.Programs.{ConstructorTree, FunctionTree, ProgramTree}
use Rattle.kk_syntax.specs.Types.{TypeTree, TypeTrees, int32, unit_type, type_variable, named, no_type}
use Rattle.kk_core.specs.declared.form.Core.{Core}
use Rattle.kk_core.specs.declared.form.CoreFunction.{CoreFunction}
use Rattle.kk_core.specs.declared.shape.ConstructorShape.{ConstructorShape}

abbrev pub has_any : Option (List TypeTree) → Bool
has_any None = false
has_any (Some []) = false
has_any (Some (t ∷ ts)) = true

-- whether a constructor makes values of a type, and they have fields
abbrev pub makes_cells : ConstructorTree → TypeTree → Bool
makes_cells constructor int32 = false
makes_cells constructor unit_type = false
makes_cells constructor (type_variable of) = false
makes_cells constructor (named by arguments) = has_any (fields_of (Some constructor) by arguments)

abbrev pub has_cells : List ConstructorTree → TypeTree → Bool
has_cells constructors t = list_any (λ constructor. makes_cells constructor t) constructors

-- the type of a ground constructor's values
abbrev pub arguments_or_none : Option TypeTrees → TypeTrees
arguments_or_none None = no_type
arguments_or_none (Some arguments) = arguments

abbrev pub made_type : ConstructorTree → TypeTree
made_type constructor = named constructor.of_type (arguments_or_none constructor.arguments)

-- A core form tells of each ground constructor its tag, whether its type has cells and which of its fields have, and of each
-- function which of its parameters have cells, and whether its result has.
pub record TellsCells (program : ProgramTree) (core : Core) : Type 0 where
  pub tags : map (λ (c : ConstructorShape). c.tag) core.constructors.items ≡ map (λ (c : ConstructorTree). c.tag) program.constructors
  pub types : map (λ (c : ConstructorShape). c.has_cells) core.constructors.items
      ≡ map (λ c. has_cells program.constructors (made_type c)) program.constructors
  pub fields : map (λ (c : ConstructorShape). c.fields.items) core.constructors.items
      ≡ map (λ (c : ConstructorTree). map (has_cells program.constructors) c.fields) program.constructors
  pub parameters : map (λ (f : CoreFunction). f.parameters_have_cells.items) core.functions.items
      ≡ map (λ (f : FunctionTree). map (has_cells program.constructors) f.parameters) program.functions
  pub results : map (λ (f : CoreFunction). f.result_has_cells) core.functions.items
      ≡ map (λ (f : FunctionTree). has_cells program.constructors f.result) program.functions
