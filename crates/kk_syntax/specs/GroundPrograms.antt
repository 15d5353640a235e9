-- What instances in memory mean: their types, and a program without type variables whose functions they are.
use Rattle.std.specs.Prelude.{List, [], map, Some}
use Rattle.kk_syntax.specs.declared.ground.Ground.{Ground}
use Rattle.kk_syntax.specs.declared.ground.GroundConstructor.{GroundConstructor}
use Rattle.kk_syntax.specs.declared.ground.Instance.{Instance}
pub use Rattle.kk_syntax.specs.GroundTypes.{ground_type, ground_types_behind, ground_types, number_of_type, arguments_of_type}
use Rattle.kk_syntax.specs.Programs.{ConstructorTree, FunctionTree, ProgramTree}
use Rattle.kk_syntax.specs.Trees.{expr_tree}
use Rattle.kk_syntax.specs.Types.{TypeTree, type_at}

-- a ground constructor as a constructor of one type alone: it has no name and no place in the text
abbrev pub ground_constructor_tree : List TypeTree → GroundConstructor → ConstructorTree
ground_constructor_tree types made = record {
  name = [];
  at = 0;
  of_type = number_of_type (type_at types made.of_type);
  arguments = Some (arguments_of_type (type_at types made.of_type));
  tag = made.tag;
  fields = map (type_at types) made.fields.items;
}

-- an instance as a function: it has no name and no place in the text
abbrev pub instance_tree : List TypeTree → Instance → FunctionTree
instance_tree types instance = record {
  name = [];
  at = 0;
  variables = 0;
  parameters = map (type_at types) instance.parameters.items;
  result = type_at types instance.result;
  body = expr_tree instance.body;
}

-- the instances as a program, in which `main` is the first function
abbrev pub ground_program : Ground → ProgramTree
ground_program given = record {
  types = given.declarations.items;
  constructors = map (ground_constructor_tree (ground_types given.types.items)) given.constructors.items;
  functions = map (instance_tree (ground_types given.types.items)) given.instances.items;
  texts = given.texts.items;
  main = 0;
}
