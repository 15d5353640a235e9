-- What is answered of a typed program: its instances, or the limit that it passes first.
use Rattle.std.specs.Prelude.{◌≡◌, ◌≢◌, ◌<◌, ℕ, List, [], length, map, sum, AllPairs, All, slice_index_or, Result, Ok, Err}
use Rattle.kk_syntax.specs.declared.typed.Typed.{Typed}
use Rattle.kk_syntax.specs.declared.ground.Ground.{Ground}
use Rattle.kk_syntax.specs.declared.ground.GroundConstructor.{GroundConstructor}
use Rattle.kk_syntax.specs.declared.ground.Instance.{Instance}
use Rattle.kk_syntax.specs.GroundPrograms.{ground_types, ground_program, arguments_of_type}
use Rattle.kk_syntax.specs.Programs.{program_tree}
use Rattle.kk_syntax.specs.Shapes.{greatest_nodes, nodes_of}
use Rattle.kk_syntax.specs.TypedPrograms.{choice_of, typings_of}
use Rattle.kk_syntax.specs.Types.{TypeTree, TypeTrees, named, type_list, type_at}
use Rattle.kk_syntax.specs.Typing.{Choice, put_choice}
use Rattle.kk_mono.specs.Counts.{AnswersCounts, IsSmall}
use Rattle.kk_mono.specs.Instances.{InstanceTree, GroundConstructorTree, IsInstanceProgram}
use Rattle.kk_mono.specs.KeyTrees.{AreTakenWithin}
use Rattle.kk_mono.specs.Tables.{AreInOrder}
use Rattle.kk_mono.specs.declared.error.MonoError.{MonoError}
use Rattle.kk_mono.specs.declared.error.MonoError.TheVariants.{Over, NoMemory}

-- an instance in memory: its function, at the types of these nodes
abbrev pub instance_view : List TypeTree → Instance → InstanceTree
instance_view types instance = record { function = instance.function; at = map (type_at types) instance.arguments.items }

abbrev pub instances_of : Ground → List InstanceTree
instances_of given = map (instance_view (ground_types given.types.items)) given.instances.items

-- a ground constructor in memory: its constructor, at the arguments of its type
abbrev pub ground_view : List TypeTree → GroundConstructor → GroundConstructorTree
ground_view types made = record { constructor = made.constructor; at = type_list (arguments_of_type (type_at types made.of_type)) }

abbrev pub grounds_of : Ground → List GroundConstructorTree
grounds_of given = map (ground_view (ground_types given.types.items)) given.constructors.items

-- the types that are taken in the body of an instance are those of its function's typing, with its types put in place
abbrev pub TakesTypes : List (List Choice) → List TypeTree → Instance → Type 0
TakesTypes typings types instance =
    map (choice_of types) instance.taken.items ≡ map (put_choice (type_at (map (type_at types) instance.arguments.items))) (slice_index_or typings instance.function [])

-- each type that an instance names, by its number, is one of these
pub record NamesTypes (types : List TypeTree) (instance : Instance) : Type 0 where
  pub arguments : All (λ n. n < length types) instance.arguments.items
  pub parameters : All (λ n. n < length types) instance.parameters.items
  pub result : instance.result < length types
  pub taken : All (AreTakenWithin types) instance.taken.items

-- each type that a ground constructor names, by its number, is one of these, and that of its values is a declared one
pub record HasTypes (types : List TypeTree) (made : GroundConstructor) : Type 0 where
  pub of_type : made.of_type < length types
  pub by : ℕ
  pub arguments : TypeTrees
  pub is : type_at types made.of_type ≡ named by arguments
  pub fields : All (λ n. n < length types) made.fields.items

-- The instances of a program that keeps its limits, and their ground constructors. In their table no type is there twice, and
-- the arguments of each are types before it; each type that an instance or a ground constructor names is there. The greatest
-- number of nodes of a function and the nodes of all instances are told.
pub record AreGiven (typed : Typed) (given : Ground) : Type 0 where
  pub counts : AnswersCounts (program_tree typed.program) (Ok tt)
  pub instances : IsInstanceProgram (program_tree typed.program) (typings_of typed) (instances_of given) (ground_program given)
  pub grounds : instances.grounds ≡ grounds_of given
  pub small : IsSmall (ground_program given)
  pub taken : All (TakesTypes (typings_of typed) (ground_types given.types.items)) given.instances.items
  pub once : AllPairs (λ one other. one ≢ other) (ground_types given.types.items)
  pub earlier : AreInOrder given.types.items
  pub within : All (NamesTypes (ground_types given.types.items)) given.instances.items
  pub constructors : All (HasTypes (ground_types given.types.items)) given.constructors.items
  pub greatest : given.greatest_nodes ≡ greatest_nodes (program_tree typed.program)
  pub summed : given.summed_nodes ≡ sum (map (λ function. nodes_of function.body) (ground_program given).functions)

-- an answer is the program's instances, or the limit that it passes first; want of memory may come at any time
abbrev pub AnswersInstances : Typed → Result Ground MonoError → Type 0
AnswersInstances typed (Ok given) = AreGiven typed given
AnswersInstances typed (Err (Over limit)) = AnswersCounts (program_tree typed.program) (Err limit)
AnswersInstances typed (Err NoMemory) = Unit {0}
