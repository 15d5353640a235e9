-- The instances and the ground constructors that are built of what the search has found.
use Rattle.std.specs.Prelude.{◌≡◌, ℕ, ◌<◌, List, length, map, take, slice_index_or}
use Rattle.std.specs.List.{AllZip}
use Rattle.kk_syntax.specs.declared.ground.Ground.{Ground}
use Rattle.kk_syntax.specs.declared.ground.GroundConstructor.{GroundConstructor}
use Rattle.kk_syntax.specs.declared.ground.Instance.{Instance}
use Rattle.kk_syntax.specs.declared.program.Program.{Program}
use Rattle.kk_syntax.specs.Programs.{ConstructorTree, FunctionTree, constructor_tree, program_tree, no_constructor}
use Rattle.kk_syntax.specs.Trees.{expr_tree}
use Rattle.kk_syntax.specs.Types.{TypeTree, named, types_of, put, type_at}
use Rattle.kk_mono.specs.declared.search.Found.{Found}
use Rattle.kk_mono.specs.declared.search.Looked.{Looked}
use Rattle.kk_mono.specs.declared.types.Types.{Types}
use Rattle.kk_mono.specs.KeyTrees.{KeyTree, keys_in}
use Rattle.kk_mono.specs.Labels.{labelled}
use Rattle.kk_mono.specs.InstanceSearch.{function_in}
use Rattle.kk_syntax.specs.Constructors.{members}
use Rattle.kk_mono.specs.Siblings.{type_of}
use Rattle.kk_mono.specs.Tables.{Grows, AreNumbers}
use Rattle.kk_mono.specs.Views.{types_in}

-- an instance is built of what has been seen in it
pub record IsBuiltOf (function : FunctionTree) (key : KeyTree) (looked : Looked) (instance : Instance) : Type 0 where
  pub function_is : instance.function ≡ key.number
  pub arguments : instance.arguments.items ≡ key.at
  pub parameters : instance.parameters.items ≡ looked.parameters.items
  pub result : instance.result ≡ looked.result
  pub taken : instance.taken.items ≡ looked.taken.items
  pub body : expr_tree instance.body ≡ labelled (record { functions = looked.called.items; constructors = looked.constructed.items }) function.body

-- each of them is
pub record AreBuilt (program : Program) (keys : List KeyTree) (looked : List Looked) (instances : List Instance) : Type 0 where
  pub as_many : length instances ≡ length looked
  pub each : (i : ℕ) (key : KeyTree) (l : Looked) (d : Instance) → i < length looked
      → IsBuiltOf (function_in (program_tree program) (slice_index_or keys i key).number) (slice_index_or keys i key) (slice_index_or looked i l) (slice_index_or instances i d)

-- the place of a constructor among those of its type
abbrev pub place_in : List ConstructorTree → ℕ → ℕ
place_in constructors c = length (members (take c constructors) (type_of constructors c))

-- these are the places of the first constructors
abbrev pub ArePlaces : List ConstructorTree → List ℕ → Type 0
ArePlaces constructors places = (c d : ℕ) → c < length places → slice_index_or places c d ≡ place_in constructors c

-- a ground constructor is made of its constructor, with this tag
pub record IsMadeAs (declared : ConstructorTree) (types : List TypeTree) (key : KeyTree) (tag : ℕ) (made : GroundConstructor) : Type 0 where
  pub constructor_is : made.constructor ≡ key.number
  pub of_type_within : made.of_type < length types
  pub of_type_is : type_at types made.of_type ≡ named declared.of_type (types_of (map (type_at types) key.at))
  pub tag_is : made.tag ≡ tag
  pub fields : AreNumbers types made.fields.items (map (put (type_at (map (type_at types) key.at))) declared.fields)

-- by the constructors of a program
abbrev pub IsMadeOf : List ConstructorTree → List TypeTree → KeyTree → GroundConstructor → Type 0
IsMadeOf constructors types key made =
    IsMadeAs (slice_index_or constructors key.number no_constructor) types key (place_in constructors key.number) made

-- The program of instances: there are types more than the search has found, those of the ground constructors.
pub record IsBuilt (program : Program) (found : Found) (given : Ground) : Type 0 where
  pub declarations : given.declarations.items ≡ program.types.items
  pub texts : given.texts.items ≡ program.texts.items
  pub table : Types
  pub types : given.types.items ≡ table.nodes.keys
  pub grows : Grows (types_in found.types) (types_in table)
  pub constructors : AllZip (IsMadeOf (map constructor_tree program.constructors.items) (types_in table)) (keys_in found.constructors) given.constructors.items
  pub instances : AreBuilt program (keys_in found.keys) found.looked.items given.instances.items
