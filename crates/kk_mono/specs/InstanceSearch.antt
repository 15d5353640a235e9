-- The search for the instances and their ground constructors: those that are known, where the first so many instances have
-- been looked at.
use Rattle.std.specs.Prelude.{◌≡◌, ◌⊎◌, ℕ, ◌<◌, ◌≤◌, List, [], ◌∷◌, length, map, flat_map, take, All, Some, slice_get, slice_index_or}
use Rattle.kk_base.specs.Limits.{greatest_of}
use Rattle.kk_base.specs.declared.limit.LimitKind.TheVariants.{Instances}
use Rattle.kk_syntax.specs.declared.typed.Typed.{Typed}
use Rattle.kk_syntax.specs.Programs.{FunctionTree, ProgramTree, constructor_tree, program_tree, no_function}
use Rattle.kk_syntax.specs.TypedPrograms.{choice_of, typings_of}
use Rattle.kk_syntax.specs.Types.{TypeTree, put, type_at}
use Rattle.kk_syntax.specs.Typing.{Choice, constructing, calling, holding, put_choice}
use Rattle.kk_mono.specs.declared.search.Looked.{Looked}
use Rattle.kk_mono.specs.declared.search.Found.{Found}
use Rattle.kk_mono.specs.Instances.{InstanceTree, GroundConstructorTree, main_instance, called_in, constructed_in, IsInstance, FirstSights, AreGroundConstructors}
use Rattle.kk_mono.specs.KeyTrees.{KeyTree, keys_in, viewed, viewed_constructor, AreTakenWithin}
use Rattle.kk_mono.specs.Siblings.{HaveSiblings}
use Rattle.kk_mono.specs.Tables.{AreNumbers}
use Rattle.kk_mono.specs.Views.{types_in}

-- the instances that are known where the first so many of them have been looked at
pub record Searched (main : ℕ) (typings : List (List Choice)) (known : List InstanceTree) (looked : ℕ) : Type 0 where
  pub others : List InstanceTree
  pub begins : known ≡ main_instance main ∷ others
  pub in_order : FirstSights (main_instance main ∷ []) (flat_map (called_in typings) (take looked known)) others
  pub each : All (IsInstance main typings) known
  pub within : looked ≤ length known

-- the calls of a typing are of functions below a number
abbrev pub AreCallsBelow : ℕ → List Choice → Type 0
AreCallsBelow count [] = Unit {0}
AreCallsBelow count (constructing by at ∷ choices) = AreCallsBelow count choices
AreCallsBelow count (calling function at ∷ choices) = (function < count) × AreCallsBelow count choices
AreCallsBelow count (holding of ∷ choices) = AreCallsBelow count choices

-- the constructors of a typing are below a number
abbrev pub AreConstructionsBelow : ℕ → List Choice → Type 0
AreConstructionsBelow count [] = Unit {0}
AreConstructionsBelow count (constructing by at ∷ choices) = (by < count) × AreConstructionsBelow count choices
AreConstructionsBelow count (calling function at ∷ choices) = AreConstructionsBelow count choices
AreConstructionsBelow count (holding of ∷ choices) = AreConstructionsBelow count choices

-- each function has its typing, each call is of one of the functions, and each constructor is one of the program's
pub record IsComplete (typed : Typed) : Type 0 where
  pub as_many : length typed.bodies.items ≡ length typed.program.functions.items
  pub calls : (f : ℕ) → AreCallsBelow (length typed.program.functions.items) (slice_index_or (typings_of typed) f [])
  pub constructions : (f : ℕ) → AreConstructionsBelow (length typed.program.constructors.items) (slice_index_or (typings_of typed) f [])

-- a function by its number
abbrev pub function_in : ProgramTree → ℕ → FunctionTree
function_in program number = slice_index_or program.functions number no_function

-- what has been seen in an instance: the types of its function and of its choices, the instances that it calls, and the ground
-- constructors that it uses
pub record IsLooked (program : ProgramTree) (typings : List (List Choice)) (types : List TypeTree) (known : List InstanceTree) (used : List GroundConstructorTree) (instance : InstanceTree) (looked : Looked) : Type 0 where
  pub parameters : AreNumbers types looked.parameters.items (map (put (type_at instance.at)) (function_in program instance.function).parameters)
  pub result_within : looked.result < length types
  pub result_is : type_at types looked.result ≡ put (type_at instance.at) (function_in program instance.function).result
  pub taken_within : All (AreTakenWithin types) looked.taken.items
  pub taken : map (choice_of types) looked.taken.items ≡ map (put_choice (type_at instance.at)) (slice_index_or typings instance.function [])
  pub called : map (slice_get known) looked.called.items ≡ map Some (called_in typings instance)
  pub constructed : map (slice_get used) looked.constructed.items ≡ map Some (constructed_in typings instance)

-- each instance that has been looked at, in their order
abbrev pub AreLooked : ProgramTree → List (List Choice) → List TypeTree → List InstanceTree → List GroundConstructorTree → List Looked → Type 0
AreLooked program typings types known used looked =
    (i : ℕ) (d : Looked) → i < length looked → IsLooked program typings types known used (slice_index_or known i (main_instance 0)) (slice_index_or looked i d)

abbrev pub known_in : Found → List InstanceTree
known_in found = map (viewed (types_in found.types)) (keys_in found.keys)

abbrev pub used_in : Found → List GroundConstructorTree
used_in found = map (viewed_constructor (types_in found.types)) (keys_in found.constructors)

-- all numbers of keys are those of types
abbrev pub AreKeysWithin : List TypeTree → List KeyTree → Type 0
AreKeysWithin types keys = All (λ (key : KeyTree). All (λ n. n < length types) key.at) keys

-- how far the search has come
pub record IsSearching (typed : Typed) (found : Found) : Type 0 where
  pub within : AreKeysWithin (types_in found.types) (keys_in found.keys)
  pub searched : Searched typed.program.main (typings_of typed) (known_in found) (length found.looked.items)
  pub looked : AreLooked (program_tree typed.program) (typings_of typed) (types_in found.types) (known_in found) (used_in found) found.looked.items
  pub used_within : AreKeysWithin (types_in found.types) (keys_in found.constructors)
  pub below : All (λ (key : KeyTree). key.number < length typed.program.constructors.items) (keys_in found.constructors)
  pub whole : HaveSiblings (map constructor_tree typed.program.constructors.items) (keys_in found.constructors)
  pub used : AreGroundConstructors (program_tree typed.program) (typings_of typed) (take (length found.looked.items) (known_in found)) (used_in found)

-- it ends with all instances, or with more than are allowed
pub record HasSearched (typed : Typed) (found : Found) : Type 0 where
  pub searching : IsSearching typed found
  pub ends : (length (known_in found) ≤ length found.looked.items) ⊎ (greatest_of Instances < length (known_in found))
