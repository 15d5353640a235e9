-- What is seen in an instance, by the numbers of types, of instances and of ground constructors.
use Rattle.std.specs.Prelude.{◌≡◌, ℕ, ◌<◌, List, length, map, flat_map, All, Some, slice_get}
use Rattle.kk_syntax.specs.declared.program.Fun.{Fun}
use Rattle.kk_syntax.specs.declared.typed.BodyTypes.{BodyTypes}
use Rattle.kk_syntax.specs.Programs.{ConstructorTree}
use Rattle.kk_syntax.specs.TypedPrograms.{choice_of, typing_of}
use Rattle.kk_syntax.specs.Types.{TypeTree, type_tree, put, type_at}
use Rattle.kk_syntax.specs.Typing.{put_choice}
use Rattle.kk_mono.specs.declared.search.Looked.{Looked}
use Rattle.kk_mono.specs.KeyTrees.{KeyTree, Sees, keys_called, keys_constructed, AreTakenWithin}
use Rattle.kk_mono.specs.Siblings.{siblings}
use Rattle.kk_mono.specs.Tables.{Grows, AreNumbers}

-- This is seen in a function and its body, at the types of these numbers. Other types and other instances are known then.
pub record Looks (before after : List TypeTree) (at : List ℕ) (keys_before keys_after : List KeyTree) (function : Fun) (body : BodyTypes) (looked : Looked) : Type 0 where
  pub grows : Grows before after
  pub parameters : AreNumbers after looked.parameters.items (map (put (type_at (map (type_at before) at))) (map type_tree function.parameters.items))
  pub result_within : looked.result < length after
  pub result_is : type_at after looked.result ≡ put (type_at (map (type_at before) at)) (type_tree function.result)
  pub taken_within : All (AreTakenWithin after) looked.taken.items
  pub taken : map (choice_of after) looked.taken.items ≡ map (put_choice (type_at (map (type_at before) at))) (typing_of body)
  pub sights : Sees keys_before keys_after (keys_called looked.taken.items)
  pub called : map (slice_get keys_after) looked.called.items ≡ map Some (keys_called looked.taken.items)

-- The ground constructors of an instance are known then, and the others of their types.
pub record Uses (constructors : List ConstructorTree) (known_before known_after : List KeyTree) (looked : Looked) : Type 0 where
  pub sights : Sees known_before known_after (flat_map (siblings constructors) (keys_constructed looked.taken.items))
  pub constructed : map (slice_get known_after) looked.constructed.items ≡ map Some (keys_constructed looked.taken.items)
