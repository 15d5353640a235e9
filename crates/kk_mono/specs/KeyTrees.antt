-- Instances and ground constructors by the numbers of their types.
use Rattle.std.specs.Prelude.{◌≡◌, ℕ, ◌<◌, List, [], ◌∷◌, ◌++◌, length, map, All}
use Rattle.kk_syntax.specs.declared.typed.Taken.{Taken}
use Rattle.kk_syntax.specs.declared.typed.Taken.TheVariants.{Construct, Call, Value}
use Rattle.kk_syntax.specs.Types.{TypeTree, type_at}
use Rattle.kk_mono.specs.declared.keys.Key.{Key}
use Rattle.kk_mono.specs.declared.keys.Keys.{Keys}
use Rattle.kk_mono.specs.Instances.{InstanceTree, GroundConstructorTree, FirstSights}

-- a function or a constructor by its number, and the numbers of the types that stand for its type variables
pub record KeyTree : Type 0 where
  pub number : ℕ
  pub at : List ℕ

abbrev pub key_tree : Key → KeyTree
key_tree key = record { number = key.number; at = key.arguments.items }

abbrev pub keys_in : Keys → List KeyTree
keys_in table = map key_tree table.keys.keys

-- the instance, and the ground constructor, by the types of a table
abbrev pub viewed : List TypeTree → KeyTree → InstanceTree
viewed types key = record { function = key.number; at = map (type_at types) key.at }

abbrev pub viewed_constructor : List TypeTree → KeyTree → GroundConstructorTree
viewed_constructor types key = record { constructor = key.number; at = map (type_at types) key.at }

-- the instances that are called, and the ground constructors that are used, where these types are taken
abbrev pub keys_called : List Taken → List KeyTree
keys_called [] = []
keys_called (Construct by at ∷ taken) = keys_called taken
keys_called (Call function at ∷ taken) = record { number = function; at = at.items } ∷ keys_called taken
keys_called (Value of ∷ taken) = keys_called taken

abbrev pub keys_constructed : List Taken → List KeyTree
keys_constructed [] = []
keys_constructed (Construct by at ∷ taken) = record { number = by; at = at.items } ∷ keys_constructed taken
keys_constructed (Call function at ∷ taken) = keys_constructed taken
keys_constructed (Value of ∷ taken) = keys_constructed taken

-- keys are asked for, and become known in the order of first sight
abbrev pub Sees : List KeyTree → List KeyTree → List KeyTree → Type 0
Sees before after asked = (new : List KeyTree) × FirstSights before asked new × (after ≡ before ++ new)

-- all numbers are those of types
abbrev pub AreTakenWithin : List TypeTree → Taken → Type 0
AreTakenWithin types (Construct by at) = All (λ n. n < length types) at.items
AreTakenWithin types (Call function at) = All (λ n. n < length types) at.items
AreTakenWithin types (Value of) = of < length types
