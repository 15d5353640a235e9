-- The numbers of types tell the types apart, and ground constructors make values of declared types that are there.
use Rattle.std.proofs.Common.{◌≡◌, ◌<◌, true, List, [], ◌∷◌, length, All, ap, arith}
use Rattle.std.specs.List.{AllZip}
use Rattle.std.proofs.lemmas.List.Elements.{All-cons}
use Rattle.kk_syntax.specs.declared.ground.GroundConstructor.{GroundConstructor}
use Rattle.kk_syntax.specs.GroundTypes.{is_declared, AreNumbered}
use Rattle.kk_syntax.specs.Programs.{ConstructorTree}
use Rattle.kk_syntax.specs.Types.{type_at}
use Rattle.kk_syntax.proofs.GroundTypes.{all_apart}
use Rattle.kk_mono.specs.BuiltInstances.{IsMadeOf}
use Rattle.kk_mono.specs.declared.types.Types.{Types}
use Rattle.kk_mono.specs.KeyTrees.{KeyTree}
use Rattle.kk_mono.specs.Views.{types_in}

module _ (table : Types) (constructors : List ConstructorTree) where
  all_there : (keys : List KeyTree) (made : List GroundConstructor) → AllZip (IsMadeOf constructors (types_in table)) keys made
      → All (λ (one : GroundConstructor). one.of_type < length (types_in table)) made
  all_there [] [] are = λ i d less. absurd (omega (arith, less))
  all_there [] (one ∷ made) are = absurd are
  all_there (key ∷ keys) [] are = λ i d less. absurd (omega (arith, less))
  all_there (key ∷ keys) (one ∷ made) are =
      All-cons (λ (one : GroundConstructor). one.of_type < length (types_in table)) one made are.0.of_type_within
      (all_there keys made are.1)

  all_declared : (keys : List KeyTree) (made : List GroundConstructor) → AllZip (IsMadeOf constructors (types_in table)) keys made
      → All (λ (one : GroundConstructor). is_declared (type_at (types_in table) one.of_type) ≡ true) made
  all_declared [] [] are = λ i d less. absurd (omega (arith, less))
  all_declared [] (one ∷ made) are = absurd are
  all_declared (key ∷ keys) [] are = λ i d less. absurd (omega (arith, less))
  all_declared (key ∷ keys) (one ∷ made) are =
      All-cons (λ (one : GroundConstructor). is_declared (type_at (types_in table) one.of_type) ≡ true) one made
      (ap is_declared are.0.of_type_is) (all_declared keys made are.1)

  pub are_numbered : (keys : List KeyTree) (made : List GroundConstructor) → AllZip (IsMadeOf constructors (types_in table)) keys made
      → AreNumbered table.nodes.keys made
  are_numbered keys made are = record {
    once = all_apart (types_in table) table.once;
    there = all_there keys made are;
    declared = all_declared keys made are;
  }
