-- Instances are within the limits by their type.
use Rattle.std.proofs.Common.{◌≡◌, ◌≤◌, ℕ, zero, suc, List, [], ◌∷◌, length, map, refl, arith}
use Rattle.std.specs.Prelude.{All, sum}
use Rattle.std.proofs.lemmas.List.{length-map}
use Rattle.std.proofs.lemmas.List.Sums.{sum_by-cons}
use Rattle.kk_core.specs.Sizes.{most_parameters, most_nodes}
use Rattle.kk_syntax.specs.declared.ground.Ground.{Ground}
use Rattle.kk_syntax.specs.declared.ground.Instance.{Instance}
use Rattle.kk_syntax.specs.GroundLimits.{nodes_of_instance}
use Rattle.kk_syntax.specs.GroundPrograms.{ground_types, instance_tree, ground_program}
use Rattle.kk_syntax.specs.Types.{TypeTree, type_at}
use Rattle.kk_norm.specs.Normal.{AreWithin, all_nodes, IsWithin}

module _ (types : List TypeTree) where
  are_within : (instances : List Instance) → All (λ (i : Instance). length i.parameters.items ≤ most_parameters) instances
      → All (λ (i : Instance). nodes_of_instance i ≤ most_nodes) instances → AreWithin (map (instance_tree types) instances)
  are_within [] few small = tt
  are_within (x ∷ xs) few small =
      let many = length-map x.parameters.items (type_at types) in
      let here = few zero x (omega arith) in (
        record { parameters = omega (arith, many, here); nodes = small zero x (omega arith) },
        are_within xs (λ k d lt. few (suc k) d (omega (arith, lt))) (λ k d lt. small (suc k) d (omega (arith, lt))),
      )

  all_summed : (instances : List Instance) → all_nodes (map (instance_tree types) instances) ≡ sum (map nodes_of_instance instances)
  all_summed [] = refl
  all_summed (x ∷ xs) =
      let rest = all_summed xs in
      let whole = sum_by-cons (λ (n : ℕ). n) (nodes_of_instance x) (map nodes_of_instance xs) in
      omega (arith, rest, whole)

pub instances_are_within : (given : Ground) → IsWithin (ground_program given)
instances_are_within given =
    let types = ground_types given.types.items in
    let limits = given.within in
    let many = length-map given.instances.items (instance_tree types) in
    let few = limits.few in
    let all = limits.all_nodes in
    record {
      main = refl;
      functions = are_within types given.instances.items limits.parameters limits.nodes;
      few = omega (arith, many, few);
      all = omega (arith, all, all_summed types given.instances.items);
    }
