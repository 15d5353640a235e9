use Rattle.std.proofs.Common.{map, subst}
use Rattle.std.specs.Prelude.{[]}
use Rattle.kk_syntax.specs.Programs.{constructor_tree}
use Rattle.kk_mono.specs.KeyTrees.{Sees, keys_in}
use Rattle.kk_mono.specs.Siblings.{keys_of}
use Rattle.kk_mono.proofs.Members.{keys_once}
use Rattle.kk_mono.proofs.NewKeys.{sees_first}
use Rattle.kk_mono.proofs.keys.constructors_of_bool.Goals as goal

pub returns : goal.returns
returns c =
    let bools = keys_of (map constructor_tree c.args.constructors.now) 0 [] in
    sees_first (keys_in c.add_type.new.known) bools (keys_once (map constructor_tree c.args.constructors.now) 0 [])
    (subst (λ ks. Sees ks (keys_in c.add_type.new.known) bools) c.new-known.ensures c.in_ok-add_type.ensures)
