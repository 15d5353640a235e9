use Rattle.std.proofs.Common.{List, ℕ, map, subst, arith}
use Rattle.std.specs.Prelude.{OnOk}
use Rattle.std.proofs.lemmas.List.{length-map}
use Rattle.kk_syntax.specs.Programs.{constructor_tree}
use Rattle.kk_mono.specs.KeyTrees.{KeyTree, Sees, keys_in}
use Rattle.kk_mono.specs.Siblings.{siblings}
use Rattle.kk_mono.proofs.NewKeys.{sees_itself, on_ok}
use Rattle.kk_mono.proofs.keys.number_of.Goals as goal

pub returns-clause-sees : goal.returns-clause-sees
returns-clause-sees c =
    let cs = map constructor_tree c.args.constructors.now in
    let key : KeyTree = record { number = c.args.constructor; at = c.in_ok-from_slice.field-0.items } in
    let long = length-map c.args.constructors.now constructor_tree in
    subst (λ (at : List ℕ). OnOk c.number.result (Sees (keys_in c.args.known.now) (keys_in c.number.new.self)
    (siblings cs (record { number = c.args.constructor; at = at }))))
    c.in_ok-from_slice.ensures.items
    (on_ok c.number.result c.number.ensures.sees
    (sees_itself cs (keys_in c.args.known.now) (keys_in c.add_siblings.new.known) (keys_in c.number.new.self) key
    (let lt = c.requires.there in omega (arith, long, lt)) c.in_ok-add_siblings.ensures))
