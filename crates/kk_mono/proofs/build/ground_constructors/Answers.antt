use Rattle.std.proofs.Common.{◌<◌, length, map, subst}
use Rattle.std.proofs.lemmas.Option.{slice_get_within, get_or_from_slice_get}
use Rattle.kk_syntax.specs.Programs.{constructor_tree}
use Rattle.kk_mono.specs.KeyTrees.{KeyTree, key_tree, keys_in}
use Rattle.kk_mono.specs.Views.{types_in}
use Rattle.kk_mono.proofs.GroundConstructors.{made_of, made_more}
use Rattle.kk_mono.proofs.SearchKeys.{IsKeyWithin}
use Rattle.kk_mono.proofs.TypeNumbers.{grows_on, within_grown}
use Rattle.kk_mono.proofs.build.ground_constructors.Goals as goal

pub ground_constructor-requires : goal.ground_constructor-requires
ground_constructor-requires c =
    let key = key_tree c.get-key.result.now in
    let keys = keys_in c.args.known.now in
    let lt = slice_get_within keys c.loop-number.number key c.get-key.ensures in
    within_grown (types_in c.args.types.now) (types_in c.loop-number.types) key.at
    (subst (IsKeyWithin (types_in c.args.types.now)) (get_or_from_slice_get keys c.loop-number.number key key c.get-key.ensures)
    (c.requires.types c.loop-number.number key lt)) c.loop-number.invariant.grows

pub loop-number-preserved : goal.loop-number-preserved
loop-number-preserved c =
    let cs = map constructor_tree c.args.constructors.now in
    let key = key_tree c.get-key.result.now in
    let keys = keys_in c.args.known.now in
    let lt = slice_get_within keys c.loop-number.number key c.get-key.ensures in
    let here = get_or_from_slice_get keys c.loop-number.number key key c.get-key.ensures in
    let below : key.number < length c.args.constructors.now =
    subst (λ (k : KeyTree). k.number < length c.args.constructors.now) here (c.requires.constructors c.loop-number.number key lt) in
    let after = types_in c.ground_constructor.new.types in
    record {
      grows = grows_on (types_in c.args.types.now)
          (types_in c.loop-number.types) after c.loop-number.invariant.grows c.ground_constructor.ensures.grows;
      are = made_more cs (types_in c.args.types.now)
          (types_in c.loop-number.types) after keys c.loop-number.made.items c.push.new.self.items c.loop-number.number key
          c.in_ok-ground_constructor.field-0
          c.loop-number.invariant.grows c.ground_constructor.ensures.grows c.requires.types c.get-key.ensures
          c.loop-number.invariant.are
          (made_of c.args.constructors.now c.in_ok-places.places.items after key c.index-constructors-place.result
          c.index.result.now c.in_ok-ground_constructor.field-0
          below c.in_ok-places.ensures.as_many c.index-constructors-place.is c.index.ensures c.in_ok-places.ensures.are
          c.in_ok-ground_constructor.ensures.is)
          c.in_ok-push.ensures.items;
    }
