use Rattle.std.proofs.Common.{◌<◌, length, map, All, refl, sym, subst}
use Rattle.kk_syntax.specs.TypedPrograms.{choice_of, node_types}
use Rattle.kk_mono.specs.KeyTrees.{KeyTree, keys_in, keys_constructed}
use Rattle.kk_mono.specs.InstanceSearch.{AreConstructionsBelow}
use Rattle.kk_mono.specs.Views.{types_in}
use Rattle.kk_mono.proofs.InstanceUses.{looks_from, uses_from, constructed_below}
use Rattle.kk_mono.proofs.search.looked_at.Goals as goal

pub returns-clause-looks : goal.returns-clause-looks
returns-clause-looks c =
    looks_from c.args.types.now c.numbers_of_nodes.new.types (types_in c.numbers_of_written.new.types) (types_in c.number_of_written.new.types) c.args.at.now (keys_in c.args.keys.now) (keys_in c.numbers_of_called.new.keys) c.args.function.now c.args.body.now
    c.in_ok-numbers.numbers.items c.deref-2.result.now c.deref.result.now c.deref-3.result.now c.deref-4.result.now c.deref-6.result.now c.in_ok-taken.taken c.in_ok-called.called c.in_ok-constructed.constructed c.in_ok-parameters.parameters c.in_ok-result.result c.requires.within
    c.numbers_of_nodes.ensures.grows c.in_ok-numbers.ensures.are c.deref.ensures.value c.deref-2.ensures.value c.deref-3.ensures.value c.in_ok-taken.ensures c.deref-4.ensures.value c.in_ok-called.ensures.sees c.in_ok-called.ensures.are
    c.deref-6.ensures.value c.numbers_of_written.ensures.grows c.in_ok-parameters.ensures.are c.number_of_written.ensures.grows c.in_ok-result.ensures.within c.in_ok-result.ensures.is

pub returns-clause-uses : goal.returns-clause-uses
returns-clause-uses c =
    uses_from c.args.constructors.now c.args.constructors.now (keys_in c.args.known.now) (keys_in c.numbers_of_constructed.new.known)
    (record { parameters = c.in_ok-parameters.parameters; result = c.in_ok-result.result; taken = c.in_ok-taken.taken; called = c.in_ok-called.called; constructed = c.in_ok-constructed.constructed })
    c.deref-5.result.now refl c.deref-5.ensures.value c.in_ok-constructed.ensures.sees c.in_ok-constructed.ensures.are

pub numbers_of_constructed-requires-clause-whole : goal.numbers_of_constructed-requires-clause-whole
numbers_of_constructed-requires-clause-whole c = c.requires.whole

pub numbers_of_constructed-requires-clause-there : goal.numbers_of_constructed-requires-clause-there
numbers_of_constructed-requires-clause-there c =
    let count = length c.args.constructors.now in
    let types = node_types c.args.body.now.nodes.items in
    subst (λ ms. All (λ (key : KeyTree). key.number < count) (keys_constructed ms)) (sym c.deref-5.ensures.value)
    (constructed_below count types c.deref-2.result.now c.deref-3.result.now c.in_ok-taken.taken.items c.in_ok-taken.ensures
    (subst (λ ts. AreConstructionsBelow count (map (choice_of types) ts)) (sym c.deref-3.ensures.value) c.requires.there))
