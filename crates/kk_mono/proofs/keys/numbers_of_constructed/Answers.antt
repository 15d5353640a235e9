use Rattle.std.proofs.Common.{map, take}
use Rattle.kk_syntax.specs.Programs.{constructor_tree}
use Rattle.kk_mono.specs.KeyTrees.{keys_in, keys_constructed}
use Rattle.kk_mono.proofs.SearchKeys.{calling_begins, construction_pushed, no_construction_pushed, whole_so_far, construction_below}
use Rattle.kk_mono.proofs.keys.numbers_of_constructed.Goals as goal

pub loop-choice-init : goal.loop-choice-init
loop-choice-init c = calling_begins (keys_in c.args.known.now) c.new-numbers.result.items c.new-numbers.ensures.items

pub loop-choice-preserved-in_default : goal.loop-choice-preserved-in_default
loop-choice-preserved-in_default c =
    no_construction_pushed (map constructor_tree c.args.constructors.now) (keys_in c.args.known.now)
    (keys_in c.loop-choice.known) c.loop-choice.numbers.items c.args.taken.now c.loop-choice.choice-index c.choice-item.result
    c.loop-choice-test.true c.choice-item.is c.in_default.not-Construct c.loop-choice.invariant

pub number_of-requires-clause-whole : goal.number_of-requires-clause-whole
number_of-requires-clause-whole c =
    whole_so_far (map constructor_tree c.args.constructors.now) (keys_in c.args.known.now) (keys_in c.loop-choice.known)
    (keys_constructed (take c.loop-choice.choice-index c.args.taken.now))
    c.requires.whole c.loop-choice.invariant.sights

pub number_of-requires-clause-there : goal.number_of-requires-clause-there
number_of-requires-clause-there c =
    construction_below c.args.taken.now c.loop-choice.choice-index c.choice-item.result c.in-Construct.constructor
    c.in-Construct.at _
    c.loop-choice-test.true c.choice-item.is c.in-Construct.is c.requires.there

pub loop-choice-preserved : goal.loop-choice-preserved
loop-choice-preserved c =
    construction_pushed (map constructor_tree c.args.constructors.now) (keys_in c.args.known.now) (keys_in c.loop-choice.known)
    (keys_in c.number_of.new.known) c.loop-choice.numbers.items c.push.new.self.items c.args.taken.now
    c.loop-choice.choice-index c.choice-item.result c.in-Construct.constructor c.in-Construct.at c.deref.result.now
    c.in_ok-number_of.field-0
    c.loop-choice-test.true c.choice-item.is c.in-Construct.is c.deref.ensures.value c.loop-choice.invariant
    c.in_ok-number_of.ensures.sees c.in_ok-number_of.ensures.is c.in_ok-push.ensures.items
